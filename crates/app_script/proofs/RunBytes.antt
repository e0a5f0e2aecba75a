-- A run of bytes of names may stand in a text.
use Rattle.std.proofs.Common.{◌≡◌, ℕ, ◌<◌, true, take, get_or, All, sym, subst, arith}
use Rattle.std.proofs.lemmas.Bool.Decides.{nat_tests}
use Rattle.std.proofs.lemmas.List.{get_or-take}
use Rattle.std.proofs.lemmas.List.Folds.{length-prefix_len}
use Rattle.std.proofs.lemmas.List.Sums.{prefix_len_passes}
use Rattle.std.specs.List.{prefix_len}
use Rattle.flow_base.specs.TextBytes.{IsTextByte}
use Rattle.script_tree.specs.Lexing.{Text, is_in_name}

text_byte : (b : ℕ) → is_in_name b ≡ true → IsTextByte b
text_byte b h = grind (arith, nat_tests)

pub run_bytes : (text : Text) → All IsTextByte (take (prefix_len is_in_name text) text)
run_bytes text k d h =
    let size = length-prefix_len is_in_name text in
    let short : k < prefix_len is_in_name text = omega arith in
    let same : get_or (take (prefix_len is_in_name text) text) k d ≡ get_or text k d = get_or-take (prefix_len is_in_name text) text k d short in
    subst IsTextByte (sym same) (text_byte (get_or text k d) (prefix_len_passes is_in_name text k d short))
