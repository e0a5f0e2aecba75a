use Rattle.std.proofs.Common.{◌≡◌, ◌∙◌, rules, SFits, w64, to_z-of_z}
use Rattle.flow_meaning.specs.Operators.{int_text}
use Rattle.app_eval.proofs.Decimals.{int_text_bytes}
use Rattle.app_eval.proofs.numbers.decimal.Goals as goal

pub of-requires : goal.of-requires
of-requires c =
    let f : SFits w64 c.args.n = search rules in
    let e : c.as_str.result.now ≡ int_text c.args.n = simp to_z-of_z at (c.as_str.ensures.value ∙ c.in_ok-digits.ensures.ok) in
    rw e (int_text_bytes c.args.n (search rules))
