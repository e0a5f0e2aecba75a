-- Names that are the same, one after another.
use Rattle.std.proofs.Common.{◌≡◌, ℕ, ◌+◌, ◌<◌, true, List, length, take, get_or, bytes_eq, sym, ◌∙◌, arith}
use Rattle.std.proofs.lemmas.List.{get_or_read, take_more_same}
use Rattle.std.proofs.lemmas.Slice.Eq.{bytes_eq-Decides}

pub names-more : (names others : List (List ℕ)) (i : ℕ) (n o : List ℕ) → i < length names → length names ≡ length others → n ≡ get_or names i n → o ≡ get_or others i o → bytes_eq n o ≡ true → take i names ≡ take i others → take (i + 1) names ≡ take (i + 1) others
names-more names others i n o within same at_names at_others is first =
    let equal : n ≡ o = (bytes_eq-Decides n o).0 is in
    take_more_same names others i n within (omega arith) first (sym at_names ∙ equal ∙ get_or_read others i o (omega arith) at_others n)
