-- Bytes and names at a place within their list.
use Rattle.std.proofs.Common.{◌≡◌, ℕ, zero, suc, ◌<◌, List, [], ◌∷◌, length, get_or, slice_get, slice_index_or, arith}
use Rattle.std.proofs.lemmas.Grind.{common_steps}
use Rattle.flow_base.specs.declared.value.Value.TheVariants as v
use Rattle.flow_meaning.specs.Act.{Give}
use Rattle.flow_meaning.specs.Operators.{Text, text_item}
use Rattle.flow_meaning.specs.Meaning.{name_at}

pub text_item_within : (t : Text) (k : ℕ) → k < length t → text_item (slice_get t k) ≡ Give (v.Text (get_or t k 0 ∷ []))
text_item_within [] k h = absurd (omega arith)
text_item_within (b ∷ t) zero h = grind (arith, common_steps)
text_item_within (b ∷ t) (suc k) h = text_item_within t k (omega arith)

pub name_within : (names : List Text) (k : ℕ) (d : Text) → k < length names → name_at names k ≡ slice_index_or names k d
name_within [] k d h = absurd (omega arith)
name_within (n ∷ ns) zero d h = grind (arith, common_steps)
name_within (n ∷ ns) (suc k) d h = name_within ns k d (omega arith)
