-- Lists of different lengths don't match.
use Rattle.std.proofs.Common.{◌≡◌, false, List, length, map, sym, ◌∙◌}
use Rattle.std.proofs.lemmas.List.{length-map}
use Rattle.flow_base.specs.declared.value.Value.{Value}
use Rattle.flow_base.specs.Values.{all_match, same}
use Rattle.flow_base.proofs.Lengths.{as_many}

pub as_many_made : (f : Value → Value) (items others : List Value) → (length items ≡ length others → ⊥) → false ≡ all_match (map same (map f items)) others
as_many_made f items others differ = as_many (map f items) others (λ e. differ (sym (length-map items f) ∙ e))
