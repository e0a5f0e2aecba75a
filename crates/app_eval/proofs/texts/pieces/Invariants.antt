use Rattle.std.proofs.Common.{◌≡◌, ◌++◌, drop, map, nat_eq}
use Rattle.std.specs.List.{slice_split}
use Rattle.flow_base.specs.declared.value.Value.TheVariants as v
use Rattle.app_eval.specs.Splits.{onto_piece}
use Rattle.app_eval.proofs.texts.pieces.Given as goal

abbrev pub invariant-loop-byte : goal.invariant-loop-byte
invariant-loop-byte l = l.pieces ++ map v.Text (onto_piece l.piece (slice_split (λ c. nat_eq c l.separator) (drop l.byte-index l.text))) ≡ map v.Text (slice_split (λ c. nat_eq c l.separator) l.text)
