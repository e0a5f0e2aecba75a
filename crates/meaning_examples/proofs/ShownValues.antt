-- How values are shown.
use Rattle.std.proofs.Common.{◌≡◌, [], ◌∷◌, codes}
use Rattle.std.specs.Prelude.{pos}
use Rattle.std.specs.Fmt.{digits}
use Rattle.flow_base.specs.declared.value.Value.TheVariants as v
use Rattle.run_report.specs.Shown.{shown}
use Rattle.meaning_examples.proofs.ValueFolds.{value_folds}

pub shown-list : shown (v.List (v.Int (pos 10) ∷ v.Int (pos 26) ∷ [])) ≡ codes "[10, 26]"
unfolding digits
shown-list = simp value_folds

-- a newline is escaped
pub shown-file : shown (v.File (codes "n") (codes "c\n")) ≡ codes "file(\"n\", \"c\\n\")"
shown-file = simp value_folds

pub shown-future : shown (v.Future (2 ∷ 1 ∷ []) 0) ≡ codes "future 2.1"
unfolding digits
shown-future = simp value_folds

pub shown-output : shown (v.Output (2 ∷ 1 ∷ []) 0) ≡ codes "output 2.1 0"
unfolding digits
shown-output = simp value_folds
