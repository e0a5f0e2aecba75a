-- The last of a list.
use Rattle.std.proofs.Common.{◌≡◌, refl, List, [], ◌∷◌, ◌++◌, Some}
use Rattle.script_tree.specs.declared.tree.Expr.{Expr}
use Rattle.parser_model.specs.declared.expression_state.Listing.{Listing}
use Rattle.parser_model.specs.declared.expression_state.OpenBracket.{OpenBracket}
use Rattle.parser_model.specs.declared.expression_state.OpenBracket.TheVariants as f
use Rattle.parser_model.specs.declared.expression_state.Closer.{Closer}
use Rattle.parser_model.specs.declared.expression_state.ExprNext.TheVariants.{Stop}
use Rattle.parser_model.specs.Reading.{split, empty}
use Rattle.parser_model.proofs.Steps.{split-snoc}

pub last_split : {A : Type 0} (xs : List A) (y : A) → split (xs ++ y ∷ []) ≡ Some (xs, y)
last_split xs y = split-snoc xs y

pub ruleset split_rules = (last_split)

pub empty_more : (c : Closer) (fs : List OpenBracket) (l : Listing) (es : List Expr) → (es ≡ [] → ⊥) → empty c (Some (fs, f.Listed l es)) ≡ Stop
empty_more c fs l [] not = absurd (not refl)
empty_more c fs l (e ∷ es) not = refl
