-- The marks of variables and of built-ins.
use Rattle.std.proofs.Common.{◌≡◌, ℕ, List, [], ◌∷◌, length, map, refl, ap, sym, ◌∙◌}
use Rattle.std.proofs.lemmas.List.{length-map}
use Rattle.script_tree.specs.Folds.{fold_atom, fold_expr}
use Rattle.script_tree.specs.Marks as marks
use Rattle.script_tree.specs.Marks.{Name, Uses, Applies}
use Rattle.script_tree.specs.declared.tree.Atom.{Atom, fold-roll-Atom}
use Rattle.script_tree.specs.declared.tree.Atom.TheVariants.{Variable, rolls-Variable, BuiltIn, rolls-BuiltIn}
use Rattle.script_tree.specs.declared.tree.Expr.{Expr}
use Rattle.app_check.specs.Seeing.{Seen, see, seen}
use Rattle.app_check.proofs.Seeing.{seen_none, seen_one}

variable_marks : (e : Atom) (name : Name) → e ≡ Variable name → fold_atom marks.expr_marks e ≡ Uses name ∷ []
unfolding fold_atom
variable_marks e name is = rw (is, ← rolls-Variable name, fold-roll-Atom) refl

pub variable_seen : (e : Atom) (name : Name) (z new : Seen) → e ≡ Variable name → new ≡ see z (Uses name) → new ≡ seen z (fold_atom marks.expr_marks e)
variable_seen e name z new is h = h ∙ sym (ap (seen z) (variable_marks e name is) ∙ seen_one z (Uses name) [] ∙ seen_none (see z (Uses name)))

built_in_marks : (e : Atom) (name : Name) (arguments : List Expr) → e ≡ BuiltIn name arguments
    → fold_atom marks.expr_marks e ≡ Applies name (length (map marks.expr arguments)) ∷ marks.in_parens (marks.listed (map marks.expr arguments))
unfolding fold_atom fold_expr
built_in_marks e name arguments is = rw (is, ← rolls-BuiltIn name arguments, fold-roll-Atom) refl

pub built_in_seen : (e : Atom) (name : Name) (arguments shown : List Expr) (n : ℕ) (z between new : Seen) → e ≡ BuiltIn name arguments → n ≡ length arguments → shown ≡ arguments
    → between ≡ see z (Applies name n) → new ≡ seen between (marks.in_parens (marks.listed (map marks.expr shown))) → new ≡ seen z (fold_atom marks.expr_marks e)
built_in_seen e name arguments shown n z between new is count same first next =
    let whole = marks.in_parens (marks.listed (map marks.expr arguments)) in
    rw (next, same, first, count, ← length-map arguments marks.expr) (sym (ap (seen z) (built_in_marks e name arguments is) ∙ seen_one z _ whole))
