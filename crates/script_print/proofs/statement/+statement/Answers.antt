use Rattle.std.proofs.Common.{◌≡◌, ℕ, List, [], ◌∷◌, ◌++◌, Option, Some, codes, append_assoc, refl}
use Rattle.std.proofs.lemmas.Result.{on_ok_weaker}
use Rattle.script_tree.specs.Canonical as canonical
use Rattle.script_tree.specs.Folds.{fold_block, fold_statement}
use Rattle.script_tree.specs.declared.tree.Block.{Block}
use Rattle.script_tree.specs.declared.tree.Expr.{Expr}
use Rattle.script_tree.specs.declared.tree.Statement.TheOpen.{Statement-F}
use Rattle.script_tree.specs.declared.tree.Statement.TheVariants.{If, rolls-If}
use Rattle.script_tree.specs.declared.tree.Statement.{Statement, fold-roll-Statement}
use Rattle.script_print.proofs.statement.+statement.Goals as goal

if_else : (statement : Statement) (e : Expr) (block : Block) (rest : Option Block) (other : Block) (depth : ℕ)
    → statement ≡ If e block rest → rest ≡ Some other
    → fold_statement canonical.block_lines statement depth ≡ canonical.statement_lines (Statement-F.If e (canonical.block block) (Some (canonical.block other))) depth
unfolding fold_block fold_statement
if_else statement e block rest other depth is some = rw (is, some, ← rolls-If e block (Some other), fold-roll-Statement) refl

joined : (old i x f s : List ℕ)
    → ((old ++ i ++ codes "if " ++ x) ++ codes " " ++ f ++ codes " else") ++ codes " " ++ s ++ 10 ∷ [] ≡ old ++ (i ++ ((codes "if " ++ x) ++ (codes " " ++ ((f ++ (codes " else " ++ s)) ++ 10 ∷ []))))
joined old i x f s = simp append_assoc refl

written : (old after_if after_then new : List ℕ) (e : Expr) (b block o other : Block) (depth : ℕ) → b ≡ block → o ≡ other
    → after_if ≡ old ++ canonical.indent depth ++ codes "if " ++ canonical.expr e
    → after_then ≡ after_if ++ codes " " ++ canonical.block b depth ++ codes " else"
    → new ≡ after_then ++ codes " " ++ canonical.block o depth ++ 10 ∷ []
    → new ≡ old ++ canonical.statement_lines (Statement-F.If e (canonical.block block) (Some (canonical.block other))) depth
written old after_if after_then new e b block o other depth is same h k l = rw (l, k, h, is, same) (joined old (canonical.indent depth) (canonical.expr e) (canonical.block block depth) (canonical.block other depth))

pub write_statement-returns-in_ok-write_then-in-Some : goal.write_statement-returns-in_ok-write_then-in-Some
unfolding fold_block fold_statement
write_statement-returns-in_ok-write_then-in-Some t c =
    rw (if_else _ _ _ _ _ c.args.indent.now c.in-If.is c.in-Some.is)
    (on_ok_weaker _
    (written _ _ _ _ c.in-If.e _ c.in-If.block _ c.in-Some.other c.args.indent.now c.get-in-Some.ensures c.get-in-Some-2.ensures c.in_ok-write_if-in-If.ensures c.in_ok-write_then-in-Some.ensures)
    c.write_body-in-Some.ensures)
