-- The marks of statements with blocks.
use Rattle.std.proofs.Common.{◌≡◌, [], ◌∷◌, ◌++◌, Option, Some, None, refl, ap, sym, ◌∙◌}
use Rattle.script_tree.specs.Folds.{fold_block, fold_statement}
use Rattle.script_tree.specs.Marks as marks
use Rattle.script_tree.specs.Marks.{Name, Marks, Other, Declares}
use Rattle.script_tree.specs.declared.tree.Block.{Block}
use Rattle.script_tree.specs.declared.tree.Expr.{Expr}
use Rattle.script_tree.specs.declared.tree.Statement.{Statement, fold-roll-Statement}
use Rattle.script_tree.specs.declared.tree.Statement.TheVariants.{While, rolls-While, For, rolls-For, If, rolls-If}
use Rattle.app_check.specs.Seeing.{Seen, seen}
use Rattle.app_check.proofs.Seeing.{seen_none, seen_one, seen_more}

while_marks : (statement : Statement) (e : Expr) (b : Block) → statement ≡ While e b → fold_statement marks.block_marks statement [] ≡ Other ∷ marks.expr e ++ marks.block b
unfolding fold_block fold_statement
while_marks statement e b is = rw (is, ← rolls-While e b, fold-roll-Statement) refl

for_marks : (statement : Statement) (name : Name) (e : Expr) (b : Block) → statement ≡ For name e b
    → fold_statement marks.block_marks statement [] ≡ Other ∷ Declares name ∷ Other ∷ marks.expr e ++ fold_block marks.block_marks b (name ∷ [])
unfolding fold_block fold_statement
for_marks statement name e b is = rw (is, ← rolls-For name e b, fold-roll-Statement) refl

if_marks : (statement : Statement) (e : Expr) (b : Block) (rest : Option Block) → statement ≡ If e b rest → rest ≡ None
    → fold_statement marks.block_marks statement [] ≡ Other ∷ marks.expr e ++ (marks.block b ++ [])
unfolding fold_block fold_statement
if_marks statement e b rest is none = rw (is, none, ← rolls-If e b None, fold-roll-Statement) refl

else_marks : (statement : Statement) (e : Expr) (b other : Block) (rest : Option Block) → statement ≡ If e b rest → rest ≡ Some other
    → fold_statement marks.block_marks statement [] ≡ Other ∷ marks.expr e ++ (marks.block b ++ (Other ∷ marks.block other))
unfolding fold_block fold_statement
else_marks statement e b other rest is some = rw (is, some, ← rolls-If e b (Some other), fold-roll-Statement) refl

pub while_seen : (statement : Statement) (e : Expr) (b shown : Block) (z between new : Seen) → statement ≡ While e b → shown ≡ b
    → between ≡ seen z (Other ∷ marks.expr e) → new ≡ seen between (marks.block shown) → new ≡ seen z (fold_statement marks.block_marks statement [])
while_seen statement e b shown z between new is same first next =
    rw (next, same, first) (sym (ap (seen z) (while_marks statement e b is) ∙ seen_more z (Other ∷ marks.expr e) (marks.block b)))

pub for_seen : (statement : Statement) (name : Name) (e : Expr) (b shown : Block) (z between new : Seen) → statement ≡ For name e b → shown ≡ b
    → between ≡ seen z (Other ∷ Declares name ∷ Other ∷ marks.expr e) → new ≡ seen between (fold_block marks.block_marks shown (name ∷ []))
    → new ≡ seen z (fold_statement marks.block_marks statement [])
for_seen statement name e b shown z between new is same first next =
    rw (next, same, first) (sym (ap (seen z) (for_marks statement name e b is) ∙ seen_more z (Other ∷ Declares name ∷ Other ∷ marks.expr e) (fold_block marks.block_marks b (name ∷ []))))

pub if_seen : (statement : Statement) (e : Expr) (b shown : Block) (rest : Option Block) (z between new : Seen) → statement ≡ If e b rest → rest ≡ None → shown ≡ b
    → between ≡ seen z (Other ∷ marks.expr e) → new ≡ seen between (marks.block shown) → new ≡ seen z (fold_statement marks.block_marks statement [])
if_seen statement e b shown rest z between new is none same first next =
    let head = Other ∷ marks.expr e in
    rw (next, same, first) (sym (ap (seen z) (if_marks statement e b rest is none) ∙ seen_more z head (marks.block b ++ []) ∙ seen_more (seen z head) (marks.block b) [] ∙ seen_none _))

else_after : (z : Seen) (ms ns : Marks) → seen (seen z (ms ++ Other ∷ [])) ns ≡ seen z (ms ++ (Other ∷ ns))
else_after z ms ns =
    ap (λ y. seen y ns) (seen_more z ms (Other ∷ []) ∙ seen_one (seen z ms) Other [] ∙ seen_none _) ∙ sym (seen_more z ms (Other ∷ ns) ∙ seen_one (seen z ms) Other ns)

pub else_seen : (statement : Statement) (e : Expr) (b other shown last : Block) (rest : Option Block) (z between behind new : Seen) → statement ≡ If e b rest → rest ≡ Some other → shown ≡ b → last ≡ other
    → between ≡ seen z (Other ∷ marks.expr e) → behind ≡ seen between (marks.block shown ++ Other ∷ []) → new ≡ seen behind (marks.block last)
    → new ≡ seen z (fold_statement marks.block_marks statement [])
else_seen statement e b other shown last rest z between behind new is some same same_last first next more =
    let head = Other ∷ marks.expr e in
    rw (more, next, first, same, same_last) (sym (ap (seen z) (else_marks statement e b other rest is some) ∙ seen_more z head (marks.block b ++ (Other ∷ marks.block other)) ∙ sym (else_after (seen z head) (marks.block b) (marks.block other))))
