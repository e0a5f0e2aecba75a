-- The empty text ends too early, at 0, and has no other fault.
use Rattle.std.proofs.Common.{◌≡◌, ℕ, List, [], ◌∷◌, ◌++◌, refl, sym, ap, inl, inr, arith, lit≤}
use Rattle.script_tree.specs.declared.token.Token.{Token}
use Rattle.script_tree.specs.declared.fault.SyntaxFault.{SyntaxFault}
use Rattle.script_tree.specs.declared.fault.SyntaxFault.TheVariants.{Unexpected}
use Rattle.script_tree.specs.Faults.{syntax_number}
use Rattle.script_tree.specs.declared.tree.Block.{roll-Block}
use Rattle.script_tree.specs.Spelling.{Tokens, script}
use Rattle.script_tree.specs.Lexing.{lex}
use Rattle.script_tree.specs.Grammar.{Tree, GoesOn, IsScript, At, IsFault, Faulty}

not_empty : {A : Type 0} (xs : List A) (y : A) (ys : List A) → [] ≡ xs ++ (y ∷ ys) → ⊥
not_empty [] y ys e = cc
not_empty (x ∷ xs) y ys e = cc

goes_on : GoesOn []
goes_on = let tree : Tree = ([], roll-Block (record { statements = [] })) in record { tree = tree; rest = script tree; is = refl }

no_script : IsScript [] → ⊥
no_script h = not_empty _ _ _ (sym h.is)

nowhere : {place : ℕ} {P : Tokens → Token → Type 0} → At (lex []) place P → ⊥
unfolding lex
nowhere {place} at = not_empty at.front (place, at.token) at.rest at.is

only_syntax : (kind : SyntaxFault) (place : ℕ) → Faulty [] kind place → (0 ≡ place) × (kind ≡ Unexpected)
unfolding lex
only_syntax kind place (inl e) = absurd (cc e)
only_syntax kind place (inr (inl (k, inl at))) = absurd (nowhere at)
only_syntax kind place (inr (inl (k, inr h))) = (sym h.0, k)
only_syntax kind place (inr (inr (k, at))) = absurd (nowhere at)

-- the empty text ends too early, and this is its fault
pub empty_fault : IsFault [] Unexpected 0
unfolding lex
empty_fault = inr (lit≤ tt, inr (inl (refl, inr (refl, refl, goes_on, no_script))), λ other at h. let e = only_syntax other at h in inr (e.0, omega (arith, ap syntax_number e.1)))
