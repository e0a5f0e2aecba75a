-- The verdict of a machine on tokens with their places.
use Rattle.std.specs.Prelude.{ℕ, Bool, true, false, [], ◌∷◌, Option, Some, None, nat_lt}
use Rattle.script_tree.specs.declared.token.Token.{Token}
use Rattle.script_tree.specs.declared.fault.SyntaxFault.{SyntaxFault}
use Rattle.script_tree.specs.declared.fault.SyntaxFault.TheVariants.{Unexpected, TooDeep}
use Rattle.script_tree.specs.Grammar.{Tree, Placed, nesting_after, max_nesting}

-- a fault has its kind and its place
pub data Verdict : Type 0 where
  Fine : Tree → Verdict
  Refused : SyntaxFault → ℕ → Verdict

-- behind the last token, with the fault behind it
abbrev pub at_end : ℕ → Option (ℕ × SyntaxFault) → Option Tree → Verdict
at_end len (Some (place, kind)) r = Refused kind place
at_end len None (Some tree) = Fine tree
at_end len None None = Refused Unexpected len

abbrev pub judged : ℕ → Bool → Verdict → Verdict
judged at false go = go
judged at true go = Refused TooDeep at

abbrev pub after_step : {State : Type 0} → ℕ → Bool → (State → Verdict) → Option State → Verdict
after_step at deep go None = Refused Unexpected at
after_step at deep go (Some s) = judged at deep (go s)

module _ (State : Type 0) (step : State → Token → Option State) (ended : State → Option Tree) where
  -- the verdict on the tokens to come, in a state, with so many brackets open
  abbrev pub judge : ℕ → Option (ℕ × SyntaxFault) → Placed → ℕ → State → Verdict
  judge len fault [] depth s = at_end len fault (ended s)
  judge len fault (p ∷ rest) depth s = after_step p.0 (nat_lt max_nesting (nesting_after depth p.1)) (judge len fault rest (nesting_after depth p.1)) (step s p.1)
