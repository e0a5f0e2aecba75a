-- Lines that are written.
use Rattle.std.proofs.Common.{◌≡◌, ℕ, ◌≤◌, Bool, List, ◌++◌, ap, sym, ◌∙◌, subst, arith, append_assoc}
use Rattle.flow_base.specs.Causes.{Rose}
use Rattle.flow_base.specs.Sink.{SinkState, AddsUnlessFailed}
use Rattle.parsl_engine.specs.declared.script.ScriptRefusal.{ScriptRefusal}
use Rattle.parsl_engine.specs.Course.{refusal_line}

first-kept : (a b c : ℕ) → b ≤ c → (Rose a c → ⊥) → Rose a b → ⊥
first-kept a b c le not_rose rose = not_rose (omega (arith, rose))

last-kept : (a b c : ℕ) → a ≤ b → (Rose a c → ⊥) → Rose b c → ⊥
last-kept a b c le not_rose rose = not_rose (omega (arith, rose))

pub pieces-told : (tells : Bool) (s t u w : SinkState) (x y z : List ℕ) → s.faults ≤ t.faults → t.faults ≤ u.faults → u.faults ≤ w.faults
    → AddsUnlessFailed tells s t x → AddsUnlessFailed tells t u y → AddsUnlessFailed tells u w z → AddsUnlessFailed tells s w (x ++ (y ++ z))
pieces-told tells s t u w x y z st tu uw first second third kept told =
    let one = first (first-kept s.faults t.faults w.faults (omega arith) kept) told in
    let late = last-kept s.faults t.faults w.faults st kept in
    let two = second (first-kept t.faults u.faults w.faults uw late) told in
    let three = third (last-kept t.faults u.faults w.faults tu late) told in
    three ∙ ap (λ (l : List ℕ). l ++ z) (two ∙ ap (λ (l : List ℕ). l ++ y) one) ∙ append_assoc (s.taken ++ x) y z ∙ append_assoc s.taken x (y ++ z)

-- the line of a refusal, by what the refusal is
pub refused-told : (tells : Bool) (s t : SinkState) (refusal is : ScriptRefusal) → refusal ≡ is → AddsUnlessFailed tells s t (refusal_line is) → AddsUnlessFailed tells s t (refusal_line refusal)
refused-told tells s t refusal is same told = subst (λ (r : ScriptRefusal). AddsUnlessFailed tells s t (refusal_line r)) (sym same) told
