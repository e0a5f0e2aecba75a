use Rattle.std.proofs.Common.{◌≡◌, ◌<◌, ℕ, Some, slice_get}
use Rattle.kernel_core.specs.Memo.{IsKeptTask}
use Rattle.kernel_core.proofs.agenda.Agenda.first_kept.Given as goal

abbrev pub invariant-loop-i : goal.invariant-loop-i
invariant-loop-i g l = (n k : ℕ) → n < l.i → slice_get l.self.over n ≡ Some k → IsKeptTask l.state k → ⊥
