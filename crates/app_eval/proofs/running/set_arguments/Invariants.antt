use Rattle.std.proofs.Common.{◌≡◌, ◌≤◌, length, take}
use Rattle.body_program.specs.Meaning.{with_arguments}
use Rattle.app_eval.proofs.running.set_arguments.Given as goal

abbrev pub invariant-arguments : goal.invariant-arguments
invariant-arguments l = (l.count ≤ length l.parameters) × (l.count ≤ length l.arguments) × (with_arguments (take l.count l.parameters) (take l.count l.arguments) l.slots.items ≡ with_arguments l.parameters l.arguments l.initial.slots.items)

abbrev pub decreases-arguments : goal.decreases-arguments
decreases-arguments l = l.count
