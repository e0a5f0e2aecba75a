use Rattle.std.proofs.Common.{◌≡◌, ◌++◌}
use Rattle.kernel_core.specs.Parts.{printed_in}
use Rattle.kernel_core.proofs.parts.printed_values.Given as goal

abbrev pub invariant-loop-step : goal.invariant-loop-step
invariant-loop-step l = l.values ++ printed_in l.step-iterator.rest.items ≡ printed_in l.fn.steps.items
