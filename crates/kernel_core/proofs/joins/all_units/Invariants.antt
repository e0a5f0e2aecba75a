use Rattle.std.proofs.Common.{◌≡◌, min, ◌^◌, ◌-◌, sum, map, take}
use Rattle.join_apps.specs.declared.body.JoinCall.{JoinCall}
use Rattle.stored_units.specs.Stored.{call_units}
use Rattle.kernel_core.proofs.joins.all_units.Given as goal

abbrev pub invariant-loop-call : goal.invariant-loop-call
invariant-loop-call l = l.sum ≡ min (sum (map (λ (c : JoinCall). call_units c.arguments c.names) (take l.call-index l.calls))) (2 ^ 64 - 1)
