use Rattle.std.proofs.Common.{◌≡◌, None}
use Rattle.kernel_model.specs.Telling.{HasToldBy}
use Rattle.kernel_model.specs.Work.{turns_left, NoneRuns}
use Rattle.parsl_engine.specs.Rounds.{room}
use Rattle.parsl_engine.proofs.run.run_to_end.Given as goal

abbrev pub invariant-rounds : goal.invariant-rounds
invariant-rounds g l = record { tree : l.kernel.tree ≡ l.fn.kernel.tree; still : NoneRuns l.kernel; accepted : l.kernel.refusal ≡ None; told : HasToldBy None l.fn.kernel l.kernel }

abbrev pub decreases-rounds : goal.decreases-rounds
decreases-rounds g l = turns_left room l.kernel
