-- Which state of a task may go to which, and at what.
use Rattle.std.specs.Prelude.{Bool, true, false}
use Rattle.task_record.specs.declared.status.Status.{Status}
use Rattle.task_record.specs.declared.status.Status.TheVariants as status

abbrev pub may_become : Status → Status → Bool
-- a submission
may_become status.Unsched status.Pending = true
-- a launch
may_become status.Pending status.Launched = true
-- a start
may_become status.Launched status.Running = true
-- the end of an attempt
may_become status.Running status.RunningEnded = true
-- the loss of an attempt that a further one follows
may_become status.Launched status.FailRetryable = true
may_become status.Running status.FailRetryable = true
-- an exception of an attempt that a further one follows
may_become status.RunningEnded status.FailRetryable = true
-- at once
may_become status.FailRetryable status.Pending = true
-- the run of a join's body
may_become status.Pending status.Joining = true
-- a settling without an attempt
may_become status.Pending status.MemoDone = true
may_become status.Pending status.DepFail = true
may_become status.Pending status.Failed = true
-- a settling after a loss
may_become status.Launched status.Failed = true
may_become status.Running status.Failed = true
-- a settling after an attempt
may_become status.RunningEnded status.ExecDone = true
may_become status.RunningEnded status.Failed = true
-- a settling of a join
may_become status.Joining status.ExecDone = true
may_become status.Joining status.Failed = true
may_become _ _ = false
