-- The words for the states of a task, and those in which it is settled.
use Rattle.std.specs.Prelude.{ℕ, List, Bool, true, false, codes}
use Rattle.task_record.specs.declared.status.Status.{Status}
use Rattle.task_record.specs.declared.status.Status.TheVariants as status

abbrev pub status_name : Status → List ℕ
status_name status.Unsched = codes "unsched"
status_name status.Pending = codes "pending"
status_name status.Launched = codes "launched"
status_name status.Running = codes "running"
status_name status.RunningEnded = codes "running_ended"
status_name status.Joining = codes "joining"
status_name status.ExecDone = codes "exec_done"
status_name status.MemoDone = codes "memo_done"
status_name status.Failed = codes "failed"
status_name status.DepFail = codes "dep_fail"
status_name status.FailRetryable = codes "fail_retryable"

abbrev pub is_settled : Status → Bool
is_settled status.ExecDone = true
is_settled status.MemoDone = true
is_settled status.Failed = true
is_settled status.DepFail = true
is_settled _ = false
