-- What is kept of a task.
use Rattle.std.specs.Prelude.{ℕ, List}
use Rattle.flow_base.specs.declared.value.Value.{Value}
use Rattle.task_record.specs.declared.status.Status.{Status}

-- a call with its state, the number of its launches, and the sum of what its failed attempts cost
pub record Task : Type 0 where
  pub path : List ℕ
  pub app : ℕ
  pub arguments : List Value
  pub names : List (List ℕ)
  pub status : Status
  pub attempts : ℕ
  pub cost : ℕ
