-- When an act of a kernel may come.
use Rattle.std.specs.Prelude.{◌≡◌, ℕ, ◌<◌, false, List, length, Some, None, slice_get}
use Rattle.flow_base.specs.declared.value.Value.{Value}
use Rattle.flow_base.specs.declared.outcome.Ending.{Ending}
use Rattle.flow_base.specs.declared.outcome.Exception.{Exception}
use Rattle.flow_base.specs.declared.outcome.Outcome.{Outcome}
use Rattle.script_tree.specs.declared.tree.AppDef.{AppDef}
use Rattle.task_record.specs.declared.status.Status.TheVariants as status
use Rattle.flow_meaning.specs.declared.walk.Request.{Request}
use Rattle.flow_meaning.specs.declared.walk.Answer.{Answer}
use Rattle.flow_meaning.specs.Act.{Act, Ask}
use Rattle.flow_meaning.specs.Meaning.{Done}
use Rattle.flow_meaning.specs.Sequential.{join_outcome}
use Rattle.call_rules.specs.Calls.{Call, Dry, Fails, Attempts, Joins, join_dry, calls_below}
use Rattle.history_laws.specs.Reads.{due}
use Rattle.kernel_model.specs.Known.{Known, call_at, path_at, status_at, known, begin_at, saved_at, has_ended, main_left, apps_in, IsDone}
use Rattle.kernel_model.specs.Invariants.{EndsSo}
use Rattle.memo_table.specs.Keys.{KeyView}
use Rattle.memo_table.specs.declared.saved.Saved.{Saved}
use Rattle.kernel_model.specs.Turns.{IsCallback, IsJoinDone, IsSettling, IsStore}
use Rattle.call_rules.specs.Calls.{call_outcome}
use Rattle.flow_meaning.specs.Evaluations.{no_losses}

pub record CanLaunch (w : Known) (k : ℕ) : Type 0 where
  pub not_ended : has_ended w ≡ false
  pub callback : IsCallback w k
  pub app : AppDef
  pub values : List Value
  pub begins : begin_at w k ≡ Attempts app values
  pub unsaved : saved_at w k ≡ None

pub record CanStart (w : Known) (k : ℕ) : Type 0 where
  pub not_ended : has_ended w ≡ false
  pub waiting : status_at w k ≡ status.Launched

pub record CanFinish (w : Known) (k : ℕ) (outcome : Outcome) : Type 0 where
  pub not_ended : has_ended w ≡ false
  pub running : status_at w k ≡ status.Running
  pub is : outcome ≡ call_outcome (apps_in w) no_losses (known w) (call_at w k)

-- one of the first three rules settles it, or its depth
pub record CanFail (w : Known) (k : ℕ) (exception : Exception) : Type 0 where
  pub not_ended : has_ended w ≡ false
  pub callback : IsCallback w k
  pub begins : begin_at w k ≡ Fails exception

-- the end of its attempt settles it
pub record CanSettle (w : Known) (k : ℕ) (outcome : Outcome) : Type 0 where
  pub not_ended : has_ended w ≡ false
  pub ready : IsSettling w k outcome

-- what the memo has settles it
pub record CanRecall (w : Known) (k : ℕ) (saved : Saved) : Type 0 where
  pub not_ended : has_ended w ≡ false
  pub callback : IsCallback w k
  pub is : saved_at w k ≡ Some saved

-- the value of its attempt may be stored
pub record CanStore (w : Known) (k : ℕ) (key : KeyView) (saved : Saved) : Type 0 where
  pub not_ended : has_ended w ≡ false
  pub store : IsStore w k key saved

-- its body may run
pub record CanJoin (w : Known) (k : ℕ) (ran : Dry) : Type 0 where
  pub not_ended : has_ended w ≡ false
  pub callback : IsCallback w k
  pub app : AppDef
  pub values : List Value
  pub begins : begin_at w k ≡ Joins app values
  pub is : ran ≡ join_dry (apps_in w) (path_at w k) app values

-- the next call of a join whose body ran
pub record CanSubmitChild (w : Known) (k n : ℕ) (c : Call) : Type 0 where
  pub not_ended : has_ended w ≡ false
  pub within : k < length w.calls
  pub is_due : due w.past ≡ Some (path_at w k, n)
  pub is : slice_get (calls_below (apps_in w) (known w) (call_at w k)) n ≡ Some c

-- what it returned has settled
pub record CanEndJoin (w : Known) (k : ℕ) (outcome : Outcome) : Type 0 where
  pub not_ended : has_ended w ≡ false
  pub done : IsJoinDone w k
  pub is : outcome ≡ join_outcome (known w) done.result

-- ---- main

-- main asks for this next, and goes on so
pub record MainAsks (w : Known) (wanted : Request) : Type 0 where
  pub not_ended : has_ended w ≡ false
  pub going : w.ending ≡ None
  pub go : Answer → Act Done
  pub left : main_left w ≡ Ask wanted go

pub record CanEndMain (w : Known) (e : Ending) : Type 0 where
  pub not_ended : has_ended w ≡ false
  pub going : w.ending ≡ None
  pub ends : EndsSo e (main_left w)

pub record CanEnd (w : Known) : Type 0 where
  pub not_ended : has_ended w ≡ false
  pub done : IsDone w
