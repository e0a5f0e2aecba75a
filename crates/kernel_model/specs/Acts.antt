-- The acts of a kernel: what each changes, and which entries it adds.
use Rattle.std.specs.Prelude.{ℕ, ◌+◌, true, false, List, [], ◌∷◌, ◌++◌, length, Some, None, slice_get}
use Rattle.std.proofs.Common.{set}
use Rattle.flow_base.specs.declared.value.Value.{Value}
use Rattle.flow_base.specs.declared.value.Value.TheVariants as v
use Rattle.flow_base.specs.declared.outcome.Ending.{Ending}
use Rattle.flow_base.specs.declared.outcome.Outcome.{Outcome}
use Rattle.script_tree.specs.Grammar.{Tree}
use Rattle.task_record.specs.declared.status.Status.{Status}
use Rattle.task_record.specs.declared.status.Status.TheVariants as status
use Rattle.event_log.specs.declared.entry.Entry.{Entry}
use Rattle.event_log.specs.declared.entry.Entry.TheVariants as entry
use Rattle.dependency_graph.specs.declared.monitor.Settlement.{Settlement}
use Rattle.dependency_graph.specs.Monitors.{tell}
use Rattle.flow_meaning.specs.declared.walk.Answer.{Answer}
use Rattle.flow_meaning.specs.declared.walk.Answer.TheVariants as answer
use Rattle.flow_meaning.specs.Inputs.{Path}
use Rattle.flow_meaning.specs.Operators.{Text}
use Rattle.flow_meaning.specs.Evaluations.{name_in}
use Rattle.flow_meaning.specs.Sequential.{MainAct, Calls, Waits, Prints, Checkpoints}
use Rattle.call_rules.specs.Calls.{Call, Dry}
use Rattle.memo_table.specs.Keys.{KeyView}
use Rattle.memo_table.specs.Table.{with_saved}
use Rattle.memo_table.specs.declared.saved.Saved.{Saved}
use Rattle.history_laws.specs.Tables.{status_of}
use Rattle.kernel_model.specs.declared.answers.Refusal.{Refusal}
use Rattle.kernel_model.specs.Known.{Known, Life, path_at, life_at, word_of, apps_in, next_path, value_of}

-- ---- before any turn

abbrev pub started_with : Tree → List (List Settlement) → Known
started_with tree told = record { tree = tree; answers = []; arrived = false; ending = None; memo = []; calls = []; lives = []; acts = []; past = []; refusal = None; told = told }

-- ---- calls

abbrev pub pending : Life
pending = record { status = status.Pending; attempts = 0; cost = 0; end = None; ran = None }

abbrev pub submit_of : Known → Call → Entry
submit_of w c = entry.Submit c.path (name_in (slice_get (apps_in w) c.app))

-- a call is submitted
abbrev pub submitted : Known → Call → Known
submitted w c = record w { calls = w.calls ++ c ∷ []; lives = w.lives ++ pending ∷ []; past = submit_of w c ∷ w.past }

-- calls are submitted in order
abbrev pub all_submitted : Known → List Call → Known
all_submitted w [] = w
all_submitted w (c ∷ cs) = all_submitted (submitted w c) cs

-- ---- main

-- main goes on with this answer, by these acts
abbrev pub answered : Known → Answer → List MainAct → Known
answered w a acts = record w { answers = w.answers ++ a ∷ []; arrived = false; acts = w.acts ++ acts }

-- main's next call
abbrev pub call_of : Known → ℕ → List Value → List Text → Call
call_of w app arguments names = record { path = next_path w; app = app; arguments = arguments; names = names }

abbrev pub future_of : Call → Value
future_of c = v.Future c.path (length c.names)

-- main makes a call
abbrev pub called : Known → Call → Known
called w c = answered (submitted w c) (answer.Called (future_of c)) (Calls c.path ∷ [])

-- main goes on behind a wait
abbrev pub waited : Known → Path → Outcome → Known
waited w p outcome = answered w (answer.Outcome outcome) (Waits p ∷ [])

abbrev pub printed : Known → Value → Known
printed w value = answered w answer.Go (Prints value ∷ [])

abbrev pub checkpointed : Known → Known
checkpointed w = answered w answer.Go (Checkpoints ∷ [])

-- main came to a wait
abbrev pub arrived_at : Known → Known
arrived_at w = record w { arrived = true }

abbrev pub main_ended : Known → Ending → Known
main_ended w ending = record w { ending = Some ending }

-- ---- tasks

abbrev pub put : Known → ℕ → Life → Entry → Known
put w k life e = record w { lives = set w.lives k life; past = e ∷ w.past }

abbrev pub launched : Known → ℕ → Known
launched w k = put w k (record (life_at w k) { status = status.Launched; attempts = (life_at w k).attempts + 1 }) (entry.Launch (path_at w k) ((life_at w k).attempts + 1))

abbrev pub started : Known → ℕ → Known
started w k = put w k (record (life_at w k) { status = status.Running }) (entry.Start (path_at w k) (life_at w k).attempts 1)

-- the last attempt ends so
abbrev pub finished : Known → ℕ → Outcome → Known
finished w k outcome = put w k (record (life_at w k) { status = status.RunningEnded; end = Some outcome }) (entry.Ended (path_at w k) (life_at w k).attempts 1 (word_of outcome))

abbrev pub settlement_as : Known → ℕ → Status → Outcome → Settlement
settlement_as w k s outcome = record { path = path_at w k; status = s; outcome = outcome }

abbrev pub settlement_of : Known → ℕ → Outcome → Settlement
settlement_of w k outcome = settlement_as w k (status_of outcome) outcome

-- the monitors were told this
abbrev pub retold : List (List Settlement) → Known → Known
retold told w = record w { told = told }

-- the task is settled in this state, and each monitor is told
abbrev pub settled_in : Known → ℕ → Status → Outcome → Known
settled_in w k s outcome = retold (tell (settlement_as w k s outcome) w.told) (put w k (record (life_at w k) { status = s; end = Some outcome }) (entry.Settled (path_at w k) s))

-- the task is settled in the state of its outcome
abbrev pub settled_as : Known → ℕ → Outcome → Known
settled_as w k outcome = settled_in w k (status_of outcome) outcome

-- ---- the memo

abbrev pub hit : Known → ℕ → Known
hit w k = record w { past = entry.MemoHit (path_at w k) ∷ w.past }

-- the task is settled by what the memo has
abbrev pub recalled : Known → ℕ → Saved → Known
recalled w k saved = settled_in (hit w k) k status.MemoDone (value_of saved)

-- the value of the task's attempt is stored
abbrev pub stored_by : Known → ℕ → KeyView → Saved → Known
stored_by w k key saved = record w { memo = with_saved w.memo key saved; past = entry.Stored (path_at w k) ∷ w.past }

-- ---- joins

-- the body of a join ran, and its calls are still to be submitted
abbrev pub joining : Known → ℕ → Dry → Known
joining w k ran = put w k (record (life_at w k) { status = status.Joining; ran = Some ran.0 }) (entry.JoinRun (path_at w k))

-- the body of a join ran, and its calls are submitted
abbrev pub joined : Known → ℕ → Dry → Known
joined w k ran = all_submitted (joining w k ran) ran.1

-- ---- the end

abbrev pub over : Known → Known
over w = record w { past = entry.End ∷ w.past }

-- a turn was refused
abbrev pub refused : Known → Refusal → Known
refused w r = record w { refusal = Some r }
