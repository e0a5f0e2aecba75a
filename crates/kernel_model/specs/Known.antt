-- What a kernel keeps.
use Rattle.std.specs.Prelude.{ℕ, ◌<◌, Bool, true, ◌||◌, if◌then◌else◌, List, [], ◌∷◌, ◌++◌, length, flat_map, Option, Some, None, IsSome, is_some, Result}
use Rattle.std.proofs.Common.{get_or}
use Rattle.flow_base.specs.declared.value.Value.{Value}
use Rattle.flow_base.specs.declared.outcome.Ending.{Ending}
use Rattle.flow_base.specs.declared.outcome.Exception.{Exception}
use Rattle.flow_base.specs.declared.outcome.Outcome.{Outcome}
use Rattle.flow_base.specs.declared.outcome.Outcome.TheVariants as o
use Rattle.flow_base.specs.Exceptions.{exception_name}
use Rattle.script_tree.specs.declared.tree.AppDef.{AppDef}
use Rattle.script_tree.specs.Grammar.{Tree}
use Rattle.task_record.specs.declared.status.Status.{Status}
use Rattle.task_record.specs.declared.status.Status.TheVariants as status
use Rattle.task_record.specs.States.{is_settled}
use Rattle.flow_meaning.specs.declared.walk.Answer.{Answer}
use Rattle.flow_meaning.specs.Act.{Act, after}
use Rattle.flow_meaning.specs.Meaning.{Done}
use Rattle.flow_meaning.specs.Inputs.{Path, inputs}
use Rattle.flow_meaning.specs.Operators.{Text}
use Rattle.flow_meaning.specs.Sequential.{Tasks, MainAct, Prints, Rule, rule, main_room}
use Rattle.flow_meaning.specs.Walk.{main_act}
use Rattle.dependency_graph.specs.declared.monitor.Settlement.{Settlement}
use Rattle.call_rules.specs.Calls.{Losses, Call, task_of, Begin, begin, child}
use Rattle.memo_table.specs.Keys.{KeyView}
use Rattle.memo_table.specs.Table.{MemoView, found}
use Rattle.memo_table.specs.declared.saved.Saved.{Saved}
use Rattle.history_laws.specs.Reads.{History, has_end, submits, value_word}
use Rattle.history_laws.specs.Tables.{key_with}
use Rattle.history_laws.specs.declared.table.Retries.{Retries}
use Rattle.kernel_model.specs.declared.answers.Refusal.{Refusal}

-- what changes of a task: its state, its launches, the costs of its attempts that a further one followed, how its
-- last attempt, or the task itself, ended, and how the body of a join ended
pub record Life : Type 0 where
  pub status : Status
  pub attempts : ℕ
  pub cost : ℕ
  pub end : Option Outcome
  pub ran : Option (Result Done Exception)

pub record Known : Type 0 where
  pub tree : Tree
  -- what main was answered so far
  pub answers : List Answer
  -- an earlier turn came to the wait at which main stands
  pub arrived : Bool
  -- how main ended
  pub ending : Option Ending
  -- the values of calls of cached apps
  pub memo : MemoView
  -- the calls in the order of their submissions, each with its path
  pub calls : List Call
  pub lives : List Life
  -- main's acts so far
  pub acts : List MainAct
  -- the entries so far, the newest first
  pub past : History
  -- why a turn was refused
  pub refusal : Option Refusal
  -- what each monitor was told
  pub told : List (List Settlement)

-- ---- the script

abbrev pub apps_in : Known → List AppDef
apps_in w = w.tree.0

-- what main still does
abbrev pub main_left : Known → Act Done
main_left w = after (main_act w.tree) w.answers

-- no attempt is launched again
abbrev pub no_retries : Retries
no_retries = record { costs = []; limit = 0 }

-- ---- tasks

abbrev pub no_call : Call
no_call = record { path = []; app = 0; arguments = []; names = [] }

abbrev pub no_life : Life
no_life = record { status = status.Unsched; attempts = 0; cost = 0; end = None; ran = None }

abbrev pub call_at : Known → ℕ → Call
call_at w k = get_or w.calls k no_call

abbrev pub path_at : Known → ℕ → Path
path_at w k = (call_at w k).path

abbrev pub life_at : Known → ℕ → Life
life_at w k = get_or w.lives k no_life

abbrev pub status_at : Known → ℕ → Status
status_at w k = (life_at w k).status

abbrev pub outcome_in : Life → Option Outcome
outcome_in life = if is_settled life.status then life.end else None

-- the outcome of a task that is settled
abbrev pub settled_outcome : Known → ℕ → Option Outcome
settled_outcome w k = outcome_in (life_at w k)

abbrev pub inputs_at : Known → ℕ → List Path
inputs_at w k = inputs (call_at w k).arguments

abbrev pub tasks_where : Call → Option Outcome → Tasks
tasks_where c None = []
tasks_where c (Some outcome) = task_of c outcome ∷ []

abbrev pub known_in : List Call → List Life → Tasks
known_in [] lives = []
known_in (c ∷ cs) [] = []
known_in (c ∷ cs) (life ∷ lives) = tasks_where c (outcome_in life) ++ known_in cs lives

-- the settled tasks with their outcomes
abbrev pub known : Known → Tasks
known w = known_in w.calls w.lives

-- what becomes of a call, once its inputs are known
abbrev pub begin_at : Known → ℕ → Begin
begin_at w k = begin (apps_in w) (known w) (call_at w k)

-- ---- the memo

-- the key of a call, once its inputs are known, where its app is cached and it gets its outcome by an attempt
abbrev pub key_in : List AppDef → Tasks → Call → Option KeyView
key_in apps ts c = key_with c.names (begin apps ts c)

abbrev pub key_at : Known → ℕ → Option KeyView
key_at w k = key_in (apps_in w) (known w) (call_at w k)

-- what is stored of this key
abbrev pub saved_for : MemoView → Option KeyView → Option Saved
saved_for memo None = None
saved_for memo (Some key) = found memo key

abbrev pub saved_at : Known → ℕ → Option Saved
saved_at w k = saved_for w.memo (key_at w k)

abbrev pub value_of : Saved → Outcome
value_of saved = o.Value saved.value saved.files

-- nothing of this outcome is to be stored: it is no value, has no key, or is stored
abbrev pub is_kept : MemoView → Option KeyView → Outcome → Bool
is_kept memo (Some key) (o.Value value files) = is_some (found memo key)
is_kept memo _ _ = true

-- ---- words

-- the word for an outcome in the log
abbrev pub word_of : Outcome → Text
word_of (o.Value value files) = value_word
word_of (o.Failed exception) = exception_name exception

-- ---- main

-- the path of main's next call
abbrev pub next_path : Known → Path
next_path w = child [] (submits w.past)

abbrev pub printed_by : MainAct → List Value
printed_by (Prints value) = value ∷ []
printed_by _ = []

abbrev pub printed_in : List MainAct → List Value
printed_in = flat_map printed_by

-- how the calls of main are evaluated, under these losses

abbrev pub main_rule : Known → Losses → Rule
main_rule w losses = rule (apps_in w) losses main_room

-- ---- ends

-- nothing may be added any more
abbrev pub has_ended : Known → Bool
has_ended w = is_some w.refusal || has_end w.past

-- main is over and each call is settled
pub record IsDone (w : Known) : Type 0 where
  pub over : IsSome w.ending
  pub settled : (k : ℕ) → k < length w.calls → IsSome (settled_outcome w k)
