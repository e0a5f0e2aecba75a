-- What the fields of a run's state mean, and how a run begins.
use Rattle.std.specs.Prelude.{◌≡◌, ◌<◌, ◌≤◌, ◌^◌, ℕ, Bool, List, Option, None, length, map, flat_map, reverse}
use Rattle.flow_base.specs.declared.outcome.Ending.{Ending}
use Rattle.script_tree.specs.Grammar.{Tree}
use Rattle.event_log.specs.declared.entry.Entry.{Entry}
use Rattle.dependency_graph.specs.declared.monitor.Settlement.{Settlement}
use Rattle.flow_meaning.specs.Inputs.{Path}
use Rattle.memo_table.specs.Table.{MemoView}
use Rattle.kernel_model.specs.declared.answers.Refusal.{Refusal}
use Rattle.call_rules.specs.Calls.{Call}
use Rattle.history_laws.specs.Reads.{submits}
use Rattle.kernel_model.specs.Known.{Known}
use Rattle.kernel_model.specs.Invariants.{Inv}
use Rattle.kernel_model.specs.Limits.{stored, passed}
use Rattle.kernel_core.specs.declared.task.Task.{Task}
use Rattle.kernel_core.specs.declared.run_state.MainStep.{MainStep}
use Rattle.kernel_core.specs.Tasks.{call_of, life_of, answer_of, acts_of, AreOver}
use Rattle.agenda_model.specs.Agendas.{running_in}

abbrev pub known_with : Tree → List Task → List MainStep → Bool → Option Ending → MemoView → List Entry → Option Refusal → List (List Settlement) → Known
known_with tree tasks steps arrived ending memo log refusal told = record {
  tree = tree;
  answers = map (answer_of (map call_of tasks) (map life_of tasks)) steps;
  arrived = arrived;
  ending = ending;
  memo = memo;
  calls = map call_of tasks;
  lives = map life_of tasks;
  acts = flat_map (acts_of (map call_of tasks)) steps;
  past = reverse log;
  refusal = refusal;
  told = told;
}

-- what holds of every run
pub record IsFact (w : Known) : Type 0 where
  pub inv : Inv w
  -- each app has a number of 32 bits
  pub few_apps : length w.tree.0 < 2 ^ 32
  -- it is within the limits
  pub within : passed w ≡ None

-- the counters of a state are right, and each step of main is over
pub record IsSound (w : Known) (tasks : List Task) (steps : List MainStep) (attempts units : ℕ) : Type 0 where
  pub fact : IsFact w
  pub over : AreOver (map call_of tasks) (map life_of tasks) steps
  pub running : attempts ≡ running_in (map life_of tasks)
  pub units_are : units ≡ stored w

-- the table of paths and the number of main's calls are right
pub record IsIndexed (w : Known) (places : List Path) (mains : ℕ) : Type 0 where
  pub placed : places ≡ map (λ (c : Call). c.path) w.calls
  pub mains_are : mains ≡ submits w.past
  pub few : mains ≤ length w.calls
