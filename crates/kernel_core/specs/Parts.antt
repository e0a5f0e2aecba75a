-- What a kernel gives back.
use Rattle.std.specs.Prelude.{if◌then◌else◌, List, [], ◌∷◌, map, flat_map, Option, Some, None, slice_get}
use Rattle.flow_base.specs.declared.value.Value.{Value}
use Rattle.flow_base.specs.declared.outcome.Ending.{Ending}
use Rattle.flow_base.specs.declared.outcome.Evaluation.{Evaluation}
use Rattle.flow_base.specs.declared.outcome.Outcome.{Outcome}
use Rattle.flow_base.specs.declared.outcome.TaskEnd.{TaskEnd}
use Rattle.script_tree.specs.declared.tree.AppDef.{AppDef}
use Rattle.flow_meaning.specs.Evaluations.{name_in}
use Rattle.flow_meaning.specs.Inputs.{Path}
use Rattle.call_rules.specs.Orders.{path_less}
use Rattle.kernel_model.specs.Known.{outcome_in}
use Rattle.kernel_model.specs.Evaluated.{ending_or}
use Rattle.kernel_core.specs.declared.task.Task.{Task}
use Rattle.kernel_core.specs.declared.run_state.MainStep.{MainStep}
use Rattle.kernel_core.specs.declared.run_state.MainStep.TheVariants as step
use Rattle.kernel_core.specs.Tasks.{life_of}

abbrev pub ended_with : List AppDef → Task → Option Outcome → Option TaskEnd
ended_with apps t None = None
ended_with apps t (Some outcome) = Some (record { path = t.record.path; app = name_in (slice_get apps t.record.app); outcome = outcome })

-- the task with its outcome, if it is settled
abbrev pub end_of : List AppDef → Task → Option TaskEnd
end_of apps t = ended_with apps t (outcome_in (life_of t))

abbrev pub with_end : Option TaskEnd → List TaskEnd → List TaskEnd
with_end None ends = ends
with_end (Some end) ends = end ∷ ends

-- the settled ones in the order of the tasks
abbrev pub ends_in : List AppDef → List Task → List TaskEnd
ends_in apps [] = []
ends_in apps (t ∷ ts) = with_end (end_of apps t) (ends_in apps ts)

abbrev pub ends_paths : List TaskEnd → List Path
ends_paths = map (λ (e : TaskEnd). e.path)

-- the end of a task at its place in the order of paths
abbrev pub placed : TaskEnd → List TaskEnd → List TaskEnd
placed e [] = e ∷ []
placed e (f ∷ ends) = if path_less e.path f.path then e ∷ f ∷ ends else f ∷ placed e ends

abbrev pub ordered : List TaskEnd → List TaskEnd
ordered [] = []
ordered (e ∷ ends) = placed e (ordered ends)

abbrev pub printed_by : MainStep → List Value
printed_by (step.Print value) = value ∷ []
printed_by _ = []

abbrev pub printed_in : List MainStep → List Value
printed_in = flat_map printed_by

abbrev pub parts_of : List AppDef → List Task → List MainStep → Option Ending → Evaluation
parts_of apps tasks steps ending = record { printed = printed_in steps; tasks = ordered (ends_in apps tasks); main = ending_or ending }
