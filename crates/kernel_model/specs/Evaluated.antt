-- The evaluation that a kernel gives back.
use Rattle.std.specs.Prelude.{map, Option, Some, None}
use Rattle.flow_base.specs.declared.outcome.Ending.{Ending}
use Rattle.flow_base.specs.declared.outcome.Ending.TheVariants as ending
use Rattle.flow_base.specs.declared.outcome.Evaluation.{Evaluation}
use Rattle.flow_meaning.specs.Evaluations.{task_end}
use Rattle.kernel_model.specs.Known.{Known, known, apps_in, printed_in}
use Rattle.call_rules.specs.Orders.{in_order}

abbrev pub ending_or : Option Ending → Ending
ending_or (Some e) = e
ending_or None = ending.Ended

-- what was printed, the settled tasks by path, and how main ended
abbrev pub evaluated : Known → Evaluation
evaluated w = record { printed = printed_in w.acts; tasks = map (task_end (apps_in w)) (in_order (known w)); main = ending_or w.ending }
