use Rattle.std.proofs.Common.{◌≡◌, List, [], ◌∷◌, ◌++◌, sym, ◌∙◌, ap}
use Rattle.std.proofs.lemmas.List.{append-nil}
use Rattle.script_eval.specs.declared.state.EvalTask.{EvalTask}
use Rattle.script_eval.proofs.Ending.{none-unsettled, taken_front, no-items}
use Rattle.script_eval.proofs.state.ends_of.Goals as goal

pub unreachable-requires : goal.unreachable-requires
unreachable-requires c =
    let yielded = c.loop-task.yielded in
    let front : c.args.tasks.items ≡ yielded ++ c.loop-task.task-iterator.rest.items = sym c.into_iter-task-iterator.ensures.into_iter_gives.0 ∙ taken_front _ yielded c.loop-task.task-iterator c.loop-task.yielded_by in
    let more : c.args.tasks.items ≡ yielded ++ c.in-Some.task ∷ c.next.new.self.rest.items = front ∙ ap (λ (ts : List EvalTask). yielded ++ ts) c.in-Some.ensures.steps.0 in
    none-unsettled yielded c.in-Some.task c.next.new.self.rest.items c.requires.ends (sym more ∙ c.requires.are) c.in-None-outcome.is

pub returns : goal.returns
returns c =
    let yielded = c.loop-task.yielded in
    let front : c.args.tasks.items ≡ yielded ++ c.loop-task.task-iterator.rest.items = sym c.into_iter-task-iterator.ensures.into_iter_gives.0 ∙ taken_front _ yielded c.loop-task.task-iterator c.loop-task.yielded_by in
    let none : c.loop-task.task-iterator.rest.items ≡ [] = no-items c.loop-task.task-iterator.rest.items (sym c.loop-task.task-iterator.rest.ok.0 ∙ c.in-None.ensures.steps.0) in
    front ∙ ap (λ (ts : List EvalTask). yielded ++ ts) none ∙ append-nil yielded ∙ c.loop-task.invariant
