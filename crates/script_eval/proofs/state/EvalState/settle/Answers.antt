use Rattle.std.proofs.Common.{◌∙◌, ap}
use Rattle.script_eval.specs.declared.state.EvalState.{EvalState}
use Rattle.script_eval.proofs.Settling.{written}
use Rattle.script_eval.proofs.state.EvalState.settle.Goals as goal

pub returns : goal.returns
returns c =
    let stored = c.in_ok-store_outcome.ensures in (
      stored.0,
      record {
        tasks = λ front t behind is at. written c.store_outcome.new.self.tasks.items c.args.place c.index_mut.result.now c.settle_task.new.task c.args.outcome c.index_mut.ensures.value c.settle_task.ensures front t behind (ap (λ (s : EvalState). s.tasks.items) stored.1 ∙ is) at;
        places = ap (λ (s : EvalState). s.places) stored.1;
        printed = ap (λ (s : EvalState). s.printed) stored.1;
        stored = ap (λ (s : EvalState). s.stored) stored.1;
      },
    )
