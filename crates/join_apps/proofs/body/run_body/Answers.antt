use Rattle.std.proofs.Common.{sym, ◌∙◌, arith}
use Rattle.join_apps.proofs.Running.{number_below, starts, asks_calls, further, refused, ends}
use Rattle.join_apps.proofs.body.run_body.Goals as goal

pub body-requires-clause-app : goal.body-requires-clause-app
body-requires-clause-app c = number_below c.args.script.now.tree.0 c.args.app c.requires.app

pub requests-init : goal.requests-init
requests-init c = record {
  rest = let left = c.in_ok-walker.ensures.rest in rw c.new-calls.ensures.items (omega (arith, left));
  few = rw c.new-calls.ensures.items (omega arith);
  stands = starts c.args.script.now.tree c.args.path.now c.args.app c.args.arguments _ _ c.script-script.ensures.right c.bodies_ask_well.ensures c.requires.app c.in_ok-walker.ensures.left c.new-calls.ensures.items;
}

pub answer-requires-clause-call : goal.answer-requires-clause-call
answer-requires-clause-call c = asks_calls _ _ _ _ c.script-script.ensures.right c.requests.invariant.stands (sym c.in-Asks.is ∙ c.in_ok-request.ensures.wants.0)

pub requests-preserved : goal.requests-preserved
requests-preserved c =
    let left = rw c.in-Asks.is at c.in_ok-request.ensures.wants.1 in
    let next = further _ _ _ _ _ c.requests.invariant.stands (sym c.in-Asks.is ∙ c.in_ok-request.ensures.wants.0) left c.in_ok-answer-in-Asks.ensures in
    let before = c.requests.invariant.rest in
    let used = c.in_ok-request.ensures.rest in
    let more = next.one_more in
    record {
      rest = omega (arith, before, used, more);
      few = next.few;
      stands = next.stands;
    }

pub returns-in_err-answer-in-Asks : goal.returns-in_err-answer-in-Asks
returns-in_err-answer-in-Asks c = refused _ _ _ _ _ _ _ c.requests.invariant.stands (sym c.in-Asks.is ∙ c.in_ok-request.ensures.wants.0) c.in_err-answer-in-Asks.ensures c.from_residual-in_err-answer-in-Asks.ensures.1

pub returns-in-Ended : goal.returns-in-Ended
returns-in-Ended c = ends _ _ _ _ _ _ c.requests.invariant.stands c.requests.invariant.few (sym c.in-Ended.is ∙ c.in_ok-request.ensures.wants.0)
