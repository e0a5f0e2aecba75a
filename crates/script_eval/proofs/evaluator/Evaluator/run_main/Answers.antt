use Rattle.std.proofs.Common.{Ok, Err, refl, sym, ◌∙◌, ap}
use Rattle.app_eval.specs.Walks.{left_of, answers_of}
use Rattle.flow_meaning.specs.Act.{after}
use Rattle.script_eval.specs.Lost.{loss_at}
use Rattle.script_eval.specs.declared.evaluator.Caller.{Caller}
use Rattle.script_eval.proofs.Standing.{stands-start, stands-on-calls, stands-can, stands-refused, stands-ended, main-at, can-at, short-at}
use Rattle.script_eval.proofs.evaluator.Evaluator.run_main.Goals as goal

pub requests-init : goal.requests-init
requests-init c = record {
  rest = c.in_ok-walk.ensures.rest;
  path = c.new-path.ensures;
  first = refl;
  stands = stands-start c.args.self.now.script.now.tree (loss_at c.args.self.now.losses.now) c.args.state.now c.requires.empty _ _ c.in_ok-walk.ensures.left refl;
}

pub answer-requires : goal.answer-requires
answer-requires c =
    let i = c.requests.invariant in
    let act = after (left_of c.requests.walk.walker) (answers_of c.requests.reply) in
    record {
      few = c.requires.few;
      short = short-at c.requests.caller.path.now i.path;
      stands = can-at c.requests.caller.path.now c.requests.caller.first c.requests.caller.calls c.requests.state i.path i.first
          (stands-can c.args.self.now.script.now.tree (loss_at c.args.self.now.losses.now) c.args.state.now c.requires.empty act c.requests.caller.calls c.requests.state i.stands);
    }

pub requests-preserved : goal.requests-preserved
requests-preserved c =
    let i = c.requests.invariant in
    let tree = c.args.self.now.script.now.tree in
    let losses = loss_at c.args.self.now.losses.now in
    let act = after (left_of c.requests.walk.walker) (answers_of c.requests.reply) in
    let wants = sym c.in-Asks.is ∙ c.in_ok-request.ensures.wants.0 in
    let left = rw c.in-Asks.is at c.in_ok-request.ensures.wants.1 in
    let given = c.in_ok-answer-in-Asks.ensures in
    record {
      rest = c.in_ok-request.ensures.rest;
      path = ap (λ (k : Caller). k.path.now) given.counted ∙ i.path;
      first = ap (λ (k : Caller). k.first) given.counted ∙ i.first;
      stands = stands-on-calls tree losses c.args.state.now c.requires.empty act (left_of c.resume.new.self.walker) c.in-Asks.request c.in_ok-answer-in-Asks.field-0 c.requests.caller.calls c.answer.new.caller.calls c.requests.state c.answer.new.state
          (ap (λ (k : Caller). k.calls) given.counted) i.stands wants left
          (main-at tree losses c.requests.caller.path.now c.requests.caller.first c.requests.caller.calls c.in-Asks.request c.requests.state c.answer.new.state (Ok c.in_ok-answer-in-Asks.field-0) i.path i.first given.gives);
    }

pub returns-in_err-answer-in-Asks : goal.returns-in_err-answer-in-Asks
returns-in_err-answer-in-Asks c =
    let i = c.requests.invariant in
    let tree = c.args.self.now.script.now.tree in
    let losses = loss_at c.args.self.now.losses.now in
    let act = after (left_of c.requests.walk.walker) (answers_of c.requests.reply) in
    let wants = sym c.in-Asks.is ∙ c.in_ok-request.ensures.wants.0 in
    stands-refused tree losses c.args.state.now c.requires.empty act c.in-Asks.request c.requests.caller.calls c.requests.state c.answer.new.state c.in_err-answer-in-Asks.field-0.0 c.from_residual-in_err-answer-in-Asks.result
    i.stands wants
    (main-at tree losses c.requests.caller.path.now c.requests.caller.first c.requests.caller.calls c.in-Asks.request c.requests.state c.answer.new.state (Err c.in_err-answer-in-Asks.field-0.0) i.path i.first c.in_err-answer-in-Asks.ensures.gives)
    c.from_residual-in_err-answer-in-Asks.ensures.1

pub returns-in-Ended : goal.returns-in-Ended
returns-in-Ended c =
    let wants = sym c.in-Ended.is ∙ c.in_ok-request.ensures.wants.0 in
    stands-ended c.args.self.now.script.now.tree (loss_at c.args.self.now.losses.now) c.args.state.now c.requires.empty
    (after (left_of c.requests.walk.walker) (answers_of c.requests.reply)) c.in-Ended.ended c.requests.caller.calls c.requests.state c.requests.invariant.stands wants
