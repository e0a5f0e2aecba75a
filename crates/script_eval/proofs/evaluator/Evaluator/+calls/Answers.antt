use Rattle.std.proofs.Common.{◌-◌, ◌<◌, length, refl, sym, ◌∙◌, ap, arith}
use Rattle.std.specs.Prelude.{slice_get}
use Rattle.std.specs.Option.{option_copied}
use Rattle.dependency_graph.specs.Readiness.{ready}
use Rattle.app_eval.specs.Walks.{left_of, answers_of}
use Rattle.flow_meaning.specs.Act.{after}
use Rattle.script_eval.specs.Lost.{loss_at}
use Rattle.script_eval.specs.Answering.{settled_from}
use Rattle.script_eval.specs.declared.evaluator.Caller.{Caller}
use Rattle.script_eval.proofs.Calling.{its-can, its-length, place-there, call-unbegun, call-unsettled, call-settled, call-refused}
use Rattle.script_eval.proofs.Joining.{joins-start, joins-can, joins-on-calls, joins-refused-at, joins-ended, can-of, from-zero}
use Rattle.script_eval.proofs.Outcomes.{is-plain, outcome-settles, outcome-runs, ran-joins, ran-plain, joined-ends}
use Rattle.script_eval.proofs.evaluator.Evaluator.+calls.Goals as goal

-- ---- a call

pub call-outcome-requires : goal.call-outcome-requires
call-outcome-requires t c =
    let k = c.args.caller.now in
    let b = c.in_ok-opened.ensures in
    let tree = c.args.self.now.script.now.tree in
    let long = its-length tree (loss_at c.args.self.now.losses.now) k.path.now k.first k.calls c.args.app c.args.arguments c.args.names c.args.state.now c.begin.new.state c.in_ok-opened.opened c.requires.stands b in
    let short = c.requires.short in
    (omega arith, (c.requires.few, (omega arith, its-can tree (loss_at c.args.self.now.losses.now) k.path.now k.first k.calls c.args.app c.args.arguments c.args.names c.args.state.now c.begin.new.state c.in_ok-opened.opened c.requires.stands b)))

pub call-settle-requires : goal.call-settle-requires
call-settle-requires t c =
    let k = c.args.caller.now in
    place-there c.args.self.now.script.now.tree (loss_at c.args.self.now.losses.now) k.path.now k.first k.calls c.args.app c.args.arguments c.args.names c.args.state.now c.begin.new.state c.in_ok-opened.opened c.requires.stands c.in_ok-opened.ensures
    c.outcome.new.state c.in_ok-outcome.outcome c.in_ok-outcome.ensures

pub call-returns-clause-gives : goal.call-returns-clause-gives
call-returns-clause-gives t c =
    let k = c.args.caller.now in
    call-settled c.args.self.now.script.now.tree (loss_at c.args.self.now.losses.now) k.path.now k.first k.calls c.args.app c.args.arguments c.args.names c.args.state.now c.begin.new.state c.in_ok-opened.opened c.requires.stands c.in_ok-opened.ensures
    c.outcome.new.state c.settle.new.self c.in_ok-outcome.outcome c.in_ok-outcome.ensures c.in_ok-settle.ensures.0 c.in_ok-settle.ensures.1

pub call-returns-in_err-opened-clause-gives : goal.call-returns-in_err-opened-clause-gives
call-returns-in_err-opened-clause-gives t c =
    let k = c.args.caller.now in
    call-refused c.args.self.now.script.now.tree (loss_at c.args.self.now.losses.now) k.path.now k.first k.calls c.args.app c.args.arguments c.args.names c.args.state.now c.begin.new.state c.in_err-opened.field-0.0 c.from_residual.result
    c.from_residual.ensures.1 c.in_err-opened.ensures

pub call-returns-in_err-outcome-clause-gives : goal.call-returns-in_err-outcome-clause-gives
call-returns-in_err-outcome-clause-gives t c =
    let k = c.args.caller.now in
    call-unbegun c.args.self.now.script.now.tree (loss_at c.args.self.now.losses.now) k.path.now k.first k.calls c.args.app c.args.arguments c.args.names c.args.state.now c.begin.new.state c.in_ok-opened.opened c.requires.stands c.in_ok-opened.ensures
    c.outcome.new.state c.in_err-outcome.field-0.0 c.from_residual-in_err-outcome.result c.from_residual-in_err-outcome.ensures.1 c.in_err-outcome.ensures

pub call-returns-in_err-settle-clause-gives : goal.call-returns-in_err-settle-clause-gives
call-returns-in_err-settle-clause-gives t c =
    let k = c.args.caller.now in
    call-unsettled c.args.self.now.script.now.tree (loss_at c.args.self.now.losses.now) k.path.now k.first k.calls c.args.app c.args.arguments c.args.names c.args.state.now c.begin.new.state c.in_ok-opened.opened c.requires.stands c.in_ok-opened.ensures
    c.outcome.new.state c.settle.new.self c.in_ok-outcome.outcome c.in_err-settle.field-0.0 c.from_residual-in_err-settle.result c.in_ok-outcome.ensures c.in_err-settle.ensures c.from_residual-in_err-settle.ensures.1

-- ---- its outcome

pub outcome-ran-requires : goal.outcome-ran-requires
outcome-ran-requires t c = (omega arith, (c.requires.few, (c.requires.short, from-zero c.args.path.now c.args.first 0 c.args.state.now c.requires.stands)))

pub outcome-returns-in-Settles : goal.outcome-returns-in-Settles
outcome-returns-in-Settles t c =
    let known = settled_from c.args.first c.args.state.now in
    outcome-settles c.args.self.now.script.now.tree (loss_at c.args.self.now.losses.now) c.args.path.now c.args.state.now c.args.app c.args.arguments.now c.args.names.now known c.in_ok-readiness.readiness c.in-Settles.exception
    (c.in_ok-readiness.ensures ∙ ap (ready known) c.as_slice.ensures) c.in-Settles.is

pub outcome-returns-in-Runs : goal.outcome-returns-in-Runs
outcome-returns-in-Runs t c =
    let known = settled_from c.args.first c.args.state.now in
    outcome-runs c.args.self.now.script.now.tree (loss_at c.args.self.now.losses.now) c.args.path.now c.args.state.now c.args.app c.args.arguments.now c.args.names.now known c.in_ok-readiness.readiness c.in-Runs.values c.ran.new.state c.ran.result
    (c.in_ok-readiness.ensures ∙ ap (ready known) c.as_slice.ensures) c.in-Runs.is c.ran.ensures

pub ran-returns-then-found : goal.ran-returns-then-found
ran-returns-then-found t c =
    ran-joins c.args.self.now.script.now.tree (loss_at c.args.self.now.losses.now) c.args.path.now c.args.state.now (64 - length c.args.path.now) c.args.app c.args.values c.args.names.now c.in-Some.found.now c.joined.new.state c.joined.result
    (sym c.app.ensures ∙ ap option_copied c.in-Some.is) c.if-found.true c.joined.ensures

pub ran-attempted-requires : goal.ran-attempted-requires
ran-attempted-requires t c = is-plain (slice_get c.args.self.now.script.now.tree.0 c.args.app) c.in-Some.found.now (sym c.app.ensures ∙ ap option_copied c.in-Some.is) c.if-found.false

pub ran-returns : goal.ran-returns
ran-returns t c =
    ran-plain c.args.self.now.script.now.tree (loss_at c.args.self.now.losses.now) c.args.path.now c.args.state.now (64 - length c.args.path.now) c.args.app c.args.values c.args.names.now c.in-Some.found.now c.in_ok-attempted-in-Some.field-0
    (sym c.app.ensures ∙ ap option_copied c.in-Some.is) c.if-found.false c.in_ok-attempted-in-Some.ensures

pub joined-returns : goal.joined-returns
joined-returns t c =
    let some : 0 < 64 - length c.args.path.now = omega arith in
    joined-ends c.args.self.now.script.now.tree (loss_at c.args.self.now.losses.now) c.args.path.now c.args.state.now (64 - length c.args.path.now) c.args.app c.args.values c.run_join.new.state c.in_ok-ended.ended c.in_ok-join_outcome.field-0 c.len-first.result
    some c.requires.stands (c.len-first.ensures ∙ c.args.state.now.tasks.ok.0) c.in_ok-ended.ensures c.in_ok-join_outcome.ensures

pub joined-run_join-requires : goal.joined-run_join-requires
joined-run_join-requires t c = (omega arith, (c.requires.few, (omega arith, (c.requires.join, c.requires.stands))))

-- ---- the body of a join

pub run_join-requests-init : goal.run_join-requests-init
run_join-requests-init t c = record {
  rest = c.in_ok-walk.ensures.rest;
  path = refl;
  first = c.len.ensures ∙ c.args.state.now.tasks.ok.0;
  joins = joins-start c.args.self.now.script.now.tree (loss_at c.args.self.now.losses.now) c.args.path.now c.args.app c.args.values c.args.state.now _ _ c.in_ok-walk.ensures.left refl;
}

pub run_join-join_answer-requires : goal.run_join-join_answer-requires
run_join-join_answer-requires t c =
    let i = c.requests.invariant in
    let act = after (left_of c.requests.walk.walker) (answers_of c.requests.reply) in
    let same = ap length i.path in
    let short = c.requires.short in
    let stands = can-of c.requests.caller.path.now c.args.path.now c.requests.caller.first c.requests.caller.calls c.requests.state i.path
    (joins-can c.args.self.now.script.now.tree (loss_at c.args.self.now.losses.now) c.args.path.now c.args.app c.args.values c.args.state.now c.requires.stands act c.requests.caller.calls c.requests.caller.first c.requests.state i.first i.joins) in
    (omega arith, (c.requires.few, (omega arith, stands)))

pub run_join-requests-preserved : goal.run_join-requests-preserved
run_join-requests-preserved t c =
    let i = c.requests.invariant in
    let tree = c.args.self.now.script.now.tree in
    let losses = loss_at c.args.self.now.losses.now in
    let act = after (left_of c.requests.walk.walker) (answers_of c.requests.reply) in
    let wants = sym c.in-Asks.is ∙ c.in_ok-request.ensures.wants.0 in
    let left = rw c.in-Asks.is at c.in_ok-request.ensures.wants.1 in
    let given = c.in_ok-join_answer-in-Asks.ensures in
    record {
      rest = c.in_ok-request.ensures.rest;
      path = ap (λ (k : Caller). k.path.now) given.counted ∙ i.path;
      first = ap (λ (k : Caller). k.first) given.counted ∙ i.first;
      joins = joins-on-calls tree losses c.args.path.now c.args.app c.args.values c.args.state.now c.requires.stands c.requests.caller.first i.first act (left_of c.resume.new.self.walker) c.in-Asks.request c.in_ok-join_answer-in-Asks.field-0
          c.requests.caller.path.now c.requests.caller.calls c.join_answer.new.caller.calls c.requests.state c.join_answer.new.state i.path (ap (λ (k : Caller). k.calls) given.counted) i.joins wants left given.gives;
    }

pub run_join-returns-in_err-join_answer-in-Asks : goal.run_join-returns-in_err-join_answer-in-Asks
run_join-returns-in_err-join_answer-in-Asks t c =
    let i = c.requests.invariant in
    let act = after (left_of c.requests.walk.walker) (answers_of c.requests.reply) in
    let wants = sym c.in-Asks.is ∙ c.in_ok-request.ensures.wants.0 in
    joins-refused-at c.args.self.now.script.now.tree (loss_at c.args.self.now.losses.now) c.args.path.now c.args.app c.args.values c.args.state.now c.requires.stands c.requests.caller.first i.first act c.in-Asks.request
    c.requests.caller.path.now c.requests.caller.calls c.requests.state c.join_answer.new.state c.in_err-join_answer-in-Asks.field-0.0 c.from_residual-in_err-join_answer-in-Asks.result
    i.path i.joins wants c.in_err-join_answer-in-Asks.ensures.gives c.from_residual-in_err-join_answer-in-Asks.ensures.1

pub run_join-returns-in-Ended : goal.run_join-returns-in-Ended
run_join-returns-in-Ended t c =
    let wants = sym c.in-Ended.is ∙ c.in_ok-request.ensures.wants.0 in
    joins-ended c.args.self.now.script.now.tree (loss_at c.args.self.now.losses.now) c.args.path.now c.args.app c.args.values c.args.state.now
    (after (left_of c.requests.walk.walker) (answers_of c.requests.reply)) c.in-Ended.ended c.requests.caller.calls c.requests.state c.requests.invariant.joins wants
