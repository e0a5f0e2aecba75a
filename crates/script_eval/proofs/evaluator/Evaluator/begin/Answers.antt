use Rattle.std.proofs.Common.{◌+◌, ◌∙◌, ap, arith}
use Rattle.flow_meaning.specs.Evaluations.{name_in}
use Rattle.stored_units.specs.Stored.{call_units}
use Rattle.script_eval.proofs.Calling.{names-fit, room-more, path-free, is-begun}
use Rattle.script_eval.proofs.evaluator.Evaluator.begin.Goals as goal

pub overflow_add-number : goal.overflow_add-number
overflow_add-number c = let few = room-more c.args.state.now c.args.caller.now.calls (call_units c.args.arguments.now c.args.names.now) c.requires.stands.few c.in_ok-submit.ensures.0 in omega arith

pub future_of-requires : goal.future_of-requires
future_of-requires c = names-fit c.args.state.now c.args.arguments.now c.args.names.now c.in_ok-submit.ensures.0

pub open-requires : goal.open-requires
open-requires c =
    let k = c.args.caller.now in
    path-free k.path.now k.first k.calls (call_units c.args.arguments.now c.args.names.now) c.args.state.now c.submit.new.self c.in_ok-path.path c.in_ok-copy.copy {number = k.calls + 1} c.requires.stands c.in_ok-submit.ensures.1 (omega arith) c.in_ok-path.ensures c.in_ok-copy.ensures

pub returns : goal.returns
returns c =
    let k = c.args.caller.now in
    is-begun c.args.self.now.script.now.tree k.path.now c.in_ok-path.path c.in_ok-copy.copy k.first k.calls c.args.app c.in_ok-place.place (k.calls + 1) c.args.arguments.now c.args.names.now c.in_ok-name.name c.in_ok-future.future
    c.args.state.now c.submit.new.self c.open.new.self (omega arith) c.in_ok-path.ensures c.in_ok-copy.ensures c.in_ok-place.ensures.0 c.in_ok-future.ensures (c.in_ok-name.ensures ∙ ap name_in c.app.ensures) c.in_ok-submit.ensures.0 c.in_ok-submit.ensures.1 c.in_ok-place.ensures.1
