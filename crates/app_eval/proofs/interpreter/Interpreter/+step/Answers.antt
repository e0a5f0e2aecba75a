use Rattle.std.proofs.Common.{rules, ◌≡◌, ◌<◌, ◌+◌, ◌∙◌, List, Some, true, ap, sym, subst, drop, length, slice_get, arith}
use Rattle.body_program.specs.declared.code.Step.{Step}
use Rattle.body_program.specs.declared.code.Step.TheVariants as t
use Rattle.flow_base.specs.declared.value.Value.{Value}
use Rattle.app_eval.specs.declared.position.InnerPosition.{InnerPosition}
use Rattle.app_eval.specs.declared.position.InnerPosition.TheVariants as i
use Rattle.app_eval.specs.Positions.{inside_fits}
use Rattle.flow_meaning.specs.Run.{run}
use Rattle.body_program.specs.Meaning.{repeated, steps_do}
use Rattle.app_eval.specs.Frames.{store_of}
use Rattle.app_eval.proofs.Blocks.{slice_at, step_goes, rest_goes, rest_returns, rest_halts, then_runs, otherwise_runs, then_goes_on, otherwise_goes_on, each_halts, items_halt, turns_halt, repeat_halts}
use Rattle.app_eval.proofs.Fits.{then_elsewhere, otherwise_elsewhere, turn_elsewhere, item_elsewhere}
use Rattle.app_eval.proofs.Turns.{begins, over}
use Rattle.app_eval.proofs.interpreter.Interpreter.+step.Goals as goal

pub begin-returns-in-Ok-true-clause-runs : goal.begin-returns-in-Ok-true-clause-runs
begin-returns-in-Ok-true-clause-runs t c = rw c.in-If.is (then_runs c.args.self.now.names.now c.in-If.condition c.in-If.steps c.in-If.others c.as_slice-in-Ok-true.result.now c.holds.result c.rest.result c.then_in.result (store_of c.args.frame.now) (store_of c.rest.new.frame) c.args.told.now.items c.holds.new.told.items c.rest.new.told.items c.as_slice-in-Ok-true.ensures (cc) c.holds.ensures c.then_in.ensures c.rest.ensures.runs)

pub begin-returns-in-Ok-false-clause-runs : goal.begin-returns-in-Ok-false-clause-runs
begin-returns-in-Ok-false-clause-runs t c = rw c.in-If.is (otherwise_runs c.args.self.now.names.now c.in-If.condition c.in-If.steps c.in-If.others c.as_slice-in-Ok-false.result.now c.holds.result c.rest-in-Ok-false.result c.otherwise_in.result (store_of c.args.frame.now) (store_of c.rest-in-Ok-false.new.frame) c.args.told.now.items c.holds.new.told.items c.rest-in-Ok-false.new.told.items c.as_slice-in-Ok-false.ensures (cc) c.holds.ensures c.otherwise_in.ensures c.rest-in-Ok-false.ensures.runs)

pub each-returns-in-Err-clause-runs : goal.each-returns-in-Err-clause-runs
each-returns-in-Err-clause-runs t c = λ e.
    let copied : c.in_ok-item-in-Some.item ≡ c.in-Some.item.now = search rules in
    let found : slice_get c.turns.items c.turns.next ≡ Some c.in-Some.item.now = search rules in
    let at : slice_get c.turns.items c.turns.next ≡ Some c.in_ok-item-in-Some.item = cc in
    rw (← c.turns.invariant.0) (each_halts c.args.self.now.names.now c.args.slot e c.args.body.now c.turns.items c.turns.next c.in_ok-item-in-Some.item c.item.result c.in-Err.halt c.in_items.result (store_of c.turns.frame) (store_of c.item.new.frame) c.turns.told.items c.item.new.told.items at c.in-Err.is c.in_items.ensures c.item.ensures.runs)

pub go_on-returns-in-If-clause-runs : goal.go_on-returns-in-If-clause-runs
go_on-returns-in-If-clause-runs t c = rw (c.in-If.is, c.in-Then.is) (then_goes_on c.args.self.now.names.now c.in-If.field-0 c.in-If.steps c.in-If.field-2 c.as_slice-steps.result.now c.in-Then.number c.in-Then.inside c.steps.result c.then_in.result (store_of c.args.frame.now) (store_of c.steps.new.frame) c.args.told.now.items c.steps.new.told.items c.as_slice-steps.ensures c.then_in.ensures c.steps.ensures.runs)

pub go_on-returns-in-If-step-clause-runs : goal.go_on-returns-in-If-step-clause-runs
go_on-returns-in-If-step-clause-runs t c = rw (c.in-If-step.is, c.in-Otherwise.is) (otherwise_goes_on c.args.self.now.names.now c.in-If-step.field-0 c.in-If-step.field-1 c.in-If-step.others c.as_slice-others.result.now c.in-Otherwise.number c.in-Otherwise.inside c.steps-in-If-step.result c.otherwise_in.result (store_of c.args.frame.now) (store_of c.steps-in-If-step.new.frame) c.args.told.now.items c.steps-in-If-step.new.told.items c.as_slice-others.ensures c.otherwise_in.ensures c.steps-in-If-step.ensures.runs)

pub go_on-stands_in_then-requires : goal.go_on-stands_in_then-requires
go_on-stands_in_then-requires m c = (c.in-If.field-0, c.in-If.field-2, c.in-If.is ∙ ap (λ (xs : List Step). t.If c.in-If.field-0 xs c.in-If.field-2) (sym c.as_slice-steps.ensures), subst (λ (x : InnerPosition). inside_fits x c.args.step.now ≡ true) c.in-Then.is c.requires)

pub go_on-stands_in_otherwise-requires : goal.go_on-stands_in_otherwise-requires
go_on-stands_in_otherwise-requires m c = (c.in-If-step.field-0, c.in-If-step.field-1, c.in-If-step.is ∙ ap (λ (xs : List Step). t.If c.in-If-step.field-0 c.in-If-step.field-1 xs) (sym c.as_slice-others.ensures), subst (λ (x : InnerPosition). inside_fits x c.args.step.now ≡ true) c.in-Otherwise.is c.requires)

pub go_on-stands_in_turn-requires : goal.go_on-stands_in_turn-requires
go_on-stands_in_turn-requires m c = (c.in-While.condition, c.in-While.is ∙ ap (λ (xs : List Step). t.While c.in-While.condition xs) (sym c.as_slice-body.ensures), subst (λ (x : InnerPosition). inside_fits x c.args.step.now ≡ true) c.in-Iteration.is c.requires)

pub go_on-stands_in_item-requires : goal.go_on-stands_in_item-requires
go_on-stands_in_item-requires m c = (c.in-For.slot, c.in-For.field-1, c.in-For.is ∙ ap (λ (xs : List Step). t.For c.in-For.slot c.in-For.field-1 xs) (sym c.as_slice-body-in-For.ensures), subst (λ (xs : List Value). inside_fits (i.Item xs c.in-Item.next c.in-Item.number c.in-Item.inside) c.args.step.now ≡ true) (sym c.as_slice.ensures) (subst (λ (x : InnerPosition). inside_fits x c.args.step.now ≡ true) c.in-Item.is c.requires))

pub go_on-unreachable-requires : goal.go_on-unreachable-requires
go_on-unreachable-requires t c = then_elsewhere c.args.inside c.in-Then.number c.in-Then.inside c.args.step.now c.in-Then.is (λ is. c.in_default.not-If is.0 is.1 is.2 is.3) c.requires

pub go_on-unreachable-requires-in_default-step : goal.go_on-unreachable-requires-in_default-step
go_on-unreachable-requires-in_default-step t c = otherwise_elsewhere c.args.inside c.in-Otherwise.number c.in-Otherwise.inside c.args.step.now c.in-Otherwise.is (λ is. c.in_default-step.not-If is.0 is.1 is.2 is.3) c.requires

pub go_on-unreachable-requires-in_default-step-2 : goal.go_on-unreachable-requires-in_default-step-2
go_on-unreachable-requires-in_default-step-2 t c = turn_elsewhere c.args.inside c.in-Iteration.number c.in-Iteration.inside c.args.step.now c.in-Iteration.is (λ is. c.in_default-step-2.not-While is.0 is.1 is.2) c.requires

pub go_on-unreachable-requires-in_default-step-3 : goal.go_on-unreachable-requires-in_default-step-3
go_on-unreachable-requires-in_default-step-3 t c = item_elsewhere c.args.inside c.in-Item.items c.in-Item.next c.in-Item.number c.in-Item.inside c.args.step.now c.in-Item.is (λ is. c.in_default-step-3.not-For is.0 is.1 is.2 is.3) c.requires

pub go_on_items-returns-in-Err-clause-runs : goal.go_on_items-returns-in-Err-clause-runs
go_on_items-returns-in-Err-clause-runs t c = λ e. items_halt c.args.self.now.names.now c.args.slot e c.args.body.now c.args.items c.args.next c.args.place c.steps.result c.in-Err.halt c.in_items.result (store_of c.args.frame.now) (store_of c.steps.new.frame) c.args.told.now.items c.steps.new.told.items c.in-Err.is c.in_items.ensures c.steps.ensures.runs

pub go_on_turns-returns-in-Err-clause-runs : goal.go_on_turns-returns-in-Err-clause-runs
go_on_turns-returns-in-Err-clause-runs t c = turns_halt c.args.self.now.names.now c.args.condition.now c.args.body.now c.args.place c.steps.result c.in-Err.halt c.further.result c.in_turns.result (store_of c.args.frame.now) (store_of c.steps.new.frame) c.args.told.now.items c.steps.new.told.items c.in-Err.is c.further.ensures c.in_turns.ensures c.steps.ensures.runs

pub repeat-turns-init : goal.repeat-turns-init
repeat-turns-init t c = (begins c.args.condition.now (steps_do c.args.self.now.names.now c.args.body.now) (store_of c.args.frame.now) c.args.told.now.items, omega arith)

pub repeat-returns-in-Ok-Over-clause-runs : goal.repeat-returns-in-Ok-Over-clause-runs
repeat-returns-in-Ok-Over-clause-runs t c = rw (c.turn.ensures.over (cc)) (over c.turns.invariant.0 (search rules))

pub repeat-returns-in-Err-clause-runs : goal.repeat-returns-in-Err-clause-runs
repeat-returns-in-Err-clause-runs t c = repeat_halts c.args.self.now.names.now c.args.condition.now c.args.body.now c.turn.result c.in-Err.halt c.in_turns.result (store_of c.turns.frame) (store_of c.turn.new.frame) c.turns.told.items c.turn.new.told.items (run (repeated c.args.condition.now (steps_do c.args.self.now.names.now c.args.body.now) (store_of c.args.frame.now)) c.args.told.now.items) c.in-Err.is c.in_turns.ensures c.turns.invariant.0 c.turn.ensures.runs

pub rest-returns-in-Ok-Returns-clause-runs : goal.rest-returns-in-Ok-Returns-clause-runs
rest-returns-in-Ok-Returns-clause-runs t c =
    let within : c.loop-number.number < length c.args.steps.now = omega arith in
    let at : slice_get c.args.steps.now c.loop-number.number ≡ Some c.index-steps-number.result = slice_at c.args.steps.now c.loop-number.number c.index-steps-number.result within c.index-steps-number.is in
    rw (← c.loop-number.invariant.0) (rest_returns c.args.self.now.names.now c.args.steps.now c.loop-number.number c.index-steps-number.result c.step.result c.in-Ok-Returns.value (store_of c.loop-number.frame) (store_of c.step.new.frame) c.loop-number.told.items c.step.new.told.items at (cc) c.step.ensures.runs)

pub rest-returns-in-Err-clause-runs : goal.rest-returns-in-Err-clause-runs
rest-returns-in-Err-clause-runs t c =
    let within : c.loop-number.number < length c.args.steps.now = omega arith in
    let at : slice_get c.args.steps.now c.loop-number.number ≡ Some c.index-steps-number.result = slice_at c.args.steps.now c.loop-number.number c.index-steps-number.result within c.index-steps-number.is in
    rw (c.in_step.ensures, ← c.loop-number.invariant.0) (rest_halts c.args.self.now.names.now c.args.steps.now c.loop-number.number c.index-steps-number.result c.step.result c.in-Err.halt (store_of c.loop-number.frame) (store_of c.step.new.frame) c.loop-number.told.items c.step.new.told.items at c.in-Err.is c.step.ensures.runs)

pub rest-loop-number-preserved : goal.rest-loop-number-preserved
rest-loop-number-preserved t c =
    let within : c.loop-number.number < length c.args.steps.now = omega arith in
    let at : slice_get c.args.steps.now c.loop-number.number ≡ Some c.index-steps-number.result = slice_at c.args.steps.now c.loop-number.number c.index-steps-number.result within c.index-steps-number.is in
    let here : run (steps_do c.args.self.now.names.now (drop (c.loop-number.number + 1) c.args.steps.now) (store_of c.step.new.frame)) c.step.new.told.items ≡ run (steps_do c.args.self.now.names.now (drop c.loop-number.number c.args.steps.now) (store_of c.loop-number.frame)) c.loop-number.told.items = rest_goes c.args.self.now.names.now c.args.steps.now c.loop-number.number c.index-steps-number.result c.step.result (store_of c.loop-number.frame) (store_of c.step.new.frame) c.loop-number.told.items c.step.new.told.items at (cc) c.step.ensures.runs in
    let turns = rw (c.in-Ok-Goes.is) at c.step.ensures.turns in
    (here ∙ c.loop-number.invariant.0, omega arith)

pub steps-returns-in-Ok-Goes-clause-runs : goal.steps-returns-in-Ok-Goes-clause-runs
steps-returns-in-Ok-Goes-clause-runs t c =
    let at : slice_get c.args.steps.now c.args.place.step ≡ Some c.in-Some.step.now = search rules in
    rw (step_goes c.args.self.now.names.now c.args.steps.now c.args.place.step c.args.place.inside c.in-Some.step.now c.step.result (store_of c.args.frame.now) (store_of c.step.new.frame) c.args.told.now.items c.step.new.told.items at (cc) c.step.ensures.runs) c.rest.ensures.runs
