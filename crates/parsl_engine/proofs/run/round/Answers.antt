use Rattle.std.proofs.Common.{sym, ◌∙◌, true, false, None}
use Rattle.std.proofs.lemmas.Result.{err_from_is_err_and}
use Rattle.kernel_model.specs.Turns.{CallbackTurn, StoreTurn, SettleTurn, EndTurn}
use Rattle.kernel_core.proofs.TurnsTold.{script-tells, callback-tells, settle-tells, end-tells, memory-tells}
use Rattle.parsl_engine.specs.Rounds.{AttemptTurn}
use Rattle.parsl_engine.proofs.RunsTold.{told-ok, told-from, memory-told, store-tells}
use Rattle.parsl_engine.proofs.Turning.{going-accepts, as-was, script-waits, script-keeps, callback-stays, callback-keeps, attempt-stays, attempt-keeps, store-stays, store-keeps, settle-stays, settle-keeps, end-stays, end-keeps, no-turn}
use Rattle.parsl_engine.proofs.Stopping.{script-stopped, callback-stopped, store-stopped, settle-stopped}
use Rattle.parsl_engine.proofs.run.round.Goals as goal

pub returns-in_err-script_turn-clause-cause : goal.returns-in_err-script_turn-clause-cause
returns-in_err-script_turn-clause-cause g c =
    let stop = script-stopped _ _ _ c.requires.going c.facts.ensures.fact.inv c.in_err-script_turn.ensures.refused in
    let p = err_from_is_err_and c.from_residual.result c.from_residual.ensures.1 in
    rw (p.1, p.2) stop.cause

pub returns-in_err-script_turn-clause-tells : goal.returns-in_err-script_turn-clause-tells
returns-in_err-script_turn-clause-tells g c =
    let stop = script-stopped _ _ _ c.requires.going c.facts.ensures.fact.inv c.in_err-script_turn.ensures.refused in
    let p = err_from_is_err_and c.from_residual.result c.from_residual.ensures.1 in
    rw (p.1, p.2) stop.told

pub returns-in-Advanced-clause-keeps : goal.returns-in-Advanced-clause-keeps
returns-in-Advanced-clause-keeps g c =
    script-keeps _ _ c.requires.going c.requires.still (sym c.in_ok-script_turn.ensures.answer ∙ c.in-Advanced.is) c.in_ok-script_turn.ensures.after c.facts-in-Advanced.ensures.room

pub returns-in-Advanced-clause-tells : goal.returns-in-Advanced-clause-tells
returns-in-Advanced-clause-tells g c =
    let keeps = script-keeps _ _ c.requires.going c.requires.still (sym c.in_ok-script_turn.ensures.answer ∙ c.in-Advanced.is) c.in_ok-script_turn.ensures.after c.facts-in-Advanced.ensures.room in
    told-ok _ _ (script-tells c.args.kernel.now _ c.facts.ensures.fact.inv (going-accepts c.args.kernel.now c.requires.going) c.in_ok-script_turn.ensures.after) keeps.accepted

pub returns-in_err-callback_turn : goal.returns-in_err-callback_turn
returns-in_err-callback_turn g c =
    let script = script-waits _ _ _ c.in_ok-script_turn.ensures.answer c.in_default.not-Advanced c.in_ok-script_turn.ensures.after in
    let stop = callback-stopped _ _ _ _ script c.requires.going c.facts.ensures.fact.inv c.in_err-callback_turn.ensures.refused in
    let p = err_from_is_err_and c.from_residual-in_err-callback_turn.result c.from_residual-in_err-callback_turn.ensures.1 in
    record { tree = stop.tree; keeps = rw p.1 tt; unended = rw p.1 stop.unended; cause = rw (p.1, p.2) stop.cause; tells = rw (p.1, p.2) stop.told }

pub returns-then-branch : goal.returns-then-branch
returns-then-branch g c =
    let script = script-waits _ _ _ c.in_ok-script_turn.ensures.answer c.in_default.not-Advanced c.in_ok-script_turn.ensures.after in
    let callback = as-was CallbackTurn _ _ _ _ true c.if-branch.true script c.in_ok-callback_turn.ensures.turn in
    let keeps = callback-keeps _ _ c.requires.going c.requires.still c.facts.ensures.fact.inv callback c.facts-then-branch.ensures.room in
    let tells = callback-tells _ _ true c.facts.ensures.fact.inv (going-accepts c.args.kernel.now c.requires.going) callback in
    record { tree = (callback-stays _ _ true callback).tree; keeps = keeps; unended = tt; cause = tt; tells = told-ok _ _ tells keeps.accepted }

pub returns-then-branch-2 : goal.returns-then-branch-2
returns-then-branch-2 g c =
    let script = script-waits _ _ _ c.in_ok-script_turn.ensures.answer c.in_default.not-Advanced c.in_ok-script_turn.ensures.after in
    let callback = as-was CallbackTurn _ _ _ _ false c.if-branch.false script c.in_ok-callback_turn.ensures.turn in
    let attempt = as-was AttemptTurn _ _ _ _ true c.if-branch-2.true callback.2 c.in_ok-run_attempt.ensures.turn in
    record { tree = (attempt-stays _ _ true attempt).tree; keeps = attempt-keeps _ _ c.requires.going c.requires.still c.facts.ensures.fact.inv attempt c.facts-then-branch-2.ensures.room; unended = tt; cause = tt; tells = told-from None _ _ _ callback.2 c.in_ok-run_attempt.ensures.tells }

pub returns-in_err-run_attempt-clause-tells : goal.returns-in_err-run_attempt-clause-tells
returns-in_err-run_attempt-clause-tells g c =
    let script = script-waits _ _ _ c.in_ok-script_turn.ensures.answer c.in_default.not-Advanced c.in_ok-script_turn.ensures.after in
    let callback = as-was CallbackTurn _ _ _ _ false c.if-branch.false script c.in_ok-callback_turn.ensures.turn in
    let p = err_from_is_err_and c.from_residual-in_err-run_attempt.result c.from_residual-in_err-run_attempt.ensures.1 in
    rw (p.1, p.2) (told-from _ _ _ _ callback.2 c.in_err-run_attempt.ensures.tells)

pub returns-in_err-store_turn : goal.returns-in_err-store_turn
returns-in_err-store_turn g c =
    let script = script-waits _ _ _ c.in_ok-script_turn.ensures.answer c.in_default.not-Advanced c.in_ok-script_turn.ensures.after in
    let callback = as-was CallbackTurn _ _ _ _ false c.if-branch.false script c.in_ok-callback_turn.ensures.turn in
    let attempt = as-was AttemptTurn _ _ _ _ false c.if-branch-2.false callback.2 c.in_ok-run_attempt.ensures.turn in
    let stop = store-stopped _ _ _ _ attempt.1 c.requires.going c.facts.ensures.fact.inv c.in_err-store_turn.ensures.refused in
    let p = err_from_is_err_and c.from_residual-in_err-store_turn.result c.from_residual-in_err-store_turn.ensures.1 in
    record { tree = stop.tree; keeps = rw p.1 tt; unended = rw p.1 stop.unended; cause = rw (p.1, p.2) stop.cause; tells = rw (p.1, p.2) stop.told }

pub returns-then-branch-3 : goal.returns-then-branch-3
returns-then-branch-3 g c =
    let script = script-waits _ _ _ c.in_ok-script_turn.ensures.answer c.in_default.not-Advanced c.in_ok-script_turn.ensures.after in
    let callback = as-was CallbackTurn _ _ _ _ false c.if-branch.false script c.in_ok-callback_turn.ensures.turn in
    let attempt = as-was AttemptTurn _ _ _ _ false c.if-branch-2.false callback.2 c.in_ok-run_attempt.ensures.turn in
    let store = as-was StoreTurn _ _ _ _ true c.if-branch-3.true attempt.1 c.in_ok-store_turn.ensures.turn in
    let keeps = store-keeps _ _ c.requires.going c.requires.still store c.facts-then-branch-3.ensures.room in
    let tells = store-tells _ _ true (going-accepts c.args.kernel.now c.requires.going) store in
    record { tree = (store-stays _ _ true store).tree; keeps = keeps; unended = tt; cause = tt; tells = told-ok _ _ tells keeps.accepted }

pub returns-in_err-settle_turn : goal.returns-in_err-settle_turn
returns-in_err-settle_turn g c =
    let script = script-waits _ _ _ c.in_ok-script_turn.ensures.answer c.in_default.not-Advanced c.in_ok-script_turn.ensures.after in
    let callback = as-was CallbackTurn _ _ _ _ false c.if-branch.false script c.in_ok-callback_turn.ensures.turn in
    let attempt = as-was AttemptTurn _ _ _ _ false c.if-branch-2.false callback.2 c.in_ok-run_attempt.ensures.turn in
    let store = as-was StoreTurn _ _ _ _ false c.if-branch-3.false attempt.1 c.in_ok-store_turn.ensures.turn in
    let stop = settle-stopped _ _ _ _ store.1 c.requires.going c.facts.ensures.fact.inv c.in_err-settle_turn.ensures.refused in
    let p = err_from_is_err_and c.from_residual-in_err-settle_turn.result c.from_residual-in_err-settle_turn.ensures.1 in
    record { tree = stop.tree; keeps = rw p.1 tt; unended = rw p.1 stop.unended; cause = rw (p.1, p.2) stop.cause; tells = rw (p.1, p.2) stop.told }

pub returns-then-branch-4 : goal.returns-then-branch-4
returns-then-branch-4 g c =
    let script = script-waits _ _ _ c.in_ok-script_turn.ensures.answer c.in_default.not-Advanced c.in_ok-script_turn.ensures.after in
    let callback = as-was CallbackTurn _ _ _ _ false c.if-branch.false script c.in_ok-callback_turn.ensures.turn in
    let attempt = as-was AttemptTurn _ _ _ _ false c.if-branch-2.false callback.2 c.in_ok-run_attempt.ensures.turn in
    let store = as-was StoreTurn _ _ _ _ false c.if-branch-3.false attempt.1 c.in_ok-store_turn.ensures.turn in
    let settle = as-was SettleTurn _ _ _ _ true c.if-branch-4.true store.1 c.in_ok-settle_turn.ensures.turn in
    let keeps = settle-keeps _ _ c.requires.going c.requires.still c.facts.ensures.fact.inv settle c.facts-then-branch-4.ensures.room in
    let tells = settle-tells _ _ true c.facts.ensures.fact.inv (going-accepts c.args.kernel.now c.requires.going) settle in
    record { tree = (settle-stays _ _ true settle).tree; keeps = keeps; unended = tt; cause = tt; tells = told-ok _ _ tells keeps.accepted }

pub returns-in_err-end_turn-clause-tells : goal.returns-in_err-end_turn-clause-tells
returns-in_err-end_turn-clause-tells g c =
    let script = script-waits _ _ _ c.in_ok-script_turn.ensures.answer c.in_default.not-Advanced c.in_ok-script_turn.ensures.after in
    let callback = as-was CallbackTurn _ _ _ _ false c.if-branch.false script c.in_ok-callback_turn.ensures.turn in
    let attempt = as-was AttemptTurn _ _ _ _ false c.if-branch-2.false callback.2 c.in_ok-run_attempt.ensures.turn in
    let store = as-was StoreTurn _ _ _ _ false c.if-branch-3.false attempt.1 c.in_ok-store_turn.ensures.turn in
    let settle = as-was SettleTurn _ _ _ _ false c.if-branch-4.false store.1 c.in_ok-settle_turn.ensures.turn in
    let refused = rw settle.1 at c.in_err-end_turn.ensures.refused in
    let p = err_from_is_err_and c.from_residual-in_err-end_turn.result c.from_residual-in_err-end_turn.ensures.1 in
    rw (p.1, p.2) (memory-told _ _ _ (memory-tells _ _ _ (going-accepts c.args.kernel.now c.requires.going) refused) refused)

pub unreachable-requires : goal.unreachable-requires
unreachable-requires g c =
    let script = script-waits _ _ _ c.in_ok-script_turn.ensures.answer c.in_default.not-Advanced c.in_ok-script_turn.ensures.after in
    let callback = as-was CallbackTurn _ _ _ _ false c.if-branch.false script c.in_ok-callback_turn.ensures.turn in
    let attempt = as-was AttemptTurn _ _ _ _ false c.if-branch-2.false callback.2 c.in_ok-run_attempt.ensures.turn in
    let store = as-was StoreTurn _ _ _ _ false c.if-branch-3.false attempt.1 c.in_ok-store_turn.ensures.turn in
    let settle = as-was SettleTurn _ _ _ _ false c.if-branch-4.false store.1 c.in_ok-settle_turn.ensures.turn in
    let end = as-was EndTurn _ _ _ _ false c.in-false.is settle.1 c.in_ok-end_turn.ensures.turn in
    no-turn _ _ c.facts.ensures.fact.inv c.requires.still (λ advances. c.in_default.not-Advanced (c.in_ok-script_turn.ensures.answer ∙ advances)) callback.0 callback.1 attempt.0 store.0 settle.0 end

pub returns : goal.returns
returns g c =
    let script = script-waits _ _ _ c.in_ok-script_turn.ensures.answer c.in_default.not-Advanced c.in_ok-script_turn.ensures.after in
    let callback = as-was CallbackTurn _ _ _ _ false c.if-branch.false script c.in_ok-callback_turn.ensures.turn in
    let attempt = as-was AttemptTurn _ _ _ _ false c.if-branch-2.false callback.2 c.in_ok-run_attempt.ensures.turn in
    let store = as-was StoreTurn _ _ _ _ false c.if-branch-3.false attempt.1 c.in_ok-store_turn.ensures.turn in
    let settle = as-was SettleTurn _ _ _ _ false c.if-branch-4.false store.1 c.in_ok-settle_turn.ensures.turn in
    let end = as-was EndTurn _ _ _ _ true c.in-true.is settle.1 c.in_ok-end_turn.ensures.turn in
    let keeps = end-keeps _ _ c.requires.going c.requires.still end c.facts-in-true.ensures.room in
    record { tree = (end-stays _ _ true end).tree; keeps = keeps; unended = tt; cause = tt; tells = told-ok _ _ (end-tells _ _ true (going-accepts c.args.kernel.now c.requires.going) end) keeps.accepted }
