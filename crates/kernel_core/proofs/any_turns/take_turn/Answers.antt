use Rattle.std.proofs.Common.{◌∙◌}
use Rattle.kernel_core.proofs.Accepting.{accepts_script, going_accepts}
use Rattle.kernel_core.proofs.Extending.{extends_script, extends_callback, extends_fetch, extends_deliver, extends_store, extends_settle, extends_end}
use Rattle.kernel_core.proofs.TurnsTold.{script-tells, callback-tells, fetch-tells, deliver-tells, store-tells, settle-tells, end-tells, cut-tells, memory-tells, cut-extends, memory-extends}
use Rattle.kernel_core.proofs.MainKept.{callback-keeps, fetch-keeps, deliver-keeps, store-keeps, settle-keeps, end-keeps}
use Rattle.kernel_core.proofs.any_turns.take_turn.Goals as goal

pub returns-in_ok-script_turn-in-Script-clause-extends : goal.returns-in_ok-script_turn-in-Script-clause-extends
returns-in_ok-script_turn-in-Script-clause-extends g c = extends_script _ _ c.in_ok-script_turn-in-Script.ensures.after

pub returns-in_ok-callback_turn-in-Callback-clause-extends : goal.returns-in_ok-callback_turn-in-Callback-clause-extends
returns-in_ok-callback_turn-in-Callback-clause-extends g c = extends_callback _ _ _ c.in_ok-callback_turn-in-Callback.ensures.turn

pub returns-in_ok-fetch-in-Fetch-clause-extends : goal.returns-in_ok-fetch-in-Fetch-clause-extends
returns-in_ok-fetch-in-Fetch-clause-extends g c = extends_fetch _ _ _ c.in_ok-fetch-in-Fetch.ensures.turn

pub returns-in-Deliver-clause-extends : goal.returns-in-Deliver-clause-extends
returns-in-Deliver-clause-extends g c = extends_deliver _ _ _ _ c.deliver.ensures

pub returns-in_ok-store_turn-in-Store-clause-extends : goal.returns-in_ok-store_turn-in-Store-clause-extends
returns-in_ok-store_turn-in-Store-clause-extends g c = extends_store _ _ _ c.in_ok-store_turn-in-Store.ensures.turn

pub returns-in_ok-settle_turn-in-Settle-clause-extends : goal.returns-in_ok-settle_turn-in-Settle-clause-extends
returns-in_ok-settle_turn-in-Settle-clause-extends g c = extends_settle _ _ _ c.in_ok-settle_turn-in-Settle.ensures.turn

pub returns-in_ok-end_turn-in-End-clause-extends : goal.returns-in_ok-end_turn-in-End-clause-extends
returns-in_ok-end_turn-in-End-clause-extends g c = extends_end _ _ _ c.in_ok-end_turn-in-End.ensures.turn

pub returns-in_ok-script_turn-in-Script-clause-accepted : goal.returns-in_ok-script_turn-in-Script-clause-accepted
returns-in_ok-script_turn-in-Script-clause-accepted g c = accepts_script c.args.kernel.now _ c.requires.going c.in_ok-script_turn-in-Script.ensures.after

pub returns-in_ok-callback_turn-in-Callback-clause-accepted : goal.returns-in_ok-callback_turn-in-Callback-clause-accepted
returns-in_ok-callback_turn-in-Callback-clause-accepted g c = (callback-keeps _ _ _ c.in_ok-callback_turn-in-Callback.ensures.turn).refusal ∙ going_accepts c.args.kernel.now c.requires.going

pub returns-in_ok-fetch-in-Fetch-clause-accepted : goal.returns-in_ok-fetch-in-Fetch-clause-accepted
returns-in_ok-fetch-in-Fetch-clause-accepted g c = (fetch-keeps _ _ _ c.in_ok-fetch-in-Fetch.ensures.turn).refusal ∙ going_accepts c.args.kernel.now c.requires.going

pub returns-in-Deliver-clause-accepted : goal.returns-in-Deliver-clause-accepted
returns-in-Deliver-clause-accepted g c = (deliver-keeps _ _ _ _ c.deliver.ensures).refusal ∙ going_accepts c.args.kernel.now c.requires.going

pub returns-in_ok-store_turn-in-Store-clause-accepted : goal.returns-in_ok-store_turn-in-Store-clause-accepted
returns-in_ok-store_turn-in-Store-clause-accepted g c = (store-keeps _ _ _ c.in_ok-store_turn-in-Store.ensures.turn).refusal ∙ going_accepts c.args.kernel.now c.requires.going

pub returns-in_ok-settle_turn-in-Settle-clause-accepted : goal.returns-in_ok-settle_turn-in-Settle-clause-accepted
returns-in_ok-settle_turn-in-Settle-clause-accepted g c = (settle-keeps _ _ _ c.in_ok-settle_turn-in-Settle.ensures.turn).refusal ∙ going_accepts c.args.kernel.now c.requires.going

pub returns-in_ok-end_turn-in-End-clause-accepted : goal.returns-in_ok-end_turn-in-End-clause-accepted
returns-in_ok-end_turn-in-End-clause-accepted g c = (end-keeps _ _ _ c.in_ok-end_turn-in-End.ensures.turn).refusal ∙ going_accepts c.args.kernel.now c.requires.going

pub returns-in_ok-script_turn-in-Script-clause-tells : goal.returns-in_ok-script_turn-in-Script-clause-tells
returns-in_ok-script_turn-in-Script-clause-tells g c = script-tells c.args.kernel.now _ c.facts.ensures.fact.inv (going_accepts c.args.kernel.now c.requires.going) c.in_ok-script_turn-in-Script.ensures.after

pub returns-in_ok-callback_turn-in-Callback-clause-tells : goal.returns-in_ok-callback_turn-in-Callback-clause-tells
returns-in_ok-callback_turn-in-Callback-clause-tells g c = callback-tells c.args.kernel.now _ _ c.facts.ensures.fact.inv (going_accepts c.args.kernel.now c.requires.going) c.in_ok-callback_turn-in-Callback.ensures.turn

pub returns-in_ok-fetch-in-Fetch-clause-tells : goal.returns-in_ok-fetch-in-Fetch-clause-tells
returns-in_ok-fetch-in-Fetch-clause-tells g c = fetch-tells c.args.kernel.now _ _ (going_accepts c.args.kernel.now c.requires.going) c.in_ok-fetch-in-Fetch.ensures.turn

pub returns-in-Deliver-clause-tells : goal.returns-in-Deliver-clause-tells
returns-in-Deliver-clause-tells g c = deliver-tells c.args.kernel.now _ _ _ (going_accepts c.args.kernel.now c.requires.going) c.deliver.ensures

pub returns-in_ok-store_turn-in-Store-clause-tells : goal.returns-in_ok-store_turn-in-Store-clause-tells
returns-in_ok-store_turn-in-Store-clause-tells g c = store-tells c.args.kernel.now _ _ (going_accepts c.args.kernel.now c.requires.going) c.in_ok-store_turn-in-Store.ensures.turn

pub returns-in_ok-settle_turn-in-Settle-clause-tells : goal.returns-in_ok-settle_turn-in-Settle-clause-tells
returns-in_ok-settle_turn-in-Settle-clause-tells g c = settle-tells c.args.kernel.now _ _ c.facts.ensures.fact.inv (going_accepts c.args.kernel.now c.requires.going) c.in_ok-settle_turn-in-Settle.ensures.turn

pub returns-in_ok-end_turn-in-End-clause-tells : goal.returns-in_ok-end_turn-in-End-clause-tells
returns-in_ok-end_turn-in-End-clause-tells g c = end-tells c.args.kernel.now _ _ (going_accepts c.args.kernel.now c.requires.going) c.in_ok-end_turn-in-End.ensures.turn

pub returns-in_err-script_turn-in-Script-clause-extends : goal.returns-in_err-script_turn-in-Script-clause-extends
returns-in_err-script_turn-in-Script-clause-extends g c = cut-extends _ _ _ _ c.in_err-script_turn-in-Script.ensures.refused

pub returns-in_err-script_turn-in-Script-clause-tells : goal.returns-in_err-script_turn-in-Script-clause-tells
returns-in_err-script_turn-in-Script-clause-tells g c = cut-tells c.args.kernel.now _ _ _ (going_accepts c.args.kernel.now c.requires.going) c.in_err-script_turn-in-Script.ensures.refused

pub returns-in_err-callback_turn-in-Callback-clause-extends : goal.returns-in_err-callback_turn-in-Callback-clause-extends
returns-in_err-callback_turn-in-Callback-clause-extends g c = cut-extends _ _ _ _ c.in_err-callback_turn-in-Callback.ensures.refused

pub returns-in_err-callback_turn-in-Callback-clause-tells : goal.returns-in_err-callback_turn-in-Callback-clause-tells
returns-in_err-callback_turn-in-Callback-clause-tells g c = cut-tells c.args.kernel.now _ _ _ (going_accepts c.args.kernel.now c.requires.going) c.in_err-callback_turn-in-Callback.ensures.refused

pub returns-in_err-store_turn-in-Store-clause-extends : goal.returns-in_err-store_turn-in-Store-clause-extends
returns-in_err-store_turn-in-Store-clause-extends g c = cut-extends _ _ _ _ c.in_err-store_turn-in-Store.ensures.refused

pub returns-in_err-settle_turn-in-Settle-clause-extends : goal.returns-in_err-settle_turn-in-Settle-clause-extends
returns-in_err-settle_turn-in-Settle-clause-extends g c = cut-extends _ _ _ _ c.in_err-settle_turn-in-Settle.ensures.refused

pub returns-in_err-store_turn-in-Store-clause-tells : goal.returns-in_err-store_turn-in-Store-clause-tells
returns-in_err-store_turn-in-Store-clause-tells g c = cut-tells c.args.kernel.now _ _ _ (going_accepts c.args.kernel.now c.requires.going) c.in_err-store_turn-in-Store.ensures.refused

pub returns-in_err-settle_turn-in-Settle-clause-tells : goal.returns-in_err-settle_turn-in-Settle-clause-tells
returns-in_err-settle_turn-in-Settle-clause-tells g c = cut-tells c.args.kernel.now _ _ _ (going_accepts c.args.kernel.now c.requires.going) c.in_err-settle_turn-in-Settle.ensures.refused

pub returns-in_err-fetch-in-Fetch-clause-extends : goal.returns-in_err-fetch-in-Fetch-clause-extends
returns-in_err-fetch-in-Fetch-clause-extends g c = memory-extends _ _ _ c.in_err-fetch-in-Fetch.ensures.refused

pub returns-in_err-fetch-in-Fetch-clause-tells : goal.returns-in_err-fetch-in-Fetch-clause-tells
returns-in_err-fetch-in-Fetch-clause-tells g c = memory-tells c.args.kernel.now _ _ (going_accepts c.args.kernel.now c.requires.going) c.in_err-fetch-in-Fetch.ensures.refused

pub returns-in_err-end_turn-in-End-clause-extends : goal.returns-in_err-end_turn-in-End-clause-extends
returns-in_err-end_turn-in-End-clause-extends g c = memory-extends _ _ _ c.in_err-end_turn-in-End.ensures.refused

pub returns-in_err-end_turn-in-End-clause-tells : goal.returns-in_err-end_turn-in-End-clause-tells
returns-in_err-end_turn-in-End-clause-tells g c = memory-tells c.args.kernel.now _ _ (going_accepts c.args.kernel.now c.requires.going) c.in_err-end_turn-in-End.ensures.refused
