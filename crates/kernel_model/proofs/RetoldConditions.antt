-- No condition of an act reads what the monitors were told.
use Rattle.std.proofs.Common.{ℕ, List}
use Rattle.flow_base.specs.declared.outcome.Ending.{Ending}
use Rattle.flow_base.specs.declared.outcome.Exception.{Exception}
use Rattle.flow_base.specs.declared.outcome.Outcome.{Outcome}
use Rattle.dependency_graph.specs.declared.monitor.Settlement.{Settlement}
use Rattle.flow_meaning.specs.declared.walk.Request.{Request}
use Rattle.call_rules.specs.Calls.{Call, Dry}
use Rattle.memo_table.specs.Keys.{KeyView}
use Rattle.memo_table.specs.declared.saved.Saved.{Saved}
use Rattle.kernel_model.specs.Known.{Known}
use Rattle.kernel_model.specs.Acts.{retold}
use Rattle.kernel_model.specs.Conditions.{CanLaunch, CanStart, CanFinish, CanFail, CanSettle, CanRecall, CanStore, CanJoin, CanSubmitChild, CanEndJoin, MainAsks, CanEndMain, CanEnd}
use Rattle.kernel_model.proofs.Retelling.{callback-retold, join-retold, store-retold, settling-retold, done-retold}

-- Each lemma serves both ways: for the other way give it `(retold told w) w.told`, since
-- `retold w.told (retold told w)` is w.
module _ (w : Known) (told : List (List Settlement)) where
  pub can-launch-retold : (k : ℕ) → CanLaunch w k → CanLaunch (retold told w) k
  can-launch-retold k can = record { not_ended = can.not_ended; callback = callback-retold w told k can.callback; app = can.app; values = can.values; begins = can.begins; unsaved = can.unsaved }

  pub can-start-retold : (k : ℕ) → CanStart w k → CanStart (retold told w) k
  can-start-retold k can = record { not_ended = can.not_ended; waiting = can.waiting }

  pub can-finish-retold : (k : ℕ) (outcome : Outcome) → CanFinish w k outcome → CanFinish (retold told w) k outcome
  can-finish-retold k outcome can = record { not_ended = can.not_ended; running = can.running; is = can.is }

  pub can-fail-retold : (k : ℕ) (exception : Exception) → CanFail w k exception → CanFail (retold told w) k exception
  can-fail-retold k exception can = record { not_ended = can.not_ended; callback = callback-retold w told k can.callback; begins = can.begins }

  pub can-settle-retold : (k : ℕ) (outcome : Outcome) → CanSettle w k outcome → CanSettle (retold told w) k outcome
  can-settle-retold k outcome can = record { not_ended = can.not_ended; ready = settling-retold w told k outcome can.ready }

  pub can-recall-retold : (k : ℕ) (saved : Saved) → CanRecall w k saved → CanRecall (retold told w) k saved
  can-recall-retold k saved can = record { not_ended = can.not_ended; callback = callback-retold w told k can.callback; is = can.is }

  pub can-store-retold : (k : ℕ) (key : KeyView) (saved : Saved) → CanStore w k key saved → CanStore (retold told w) k key saved
  can-store-retold k key saved can = record { not_ended = can.not_ended; store = store-retold w told k key saved can.store }

  pub can-join-retold : (k : ℕ) (ran : Dry) → CanJoin w k ran → CanJoin (retold told w) k ran
  can-join-retold k ran can = record { not_ended = can.not_ended; callback = callback-retold w told k can.callback; app = can.app; values = can.values; begins = can.begins; is = can.is }

  pub can-submit-child-retold : (k n : ℕ) (c : Call) → CanSubmitChild w k n c → CanSubmitChild (retold told w) k n c
  can-submit-child-retold k n c can = record { not_ended = can.not_ended; within = can.within; is_due = can.is_due; is = can.is }

  pub can-end-join-retold : (k : ℕ) (outcome : Outcome) → CanEndJoin w k outcome → CanEndJoin (retold told w) k outcome
  can-end-join-retold k outcome can = record { not_ended = can.not_ended; done = join-retold w told k can.done; is = can.is }

  pub main-asks-retold : (wanted : Request) → MainAsks w wanted → MainAsks (retold told w) wanted
  main-asks-retold wanted asks = record { not_ended = asks.not_ended; going = asks.going; go = asks.go; left = asks.left }

  pub can-end-main-retold : (e : Ending) → CanEndMain w e → CanEndMain (retold told w) e
  can-end-main-retold e can = record { not_ended = can.not_ended; going = can.going; ends = can.ends }

  pub can-end-retold : CanEnd w → CanEnd (retold told w)
  can-end-retold can = record { not_ended = can.not_ended; done = done-retold w told can.done }
