-- Histories only grow.
use Rattle.std.proofs.Common.{◌≡◌, ℕ, Bool, true, false, List, [], ◌∷◌, ◌++◌, Option, Some, None, refl, sym, ◌∙◌, ap, subst, append_assoc}
use Rattle.flow_base.specs.declared.value.Value.{out-Value}
use Rattle.flow_base.specs.declared.outcome.Ending.{Ending}
use Rattle.flow_base.specs.declared.outcome.Outcome.{Outcome}
use Rattle.event_log.specs.declared.entry.Entry.{Entry}
use Rattle.flow_meaning.specs.declared.walk.Request.{Request}
use Rattle.flow_meaning.specs.declared.walk.Request.TheVariants as request
use Rattle.flow_meaning.specs.Act.{Act, Give, Throw, Ask}
use Rattle.flow_meaning.specs.Inputs.{Path, path_in}
use Rattle.flow_meaning.specs.Meaning.{Done}
use Rattle.flow_meaning.specs.Sequential.{outcome_at}
use Rattle.call_rules.specs.Calls.{Call, Begin, Fails, Attempts, Joins, join_dry}
use Rattle.memo_table.specs.declared.saved.Saved.{Saved}
use Rattle.kernel_model.specs.declared.answers.Delivered.{Delivered}
use Rattle.kernel_model.specs.declared.answers.Delivered.TheVariants.{Taken, Stale}
use Rattle.kernel_model.specs.Jobs.{JobView, DoneView}
use Rattle.kernel_model.specs.Known.{Known, known, begin_at, saved_at, path_at, apps_in, main_left}
use Rattle.kernel_model.specs.Acts.{submitted, all_submitted, joining}
use Rattle.kernel_model.specs.Turns.{unsettled_step, outcome_step, wait_step, request_step, act_step, unless_ended, script_step, CarriesOut, begins, ends, attempted, carried_out, CallbackTurn, FetchTurn, DeliverTurn, StoreTurn, SettleTurn, EndTurn, Extends}

pub extends_same : (w v : Known) → v ≡ w → Extends w v
extends_same w v e = record { added = []; past = ap (λ (u : Known). u.past) e; tree = ap (λ (u : Known). u.tree) e }

pub extends_on : (w u v : Known) → Extends w u → Extends u v → Extends w v
extends_on w u v a b = record {
  added = b.added ++ a.added;
  past = b.past ∙ ap (λ (p : List Entry). b.added ++ p) a.past ∙ sym (append_assoc b.added a.added w.past);
  tree = b.tree ∙ a.tree;
}

extends_as : (w u v : Known) → v ≡ u → Extends w u → Extends w v
extends_as w u v e extends = subst (λ (x : Known). Extends w x) (sym e) extends

-- ---- main

extends_unsettled : (w : Known) (p : Path) (arrived : Bool) → Extends w (unsettled_step w p arrived).1
extends_unsettled w p true = extends_same w w refl
extends_unsettled w p false = record { added = []; past = refl; tree = refl }

extends_outcome : (w : Known) (p : Path) (outcome : Option Outcome) → Extends w (outcome_step w p outcome).1
extends_outcome w p None = extends_unsettled w p w.arrived
extends_outcome w p (Some outcome) = record { added = []; past = refl; tree = refl }

extends_wait : (w : Known) (ps : List Path) → Extends w (wait_step w ps).1
extends_wait w [] = record { added = []; past = refl; tree = refl }
extends_wait w (p ∷ ps) = extends_outcome w p (outcome_at (known w) p)

extends_request : (w : Known) (wanted : Request) → Extends w (request_step w wanted).1
extends_request w (request.Call app arguments names) = record { added = _ ∷ []; past = refl; tree = refl }
extends_request w (request.WaitValue f) = extends_wait w (path_in (out-Value f))
extends_request w (request.WaitName f) = extends_wait w (path_in (out-Value f))
extends_request w (request.Print value) = record { added = []; past = refl; tree = refl }
extends_request w request.Checkpoint = record { added = []; past = refl; tree = refl }

extends_act : (w : Known) (act : Act Done) → Extends w (act_step w act).1
extends_act w (Give d) = record { added = []; past = refl; tree = refl }
extends_act w (Throw exception) = record { added = []; past = refl; tree = refl }
extends_act w (Ask wanted go) = extends_request w wanted

extends_step : (w : Known) (ending : Option Ending) → Extends w (unless_ended ending w (act_step w (main_left w))).1
extends_step w None = extends_act w (main_left w)
extends_step w (Some ending) = extends_same w w refl

pub extends_script : (w v : Known) → v ≡ (script_step w).1 → Extends w v
extends_script w v e = extends_as w _ v e (extends_step w w.ending)

-- ---- tasks

extends_submitted : (w : Known) (cs : List Call) → Extends w (all_submitted w cs)
extends_submitted w [] = extends_same w w refl
extends_submitted w (c ∷ cs) = extends_on w (submitted w c) (all_submitted (submitted w c) cs) (record { added = _ ∷ []; past = refl; tree = refl }) (extends_submitted (submitted w c) cs)

extends_attempted : (w : Known) (k : ℕ) (saved : Option Saved) → Extends w (attempted w k saved)
extends_attempted w k None = record { added = _ ∷ []; past = refl; tree = refl }
extends_attempted w k (Some saved) = record { added = _ ∷ _ ∷ []; past = refl; tree = refl }

extends_carried : (w : Known) (k : ℕ) (b : Begin) → Extends w (carried_out w k b)
extends_carried w k (Fails exception) = record { added = _ ∷ []; past = refl; tree = refl }
extends_carried w k (Attempts app values) = extends_attempted w k (saved_at w k)
extends_carried w k (Joins app values) =
    let ran = join_dry (apps_in w) (path_at w k) app values in
    extends_on w (joining w k ran) (all_submitted (joining w k ran) ran.1) (record { added = _ ∷ []; past = refl; tree = refl }) (extends_submitted (joining w k ran) ran.1)

extends_carries : (w v : Known) → CarriesOut w v → Extends w v
extends_carries w v (begins k is after) = extends_as w _ v after (extends_carried w k (begin_at w k))
extends_carries w v (ends k is after) = extends_as w _ v after (record { added = _ ∷ []; past = refl; tree = refl })

pub extends_callback : (w v : Known) (did : Bool) → CallbackTurn w did v → Extends w v
extends_callback w v true did = extends_carries w v did
extends_callback w v false did = extends_same w v did.2

pub extends_fetch : (w v : Known) (job : Option JobView) → FetchTurn w job v → Extends w v
extends_fetch w v (Some job) did = extends_as w _ v did.after (record { added = _ ∷ []; past = refl; tree = refl })
extends_fetch w v None did = extends_same w v did.1

pub extends_deliver : (w v : Known) (done : DoneView) (answer : Delivered) → DeliverTurn w done answer v → Extends w v
extends_deliver w v done Taken did = extends_as w _ v did.after (record { added = _ ∷ []; past = refl; tree = refl })
extends_deliver w v done Stale did = extends_same w v did.1

pub extends_store : (w v : Known) (did : Bool) → StoreTurn w did v → Extends w v
extends_store w v true did = extends_as w _ v did.after (record { added = _ ∷ []; past = refl; tree = refl })
extends_store w v false did = extends_same w v did.1

pub extends_settle : (w v : Known) (did : Bool) → SettleTurn w did v → Extends w v
extends_settle w v true did = extends_as w _ v did.after (record { added = _ ∷ []; past = refl; tree = refl })
extends_settle w v false did = extends_same w v did.1

pub extends_end : (w v : Known) (did : Bool) → EndTurn w did v → Extends w v
extends_end w v true did = extends_as w _ v did.1 (record { added = _ ∷ []; past = refl; tree = refl })
extends_end w v false did = extends_same w v did.1
