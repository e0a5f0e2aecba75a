-- What monitors are told in a run.
use Rattle.std.proofs.Common.{◌≡◌, ℕ, Bool, true, false, List, [], ◌++◌, map, Option, Some, None, refl, sym, ◌∙◌, ap, subst}
use Rattle.std.specs.Prelude.{reverse}
use Rattle.std.specs.List.{filter}
use Rattle.std.proofs.lemmas.List.{reverse-reverse}
use Rattle.std.proofs.lemmas.List.Elements.{All-nil, All-weaker}
use Rattle.flow_base.specs.declared.outcome.Exception.TheVariants as x
use Rattle.flow_base.specs.declared.outcome.Outcome.{Outcome}
use Rattle.flow_base.specs.declared.outcome.Outcome.TheVariants as o
use Rattle.task_record.specs.declared.status.Status.TheVariants as status
use Rattle.script_tree.specs.Grammar.{Tree}
use Rattle.event_log.specs.declared.entry.Entry.{Entry}
use Rattle.dependency_graph.specs.declared.monitor.Settlement.{Settlement}
use Rattle.flow_meaning.specs.Inputs.{Path}
use Rattle.flow_meaning.specs.Sequential.{outcome_at}
use Rattle.history_laws.specs.Reads.{history_of}
use Rattle.kernel_model.specs.declared.answers.Refusal.{Refusal}
use Rattle.kernel_model.specs.declared.answers.Refusal.TheVariants.{NoMemory}
use Rattle.kernel_model.specs.declared.answers.Delivered.{Delivered}
use Rattle.kernel_model.specs.declared.answers.Delivered.TheVariants.{Taken, Stale}
use Rattle.kernel_model.specs.Acts.{refused}
use Rattle.kernel_model.specs.Jobs.{JobView, DoneView}
use Rattle.kernel_model.specs.Turns.{FetchTurn, DeliverTurn, StoreTurn}
use Rattle.kernel_model.specs.Invariants.{Inv, Tracks}
use Rattle.kernel_model.specs.Known.{Known, known, path_at, settled_outcome}
use Rattle.kernel_model.specs.Telling.{is_settling, settling, settlements, tell_all, AreTold, HasToldBy, HasTold}
use Rattle.kernel_model.proofs.Places.{known-only, known-at}
use Rattle.kernel_model.proofs.SettledLogs.{settling-log, settled-outcomes}
use Rattle.kernel_model.proofs.Telling.{nothing-told, store-told, tell-none, told-longer}
use Rattle.kernel_core.proofs.TurnsTold.{fetch-tells, deliver-tells, no-turn-tells}
use Rattle.parsl_engine.specs.Runs.{without_losses}
use Rattle.parsl_engine.specs.Tellings.{Ledgers, TellsRun}

no_settlement : Settlement
no_settlement = record { path = []; status = status.Pending; outcome = o.Failed x.TypeError }

-- where nothing was refused
pub told-ok : (w v : Known) → HasTold w v → v.refusal ≡ None → HasToldBy None w v
told-ok w v h none = subst (λ (r : Option Refusal). HasToldBy r w v) none h

-- where this was
pub told-err : (w v : Known) (refusal : Refusal) → HasTold w v → v.refusal ≡ Some refusal → HasToldBy (Some refusal) w v
told-err w v refusal h is = subst (λ (r : Option Refusal). HasToldBy r w v) is h

pub told-from : (r : Option Refusal) (w u v : Known) → u ≡ w → HasToldBy r u v → HasToldBy r w v
told-from r w u v same h = subst (λ (x : Known). HasToldBy r x v) same h

pub memory-told : (w v : Known) (refusal : Refusal) → HasTold w v → (refusal ≡ NoMemory) × (v ≡ refused w NoMemory) → HasToldBy (Some refusal) w v
memory-told w v refusal h is = told-err w v refusal h (ap (λ (u : Known). u.refusal) is.1 ∙ ap Some (sym is.0))

-- one turn more, whether it was refused or not
pub told-on : (r : Option Refusal) (w u v : Known) → HasToldBy None w u → HasToldBy r u v → HasToldBy r w v
told-on r w u v first second =
    let h = told-longer w (record u { refusal = None }) (record v { refusal = r }) (record { new = first.new; since = first.since; told = first.told }) refl (record { new = second.new; since = second.since; told = second.told }) in
    record { new = h.new; since = h.since; told = h.told }

-- where memory is wanting without a turn, no monitor is told of more
pub told-less : (w v : Known) → HasToldBy None w v → HasToldBy (Some NoMemory) w v
told-less w v h = record { new = h.new; since = h.since; told = record { more = no_settlement; first = record { count = 0; is = h.told } } }

pub fetch-told-ok : (w v : Known) (job : Option JobView) → w.refusal ≡ None → FetchTurn w job v → HasToldBy None w v
fetch-told-ok w v (Some job) none turn = told-ok w v (fetch-tells w v (Some job) none turn) (ap (λ (u : Known). u.refusal) turn.after ∙ none)
fetch-told-ok w v None none turn = told-ok w v (fetch-tells w v None none turn) (ap (λ (u : Known). u.refusal) turn.1 ∙ none)

deliver_told_ok : (w v : Known) (done : DoneView) (answer : Delivered) → w.refusal ≡ None → DeliverTurn w done answer v → HasToldBy None w v
deliver_told_ok w v done Taken none turn = told-ok w v (deliver-tells w v done Taken none turn) (ap (λ (u : Known). u.refusal) turn.after ∙ none)
deliver_told_ok w v done Stale none turn = told-ok w v (deliver-tells w v done Stale none turn) (ap (λ (u : Known). u.refusal) turn.1 ∙ none)

fetch_accepts : (w v : Known) (job : Option JobView) → w.refusal ≡ None → FetchTurn w job v → v.refusal ≡ None
fetch_accepts w v (Some job) none turn = ap (λ (u : Known). u.refusal) turn.after ∙ none
fetch_accepts w v None none turn = ap (λ (u : Known). u.refusal) turn.1 ∙ none

-- an attempt that is fetched and delivered
pub attempt-told : (w u v : Known) (job : Option JobView) (done : DoneView) (answer : Delivered) → w.refusal ≡ None → FetchTurn w job u → DeliverTurn u done answer v → HasToldBy None w v
attempt-told w u v job done answer none fetched delivered = told-on None w u v (fetch-told-ok w u job none fetched) (deliver_told_ok u v done answer (fetch_accepts w u job none fetched) delivered)

-- a store tells no monitor
pub store-tells : (w v : Known) (did : Bool) → w.refusal ≡ None → StoreTurn w did v → HasTold w v
store-tells w v true none did = store-told w v none did
store-tells w v false none did = nothing-told w v none did.1

-- before any turn
pub none-told : (w : Known) → w.refusal ≡ None → HasToldBy None w w
none-told w none = told-ok w w (no-turn-tells w) none

-- ---- a whole run

-- each outcome that is known is that of the sequential evaluation
known_evaluated : (v : Known) → Tracks v → ((k : ℕ) (outcome : Outcome) → settled_outcome v k ≡ Some outcome → outcome_at (without_losses v.tree).tasks (path_at v k) ≡ Some outcome) → (p : Path) (outcome : Outcome) → outcome_at (known v) p ≡ Some outcome → outcome_at (without_losses v.tree).tasks p ≡ Some outcome
known_evaluated v tracks outcomes p outcome h =
    let at = known-only v p outcome h in
    let settled : settled_outcome v at.place ≡ Some outcome = sym (known-at v tracks at.place at.within) ∙ (ap (outcome_at (known v)) at.is ∙ h) in
    ap (outcome_at (without_losses v.tree).tasks) (sym at.is) ∙ outcomes at.place outcome settled

log_settles : (v : Known) (log : List Entry) → Tracks v → history_of log ≡ v.past → filter is_settling log ≡ map settling (settlements v)
log_settles v log tracks is = ap (filter is_settling) (sym (reverse-reverse log) ∙ ap reverse is) ∙ settling-log v tracks

-- from a kernel without settlements on, all those of the history are new
pub run-tells : (tree : Tree) (w v : Known) (r : Option Refusal) (log : List Entry) (told' : Ledgers) → v.tree ≡ tree → settlements w ≡ [] → Inv v
    → ((k : ℕ) (outcome : Outcome) → settled_outcome v k ≡ Some outcome → outcome_at (without_losses v.tree).tasks (path_at v k) ≡ Some outcome)
    → HasToldBy r w v → history_of log ≡ v.past → told' ≡ v.told → TellsRun tree r log w.told told'
run-tells tree w v r log told' of none inv outcomes h is told =
    let all : h.new ≡ settlements v = sym (h.since ∙ ap (λ (l : List Settlement). l ++ h.new) none) in
    subst (λ (t : Tree). TellsRun t r log w.told told') of (record {
      new = settlements v;
      are = record {
        entries = log_settles v log inv.holds.tracks is;
        outcomes = All-weaker (λ (s : Settlement). outcome_at (known v) s.path ≡ Some s.outcome) (λ (s : Settlement). outcome_at (without_losses v.tree).tasks s.path ≡ Some s.outcome) (λ s. known_evaluated v inv.holds.tracks outcomes s.path s.outcome) (settlements v) (settled-outcomes v);
      };
      due = subst (λ (l : List Settlement). AreTold r (tell_all l w.told) told') all (subst (AreTold r (tell_all h.new w.told)) (sym told) h.told);
    })

-- a run that could not begin told of nothing
pub unopened-tells : (tree : Tree) (refusal : Refusal) (log : List Entry) (told told' : Ledgers) → refusal ≡ NoMemory → log ≡ [] → told' ≡ told → TellsRun tree (Some refusal) log told told'
unopened-tells tree refusal log told told' is none same = subst (λ (l : List Entry). TellsRun tree (Some refusal) l told told') (sym none) (record {
  new = [];
  are = record { entries = refl; outcomes = All-nil (λ (s : Settlement). outcome_at (without_losses tree).tasks s.path ≡ Some s.outcome) };
  due = subst (λ (r : Refusal). AreTold (Some r) (tell_all [] told) told') (sym is) (record { more = no_settlement; first = record { count = 0; is = same ∙ sym (tell-none told) } });
})
