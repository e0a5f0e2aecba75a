-- What monitors are told by each turn.
use Rattle.std.proofs.Common.{◌≡◌, ◌≢◌, ℕ, zero, suc, ◌+◌, ◌<◌, ◌⊎◌, Bool, true, false, List, [], ◌∷◌, ◌++◌, length, Option, Some, None, IsSome, get_or, refl, sym, ◌∙◌, ap, subst, arith, bytes_eq, inl, inr, append-nil, append_assoc, length-set}
use Rattle.std.specs.Prelude.{is_some}
use Rattle.std.proofs.lemmas.Bool.{or_parts}
use Rattle.std.proofs.lemmas.Slice.Eq.{bytes_eq-Decides}
use Rattle.flow_base.specs.declared.value.Value.{out-Value}
use Rattle.flow_base.specs.declared.outcome.Ending.{Ending}
use Rattle.flow_base.specs.declared.outcome.Exception.TheVariants as x
use Rattle.flow_base.specs.declared.outcome.Outcome.{Outcome}
use Rattle.flow_base.specs.declared.outcome.Outcome.TheVariants as o
use Rattle.script_tree.specs.Grammar.{Tree}
use Rattle.task_record.specs.declared.status.Status.{Status}
use Rattle.task_record.specs.declared.status.Status.TheVariants as status
use Rattle.task_record.specs.States.{is_settled}
use Rattle.event_log.specs.declared.entry.Entry.{Entry}
use Rattle.event_log.specs.declared.entry.Entry.TheVariants as entry
use Rattle.dependency_graph.specs.declared.monitor.Settlement.{Settlement}
use Rattle.dependency_graph.specs.Monitors.{tell_first, ToldFirst}
use Rattle.flow_meaning.specs.declared.walk.Request.{Request}
use Rattle.flow_meaning.specs.declared.walk.Request.TheVariants as request
use Rattle.flow_meaning.specs.Act.{Act, Give, Throw, Ask}
use Rattle.flow_meaning.specs.Inputs.{Path, path_in}
use Rattle.flow_meaning.specs.Meaning.{Done}
use Rattle.flow_meaning.specs.Sequential.{Tasks, outcome_at}
use Rattle.call_rules.specs.Calls.{Call, Dry, Begin, Fails, Attempts, Joins, join_dry}
use Rattle.memo_table.specs.declared.saved.Saved.{Saved}
use Rattle.history_laws.specs.Reads.{History, settled, has_end}
use Rattle.history_laws.specs.Tables.{status_of}
use Rattle.kernel_model.specs.declared.answers.Refusal.{Refusal}
use Rattle.kernel_model.specs.declared.answers.Refusal.TheVariants.{NoMemory, TaskLimit, StoreLimit}
use Rattle.kernel_model.specs.Known.{Known, Life, no_call, path_at, life_at, status_at, outcome_in, settled_outcome, known, begin_at, saved_at, value_of, main_left, apps_in, has_ended}
use Rattle.kernel_model.specs.Invariants.{IsReached, Tracks, Inv}
use Rattle.kernel_model.specs.Acts.{started_with, pending, submitted, all_submitted, call_of, put, settlement_as, settled_in, settled_as, recalled, retold, joining, joined, over, refused}
use Rattle.kernel_model.specs.Jobs.{JobView, DoneView}
use Rattle.kernel_model.specs.Turns.{CarriesOut, begins, ends, attempted, carried_out, Fetches, Takes, Stores, Settles, unsettled_step, outcome_step, wait_step, request_step, act_step, unless_ended, script_step}
use Rattle.std.specs.List.{filter}
use Rattle.kernel_model.specs.Telling.{is_settling, settlement_with, settlement_in, settlements_in, settlements, tell_all, AreTold, HasTold}
use Rattle.kernel_model.proofs.Places.{life-same, life-other, known_in-at, known-at, known-only, known-put, known-push, length-pushed, status-within}
use Rattle.kernel_model.proofs.Reading.{path-same}
use Rattle.kernel_model.proofs.KeepingTasks.{by-state}

-- ---- entries

-- an entry settles a task, or it changes no settlement
pub data Kind : Entry → Type 0 where
  settles : (p : Path) (s : Status) → Kind (entry.Settled p s)
  others : (e : Entry) → ((ts : Tasks) → settlement_in ts e ≡ []) → ((p : Path) (b : History) → settled p (e ∷ b) ≡ settled p b) → filter is_settling (e ∷ []) ≡ [] → Kind e

pub kind : (e : Entry) → Kind e
kind (entry.Settled p s) = settles p s
kind (entry.Submit p app) = others _ (λ ts. refl) (λ q b. refl) refl
kind (entry.JoinRun p) = others _ (λ ts. refl) (λ q b. refl) refl
kind (entry.MemoHit p) = others _ (λ ts. refl) (λ q b. refl) refl
kind (entry.Launch p n) = others _ (λ ts. refl) (λ q b. refl) refl
kind (entry.Dispatch p n manager) = others _ (λ ts. refl) (λ q b. refl) refl
kind (entry.Start p n manager) = others _ (λ ts. refl) (λ q b. refl) refl
kind (entry.Ended p n manager word) = others _ (λ ts. refl) (λ q b. refl) refl
kind (entry.Held p n manager) = others _ (λ ts. refl) (λ q b. refl) refl
kind (entry.LostTry p n manager) = others _ (λ ts. refl) (λ q b. refl) refl
kind (entry.Stored p) = others _ (λ ts. refl) (λ q b. refl) refl
kind (entry.Block block state) = others _ (λ ts. refl) (λ q b. refl) refl
kind (entry.Register manager block slots) = others _ (λ ts. refl) (λ q b. refl) refl
kind (entry.Refused block version) = others _ (λ ts. refl) (λ q b. refl) refl
kind (entry.Tick at) = others _ (λ ts. refl) (λ q b. refl) refl
kind (entry.Beat manager) = others _ (λ ts. refl) (λ q b. refl) refl
kind (entry.Silent manager) = others _ (λ ts. refl) (λ q b. refl) refl
kind (entry.Lost manager) = others _ (λ ts. refl) (λ q b. refl) refl
kind (entry.Drain manager) = others _ (λ ts. refl) (λ q b. refl) refl
kind (entry.Drained manager) = others _ (λ ts. refl) (λ q b. refl) refl
kind (entry.Hold manager) = others _ (λ ts. refl) (λ q b. refl) refl
kind (entry.Scale decided) = others _ (λ ts. refl) (λ q b. refl) refl
kind (entry.Checkpoint count) = others _ (λ ts. refl) (λ q b. refl) refl
kind entry.End = others _ (λ ts. refl) (λ q b. refl) refl

pub settled_here : (p : Path) (s : Status) (b : History) → IsSome (settled p (entry.Settled p s ∷ b))
settled_here p s b = rw (path-same p) refl

one_in : (ts us : Tasks) (e : Entry) (b : History) → Kind e → ((p : Path) → IsSome (settled p (e ∷ b)) → outcome_at us p ≡ outcome_at ts p) → settlement_in us e ≡ settlement_in ts e
one_in ts us _ b (settles p s) same = ap (settlement_with p s) (same p (settled_here p s b))
one_in ts us _ b (others e none rest unsettling) same = none us ∙ sym (none ts)

pub settled_more : (e : Entry) (b : History) → Kind e → (p : Path) → IsSome (settled p b) → IsSome (settled p (e ∷ b))
settled_more _ b (settles q s) p h = by_test (bytes_eq p q) refl
  where
    by_test : (t : Bool) → bytes_eq p q ≡ t → IsSome (settled p (entry.Settled q s ∷ b))
    by_test true e = rw e refl
    by_test false e = rw e h
settled_more _ b (others e none rest unsettling) p h = subst (λ (r : Option Status). IsSome r) (sym (rest p b)) h

-- where the settled tasks have the same outcomes, the settlements are the same
same_in : (ts us : Tasks) (b : History) → ((p : Path) → IsSome (settled p b) → outcome_at us p ≡ outcome_at ts p) → settlements_in us b ≡ settlements_in ts b
same_in ts us [] same = refl
same_in ts us (e ∷ b) same =
    ap (λ (l : List Settlement). l ++ settlement_in us e) (same_in ts us b (λ p h. same p (settled_more e b (kind e) p h)))
    ∙ ap (λ (l : List Settlement). settlements_in ts b ++ l) (one_in ts us e b (kind e) same)

-- ---- what has settled is known

none_more : (c : Call) (cs : List Call) (p : Path) → c.path ≢ p → ((k : ℕ) → k < length cs → (get_or cs k no_call).path ≢ p) → (k : ℕ) → k < length (c ∷ cs) → (get_or (c ∷ cs) k no_call).path ≢ p
none_more c cs p ne none zero lt = ne
none_more c cs p ne none (suc k) lt = none k (omega arith)

-- a path is that of a call, or of none
abbrev IsFound : List Call → Path → Type 0
IsFound cs p = ((k : ℕ) × (k < length cs) × ((get_or cs k no_call).path ≡ p)) ⊎ ((k : ℕ) → k < length cs → (get_or cs k no_call).path ≢ p)

find_path : (cs : List Call) (p : Path) → IsFound cs p
find_path [] p = inr (λ k lt. absurd (omega arith))
find_path (c ∷ cs) p = by_test (bytes_eq c.path p) refl (find_path cs p)
  where
    by_test : (t : Bool) → bytes_eq c.path p ≡ t → IsFound cs p → IsFound (c ∷ cs) p
    by_test true e rest = inl (0, omega arith, (bytes_eq-Decides c.path p).0 e)
    by_test false e (inl at) = inl (suc at.0, (let lt = at.1 in omega arith), at.2)
    by_test false e (inr none) = inr (none_more c cs p (λ same. let t = (bytes_eq-Decides c.path p).1 same in cc) none)

ended_by : (life : Life) (s : Status) → is_settled s ≡ true → IsReached life s → IsSome life.end
ended_by life status.ExecDone is reached = reached
ended_by life status.Failed is reached = reached
ended_by life status.DepFail is reached = reached
ended_by life status.MemoDone is reached = reached
ended_by life status.FailRetryable is reached = absurd reached
ended_by life status.Unsched is reached = absurd (cc)
ended_by life status.Pending is reached = absurd (cc)
ended_by life status.Launched is reached = absurd (cc)
ended_by life status.Running is reached = absurd (cc)
ended_by life status.RunningEnded is reached = absurd (cc)
ended_by life status.Joining is reached = absurd (cc)

unsettled_path : (p : Path) (b : History) → settled p b ≡ None → IsSome (settled p b) → ⊥
unsettled_path p b none some = absurd (let bad = rw none at some in cc)

pub settled-known : (w : Known) → Tracks w → (p : Path) → IsSome (settled p w.past) → IsSome (outcome_at (known w) p)
settled-known w tw p h = by_found (find_path w.calls p)
  where
    by_test : (k : ℕ) → k < length w.calls → path_at w k ≡ p → (t : Bool) → is_settled (status_at w k) ≡ t → IsSome (outcome_at (known w) p)
    by_test k lt at true e =
        let here : settled_outcome w k ≡ (life_at w k).end = rw e refl in
        let same : outcome_at (known w) p ≡ (life_at w k).end = ap (outcome_at (known w)) (sym at) ∙ known-at w tw k lt ∙ here in
        subst (λ (r : Option Outcome). IsSome r) (sym same) (ended_by (life_at w k) (status_at w k) e (tw.lived k lt).reached)
    by_test k lt at false e = absurd (unsettled_path p w.past (ap (λ (q : Path). settled q w.past) (sym at) ∙ ((tw.lived k lt).opened e).unsettled) h)

    by_found : IsFound w.calls p → IsSome (outcome_at (known w) p)
    by_found (inl at) = by_test at.0 at.1 at.2 (is_settled (status_at w at.0)) refl
    by_found (inr none) = absurd (unsettled_path p w.past ((tw.none p none).opened refl).unsettled h)

-- the settlements so far stay, where all that is known stays known
pub settlements-kept : (w v : Known) → Tracks w → ((p : Path) (outcome : Outcome) → outcome_at (known w) p ≡ Some outcome → outcome_at (known v) p ≡ Some outcome) → settlements_in (known v) w.past ≡ settlements w
settlements-kept w v tw kept = same_in (known w) (known v) w.past (λ p h. by_found p (outcome_at (known w) p) refl (settled-known w tw p h))
  where
    by_found : (p : Path) (r : Option Outcome) → outcome_at (known w) p ≡ r → IsSome r → outcome_at (known v) p ≡ outcome_at (known w) p
    by_found p None e some = absurd (cc)
    by_found p (Some outcome) e some = kept p outcome e ∙ sym e

-- ---- lists of what was told

pub tell-none : (told : List (List Settlement)) → tell_all [] told ≡ told
tell-none [] = refl
tell-none (seen ∷ told) = ap (λ (l : List Settlement). l ∷ tell_all [] told) (append-nil seen) ∙ ap (λ (ls : List (List Settlement)). seen ∷ ls) (tell-none told)

pub tell-more : (some more : List Settlement) (told : List (List Settlement)) → tell_all more (tell_all some told) ≡ tell_all (some ++ more) told
tell-more some more [] = refl
tell-more some more (seen ∷ told) =
    ap (λ (l : List Settlement). l ∷ tell_all more (tell_all some told)) (append_assoc seen some more)
    ∙ ap (λ (ls : List (List Settlement)). (seen ++ (some ++ more)) ∷ ls) (tell-more some more told)

all_told : (r : Option Refusal) (due told : List (List Settlement)) → r ≡ None → told ≡ due → AreTold r due told
all_told r due told none same = subst (λ (s : Option Refusal). AreTold s due told) (sym none) same

was_told : (r : Option Refusal) (due told : List (List Settlement)) → r ≡ None → AreTold r due told → told ≡ due
was_told r due told none h = subst (λ (s : Option Refusal). AreTold s due told) none h

-- ---- turns that settle nothing

record Same (w v : Known) : Type 0 where
  refusal : v.refusal ≡ w.refusal
  told : v.told ≡ w.told
  listed : settlements v ≡ settlements w

same_told : (w v : Known) → w.refusal ≡ None → Same w v → HasTold w v
same_told w v none same = record {
  new = [];
  since = same.listed ∙ sym (append-nil (settlements w));
  told = all_told v.refusal (tell_all [] w.told) v.told (same.refusal ∙ none) (same.told ∙ sym (tell-none w.told));
}

pub nothing-told : (w v : Known) → w.refusal ≡ None → v ≡ w → HasTold w v
nothing-told w v none same = subst (HasTold w) (sym same) (same_told w w none (record { refusal = refl; told = refl; listed = refl }))

-- a task that isn't settled, neither before nor after
open_outcome : (w : Known) (k : ℕ) (s : Status) → status_at w k ≡ s → is_settled s ≡ false → None ≡ settled_outcome w k
open_outcome w k s is unsettled = let no : is_settled (status_at w k) ≡ false = ap is_settled is ∙ unsettled in rw no refl

put_same : (w : Known) (k : ℕ) (life : Life) (e : Entry) → outcome_in life ≡ settled_outcome w k → ((ts : Tasks) → settlement_in ts e ≡ []) → Same w (put w k life e)
put_same w k life e same none = record {
  refusal = refl;
  told = refl;
  listed =
      let ts : Tasks = known (put w k life e) in
      ap (λ (l : List Settlement). settlements_in ts w.past ++ l) (none ts) ∙ append-nil (settlements_in ts w.past)
      ∙ ap (λ (us : Tasks). settlements_in us w.past) (known-put w k life e same);
}

submit_listed : (w : Known) (c : Call) → length w.lives ≡ length w.calls → settlements (submitted w c) ≡ settlements w
submit_listed w c lives = append-nil (settlements_in (known (submitted w c)) w.past) ∙ ap (λ (ts : Tasks). settlements_in ts w.past) (known-push w.calls w.lives c lives)

submits_same : (w : Known) (cs : List Call) → length w.lives ≡ length w.calls → Same w (all_submitted w cs)
submits_same w [] lives = record { refusal = refl; told = refl; listed = refl }
submits_same w (c ∷ cs) lives =
    let more = submits_same (submitted w c) cs (length-pushed w.lives pending ∙ ap (λ (n : ℕ). n + 1) lives ∙ sym (length-pushed w.calls c)) in
    record { refusal = more.refusal; told = more.told; listed = more.listed ∙ submit_listed w c lives }

joined_same : (w : Known) (k : ℕ) (ran : Dry) → length w.lives ≡ length w.calls → status_at w k ≡ status.Pending → Same w (joined w k ran)
joined_same w k ran lives is =
    let life : Life = record (life_at w k) { status = status.Joining; ran = Some ran.0 } in
    let first = put_same w k life (entry.JoinRun (path_at w k)) (open_outcome w k status.Pending is refl) (λ ts. refl) in
    let rest = submits_same (joining w k ran) ran.1 (length-set w.lives k life ∙ lives) in
    record { refusal = rest.refusal ∙ first.refusal; told = rest.told ∙ first.told; listed = rest.listed ∙ first.listed }

-- ---- a turn that settles

put_kept : (w : Known) (k : ℕ) (life : Life) (e : Entry) → Tracks w → is_settled (status_at w k) ≡ false → (p : Path) (outcome : Outcome) → outcome_at (known w) p ≡ Some outcome → outcome_at (known (put w k life e)) p ≡ Some outcome
put_kept w k life e tw unsettled p outcome h =
    let at = known-only w p outcome h in
    let j = at.place in
    let was : settled_outcome w j ≡ Some outcome = sym (known-at w tw j at.within) ∙ (ap (outcome_at (known w)) at.is ∙ h) in
    let none : None ≡ settled_outcome w k = open_outcome w k (status_at w k) refl unsettled in
    let other : j ≢ k = λ same. (let here = none ∙ subst (λ (n : ℕ). settled_outcome w n ≡ Some outcome) same was in cc) in
    ap (outcome_at (known (put w k life e))) (sym at.is)
    ∙ known_in-at w.calls (put w k life e).lives (length-set w.lives k life ∙ tw.lives) tw.distinct j at.within
    ∙ ap outcome_in (life-other w k j life e other) ∙ was

-- exactly this settlement is new, where other entries before it settle nothing
told_in : (w : Known) (past : History) (k : ℕ) (state : Status) (outcome : Outcome) → ((ts : Tasks) → settlements_in ts past ≡ settlements_in ts w.past) → is_settled state ≡ true → Tracks w → w.refusal ≡ None → k < length w.calls → is_settled (status_at w k) ≡ false
    → HasTold w (settled_in (record w { past = past }) k state outcome)
told_in w past k state outcome listed is tw none within unsettled =
    let p : Path = path_at w k in
    let life : Life = record (life_at w k) { status = state; end = Some outcome } in
    let e : Entry = entry.Settled p state in
    let v : Known = put w k life e in
    let placed : k < length w.lives = (let lives = tw.lives in omega arith) in
    let has : settled_outcome v k ≡ Some outcome = ap outcome_in (life-same w k life e placed) ∙ rw is refl in
    let found : outcome_at (known v) p ≡ Some outcome = known_in-at w.calls v.lives (length-set w.lives k life ∙ tw.lives) tw.distinct k within ∙ has in
    record {
      new = settlement_as w k state outcome ∷ [];
      since =
          ap (λ (l : List Settlement). l ++ settlement_with p state (outcome_at (known v) p)) (listed (known v) ∙ settlements-kept w v tw (put_kept w k life e tw unsettled))
          ∙ ap (λ (r : Option Outcome). settlements w ++ settlement_with p state r) found;
      told = all_told w.refusal _ _ none refl;
    }

pub settled-told : (w : Known) (k : ℕ) (outcome : Outcome) → Tracks w → w.refusal ≡ None → k < length w.calls → is_settled (status_at w k) ≡ false → HasTold w (settled_as w k outcome)
settled-told w k outcome = told_in w w.past k (status_of outcome) outcome (λ ts. refl) (by-state (λ s. is_settled s ≡ true) refl refl refl outcome)

-- a value from the memo settles its task in a state of its own
pub recalled-told : (w : Known) (k : ℕ) (saved : Saved) → Tracks w → w.refusal ≡ None → k < length w.calls → is_settled (status_at w k) ≡ false → HasTold w (recalled w k saved)
recalled-told w k saved = told_in w (entry.MemoHit (path_at w k) ∷ w.past) k status.MemoDone (value_of saved) (λ ts. append-nil (settlements_in ts w.past)) refl

-- ---- each turn

-- where nothing has ended, no turn was refused
pub unrefused : (w : Known) → has_ended w ≡ false → w.refusal ≡ None
unrefused w h = by_refusal w.refusal (or_parts (is_some w.refusal) (has_end w.past) h).0
  where
    by_refusal : (r : Option Refusal) → is_some r ≡ false → r ≡ None
    by_refusal None e = refl
    by_refusal (Some r) e = absurd (cc)

pub script-told : (w : Known) → Inv w → w.refusal ≡ None → HasTold w (script_step w).1
script-told w inv none = same_told w _ none (by_ending w.ending)
  where
    unchanged : Same w w
    unchanged = record { refusal = refl; told = refl; listed = refl }

    by_arrived : (p : Path) (a : Bool) → Same w (unsettled_step w p a).1
    by_arrived p true = unchanged
    by_arrived p false = record { refusal = refl; told = refl; listed = refl }

    by_outcome : (p : Path) (r : Option Outcome) → Same w (outcome_step w p r).1
    by_outcome p None = by_arrived p w.arrived
    by_outcome p (Some outcome) = record { refusal = refl; told = refl; listed = refl }

    by_path : (ps : List Path) → Same w (wait_step w ps).1
    by_path [] = record { refusal = refl; told = refl; listed = refl }
    by_path (p ∷ ps) = by_outcome p (outcome_at (known w) p)

    by_request : (wanted : Request) → Same w (request_step w wanted).1
    by_request (request.Call app arguments names) = record { refusal = refl; told = refl; listed = submit_listed w (call_of w app arguments names) inv.holds.tracks.lives }
    by_request (request.WaitValue f) = by_path (path_in (out-Value f))
    by_request (request.WaitName f) = by_path (path_in (out-Value f))
    by_request (request.Print value) = record { refusal = refl; told = refl; listed = refl }
    by_request request.Checkpoint = record { refusal = refl; told = refl; listed = refl }

    by_act : (a : Act Done) → Same w (act_step w a).1
    by_act (Give d) = record { refusal = refl; told = refl; listed = refl }
    by_act (Throw exception) = record { refusal = refl; told = refl; listed = refl }
    by_act (Ask wanted go) = by_request wanted

    by_ending : (e : Option Ending) → Same w (unless_ended e w (act_step w (main_left w))).1
    by_ending None = by_act (main_left w)
    by_ending (Some e) = unchanged

within_at : (w : Known) → Tracks w → (k : ℕ) (s : Status) → status_at w k ≡ s → (s ≡ status.Unsched → ⊥) → k < length w.calls
within_at w tw k s is begun = status-within w tw.lives k (λ h. begun (sym is ∙ h))

settled_at : (w : Known) (k : ℕ) (s : Status) (outcome : Outcome) → Inv w → w.refusal ≡ None → status_at w k ≡ s → (s ≡ status.Unsched → ⊥) → is_settled s ≡ false → HasTold w (settled_as w k outcome)
settled_at w k s outcome inv none is begun unsettled = settled-told w k outcome inv.holds.tracks none (within_at w inv.holds.tracks k s is begun) (ap is_settled is ∙ unsettled)

pub callback-told : (w v : Known) → Inv w → w.refusal ≡ None → CarriesOut w v → HasTold w v
callback-told w v inv none (begins k callback after) = subst (HasTold w) (sym after) (by_begin (begin_at w k))
  where
    by_saved : (r : Option Saved) → HasTold w (attempted w k r)
    by_saved None = same_told w _ none (put_same w k _ (entry.Launch (path_at w k) ((life_at w k).attempts + 1)) (open_outcome w k status.Pending callback.pending refl) (λ ts. refl))
    by_saved (Some saved) = recalled-told w k saved inv.holds.tracks none (within_at w inv.holds.tracks k status.Pending callback.pending (λ e. absurd (cc))) (ap is_settled callback.pending)

    by_begin : (b : Begin) → HasTold w (carried_out w k b)
    by_begin (Fails exception) = settled_at w k status.Pending (o.Failed exception) inv none callback.pending (λ e. absurd (cc)) refl
    by_begin (Attempts app values) = by_saved (saved_at w k)
    by_begin (Joins app values) = same_told w _ none (joined_same w k (join_dry (apps_in w) (path_at w k) app values) inv.holds.tracks.lives callback.pending)
callback-told w v inv none (ends k is after) = subst (HasTold w) (sym after) (settled_at w k status.Joining _ inv none is.joining (λ e. absurd (cc)) refl)

pub fetch-told : (w : Known) (job : JobView) (v : Known) → w.refusal ≡ None → Fetches w job v → HasTold w v
fetch-told w job v none did =
    let k = did.task in
    subst (HasTold w) (sym did.after) (same_told w _ none (put_same w k _ (entry.Start (path_at w k) (life_at w k).attempts 1) (open_outcome w k status.Launched did.waiting refl) (λ ts. refl)))

pub deliver-told : (w : Known) (done : DoneView) (v : Known) → w.refusal ≡ None → Takes w done v → HasTold w v
deliver-told w done v none did =
    let k = did.task in
    subst (HasTold w) (sym did.after) (same_told w _ none (put_same w k _ _ (open_outcome w k status.Running did.running.running refl) (λ ts. refl)))

-- no monitor is told of what is stored
pub store-told : (w v : Known) → w.refusal ≡ None → Stores w v → HasTold w v
store-told w v none did = subst (HasTold w) (sym did.after) (same_told w _ none (record { refusal = refl; told = refl; listed = append-nil (settlements w) }))

pub settle-told : (w v : Known) → Inv w → w.refusal ≡ None → Settles w v → HasTold w v
settle-told w v inv none did = subst (HasTold w) (sym did.after) (settled_at w did.task status.RunningEnded did.outcome inv none did.ready.over (λ e. absurd (cc)) refl)

pub end-told : (w : Known) → w.refusal ≡ None → HasTold w (over w)
end-told w none = same_told w (over w) none (record { refusal = refl; told = refl; listed = append-nil (settlements w) })

-- ---- a turn that is refused

-- it told no monitor of anything
pub refused-told : (w : Known) (r : Refusal) → w.refusal ≡ None → HasTold w (refused w r)
refused-told w r none = record { new = []; since = sym (append-nil (settlements w)); told = by_cause r }
  where
    no_settlement : Settlement
    no_settlement = record { path = []; status = status.Pending; outcome = o.Failed x.TypeError }

    by_cause : (s : Refusal) → AreTold (Some s) (tell_all [] w.told) w.told
    by_cause NoMemory = record { more = no_settlement; first = record { count = 0; is = sym (tell-none w.told) } }
    by_cause TaskLimit = sym (tell-none w.told)
    by_cause StoreLimit = sym (tell-none w.told)

-- it told the first monitors of this, before memory was wanting
pub some-told : (w : Known) (s : Settlement) (told : List (List Settlement)) → ToldFirst s w.told told → HasTold w (refused (retold told w) NoMemory)
some-told w s told first = record {
  new = [];
  since = sym (append-nil (settlements w));
  told = record { more = s; first = record { count = first.count; is = first.is ∙ ap (tell_first first.count s) (sym (tell-none w.told)) } };
}

-- ---- several turns

pub told-longer : (w u v : Known) → HasTold w u → u.refusal ≡ None → HasTold u v → HasTold w v
told-longer w u v first none second = record {
  new = first.new ++ second.new;
  since = second.since ∙ ap (λ (l : List Settlement). l ++ second.new) first.since ∙ append_assoc (settlements w) first.new second.new;
  told =
      let was : u.told ≡ tell_all first.new w.told = was_told u.refusal _ _ none first.told in
      let due : tell_all second.new u.told ≡ tell_all (first.new ++ second.new) w.told = ap (tell_all second.new) was ∙ tell-more first.new second.new w.told in
      subst (λ (d : List (List Settlement)). AreTold v.refusal d v.told) due second.told;
}

-- from a kernel without settlements on, all settlements are new
pub told-all : (w v : Known) → settlements w ≡ [] → HasTold w v → AreTold v.refusal (tell_all (settlements v) w.told) v.told
told-all w v none h =
    let all : h.new ≡ settlements v = sym (h.since ∙ ap (λ (l : List Settlement). l ++ h.new) none) in
    subst (λ (l : List Settlement). AreTold v.refusal (tell_all l w.told) v.told) all h.told

pub told-whole : (tree : Tree) (told : List (List Settlement)) (v : Known) → HasTold (started_with tree told) v → AreTold v.refusal (tell_all (settlements v) told) v.told
told-whole tree told v h = told-all (started_with tree told) v refl h
