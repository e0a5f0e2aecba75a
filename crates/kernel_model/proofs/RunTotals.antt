-- A kernel stores no more units than the whole run, and in the end as many.
use Rattle.std.proofs.Common.{◌≡◌, ℕ, suc, ◌≤◌, Bool, true, false, List, [], ◌∷◌, length, Option, Some, None, IsSome, refl, sym, ◌∙◌, ap, subst, arith, bytes_eq}
use Rattle.std.specs.Prelude.{if◌then◌else◌}
use Rattle.std.proofs.lemmas.Slice.Eq.{bytes_eq-Decides}
use Rattle.flow_base.specs.declared.outcome.Outcome.{Outcome}
use Rattle.flow_base.specs.declared.outcome.Outcome.TheVariants as o
use Rattle.script_tree.specs.declared.tree.AppDef.{AppDef}
use Rattle.script_tree.specs.Canonical as canonical
use Rattle.flow_meaning.specs.Inputs.{Path}
use Rattle.flow_meaning.specs.Sequential.{Task, Tasks, Sequential, apply, outcome_of, seq}
use Rattle.body_requests.specs.Asks.{Each}
use Rattle.stored_units.specs.declared.units.Limit.TheVariants as limit
use Rattle.stored_units.specs.Totals.{IsWithinLimits}
use Rattle.call_rules.specs.Calls.{Losses, Call, task_of, call_in, found, Begin, Fails, Attempts, Joins, begin, outcome_with}
use Rattle.call_rules.specs.Groups.{AllKnown}
use Rattle.call_rules.specs.Orders.{path_less, Ascending}
use Rattle.call_rules.specs.Told.{whole}
use Rattle.memo_table.specs.Keys.{KeyView}
use Rattle.memo_table.specs.Table as memo
use Rattle.memo_table.specs.declared.saved.Saved.{Saved}
use Rattle.history_laws.specs.Reads.{lost}
use Rattle.history_laws.specs.Tables.{key_with}
use Rattle.kernel_model.specs.Known.{Known, call_at, path_at, settled_outcome, inputs_at, known, key_in, key_at, value_of, is_kept, apps_in, IsDone}
use Rattle.kernel_model.specs.Invariants.{FollowsEvaluation, HasApp, Inv}
use Rattle.kernel_model.specs.Limits.{units_of_memo, stored, passed}
use Rattle.kernel_model.specs.RunTotals.{memo_with, memo_of, run_units, IsWithinRun}
use Rattle.call_rules.proofs.Tasks.{found-first, found-other, outcome-found, same-some, some-of}
use Rattle.call_rules.proofs.Ordering.{After, less-irrefl}
use Rattle.call_rules.proofs.Agreeing.{begin-agrees, begin-attempts}
use Rattle.call_rules.proofs.Evaluating.{whole-ruled}
use Rattle.kernel_model.proofs.Passing.{passed-none, passed-tasks, passed-stored}
use Rattle.kernel_model.proofs.Knowing.{whole-agrees}
use Rattle.kernel_model.proofs.KeepingEnd.{all-there, some-value}
use Rattle.kernel_model.proofs.MemoLists.{with-keeps, with-there_now, IsFrom, before, new, with-from, with-once, IsIn, units-in}
use Rattle.kernel_model.proofs.Totals.{evaluation_of, calls-within, calls-done, units-within, units-done}

-- ---- the values of an evaluation

-- what holds of each task that is found holds of each task
each_task : (P : Task → Type 0) (ts : Tasks) → Ascending ts → ((p : Path) (t : Task) → found ts p ≡ Some t → P t) → Each P ts
each_task P [] ascending h = tt
each_task P (t ∷ ts) ascending h = (h t.path t (found-first t ts), each_task P ts ascending.1 later)
  where
    none_after : (us : Tasks) (s : Task) → After t.path us → found us t.path ≡ Some s → ⊥
    none_after [] s after e = absurd (cc)
    none_after (u ∷ us) s after e = by_test (bytes_eq u.path t.path) refl (none_after us s after.1)
      where
        by_test : (b : Bool) → bytes_eq u.path t.path ≡ b → (found us t.path ≡ Some s → ⊥) → ⊥
        by_test true is further = less-irrefl t.path (subst (λ (q : Path). path_less t.path q ≡ true) ((bytes_eq-Decides u.path t.path).0 is) after.0)
        by_test false is further = further (rw is at e)

    later : (p : Path) (s : Task) → found ts p ≡ Some s → P s
    later p s e = h p s (found-other t ts p (λ same. none_after ts s ascending.0 (ap (found ts) same ∙ e)) ∙ e)

-- the task has this key, and this value
record Gives (apps : List AppDef) (all : Tasks) (t : Task) (key : KeyView) (saved : Saved) : Type 0 where
  has_key : key_in apps all (call_in t) ≡ Some key
  has_value : t.outcome ≡ value_of saved

-- one task keeps what is there
one_keeps : (m : memo.MemoView) (k : Option KeyView) (outcome : Outcome) (key : KeyView) (saved : Saved) → memo.found m key ≡ Some saved → memo.found (memo_with m k outcome) key ≡ Some saved
one_keeps m None outcome key saved h = h
one_keeps m (Some first) (o.Value value files) key saved h = with-keeps m first _ key saved h
one_keeps m (Some first) (o.Failed exception) key saved h = h

one_once : (m : memo.MemoView) (k : Option KeyView) (outcome : Outcome) → memo.AreOnce m → memo.AreOnce (memo_with m k outcome)
one_once m None outcome h = h
one_once m (Some first) (o.Value value files) h = with-once m first _ h
one_once m (Some first) (o.Failed exception) h = h

module _ (apps : List AppDef) (all : Tasks) where
  -- and so do all
  of_keeps : (ts : Tasks) (m : memo.MemoView) (key : KeyView) (saved : Saved) → memo.found m key ≡ Some saved → memo.found (memo_of apps all ts m) key ≡ Some saved
  of_keeps [] m key saved h = h
  of_keeps (t ∷ ts) m key saved h = of_keeps ts _ key saved (one_keeps m (key_in apps all (call_in t)) t.outcome key saved h)

  of_once : (ts : Tasks) (m : memo.MemoView) → memo.AreOnce m → memo.AreOnce (memo_of apps all ts m)
  of_once [] m h = h
  of_once (t ∷ ts) m h = of_once ts _ (one_once m (key_in apps all (call_in t)) t.outcome h)

  -- what holds of the keys and values of the tasks holds of what is stored
  of_all : (Q : KeyView → Saved → Type 0) (ts : Tasks) (m : memo.MemoView) → Each (λ (t : Task). (key : KeyView) (saved : Saved) → Gives apps all t key saved → Q key saved) ts
      → ((key : KeyView) (saved : Saved) → memo.found m key ≡ Some saved → Q key saved)
      → (key : KeyView) (saved : Saved) → memo.found (memo_of apps all ts m) key ≡ Some saved → Q key saved
  of_all Q [] m each holds = holds
  of_all Q (t ∷ ts) m each holds = of_all Q ts _ each.1 (by_key (key_in apps all (call_in t)) t.outcome refl refl)
    where
      by_key : (k : Option KeyView) (outcome : Outcome) → key_in apps all (call_in t) ≡ k → t.outcome ≡ outcome → (key : KeyView) (saved : Saved) → memo.found (memo_with m k outcome) key ≡ Some saved → Q key saved
      by_key None outcome e f key saved h = holds key saved h
      by_key (Some first) (o.Failed exception) e f key saved h = holds key saved h
      by_key (Some first) (o.Value value files) e f key saved h = by_from (with-from m first _ key saved h)
        where
          by_from : IsFrom m first (record { value = value; files = files }) key saved → Q key saved
          by_from (before g) = holds key saved g
          by_from (new same is) = each.0 key saved (record { has_key = e ∙ ap Some (sym same); has_value = f ∙ ap value_of (sym is) })

  -- the value of each task with a key is stored
  of_has : (ts : Tasks) (m : memo.MemoView) (p : Path) (t : Task) (key : KeyView) (saved : Saved) → found ts p ≡ Some t → Gives apps all t key saved → IsSome (memo.found (memo_of apps all ts m) key)
  of_has [] m p t key saved h gives = absurd (cc)
  of_has (s ∷ ts) m p t key saved h gives = by_test (bytes_eq s.path p) refl (of_has ts _ p t key saved)
    where
      here : (k : Option KeyView) (outcome : Outcome) → k ≡ Some key → outcome ≡ value_of saved → IsSome (memo.found (memo_of apps all ts (memo_with m k outcome)) key)
      here k outcome e f = subst (λ (r : Option KeyView). IsSome (memo.found (memo_of apps all ts (memo_with m r outcome)) key)) (sym e)
          (subst (λ (x : Outcome). IsSome (memo.found (memo_of apps all ts (memo_with m (Some key) x)) key)) (sym f)
          (let now = some-value (memo.found (memo.with_saved m key saved) key) (with-there_now m key saved) in some-of _ now.0 (of_keeps ts (memo.with_saved m key saved) key now.0 now.1)))

      by_test : (b : Bool) → bytes_eq s.path p ≡ b → (found ts p ≡ Some t → Gives apps all t key saved → IsSome (memo.found (memo_of apps all (s ∷ ts) m) key)) → IsSome (memo.found (memo_of apps all (s ∷ ts) m) key)
      by_test true e further =
          let same : s ≡ t = same-some s t (rw e at h) in
          here (key_in apps all (call_in s)) s.outcome (ap (λ (x : Task). key_in apps all (call_in x)) same ∙ gives.has_key) (ap (λ (x : Task). x.outcome) same ∙ gives.has_value)
      by_test false e further = further (rw e at h) gives

-- ---- tasks with keys

-- values are told apart by their outcomes
value_same : (a b : Saved) → value_of a ≡ value_of b → a ≡ b
value_same a b h =
    let value : a.value ≡ b.value = cc in
    let files : a.files ≡ b.files = cc in
    λ i. record { value = value i; files = files i }

-- an app of the script has the text of the key, and gives the task's outcome
record IsByApp (apps : List AppDef) (key : KeyView) (outcome : Outcome) : Type 0 where
  app : AppDef
  there : HasApp apps app
  text : canonical.app app ≡ key.app
  gives : outcome ≡ outcome_of (apply app key.arguments key.names)

where_cached : (b : Bool) (k key : KeyView) → (if b then Some k else None) ≡ Some key → k ≡ key
where_cached true k key h = same-some k key h
where_cached false k key h = absurd (cc)

-- a call with a key has the outcome that an app gives, where it isn't lost
by_app : (apps : List AppDef) (losses : Losses) (all : Tasks) (c : Call) (key : KeyView) (outcome : Outcome) → losses c.path ≡ None → outcome ≡ outcome_with apps losses all c (begin apps all c) → key_in apps all c ≡ Some key → IsByApp apps key outcome
by_app apps losses all c key outcome none is has = by_begin (begin apps all c) refl is has
  where
    by_begin : (b : Begin) → begin apps all c ≡ b → outcome ≡ outcome_with apps losses all c b → key_with c.names b ≡ Some key → IsByApp apps key outcome
    by_begin (Fails exception) e f h = absurd (cc)
    by_begin (Joins app values) e f h = absurd (cc)
    by_begin (Attempts app values) e f h =
        let same = where_cached app.cached (record { app = canonical.app app; arguments = values; names = c.names }) key h in
        record {
          app = app;
          there = record { number = c.app; there = (begin-attempts apps all c app values e).1 };
          text = ap (λ (k : KeyView). k.app) same;
          gives = f ∙ rw none (ap (λ (k : KeyView). outcome_of (apply app k.arguments k.names)) same);
        }

module _ (w : Known) (inv : Inv w) where
  abbrev all : Tasks
  all = whole w.tree (lost w.past)

  follows : FollowsEvaluation (lost w.past) w
  follows = inv.holds.right.evaluates (lost w.past) inv.holds.right.fits

  -- a task of the evaluation with a key that is stored has its value
  same_value : (p : Path) (t : Task) (key : KeyView) (saved : Saved) → found all p ≡ Some t → key_in (apps_in w) all (call_in t) ≡ Some key → memo.found w.memo key ≡ Some saved → t.outcome ≡ value_of saved
  same_value p t key saved there has is =
      let ruled = (whole-ruled w.tree inv.holds.told (lost w.past)).ruled p t there in
      let a = by_app (apps_in w) (lost w.past) all (call_in t) key t.outcome refl ruled.outcome has in
      a.gives ∙ inv.holds.memo.values key saved is a.app a.there a.text

  -- a call has the same key in the evaluation
  call_key : (k : ℕ) → AllKnown (known w) (inputs_at w k) → key_in (apps_in w) all (call_at w k) ≡ key_at w k
  call_key k are = ap (key_with (call_at w k).names) (begin-agrees (apps_in w) all (known w) (call_at w k) (whole-agrees w (lost w.past) inv.holds.tracks follows (inputs_at w k) are))

  -- what is stored is stored by the evaluation
  memo_in : IsIn w.memo (memo_of (apps_in w) all all [])
  memo_in key saved is =
      let task = inv.holds.memo.made key (some-of (memo.found w.memo key) saved is) in
      let there = follows.placed task.place task.within in
      let t : Task = task_of (call_at w task.place) there.outcome in
      let has : key_in (apps_in w) all (call_in t) ≡ Some key = call_key task.place task.inputs ∙ task.is in
      let gives : Gives (apps_in w) all t key saved = record { has_key = has; has_value = same_value (path_at w task.place) t key saved there.at has is } in
      let now = some-value (memo.found (memo_of (apps_in w) all all []) key) (of_has (apps_in w) all all [] (path_at w task.place) t key saved there.at gives) in
      now.1 ∙ ap Some (same_saved key saved is now.0 now.1)
    where
      same_saved : (key : KeyView) (saved : Saved) → memo.found w.memo key ≡ Some saved → (other : Saved) → memo.found (memo_of (apps_in w) all all []) key ≡ Some other → other ≡ saved
      same_saved key saved is other h =
          of_all (apps_in w) all (λ k s. k ≡ key → s ≡ saved) all []
          (each_task (λ t. (k : KeyView) (s : Saved) → Gives (apps_in w) all t k s → k ≡ key → s ≡ saved) all (whole-ruled w.tree inv.holds.told (lost w.past)).ascending
          (λ p t at k s gives same. value_same s saved (sym gives.has_value ∙ same_value p t key saved at (gives.has_key ∙ ap Some same) is)))
          (λ k s none. absurd (cc))
          key other h refl

  -- in the end, what the evaluation stores is stored
  memo_done : IsDone w → IsIn (memo_of (apps_in w) all all []) w.memo
  memo_done done =
      of_all (apps_in w) all (λ key saved. memo.found w.memo key ≡ Some saved) all []
      (each_task (λ t. (key : KeyView) (saved : Saved) → Gives (apps_in w) all t key saved → memo.found w.memo key ≡ Some saved) all (whole-ruled w.tree inv.holds.told (lost w.past)).ascending kept_here)
      (λ key saved none. absurd (cc))
    where
      kept_here : (p : Path) (t : Task) → found all p ≡ Some t → (key : KeyView) (saved : Saved) → Gives (apps_in w) all t key saved → memo.found w.memo key ≡ Some saved
      kept_here p t at key saved gives =
          let place = all-there w (lost w.past) inv done follows (suc (length p)) p t (omega arith) at in
          let k = place.place in
          let so = some-value (settled_outcome w k) (done.settled k place.within) in
          let there = follows.placed k place.within in
          let task : t ≡ task_of (call_at w k) there.outcome = same-some t _ (sym at ∙ ap (found all) (sym place.is) ∙ there.at) in
          let fits = inv.holds.right.fits k so.0 so.1 in
          let key_is : key_at w k ≡ Some key = sym (call_key k fits.inputs) ∙ ap (λ (x : Task). key_in (apps_in w) all (call_in x)) (sym task) ∙ gives.has_key in
          let agreed : there.outcome ≡ so.0 = same-some there.outcome so.0 (sym (outcome-found all (path_at w k) (task_of (call_at w k) there.outcome) there.at) ∙ follows.agrees k so.0 so.1) in
          let outcome : so.0 ≡ value_of saved = sym agreed ∙ ap (λ (x : Task). x.outcome) (sym task) ∙ gives.has_value in
          let kept : is_kept w.memo (Some key) (value_of saved) ≡ true = ap (is_kept w.memo (Some key)) (sym outcome) ∙ ap (λ (r : Option KeyView). is_kept w.memo r so.0) (sym key_is) ∙ inv.holds.memo.kept k so.0 so.1 in
          let now = some-value (memo.found w.memo key) kept in
          now.1 ∙ ap Some (value_same now.0 saved (sym (same_value p t key now.0 at gives.has_key now.1) ∙ gives.has_value))

  memo_within : units_of_memo w.memo ≤ units_of_memo (memo_of (apps_in w) all all [])
  memo_within = units-in w.memo (memo_of (apps_in w) all all []) inv.holds.memo.once memo_in

  memo_more : IsDone w → units_of_memo (memo_of (apps_in w) all all []) ≤ units_of_memo w.memo
  memo_more done = units-in (memo_of (apps_in w) all all []) w.memo (of_once (apps_in w) all all [] tt) (memo_done done)

-- ---- the whole run

-- at any time
pub stored-within-run : (w : Known) → Inv w → stored w ≤ run_units (apps_in w) (evaluation_of w)
unfolding seq
stored-within-run w inv = let seen = units-within w inv in let saved = memo_within w inv in omega arith

-- and at the end
pub stored-done-run : (w : Known) → Inv w → IsDone w → stored w ≡ run_units (apps_in w) (evaluation_of w)
unfolding seq
stored-done-run w inv done = let seen = units-done w inv done in let less = memo_within w inv in let more = memo_more w inv done in omega arith

-- a kernel past a limit is that of a run past it
pub past-tasks : (w : Known) → Inv w → passed w ≡ Some limit.Tasks → IsWithinRun (apps_in w) (evaluation_of w) → ⊥
past-tasks w inv past within_run = let many = (passed-tasks w).0 past in let few = within_run.few in let within = calls-within w inv in absurd (omega arith)

pub past-store : (w : Known) → Inv w → passed w ≡ Some limit.Stored → IsWithinRun (apps_in w) (evaluation_of w) → ⊥
past-store w inv past within_run = let many = ((passed-stored w).0 past).1 in let few = within_run.small in let within = stored-within-run w inv in absurd (omega arith)

-- a kernel that is done within the limits is that of such a run
pub done-within : (w : Known) → Inv w → IsDone w → passed w ≡ None → IsWithinRun (apps_in w) (evaluation_of w)
done-within w inv done none =
    let both = (passed-none w).0 none in
    let few = both.0 in
    let small = both.1 in
    let count = calls-done w inv done in
    let total = stored-done-run w inv done in
    record { few = omega arith; small = omega arith }

-- a run within its limits has an evaluation within its own
pub run-limits : (apps : List AppDef) (s : Sequential) → IsWithinRun apps s → IsWithinLimits s
run-limits apps s within = let small = within.small in record { few = within.few; small = omega arith }
