-- A submission keeps what a kernel keeps; the run of a join with its submissions.
use Rattle.std.proofs.Common.{◌≡◌, ◌≢◌, ℕ, suc, ◌+◌, ◌<◌, ◌≤◌, Bool, true, false, if◌then◌else◌, List, [], ◌∷◌, length, Option, Some, None, IsSome, refl, sym, ◌∙◌, ap, subst, arith, bytes_eq, inl, inr}
use Rattle.std.specs.Prelude.{slice_get, Result}
use Rattle.std.proofs.lemmas.Bool.{cases_eq, cases_lt}
use Rattle.std.proofs.lemmas.List.{get_or_append_left, get_or_push, get_or_past}
use Rattle.flow_base.specs.declared.outcome.Exception.{Exception}
use Rattle.flow_base.specs.declared.outcome.Outcome.{Outcome}
use Rattle.task_record.specs.declared.status.Status.TheVariants as status
use Rattle.event_log.specs.declared.entry.Entry.TheVariants as entry
use Rattle.flow_meaning.specs.declared.walk.Answer.{Answer}
use Rattle.flow_meaning.specs.Evaluations.{no_losses, name_in}
use Rattle.flow_meaning.specs.Inputs.{Path}
use Rattle.flow_meaning.specs.Meaning.{Done}
use Rattle.flow_meaning.specs.Sequential.{Tasks, outcome_at, MainAct}
use Rattle.call_rules.specs.Calls.{Losses, Call, Dry, child, calls_below, calls_with, call_outcome, join_dry}
use Rattle.history_laws.specs.Reads.{History, one_more, submits, is_of_main, is_submitted, due, lost}
use Rattle.history_laws.specs.Tables.{task_at, acts_of, is_join, table}
use Rattle.history_laws.specs.Laws.{follows, calls_in_task}
use Rattle.kernel_model.specs.Known.{Known, no_call, no_life, no_retries, call_at, path_at, life_at, status_at, outcome_in, settled_outcome, inputs_at, known, begin_at, main_left, has_ended, apps_in}
use Rattle.kernel_model.specs.Invariants.{IsLife, HasRun, IsCall, IsOf, of_join, IsDue, FitsLosses, FollowsEvaluation, Tracks, IsAttempted, Runs, IsJoined, JoinsRan, Memoises, IsConsistent, Inv, GrowsInto}
use Rattle.kernel_model.specs.Acts.{pending, submit_of, submitted, all_submitted, joining, joined}
use Rattle.kernel_model.specs.Conditions.{CanJoin, CanSubmitChild}
use Rattle.call_rules.proofs.Tasks.{child-same, some-of, slice-within, same-some}
use Rattle.call_rules.proofs.Agreeing.{calls-agree}
use Rattle.kernel_model.proofs.Places.{settled-within, run-within, ran-within, known-push, pushed-cases, outcome-pushed, length-pushed}
use Rattle.kernel_model.proofs.Reading.{path-same, submit-life, waits-stay}
use Rattle.kernel_model.proofs.Growing.{grows-begin, fits-on, fits-back}
use Rattle.kernel_model.proofs.Memos.{memo-stays}
use Rattle.kernel_model.proofs.Knowing.{knows-call, ruled-at, calls-path, whole-agrees}
use Rattle.kernel_model.proofs.KeepingPut.{joined-grows, call-grows, open-yet, attempted-on, ended-on, family-on}
use Rattle.kernel_model.proofs.KeepingTasks.{path-long, keep-joining, joining-begin, joining-within}
use Rattle.history_laws.proofs.Dues.{due-path, due-count, due_of}
use Rattle.call_rules.specs.Groups.{HasTask}
use Rattle.call_rules.specs.Told.{whole, Asks}

-- a submission, with what main did at it
abbrev pub grown : Known → Call → List Answer → Bool → List MainAct → Known
grown w c answers arrived acts = record (submitted w c) { answers = answers; arrived = arrived; acts = acts }

module _ (w : Known) (c : Call) (answers : List Answer) (arrived : Bool) (acts : List MainAct) where
  -- the kernel with it
  abbrev pub after_it : Known
  after_it = grown w c answers arrived acts

  pub new-call : call_at after_it (length w.calls) ≡ c
  new-call = get_or_push w.calls c no_call (length w.calls) refl

  pub old-call : (k : ℕ) → k < length w.calls → call_at after_it k ≡ call_at w k
  old-call k lt = get_or_append_left w.calls (c ∷ []) no_call k lt

  pub submit-grows : GrowsInto w after_it
  submit-grows = record {
    tree = refl;
    outcome = λ k outcome h. outcome-pushed w.lives k ∙ h;
    calls = let long = length-pushed w.calls c in omega arith;
    call = old-call;
  }

  -- each place is an old one, or the new one
  pub by-place : (P : ℕ → Type 0) → ((k : ℕ) → k < length w.calls → P k) → P (length w.calls) → (k : ℕ) → k < length after_it.calls → P k
  by-place P old new k lt =
      elim (cases_lt k (length w.calls)) [
        | inl less ↦ old k less
        | inr past ↦ let long = length-pushed w.calls c in let same : length w.calls ≡ k = omega arith in subst P same new
      ]

  submitted_if : (t b : Bool) → b ≡ true → (if t then true else b) ≡ true
  submitted_if true b h = refl
  submitted_if false b h = h

  -- it is what the history says of a task that isn't there yet
  pending_life : (p : Path) (b : History) → IsLife no_retries p b no_life → IsLife no_retries p b pending
  pending_life p b h =
      let before = h.opened refl in
      record {
        reached = refl;
        first = λ e. refl;
        joined = h.joined;
        hit = h.hit;
        opened = λ e. record { attempts = before.attempts; costs = before.costs; stage = before.stage; last = before.last; unsettled = before.unsettled };
        closed = λ e. absurd (cc);
      }

  old_path : (k : ℕ) → k < length w.calls → path_at after_it k ≡ path_at w k
  old_path k lt = ap (λ (d : Call). d.path) (old-call k lt)

  pub submit-tracks : IsConsistent w → ((k : ℕ) → k < length w.calls → path_at w k ≢ c.path) → submits w.past ≤ submits after_it.past → IsOf after_it (length w.calls) → Tracks after_it
  submit-tracks h fresh more kind =
      let tw = h.tracks in
      let n : ℕ = length w.calls in
      let here : path_at after_it n ≡ c.path = ap (λ (d : Call). d.path) new-call in
      let same_lives = tw.lives in
      let lives : length after_it.lives ≡ length after_it.calls = (let a = length-pushed w.lives pending in let b = length-pushed w.calls c in omega arith) in
      let life_of : (k : ℕ) → k < length after_it.calls → IsLife no_retries (path_at after_it k) after_it.past (life_at after_it k) = λ k lt.
      pushed-cases w.lives k (λ j life. j < length after_it.calls → IsLife no_retries (path_at after_it j) after_it.past life)
      (λ g. rw same_lives (subst (λ (p : Path). IsLife no_retries p after_it.past pending) (sym here) (submit-life no_retries c.path _ c.path w.past pending (pending_life c.path w.past (tw.none c.path fresh)))))
      (λ ne g. let less : k < n = (let a = length-pushed w.calls c in omega arith) in subst (λ (p : Path). IsLife no_retries p after_it.past (life_at w k)) (sym (old_path k less)) (submit-life no_retries c.path _ (path_at w k) w.past (life_at w k) (tw.lived k less))) lt in
      record {
        lives = lives;
        distinct = λ j k lj lk. by-place (λ m. path_at after_it j ≡ path_at after_it m → j ≡ m)
            (λ m less. by-place (λ i. path_at after_it i ≡ path_at after_it m → i ≡ m)
            (λ i small e. tw.distinct i m small less (sym (old_path i small) ∙ e ∙ old_path m less))
            (λ e. absurd (fresh m less (sym (old_path m less) ∙ sym e ∙ here))) j lj)
            (by-place (λ i. path_at after_it i ≡ path_at after_it n → i ≡ n)
            (λ i small e. absurd (fresh i small (sym (old_path i small) ∙ e ∙ here)))
            (λ e. refl) j lj) k lk;
        there = by-place (λ k. is_submitted (path_at after_it k) after_it.past ≡ true)
            (λ k less. subst (λ (p : Path). is_submitted p after_it.past ≡ true) (sym (old_path k less)) (submitted_if (bytes_eq (path_at w k) c.path) (is_submitted (path_at w k) w.past) (tw.there k less)))
            (rw (here, path-same c.path) refl);
        lived = life_of;
        none = λ p ne. submit-life no_retries c.path _ p w.past no_life (tw.none p (λ k less e. ne k (let a = length-pushed w.calls c in omega arith) (old_path k less ∙ e)));
        begun = λ k lt. pushed-cases w.lives k (λ j life. j < length after_it.calls → life.status ≡ status.Unsched → ⊥) (λ g e. absurd (cc)) (λ ne g. tw.begun k (let a = length-pushed w.calls c in omega arith)) lt;
        family = by-place (IsOf after_it) (λ k less. family-on w after_it submit-grows (λ j ran. pushed-cases w.lives j (λ m life. IsSome (life_at w m).ran → IsSome life.ran) (λ g. absurd (let none : life_at w (length w.lives) ≡ no_life = get_or_past w.lives (length w.lives) no_life (omega arith) in let bad = rw none at g in cc)) (λ ne g. g) ran) more k less (tw.family k less)) kind;
      }

  same_known : IsConsistent w → known after_it ≡ known w
  same_known h = known-push w.calls w.lives c h.tracks.lives

  -- a call that was there begins as before, and what runs too
  pub submit-runs : (h : IsConsistent w) → Tracks after_it → Runs after_it
  submit-runs h tv =
      let tw = h.tracks in
      record {
        attempted = λ k. pushed-cases w.lives k (λ j life. HasRun life.status → IsAttempted after_it j) (λ g. absurd g)
            (λ ne g. attempted-on w after_it tw tv submit-grows k (run-within w tw.lives k g) (h.runs.attempted k g));
        ended = λ k outcome. pushed-cases w.lives k (λ j life. life.status ≡ status.RunningEnded → life.end ≡ Some outcome → outcome ≡ call_outcome (apps_in after_it) no_losses (known after_it) (call_at after_it j)) (λ g. absurd (cc))
            (λ ne g has. let run : HasRun (status_at w k) = subst HasRun (sym g) tt in ended-on w after_it tw tv submit-grows k outcome (run-within w tw.lives k run) (h.runs.attempted k run) (h.runs.ended k outcome g has));
      }

  -- and each join that ran has its calls
  pub submit-joins : (h : IsConsistent w) → Tracks after_it → ((k : ℕ) (result : Result Done Exception) → (life_at w k).ran ≡ Some result → IsJoined after_it k result) → ((p : Path) (n : ℕ) → due after_it.past ≡ Some (p, n) → IsDue after_it p n) → JoinsRan after_it
  submit-joins h tv ran is_due =
      let tw = h.tracks in
      record {
        ran = λ k result. pushed-cases w.lives k (λ j life. life.ran ≡ Some result → IsJoined after_it j result) (λ g. absurd (cc)) (λ ne g. ran k result g);
        settled = λ k outcome. pushed-cases w.lives k (λ j life. outcome_in life ≡ Some outcome → is_join (begin_at after_it j) ≡ true → IsSome life.ran) (λ g. absurd (cc))
            (λ ne g join. h.joins.settled k outcome g (sym (ap is_join (grows-begin w after_it tw tv submit-grows k (settled-within w tw.lives k outcome g) (h.right.fits k outcome g).inputs)) ∙ join));
        is_due = is_due;
      }

  -- the outcomes that are known still fit
  pub submit-fits : (h : IsConsistent w) → Tracks after_it → FitsLosses (lost after_it.past) after_it
  submit-fits h tv k outcome g =
      let was : settled_outcome w k ≡ Some outcome = sym (outcome-pushed w.lives k) ∙ g in
      fits-on w after_it h.tracks tv submit-grows (lost w.past) k outcome (settled-within w h.tracks.lives k outcome was) (h.right.fits k outcome was)

  pub submit-back : (h : IsConsistent w) → Tracks after_it → (losses : Losses) → FitsLosses losses after_it → FitsLosses losses w
  submit-back h tv losses f = fits-back w after_it h.tracks tv submit-grows (lost w.past) h.right.fits losses f

  -- nothing is stored, and nothing settles
  pub submit-memo : IsConsistent w → Tracks after_it → Memoises after_it
  submit-memo h tv = memo-stays w after_it h tv submit-grows refl (λ keys key. refl) (λ k outcome g. sym (outcome-pushed w.lives k) ∙ g)

  pub submit-placed : (losses : Losses) → ((k : ℕ) → k < length w.calls → HasTask (whole w.tree losses) (call_at w k)) → HasTask (whole w.tree losses) c → (k : ℕ) → k < length after_it.calls → HasTask (whole w.tree losses) (call_at after_it k)
  submit-placed losses before here = by-place (λ k. HasTask (whole w.tree losses) (call_at after_it k))
      (λ k less. subst (HasTask (whole w.tree losses)) (sym (old-call k less)) (before k less))
      (subst (HasTask (whole w.tree losses)) (sym new-call) here)

  pub submit-agrees : (h : IsConsistent w) (losses : Losses) → ((k : ℕ) (outcome : Outcome) → settled_outcome w k ≡ Some outcome → outcome_at (whole w.tree losses) (path_at w k) ≡ Some outcome) → (k : ℕ) (outcome : Outcome) → settled_outcome after_it k ≡ Some outcome → outcome_at (whole w.tree losses) (path_at after_it k) ≡ Some outcome
  submit-agrees h losses before k outcome g =
      let was : settled_outcome w k ≡ Some outcome = sym (outcome-pushed w.lives k) ∙ g in
      ap (outcome_at (whole w.tree losses)) (old_path k (settled-within w h.tracks.lives k outcome was)) ∙ before k outcome was

-- ---- a call of a join

-- the calls of the join that is due
record IsDueCall (w : Known) (k n : ℕ) (c : Call) : Type 0 where
  due_now : IsDue w (path_at w k) n
  same : due_now.place ≡ k
  result : Result Done Exception
  ran : (life_at w k).ran ≡ Some result
  joined : IsJoined w k result
  path : c.path ≡ child (path_at w k) n
  below : calls_below (apps_in w) (known w) (call_at w k) ≡ (join_dry (apps_in w) (path_at w k) joined.app joined.values).1

some_result : {A : Type 0} → (r : Option A) → IsSome r → (a : A) × (r ≡ Some a)
some_result (Some a) h = (a, refl)
some_result None h = absurd (cc)

due_call : (w : Known) (k n : ℕ) (c : Call) → IsConsistent w → CanSubmitChild w k n c → IsDueCall w k n c
due_call w k n c h can =
    let d = h.joins.is_due (path_at w k) n can.is_due in
    let same : d.place ≡ k = sym (h.tracks.distinct k d.place can.within d.within d.is) in
    let run = some_result (life_at w k).ran (subst (λ (j : ℕ). IsSome (life_at w j).ran) same d.ran) in
    let joined = h.joins.ran k run.0 run.1 in
    record {
      due_now = d;
      same = same;
      result = run.0;
      ran = run.1;
      joined = joined;
      path = calls-path (apps_in w) (known w) (call_at w k) n c can.is;
      below = ap (calls_with (apps_in w) (path_at w k)) joined.begins;
    }

-- a path below a call isn't that of a call of main
not_main : (p : Path) (i : ℕ) → 0 < length p → is_of_main (child p i) ≡ false
not_main [] i long = absurd (omega arith)
not_main (x ∷ []) i long = refl
not_main (x ∷ y ∷ p) i long = refl

-- it is evaluated with its caller
child_placed : (w : Known) (k n : ℕ) (c : Call) (h : IsConsistent w) → CanSubmitChild w k n c → IsDueCall w k n c → (losses : Losses) → FollowsEvaluation losses w → HasTask (whole w.tree losses) c
child_placed w k n c h can d losses e =
    let there = e.placed k can.within in
    let ruled = ruled-at w losses h.told e k can.within there in
    let agree = whole-agrees w losses h.tracks e (inputs_at w k) d.joined.inputs in
    ruled.calls n c (ap (λ (cs : List Call). slice_get cs n) (calls-agree (apps_in w) (whole w.tree losses) (known w) (call_at w k) agree) ∙ can.is)

new_child : (w : Known) (c : Call) → IsCall (submitted w c) c
new_child w c = record { place = length w.calls; within = let long = length-pushed w.calls c in omega arith; is = new-call w c w.answers w.arrived w.acts }

child_joined : (w : Known) (k n : ℕ) (c : Call) (h : IsConsistent w) → CanSubmitChild w k n c → IsDueCall w k n c → Tracks (submitted w c) → due (submitted w c).past ≡ due_of (path_at w k) (suc n) → (j : ℕ) (result : Result Done Exception) → j < length w.calls → IsJoined w j result → IsJoined (submitted w c) j result
child_joined w k n c h can d tv now_due j result lt was =
    let grows = submit-grows w c w.answers w.arrived w.acts in
    joined-grows w (submitted w c) h.tracks tv grows j result lt was (λ i e at few.
    elim (cases_eq j k) [
      | inr ne ↦ call-grows w (submitted w c) grows e (was.children i e at (λ m other. absurd (ne (h.tracks.distinct j k lt can.within (sym (due-path (path_at w k) (path_at w j) n m (sym can.is_due ∙ other)))))))
      | inl eq ↦
          let bound : i < suc n = few (suc n) (now_due ∙ ap (λ (m : ℕ). due_of (path_at w m) (suc n)) (sym eq)) in
          elim (cases_lt i n) [
            | inl less ↦ call-grows w (submitted w c) grows e (was.children i e at (λ m other. (let same = due-count (path_at w k) (path_at w j) n m (sym can.is_due ∙ other) in omega arith)))
            | inr past ↦
                let last : i ≡ n = omega arith in
                let below : calls_below (apps_in w) (known w) (call_at w j) ≡ (join_dry (apps_in w) (path_at w j) was.app was.values).1 = ap (calls_with (apps_in w) (path_at w j)) was.begins in
                let theirs : slice_get (calls_below (apps_in w) (known w) (call_at w k)) n ≡ Some e = ap (λ (m : ℕ). slice_get (calls_below (apps_in w) (known w) (call_at w k)) m) (sym last) ∙ ap (λ (m : ℕ). slice_get (calls_below (apps_in w) (known w) (call_at w m)) i) (sym eq) ∙ ap (λ (cs : List Call). slice_get cs i) below ∙ at in
                let same : c ≡ e = same-some c e (sym can.is ∙ theirs) in
                subst (IsCall (submitted w c)) same (new_child w c)
          ]
    ])

child_due : (w : Known) (k n : ℕ) (c : Call) (h : IsConsistent w) → CanSubmitChild w k n c → IsDueCall w k n c → ((j : ℕ) → IsSome (life_at w j).ran → IsSome (life_at (submitted w c) j).ran) → due (submitted w c).past ≡ due_of (path_at w k) (suc n) → (p : Path) (m : ℕ) → due (submitted w c).past ≡ Some (p, m) → IsDue (submitted w c) p m
child_due w k n c h can d ran_on now_due p m at =
    let path : path_at w k ≡ p = due-path (path_at w k) p (suc n) m (sym now_due ∙ at) in
    let count : suc n ≡ m = due-count (path_at w k) p (suc n) m (sym now_due ∙ at) in
    let longer = length-pushed w.calls c in
    record {
      place = k;
      within = let lt = can.within in omega arith;
      is = sym path ∙ ap (λ (b : Call). b.path) (sym (old-call w c w.answers w.arrived w.acts k can.within));
      ran = ran_on k (some-of (life_at w k).ran d.result d.ran);
      fresh = λ j i lj e. by-place w c w.answers w.arrived w.acts (λ x. path_at (submitted w c) x ≡ child p i → i < m)
          (λ x less g. (let lt = d.due_now.fresh x i less (sym (ap (λ (b : Call). b.path) (old-call w c w.answers w.arrived w.acts x less)) ∙ g ∙ ap (λ (q : Path). child q i) (sym path)) in omega arith))
          (λ g. (let same = child-same p n i (sym (ap (λ (q : Path). child q n) path) ∙ sym d.path ∙ sym (ap (λ (b : Call). b.path) (new-call w c w.answers w.arrived w.acts)) ∙ g) in omega arith))
          j lj e;
    }

pub keep-child : (w : Known) (k n : ℕ) (c : Call) → IsConsistent w → CanSubmitChild w k n c → IsConsistent (submitted w c)
keep-child w k n c h can =
    let tw = h.tracks in
    let v : Known = submitted w c in
    let d = due_call w k n c h can in
    let long = path-long w k (tw.family k can.within) in
    let fresh : (j : ℕ) → j < length w.calls → path_at w j ≢ c.path = λ j less e. (let lt = d.due_now.fresh j n less (e ∙ d.path) in omega arith) in
    let same_submits : submits v.past ≡ submits w.past = rw (d.path, not_main (path_at w k) n long) refl in
    let grows = submit-grows w c w.answers w.arrived w.acts in
    let here : call_at v (length w.calls) ≡ c = new-call w c w.answers w.arrived w.acts in
    let old : (j : ℕ) → j < length w.calls → call_at v j ≡ call_at w j = old-call w c w.answers w.arrived w.acts in
    let longer = length-pushed w.calls c in
    let ran_before = ran-within w tw.lives in
    let ran_on : (j : ℕ) → IsSome (life_at w j).ran → IsSome (life_at v j).ran = λ j ran. pushed-cases w.lives j (λ m life. IsSome (life_at w m).ran → IsSome life.ran) (λ g. absurd (let lt = ran_before (length w.lives) g in let l = tw.lives in omega arith)) (λ ne g. g) ran in
    let kind : IsOf v (length w.calls) = of_join k n (let lt = can.within in omega arith) (ran_on k (some-of (life_at w k).ran d.result d.ran)) (ap (λ (b : Call). b.path) here ∙ d.path ∙ ap (λ (b : Call). child b.path n) (sym (old k can.within))) in
    let tv : Tracks v = submit-tracks w c w.answers w.arrived w.acts h fresh (omega (arith, same_submits)) kind in
    let opened = open-yet w can.not_ended in
    let back : (losses : Losses) → FitsLosses losses v → FitsLosses losses w = submit-back w c w.answers w.arrived w.acts h tv in
    let now_due : due v.past ≡ due_of (path_at w k) (suc n) = ap one_more can.is_due in
    let evaluates : (losses : Losses) → FitsLosses losses v → FollowsEvaluation losses v = λ losses f.
    let e = h.right.evaluates losses (back losses f) in
    record {
      made = e.made;
      count = e.count ∙ sym same_submits;
      group = e.group;
      goes_on = e.goes_on;
      placed = submit-placed w c w.answers w.arrived w.acts losses e.placed (child_placed w k n c h can d losses e);
      agrees = submit-agrees w c w.answers w.arrived w.acts h losses e.agrees;
    } in
    record {
      told = h.told;
      texts = h.texts;
      tracks = tv;
      runs = submit-runs w c w.answers w.arrived w.acts h tv;
      joins = submit-joins w c w.answers w.arrived w.acts h tv
          (λ j result ran. child_joined w k n c h can d tv now_due j result (ran_before j (some-of (life_at w j).ran result ran)) (h.joins.ran j result ran))
          (λ p m at. child_due w k n c h can d ran_on now_due p m at);
      memo = submit-memo w c w.answers w.arrived w.acts h tv;
      main = record {
        asks = subst (λ (m : ℕ). Asks [] m (main_left w)) (sym same_submits) h.main.asks;
        mains = λ i lt. let was = h.main.mains i (omega arith) in (was.0, let less = was.1 in omega arith, ap (λ (b : Call). b.path) (old was.0 was.1) ∙ was.2);
        called = h.main.called ∙ sym same_submits;
        waits = waits-stay (submit_of w c) (acts_of w.acts) w.past h.main.waits;
        ended = h.main.ended;
      };
      right = record {
        fits = submit-fits w c w.answers w.arrived w.acts h tv;
        evaluates = evaluates;
        legal = λ losses f.
            let before = h.right.evaluates losses (back losses f) in
            let b = h.right.legal losses (back losses f) in
            let knows = knows-call w losses tw before k can.within in
            let new = knows-call v losses tv (evaluates losses f) (length w.calls) (omega arith) in
            record {
              settling = (
                record {
                  open_yet = opened;
                  stands = follows (path_at w k) n (record {
                    due = can.is_due;
                    more = let lt = slice-within (calls_below (apps_in w) (known w) (call_at w k)) n c can.is in let here_is : task_at (table w.tree losses) (path_at w k) ≡ Some knows.task = knows.is in let counted = ap calls_in_task here_is ∙ knows.calls d.joined.inputs in omega (arith, lt, counted);
                    task = new.task;
                    there = ap (task_at (table w.tree losses)) (sym (ap (λ (b : Call). b.path) here ∙ d.path)) ∙ new.is;
                    is = ap (λ (p : Path). entry.Submit p (name_in (slice_get (apps_in w) c.app))) d.path ∙ ap (entry.Submit (child (path_at w k) n)) (sym (new.app ∙ ap (λ (b : Call). name_in (slice_get (apps_in w) b.app)) here));
                  });
                },
                b.settling,
              );
              launching = (tt, b.launching);
              attempts = (tt, b.attempts);
              managers = (refl, b.managers);
            };
        ends = λ ended. absurd (cc);
      };
    }

-- the calls that are still due are submitted, one after another
all_children : (w : Known) (k n : ℕ) (cs : List Call) → IsConsistent w → has_ended w ≡ false → k < length w.calls → due w.past ≡ due_of (path_at w k) n
    → ((i : ℕ) (c : Call) → slice_get cs i ≡ Some c → slice_get (calls_below (apps_in w) (known w) (call_at w k)) (n + i) ≡ Some c)
    → length (calls_below (apps_in w) (known w) (call_at w k)) ≡ n + length cs → Inv (all_submitted w cs)
all_children w k n [] h not_ended within is_due are count = record {
  holds = h;
  quiet = λ j m lt at.
      let same : j ≡ k = h.tracks.distinct j k lt within (due-path (path_at w j) (path_at w k) m n (sym at ∙ is_due)) in
      let number : m ≡ n = due-count (path_at w j) (path_at w k) m n (sym at ∙ is_due) in
      subst (λ (x : ℕ). length (calls_below (apps_in w) (known w) (call_at w x)) ≤ m) (sym same) (omega arith);
}
all_children w k n (c ∷ cs) h not_ended within is_due are count =
    let zero_more : n + 0 ≡ n = omega arith in
    let first : slice_get (calls_below (apps_in w) (known w) (call_at w k)) n ≡ Some c = subst (λ (m : ℕ). slice_get (calls_below (apps_in w) (known w) (call_at w k)) m ≡ Some c) zero_more (are 0 c refl) in
    let v : Known = submitted w c in
    let held = keep-child w k n c h (record { not_ended = not_ended; within = within; is_due = is_due; is = first }) in
    let call : call_at v k ≡ call_at w k = old-call w c w.answers w.arrived w.acts k within in
    let all : known v ≡ known w = known-push w.calls w.lives c h.tracks.lives in
    let below : calls_below (apps_in w) (known w) (call_at w k) ≡ calls_below (apps_in v) (known v) (call_at v k) = ap (λ (b : Call). calls_below (apps_in w) (known w) b) (sym call) ∙ ap (λ (ts : Tasks). calls_below (apps_in w) ts (call_at v k)) (sym all) in
    let longer = length-pushed w.calls c in
    all_children v k (suc n) cs held not_ended (omega arith) (ap one_more is_due ∙ ap (λ (b : Call). due_of b.path (suc n)) (sym call))
    (λ i d e. subst (λ (b : List Call). slice_get b (suc n + i) ≡ Some d) below (subst (λ (m : ℕ). slice_get (calls_below (apps_in w) (known w) (call_at w k)) m ≡ Some d) (let moved : n + suc i ≡ suc n + i = omega arith in moved) (are (suc i) d e)))
    (ap length (sym below) ∙ count ∙ omega arith)

-- a join's body runs, and its calls are submitted
pub keep-joined : (w : Known) (k : ℕ) (ran : Dry) → Inv w → CanJoin w k ran → Inv (joined w k ran)
keep-joined w k ran inv can =
    let v : Known = joining w k ran in
    let held = keep-joining w k ran inv can in
    let at = joining-begin w k ran inv can in
    let below : calls_below (apps_in v) (known v) (call_at v k) ≡ ran.1 = at ∙ ap (λ (d : Dry). d.1) (sym can.is) in
    let within = joining-within w k inv can.callback in
    all_children v k 0 ran.1 held can.not_ended within refl
    (λ i c e. subst (λ (cs : List Call). slice_get cs (0 + i) ≡ Some c) (sym below) (subst (λ (m : ℕ). slice_get ran.1 m ≡ Some c) (omega arith) e))
    (ap length below ∙ omega arith)
