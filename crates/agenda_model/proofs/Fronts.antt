-- The first tasks of the queue whose attempts are over need no storing, after each act too.
use Rattle.std.proofs.Common.{◌≡◌, ◌≢◌, ℕ, suc, ◌+◌, ◌<◌, ◌≤◌, inl, inr, Bool, true, false, List, [], ◌∷◌, ◌++◌, length, get_or, set, remove, slice_get, Option, Some, None, is_some, refl, sym, ◌∙◌, ap, subst, arith, true≢false, length-append}
use Rattle.std.proofs.lemmas.Bool.{cases_lt, cases_eq}
use Rattle.std.proofs.lemmas.List.{get_or_past, get_or_append_left, get_or-set_other, length-set}
use Rattle.std.proofs.lemmas.List.Edits.{length-remove}
use Rattle.std.proofs.lemmas.Option.{slice_get_within}
use Rattle.flow_base.specs.declared.outcome.Outcome.{Outcome}
use Rattle.flow_base.specs.declared.outcome.Outcome.TheVariants as o
use Rattle.script_tree.specs.declared.tree.AppDef.{AppDef}
use Rattle.task_record.specs.declared.status.Status.{Status}
use Rattle.task_record.specs.declared.status.Status.TheVariants as status
use Rattle.task_record.specs.States.{is_settled}
use Rattle.dependency_graph.specs.Callbacks.{has_number}
use Rattle.dependency_graph.specs.Graphs.{Graph}
use Rattle.call_rules.specs.Calls.{Call, Dry}
use Rattle.call_rules.specs.Groups.{AllKnown}
use Rattle.memo_table.specs.Decisions.{keys_decide}
use Rattle.memo_table.specs.Keys.{KeyView, same_key}
use Rattle.memo_table.specs.Table.{MemoView, found, with_saved}
use Rattle.memo_table.specs.declared.saved.Saved.{Saved}
use Rattle.history_laws.specs.Tables.{key_with}
use Rattle.kernel_model.specs.Acts.{submitted, all_submitted, called, launched, started, finished, settled_in, settled_as, recalled, stored_by, joining, joined}
use Rattle.kernel_model.specs.Conditions.{CanLaunch, CanStart, CanFinish, CanRecall}
use Rattle.kernel_model.specs.Invariants.{HasRun, Tracks, Inv, GrowsInto}
use Rattle.kernel_model.specs.Known.{Known, Life, no_call, no_life, call_at, life_at, status_at, outcome_in, settled_outcome, inputs_at, known, begin_at, key_at, value_of, is_kept, apps_in}
use Rattle.kernel_model.specs.Turns.{IsCallback, IsStore, IsSettling}
use Rattle.kernel_model.proofs.Growing.{grows-begin}
use Rattle.kernel_model.proofs.Places.{settled-within, run-within}
use Rattle.agenda_model.specs.AgendaViews.{AgendaView}
use Rattle.agenda_model.specs.Agendas.{NeedsNoStore, FrontIsKept}
use Rattle.agenda_model.proofs.Carrying.{HasTasks, with_graph, over-at}
use Rattle.agenda_model.proofs.NumberLists.{get-cases, get-has, has-place, remove-front, remove-behind, remove-lacks}
use Rattle.agenda_model.proofs.TaskCounts.{life-all}

-- the first tasks of the queue need no storing
abbrev pub HasFront : AgendaView → Known → Type 0
HasFront a w = FrontIsKept a (apps_in w) w.memo w.calls w.lives

-- the task needs no storing, by what is known
abbrev pub NeedsNone : Known → ℕ → Type 0
NeedsNone w k = NeedsNoStore (apps_in w) w.memo w.calls w.lives k

-- ---- what is stored

-- what is stored of a key stays so
abbrev pub StaysFound : MemoView → MemoView → Type 0
StaysFound memo more = (key : KeyView) → is_some (found memo key) ≡ true → is_some (found more key) ≡ true

pub stays-itself : (memo : MemoView) → StaysFound memo memo
stays-itself memo key h = h

found_front : (memo more : MemoView) → StaysFound memo (memo ++ more)
found_front [] more key h = absurd (true≢false (sym h))
found_front (e ∷ es) more key h = by_test (same_key key e.0) refl (found_front es more key)
  where
    by_test : (t : Bool) → same_key key e.0 ≡ t → (is_some (found es key) ≡ true → is_some (found (es ++ more) key) ≡ true) → is_some (found ((e ∷ es) ++ more) key) ≡ true
    by_test true is rest = rw is refl
    by_test false is rest = rw is (rest (rw is at h))

found_last : (memo : MemoView) (key : KeyView) (saved : Saved) → is_some (found (memo ++ (key, saved) ∷ []) key) ≡ true
found_last [] key saved = rw ((keys_decide key key).1 refl) refl
found_last (e ∷ es) key saved = by_test (same_key key e.0) refl (found_last es key saved)
  where
    by_test : (t : Bool) → same_key key e.0 ≡ t → is_some (found (es ++ (key, saved) ∷ []) key) ≡ true → is_some (found ((e ∷ es) ++ (key, saved) ∷ []) key) ≡ true
    by_test true is rest = rw is refl
    by_test false is rest = rw is rest

pub stays-stored : (memo : MemoView) (key : KeyView) (saved : Saved) → StaysFound memo (with_saved memo key saved)
stays-stored memo key saved other h = by_test (is_some (found memo key)) refl
  where
    by_test : (t : Bool) → is_some (found memo key) ≡ t → is_some (found (with_saved memo key saved) other) ≡ true
    by_test true is = rw is h
    by_test false is = rw is (found_front memo ((key, saved) ∷ []) other h)

pub stored-found : (memo : MemoView) (key : KeyView) (saved : Saved) → is_some (found (with_saved memo key saved) key) ≡ true
stored-found memo key saved = by_test (is_some (found memo key)) refl
  where
    by_test : (t : Bool) → is_some (found memo key) ≡ t → is_some (found (with_saved memo key saved) key) ≡ true
    by_test true is = rw is is
    by_test false is = rw is (found_last memo key saved)

kept_more : (memo more : MemoView) (key : Option KeyView) (outcome : Outcome) → StaysFound memo more → is_kept memo key outcome ≡ true → is_kept more key outcome ≡ true
kept_more memo more (Some key) (o.Value value files) stays h = stays key h
kept_more memo more (Some key) (o.Failed exception) stays h = refl
kept_more memo more None (o.Value value files) stays h = refl
kept_more memo more None (o.Failed exception) stays h = refl

-- nothing is to be stored of this end
pub needs-none : (w : Known) (k : ℕ) (outcome : Outcome) → (life_at w k).end ≡ Some outcome → is_kept w.memo (key_at w k) outcome ≡ true → NeedsNone w k
needs-none w k outcome is kept other also = subst (λ (e : Outcome). is_kept w.memo (key_at w k) e ≡ true) (same_end outcome other (sym is ∙ also)) kept
  where
    same_end : (e f : Outcome) → Some e ≡ Some f → e ≡ f
    same_end e f h = cc

-- ---- growth

-- a task that needs no storing needs none where more is known
pub needs-none-grows : (w v : Known) → Tracks w → Tracks v → GrowsInto w v → StaysFound w.memo v.memo → (k : ℕ) → k < length w.calls → AllKnown (known w) (inputs_at w k) → (life_at v k).end ≡ (life_at w k).end → NeedsNone w k → NeedsNone v k
needs-none-grows w v tw tv grows stays k within inputs same h outcome is =
    let key : key_at v k ≡ key_at w k = ap (λ (c : Call). key_with c.names (begin_at v k)) (grows.call k within) ∙ ap (key_with (call_at w k).names) (grows-begin w v tw tv grows k within inputs) in
    ap (λ (x : Option KeyView). is_kept v.memo x outcome) key ∙ kept_more w.memo v.memo (key_at w k) outcome stays (h outcome (sym same ∙ is))

-- a task of the queue goes on as it is
pub record IsStill (w v : Known) (k : ℕ) : Type 0 where
  pub within : k < length w.calls
  pub inputs : AllKnown (known w) (inputs_at w k)
  pub end : (life_at v k).end ≡ (life_at w k).end

-- the task stood among the first ones
record StoodFirst (a : AgendaView) (k : ℕ) : Type 0 where
  place : ℕ
  below : place < a.kept
  there : slice_get a.over place ≡ Some k

-- where none is counted
pub front-none : (a : AgendaView) (apps : List AppDef) (memo : MemoView) (cs : List Call) (lives : List Life) → a.kept ≡ 0 → FrontIsKept a apps memo cs lives
front-none a apps memo cs lives none = record { within = omega (arith, none); kept = λ i k lt at. absurd (omega (arith, lt, none)) }

front_moves : (a b : AgendaView) (w v : Known) → Tracks w → Tracks v → GrowsInto w v → StaysFound w.memo v.memo → b.kept ≤ length b.over
    → ((i k : ℕ) → i < b.kept → slice_get b.over i ≡ Some k → StoodFirst a k × IsStill w v k) → HasFront a w → HasFront b v
front_moves a b w v tw tv grows stays within still front = record {
  within = within;
  kept = λ i k lt at.
      let s = still i k lt at in
      needs-none-grows w v tw tv grows stays k s.1.within s.1.inputs s.1.end (front.kept s.0.place k s.0.below s.0.there);
}

pub front-grows : (a b : AgendaView) (w v : Known) → Tracks w → Tracks v → GrowsInto w v → StaysFound w.memo v.memo → b.kept ≡ a.kept → b.kept ≤ length b.over
    → ((i k : ℕ) → i < a.kept → slice_get b.over i ≡ Some k → slice_get a.over i ≡ Some k) → ((i k : ℕ) → slice_get a.over i ≡ Some k → IsStill w v k) → HasFront a w → HasFront b v
front-grows a b w v tw tv grows stays same within places still front = front_moves a b w v tw tv grows stays within
    (λ i k lt at.
    let below : i < a.kept = omega (arith, lt, same) in
    let before = places i k below at in
    (record { place = i; below = below; there = before }, still i k before)) front

-- one more needs no storing
pub front-passed : (a b : AgendaView) (w : Known) (k : ℕ) → slice_get a.over a.kept ≡ Some k → NeedsNone w k → b.over ≡ a.over → b.kept ≡ a.kept + 1 → HasFront a w → HasFront b w
front-passed a b w k next done over kept front = record {
  within = let short = slice_get_within a.over a.kept k next in let long = ap (λ (q : List ℕ). length q) over in omega (arith, short, long, kept);
  kept = λ i j lt at.
      let before : slice_get a.over i ≡ Some j = ap (λ (q : List ℕ). slice_get q i) (sym over) ∙ at in
      elim (cases_lt i a.kept) [
        | inl less ↦ front.kept i j less before
        | inr past ↦
            let here : i ≡ a.kept = omega (arith, past, lt, kept) in
            subst (NeedsNone w) (same_number k j (sym next ∙ ap (slice_get a.over) (sym here) ∙ before)) done
      ];
}
  where
    same_number : (n m : ℕ) → Some n ≡ Some m → n ≡ m
    same_number n m h = cc

-- another graph changes nothing
pub front-graph : (a : AgendaView) (g : Graph) (w : Known) → HasFront a w → HasFront (with_graph g a) w
front-graph a g w front = record { within = front.within; kept = front.kept }

-- ---- acts

-- All but one task stay, and that one isn't settled yet. Calls may come.
record GoesOn (w v : Known) (k : ℕ) : Type 0 where
  tree : v.tree ≡ w.tree
  longer : length w.calls ≤ length v.calls
  call : (j : ℕ) → j < length w.calls → call_at v j ≡ call_at w j
  life : (j : ℕ) → j < length w.calls → j ≢ k → life_at v j ≡ life_at w j
  opened : is_settled (status_at w k) ≡ false

unsettled_none : (w : Known) (k : ℕ) (outcome : Outcome) → is_settled (status_at w k) ≡ false → settled_outcome w k ≡ Some outcome → ⊥
unsettled_none w k outcome opened h = absurd (let none = rw opened at h in cc)

goes_grows : (w v : Known) (k : ℕ) → Tracks w → GoesOn w v k → GrowsInto w v
goes_grows w v k tracks on = record {
  tree = on.tree;
  outcome = λ j outcome h. elim (cases_eq j k) [
    | inl same ↦ absurd (unsettled_none w k outcome on.opened (ap (settled_outcome w) (sym same) ∙ h))
    | inr ne ↦ ap outcome_in (on.life j (settled-within w tracks.lives j outcome h) ne) ∙ h
  ];
  calls = on.longer;
  call = on.call;
}

-- a task of the queue has known inputs
over_still : (a : AgendaView) (w v : Known) (lacking : Option ℕ) (k i j : ℕ) → Inv w → HasTasks a w lacking → GoesOn w v k → slice_get a.over i ≡ Some j → j ≢ k → IsStill w v j
over_still a w v lacking k i j inv serves on at ne =
    let over : status_at w j ≡ status.RunningEnded = over-at a w lacking j i serves at in
    let run : HasRun (status_at w j) = subst HasRun (sym over) tt in
    let within = run-within w inv.holds.tracks.lives j run in
    record { within = within; inputs = (inv.holds.runs.attempted j run).inputs; end = ap (λ (l : Life). l.end) (on.life j within ne) }

-- as many of the first tasks of the queue, where none of them is the one that goes on
front_on : (a b : AgendaView) (w v : Known) (lacking : Option ℕ) (k : ℕ) → Inv w → Tracks v → HasTasks a w lacking → GoesOn w v k → StaysFound w.memo v.memo → status_at w k ≢ status.RunningEnded
    → b.kept ≡ a.kept → b.kept ≤ length b.over → ((i j : ℕ) → i < a.kept → slice_get b.over i ≡ Some j → slice_get a.over i ≡ Some j) → HasFront a w → HasFront b v
front_on a b w v lacking k inv tv serves on stays not_over kept within places front =
    front-grows a b w v inv.holds.tracks tv (goes_grows w v k inv.holds.tracks on) stays kept within places
    (λ i j at. over_still a w v lacking k i j inv serves on at (λ same. not_over (ap (status_at w) (sym same) ∙ over-at a w lacking j i serves at))) front

-- the queue stays
front_same : (a b : AgendaView) (w v : Known) (lacking : Option ℕ) (k : ℕ) → Inv w → Tracks v → HasTasks a w lacking → GoesOn w v k → StaysFound w.memo v.memo → status_at w k ≢ status.RunningEnded
    → b.over ≡ a.over → b.kept ≡ a.kept → HasFront a w → HasFront b v
front_same a b w v lacking k inv tv serves on stays not_over over kept front =
    let long = ap (λ (q : List ℕ). length q) over in
    let few = front.within in
    front_on a b w v lacking k inv tv serves on stays not_over kept (omega (arith, long, few, kept)) (λ i j lt at. ap (λ (q : List ℕ). slice_get q i) (sym over) ∙ at) front

-- one task is put
put_on : (w v : Known) (k : ℕ) (life : Life) → v.tree ≡ w.tree → v.calls ≡ w.calls → v.lives ≡ set w.lives k life → is_settled (status_at w k) ≡ false → GoesOn w v k
put_on w v k life tree calls lives opened = record {
  tree = tree;
  longer = let long = ap (λ (cs : List Call). length cs) calls in omega (arith, long);
  call = λ j lt. ap (λ (cs : List Call). get_or cs j no_call) calls;
  life = λ j lt ne. ap (λ (ls : List Life). get_or ls j no_life) lives ∙ get_or-set_other w.lives k j life no_life ne;
  opened = opened;
}

pub front-launched : (a b : AgendaView) (w : Known) (k : ℕ) → Inv w → Inv (launched w k) → CanLaunch w k → HasTasks a w (Some k) → b.over ≡ a.over → b.kept ≡ a.kept → HasFront a w → HasFront b (launched w k)
front-launched a b w k inv after can serves over kept front =
    let pending : status_at w k ≡ status.Pending = can.callback.pending in
    front_same a b w (launched w k) (Some k) k inv after.holds.tracks serves (put_on w (launched w k) k _ refl refl refl (ap is_settled pending)) (stays-itself w.memo) (λ e. (let bad = sym pending ∙ e in absurd (cc))) over kept front

pub front-started : (a b : AgendaView) (w : Known) (k : ℕ) → Inv w → Inv (started w k) → CanStart w k → HasTasks a w None → b.over ≡ a.over → b.kept ≡ a.kept → HasFront a w → HasFront b (started w k)
front-started a b w k inv after can serves over kept front =
    let waiting : status_at w k ≡ status.Launched = can.waiting in
    front_same a b w (started w k) None k inv after.holds.tracks serves (put_on w (started w k) k _ refl refl refl (ap is_settled waiting)) (stays-itself w.memo) (λ e. (let bad = sym waiting ∙ e in absurd (cc))) over kept front

-- it comes to the end of the queue
pub front-finished : (a b : AgendaView) (w : Known) (k : ℕ) (outcome : Outcome) → Inv w → Inv (finished w k outcome) → CanFinish w k outcome → HasTasks a w None → b.over ≡ a.over ++ k ∷ [] → b.kept ≡ a.kept → HasFront a w → HasFront b (finished w k outcome)
front-finished a b w k outcome inv after can serves over kept front =
    let runs : status_at w k ≡ status.Running = can.running in
    let long = ap (λ (q : List ℕ). length q) over in
    let longer = length-append a.over (k ∷ []) in
    let few = front.within in
    front_on a b w (finished w k outcome) None k inv after.holds.tracks serves (put_on w (finished w k outcome) k _ refl refl refl (ap is_settled runs)) (stays-itself w.memo) (λ e. (let bad = sym runs ∙ e in absurd (cc))) kept
    (omega (arith, long, longer, few, kept))
    (λ i j lt at. elim (get-cases a.over k j i (ap (λ (q : List ℕ). slice_get q i) (sym over) ∙ at)) [
      | inl old ↦ old
      | inr new ↦ (let last = new.at in absurd (omega (arith, last, lt, few)))
    ]) front

-- a task settles whose attempt isn't over
pub front-settled : (a b : AgendaView) (w : Known) (k : ℕ) (s : Status) (outcome : Outcome) (lacking : Option ℕ) → Inv w → Inv (settled_in w k s outcome) → is_settled (status_at w k) ≡ false → status_at w k ≢ status.RunningEnded → HasTasks a w lacking
    → b.over ≡ a.over → b.kept ≡ a.kept → HasFront a w → HasFront b (settled_in w k s outcome)
front-settled a b w k s outcome lacking inv after opened not_over serves over kept front =
    front_same a b w (settled_in w k s outcome) lacking k inv after.holds.tracks serves (put_on w (settled_in w k s outcome) k _ refl refl refl opened) (stays-itself w.memo) not_over over kept front

pub front-recalled : (a b : AgendaView) (w : Known) (k : ℕ) (saved : Saved) → Inv w → Inv (recalled w k saved) → CanRecall w k saved → HasTasks a w (Some k) → b.over ≡ a.over → b.kept ≡ a.kept → HasFront a w → HasFront b (recalled w k saved)
front-recalled a b w k saved inv after can serves over kept front =
    let pending : status_at w k ≡ status.Pending = can.callback.pending in
    front_same a b w (recalled w k saved) (Some k) k inv after.holds.tracks serves (put_on w (recalled w k saved) k _ refl refl refl (ap is_settled pending)) (stays-itself w.memo) (λ e. (let bad = sym pending ∙ e in absurd (cc))) over kept front

-- ---- calls

pub front-called : (a b : AgendaView) (w : Known) (c : Call) (lacking : Option ℕ) → Inv w → Inv (called w c) → HasTasks a w lacking → b.over ≡ a.over → b.kept ≡ a.kept → HasFront a w → HasFront b (called w c)
front-called a b w c lacking inv after serves over kept front =
    let lives = inv.holds.tracks.lives in
    let none : life_at w (length w.lives) ≡ no_life = get_or_past w.lives (length w.lives) no_life (omega arith) in
    let new : status_at w (length w.lives) ≡ status.Unsched = ap (λ (l : Life). l.status) none in
    front_same a b w (called w c) lacking (length w.lives) inv after.holds.tracks serves
    (record {
      tree = refl;
      longer = let long = length-append w.calls (c ∷ []) in omega (arith, long);
      call = λ j lt. get_or_append_left w.calls (c ∷ []) no_call j lt;
      life = λ j lt ne. get_or_append_left w.lives _ no_life j (omega (arith, lt, lives));
      opened = ap is_settled new;
    })
    (stays-itself w.memo) (λ e. (let bad = sym new ∙ e in absurd (cc))) over kept front

all_tree : (w : Known) (cs : List Call) → (all_submitted w cs).tree ≡ w.tree
all_tree w [] = refl
all_tree w (c ∷ cs) = all_tree (submitted w c) cs

all_memo : (w : Known) (cs : List Call) → (all_submitted w cs).memo ≡ w.memo
all_memo w [] = refl
all_memo w (c ∷ cs) = all_memo (submitted w c) cs

all_longer : (w : Known) (cs : List Call) → length w.calls ≤ length (all_submitted w cs).calls
all_longer w [] = omega arith
all_longer w (c ∷ cs) = let rest = all_longer (submitted w c) cs in let long = length-append w.calls (c ∷ []) in omega (arith, rest, long)

all_call : (w : Known) (cs : List Call) (k : ℕ) → k < length w.calls → call_at (all_submitted w cs) k ≡ call_at w k
all_call w [] k lt = refl
all_call w (c ∷ cs) k lt =
    let long = length-append w.calls (c ∷ []) in
    all_call (submitted w c) cs k (omega (arith, lt, long)) ∙ get_or_append_left w.calls (c ∷ []) no_call k lt

pub front-joined : (a b : AgendaView) (w : Known) (k : ℕ) (ran : Dry) (lacking : Option ℕ) → Inv w → Inv (joined w k ran) → IsCallback w k → HasTasks a w lacking → b.over ≡ a.over → b.kept ≡ a.kept → HasFront a w → HasFront b (joined w k ran)
front-joined a b w k ran lacking inv after callback serves over kept front =
    let pending : status_at w k ≡ status.Pending = callback.pending in
    let lives = inv.holds.tracks.lives in
    let u : Known = joining w k ran in
    let life : Life = record (life_at w k) { status = status.Joining; ran = Some ran.0 } in
    let long = length-set w.lives k life in
    front_same a b w (joined w k ran) lacking k inv after.holds.tracks serves
    (record {
      tree = all_tree u ran.1;
      longer = all_longer u ran.1;
      call = all_call u ran.1;
      life = λ j lt ne. life-all u ran.1 j (omega (arith, lt, lives, long)) ∙ get_or-set_other w.lives k j life no_life ne;
      opened = ap is_settled pending;
    })
    (λ key h. ap (λ (m : MemoView). is_some (found m key)) (all_memo u ran.1) ∙ h) (λ e. (let bad = sym pending ∙ e in absurd (cc))) over kept front

-- ---- storing

pub front-stored : (a b : AgendaView) (w : Known) (k : ℕ) (key : KeyView) (saved : Saved) → b.over ≡ a.over → b.kept ≡ a.kept → HasFront a w → HasFront b (stored_by w k key saved)
front-stored a b w k key saved over kept front = record {
  within = let long = ap (λ (q : List ℕ). length q) over in let few = front.within in omega (arith, long, few, kept);
  kept = λ i j lt at outcome is.
      kept_more w.memo (with_saved w.memo key saved) (key_at w j) outcome (stays-stored w.memo key saved)
      (front.kept i j (omega (arith, lt, kept)) (ap (λ (q : List ℕ). slice_get q i) (sym over) ∙ at) outcome is);
}

-- a task whose key is stored now needs no storing
pub needs-none-stored : (w : Known) (k : ℕ) (key : KeyView) (saved : Saved) → key_at w k ≡ Some key → NeedsNone (stored_by w k key saved) k
needs-none-stored w k key saved key_is outcome is = ap (λ (x : Option KeyView). is_kept (with_saved w.memo key saved) x outcome) key_is ∙ by_outcome outcome
  where
    by_outcome : (e : Outcome) → is_kept (with_saved w.memo key saved) (Some key) e ≡ true
    by_outcome (o.Value value files) = stored-found w.memo key saved
    by_outcome (o.Failed exception) = refl

-- the task behind the first ones is stored, and one more needs no storing
pub front-stored-next : (a b : AgendaView) (w : Known) (k : ℕ) (key : KeyView) (saved : Saved) → slice_get a.over a.kept ≡ Some k → key_at w k ≡ Some key → b.over ≡ a.over → b.kept ≡ a.kept + 1 → HasFront a w → HasFront b (stored_by w k key saved)
front-stored-next a b w k key saved next key_is over kept front =
    front-passed a b (stored_by w k key saved) k next (needs-none-stored w k key saved key_is) over kept (front-stored a a w k key saved refl refl front)

-- ---- settling

-- a task settles whose attempt is over, at any place of the queue
pub front-ended : (a b : AgendaView) (w : Known) (k i : ℕ) (outcome : Outcome) → Inv w → Inv (settled_as w k outcome) → HasTasks a w None → slice_get a.over i ≡ Some k → b.over ≡ remove a.over i
    → (i < a.kept → b.kept + 1 ≡ a.kept) → (a.kept ≤ i → b.kept ≡ a.kept) → HasFront a w → HasFront b (settled_as w k outcome)
front-ended a b w k i outcome inv after serves at over less same front =
    let ended : status_at w k ≡ status.RunningEnded = over-at a w None k i serves at in
    let v : Known = settled_as w k outcome in
    let on : GoesOn w v k = put_on w v k _ refl refl refl (ap is_settled ended) in
    front_moves a b w v inv.holds.tracks after.holds.tracks (goes_grows w v k inv.holds.tracks on) (stays-itself w.memo) within
    (λ n j lt there.
    let moved : slice_get (remove a.over i) n ≡ Some j = ap (λ (q : List ℕ). slice_get q n) (sym over) ∙ there in
    let stood = stood_first n j lt moved in (
      stood,
      over_still a w v None k stood.place j inv serves on stood.there
          (λ e. true≢false (sym (get-has (remove a.over i) n j moved) ∙ ap (λ (m : ℕ). has_number m (remove a.over i)) e ∙ remove-lacks a.over i k serves.over.once at)),
    )) front
  where
    short : i < length a.over
    short = slice_get_within a.over i k at

    within : b.kept ≤ length b.over
    within =
        let long = ap (λ (q : List ℕ). length q) over in
        let shorter = length-remove a.over i short in
        let there = short in
        let few = front.within in
        elim (cases_lt i a.kept) [
          | inl lt ↦ let count = less lt in omega (arith, long, shorter, few, count)
          | inr ge ↦ let count = same (omega (arith, ge)) in omega (arith, long, shorter, there, ge, count)
        ]

    stood_first : (n j : ℕ) → n < b.kept → slice_get (remove a.over i) n ≡ Some j → StoodFirst a j
    stood_first n j lt moved = elim (cases_lt n i) [
      | inl before ↦ record {
        place = n;
        below = elim (cases_lt i a.kept) [
          | inl first ↦ let count = less first in omega (arith, lt, count)
          | inr ge ↦ let count = same (omega (arith, ge)) in omega (arith, lt, count)
        ];
        there = remove-front a.over i n j before moved;
      }
      | inr behind ↦ record {
        place = suc n;
        below = elim (cases_lt i a.kept) [
          | inl first ↦ let count = less first in omega (arith, lt, count)
          | inr ge ↦ let count = same (omega (arith, ge)) in absurd (omega (arith, lt, count, ge, behind))
        ];
        there = remove-behind a.over i n j (omega (arith, behind)) moved;
      }
    ]

-- ---- what is to be stored, and what may settle

-- where each task of the queue is among the first ones, nothing is to be stored
pub no-store : (a : AgendaView) (w : Known) (lacking : Option ℕ) → HasTasks a w lacking → HasFront a w → a.kept ≡ length a.over → (k : ℕ) (key : KeyView) (saved : Saved) → IsStore w k key saved → ⊥
no-store a w lacking serves front all k key saved store =
    let at = has-place a.over k (serves.over.all k store.over) in
    let short = slice_get_within a.over at.place k at.there in
    let kept = front.kept at.place k (omega (arith, short, all)) at.there (value_of saved) store.is in
    let is : is_some (found w.memo key) ≡ true = sym (ap (λ (x : Option KeyView). is_kept w.memo x (value_of saved)) store.key_is) ∙ kept in
    true≢false (sym is ∙ ap is_some store.fresh)

-- a task that needs no storing may settle
pub settling-at : (a : AgendaView) (w : Known) (lacking : Option ℕ) (k i : ℕ) (outcome : Outcome) → HasTasks a w lacking → slice_get a.over i ≡ Some k → NeedsNone w k → (life_at w k).end ≡ Some outcome → IsSettling w k outcome
settling-at a w lacking k i outcome serves at done is = record { over = over-at a w lacking k i serves at; is = is; kept = done outcome is }

pub front-settles : (a : AgendaView) (w : Known) (lacking : Option ℕ) (k i : ℕ) (outcome : Outcome) → HasTasks a w lacking → HasFront a w → i < a.kept → slice_get a.over i ≡ Some k → (life_at w k).end ≡ Some outcome → IsSettling w k outcome
front-settles a w lacking k i outcome serves front lt at is = settling-at a w lacking k i outcome serves at (front.kept i k lt at) is

-- where each task of the queue needs storing, none may settle
pub none-settles : (a : AgendaView) (w : Known) (lacking : Option ℕ) → HasTasks a w lacking → ((i k : ℕ) → slice_get a.over i ≡ Some k → NeedsNone w k → ⊥) → (k : ℕ) (outcome : Outcome) → IsSettling w k outcome → ⊥
none-settles a w lacking serves need k outcome settling =
    let at = has-place a.over k (serves.over.all k settling.over) in
    need at.place k at.there (needs-none w k outcome settling.is settling.kept)
