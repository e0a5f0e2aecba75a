-- Which callbacks are ready, and the one that is given next.
use Rattle.std.proofs.Common.{◌≡◌, ◌≢◌, ◌⊎◌, inl, inr, ℕ, zero, suc, ◌+◌, ◌<◌, Bool, true, false, not, ◌||◌, nat_eq, List, [], ◌∷◌, length, get_or, take, Option, Some, None, IsSome, slice_get, refl, sym, ◌∙◌, ap, subst, arith, eq-eqb, eqb-true, true≢false, if◌then◌else◌}
use Rattle.std.specs.Prelude.{Result}
use Rattle.std.proofs.lemmas.Bool.{cases_lt}
use Rattle.std.proofs.lemmas.List.{get_or_past}
use Rattle.std.proofs.lemmas.Option.{slice_get_within}
use Rattle.flow_base.specs.declared.outcome.Exception.{Exception}
use Rattle.flow_base.specs.declared.outcome.Outcome.{Outcome}
use Rattle.task_record.specs.declared.status.Status.{Status}
use Rattle.task_record.specs.declared.status.Status.TheVariants as status
use Rattle.task_record.specs.States.{is_settled}
use Rattle.dependency_graph.specs.declared.callback.FutureState.TheVariants as state
use Rattle.dependency_graph.specs.declared.callback.Callback.{Callback}
use Rattle.dependency_graph.specs.declared.callback.Callback.TheVariants.{Launch, DepFail, JoinDone}
use Rattle.dependency_graph.specs.declared.callback.CallbackKind.{CallbackKind}
use Rattle.dependency_graph.specs.declared.callback.CallbackKind.TheVariants as kind
use Rattle.dependency_graph.specs.CallbackViews.{CallbackView}
use Rattle.dependency_graph.specs.Callbacks.{Callbacks, IsExact, IsReadyCallback, AreDistinctNumbers, is_open, state_in, all_settled, has_number, waits_at, to_do, to_do_by, to_do_of, next_in, next_of, with_given_by}
use Rattle.dependency_graph.specs.Graphs.{Graph, with_next}
use Rattle.dependency_graph.proofs.Numbers.{is-false, or-cases, or-right, and-split, not-eq}
use Rattle.flow_meaning.specs.Inputs.{inputs, distinct}
use Rattle.flow_meaning.specs.Meaning.{Done}
use Rattle.flow_meaning.specs.Sequential.{outcome_at}
use Rattle.body_requests.specs.Asks.{Each}
use Rattle.call_rules.specs.Calls.{Call, awaited}
use Rattle.call_rules.specs.Groups.{AllKnown}
use Rattle.kernel_model.specs.Known.{Known, Life, no_call, no_life, life_at, outcome_in, path_at, known}
use Rattle.kernel_model.specs.Invariants.{IsReached, Tracks}
use Rattle.kernel_model.proofs.Places.{known-at}
use Rattle.agenda_model.specs.Agendas.{Ties, HasStatus, IsLeft, IsCurrent, IsCurrentAs, paths_at}
use Rattle.agenda_model.proofs.NumberLists.{get-has}
use Rattle.agenda_model.proofs.Named.{IsNamed}

-- ---- settled tasks

not_false : (b : Bool) → (not b) ≡ true → b ≡ false
not_false true h = absurd (true≢false (sym h))
not_false false h = refl

not_true : (b : Bool) → (not b) ≡ false → b ≡ true
not_true true h = refl
not_true false h = absurd (true≢false h)

reached_end : (life : Life) (s : Status) → IsReached life s → is_settled s ≡ true → IsSome life.end
reached_end life status.ExecDone r h = r
reached_end life status.Failed r h = r
reached_end life status.DepFail r h = r
reached_end life status.MemoDone r h = r
reached_end life status.Unsched r h = absurd (true≢false (sym h))
reached_end life status.Pending r h = absurd (true≢false (sym h))
reached_end life status.Launched r h = absurd (true≢false (sym h))
reached_end life status.Running r h = absurd (true≢false (sym h))
reached_end life status.RunningEnded r h = absurd (true≢false (sym h))
reached_end life status.Joining r h = absurd (true≢false (sym h))
reached_end life status.FailRetryable r h = absurd (true≢false (sym h))

some_settled : (life : Life) → IsSome (outcome_in life) → is_settled life.status ≡ true
some_settled life h = by (is_settled life.status) h
  where
    by : (b : Bool) → IsSome (if b then life.end else None) → b ≡ true
    by true h = refl
    by false h = absurd (true≢false (sym h))

settled_some : (life : Life) → IsReached life life.status → is_settled life.status ≡ true → IsSome (outcome_in life)
settled_some life reached h = rw h (reached_end life life.status reached h)

-- ---- what the graph and what is known say of inputs

module _ (g : Graph) (w : Known) (lacking : Option ℕ) (tracks : Tracks w) (ties : Ties g w.calls w.lives lacking) where
  input_closed : (n : ℕ) → IsSome (outcome_at (known w) (path_at w n)) → is_open (state_in g.callbacks.states n) ≡ false
  input_closed n there = elim (cases_lt n (length w.calls)) [
    | inl lt ↦ ties.opens n lt ∙ ap not (some_settled (life_at w n) (subst (λ (r : Option Outcome). IsSome r) (known-at w tracks n lt) there))
    | inr ge ↦ let states = ties.states in ap is_open (get_or_past g.callbacks.states n state.Failed (omega (arith, ge, states)))
  ]

  pub known-closed : (ns : List ℕ) → AllKnown (known w) (paths_at w.calls ns) → all_settled g.callbacks.states ns ≡ true
  known-closed [] h = refl
  known-closed (n ∷ ns) h = rw (input_closed n h.0) (known-closed ns h.1)

  input_known : (n : ℕ) → IsNamed (path_at w n) → is_open (state_in g.callbacks.states n) ≡ false → IsSome (outcome_at (known w) (path_at w n))
  input_known n named closed = elim (cases_lt n (length w.calls)) [
    | inl lt ↦ subst (λ (r : Option Outcome). IsSome r) (sym (known-at w tracks n lt)) (settled_some (life_at w n) (tracks.lived n lt).reached (not_true _ (sym (ties.opens n lt) ∙ closed)))
    | inr ge ↦ absurd (named (ap (λ (c : Call). c.path) (get_or_past w.calls n no_call (omega arith))))
  ]

  pub closed-known : (ns : List ℕ) → Each IsNamed (paths_at w.calls ns) → all_settled g.callbacks.states ns ≡ true → AllKnown (known w) (paths_at w.calls ns)
  closed-known [] named h = tt
  closed-known (n ∷ ns) named h =
      let parts = and-split (not (is_open (state_in g.callbacks.states n))) (all_settled g.callbacks.states ns) h in
      (input_known n named.0 (not_false _ parts.0), closed-known ns named.1 parts.1)

waits_there : (ws : List CallbackView) (c : ℕ) (view : CallbackView) → slice_get ws c ≡ Some view → waits_at ws c ≡ view.inputs
waits_there [] c view at = absurd (cc)
waits_there (v ∷ ws) zero view at = let same : v ≡ view = cc in ap (λ (x : CallbackView). x.inputs) same
waits_there (v ∷ ws) (suc c) view at = waits_there ws c view at

pub stored-ready : (g : Callbacks) (c : ℕ) (view : CallbackView) → slice_get g.waits c ≡ Some view → all_settled g.states view.inputs ≡ true → IsReadyCallback g c
stored-ready g c view at h = record { there = slice_get_within g.waits c view at; inputs = ap (all_settled g.states) (waits_there g.waits c view at) ∙ h }

pub ready-inputs : (g : Callbacks) (c : ℕ) (view : CallbackView) → slice_get g.waits c ≡ Some view → IsReadyCallback g c → all_settled g.states view.inputs ≡ true
ready-inputs g c view at ready = ap (all_settled g.states) (sym (waits_there g.waits c view at)) ∙ ready.inputs

-- ---- the first numbers of a list

-- one number more is the next one
take_next : (xs : List ℕ) (i c n : ℕ) → slice_get xs i ≡ Some c → has_number n (take (suc i) xs) ≡ true → (has_number n (take i xs) ≡ true) ⊎ (n ≡ c)
take_next [] i c n at h = absurd (cc)
take_next (x ∷ xs) zero c n at h = elim (or-cases (nat_eq n x) false h) [
  | inl e ↦ let same : x ≡ c = cc in inr (eqb-true n x e ∙ same)
  | inr bad ↦ absurd (true≢false (sym bad))
]
take_next (x ∷ xs) (suc i) c n at h = by (nat_eq n x) h (take_next xs i c n at)
  where
    by : (b : Bool) → (b || has_number n (take (suc i) xs)) ≡ true → (has_number n (take (suc i) xs) ≡ true → (has_number n (take i xs) ≡ true) ⊎ (n ≡ c)) → ((b || has_number n (take i xs)) ≡ true) ⊎ (n ≡ c)
    by true h rest = inl refl
    by false h rest = rest h

take_later : (xs : List ℕ) (i n : ℕ) → has_number n (take i xs) ≡ true → has_number n (take (suc i) xs) ≡ true
take_later xs zero n h = absurd (true≢false (sym h))
take_later [] (suc i) n h = h
take_later (x ∷ xs) (suc i) n h = by (nat_eq n x) h (take_later xs i n)
  where
    by : (b : Bool) → (b || has_number n (take i xs)) ≡ true → (has_number n (take i xs) ≡ true → has_number n (take (suc i) xs) ≡ true) → (b || has_number n (take (suc i) xs)) ≡ true
    by true h rest = refl
    by false h rest = rest h

take_has : (xs : List ℕ) (i c : ℕ) → slice_get xs i ≡ Some c → has_number c (take (suc i) xs) ≡ true
take_has [] i c h = absurd (cc)
take_has (x ∷ xs) zero c h = let same : c ≡ x = cc in ap (λ (b : Bool). b || false) (eq-eqb c x same)
take_has (x ∷ xs) (suc i) c h = or-right (nat_eq c x) (has_number c (take (suc i) xs)) (take_has xs i c h)

take_lacks : (xs : List ℕ) (i c : ℕ) → AreDistinctNumbers xs → slice_get xs i ≡ Some c → has_number c (take i xs) ≡ false
take_lacks xs zero c distinct h = refl
take_lacks [] (suc i) c distinct h = absurd (cc)
take_lacks (x ∷ xs) (suc i) c distinct h =
    let other : nat_eq c x ≡ false = not-eq c x (λ same. true≢false (sym (ap (λ (n : ℕ). has_number n xs) (sym same) ∙ get-has xs i c h) ∙ distinct.0)) in
    rw other (take_lacks xs i c distinct.1 h)

-- ---- the callback that is given

pub record IsNext (g : Callbacks) (t : Callback) : Type 0 where
  pub number : ℕ
  pub view : CallbackView
  pub next : slice_get g.made g.given ≡ Some number
  pub there : slice_get g.waits number ≡ Some view
  pub is : to_do g.states view ≡ t

pub next-is : (g : Callbacks) (t : Callback) → next_of g ≡ Some t → IsNext g t
next-is g t h = by_number (slice_get g.made g.given) refl h
  where
    by_view : (c : ℕ) → slice_get g.made g.given ≡ Some c → (v : Option CallbackView) → slice_get g.waits c ≡ v → to_do_of g.states v ≡ Some t → IsNext g t
    by_view c next None at h = absurd (cc)
    by_view c next (Some view) at h = let same : to_do g.states view ≡ t = cc in record { number = c; view = view; next = next; there = at; is = same }

    by_number : (c : Option ℕ) → slice_get g.made g.given ≡ c → next_in g c ≡ Some t → IsNext g t
    by_number None next h = absurd (cc)
    by_number (Some c) next h = by_view c next (slice_get g.waits c) refl h

pub next-left : (g : Callbacks) (t : Callback) (n : IsNext g t) → IsExact g → IsLeft g n.number
next-left g t n exact = take_lacks g.made g.given n.number exact.once n.next

pub next-ready : (g : Callbacks) (t : Callback) (n : IsNext g t) → IsExact g → all_settled g.states n.view.inputs ≡ true
next-ready g t n exact = ready-inputs g n.number n.view n.there (exact.only n.number (get-has g.made g.given n.number n.next))

abbrev given_graph : Graph → Graph
given_graph g = record g { callbacks = record g.callbacks { given = g.callbacks.given + 1 } }

-- its task lacks its callback then
pub ties-given : (g : Graph) (cs : List Call) (lives : List Life) (t : Callback) (n : IsNext g.callbacks t) → IsExact g.callbacks → Ties g cs lives None → Ties (with_next g) cs lives (Some n.view.task)
ties-given g cs lives t n exact ties =
    let made = g.callbacks.made in
    let given = g.callbacks.given in
    let c = n.number in
    let more : given + 1 ≡ suc given = omega arith in
    let here : IsLeft g.callbacks c = next-left g.callbacks t n exact in
    let earlier : (d : ℕ) → has_number d (take (given + 1) made) ≡ false → IsLeft g.callbacks d
    = λ d left. is-false (has_number d (take given made)) (λ h. true≢false (sym (ap (λ (i : ℕ). has_number d (take i made)) more ∙ take_later made given d h) ∙ left)) in
    let other : (d : ℕ) → has_number d (take (given + 1) made) ≡ false → d ≢ c
    = λ d left same. true≢false (sym (ap (λ (i : ℕ). has_number d (take i made)) more ∙ ap (λ (e : ℕ). has_number e (take (suc given) made)) same ∙ take_has made given c n.next) ∙ left) in
    let short : given < length made = slice_get_within made given c n.next in
    let after : Ties (given_graph g) cs lives (Some n.view.task) = record {
      paths_are = ties.paths_are;
      lived = ties.lived;
      states = ties.states;
      opens = ties.opens;
      current = λ d view at left. ((ties.current d view at (earlier d left)).0, λ same. other d left (ties.once d c view n.view at n.there (earlier d left) here same));
      stored = λ j lt waits lacks.
          let s = ties.stored j lt waits (λ bad. bad) in
          let apart : s.number ≢ c = λ same. lacks (sym s.task_is ∙ ap (λ (v : CallbackView). v.task) (same_view s.view n.view (sym s.there ∙ ap (slice_get g.callbacks.waits) same ∙ n.there))) in
          record {
            number = s.number;
            view = s.view;
            there = s.there;
            task_is = s.task_is;
            left = is-false (has_number s.number (take (given + 1) made)) (λ h. elim (take_next made given c s.number n.next (ap (λ (i : ℕ). has_number s.number (take i made)) (sym more) ∙ h)) [
              | inl before ↦ true≢false (sym before ∙ s.left)
              | inr same ↦ apart same
            ]);
          };
      once = λ d e x y first second l m same. ties.once d e x y first second (earlier d l) (earlier e m) same;
      given = omega (arith, short);
    } in
    subst (λ (h : Graph). Ties h cs lives (Some n.view.task)) (ap (λ (next : Option ℕ). record g { callbacks = with_given_by g.callbacks next }) (sym n.next)) after
  where
    same_view : (v u : CallbackView) → Some v ≡ Some u → v ≡ u
    same_view v u h = cc

-- ---- what the callback of a task is

pub of-launch : (kd : CallbackKind) (failed : Bool) (j k : ℕ) → to_do_by kd failed j ≡ Launch k → (kd ≡ kind.Launch) × (j ≡ k)
of-launch kind.Launch false j k h = let same : j ≡ k = cc in (refl, same)
of-launch kind.Launch true j k h = absurd (cc)
of-launch kind.Join failed j k h = absurd (cc)

pub of-failure : (kd : CallbackKind) (failed : Bool) (j k : ℕ) → to_do_by kd failed j ≡ DepFail k → (kd ≡ kind.Launch) × (j ≡ k)
of-failure kind.Launch true j k h = let same : j ≡ k = cc in (refl, same)
of-failure kind.Launch false j k h = absurd (cc)
of-failure kind.Join failed j k h = absurd (cc)

pub of-join : (kd : CallbackKind) (failed : Bool) (j k : ℕ) → to_do_by kd failed j ≡ JoinDone k → (kd ≡ kind.Join) × (j ≡ k)
of-join kind.Join failed j k h = let same : j ≡ k = cc in (refl, same)
of-join kind.Launch false j k h = absurd (cc)
of-join kind.Launch true j k h = absurd (cc)

-- a pending task waits for its inputs
pub launch-inputs : (cs : List Call) (lives : List Life) (k : ℕ) (view : CallbackView) → IsCurrent cs lives view → view.task ≡ k → HasStatus lives status.Pending k → paths_at cs view.inputs ≡ inputs (get_or cs k no_call).arguments
launch-inputs cs lives k view current is pending = by_kind view.kind current
  where
    by_kind : (kd : CallbackKind) → IsCurrentAs kd cs lives view.task view.inputs → paths_at cs view.inputs ≡ inputs (get_or cs k no_call).arguments
    by_kind kind.Launch h = h.inputs_are ∙ ap (λ (j : ℕ). inputs (get_or cs j no_call).arguments) is
    by_kind kind.Join h = let bad = sym h.joining ∙ ap (λ (j : ℕ). (get_or lives j no_life).status) is ∙ pending in absurd (cc)

-- a join whose body ran waits for what it returned
pub join-inputs : (cs : List Call) (lives : List Life) (k : ℕ) (view : CallbackView) (result : Result Done Exception) → IsCurrent cs lives view → view.task ≡ k → HasStatus lives status.Joining k → (get_or lives k no_life).ran ≡ Some result → paths_at cs view.inputs ≡ distinct (awaited result)
join-inputs cs lives k view result current is joining ran = by_kind view.kind current
  where
    same_result : (r t : Result Done Exception) → Some r ≡ Some t → r ≡ t
    same_result r t h = cc

    by_kind : (kd : CallbackKind) → IsCurrentAs kd cs lives view.task view.inputs → paths_at cs view.inputs ≡ distinct (awaited result)
    by_kind kind.Launch h = let bad = sym h.pending ∙ ap (λ (j : ℕ). (get_or lives j no_life).status) is ∙ joining in absurd (cc)
    by_kind kind.Join h = h.awaited_are ∙ ap (λ (r : Result Done Exception). distinct (awaited r)) (same_result h.result result (sym h.ran ∙ ap (λ (j : ℕ). (get_or lives j no_life).ran) is ∙ ran))
