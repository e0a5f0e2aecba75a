-- Each act of main keeps what a kernel keeps.
use Rattle.std.proofs.Common.{◌≡◌, ◌≢◌, ℕ, suc, ◌+◌, ◌<◌, ◌≤◌, Bool, true, false, List, [], ◌∷◌, ◌++◌, length, Option, Some, None, IsSome, refl, sym, ◌∙◌, ap, subst, arith, append-nil, inl, inr}
use Rattle.std.specs.Prelude.{slice_get, Result, option_map}
use Rattle.std.proofs.lemmas.Bool.{cases_lt}
use Rattle.flow_base.specs.declared.value.Value.{Value, out-Value}
use Rattle.flow_base.specs.declared.value.Value.TheVariants as v
use Rattle.flow_base.specs.declared.outcome.Ending.{Ending}
use Rattle.flow_base.specs.declared.outcome.Exception.{Exception}
use Rattle.flow_base.specs.declared.outcome.Outcome.{Outcome}
use Rattle.script_tree.specs.Grammar.{Tree}
use Rattle.dependency_graph.specs.declared.monitor.Settlement.{Settlement}
use Rattle.flow_meaning.specs.declared.walk.Request.{Request}
use Rattle.flow_meaning.specs.declared.walk.Request.TheVariants as request
use Rattle.flow_meaning.specs.declared.walk.Answer.{Answer}
use Rattle.flow_meaning.specs.declared.walk.Answer.TheVariants as answer
use Rattle.flow_meaning.specs.Act.{Act, Give, Throw, Ask, after}
use Rattle.flow_meaning.specs.Evaluations.{name_in}
use Rattle.flow_meaning.specs.Inputs.{Path, inputs, path_in}
use Rattle.flow_meaning.specs.Meaning.{Done}
use Rattle.flow_meaning.specs.Operators.{Text}
use Rattle.flow_meaning.specs.Walk.{main_act}
use Rattle.flow_meaning.specs.Sequential.{Tasks, outcome_at, Made, no_calls, Main, MainAct, Calls, Waits, Prints, Checkpoints, Rule, rule, makes, perform, main_answer, main_ran, at_start, waits, acted, outcome_answer, main_room}
use Rattle.body_requests.specs.Asks.{Each, IsAnswer, told_by}
use Rattle.history_laws.specs.declared.table.MainEvent.{MainEvent}
use Rattle.history_laws.specs.declared.table.MainEvent.TheVariants as act
use Rattle.history_laws.specs.declared.table.Expected.{Expected}
use Rattle.call_rules.specs.Calls.{Losses, Call, child, found, calls_below}
use Rattle.history_laws.specs.Reads.{Due, one_more, submits, due, has_end, lost}
use Rattle.history_laws.specs.Tables.{task_at, calls_in, waits_before, acts_of, table}
use Rattle.history_laws.specs.Laws.{stands, AllSettled}
use Rattle.call_rules.specs.Groups.{IsGroup, IsPlainOutcome, HasTask}
use Rattle.kernel_model.specs.declared.answers.Refusal.{Refusal}
use Rattle.kernel_model.specs.Known.{Known, call_at, path_at, life_at, known, main_rule, main_left, printed_in, apps_in, next_path, IsDone}
use Rattle.kernel_model.specs.Invariants.{IsOf, of_main, of_join, IsDue, FitsLosses, FollowsEvaluation, WaitsSettled, EndsSo, Tracks, TextsDiffer, MainDid, IsConsistent, IsQuiet, Inv, GrowsInto}
use Rattle.kernel_model.specs.Acts.{started_with, submit_of, answered, call_of, future_of, called, waited, printed, checkpointed, arrived_at, main_ended, refused}
use Rattle.kernel_model.specs.Conditions.{MainAsks, CanEndMain}
use Rattle.call_rules.proofs.Tasks.{found-front, found-some, outcome-found, some-of, keeps-front, keeps-task, parent-same, child-same}
use Rattle.call_rules.proofs.Asking.{asks-inputs, asks-call, asks-on, asks-wait, is-answer}
use Rattle.call_rules.proofs.Evaluating.{one-more, rule-rules, none-made, children-known}
use Rattle.kernel_model.proofs.Places.{known-settled, settled-within, run-within, ran-within, known-push, pushed-cases, length-pushed}
use Rattle.kernel_model.proofs.Reading.{waits-stay, waits-append, calls-append, waits_before-append, waits_before-settled, acts_of-append, printed-append}
use Rattle.kernel_model.proofs.Growing.{fits-on, fits-back}
use Rattle.kernel_model.proofs.Memos.{memo-stays}
use Rattle.kernel_model.proofs.Knowing.{knows-call, known-whole, whole-on, performs-on, acts-are}
use Rattle.kernel_model.proofs.KeepingPut.{joined-on, open-yet, free-yet, attempted-on, family-on}
use Rattle.kernel_model.proofs.KeepingTasks.{path-long}
use Rattle.kernel_model.proofs.KeepingSubmits.{grown, new-call, old-call, submit-grows, by-place, submit-tracks, submit-runs, submit-joins, submit-fits, submit-back, submit-memo, submit-placed, submit-agrees}
use Rattle.history_laws.proofs.Dues.{due_of, due-path, due-count}
use Rattle.call_rules.specs.Told.{whole_ran, whole, IsChild, Asks, IsTold}

-- ---- what is left after one more answer

pub after-more : (a : Act Done) (rs : List Answer) (r : Answer) → after a (rs ++ r ∷ []) ≡ after (after a rs) (r ∷ [])
after-more a [] r = refl
after-more (Give d) (s ∷ rs) r = refl
after-more (Throw exception) (s ∷ rs) r = refl
after-more (Ask wanted go) (s ∷ rs) r = after-more (go s) rs r

-- main goes on with the answer
pub left-after : (w : Known) (wanted : Request) (go : Answer → Act Done) (r : Answer) → main_left w ≡ Ask wanted go → after (main_act w.tree) (w.answers ++ r ∷ []) ≡ go r
left-after w wanted go r left = after-more (main_act w.tree) w.answers r ∙ ap (λ (a : Act Done). after a (r ∷ [])) left

-- ---- the start

start-goes : (tree : Tree) (losses : Losses) → whole_ran tree losses ≡ perform (main_answer (rule tree.0 losses main_room)) (main_act tree) at_start
unfolding main_ran
start-goes tree losses = refl

pub keep-start : (tree : Tree) (told : List (List Settlement)) → IsTold tree → TextsDiffer tree → Inv (started_with tree told)
keep-start tree told is differ = record {
  holds = record {
    told = is;
    texts = differ;
    tracks = record {
      lives = refl;
      distinct = λ j k h. absurd (omega arith);
      there = λ k h. absurd (omega arith);
      lived = λ k h. absurd (omega arith);
      none = λ p ne. record { reached = refl; first = λ h. refl; joined = refl; hit = refl; opened = λ h. record { attempts = refl; costs = refl; stage = refl; last = refl; unsettled = refl }; closed = λ h. absurd (cc) };
      begun = λ k h. absurd (omega arith);
      family = λ k h. absurd (omega arith);
    };
    runs = record { attempted = λ k h. absurd h; ended = λ k outcome h. absurd (cc) };
    joins = record { ran = λ k result h. absurd (cc); settled = λ k outcome h. absurd (cc); is_due = λ p n h. absurd (cc) };
    memo = record {
      once = tt;
      values = λ key saved h. absurd (cc);
      made = λ key h. absurd (cc);
      kept = λ k outcome h. absurd (cc);
      told = λ losses h key. refl;
    };
    main = record {
      asks = record { paths = []; told = is.main; made = tt };
      mains = λ i h. absurd (omega arith);
      called = refl;
      waits = tt;
      ended = λ e h. absurd (cc);
    };
    right = record {
      fits = λ k outcome h. absurd (cc);
      evaluates = λ losses h. record {
        made = no_calls;
        count = refl;
        group = none-made tree.0 losses [];
        goes_on = start-goes tree losses;
        placed = λ k h2. absurd (omega arith);
        agrees = λ k outcome h2. absurd (cc);
      };
      legal = λ losses h. record { settling = tt; launching = tt; attempts = tt; managers = tt };
      ends = λ h. absurd (cc);
    };
  };
  quiet = λ k n h. absurd (omega arith);
}

-- ---- acts that write no entry

-- main and the refusal changed alone
abbrev pub main_with : Known → List Answer → Bool → Option Ending → List MainAct → Option Refusal → Known
main_with w answers arrived ending acts refusal = record w { answers = answers; arrived = arrived; ending = ending; acts = acts; refusal = refusal }

module _ (w : Known) (answers : List Answer) (arrived : Bool) (ending : Option Ending) (acts : List MainAct) (refusal : Option Refusal) where
  abbrev pub now : Known
  now = main_with w answers arrived ending acts refusal

  pub main-grows : GrowsInto w now
  main-grows = record { tree = refl; outcome = λ k outcome h. h; calls = omega arith; call = λ k h. refl }

  pub main-tracks : Inv w → Tracks now
  main-tracks inv =
      let tw = inv.holds.tracks in
      record {
        lives = tw.lives;
        distinct = tw.distinct;
        there = tw.there;
        lived = tw.lived;
        none = tw.none;
        begun = tw.begun;
        family = λ k h. family-on w now main-grows (λ j ran. ran) (omega arith) k h (tw.family k h);
      }

  main_due : (p : Path) (n : ℕ) → IsDue w p n → IsDue now p n
  main_due p n d = record { place = d.place; within = d.within; is = d.is; ran = d.ran; fresh = d.fresh }

  -- what is kept of tasks; main's part and the theorem's two parts aside
  pub main-holds : Inv w → MainDid now → ((losses : Losses) → FitsLosses losses w → FollowsEvaluation losses w → FollowsEvaluation losses now) → (has_end w.past ≡ true → IsDone now) → Inv now
  main-holds inv did evaluates ends =
      let h = inv.holds in
      let tw = h.tracks in
      let tv = main-tracks inv in
      let back : (losses : Losses) → FitsLosses losses now → FitsLosses losses w = fits-back w now tw tv main-grows (lost w.past) h.right.fits in
      record {
        holds = record {
          told = h.told;
          texts = h.texts;
          tracks = tv;
          runs = record {
            attempted = λ k r. attempted-on w now tw tv main-grows k (run-within w tw.lives k r) (h.runs.attempted k r);
            ended = h.runs.ended;
          };
          joins = record {
            ran = λ k result g. joined-on w now inv tv main-grows k result (ran-within w tw.lives k (some-of (life_at w k).ran result g)) (h.joins.ran k result g);
            settled = h.joins.settled;
            is_due = λ p n g. main_due p n (h.joins.is_due p n g);
          };
          memo = memo-stays w now h tv main-grows refl (λ keys key. refl) (λ k outcome g. g);
          main = did;
          right = record {
            fits = λ k outcome g. fits-on w now tw tv main-grows (lost w.past) k outcome (settled-within w tw.lives k outcome g) (h.right.fits k outcome g);
            evaluates = λ losses f. evaluates losses (back losses f) (h.right.evaluates losses (back losses f));
            legal = λ losses f. h.right.legal losses (back losses f);
            ends = ends;
          };
        };
        quiet = inv.quiet;
      }

-- ---- an answer that isn't a call's

-- main's state in an evaluation
abbrev main_at : Known → Made → Main
main_at w made = record { made = made; acts = w.acts; printed = printed_in w.acts }

-- what an answer other than a call's has to show
record CanAnswer (w : Known) (wanted : Request) (r : Answer) (acts : List MainAct) : Type 0 where
  is_answer : IsAnswer r
  untold : told_by r ≡ []
  no_calls : calls_in (acts_of acts) ≡ 0
  waits : WaitsSettled (acts_of acts) w.past
  answers : (losses : Losses) → (e : FollowsEvaluation losses w) → main_answer (main_rule w losses) wanted (main_at w e.made) ≡ (r, record { made = e.made; acts = w.acts ++ acts; printed = printed_in (w.acts ++ acts) })

keep_answered : (w : Known) (wanted : Request) (r : Answer) (acts : List MainAct) → Inv w → MainAsks w wanted → CanAnswer w wanted r acts → Inv (answered w r acts)
keep_answered w wanted r acts inv asks can =
    let h = inv.holds in
    let v : Known = answered w r acts in
    let left : main_left v ≡ asks.go r = left-after w wanted asks.go r asks.left in
    let opened = open-yet w asks.not_ended in
    main-holds w (w.answers ++ r ∷ []) false w.ending (w.acts ++ acts) w.refusal inv
    (record {
      asks = subst (Asks [] (submits w.past)) (sym left) (asks-on [] (submits w.past) wanted asks.go r can.is_answer can.untold (subst (Asks [] (submits w.past)) asks.left h.main.asks));
      mains = h.main.mains;
      called = rw (acts_of-append w.acts acts) (calls-append (acts_of w.acts) (acts_of acts) ∙ (let before = h.main.called in let none = can.no_calls in omega arith));
      waits = rw (acts_of-append w.acts acts) (waits-append (acts_of w.acts) (acts_of acts) w.past h.main.waits can.waits);
      ended = λ e g. absurd (let going = asks.going in cc);
    })
    (λ losses f e. record {
      made = e.made;
      count = e.count;
      group = e.group;
      goes_on = e.goes_on
          ∙ ap (λ (a : Act Done). perform (main_answer (main_rule w losses)) a (main_at w e.made)) asks.left
          ∙ ap (λ (x : Answer × Main). perform (main_answer (main_rule w losses)) (asks.go x.0) x.1) (can.answers losses e)
          ∙ ap (λ (a : Act Done). perform (main_answer (main_rule w losses)) a (record { made = e.made; acts = w.acts ++ acts; printed = printed_in (w.acts ++ acts) })) (sym left);
      placed = e.placed;
      agrees = e.agrees;
    })
    (λ g. absurd (cc))

shown_same : (acts more : List MainAct) → printed_in more ≡ [] → printed_in acts ≡ printed_in (acts ++ more)
shown_same acts more none = sym (printed-append acts more ∙ ap (λ (l : List Value). printed_in acts ++ l) none ∙ append-nil (printed_in acts))

pub keep-printed : (w : Known) (value : Value) → Inv w → MainAsks w (request.Print value) → Inv (printed w value)
keep-printed w value inv asks = keep_answered w (request.Print value) answer.Go (Prints value ∷ []) inv asks (record {
  is_answer = tt;
  untold = refl;
  no_calls = refl;
  waits = tt;
  answers = λ losses e. ap (λ (l : List Value). (answer.Go, record { made = e.made; acts = w.acts ++ Prints value ∷ []; printed = l })) (sym (printed-append w.acts (Prints value ∷ [])));
})

pub keep-checkpointed : (w : Known) → Inv w → MainAsks w request.Checkpoint → Inv (checkpointed w)
keep-checkpointed w inv asks = keep_answered w request.Checkpoint answer.Go (Checkpoints ∷ []) inv asks (record {
  is_answer = tt;
  untold = refl;
  no_calls = refl;
  waits = tt;
  answers = λ losses e. ap (λ (l : List Value). (answer.Go, record { made = e.made; acts = w.acts ++ Checkpoints ∷ []; printed = l })) (shown_same w.acts (Checkpoints ∷ []) refl);
})

-- a request that waits for this value
data IsWait (f : Value) : Request → Type 0 where
  for_value : IsWait f (request.WaitValue f)
  for_name : IsWait f (request.WaitName f)

wait_is : (w : Known) (f : Value) (wanted : Request) → IsWait f wanted → (r : Rule) (m : Main) → main_answer r wanted m ≡ waits m (path_in (out-Value f))
wait_is w f _ for_value r m = refl
wait_is w f _ for_name r m = refl

-- what main waits for is a call of its own
wait_child : (w : Known) (f : Value) (wanted : Request) → IsWait f wanted → Inv w → MainAsks w wanted → (p : Path) (qs : List Path) → path_in (out-Value f) ≡ p ∷ qs → IsChild [] (submits w.past) p
wait_child w f _ for_value inv asks p qs at = let a = subst (Asks [] (submits w.past)) asks.left inv.holds.main.asks in asks-wait [] (submits w.past) (Ask (request.WaitValue f) asks.go) f p qs a a.told.0 at
wait_child w f _ for_name inv asks p qs at = let a = subst (Asks [] (submits w.past)) asks.left inv.holds.main.asks in asks-wait [] (submits w.past) (Ask (request.WaitName f) asks.go) f p qs a a.told.0 at

-- the task has its outcome in the evaluation when main comes to the wait
waited_outcome : (w : Known) (losses : Losses) (e : FollowsEvaluation losses w) → Inv w → (p : Path) (outcome : Outcome) → IsChild [] (submits w.past) p → outcome_at (known w) p ≡ Some outcome → (outcome_at e.made.tasks p ≡ Some outcome) × IsAnswer (answer.Outcome outcome)
waited_outcome w losses e inv p outcome child_is has =
    let on = whole-on w losses e in
    let count = e.count in
    let lt = child_is.below in
    let there = found-some e.made.tasks (child [] child_is.number) (e.group.has child_is.number (omega arith)) in
    let at : found e.made.tasks p ≡ Some there.0 = ap (found e.made.tasks) child_is.is ∙ there.1 in
    let whole_at : found (whole w.tree losses) p ≡ Some there.0 = ap (λ (ts : Tasks). found ts p) on.has_tasks ∙ found-front e.made.tasks on.tasks p there.0 at in
    let so = known-whole w losses inv.holds.tracks e p outcome has in
    let same : there.0.outcome ≡ outcome = (let f = outcome-found (whole w.tree losses) p there.0 whole_at in cc) in
    (outcome-found e.made.tasks p there.0 at ∙ ap Some same, is-answer outcome (subst IsPlainOutcome same (e.group.ruled p there.0 at).plain))

keep_waited : (w : Known) (f : Value) (wanted : Request) (p : Path) (qs : List Path) (outcome : Outcome) → IsWait f wanted → Inv w → MainAsks w wanted → path_in (out-Value f) ≡ p ∷ qs → outcome_at (known w) p ≡ Some outcome → Inv (waited w p outcome)
keep_waited w f wanted p qs outcome is inv asks at has =
    let child_is = wait_child w f wanted is inv asks p qs at in
    let now_e = inv.holds.right.evaluates (lost w.past) inv.holds.right.fits in
    keep_answered w wanted (answer.Outcome outcome) (Waits p ∷ []) inv asks (record {
      is_answer = (waited_outcome w (lost w.past) now_e inv p outcome child_is has).1;
      untold = refl;
      no_calls = refl;
      waits = (known-settled w inv.holds.tracks (p ∷ []) (some-of (outcome_at (known w) p) outcome has, tt));
      answers = λ losses e.
          wait_is w f wanted is (main_rule w losses) (main_at w e.made)
          ∙ ap (waits (main_at w e.made)) at
          ∙ ap (λ (r : Option Outcome). (outcome_answer r, acted (main_at w e.made) (Waits p))) (waited_outcome w losses e inv p outcome child_is has).0
          ∙ ap (λ (l : List Value). (answer.Outcome outcome, record { made = e.made; acts = w.acts ++ Waits p ∷ []; printed = l })) (shown_same w.acts (Waits p ∷ []) refl);
    })

pub keep-waited-value : (w : Known) (f : Value) (p : Path) (qs : List Path) (outcome : Outcome) → Inv w → MainAsks w (request.WaitValue f) → path_in (out-Value f) ≡ p ∷ qs → outcome_at (known w) p ≡ Some outcome → Inv (waited w p outcome)
keep-waited-value w f p qs outcome inv asks at has = keep_waited w f (request.WaitValue f) p qs outcome for_value inv asks at has

pub keep-waited-name : (w : Known) (f : Value) (p : Path) (qs : List Path) (outcome : Outcome) → Inv w → MainAsks w (request.WaitName f) → path_in (out-Value f) ≡ p ∷ qs → outcome_at (known w) p ≡ Some outcome → Inv (waited w p outcome)
keep-waited-name w f p qs outcome inv asks at has = keep_waited w f (request.WaitName f) p qs outcome for_name inv asks at has

-- what is no future is answered at once
keep_unwaited : (w : Known) (f : Value) (wanted : Request) → IsWait f wanted → Inv w → MainAsks w wanted → path_in (out-Value f) ≡ [] → Inv (answered w answer.Go [])
keep_unwaited w f wanted is inv asks at = keep_answered w wanted answer.Go [] inv asks (record {
  is_answer = tt;
  untold = refl;
  no_calls = refl;
  waits = tt;
  answers = λ losses e.
      wait_is w f wanted is (main_rule w losses) (main_at w e.made)
      ∙ ap (waits (main_at w e.made)) at
      ∙ ap (λ (l : List MainAct). (answer.Go, record { made = e.made; acts = l; printed = printed_in l })) (sym (append-nil w.acts));
})

pub keep-unwaited-value : (w : Known) (f : Value) → Inv w → MainAsks w (request.WaitValue f) → path_in (out-Value f) ≡ [] → Inv (answered w answer.Go [])
keep-unwaited-value w f inv asks at = keep_unwaited w f (request.WaitValue f) for_value inv asks at

pub keep-unwaited-name : (w : Known) (f : Value) → Inv w → MainAsks w (request.WaitName f) → path_in (out-Value f) ≡ [] → Inv (answered w answer.Go [])
keep-unwaited-name w f inv asks at = keep_unwaited w f (request.WaitName f) for_name inv asks at

-- ---- main comes to a wait, ends, or is refused

pub keep-arrived : (w : Known) → Inv w → Inv (arrived_at w)
keep-arrived w inv =
    let did = inv.holds.main in
    main-holds w w.answers true w.ending w.acts w.refusal inv
    (record { asks = did.asks; mains = did.mains; called = did.called; waits = did.waits; ended = did.ended })
    (λ losses f e. record { made = e.made; count = e.count; group = e.group; goes_on = e.goes_on; placed = e.placed; agrees = e.agrees })
    (λ g. let d = inv.holds.right.ends g in record { over = d.over; settled = d.settled })

pub keep-refused : (w : Known) (r : Refusal) → Inv w → Inv (refused w r)
keep-refused w r inv =
    let did = inv.holds.main in
    main-holds w w.answers w.arrived w.ending w.acts (Some r) inv
    (record { asks = did.asks; mains = did.mains; called = did.called; waits = did.waits; ended = did.ended })
    (λ losses f e. record { made = e.made; count = e.count; group = e.group; goes_on = e.goes_on; placed = e.placed; agrees = e.agrees })
    (λ g. let d = inv.holds.right.ends g in record { over = d.over; settled = d.settled })

pub keep-main-ended : (w : Known) (ending : Ending) → Inv w → CanEndMain w ending → Inv (main_ended w ending)
keep-main-ended w ending inv can =
    let did = inv.holds.main in
    let opened = open-yet w can.not_ended in
    main-holds w w.answers w.arrived (Some ending) w.acts w.refusal inv
    (record { asks = did.asks; mains = did.mains; called = did.called; waits = did.waits; ended = λ e g. let same : ending ≡ e = cc in subst (λ (x : Ending). EndsSo x (main_left w)) same can.ends })
    (λ losses f e. record { made = e.made; count = e.count; group = e.group; goes_on = e.goes_on; placed = e.placed; agrees = e.agrees })
    (λ g. absurd (cc))

-- ---- a call of main

acts_pushed : (acts : List MainAct) (p : Path) → acts_of (acts ++ Calls p ∷ []) ≡ acts_of acts ++ act.Call ∷ []
acts_pushed acts p = acts_of-append acts (Calls p ∷ [])

-- no call has the path of main's next one
main_fresh : (w : Known) → Tracks w → (k : ℕ) → k < length w.calls → path_at w k ≢ next_path w
main_fresh w tw k lt e = by_kind (tw.family k lt)
  where
    by_kind : IsOf w k → ⊥
    by_kind (of_main i less at) = let same = child-same [] i (submits w.past) (sym at ∙ e) in absurd (omega arith)
    by_kind (of_join j i less ran at) = let callers = parent-same (path_at w j) [] i (submits w.past) (sym at ∙ e) in let short = ap length callers in let long = path-long w j (tw.family j less) in absurd (omega arith)

-- main's state behind the call
record IsCalled (w : Known) (c : Call) (losses : Losses) (e : FollowsEvaluation losses w) : Type 0 where
  made : Made
  count : made.calls ≡ suc (submits w.past)
  group : IsGroup (apps_in w) losses [] made
  task : HasTask made.tasks c
  goes_on : (go : Answer → Act Done) → perform (main_answer (main_rule w losses)) (Ask (request.Call c.app c.arguments c.names) go) (main_at w e.made)
      ≡ perform (main_answer (main_rule w losses)) (go (answer.Called (future_of c))) (record { made = made; acts = w.acts ++ Calls c.path ∷ []; printed = printed_in (w.acts ++ Calls c.path ∷ []) })

is_called : (w : Known) (app : ℕ) (arguments : List Value) (names : List Text) → Inv w → MainAsks w (request.Call app arguments names) → (losses : Losses) (e : FollowsEvaluation losses w) → IsCalled w (call_of w app arguments names) losses e
is_called w app arguments names inv asks losses e =
    let r : Rule = main_rule w losses in
    let asked = subst (Asks [] (submits w.past)) asks.left inv.holds.main.asks in
    let told = subst (λ (n : ℕ). Each (IsChild [] n) (inputs arguments)) (sym e.count) (asks-inputs [] (submits w.past) app arguments names asks.go asked) in
    let plain = (children-known (apps_in w) losses [] e.made e.group (inputs arguments) told).1 in
    let more = one-more (apps_in w) losses [] e.made r app arguments names e.group told (rule-rules w.tree inv.holds.told losses main_room (record { path = child [] e.made.calls; app = app; arguments = arguments; names = names }) e.made.tasks refl plain) in
    let made : Made = (makes r [] app arguments names e.made).1 in
    record {
      made = made;
      count = ap suc e.count;
      group = more.group;
      task = subst (λ (n : ℕ). HasTask made.tasks (record { path = child [] n; app = app; arguments = arguments; names = names })) e.count more.task;
      goes_on = λ go.
          ap (λ (n : ℕ). perform (main_answer r) (go (answer.Called (v.Future (child [] n) (length names)))) (record { made = made; acts = w.acts ++ Calls (child [] n) ∷ []; printed = printed_in w.acts })) e.count
          ∙ ap (λ (l : List Value). perform (main_answer r) (go (answer.Called (v.Future (next_path w) (length names)))) (record { made = made; acts = w.acts ++ Calls (next_path w) ∷ []; printed = l })) (shown_same w.acts (Calls (next_path w) ∷ []) refl);
    }

-- one more submission behind those of a join
record WasDue (w : Known) (p : Path) (m : ℕ) : Type 0 where
  before : ℕ
  at : due w.past ≡ due_of p before
  count : m ≡ suc before

was_due : (w : Known) (p : Path) (m : ℕ) → one_more (due w.past) ≡ due_of p m → WasDue w p m
was_due w p m e = by_due (due w.past) refl e
  where
    by_due : (d : Due) → due w.past ≡ d → one_more d ≡ due_of p m → WasDue w p m
    by_due None is g = absurd (cc)
    by_due (Some d) is g =
        let path : d.0 ≡ p = due-path d.0 p (suc d.1) m g in
        record { before = d.1; at = is ∙ ap (λ (q : Path). due_of q d.1) path; count = sym (due-count d.0 p (suc d.1) m g) }

main_due_on : (w : Known) (c : Call) (rs : List Answer) (acts : List MainAct) → IsConsistent w → c.path ≡ next_path w → (p : Path) (m : ℕ) → one_more (due w.past) ≡ due_of p m → IsDue (grown w c rs false acts) p m
main_due_on w c rs acts h path p m e =
    let was = was_due w p m e in
    let d = h.joins.is_due p was.before was.at in
    let tw = h.tracks in
    let longer = length-pushed w.calls c in
    let count = was.count in
    let ran_on : (j : ℕ) → IsSome (life_at w j).ran → IsSome (life_at (grown w c rs false acts) j).ran = λ j ran. pushed-cases w.lives j (λ n life. IsSome (life_at w n).ran → IsSome life.ran) (λ g. absurd (let lt = ran-within w tw.lives (length w.lives) g in let l = tw.lives in omega arith)) (λ ne g. g) ran in
    record {
      place = d.place;
      within = let lt = d.within in omega arith;
      is = d.is ∙ ap (λ (b : Call). b.path) (sym (old-call w c rs false acts d.place d.within));
      ran = ran_on d.place d.ran;
      fresh = λ k i lk at. by-place w c rs false acts (λ n. path_at (grown w c rs false acts) n ≡ child p i → i < m)
          (λ n less g. (let lt = d.fresh n i less (ap (λ (b : Call). b.path) (sym (old-call w c rs false acts n less)) ∙ g) in omega arith))
          (λ g. absurd (let callers : [] ≡ p = parent-same [] p (submits w.past) i (sym path ∙ sym (ap (λ (b : Call). b.path) (new-call w c rs false acts)) ∙ g) in let long = path-long w d.place (tw.family d.place d.within) in let empty : p ≡ path_at w d.place = d.is in let short = ap length (callers ∙ empty) in omega arith))
          k lk at;
    }

main_quiet : (w : Known) (c : Call) (rs : List Answer) (acts : List MainAct) → Inv w → c.path ≡ next_path w → IsQuiet (grown w c rs false acts)
main_quiet w c rs acts inv path k m lt at =
    let v : Known = grown w c rs false acts in
    let h = inv.holds in
    let was = was_due w (path_at v k) m at in
    let count = was.count in
    by-place w c rs false acts (λ n. due w.past ≡ due_of (path_at v n) was.before → length (calls_below (apps_in v) (known v) (call_at v n)) ≤ m)
    (λ n less g.
    let call : call_at v n ≡ call_at w n = old-call w c rs false acts n less in
    let few = inv.quiet n was.before less (g ∙ ap (λ (b : Call). due_of b.path was.before) call) in
    let all : known v ≡ known w = known-push w.calls w.lives c h.tracks.lives in
    let below : calls_below (apps_in v) (known v) (call_at v n) ≡ calls_below (apps_in w) (known w) (call_at w n) = ap (λ (b : Call). calls_below (apps_in w) (known v) b) call ∙ ap (λ (ts : Tasks). calls_below (apps_in w) ts (call_at w n)) all in
    omega (arith, ap length below, few))
    (λ g.
    let d = h.joins.is_due (path_at v (length w.calls)) was.before g in
    absurd (main_fresh w h.tracks d.place d.within (sym d.is ∙ ap (λ (b : Call). b.path) (new-call w c rs false acts) ∙ path)))
    k lt was.at

pub keep-called : (w : Known) (app : ℕ) (arguments : List Value) (names : List Text) → Inv w → MainAsks w (request.Call app arguments names) → Inv (called w (call_of w app arguments names))
keep-called w app arguments names inv asks =
    let h = inv.holds in
    let tw = h.tracks in
    let n : ℕ = length w.calls in
    let c : Call = call_of w app arguments names in
    let rs : List Answer = w.answers ++ answer.Called (future_of c) ∷ [] in
    let acts : List MainAct = w.acts ++ Calls c.path ∷ [] in
    let v : Known = grown w c rs false acts in
    let opened = open-yet w asks.not_ended in
    let here : call_at v n ≡ c = new-call w c rs false acts in
    let path_here : path_at v n ≡ c.path = ap (λ (b : Call). b.path) here in
    let old : (k : ℕ) → k < n → call_at v k ≡ call_at w k = old-call w c rs false acts in
    let longer = length-pushed w.calls c in
    let more : submits v.past ≡ submits w.past + 1 = refl in
    let more_suc : submits v.past ≡ suc (submits w.past) = omega arith in
    let kind : IsOf v n = of_main (submits w.past) (omega arith) path_here in
    let tv : Tracks v = submit-tracks w c rs false acts h (main_fresh w tw) (omega arith) kind in
    let grows = submit-grows w c rs false acts in
    let left : main_left v ≡ asks.go (answer.Called (future_of c)) = left-after w (request.Call app arguments names) asks.go (answer.Called (future_of c)) asks.left in
    let asked = subst (Asks [] (submits w.past)) asks.left h.main.asks in
    let back : (losses : Losses) → FitsLosses losses v → FitsLosses losses w = submit-back w c rs false acts h tv in
    let evaluates : (losses : Losses) → FitsLosses losses v → FollowsEvaluation losses v = λ losses f.
    let e = h.right.evaluates losses (back losses f) in
    let i = is_called w app arguments names inv asks losses e in
    let goes : whole_ran w.tree losses ≡ perform (main_answer (main_rule v losses)) (main_left v) (record { made = i.made; acts = acts; printed = printed_in acts })
    = e.goes_on
    ∙ ap (λ (a : Act Done). perform (main_answer (main_rule w losses)) a (main_at w e.made)) asks.left
    ∙ i.goes_on asks.go
    ∙ ap (λ (a : Act Done). perform (main_answer (main_rule w losses)) a (record { made = i.made; acts = acts; printed = printed_in acts })) (sym left) in
    let on = performs-on (main_rule v losses) (main_left v) (record { made = i.made; acts = acts; printed = printed_in acts }) in
    let tasks : whole w.tree losses ≡ i.made.tasks ++ on.tasks = ap (λ (x : Result Done Exception × Main). x.1.made.tasks) goes ∙ on.has_tasks in
    record {
      made = i.made;
      count = i.count ∙ sym more_suc;
      group = i.group;
      goes_on = goes;
      placed = submit-placed w c rs false acts losses e.placed (subst (λ (ts : Tasks). HasTask ts c) (sym tasks) (keeps-task i.made.tasks (i.made.tasks ++ on.tasks) (keeps-front i.made.tasks on.tasks) c i.task));
      agrees = submit-agrees w c rs false acts h losses e.agrees;
    } in
    record {
      holds = record {
        told = h.told;
        texts = h.texts;
        tracks = tv;
        runs = submit-runs w c rs false acts h tv;
        joins = submit-joins w c rs false acts h tv
            (λ k result ran. joined-on w v inv tv grows k result (ran-within w tw.lives k (some-of (life_at w k).ran result ran)) (h.joins.ran k result ran))
            (λ p m at. main_due_on w c rs acts h refl p m at);
        memo = submit-memo w c rs false acts h tv;
        main = record {
          asks = subst (Asks [] (submits v.past)) (sym left) (subst (λ (m : ℕ). Asks [] m (asks.go (answer.Called (future_of c)))) (sym more_suc) (asks-call [] (submits w.past) app arguments names asks.go (length names) asked));
          mains = λ i lt.
              elim (cases_lt i (submits w.past)) [
                | inl less ↦ let was = h.main.mains i less in (was.0, let small = was.1 in omega arith, ap (λ (b : Call). b.path) (old was.0 was.1) ∙ was.2)
                | inr past ↦ let same : submits w.past ≡ i = omega arith in (n, omega arith, path_here ∙ ap (child []) same)
              ];
          called = rw (acts_pushed w.acts c.path, calls-append (acts_of w.acts) (act.Call ∷ [])) (let before = h.main.called in omega arith);
          waits = rw (acts_pushed w.acts c.path) (waits-stay (submit_of w c) (acts_of w.acts ++ act.Call ∷ []) w.past (waits-append (acts_of w.acts) (act.Call ∷ []) w.past h.main.waits tt));
          ended = λ e g. absurd (let going = asks.going in cc);
        };
        right = record {
          fits = submit-fits w c rs false acts h tv;
          evaluates = evaluates;
          legal = λ losses f.
              let before = h.right.evaluates losses (back losses f) in
              let e = evaluates losses f in
              let b = h.right.legal losses (back losses f) in
              let new = knows-call v losses tv e n (omega arith) in
              let on = whole-on v losses e in
              let table_acts : (table w.tree losses).acts ≡ (acts_of w.acts ++ act.Call ∷ []) ++ acts_of on.acts = acts-are w.tree losses ∙ ap acts_of on.has_acts ∙ acts_of-append acts on.acts ∙ ap (λ (l : List MainEvent). l ++ acts_of on.acts) (acts_pushed w.acts c.path) in
              let counted : calls_in (acts_of w.acts ++ act.Call ∷ []) ≡ submits w.past + 1 = calls-append (acts_of w.acts) (act.Call ∷ []) ∙ (let did = h.main.called in omega arith) in
              record {
                settling = (
                  record {
                    open_yet = opened;
                    stands = stands (free-yet w inv losses before) (record {
                      next = refl;
                      within = rw table_acts (let whole_count = calls-append (acts_of w.acts ++ act.Call ∷ []) (acts_of on.acts) in omega (arith, whole_count, counted));
                      same_app = ap (option_map (λ (t : Expected). t.app)) (ap (task_at (table w.tree losses)) (sym path_here) ∙ new.is) ∙ ap Some (new.app ∙ ap (λ (b : Call). name_in (slice_get (apps_in w) b.app)) here);
                      waited = subst (λ (l : List MainEvent). AllSettled (waits_before (submits w.past) l) w.past) (sym table_acts) (rw (waits_before-append (submits w.past) (acts_of w.acts ++ act.Call ∷ []) (acts_of on.acts) (omega (arith, counted))) (subst (λ (m : ℕ). AllSettled (waits_before m (acts_of w.acts ++ act.Call ∷ [])) w.past) h.main.called (waits_before-settled (acts_of w.acts) w.past h.main.waits)));
                    });
                  },
                  b.settling,
                );
                launching = (tt, b.launching);
                attempts = (tt, b.attempts);
                managers = (refl, b.managers);
              };
          ends = λ g. absurd (cc);
        };
      };
      quiet = main_quiet w c rs acts inv refl;
    }
