-- Each act on a task keeps what a kernel keeps.
use Rattle.std.proofs.Common.{◌≡◌, ℕ, ◌+◌, ◌<◌, true, false, if◌then◌else◌, List, [], ◌∷◌, length, Option, Some, None, IsSome, refl, sym, ◌∙◌, ap, subst, arith}
use Rattle.std.specs.Prelude.{Result, is_some}
use Rattle.flow_base.specs.declared.outcome.Exception.{Exception}
use Rattle.flow_base.specs.declared.outcome.Exception.TheVariants as x
use Rattle.flow_base.specs.declared.outcome.Outcome.{Outcome}
use Rattle.flow_base.specs.declared.outcome.Outcome.TheVariants as o
use Rattle.flow_base.specs.declared.outcome.Ended.{Ended}
use Rattle.flow_base.specs.declared.outcome.Ended.TheVariants as ended
use Rattle.task_record.specs.declared.status.Status.{Status}
use Rattle.task_record.specs.declared.status.Status.TheVariants as status
use Rattle.task_record.specs.States.{is_settled}
use Rattle.event_log.specs.declared.entry.Entry.TheVariants as entry
use Rattle.dependency_graph.specs.Monitors.{tell}
use Rattle.flow_meaning.specs.Evaluations.{no_losses}
use Rattle.flow_meaning.specs.Inputs.{Path}
use Rattle.flow_meaning.specs.Meaning.{Done}
use Rattle.flow_meaning.specs.Sequential.{Tasks, outcome_of, apply, join_outcome}
use Rattle.call_rules.specs.Calls.{Losses, Dry, child, Begin, awaits_with, awaited, outcome_with, call_outcome, join_dry, calls_below, calls_with}
use Rattle.history_laws.specs.Reads.{has_hit, Stage, Unlaunched, Waiting, Running, Over, stage, last_try, cost, costs, lost}
use Rattle.history_laws.specs.Tables.{task_at, status_of, kind_of, kind_with, key_with, is_attempt, is_join, table}
use Rattle.history_laws.specs.Laws.{state_with, MayFollow, MaySettle, IsOut, AttemptsSettle, AllSettled}
use Rattle.kernel_model.specs.Known.{Known, no_retries, call_at, path_at, life_at, status_at, outcome_in, settled_outcome, inputs_at, known, begin_at, key_at, saved_for, is_kept, word_of, has_ended, apps_in}
use Rattle.kernel_model.specs.Invariants.{IsReached, HasRun, IsOf, of_main, of_join, IsDue, FitsAt, FollowsEvaluation, IsAttempted, IsConsistent, Inv, stage_with, try_with, last_cost, is_memoised}
use Rattle.kernel_model.specs.Acts.{put, launched, started, finished, settlement_of, settled_as, joining}
use Rattle.kernel_model.specs.Turns.{IsCallback}
use Rattle.kernel_model.specs.Conditions.{CanLaunch, CanStart, CanFinish, CanFail, CanSettle, CanJoin, CanEndJoin}
use Rattle.call_rules.proofs.Tasks.{some-of, parent-same, length-child}
use Rattle.call_rules.proofs.Agreeing.{begin-attempts, begin-joins, runs-values}
use Rattle.kernel_model.proofs.Places.{life-same, known-put, known-settled, values-valued}
use Rattle.kernel_model.proofs.States.{not-memoised, none-at, at-state, kept-stored}
use Rattle.kernel_model.proofs.Reading.{path-same}
use Rattle.kernel_model.proofs.Retelling.{inv-retold}
use Rattle.kernel_model.proofs.Knowing.{knows-call, row-key}
use Rattle.kernel_model.proofs.KeepingPut.{keep-put, joined-on, put-grows, no-awaits}
use Rattle.history_laws.proofs.Dues.{due-path}
use Rattle.call_rules.specs.Groups.{AllKnown}

pub keep-launched : (w : Known) (k : ℕ) → Inv w → CanLaunch w k → Inv (launched w k)
keep-launched w k inv can =
    let h = inv.holds in
    let tw = h.tracks in
    let life = life_at w k in
    let p : Path = path_at w k in
    let s = at-state w inv k status.Pending can.callback.pending (λ e. absurd (cc)) refl in
    let idle : life.ran ≡ None = s.reached in
    let before = s.life.opened s.unsettled in
    let last : Unlaunched ≡ last_try p w.past = ap (λ (t : Status). try_with t life.end) (sym s.is) ∙ before.last in
    let sum : life.cost + 0 ≡ costs no_retries p w.past = ap (λ (t : Status). life.cost + last_cost no_retries t life.end) (sym s.is) ∙ before.costs in
    let own = path-same p in
    let values = runs-values (known w) (call_at w k).arguments can.values can.callback.inputs (begin-attempts (apps_in w) (known w) (call_at w k) can.app can.values can.begins).0 in
    record {
      holds = keep-put w k _ _ inv (record {
        not_ended = can.not_ended;
        within = s.within;
        of_task = (refl, tt);
        kept = λ outcome g. absurd (none-at w k outcome s.unsettled g);
        kept_ran = λ g. g;
        is_life = record {
          reached = idle;
          first = λ g. absurd (cc);
          joined = s.life.joined;
          hit = s.unhit;
          opened = λ g. record { attempts = rw own (ap (λ (n : ℕ). n + 1) before.attempts); costs = sum; stage = rw own refl; last = rw own refl; unsettled = before.unsettled };
          closed = λ g. absurd (cc);
        };
        begun = λ g. absurd (cc);
        attempted = λ r. record { inputs = can.callback.inputs; app = can.app; values = can.values; begins = can.begins };
        ended = λ outcome g f. absurd (cc);
        joined = λ tv result g. absurd (cc);
        settled = λ outcome g. absurd (cc);
        is_due = λ q n g. absurd (cc);
        fits = λ outcome g. absurd (cc);
        stands = λ losses fits later e.
            let c = knows-call w losses tw e k s.within in
            record {
              own = tt;
              launching = record {
                task = c.task;
                is = c.is;
                submitted = tw.there k s.within;
                unsettled = before.unsettled;
                inputs = rw c.inputs (values-valued w tw (inputs_at w k) values);
                runs = c.runs can.callback.inputs ∙ ap is_attempt can.begins;
                fresh = λ key is. h.memo.told losses fits key ∙ ap is_some (ap (saved_for w.memo) (sym (sym (c.key can.callback.inputs) ∙ is)) ∙ can.unsaved);
                unhit = s.unhit;
              };
              attempts = record {
                number = ap (λ (n : ℕ). n + 1) before.attempts;
                follows = subst (λ (t : Stage). MayFollow no_retries.limit (costs no_retries p w.past) t) last tt;
              };
              managers = refl;
            };
      }) (λ keys key. refl) (λ outcome g. absurd (cc));
      quiet = λ j n lt at. absurd (cc);
    }

pub keep-started : (w : Known) (k : ℕ) → Inv w → CanStart w k → Inv (started w k)
keep-started w k inv can =
    let h = inv.holds in
    let life = life_at w k in
    let p : Path = path_at w k in
    let s = at-state w inv k status.Launched can.waiting (λ e. absurd (cc)) refl in
    let idle : life.ran ≡ None = s.reached in
    let before = s.life.opened s.unsettled in
    let stands : Waiting ≡ stage p w.past = ap (λ (t : Status). stage_with t life.end) (sym s.is) ∙ before.stage in
    let last : Waiting ≡ last_try p w.past = ap (λ (t : Status). try_with t life.end) (sym s.is) ∙ before.last in
    let sum : life.cost + 0 ≡ costs no_retries p w.past = ap (λ (t : Status). life.cost + last_cost no_retries t life.end) (sym s.is) ∙ before.costs in
    let own = path-same p in
    record {
      holds = keep-put w k _ _ inv (record {
        not_ended = can.not_ended;
        within = s.within;
        of_task = (refl, tt);
        kept = λ outcome g. absurd (none-at w k outcome s.unsettled g);
        kept_ran = λ g. g;
        is_life = record {
          reached = idle;
          first = λ g. absurd (cc);
          joined = s.life.joined;
          hit = s.unhit;
          opened = λ g. record { attempts = before.attempts; costs = sum; stage = rw own refl; last = last; unsettled = before.unsettled };
          closed = λ g. absurd (cc);
        };
        begun = λ g. absurd (cc);
        attempted = λ r. h.runs.attempted k (subst HasRun (sym s.is) tt);
        ended = λ outcome g f. absurd (cc);
        joined = λ tv result g. absurd (cc);
        settled = λ outcome g. absurd (cc);
        is_due = λ q n g. absurd (cc);
        fits = λ outcome g. absurd (cc);
        stands = λ losses fits later e. record { own = tt; launching = tt; attempts = tt; managers = record { stands = sym stands; number = before.attempts; first = refl } };
      }) (λ keys key. refl) (λ outcome g. absurd (cc));
      quiet = λ j n lt at. absurd (cc);
    }

-- the word of an outcome is the kind of how the body ended
word-is : (e : Ended) → word_of (outcome_of e) ≡ kind_of e
word-is (ended.Value value files) = refl
word-is (ended.Raised exception) = refl

attempt-word : (w : Known) (k : ℕ) (h : IsAttempted w k) → word_of (call_outcome (apps_in w) no_losses (known w) (call_at w k)) ≡ kind_with (call_at w k).names (begin_at w k)
attempt-word w k h =
    ap (λ (b : Begin). word_of (outcome_with (apps_in w) no_losses (known w) (call_at w k) b)) h.begins
    ∙ word-is (apply h.app h.values (call_at w k).names)
    ∙ sym (ap (kind_with (call_at w k).names) h.begins)

pub keep-finished : (w : Known) (k : ℕ) (outcome : Outcome) → Inv w → CanFinish w k outcome → Inv (finished w k outcome)
keep-finished w k outcome inv can =
    let h = inv.holds in
    let life = life_at w k in
    let p : Path = path_at w k in
    let s = at-state w inv k status.Running can.running (λ e. absurd (cc)) refl in
    let idle : life.ran ≡ None = s.reached in
    let before = s.life.opened s.unsettled in
    let stands : Running ≡ stage p w.past = ap (λ (t : Status). stage_with t life.end) (sym s.is) ∙ before.stage in
    let last : Waiting ≡ last_try p w.past = ap (λ (t : Status). try_with t life.end) (sym s.is) ∙ before.last in
    let sum : life.cost + 0 ≡ costs no_retries p w.past = ap (λ (t : Status). life.cost + last_cost no_retries t life.end) (sym s.is) ∙ before.costs in
    let plain_sum : life.cost ≡ costs no_retries p w.past = omega (arith, sum) in
    let own = path-same p in
    let attempt = h.runs.attempted k (subst HasRun (sym s.is) tt) in
    record {
      holds = keep-put w k _ _ inv (record {
        not_ended = can.not_ended;
        within = s.within;
        of_task = (refl, tt);
        kept = λ q g. absurd (none-at w k q s.unsettled g);
        kept_ran = λ g. g;
        is_life = record {
          reached = (refl, idle);
          first = λ g. absurd (cc);
          joined = s.life.joined;
          hit = s.unhit;
          opened = λ g. record { attempts = before.attempts; costs = rw own (ap (λ (n : ℕ). n + cost no_retries (word_of outcome)) plain_sum); stage = rw own refl; last = rw own refl; unsettled = before.unsettled };
          closed = λ g. absurd (cc);
        };
        begun = λ g. absurd (cc);
        attempted = λ r. attempt;
        ended = λ q g f. let same : outcome ≡ q = cc in sym same ∙ can.is;
        joined = λ tv result g. absurd (cc);
        settled = λ q g. absurd (cc);
        is_due = λ q n g. absurd (cc);
        fits = λ q g. absurd (cc);
        stands = λ losses fits later e.
            let c = knows-call w losses h.tracks e k s.within in
            record {
              own = tt;
              launching = tt;
              attempts = record {
                task = c.task;
                is = c.is;
                is_out = subst IsOut last tt;
                number = before.attempts;
                same_kind = ap word_of can.is ∙ attempt-word w k attempt ∙ sym (c.kind attempt.inputs);
              };
              managers = record { stands = sym stands; number = before.attempts; first = refl };
            };
      }) (λ keys key. refl) (λ q g. absurd (cc));
      quiet = λ j n lt at. absurd (cc);
    }

-- ---- settling

-- the states of settled tasks
pub by-state : (P : Status → Type 0) → P status.ExecDone → P status.DepFail → P status.Failed → (outcome : Outcome) → P (status_of outcome)
by-state P done dependency failed (o.Value value files) = done
by-state P done dependency failed (o.Failed x.ZeroDivisionError) = failed
by-state P done dependency failed (o.Failed x.OverflowError) = failed
by-state P done dependency failed (o.Failed x.TypeError) = failed
by-state P done dependency failed (o.Failed x.IndexError) = failed
by-state P done dependency failed (o.Failed x.ValueError) = failed
by-state P done dependency failed (o.Failed x.SizeError) = failed
by-state P done dependency failed (o.Failed x.BudgetError) = failed
by-state P done dependency failed (o.Failed x.MissingOutputs) = failed
by-state P done dependency failed (o.Failed (x.AppError text)) = failed
by-state P done dependency failed (o.Failed (x.DependencyError paths)) = dependency
by-state P done dependency failed (o.Failed (x.JoinError paths)) = failed
by-state P done dependency failed (o.Failed x.DepthError) = failed
by-state P done dependency failed (o.Failed (x.ManagerLost manager)) = failed

-- what a settling has to show
record CanClose (w : Known) (k : ℕ) (outcome : Outcome) : Type 0 where
  not_ended : has_ended w ≡ false
  within : k < length w.calls
  unsettled : is_settled (status_at w k) ≡ false
  fits : FitsAt (lost w.past) w k outcome
  kept : is_kept w.memo (key_at w k) outcome ≡ true
  ran : is_join (begin_at w k) ≡ true → IsSome (life_at w k).ran
  attempts : (losses : Losses) → FollowsEvaluation losses w → AttemptsSettle no_retries (task_at (table w.tree losses) (path_at w k)) w.past (path_at w k) (status_of outcome)

-- settled, and the monitors not yet told
abbrev closed_yet : Known → ℕ → Outcome → Known
closed_yet w k outcome = put w k (record (life_at w k) { status = status_of outcome; end = Some outcome }) (entry.Settled (path_at w k) (status_of outcome))

keep_closed_yet : (w : Known) (k : ℕ) (outcome : Outcome) → Inv w → CanClose w k outcome → Inv (closed_yet w k outcome)
keep_closed_yet w k outcome inv can =
    let h = inv.holds in
    let tw = h.tracks in
    let p : Path = path_at w k in
    let was = tw.lived k can.within in
    let unhit : has_hit p w.past ≡ false = was.hit ∙ not-memoised (status_at w k) can.unsettled in
    let before = was.opened can.unsettled in
    let own = path-same p in
    let l = tw.lives in
    let lw = can.within in
    let placed : k < length w.lives = omega arith in
    let state = status_of outcome in
    let is : is_settled state ≡ true = by-state (λ s. is_settled s ≡ true) refl refl refl outcome in
    let plain : is_memoised state ≡ false = by-state (λ s. is_memoised s ≡ false) refl refl refl outcome in
    let same : (q : Outcome) → (if is_settled state then Some outcome else None) ≡ Some q → outcome ≡ q = λ q g. let f = rw is at g in cc in
    let v : Known = closed_yet w k outcome in
    let has : settled_outcome v k ≡ Some outcome = ap outcome_in (life-same w k _ (entry.Settled p state) placed) ∙ rw is refl in
    let kept : (q : Outcome) → settled_outcome w k ≡ Some q → (if is_settled state then Some outcome else None) ≡ Some q = λ q g. absurd (none-at w k q can.unsettled g) in
    let some-true : (r : Option (Result Done Exception)) → IsSome r → is_some r ≡ true = λ r g. g in
    record {
      holds = keep-put w k _ _ inv (record {
        not_ended = can.not_ended;
        within = can.within;
        of_task = (refl, tt);
        kept = kept;
        kept_ran = λ g. g;
        is_life = record {
          reached = by-state (λ s. IsReached (record (life_at w k) { status = state; end = Some outcome }) s) refl refl refl outcome;
          first = by-state (λ s. s ≡ status.Pending → (life_at w k).attempts ≡ 0) (λ g. absurd (cc)) (λ g. absurd (cc)) (λ g. absurd (cc)) outcome;
          joined = was.joined;
          hit = unhit ∙ sym plain;
          opened = λ g. absurd (cc);
          closed = λ g. record { settled = rw own refl; state = λ q f. let so : q ≡ outcome = cc in ap (λ m. state_with m (status_of q)) plain ∙ ap (λ r. Some (status_of r)) so };
        };
        begun = by-state (λ s. s ≡ status.Unsched → ⊥) (λ g. absurd (cc)) (λ g. absurd (cc)) (λ g. absurd (cc)) outcome;
        attempted = by-state (λ s. HasRun s → IsAttempted w k) (λ g. absurd g) (λ g. absurd g) (λ g. absurd g) outcome;
        ended = λ q. by-state (λ s. s ≡ status.RunningEnded → Some outcome ≡ Some q → q ≡ call_outcome (apps_in w) no_losses (known w) (call_at w k)) (λ g. absurd (cc)) (λ g. absurd (cc)) (λ g. absurd (cc)) outcome;
        joined = λ tv result g. joined-on w v inv tv (put-grows w k _ w.memo (entry.Settled p state ∷ []) placed kept) k result can.within (h.joins.ran k result g);
        settled = λ q g. can.ran;
        is_due = λ q n g. absurd (cc);
        fits = λ q g. subst (FitsAt (lost w.past) w k) (same q g) can.fits;
        stands = λ losses fits later e.
            let c = knows-call w losses tw e k can.within in
            record {
              own = record {
                task = c.task;
                is = c.is;
                submitted = tw.there k can.within;
                once = before.unsettled;
                state = ap (λ m. state_with m c.task.status) unhit ∙ ap Some (c.evaluated outcome (later.agrees k outcome has));
                inputs = rw c.inputs (known-settled w tw (inputs_at w k) can.fits.inputs);
                joined = λ joins. (was.joined ∙ some-true (life_at w k).ran (can.ran (sym (c.joins can.fits.inputs) ∙ joins)), subst (λ (ps : List Path). AllSettled ps w.past) (sym (c.awaits can.fits.inputs)) (known-settled w tw _ can.fits.awaited));
              };
              launching = λ done key is. h.memo.told losses fits key ∙ kept-stored w.memo (key_at w k) key outcome can.kept done (sym (row-key w losses k c can.fits.inputs) ∙ is);
              attempts = can.attempts losses e;
              managers = refl;
            };
      }) (λ keys key. refl) (λ q g. subst (λ r. is_kept w.memo (key_at w k) r ≡ true) (same q g) can.kept);
      quiet = λ j n lt at. absurd (cc);
    }

keep-closed : (w : Known) (k : ℕ) (outcome : Outcome) → Inv w → CanClose w k outcome → Inv (settled_as w k outcome)
keep-closed w k outcome inv can = inv-retold (closed_yet w k outcome) (tell (settlement_of w k outcome) w.told) (keep_closed_yet w k outcome inv can)

-- one of the first three rules settles it, or its depth
pub keep-failed : (w : Known) (k : ℕ) (exception : Exception) → Inv w → CanFail w k exception → Inv (settled_as w k (o.Failed exception))
keep-failed w k exception inv can =
    let s = at-state w inv k status.Pending can.callback.pending (λ e. absurd (cc)) refl in
    keep-closed w k (o.Failed exception) inv (record {
      not_ended = can.not_ended;
      within = s.within;
      unsettled = s.unsettled;
      fits = record {
        inputs = can.callback.inputs;
        awaited = subst (AllKnown (known w)) (sym (ap (awaits_with (apps_in w) (path_at w k)) can.begins)) tt;
        by_rule = sym (ap (outcome_with (apps_in w) (lost w.past) (known w) (call_at w k)) can.begins);
      };
      kept = ap (λ b. is_kept w.memo (key_with (call_at w k).names b) (o.Failed exception)) can.begins;
      ran = λ join. absurd (let none = sym (ap is_join can.begins) ∙ join in cc);
      attempts = λ losses e.
          let c = knows-call w losses inv.holds.tracks e k s.within in
          let idle : c.task.runs ≡ false = c.runs can.callback.inputs ∙ ap is_attempt can.begins in
          rw c.is (λ runs. absurd (cc));
    })

-- a value settles a task as done, and an exception as failed: its cost is above the limit
may-settle : (outcome : Outcome) (c sum : ℕ) → c + cost no_retries (word_of outcome) ≡ sum → MaySettle no_retries.limit sum (Over (word_of outcome)) (status_of outcome)
may-settle (o.Value value files) c sum h = refl
may-settle (o.Failed x.ZeroDivisionError) c sum h = (refl, omega (arith, h))
may-settle (o.Failed x.OverflowError) c sum h = (refl, omega (arith, h))
may-settle (o.Failed x.TypeError) c sum h = (refl, omega (arith, h))
may-settle (o.Failed x.IndexError) c sum h = (refl, omega (arith, h))
may-settle (o.Failed x.ValueError) c sum h = (refl, omega (arith, h))
may-settle (o.Failed x.SizeError) c sum h = (refl, omega (arith, h))
may-settle (o.Failed x.BudgetError) c sum h = (refl, omega (arith, h))
may-settle (o.Failed x.MissingOutputs) c sum h = (refl, omega (arith, h))
may-settle (o.Failed (x.AppError text)) c sum h = (refl, omega (arith, h))
may-settle (o.Failed (x.DependencyError paths)) c sum h = tt
may-settle (o.Failed (x.JoinError paths)) c sum h = (refl, omega (arith, h))
may-settle (o.Failed x.DepthError) c sum h = (refl, omega (arith, h))
may-settle (o.Failed (x.ManagerLost manager)) c sum h = (refl, omega (arith, h))

pub keep-settled : (w : Known) (k : ℕ) (outcome : Outcome) → Inv w → CanSettle w k outcome → Inv (settled_as w k outcome)
keep-settled w k outcome inv can =
    let h = inv.holds in
    let p : Path = path_at w k in
    let life = life_at w k in
    let s = at-state w inv k status.RunningEnded can.ready.over (λ e. absurd (cc)) refl in
    let before = s.life.opened s.unsettled in
    let attempt = h.runs.attempted k (subst HasRun (sym s.is) tt) in
    let by_body = h.runs.ended k outcome s.is can.ready.is in
    let at_last = ap (λ (t : Status). try_with t life.end) (sym s.is) ∙ before.last in
    let last : Over (word_of outcome) ≡ last_try p w.past = ap (λ (e : Option Outcome). try_with status.RunningEnded e) (sym can.ready.is) ∙ at_last in
    let at_cost = ap (λ (t : Status). life.cost + last_cost no_retries t life.end) (sym s.is) ∙ before.costs in
    let sum : life.cost + cost no_retries (word_of outcome) ≡ costs no_retries p w.past = ap (λ (e : Option Outcome). life.cost + last_cost no_retries status.RunningEnded e) (sym can.ready.is) ∙ at_cost in
    keep-closed w k outcome inv (record {
      not_ended = can.not_ended;
      within = s.within;
      unsettled = s.unsettled;
      fits = record { inputs = attempt.inputs; awaited = no-awaits w k attempt; by_rule = by_body };
      kept = can.ready.kept;
      ran = λ join. absurd (let none = sym (ap is_join attempt.begins) ∙ join in cc);
      attempts = λ losses e.
          let c = knows-call w losses h.tracks e k s.within in
          rw c.is (λ runs. subst (λ (t : Stage). MaySettle no_retries.limit (costs no_retries p w.past) t (status_of outcome)) last (may-settle outcome life.cost _ sum));
    })

-- ---- joins

-- the path of a call isn't empty
pub path-long : (w : Known) (k : ℕ) → IsOf w k → 0 < length (path_at w k)
path-long w k (of_main i lt e) = let same = ap length e in let long = length-child [] i in omega arith
path-long w k (of_join j i lt ran e) = let same = ap length e in let long = length-child (path_at w j) i in omega arith

-- a join that hasn't run has no calls
pub no-children : (w : Known) → Inv w → (k : ℕ) → k < length w.calls → (life_at w k).ran ≡ None → (j i : ℕ) → j < length w.calls → path_at w j ≡ child (path_at w k) i → ⊥
no-children w inv k within idle j i lt at = by_kind (inv.holds.tracks.family j lt)
  where
    by_kind : IsOf w j → ⊥
    by_kind (of_main m less e) = let same : child [] m ≡ child (path_at w k) i = sym e ∙ at in let short = ap length (parent-same [] (path_at w k) m i same) in let long = path-long w k (inv.holds.tracks.family k within) in omega arith
    by_kind (of_join n m less ran e) =
        let callers : path_at w n ≡ path_at w k = parent-same (path_at w n) (path_at w k) m i (sym e ∙ at) in
        let same = inv.holds.tracks.distinct n k less within callers in
        absurd (let bad : IsSome (life_at w k).ran = subst (λ (q : ℕ). IsSome (life_at w q).ran) same ran in let worse = rw idle at bad in cc)

new_due : (w : Known) (k : ℕ) (ran : Dry) → Inv w → (life_at w k).ran ≡ None → k < length w.calls → (q : Path) → path_at w k ≡ q → (n : ℕ) → IsDue (joining w k ran) q n
new_due w k ran inv idle within q same n = record {
  place = k;
  within = within;
  is = sym same;
  ran = let placed : k < length w.lives = (let l = inv.holds.tracks.lives in omega arith) in rw (life-same w k (record (life_at w k) { status = status.Joining; ran = Some ran.0 }) (entry.JoinRun (path_at w k)) placed) refl;
  fresh = λ j i lt at. absurd (no-children w inv k within idle j i lt (at ∙ ap (λ (p : Path). child p i) (sym same)));
}

-- the body of a join runs; its calls are due
pub keep-joining : (w : Known) (k : ℕ) (ran : Dry) → Inv w → CanJoin w k ran → IsConsistent (joining w k ran)
keep-joining w k ran inv can =
    let h = inv.holds in
    let tw = h.tracks in
    let life = life_at w k in
    let p : Path = path_at w k in
    let s = at-state w inv k status.Pending can.callback.pending (λ e. absurd (cc)) refl in
    let idle : life.ran ≡ None = s.reached in
    let before = s.life.opened s.unsettled in
    let stands_at : Unlaunched ≡ stage p w.past = ap (λ (t : Status). stage_with t life.end) (sym s.is) ∙ before.stage in
    let last : Unlaunched ≡ last_try p w.past = ap (λ (t : Status). try_with t life.end) (sym s.is) ∙ before.last in
    let sum : life.cost + 0 ≡ costs no_retries p w.past = ap (λ (t : Status). life.cost + last_cost no_retries t life.end) (sym s.is) ∙ before.costs in
    let own = path-same p in
    let values = runs-values (known w) (call_at w k).arguments can.values can.callback.inputs (begin-joins (apps_in w) (known w) (call_at w k) can.app can.values can.begins).0 in
    let v : Known = joining w k ran in
    let none : None ≡ settled_outcome w k = rw s.unsettled refl in
    let all : known v ≡ known w = known-put w k (record life { status = status.Joining; ran = Some ran.0 }) (entry.JoinRun p) none in
    keep-put w k _ _ inv (record {
      not_ended = can.not_ended;
      within = s.within;
      of_task = (refl, tt);
      kept = λ outcome g. absurd (none-at w k outcome s.unsettled g);
      kept_ran = λ g. refl;
      is_life = record {
        reached = refl;
        first = λ g. absurd (cc);
        joined = rw own refl;
        hit = s.unhit;
        opened = λ g. record { attempts = before.attempts; costs = sum; stage = stands_at; last = last; unsettled = before.unsettled };
        closed = λ g. absurd (cc);
      };
      begun = λ g. absurd (cc);
      attempted = λ r. absurd r;
      ended = λ outcome g f. absurd (cc);
      joined = λ tv result g. let same : ran.0 ≡ result = cc in record {
        inputs = rw all can.callback.inputs;
        app = can.app;
        values = can.values;
        begins = rw all can.begins;
        gave = sym same ∙ ap (λ (d : Dry). d.0) can.is;
        children = λ i c at few. absurd (let lt = few 0 refl in omega arith);
      };
      settled = λ outcome g. absurd (cc);
      is_due = λ q n g. new_due w k ran inv idle s.within q (due-path p q 0 n g) n;
      fits = λ outcome g. absurd (cc);
      stands = λ losses fits later e.
          let c = knows-call w losses tw e k s.within in
          record {
            own = tt;
            launching = record {
              task = c.task;
              is = c.is;
              submitted = tw.there k s.within;
              unsettled = before.unsettled;
              once = s.life.joined ∙ ap (λ r. is_some r) idle;
              inputs = rw c.inputs (values-valued w tw (inputs_at w k) values);
              joins = c.joins can.callback.inputs ∙ ap is_join can.begins;
            };
            attempts = tt;
            managers = refl;
          };
    }) (λ keys key. refl) (λ outcome g. absurd (cc))

pub joining-within : (w : Known) (k : ℕ) → Inv w → IsCallback w k → k < length w.calls
joining-within w k inv callback = (at-state w inv k status.Pending callback.pending (λ e. absurd (cc)) refl).within

-- its calls, by what is known then
pub joining-begin : (w : Known) (k : ℕ) (ran : Dry) → Inv w → (can : CanJoin w k ran) → calls_below (apps_in w) (known (joining w k ran)) (call_at w k) ≡ (join_dry (apps_in w) (path_at w k) can.app can.values).1
joining-begin w k ran inv can =
    let s = at-state w inv k status.Pending can.callback.pending (λ e. absurd (cc)) refl in
    let none : None ≡ settled_outcome w k = rw s.unsettled refl in
    let all : known (joining w k ran) ≡ known w = known-put w k (record (life_at w k) { status = status.Joining; ran = Some ran.0 }) (entry.JoinRun (path_at w k)) none in
    ap (λ (ts : Tasks). calls_below (apps_in w) ts (call_at w k)) all ∙ ap (calls_with (apps_in w) (path_at w k)) can.begins

-- what it returned has settled
pub keep-join-ended : (w : Known) (k : ℕ) (outcome : Outcome) → Inv w → CanEndJoin w k outcome → Inv (settled_as w k outcome)
keep-join-ended w k outcome inv can =
    let h = inv.holds in
    let d = can.done in
    let s = at-state w inv k status.Joining d.joining (λ e. absurd (cc)) refl in
    let j = h.joins.ran k d.result d.ran in
    keep-closed w k outcome inv (record {
      not_ended = can.not_ended;
      within = s.within;
      unsettled = s.unsettled;
      fits = record {
        inputs = j.inputs;
        awaited = subst (AllKnown (known w)) (ap awaited j.gave ∙ sym (ap (awaits_with (apps_in w) (path_at w k)) j.begins)) d.awaited;
        by_rule = can.is ∙ ap (join_outcome (known w)) j.gave ∙ sym (ap (outcome_with (apps_in w) (lost w.past) (known w) (call_at w k)) j.begins);
      };
      kept = ap (λ b. is_kept w.memo (key_with (call_at w k).names b) outcome) j.begins;
      ran = λ join. some-of (life_at w k).ran d.result d.ran;
      attempts = λ losses e.
          let c = knows-call w losses h.tracks e k s.within in
          let idle : c.task.runs ≡ false = c.runs j.inputs ∙ ap is_attempt j.begins in
          rw c.is (λ runs. absurd (cc));
    })
