-- What the memo gives, and what is stored in it, keeps what a kernel keeps.
use Rattle.std.proofs.Common.{◌≡◌, ℕ, ◌<◌, Bool, true, false, if◌then◌else◌, List, [], ◌∷◌, ◌++◌, length, Option, Some, None, IsSome, get_or, refl, sym, ◌∙◌, ap, subst, arith}
use Rattle.std.specs.Prelude.{is_some}
use Rattle.std.proofs.lemmas.List.{get_or-set_same, set-get_or}
use Rattle.flow_base.specs.declared.value.Value.{Value}
use Rattle.flow_base.specs.declared.outcome.Outcome.{Outcome}
use Rattle.script_tree.specs.declared.tree.AppDef.{AppDef}
use Rattle.script_tree.specs.Canonical as canonical
use Rattle.task_record.specs.declared.status.Status.{Status}
use Rattle.task_record.specs.declared.status.Status.TheVariants as status
use Rattle.event_log.specs.declared.entry.Entry.{Entry}
use Rattle.event_log.specs.declared.entry.Entry.TheVariants as entry
use Rattle.dependency_graph.specs.Monitors.{tell}
use Rattle.flow_meaning.specs.Evaluations.{no_losses}
use Rattle.flow_meaning.specs.Inputs.{Path}
use Rattle.flow_meaning.specs.Sequential.{outcome_of, apply}
use Rattle.call_rules.specs.Calls.{Begin, Fails, Attempts, Joins, outcome_with, call_outcome}
use Rattle.call_rules.specs.Groups.{AllKnown}
use Rattle.memo_table.specs.Keys.{KeyView, same_key}
use Rattle.memo_table.specs.Table.{MemoView, found}
use Rattle.memo_table.specs.declared.saved.Saved.{Saved}
use Rattle.history_laws.specs.Reads.{History, Stage, Unlaunched, Over, last_try, value_word, is_key, stores, costs, lost}
use Rattle.history_laws.specs.Tables.{key_with, status_of, is_join, table, table_key}
use Rattle.history_laws.specs.Laws.{AllSettled, MayFollow, MaySettle, state_with}
use Rattle.kernel_model.specs.Known.{Known, Life, no_life, no_retries, call_at, path_at, life_at, outcome_in, settled_outcome, inputs_at, known, begin_at, key_at, saved_for, value_of, is_kept, apps_in}
use Rattle.kernel_model.specs.Invariants.{HasRun, Tracks, IsAttempted, HasApp, IsTaskKey, IsValueOf, Memoises, Inv, GrowsInto, try_with}
use Rattle.kernel_model.specs.Acts.{settlement_as, recalled, stored_by}
use Rattle.kernel_model.specs.Conditions.{CanRecall, CanStore}
use Rattle.call_rules.proofs.Agreeing.{begin-attempts, runs-values}
use Rattle.kernel_model.proofs.Places.{known-settled, values-valued, settled-within}
use Rattle.kernel_model.proofs.Reading.{path-same, settled-stays, stored-life}
use Rattle.kernel_model.proofs.Growing.{grows-key, grows-inputs, fits-back}
use Rattle.kernel_model.proofs.Knowing.{knows-call, row-key}
use Rattle.kernel_model.proofs.Retelling.{inv-retold}
use Rattle.kernel_model.proofs.States.{none-at, at-state}
use Rattle.kernel_model.proofs.KeepingPut.{puts, put-grows, joined-on, no-awaits, keep-puts, keep-told}
use Rattle.kernel_model.proofs.Saving.{added, once-added, Finds, before, new, finds, has-added, kept-added, last-valued}

-- ---- keys

-- a call that has this key
pub record HasKey (w : Known) (k : ℕ) (key : KeyView) : Type 0 where
  pub app : AppDef
  pub values : List Value
  pub begins : begin_at w k ≡ Attempts app values
  pub is : record { app = canonical.app app; arguments = values; names = (call_at w k).names } ≡ key
  pub has : HasApp (apps_in w) app

pub has-key : (w : Known) (k : ℕ) (key : KeyView) → key_at w k ≡ Some key → HasKey w k key
has-key w k key h = by_begin (begin_at w k) refl h
  where
    by_cached : (t : Bool) (other : KeyView) → (if t then Some other else None) ≡ Some key → other ≡ key
    by_cached true other g = cc
    by_cached false other g = absurd (cc)

    by_begin : (b : Begin) → begin_at w k ≡ b → key_with (call_at w k).names b ≡ Some key → HasKey w k key
    by_begin (Fails exception) e g = absurd (cc)
    by_begin (Joins app values) e g = absurd (cc)
    by_begin (Attempts app values) e g = record {
      app = app;
      values = values;
      begins = e;
      is = by_cached app.cached _ g;
      has = record { number = (call_at w k).app; there = (begin-attempts (apps_in w) (known w) (call_at w k) app values e).1 };
    }

-- the outcome of its attempt, where none is lost
pub key-outcome : (w : Known) (k : ℕ) (key : KeyView) (h : HasKey w k key) → call_outcome (apps_in w) no_losses (known w) (call_at w k) ≡ outcome_of (apply h.app key.arguments key.names)
key-outcome w k key h =
    ap (outcome_with (apps_in w) no_losses (known w) (call_at w k)) h.begins
    ∙ ap (λ (q : KeyView). outcome_of (apply h.app q.arguments q.names)) h.is

-- what the memo has of it
pub record IsSaved (memo : MemoView) (key : Option KeyView) (saved : Saved) : Type 0 where
  pub of_key : KeyView
  pub is : key ≡ Some of_key
  pub there : found memo of_key ≡ Some saved

pub is-saved : (memo : MemoView) (key : Option KeyView) (saved : Saved) → saved_for memo key ≡ Some saved → IsSaved memo key saved
is-saved memo None saved h = absurd (cc)
is-saved memo (Some key) saved h = record { of_key = key; is = refl; there = h }

-- ---- a value from the memo

settled-behind : (e : Entry) (ps : List Path) (b : History) → AllSettled ps b → AllSettled ps (e ∷ b)
settled-behind e [] b h = tt
settled-behind e (p ∷ ps) b h = (settled-stays e p b h.0, settled-behind e ps b h.1)

pub keep-recalled : (w : Known) (k : ℕ) (saved : Saved) → Inv w → CanRecall w k saved → Inv (recalled w k saved)
keep-recalled w k saved inv can =
    let h = inv.holds in
    let tw = h.tracks in
    let life = life_at w k in
    let p : Path = path_at w k in
    let outcome : Outcome = value_of saved in
    let s = at-state w inv k status.Pending can.callback.pending (λ e. absurd (cc)) refl in
    let before = s.life.opened s.unsettled in
    let last : Unlaunched ≡ last_try p w.past = ap (λ (t : Status). try_with t life.end) (sym s.is) ∙ before.last in
    let own = path-same p in
    let at = is-saved w.memo (key_at w k) saved can.is in
    let key = has-key w k at.of_key at.is in
    let values = runs-values (known w) (call_at w k).arguments key.values can.callback.inputs (begin-attempts (apps_in w) (known w) (call_at w k) key.app key.values key.begins).0 in
    let by_memo : outcome ≡ call_outcome (apps_in w) no_losses (known w) (call_at w k)
    = sym (key-outcome w k at.of_key key ∙ h.memo.values at.of_key saved at.there key.app key.has (ap (λ (q : KeyView). q.app) key.is)) in
    let l = tw.lives in
    let lw = s.within in
    let placed : k < length w.lives = omega arith in
    let es : List Entry = entry.Settled p status.MemoDone ∷ entry.MemoHit p ∷ [] in
    let kept : (q : Outcome) → settled_outcome w k ≡ Some q → Some outcome ≡ Some q = λ q g. absurd (none-at w k q s.unsettled g) in
    let v : Known = puts w k (record life { status = status.MemoDone; end = Some outcome }) w.memo es in
    let has : settled_outcome v k ≡ Some outcome = ap outcome_in (get_or-set_same w.lives k (record life { status = status.MemoDone; end = Some outcome }) no_life placed) in
    inv-retold v (tell (settlement_as w k status.MemoDone outcome) w.told) (record {
      holds = keep-told w k (record life { status = status.MemoDone; end = Some outcome }) es inv (record {
        not_ended = can.not_ended;
        within = s.within;
        of_task = (refl, (refl, tt));
        kept = kept;
        kept_ran = λ g. g;
        is_life = record {
          reached = refl;
          first = λ g. absurd (cc);
          joined = s.life.joined;
          hit = rw own refl;
          opened = λ g. absurd (cc);
          closed = λ g. record { settled = rw own refl; state = λ q f. let so : q ≡ outcome = cc in ap (λ r. state_with true (status_of r)) so };
        };
        begun = λ g. absurd (cc);
        attempted = λ g. absurd g;
        ended = λ q g. absurd (cc);
        joined = λ tv result g. joined-on w v inv tv (put-grows w k _ w.memo es placed kept) k result s.within (h.joins.ran k result g);
        settled = λ q g join. absurd (let none = sym (ap is_join key.begins) ∙ join in cc);
        is_due = λ q n g. absurd (cc);
        fits = λ q g. let so : outcome ≡ q = cc in record {
          inputs = can.callback.inputs;
          awaited = no-awaits w k (record { inputs = can.callback.inputs; app = key.app; values = key.values; begins = key.begins });
          by_rule = sym so ∙ by_memo;
        };
        stands = λ losses fits later e.
            let c = knows-call w losses tw e k s.within in
            let cached = c.key can.callback.inputs ∙ at.is in (
              record {
                own = record {
                  task = c.task;
                  is = c.is;
                  submitted = tw.there k s.within;
                  once = before.unsettled;
                  state = rw own (ap (state_with true) (c.evaluated outcome (later.agrees k outcome has)));
                  inputs = rw c.inputs (settled-behind (entry.MemoHit p) (inputs_at w k) w.past (known-settled w tw (inputs_at w k) can.callback.inputs));
                  joined = λ joins. absurd (let none = sym (c.joins can.callback.inputs ∙ ap is_join key.begins) ∙ joins in cc);
                };
                launching = λ done. absurd (cc);
                attempts = rw c.is (λ runs. subst (λ (t : Stage). MaySettle no_retries.limit (costs no_retries p w.past) t status.MemoDone) last tt);
                managers = refl;
              },
              refl,
              record {
                own = tt;
                launching = record {
                  task = c.task;
                  is = c.is;
                  submitted = tw.there k s.within;
                  unsettled = before.unsettled;
                  once = s.unhit;
                  inputs = rw c.inputs (values-valued w tw (inputs_at w k) values);
                  key = at.of_key;
                  cached = cached;
                  stored = h.memo.told losses fits at.of_key ∙ ap is_some at.there;
                };
                attempts = subst (λ (t : Stage). MayFollow no_retries.limit (costs no_retries p w.past) t) last tt;
                managers = refl;
              },
            );
      }) (λ keys other. refl) (λ q g. let so : q ≡ outcome = cc in ap (λ r. is_kept w.memo r q) at.is ∙ ap (is_kept w.memo (Some at.of_key)) so ∙ ap is_some at.there);
      quiet = λ j n lt due. absurd (cc);
    })

-- ---- a value that is stored

-- each app of the key's text gives the value that a call with this key had
value_of_key : (w : Known) (k : ℕ) (key : KeyView) (saved : Saved) → Inv w → CanStore w k key saved → IsValueOf (apps_in w) key saved
value_of_key w k key saved inv can app has same =
    let h = inv.holds in
    let at = has-key w k key can.store.key_is in
    let equal : at.app ≡ app = h.texts at.app app at.has has (ap (λ (q : KeyView). q.app) at.is ∙ sym same) in
    ap (λ (a : AppDef). outcome_of (apply a key.arguments key.names)) (sym equal)
    ∙ sym (key-outcome w k key at)
    ∙ sym (h.runs.ended k (value_of saved) can.store.over can.store.is)

module _ (w : Known) (k : ℕ) (key : KeyView) (saved : Saved) (inv : Inv w) (can : CanStore w k key saved) where
  -- the task as it was, and the value behind all that is stored
  abbrev stored_last : MemoView
  stored_last = w.memo ++ (key, saved) ∷ []

  abbrev stored_yet : Known
  stored_yet = puts w k (life_at w k) stored_last (entry.Stored (path_at w k) ∷ [])

  stored_within : k < length w.calls
  stored_within = (at-state w inv k status.RunningEnded can.store.over (λ e. absurd (cc)) refl).within

  stored_placed : k < length w.lives
  stored_placed = let l = inv.holds.tracks.lives in omega (arith, stored_within, l)

  stored_grows : GrowsInto w stored_yet
  stored_grows = put-grows w k (life_at w k) stored_last (entry.Stored (path_at w k) ∷ []) stored_placed (λ outcome g. g)

  stored_attempt : IsAttempted w k
  stored_attempt = inv.holds.runs.attempted k (subst HasRun (sym can.store.over) tt)

  memo_stored : Tracks stored_yet → Memoises stored_yet
  memo_stored tv =
      let h = inv.holds in
      let tw = h.tracks in
      let v : Known = stored_yet in
      let same : (j : ℕ) → j < length w.calls → AllKnown (known w) (inputs_at w j) → key_at v j ≡ key_at w j = grows-key w v tw tv stored_grows in
      let on : (j : ℕ) (other : KeyView) → j < length w.calls → AllKnown (known w) (inputs_at w j) → key_at w j ≡ Some other → IsTaskKey v other
      = λ j other there inputs is. record { place = j; within = there; inputs = grows-inputs w v tw tv stored_grows j there inputs; is = same j there inputs ∙ is } in
      record {
        once = once-added w.memo key saved h.memo.once can.store.fresh;
        values = λ other value g. value_found other value (finds w.memo key saved other value g);
        made = λ other g. let some = some-value (found stored_last other) g in key_found on other some.0 (finds w.memo key saved other some.0 some.1);
        kept = λ j outcome g.
            let was : settled_outcome w j ≡ Some outcome = ap (λ ls. outcome_in (get_or ls j no_life)) (sym (set-get_or w.lives k no_life)) ∙ g in
            ap (λ other. is_kept stored_last other outcome) (same j (settled-within w tw.lives j outcome was) (h.right.fits j outcome was).inputs) ∙ kept-added w.memo key saved (key_at w j) outcome (h.memo.kept j outcome was);
        told = λ losses fits other.
            let before = fits-back w v tw tv stored_grows (lost w.past) h.right.fits losses fits in
            let c = knows-call w losses tw (h.right.evaluates losses before) k stored_within in
            let keys : Path → Option KeyView = table_key (table w.tree losses) in
            ap (λ row. if is_key other row then true else stores keys other w.past) (row-key w losses k c stored_attempt.inputs ∙ can.store.key_is)
            ∙ ap (λ t. if same_key other key then true else t) (h.memo.told losses before other)
            ∙ sym (has-added w.memo key saved other);
      }
    where
      some-value : (r : Option Saved) → IsSome r → (value : Saved) × (r ≡ Some value)
      some-value (Some value) g = (value, refl)
      some-value None g = absurd (cc)

      value_found : (other : KeyView) (value : Saved) → Finds w.memo key saved other value → IsValueOf (apps_in w) other value
      value_found other value (before is) = inv.holds.memo.values other value is
      value_found other value (new is has) = subst (λ (q : KeyView). IsValueOf (apps_in w) q value) (sym is) (subst (λ (x : Saved). IsValueOf (apps_in w) key x) has (value_of_key w k key saved inv can))

      key_found : ((j : ℕ) (other : KeyView) → j < length w.calls → AllKnown (known w) (inputs_at w j) → key_at w j ≡ Some other → IsTaskKey stored_yet other) → (other : KeyView) (value : Saved) → Finds w.memo key saved other value → IsTaskKey stored_yet other
      key_found on other value (before is) = let made = inv.holds.memo.made other (rw is refl) in on made.place other made.within made.inputs made.is
      key_found on other value (new is has) = on k other stored_within stored_attempt.inputs (can.store.key_is ∙ ap Some (sym is))

  keep_stored_yet : Inv stored_yet
  keep_stored_yet =
      let h = inv.holds in
      let tw = h.tracks in
      let life = life_at w k in
      let p : Path = path_at w k in
      let s = at-state w inv k status.RunningEnded can.store.over (λ e. absurd (cc)) refl in
      let at_last = ap (λ (t : Status). try_with t life.end) (sym s.is) ∙ (s.life.opened s.unsettled).last in
      let last : Over value_word ≡ last_try p w.past = ap (try_with status.RunningEnded) (sym can.store.is) ∙ at_last in
      record {
        holds = keep-puts w k life stored_last (entry.Stored p ∷ []) inv (record {
          not_ended = can.not_ended;
          within = s.within;
          of_task = (refl, tt);
          kept = λ outcome g. g;
          kept_ran = λ g. g;
          is_life = stored-life no_retries p p w.past life s.life;
          begun = tw.begun k s.within;
          attempted = h.runs.attempted k;
          ended = h.runs.ended k;
          joined = λ tv result g. joined-on w stored_yet inv tv stored_grows k result s.within (h.joins.ran k result g);
          settled = h.joins.settled k;
          is_due = λ q n g. absurd (cc);
          fits = h.right.fits k;
          stands = λ losses fits later e.
              let c = knows-call w losses tw e k s.within in
              record {
                own = tt;
                launching = record {
                  task = c.task;
                  is = c.is;
                  valued = last-valued p w.past (sym last);
                  key = key;
                  cached = c.key stored_attempt.inputs ∙ can.store.key_is;
                  fresh = h.memo.told losses fits key ∙ ap is_some can.store.fresh;
                };
                attempts = tt;
                managers = refl;
              };
        }) memo_stored;
        quiet = λ j n lt due. absurd (cc);
      }

pub keep-stored : (w : Known) (k : ℕ) (key : KeyView) (saved : Saved) → Inv w → CanStore w k key saved → Inv (stored_by w k key saved)
keep-stored w k key saved inv can =
    let past : History = entry.Stored (path_at w k) ∷ w.past in
    let last : MemoView = w.memo ++ (key, saved) ∷ [] in
    let by_lives : Inv (record w { memo = last; past = past })
    = subst (λ (lives : List Life). Inv (record w { lives = lives; memo = last; past = past })) (set-get_or w.lives k no_life) (keep_stored_yet w k key saved inv can) in
    subst (λ (memo : MemoView). Inv (record w { memo = memo; past = past })) (sym (added w.memo key saved can.store.fresh)) by_lives
