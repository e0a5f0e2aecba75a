-- What is found once one value more is stored.
use Rattle.std.proofs.Common.{◌≡◌, Bool, true, false, [], ◌∷◌, ◌++◌, Option, Some, None, refl, sym, ◌∙◌, ap, bytes_eq}
use Rattle.std.specs.Prelude.{is_some, if◌then◌else◌}
use Rattle.flow_base.specs.declared.outcome.Outcome.{Outcome}
use Rattle.flow_base.specs.declared.outcome.Outcome.TheVariants as o
use Rattle.event_log.specs.declared.entry.Entry.TheVariants as entry
use Rattle.flow_meaning.specs.Inputs.{Path}
use Rattle.flow_meaning.specs.Operators.{Text}
use Rattle.memo_table.specs.Keys.{KeyView, same_key}
use Rattle.memo_table.specs.Table.{MemoView, found, with_saved, AreOnce}
use Rattle.memo_table.specs.Decisions.{keys_decide}
use Rattle.memo_table.specs.declared.saved.Saved.{Saved}
use Rattle.history_laws.specs.Reads.{History, Over, last_try, value_word, has_value}
use Rattle.kernel_model.specs.Known.{is_kept}
use Rattle.kernel_model.proofs.Reading.{path-same}

-- ---- keys

pub key-equal : (a b : KeyView) → same_key a b ≡ true → a ≡ b
key-equal a b h = (keys_decide a b).0 h

same_back : (a b : KeyView) → same_key a b ≡ false → same_key b a ≡ false
same_back a b h = by_test (same_key b a) refl
  where
    by_test : (t : Bool) → same_key b a ≡ t → t ≡ false
    by_test false e = refl
    by_test true e = absurd (let other = (keys_decide a b).1 (sym (key-equal b a e)) in cc)

-- ---- one value more

pub added : (memo : MemoView) (key : KeyView) (saved : Saved) → found memo key ≡ None → with_saved memo key saved ≡ memo ++ (key, saved) ∷ []
added memo key saved none = rw none refl

-- what was found is found still
pub found-still : (memo : MemoView) (key : KeyView) (saved : Saved) (other : KeyView) (was : Saved) → found memo other ≡ Some was → found (memo ++ (key, saved) ∷ []) other ≡ Some was
found-still [] key saved other was h = absurd (cc)
found-still (e ∷ es) key saved other was h = by_test (same_key other e.0) refl h (found-still es key saved other was)
  where
    by_test : (t : Bool) → same_key other e.0 ≡ t → found (e ∷ es) other ≡ Some was → (found es other ≡ Some was → found (es ++ (key, saved) ∷ []) other ≡ Some was) → found (e ∷ es ++ (key, saved) ∷ []) other ≡ Some was
    by_test true is g on = let here = rw is at g in rw is here
    by_test false is g on = let further = rw is at g in rw is (on further)

-- of a key that was not found it is the new value that is found
pub found-new : (memo : MemoView) (key : KeyView) (saved : Saved) (other : KeyView) → found memo other ≡ None → found (memo ++ (key, saved) ∷ []) other ≡ (if same_key other key then Some saved else None)
found-new [] key saved other h = refl
found-new (e ∷ es) key saved other h = by_test (same_key other e.0) refl h (found-new es key saved other)
  where
    by_test : (t : Bool) → same_key other e.0 ≡ t → found (e ∷ es) other ≡ None → (found es other ≡ None → found (es ++ (key, saved) ∷ []) other ≡ (if same_key other key then Some saved else None)) → found (e ∷ es ++ (key, saved) ∷ []) other ≡ (if same_key other key then Some saved else None)
    by_test true is g on = absurd (let here = rw is at g in cc)
    by_test false is g on = let further = rw is at g in rw is (on further)

pub once-added : (memo : MemoView) (key : KeyView) (saved : Saved) → AreOnce memo → found memo key ≡ None → AreOnce (memo ++ (key, saved) ∷ [])
once-added [] key saved h none = (refl, tt)
once-added (e ∷ es) key saved h none = by_test (same_key key e.0) refl none (once-added es key saved h.1)
  where
    by_test : (t : Bool) → same_key key e.0 ≡ t → found (e ∷ es) key ≡ None → (found es key ≡ None → AreOnce (es ++ (key, saved) ∷ [])) → AreOnce (e ∷ es ++ (key, saved) ∷ [])
    by_test true is g on = absurd (let here = rw is at g in cc)
    by_test false is g on = let further = rw is at g in (found-new es key saved e.0 h.0 ∙ rw (same_back key e.0 is) refl, on further)

-- what a key has, where a value more is stored
pub data Finds (memo : MemoView) (key : KeyView) (saved : Saved) (other : KeyView) (value : Saved) : Type 0 where
  before : found memo other ≡ Some value → Finds memo key saved other value
  new : other ≡ key → saved ≡ value → Finds memo key saved other value

pub finds : (memo : MemoView) (key : KeyView) (saved : Saved) (other : KeyView) (value : Saved) → found (memo ++ (key, saved) ∷ []) other ≡ Some value → Finds memo key saved other value
finds memo key saved other value h = by_found (found memo other) refl
  where
    by_test : (t : Bool) → same_key other key ≡ t → (if t then Some saved else None) ≡ Some value → Finds memo key saved other value
    by_test true e g = new (key-equal other key e) (let same : saved ≡ value = cc in same)
    by_test false e g = absurd (cc)

    by_found : (was : Option Saved) → found memo other ≡ was → Finds memo key saved other value
    by_found (Some s) e = let same : s ≡ value = (let still = found-still memo key saved other s e in cc) in before (e ∙ ap Some same)
    by_found None e = by_test (same_key other key) refl (sym (found-new memo key saved other e) ∙ h)

-- it is the key of the new value, or was stored
pub has-added : (memo : MemoView) (key : KeyView) (saved : Saved) (other : KeyView) → is_some (found (memo ++ (key, saved) ∷ []) other) ≡ (if same_key other key then true else is_some (found memo other))
has-added memo key saved other = by_found (found memo other) refl
  where
    when_some : (t : Bool) → true ≡ (if t then true else true)
    when_some true = refl
    when_some false = refl

    when_none : (t : Bool) → is_some (if t then Some saved else None) ≡ (if t then true else false)
    when_none true = refl
    when_none false = refl

    by_found : (was : Option Saved) → found memo other ≡ was → is_some (found (memo ++ (key, saved) ∷ []) other) ≡ (if same_key other key then true else is_some (found memo other))
    by_found (Some s) e = rw (found-still memo key saved other s e, e) (when_some (same_key other key))
    by_found None e = rw (found-new memo key saved other e, e) (when_none (same_key other key))

-- what is kept stays so
pub kept-added : (memo : MemoView) (key : KeyView) (saved : Saved) (other : Option KeyView) (outcome : Outcome) → is_kept memo other outcome ≡ true → is_kept (memo ++ (key, saved) ∷ []) other outcome ≡ true
kept-added memo key saved None outcome h = refl
kept-added memo key saved (Some other) (o.Failed exception) h = refl
kept-added memo key saved (Some other) (o.Value value files) h = by_found (found memo other) refl h
  where
    by_found : (was : Option Saved) → found memo other ≡ was → is_some (found memo other) ≡ true → is_some (found (memo ++ (key, saved) ∷ []) other) ≡ true
    by_found (Some s) e g = rw (found-still memo key saved other s e) refl
    by_found None e g = absurd (let none = rw e at g in cc)

-- ---- values of attempts

-- the last attempt ended with a value, so one did
pub last-valued : (p : Path) (b : History) → last_try p b ≡ Over value_word → has_value p b ≡ true
last-valued p [] h = absurd (cc)
last-valued p (entry.Launch q n ∷ b) h = by_test (bytes_eq p q) refl h (last-valued p b)
  where
    by_test : (t : Bool) → bytes_eq p q ≡ t → last_try p (entry.Launch q n ∷ b) ≡ Over value_word → (last_try p b ≡ Over value_word → has_value p b ≡ true) → has_value p b ≡ true
    by_test true e g on = absurd (let here = rw e at g in cc)
    by_test false e g on = let further = rw e at g in on further
last-valued p (entry.Ended q n manager kind ∷ b) h = by_test (bytes_eq p q) refl h (last-valued p b)
  where
    by_test : (t : Bool) → bytes_eq p q ≡ t → last_try p (entry.Ended q n manager kind ∷ b) ≡ Over value_word → (last_try p b ≡ Over value_word → has_value p b ≡ true) → has_value p (entry.Ended q n manager kind ∷ b) ≡ true
    by_test true e g on = let here = rw e at g in let same : kind ≡ value_word = cc in rw (e, ap (λ (word : Text). bytes_eq word value_word) same ∙ path-same value_word) refl
    by_test false e g on = let further = rw e at g in rw e (on further)
last-valued p (entry.Submit q app ∷ b) h = last-valued p b h
last-valued p (entry.JoinRun q ∷ b) h = last-valued p b h
last-valued p (entry.Start q n manager ∷ b) h = last-valued p b h
last-valued p (entry.Settled q s ∷ b) h = last-valued p b h
last-valued p (entry.End ∷ b) h = last-valued p b h
last-valued p (entry.MemoHit q ∷ b) h = last-valued p b h
last-valued p (entry.Dispatch q n manager ∷ b) h = last-valued p b h
last-valued p (entry.Held q n manager ∷ b) h = last-valued p b h
last-valued p (entry.LostTry q n manager ∷ b) h = last-valued p b h
last-valued p (entry.Stored q ∷ b) h = last-valued p b h
last-valued p (entry.Block block state ∷ b) h = last-valued p b h
last-valued p (entry.Register manager block slots ∷ b) h = last-valued p b h
last-valued p (entry.Refused block version ∷ b) h = last-valued p b h
last-valued p (entry.Tick at ∷ b) h = last-valued p b h
last-valued p (entry.Beat manager ∷ b) h = last-valued p b h
last-valued p (entry.Silent manager ∷ b) h = last-valued p b h
last-valued p (entry.Lost manager ∷ b) h = last-valued p b h
last-valued p (entry.Drain manager ∷ b) h = last-valued p b h
last-valued p (entry.Drained manager ∷ b) h = last-valued p b h
last-valued p (entry.Hold manager ∷ b) h = last-valued p b h
last-valued p (entry.Scale decided ∷ b) h = last-valued p b h
last-valued p (entry.Checkpoint count ∷ b) h = last-valued p b h
