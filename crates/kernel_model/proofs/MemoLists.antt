-- What is stored by keys: looked up, with one key more, and its units.
use Rattle.std.proofs.Common.{◌≡◌, ◌≢◌, ◌+◌, ◌≤◌, Bool, true, false, [], ◌∷◌, ◌++◌, Option, Some, None, IsSome, refl, sym, ◌∙◌, ap, subst, arith}
use Rattle.std.specs.Prelude.{if◌then◌else◌}
use Rattle.memo_table.specs.Decisions.{keys_decide}
use Rattle.memo_table.specs.Keys.{KeyView, same_key}
use Rattle.memo_table.specs.Table.{MemoView, found, with_saved, AreOnce}
use Rattle.memo_table.specs.declared.saved.Saved.{Saved}
use Rattle.kernel_model.specs.Limits.{units_of_saved, units_of_memo}
use Rattle.call_rules.proofs.Tasks.{same-some, some-of}
use Rattle.kernel_model.proofs.Counting.{sum-cons}

-- ---- looked up

key-same : (a b : KeyView) → same_key a b ≡ true → a ≡ b
key-same a b = (keys_decide a b).0

pub key-other : (a b : KeyView) → a ≢ b → same_key a b ≡ false
key-other a b ne = by_test (same_key a b) refl
  where
    by_test : (t : Bool) → same_key a b ≡ t → same_key a b ≡ false
    by_test true e = absurd (ne (key-same a b e))
    by_test false e = e

pub saved-first : (key : KeyView) (saved : Saved) (memo : MemoView) → found ((key, saved) ∷ memo) key ≡ Some saved
saved-first key saved memo = rw ((keys_decide key key).1 refl) refl

pub saved-other : (key other : KeyView) (saved : Saved) (memo : MemoView) → other ≢ key → found ((key, saved) ∷ memo) other ≡ found memo other
saved-other key other saved memo ne = rw (key-other other key ne) refl

-- a value that is found in front is found
pub saved-front : (memo more : MemoView) (key : KeyView) (saved : Saved) → found memo key ≡ Some saved → found (memo ++ more) key ≡ Some saved
saved-front [] more key saved h = absurd (cc)
saved-front (e ∷ es) more key saved h = by_test (same_key key e.0) refl (saved-front es more key saved)
  where
    by_test : (t : Bool) → same_key key e.0 ≡ t → (found es key ≡ Some saved → found (es ++ more) key ≡ Some saved) → found ((e ∷ es) ++ more) key ≡ Some saved
    by_test true is further = rw is (rw is at h)
    by_test false is further = rw is (further (rw is at h))

pub saved-behind : (memo more : MemoView) (key : KeyView) → found memo key ≡ None → found (memo ++ more) key ≡ found more key
saved-behind [] more key h = refl
saved-behind (e ∷ es) more key h = by_test (same_key key e.0) refl (saved-behind es more key)
  where
    by_test : (t : Bool) → same_key key e.0 ≡ t → (found es key ≡ None → found (es ++ more) key ≡ found more key) → found ((e ∷ es) ++ more) key ≡ found more key
    by_test true is further = absurd (let bad = rw is at h in cc)
    by_test false is further = rw is (further (rw is at h))

-- ---- with one key more

-- a key is there or not
data IsThere (memo : MemoView) (key : KeyView) : Type 0 where
  there : (saved : Saved) → found memo key ≡ Some saved → IsThere memo key
  absent : found memo key ≡ None → IsThere memo key

is-there : (memo : MemoView) (key : KeyView) → IsThere memo key
is-there memo key = by_found (found memo key) refl
  where
    by_found : (r : Option Saved) → found memo key ≡ r → IsThere memo key
    by_found (Some saved) e = there saved e
    by_found None e = absent e

pub with-there : (memo : MemoView) (key : KeyView) (saved old : Saved) → found memo key ≡ Some old → with_saved memo key saved ≡ memo
with-there memo key saved old h = rw h refl

pub with-absent : (memo : MemoView) (key : KeyView) (saved : Saved) → found memo key ≡ None → with_saved memo key saved ≡ memo ++ (key, saved) ∷ []
with-absent memo key saved h = rw h refl

-- what is there stays
pub with-keeps : (memo : MemoView) (key : KeyView) (saved : Saved) (other : KeyView) (old : Saved) → found memo other ≡ Some old → found (with_saved memo key saved) other ≡ Some old
with-keeps memo key saved other old h = by_there (is-there memo key)
  where
    by_there : IsThere memo key → found (with_saved memo key saved) other ≡ Some old
    by_there (there first e) = ap (λ (m : MemoView). found m other) (with-there memo key saved first e) ∙ h
    by_there (absent e) = ap (λ (m : MemoView). found m other) (with-absent memo key saved e) ∙ saved-front memo ((key, saved) ∷ []) other old h

-- the key is there then
pub with-there_now : (memo : MemoView) (key : KeyView) (saved : Saved) → IsSome (found (with_saved memo key saved) key)
with-there_now memo key saved = by_there (is-there memo key)
  where
    by_there : IsThere memo key → IsSome (found (with_saved memo key saved) key)
    by_there (there first e) = some-of _ first (with-keeps memo key saved key first e)
    by_there (absent e) =
        some-of _ saved (ap (λ (m : MemoView). found m key) (with-absent memo key saved e) ∙ saved-behind memo ((key, saved) ∷ []) key e ∙ saved-first key saved [])

-- what is there then was there, or is what was stored
pub data IsFrom (memo : MemoView) (key : KeyView) (saved : Saved) (other : KeyView) (is : Saved) : Type 0 where
  before : found memo other ≡ Some is → IsFrom memo key saved other is
  new : other ≡ key → is ≡ saved → IsFrom memo key saved other is

pub with-from : (memo : MemoView) (key : KeyView) (saved : Saved) (other : KeyView) (is : Saved) → found (with_saved memo key saved) other ≡ Some is → IsFrom memo key saved other is
with-from memo key saved other is h = by_there (is-there memo key)
  where
    by_key : found memo key ≡ None → found memo other ≡ None → found ((key, saved) ∷ []) other ≡ Some is → (t : Bool) → same_key other key ≡ t → IsFrom memo key saved other is
    by_key none e at true test =
        let same = key-same other key test in
        new same (same-some is saved (sym at ∙ ap (found ((key, saved) ∷ [])) same ∙ saved-first key saved []))
    by_key none e at false test = absurd (let bad = rw test at at in cc)

    by_other : found memo key ≡ None → IsThere memo other → IsFrom memo key saved other is
    by_other none (there old e) = before (e ∙ sym (saved-front memo ((key, saved) ∷ []) other old e) ∙ sym (ap (λ (m : MemoView). found m other) (with-absent memo key saved none)) ∙ h)
    by_other none (absent e) =
        by_key none e (sym (saved-behind memo ((key, saved) ∷ []) other e) ∙ sym (ap (λ (m : MemoView). found m other) (with-absent memo key saved none)) ∙ h) (same_key other key) refl

    by_there : IsThere memo key → IsFrom memo key saved other is
    by_there (there old e) = before (ap (λ (m : MemoView). found m other) (sym (with-there memo key saved old e)) ∙ h)
    by_there (absent e) = by_other e (is-there memo other)

once-push : (memo : MemoView) (key : KeyView) (saved : Saved) → found memo key ≡ None → AreOnce memo → AreOnce (memo ++ (key, saved) ∷ [])
once-push [] key saved none once = (refl, tt)
once-push (e ∷ es) key saved none once =
    let other : e.0 ≢ key = λ same. (let first = saved-first e.0 e.1 es in let bad : found (e ∷ es) e.0 ≡ None = ap (found (e ∷ es)) same ∙ none in cc) in
    let later : found es key ≡ None = sym (saved-other e.0 key e.1 es (λ same. other (sym same))) ∙ none in
    (saved-behind es ((key, saved) ∷ []) e.0 once.0 ∙ saved-other key e.0 saved [] other, once-push es key saved later once.1)

-- each key still stands once
pub with-once : (memo : MemoView) (key : KeyView) (saved : Saved) → AreOnce memo → AreOnce (with_saved memo key saved)
with-once memo key saved once = by_there (is-there memo key)
  where
    by_there : IsThere memo key → AreOnce (with_saved memo key saved)
    by_there (there old e) = subst AreOnce (sym (with-there memo key saved old e)) once
    by_there (absent e) = subst AreOnce (sym (with-absent memo key saved e)) (once-push memo key saved e once)

-- ---- units

-- the memo without this key
abbrev without : MemoView → KeyView → MemoView
without [] key = []
without (e ∷ es) key = if same_key key e.0 then es else e ∷ without es key

record IsTaken (memo : MemoView) (key : KeyView) (saved : Saved) : Type 0 where
  total : units_of_memo memo ≡ units_of_saved (key, saved) + units_of_memo (without memo key)
  others : (other : KeyView) → other ≢ key → found (without memo key) other ≡ found memo other

taken : (memo : MemoView) (key : KeyView) (saved : Saved) → found memo key ≡ Some saved → IsTaken memo key saved
taken [] key saved h = absurd (cc)
taken (e ∷ es) key saved h = by_test (same_key key e.0) refl (taken es key saved)
  where
    by_test : (t : Bool) → same_key key e.0 ≡ t → (found es key ≡ Some saved → IsTaken es key saved) → IsTaken (e ∷ es) key saved
    by_test true is further =
        let same : e.1 ≡ saved = same-some e.1 saved (rw is at h) in
        let key_same : key ≡ e.0 = key-same key e.0 is in
        let rest : without (e ∷ es) key ≡ es = rw is refl in
        record {
          total = sum-cons units_of_saved e es ∙ ap (λ (k : KeyView). units_of_saved (k, e.1) + units_of_memo es) (sym key_same) ∙ ap (λ (s : Saved). units_of_saved (key, s) + units_of_memo es) same ∙ ap (λ (m : MemoView). units_of_saved (key, saved) + units_of_memo m) (sym rest);
          others = λ other ne. ap (λ (m : MemoView). found m other) rest ∙ sym (saved-other e.0 other e.1 es (λ g. ne (g ∙ sym key_same)));
        }
    by_test false is further =
        let t_rest = further (rw is at h) in
        let rest : without (e ∷ es) key ≡ e ∷ without es key = rw is refl in
        record {
          total = omega (arith, sum-cons units_of_saved e es, t_rest.total, ap units_of_memo rest, sum-cons units_of_saved e (without es key));
          others = λ other ne. ap (λ (m : MemoView). found m other) rest ∙ ap (λ (r : Option Saved). if same_key other e.0 then Some e.1 else r) (t_rest.others other ne);
        }

-- what is found in one list is found in the other
abbrev pub IsIn : MemoView → MemoView → Type 0
IsIn ms ns = (key : KeyView) (saved : Saved) → found ms key ≡ Some saved → found ns key ≡ Some saved

-- keys that stand once, and are there with their values, have no more units
pub units-in : (ms ns : MemoView) → AreOnce ms → IsIn ms ns → units_of_memo ms ≤ units_of_memo ns
units-in [] ns once are = omega arith
units-in (e ∷ es) ns once are =
    let out = taken ns e.0 e.1 (are e.0 e.1 (saved-first e.0 e.1 es)) in
    let rest_are : IsIn es (without ns e.0) = λ key saved h.
    let other : key ≢ e.0 = λ same. (let bad : found es e.0 ≡ Some saved = ap (found es) (sym same) ∙ h in let none = once.0 in cc) in
    out.others key other ∙ are key saved (saved-other e.0 key e.1 es other ∙ h) in
    let rest = units-in es (without ns e.0) once.1 rest_are in
    omega (arith, sum-cons units_of_saved e es, out.total, rest)
