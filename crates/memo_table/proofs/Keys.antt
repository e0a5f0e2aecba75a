-- Digests of keys, their equality, and the table.
use Rattle.std.proofs.Common.{◌≡◌, ◌↔◌, ℕ, Bool, true, false, IsTrue, ◌||◌, Bor, List, [], ◌∷◌, ◌++◌, map, bytes_eq, Option, Some, None, is_some, refl, sym, ap, ◌∙◌, true≢false}
use Rattle.std.proofs.lemmas.Slice.Eq.{bytes_eq-Decides}
use Rattle.std.specs.Cmp.Lexicographic.{pointwise, pointwise_decides}
use Rattle.std.specs.Option.{option_copied}
use Rattle.flow_base.specs.declared.value.Value.{Value}
use Rattle.flow_base.specs.Values.{all_match, same}
use Rattle.flow_codec.specs.Encoding.{data_of}
use Rattle.flow_codec.proofs.NoFloat.{no_float}
use Rattle.serde_json.specs.Data.{Data, string, array}
use Rattle.serde_json.specs.View.{items_of}
use Rattle.serde_json.specs.Written.{compact_text, has_float, items_have_float}
use Rattle.sha2.specs.Sha256.{sha256}
use Rattle.memo_table.specs.Keys.{KeyView, key_data, digest_of, same_key}
use Rattle.memo_table.specs.Table.{MemoView, found, with_saved}
use Rattle.memo_table.specs.declared.saved.Saved.{Saved}

pub values_whole : (vs : List Value) → items_have_float (items_of (map data_of vs)) ≡ false
values_whole [] = refl
values_whole (v ∷ vs) = ap (λ b. b || items_have_float (items_of (map data_of vs))) (no_float v) ∙ values_whole vs

pub texts_whole : (ts : List (List ℕ)) → items_have_float (items_of (map string ts)) ≡ false
texts_whole [] = refl
texts_whole (t ∷ ts) = texts_whole ts

key_whole : (key : KeyView) → items_have_float (items_of (key_data key)) ≡ false
key_whole key = rw (values_whole key.arguments, texts_whole key.names) refl

pub digest_is : (key : KeyView) (digest text : List ℕ) (items : List Data) (d : Data) → items ≡ key_data key → d ≡ array (items_of items) → digest ≡ sha256 text → (has_float d ≡ false → text ≡ compact_text d) → digest ≡ digest_of key
unfolding digest_of
digest_is key digest text items d is whole h t =
    let same : d ≡ array (items_of (key_data key)) = whole ∙ ap (λ l. array (items_of l)) is in
    h ∙ ap sha256 (t (ap has_float same ∙ key_whole key) ∙ ap compact_text same)

-- ---- names that are the same

differing : (names others : List (List ℕ)) (test : Bool) → pointwise bytes_eq names others ≡ test → (names ≡ others → ⊥) → false ≡ test
differing names others true is differ = absurd (differ ((pointwise_decides bytes_eq-Decides names others).0 is))
differing names others false is differ = refl

names_test : (test : Bool) (names others : List (List ℕ)) → IsTrue test ↔ (names ≡ others) → test ≡ pointwise bytes_eq names others
names_test true names others same = sym ((pointwise_decides bytes_eq-Decides names others).1 (same.0 refl))
names_test false names others same = differing names others (pointwise bytes_eq names others) refl (λ is. true≢false (sym (same.1 is)))

pub same_when : (app other : List ℕ) (vs ws : List Value) (names others : List (List ℕ)) (test : Bool) → bytes_eq app other ≡ true → all_match (map same vs) ws ≡ true → IsTrue test ↔ (names ≡ others)
    → test ≡ same_key (record { app = app; arguments = vs; names = names }) (record { app = other; arguments = ws; names = others })
same_when app other vs ws names others test first second equal = names_test test names others equal ∙ rw (first, second) refl

-- ---- the table

pub kept : (t : MemoView) (key : KeyView) (saved : Saved) (b : Bool) → is_some (found t key) ≡ b → b ≡ true → t ≡ with_saved t key saved
kept t key saved b is there = rw (is, there) refl

pub added : (t new : MemoView) (key : KeyView) (saved : Saved) → is_some (found t key) ≡ false → new ≡ t ++ (key, saved) ∷ [] → new ≡ with_saved t key saved
added t new key saved none is = rw none is

pub absent : (r : Option (Bor Saved)) (o : Option Saved) → option_copied r ≡ o → false ≡ is_some r → o ≡ None
absent None o is e = sym is
absent (Some b) o is e = absurd (true≢false (sym e))

pub absent_in : (es t : MemoView) (key : KeyView) → es ≡ t → found t key ≡ None → found es key ≡ None
absent_in es t key is none = ap (λ l. found l key) is ∙ none

pub one_more : (es t new : MemoView) (key : KeyView) (saved : Saved) → es ≡ t → found t key ≡ None → new ≡ es ++ (key, saved) ∷ [] → new ≡ with_saved t key saved
one_more es t new key saved is none h = added t new key saved (ap is_some none) (h ∙ ap (λ l. l ++ (key, saved) ∷ []) is)
