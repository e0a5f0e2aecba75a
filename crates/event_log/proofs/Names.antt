-- Names, and the words with which an attempt ends.
use Rattle.std.specs.Prelude.{◌&&◌, not, nat_le, bytes_eq}
use Rattle.std.specs.List.{list_all, AllByRecursion}
use Rattle.std.proofs.Common.{◌≡◌, ℕ, Bool, true, List, [], ◌∷◌, length, All, refl, subst, arith, inr}
use Rattle.std.proofs.lemmas.Bool.Decides.{nat_tests}
use Rattle.std.proofs.lemmas.List.Elements.{All-from_recursion}
use Rattle.std.proofs.lemmas.Slice.Eq.{bytes_eq-Decides}
use Rattle.flow_base.specs.TextBytes.{IsTextByte}
use Rattle.script_tree.specs.Lexing.{begins_name, is_in_name, max_name}
use Rattle.event_log.specs.LogWords.{is_one_of, end_words, is_end_word, is_keyword}
use Rattle.event_log.specs.Reading.{is_in_word, is_run, is_name}
use Rattle.event_log.proofs.Branches.{if_case, parts_of, join}

-- ---- bytes of texts

text_byte : (b : ℕ) → (nat_le 32 b && nat_le b 126) ≡ true → IsTextByte b
text_byte b h = inr (grind (arith, nat_tests))

abbrev plain_text : List ℕ → Bool
plain_text w = list_all (λ b. nat_le 32 b && nat_le b 126) w

text_listed : (w : List ℕ) → plain_text w ≡ true → AllByRecursion IsTextByte w
text_listed [] all = tt
text_listed (b ∷ bs) all =
    let parts = parts_of (nat_le 32 b && nat_le b 126) (plain_text bs) all in
    (text_byte b parts.0, text_listed bs parts.1)

all_text : (w : List ℕ) → plain_text w ≡ true → All IsTextByte w
all_text w all = All-from_recursion IsTextByte w (text_listed w all)

-- ---- one of some words

one_of_passes : (test : List ℕ → Bool) (keys : List (List ℕ)) (w : List ℕ) → list_all test keys ≡ true → is_one_of keys w ≡ true → test w ≡ true
one_of_passes test [] w all h = absurd (cc)
one_of_passes test (key ∷ keys) w all h =
    let parts = parts_of (test key) (list_all test keys) all in
    if_case (λ b. b ≡ true → test w ≡ true) (bytes_eq key w) true (is_one_of keys w)
    (λ same _. let e : key ≡ w = (bytes_eq-Decides key w).0 same in subst (λ x. test x ≡ true) e parts.0)
    (λ differ more. one_of_passes test keys w parts.1 more)
    h

pub end_word_text : (w : List ℕ) → is_end_word w ≡ true → All IsTextByte w
end_word_text w h = all_text w (one_of_passes plain_text end_words w refl h)

pub end_word_plain : (w : List ℕ) → is_end_word w ≡ true → list_all is_in_word w ≡ true
end_word_plain w h = one_of_passes (list_all is_in_word) end_words w refl h

-- ---- names

name_byte : (b : ℕ) → begins_name b ≡ true → is_in_name b ≡ true
name_byte b h = grind (arith, nat_tests)

name_text_byte : (b : ℕ) → is_in_name b ≡ true → (nat_le 32 b && nat_le b 126) ≡ true
name_text_byte b h = grind (arith, nat_tests)

name_in_word : (b : ℕ) → is_in_name b ≡ true → is_in_word b ≡ true
name_in_word b h = grind (arith, nat_tests)

list_weaker : (p q : ℕ → Bool) → ((b : ℕ) → p b ≡ true → q b ≡ true) → (w : List ℕ) → list_all p w ≡ true → list_all q w ≡ true
list_weaker p q f [] all = refl
list_weaker p q f (b ∷ bs) all =
    let parts = parts_of (p b) (list_all p bs) all in
    join (q b) (list_all q bs) (f b parts.0) (list_weaker p q f bs parts.1)

pub run_in_name : (w : List ℕ) → is_run w ≡ true → list_all is_in_name w ≡ true
run_in_name [] h = absurd (cc)
run_in_name (b ∷ bs) h =
    let parts = parts_of (begins_name b) (list_all is_in_name bs) h in
    join (is_in_name b) (list_all is_in_name bs) (name_byte b parts.0) parts.1

name_run : (w : List ℕ) → is_name w ≡ true → is_run w ≡ true
name_run w h = (parts_of (is_run w) (nat_le (length w) max_name && not (is_keyword w)) h).0

pub name_text : (w : List ℕ) → is_name w ≡ true → All IsTextByte w
name_text w h = all_text w (list_weaker is_in_name (λ b. nat_le 32 b && nat_le b 126) name_text_byte w (run_in_name w (name_run w h)))

pub name_plain : (w : List ℕ) → is_name w ≡ true → list_all is_in_word w ≡ true
name_plain w h = list_weaker is_in_name is_in_word name_in_word w (run_in_name w (name_run w h))
