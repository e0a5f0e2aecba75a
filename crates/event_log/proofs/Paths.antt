-- Paths and their text.
use Rattle.std.specs.Prelude.{not, map, take, drop, decimal}
use Rattle.std.specs.List.{prefix_len, list_all, slice_split, onto_first, join_with_byte, AllByRecursion}
use Rattle.std.specs.Char.{is_ascii_digit}
use Rattle.std.proofs.Common.{◌≡◌, ℕ, suc, ◌≤◌, true, false, List, [], ◌∷◌, ◌++◌, length, get_or, ◌-◌, All, Option, Some, None, refl, ap, sym, subst, ◌∙◌, append_assoc, arith}
use Rattle.std.proofs.lemmas.Bool.Decides.{nat_tests}
use Rattle.std.proofs.lemmas.List.{append-nil, length-map, take_all}
use Rattle.std.proofs.lemmas.List.Elements.{All-from_recursion, recursion_from_All}
use Rattle.std.proofs.lemmas.List.Folds.{list_all-append}
use Rattle.std.proofs.lemmas.List.Splits.{slice_split-cons_yes, slice_split-cons_no, slice_split_none, slice_split_at, length-slice_split, join_with_byte-slice_split}
use Rattle.text_writer.specs.Written.{path_text, joined}
use Rattle.event_log.specs.Logs.{IsShort, AreShort, IsTaskPath}
use Rattle.event_log.specs.Reading.{is_in_word, in_front, number_of, numbers_of, is_dot, is_no_dot, path_of}
use Rattle.event_log.proofs.Branches.{if_true, if_false, by_cases, parts_of, join}
use Rattle.event_log.proofs.Readers.{IsWord}
use Rattle.event_log.proofs.Numbers.{word_of_number, short_digits}

-- ---- what is split off at a dot

no_dot : (b : ℕ) → is_dot b ≡ false → is_no_dot b ≡ true
no_dot b e = ap not e

a_dot : (b : ℕ) → is_dot b ≡ true → is_no_dot b ≡ false
a_dot b e = ap not e

more_before : (x : ℕ) (xs : List ℕ) → is_dot x ≡ false → prefix_len is_no_dot (x ∷ xs) ≡ suc (prefix_len is_no_dot xs)
more_before x xs e = if_true _ _ (no_dot x e) ∙ omega arith

none_before : (x : ℕ) (xs : List ℕ) → is_dot x ≡ true → prefix_len is_no_dot (x ∷ xs) ≡ 0
none_before x xs e = if_false _ _ (a_dot x e)

-- the parts of a word in which a dot and others follow on the first part
pub splits_at : (xs : List ℕ) (c : ℕ) (cs : List ℕ) → drop (prefix_len is_no_dot xs) xs ≡ c ∷ cs → slice_split is_dot xs ≡ take (prefix_len is_no_dot xs) xs ∷ slice_split is_dot cs
splits_at [] c cs e = absurd (cc)
splits_at (x ∷ xs) c cs e = by_cases (is_dot x)
    (λ dot.
    let n = none_before x xs dot in
    let rest : x ∷ xs ≡ c ∷ cs = sym (ap (λ k. drop k (x ∷ xs)) n) ∙ e in
    let same : xs ≡ cs = cc in
    slice_split-cons_yes is_dot x xs dot ∙ ap (λ ys. [] ∷ slice_split is_dot ys) same ∙ ap (λ k. take k (x ∷ xs) ∷ slice_split is_dot cs) (sym n))
    (λ other.
    let n = more_before x xs other in
    let rest : drop (prefix_len is_no_dot xs) xs ≡ c ∷ cs = sym (ap (λ k. drop k (x ∷ xs)) n) ∙ e in
    slice_split-cons_no is_dot x xs other ∙ ap (onto_first x) (splits_at xs c cs rest) ∙ ap (λ k. take k (x ∷ xs) ∷ slice_split is_dot cs) (sym n))

-- the one part of a word without a dot
pub splits_last : (xs : List ℕ) → drop (prefix_len is_no_dot xs) xs ≡ [] → slice_split is_dot xs ≡ take (prefix_len is_no_dot xs) xs ∷ []
splits_last [] e = refl
splits_last (x ∷ xs) e = by_cases (is_dot x)
    (λ dot.
    let rest : x ∷ xs ≡ [] = sym (ap (λ k. drop k (x ∷ xs)) (none_before x xs dot)) ∙ e in
    absurd (cc))
    (λ other.
    let n = more_before x xs other in
    let rest : drop (prefix_len is_no_dot xs) xs ≡ [] = sym (ap (λ k. drop k (x ∷ xs)) n) ∙ e in
    slice_split-cons_no is_dot x xs other ∙ ap (onto_first x) (splits_last xs rest) ∙ ap (λ k. take k (x ∷ xs) ∷ []) (sym n))

-- ---- reading a path number by number

-- numbers before those that follow
abbrev pub numbers_front : List ℕ → Option (List ℕ) → Option (List ℕ)
numbers_front front (Some ns) = Some (front ++ ns)
numbers_front front None = None

one_more : (front : List ℕ) (n : ℕ) (o : Option (List ℕ)) → numbers_front front (in_front (Some n) o) ≡ numbers_front (front ++ n ∷ []) o
one_more front n (Some ns) = ap (λ ms. Some ms) (sym (append_assoc front (n ∷ []) ns))
one_more front n None = refl

abbrev pub part_at : List ℕ → List ℕ
part_at rest = take (prefix_len is_no_dot rest) rest

-- a number and a dot more were read
pub path_goes_on : (front : List ℕ) (n : ℕ) (rest : List ℕ) (c : ℕ) (others word : List ℕ) → number_of (part_at rest) ≡ Some n → drop (prefix_len is_no_dot rest) rest ≡ c ∷ others
    → numbers_front front (path_of rest) ≡ path_of word → numbers_front (front ++ n ∷ []) (path_of others) ≡ path_of word
path_goes_on front n rest c others word is more so_far =
    let parts : path_of rest ≡ in_front (Some n) (path_of others) = ap numbers_of (splits_at rest c others more) ∙ ap (λ o. in_front o (path_of others)) is in
    sym (one_more front n (path_of others)) ∙ ap (numbers_front front) (sym parts) ∙ so_far

pub path_ends : (front : List ℕ) (n : ℕ) (rest word : List ℕ) → number_of (part_at rest) ≡ Some n → drop (prefix_len is_no_dot rest) rest ≡ []
    → numbers_front front (path_of rest) ≡ path_of word → path_of word ≡ Some (front ++ n ∷ [])
path_ends front n rest word is more so_far =
    let parts : path_of rest ≡ Some (n ∷ []) = ap numbers_of (splits_last rest more) ∙ ap (λ o. in_front o (Some [])) is in
    sym so_far ∙ ap (numbers_front front) parts

no_first : (p : List ℕ) (ps : List (List ℕ)) → number_of p ≡ None → numbers_of (p ∷ ps) ≡ None
no_first p ps e = ap (λ o. in_front o (numbers_of ps)) e

rest_is_no_path : (rest tail : List ℕ) → number_of (part_at rest) ≡ None → drop (prefix_len is_no_dot rest) rest ≡ tail → path_of rest ≡ None
rest_is_no_path rest [] e is = ap numbers_of (splits_last rest is) ∙ no_first (part_at rest) [] e
rest_is_no_path rest (c ∷ cs) e is = ap numbers_of (splits_at rest c cs is) ∙ no_first (part_at rest) (slice_split is_dot cs) e

pub no_path : (front rest word : List ℕ) → number_of (part_at rest) ≡ None → numbers_front front (path_of rest) ≡ path_of word → path_of word ≡ None
no_path front rest word e so_far = sym so_far ∙ ap (numbers_front front) (rest_is_no_path rest _ e refl)

pub first_of : (bs : List ℕ) → 1 ≤ length bs → bs ≡ get_or bs 0 0 ∷ take (length bs - 1) (drop 1 bs)
first_of [] long = absurd (omega arith)
first_of (b ∷ bs) long = ap (λ t. b ∷ t) (sym (take_all (length (b ∷ bs) - 1) bs (omega arith)))

-- ---- the text of a path

path_joined : (ws : List (List ℕ)) → joined (46 ∷ []) ws ≡ join_with_byte 46 ws
path_joined [] = refl
path_joined (w ∷ []) = append-nil w
path_joined (w ∷ v ∷ ws) = ap (λ t. w ++ (46 ∷ t)) (path_joined (v ∷ ws))

in_front_some : (o : Option ℕ) (os : Option (List ℕ)) (ns : List ℕ) → in_front o os ≡ Some ns → (m : ℕ) × (ms : List ℕ) × (o ≡ Some m) × (os ≡ Some ms) × (m ∷ ms ≡ ns)
in_front_some (Some m) (Some ms) ns e = (m, ms, refl, refl, cc)
in_front_some (Some m) None ns e = absurd (cc)
in_front_some None os ns e = absurd (cc)

numbers_take : (ws : List (List ℕ)) (ns : List ℕ) → numbers_of ws ≡ Some ns → AllByRecursion IsShort ns × (ws ≡ map decimal ns)
numbers_take [] ns e = let none : [] ≡ ns = cc in subst (λ ms. AllByRecursion IsShort ms × ([] ≡ map decimal ms)) none (tt, refl)
numbers_take (w ∷ ws) ns e =
    let p = in_front_some (number_of w) (numbers_of ws) ns e in
    let first = word_of_number.takes w p.0 p.2 in
    let others = numbers_take ws p.1 p.3 in
    let is : w ∷ ws ≡ decimal p.0 ∷ map decimal p.1 = ap (λ x. x ∷ ws) first.1 ∙ ap (λ xs. decimal p.0 ∷ xs) others.1 in
    subst (λ ms. AllByRecursion IsShort ms × (w ∷ ws ≡ map decimal ms)) p.4 ((first.0, others.0), is)

numbers_again : (ns : List ℕ) → AllByRecursion IsShort ns → numbers_of (map decimal ns) ≡ Some ns
numbers_again [] all = refl
numbers_again (n ∷ ns) all = ap (λ o. in_front o (numbers_of (map decimal ns))) (word_of_number.again n all.0) ∙ ap (in_front (Some n)) (numbers_again ns all.1)

abbrev IsPath : List ℕ → Type 0
IsPath path = IsTaskPath path × AreShort path

path_takes : (w path : List ℕ) → path_of w ≡ Some path → IsPath path × (w ≡ path_text path)
path_takes w path e =
    let taken = numbers_take (slice_split is_dot w) path e in
    let whole : w ≡ path_text path = sym (join_with_byte-slice_split 46 w) ∙ ap (join_with_byte 46) taken.1 ∙ sym (path_joined (map decimal path)) in
    let long : 1 ≤ length path = omega (arith, length-slice_split is_dot w, ap length taken.1, length-map path decimal) in
    ((long, All-from_recursion IsShort path taken.0), whole)

no_dot_byte : (b : ℕ) → is_ascii_digit b ≡ true → is_dot b ≡ false
no_dot_byte b h = grind (arith, nat_tests)

no_dots : (ds : List ℕ) → list_all is_ascii_digit ds ≡ true → AllByRecursion (λ b. is_dot b ≡ false) ds
no_dots [] all = tt
no_dots (d ∷ ds) all =
    let parts = parts_of (is_ascii_digit d) (list_all is_ascii_digit ds) all in
    (no_dot_byte d parts.0, no_dots ds parts.1)

decimal_no_dots : (n : ℕ) → IsShort n → All (λ b. is_dot b ≡ false) (decimal n)
decimal_no_dots n small = All-from_recursion (λ b. is_dot b ≡ false) (decimal n) (no_dots (decimal n) (short_digits n small))

joined_splits : (n : ℕ) (ns : List ℕ) → IsShort n → AllByRecursion IsShort ns → slice_split is_dot (join_with_byte 46 (map decimal (n ∷ ns))) ≡ map decimal (n ∷ ns)
joined_splits n [] small all = slice_split_none is_dot (decimal n) (decimal_no_dots n small)
joined_splits n (m ∷ ns) small all =
    slice_split_at is_dot (decimal n) 46 (join_with_byte 46 (map decimal (m ∷ ns))) (decimal_no_dots n small) refl
    ∙ ap (λ ws. decimal n ∷ ws) (joined_splits m ns all.0 all.1)

joined_again : (path : List ℕ) → 1 ≤ length path → AllByRecursion IsShort path → path_of (join_with_byte 46 (map decimal path)) ≡ Some path
joined_again [] long all = absurd (omega arith)
joined_again (n ∷ ns) long all = ap numbers_of (joined_splits n ns all.0 all.1) ∙ numbers_again (n ∷ ns) all

path_again : (path : List ℕ) → IsPath path → path_of (path_text path) ≡ Some path
path_again path is = ap path_of (path_joined (map decimal path)) ∙ joined_again path is.0 (recursion_from_All IsShort path is.1)

joined_plain : (ns : List ℕ) → AllByRecursion IsShort ns → list_all is_in_word (join_with_byte 46 (map decimal ns)) ≡ true
joined_plain [] all = refl
joined_plain (n ∷ []) all = word_of_number.plain n all.0
joined_plain (n ∷ m ∷ ns) all =
    let rest = join_with_byte 46 (map decimal (m ∷ ns)) in
    list_all-append is_in_word (decimal n) (46 ∷ rest) ∙ join (list_all is_in_word (decimal n)) (list_all is_in_word (46 ∷ rest)) (word_of_number.plain n all.0) (joined_plain (m ∷ ns) all.1)

path_plain : (path : List ℕ) → IsPath path → list_all is_in_word (path_text path) ≡ true
path_plain path is = ap (list_all is_in_word) (path_joined (map decimal path)) ∙ joined_plain path (recursion_from_All IsShort path is.1)

pub word_of_path : IsWord path_of path_text (λ path. IsTaskPath path × AreShort path)
word_of_path = record { takes = path_takes; again = path_again; plain = path_plain }
