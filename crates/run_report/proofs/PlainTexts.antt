-- The texts of a report have no newline, but at the ends of its lines.
use Rattle.std.proofs.Common.{◌≡◌, ℕ, zero, suc, ◌+◌, ◌/◌, ◌%◌, false, not, List, [], ◌∷◌, ◌++◌, map, ℤ, pos, negsuc, refl, sym, ap, subst, arith}
use Rattle.std.specs.Prelude.{◌==◌, nat_lt, flat_map, codes}
use Rattle.std.specs.Fmt.{decimal, signed_decimal, digits, digits_onto, digit_glyph}
use Rattle.std.specs.List.{AllByRecursion}
use Rattle.std.proofs.lemmas.Bool.{and_parts, and_from, ne_eqb, eqb-false, cond_both}
use Rattle.text_writer.specs.Written.{behind, joined, escaped, quoted, path_text}
use Rattle.flow_base.specs.declared.value.Value.{Value, roll-Value, map-Value, fold-roll-Value, ind-Value}
use Rattle.flow_base.specs.declared.value.Value.TheOpen.{Value-F}
use Rattle.flow_base.specs.declared.outcome.Exception.{Exception}
use Rattle.flow_base.specs.declared.outcome.Exception.TheVariants as x
use Rattle.flow_base.specs.Exceptions.{exception_name}
use Rattle.flow_base.specs.declared.outcome.FileOut.{FileOut}
use Rattle.flow_base.specs.declared.outcome.Outcome.{Outcome}
use Rattle.flow_base.specs.declared.outcome.Outcome.TheVariants as outcome
use Rattle.run_report.specs.Shown.{file_text, list_text, shown_step, shown, paths_text, exception_detail, exception_text, file_values, files_text, outcome_text}
use Rattle.run_report.specs.ReadBack.{IsPlainText}

abbrev ArePlain : List (List ℕ) → Type 0
ArePlain = AllByRecursion IsPlainText

pub append_plain : (xs ys : List ℕ) → IsPlainText xs → IsPlainText ys → IsPlainText (xs ++ ys)
append_plain [] ys h k = k
append_plain (x ∷ xs) ys h k = let both = and_parts _ _ h in and_from _ _ both.0 (append_plain xs ys both.1 k)

cons_plain : (b : ℕ) (bs : List ℕ) → (b ≡ 10 → ⊥) → IsPlainText bs → IsPlainText (b ∷ bs)
cons_plain b bs h k = and_from _ _ (ap not (ne_eqb b 10 h)) k

-- ---- numbers and paths

glyph_plain : (d : ℕ) → digit_glyph false d ≡ 10 → ⊥
glyph_plain d = cond_both (nat_lt d 10) (48 + d) (87 + d) (λ g. g ≡ 10 → ⊥) (λ e h. omega arith) (λ e h. omega arith)

digits_plain : (k n : ℕ) (acc : List ℕ) → IsPlainText acc → IsPlainText (digits_onto k 10 false n acc)
digits_plain zero n acc h = h
digits_plain (suc k) n acc h =
    let more = cons_plain (digit_glyph false (n % 10)) acc (glyph_plain (n % 10)) h in
    cond_both (n / 10 == 0) (digit_glyph false (n % 10) ∷ acc) (digits_onto k 10 false (n / 10) (digit_glyph false (n % 10) ∷ acc)) IsPlainText
    (λ e. more) (λ e. digits_plain k (n / 10) (digit_glyph false (n % 10) ∷ acc) more)

pub decimal_plain : (n : ℕ) → IsPlainText (decimal n)
unfolding digits
decimal_plain n = digits_plain 64 n [] refl

signed_plain : (n : ℤ) → IsPlainText (signed_decimal n)
signed_plain (pos n) = decimal_plain n
signed_plain (negsuc n) = decimal_plain (suc n)

behind_plain : (separator : List ℕ) (items : List (List ℕ)) → IsPlainText separator → ArePlain items → IsPlainText (behind separator items)
behind_plain separator [] h k = refl
behind_plain separator (item ∷ items) h k = append_plain (separator ++ item) _ (append_plain separator item h k.0) (behind_plain separator items h k.1)

joined_plain : (separator : List ℕ) (items : List (List ℕ)) → IsPlainText separator → ArePlain items → IsPlainText (joined separator items)
joined_plain separator [] h k = refl
joined_plain separator (item ∷ items) h k = append_plain item _ k.0 (behind_plain separator items h k.1)

decimals_plain : (path : List ℕ) → ArePlain (map decimal path)
decimals_plain [] = tt
decimals_plain (n ∷ path) = (decimal_plain n, decimals_plain path)

pub path_plain : (path : List ℕ) → IsPlainText (path_text path)
path_plain path = joined_plain (46 ∷ []) (map decimal path) refl (decimals_plain path)

paths_plain : (paths : List (List ℕ)) → IsPlainText (paths_text paths)
paths_plain [] = refl
paths_plain (path ∷ paths) = append_plain (path_text path) _ (path_plain path) (paths_plain paths)

-- ---- quoted texts, files and lists

escaped_plain : (b : ℕ) → IsPlainText (escaped b)
escaped_plain b =
    cond_both (b == 10) _ _ IsPlainText (λ e. refl) λ other.
    cond_both (b == 34) _ _ IsPlainText (λ e. refl) λ e.
    cond_both (b == 92) _ _ IsPlainText (λ f. refl) λ f.
    cons_plain b [] (eqb-false b 10 other) refl

escapes_plain : (text : List ℕ) → IsPlainText (flat_map escaped text)
escapes_plain [] = refl
escapes_plain (b ∷ text) = append_plain (escaped b) _ (escaped_plain b) (escapes_plain text)

quoted_plain : (text : List ℕ) → IsPlainText (quoted text)
quoted_plain text = append_plain (flat_map escaped text) (34 ∷ []) (escapes_plain text) refl

file_plain : (name content : List ℕ) → IsPlainText (file_text name content)
file_plain name content =
    let front = append_plain (quoted name) (codes ", ") (quoted_plain name) refl in
    append_plain (quoted name ++ codes ", " ++ quoted content) (codes ")") (append_plain (quoted name ++ codes ", ") (quoted content) front (quoted_plain content)) refl

list_plain : (items : List (List ℕ)) → ArePlain items → IsPlainText (list_text items)
list_plain items h = append_plain (joined (codes ", ") items) (codes "]") (joined_plain (codes ", ") items refl h) refl

-- ---- values

abbrev PlainValue : Type 0
PlainValue = (value : Value) × IsPlainText (shown value)

abbrev layer_of : Value-F PlainValue → Value-F Value
layer_of = map-Value PlainValue Value (λ e. e.0)

items_plain : (es : List PlainValue) → ArePlain (map shown (map (λ e. e.0) es))
items_plain [] = tt
items_plain (e ∷ es) = (e.1, items_plain es)

layer_plain : (y : Value-F PlainValue) → IsPlainText (shown_step (map-Value Value (List ℕ) shown (layer_of y)))
layer_plain (Value-F.Int n) = signed_plain n
layer_plain (Value-F.Text t) = quoted_plain t
layer_plain (Value-F.List es) = list_plain _ (items_plain es)
layer_plain (Value-F.File name content) = file_plain name content
layer_plain (Value-F.Future path outputs) = path_plain path
layer_plain (Value-F.Output path index) = append_plain (path_text path ++ codes " ") (decimal index) (append_plain (path_text path) (codes " ") (path_plain path) refl) (decimal_plain index)
layer_plain Value-F.Nothing = refl

rolled_plain : (y : Value-F PlainValue) → IsPlainText (shown (roll-Value (layer_of y)))
unfolding shown
rolled_plain y = subst IsPlainText (sym (fold-roll-Value (List ℕ) shown_step (layer_of y))) (layer_plain y)

pub shown_plain : (value : Value) → IsPlainText (shown value)
shown_plain = ind-Value (λ v. IsPlainText (shown v)) (λ v y is. subst (λ (z : Value-F Value). IsPlainText (shown (roll-Value z))) is (rolled_plain y))

-- ---- exceptions and outcomes

name_plain : (exception : Exception) → IsPlainText (exception_name exception)
name_plain x.ZeroDivisionError = refl
name_plain _ = refl

detail_plain : (exception : Exception) → IsPlainText (exception_detail exception)
detail_plain (x.AppError text) = quoted_plain text
detail_plain (x.DependencyError paths) = paths_plain paths
detail_plain (x.JoinError paths) = paths_plain paths
detail_plain (x.ManagerLost manager) = decimal_plain manager
detail_plain _ = refl

pub exception_plain : (exception : Exception) → IsPlainText (exception_text exception)
unfolding exception_text
exception_plain exception = append_plain (exception_name exception) (exception_detail exception) (name_plain exception) (detail_plain exception)

values_plain : (files : List FileOut) → ArePlain (file_values files)
values_plain [] = tt
values_plain (file ∷ files) = (file_plain file.name file.content, values_plain files)

files_plain : (files : List FileOut) → IsPlainText (files_text files)
files_plain [] = refl
files_plain (file ∷ files) = list_plain (file_values (file ∷ files)) (values_plain (file ∷ files))

pub outcome_plain : (o : Outcome) → IsPlainText (outcome_text o)
outcome_plain (outcome.Value value files) = append_plain (shown value) (files_text files) (shown_plain value) (files_plain files)
outcome_plain (outcome.Failed exception) = exception_plain exception
