-- Each new path at the end gives the first of each path.
use Rattle.std.proofs.Common.{◌≡◌, ℕ, ◌+◌, ◌<◌, length, drop, get_or, Bool, true, false, not, cond, ◌&&◌, ◌||◌, List, [], ◌∷◌, ◌++◌, bytes_eq, refl, sym, ap, ◌∙◌, append_assoc, append-nil}
use Rattle.std.specs.List.{filter, flat_map, list_any}
use Rattle.std.proofs.lemmas.List.{drop_more}
use Rattle.std.proofs.lemmas.List.Elements.{filter-append}
use Rattle.std.proofs.lemmas.List.Folds.{list_any-append}
use Rattle.std.proofs.lemmas.Slice.Eq.{bytes_eq-Decides}
use Rattle.flow_base.specs.declared.value.Value.{Value, out-Value}
use Rattle.flow_meaning.specs.Inputs.{Path, distinct, inputs, paths_in}
use Rattle.dependency_graph.specs.Added.{added, added_all}

-- not among them
abbrev fresh : List Path → Path → Bool
fresh ps q = not (list_any (λ p. bytes_eq p q) ps)

abbrev other : Path → Path → Bool
other p q = not (bytes_eq p q)

kept_front : (f : Path → Bool) (b : Bool) (p : Path) (ps : List Path) → filter f (cond b (p ∷ ps) ps) ≡ cond (b && f p) (p ∷ filter f ps) (filter f ps)
kept_front f true p ps = refl
kept_front f false p ps = refl

-- what passes both of two tests
kept_both : (f g h : Path → Bool) → ((p : Path) → (g p && f p) ≡ h p) → (ps : List Path) → filter f (filter g ps) ≡ filter h ps
kept_both f g h both [] = refl
kept_both f g h both (p ∷ ps) =
    kept_front f (g p) p (filter g ps)
    ∙ ap (λ (t : Bool). cond t (p ∷ filter f (filter g ps)) (filter f (filter g ps))) (both p)
    ∙ ap (λ (rest : List Path). cond (h p) (p ∷ rest) rest) (kept_both f g h both ps)

neither : (a b : Bool) → (not a && not b) ≡ not (b || (a || false))
neither true true = refl
neither true false = refl
neither false true = refl
neither false false = refl

-- what is among the first is not new, however often it comes
old_too : (seen : List Path) (p q : Path) (e : Bool) → list_any (λ r. bytes_eq r p) seen ≡ true → bytes_eq p q ≡ e → (not e && fresh seen q) ≡ fresh seen q
old_too seen p q true among same =
    let is : p ≡ q = (bytes_eq-Decides p q).0 same in
    sym (ap not (ap (λ (r : Path). list_any (λ s. bytes_eq s r) seen) (sym is) ∙ among))
old_too seen p q false among same = refl

more_seen : (seen : List Path) (p q : Path) → (other p q && fresh seen q) ≡ fresh (seen ++ p ∷ []) q
more_seen seen p q = neither (bytes_eq p q) (list_any (λ r. bytes_eq r q) seen) ∙ ap not (sym (list_any-append (λ r. bytes_eq r q) seen (p ∷ [])))

one_more : (seen : List Path) (p : Path) (ps : List Path) (among : Bool) → list_any (λ q. bytes_eq q p) seen ≡ among →
    cond among seen (seen ++ p ∷ []) ++ filter (fresh (cond among seen (seen ++ p ∷ []))) ps ≡ seen ++ cond (not among) (p ∷ filter (fresh seen) (filter (other p) ps)) (filter (fresh seen) (filter (other p) ps))
one_more seen p ps true among =
    ap (λ (rest : List Path). seen ++ rest) (sym (kept_both (fresh seen) (other p) (fresh seen) (λ q. old_too seen p q (bytes_eq p q) among refl) ps))
one_more seen p ps false among =
    append_assoc seen (p ∷ []) (filter (fresh (seen ++ p ∷ [])) ps)
    ∙ ap (λ (rest : List Path). seen ++ p ∷ rest) (sym (kept_both (fresh seen) (other p) (fresh (seen ++ p ∷ [])) (more_seen seen p) ps))

added_distinct : (seen ps : List Path) → added_all seen ps ≡ seen ++ filter (fresh seen) (distinct ps)
added_distinct seen [] = sym (append-nil seen)
added_distinct seen (p ∷ ps) = added_distinct (added seen p) ps ∙ one_more seen p (distinct ps) (list_any (λ q. bytes_eq q p) seen) refl

all_new : (ps : List Path) → filter (fresh []) ps ≡ ps
all_new [] = refl
all_new (p ∷ ps) = ap (λ (rest : List Path). p ∷ rest) (all_new ps)

pub inputs_added : (arguments : List Value) → added_all [] (flat_map (λ v. paths_in (out-Value v)) arguments) ≡ inputs arguments
unfolding inputs
inputs_added arguments = added_distinct [] (flat_map (λ v. paths_in (out-Value v)) arguments) ∙ all_new (distinct (flat_map (λ v. paths_in (out-Value v)) arguments))

added_all-append : (seen ps qs : List Path) → added_all seen (ps ++ qs) ≡ added_all (added_all seen ps) qs
added_all-append seen [] qs = refl
added_all-append seen (p ∷ ps) qs = added_all-append (added seen p) ps qs

-- what is added of one value more
pub added_next : (F : Value → List Path) (seen next : List Path) (values : List Value) (all : List Path) (i : ℕ) (a : Value) → i < length values → a ≡ get_or values i a → next ≡ added_all seen (F a) →
    added_all seen (flat_map F (drop i values)) ≡ all → added_all next (flat_map F (drop (i + 1) values)) ≡ all
added_next F seen next values all i a short is took before =
    let rest = drop (i + 1) values in
    let here : drop i values ≡ a ∷ rest = drop_more values i a short ∙ ap (λ (v : Value). v ∷ rest) (sym is) in
    ap (λ (ps : List Path). added_all ps (flat_map F rest)) took
    ∙ sym (added_all-append seen (F a) (flat_map F rest))
    ∙ ap (λ (vs : List Value). added_all seen (flat_map F vs)) (sym here)
    ∙ before

-- one argument more
pub inputs_next : (seen next : List Path) (arguments : List Value) (i : ℕ) (a : Value) → i < length arguments → a ≡ get_or arguments i a → next ≡ added_all seen (paths_in (out-Value a)) →
    added_all seen (flat_map (λ v. paths_in (out-Value v)) (drop i arguments)) ≡ inputs arguments → added_all next (flat_map (λ v. paths_in (out-Value v)) (drop (i + 1) arguments)) ≡ inputs arguments
inputs_next seen next arguments i a = added_next (λ v. paths_in (out-Value v)) seen next arguments (inputs arguments) i a

-- ---- those that pass a test

dropped_too : (P : Path → Bool) (p q : Path) (e : Bool) → P p ≡ false → bytes_eq p q ≡ e → (not e && P q) ≡ P q
dropped_too P p q true fails same = let is : p ≡ q = (bytes_eq-Decides p q).0 same in sym (ap P (sym is) ∙ fails)
dropped_too P p q false fails same = refl

both_ways : (a b : Bool) → (a && b) ≡ (b && a)
both_ways true true = refl
both_ways true false = refl
both_ways false true = refl
both_ways false false = refl

distinct_front : (P : Path → Bool) (p : Path) (ps qs : List Path) (passes : Bool) → P p ≡ passes → distinct qs ≡ filter P (distinct ps) →
    distinct (cond passes (p ∷ qs) qs) ≡ cond passes (p ∷ filter P (filter (other p) (distinct ps))) (filter P (filter (other p) (distinct ps)))
distinct_front P p ps qs true is rest =
    ap (λ (rs : List Path). p ∷ filter (other p) rs) rest
    ∙ ap (λ (rs : List Path). p ∷ rs) (kept_both (other p) P (λ q. P q && other p q) (λ q. refl) (distinct ps) ∙ sym (kept_both P (other p) (λ q. P q && other p q) (λ q. both_ways (other p q) (P q)) (distinct ps)))
distinct_front P p ps qs false is rest = rest ∙ sym (kept_both P (other p) P (λ q. dropped_too P p q (bytes_eq p q) is refl) (distinct ps))

distinct_filter : (P : Path → Bool) (ps : List Path) → distinct (filter P ps) ≡ filter P (distinct ps)
distinct_filter P [] = refl
distinct_filter P (p ∷ ps) = distinct_front P p ps (filter P ps) (P p) refl (distinct_filter P ps)

pub filter-each : (P : Path → Bool) (F : Value → List Path) (values : List Value) → filter P (flat_map F values) ≡ flat_map (λ v. filter P (F v)) values
filter-each P F [] = refl
filter-each P F (v ∷ vs) = filter-append P (F v) (flat_map F vs) ∙ ap (λ (ps : List Path). filter P (F v) ++ ps) (filter-each P F vs)

-- the inputs that pass
pub passed_added : (P : Path → Bool) (arguments : List Value) → added_all [] (flat_map (λ v. filter P (paths_in (out-Value v))) arguments) ≡ filter P (inputs arguments)
unfolding inputs
passed_added P arguments =
    let all = flat_map (λ v. paths_in (out-Value v)) arguments in
    ap (added_all []) (sym (filter-each P (λ v. paths_in (out-Value v)) arguments))
    ∙ added_distinct [] (filter P all)
    ∙ all_new (distinct (filter P all))
    ∙ distinct_filter P all
