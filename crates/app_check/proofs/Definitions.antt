-- The marks of parameters and of apps, one after another.
use Rattle.std.proofs.Common.{◌≡◌, ℕ, suc, ◌+◌, ◌<◌, ◌≤◌, List, [], ◌∷◌, length, drop, flat_map, get_or, ap, sym, ◌∙◌, arith}
use Rattle.std.proofs.lemmas.List.{drop_more, drop_all}
use Rattle.script_tree.specs.declared.tree.AppDef.{AppDef}
use Rattle.script_tree.specs.Marks.{Name, Marks, Other, Takes, app, apps_from, listed, parameters_from}
use Rattle.app_check.specs.Seeing.{Seen, see, seen}
use Rattle.app_check.proofs.Seeing.{seen_none, seen_one, seen_more}

next_drop : {X : Type 0} (xs : List X) (i : ℕ) (x : X) → i < length xs → x ≡ get_or xs i x → drop i xs ≡ x ∷ drop (i + 1) xs
next_drop xs i x short is = drop_more xs i x short ∙ ap (λ y. y ∷ drop (i + 1) xs) (sym is)

abbrev later : ℕ → List Name → Marks
later k names = flat_map (λ f. Other ∷ f) (parameters_from k names)

later_seen : (z between new : Seen) (k n : ℕ) (name : Name) (names : List Name) → n ≡ suc k → between ≡ see z Other → new ≡ see between (Takes k name)
    → seen new (later n names) ≡ seen z (later k (name ∷ names))
later_seen z between new k n name names is first next =
    rw (next, first, is) (sym (seen_one z Other (Takes k name ∷ later (suc k) names) ∙ seen_one (see z Other) (Takes k name) (later (suc k) names)))

pub parameter_next : (names : List Name) (i k : ℕ) (name : Name) (z between new whole : Seen) → i < length names → name ≡ get_or names i name → k ≡ i + 1
    → between ≡ see z Other → new ≡ see between (Takes k name) → seen z (later (i + 1) (drop i names)) ≡ whole → seen new (later (i + 1 + 1) (drop (i + 1) names)) ≡ whole
parameter_next names i k name z between new whole short is count first next before =
    later_seen z between new k (i + 1 + 1) name (drop (i + 1) names) (omega (arith, count)) first next
    ∙ ap (λ n. seen z (later n (name ∷ drop (i + 1) names))) count ∙ ap (λ l. seen z (later (i + 1) l)) (sym (next_drop names i name short is)) ∙ before

pub parameters_end : (names : List Name) (i : ℕ) (z whole : Seen) → length names ≤ i → seen z (later (i + 1) (drop i names)) ≡ whole → z ≡ whole
parameters_end names i z whole end before = sym (ap (λ l. seen z (later (i + 1) l)) (drop_all i names end) ∙ seen_none z) ∙ before

pub none_seen : (names : List Name) (z : Seen) → length names ≡ 0 → z ≡ seen z (listed (parameters_from 0 names))
none_seen [] z none = sym (seen_none z)
none_seen (name ∷ names) z none = absurd (omega (arith, none))

apps_seen : (z new : Seen) (k n : ℕ) (a : AppDef) (apps : List AppDef) → n ≡ suc k → new ≡ seen z (app k a) → seen new (apps_from n apps) ≡ seen z (apps_from k (a ∷ apps))
apps_seen z new k n a apps is next = rw (next, is) (sym (seen_more z (app k a) (apps_from (suc k) apps)))

pub app_next : (apps : List AppDef) (i : ℕ) (a : AppDef) (z new whole : Seen) → i < length apps → a ≡ get_or apps i a → new ≡ seen z (app i a)
    → seen z (apps_from i (drop i apps)) ≡ whole → seen new (apps_from (i + 1) (drop (i + 1) apps)) ≡ whole
app_next apps i a z new whole short is next before =
    apps_seen z new i (i + 1) a (drop (i + 1) apps) (omega arith) next ∙ ap (λ l. seen z (apps_from i l)) (sym (next_drop apps i a short is)) ∙ before

pub apps_end : (apps : List AppDef) (i : ℕ) (z whole : Seen) → length apps ≤ i → seen z (apps_from i (drop i apps)) ≡ whole → z ≡ whole
apps_end apps i z whole end before = sym (ap (λ l. seen z (apps_from i l)) (drop_all i apps end) ∙ seen_none z) ∙ before
