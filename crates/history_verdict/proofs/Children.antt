-- The calls of joins that are still to be submitted.
use Rattle.std.proofs.Common.{◌≡◌, ℕ, suc, ◌≤◌, List, [], ◌∷◌, ◌++◌, length, length-append, Some, None, refl, sym, ◌∙◌, ap, arith, bytes_eq}
use Rattle.std.specs.Prelude.{IsTrue}
use Rattle.std.proofs.lemmas.Grind.{common_steps}
use Rattle.std.proofs.lemmas.Slice.Eq.{bytes_eq-Decides}
use Rattle.event_log.specs.declared.entry.Entry.{Entry}
use Rattle.flow_meaning.specs.Inputs.{Path}
use Rattle.call_rules.specs.Calls.{child}
use Rattle.history_laws.specs.declared.table.Table.{Table}
use Rattle.history_laws.specs.Reads.{History, due}
use Rattle.history_laws.specs.Laws.{IsFree, OwnStands, SettlingStands, follows, stands, calls_at}
use Rattle.history_laws.proofs.Dues.{due-path, due-count}
use Rattle.history_verdict.specs.Calls.{IsNextChild}

pub free_of_none : (z : Table) (b : History) → None ≡ due b → IsFree z b
free_of_none z b none = λ p k at. absurd (cc)

pub free_of_some : (z : Table) (b : History) (p : Path) (k : ℕ) → Some (p, k) ≡ due b → calls_at z p ≤ k → IsFree z b
free_of_some z b p k some few = λ q n at. rw (← due-path p q k n (some ∙ at)) (rw (← due-count p q k n (some ∙ at)) few)

pub some_of_free : (z : Table) (b : History) (p : Path) (k : ℕ) → Some (p, k) ≡ due b → IsFree z b → calls_at z p ≤ k
some_of_free z b p k some free = free p k (sym some)

pub ruleset free_rules = (free_of_none, free_of_some, some_of_free)

-- the path of a call is that of its caller with its number

head_same : (x y : ℕ) (xs ys : List ℕ) → x ∷ xs ≡ y ∷ ys → x ≡ y
head_same x y xs ys e = cc

tail_same : (x y : ℕ) (xs ys : List ℕ) → x ∷ xs ≡ y ∷ ys → xs ≡ ys
tail_same x y xs ys e = cc

front_same : (xs ys : List ℕ) (x y : ℕ) → xs ++ x ∷ [] ≡ ys ++ y ∷ [] → xs ≡ ys
front_same [] [] x y e = refl
front_same [] (z ∷ zs) x y e = let short = ap length e in let long = length-append zs (y ∷ []) in absurd (omega arith)
front_same (z ∷ zs) [] x y e = let short = ap length e in let long = length-append zs (x ∷ []) in absurd (omega arith)
front_same (v ∷ xs) (w ∷ ys) x y e = rw (head_same v w (xs ++ x ∷ []) (ys ++ y ∷ []) e, front_same xs ys x y (tail_same v w (xs ++ x ∷ []) (ys ++ y ∷ []) e)) refl

end_same : (xs ys : List ℕ) (x y : ℕ) → xs ++ x ∷ [] ≡ ys ++ y ∷ [] → x ≡ y
end_same [] [] x y e = head_same x y [] [] e
end_same [] (z ∷ zs) x y e = let short = ap length e in let long = length-append zs (y ∷ []) in absurd (omega arith)
end_same (z ∷ zs) [] x y e = let short = ap length e in let long = length-append zs (x ∷ []) in absurd (omega arith)
end_same (v ∷ xs) (w ∷ ys) x y e = end_same xs ys x y (tail_same v w (xs ++ x ∷ []) (ys ++ y ∷ []) e)

child_caller : (p front caller : Path) (n k : ℕ) → p ≡ front ++ n ∷ [] → p ≡ child caller k → front ≡ caller
child_caller p front caller n k is at = front_same front caller n (suc k) (sym is ∙ at)

pub child_number : (p front caller : Path) (n k : ℕ) → p ≡ front ++ n ∷ [] → p ≡ child caller k → n ≡ suc k
child_number p front caller n k is at = end_same front caller n (suc k) (sym is ∙ at)

pub child_not_empty : (p caller : Path) (k : ℕ) → p ≡ [] → p ≡ child caller k → ⊥
child_not_empty p caller k none at = let long = length-append caller (suc k ∷ []) in let same = ap length (sym none ∙ at) in absurd (omega arith)

same_front : (front other : List ℕ) → IsTrue (bytes_eq front other) → front ≡ other
same_front front other t = grind (arith, common_steps, bytes_eq-Decides)

front_itself : (front other : List ℕ) → front ≡ other → IsTrue (bytes_eq front other)
front_itself front other e = grind (arith, common_steps, bytes_eq-Decides)

pub path_of_child : (p front caller : Path) (n k : ℕ) → p ≡ front ++ n ∷ [] → n ≡ suc k → IsTrue (bytes_eq front caller) → p ≡ child caller k
path_of_child p front caller n k is number t = is ∙ ap (λ (m : ℕ). front ++ m ∷ []) number ∙ ap (λ (q : Path). child q k) (same_front front caller t)

pub same_caller : (p front caller : Path) (n k : ℕ) → p ≡ front ++ n ∷ [] → p ≡ child caller k → IsTrue (bytes_eq front caller)
same_caller p front caller n k is at = front_itself front caller (child_caller p front caller n k is at)

pub ruleset child_rules = (child_number, child_not_empty)

-- the law by its two cases

pub settling_of_child : (z : Table) (b : History) (e : Entry) → IsNextChild z b e → SettlingStands z b e
settling_of_child z b e next = follows next.caller next.count next.stands

pub settling_of_own : (z : Table) (b : History) (e : Entry) → IsFree z b → OwnStands z b e → SettlingStands z b e
settling_of_own z b e free own = stands free own

pub own_of_settling : (z : Table) (b : History) (e : Entry) → (IsNextChild z b e → ⊥) → SettlingStands z b e → IsFree z b × OwnStands z b e
own_of_settling z b e not (follows caller k child) = absurd (not (record { caller = caller; count = k; stands = child }))
own_of_settling z b e not (stands free own) = (free, own)

pub ruleset settling_rules = (settling_of_child, settling_of_own, own_of_settling)
