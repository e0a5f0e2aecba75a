-- The visible names in one list, against the rules' list for each open block.
use Rattle.std.proofs.Common.{◌≡◌, ℕ, ◌≤◌, Bool, true, false, ◌||◌, List, [], ◌∷◌, ◌++◌, length, take, drop, fold, if◌then◌else◌, bytes_eq, refl, sym, ap, ◌∙◌, subst, append-nil, append_assoc, length-append, arith}
use Rattle.std.specs.List.{list_any}
use Rattle.std.proofs.Math.Bool.{or-false, or_assoc, or_comm}
use Rattle.std.proofs.Math.Seq.{take-append_seam}
use Rattle.std.proofs.lemmas.List.{take-append-le}
use Rattle.std.proofs.lemmas.List.Folds.{list_any-append}
use Rattle.std.proofs.lemmas.Slice.Eq.{bytes_eq-Decides}
use Rattle.script_tree.specs.Marks.{Name, Mark, Opens, Closes, MakesVisible, Takes, Defines, Main}
use Rattle.script_tree.specs.Rules as rules
use Rattle.app_index.specs.Names.{is_among, with_name}
use Rattle.app_check.specs.Seeing.{Seen, innermost, behind}

-- ---- more names

-- longer by what comes behind
pub record IsLonger (names all : List Name) : Type 0 where
  pub more : List Name
  pub is : all ≡ names ++ more

longer_same : (names : List Name) → IsLonger names names
longer_same names = record { more = []; is = sym (append-nil names) }

longer_on : (names all whole : List Name) → IsLonger names all → IsLonger all whole → IsLonger names whole
longer_on names all whole h k = record { more = h.more ++ k.more; is = k.is ∙ (ap (λ z. z ++ k.more) h.is ∙ append_assoc names h.more k.more) }

with_name_longer-by : (names : List Name) (name : Name) (b : Bool) → IsLonger names (if b then names else names ++ name ∷ [])
with_name_longer-by names name true = longer_same names
with_name_longer-by names name false = record { more = name ∷ []; is = refl }

pub with_name_longer : (names : List Name) (name : Name) → IsLonger names (with_name names name)
with_name_longer names name = with_name_longer-by names name (is_among names name)

pub with_names_longer : (names more : List Name) → IsLonger names (fold with_name names more)
with_names_longer names [] = longer_same names
with_names_longer names (n ∷ ns) = longer_on names (with_name names n) _ (with_name_longer names n) (with_names_longer (with_name names n) ns)

longer_length : (names all : List Name) → IsLonger names all → length names ≤ length all
longer_length names all h = omega (arith, ap length h.is, length-append names h.more)

longer_take : (n : ℕ) (names all : List Name) → n ≤ length names → IsLonger names all → take n all ≡ take n names
longer_take n names all le h = ap (take n) h.is ∙ take-append-le n names h.more le

longer_front : (names all : List Name) → IsLonger names all → take (length names) all ≡ names
longer_front names all h = ap (take (length names)) h.is ∙ take-append_seam names h.more

-- ---- what is among them

among_twice-by : (names : List Name) (name x : Name) (c : Bool) → is_among names name ≡ true → bytes_eq x name ≡ c → is_among names x ≡ (is_among names x || c)
among_twice-by names name x false there same = sym (or-false (is_among names x))
among_twice-by names name x true there same =
    let e : x ≡ name = (bytes_eq-Decides x name).0 same in
    let h : is_among names x ≡ true = ap (is_among names) e ∙ there in
    h ∙ sym (ap (λ b. b || true) h)

among_with-by : (names : List Name) (name x : Name) (b : Bool) → is_among names name ≡ b → is_among (if b then names else names ++ name ∷ []) x ≡ (is_among names x || bytes_eq x name)
among_with-by names name x true there = among_twice-by names name x (bytes_eq x name) there refl
among_with-by names name x false there = list_any-append (bytes_eq x) names (name ∷ []) ∙ ap (λ b. is_among names x || b) (or-false (bytes_eq x name))

pub among_with : (names : List Name) (name x : Name) → is_among (with_name names name) x ≡ (is_among names x || bytes_eq x name)
among_with names name x = among_with-by names name x (is_among names name) refl

pub among_with_all : (names more : List Name) (x : Name) → is_among (fold with_name names more) x ≡ (is_among names x || is_among more x)
among_with_all names [] x = sym (or-false (is_among names x))
among_with_all names (n ∷ ns) x =
    among_with_all (with_name names n) ns x
    ∙ (ap (λ b. b || is_among ns x) (among_with names n x) ∙ or_assoc (is_among names x) (bytes_eq x n) (is_among ns x))

-- ---- the blocks

abbrev pub is_shown : List (List Name) → Name → Bool
is_shown scopes x = list_any (list_any (bytes_eq x)) scopes

abbrev pub Agree : List (List Name) → List Name → Type 0
Agree scopes names = (x : Name) → is_shown scopes x ≡ is_among names x

-- the names of the rules' blocks are the visible names, and where a block began those of the blocks around it
abbrev pub Fits : List (List Name) → List Name → List ℕ → Type 0
Fits [] names [] = names ≡ []
Fits (s ∷ []) names [] = Agree (s ∷ []) names
Fits (s ∷ t ∷ ss) names [] = ⊥
Fits [] names (n ∷ ns) = ⊥
Fits (s ∷ ss) names (n ∷ ns) = Agree (s ∷ ss) names × (n ≤ length names) × Fits ss (take n names) ns

pub agree : (scopes : List (List Name)) (names : List Name) (outer : List ℕ) → Fits scopes names outer → Agree scopes names
agree [] names [] h = λ x. ap (λ z. is_among z x) (sym h)
agree (s ∷ []) names [] h = h
agree (s ∷ t ∷ ss) names [] h = absurd h
agree [] names (n ∷ ns) h = absurd h
agree (s ∷ ss) names (n ∷ ns) h = h.0

agree_opened : (scopes : List (List Name)) (names more : List Name) → Agree scopes names → Agree (more ∷ scopes) (fold with_name names more)
agree_opened scopes names more h x = or_comm (is_among more x) (is_shown scopes x) ∙ (ap (λ b. b || is_among more x) (h x) ∙ sym (among_with_all names more x))

agree_shown : (s : List Name) (ss : List (List Name)) (names : List Name) (name : Name) → Agree (s ∷ ss) names → Agree ((name ∷ s) ∷ ss) (with_name names name)
agree_shown s ss names name h x =
    or_assoc (bytes_eq x name) (is_among s x) (is_shown ss x)
    ∙ (or_comm (bytes_eq x name) (is_shown (s ∷ ss) x) ∙ (ap (λ b. b || bytes_eq x name) (h x) ∙ sym (among_with names name x)))

fits_opened : (scopes : List (List Name)) (names more : List Name) (outer : List ℕ) → Fits scopes names outer → Fits (more ∷ scopes) (fold with_name names more) (length names ∷ outer)
fits_opened scopes names more outer h =
    let longer : IsLonger names (fold with_name names more) = with_names_longer names more in
    (agree_opened scopes names more (agree scopes names outer h), longer_length names _ longer, subst (λ z. Fits scopes z outer) (sym (longer_front names _ longer)) h)

fits_closed : (scopes : List (List Name)) (names : List Name) (outer : List ℕ) → Fits scopes names outer → Fits (rules.inner_closed scopes) (take (innermost outer) names) (drop 1 outer)
fits_closed [] names [] h = refl
fits_closed (s ∷ []) names [] h = refl
fits_closed (s ∷ t ∷ ss) names [] h = absurd h
fits_closed [] names (n ∷ ns) h = absurd h
fits_closed (s ∷ ss) names (n ∷ ns) h = h.2

fits_shown : (scopes : List (List Name)) (names : List Name) (outer : List ℕ) (name : Name) → Fits scopes names outer → Fits (rules.shown name scopes) (with_name names name) outer
fits_shown [] names [] name h =
    let none : Agree ((name ∷ []) ∷ []) (with_name [] name) = λ x. or-false (is_among (name ∷ []) x) in
    subst (λ z. Agree ((name ∷ []) ∷ []) (with_name z name)) (sym h) none
fits_shown (s ∷ []) names [] name h = agree_shown s [] names name h
fits_shown (s ∷ t ∷ ss) names [] name h = absurd h
fits_shown [] names (n ∷ ns) name h = absurd h
fits_shown (s ∷ ss) names (n ∷ ns) name h =
    let longer : IsLonger names (with_name names name) = with_name_longer names name in
    let le : n ≤ length (with_name names name) = omega (arith, h.1, longer_length names _ longer) in
    (agree_shown s ss names name h.0, le, subst (λ z. Fits ss z ns) (sym (longer_take n names _ h.1 longer)) h.2)

-- each mark keeps it
pub fits_behind : (m : Mark) (s : rules.State) (z : Seen) → Fits s.scopes z.visible z.outer → Fits (rules.behind m s).scopes (behind m z).visible (behind m z).outer
fits_behind (Opens names) s z h = fits_opened s.scopes z.visible names z.outer h
fits_behind Closes s z h = fits_closed s.scopes z.visible z.outer h
fits_behind (MakesVisible name) s z h = fits_shown s.scopes z.visible z.outer name h
fits_behind (Takes k name) s z h = fits_shown s.scopes z.visible z.outer name h
fits_behind (Defines k a) s z h = λ x. refl
fits_behind Main s z h = refl
fits_behind _ s z h = h

pub body_behind : (m : Mark) (s : rules.State) (z : Seen) → s.body ≡ z.body → (rules.behind m s).body ≡ (behind m z).body
body_behind (Defines k a) s z h = refl
body_behind Main s z h = refl
body_behind (Opens names) s z h = h
body_behind Closes s z h = h
body_behind (MakesVisible name) s z h = h
body_behind (Takes k name) s z h = h
body_behind _ s z h = h
