-- Acts, one after another, by what they ask and give.
use Rattle.std.proofs.Common.{◌≡◌, Bool, true, false, if◌then◌else◌, List, [], ◌∷◌, ◌++◌, refl, subst}
use Rattle.std.specs.Prelude.{Contains}
use Rattle.std.proofs.lemmas.List.Elements.{Contains-append_right}
use Rattle.flow_base.specs.declared.outcome.Exception.{Exception}
use Rattle.flow_meaning.specs.declared.walk.Request.{Request}
use Rattle.flow_meaning.specs.declared.walk.Answer.{Answer}
use Rattle.flow_meaning.specs.Act.{Act, Give, Throw, Ask, ◌>>=◌, after}
use Rattle.flow_meaning.specs.Run.{Ran, Gave, Threw, Asked, run}
use Rattle.flow_meaning.specs.Inputs.{Path}
use Rattle.body_requests.specs.Asks.{Each, told_by, told_after, Asks}

-- ---- lists

pub each_map : {A : Type 0} (P Q : A → Type 0) → ((x : A) → P x → Q x) → (xs : List A) → Each P xs → Each Q xs
each_map P Q f [] h = tt
each_map P Q f (x ∷ xs) h = (f x h.0, each_map P Q f xs h.1)

pub each_append : {A : Type 0} (P : A → Type 0) (xs ys : List A) → Each P xs → Each P ys → Each P (xs ++ ys)
each_append P [] ys h k = k
each_append P (x ∷ xs) ys h k = (h.0, each_append P xs ys h.1 k)

pub each_parts : {A : Type 0} (P : A → Type 0) (xs ys : List A) → Each P (xs ++ ys) → Each P xs × Each P ys
each_parts P [] ys h = (tt, h)
each_parts P (x ∷ xs) ys h = let r = each_parts P xs ys h.1 in ((h.0, r.0), r.1)

pub each_any : {A : Type 0} (P : A → Type 0) → ((x : A) → P x) → (xs : List A) → Each P xs
each_any P f [] = tt
each_any P f (x ∷ xs) = (f x, each_any P f xs)

-- ---- paths that were told

abbrev pub Grown : List Path → List Path → Type 0
Grown ps qs = (p : Path) → Contains ps p → Contains qs p

pub grown_itself : (ps : List Path) → Grown ps ps
grown_itself ps p h = h

pub grown_front : (front ps : List Path) → Grown ps (front ++ ps)
grown_front front ps p h = Contains-append_right front ps p h

pub grown_further : (ps qs rs : List Path) → Grown ps qs → Grown qs rs → Grown ps rs
grown_further ps qs rs g h p k = h p (g p k)

-- a fact that more told paths don't take away
told_keeps : {A : Type 0} (P : List Path → A → Type 0) → ((qs : List Path) (r : Answer) (x : A) → P qs x → P (told_by r ++ qs) x) → (ps : List Path) (rs : List Answer) (x : A) → P ps x → P (told_after ps rs) x
told_keeps P grow ps [] x h = h
told_keeps P grow ps (r ∷ rs) x h = told_keeps P grow (told_by r ++ ps) rs x (grow ps r x h)

-- ---- acts that ask nothing

abbrev pub Gives : {A : Type 0} → (A → Type 0) → Act A → Type 0
Gives P (Give x) = P x
Gives P (Throw exception) = Unit {0}
Gives P (Ask request go) = ⊥

pub gives_then : {A B : Type 0} (P : A → Type 0) (Q : B → Type 0) (a : Act A) (f : A → Act B) → Gives P a → ((x : A) → P x → Gives Q (f x)) → Gives Q (a >>= f)
gives_then P Q (Give x) f h next = next x h
gives_then P Q (Throw exception) f h next = tt
gives_then P Q (Ask request go) f h next = absurd h

pub gives_more : {A : Type 0} (P Q : A → Type 0) (a : Act A) → ((x : A) → P x → Q x) → Gives P a → Gives Q a
gives_more P Q (Give x) f h = f x h
gives_more P Q (Throw exception) f h = tt
gives_more P Q (Ask request go) f h = h

pub gives_if : {A : Type 0} (P : A → Type 0) (b : Bool) (x : A) (exception : Exception) → (b ≡ true → P x) → Gives P (if b then Give x else Throw exception)
gives_if P true x exception h = h refl
gives_if P false x exception h = tt

-- ---- acts that ask

module _ (Fits : List Path → Request → Type 0) (Counts : Answer → Type 0) where
  pub asks_of_gives : {A : Type 0} (P : List Path → A → Type 0) (ps : List Path) (a : Act A) → Gives (P ps) a → Asks Fits Counts P ps a
  asks_of_gives P ps (Give x) h = h
  asks_of_gives P ps (Throw exception) h = tt
  asks_of_gives P ps (Ask request go) h = absurd h

  -- behind an act that asks nothing
  pub gives_asks : {A B : Type 0} (P : A → Type 0) (Q : List Path → B → Type 0) (ps : List Path) (a : Act A) (f : A → Act B) → Gives P a → ((x : A) → P x → Asks Fits Counts Q ps (f x)) → Asks Fits Counts Q ps (a >>= f)
  gives_asks P Q ps (Give x) f h next = next x h
  gives_asks P Q ps (Throw exception) f h next = tt
  gives_asks P Q ps (Ask request go) f h next = absurd h

  pub asks_then : {A B : Type 0} (P : List Path → A → Type 0) (Q : List Path → B → Type 0) (ps : List Path) (a : Act A) (f : A → Act B)
      → Asks Fits Counts P ps a → ((qs : List Path) → Grown ps qs → (x : A) → P qs x → Asks Fits Counts Q qs (f x)) → Asks Fits Counts Q ps (a >>= f)
  asks_then P Q ps (Give x) f h next = next ps (grown_itself ps) x h
  asks_then P Q ps (Throw exception) f h next = tt
  asks_then P Q ps (Ask request go) f h next =
      (h.0, λ r counts. asks_then P Q (told_by r ++ ps) (go r) f (h.1 r counts) (λ qs g x k. next qs (grown_further ps (told_by r ++ ps) qs (grown_front (told_by r) ps) g) x k))

  -- an act with a weaker fact of what it gives
  pub asks_less : {A : Type 0} (P Q : List Path → A → Type 0) (ps : List Path) (a : Act A) → ((qs : List Path) (x : A) → P qs x → Q qs x) → Asks Fits Counts P ps a → Asks Fits Counts Q ps a
  asks_less P Q ps (Give x) f h = f ps x h
  asks_less P Q ps (Throw exception) f h = tt
  asks_less P Q ps (Ask request go) f h = (h.0, λ r counts. asks_less P Q (told_by r ++ ps) (go r) f (h.1 r counts))

  -- ---- after answers

  pub asks_after : {A : Type 0} (P : List Path → A → Type 0) (ps : List Path) (a : Act A) (rs : List Answer) → ((qs : List Path) (r : Answer) (x : A) → P qs x → P (told_by r ++ qs) x) → Asks Fits Counts P ps a → Each Counts rs → Asks Fits Counts P (told_after ps rs) (after a rs)
  asks_after P ps a [] grow h k = h
  asks_after P ps (Give x) (r ∷ rs) grow h k = told_keeps P grow (told_by r ++ ps) rs x (grow ps r x h)
  asks_after P ps (Throw exception) (r ∷ rs) grow h k = tt
  asks_after P ps (Ask request go) (r ∷ rs) grow h k = asks_after P (told_by r ++ ps) (go r) rs grow (h.1 r k.0) k.1

  abbrev pub AsksRan : {A : Type 0} → (List Path → A → Type 0) → List Path → Ran A → Type 0
  AsksRan P ps (Gave x left) = Unit {0}
  AsksRan P ps (Threw exception) = Unit {0}
  AsksRan P ps (Asked request go) = Fits ps request × ((r : Answer) → Counts r → Asks Fits Counts P (told_by r ++ ps) (go r))

  pub asks_run : {A : Type 0} (P : List Path → A → Type 0) (ps : List Path) (a : Act A) (rs : List Answer) → Asks Fits Counts P ps a → Each Counts rs → AsksRan P (told_after ps rs) (run a rs)
  asks_run P ps (Give x) rs h k = tt
  asks_run P ps (Throw exception) rs h k = tt
  asks_run P ps (Ask request go) [] h k = h
  asks_run P ps (Ask request go) (r ∷ rs) h k = asks_run P (told_by r ++ ps) (go r) rs (h.1 r k.0) k.1

  -- what it gives behind answers
  pub asks_gave : {A : Type 0} (P : List Path → A → Type 0) (ps : List Path) (a : Act A) (rs left : List Answer) (x : A) → ((qs : List Path) (r : Answer) (y : A) → P qs y → P (told_by r ++ qs) y) → Asks Fits Counts P ps a → Each Counts rs → run a rs ≡ Gave x left → P (told_after ps rs) x
  asks_gave P ps (Give y) rs left x grow h k is = let same : y ≡ x = cc in told_keeps P grow ps rs x (subst (P ps) same h)
  asks_gave P ps (Throw exception) rs left x grow h k is = absurd (cc)
  asks_gave P ps (Ask request go) [] left x grow h k is = absurd (cc)
  asks_gave P ps (Ask request go) (r ∷ rs) left x grow h k is = asks_gave P (told_by r ++ ps) (go r) rs left x grow (h.1 r k.0) k.1 is
