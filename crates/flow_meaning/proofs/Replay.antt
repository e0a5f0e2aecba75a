-- One meaning for three users: an act after the answers so far is what a walk has left, and performing an act
-- is walking it with each request answered in turn.
use Rattle.std.proofs.Common.{◌≡◌, List, [], ◌∷◌, ◌++◌, refl, sym, ap, ◌∙◌}
use Rattle.flow_base.specs.declared.outcome.Exception.{Exception}
use Rattle.flow_meaning.specs.declared.walk.Request.{Request}
use Rattle.flow_meaning.specs.declared.walk.Answer.{Answer}
use Rattle.flow_meaning.specs.declared.walk.Answer.TheVariants.{Called, Outcome, Go}
use Rattle.flow_meaning.specs.Act.{Act, Give, Throw, Ask, after, ◌>>=◌}
use Rattle.flow_meaning.specs.Sequential.{perform}

after-Give : {A : Type 0} (x : A) (rs : List Answer) → after (Give x) rs ≡ Give x
after-Give x [] = refl
after-Give x (Called v ∷ rs) = refl
after-Give x (Outcome o ∷ rs) = refl
after-Give x (Go ∷ rs) = refl

after-Throw : {A : Type 0} (x : Exception) (rs : List Answer) → (let a : Act A = Throw x in after a rs ≡ a)
after-Throw x [] = refl
after-Throw x (Called v ∷ rs) = refl
after-Throw x (Outcome o ∷ rs) = refl
after-Throw x (Go ∷ rs) = refl

-- more answers are the answers to what is left
pub after-append : {A : Type 0} (a : Act A) (rs more : List Answer) → after a (rs ++ more) ≡ after (after a rs) more
after-append a [] more = refl
after-append (Give x) (r ∷ rs) more = after-Give x (r ∷ rs ++ more) ∙ sym (ap (λ b. after b more) (after-Give x (r ∷ rs)) ∙ after-Give x more)
after-append (Throw x) (r ∷ rs) more = after-Throw x (r ∷ rs ++ more) ∙ sym (ap (λ b. after b more) (after-Throw x (r ∷ rs)) ∙ after-Throw x more)
after-append (Ask w go) (Called v ∷ rs) more = after-append (go (Called v)) rs more
after-append (Ask w go) (Outcome o ∷ rs) more = after-append (go (Outcome o)) rs more
after-append (Ask w go) (Go ∷ rs) more = after-append (go Go) rs more

-- the step of a loop that performs an act by resuming a walk
pub perform-Ask : {A S : Type 0} (answer : Request → S → Answer × S) (w : Request) (go : Answer → Act A) (s : S) → perform answer (Ask w go) s ≡ perform answer (go (answer w s).0) (answer w s).1
perform-Ask answer w go s = refl

-- what comes behind a part of a body comes behind each of its ends
pub bind_assoc : {A B C : Type 0} (a : Act A) (f : A → Act B) (g : B → Act C) → ((a >>= f) >>= g) ≡ (a >>= λ x. f x >>= g)
bind_assoc (Give x) f g = refl
bind_assoc (Throw x) f g = refl
bind_assoc (Ask w go) f g = λ i. Ask w (λ r. bind_assoc (go r) f g i)
