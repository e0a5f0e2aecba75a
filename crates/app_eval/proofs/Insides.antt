-- What is left of a step at a place, by the kinds of steps and of places.
use Rattle.std.proofs.Common.{◌≡◌, ℕ, zero, suc, if◌then◌else◌, List, [], ◌∷◌, drop, slice_get, Option, Some, None, refl, ap, ◌∙◌, arith}
use Rattle.std.proofs.lemmas.Grind.{common_steps}
use Rattle.flow_base.specs.declared.value.Value.{Value}
use Rattle.flow_meaning.specs.Act.{◌>>=◌}
use Rattle.flow_meaning.specs.Operators.{Text, list_of, truth_of}
use Rattle.body_program.specs.declared.code.Code.{Code}
use Rattle.body_program.specs.declared.code.Simple.{Simple}
use Rattle.body_program.specs.declared.code.Step.{Step, out-Step, out-roll-Step, fold-roll-Step}
use Rattle.body_program.specs.declared.code.Step.TheOpen.{Step-F}
use Rattle.body_program.specs.declared.code.Step.TheVariants as t
use Rattle.body_program.specs.declared.code.Step.TheVariants.{rolls-Simple, rolls-While, rolls-For, rolls-If}
use Rattle.body_program.specs.Meaning.{Store, code_value, each_turn, repeated, simple_does, step_does, steps_do}
use Rattle.app_eval.specs.declared.position.InnerPosition.{InnerPosition, fold-roll-InnerPosition}
use Rattle.app_eval.specs.declared.position.InnerPosition.TheVariants as i
use Rattle.app_eval.specs.declared.position.InnerPosition.TheVariants.{rolls-Then, rolls-Otherwise, rolls-Iteration, rolls-Item}
use Rattle.app_eval.specs.Does.{inside_does, steps_at, turns_at, items_at, then_left, otherwise_left, turn_left, item_left, insides}

-- ---- steps

pub while_does : (names : List Text) (e : Code) (body : List Step) (s : Store) → step_does names (t.While e body) s ≡ repeated e (steps_do names body) s
unfolding step_does
while_does names e body s = rw (← rolls-While e body, fold-roll-Step) refl

pub for_does : (names : List Text) (k : ℕ) (e : Code) (body : List Step) (s : Store) → step_does names (t.For k e body) s ≡ (code_value s.slots e >>= list_of >>= λ items. each_turn k (steps_do names body) items s)
unfolding step_does
for_does names k e body s = rw (← rolls-For k e body, fold-roll-Step) refl

pub if_does : (names : List Text) (e : Code) (steps others : List Step) (s : Store) → step_does names (t.If e steps others) s ≡ (code_value s.slots e >>= truth_of >>= λ holds. (if holds then steps_do names steps else steps_do names others) s)
unfolding step_does
if_does names e steps others s = rw (← rolls-If e steps others, fold-roll-Step) refl

-- a statement without blocks
pub simple_does_it : (names : List Text) (x : Simple) (s : Store) → step_does names (t.Simple x) s ≡ simple_does names x s
unfolding step_does
simple_does_it names x s = rw (← rolls-Simple x, fold-roll-Step) refl

-- ---- places

inside_then : (names : List Text) (k : ℕ) (inside : Option InnerPosition) (step : Step) (s : Store) → inside_does names (i.Then k inside) step s ≡ then_left names (out-Step step) k (insides names inside) s
unfolding inside_does
inside_then names k None step s = rw (← rolls-Then k None, fold-roll-InnerPosition) refl
inside_then names k (Some inside) step s = rw (← rolls-Then k (Some inside), fold-roll-InnerPosition) refl

inside_otherwise : (names : List Text) (k : ℕ) (inside : Option InnerPosition) (step : Step) (s : Store) → inside_does names (i.Otherwise k inside) step s ≡ otherwise_left names (out-Step step) k (insides names inside) s
unfolding inside_does
inside_otherwise names k None step s = rw (← rolls-Otherwise k None, fold-roll-InnerPosition) refl
inside_otherwise names k (Some inside) step s = rw (← rolls-Otherwise k (Some inside), fold-roll-InnerPosition) refl

inside_turn : (names : List Text) (k : ℕ) (inside : Option InnerPosition) (step : Step) (s : Store) → inside_does names (i.Iteration k inside) step s ≡ turn_left names (out-Step step) k (insides names inside) s
unfolding inside_does
inside_turn names k None step s = rw (← rolls-Iteration k None, fold-roll-InnerPosition) refl
inside_turn names k (Some inside) step s = rw (← rolls-Iteration k (Some inside), fold-roll-InnerPosition) refl

inside_item : (names : List Text) (items : List Value) (next k : ℕ) (inside : Option InnerPosition) (step : Step) (s : Store) → inside_does names (i.Item items next k inside) step s ≡ item_left names (out-Step step) (drop next items) k (insides names inside) s
unfolding inside_does
inside_item names items next k None step s = rw (← rolls-Item items next k None, fold-roll-InnerPosition) refl
inside_item names items next k (Some inside) step s = rw (← rolls-Item items next k (Some inside), fold-roll-InnerPosition) refl

pub out_while : (e : Code) (body : List Step) → out-Step (t.While e body) ≡ Step-F.While e body
out_while e body = rw (← rolls-While e body) (out-roll-Step (Step-F.While e body))

pub out_for : (k : ℕ) (e : Code) (body : List Step) → out-Step (t.For k e body) ≡ Step-F.For k e body
out_for k e body = rw (← rolls-For k e body) (out-roll-Step (Step-F.For k e body))

pub out_if : (e : Code) (steps others : List Step) → out-Step (t.If e steps others) ≡ Step-F.If e steps others
out_if e steps others = rw (← rolls-If e steps others) (out-roll-Step (Step-F.If e steps others))

pub then_does : (names : List Text) (k : ℕ) (inside : Option InnerPosition) (e : Code) (steps others : List Step) (s : Store) → inside_does names (i.Then k inside) (t.If e steps others) s ≡ steps_at names steps k inside s
then_does names k inside e steps others s = inside_then names k inside (t.If e steps others) s ∙ ap (λ (x : Step-F Step). then_left names x k (insides names inside) s) (out_if e steps others)

pub otherwise_does : (names : List Text) (k : ℕ) (inside : Option InnerPosition) (e : Code) (steps others : List Step) (s : Store) → inside_does names (i.Otherwise k inside) (t.If e steps others) s ≡ steps_at names others k inside s
otherwise_does names k inside e steps others s = inside_otherwise names k inside (t.If e steps others) s ∙ ap (λ (x : Step-F Step). otherwise_left names x k (insides names inside) s) (out_if e steps others)

pub turn_does : (names : List Text) (k : ℕ) (inside : Option InnerPosition) (e : Code) (body : List Step) (s : Store) → inside_does names (i.Iteration k inside) (t.While e body) s ≡ turns_at names e body k inside s
turn_does names k inside e body s = inside_turn names k inside (t.While e body) s ∙ ap (λ (x : Step-F Step). turn_left names x k (insides names inside) s) (out_while e body)

pub item_does : (names : List Text) (items : List Value) (next k : ℕ) (inside : Option InnerPosition) (slot : ℕ) (e : Code) (body : List Step) (s : Store) → inside_does names (i.Item items next k inside) (t.For slot e body) s ≡ items_at names slot body (drop next items) k inside s
item_does names items next k inside slot e body s = inside_item names items next k inside (t.For slot e body) s ∙ ap (λ (x : Step-F Step). item_left names x (drop next items) k (insides names inside) s) (out_for slot e body)

-- ---- blocks

pub nothing_behind : {A : Type 0} (xs : List A) (k : ℕ) → slice_get xs k ≡ None → drop (suc k) xs ≡ []
nothing_behind [] k h = refl
nothing_behind (x ∷ xs) zero h = absurd (cc)
nothing_behind (x ∷ xs) (suc k) h = nothing_behind xs k h

pub dropped_at : {A : Type 0} (xs : List A) (k : ℕ) (x : A) → slice_get xs k ≡ Some x → drop k xs ≡ x ∷ drop (suc k) xs
dropped_at [] k x h = absurd (cc)
dropped_at (y ∷ ys) zero x h = let e : y ≡ x = cc in ap (λ z. z ∷ ys) e
dropped_at (y ∷ ys) (suc k) x h = dropped_at ys k x h

pub dropped_end : {A : Type 0} (xs : List A) (k : ℕ) → slice_get xs k ≡ None → drop k xs ≡ []
dropped_end [] k h = grind (arith, common_steps)
dropped_end (x ∷ xs) zero h = absurd (cc)
dropped_end (x ∷ xs) (suc k) h = dropped_end xs k h

pub ruleset simple_steps = (simple_does_it)

pub ruleset place_rules = (simple_does_it, while_does, for_does, if_does, then_does, otherwise_does, turn_does, item_does, nothing_behind, dropped_at, dropped_end)
