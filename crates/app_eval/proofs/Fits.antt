-- Places that steps have. A run that asks leaves no other.
use Rattle.std.proofs.Common.{◌≡◌, ℕ, suc, Bool, true, false, List, drop, slice_get, Option, Some, None, refl, ap, sym, ◌∙◌, subst}
use Rattle.flow_base.specs.declared.value.Value.{Value}
use Rattle.flow_meaning.specs.declared.walk.Answer.{Answer}
use Rattle.flow_meaning.specs.declared.walk.Request.{Request}
use Rattle.flow_meaning.specs.Act.{Act, Give, ◌>>=◌}
use Rattle.flow_meaning.specs.Operators.{Text}
use Rattle.flow_meaning.specs.Run.{Ran, run, request_of}
use Rattle.body_program.specs.declared.code.Code.{Code}
use Rattle.body_program.specs.declared.code.Step.{Step, out-Step, roll-Step, roll-out-Step}
use Rattle.body_program.specs.declared.code.Step.TheOpen.{Step-F}
use Rattle.body_program.specs.declared.code.Step.TheVariants as t
use Rattle.body_program.specs.declared.code.Step.TheVariants.{rolls-While, rolls-For, rolls-If}
use Rattle.body_program.specs.Meaning.{Store, Flow, Goes, and_then, each_turn, repeated, steps_do}
use Rattle.app_eval.specs.declared.position.Position.{Position}
use Rattle.app_eval.specs.declared.position.InnerPosition.{InnerPosition, roll-InnerPosition, map-InnerPosition, fold-roll-InnerPosition, ind-InnerPosition}
use Rattle.app_eval.specs.declared.position.InnerPosition.TheOpen.{InnerPosition-F}
use Rattle.app_eval.specs.declared.position.InnerPosition.TheVariants as i
use Rattle.app_eval.specs.declared.position.InnerPosition.TheVariants.{rolls-Then, rolls-Otherwise, rolls-Iteration, rolls-Item}
use Rattle.app_eval.specs.Does.{Left, block_left, inside_does, inside_step, item_left, left_at, nowhere, otherwise_left, steps_at, then_left, turn_left}
use Rattle.app_eval.specs.Positions.{Fit, block_fits, fits_at, fits_inside, inside_fits, insides_fit, item_fits, otherwise_fits, step_fits, steps_fit, then_fits, turn_fits}
use Rattle.app_eval.proofs.Insides.{nothing_behind, out_if, out_for, out_while}

-- ---- kinds of places

inside_then : (k : ℕ) (inside : Option InnerPosition) (step : Step) → inside_fits (i.Then k inside) step ≡ then_fits (out-Step step) k (insides_fit inside)
unfolding inside_fits
inside_then k None step = rw (← rolls-Then k None, fold-roll-InnerPosition) refl
inside_then k (Some inside) step = rw (← rolls-Then k (Some inside), fold-roll-InnerPosition) refl

inside_otherwise : (k : ℕ) (inside : Option InnerPosition) (step : Step) → inside_fits (i.Otherwise k inside) step ≡ otherwise_fits (out-Step step) k (insides_fit inside)
unfolding inside_fits
inside_otherwise k None step = rw (← rolls-Otherwise k None, fold-roll-InnerPosition) refl
inside_otherwise k (Some inside) step = rw (← rolls-Otherwise k (Some inside), fold-roll-InnerPosition) refl

inside_turn : (k : ℕ) (inside : Option InnerPosition) (step : Step) → inside_fits (i.Iteration k inside) step ≡ turn_fits (out-Step step) k (insides_fit inside)
unfolding inside_fits
inside_turn k None step = rw (← rolls-Iteration k None, fold-roll-InnerPosition) refl
inside_turn k (Some inside) step = rw (← rolls-Iteration k (Some inside), fold-roll-InnerPosition) refl

inside_item : (items : List Value) (next k : ℕ) (inside : Option InnerPosition) (step : Step) → inside_fits (i.Item items next k inside) step ≡ item_fits (out-Step step) k (insides_fit inside)
unfolding inside_fits
inside_item items next k None step = rw (← rolls-Item items next k None, fold-roll-InnerPosition) refl
inside_item items next k (Some inside) step = rw (← rolls-Item items next k (Some inside), fold-roll-InnerPosition) refl

pub fits_then : (k : ℕ) (inside : Option InnerPosition) (e : Code) (steps others : List Step) → inside_fits (i.Then k inside) (t.If e steps others) ≡ block_fits steps k (insides_fit inside)
fits_then k inside e steps others = inside_then k inside (t.If e steps others) ∙ ap (λ (x : Step-F Step). then_fits x k (insides_fit inside)) (out_if e steps others)

pub fits_otherwise : (k : ℕ) (inside : Option InnerPosition) (e : Code) (steps others : List Step) → inside_fits (i.Otherwise k inside) (t.If e steps others) ≡ block_fits others k (insides_fit inside)
fits_otherwise k inside e steps others = inside_otherwise k inside (t.If e steps others) ∙ ap (λ (x : Step-F Step). otherwise_fits x k (insides_fit inside)) (out_if e steps others)

pub fits_turn : (k : ℕ) (inside : Option InnerPosition) (e : Code) (body : List Step) → inside_fits (i.Iteration k inside) (t.While e body) ≡ block_fits body k (insides_fit inside)
fits_turn k inside e body = inside_turn k inside (t.While e body) ∙ ap (λ (x : Step-F Step). turn_fits x k (insides_fit inside)) (out_while e body)

pub fits_item : (items : List Value) (next k : ℕ) (inside : Option InnerPosition) (slot : ℕ) (e : Code) (body : List Step) → inside_fits (i.Item items next k inside) (t.For slot e body) ≡ block_fits body k (insides_fit inside)
fits_item items next k inside slot e body = inside_item items next k inside (t.For slot e body) ∙ ap (λ (x : Step-F Step). item_fits x k (insides_fit inside)) (out_for slot e body)

pub then_has : (at : InnerPosition) (step : Step) (k : ℕ) (inside : Option InnerPosition) (e : Code) (steps others part : List Step) → at ≡ i.Then k inside → step ≡ t.If e steps others → part ≡ steps → inside_fits at step ≡ true → steps_fit part (record { step = k; inside = inside }) ≡ true
then_has at step k inside e steps others part is which same fits = rw same (sym (fits_then k inside e steps others) ∙ rw (is, which) at fits)

pub otherwise_has : (at : InnerPosition) (step : Step) (k : ℕ) (inside : Option InnerPosition) (e : Code) (steps others part : List Step) → at ≡ i.Otherwise k inside → step ≡ t.If e steps others → part ≡ others → inside_fits at step ≡ true → steps_fit part (record { step = k; inside = inside }) ≡ true
otherwise_has at step k inside e steps others part is which same fits = rw same (sym (fits_otherwise k inside e steps others) ∙ rw (is, which) at fits)

pub turn_has : (at : InnerPosition) (step : Step) (k : ℕ) (inside : Option InnerPosition) (e : Code) (body part : List Step) → at ≡ i.Iteration k inside → step ≡ t.While e body → part ≡ body → inside_fits at step ≡ true → steps_fit part (record { step = k; inside = inside }) ≡ true
turn_has at step k inside e body part is which same fits = rw same (sym (fits_turn k inside e body) ∙ rw (is, which) at fits)

pub item_has : (at : InnerPosition) (step : Step) (items : List Value) (next k : ℕ) (inside : Option InnerPosition) (slot : ℕ) (e : Code) (body part : List Step) → at ≡ i.Item items next k inside → step ≡ t.For slot e body → part ≡ body → inside_fits at step ≡ true → steps_fit part (record { step = k; inside = inside }) ≡ true
item_has at step items next k inside slot e body part is which same fits = rw same (sym (fits_item items next k inside slot e body) ∙ rw (is, which) at fits)

-- ---- they stand in no other step

abbrev pub IsIf : Step → Type 0
IsIf step = (e : Code) × (steps : List Step) × (others : List Step) × (step ≡ t.If e steps others)

abbrev pub IsWhile : Step → Type 0
IsWhile step = (e : Code) × (body : List Step) × (step ≡ t.While e body)

abbrev pub IsFor : Step → Type 0
IsFor step = (slot : ℕ) × (e : Code) × (body : List Step) × (step ≡ t.For slot e body)

if_of : (step : Step) (e : Code) (steps others : List Step) → out-Step step ≡ Step-F.If e steps others → step ≡ t.If e steps others
if_of step e steps others h = sym (roll-out-Step step) ∙ ap roll-Step h ∙ rolls-If e steps others

while_of : (step : Step) (e : Code) (body : List Step) → out-Step step ≡ Step-F.While e body → step ≡ t.While e body
while_of step e body h = sym (roll-out-Step step) ∙ ap roll-Step h ∙ rolls-While e body

for_of : (step : Step) (slot : ℕ) (e : Code) (body : List Step) → out-Step step ≡ Step-F.For slot e body → step ≡ t.For slot e body
for_of step slot e body h = sym (roll-out-Step step) ∙ ap roll-Step h ∙ rolls-For slot e body

then_other : (step : Step) (x : Step-F Step) (k : ℕ) (inside : Option Fit) → out-Step step ≡ x → (IsIf step → ⊥) → then_fits x k inside ≡ true → ⊥
then_other step (Step-F.If e steps others) k inside h other fits = other (e, steps, others, if_of step e steps others h)
then_other step (Step-F.Simple x) k inside h other fits = cc
then_other step (Step-F.While e body) k inside h other fits = cc
then_other step (Step-F.For slot e body) k inside h other fits = cc

otherwise_other : (step : Step) (x : Step-F Step) (k : ℕ) (inside : Option Fit) → out-Step step ≡ x → (IsIf step → ⊥) → otherwise_fits x k inside ≡ true → ⊥
otherwise_other step (Step-F.If e steps others) k inside h other fits = other (e, steps, others, if_of step e steps others h)
otherwise_other step (Step-F.Simple x) k inside h other fits = cc
otherwise_other step (Step-F.While e body) k inside h other fits = cc
otherwise_other step (Step-F.For slot e body) k inside h other fits = cc

turn_other : (step : Step) (x : Step-F Step) (k : ℕ) (inside : Option Fit) → out-Step step ≡ x → (IsWhile step → ⊥) → turn_fits x k inside ≡ true → ⊥
turn_other step (Step-F.While e body) k inside h other fits = other (e, body, while_of step e body h)
turn_other step (Step-F.Simple x) k inside h other fits = cc
turn_other step (Step-F.If e steps others) k inside h other fits = cc
turn_other step (Step-F.For slot e body) k inside h other fits = cc

item_other : (step : Step) (x : Step-F Step) (k : ℕ) (inside : Option Fit) → out-Step step ≡ x → (IsFor step → ⊥) → item_fits x k inside ≡ true → ⊥
item_other step (Step-F.For slot e body) k inside h other fits = other (slot, e, body, for_of step slot e body h)
item_other step (Step-F.Simple x) k inside h other fits = cc
item_other step (Step-F.If e steps others) k inside h other fits = cc
item_other step (Step-F.While e body) k inside h other fits = cc

pub then_elsewhere : (at : InnerPosition) (k : ℕ) (inside : Option InnerPosition) (step : Step) → at ≡ i.Then k inside → (IsIf step → ⊥) → inside_fits at step ≡ true → ⊥
then_elsewhere at k inside step is other fits = then_other step (out-Step step) k (insides_fit inside) refl other (sym (inside_then k inside step) ∙ rw is at fits)

pub otherwise_elsewhere : (at : InnerPosition) (k : ℕ) (inside : Option InnerPosition) (step : Step) → at ≡ i.Otherwise k inside → (IsIf step → ⊥) → inside_fits at step ≡ true → ⊥
otherwise_elsewhere at k inside step is other fits = otherwise_other step (out-Step step) k (insides_fit inside) refl other (sym (inside_otherwise k inside step) ∙ rw is at fits)

pub turn_elsewhere : (at : InnerPosition) (k : ℕ) (inside : Option InnerPosition) (step : Step) → at ≡ i.Iteration k inside → (IsWhile step → ⊥) → inside_fits at step ≡ true → ⊥
turn_elsewhere at k inside step is other fits = turn_other step (out-Step step) k (insides_fit inside) refl other (sym (inside_turn k inside step) ∙ rw is at fits)

pub item_elsewhere : (at : InnerPosition) (items : List Value) (next k : ℕ) (inside : Option InnerPosition) (step : Step) → at ≡ i.Item items next k inside → (IsFor step → ⊥) → inside_fits at step ≡ true → ⊥
item_elsewhere at items next k inside step is other fits = item_other step (out-Step step) k (insides_fit inside) refl other (sym (inside_item items next k inside step) ∙ rw is at fits)

-- ---- blocks

pub fits_here : (steps : List Step) (p : Position) (step : Step) → slice_get steps p.step ≡ Some step → steps_fit steps p ≡ true → step_fits step p.inside ≡ true
fits_here steps p step at fits = ap (fits_at (insides_fit p.inside)) (sym at) ∙ fits

pub past_end : (names : List Text) (steps : List Step) (k : ℕ) (inside : Option InnerPosition) (s : Store) → slice_get steps k ≡ None → block_fits steps k (insides_fit inside) ≡ true → steps_at names steps k inside s ≡ Give (Goes s)
past_end names steps k None s none fits =
    ap (λ (o : Option Step). left_at names o None s >>= λ f. and_then f (steps_do names (drop (suc k) steps))) none
    ∙ ap (λ (xs : List Step). steps_do names xs s) (nothing_behind steps k none)
past_end names steps k (Some inside) s none fits = let lost : false ≡ true = ap (fits_at (Some (inside_fits inside))) (sym none) ∙ fits in absurd (cc)

-- ---- at a place that steps don't have

abbrev Lost : List Text → InnerPosition → Type 0
Lost names inside = (step : Step) (s : Store) → inside_fits inside step ≡ false → inside_does names inside step s ≡ nowhere s

abbrev LostInside : List Text → Type 0
LostInside names = (inside : InnerPosition) × Lost names inside

abbrev does_of : (names : List Text) → Option (LostInside names) → Option Left
does_of names None = None
does_of names (Some e) = Some (inside_does names e.0)

abbrev fit_of : (names : List Text) → Option (LostInside names) → Option Fit
fit_of names None = None
fit_of names (Some e) = Some (inside_fits e.0)

lost_at : (names : List Text) (o : Option Step) (e : Option (LostInside names)) (s : Store) → fits_at (fit_of names e) o ≡ false → left_at names o (does_of names e) s ≡ nowhere s
lost_at names o None s h = absurd (cc)
lost_at names None (Some e) s h = refl
lost_at names (Some step) (Some e) s h = e.1 step s h

lost_block : (names : List Text) (steps : List Step) (k : ℕ) (e : Option (LostInside names)) (s : Store) → block_fits steps k (fit_of names e) ≡ false → block_left names steps k (does_of names e) s ≡ nowhere s
lost_block names steps k e s h = ap (λ (a : Act Flow). a >>= λ f. and_then f (steps_do names (drop (suc k) steps))) (lost_at names (slice_get steps k) e s h)

lost_then : (names : List Text) (x : Step-F Step) (k : ℕ) (e : Option (LostInside names)) (s : Store) → then_fits x k (fit_of names e) ≡ false → then_left names x k (does_of names e) s ≡ nowhere s
lost_then names (Step-F.If c steps others) k e s h = lost_block names steps k e s h
lost_then names (Step-F.Simple x) k e s h = refl
lost_then names (Step-F.While c body) k e s h = refl
lost_then names (Step-F.For slot c body) k e s h = refl

lost_otherwise : (names : List Text) (x : Step-F Step) (k : ℕ) (e : Option (LostInside names)) (s : Store) → otherwise_fits x k (fit_of names e) ≡ false → otherwise_left names x k (does_of names e) s ≡ nowhere s
lost_otherwise names (Step-F.If c steps others) k e s h = lost_block names others k e s h
lost_otherwise names (Step-F.Simple x) k e s h = refl
lost_otherwise names (Step-F.While c body) k e s h = refl
lost_otherwise names (Step-F.For slot c body) k e s h = refl

lost_turn : (names : List Text) (x : Step-F Step) (k : ℕ) (e : Option (LostInside names)) (s : Store) → turn_fits x k (fit_of names e) ≡ false → turn_left names x k (does_of names e) s ≡ nowhere s
lost_turn names (Step-F.While c body) k e s h = ap (λ (a : Act Flow). a >>= λ f. and_then f (repeated c (steps_do names body))) (lost_block names body k e s h)
lost_turn names (Step-F.Simple x) k e s h = refl
lost_turn names (Step-F.If c steps others) k e s h = refl
lost_turn names (Step-F.For slot c body) k e s h = refl

lost_item : (names : List Text) (x : Step-F Step) (items : List Value) (k : ℕ) (e : Option (LostInside names)) (s : Store) → item_fits x k (fit_of names e) ≡ false → item_left names x items k (does_of names e) s ≡ nowhere s
lost_item names (Step-F.For slot c body) items k e s h = ap (λ (a : Act Flow). a >>= λ f. and_then f (each_turn slot (steps_do names body) items)) (lost_block names body k e s h)
lost_item names (Step-F.Simple x) items k e s h = refl
lost_item names (Step-F.If c steps others) items k e s h = refl
lost_item names (Step-F.While c body) items k e s h = refl

abbrev layer_of : (names : List Text) → InnerPosition-F (LostInside names) → InnerPosition-F InnerPosition
layer_of names = map-InnerPosition (LostInside names) InnerPosition (λ e. e.0)

lost_layer : (names : List Text) (y : InnerPosition-F (LostInside names)) (step : Step) (s : Store) → fits_inside (map-InnerPosition InnerPosition Fit inside_fits (layer_of names y)) step ≡ false → inside_step names (map-InnerPosition InnerPosition Left (inside_does names) (layer_of names y)) step s ≡ nowhere s
lost_layer names (InnerPosition-F.Then k None) step s h = lost_then names (out-Step step) k None s h
lost_layer names (InnerPosition-F.Then k (Some e)) step s h = lost_then names (out-Step step) k (Some e) s h
lost_layer names (InnerPosition-F.Otherwise k None) step s h = lost_otherwise names (out-Step step) k None s h
lost_layer names (InnerPosition-F.Otherwise k (Some e)) step s h = lost_otherwise names (out-Step step) k (Some e) s h
lost_layer names (InnerPosition-F.Iteration k None) step s h = lost_turn names (out-Step step) k None s h
lost_layer names (InnerPosition-F.Iteration k (Some e)) step s h = lost_turn names (out-Step step) k (Some e) s h
lost_layer names (InnerPosition-F.Item items next k None) step s h = lost_item names (out-Step step) (drop next items) k None s h
lost_layer names (InnerPosition-F.Item items next k (Some e)) step s h = lost_item names (out-Step step) (drop next items) k (Some e) s h

lost_rolled : (names : List Text) (y : InnerPosition-F (LostInside names)) → Lost names (roll-InnerPosition (layer_of names y))
unfolding inside_does inside_fits
lost_rolled names y step s h =
    ap (λ (left : Left). left step s) (fold-roll-InnerPosition Left (inside_step names) (layer_of names y))
    ∙ lost_layer names y step s (sym (ap (λ (fit : Fit). fit step) (fold-roll-InnerPosition Fit fits_inside (layer_of names y))) ∙ h)

lost : (names : List Text) (inside : InnerPosition) → Lost names inside
lost names = ind-InnerPosition (Lost names) (λ x y is. subst (λ (z : InnerPosition-F InnerPosition). Lost names (roll-InnerPosition z)) is (lost_rolled names y))

lost_steps : (names : List Text) (steps : List Step) (k : ℕ) (inside : Option InnerPosition) (s : Store) → block_fits steps k (insides_fit inside) ≡ false → steps_at names steps k inside s ≡ nowhere s
lost_steps names steps k None s h = absurd (cc)
lost_steps names steps k (Some inside) s h = lost_block names steps k (Some (inside, lost names inside)) s h

holds_unless : (b : Bool) → (b ≡ false → ⊥) → b ≡ true
holds_unless true h = refl
holds_unless false h = absurd (h refl)

-- a run that asks is at a place that its steps have
pub asks_fits : (names : List Text) (steps : List Step) (p : Position) (s : Store) (told : List Answer) (ran : Ran Flow) (request : Request) → request_of ran ≡ Some request → run (steps_at names steps p.step p.inside s) told ≡ ran → steps_fit steps p ≡ true
asks_fits names steps p s told ran request asks same = holds_unless (steps_fit steps p) (λ h.
    let none : request_of (run (nowhere s) told) ≡ Some request = ap request_of (sym (ap (λ (a : Act Flow). run a told) (lost_steps names steps p.step p.inside s h)) ∙ same) ∙ asks in
    cc)
