-- Loops that turn while a condition holds, in a body that waits for answers.
use Rattle.std.proofs.Common.{◌≡◌, ℕ, zero, suc, ◌<◌, ◌≤◌, length, slice_get, Bool, true, false, if◌then◌else◌, List, [], ◌∷◌, map, Option, Some, None, refl, sym, ap, ◌∙◌, subst, arith}
use Rattle.flow_base.specs.declared.value.Value.{Value}
use Rattle.flow_base.specs.declared.outcome.Exception.{Exception}
use Rattle.flow_base.specs.declared.outcome.Exception.TheVariants as x
use Rattle.script_tree.specs.declared.tree.BuiltIn.TheVariants as b
use Rattle.flow_meaning.specs.declared.walk.Answer.{Answer}
use Rattle.flow_meaning.specs.declared.walk.Request.{Request}
use Rattle.flow_meaning.specs.Act.{Act, Give, Throw, Ask, ◌>>=◌}
use Rattle.flow_meaning.specs.Run.{Ran, Gave, Threw, Asked, run, then_run, request_of}
use Rattle.flow_meaning.specs.Operators.{Text, list_of, truth_of, int_of, text_of}
use Rattle.flow_meaning.specs.Meaning as m
use Rattle.flow_meaning.proofs.Run.{run-bind}
use Rattle.body_program.specs.declared.code.Code.{Code}
use Rattle.body_program.specs.declared.code.Simple.{Simple}
use Rattle.body_program.specs.declared.code.Simple.TheVariants as simple
use Rattle.body_program.specs.declared.code.Step.{Step, roll-Step, map-Step, fold-roll-Step, ind-Step}
use Rattle.body_program.specs.declared.code.Step.TheOpen.{Step-F}
use Rattle.body_program.specs.Meaning.{Does, Store, Flow, Goes, Returns, and_then, sequence, held, with_slot, turn_from, each_turn, code_value, goes_on, one_turn, while_turns, repeated, simple_does, step_step, step_does, steps_do, writes}

-- no more turns are left than so many
abbrev pub FlowWithin : ℕ → Flow → Type 0
FlowWithin n (Goes s) = s.left ≤ n
FlowWithin n (Returns value s) = s.left ≤ n

abbrev pub Within : ℕ → Act Flow → Type 0
Within n (Give f) = FlowWithin n f
Within n (Throw exception) = Unit {0}
Within n (Ask request go) = (r : Answer) → Within n (go r)

-- no run of it has more turns left than it had
abbrev pub NeverRaises : Does → Type 0
NeverRaises does = (s : Store) → Within s.left (does s)

flow_more : (n m : ℕ) (f : Flow) → n ≤ m → FlowWithin n f → FlowWithin m f
flow_more n m (Goes s) p h = omega arith
flow_more n m (Returns value s) p h = omega arith

within_more : (n m : ℕ) (a : Act Flow) → n ≤ m → Within n a → Within m a
within_more n m (Give f) p h = flow_more n m f p h
within_more n m (Throw exception) p h = tt
within_more n m (Ask request go) p h = λ r. within_more n m (go r) p (h r)

within_bind : (n : ℕ) (a : Act Flow) (g : Flow → Act Flow) → Within n a → ((f : Flow) → FlowWithin n f → Within n (g f)) → Within n (a >>= g)
within_bind n (Give f) g h next = next f h
within_bind n (Throw exception) g h next = tt
within_bind n (Ask request go) g h next = λ r. within_bind n (go r) g (h r) next

-- what comes behind a value
within_behind : {A : Type 0} (n : ℕ) (a : Act A) (g : A → Act Flow) → ((x : A) → Within n (g x)) → Within n (a >>= g)
within_behind n (Give x) g next = next x
within_behind n (Throw exception) g next = tt
within_behind n (Ask request go) g next = λ r. within_behind n (go r) g next

within_then : (n : ℕ) (f : Flow) (next : Does) → NeverRaises next → FlowWithin n f → Within n (and_then f next)
within_then n (Goes s) next h p = within_more s.left n (next s) p (h s)
within_then n (Returns value s) next h p = p

within_turn : (left : ℕ) (s : Store) (next : Does) → NeverRaises next → Within left (turn_from left s >>= next)
within_turn zero s next h = tt
within_turn (suc left) s next h = within_more left (suc left) (next (record s { left = left })) (omega arith) (h (record s { left = left }))

bind_assoc : {A B C : Type 0} (a : Act A) (f : A → Act B) (g : B → Act C) → ((a >>= f) >>= g) ≡ (a >>= λ x. f x >>= g)
bind_assoc (Give x) f g = refl
bind_assoc (Throw exception) f g = refl
bind_assoc (Ask request go) f g = λ i. Ask request (λ r. bind_assoc (go r) f g i)

-- ---- acts whose values all have a property

abbrev All : {A : Type 0} → (A → Type 0) → Act A → Type 0
All P (Give x) = P x
All P (Throw exception) = Unit {0}
All P (Ask request go) = (r : Answer) → All P (go r)

abbrev AllRan : {A : Type 0} → (A → Type 0) → Ran A → Type 0
AllRan P (Gave x left) = P x
AllRan P (Threw exception) = Unit {0}
AllRan P (Asked request go) = (r : Answer) → All P (go r)

all_run : {A : Type 0} (P : A → Type 0) (a : Act A) (rs : List Answer) → All P a → AllRan P (run a rs)
all_run P (Give x) rs h = h
all_run P (Throw exception) rs h = tt
all_run P (Ask request go) [] h = h
all_run P (Ask request go) (r ∷ rs) h = all_run P (go r) rs (h r)

all_behind : {A B : Type 0} (P : B → Type 0) (a : Act A) (g : A → Act B) → ((x : A) → All P (g x)) → All P (a >>= g)
all_behind P (Give x) g next = next x
all_behind P (Throw exception) g next = tt
all_behind P (Ask request go) g next = λ r. all_behind P (go r) g next

all_within : {A : Type 0} (P : A → Type 0) (n : ℕ) (a : Act A) (g : A → Act Flow) → All P a → ((x : A) → P x → Within n (g x)) → Within n (a >>= g)
all_within P n (Give x) g h next = next x h
all_within P n (Throw exception) g h next = tt
all_within P n (Ask request go) g h next = λ r. all_within P n (go r) g (h r) next

all_same : {A B : Type 0} (P : A → Type 0) (a : Act A) (g h : A → Act B) → All P a → ((x : A) → P x → g x ≡ h x) → (a >>= g) ≡ (a >>= h)
all_same P (Give x) g h is next = next x is
all_same P (Throw exception) g h is next = refl
all_same P (Ask request go) g h is next = λ i. Ask request (λ r. all_same P (go r) g h (is r) next i)

then_same : {A B : Type 0} (P : A → Type 0) (ran : Ran A) (g h : A → Act B) → AllRan P ran → ((x : A) → P x → g x ≡ h x) → then_run ran g ≡ then_run ran h
then_same P (Gave x left) g h is next = ap (λ a. run a left) (next x is)
then_same P (Threw exception) g h is next = refl
then_same P (Asked request go) g h is next = λ i. Asked request (λ r. all_same P (go r) g h (is r) next i)

asks_then : {A B : Type 0} (ran : Ran A) (g : A → Act B) (request : Request) → request_of ran ≡ Some request → request_of (then_run ran g) ≡ Some request
asks_then (Gave x left) g request h = absurd (cc)
asks_then (Threw exception) g request h = absurd (cc)
asks_then (Asked w go) g request h = h

-- ---- a turn leaves fewer turns

abbrev TurnBelow : ℕ → Option Flow → Type 0
TurnBelow n None = Unit {0}
TurnBelow n (Some (Goes s)) = s.left < n
TurnBelow n (Some (Returns value s)) = s.left < n

some_below : (n : ℕ) (f : Flow) → FlowWithin n f → TurnBelow (suc n) (Some f)
some_below n (Goes s) h = omega arith
some_below n (Returns value s) h = omega arith

all_below : (n : ℕ) (a : Act Flow) → Within n a → All (TurnBelow (suc n)) (a >>= λ f. Give (Some f))
all_below n (Give f) h = some_below n f h
all_below n (Throw exception) h = tt
all_below n (Ask request go) h = λ r. all_below n (go r) (h r)

turn_below : (left : ℕ) (s : Store) (b : Does) → NeverRaises b → All (TurnBelow left) (turn_from left s >>= b >>= λ f. Give (Some f))
turn_below zero s b h = tt
turn_below (suc left) s b h = all_below left (b (record s { left = left })) (h (record s { left = left }))

holds_below : (holds : Bool) (s : Store) (b : Does) → NeverRaises b → All (TurnBelow s.left) (if holds then (turn_from s.left s >>= b >>= λ f. Give (Some f)) else Give None)
holds_below true s b h = turn_below s.left s b h
holds_below false s b h = tt

one_below : (c : Code) (b : Does) (s : Store) → NeverRaises b → All (TurnBelow s.left) (one_turn c b s)
one_below c b s h = all_behind (TurnBelow s.left) (code_value s.slots c >>= truth_of) _ (λ holds. holds_below holds s b h)

-- ---- statements

goes_on_within : (n : ℕ) (s : Store) (next : Does) (t : Option Flow) → NeverRaises next → s.left ≤ n → TurnBelow n t → Within n (goes_on s next t)
goes_on_within n s next None h p is = p
goes_on_within n s next (Some (Goes s2)) h p is = within_more s2.left n (next s2) (omega arith) (h s2)
goes_on_within n s next (Some (Returns value s2)) h p is = omega arith

while_never_raises : (n : ℕ) (c : Code) (b : Does) → NeverRaises b → NeverRaises (while_turns n c b)
while_never_raises zero c b h s = tt
while_never_raises (suc n) c b h s = all_within (TurnBelow s.left) s.left (one_turn c b s) (goes_on s (while_turns n c b)) (one_below c b s h) (λ t is. goes_on_within s.left s (while_turns n c b) t (while_never_raises n c b h) (omega arith) is)

each_never_raises : (slot : ℕ) (b : Does) (items : List Value) → NeverRaises b → NeverRaises (each_turn slot b items)
each_never_raises slot b [] h s = omega arith
each_never_raises slot b (item ∷ items) h s = within_bind s.left _ _ (within_turn s.left s (λ at. b (with_slot slot item at)) (λ at. h (with_slot slot item at))) (λ f p. within_then s.left f (each_turn slot b items) (each_never_raises slot b items h) p)

abbrev Quiet : List Text → Step → Type 0
Quiet names step = NeverRaises (step_does names step)

abbrev QuietStep : List Text → Type 0
QuietStep names = (step : Step) × Quiet names step

abbrev steps_of : (names : List Text) → List (QuietStep names) → List Step
steps_of names = map (λ e. e.0)

abbrev layer_of : (names : List Text) → Step-F (QuietStep names) → Step-F Step
layer_of names = map-Step (QuietStep names) Step (λ e. e.0)

quiet_steps : (names : List Text) (es : List (QuietStep names)) → NeverRaises (sequence (map (step_does names) (steps_of names es)))
quiet_steps names [] s = omega arith
quiet_steps names (e ∷ es) s = within_bind s.left (step_does names e.0 s) _ (e.1 s) (λ f p. within_then s.left f _ (quiet_steps names es) p)

quiet_if : (holds : Bool) (steps others : Does) → NeverRaises steps → NeverRaises others → NeverRaises (if holds then steps else others)
quiet_if true steps others h k = h
quiet_if false steps others h k = k

quiet_file : (fits : Bool) (n : ℕ) (a b : Act Flow) → Within n a → Within n b → Within n (if fits then a else b)
quiet_file true n a b h k = h
quiet_file false n a b h k = k

quiet_write : (names : List Text) (at with : Value) → NeverRaises (writes names at with)
quiet_write names at with s = within_behind s.left (int_of at) _ (λ i. within_behind s.left (text_of with) _ (λ content. within_behind s.left (m.output_place i (length names)) _ (λ k. quiet_file (m.file_fits (m.name_at names k) content) s.left _ _ (omega arith) tt)))

sets_within : (slot : ℕ) (value : Value) (s : Store) → (with_slot slot value s).left ≤ s.left
sets_within slot value s = omega arith

stays_within : (s : Store) → s.left ≤ s.left
stays_within s = omega arith

quiet_simple : (names : List Text) (x : Simple) → NeverRaises (simple_does names x)
quiet_simple names (simple.Set slot e) s = within_behind s.left (code_value s.slots e) _ (λ value. sets_within slot value s)
quiet_simple names (simple.Append slot e) s = within_behind s.left (held (slice_get s.slots slot)) _ (λ list. within_behind s.left (code_value s.slots e) _ (λ item. within_behind s.left (m.applied_to b.Append (list ∷ item ∷ [])) _ (λ longer. sets_within slot longer s)))
quiet_simple names (simple.Return e) s = within_behind s.left (code_value s.slots e) _ (λ value. stays_within s)
quiet_simple names (simple.Raise e) s = within_behind s.left (code_value s.slots e >>= text_of) (λ t. Throw (x.AppError t)) (λ t. tt)
quiet_simple names (simple.Write e t) s = within_behind s.left (code_value s.slots e) (λ at. code_value s.slots t >>= λ with. writes names at with s) (λ at. within_behind s.left (code_value s.slots t) (λ with. writes names at with s) (λ with. quiet_write names at with s))
quiet_simple names (simple.Print e) s = within_behind s.left (code_value s.slots e) _ (λ value r. stays_within s)
quiet_simple names simple.Checkpoint s = λ r. stays_within s
quiet_simple names (simple.Do e) s = within_behind s.left (code_value s.slots e) _ (λ value. stays_within s)

quiet_layer : (names : List Text) (y : Step-F (QuietStep names)) → NeverRaises (step_step names (map-Step Step Does (step_does names) (layer_of names y)))
unfolding repeated
quiet_layer names (Step-F.Simple x) s = quiet_simple names x s
quiet_layer names (Step-F.While e body) s = while_never_raises (suc s.left) e _ (quiet_steps names body) s
quiet_layer names (Step-F.For slot e body) s = within_behind s.left (code_value s.slots e >>= list_of) _ (λ items. each_never_raises slot _ items (quiet_steps names body) s)
quiet_layer names (Step-F.If e steps others) s = within_behind s.left (code_value s.slots e >>= truth_of) _ (λ holds. quiet_if holds _ _ (quiet_steps names steps) (quiet_steps names others) s)

quiet_rolled : (names : List Text) (y : Step-F (QuietStep names)) → Quiet names (roll-Step (layer_of names y))
unfolding step_does
quiet_rolled names y = subst NeverRaises (sym (fold-roll-Step Does (step_step names) (layer_of names y))) (quiet_layer names y)

quiet : (names : List Text) (step : Step) → Quiet names step
quiet names = ind-Step (Quiet names) (λ x y is. subst (λ (z : Step-F Step). Quiet names (roll-Step z)) is (quiet_rolled names y))

pub steps_never_raise : (names : List Text) (steps : List Step) → NeverRaises (steps_do names steps)
steps_never_raise names [] s = omega arith
steps_never_raise names (step ∷ steps) s = within_bind s.left (step_does names step s) _ (quiet names step s) (λ f p. within_then s.left f _ (steps_never_raise names steps) p)

-- ---- numbers that bound the recursion

goes_equal : (s : Store) (left : ℕ) (d e : Does) → ((s2 : Store) → s2.left < left → d s2 ≡ e s2) → (t : Option Flow) → TurnBelow left t → goes_on s d t ≡ goes_on s e t
goes_equal s left d e same None is = refl
goes_equal s left d e same (Some (Goes s2)) is = same s2 is
goes_equal s left d e same (Some (Returns value s2)) is = refl

-- any two numbers above the turns left give the same
while_same : (n m : ℕ) (c : Code) (b : Does) (s : Store) → NeverRaises b → s.left < n → s.left < m → while_turns n c b s ≡ while_turns m c b s
while_same zero m c b s h p q = absurd (omega arith)
while_same (suc n) zero c b s h p q = absurd (omega arith)
while_same (suc n) (suc m) c b s h p q = all_same (TurnBelow s.left) (one_turn c b s) (goes_on s (while_turns n c b)) (goes_on s (while_turns m c b)) (one_below c b s h) (goes_equal s s.left (while_turns n c b) (while_turns m c b) (λ s2 less. while_same n m c b s2 h (omega arith) (omega arith)))

repeated_same : (n : ℕ) (c : Code) (b : Does) (s : Store) → NeverRaises b → s.left < n → repeated c b s ≡ while_turns n c b s
unfolding repeated
repeated_same n c b s h p = while_same (suc s.left) n c b s h (omega arith) p

-- the loop from here on, with some number that is more than the turns left
pub record Turning (c : Code) (b : Does) (s : Store) (rs : List Answer) (ran : Ran Flow) : Type 0 where
  pub number : ℕ
  pub enough : s.left < number
  pub same : run (while_turns number c b s) rs ≡ ran

pub begins : (c : Code) (b : Does) (s : Store) (rs : List Answer) → Turning c b s rs (run (repeated c b s) rs)
unfolding repeated
begins c b s rs = record { number = suc s.left; enough = omega arith; same = refl }

over_at : (n : ℕ) (c : Code) (b : Does) (s : Store) (rs r1 : List Answer) (ran : Ran Flow) → s.left < n → run (while_turns n c b s) rs ≡ ran → run (one_turn c b s) rs ≡ Gave None r1 → ran ≡ Gave (Goes s) r1
over_at zero c b s rs r1 ran p e h = absurd (omega arith)
over_at (suc n) c b s rs r1 ran p e h = grind (arith, run-bind)

pub over : {c : Code} {b : Does} {s : Store} {rs r1 : List Answer} {ran : Ran Flow} → Turning c b s rs ran → run (one_turn c b s) rs ≡ Gave None r1 → ran ≡ Gave (Goes s) r1
over t h = over_at t.number _ _ _ _ _ _ t.enough t.same h

returns_at : (n : ℕ) (c : Code) (b : Does) (s s2 : Store) (v : Value) (rs r1 : List Answer) (ran : Ran Flow) → s.left < n → run (while_turns n c b s) rs ≡ ran → run (one_turn c b s) rs ≡ Gave (Some (Returns v s2)) r1 → ran ≡ Gave (Returns v s2) r1
returns_at zero c b s s2 v rs r1 ran p e h = absurd (omega arith)
returns_at (suc n) c b s s2 v rs r1 ran p e h = grind (arith, run-bind)

pub returns : {c : Code} {b : Does} {s s2 : Store} {v : Value} {rs r1 : List Answer} {ran : Ran Flow} → Turning c b s rs ran → run (one_turn c b s) rs ≡ Gave (Some (Returns v s2)) r1 → ran ≡ Gave (Returns v s2) r1
returns t h = returns_at t.number _ _ _ _ _ _ _ _ t.enough t.same h

goes_at : (n : ℕ) (c : Code) (b : Does) (s s2 : Store) (rs r1 : List Answer) (ran : Ran Flow) → s.left < n → run (while_turns n c b s) rs ≡ ran → run (one_turn c b s) rs ≡ Gave (Some (Goes s2)) r1 → s2.left < s.left → Turning c b s2 r1 ran
goes_at zero c b s s2 rs r1 ran p e h q = absurd (omega arith)
goes_at (suc n) c b s s2 rs r1 ran p e h q = record { number = n; enough = omega arith; same = grind (arith, run-bind) }

pub goes : {c : Code} {b : Does} {s s2 : Store} {rs r1 : List Answer} {ran : Ran Flow} → Turning c b s rs ran → run (one_turn c b s) rs ≡ Gave (Some (Goes s2)) r1 → s2.left < s.left → Turning c b s2 r1 ran
goes t h q = goes_at t.number _ _ _ _ _ _ _ t.enough t.same h q

throws_at : (n : ℕ) (c : Code) (b : Does) (s : Store) (rs : List Answer) (ran : Ran Flow) (exception : Exception) → s.left < n → run (while_turns n c b s) rs ≡ ran → run (one_turn c b s) rs ≡ Threw exception → ran ≡ Threw exception
throws_at zero c b s rs ran exception p e h = absurd (omega arith)
throws_at (suc n) c b s rs ran exception p e h = grind (arith, run-bind)

pub throws : {c : Code} {b : Does} {s : Store} {rs : List Answer} {ran : Ran Flow} (exception : Exception) → Turning c b s rs ran → run (one_turn c b s) rs ≡ Threw exception → ran ≡ Threw exception
throws exception t h = throws_at t.number _ _ _ _ _ exception t.enough t.same h

asks_at : (n : ℕ) (c : Code) (b : Does) (s : Store) (rs : List Answer) (request : Request) → s.left < n → request_of (run (one_turn c b s) rs) ≡ Some request → request_of (run (while_turns n c b s) rs) ≡ Some request
asks_at zero c b s rs request p h = absurd (omega arith)
asks_at (suc n) c b s rs request p h = ap request_of (run-bind (one_turn c b s) (goes_on s (while_turns n c b)) rs) ∙ asks_then (run (one_turn c b s) rs) (goes_on s (while_turns n c b)) request h

-- it asks in its condition: the loop begins again there
pub asks_here : {c : Code} {b : Does} {s : Store} {rs : List Answer} {ran : Ran Flow} (request : Request) → NeverRaises b → Turning c b s rs ran → request_of (run (one_turn c b s) rs) ≡ Some request → (request_of ran ≡ Some request) × (run (repeated c b s) rs ≡ ran)
asks_here {c} {b} {s} {rs} {ran} request h t asks = (ap request_of (sym t.same) ∙ asks_at t.number c b s rs request t.enough asks, ap (λ a. run a rs) (repeated_same t.number c b s h t.enough) ∙ t.same)

inside_at : (n : ℕ) (c : Code) (b d : Does) (s s2 : Store) (rs r2 : List Answer) → NeverRaises b → s.left < n → run (d s2 >>= λ f. Give (Some f)) r2 ≡ run (one_turn c b s) rs → run (d s2 >>= λ f. and_then f (repeated c b)) r2 ≡ run (while_turns n c b s) rs
inside_at zero c b d s s2 rs r2 h p same = absurd (omega arith)
inside_at (suc n) c b d s s2 rs r2 h p same =
    sym (ap (λ a. run a r2) (bind_assoc (d s2) (λ f. Give (Some f)) (goes_on s (repeated c b))))
    ∙ run-bind (d s2 >>= λ f. Give (Some f)) (goes_on s (repeated c b)) r2
    ∙ ap (λ ran. then_run ran (goes_on s (repeated c b))) same
    ∙ then_same (TurnBelow s.left) (run (one_turn c b s) rs) (goes_on s (repeated c b)) (goes_on s (while_turns n c b)) (all_run (TurnBelow s.left) (one_turn c b s) rs (one_below c b s h)) (goes_equal s s.left (repeated c b) (while_turns n c b) (λ s2 less. repeated_same n c b s2 h (omega arith)))
    ∙ sym (run-bind (one_turn c b s) (goes_on s (while_turns n c b)) rs)

-- it asks in its block: what is left of the block, and then the loop
pub asks_inside : {c : Code} {b : Does} {s : Store} {rs : List Answer} {ran : Ran Flow} (request : Request) (d : Does) (s2 : Store) (r2 : List Answer) → NeverRaises b → Turning c b s rs ran → request_of (run (one_turn c b s) rs) ≡ Some request → run (d s2 >>= λ f. Give (Some f)) r2 ≡ run (one_turn c b s) rs → (request_of ran ≡ Some request) × (run (d s2 >>= λ f. and_then f (repeated c b)) r2 ≡ ran)
asks_inside {c} {b} {s} {rs} {ran} request d s2 r2 h t asks same = (ap request_of (sym t.same) ∙ asks_at t.number c b s rs request t.enough asks, inside_at t.number c b d s s2 rs r2 h t.enough same ∙ t.same)
