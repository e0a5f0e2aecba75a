-- Bodies of a well-formed script ask what their kind may ask, and call apps as they are declared.
use Rattle.std.proofs.Common.{◌≡◌, ℕ, ◌+◌, ◌<◌, Bool, true, false, not, if◌then◌else◌, List, [], ◌∷◌, ◌++◌, length, Option, Some, None, slice_get, refl, sym, ap, ◌∙◌, subst}
use Rattle.std.specs.Prelude.{nat_eq, bytes_eq, ◌&&◌}
use Rattle.std.specs.List.{position_or_len}
use Rattle.std.proofs.lemmas.Bool.{false≢true}
use Rattle.std.proofs.lemmas.Bool.Decides.{Decides-eqb}
use Rattle.std.proofs.lemmas.List.Folds.{find_at}
use Rattle.std.proofs.lemmas.Option.{slice_get_within}
use Rattle.flow_base.specs.declared.value.Value.{Value}
use Rattle.script_tree.specs.declared.tree.AppDef.{AppDef}
use Rattle.script_tree.specs.declared.tree.Block.{Block}
use Rattle.script_tree.specs.declared.tree.BuiltIn.{BuiltIn}
use Rattle.script_tree.specs.declared.tree.BuiltIn.TheVariants as built
use Rattle.script_tree.specs.Grammar.{Tree}
use Rattle.script_tree.specs.BuiltIns.{built_in_named, arity}
use Rattle.script_tree.specs.Marks.{Name, Mark, Applies, Calls, NamesApp, MainOnly}
use Rattle.script_tree.specs.Marks as marks
use Rattle.script_tree.specs.declared.fault.Rule.{Rule}
use Rattle.script_tree.specs.declared.fault.Rule.TheVariants as rule
use Rattle.script_tree.specs.declared.body_kind.BodyKind.{BodyKind}
use Rattle.script_tree.specs.declared.body_kind.BodyKind.TheVariants.{Plain, Join, OfMain}
use Rattle.script_tree.specs.Rules.{State, is_main, is_plain, body_of, broken_if, waits, built_in_faults, call_faults, outputs_of, app_named, IsWellFormed}
use Rattle.flow_meaning.specs.declared.walk.Request.{Request}
use Rattle.flow_meaning.specs.declared.walk.Request.TheVariants as request
use Rattle.flow_meaning.specs.declared.walk.Answer.{Answer}
use Rattle.flow_meaning.specs.Act.{Act, Give, Throw, Ask}
use Rattle.flow_meaning.specs.Run.{Ran, Gave, Threw, Asked, run, request_of}
use Rattle.flow_meaning.specs.Inputs.{Path}
use Rattle.flow_meaning.specs.Operators.{Text}
use Rattle.flow_meaning.specs.Meaning.{Done, body, number_of}
use Rattle.flow_meaning.specs.Walk.{names_in, main_act, body_act}
use Rattle.body_requests.specs.Asks.{Each, IsDeclared, RequestIn, AnyAnswer, AnyDone, AsksWell, AsksNothing}
use Rattle.body_requests.proofs.Acts.{each_any, asks_less, AsksRan, asks_run}
use Rattle.body_requests.proofs.Operators.{Closed}
use Rattle.body_requests.proofs.Expressions.{Laws}
use Rattle.body_requests.proofs.Blocks.{body_asks}
use Rattle.body_requests.proofs.Clean.{InBody, main_clean, body_clean}

abbrev AnyValue : List Path → Value → Type 0
AnyValue ps value = Unit {0}

abbrev AnyFile : Text → Text → Type 0
AnyFile name content = Unit {0}

any_closed : (ps : List Path) → Closed (AnyValue ps)
any_closed ps = record {
  int = λ n. tt;
  nothing = tt;
  text = λ t fits. tt;
  byte = λ b. tt;
  text_part = λ t e h. tt;
  digits = λ n h. tt;
  file = λ name content fits. tt;
  name = λ name content h. tt;
  content = λ name content h. tt;
  list = λ vs h fits. tt;
  items = λ vs h. each_any _ (λ w. tt) vs;
  list_part = λ vs e h. tt;
  texts = λ ts fits. tt;
  output = λ path outputs k less h. tt;
}

-- ---- rules

no_kind : (b : Bool) (kind : Rule) → broken_if b kind ≡ [] → b ≡ false
no_kind true kind h = absurd (cc)
no_kind false kind h = refl

nil_parts : (xs ys : List Rule) → xs ++ ys ≡ [] → (xs ≡ []) × (ys ≡ [])
nil_parts [] ys h = (refl, h)
nil_parts (x ∷ xs) ys h = absurd (cc)

no_not : (b : Bool) → not b ≡ false → b ≡ true
no_not true h = refl
no_not false h = absurd (false≢true (sym h))

same_number : (n m : ℕ) (kind : Rule) → broken_if (not (nat_eq n m)) kind ≡ [] → n ≡ m
same_number n m kind h = (Decides-eqb n m).0 (no_not (nat_eq n m) (no_kind (not (nat_eq n m)) kind h))

declared : (o : Option AppDef) (n m : ℕ) → call_faults o n m ≡ [] → IsDeclared o n m
declared None n m h = absurd (cc)
declared (Some a) n m h =
    let both = nil_parts (broken_if (not (nat_eq (length a.parameters) n)) rule.Arity) (broken_if (not (nat_eq (outputs_of a.outputs) m)) rule.Outputs) h in
    (same_number (length a.parameters) n rule.Arity both.0, same_number (outputs_of a.outputs) m rule.Outputs both.1)

number-named : (apps : List AppDef) (name : Text) → number_of (names_in apps) name ≡ position_or_len (λ (a : AppDef). bytes_eq a.name name) apps
number-named [] name = refl
number-named (a ∷ apps) name = ap (λ n. if not (bytes_eq a.name name) then 1 + n else 0) (number-named apps name)

-- the app of the number is the first of the name
numbered : (apps : List AppDef) (name : Text) → app_named apps name ≡ slice_get apps (number_of (names_in apps) name)
numbered apps name = find_at (λ (a : AppDef). bytes_eq a.name name) apps ∙ ap (slice_get apps) (sym (number-named apps name))

call_declared : (apps : List AppDef) (name : Text) (n m : ℕ) → call_faults (app_named apps name) n m ≡ [] → IsDeclared (slice_get apps (number_of (names_in apps) name)) n m
call_declared apps name n m h = subst (λ o. IsDeclared o n m) (numbered apps name) (declared (app_named apps name) n m h)

-- ---- requests by the kind of the body

module _ (apps : List AppDef) where
  abbrev Names_ok : BodyKind → List Text → Type 0
  Names_ok b names = (b ≡ Plain → ⊥) → names ≡ names_in apps

  call_in : (b : BodyKind) (names : List Text) (app : Text) (arguments : List Value) (outputs : List Text) → Names_ok b names → InBody apps b Calls → InBody apps b (NamesApp app (length arguments) (length outputs)) → RequestIn b apps (request.Call (number_of names app) arguments outputs)
  call_in Plain names app arguments outputs h c n = absurd (false≢true (sym (no_kind (is_plain c.0.body) rule.CallInApp c.2) ∙ ap is_plain c.1))
  call_in Join names app arguments outputs h c n = subst (λ (z : List Text). IsDeclared (slice_get apps (number_of z app)) (length arguments) (length outputs)) (sym (h (λ e. cc))) (call_declared apps app (length arguments) (length outputs) n.2)
  call_in OfMain names app arguments outputs h c n = subst (λ (z : List Text). IsDeclared (slice_get apps (number_of z app)) (length arguments) (length outputs)) (sym (h (λ e. cc))) (call_declared apps app (length arguments) (length outputs) n.2)

  only_main : (b : BodyKind) (s : State) → s.body ≡ b → is_main s.body ≡ true → b ≡ OfMain
  only_main Plain s is h = absurd (false≢true (sym (ap is_main is) ∙ h))
  only_main Join s is h = absurd (false≢true (sym (ap is_main is) ∙ h))
  only_main OfMain s is h = refl

  waits_main : (waits holds : Bool) (kind : Rule) → waits ≡ true → broken_if (waits && not holds) kind ≡ [] → holds ≡ true
  waits_main true holds kind w h = no_not holds (no_kind (not holds) kind h)
  waits_main false holds kind w h = absurd (false≢true w)

  wait_in : (b : BodyKind) (built_in : BuiltIn) (name : Text) (n : ℕ) (w : Request) → waits built_in ≡ true → built_in_named name ≡ Some built_in → InBody apps b (Applies name n) → RequestIn OfMain apps w → RequestIn b apps w
  wait_in b built_in name n w is at m h =
      let faults = subst (λ (o : Option BuiltIn). built_in_faults m.0 o n ≡ []) at m.2 in
      let both = nil_parts (broken_if (not (nat_eq (arity built_in) n)) rule.Arity) (broken_if (waits built_in && not (is_main m.0.body)) rule.WaitOutsideMain) faults in
      subst (λ (z : BodyKind). RequestIn z apps w) (sym (only_main b m.0 m.1 (waits_main (waits built_in) (is_main m.0.body) rule.WaitOutsideMain is both.1))) h

  act_in : (b : BodyKind) (w : Request) → InBody apps b MainOnly → RequestIn OfMain apps w → RequestIn b apps w
  act_in b w m h = subst (λ (z : BodyKind). RequestIn z apps w) (sym (only_main b m.0 m.1 (no_not (is_main m.0.body) (no_kind (not (is_main m.0.body)) rule.WaitOutsideMain m.2)))) h

  pub well_laws : (b : BodyKind) (names : List Text) → Names_ok b names → Laws names AnyValue (λ ps. RequestIn b apps) AnyAnswer (InBody apps b) AnyFile
  well_laws b names ok = record {
    written = λ name content fits. tt;
    closed = any_closed;
    grows = λ ps qs value g h. tt;
    call = λ ps app arguments outputs c n h texts. call_in b names app arguments outputs ok c n;
    result = λ ps f name n at m w h. wait_in b built.Result name n (request.WaitValue f) refl at m tt;
    exception = λ ps f name n at m w h. wait_in b built.Exception name n (request.WaitName f) refl at m tt;
    prints = λ ps value m h. act_in b (request.Print value) m tt;
    checkpoint = λ ps m. act_in b request.Checkpoint m tt;
    called = λ ps f is. tt;
    value = λ ps value files is. tt;
    output = λ ps value files i f is at. tt;
    name = λ ps outcome is. tt;
  }

  pub body_well : (b : BodyKind) (names : List Text) (block : Block) (parameters : List Text) (arguments : List Value) (outputs : List Text) → Names_ok b names → Each (InBody apps b) (marks.block block) → AsksWell b apps (body names block parameters arguments outputs)
  body_well b names block parameters arguments outputs ok m = asks_less (λ ps. RequestIn b apps) AnyAnswer _ AnyDone [] _ (λ qs d k. tt) (body_asks names AnyValue (λ ps. RequestIn b apps) AnyAnswer (InBody apps b) AnyFile (well_laws b names ok) outputs block parameters arguments [] m (each_any _ (λ w. tt) arguments))

-- ---- the bodies of a well-formed script

pub main_well : (s : Tree) → IsWellFormed s → AsksWell OfMain s.0 (main_act s)
main_well s h = body_well s.0 OfMain (names_in s.0) s.1 [] [] [] (λ p. refl) (main_clean s h)

pub act_well : (s : Tree) (k : ℕ) (a : AppDef) (arguments : List Value) → IsWellFormed s → slice_get s.0 k ≡ Some a → AsksWell (body_of a) s.0 (body_act s (Some a) arguments)
act_well s k a arguments h at = body_well s.0 (body_of a) (names_in s.0) a.body a.parameters arguments [] (λ p. refl) (body_clean s k a h at)

-- a plain app's body as `apply` runs it
pub plain_well : (s : Tree) (k : ℕ) (a : AppDef) (arguments : List Value) (names : List Text) → IsWellFormed s → slice_get s.0 k ≡ Some a → a.join ≡ false → AsksWell Plain s.0 (body [] a.body a.parameters arguments names)
plain_well s k a arguments names h at is = body_well s.0 Plain [] a.body a.parameters arguments names (λ p. absurd (p refl)) (subst (λ (z : Bool). Each (InBody s.0 (if z then Join else Plain)) (marks.block a.body)) is (body_clean s k a h at))

nothing_asked : (apps : List AppDef) (a : Act Done) → AsksWell Plain apps a → AsksNothing a
nothing_asked apps (Give d) h = tt
nothing_asked apps (Throw exception) h = tt
nothing_asked apps (Ask w go) h = h.0

pub plain_asks_nothing : (s : Tree) (k : ℕ) (a : AppDef) (arguments : List Value) (names : List Text) → IsWellFormed s → slice_get s.0 k ≡ Some a → a.join ≡ false → AsksNothing (body [] a.body a.parameters arguments names)
plain_asks_nothing s k a arguments names h at is = nothing_asked s.0 _ (plain_well s k a arguments names h at is)

-- what it asks for where the answers run out
asked_in : (b : BodyKind) (apps : List AppDef) (ps : List Path) (ran : Ran Done) (w : Request) → AsksRan (λ ps. RequestIn b apps) AnyAnswer AnyDone ps ran → request_of ran ≡ Some w → RequestIn b apps w
asked_in b apps ps (Gave d left) w h is = absurd (cc)
asked_in b apps ps (Threw exception) w h is = absurd (cc)
asked_in b apps ps (Asked request go) w h is = let same : request ≡ w = cc in subst (RequestIn b apps) same h.0

pub request_well : (b : BodyKind) (apps : List AppDef) (a : Act Done) (rs : List Answer) (w : Request) → AsksWell b apps a → request_of (run a rs) ≡ Some w → RequestIn b apps w
request_well b apps a rs w h is = asked_in b apps _ (run a rs) w (asks_run (λ ps. RequestIn b apps) AnyAnswer AnyDone [] a rs h (each_any _ (λ r. tt) rs)) is

declared_app : (apps : List AppDef) (number n m : ℕ) (o : Option AppDef) → slice_get apps number ≡ o → IsDeclared o n m → number < length apps
declared_app apps number n m None at h = absurd h
declared_app apps number n m (Some a) at h = slice_get_within apps number a at

-- the number of a call's app is below the number of apps
pub number_below : (apps : List AppDef) (number n m : ℕ) → IsDeclared (slice_get apps number) n m → number < length apps
number_below apps number n m h = declared_app apps number n m (slice_get apps number) refl h
