-- What the acts of callers ask, and what their answers leave.
use Rattle.std.proofs.Common.{◌≡◌, ℕ, zero, suc, List, [], ◌∷◌, ◌++◌, Option, Some, None, refl, sym, ◌∙◌, ap, subst, arith}
use Rattle.std.specs.Prelude.{Contains, Ok}
use Rattle.flow_base.specs.declared.value.Value.{Value, out-Value, out-roll-Value}
use Rattle.flow_base.specs.declared.value.Value.TheOpen.{Value-F}
use Rattle.flow_base.specs.declared.value.Value.TheVariants as v
use Rattle.flow_base.specs.declared.outcome.Outcome.{Outcome}
use Rattle.flow_base.specs.declared.outcome.Outcome.TheVariants as o
use Rattle.flow_base.specs.declared.outcome.Ended.{Ended}
use Rattle.flow_base.specs.declared.outcome.Ended.TheVariants as ended
use Rattle.flow_meaning.specs.declared.walk.Request.{Request}
use Rattle.flow_meaning.specs.declared.walk.Request.TheVariants as request
use Rattle.flow_meaning.specs.declared.walk.Answer.{Answer}
use Rattle.flow_meaning.specs.declared.walk.Answer.TheVariants as answer
use Rattle.flow_meaning.specs.Act.{Act, Give, Ask}
use Rattle.flow_meaning.specs.Inputs.{Path, inputs, path_in}
use Rattle.flow_meaning.specs.Meaning.{Done}
use Rattle.flow_meaning.specs.Operators.{Layer, Text}
use Rattle.flow_meaning.specs.Sequential.{outcome_of, lost_or}
use Rattle.body_requests.specs.Asks.{Each, IsAnswer, IsTold as IsToldPath, AsksTold, EndsPlain, told_by}
use Rattle.call_rules.specs.Calls.{child, awaited}
use Rattle.call_rules.specs.Groups.{IsPlainOutcome}
use Rattle.call_rules.specs.Told.{IsChild, Asks}
use Rattle.call_rules.proofs.Plain.{each-map, inputs-told, awaited-told}

-- what holds of each holds of one that is among them
pub each-contains : {A : Type 0} (P : A → Type 0) (xs : List A) (x : A) → Each P xs → Contains xs x → P x
each-contains P [] x h (k, lt, at) = absurd (omega arith)
each-contains P (y ∷ xs) x h (zero, lt, at) = subst P at h.0
each-contains P (y ∷ xs) x h (suc k, lt, at) = each-contains P xs x h.1 (k, omega arith, at)

pub child-more : (caller : Path) (n : ℕ) (p : Path) → IsChild caller n p → IsChild caller (suc n) p
child-more caller n p h = record { number = h.number; is = h.is; below = let lt = h.below in omega arith }

pub out-future : (p : Path) (n : ℕ) → out-Value (v.Future p n) ≡ Value-F.Future p n
out-future p n = ap out-Value (sym (v.rolls-Future _ _)) ∙ out-roll-Value _

pub told-future : (p : Path) (n : ℕ) → told_by (answer.Called (v.Future p n)) ≡ p ∷ []
told-future p n = ap path_in (out-future p n)

pub ended-plain : (e : Ended) → EndsPlain e → IsPlainOutcome (outcome_of e)
ended-plain (ended.Value value files) h = h
ended-plain (ended.Raised exception) h = tt

pub lost-plain : (loss : Option ℕ) (outcome : Outcome) → IsPlainOutcome outcome → IsPlainOutcome (lost_or loss outcome)
lost-plain None outcome h = h
lost-plain (Some manager) outcome h = tt

-- ---- what is asked

pub asks-inputs : (g : Path) (n app : ℕ) (arguments : List Value) (names : List Text) (go : Answer → Act Done) → Asks g n (Ask (request.Call app arguments names) go) → Each (IsChild g n) (inputs arguments)
asks-inputs g n app arguments names go asks =
    each-map (Contains asks.paths) (IsChild g n) (λ p c. each-contains (IsChild g n) asks.paths p asks.made c) (inputs arguments) (inputs-told asks.paths arguments (asks.told.0))

pub asks-call : (g : Path) (n app : ℕ) (arguments : List Value) (names : List Text) (go : Answer → Act Done) (count : ℕ) → Asks g n (Ask (request.Call app arguments names) go) → Asks g (suc n) (go (answer.Called (v.Future (child g n) count)))
asks-call g n app arguments names go count asks =
    let future : Value = v.Future (child g n) count in
    record {
      paths = child g n ∷ asks.paths;
      told = subst (λ (ps : List Path). AsksTold (ps ++ asks.paths) (go (answer.Called future))) (told-future (child g n) count) (asks.told.1 (answer.Called future) (rw (out-future (child g n) count) tt));
      made = (record { number = n; is = refl; below = omega arith }, each-map (IsChild g n) (IsChild g (suc n)) (child-more g n) asks.paths asks.made);
    }

-- an answer that tells of no future
pub asks-on : (g : Path) (n : ℕ) (wanted : Request) (go : Answer → Act Done) (a : Answer) → IsAnswer a → told_by a ≡ [] → Asks g n (Ask wanted go) → Asks g n (go a)
asks-on g n wanted go a is none asks = record {
  paths = asks.paths;
  told = subst (λ (ps : List Path). AsksTold (ps ++ asks.paths) (go a)) none (asks.told.1 a is);
  made = asks.made;
}

pub asks-awaited : (g : Path) (n : ℕ) (d : Done) → Asks g n (Give d) → Each (IsChild g n) (awaited (Ok d))
asks-awaited g n d asks =
    each-map (Contains asks.paths) (IsChild g n) (λ p c. each-contains (IsChild g n) asks.paths p asks.made c) (awaited (Ok d)) (awaited-told asks.paths d asks.told)

pub is-answer : (outcome : Outcome) → IsPlainOutcome outcome → IsAnswer (answer.Outcome outcome)
is-answer (o.Value value files) h = h
is-answer (o.Failed exception) h = tt

-- what is waited for was made
head_same : (x y : Path) (xs ys : List Path) → x ∷ xs ≡ y ∷ ys → x ≡ y
head_same x y xs ys e = cc

waited_path : (ps : List Path) (layer : Layer) (p : Path) (qs : List Path) → IsToldPath ps layer → path_in layer ≡ p ∷ qs → Contains ps p
waited_path ps (Value-F.Future path outputs) p qs h e = subst (Contains ps) (head_same path p [] qs e) h
waited_path ps (Value-F.Output path index) p qs h e = subst (Contains ps) (head_same path p [] qs e) h
waited_path ps (Value-F.Int n) p qs h e = absurd h
waited_path ps (Value-F.Text t) p qs h e = absurd h
waited_path ps (Value-F.List vs) p qs h e = absurd h
waited_path ps (Value-F.File name content) p qs h e = absurd h
waited_path ps Value-F.Nothing p qs h e = absurd h

pub asks-wait : (g : Path) (n : ℕ) (act : Act Done) (f : Value) (p : Path) (qs : List Path) → (asks : Asks g n act) → IsToldPath asks.paths (out-Value f) → path_in (out-Value f) ≡ p ∷ qs → IsChild g n p
asks-wait g n act f p qs asks told e = each-contains (IsChild g n) asks.paths p asks.made (waited_path asks.paths (out-Value f) p qs told e)
