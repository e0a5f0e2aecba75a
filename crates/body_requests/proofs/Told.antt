-- Bodies ask only for futures that they were told of.
use Rattle.std.proofs.Common.{◌≡◌, ℕ, zero, suc, arith, List, [], ◌∷◌, ◌++◌, Option, Some, None, subst}
use Rattle.std.specs.Prelude.{Contains}
use Rattle.flow_base.specs.declared.value.Value.{Value, out-Value}
use Rattle.script_tree.specs.declared.tree.Block.{Block}
use Rattle.script_tree.specs.declared.tree.AppDef.{AppDef}
use Rattle.script_tree.specs.Grammar.{Tree}
use Rattle.script_tree.specs.Marks.{Mark, NamesApp}
use Rattle.script_tree.specs.Marks as marks
use Rattle.flow_meaning.specs.declared.walk.Request.{Request}
use Rattle.flow_meaning.specs.declared.walk.Request.TheVariants as request
use Rattle.flow_meaning.specs.declared.walk.Answer.{Answer}
use Rattle.flow_meaning.specs.Act.{Act, Give, Throw, Ask, after}
use Rattle.flow_meaning.specs.Run.{Ran, Gave, Threw, Asked, run, request_of}
use Rattle.flow_meaning.specs.Inputs.{Path, inputs}
use Rattle.flow_meaning.specs.Operators.{Text}
use Rattle.flow_meaning.specs.Meaning.{Done, body}
use Rattle.flow_meaning.specs.Sequential.{apply, end_of}
use Rattle.flow_meaning.specs.Walk.{names_in, main_act, body_act}
use Rattle.body_requests.specs.Asks.{Each, NamesOnly, IsPlain, told_by, told_after, IsAnswer, IsTold, RequestTold, DoneTold, AsksTold, EndsPlain}
use Rattle.body_requests.proofs.Acts.{each_map, each_append, each_any, grown_front, asks_less, asks_after, AsksRan, asks_run, asks_gave}
use Rattle.body_requests.proofs.Expressions.{Laws}
use Rattle.body_requests.proofs.Blocks.{body_asks}
use Rattle.body_requests.proofs.Values.{names_closed, text_names, file_names, plain_names, names_plain, all_plain_name, future_names, awaited_told, inputs_told}

abbrev AnyMark : Mark → Type 0
AnyMark m = Unit {0}

abbrev AnyFile : Text → Text → Type 0
AnyFile name content = Unit {0}

pub told_laws : (apps : List Text) → Laws apps NamesOnly RequestTold IsAnswer AnyMark AnyFile
told_laws apps = record {
  written = λ name content fits. tt;
  closed = names_closed;
  grows = λ ps qs value g h. each_map _ _ g _ h;
  call = λ ps app arguments names calls c h texts. h;
  result = λ ps f name n at m w h. awaited_told f ps w h;
  exception = λ ps f name n at m w h. awaited_told f ps w h;
  prints = λ ps value m h. h;
  checkpoint = λ ps m. tt;
  called = λ ps f is. future_names f ps is;
  value = λ ps value files is. plain_names ps value is;
  output = λ ps value files i f is at. file_names ps f.name f.content;
  name = λ ps outcome is. text_names ps _;
}

-- ---- bodies

pub body_told : (apps : List Text) (block : Block) (parameters : List Text) (arguments : List Value) (names : List Text) (ps : List Path) → Each (NamesOnly ps) arguments → AsksTold ps (body apps block parameters arguments names)
body_told apps block parameters arguments names ps h = asks_less RequestTold IsAnswer _ DoneTold ps _ (λ qs d k. k.0) (body_asks apps NamesOnly RequestTold IsAnswer AnyMark AnyFile (told_laws apps) names block parameters arguments ps (each_any AnyMark (λ m. tt) (marks.block block)) h)

pub main_told : (s : Tree) → AsksTold [] (main_act s)
main_told s = body_told (names_in s.0) s.1 [] [] [] [] tt

pub act_told : (s : Tree) (app : Option AppDef) (arguments : List Value) → Each IsPlain arguments → AsksTold [] (body_act s app arguments)
act_told s (Some a) arguments h = body_told (names_in s.0) a.body a.parameters arguments [] [] (all_plain_name [] arguments h)
act_told s None arguments h = main_told s

-- ---- plain apps

ends_plain : (a : Act Done) → AsksTold [] a → EndsPlain (end_of a)
ends_plain (Give d) h = names_plain d.0 h
ends_plain (Throw exception) h = tt
ends_plain (Ask request go) h = tt

-- a plain app on plain arguments gives a plain value
pub apply_plain : (app : AppDef) (arguments : List Value) (names : List Text) → Each IsPlain arguments → EndsPlain (apply app arguments names)
unfolding apply
apply_plain app arguments names h = ends_plain _ (body_told [] app.body app.parameters arguments names [] (all_plain_name [] arguments h))

-- ---- requests behind answers

-- what it asks for where the answers run out
asked_told : (ps : List Path) (ran : Ran Done) (w : Request) → AsksRan RequestTold IsAnswer DoneTold ps ran → request_of ran ≡ Some w → RequestTold ps w
asked_told ps (Gave d left) w h is = absurd (cc)
asked_told ps (Threw exception) w h is = absurd (cc)
asked_told ps (Asked request go) w h is = let same : request ≡ w = cc in subst (RequestTold ps) same h.0

pub request_told : (a : Act Done) (ps : List Path) (rs : List Answer) (w : Request) → AsksTold ps a → Each IsAnswer rs → request_of (run a rs) ≡ Some w → RequestTold (told_after ps rs) w
request_told a ps rs w h k is = asked_told (told_after ps rs) (run a rs) w (asks_run RequestTold IsAnswer DoneTold ps a rs h k) is

-- a call waits only for calls that the same body made before
pub call_inputs_told : (a : Act Done) (ps : List Path) (rs : List Answer) (app : ℕ) (arguments : List Value) (names : List Text) → AsksTold ps a → Each IsAnswer rs
    → request_of (run a rs) ≡ Some (request.Call app arguments names) → Each (Contains (told_after ps rs)) (inputs arguments)
call_inputs_told a ps rs app arguments names h k is = inputs_told (told_after ps rs) arguments (request_told a ps rs (request.Call app arguments names) h k is)

-- what is waited for is a call of the same body, or an output of one
pub wait_told : (a : Act Done) (ps : List Path) (rs : List Answer) (f : Value) → AsksTold ps a → Each IsAnswer rs → request_of (run a rs) ≡ Some (request.WaitValue f) → IsTold (told_after ps rs) (out-Value f)
wait_told a ps rs f h k is = request_told a ps rs (request.WaitValue f) h k is

pub wait_name_told : (a : Act Done) (ps : List Path) (rs : List Answer) (f : Value) → AsksTold ps a → Each IsAnswer rs → request_of (run a rs) ≡ Some (request.WaitName f) → IsTold (told_after ps rs) (out-Value f)
wait_name_told a ps rs f h k is = request_told a ps rs (request.WaitName f) h k is

-- what it gives names only calls of its own: a join returns only futures of its calls
pub gave_told : (a : Act Done) (ps : List Path) (rs left : List Answer) (d : Done) → AsksTold ps a → Each IsAnswer rs → run a rs ≡ Gave d left → NamesOnly (told_after ps rs) d.0
gave_told a ps rs left d h k is = asks_gave RequestTold IsAnswer DoneTold ps a rs left d (λ qs r d p. each_map _ _ (grown_front (told_by r) qs) _ p) h k is

-- what is left behind answers
pub after_told : (a : Act Done) (ps : List Path) (rs : List Answer) → AsksTold ps a → Each IsAnswer rs → AsksTold (told_after ps rs) (after a rs)
after_told a ps rs h k = asks_after RequestTold IsAnswer DoneTold ps a rs (λ qs r d p. each_map _ _ (grown_front (told_by r) qs) _ p) h k

-- ---- which paths were told

each_at : {A : Type 0} (P : A → Type 0) (xs : List A) (x : A) → Each P xs → Contains xs x → P x
each_at P [] x h c = let less = c.1 in absurd (omega (arith, less))
each_at P (y ∷ xs) x h (zero, less, is) = subst P is h.0
each_at P (y ∷ xs) x h (suc k, less, is) = each_at P xs x h.1 (k, omega (arith, less), is)

-- a fact of all that was told before, and of all that these answers tell
pub told_each : (P : Path → Type 0) (ps : List Path) (rs : List Answer) → Each P ps → Each (λ r. Each P (told_by r)) rs → Each P (told_after ps rs)
told_each P ps [] h k = h
told_each P ps (r ∷ rs) h k = told_each P (told_by r ++ ps) rs (each_append P (told_by r) ps k.0 h) k.1

-- What a call waits for has each fact that the futures told so far have: as that they are the calls of this caller
-- with a smaller number.
pub call_inputs_have : (P : Path → Type 0) (a : Act Done) (rs : List Answer) (app : ℕ) (arguments : List Value) (names : List Text) → AsksTold [] a → Each IsAnswer rs → Each (λ r. Each P (told_by r)) rs
    → request_of (run a rs) ≡ Some (request.Call app arguments names) → Each P (inputs arguments)
call_inputs_have P a rs app arguments names h k facts is =
    each_map (Contains (told_after [] rs)) P (λ p c. each_at P (told_after [] rs) p (told_each P [] rs tt facts) c) (inputs arguments) (call_inputs_told a [] rs app arguments names h k is)
