-- Bodies ask only what is within the limits of values.
use Rattle.std.proofs.Common.{◌≡◌, ℕ, zero, suc, true, List, [], ◌∷◌, Option, Some, None, slice_get, ℤ, pos, sym, subst, arith}
use Rattle.std.specs.Prelude.{◌+ℤ◌}
use Rattle.flow_base.specs.declared.value.Value.{Value, out-Value, roll-Value, roll-out-Value}
use Rattle.flow_base.specs.declared.value.Value.TheOpen.{Value-F}
use Rattle.flow_base.specs.declared.value.Value.TheVariants as v
use Rattle.flow_base.specs.declared.outcome.FileOut.{FileOut}
use Rattle.flow_base.specs.declared.outcome.Exception.{Exception}
use Rattle.flow_base.specs.declared.outcome.Exception.TheVariants as x
use Rattle.flow_base.specs.declared.outcome.Outcome.{Outcome}
use Rattle.flow_base.specs.declared.outcome.Outcome.TheVariants as o
use Rattle.flow_base.specs.Exceptions.{exception_name}
use Rattle.script_tree.specs.declared.tree.Block.{Block}
use Rattle.script_tree.specs.declared.tree.AppDef.{AppDef}
use Rattle.script_tree.specs.Grammar.{Tree}
use Rattle.script_tree.specs.Marks.{Mark}
use Rattle.script_tree.specs.Marks as marks
use Rattle.flow_meaning.specs.declared.walk.Request.{Request}
use Rattle.flow_meaning.specs.declared.walk.Answer.{Answer}
use Rattle.flow_meaning.specs.Act.{Act, Give, Throw, Ask}
use Rattle.flow_meaning.specs.Run.{Ran, Gave, Threw, Asked, run, request_of}
use Rattle.flow_meaning.specs.Inputs.{Path}
use Rattle.flow_meaning.specs.Operators.{Layer, Text, ints_from}
use Rattle.flow_meaning.specs.Told.{told_name}
use Rattle.flow_meaning.specs.Meaning.{Done, file_fits, body}
use Rattle.flow_meaning.specs.Sequential.{apply, end_of}
use Rattle.flow_meaning.specs.Walk.{names_in, main_act, body_act}
use Rattle.body_requests.specs.Asks.{Each, IsFuture, told_after}
use Rattle.body_requests.specs.Within.{IsWithin, FileWithin, AnswerWithin, RequestWithin, DoneWithin, AsksWithin, EndsWithin}
use Rattle.body_requests.proofs.Acts.{each_any, AsksRan, asks_run}
use Rattle.body_requests.proofs.Operators.{Closed}
use Rattle.body_requests.proofs.Expressions.{Laws}
use Rattle.body_requests.proofs.Blocks.{body_asks}
use Rattle.body_requests.proofs.Sizes.{text_within, part_within, int_text_within, file_within, name_within, content_within, items_within, list_part_within, int_within, nothing_within, output_within, future_within}

abbrev AnyMark : Mark → Type 0
AnyMark m = Unit {0}

abbrev Within : List Path → Value → Type 0
Within ps value = IsWithin value

abbrev FileFits : Text → Text → Type 0
FileFits name content = file_fits name content ≡ true

ints_within : (a : ℤ) (n : ℕ) → Each IsWithin (ints_from a n)
ints_within a zero = tt
ints_within a (suc n) = (int_within a, ints_within (a +ℤ pos 1) n)

within_closed : (ps : List Path) → Closed (Within ps)
within_closed ps = record {
  int = int_within;
  nothing = nothing_within;
  text = λ t fits. fits;
  byte = λ b. text_within (b ∷ []) (omega arith);
  text_part = part_within;
  digits = λ n h. int_text_within n;
  file = λ name content fits. fits;
  name = name_within;
  content = content_within;
  list = λ vs h fits. fits;
  items = items_within;
  list_part = list_part_within;
  texts = λ ts fits. fits;
  output = λ path outputs k less h. output_within path k;
}

future_layer : (l : Layer) → IsFuture l → IsWithin (roll-Value l)
future_layer (Value-F.Future path outputs) h = subst IsWithin (sym (v.rolls-Future path outputs)) (future_within path outputs)
future_layer (Value-F.Int n) h = absurd h
future_layer (Value-F.Text t) h = absurd h
future_layer (Value-F.List vs) h = absurd h
future_layer (Value-F.File name content) h = absurd h
future_layer (Value-F.Output path index) h = absurd h
future_layer Value-F.Nothing h = absurd h

pub each_got : (files : List FileOut) (i : ℕ) (f : FileOut) → Each FileWithin files → slice_get files i ≡ Some f → FileWithin f
each_got [] i f h is = absurd (cc)
each_got (g ∷ files) zero f h is = let same : g ≡ f = cc in subst FileWithin same h.0
each_got (g ∷ files) (suc i) f h is = each_got files i f h.1 is

name_within_limits : (exception : Exception) → IsWithin (v.Text (exception_name exception))
name_within_limits x.ZeroDivisionError = text_within _ (omega arith)
name_within_limits x.OverflowError = text_within _ (omega arith)
name_within_limits x.TypeError = text_within _ (omega arith)
name_within_limits x.IndexError = text_within _ (omega arith)
name_within_limits x.ValueError = text_within _ (omega arith)
name_within_limits x.SizeError = text_within _ (omega arith)
name_within_limits x.BudgetError = text_within _ (omega arith)
name_within_limits x.MissingOutputs = text_within _ (omega arith)
name_within_limits (x.AppError t) = text_within _ (omega arith)
name_within_limits (x.DependencyError ps) = text_within _ (omega arith)
name_within_limits (x.JoinError ps) = text_within _ (omega arith)
name_within_limits x.DepthError = text_within _ (omega arith)
name_within_limits (x.ManagerLost n) = text_within _ (omega arith)

outcome_name : (outcome : Outcome) → IsWithin (v.Text (told_name outcome))
outcome_name (o.Value value files) = text_within [] (omega arith)
outcome_name (o.Failed exception) = name_within_limits exception

pub within_laws : (apps : List Text) → Laws apps Within RequestWithin AnswerWithin AnyMark FileFits
within_laws apps = record {
  closed = within_closed;
  grows = λ ps qs value g h. h;
  call = λ ps app arguments names calls c h texts. (h, texts);
  result = λ ps f name n at m w h. tt;
  exception = λ ps f name n at m w h. tt;
  prints = λ ps value m h. h;
  checkpoint = λ ps m. tt;
  called = λ ps f is. subst IsWithin (roll-out-Value f) (future_layer (out-Value f) is);
  value = λ ps value files is. is.0;
  output = λ ps value files i f is at. file_within f.name f.content (each_got files i f is.1 at);
  written = λ name content fits. fits;
  name = λ ps outcome is. outcome_name outcome;
}

-- ---- bodies

pub body_within : (apps : List Text) (block : Block) (parameters : List Text) (arguments : List Value) (names : List Text) → Each IsWithin arguments → AsksWithin (body apps block parameters arguments names)
body_within apps block parameters arguments names h = body_asks apps Within RequestWithin AnswerWithin AnyMark FileFits (within_laws apps) names block parameters arguments [] (each_any AnyMark (λ m. tt) (marks.block block)) h

pub main_within : (s : Tree) → AsksWithin (main_act s)
main_within s = body_within (names_in s.0) s.1 [] [] [] tt

pub act_within : (s : Tree) (app : Option AppDef) (arguments : List Value) → Each IsWithin arguments → AsksWithin (body_act s app arguments)
act_within s (Some a) arguments h = body_within (names_in s.0) a.body a.parameters arguments [] h
act_within s None arguments h = main_within s

ends_within : (a : Act Done) → AsksWithin a → EndsWithin (end_of a)
ends_within (Give d) h = h
ends_within (Throw exception) h = tt
ends_within (Ask request go) h = tt

-- a plain app's value and files are within the limits
pub apply_within : (app : AppDef) (arguments : List Value) (names : List Text) → Each IsWithin arguments → EndsWithin (apply app arguments names)
unfolding apply
apply_within app arguments names h = ends_within _ (body_within [] app.body app.parameters arguments names h)

asked_within : (ps : List Path) (ran : Ran Done) (w : Request) → AsksRan RequestWithin AnswerWithin DoneWithin ps ran → request_of ran ≡ Some w → RequestWithin ps w
asked_within ps (Gave d left) w h is = absurd (cc)
asked_within ps (Threw exception) w h is = absurd (cc)
asked_within ps (Asked request go) w h is = let same : request ≡ w = cc in subst (RequestWithin ps) same h.0

-- the request behind these answers
pub request_within : (a : Act Done) (rs : List Answer) (w : Request) → AsksWithin a → Each AnswerWithin rs → request_of (run a rs) ≡ Some w → RequestWithin (told_after [] rs) w
request_within a rs w h k is = asked_within (told_after [] rs) (run a rs) w (asks_run RequestWithin AnswerWithin DoneWithin [] a rs h k) is
