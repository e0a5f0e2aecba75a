-- The body of a join, from one call to the next.
use Rattle.std.proofs.Common.{◌≡◌, ◌<◌, ◌≤◌, ◌^◌, ℕ, suc, List, [], ◌∷◌, ◌++◌, length, Option, Some, None, Result, Ok, Err, IsErrAnd, refl, sym, ◌∙◌, ap, subst, arith, length-append}
use Rattle.std.specs.Prelude.{slice_get}
use Rattle.std.proofs.lemmas.List.{map-append, length-map}
use Rattle.std.proofs.lemmas.Option.{slice_get_within}
use Rattle.flow_base.specs.declared.value.Value.{Value}
use Rattle.flow_base.specs.declared.value.Value.TheVariants as v
use Rattle.flow_base.specs.declared.outcome.Exception.{Exception}
use Rattle.flow_base.specs.declared.outcome.Ended.TheVariants as ended
use Rattle.script_tree.specs.declared.tree.AppDef.{AppDef}
use Rattle.script_tree.specs.declared.body_kind.BodyKind.{BodyKind}
use Rattle.script_tree.specs.declared.body_kind.BodyKind.TheVariants.{Join}
use Rattle.script_tree.specs.Grammar.{Tree}
use Rattle.script_tree.specs.Rules.{body_of, IsWellFormed}
use Rattle.flow_meaning.specs.declared.walk.Request.{Request}
use Rattle.flow_meaning.specs.declared.walk.Request.TheVariants as request
use Rattle.flow_meaning.specs.declared.walk.Answer.{Answer}
use Rattle.flow_meaning.specs.declared.walk.Answer.TheVariants as answer
use Rattle.flow_meaning.specs.Act.{Act, Give, Throw, Ask, after}
use Rattle.flow_meaning.specs.Inputs.{Path}
use Rattle.flow_meaning.specs.Meaning.{Done}
use Rattle.flow_meaning.specs.Sequential.{perform}
use Rattle.flow_meaning.specs.Walk.{body_act}
use Rattle.body_requests.specs.Asks.{Asks, AsksWell, RequestIn, IsDeclared, AnyAnswer, AnyDone}
use Rattle.body_requests.specs.Laws.{BodiesAskWell}
use Rattle.call_rules.specs.Calls.{Call, Dry, child, dry_answer, join_dry}
use Rattle.stored_units.specs.Stored.{max_tasks}
use Rattle.compiled_script.specs.Programs.{IsJoin}
use Rattle.app_eval.specs.declared.running.Want.TheVariants as want
use Rattle.app_eval.specs.Walks.{first_want}
use Rattle.join_apps.specs.declared.body.JoinCall.{JoinCall}
use Rattle.join_apps.specs.declared.body.JoinBody.{JoinBody}
use Rattle.join_apps.specs.declared.body.BodyFault.{BodyFault}
use Rattle.join_apps.specs.declared.body.BodyFault.TheVariants.{TooMany, NoMemory}
use Rattle.join_apps.specs.Bodies.{call_of, calls_of, result_of, Gives, RunsBody}
use Rattle.join_apps.specs.Making.{next_call, Answers, IsShortCall}
use Rattle.join_apps.proofs.Outputs.{few_outputs}

-- a join that is there has a number below the number of apps
pub number_below : (apps : List AppDef) (k : ℕ) → IsJoin (slice_get apps k) → k < length apps
number_below apps k h = at_app (slice_get apps k) refl h
  where
    at_app : (o : Option AppDef) → slice_get apps k ≡ o → IsJoin o → k < length apps
    at_app None at g = absurd g
    at_app (Some a) at g = slice_get_within apps k a at

-- calls stay, as more are made
grown : (caller : Path) (act : Act Done) (cs : List Call) → length cs ≤ length (perform (dry_answer caller) act cs).1
grown caller (Give d) cs = omega arith
grown caller (Throw exception) cs = omega arith
grown caller (Ask (request.Call app arguments names) go) cs =
    let c : Call = record { path = child caller (length cs); app = app; arguments = arguments; names = names } in
    let more = grown caller (go (answer.Called (v.Future (child caller (length cs)) (length names)))) (cs ++ c ∷ []) in
    let one = length-append cs (c ∷ []) in
    omega (arith, more, one)
grown caller (Ask (request.WaitValue f) go) cs = grown caller (go answer.Go) cs
grown caller (Ask (request.WaitName f) go) cs = grown caller (go answer.Go) cs
grown caller (Ask (request.Print value) go) cs = grown caller (go answer.Go) cs
grown caller (Ask request.Checkpoint go) cs = grown caller (go answer.Go) cs

asked : {w : Request} (act : Act Done) → want.Asks w ≡ first_want act → (go : Answer → Act Done) × (act ≡ Ask w go)
asked (Give d) h = absurd (cc)
asked (Throw exception) h = absurd (cc)
asked {w} (Ask u go) h = (go, let same : u ≡ w = cc in ap (λ (y : Request). Ask y go) same)

abbrev pub AsksJoin : List AppDef → List Path → Act Done → Type 0
AsksJoin apps = Asks (λ ps. RequestIn Join apps) AnyAnswer AnyDone

-- it asks for calls alone, which have few names
is_short_call : (tree : Tree) (w : Request) → IsWellFormed tree → RequestIn Join tree.0 w → IsShortCall w
is_short_call tree (request.Call app arguments names) right h = at_app (slice_get tree.0 app) refl h
  where
    at_app : (o : Option AppDef) → slice_get tree.0 app ≡ o → IsDeclared o (length arguments) (length names) → length names < 2 ^ 32
    at_app None at g = absurd g
    at_app (Some a) at g = let few = few_outputs tree app a right at in subst (λ (n : ℕ). n < 2 ^ 32) g.1 few
is_short_call tree (request.WaitValue f) right h = absurd h
is_short_call tree (request.WaitName f) right h = absurd h
is_short_call tree (request.Print value) right h = absurd h
is_short_call tree request.Checkpoint right h = absurd h

ends_so : (d : Dry) (body : JoinBody) (r : Result Done Exception) → r ≡ result_of body.ended → (r, calls_of body.calls.items) ≡ d → length body.calls.items ≤ max_tasks → Gives d (Ok body)
ends_so d body r is whole few =
    let counted = length-map body.calls.items call_of in
    subst (λ (x : Dry). Gives x (Ok body)) whole (refl, sym is, omega (arith, counted, few))

module _ (tree : Tree) (caller : Path) (app : Option AppDef) (arguments : List Value) where
  -- Behind these calls of its body this act is left: it only calls, and what it does then is the rest of the whole.
  pub record Stands (act : Act Done) (calls : List JoinCall) : Type 0 where
    pub a : AppDef
    pub is : app ≡ Some a
    pub told : List Path
    pub well : AsksJoin tree.0 told act
    pub whole : perform (dry_answer caller) act (calls_of calls) ≡ join_dry tree.0 caller a arguments

  -- what stands after one more call, and that it is one
  pub record Further (act : Act Done) (before now : List JoinCall) : Type 0 where
    pub stands : Stands act now
    pub one_more : length now ≡ suc (length before)
    pub few : length now ≤ max_tasks

  on_asked : {w : Request} {go : Answer → Act Done} {act : Act Done} {calls : List JoinCall} → act ≡ Ask w go → Stands act calls → Stands (Ask w go) calls
  on_asked {calls = calls} is s = subst (λ (x : Act Done). Stands x calls) is s

  pub asks_calls : {act : Act Done} {calls : List JoinCall} {w : Request} → IsWellFormed tree → Stands act calls → want.Asks w ≡ first_want act → IsShortCall w
  asks_calls {act} {calls} {w} right s wants =
      let ask = asked act wants in
      is_short_call tree w right (on_asked ask.1 s).well.0

  further_in : (go : Answer → Act Done) (before now : List JoinCall) (w : Request) (given : Answer) → Stands (Ask w go) before → Answers caller w before now (Ok given) → Further (go given) before now
  further_in go before now (request.Call number values names) given s h =
      let k : length (calls_of before) ≡ length before = length-map before call_of in
      let c = next_call caller before number values names in
      let made : calls_of (before ++ c ∷ []) ≡ calls_of before ++ call_of c ∷ [] = map-append call_of before (c ∷ []) in
      let future : ℕ → Answer = λ n. answer.Called (v.Future (child caller n) (length names)) in
      let step : perform (dry_answer caller) (go (future (length before))) (calls_of (before ++ c ∷ [])) ≡ perform (dry_answer caller) (Ask (request.Call number values names) go) (calls_of before) =
      ap (perform (dry_answer caller) (go (future (length before)))) made
      ∙ sym (ap (λ (n : ℕ). perform (dry_answer caller) (go (future n)) (calls_of before ++ (record { path = child caller n; app = number; arguments = values; names = names }) ∷ [])) k) in
      let longer = length-append before (c ∷ []) in
      let room = h.2 in
      let stands : Stands (go (future (length before))) (before ++ c ∷ []) = record { a = s.a; is = s.is; told = _; well = s.well.1 (future (length before)) tt; whole = step ∙ s.whole } in
      rw (h.0, h.1) (record { stands = stands; one_more = omega (arith, longer); few = omega (arith, longer, room) })
  further_in go before now (request.WaitValue f) given s h = absurd h
  further_in go before now (request.WaitName f) given s h = absurd h
  further_in go before now (request.Print value) given s h = absurd h
  further_in go before now request.Checkpoint given s h = absurd h

  pub further : {act left : Act Done} {before now : List JoinCall} {w : Request} (given : Answer)
      → Stands act before → want.Asks w ≡ first_want act → left ≡ act → Answers caller w before now (Ok given) → Further (after left (given ∷ [])) before now
  further {act} {left} {before} {now} {w} given s wants same h =
      let ask = asked act wants in
      let next : Further (after (Ask w ask.0) (given ∷ [])) before now = further_in ask.0 before now w given (on_asked ask.1 s) h in
      subst (λ (x : Act Done). Further (after x (given ∷ [])) before now) (sym (same ∙ ask.1)) next

  -- there is no room for the call
  refused_in : (go : Answer → Act Done) (before now : List JoinCall) (w : Request) (fault : BodyFault) → Stands (Ask w go) before → Answers caller w before now (Err fault) → RunsBody tree caller app arguments (Err fault)
  refused_in go before now (request.Call number values names) TooMany s h =
      let c : Call = record { path = child caller (length (calls_of before)); app = number; arguments = values; names = names } in
      let more = grown caller (go (answer.Called (v.Future (child caller (length (calls_of before))) (length names)))) (calls_of before ++ c ∷ []) in
      let k : length (calls_of before) ≡ length before = length-map before call_of in
      let longer = length-append (calls_of before) (c ∷ []) in
      let whole = ap (λ (d : Dry). length d.1) s.whole in
      rw s.is (omega (arith, more, k, longer, whole, h))
  refused_in go before now (request.Call number values names) NoMemory s h = rw s.is tt
  refused_in go before now (request.WaitValue f) fault s h = absurd h
  refused_in go before now (request.WaitName f) fault s h = absurd h
  refused_in go before now (request.Print value) fault s h = absurd h
  refused_in go before now request.Checkpoint fault s h = absurd h

  pub refused : {act : Act Done} {before : List JoinCall} {w : Request} (now : List JoinCall) (fault : BodyFault) (r : Result JoinBody BodyFault)
      → Stands act before → want.Asks w ≡ first_want act → Answers caller w before now (Err fault) → IsErrAnd r (λ e. e ≡ fault) → RunsBody tree caller app arguments r
  refused now fault (Ok body) s wants h err = absurd err
  refused {act} {before} {w} now fault (Err e) s wants h err =
      let ask = asked act wants in
      rw err (refused_in ask.0 before now w fault (on_asked ask.1 s) h)

  pub ends : (act : Act Done) (body : JoinBody) → Stands act body.calls.items → length body.calls.items ≤ max_tasks → want.Ended body.ended ≡ first_want act → RunsBody tree caller app arguments (Ok body)
  ends (Give d) body s few wants =
      let is : body.ended ≡ ended.Value d.0 d.1 = cc in
      rw s.is (ends_so _ body (Ok d) (rw is refl) s.whole few)
  ends (Throw exception) body s few wants =
      let is : body.ended ≡ ended.Raised exception = cc in
      rw s.is (ends_so _ body (Err exception) (rw is refl) s.whole few)
  ends (Ask w go) body s few wants = absurd (cc)

pub starts : (tree : Tree) (caller : Path) (k : ℕ) (arguments : List Value) (act : Act Done) (calls : List JoinCall) → IsWellFormed tree → BodiesAskWell → IsJoin (slice_get tree.0 k)
    → act ≡ body_act tree (slice_get tree.0 k) arguments → calls ≡ [] → Stands tree caller (slice_get tree.0 k) arguments act calls
starts tree caller k arguments act calls right law join left none = at_app (slice_get tree.0 k) refl join left
  where
    at_app : (o : Option AppDef) → slice_get tree.0 k ≡ o → IsJoin o → act ≡ body_act tree o arguments → Stands tree caller o arguments act calls
    at_app None at g same = absurd g
    at_app (Some a) at g same =
        let well : AsksWell (body_of a) tree.0 (body_act tree (Some a) arguments) = (law tree right).1 k a arguments at in
        let kind : body_of a ≡ Join = rw g refl in
        rw (same, none) (record { a = a; is = refl; told = []; well = subst (λ (b : BodyKind). AsksWell b tree.0 (body_act tree (Some a) arguments)) kind well; whole = refl })
