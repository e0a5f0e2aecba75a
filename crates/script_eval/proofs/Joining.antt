-- The body of a join, from one request to the next.
use Rattle.std.proofs.Common.{◌≡◌, ℕ, suc, ◌<◌, ◌≤◌, List, [], ◌∷◌, ◌++◌, length, map, Result, Ok, Err, IsErrAnd, refl, sym, ◌∙◌, ap, subst, arith, append_assoc, length-append}
use Rattle.std.specs.Prelude.{slice_get}
use Rattle.std.proofs.lemmas.List.{map-append, append-nil}
use Rattle.flow_base.specs.declared.value.Value.{Value}
use Rattle.flow_base.specs.declared.value.Value.TheVariants as v
use Rattle.flow_base.specs.declared.outcome.Exception.{Exception}
use Rattle.flow_base.specs.declared.outcome.Ended.{Ended}
use Rattle.flow_base.specs.declared.outcome.Ended.TheVariants as ended
use Rattle.script_tree.specs.declared.tree.AppDef.{AppDef}
use Rattle.script_tree.specs.Grammar.{Tree}
use Rattle.flow_meaning.specs.declared.walk.Request.{Request}
use Rattle.flow_meaning.specs.declared.walk.Request.TheVariants as request
use Rattle.flow_meaning.specs.declared.walk.Answer.{Answer}
use Rattle.flow_meaning.specs.declared.walk.Answer.TheVariants as answer
use Rattle.flow_meaning.specs.Act.{Act, Give, Throw, Ask, after}
use Rattle.flow_meaning.specs.Inputs.{Path, inputs}
use Rattle.flow_meaning.specs.Meaning.{Done}
use Rattle.flow_meaning.specs.Operators.{Text}
use Rattle.flow_meaning.specs.Sequential.{Task, Tasks, Ran, Rule, Made, no_calls, makes, join_answer, perform}
use Rattle.flow_meaning.specs.Walk.{body_act}
use Rattle.call_rules.specs.Calls.{Losses, child}
use Rattle.call_rules.proofs.Plain.{each-map}
use Rattle.call_rules.proofs.Tasks.{length-child}
use Rattle.stored_units.specs.Totals.{Storing, storings_in}
use Rattle.app_eval.specs.declared.running.Want.TheVariants as want
use Rattle.app_eval.specs.Walks.{first_want}
use Rattle.join_apps.specs.Bodies.{result_of}
use Rattle.script_eval.specs.declared.state.EvalState.{EvalState}
use Rattle.script_eval.specs.declared.evaluation.EvalFault.{EvalFault}
use Rattle.script_eval.specs.Faults.{Meets}
use Rattle.script_eval.specs.Answering.{shown, path_of, settled_from, limit_behind, Added, CanCall, made_by, rule_below, body_ran, JoinAnswers, BodyGives, made_for, calls_after}
use Rattle.script_eval.proofs.Calling.{can-more, meets-more, meets-same}
use Rattle.script_eval.proofs.Looking.{Alike, known-added}
use Rattle.script_eval.proofs.Ruling.{rule-alike}
use Rattle.script_eval.proofs.Storings.{AsDeep, storings-after}
use Rattle.script_eval.proofs.Under.{AreUnder, IsBelow, rule-below, under-makes, under-longer}

-- ---- what is added twice

pub added-both : (apps : List AppDef) (ts us : Tasks) (vs ws : List Value) (xs ys : List Storing) (s t u : EvalState) → Added apps ts vs xs s t → Added apps us ws ys t u → Added apps (ts ++ us) (vs ++ ws) (xs ++ ys) s u
added-both apps ts us vs ws xs ys s t u a b = record {
  tasks = b.tasks ∙ ap (λ (es : List _). es ++ map (shown apps) us) a.tasks ∙ append_assoc s.tasks.items (map (shown apps) ts) (map (shown apps) us) ∙ ap (λ (es : List _). s.tasks.items ++ es) (sym (map-append (shown apps) ts us));
  places = b.places ∙ ap (λ (ps : List Path). ps ++ map path_of us) a.places ∙ append_assoc s.places (map path_of ts) (map path_of us) ∙ ap (λ (ps : List Path). s.places ++ ps) (sym (map-append path_of ts us));
  printed = b.printed ∙ ap (λ (ps : List Value). ps ++ ws) a.printed ∙ append_assoc s.printed vs ws;
  limit = λ zs. ap (limit_behind s) (append_assoc xs ys zs) ∙ a.limit (ys ++ zs) ∙ b.limit zs;
}

pub added-none : (apps : List AppDef) (s : EvalState) → Added apps [] [] [] s s
added-none apps s = record { tasks = sym (append-nil s.tasks.items); places = sym (append-nil s.places); printed = sym (append-nil s.printed); limit = λ xs. refl }

added-same : (apps : List AppDef) (ts us : Tasks) (xs ys : List Storing) (s u : EvalState) → ts ≡ us → xs ≡ ys → Added apps ts [] xs s u → Added apps us [] ys s u
added-same apps ts us xs ys s u is same a = subst (λ (zs : List Storing). Added apps us [] zs s u) same (subst (λ (ws : Tasks). Added apps ws [] xs s u) is a)

-- ---- the next call

-- where the rule knows what it knew
pub made-same : (tree : Tree) (losses : Losses) (caller : Path) (n k app : ℕ) (arguments : List Value) (names : List Text) (ts us : Tasks) → n ≡ k → Alike ts us
    → made_by (rule_below tree losses caller) caller n app arguments names ts ≡ made_by (rule_below tree losses caller) caller k app arguments names us
made-same tree losses caller n k app arguments names ts us is same =
    ap (λ (i : ℕ). made_by (rule_below tree losses caller) caller i app arguments names ts) is
    ∙ ap with_ran (rule-alike tree.0 losses _ (child caller k) app arguments names ts us same)
  where
    with_ran : Ran → Tasks
    with_ran ran = record { path = child caller k; app = app; arguments = arguments; names = names; inputs = inputs arguments; outcome = ran.outcome } ∷ ran.below

as_deep : (caller : Path) (n : ℕ) (ts : Tasks) (path : Path) (i : ℕ) → path ≡ child caller i → AreUnder caller n ts → AsDeep (length path) ts
as_deep caller n ts path i is under =
    each-map (λ (t : Task). length caller < length t.path) (λ (t : Task). length path ≤ length t.path)
    (λ t longer. let long = ap length is ∙ length-child caller i in omega arith) ts (under-longer caller n ts under)

pub stored-more : (r : Rule) (caller : Path) (n app : ℕ) (arguments : List Value) (names : List Text) (ts known : Tasks) → AreUnder caller n ts
    → storings_in [] (ts ++ made_by r caller n app arguments names known) ≡ storings_in [] ts ++ storings_in [] (made_by r caller n app arguments names known)
stored-more r caller n app arguments names ts known under =
    let ran = r (child caller n) app arguments names known in
    storings-after ts (record { path = child caller n; app = app; arguments = arguments; names = names; inputs = inputs arguments; outcome = ran.outcome }) ran.below (as_deep caller n ts (child caller n) n refl under)

pub asked : (act : Act Done) (w : Request) → want.Asks w ≡ first_want act → (go : Answer → Act Done) × (act ≡ Ask w go)
asked (Give d) w h = absurd (cc)
asked (Throw exception) w h = absurd (cc)
asked (Ask u go) w h = (go, let same : w ≡ u = cc in ap (λ (y : Request). Ask y go) (sym same))

-- a caller of the same path
pub can-of : (p q : Path) (first calls : ℕ) (s : EvalState) → p ≡ q → CanCall q first calls s → CanCall p first calls s
can-of p q first calls s here can = subst (λ (r : Path). CanCall r first calls s) (sym here) can

pub from-zero : (path : Path) (first calls : ℕ) (s : EvalState) → CanCall path first calls s → CanCall path 0 calls s
from-zero path first calls s can = record { even = can.even; within = omega arith; few = can.few; free = can.free }

-- ---- the body

module _ (tree : Tree) (losses : Losses) (path : Path) where
  abbrev body_rule : Rule
  body_rule = rule_below tree losses path

  abbrev answers : Request → Made → Answer × Made
  answers = join_answer body_rule path

  below_all : IsBelow body_rule
  below_all = rule-below tree.0 losses _

  -- what the rest of the body stores
  record StoresMore (act : Act Done) (m : Made) : Type 0 where
    rest : List Storing
    is : storings_in [] (perform answers act m).1.tasks ≡ storings_in [] m.tasks ++ rest

  stored_on : (act : Act Done) (m : Made) → AreUnder path m.calls m.tasks → StoresMore act m
  stored_on (Give d) m under = record { rest = []; is = sym (append-nil (storings_in [] m.tasks)) }
  stored_on (Throw exception) m under = record { rest = []; is = sym (append-nil (storings_in [] m.tasks)) }
  stored_on (Ask (request.Call app arguments names) go) m under =
      let next = makes body_rule path app arguments names m in
      let more = stored_on (go next.0) next.1 (under-makes body_rule below_all path app arguments names m under) in
      let new = storings_in [] (made_by body_rule path m.calls app arguments names m.tasks) in
      record {
        rest = new ++ more.rest;
        is = more.is ∙ ap (λ (xs : List Storing). xs ++ more.rest) (stored-more body_rule path m.calls app arguments names m.tasks m.tasks under) ∙ append_assoc (storings_in [] m.tasks) new more.rest;
      }
  stored_on (Ask (request.WaitValue f) go) m under = let more = stored_on (go answer.Go) m under in record { rest = more.rest; is = more.is }
  stored_on (Ask (request.WaitName f) go) m under = let more = stored_on (go answer.Go) m under in record { rest = more.rest; is = more.is }
  stored_on (Ask (request.Print value) go) m under = let more = stored_on (go answer.Go) m under in record { rest = more.rest; is = more.is }
  stored_on (Ask request.Checkpoint go) m under = let more = stored_on (go answer.Go) m under in record { rest = more.rest; is = more.is }

  module _ (app : ℕ) (values : List Value) (before : EvalState) where
    pub record Joins (act : Act Done) (calls : ℕ) (now : EvalState) : Type 0 where
      pub m : Made
      pub same : calls ≡ m.calls
      pub few : m.calls ≤ length m.tasks
      pub under : AreUnder path m.calls m.tasks
      pub added : Added tree.0 m.tasks [] (storings_in [] m.tasks) before now
      pub performs : body_ran tree losses path app values ≡ perform answers act m

    pub joins-start : (act : Act Done) (calls : ℕ) → act ≡ body_act tree (slice_get tree.0 app) values → calls ≡ 0 → Joins act calls before
    joins-start act calls is none = record {
      m = no_calls;
      same = none;
      few = omega arith;
      under = tt;
      added = added-none tree.0 before;
      performs = ap (λ (a : Act Done). perform answers a no_calls) (sym is);
    }

    pub joins-can : (can : CanCall path 0 0 before) (act : Act Done) (calls first : ℕ) (now : EvalState) → first ≡ length before.tasks.items → Joins act calls now → CanCall path first calls now
    joins-can can act calls first now is j =
        subst (λ (n : ℕ). CanCall path first n now) (sym j.same)
        (can-more tree.0 j.m.tasks [] (storings_in [] j.m.tasks) before now path first j.m.calls can is j.few j.under j.added)

    module _ (can : CanCall path 0 0 before) (first : ℕ) (is-first : first ≡ length before.tasks.items) where
      known : (ts : Tasks) (now : EvalState) → Added tree.0 ts [] (storings_in [] ts) before now → Alike (settled_from first now) ts
      known ts now added = known-added tree.0 ts [] (storings_in [] ts) before now first can.even is-first added

      stay : (go : Answer → Act Done) (a : Answer) (calls : ℕ) (now next : EvalState) (m : Made) → calls ≡ m.calls → m.calls ≤ length m.tasks → AreUnder path m.calls m.tasks → Added tree.0 m.tasks [] (storings_in [] m.tasks) before now
          → body_ran tree losses path app values ≡ perform answers (go answer.Go) m → a ≡ answer.Go → Added tree.0 [] [] [] now next → Joins (go a) calls next
      stay go a calls now next m same few under added performs told more = record {
        m = m;
        same = same;
        few = few;
        under = under;
        added = added-same tree.0 (m.tasks ++ []) m.tasks (storings_in [] m.tasks ++ []) (storings_in [] m.tasks) before next (append-nil m.tasks) (append-nil (storings_in [] m.tasks)) (added-both tree.0 m.tasks [] [] [] (storings_in [] m.tasks) [] before now next added more);
        performs = performs ∙ ap (λ (b : Answer). perform answers (go b) m) (sym told);
      }

      step : (w : Request) (go : Answer → Act Done) (a : Answer) (calls : ℕ) (now next : EvalState) → Joins (Ask w go) calls now → JoinAnswers tree losses path first calls w now next (Ok a) → Joins (go a) (calls_after tree losses w calls) next
      step (request.Call k arguments names) go a calls now next j h =
          let made = makes body_rule path k arguments names j.m in
          let new = made_by body_rule path j.m.calls k arguments names j.m.tasks in
          let same : made_by body_rule path calls k arguments names (settled_from first now) ≡ new = made-same tree losses path calls j.m.calls k arguments names _ _ j.same (known j.m.tasks now j.added) in
          let both = added-both tree.0 j.m.tasks new [] [] (storings_in [] j.m.tasks) (storings_in [] new) before now next j.added (added-same tree.0 _ new _ _ now next same (ap (storings_in []) same) h.1) in
          let told : a ≡ made.0 = h.0 ∙ ap (λ (n : ℕ). answer.Called (v.Future (child path n) (length names))) j.same in
          record {
            m = made.1;
            same = ap suc j.same;
            few = (let long = length-append j.m.tasks new in let before = j.few in omega arith);
            under = under-makes body_rule below_all path k arguments names j.m j.under;
            added = added-same tree.0 _ _ _ _ before next refl (sym (stored-more body_rule path j.m.calls k arguments names j.m.tasks j.m.tasks j.under)) both;
            performs = j.performs ∙ ap (λ (b : Answer). perform answers (go b) made.1) (sym told);
          }
      step (request.WaitValue f) go a calls now next j h = stay go a calls now next j.m j.same j.few j.under j.added j.performs h.0 h.1
      step (request.WaitName f) go a calls now next j h = stay go a calls now next j.m j.same j.few j.under j.added j.performs h.0 h.1
      step (request.Print value) go a calls now next j h = stay go a calls now next j.m j.same j.few j.under j.added j.performs h.0 h.1
      step request.Checkpoint go a calls now next j h = stay go a calls now next j.m j.same j.few j.under j.added j.performs h.0 h.1

      pub joins-on : (act left : Act Done) (w : Request) (a : Answer) (calls : ℕ) (now next : EvalState) → Joins act calls now → want.Asks w ≡ first_want act → left ≡ act
          → JoinAnswers tree losses path first calls w now next (Ok a) → Joins (after left (a ∷ [])) (calls_after tree losses w calls) next
      joins-on act left w a calls now next j wants same h =
          let ask = asked act w wants in
          let joins : Joins (Ask w ask.0) calls now = subst (λ (b : Act Done). Joins b calls now) ask.1 j in
          subst (λ (b : Act Done). Joins (after b (a ∷ [])) (calls_after tree losses w calls) next) (sym (same ∙ ask.1)) (step w ask.0 a calls now next joins h)

      -- where the caller's path is this one
      pub joins-on-calls : (act left : Act Done) (w : Request) (a : Answer) (p : Path) (calls more : ℕ) (now next : EvalState) → p ≡ path → more ≡ calls_after tree losses w calls → Joins act calls now → want.Asks w ≡ first_want act → left ≡ act
          → JoinAnswers tree losses p first calls w now next (Ok a) → Joins (after left (a ∷ [])) more next
      joins-on-calls act left w a p calls more now next here is j wants same h =
          subst (λ (n : ℕ). Joins (after left (a ∷ [])) n next) (sym is) (joins-on act left w a calls now next j wants same (subst (λ (q : Path). JoinAnswers tree losses q first calls w now next (Ok a)) here h))

      -- ---- a limit that is met

      refused_further : (fault : EvalFault) (calls : ℕ) (now : EvalState) (act : Act Done) (j : Joins act calls now) (new : List Storing) (rest : List Storing)
          → storings_in [] (perform answers act j.m).1.tasks ≡ storings_in [] j.m.tasks ++ (new ++ rest) → Meets fault (limit_behind now new) → Meets fault (limit_behind before (storings_in [] (body_ran tree losses path app values).1.tasks))
      refused_further fault calls now act j new rest is met =
          meets-same fault _ _ (sym (ap (λ (r : Result Done Exception × Made). limit_behind before (storings_in [] r.1.tasks)) j.performs ∙ ap (limit_behind before) is ∙ j.added.limit (new ++ rest)))
          (meets-more fault now new rest met)

      refused : (fault : EvalFault) (w : Request) (go : Answer → Act Done) (calls : ℕ) (now : EvalState) → Joins (Ask w go) calls now
          → Meets fault (limit_behind now (storings_in [] (made_for tree losses path first calls w now))) → Meets fault (limit_behind before (storings_in [] (body_ran tree losses path app values).1.tasks))
      refused fault (request.Call k arguments names) go calls now j met =
          let next = makes body_rule path k arguments names j.m in
          let same = made-same tree losses path calls j.m.calls k arguments names (settled_from first now) j.m.tasks j.same (known j.m.tasks now j.added) in
          let new = storings_in [] (made_by body_rule path j.m.calls k arguments names j.m.tasks) in
          let more = stored_on (go next.0) next.1 (under-makes body_rule below_all path k arguments names j.m j.under) in
          refused_further fault calls now (Ask (request.Call k arguments names) go) j new more.rest
          (more.is ∙ ap (λ (xs : List Storing). xs ++ more.rest) (stored-more body_rule path j.m.calls k arguments names j.m.tasks j.m.tasks j.under) ∙ append_assoc (storings_in [] j.m.tasks) new more.rest)
          (meets-same fault _ _ (ap (λ (ts : Tasks). limit_behind now (storings_in [] ts)) same) met)
      refused fault (request.WaitValue f) go calls now j met = let more = stored_on (Ask (request.WaitValue f) go) j.m j.under in refused_further fault calls now _ j [] more.rest more.is met
      refused fault (request.WaitName f) go calls now j met = let more = stored_on (Ask (request.WaitName f) go) j.m j.under in refused_further fault calls now _ j [] more.rest more.is met
      refused fault (request.Print value) go calls now j met = let more = stored_on (Ask (request.Print value) go) j.m j.under in refused_further fault calls now _ j [] more.rest more.is met
      refused fault request.Checkpoint go calls now j met = let more = stored_on (Ask request.Checkpoint go) j.m j.under in refused_further fault calls now _ j [] more.rest more.is met

      pub joins-refused : (act : Act Done) (w : Request) (calls : ℕ) (now next : EvalState) (fault : EvalFault) (r : Result Ended EvalFault) → Joins act calls now → want.Asks w ≡ first_want act
          → JoinAnswers tree losses path first calls w now next (Err fault) → IsErrAnd r (λ e. e ≡ fault) → BodyGives tree losses (body_ran tree losses path app values) before next r
      joins-refused act w calls now next fault (Ok e) j wants h err = absurd err
      joins-refused act w calls now next fault (Err e) j wants h err =
          let ask = asked act w wants in
          subst (λ (f : EvalFault). Meets f (limit_behind before (storings_in [] (body_ran tree losses path app values).1.tasks))) (sym err)
          (refused fault w ask.0 calls now (subst (λ (b : Act Done). Joins b calls now) ask.1 j) h)

      pub joins-refused-at : (act : Act Done) (w : Request) (p : Path) (calls : ℕ) (now next : EvalState) (fault : EvalFault) (r : Result Ended EvalFault) → p ≡ path → Joins act calls now → want.Asks w ≡ first_want act
          → JoinAnswers tree losses p first calls w now next (Err fault) → IsErrAnd r (λ e. e ≡ fault) → BodyGives tree losses (body_ran tree losses path app values) before next r
      joins-refused-at act w p calls now next fault r here j wants h err = joins-refused act w calls now next fault r j wants (subst (λ (q : Path). JoinAnswers tree losses q first calls w now next (Err fault)) here h) err

    -- ---- the end

    gives : (act : Act Done) (e : Ended) (calls : ℕ) (now : EvalState) (j : Joins act calls now) → perform answers act j.m ≡ (result_of e, j.m) → BodyGives tree losses (body_ran tree losses path app values) before now (Ok e)
    gives act e calls now j is =
        let whole : body_ran tree losses path app values ≡ (result_of e, j.m) = j.performs ∙ is in
        subst (λ (r : Result Done Exception × Made). BodyGives tree losses r before now (Ok e)) (sym whole) (refl, j.added)

    pub joins-ended : (act : Act Done) (e : Ended) (calls : ℕ) (now : EvalState) → Joins act calls now → want.Ended e ≡ first_want act → BodyGives tree losses (body_ran tree losses path app values) before now (Ok e)
    joins-ended (Give d) e calls now j wants = gives (Give d) e calls now j (ap (λ (b : Ended). (result_of b, j.m)) (let same : ended.Value d.0 d.1 ≡ e = (let h = wants in cc) in same))
    joins-ended (Throw exception) e calls now j wants = gives (Throw exception) e calls now j (ap (λ (b : Ended). (result_of b, j.m)) (let same : ended.Raised exception ≡ e = (let h = wants in cc) in same))
    joins-ended (Ask w go) e calls now j wants = absurd (cc)
