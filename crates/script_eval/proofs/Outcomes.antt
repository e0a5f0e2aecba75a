-- The outcome of a call, rule by rule.
use Rattle.std.proofs.Common.{◌≡◌, ℕ, zero, suc, ◌-◌, ◌<◌, true, false, List, [], Option, Some, Result, Ok, refl, sym, ◌∙◌, ap, subst, arith, length, slice_get}
use Rattle.std.specs.Prelude.{IfSome}
use Rattle.flow_base.specs.Paths.{max_path}
use Rattle.flow_base.specs.declared.value.Value.{Value}
use Rattle.flow_base.specs.declared.outcome.Exception.{Exception}
use Rattle.flow_base.specs.declared.outcome.Outcome.{Outcome}
use Rattle.flow_base.specs.declared.outcome.Outcome.TheVariants as o
use Rattle.flow_base.specs.declared.outcome.Ended.{Ended}
use Rattle.script_tree.specs.declared.tree.AppDef.{AppDef}
use Rattle.script_tree.specs.Grammar.{Tree}
use Rattle.flow_meaning.specs.Inputs.{Path}
use Rattle.flow_meaning.specs.Operators.{Text}
use Rattle.flow_meaning.specs.Sequential.{Tasks, Ran, apply, join_outcome, lost_or, outcome_of, runs, settles}
use Rattle.dependency_graph.specs.declared.readiness.Readiness.{Readiness}
use Rattle.dependency_graph.specs.declared.readiness.Readiness.TheVariants as readiness
use Rattle.dependency_graph.specs.Readiness.{ready, rest_of_rule}
use Rattle.call_rules.specs.Calls.{Losses, awaited}
use Rattle.call_rules.proofs.Agreeing.{join-agrees}
use Rattle.stored_units.specs.Totals.{storings_in}
use Rattle.compiled_script.specs.Programs.{IsJoin, IsPlainApp}
use Rattle.join_apps.specs.Bodies.{result_of}
use Rattle.script_eval.specs.declared.state.EvalState.{EvalState}
use Rattle.script_eval.specs.declared.evaluation.EvalFault.{EvalFault}
use Rattle.script_eval.specs.Answering.{RanGives, BodyGives, CanCall, rule_at, rule_below, join_at, body_ran, settled_from}
use Rattle.script_eval.proofs.Joining.{added-none}
use Rattle.script_eval.proofs.Looking.{alike-agree, known-added}
use Rattle.script_eval.proofs.Ruling.{rule-is, runs-joins}

pub is-join : (app : Option AppDef) (found : AppDef) → app ≡ Some found → found.join ≡ true → IsJoin app
is-join app found at is = subst IsJoin (sym at) is

pub is-plain : (app : Option AppDef) (found : AppDef) → app ≡ Some found → found.join ≡ false → IsPlainApp app
is-plain app found at is = subst IsPlainApp (sym at) is

module _ (tree : Tree) (losses : Losses) (path : Path) (s : EvalState) where
  pub by-ran : (a b : Ran) (now : EvalState) (r : Result Outcome EvalFault) → a ≡ b → RanGives tree losses b s now r → RanGives tree losses a s now r
  by-ran a b now r same h = subst (λ (ran : Ran). RanGives tree losses ran s now r) (sym same) h

  settles_here : (outcome : Outcome) → RanGives tree losses (settles outcome) s s (Ok outcome)
  settles_here outcome = (refl, added-none tree.0 s)

  rest_at : (app : ℕ) (arguments : List Value) (names : List Text) (known : Tasks) (what : Readiness) → what ≡ ready known arguments
      → rule_at tree losses path path app arguments names known ≡ rest_of_rule tree.0 losses (max_path - length path) (rule_below tree losses path) path app names what
  rest_at app arguments names known what is =
      rule-is tree.0 losses (max_path - length path) (max_path - suc (length path)) (omega arith) path app arguments names known
      ∙ ap (rest_of_rule tree.0 losses (max_path - length path) (rule_below tree losses path) path app names) (sym is)

  pub outcome-settles : (app : ℕ) (arguments : List Value) (names : List Text) (known : Tasks) (what : Readiness) (exception : Exception) → what ≡ ready known arguments → what ≡ readiness.Settles exception
      → RanGives tree losses (rule_at tree losses path path app arguments names known) s s (Ok (o.Failed exception))
  outcome-settles app arguments names known what exception is at = by-ran _ (settles (o.Failed exception)) s (Ok (o.Failed exception)) (rest_at app arguments names known (readiness.Settles exception) (sym at ∙ is)) (settles_here (o.Failed exception))

  pub outcome-runs : (app : ℕ) (arguments : List Value) (names : List Text) (known : Tasks) (what : Readiness) (values : List Value) (now : EvalState) (r : Result Outcome EvalFault) → what ≡ ready known arguments → what ≡ readiness.Runs values
      → RanGives tree losses (runs tree.0 losses (max_path - length path) (rule_below tree losses path) path (slice_get tree.0 app) values names) s now r
      → RanGives tree losses (rule_at tree losses path path app arguments names known) s now r
  outcome-runs app arguments names known what values now r is at h = by-ran _ _ now r (rest_at app arguments names known (readiness.Runs values) (sym at ∙ is)) h

  -- what a plain app gives, where its task isn't lost
  abbrev plain_given : List Value → List Text → AppDef → Outcome
  plain_given values names app = lost_or (losses path) (outcome_of (apply app values names))

  plain_settles : (room : ℕ) (values : List Value) (names : List Text) (app : AppDef) → app.join ≡ false → runs tree.0 losses room (rule_below tree losses path) path (Some app) values names ≡ settles (plain_given values names app)
  plain_settles zero values names app is = rw is refl
  plain_settles (suc room) values names app is = rw is refl

  module _ (room k : ℕ) (values : List Value) (names : List Text) where
    abbrev its_runs : Ran
    its_runs = runs tree.0 losses room (rule_below tree losses path) path (slice_get tree.0 k) values names

    pub ran-joins : (app : AppDef) (now : EvalState) (r : Result Outcome EvalFault) → slice_get tree.0 k ≡ Some app → app.join ≡ true → RanGives tree losses (join_at tree losses room path k values) s now r → RanGives tree losses its_runs s now r
    ran-joins app now r at is h = by-ran _ _ now r (runs-joins tree losses room path k values names app at is) h

    pub ran-plain : (app : AppDef) (outcome : Outcome) → slice_get tree.0 k ≡ Some app → app.join ≡ false → IfSome (slice_get tree.0 k) (λ found. outcome ≡ plain_given values names found) → RanGives tree losses its_runs s s (Ok outcome)
    ran-plain app outcome at is gives =
        let same : outcome ≡ plain_given values names app = subst (λ (o : Option AppDef). IfSome o (λ found. outcome ≡ plain_given values names found)) at gives in
        let here = ap (λ (o : Option AppDef). runs tree.0 losses room (rule_below tree losses path) path o values names) at in
        by-ran its_runs (settles (plain_given values names app)) s (Ok outcome) (here ∙ plain_settles room values names app is) (same, added-none tree.0 s)

  -- ---- joins

  room_some : (room : ℕ) → 0 < room → room ≡ suc (room - 1)
  room_some room lt = omega arith

  pub joined-ends : (room k : ℕ) (values : List Value) (now : EvalState) (e : Ended) (outcome : Outcome) (first : ℕ) → 0 < room → CanCall path 0 0 s → first ≡ length s.tasks.items → BodyGives tree losses (body_ran tree losses path k values) s now (Ok e)
      → outcome ≡ join_outcome (settled_from first now) (result_of e) → RanGives tree losses (join_at tree losses room path k values) s now (Ok outcome)
  joined-ends room k values now e outcome first some can is body same =
      let r = body_ran tree losses path k values in
      let known = known-added tree.0 r.1.tasks [] (storings_in [] r.1.tasks) s now first can.even is body.1 in
      let whole : RanGives tree losses (join_at tree losses (suc (room - 1)) path k values) s now (Ok outcome) =
      (same ∙ join-agrees (settled_from first now) r.1.tasks (result_of e) (alike-agree (settled_from first now) r.1.tasks known (awaited (result_of e))) ∙ ap (join_outcome r.1.tasks) body.0, body.1) in
      by-ran _ (join_at tree losses (suc (room - 1)) path k values) now (Ok outcome) (ap (λ (n : ℕ). join_at tree losses n path k values) (room_some room some)) whole
