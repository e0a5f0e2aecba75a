-- The rule of a call, by what is known and by its app.
use Rattle.std.proofs.Common.{◌≡◌, ℕ, zero, suc, ◌-◌, true, List, Option, Some, None, refl, sym, ◌∙◌, ap, arith}
use Rattle.std.specs.Prelude.{slice_get}
use Rattle.flow_base.specs.declared.value.Value.{Value}
use Rattle.flow_base.specs.declared.outcome.Exception.TheVariants as x
use Rattle.flow_base.specs.declared.outcome.Outcome.TheVariants as o
use Rattle.script_tree.specs.declared.tree.AppDef.{AppDef}
use Rattle.script_tree.specs.Grammar.{Tree}
use Rattle.flow_meaning.specs.Inputs.{Path, inputs}
use Rattle.flow_meaning.specs.Operators.{Text}
use Rattle.flow_meaning.specs.Sequential.{Tasks, Ran, Rule, settles, runs, rule}
use Rattle.dependency_graph.specs.declared.readiness.Readiness.{Readiness}
use Rattle.dependency_graph.specs.declared.readiness.Readiness.TheVariants as readiness
use Rattle.dependency_graph.specs.Readiness.{ready, rest_of_rule, by_rules-ready}
use Rattle.call_rules.specs.Calls.{Losses}
use Rattle.call_rules.proofs.Agreeing.{ready-agrees}
use Rattle.script_eval.specs.Answering.{rule_below, join_at}
use Rattle.script_eval.proofs.Looking.{Alike, alike-agree}

module _ (apps : List AppDef) (losses : Losses) where
  app_alone : (r s : Rule) (path : Path) (app : Option AppDef) (values : List Value) (names : List Text) → runs apps losses zero r path app values names ≡ runs apps losses zero s path app values names
  app_alone r s path None values names = refl
  app_alone r s path (Some app) values names = refl

  rest_alone : (r s : Rule) (path : Path) (app : ℕ) (names : List Text) (what : Readiness) → rest_of_rule apps losses zero r path app names what ≡ rest_of_rule apps losses zero s path app names what
  rest_alone r s path app names (readiness.Settles exception) = refl
  rest_alone r s path app names (readiness.Runs values) = app_alone r s path (slice_get apps app) values names

  abbrev deepest : Rule
  deepest path app arguments names ts = settles (o.Failed x.DepthError)

  -- by what its first three rules say
  pub rule-is : (room less : ℕ) → less ≡ room - 1 → (path : Path) (app : ℕ) (arguments : List Value) (names : List Text) (ts : Tasks)
      → rule apps losses room path app arguments names ts ≡ rest_of_rule apps losses room (rule apps losses less) path app names (ready ts arguments)
  rule-is zero less is path app arguments names ts =
      by_rules-ready apps losses zero deepest path app names ts arguments ∙ rest_alone deepest (rule apps losses less) path app names (ready ts arguments)
  rule-is (suc room) less is path app arguments names ts =
      by_rules-ready apps losses (suc room) (rule apps losses room) path app names ts arguments
      ∙ ap (λ (n : ℕ). rest_of_rule apps losses (suc room) (rule apps losses n) path app names (ready ts arguments)) (let same : room ≡ less = omega arith in same)

  -- it looks at outcomes alone
  pub rule-alike : (room : ℕ) (path : Path) (app : ℕ) (arguments : List Value) (names : List Text) (ts us : Tasks) → Alike ts us
      → rule apps losses room path app arguments names ts ≡ rule apps losses room path app arguments names us
  rule-alike room path app arguments names ts us same =
      rule-is room (room - 1) refl path app arguments names ts
      ∙ ap (rest_of_rule apps losses room (rule apps losses (room - 1)) path app names) (ready-agrees ts us arguments (alike-agree ts us same (inputs arguments)))
      ∙ sym (rule-is room (room - 1) refl path app arguments names us)

-- ---- by its app

module _ (tree : Tree) (losses : Losses) (room : ℕ) (path : Path) (k : ℕ) (values : List Value) (names : List Text) where
  abbrev pub app_runs : Option AppDef → Ran
  app_runs app = runs tree.0 losses room (rule_below tree losses path) path app values names

  joins : (app : AppDef) (room : ℕ) → slice_get tree.0 k ≡ Some app → app.join ≡ true → runs tree.0 losses room (rule_below tree losses path) path (Some app) values names ≡ join_at tree losses room path k values
  joins app zero at is = rw is refl
  joins app (suc room) at is = rw (is, at) refl

  pub runs-joins : (app : AppDef) → slice_get tree.0 k ≡ Some app → app.join ≡ true → app_runs (slice_get tree.0 k) ≡ join_at tree losses room path k values
  runs-joins app at is = ap app_runs at ∙ joins app room at is
