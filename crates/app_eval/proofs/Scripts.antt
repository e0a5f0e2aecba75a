-- What the programs of plain apps do.
use Rattle.std.proofs.Common.{◌≡◌, ◌<◌, ℕ, if◌then◌else◌, List, [], length, slice_get, Option, Some, None, Result, Ok, Err, refl, ap, ◌∙◌}
use Rattle.std.proofs.lemmas.Option.{slice_get_within}
use Rattle.std.specs.Prelude.{IfOk, IfSome}
use Rattle.flow_base.specs.declared.value.Value.{Value}
use Rattle.flow_base.specs.declared.outcome.Ended.{Ended}
use Rattle.script_tree.specs.declared.tree.AppDef.{AppDef}
use Rattle.flow_meaning.specs.Meaning.{body}
use Rattle.flow_meaning.specs.Operators.{Text}
use Rattle.flow_meaning.specs.Sequential.{apply, end_of}
use Rattle.flow_meaning.specs.Walk.{names_in}
use Rattle.body_program.specs.declared.code.Program.{Program}
use Rattle.body_program.specs.Meaning.{program_act}
use Rattle.compiled_script.specs.Programs.{IsPlainApp, IsProgramOfApp}

-- a plain app that is there has a number below the number of apps
pub plain_below : (apps : List AppDef) (k : ℕ) → IsPlainApp (slice_get apps k) → k < length apps
plain_below apps k h = at_app (slice_get apps k) refl h
  where
    at_app : (o : Option AppDef) → slice_get apps k ≡ o → IsPlainApp o → k < length apps
    at_app None at g = absurd g
    at_app (Some a) at g = slice_get_within apps k a at

applies_so : (apps : List AppDef) (app : Option AppDef) (program : Program) (arguments : List Value) (names : List Text) (ended : Ended) → IsPlainApp app → IfSome app (λ found. IsProgramOfApp apps found program) → ended ≡ end_of (program_act program arguments names) → IfSome app (λ found. ended ≡ apply found arguments names)
unfolding apply
applies_so apps None program arguments names ended plain is e = absurd plain
applies_so apps (Some app) program arguments names ended plain is e = e ∙ ap end_of (is arguments names) ∙ ap (λ known. end_of (body (if known then names_in apps else []) app.body app.parameters arguments names)) plain

-- what the clone of a plain app's program gives
pub applies : {E : Type 0} (apps : List AppDef) (app : Option AppDef) (program cloned : Program) (arguments : List Value) (names : List Text) (result : Result Ended E) → IsPlainApp app → IfSome app (λ found. IsProgramOfApp apps found program) → cloned ≡ program → IfOk result (λ ended. ended ≡ end_of (program_act cloned arguments names)) → IfOk result (λ ended. IfSome app (λ found. ended ≡ apply found arguments names))
applies apps app program cloned arguments names (Ok ended) plain is same e = applies_so apps app program arguments names ended plain is (e ∙ ap (λ (p : Program). end_of (program_act p arguments names)) same)
applies apps app program cloned arguments names (Err x) plain is same e = tt
