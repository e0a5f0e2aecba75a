use Rattle.std.proofs.Common.{◌≡◌, ◌<◌, ◌^◌, None, length, refl, sym, ◌∙◌, ap, subst}
use Rattle.flow_base.specs.declared.outcome.Evaluation.{Evaluation}
use Rattle.flow_meaning.specs.Evaluations.{evaluation}
use Rattle.run_report.specs.Shown.{head_text}
use Rattle.script_tree.specs.Grammar.{PlacedTree}
use Rattle.stored_units.specs.Totals.{limit_met}
use Rattle.parsl_engine.specs.Output.{is_raised}
use Rattle.parsl_engine.specs.Runs.{without_losses}
use Rattle.parsl_engine.proofs.Opening.{few-apps}
use Rattle.parsl_engine.proofs.output.head_output.Goals as goal

pub evaluate-requires : goal.evaluate-requires
evaluate-requires c = subst (λ (p : PlacedTree). length p.tree.0 < 2 ^ 32) (sym c.in_ok-script.ensures) (few-apps c.args.script c.requires)

pub returns-in-Ok : goal.returns-in-Ok
returns-in-Ok c =
    let met = rw (c.new.ensures, c.in-Ok.is) at c.evaluate-2.ensures in
    let of = subst (λ (p : PlacedTree). (limit_met (without_losses p.tree) ≡ None) × (c.in-Ok.evaluation ≡ evaluation p.tree)) c.in_ok-script.ensures met in
    λ told. (
      record {
        within = of.0;
        head = c.in_ok-head-in-Ok.ensures ∙ ap head_text of.1;
        raised_is = c.has_raised.ensures ∙ ap (λ (e : Evaluation). is_raised e.main) of.1;
      },
      refl,
    )
