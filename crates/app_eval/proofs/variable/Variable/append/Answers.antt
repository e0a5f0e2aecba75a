use Rattle.std.proofs.Common.{◌≡◌, Some, sym, ◌∙◌}
use Rattle.flow_base.specs.declared.value.Value.TheVariants as v
use Rattle.app_eval.specs.Measures.{IsMeasureOf}
use Rattle.app_eval.proofs.Measures.{grown_is, appends_within, appends_past}
use Rattle.app_eval.proofs.variable.Variable.append.Goals as goal
use Rattle.app_eval.proofs.variable.Variable.append.Goals.{then-fits, else-fits}

grown : (c : goal.Joined-fits) → IsMeasureOf (Some c.with-grown.result) (v.List c.push.new.self)
grown c = grown_is c.measure-measure.result c.with-grown.result c.args.self.now c.in-List.items c.push.new.self c.args.item c.measure-measure.ensures (sym c.self.view_is ∙ sym c.in-List.ensures.value) c.with-grown.ensures c.in_ok-push-in-List.ensures.ok

pub invariant_of-self-in-List : goal.invariant_of-self-in-List
invariant_of-self-in-List c = grown c

pub returns-after-fits : goal.returns-after-fits
returns-after-fits c =
    let list : c.args.self.now ≡ v.List c.in-List.items = sym c.self.view_is ∙ sym c.in-List.ensures.value in
    elim c.if-fits.branch [
      | then-fits w ↦ rw w.result-is (appends_within c.with-grown.result c.args.self.now c.in-List.items c.push.new.self c.args.item list c.in_ok-push-in-List.ensures.ok (grown c) (sym c.fits.ensures ∙ w.if-fits.true))
      | else-fits w ↦ rw w.result-is (appends_past c.with-grown.result c.args.self.now c.in-List.items c.push.new.self c.args.item list c.in_ok-push-in-List.ensures.ok (grown c) (sym c.fits.ensures ∙ w.if-fits.false))
    ]
