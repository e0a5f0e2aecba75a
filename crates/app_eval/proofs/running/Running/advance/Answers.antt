use Rattle.std.proofs.Common.{refl, ap, ◌∙◌}
use Rattle.std.specs.Arc.{arc_value}
use Rattle.body_program.specs.declared.code.Program.{Program}
use Rattle.app_eval.proofs.Advances.{begin_fits, halted_advances, halted_fits}
use Rattle.app_eval.proofs.running.Running.advance.Goals as goal

pub returns-in-Err-clause-advances : goal.returns-in-Err-clause-advances
returns-in-Err-clause-advances c =
    let steps = c.as_slice-steps.ensures ∙ ap (λ (p : Program). p.steps) c.deref.ensures in
    halted_advances c.args.names.now c.args.self.now (record c.args.self.now { frame = c.steps.new.frame; place = c.replace-place.new.dest; told = c.steps.new.told }) c.halted.new.self c.as_slice-steps.result.now c.replace-place.result c.in-Err.halt c.halted.result steps c.replace-place.ensures.value refl c.in-Err.ensures.runs c.halted.ensures

pub returns-in-Err-clause-fits : goal.returns-in-Err-clause-fits
returns-in-Err-clause-fits c =
    let steps = c.as_slice-steps.ensures ∙ ap (λ (p : Program). p.steps) c.deref.ensures in
    halted_fits c.args.names.now (record c.args.self.now { frame = c.steps.new.frame; place = c.replace-place.new.dest; told = c.steps.new.told }) c.halted.new.self c.as_slice-steps.result.now c.in-Err.halt c.halted.result _ steps (begin_fits (arc_value c.args.self.now.program).steps c.replace-place.new.dest (c.replace-place.ensures.after ∙ c.beginning.ensures)) c.in-Err.ensures.runs c.halted.ensures
