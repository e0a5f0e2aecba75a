use Rattle.std.proofs.Common.{rules, arith, sym, ◌∙◌}
use Rattle.std.proofs.lemmas.Grind.{common_steps}
use Rattle.app_eval.proofs.Written.{missing_end, files_step}
use Rattle.app_eval.proofs.ending.files_of.Goals as goal

pub returns-in-None : goal.returns-in-None
returns-in-None c = sym c.loop-i.invariant ∙ missing_end c.loop-i.files c.args.names.now c.args.written.now c.loop-i.i (omega arith) (search rules)

pub loop-i-preserved : goal.loop-i-preserved
loop-i-preserved c = first_of (grind (arith, common_steps, files_step), search (rules, files_step))
