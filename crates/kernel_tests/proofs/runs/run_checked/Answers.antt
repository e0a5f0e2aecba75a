use Rattle.std.proofs.Common.{◌<◌, ◌^◌, length, sym, subst}
use Rattle.script_tree.specs.Grammar.{PlacedTree}
use Rattle.parsl_engine.proofs.Opening.{few-apps}
use Rattle.kernel_tests.proofs.runs.run_checked.Goals as goal

pub run-requires : goal.run-requires
run-requires c = subst (λ (p : PlacedTree). length p.tree.0 < 2 ^ 32) (sym c.in-Ok.ensures.ok) (few-apps c.args.script c.requires)
