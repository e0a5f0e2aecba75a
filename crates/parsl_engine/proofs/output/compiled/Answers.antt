use Rattle.std.proofs.Common.{◌<◌, ◌^◌, length, sym, subst}
use Rattle.script_tree.specs.Grammar.{PlacedTree}
use Rattle.parsl_engine.proofs.Opening.{few-apps}
use Rattle.parsl_engine.proofs.output.compiled.Goals as goal

pub of-requires : goal.of-requires
of-requires c = record { few = subst (λ (p : PlacedTree). length p.tree.0 < 2 ^ 32) (sym c.in_ok-script.ensures.ok) (few-apps c.args.script c.requires) }
