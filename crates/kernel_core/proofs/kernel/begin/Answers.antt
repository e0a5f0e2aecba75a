use Rattle.std.proofs.Common.{ap}
use Rattle.script_tree.specs.Grammar.{PlacedTree}
use Rattle.kernel_core.proofs.Opened.{differ-by}
use Rattle.kernel_core.proofs.kernel.begin.Goals as goal

pub new-requires-2-clause-differ : goal.new-requires-2-clause-differ
new-requires-2-clause-differ c = differ-by c.in_ok-script.script.tree c.script-3.result.now (ap (λ (s : PlacedTree). s.tree) c.script-3.ensures.script) c.apps.ensures.spellable c.script-3.ensures.right
