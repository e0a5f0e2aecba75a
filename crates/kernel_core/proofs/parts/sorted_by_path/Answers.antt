use Rattle.std.proofs.Common.{rules}
use Rattle.kernel_core.proofs.EndsInOrder.{sorted-ordered}
use Rattle.kernel_core.proofs.parts.sorted_by_path.Goals as goal

pub returns : goal.returns
returns c = sorted-ordered _ _ c.requires c.sort_unstable_by.ensures.permutation c.sort_unstable_by.ensures.sorted (λ a r f' k. search rules)
