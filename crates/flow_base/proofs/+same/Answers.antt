use Rattle.flow_base.proofs.Lengths.{as_many}
use Rattle.flow_base.proofs.+same.Goals as goal

pub same::all_same-returns-then-items-others : goal.same::all_same-returns-then-items-others
same::all_same-returns-then-items-others t c = as_many c.args.items.now c.args.others.now c.if-items-others.true
