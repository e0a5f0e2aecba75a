use Rattle.std.proofs.Common.{sym}
use Rattle.flow_base.proofs.Names.{names-more}
use Rattle.flow_base.proofs.text.same_names.Goals as goal

pub loop-i-preserved : goal.loop-i-preserved
loop-i-preserved c = names-more c.args.names.now c.args.others.now c.loop-i.i c.index-names-i.result c.index-others-i.result c.loop-i-test.true c.if-names-others.false c.index-names-i.is c.index-others-i.is (sym c.if-not-same.ensures) c.loop-i.invariant
