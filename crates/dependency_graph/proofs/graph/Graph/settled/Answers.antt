use Rattle.std.proofs.Common.{map}
use Rattle.dependency_graph.proofs.Telling.{told-whole}
use Rattle.dependency_graph.proofs.graph.Graph.settled.Goals as goal

pub returns-clause-err : goal.returns-clause-err
returns-clause-err g c =
    let i = c.self.inside in
    told-whole c.args.settlement.now c.args.self.now i.paths i.table c.settle.new.self (map g.M.Monitor.told i.monitors.items) (map g.M.Monitor.told c.tell_all.new.monitors.items) c.self.view_is c.in_ok-tell_all.ensures.ok c.settle.result c.settle.ensures.err
