use Rattle.std.proofs.Common.{◌∙◌, ◌<◌, ◌≤◌, length, map, rules}
use Rattle.std.proofs.lemmas.List.{length-set}
use Rattle.dependency_graph.proofs.Telling.{on-err, told-next, told-some, told-each}
use Rattle.dependency_graph.proofs.graph.tell_all.Goals as goal

pub returns-in_err-settled-clause-err : goal.returns-in_err-settled-clause-err
returns-in_err-settled-clause-err g c =
    on-err _ (told-some g.M.Monitor.told c.args.settlement.now c.loop-i.monitors.items c.loop-i.i c.index_mut.result.now c.settled.new.self (map g.M.Monitor.told c.args.monitors.now.items) c.index_mut.ensures.value c.in_err-settled.ensures.err c.loop-i.invariant.told)

pub loop-i-preserved : goal.loop-i-preserved
loop-i-preserved g c =
    let within : c.loop-i.i < length c.loop-i.monitors.items = search rules in
    record {
      told = told-next g.M.Monitor.told c.args.settlement.now c.loop-i.monitors.items c.loop-i.i c.index_mut.result.now c.settled.new.self (map g.M.Monitor.told c.args.monitors.now.items) within c.index_mut.ensures.value c.in_ok-settled.ensures.ok c.loop-i.invariant.told;
      same = length-set c.loop-i.monitors.items c.loop-i.i c.settled.new.self ∙ c.loop-i.invariant.same;
    }

pub returns-clause-ok : goal.returns-clause-ok
returns-clause-ok g c =
    let all : length c.loop-i.monitors.items ≤ c.loop-i.i = search rules in
    told-each g.M.Monitor.told c.args.settlement.now c.loop-i.monitors.items c.args.monitors.now.items c.loop-i.i c.loop-i.invariant.same all c.loop-i.invariant.told
