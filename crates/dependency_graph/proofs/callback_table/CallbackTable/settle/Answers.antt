use Rattle.std.proofs.Common.{◌∙◌}
use Rattle.dependency_graph.specs.Kept.{callbacks_of}
use Rattle.dependency_graph.specs.Rows.{rows_of}
use Rattle.dependency_graph.proofs.TableViews.{row-read, row-within, settle-waits, settle-keeps}
use Rattle.dependency_graph.proofs.callback_table.CallbackTable.settle.Goals as goal

pub lower_each-requires-clause-wait : goal.lower_each-requires-clause-wait
lower_each-requires-clause-wait c =
    let i = c.self.inside in
    let g = callbacks_of i.states.items i.callbacks.items i.made.items i.given in
    let row = row-read i.rows.items c.args.task c.index-2.result.now (row-within g _ i.counts.items i.rows.items c.args.task c.self.invariant c.self.view_is c.requires.opened) c.index-2.ensures in
    settle-waits g _ c.args.task c.args.state i.counts.items (rows_of i.rows.items) _ c.self.invariant c.self.view_is c.requires.opened c.requires.closes (c.as_slice.ensures.value ∙ row)

pub invariant_of-self-2 : goal.invariant_of-self-2
invariant_of-self-2 c =
    let i = c.self.inside in
    let g = callbacks_of i.states.items i.callbacks.items i.made.items i.given in
    let row = row-read i.rows.items c.args.task c.index-2.result.now (row-within g _ i.counts.items i.rows.items c.args.task c.self.invariant c.self.view_is c.requires.opened) c.index-2.ensures in
    let b = settle-keeps g _ c.args.task c.args.state i.counts.items c.lower_each.new.counts.items (rows_of i.rows.items) _ c.reserve.new.self.items c.lower_each.new.made.items
    c.self.invariant c.self.view_is c.requires.opened c.requires.closes (c.as_slice.ensures.value ∙ row) c.lower_each.ensures.counts c.in_ok-reserve.ensures.items c.lower_each.ensures.made in
    b.kept

pub returns-clause-ok : goal.returns-clause-ok
returns-clause-ok c =
    let i = c.self.inside in
    let g = callbacks_of i.states.items i.callbacks.items i.made.items i.given in
    let row = row-read i.rows.items c.args.task c.index-2.result.now (row-within g _ i.counts.items i.rows.items c.args.task c.self.invariant c.self.view_is c.requires.opened) c.index-2.ensures in
    let b = settle-keeps g _ c.args.task c.args.state i.counts.items c.lower_each.new.counts.items (rows_of i.rows.items) _ c.reserve.new.self.items c.lower_each.new.made.items
    c.self.invariant c.self.view_is c.requires.opened c.requires.closes (c.as_slice.ensures.value ∙ row) c.lower_each.ensures.counts c.in_ok-reserve.ensures.items c.lower_each.ensures.made in
    b.view
