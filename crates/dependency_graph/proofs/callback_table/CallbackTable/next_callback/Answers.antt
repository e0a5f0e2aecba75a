use Rattle.std.proofs.Common.{arith}
use Rattle.dependency_graph.specs.Kept.{callbacks_of}
use Rattle.dependency_graph.specs.Rows.{rows_of}
use Rattle.dependency_graph.proofs.TableViews.{next-there, next-gives}
use Rattle.dependency_graph.proofs.callback_table.CallbackTable.next_callback.Goals as goal

pub index-requires : goal.index-requires
index-requires c =
    let i = c.self.inside in
    let h = c.in_ok-c.ensures.lookup in
    let there = next-there (callbacks_of i.states.items i.callbacks.items i.made.items i.given) i.counts.items (rows_of i.rows.items) c.deref.result.now c.in_ok-c.field-0.now c.self.invariant c.deref.ensures.value h.3.0 h.1 in
    omega (arith, there)

pub returns-clause-is : goal.returns-clause-is
returns-clause-is c =
    let i = c.self.inside in
    let h = c.in_ok-c.ensures.lookup in
    let b = next-gives (callbacks_of i.states.items i.callbacks.items i.made.items i.given) _ i.counts.items (rows_of i.rows.items) c.deref.result.now c.in_ok-c.field-0.now c.index.result.now c.as_slice.result.now _ c.self.invariant c.self.view_is c.deref.ensures.value h.3.0 h.1 c.index.ensures c.as_slice.ensures.value c.to_do.ensures in
    b.is

pub returns-clause-after : goal.returns-clause-after
returns-clause-after c =
    let i = c.self.inside in
    let h = c.in_ok-c.ensures.lookup in
    let b = next-gives (callbacks_of i.states.items i.callbacks.items i.made.items i.given) _ i.counts.items (rows_of i.rows.items) c.deref.result.now c.in_ok-c.field-0.now c.index.result.now c.as_slice.result.now _ c.self.invariant c.self.view_is c.deref.ensures.value h.3.0 h.1 c.index.ensures c.as_slice.ensures.value c.to_do.ensures in
    b.after
