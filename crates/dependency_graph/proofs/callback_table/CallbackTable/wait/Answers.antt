use Rattle.std.proofs.Common.{◌∙◌, ap, arith, List, ◌≡◌, length}
use Rattle.dependency_graph.specs.declared.callback.FutureState.{FutureState}
use Rattle.dependency_graph.specs.CallbackViews.{CallbackView}
use Rattle.dependency_graph.specs.Counts.{open_in}
use Rattle.dependency_graph.specs.Kept.{callbacks_of}
use Rattle.dependency_graph.specs.Rows.{rows_of}
use Rattle.dependency_graph.proofs.TableViews.{wait-keeps}
use Rattle.dependency_graph.proofs.callback_table.CallbackTable.wait.Goals as goal

pub invariant_of-self-2 : goal.invariant_of-self-2
invariant_of-self-2 c =
    let i = c.self.inside in
    let g = callbacks_of i.states.items i.callbacks.items i.made.items i.given in
    let number : c.len-c.result ≡ length i.callbacks.items = omega (arith, c.len-c.ensures) in
    let b = wait-keeps g c.args.self.now c.args.callback i.counts.items c.reserve-2.new.self.items c.push_reserved.new.self.items (rows_of i.rows.items) (rows_of c.reserve_each.new.rows.items) (rows_of c.push_each.new.rows.items)
    c.reserve.new.self.items c.push_reserved-2.new.self.items c.reserve-3.new.self.items c.push_if.new.made.items c.count_open-count.result c.len-c.result c.as_slice-2.result.now c.as_slice-4.result.now
    c.self.invariant c.self.view_is c.requires.below c.requires.distinct
    (c.as_slice-2.ensures.value ∙ ap (λ (w : CallbackView). w.inputs) c.callback.view_is) (c.as_slice-4.ensures.value ∙ ap (λ (w : CallbackView). w.inputs) c.callback.view_is)
    number (c.count_open-count.ensures ∙ ap (λ (ss : List FutureState). open_in ss c.as_slice-2.result.now) c.as_slice.ensures.value)
    c.in_ok-reserve.ensures.items c.push_reserved-2.ensures.items
    c.in_ok-reserve-3.ensures.items c.push_if.ensures.made
    c.in_ok-reserve-2.ensures.items c.push_reserved.ensures.items
    c.in_ok-reserve_each.ensures.same c.push_each.ensures in
    b.kept

pub returns-clause-ok : goal.returns-clause-ok
returns-clause-ok c =
    let i = c.self.inside in
    let g = callbacks_of i.states.items i.callbacks.items i.made.items i.given in
    let number : c.len-c.result ≡ length i.callbacks.items = omega (arith, c.len-c.ensures) in
    let b = wait-keeps g c.args.self.now c.args.callback i.counts.items c.reserve-2.new.self.items c.push_reserved.new.self.items (rows_of i.rows.items) (rows_of c.reserve_each.new.rows.items) (rows_of c.push_each.new.rows.items)
    c.reserve.new.self.items c.push_reserved-2.new.self.items c.reserve-3.new.self.items c.push_if.new.made.items c.count_open-count.result c.len-c.result c.as_slice-2.result.now c.as_slice-4.result.now
    c.self.invariant c.self.view_is c.requires.below c.requires.distinct
    (c.as_slice-2.ensures.value ∙ ap (λ (w : CallbackView). w.inputs) c.callback.view_is) (c.as_slice-4.ensures.value ∙ ap (λ (w : CallbackView). w.inputs) c.callback.view_is)
    number (c.count_open-count.ensures ∙ ap (λ (ss : List FutureState). open_in ss c.as_slice-2.result.now) c.as_slice.ensures.value)
    c.in_ok-reserve.ensures.items c.push_reserved-2.ensures.items
    c.in_ok-reserve-3.ensures.items c.push_if.ensures.made
    c.in_ok-reserve-2.ensures.items c.push_reserved.ensures.items
    c.in_ok-reserve_each.ensures.same c.push_each.ensures in
    b.view
