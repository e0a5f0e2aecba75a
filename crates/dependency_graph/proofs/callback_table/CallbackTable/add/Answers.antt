use Rattle.std.proofs.Common.{◌∙◌, ap, subst, sym, arith, ℕ, List, ◌≡◌, length}
use Rattle.dependency_graph.specs.declared.callback.FutureState.{FutureState}
use Rattle.dependency_graph.specs.Counts.{open_in}
use Rattle.dependency_graph.specs.Kept.{callbacks_of}
use Rattle.dependency_graph.specs.Rows.{rows_of, pushed, RowsHaveRoom}
use Rattle.dependency_graph.proofs.RowWrites.{rooms-longer}
use Rattle.dependency_graph.proofs.TableViews.{add-keeps}
use Rattle.dependency_graph.proofs.callback_table.CallbackTable.add.Goals as goal

pub push_each-requires-clause-room : goal.push_each-requires-clause-room
push_each-requires-clause-room c =
    rooms-longer c.reserve_each.new.rows.items c.push.new.self.items c.new.result c.as_slice-4.result.now c.in_ok-push.ensures.items
    (subst (RowsHaveRoom c.reserve_each.new.rows.items) (c.as_slice-3.ensures.value ∙ sym c.as_slice-4.ensures.value) c.in_ok-reserve_each.ensures.room)

pub invariant_of-self-2 : goal.invariant_of-self-2
invariant_of-self-2 c =
    let i = c.self.inside in
    let g = callbacks_of i.states.items i.callbacks.items i.made.items i.given in
    let number : c.len-c.result ≡ length i.callbacks.items = omega (arith, c.len-c.ensures) in
    let place : c.len-task.result ≡ length i.states.items = omega (arith, c.len-task.ensures) in
    let b = add-keeps g c.args.self.now c.args.inputs.items i.counts.items c.reserve-3.new.self.items c.push_reserved-2.new.self.items i.rows.items c.reserve_each.new.rows.items c.push.new.self.items c.push_each.new.rows.items c.new.result
    c.reserve.new.self.items c.push_reserved.new.self.items c.reserve-2.new.self.items c.push_reserved-3.new.self.items c.reserve-4.new.self.items c.push_if.new.made.items c.count_open-count.result c.len-c.result c.len-task.result _
    c.self.invariant c.self.view_is c.requires.below c.requires.distinct c.launch.ensures place number
    (c.count_open-count.ensures ∙ ap (λ (ss : List FutureState). open_in ss c.as_slice-2.result.now) c.as_slice.ensures.value ∙ ap (open_in i.states.items) c.as_slice-2.ensures.value)
    c.in_ok-reserve.ensures.items c.push_reserved.ensures.items
    c.in_ok-reserve-2.ensures.items c.push_reserved-3.ensures.items
    c.in_ok-reserve-4.ensures.items c.push_if.ensures.made
    c.in_ok-reserve-3.ensures.items c.push_reserved-2.ensures.items
    c.in_ok-reserve_each.ensures.same c.new.ensures.items c.in_ok-push.ensures.items
    (c.push_each.ensures ∙ ap (λ (l : List ℕ). pushed l c.len-c.result (rows_of c.push.new.self.items)) c.as_slice-4.ensures.value) in
    b.kept

pub returns-clause-ok : goal.returns-clause-ok
returns-clause-ok c =
    let i = c.self.inside in
    let g = callbacks_of i.states.items i.callbacks.items i.made.items i.given in
    let number : c.len-c.result ≡ length i.callbacks.items = omega (arith, c.len-c.ensures) in
    let place : c.len-task.result ≡ length i.states.items = omega (arith, c.len-task.ensures) in
    let b = add-keeps g c.args.self.now c.args.inputs.items i.counts.items c.reserve-3.new.self.items c.push_reserved-2.new.self.items i.rows.items c.reserve_each.new.rows.items c.push.new.self.items c.push_each.new.rows.items c.new.result
    c.reserve.new.self.items c.push_reserved.new.self.items c.reserve-2.new.self.items c.push_reserved-3.new.self.items c.reserve-4.new.self.items c.push_if.new.made.items c.count_open-count.result c.len-c.result c.len-task.result _
    c.self.invariant c.self.view_is c.requires.below c.requires.distinct c.launch.ensures place number
    (c.count_open-count.ensures ∙ ap (λ (ss : List FutureState). open_in ss c.as_slice-2.result.now) c.as_slice.ensures.value ∙ ap (open_in i.states.items) c.as_slice-2.ensures.value)
    c.in_ok-reserve.ensures.items c.push_reserved.ensures.items
    c.in_ok-reserve-2.ensures.items c.push_reserved-3.ensures.items
    c.in_ok-reserve-4.ensures.items c.push_if.ensures.made
    c.in_ok-reserve-3.ensures.items c.push_reserved-2.ensures.items
    c.in_ok-reserve_each.ensures.same c.new.ensures.items c.in_ok-push.ensures.items
    (c.push_each.ensures ∙ ap (λ (l : List ℕ). pushed l c.len-c.result (rows_of c.push.new.self.items)) c.as_slice-4.ensures.value) in
    b.view
