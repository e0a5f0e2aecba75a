use Rattle.std.proofs.Common.{None, is_some, ap, sym, subst, ◌∙◌, vec_items, true≢false}
use Rattle.app_future.specs.Futures.{IsOpen}
use Rattle.app_future.proofs.Entries.{looked_up, one_settled}
use Rattle.app_future.proofs.Settling.{closed, grows_settled}
use Rattle.app_future.proofs.table.FutureTable.settle.Goals as goal

pub unreachable-requires : goal.unreachable-requires
unreachable-requires c =
    let none = looked_up vec_items c.self.inside.futures.entries c.args.self.now c.self.view_is c.as_slice.result.now c.args.path.now None c.as_slice.ensures c.in-None.ensures.value in
    true≢false (sym (ap is_some (none ∙ c.requires.is)))

pub returns-clause-settled : goal.returns-clause-settled
returns-clause-settled c = one_settled vec_items c.self.inside.futures.entries c.args.self.now c.self.view_is (c.get_mut.follows.lender c.settle.new.self).entries c.as_slice.result.now c.args.path.now c.args.outcome
    c.in-Some.entry.now c.settle.new.self c.as_slice.ensures c.in-Some.ensures.value c.settle.ensures (c.get_mut.follows.holds c.settle.new.self).0

pub returns-clause-grows : goal.returns-clause-grows
returns-clause-grows c = grows_settled c.args.self.now _ c.args.path.now c.args.outcome c.requires (returns-clause-settled c)

pub returns-clause-closed : goal.returns-clause-closed
returns-clause-closed c = λ again. closed c.args.self.now c.args.path.now c.args.outcome c.requires (subst (λ t. IsOpen t c.args.path.now) (returns-clause-settled c) again)
