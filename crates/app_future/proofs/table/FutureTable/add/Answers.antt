use Rattle.std.proofs.Common.{◌∙◌, vec_items}
use Rattle.indexmap.proofs.CallerLemmas.{insert_entry-new}
use Rattle.app_future.proofs.Entries.{absent, unchanged, one_more}
use Rattle.app_future.proofs.Settling.{grows_same, grows_added}
use Rattle.app_future.proofs.table.FutureTable.add.Goals as goal

pub returns-in_err-insert-clause-grows : goal.returns-in_err-insert-clause-grows
returns-in_err-insert-clause-grows c = grows_same c.args.self.now _ (unchanged vec_items c.self.inside.futures.entries c.args.self.now c.self.view_is c.insert.new.self.entries c.in_err-insert.ensures.err)

pub returns-clause-added : goal.returns-clause-added
returns-clause-added c =
    let same = c.in_ok-key.ensures.items ∙ c.as_slice.ensures in
    one_more vec_items c.self.inside.futures.entries c.args.self.now c.self.view_is c.insert.new.self.entries c.in_ok-key.key c.args.path c.open.result _ same c.open.ensures
    (c.in_ok-insert.ensures.entries ∙ insert_entry-new _ c.self.inside.futures c.in_ok-key.key c.open.result (absent vec_items c.self.inside.futures.entries c.args.self.now c.self.view_is c.in_ok-key.key c.args.path same c.requires))

pub returns-clause-grows : goal.returns-clause-grows
returns-clause-grows c = grows_added c.args.self.now _ _ (returns-clause-added c)
