use Rattle.std.proofs.Common.{◌∙◌, vec_items}
use Rattle.indexmap.proofs.CallerLemmas.{insert_entry-new}
use Rattle.script_eval.proofs.LossTable.{absent, one_more}
use Rattle.script_eval.proofs.losses.Losses.add.Goals as goal

pub returns-clause-added : goal.returns-clause-added
returns-clause-added c =
    let same = c.in_ok-key.ensures.items ∙ c.as_slice.ensures in
    one_more vec_items c.self.inside.managers.entries c.args.self.now c.self.view_is c.insert.new.self.entries c.in_ok-key.key c.args.path.now c.args.manager same
    (c.in_ok-insert.ensures.entries ∙ insert_entry-new _ c.self.inside.managers c.in_ok-key.key c.args.manager (absent vec_items c.self.inside.managers.entries c.args.self.now c.self.view_is c.in_ok-key.key c.args.path.now same c.requires))
