use Rattle.std.proofs.Common.{◌≡◌, IfOk, subst}
use Rattle.flow_meaning.specs.Operators.{Text}
use Rattle.app_eval.proofs.Joins.{joined_whole}
use Rattle.app_eval.proofs.texts.joined.Goals as goal

pub returns-in-len1-up : goal.returns-in-len1-up
returns-in-len1-up c =
    let P : Text → Type 0 = λ t. IfOk c.joined_to.result (λ text. text ≡ t) in
    subst P (joined_whole c.args.by.now c.first-item.result c.args.texts.now c.in-len1-up.len_at_least c.first-item.is) c.joined_to.ensures
