use Rattle.std.proofs.Common.{List, ◌∙◌, ap}
use Rattle.std.specs.Prelude.{slice_get}
use Rattle.script_tree.specs.declared.tree.AppDef.{AppDef}
use Rattle.script_tree.specs.Grammar.{PlacedTree}
use Rattle.script_eval.proofs.evaluator.Evaluator.app.Goals as goal

pub returns : goal.returns
returns c = c.at.ensures ∙ ap (λ (xs : List AppDef). slice_get xs c.args.app) (c.apps.ensures.apps ∙ ap (λ (s : PlacedTree). s.tree.0) c.script.ensures.script)
