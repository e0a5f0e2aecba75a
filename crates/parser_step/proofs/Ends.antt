-- What a statement's expression ends with.
use Rattle.std.proofs.Common.{◌≡◌, refl}
use Rattle.script_tree.specs.declared.tree.Expr.{Expr}
use Rattle.parser_model.specs.declared.block_state.ExprUse.{ExprUse}
use Rattle.parser_model.specs.declared.block_state.ExprUse.TheVariants as v
use Rattle.parser_model.specs.declared.block_state.BlockMove.TheVariants.{Halt}
use Rattle.parser_model.specs.Stages.{Other, ended}

pub other_halts : (wait : ExprUse) (e : Expr) → ended wait e Other ≡ Halt
other_halts (v.Let x) e = refl
other_halts (v.Set x) e = refl
other_halts v.While e = refl
other_halts (v.For x) e = refl
other_halts v.If e = refl
other_halts v.Return e = refl
other_halts v.Raise e = refl
other_halts v.Write e = refl
other_halts (v.WriteText d) e = refl
other_halts v.Print e = refl
other_halts (v.Argument x es) e = refl
other_halts (v.Names x es ns) e = refl
