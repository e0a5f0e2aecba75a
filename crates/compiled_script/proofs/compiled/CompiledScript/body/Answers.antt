use Rattle.std.proofs.Common.{ap, arith, length, slice_get, subst, ◌<◌}
use Rattle.std.specs.Prelude.{IfSome}
use Rattle.std.specs.Arc.{arc_value}
use Rattle.script_tree.specs.Grammar.{PlacedTree}
use Rattle.compiled_script.specs.Programs.{IsProgramOfApp}
use Rattle.compiled_script.proofs.Bodies.{counted, found}
use Rattle.compiled_script.proofs.compiled.CompiledScript.body.Goals as goal

pub index-requires : goal.index-requires
index-requires c =
    let apps = (arc_value c.self.inside.script).tree.0 in
    let count = counted apps apps c.self.inside.bodies.items c.self.invariant.1 in
    let same = ap (λ (s : PlacedTree). length s.tree.0) c.self.view_is in
    let held = c.self.inside.bodies.ok.0 in
    let below = c.requires in
    omega (arith, count, same, held, below)

pub returns : goal.returns
returns c =
    let apps = (arc_value c.self.inside.script).tree.0 in
    let same = ap (λ (s : PlacedTree). length s.tree.0) c.self.view_is in
    let below = c.requires in
    let within : c.args.app < length apps = omega (arith, same, below) in
    subst (λ (s : PlacedTree). IfSome (slice_get s.tree.0 c.args.app) (λ app. IsProgramOfApp s.tree.0 app (arc_value c.index.result.now))) c.self.view_is (found apps apps c.self.inside.bodies.items c.args.app c.index.result.now c.self.invariant.1 within c.index.ensures)
