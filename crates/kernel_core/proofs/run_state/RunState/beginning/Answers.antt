use Rattle.std.proofs.Common.{◌≡◌, ◌∙◌, Bool, length, refl, sym, ap, nat_lt}
use Rattle.std.specs.Prelude.{slice_get}
use Rattle.std.specs.Option.{option_copied}
use Rattle.script_tree.specs.Grammar.{PlacedTree}
use Rattle.dependency_graph.specs.Readiness.{ready}
use Rattle.flow_meaning.specs.Inputs.{Path}
use Rattle.call_rules.specs.Calls.{Call, has_room}
use Rattle.kernel_model.specs.Known.{known, call_at, path_at, apps_in}
use Rattle.kernel_core.proofs.RunReadings.{shows, pending-within, call-is, readiness-is, item-read}
use Rattle.kernel_core.proofs.TurnsOfTasks.{begins-with}
use Rattle.kernel_core.proofs.run_state.RunState.beginning.Goals as goal

pub returns : goal.returns
returns c =
    let w = c.args.self.now in
    let k = c.args.k in
    let s = shows _ w c.self.inside.tasks.items c.self.view_is refl refl in
    let within = pending-within w c.self.inside.tasks.items k s c.requires.pending in
    let calls = call-is w c.self.inside.tasks.items k c.index.result.now s within c.index.ensures in
    let apps : c.apps.result.now ≡ apps_in w = c.apps.ensures.apps ∙ ap (λ (t : PlacedTree). t.tree.0) c.script.ensures.script ∙ ap apps_in c.self.view_is in
    let number : c.app.result ≡ (call_at w k).app = c.app.ensures ∙ ap (λ (a : Call). a.app) (sym calls) in
    let at : slice_get (apps_in w) (call_at w k).app ≡ option_copied c.get-app.result = rw (← apps, ← number) (item-read c.apps.result.now c.app.result c.get-app.result c.get-app.ensures.lookup) in
    let given = c.as_slice-arguments.ensures ∙ c.arguments.ensures in
    let readiness : c.in_ok-readiness.readiness ≡ ready (known w) (call_at w k).arguments = c.in_ok-readiness.ensures ∙ readiness-is w c.self.inside.tasks.items _ k c.index.result.now c.as_slice-arguments.result.now s c.settled.ensures within c.index.ensures given in
    let path : c.path.result.now ≡ path_at w k = c.path.ensures ∙ ap (λ (a : Call). a.path) (sym calls) in
    let room : nat_lt c.len-room.result 64 ≡ has_room (path_at w k) = ap (λ n. nat_lt n 64) (c.len-room.ensures ∙ ap length path) in
    begins-with w k _ _ _ c.of.result at room readiness c.of.ensures
