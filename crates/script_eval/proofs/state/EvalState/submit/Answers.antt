use Rattle.std.proofs.Common.{◌≡◌, ◌<◌, ◌-◌, ◌^◌, min, length, arith}
use Rattle.stored_units.specs.Stored.{max_tasks, call_units}
use Rattle.script_eval.proofs.Limits.{submits-capped}
use Rattle.script_eval.proofs.state.EvalState.submit.Goals as goal

pub returns : goal.returns
returns c =
    let capped : c.call_units.result ≡ min (call_units c.args.arguments.now c.args.names.now) (2 ^ 64 - 1) = rw (← c.as_slice.ensures, ← c.as_slice-2.ensures) c.call_units.ensures in
    let below : length c.args.self.now.tasks.items < max_tasks = omega arith in
    submits-capped (call_units c.args.arguments.now c.args.names.now) c.call_units.result c.args.self.now c.store.new.self c.store.result capped below c.store.ensures
