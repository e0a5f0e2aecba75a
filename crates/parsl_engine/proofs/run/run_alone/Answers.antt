use Rattle.std.proofs.Common.{◌≡◌, map, refl}
use Rattle.parsl_engine.proofs.RunsTold.{unopened-tells}
use Rattle.parsl_engine.proofs.run.run_alone.Goals as goal

pub returns-in-Err-clause-tells : goal.returns-in-Err-clause-tells
returns-in-Err-clause-tells g c =
    let same : map g.M.Monitor.told c.in-Err.not_opened.monitors.items ≡ map g.M.Monitor.told c.args.monitors.items = rw c.in-Err.ensures.err.1 refl in
    unopened-tells _ _ _ _ _ c.in-Err.ensures.err.0 c.new-in-Err.ensures same
