use Rattle.std.proofs.Common.{◌<◌, ◌^◌, length, map, All, sym, subst}
use Rattle.script_tree.specs.Grammar.{PlacedTree}
use Rattle.event_log.specs.Logs.{InRange}
use Rattle.kernel_model.specs.Known.{no_retries}
use Rattle.parsl_engine.specs.Runs.{IsRun, refusal_of}
use Rattle.parsl_engine.specs.Tellings.{TellsRun}
use Rattle.parsl_engine.proofs.Opening.{few-apps}
use Rattle.parsl_engine.proofs.Outputs.{run_gives}
use Rattle.parsl_engine.proofs.output.report_output.Goals as goal

pub run_alone-run-requires : goal.run_alone-run-requires
run_alone-run-requires g c =
    subst (λ (p : PlacedTree). length p.tree.0 < 2 ^ 32) (sym c.in-Ok.ensures.ok) (few-apps c.args.script c.requires)

pub returns : goal.returns
returns g c =
    let ran = c.run_alone-run.result in
    let run = subst (λ (p : PlacedTree). IsRun p.tree ran.end ran.evaluation ran.history) c.in-Ok.ensures.ok c.run_alone-run.ensures.run in
    let told = map g.M.Monitor.told c.args.monitors.now.items in
    let told' = map g.M.Monitor.told ran.monitors.items in
    let before = rw c.replace-watching.ensures.value at c.run_alone-run.ensures.tells in
    let tells = subst (λ (p : PlacedTree). TellsRun p.tree (refusal_of ran.end) ran.history told told') c.in-Ok.ensures.ok before in
    let of = c.requires in
    let script = c.args.script in
    let names = c.texts_have_names.ensures of.bytes script.tree script.places of.is.text.has in
    let ranges = subst (All InRange) c.as_slice.ensures c.in_range.ensures in
    run_gives c.args.script ran.end ran.evaluation ran.history c.whole_report-output.result _ _ (λ whole. c.reports_are_read_back.ensures script.tree no_retries c.run_alone-run.result.history of.is.well_formed names whole.legal ranges) run tells c.whole_report-output.ensures
