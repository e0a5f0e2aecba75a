use Rattle.std.proofs.Common.{◌∙◌, ap, arith}
use Rattle.std.specs.Option.{option_copied}
use Rattle.kernel_core.proofs.TaskReadings.{outcome-nowhere, outcome-missing, outcome-found}
use Rattle.kernel_core.proofs.reading.SettledOutcomes.outcome.Goals as goal

pub returns-in_err-k : goal.returns-in_err-k
returns-in_err-k c = ap option_copied c.from_residual.ensures ∙ outcome-nowhere c.args.self.now.places.now c.args.self.now.tasks.now c.args.path.now c.in_err-k.ensures.distinct c.in_err-k.ensures.place

pub returns-in_err-get : goal.returns-in_err-get
returns-in_err-get c =
    let read = c.in_err-get.ensures.lookup in
    ap option_copied c.from_residual-in_err-get.ensures ∙ outcome-missing c.args.self.now.places.now c.args.self.now.tasks.now c.args.path.now c.in_ok-k.k c.in_ok-k.ensures.distinct c.in_ok-k.ensures.place (omega arith)

pub returns : goal.returns
returns c =
    let read = c.in_ok-get.ensures.lookup in
    c.outcome.ensures ∙ outcome-found c.args.self.now.places.now c.args.self.now.tasks.now c.args.path.now c.in_ok-k.k c.in_ok-get.field-0.now c.in_ok-k.ensures.distinct c.in_ok-k.ensures.place (omega arith) read.1
