use Rattle.std.proofs.Common.{ap}
use Rattle.flow_meaning.specs.declared.walk.Answer.TheVariants as answer
use Rattle.kernel_model.specs.Known.{Known}
use Rattle.kernel_core.proofs.MainGoing.{told-stands}
use Rattle.kernel_core.proofs.main_turn.print.Goals as goal

pub returns-clause-stands : goal.returns-clause-stands
returns-clause-stands c =
    told-stands c.args.state.now _ c.args.main.now _ answer.Go
    (ap (λ (w : Known). w.tree) c.in_ok-print.ensures.ok) (ap (λ (w : Known). w.answers) c.in_ok-print.ensures.ok)
    c.requires.taken c.tell.ensures.left c.tell.ensures.rest c.tell.ensures.ready
