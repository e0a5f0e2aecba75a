use Rattle.kernel_core.proofs.Turning.{end-turn-so}
use Rattle.kernel_core.proofs.kernel.Kernel.end_turn.Goals as goal
use Rattle.kernel_core.proofs.kernel.Kernel.end_turn.Goals.{in-Ok, in-Err}

pub returns-clause-turn : goal.returns-clause-turn
returns-clause-turn g c =
    elim c.match-end_run.branch [
      | in-Ok w ↦ rw (w.result-is, w.self-inside-is) (end-turn-so c.self.inside.state _ c.self.inside.agenda.graph.told c.args.self.now _ c.self.view_is w.in-Ok.ensures.turn)
      | in-Err w ↦ rw w.result-is tt
    ]
