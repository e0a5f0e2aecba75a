use Rattle.kernel_core.proofs.Turning.{script-refused-so}
use Rattle.kernel_core.proofs.kernel.Kernel.script_turn.Goals as goal
use Rattle.kernel_core.proofs.kernel.Kernel.script_turn.Goals.{in-Ok, in-Err}

pub returns-clause-refused : goal.returns-clause-refused
returns-clause-refused g c =
    elim c.match-turn_main.branch [
      | in-Ok w ↦ rw w.result-is tt
      | in-Err w ↦ rw (w.result-is, w.self-inside-is) (script-refused-so c.self.inside.agenda.graph.told c.turn_main.new.agenda.graph.told c.self.inside.state c.turn_main.new.state _ c.args.self.now _ c.self.view_is w.in-Err.ensures.err c.turn_main.ensures.told w.in-Err.ensures.refused w.refuse.ensures)
    ]
