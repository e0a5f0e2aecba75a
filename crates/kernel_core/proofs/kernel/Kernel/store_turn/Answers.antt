use Rattle.std.proofs.Common.{ap}
use Rattle.kernel_model.specs.Acts.{retold}
use Rattle.kernel_model.specs.Known.{Known}
use Rattle.kernel_core.proofs.MainKept.{store-keeps}
use Rattle.kernel_core.proofs.Turning.{turn-follows, store-refused-so}
use Rattle.kernel_core.proofs.kernel.Kernel.store_turn.Goals as goal
use Rattle.kernel_core.proofs.kernel.Kernel.store_turn.Goals.{in-Ok, in-Err}

pub invariant_of-self : goal.invariant_of-self
invariant_of-self g c =
    elim c.match-store_one.branch [
      | in-Ok w ↦ rw w.self-inside-is (turn-follows c.self.inside.agenda c.store_one.new.self c.self.inside.main c.self.inside.state c.store_one.new.state (store-keeps _ _ _ w.in-Ok.ensures.turn) c.self.invariant w.in-Ok.ensures.serves)
      | in-Err w ↦ rw w.self-inside-is (λ none. absurd (let e = ap (λ (s : Known). s.refusal) w.refuse.ensures in cc))
    ]

pub returns-clause-refused : goal.returns-clause-refused
returns-clause-refused g c =
    elim c.match-store_one.branch [
      | in-Ok w ↦ rw w.result-is tt
      | in-Err w ↦ rw (w.result-is, w.self-inside-is) (store-refused-so _ c.args.self.now _ _ _ c.self.view_is w.in-Err.ensures.err (ap (retold c.store_one.new.self.graph.told) w.refuse.ensures))
    ]
