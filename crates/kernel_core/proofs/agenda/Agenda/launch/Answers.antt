use Rattle.std.proofs.Common.{refl, sym, ◌∙◌, ap, List, ℕ, ◌∷◌, [], ◌++◌, arith}
use Rattle.kernel_core.proofs.CarriedOut.{launched-serves}
use Rattle.kernel_core.proofs.agenda.Agenda.launch.Goals as goal

pub returns-clause-serves : goal.returns-clause-serves
returns-clause-serves g c =
    launched-serves _ _ _ c.args.state.now c.launch.new.self c.args.k c.self.view_is c.facts.ensures.fact c.requires.can c.requires.serves c.in_ok-launch.ensures.ok refl (c.push_back_reserved.ensures.items ∙ ap (λ (l : List ℕ). l ++ c.args.k ∷ []) c.in_ok-reserve.ensures.items) refl refl (omega arith) refl
