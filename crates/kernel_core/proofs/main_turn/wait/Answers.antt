use Rattle.std.proofs.Common.{ap, sym, ◌∙◌, [], ◌∷◌, ◌++◌}
use Rattle.flow_base.specs.declared.outcome.Outcome.{Outcome}
use Rattle.flow_meaning.specs.declared.walk.Answer.TheVariants as answer
use Rattle.kernel_model.specs.Known.{Known}
use Rattle.kernel_model.specs.Turns.{Step}
use Rattle.kernel_core.proofs.MainGoing.{told-stands, settled-request}
use Rattle.kernel_core.proofs.main_turn.wait.Goals as goal

pub returns-clause-answer : goal.returns-clause-answer
returns-clause-answer c =
    sym (ap (λ (s : Step). s.0) (settled-request c.args.state.now _ _ _ c.facts.ensures.fact.inv c.requires.waits (sym c.in-Some.ensures)))

pub returns-clause-after : goal.returns-clause-after
returns-clause-after c =
    c.in_ok-wait.ensures.ok _ (sym c.in-Some.ensures)
    ∙ sym (ap (λ (s : Step). s.1) (settled-request c.args.state.now _ _ _ c.facts.ensures.fact.inv c.requires.waits (sym c.in-Some.ensures)))

pub returns-clause-stands : goal.returns-clause-stands
returns-clause-stands c =
    told-stands c.args.state.now _ c.args.main.now _ _
    (ap (λ (w : Known). w.tree) (c.in_ok-wait.ensures.ok _ (sym c.in-Some.ensures)))
    (ap (λ (w : Known). w.answers) (c.in_ok-wait.ensures.ok _ (sym c.in-Some.ensures)) ∙ ap (λ (o : Outcome). c.args.state.now.answers ++ answer.Outcome o ∷ []) (sym c.in_ok-outcome.ensures))
    c.requires.taken c.tell.ensures.left c.tell.ensures.rest c.tell.ensures.ready
