use Rattle.std.proofs.Common.{ap, sym, ◌∙◌}
use Rattle.kernel_model.specs.declared.answers.ScriptTurn.TheVariants as turn
use Rattle.kernel_model.specs.Turns.{Step}
use Rattle.kernel_core.proofs.MainGoing.{first-request, again-request, arrived-again}
use Rattle.kernel_core.proofs.main_turn.stay.Goals as goal

pub returns-then-arrive-clause-answer : goal.returns-then-arrive-clause-answer
returns-then-arrive-clause-answer c =
    sym (ap (λ (s : Step). s.0) (first-request _ _ _ c.facts.ensures.fact.inv c.requires.waits c.requires.unsettled c.if-arrive.ensures.first))

pub returns-then-arrive-clause-after : goal.returns-then-arrive-clause-after
returns-then-arrive-clause-after c =
    c.arrive.ensures.after
    ∙ sym (ap (λ (s : Step). s.1) (first-request _ _ _ c.facts.ensures.fact.inv c.requires.waits c.requires.unsettled c.if-arrive.ensures.first))

pub returns-else-arrive-clause-answer : goal.returns-else-arrive-clause-answer
returns-else-arrive-clause-answer c =
    ap turn.Waiting (c.in_ok-path.ensures ∙ c.path.ensures)
    ∙ sym (ap (λ (s : Step). s.0) (again-request _ _ _ c.facts.ensures.fact.inv c.requires.waits c.requires.unsettled c.if-arrive.ensures.first))

pub returns-else-arrive-clause-after : goal.returns-else-arrive-clause-after
returns-else-arrive-clause-after c =
    c.arrive.ensures.after
    ∙ arrived-again c.args.state.now c.if-arrive.ensures.first
    ∙ sym (ap (λ (s : Step). s.1) (again-request _ _ _ c.facts.ensures.fact.inv c.requires.waits c.requires.unsettled c.if-arrive.ensures.first))
