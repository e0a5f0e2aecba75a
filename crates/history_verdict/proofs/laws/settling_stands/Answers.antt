use Rattle.history_verdict.proofs.Children.{settling_of_child}
use Rattle.history_verdict.proofs.laws.settling_stands.Goals as goal

pub returns-then-child_stands : goal.returns-then-child_stands
returns-then-child_stands c = (λ t. settling_of_child _ _ _ (c.child_stands.ensures.0 t), λ s. c.if-child_stands.true)
