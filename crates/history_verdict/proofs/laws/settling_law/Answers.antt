use Rattle.std.proofs.Common.{sym, ◌∙◌}
use Rattle.history_verdict.proofs.laws.settling_law.Goals as goal

pub returns-then-not-has_end : goal.returns-then-not-has_end
returns-then-not-has_end c = (λ t. record { open_yet = sym c.has_end.ensures ∙ c.if-not-has_end.true; stands = c.settling_stands.ensures.0 t }, λ s. c.settling_stands.ensures.1 s.stands)
