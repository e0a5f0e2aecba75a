use Rattle.std.proofs.Common.{is_some, subst, ap, sym, ◌∙◌}
use Rattle.kernel_model.specs.Known.{Known}
use Rattle.kernel_model.specs.Invariants.{Inv}
use Rattle.kernel_core.proofs.LastEntry.{ended-last}
use Rattle.kernel_core.proofs.run_state.RunState.ended.Goals as goal

pub returns-in-Some : goal.returns-in-Some
returns-in-Some c =
    let has = rw c.deref.ensures.value at c.in-Some.ensures.value in
    c.is_end.ensures ∙ ended-last c.args.self.now c.self.inside.log.items c.in-Some.entry.now (subst Inv c.self.view_is c.self.invariant.0.fact.inv) (ap (λ (w : Known). w.past) c.self.view_is) (ap (λ (w : Known). is_some w.refusal) (sym c.self.view_is) ∙ sym c.is_some.ensures ∙ c.if-is_some.false) (sym has)
