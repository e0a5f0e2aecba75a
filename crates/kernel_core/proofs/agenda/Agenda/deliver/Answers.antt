use Rattle.std.proofs.Common.{◌≡◌, refl, sym, ◌∙◌, ap, subst, arith}
use Rattle.flow_meaning.specs.Sequential.{outcome_of}
use Rattle.kernel_model.specs.Jobs.{JobView, DoneView}
use Rattle.kernel_model.specs.Turns.{IsRunning}
use Rattle.kernel_model.specs.Conditions.{CanFinish}
use Rattle.kernel_core.proofs.TurnsOfTasks.{can-finish}
use Rattle.kernel_core.proofs.Serving.{finished-serves, place-kept}
use Rattle.kernel_core.proofs.agenda.Agenda.deliver.Goals as goal

pub finish-requires-clause-can : goal.finish-requires-clause-can
finish-requires-clause-can g c =
    let job = ap (λ (d : DoneView). d.job) c.done.view_is in
    let ended : c.outcome_of.result ≡ outcome_of c.args.done.ended = c.outcome_of.ensures ∙ ap (λ (d : DoneView). outcome_of d.ended) c.done.view_is in
    let runs = subst (λ (j : JobView). IsRunning c.args.state.now j c.in-Some.k) job c.in-Some.ensures in
    subst (CanFinish c.args.state.now c.in-Some.k) (sym ended) (can-finish c.args.state.now c.args.done c.in-Some.k c.facts.ensures.fact.inv c.requires.going c.requires.end runs)

pub push_back_reserved-requires : goal.push_back_reserved-requires
push_back_reserved-requires g c =
    let place = place-kept _ _ c.args.state.now c.in-Some.k c.self.view_is c.requires.serves c.in-Some.ensures.running in
    omega (arith, place)

pub returns-clause-serves : goal.returns-clause-serves
returns-clause-serves g c =
    let job = ap (λ (d : DoneView). d.job) c.done.view_is in
    let ended : c.outcome_of.result ≡ outcome_of c.args.done.ended = c.outcome_of.ensures ∙ ap (λ (d : DoneView). outcome_of d.ended) c.done.view_is in
    let runs = subst (λ (j : JobView). IsRunning c.args.state.now j c.in-Some.k) job c.in-Some.ensures in
    let can = subst (CanFinish c.args.state.now c.in-Some.k) (sym ended) (can-finish c.args.state.now c.args.done c.in-Some.k c.facts.ensures.fact.inv c.requires.going c.requires.end runs) in
    finished-serves _ _ _ c.args.state.now c.finish.new.self c.in-Some.k c.outcome_of.result c.self.view_is c.facts.ensures.fact can c.requires.serves c.finish.ensures refl refl c.push_back_reserved.ensures.items refl (omega (arith, c.push_back_reserved.ensures.len, c.push_back_reserved.ensures.capacity)) refl
