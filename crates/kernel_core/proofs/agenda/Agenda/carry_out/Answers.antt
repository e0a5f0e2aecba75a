use Rattle.std.proofs.Common.{Some, refl, sym, ◌∙◌, ap, List}
use Rattle.std.proofs.lemmas.Result.{err_from_is_err_and}
use Rattle.dependency_graph.specs.declared.callback.Callback.{Callback}
use Rattle.dependency_graph.specs.declared.monitor.Settlement.{Settlement}
use Rattle.kernel_model.specs.Acts.{retold}
use Rattle.kernel_model.proofs.Retelling.{callback-retold, join-retold}
use Rattle.kernel_core.proofs.CarriedOut.{next-none, next-launch, next-failure, next-join, next-told, next-in, begin-turn, begin-undone, end-turn, end-undone}
use Rattle.kernel_core.proofs.NoneGiven.{none-serves}
use Rattle.kernel_core.proofs.agenda.Agenda.carry_out.Goals as goal

pub returns-in_default-clause-turn : goal.returns-in_default-clause-turn
returns-in_default-clause-turn g c =
    let w = c.args.state.now in
    let told = c.args.self.now.graph.told in
    let none = next-none _ _ w c.self.view_is c.facts.ensures.fact c.requires.serves c.in_default.ensures.none in
    (λ k h. none.0 k (callback-retold (retold told w) w.told k h), λ k h. none.1 k (join-retold (retold told w) w.told k h), ap (λ (t : List (List Settlement)). retold t w) (next-told _ _ w 0 c.next_callback.new.self c.self.view_is c.next_callback.ensures.after))

pub returns-in_default-clause-serves : goal.returns-in_default-clause-serves
returns-in_default-clause-serves g c = none-serves _ _ c.args.state.now c.next_callback.new.self c.self.view_is c.next_callback.ensures.exact c.in_default.ensures.is c.next_callback.ensures.after c.requires.serves

pub begin-requires-clause-callback : goal.begin-requires-clause-callback
begin-requires-clause-callback g c = (next-launch _ _ c.args.state.now c.self.view_is c.facts.ensures.fact c.requires.serves c.in-Launch.k c.next_callback.ensures.exact (sym (ap (λ (x : Callback). Some x) c.in-Launch.is) ∙ c.in-Some.ensures.is)).0

pub begin-requires-clause-serves : goal.begin-requires-clause-serves
begin-requires-clause-serves g c = next-in _ _ c.args.state.now c.in-Launch.k c.next_callback.new.self c.self.view_is c.next_callback.ensures.after (next-launch _ _ c.args.state.now c.self.view_is c.facts.ensures.fact c.requires.serves c.in-Launch.k c.next_callback.ensures.exact (sym (ap (λ (x : Callback). Some x) c.in-Launch.is) ∙ c.in-Some.ensures.is)).1

pub returns-in_err-begin-in-Launch-clause-err : goal.returns-in_err-begin-in-Launch-clause-err
returns-in_err-begin-in-Launch-clause-err g c =
    let p = err_from_is_err_and c.from_residual.result c.from_residual.ensures.1 in
    rw (p.1, p.2) (begin-undone _ _ c.args.state.now c.in-Launch.k c.next_callback.new.self c.self.view_is c.next_callback.ensures.after _ _ (next-launch _ _ c.args.state.now c.self.view_is c.facts.ensures.fact c.requires.serves c.in-Launch.k c.next_callback.ensures.exact (sym (ap (λ (x : Callback). Some x) c.in-Launch.is) ∙ c.in-Some.ensures.is)).0 c.in_err-begin-in-Launch.ensures.err)

pub returns-in_ok-begin-in-Launch-clause-turn : goal.returns-in_ok-begin-in-Launch-clause-turn
returns-in_ok-begin-in-Launch-clause-turn g c = begin-turn _ _ c.args.state.now c.in-Launch.k c.next_callback.new.self c.self.view_is c.next_callback.ensures.after _ (next-launch _ _ c.args.state.now c.self.view_is c.facts.ensures.fact c.requires.serves c.in-Launch.k c.next_callback.ensures.exact (sym (ap (λ (x : Callback). Some x) c.in-Launch.is) ∙ c.in-Some.ensures.is)).0 c.in_ok-begin-in-Launch.ensures.ok

pub begin-requires-in-DepFail-clause-callback : goal.begin-requires-in-DepFail-clause-callback
begin-requires-in-DepFail-clause-callback g c = (next-failure _ _ c.args.state.now c.self.view_is c.facts.ensures.fact c.requires.serves c.in-DepFail.k c.next_callback.ensures.exact (sym (ap (λ (x : Callback). Some x) c.in-DepFail.is) ∙ c.in-Some.ensures.is)).0

pub begin-requires-in-DepFail-clause-serves : goal.begin-requires-in-DepFail-clause-serves
begin-requires-in-DepFail-clause-serves g c = next-in _ _ c.args.state.now c.in-DepFail.k c.next_callback.new.self c.self.view_is c.next_callback.ensures.after (next-failure _ _ c.args.state.now c.self.view_is c.facts.ensures.fact c.requires.serves c.in-DepFail.k c.next_callback.ensures.exact (sym (ap (λ (x : Callback). Some x) c.in-DepFail.is) ∙ c.in-Some.ensures.is)).1

pub returns-in_err-begin-in-DepFail-clause-err : goal.returns-in_err-begin-in-DepFail-clause-err
returns-in_err-begin-in-DepFail-clause-err g c =
    let p = err_from_is_err_and c.from_residual-in_err-begin-in-DepFail.result c.from_residual-in_err-begin-in-DepFail.ensures.1 in
    rw (p.1, p.2) (begin-undone _ _ c.args.state.now c.in-DepFail.k c.next_callback.new.self c.self.view_is c.next_callback.ensures.after _ _ (next-failure _ _ c.args.state.now c.self.view_is c.facts.ensures.fact c.requires.serves c.in-DepFail.k c.next_callback.ensures.exact (sym (ap (λ (x : Callback). Some x) c.in-DepFail.is) ∙ c.in-Some.ensures.is)).0 c.in_err-begin-in-DepFail.ensures.err)

pub returns-in_ok-begin-in-DepFail-clause-turn : goal.returns-in_ok-begin-in-DepFail-clause-turn
returns-in_ok-begin-in-DepFail-clause-turn g c = begin-turn _ _ c.args.state.now c.in-DepFail.k c.next_callback.new.self c.self.view_is c.next_callback.ensures.after _ (next-failure _ _ c.args.state.now c.self.view_is c.facts.ensures.fact c.requires.serves c.in-DepFail.k c.next_callback.ensures.exact (sym (ap (λ (x : Callback). Some x) c.in-DepFail.is) ∙ c.in-Some.ensures.is)).0 c.in_ok-begin-in-DepFail.ensures.ok

pub end_join-requires-clause-over : goal.end_join-requires-clause-over
end_join-requires-clause-over g c = record { not_ended = c.requires.going; done = (next-join _ _ c.args.state.now c.self.view_is c.facts.ensures.fact c.requires.serves c.in-JoinDone.k c.next_callback.ensures.exact (sym (ap (λ (x : Callback). Some x) c.in-JoinDone.is) ∙ c.in-Some.ensures.is)).0 }

pub end_join-requires-clause-serves : goal.end_join-requires-clause-serves
end_join-requires-clause-serves g c = next-in _ _ c.args.state.now c.in-JoinDone.k c.next_callback.new.self c.self.view_is c.next_callback.ensures.after (next-join _ _ c.args.state.now c.self.view_is c.facts.ensures.fact c.requires.serves c.in-JoinDone.k c.next_callback.ensures.exact (sym (ap (λ (x : Callback). Some x) c.in-JoinDone.is) ∙ c.in-Some.ensures.is)).1

pub returns-in_err-end_join-in-JoinDone-clause-err : goal.returns-in_err-end_join-in-JoinDone-clause-err
returns-in_err-end_join-in-JoinDone-clause-err g c =
    let p = err_from_is_err_and c.from_residual-in_err-end_join-in-JoinDone.result c.from_residual-in_err-end_join-in-JoinDone.ensures.1 in
    rw (p.1, p.2) (end-undone _ _ c.args.state.now c.in-JoinDone.k c.next_callback.new.self c.self.view_is c.next_callback.ensures.after _ _ (next-join _ _ c.args.state.now c.self.view_is c.facts.ensures.fact c.requires.serves c.in-JoinDone.k c.next_callback.ensures.exact (sym (ap (λ (x : Callback). Some x) c.in-JoinDone.is) ∙ c.in-Some.ensures.is)).0 c.in_err-end_join-in-JoinDone.ensures.err)

pub returns-in_ok-end_join-in-JoinDone-clause-turn : goal.returns-in_ok-end_join-in-JoinDone-clause-turn
returns-in_ok-end_join-in-JoinDone-clause-turn g c = end-turn _ _ c.args.state.now c.in-JoinDone.k c.next_callback.new.self c.self.view_is c.next_callback.ensures.after _ (next-join _ _ c.args.state.now c.self.view_is c.facts.ensures.fact c.requires.serves c.in-JoinDone.k c.next_callback.ensures.exact (sym (ap (λ (x : Callback). Some x) c.in-JoinDone.is) ∙ c.in-Some.ensures.is)).0 c.in_ok-end_join-in-JoinDone.ensures.ok
