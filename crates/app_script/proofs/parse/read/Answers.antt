use Rattle.std.proofs.Common.{Ok, ◌∙◌, sym, subst, ◌<◌}
use Rattle.std.proofs.lemmas.Result.{err_from_is_err_and}
use Rattle.script_tree.specs.Grammar.{max_nesting}
use Rattle.app_script.specs.Lexer.{IsNext}
use Rattle.app_script.proofs.Reading.{begins, deep, ends, ends_short, spellable, stops_with, refuses_with}
use Rattle.app_script.proofs.parse.read.Goals as goal

pub loop-places-init : goal.loop-places-init
loop-places-init c = rw (c.new-lexer.ensures, c.new-places.ensures, c.nothing_read-state.ensures) (begins _ c.requires)

pub returns-in_err-place : goal.returns-in_err-place
returns-in_err-place c =
    let is = stops_with _ _ _ _ _ _ c.loop-places.invariant c.in_err-place.field-0.0 c.in_err-place.ensures.next in
    let p = err_from_is_err_and c.from_residual.result c.from_residual.ensures.1 in
    rw (p.1, p.2) is

pub returns-in_err-state : goal.returns-in_err-state
returns-in_err-state c =
    let next = subst (λ r. IsNext (Ok r) c.loop-places.lexer c.next.new.self) c.in-Some.is c.in_ok-place.ensures.next in
    let is = refuses_with _ _ c.next.new.self _ _ _ c.loop-places.invariant c.in-Some.field-0.place c.in-Some.field-0.token next c.in_err-state.field-0.0 c.in_err-state.ensures in
    let p = err_from_is_err_and c.from_residual-in_err-state.result c.from_residual-in_err-state.ensures.1 in
    rw (p.1, p.2) is

pub returns-then-depth-gt-MAX_NESTING : goal.returns-then-depth-gt-MAX_NESTING
returns-then-depth-gt-MAX_NESTING c =
    let next = subst (λ r. IsNext (Ok r) c.loop-places.lexer c.next.new.self) c.in-Some.is c.in_ok-place.ensures.next in
    deep _ _ c.next.new.self _ _ _ c.loop-places.invariant c.in-Some.field-0.place c.in-Some.field-0.token next c.in_ok-state.state c.in_ok-state.ensures
    (subst (λ n. max_nesting < n) c.nesting_after-depth.ensures c.if-depth-gt-MAX_NESTING.true)

pub of-requires : goal.of-requires
of-requires c =
    let none = subst (λ r. IsNext (Ok r) c.loop-places.lexer c.next.new.self) c.in_default.is c.in_ok-place.ensures.next in
    spellable _ _ c.next.new.self _ _ _ c.loop-places.invariant _ none (sym c.script_ended.ensures ∙ c.in-Some-script_ended.is)

pub returns-in-Some-script_ended : goal.returns-in-Some-script_ended
returns-in-Some-script_ended c =
    let none = subst (λ r. IsNext (Ok r) c.loop-places.lexer c.next.new.self) c.in_default.is c.in_ok-place.ensures.next in
    rw c.of.ensures (ends _ _ c.next.new.self _ _ _ c.loop-places.invariant _ none (sym c.script_ended.ensures ∙ c.in-Some-script_ended.is))

pub returns-in-None : goal.returns-in-None
returns-in-None c =
    let none = subst (λ r. IsNext (Ok r) c.loop-places.lexer c.next.new.self) c.in_default.is c.in_ok-place.ensures.next in
    ends_short _ _ c.next.new.self _ _ _ c.loop-places.invariant none (sym c.script_ended.ensures ∙ c.in-None.is)
