use Rattle.std.proofs.Common.{◌≡◌, List, [], ◌∷◌, ◌++◌, sym, ap, ◌∙◌, subst, arith}
use Rattle.script_tree.specs.declared.tree.AppDef.{AppDef}
use Rattle.script_tree.specs.Grammar.{IsSpellable}
use Rattle.app_texts.proofs.Spellable.{two_spellable}
use Rattle.app_texts.proofs.tests.two_apps.Goals as goal

pub of-requires : goal.of-requires
of-requires c =
    let one : c.push.new.self ≡ c.in_ok-first.first ∷ [] = c.in_ok-push.ensures.ok ∙ ap (λ (apps : List AppDef). apps ++ c.in_ok-first.first ∷ []) c.new-apps.ensures in
    let both : c.push-2.new.self ≡ c.in_ok-first.first ∷ c.in_ok-second.second ∷ [] = c.in_ok-push-2.ensures.ok ∙ ap (λ (apps : List AppDef). apps ++ c.in_ok-second.second ∷ []) one in
    subst (λ (apps : List AppDef). IsSpellable (apps, c.nothing.result)) (sym both)
    (two_spellable c.in_ok-first.first c.in_ok-second.second c.nothing.result c.in_ok-first.ensures.tokens c.in_ok-second.ensures.tokens c.nothing.ensures.tokens
    c.in_ok-first.ensures.short c.in_ok-second.ensures.short (omega (arith, c.nothing.ensures.short)))
