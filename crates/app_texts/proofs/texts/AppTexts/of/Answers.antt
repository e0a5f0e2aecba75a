use Rattle.std.proofs.Common.{List, Some, slice_get, ◌≡◌, refl, subst}
use Rattle.std.proofs.lemmas.Option.{slice_get_read}
use Rattle.script_tree.specs.declared.tree.AppDef.{AppDef}
use Rattle.app_texts.proofs.Bytes.{script_text_bytes}
use Rattle.app_texts.proofs.texts.AppTexts.of.Goals as goal

pub app_text-requires : goal.app_text-requires
app_text-requires c =
    let apps = c.apps-app-items.result.now in
    let at = slice_get_read apps _ c.loop-app.app-index c.app-item.result refl c.loop-app-test.true c.app-item.is in
    script_text_bytes c.args.script.now.tree c.apps-app-items.ensures.spellable c.loop-app.app-index c.app-item.result
    (subst (λ (z : List AppDef). slice_get z c.loop-app.app-index ≡ Some c.app-item.result) c.apps-app-items.ensures.apps at)
