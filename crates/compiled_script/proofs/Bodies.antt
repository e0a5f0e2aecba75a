-- The programs of bodies, one after another.
use Rattle.std.proofs.Common.{◌≡◌, ◌<◌, ◌+◌, ℕ, zero, suc, List, [], ◌∷◌, ◌++◌, map, length, take, get_or, slice_get, refl, ap, sym, ◌∙◌, arith}
use Rattle.std.specs.Prelude.{IfSome}
use Rattle.std.specs.Arc.{arc_value}
use Rattle.std.specs.declared.sync.Arc.{Arc}
use Rattle.std.proofs.lemmas.List.{take_more}
use Rattle.script_tree.specs.declared.tree.AppDef.{AppDef}
use Rattle.body_program.specs.declared.code.Program.{Program}
use Rattle.compiled_script.specs.Programs.{ArePrograms, IsProgramOfApp}

module _ {Z : Type 0} (script : List AppDef) where
  abbrev Bodies : List AppDef → List (Arc Program Z) → Type 0
  Bodies apps bodies = ArePrograms script apps (map arc_value bodies)

  one_more : (apps : List AppDef) (app : AppDef) (bodies : List (Arc Program Z)) (body : Arc Program Z) → Bodies apps bodies → IsProgramOfApp script app (arc_value body) → Bodies (apps ++ app ∷ []) (bodies ++ body ∷ [])
  one_more [] app [] body h is = (is, tt)
  one_more [] app (b ∷ bodies) body h is = absurd h
  one_more (a ∷ apps) app [] body h is = absurd h
  one_more (a ∷ apps) app (b ∷ bodies) body h is = (h.0, one_more apps app bodies body h.1 is)

  -- the program of the next app
  pub next : (apps : List AppDef) (k : ℕ) (app : AppDef) (bodies : List (Arc Program Z)) (body : Arc Program Z) → k < length apps → app ≡ get_or apps k app → Bodies (take k apps) bodies → IsProgramOfApp script app (arc_value body) → Bodies (take (k + 1) apps) (bodies ++ body ∷ [])
  next apps k app bodies body within at h is =
      let front : take (k + 1) apps ≡ take k apps ++ app ∷ [] = take_more apps k app within ∙ ap (λ (a : AppDef). take k apps ++ a ∷ []) (sym at) in
      rw front (one_more (take k apps) app bodies body h is)

  pub counted : (apps : List AppDef) (bodies : List (Arc Program Z)) → Bodies apps bodies → length bodies ≡ length apps
  counted [] [] h = refl
  counted [] (b ∷ bodies) h = absurd h
  counted (a ∷ apps) [] h = absurd h
  counted (a ∷ apps) (b ∷ bodies) h = ap suc (counted apps bodies h.1)

  pub found : (apps : List AppDef) (bodies : List (Arc Program Z)) (k : ℕ) (body : Arc Program Z) → Bodies apps bodies → k < length apps → body ≡ get_or bodies k body → IfSome (slice_get apps k) (λ app. IsProgramOfApp script app (arc_value body))
  found [] bodies k body h within at = absurd (omega arith)
  found (a ∷ apps) [] k body h within at = absurd h
  found (a ∷ apps) (b ∷ bodies) zero body h within at = rw at h.0
  found (a ∷ apps) (b ∷ bodies) (suc k) body h within at = found apps bodies k body h.1 (omega arith) at
