-- The programs of apps.
use Rattle.std.specs.Prelude.{◌≡◌, true, false, List, [], ◌∷◌, Option, Some, None, if◌then◌else◌}
use Rattle.script_tree.specs.declared.tree.AppDef.{AppDef}
use Rattle.flow_meaning.specs.Operators.{Text}
use Rattle.flow_meaning.specs.Walk.{names_in}
use Rattle.body_program.specs.declared.code.Program.{Program}
use Rattle.body_program.specs.Resolved.{IsProgramOf}

-- there is an app, and it is a join
abbrev pub IsJoin : Option AppDef → Type 0
IsJoin (Some app) = app.join ≡ true
IsJoin None = ⊥

-- there is an app, and it isn't a join
abbrev pub IsPlainApp : Option AppDef → Type 0
IsPlainApp (Some app) = app.join ≡ false
IsPlainApp None = ⊥

-- The names of the apps that an app's body knows: a join's body knows all apps of the script, a plain app's body none.
abbrev pub known_in : List AppDef → AppDef → List Text
known_in apps app = if app.join then names_in apps else []

-- the program does what the body of the app does, in a script of these apps
abbrev pub IsProgramOfApp : List AppDef → AppDef → Program → Type 0
IsProgramOfApp apps app program = IsProgramOf program (known_in apps app) app.body app.parameters

-- each of these apps of a script has its program, at its place
abbrev pub ArePrograms : List AppDef → List AppDef → List Program → Type 0
ArePrograms script [] [] = Unit {0}
ArePrograms script (app ∷ apps) (program ∷ programs) = IsProgramOfApp script app program × ArePrograms script apps programs
ArePrograms script _ _ = ⊥
