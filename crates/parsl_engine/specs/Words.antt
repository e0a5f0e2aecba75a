-- What the words of a command line mean.
use Rattle.std.specs.Prelude.{ℕ, Bool, true, false, List, [], ◌∷◌, length, bytes_eq, codes, if◌then◌else◌, ◌==◌, None, Some}
use Rattle.std.specs.declared.option.Option.{Option}
use Rattle.parsl_engine.specs.declared.words.Command.{Command}
use Rattle.parsl_engine.specs.declared.words.Command.TheVariants.{Run, Seq, Check, Format}

-- a word that names a file: not empty, and no option
abbrev pub names_file : List ℕ → Bool
names_file [] = false
names_file (first ∷ rest) = if first == 45 then length rest == 0 else true

abbrev pub command_named : List ℕ → Option Command
command_named word = if bytes_eq word (codes "run") then Some Run else (if bytes_eq word (codes "seq") then Some Seq else (if bytes_eq word (codes "check") then Some Check else (if bytes_eq word (codes "format") then Some Format else None)))

-- a command, and the name of its script
abbrev pub Meaning : Type 0
Meaning = Command × List ℕ

abbrev pub on_script : List ℕ → Option Command → Option Meaning
on_script name None = None
on_script name (Some command) = if names_file name then Some (command, name) else None

abbrev pub meaning : List (List ℕ) → Option Meaning
meaning (command ∷ name ∷ []) = on_script name (command_named command)
meaning words = None

-- a command that waits for nobody
abbrev pub is_plain : Command → Bool
is_plain Run = false
is_plain _ = true
