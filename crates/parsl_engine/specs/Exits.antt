-- The exit for a fault.
use Rattle.flow_base.specs.declared.shelf.ShelfFault.{ShelfFault}
use Rattle.flow_base.specs.declared.shelf.ShelfFault.TheVariants as shelf
use Rattle.parsl_engine.specs.declared.exit.Exit.{Exit}
use Rattle.parsl_engine.specs.declared.exit.Exit.TheVariants as exit
use Rattle.parsl_engine.specs.declared.script.ScriptFault.{ScriptFault}
use Rattle.parsl_engine.specs.declared.script.ScriptFault.TheVariants.{Refused, Limited, NoMemory}

abbrev pub exit_of : ScriptFault → Exit
exit_of (Refused refusal) = exit.Refused refusal
exit_of (Limited limit) = exit.Limited limit
exit_of NoMemory = exit.NoMemory

-- of a script that was not read
abbrev pub exit_unread : ShelfFault → Exit
exit_unread shelf.Failed = exit.Unread
exit_unread shelf.NoMemory = exit.NoMemory
