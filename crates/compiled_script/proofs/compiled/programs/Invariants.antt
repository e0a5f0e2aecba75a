use Rattle.std.proofs.Common.{map, take}
use Rattle.std.specs.Arc.{arc_value}
use Rattle.compiled_script.specs.Programs.{ArePrograms}
use Rattle.compiled_script.proofs.compiled.programs.Given as goal

abbrev pub invariant-loop-app : goal.invariant-loop-app
invariant-loop-app l = ArePrograms l.apps (take l.app-index l.apps) (map arc_value l.bodies.items)
