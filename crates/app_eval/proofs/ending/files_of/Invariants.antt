use Rattle.std.proofs.Common.{◌≡◌, drop}
use Rattle.flow_meaning.specs.Meaning.{files_from, files_of}
use Rattle.app_eval.proofs.ending.files_of.Given as goal

abbrev pub invariant-loop-i : goal.invariant-loop-i
invariant-loop-i l = files_from l.files (drop l.i l.names) (drop l.i l.written) ≡ files_of l.names l.written
