use Rattle.std.proofs.Common.{◌≡◌, ◌++◌, drop}
use Rattle.flow_meaning.specs.Meaning.{unwritten}
use Rattle.app_eval.proofs.running.unwritten.Given as goal

abbrev pub invariant-loop-name : goal.invariant-loop-name
invariant-loop-name l = l.written.items ++ unwritten (drop l._name-index l.names) ≡ unwritten l.names
