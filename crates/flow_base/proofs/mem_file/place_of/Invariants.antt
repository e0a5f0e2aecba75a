use Rattle.flow_base.proofs.Files.{NoneBefore}
use Rattle.flow_base.proofs.mem_file.place_of.Given as goal

abbrev pub invariant-loop-place : goal.invariant-loop-place
invariant-loop-place l = NoneBefore l.files l.name l.place
