use Rattle.std.proofs.Common.{◌≡◌, min, ◌^◌, ◌-◌, sum, map, take}
use Rattle.stored_units.specs.Stored.{file_units}
use Rattle.stored_units.proofs.units.files_units.Given as goal

abbrev pub invariant-loop-file : goal.invariant-loop-file
invariant-loop-file l = l.sum ≡ min (sum (map file_units (take l.file-index l.files))) (2 ^ 64 - 1)
