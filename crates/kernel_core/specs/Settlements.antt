-- What acts tell the monitors.
use Rattle.std.specs.Prelude.{◌≡◌, ◌⊎◌}
use Rattle.dependency_graph.specs.declared.monitor.Settlement.{Settlement}
use Rattle.dependency_graph.specs.Graphs.{Graph}
use Rattle.dependency_graph.specs.Monitors.{ToldFirst}
use Rattle.kernel_model.specs.declared.answers.Refusal.{Refusal}
use Rattle.kernel_model.specs.declared.answers.Refusal.TheVariants.{NoMemory}

-- an act was refused: no monitor was told, or, where memory was wanting, the first of them of its settlement
abbrev pub MayTell : Settlement → Graph → Graph → Refusal → Type 0
MayTell s old new refusal = (new.told ≡ old.told) ⊎ ((refusal ≡ NoMemory) × ToldFirst s old.told new.told)
