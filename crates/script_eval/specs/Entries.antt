-- The entries of an index as lost tasks.
use Rattle.std.specs.Prelude.{ℕ, List, map}
use Rattle.flow_meaning.specs.Inputs.{Path}
use Rattle.script_eval.specs.Lost.{Lost}

abbrev pub lost_in : {K : Type 0} → (K → Path) → List (K × ℕ) → Lost
lost_in numbers entries = map (λ e. (numbers e.0, e.1)) entries
