-- The entries of an index as a table.
use Rattle.std.specs.Prelude.{List, map}
use Rattle.app_future.specs.Futures.{Path, Future, Table}

abbrev pub table_of : {K : Type 0} → (K → Path) → List (K × Future) → Table
table_of numbers entries = map (λ e. (numbers e.0, e.1)) entries
