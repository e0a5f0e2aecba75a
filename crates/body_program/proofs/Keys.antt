-- The names of slots, none of them twice.
use Rattle.std.specs.Prelude.{[], ◌∷◌}
use Rattle.app_index.specs.Names as names
use Rattle.body_program.specs.Resolved.{Table, IsDistinct}

pub distinct : (table : Table) → names.IsDistinct table → IsDistinct table
distinct [] h = tt
distinct (name ∷ more) h = (h.0, distinct more h.1)
