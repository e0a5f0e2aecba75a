-- The rows of a table whose tasks are over.
use Rattle.std.specs.Prelude.{◌≡◌, true, List, [], ◌∷◌, IsSome}
use Rattle.history_laws.specs.declared.table.Expected.{Expected}
use Rattle.history_laws.specs.Reads.{History, is_submitted, settled}

-- the task of each row is submitted and settled
abbrev pub AllOver : List Expected → History → Type 0
AllOver [] b = Unit {0}
AllOver (t ∷ ts) b = (is_submitted t.path b ≡ true) × IsSome (settled t.path b) × AllOver ts b
