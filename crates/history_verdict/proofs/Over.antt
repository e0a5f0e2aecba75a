-- A task is over by its path exactly where each row is over.
use Rattle.std.proofs.Common.{◌≡◌, List, [], ◌∷◌, true, arith}
use Rattle.std.specs.Prelude.{IsSome}
use Rattle.std.proofs.lemmas.Grind.{common_steps}
use Rattle.std.proofs.lemmas.Slice.Eq.{bytes_eq-Decides}
use Rattle.flow_meaning.specs.Inputs.{Path}
use Rattle.history_laws.specs.declared.table.Expected.{Expected}
use Rattle.history_laws.specs.declared.table.Table.{Table}
use Rattle.history_laws.specs.Tables.{task_in}
use Rattle.history_laws.specs.Reads.{History, is_submitted, settled}
use Rattle.history_laws.specs.Laws.{IsOver}
use Rattle.history_verdict.specs.Rows.{AllOver}

rows_submitted : (ts : List Expected) (b : History) → AllOver ts b → (p : Path) → IsSome (task_in ts p) → is_submitted p b ≡ true
rows_submitted [] b a p s = absurd (cc)
rows_submitted (t ∷ ts) b a p s = grind (arith, common_steps, bytes_eq-Decides, rows_submitted ts b a.2 p)

rows_settled : (ts : List Expected) (b : History) → AllOver ts b → (p : Path) → IsSome (task_in ts p) → IsSome (settled p b)
rows_settled [] b a p s = absurd (cc)
rows_settled (t ∷ ts) b a p s = grind (arith, common_steps, bytes_eq-Decides, rows_settled ts b a.2 p)

pub over_from_rows : (z : Table) (b : History) → AllOver z.tasks b → IsOver z b
over_from_rows z b a = record { submitted = rows_submitted z.tasks b a; settled = rows_settled z.tasks b a }

found_first : (t : Expected) (ts : List Expected) → IsSome (task_in (t ∷ ts) t.path)
found_first t ts = grind (arith, common_steps, bytes_eq-Decides)

found_later : (t : Expected) (ts : List Expected) (p : Path) → IsSome (task_in ts p) → IsSome (task_in (t ∷ ts) p)
found_later t ts p s = grind (arith, common_steps)

rows_over : (ts : List Expected) (b : History) → ((p : Path) → IsSome (task_in ts p) → is_submitted p b ≡ true) → ((p : Path) → IsSome (task_in ts p) → IsSome (settled p b)) → AllOver ts b
rows_over [] b u v = tt
rows_over (t ∷ ts) b u v = (u t.path (found_first t ts), v t.path (found_first t ts), rows_over ts b (λ p s. u p (found_later t ts p s)) (λ p s. v p (found_later t ts p s)))

pub rows_from_over : (z : Table) (b : History) → IsOver z b → AllOver z.tasks b
rows_from_over z b o = rows_over z.tasks b o.submitted o.settled

pub ruleset over_rules = (over_from_rows, rows_from_over)
