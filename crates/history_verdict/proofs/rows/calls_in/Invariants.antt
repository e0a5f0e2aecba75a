use Rattle.std.proofs.Common.{◌≡◌, ◌+◌, ◌≤◌, drop}
use Rattle.history_laws.specs.Tables.{calls_in}
use Rattle.history_verdict.proofs.rows.calls_in.Given as goal

abbrev pub invariant-loop-act : goal.invariant-loop-act
invariant-loop-act l = record { count : l.count + calls_in (drop l.act-index l.acts) ≡ calls_in l.acts; most : l.count ≤ l.act-index }
