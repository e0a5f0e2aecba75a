use Rattle.std.proofs.Common.{◌≡◌, ◌-◌, None, length}
use Rattle.std.specs.VecDeque.{deque_len, deque_capacity}
use Rattle.agenda_model.specs.AgendaViews.{AgendaView}
use Rattle.agenda_model.specs.Agendas.{Serves}
use Rattle.kernel_core.proofs.agenda.Agenda.first_unstored.Given as goal

abbrev pub invariant-loop-k : goal.invariant-loop-k
invariant-loop-k g l =
    let a = l.self-inside in
    let now : AgendaView = record { graph = a.graph; launched = a.launched.items; over = a.over.items; kept = a.kept; spare = deque_capacity a.over - deque_len a.over; unsettled = a.unsettled } in
    (now ≡ record l.fn.self { kept = a.kept }) × Serves now l.state None

abbrev pub decreases-loop-k : goal.decreases-loop-k
decreases-loop-k g l = length l.self-inside.over.items - l.self-inside.kept
