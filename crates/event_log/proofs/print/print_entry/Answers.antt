use Rattle.std.proofs.Common.{◌≡◌, ◌++◌, ap, sym, ◌∙◌, append_assoc}
use Rattle.std.specs.Prelude.{codes, decimal}
use Rattle.std.proofs.lemmas.Result.{on_ok_weaker}
use Rattle.event_log.specs.LogText.{entry_text}
use Rattle.event_log.proofs.print.print_entry.Goals as goal

pub returns-in_ok-add-in-Checkpoint : goal.returns-in_ok-add-in-Checkpoint
returns-in_ok-add-in-Checkpoint c =
    let step : c.long-in-Checkpoint.new.self ≡ c.add-in-Checkpoint.new.self ++ decimal c.in-Checkpoint.count → c.long-in-Checkpoint.new.self ≡ c.args.writer.now ++ entry_text c.args.entry.now = λ e.
    e ∙ ap (λ w. w ++ decimal c.in-Checkpoint.count) c.in_ok-add-in-Checkpoint.ensures
    ∙ append_assoc c.args.writer.now (codes "checkpoint ") (decimal c.in-Checkpoint.count)
    ∙ ap (λ x. c.args.writer.now ++ entry_text x) (sym c.in-Checkpoint.is) in
    on_ok_weaker c.long-in-Checkpoint.result step c.long-in-Checkpoint.ensures
