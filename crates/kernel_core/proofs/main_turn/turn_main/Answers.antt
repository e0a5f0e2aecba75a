use Rattle.std.proofs.Common.{sym, ◌∙◌}
use Rattle.kernel_core.proofs.MainGoing.{main-asks, asked-refused}
use Rattle.kernel_core.proofs.main_turn.turn_main.Goals as goal

pub answer-requires-clause-asks : goal.answer-requires-clause-asks
answer-requires-clause-asks g c =
    main-asks c.args.state.now _ c.args.main.now _ c.reserve_step.ensures.same c.requires.going (sym c.if-is_main_over.ensures) c.requires.stands (sym c.in_ok-ended.ensures.wants ∙ c.in-Asks.is)

pub returns-in-Asks-clause-refused : goal.returns-in-Asks-clause-refused
returns-in-Asks-clause-refused g c =
    asked-refused c.args.state.now _ _ _ c.reserve_step.ensures.same
    (main-asks c.args.state.now _ c.args.main.now _ c.reserve_step.ensures.same c.requires.going (sym c.if-is_main_over.ensures) c.requires.stands (sym c.in_ok-ended.ensures.wants ∙ c.in-Asks.is))
    c.answer.ensures.refused
