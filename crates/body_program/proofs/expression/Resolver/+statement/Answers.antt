use Rattle.body_program.proofs.Following.{while_follows, for_follows, if_follows, if_else_follows, checkpoint_follows, next_follows, grows_none, grows_then, no_steps}
use Rattle.body_program.proofs.expression.Resolver.+statement.Goals as goal

pub turns-returns-clause-follows : goal.turns-returns-clause-follows
turns-returns-clause-follows t c = while_follows _ c.args.e.now c.args.body.now c.in_ok-condition.ensures.means c.in_ok-steps.ensures.grows c.in_ok-steps.ensures.follow

pub items-returns-clause-follows : goal.items-returns-clause-follows
items-returns-clause-follows t c = for_follows _ c.args.name.now c.args.e.now c.args.body.now c.in_ok-list.ensures.means c.in_ok-slot.ensures.grows c.in_ok-slot.ensures.slot c.in_ok-steps.ensures.grows c.in_ok-steps.ensures.follow

pub branch-returns-clause-follows : goal.branch-returns-clause-follows
branch-returns-clause-follows t c = rw c.new.ensures (if_follows _ c.args.e.now c.args.block.now c.in_ok-condition.ensures.means c.in_ok-steps.ensures.grows c.in_ok-steps.ensures.follow)

pub block-loop-statement-init : goal.block-loop-statement-init
block-loop-statement-init t c = (grows_none, rw c.new-steps.ensures no_steps)

pub block-loop-statement-preserved : goal.block-loop-statement-preserved
block-loop-statement-preserved t c = (grows_then c.loop-statement.invariant.0 c.statement.ensures.grows, rw c.in_ok-push.ensures.ok (next_follows _ _ _ c.statement-item.result c.loop-statement-test.true c.statement-item.is c.loop-statement.invariant.1 c.statement.ensures.grows c.in_ok-statement.ensures.follows))

pub statement-returns-in-Let-clause-follows : goal.statement-returns-in-Let-clause-follows
statement-returns-in-Let-clause-follows t c = rw c.in-Let.is c.declared.ensures.follows

pub statement-returns-in-Set-clause-follows : goal.statement-returns-in-Set-clause-follows
statement-returns-in-Set-clause-follows t c = rw c.in-Set.is c.assigned.ensures.follows

pub statement-returns-in-While-clause-follows : goal.statement-returns-in-While-clause-follows
statement-returns-in-While-clause-follows t c = rw (c.in-While.is, ← c.get.ensures) c.turns.ensures.follows

pub statement-returns-in-For-clause-follows : goal.statement-returns-in-For-clause-follows
statement-returns-in-For-clause-follows t c = rw (c.in-For.is, ← c.get-in-For.ensures) c.items.ensures.follows

pub statement-returns-in-Return-clause-follows : goal.statement-returns-in-Return-clause-follows
statement-returns-in-Return-clause-follows t c = rw c.in-Return.is c.returned.ensures.follows

pub statement-returns-in-Raise-clause-follows : goal.statement-returns-in-Raise-clause-follows
statement-returns-in-Raise-clause-follows t c = rw c.in-Raise.is c.raised.ensures.follows

pub statement-returns-in-Write-clause-follows : goal.statement-returns-in-Write-clause-follows
statement-returns-in-Write-clause-follows t c = rw c.in-Write.is c.written.ensures.follows

pub statement-returns-in-Print-clause-follows : goal.statement-returns-in-Print-clause-follows
statement-returns-in-Print-clause-follows t c = rw c.in-Print.is c.printed.ensures.follows

pub statement-returns-in-Call-clause-follows : goal.statement-returns-in-Call-clause-follows
statement-returns-in-Call-clause-follows t c = rw c.in-Call.is c.called.ensures.follows

pub statement-returns-in-Checkpoint-clause-follows : goal.statement-returns-in-Checkpoint-clause-follows
statement-returns-in-Checkpoint-clause-follows t c = rw c.in-Checkpoint.is (checkpoint_follows _)

pub statement-returns-in_ok-others-in-Some-clause-follows : goal.statement-returns-in_ok-others-in-Some-clause-follows
statement-returns-in_ok-others-in-Some-clause-follows t c = rw (c.in-If.is, c.in-Some.is, ← c.get-in-Some.ensures, ← c.get-in-Some-2.ensures) (if_else_follows _ c.in-If.e c.get-in-Some.result.now c.get-in-Some-2.result.now c.in_ok-condition-in-Some.ensures.means grows_none c.in_ok-condition-in-Some.ensures.follow c.in_ok-others-in-Some.ensures.grows c.in_ok-others-in-Some.ensures.follow)
