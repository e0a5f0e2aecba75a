use Rattle.std.proofs.Common.{refl}
use Rattle.app_future.proofs.tests.two_settled.Goals as goal

pub settle-requires : goal.settle-requires
settle-requires c = record { outputs = 2; is = rw (c.in_ok-table.ensures, c.in_ok-second.ensures) refl }

pub settle-requires-2 : goal.settle-requires-2
settle-requires-2 c = record { outputs = 2; is = rw (c.settle.ensures.settled, c.in_ok-table.ensures, c.in_ok-second.ensures, c.in_ok-third.ensures) refl }
