-- The run of two parts of a body is the run of the second behind the run of the first.
use Rattle.std.proofs.Common.{◌≡◌, List, [], ◌∷◌, refl}
use Rattle.flow_meaning.specs.declared.walk.Answer.{Answer}
use Rattle.flow_meaning.specs.Act.{Act, Give, Throw, Ask, ◌>>=◌}
use Rattle.flow_meaning.specs.Run.{run, then_run}

pub run-bind : {A B : Type 0} (a : Act A) (f : A → Act B) (rs : List Answer) → run (a >>= f) rs ≡ then_run (run a rs) f
run-bind (Give a) f rs = refl
run-bind (Throw x) f rs = refl
run-bind (Ask request go) f [] = refl
run-bind (Ask request go) f (r ∷ rs) = run-bind (go r) f rs
