-- What is left of main's walk, and how it follows what is known of main.
use Rattle.std.specs.Prelude.{◌≡◌, ℕ, ◌+◌, ◌-◌, ◌^◌, ◌<◌, List, [], length}
use Rattle.flow_meaning.specs.declared.walk.Answer.{Answer}
use Rattle.flow_meaning.specs.Act.{Act, after}
use Rattle.flow_meaning.specs.Meaning.{Done}
use Rattle.app_eval.specs.declared.running.Want.TheVariants as want
use Rattle.app_eval.specs.Walks.{left_of, rest_of, first_want, answers_of}
use Rattle.kernel_model.specs.Known.{Known, main_left}
use Rattle.kernel_core.specs.declared.main_walk.MainWalk.{MainWalk}
use Rattle.kernel_core.specs.declared.main_walk.Standing.{Standing}
use Rattle.kernel_core.specs.declared.main_walk.Standing.TheVariants as standing

abbrev pub answers_in : Standing → List Answer
answers_in (standing.Told reply) = answers_of reply
answers_in _ = []

-- what is left of main
abbrev pub left_in : MainWalk → Act Done
left_in m = after (left_of m.walker) (answers_in m.standing)

abbrev pub rest_with : ℕ → Standing → ℕ
rest_with rest (standing.Told reply) = rest
rest_with rest _ = rest + 1

-- how many answers main may still be given, with the one that it was told
abbrev pub rest_in : MainWalk → ℕ
rest_in m = rest_with (rest_of m.walker) m.standing

-- what it asked for, it still asks for
abbrev pub IsOpenAt : Act Done → Standing → Type 0
IsOpenAt act (standing.Told reply) = Unit {0}
IsOpenAt act (standing.Asks request) = first_want act ≡ want.Asks request
IsOpenAt act standing.Taken = ⊥

-- a want may be taken
abbrev pub IsReady : MainWalk → Type 0
IsReady m = IsOpenAt (left_of m.walker) m.standing

-- the walk has left what main has, and as many answers as were not given
pub record Follows (m : MainWalk) (w : Known) : Type 0 where
  pub left : left_in m ≡ main_left w
  pub rest : rest_in m + length w.answers ≡ 2 ^ 64 - 1

-- main's walk where nothing was refused and main goes on
pub record Stands (m : MainWalk) (w : Known) : Type 0 where
  pub ready : IsReady m
  pub follows : Follows m w

-- the same where what it asked for was taken, with room for the answer
pub record IsTaken (m : MainWalk) (w : Known) : Type 0 where
  pub taken : m.standing ≡ standing.Taken
  pub follows : Follows m w
  pub room : 0 < rest_in m
