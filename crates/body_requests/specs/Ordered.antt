-- The tasks of a sequential evaluation, in their order.
use Rattle.std.specs.Prelude.{List, [], ◌∷◌, Contains}
use Rattle.flow_base.specs.declared.value.Value.{Value}
use Rattle.flow_base.specs.declared.outcome.Outcome.{Outcome}
use Rattle.flow_base.specs.declared.outcome.Outcome.TheVariants as o
use Rattle.flow_meaning.specs.Inputs.{Path}
use Rattle.flow_meaning.specs.Sequential.{Tasks}
use Rattle.body_requests.specs.Asks.{Each, IsPlain}
use Rattle.body_requests.specs.Within.{IsWithin, FileWithin}

-- each task waits only for tasks before it, or for these
abbrev pub InOrder : List Path → Tasks → Type 0
InOrder known [] = Unit {0}
InOrder known (t ∷ ts) = Each (Contains known) t.inputs × InOrder (t.path ∷ known) ts

-- plain and within the limits
abbrev pub GoodValue : Value → Type 0
GoodValue v = IsPlain v × IsWithin v

abbrev pub GoodOutcome : Outcome → Type 0
GoodOutcome (o.Value value files) = GoodValue value × Each FileWithin files
GoodOutcome (o.Failed exception) = Unit {0}

abbrev pub AllGood : Tasks → Type 0
AllGood = Each (λ t. GoodOutcome t.outcome)
