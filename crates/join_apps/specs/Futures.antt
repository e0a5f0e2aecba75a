-- Values that are futures of calls.
use Rattle.std.specs.Prelude.{Bool, is_some}
use Rattle.flow_base.specs.declared.value.Value.{Value, out-Value}
use Rattle.flow_meaning.specs.Sequential.{future_in}

abbrev pub is_future : Value → Bool
is_future v = is_some (future_in (out-Value v))
