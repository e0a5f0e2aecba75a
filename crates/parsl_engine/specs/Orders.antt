-- The order that words give.
use Rattle.std.specs.Prelude.{◌≡◌, List, ℕ, None, Some}
use Rattle.std.specs.declared.option.Option.{Option}
use Rattle.parsl_engine.specs.declared.words.Order.{Order}
use Rattle.parsl_engine.specs.Words.{meaning}

abbrev pub IsMeantBy : List (List ℕ) → Option Order → Type 0
IsMeantBy words None = meaning words ≡ None
IsMeantBy words (Some order) = meaning words ≡ Some (order.command, order.script.now)
