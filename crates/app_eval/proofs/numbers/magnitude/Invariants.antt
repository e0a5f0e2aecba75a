use Rattle.std.proofs.Common.{◌≡◌, ◌-◌, ◌^◌, min, take, true}
use Rattle.std.specs.Char.{is_ascii_digit}
use Rattle.std.specs.List.{list_all}
use Rattle.flow_meaning.specs.Operators.{digits_value}
use Rattle.app_eval.proofs.numbers.magnitude.Given as goal

abbrev pub invariant-loop-digit : goal.invariant-loop-digit
invariant-loop-digit l = (list_all is_ascii_digit (take l.digit-index l.digits) ≡ true) × (l.value ≡ min (digits_value (take l.digit-index l.digits)) (2 ^ 64 - 1))
