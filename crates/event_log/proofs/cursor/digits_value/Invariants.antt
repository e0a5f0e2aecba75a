use Rattle.std.proofs.Common.{◌≡◌, ◌<◌, ◌^◌, true, take}
use Rattle.std.specs.Char.{is_ascii_digit}
use Rattle.std.specs.List.{list_all}
use Rattle.script_tree.specs.Lexing.{digits_value}
use Rattle.event_log.proofs.cursor.digits_value.Given as goal

abbrev pub invariant-loop-digit : goal.invariant-loop-digit
invariant-loop-digit l =
    (list_all is_ascii_digit (take l.digit-index l.run) ≡ true) × (l.value < 2 ^ 64) × (l.value ≡ digits_value (take l.digit-index l.run))
