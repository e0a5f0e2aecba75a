-- The numbers of faults and of rules, which are printed, and by which the least is told.
use Rattle.std.specs.Prelude.{ℕ}
use Rattle.script_tree.specs.declared.fault.SyntaxFault.{SyntaxFault}
use Rattle.script_tree.specs.declared.fault.SyntaxFault.TheVariants as fault
use Rattle.script_tree.specs.declared.fault.Rule.{Rule}
use Rattle.script_tree.specs.declared.fault.Rule.TheVariants as rule

abbrev pub syntax_number : SyntaxFault → ℕ
syntax_number fault.WrongByte = 1
syntax_number fault.WrongToken = 2
syntax_number fault.WrongNumber = 3
syntax_number fault.Unexpected = 4
syntax_number fault.TooDeep = 5
syntax_number fault.TooLong = 6

abbrev pub rule_number : Rule → ℕ
rule_number rule.UnknownName = 1
rule_number rule.UnknownApp = 2
rule_number rule.Arity = 3
rule_number rule.CallInApp = 4
rule_number rule.WaitOutsideMain = 5
rule_number rule.Outputs = 6
rule_number rule.Repeated = 7
rule_number rule.CachedJoin = 8
rule_number rule.CachedTooLong = 9
