use Rattle.std.proofs.Common.{◌≡◌, ℕ, Option, Some, None, sym, subst, ◌∙◌}
use Rattle.script_tree.specs.Grammar.{PlacedTree}
use Rattle.script_tree.specs.declared.fault.Rule.{Rule}
use Rattle.app_check.specs.Checking.{Finds, least_of}
use Rattle.app_check.proofs.Least.{finds}
use Rattle.app_check.proofs.checking.check.Goals as goal

found : (s : PlacedTree) (least told : Option (ℕ × Rule)) → least ≡ least_of s → least ≡ told → Finds s told
found s least told is seen = subst (Finds s) (sym is ∙ seen) (finds s)

pub of-requires : goal.of-requires
of-requires c = found c.args.script _ None c.in_ok-least_fault.ensures c.in-None.is

pub returns-in-Some : goal.returns-in-Some
returns-in-Some c = found c.args.script _ (Some (c.in-Some.place, c.in-Some.kind)) c.in_ok-least_fault.ensures c.in-Some.is
