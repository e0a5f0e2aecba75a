use Rattle.std.proofs.Common.{◌≡◌, ◌≤◌, ◌-◌, drop, length}
use Rattle.body_program.specs.Meaning.{each_turn, repeated, steps_do}
use Rattle.flow_meaning.specs.Run.{run}
use Rattle.app_eval.specs.Frames.{store_of}
use Rattle.app_eval.proofs.Turns.{Turning}
use Rattle.app_eval.proofs.interpreter.Interpreter.+step.Given as goal

abbrev pub invariant-each-turns : goal.invariant-each-turns
invariant-each-turns l = (run (each_turn l.slot (steps_do l.self.names.now l.body) (drop l.next l.items) (store_of l.frame)) l.told.items ≡ run (each_turn l.slot (steps_do l.self.names.now l.body) (drop l.initial.next l.initial.items) (store_of l.initial.frame)) l.initial.told.items) × (l.items ≡ l.initial.items) × (l.frame.left ≤ l.initial.frame.left)

abbrev pub decreases-each-turns : goal.decreases-each-turns
decreases-each-turns l = length l.items - l.next

abbrev pub invariant-repeat-turns : goal.invariant-repeat-turns
invariant-repeat-turns l = Turning l.condition (steps_do l.self.names.now l.body) (store_of l.frame) l.told.items (run (repeated l.condition (steps_do l.self.names.now l.body) (store_of l.initial.frame)) l.initial.told.items) × (l.frame.left ≤ l.initial.frame.left)

abbrev pub decreases-repeat-turns : goal.decreases-repeat-turns
decreases-repeat-turns l = l.frame.left

abbrev pub invariant-rest-loop-number : goal.invariant-rest-loop-number
invariant-rest-loop-number l = (run (steps_do l.self.names.now (drop l.number l.steps) (store_of l.frame)) l.told.items ≡ run (steps_do l.self.names.now (drop l.from l.steps) (store_of l.initial.frame)) l.initial.told.items) × (l.frame.left ≤ l.initial.frame.left)
