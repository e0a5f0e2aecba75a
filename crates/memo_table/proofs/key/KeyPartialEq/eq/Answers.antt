use Rattle.std.proofs.Common.{rules, ◌≡◌, ◌↔◌, ◌∙◌, true, map, IsTrue, bytes_eq, true≢false, sym, ap}
use Rattle.std.specs.Arc.{arc_value}
use Rattle.flow_base.specs.Values.{all_match, same}
use Rattle.memo_table.specs.Keys.{KeyView, same_key}
use Rattle.memo_table.proofs.Keys.{same_when}
use Rattle.memo_table.proofs.key.KeyPartialEq.eq.Goals.{then-same, else-same}
use Rattle.memo_table.proofs.key.KeyPartialEq.eq.Goals as goal

pub returns-then-all_same : goal.returns-then-all_same
returns-then-all_same c = elim c.if-same.branch [
  | then-same w ↦
      let first : bytes_eq (arc_value c.self.inside.app) (arc_value c.other.inside.app) ≡ true = search rules in
      let second : all_match (map same c.self.inside.arguments) c.other.inside.arguments ≡ true = search rules in
      let names : IsTrue c.same_names.result ↔ (c.self.inside.names ≡ c.other.inside.names) = search rules in
      let other : KeyView = record { app = arc_value c.other.inside.app; arguments = c.other.inside.arguments; names = c.other.inside.names } in
      let is = same_when (arc_value c.self.inside.app) (arc_value c.other.inside.app) c.self.inside.arguments c.other.inside.arguments c.self.inside.names c.other.inside.names c.same_names.result first second names in
      is ∙ ap (λ (k : KeyView). same_key k other) c.self.view_is ∙ ap (same_key c.args.self.now) c.other.view_is
  | else-same w ↦ absurd (true≢false (sym c.if-all_same.true ∙ w.value-is ∙ w.if-same.false))
]
