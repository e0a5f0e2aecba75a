use Rattle.std.proofs.Common.{◌≡◌, ℕ, Some, None, Option, refl, ap, ◌∙◌}
use Rattle.dependency_graph.specs.Callbacks.{Callbacks, with_given_by}
use Rattle.dependency_graph.specs.Graphs.{Graph}
use Rattle.std.specs.Prelude.{slice_get}
use Rattle.dependency_graph.proofs.tests.next.Goals as goal

given_states : (g : Callbacks) (c : Option ℕ) → (with_given_by g c).states ≡ g.states
given_states g None = refl
given_states g (Some c) = refl

pub returns-clause-states : goal.returns-clause-states
returns-clause-states c =
    let g = c.args.graph.now.callbacks in
    ap (λ (graph : Graph). graph.callbacks.states) c.next_callback.ensures.after ∙ given_states g (slice_get g.made g.given)
