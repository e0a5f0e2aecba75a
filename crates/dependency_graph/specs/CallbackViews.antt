-- Callbacks as contracts see them.
use Rattle.std.specs.Prelude.{ℕ, List}
use Rattle.dependency_graph.specs.declared.callback.CallbackKind.{CallbackKind}

pub record CallbackView : Type 0 where
  pub kind : CallbackKind
  pub task : ℕ
  pub inputs : List ℕ
