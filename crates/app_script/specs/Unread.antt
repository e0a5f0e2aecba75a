-- What is left of a text, and the place of its first byte.
use Rattle.std.specs.Prelude.{ℕ, List}

pub record Unread : Type 0 where
  pub place : ℕ
  pub text : List ℕ
