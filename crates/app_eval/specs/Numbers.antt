-- Numbers as a program reads them from texts.
use Rattle.std.specs.Prelude.{ℕ, ◌-◌, ◌^◌, min, Option, Some, None}
use Rattle.flow_base.specs.declared.outcome.Exception.TheVariants as x
use Rattle.flow_meaning.specs.Act.{Act, Give, Throw}

-- a number, or the greatest of 64 bits where it is past them
abbrev pub capped : Option ℕ → Act ℕ
capped (Some n) = Give (min n (2 ^ 64 - 1))
capped None = Throw x.ValueError
