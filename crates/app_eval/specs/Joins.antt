-- Texts and lists joined one behind another.
use Rattle.std.specs.Prelude.{ℕ, ◌+◌, ◌-◌, ◌*◌, ◌^◌, min, List, [], ◌∷◌, ◌++◌}
use Rattle.flow_base.specs.declared.value.Value.{Value}
use Rattle.flow_base.specs.declared.value.Value.TheOpen.{Value-F}
use Rattle.flow_base.specs.declared.value.Value.TheVariants as v
use Rattle.flow_base.specs.declared.outcome.Exception.TheVariants as x
use Rattle.flow_base.specs.Values.{units}
use Rattle.flow_meaning.specs.Act.{Act, Throw}
use Rattle.flow_meaning.specs.Operators.{Layer, Text, limited}

-- each text behind the separator
abbrev pub behind : Text → List Text → Text
behind by [] = []
behind by (t ∷ ts) = (by ++ t) ++ behind by ts

-- two texts or two lists
abbrev pub joins : Layer → Layer → Act Value
joins (Value-F.Text a) (Value-F.Text b) = limited (v.Text (a ++ b))
joins (Value-F.List us) (Value-F.List ws) = limited (v.List (us ++ ws))
joins _ _ = Throw x.TypeError

-- the bytes of as many texts of a list, with a separator of b bytes between them, or the greatest number
abbrev pub joined_bytes : Value → ℕ → ℕ → ℕ
joined_bytes list n b = min ((min (units list) (2 ^ 64 - 1) - (1 + n)) + min ((n - 1) * b) (2 ^ 64 - 1)) (2 ^ 64 - 1)
