-- The units of values.
use Rattle.std.proofs.Common.{◌≡◌, ℤ, ◌+◌, List, length, map, sum, refl}
use Rattle.flow_base.specs.declared.value.Value.{Value, fold-roll-Value}
use Rattle.flow_base.specs.declared.value.Value.TheVariants as v
use Rattle.flow_base.specs.declared.value.Value.TheVariants.{rolls-Int, rolls-Text, rolls-List}
use Rattle.flow_base.specs.Values.{units}
use Rattle.flow_meaning.specs.Operators.{Text}

pub units-Int : (n : ℤ) → units (v.Int n) ≡ 1
unfolding units
units-Int n = rw (← rolls-Int n, fold-roll-Value) refl

pub units-Text : (t : Text) → units (v.Text t) ≡ 1 + length t
unfolding units
units-Text t = rw (← rolls-Text t, fold-roll-Value) refl

pub units-List : (vs : List Value) → units (v.List vs) ≡ 1 + sum (map units vs)
unfolding units
units-List vs = rw (← rolls-List vs, fold-roll-Value) refl
