-- What each variant of a code gives.
use Rattle.std.proofs.Common.{◌≡◌, ℕ, true, false, List, [], ◌∷◌, map, Some, slice_get, refl}
use Rattle.flow_base.specs.declared.value.Value.{Value}
use Rattle.flow_base.specs.declared.value.Value.TheVariants as v
use Rattle.flow_base.specs.declared.outcome.Exception.TheVariants as x
use Rattle.script_tree.specs.declared.tree.BuiltIn.{BuiltIn}
use Rattle.script_tree.specs.declared.tree.CompareOp.{CompareOp}
use Rattle.script_tree.specs.declared.tree.SumOp.{SumOp}
use Rattle.script_tree.specs.declared.tree.TermOp.{TermOp}
use Rattle.script_tree.specs.declared.tree.UnaryOp.{UnaryOp}
use Rattle.flow_meaning.specs.Act.{Act, Give, Throw, ◌>>=◌, all_of}
use Rattle.flow_meaning.specs.Operators.{limited, compared}
use Rattle.flow_meaning.specs.Meaning as m
use Rattle.body_program.specs.declared.code.Code.{Code, fold-roll-Code}
use Rattle.body_program.specs.declared.code.Code.TheVariants as c
use Rattle.body_program.specs.Meaning.{Slots, code_value, held, calls, chain, sums, products, items_at}

-- an operand behind its operator
abbrev pub operand : {Op : Type 0} → Slots → Op × Code → Op × Act Value
operand slots e = (e.0, code_value slots e.1)

module _ (slots : Slots) where
  pub value_constant : (value : Value) → code_value slots (c.Constant value) ≡ Give value
  unfolding code_value
  value_constant value = rw (← c.rolls-Constant value, fold-roll-Code) refl

  pub value_large : code_value slots c.TooLarge ≡ Throw x.SizeError
  unfolding code_value
  value_large = rw (← c.rolls-TooLarge, fold-roll-Code) refl

  pub value_slot : (k : ℕ) → code_value slots (c.Slot k) ≡ held (slice_get slots k)
  unfolding code_value
  value_slot k = rw (← c.rolls-Slot k, fold-roll-Code) refl

  pub value_list : (es : List Code) → code_value slots (c.List es) ≡ (all_of (map (code_value slots) es) >>= λ vs. limited (v.List vs))
  unfolding code_value
  value_list es = rw (← c.rolls-List es, fold-roll-Code) refl

  pub value_one : (b : BuiltIn) (e : Code) → code_value slots (c.One b e) ≡ (code_value slots e >>= λ value. m.applied_to b (value ∷ []))
  unfolding code_value
  value_one b e = rw (← c.rolls-One b e, fold-roll-Code) refl

  pub value_two : (b : BuiltIn) (d e : Code) → code_value slots (c.Two b d e) ≡ (code_value slots d >>= λ first. code_value slots e >>= λ second. m.applied_to b (first ∷ second ∷ []))
  unfolding code_value
  value_two b d e = rw (← c.rolls-Two b d e, fold-roll-Code) refl

  pub value_three : (b : BuiltIn) (d e f : Code) → code_value slots (c.Three b d e f) ≡ (code_value slots d >>= λ first. code_value slots e >>= λ second. code_value slots f >>= λ third. m.applied_to b (first ∷ second ∷ third ∷ []))
  unfolding code_value
  value_three b d e f = rw (← c.rolls-Three b d e f, fold-roll-Code) refl

  pub value_unknown : (es : List Code) → code_value slots (c.Unknown es) ≡ (all_of (map (code_value slots) es) >>= λ vs. Throw x.TypeError)
  unfolding code_value
  value_unknown es = rw (← c.rolls-Unknown es, fold-roll-Code) refl

  pub value_call : (app : ℕ) (ds es : List Code) → code_value slots (c.Call app ds es) ≡ calls app (map (code_value slots) ds) (map (code_value slots) es)
  unfolding code_value
  value_call app ds es = rw (← c.rolls-Call app ds es, fold-roll-Code) refl

  pub value_any : (e : Code) (es : List Code) → code_value slots (c.Any e es) ≡ chain true (code_value slots e) (map (code_value slots) es)
  unfolding code_value
  value_any e es = rw (← c.rolls-Any e es, fold-roll-Code) refl

  pub value_all : (e : Code) (es : List Code) → code_value slots (c.All e es) ≡ chain false (code_value slots e) (map (code_value slots) es)
  unfolding code_value
  value_all e es = rw (← c.rolls-All e es, fold-roll-Code) refl

  pub value_compared : (op : CompareOp) (d e : Code) → code_value slots (c.Compared op d e) ≡ (code_value slots d >>= λ left. code_value slots e >>= λ right. compared op left right)
  unfolding code_value
  value_compared op d e = rw (← c.rolls-Compared op d e, fold-roll-Code) refl

  pub value_sum : (e : Code) (es : List (SumOp × Code)) → code_value slots (c.Sum e es) ≡ (code_value slots e >>= λ left. sums left (map {B = SumOp × Act Value} (operand slots) es))
  unfolding code_value
  value_sum e es = rw (← c.rolls-Sum e es, fold-roll-Code) refl

  pub value_product : (e : Code) (es : List (TermOp × Code)) → code_value slots (c.Product e es) ≡ (code_value slots e >>= λ left. products left (map {B = TermOp × Act Value} (operand slots) es))
  unfolding code_value
  value_product e es = rw (← c.rolls-Product e es, fold-roll-Code) refl

  pub value_at : (e : Code) (es : List Code) → code_value slots (c.At e es) ≡ (code_value slots e >>= λ value. items_at value (map (code_value slots) es))
  unfolding code_value
  value_at e es = rw (← c.rolls-At e es, fold-roll-Code) refl

  pub value_signed : (op : UnaryOp) (e : Code) → code_value slots (c.Signed op e) ≡ (code_value slots e >>= m.signed (Some op))
  unfolding code_value
  value_signed op e = rw (← c.rolls-Signed op e, fold-roll-Code) refl

pub ruleset code_rules = (value_constant, value_large, value_slot, value_list, value_one, value_two, value_three, value_unknown, value_call, value_any, value_all, value_compared, value_sum, value_product, value_at, value_signed)
