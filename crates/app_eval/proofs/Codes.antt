-- What each kind of expression gives, by its parts.
use Rattle.std.proofs.Common.{◌≡◌, ℕ, List, refl, slice_get}
use Rattle.flow_base.specs.declared.value.Value.{Value}
use Rattle.flow_base.specs.declared.outcome.Exception.TheVariants as x
use Rattle.script_tree.specs.declared.tree.BuiltIn.{BuiltIn}
use Rattle.script_tree.specs.declared.tree.CompareOp.{CompareOp}
use Rattle.script_tree.specs.declared.tree.SumOp.{SumOp}
use Rattle.script_tree.specs.declared.tree.TermOp.{TermOp}
use Rattle.script_tree.specs.declared.tree.UnaryOp.{UnaryOp}
use Rattle.flow_meaning.specs.Act.{Give, Throw}
use Rattle.body_program.specs.declared.code.Code.{Code, fold-roll-Code}
use Rattle.body_program.specs.declared.code.Code.TheVariants as c
use Rattle.body_program.specs.declared.code.Code.TheVariants.{rolls-Constant, rolls-TooLarge, rolls-Slot, rolls-List, rolls-One, rolls-Two, rolls-Three, rolls-Unknown, rolls-Call, rolls-Any, rolls-All, rolls-Compared, rolls-Sum, rolls-Product, rolls-At, rolls-Signed}
use Rattle.body_program.specs.Meaning.{Slots, code_value, held}
use Rattle.app_eval.specs.Chains.{all_calc, any_calc, at_calc, call_calc, compared_calc, list_calc, one_calc, product_calc, signed_calc, sum_calc, three_calc, two_calc, unknown_calc}

pub value-Constant : (slots : Slots) (value : Value) → code_value slots (c.Constant value) ≡ Give value
unfolding code_value
value-Constant slots value = rw (← rolls-Constant value, fold-roll-Code) refl

pub value-TooLarge : (slots : Slots) → code_value slots c.TooLarge ≡ Throw x.SizeError
unfolding code_value
value-TooLarge slots = rw (← rolls-TooLarge, fold-roll-Code) refl

pub value-Slot : (slots : Slots) (k : ℕ) → code_value slots (c.Slot k) ≡ held (slice_get slots k)
unfolding code_value
value-Slot slots k = rw (← rolls-Slot k, fold-roll-Code) refl

pub value-List : (slots : Slots) (es : List Code) → code_value slots (c.List es) ≡ list_calc slots es
unfolding code_value
value-List slots es = rw (← rolls-List es, fold-roll-Code) refl

pub value-One : (slots : Slots) (built_in : BuiltIn) (e : Code) → code_value slots (c.One built_in e) ≡ one_calc slots built_in e
unfolding code_value
value-One slots built_in e = rw (← rolls-One built_in e, fold-roll-Code) refl

pub value-Two : (slots : Slots) (built_in : BuiltIn) (d e : Code) → code_value slots (c.Two built_in d e) ≡ two_calc slots built_in d e
unfolding code_value
value-Two slots built_in d e = rw (← rolls-Two built_in d e, fold-roll-Code) refl

pub value-Three : (slots : Slots) (built_in : BuiltIn) (b d e : Code) → code_value slots (c.Three built_in b d e) ≡ three_calc slots built_in b d e
unfolding code_value
value-Three slots built_in b d e = rw (← rolls-Three built_in b d e, fold-roll-Code) refl

pub value-Unknown : (slots : Slots) (es : List Code) → code_value slots (c.Unknown es) ≡ unknown_calc slots es
unfolding code_value
value-Unknown slots es = rw (← rolls-Unknown es, fold-roll-Code) refl

pub value-Call : (slots : Slots) (app : ℕ) (arguments names : List Code) → code_value slots (c.Call app arguments names) ≡ call_calc slots app arguments names
unfolding code_value
value-Call slots app arguments names = rw (← rolls-Call app arguments names, fold-roll-Code) refl

pub value-Any : (slots : Slots) (first : Code) (others : List Code) → code_value slots (c.Any first others) ≡ any_calc slots first others
unfolding code_value
value-Any slots first others = rw (← rolls-Any first others, fold-roll-Code) refl

pub value-All : (slots : Slots) (first : Code) (others : List Code) → code_value slots (c.All first others) ≡ all_calc slots first others
unfolding code_value
value-All slots first others = rw (← rolls-All first others, fold-roll-Code) refl

pub value-Compared : (slots : Slots) (op : CompareOp) (d e : Code) → code_value slots (c.Compared op d e) ≡ compared_calc slots op d e
unfolding code_value
value-Compared slots op d e = rw (← rolls-Compared op d e, fold-roll-Code) refl

pub value-Sum : (slots : Slots) (first : Code) (others : List (SumOp × Code)) → code_value slots (c.Sum first others) ≡ sum_calc slots first others
unfolding code_value
value-Sum slots first others = rw (← rolls-Sum first others, fold-roll-Code) refl

pub value-Product : (slots : Slots) (first : Code) (others : List (TermOp × Code)) → code_value slots (c.Product first others) ≡ product_calc slots first others
unfolding code_value
value-Product slots first others = rw (← rolls-Product first others, fold-roll-Code) refl

pub value-At : (slots : Slots) (first : Code) (others : List Code) → code_value slots (c.At first others) ≡ at_calc slots first others
unfolding code_value
value-At slots first others = rw (← rolls-At first others, fold-roll-Code) refl

pub value-Signed : (slots : Slots) (op : UnaryOp) (e : Code) → code_value slots (c.Signed op e) ≡ signed_calc slots op e
unfolding code_value
value-Signed slots op e = rw (← rolls-Signed op e, fold-roll-Code) refl
