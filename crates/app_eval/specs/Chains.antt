-- What each part of an expression means, at the slots of a moment.
use Rattle.std.specs.Prelude.{ℕ, Bool, true, false, List, [], ◌∷◌, Some, map}
use Rattle.flow_base.specs.declared.value.Value.{Value}
use Rattle.flow_base.specs.declared.value.Value.TheVariants as v
use Rattle.flow_meaning.specs.declared.walk.Request.TheVariants as request
use Rattle.flow_base.specs.declared.outcome.Exception.TheVariants as x
use Rattle.script_tree.specs.declared.tree.BuiltIn.{BuiltIn}
use Rattle.script_tree.specs.declared.tree.CompareOp.{CompareOp}
use Rattle.script_tree.specs.declared.tree.SumOp.{SumOp}
use Rattle.script_tree.specs.declared.tree.TermOp.{TermOp}
use Rattle.script_tree.specs.declared.tree.UnaryOp.{UnaryOp}
use Rattle.flow_meaning.specs.Act.{Act, Give, Throw, Ask, ◌>>=◌, all_of}
use Rattle.flow_meaning.specs.Operators.{Text, limited, list_of, truth_of, truth, texts_of, compared}
use Rattle.flow_meaning.specs.Told.{called_value}
use Rattle.flow_meaning.specs.Meaning as m
use Rattle.body_program.specs.declared.code.Code.{Code}
use Rattle.body_program.specs.Meaning.{Slots, chain, until, sums, products, items_at, calls, code_value}

abbrev pub any_calc : Slots → Code → List Code → Act Value
any_calc slots first others = chain true (code_value slots first) (map (code_value slots) others)

abbrev pub all_calc : Slots → Code → List Code → Act Value
all_calc slots first others = chain false (code_value slots first) (map (code_value slots) others)

-- the others, where the first holds or not
abbrev pub any_from : Slots → Bool → List Code → Act Value
any_from slots first others = until true first (map (code_value slots) others) >>= λ all. Give (truth all)

abbrev pub all_from : Slots → Bool → List Code → Act Value
all_from slots first others = until false first (map (code_value slots) others) >>= λ all. Give (truth all)

abbrev pub values_calc : Slots → List Code → Act (List Value)
values_calc slots es = all_of (map (code_value slots) es)

abbrev pub list_calc : Slots → List Code → Act Value
list_calc slots es = values_calc slots es >>= λ vs. limited (v.List vs)

abbrev pub one_calc : Slots → BuiltIn → Code → Act Value
one_calc slots built_in e = code_value slots e >>= λ value. m.applied_to built_in (value ∷ [])

abbrev pub two_calc : Slots → BuiltIn → Code → Code → Act Value
two_calc slots built_in d e = code_value slots d >>= λ first. code_value slots e >>= λ second. m.applied_to built_in (first ∷ second ∷ [])

-- the second operand, where the first is known
abbrev pub two_from : Slots → BuiltIn → Value → Code → Act Value
two_from slots built_in first e = code_value slots e >>= λ second. m.applied_to built_in (first ∷ second ∷ [])

abbrev pub three_calc : Slots → BuiltIn → Code → Code → Code → Act Value
three_calc slots built_in c d e = code_value slots c >>= λ first. code_value slots d >>= λ second. code_value slots e >>= λ third. m.applied_to built_in (first ∷ second ∷ third ∷ [])

-- the third operand, where the others are known
abbrev pub three_from : Slots → BuiltIn → Value → Value → Code → Act Value
three_from slots built_in first second e = code_value slots e >>= λ third. m.applied_to built_in (first ∷ second ∷ third ∷ [])

abbrev pub unknown_calc : Slots → List Code → Act Value
unknown_calc slots es = values_calc slots es >>= λ vs. Throw x.TypeError

abbrev pub compared_calc : Slots → CompareOp → Code → Code → Act Value
compared_calc slots op d e = code_value slots d >>= λ left. code_value slots e >>= λ right. compared op left right

-- the right operand, where the left is known
abbrev pub compared_from : Slots → CompareOp → Value → Code → Act Value
compared_from slots op left e = code_value slots e >>= λ right. compared op left right

abbrev pub signed_calc : Slots → UnaryOp → Code → Act Value
signed_calc slots op e = code_value slots e >>= m.signed (Some op)

abbrev pub call_calc : Slots → ℕ → List Code → List Code → Act Value
call_calc slots app arguments names = calls app (map (code_value slots) arguments) (map (code_value slots) names)

-- operands behind their operators
abbrev pub operands : {Op : Type 0} → Slots → List (Op × Code) → List (Op × Act Value)
operands {Op} slots es = map {B = Op × Act Value} (λ e. (e.0, code_value slots e.1)) es

abbrev pub sum_calc : Slots → Code → List (SumOp × Code) → Act Value
sum_calc slots first others = code_value slots first >>= λ left. sums left (operands slots others)

abbrev pub product_calc : Slots → Code → List (TermOp × Code) → Act Value
product_calc slots first others = code_value slots first >>= λ left. products left (operands slots others)

abbrev pub at_calc : Slots → Code → List Code → Act Value
at_calc slots first others = code_value slots first >>= λ from. items_at from (map (code_value slots) others)

abbrev pub asks_call : ℕ → List Value → List Text → Act Value
asks_call app arguments names = Ask (request.Call app arguments names) called_value

-- with the names as expressions
abbrev pub call_from : Slots → ℕ → List Value → List Code → Act Value
call_from slots app arguments names = values_calc slots names >>= λ vs. texts_of vs >>= λ ts. asks_call app arguments ts

-- whether a condition holds
abbrev pub truth_calc : Slots → Code → Act Bool
truth_calc slots e = code_value slots e >>= truth_of

-- the items of a list
abbrev pub items_of : Slots → Code → Act (List Value)
items_of slots e = code_value slots e >>= list_of
