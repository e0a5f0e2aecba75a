-- Built-ins of their arguments.
use Rattle.std.proofs.Common.{◌≡◌, ℕ, List, [], ◌∷◌, ◌++◌, map, length, length-append, Some, None, refl, sym, ap, ◌∙◌, arith}
use Rattle.flow_base.specs.declared.value.Value.{Value}
use Rattle.flow_base.specs.declared.outcome.Exception.TheVariants as x
use Rattle.script_tree.specs.declared.tree.BuiltIn.{BuiltIn}
use Rattle.script_tree.specs.declared.tree.BuiltIn.TheVariants as b
use Rattle.flow_meaning.specs.Act.{Throw, ◌>>=◌, all_from}
use Rattle.flow_meaning.specs.Meaning as m
use Rattle.body_program.specs.declared.code.Code.{Code}
use Rattle.body_program.specs.declared.code.Code.TheVariants as c
use Rattle.body_program.specs.Meaning.{code_value}
use Rattle.body_program.specs.Resolved.{Applies}
use Rattle.body_program.proofs.Acts.{bind_assoc, bind_same, all_same}
use Rattle.body_program.proofs.Codes.{value_one, value_two, value_three, value_unknown}

none_given : (built_in : BuiltIn) → m.applied_to built_in [] ≡ Throw x.TypeError
none_given b.Len = refl
none_given b.Text = refl
none_given b.Number = refl
none_given b.Slice = refl
none_given b.Range = refl
none_given b.Append = refl
none_given b.Split = refl
none_given b.Concat = refl
none_given b.File = refl
none_given b.Name = refl
none_given b.Content = refl
none_given b.Output = refl
none_given b.Result = refl
none_given b.Exception = refl

many_given : (built_in : BuiltIn) (p q r s : Value) (vs : List Value) → m.applied_to built_in (p ∷ q ∷ r ∷ s ∷ vs) ≡ Throw x.TypeError
many_given b.Len p q r s vs = refl
many_given b.Text p q r s vs = refl
many_given b.Number p q r s vs = refl
many_given b.Slice p q r s vs = refl
many_given b.Range p q r s vs = refl
many_given b.Append p q r s vs = refl
many_given b.Split p q r s vs = refl
many_given b.Concat p q r s vs = refl
many_given b.File p q r s vs = refl
many_given b.Name p q r s vs = refl
many_given b.Content p q r s vs = refl
many_given b.Output p q r s vs = refl
many_given b.Result p q r s vs = refl
many_given b.Exception p q r s vs = refl

wrong_number : (built_in : BuiltIn) (n : ℕ) → (n ≡ 1 → ⊥) → (n ≡ 2 → ⊥) → (n ≡ 3 → ⊥) → (vs : List Value) → length vs ≡ n → Throw x.TypeError ≡ m.applied_to built_in vs
wrong_number built_in n one two three [] is = sym (none_given built_in)
wrong_number built_in n one two three (p ∷ []) is = absurd (one (omega arith))
wrong_number built_in n one two three (p ∷ q ∷ []) is = absurd (two (omega arith))
wrong_number built_in n one two three (p ∷ q ∷ r ∷ []) is = absurd (three (omega arith))
wrong_number built_in n one two three (p ∷ q ∷ r ∷ s ∷ vs) is = sym (many_given built_in p q r s vs)

length_mapped : {A B : Type 0} (f : A → B) (xs : List A) → length (map f xs) ≡ length xs
length_mapped f [] = refl
length_mapped f (x ∷ xs) = let h = length_mapped f xs in omega arith

pub unknown_applies : (es : List Code) → Applies (c.Unknown es) None es
unknown_applies es slots = value_unknown slots es

pub number_applies : (built_in : BuiltIn) (es : List Code) → (length es ≡ 1 → ⊥) → (length es ≡ 2 → ⊥) → (length es ≡ 3 → ⊥) → Applies (c.Unknown es) (Some built_in) es
number_applies built_in es one two three slots =
    value_unknown slots es
    ∙ all_same [] (map (code_value slots) es) (λ vs. Throw x.TypeError) (m.applied (Some built_in)) (λ vs is. wrong_number built_in (length es) one two three vs (let h = length_mapped (code_value slots) es in omega arith))

one_of : (built_in : BuiltIn) (first : Code) → Applies (c.One built_in first) (Some built_in) (first ∷ [])
one_of built_in first slots = value_one slots built_in first ∙ sym (bind_assoc (code_value slots first) (λ v. all_from (v ∷ []) []) (m.applied (Some built_in)))

two_of : (built_in : BuiltIn) (first second : Code) → Applies (c.Two built_in first second) (Some built_in) (first ∷ second ∷ [])
two_of built_in first second slots =
    let d = code_value slots first in
    let e = code_value slots second in
    value_two slots built_in first second ∙ sym (
    bind_assoc d (λ v. all_from (v ∷ []) (e ∷ [])) (m.applied (Some built_in))
    ∙ bind_same d (λ v. all_from (v ∷ []) (e ∷ []) >>= m.applied (Some built_in)) (λ v. e >>= λ w. m.applied_to built_in (v ∷ w ∷ [])) (λ v. bind_assoc e (λ w. all_from (v ∷ w ∷ []) []) (m.applied (Some built_in))))

three_of : (built_in : BuiltIn) (first second third : Code) → Applies (c.Three built_in first second third) (Some built_in) (first ∷ second ∷ third ∷ [])
three_of built_in first second third slots =
    let d = code_value slots first in
    let e = code_value slots second in
    let f = code_value slots third in
    value_three slots built_in first second third ∙ sym (
    bind_assoc d (λ v. all_from (v ∷ []) (e ∷ f ∷ [])) (m.applied (Some built_in))
    ∙ bind_same d (λ v. all_from (v ∷ []) (e ∷ f ∷ []) >>= m.applied (Some built_in)) (λ v. e >>= λ w. f >>= λ u. m.applied_to built_in (v ∷ w ∷ u ∷ [])) (λ v.
    bind_assoc e (λ w. all_from (v ∷ w ∷ []) (f ∷ [])) (m.applied (Some built_in))
    ∙ bind_same e (λ w. all_from (v ∷ w ∷ []) (f ∷ []) >>= m.applied (Some built_in)) (λ w. f >>= λ u. m.applied_to built_in (v ∷ w ∷ u ∷ [])) (λ w. bind_assoc f (λ u. all_from (v ∷ w ∷ u ∷ []) []) (m.applied (Some built_in)))))

-- arguments that are taken from the end
taken_one : (es rest : List Code) (last : Code) → length es ≡ 1 → es ≡ rest ++ last ∷ [] → es ≡ last ∷ []
taken_one es [] last one is = is
taken_one es (e ∷ rest) last one is = absurd (omega (arith, ap length is, length-append rest (last ∷ [])))

taken_two : (es rest left : List Code) (second first : Code) → length es ≡ 2 → es ≡ rest ++ second ∷ [] → rest ≡ left ++ first ∷ [] → es ≡ first ∷ second ∷ []
taken_two es rest [] second first two is then = is ∙ ap (λ l. l ++ second ∷ []) then
taken_two es rest (e ∷ left) second first two is then = absurd (omega (arith, ap length is, length-append rest (second ∷ []), ap length then, length-append left (first ∷ [])))

taken_three : (es rest left less : List Code) (third second first : Code) → length es ≡ 3 → es ≡ rest ++ third ∷ [] → rest ≡ left ++ second ∷ [] → left ≡ less ++ first ∷ [] → es ≡ first ∷ second ∷ third ∷ []
taken_three es rest left [] third second first three is then last = is ∙ ap (λ l. l ++ third ∷ []) (then ∙ ap (λ l. l ++ second ∷ []) last)
taken_three es rest left (e ∷ less) third second first three is then last = absurd (omega (arith, ap length is, length-append rest (third ∷ []), ap length then, length-append left (second ∷ []), ap length last, length-append less (first ∷ [])))

pub one_applies : (built_in : BuiltIn) (es rest : List Code) (first : Code) → es ≡ rest ++ first ∷ [] → length es ≡ 1 → Applies (c.One built_in first) (Some built_in) es
one_applies built_in es rest first is one = rw (taken_one es rest first one is) (one_of built_in first)

pub two_applies : (built_in : BuiltIn) (es rest left : List Code) (second first : Code) → es ≡ rest ++ second ∷ [] → rest ≡ left ++ first ∷ [] → length es ≡ 2 → Applies (c.Two built_in first second) (Some built_in) es
two_applies built_in es rest left second first is then two = rw (taken_two es rest left second first two is then) (two_of built_in first second)

pub three_applies : (built_in : BuiltIn) (es rest left less : List Code) (third second first : Code) → es ≡ rest ++ third ∷ [] → rest ≡ left ++ second ∷ [] → left ≡ less ++ first ∷ [] → length es ≡ 3 → Applies (c.Three built_in first second third) (Some built_in) es
three_applies built_in es rest left less third second first is then last three = rw (taken_three es rest left less third second first three is then last) (three_of built_in first second third)

pub ruleset argument_rules = (unknown_applies, number_applies)
