-- A list that gets one more item where it stands.
use Rattle.std.proofs.Common.{◌≡◌, ℕ, [], ◌∷◌, slice_get, refl, ap, sym, ◌∙◌}
use Rattle.flow_base.specs.declared.value.Value.{Value}
use Rattle.script_tree.specs.declared.tree.BuiltIn.{BuiltIn}
use Rattle.script_tree.specs.declared.tree.BuiltIn.TheVariants as b
use Rattle.flow_meaning.specs.Act.{Act, Give, ◌>>=◌}
use Rattle.flow_meaning.specs.Meaning as m
use Rattle.body_program.specs.declared.code.Code.{Code, roll-Code, fold-roll-Code}
use Rattle.body_program.specs.declared.code.Code.TheOpen.{Code-F}
use Rattle.body_program.specs.declared.code.Code.TheFolds.{map-Code}
use Rattle.body_program.specs.declared.code.Code.TheVariants as c
use Rattle.body_program.specs.declared.code.Simple.TheVariants as simple
use Rattle.body_program.specs.declared.code.Step.TheVariants as t
use Rattle.body_program.specs.Meaning as code
use Rattle.body_program.specs.Resolved.{Sets}
use Rattle.body_program.proofs.Acts.{bind_assoc, bind_both}
use Rattle.body_program.proofs.Steps.{does-Set, does-Append}

rolled : (slots : code.Slots) (y : Code-F Code) → code.code_value slots (roll-Code y) ≡ code.code_step slots (map-Code Code (Act Value) (code.code_value slots) y)
unfolding code.code_value
rolled slots y = fold-roll-Code (Act Value) (code.code_step slots) y

value-Slot : (slots : code.Slots) (k : ℕ) → code.code_value slots (c.Slot k) ≡ code.held (slice_get slots k)
value-Slot slots k = ap (code.code_value slots) (sym (c.rolls-Slot k)) ∙ rolled slots (Code-F.Slot k)

value-Two : (slots : code.Slots) (built_in : BuiltIn) (d e : Code) → code.code_value slots (c.Two built_in d e) ≡ (code.code_value slots d >>= λ first. code.code_value slots e >>= λ second. m.applied_to built_in (first ∷ second ∷ []))
value-Two slots built_in d e = ap (code.code_value slots) (sym (c.rolls-Two built_in d e)) ∙ rolled slots (Code-F.Two built_in d e)

appended : (slots : code.Slots) (k : ℕ) (e : Code) → code.code_value slots (c.Two b.Append (c.Slot k) e) ≡ (code.held (slice_get slots k) >>= λ list. code.code_value slots e >>= λ item. m.applied_to b.Append (list ∷ item ∷ []))
appended slots k e = value-Two slots b.Append (c.Slot k) e ∙ ap (λ (a : Act Value). a >>= λ list. code.code_value slots e >>= λ item. m.applied_to b.Append (list ∷ item ∷ [])) (value-Slot slots k)

append_sets : (k : ℕ) (e : Code) → Sets (t.Simple (simple.Append k e)) k (c.Two b.Append (c.Slot k) e)
append_sets k e names s =
    ap (λ (f : code.Does). f s) (does-Append names k e)
    ∙ sym (ap (λ (a : Act Value). a >>= ends) (appended s.slots k e)
    ∙ (bind_assoc (code.held (slice_get s.slots k)) (λ list. code.code_value s.slots e >>= λ item. m.applied_to b.Append (list ∷ item ∷ [])) ends
    ∙ bind_both (code.held (slice_get s.slots k)) (code.held (slice_get s.slots k)) _ _ refl (λ list. bind_assoc (code.code_value s.slots e) (λ item. m.applied_to b.Append (list ∷ item ∷ [])) ends)))
  where
    ends : Value → Act code.Flow
    ends longer = Give (code.Goes (code.with_slot k longer s))

pub set_sets : (k : ℕ) (e : Code) → Sets (t.Simple (simple.Set k e)) k e
set_sets k e names s = ap (λ (f : code.Does). f s) (does-Set names k e)

pub appends : (k : ℕ) (value : Code) (built_in : BuiltIn) (list item : Code) → value ≡ c.Two built_in list item → built_in ≡ b.Append → list ≡ c.Slot k → Sets (t.Simple (simple.Append k item)) k value
appends k value built_in list item is by at = rw (is, by, at) (append_sets k item)

pub sets_as : (k : ℕ) (value same : Code) → value ≡ same → Sets (t.Simple (simple.Set k same)) k value
sets_as k value same is = rw is (set_sets k same)
