-- A program does what its body does.
use Rattle.std.proofs.Common.{◌≡◌, ℕ, List, [], ◌∷◌, ◌++◌, map, zip, length, Some, None, slice_get, slice_set, get_or, take, ◌+◌, ◌<◌, refl, ap, sym, ◌∙◌}
use Rattle.std.proofs.lemmas.List.{map-append, take_more}
use Rattle.flow_base.specs.declared.value.Value.{Value}
use Rattle.script_tree.specs.declared.tree.Block.{Block}
use Rattle.script_tree.specs.Folds.{fold_block}
use Rattle.flow_meaning.specs.Act.{Act, Give, ◌>>=◌}
use Rattle.flow_meaning.specs.Operators.{Text}
use Rattle.flow_meaning.specs.Meaning.{doing}
use Rattle.flow_meaning.specs.Meaning as m
use Rattle.body_program.specs.declared.code.Program.{Program}
use Rattle.body_program.specs.Classes.{block_parts}
use Rattle.body_program.specs.Meaning as code
use Rattle.body_program.specs.Resolved.{Table, Grows, IsDistinct, slots_of, store_of, flow_of, AllFollow, AreSlots, IsProgramOf}
use Rattle.body_program.proofs.Acts.{bind_assoc, bind_both}
use Rattle.body_program.proofs.Slots.{found_put, slots_put, later_at}
use Rattle.body_program.proofs.Following.{grows_none, grows_then, block_part}

-- ---- slots of parameters

pub no_slots : {table : Table} → AreSlots table [] []
no_slots later g = refl

pub slots_later : {table later : Table} (slots : List ℕ) (parameters : List Text) → Grows table later → AreSlots table slots parameters → AreSlots later slots parameters
slots_later slots parameters g h last k = h last (grows_then g k)

pub slots_more : {table later : Table} (slots : List ℕ) (slot : ℕ) (parameters : List Text) (parameter : Text) → AreSlots table slots parameters → Grows table later → slice_get later slot ≡ Some parameter → AreSlots later (slots ++ slot ∷ []) (parameters ++ parameter ∷ [])
slots_more slots slot parameters parameter h g at last k =
    map-append (slice_get last) slots (slot ∷ [])
    ∙ ((λ i. h last (grows_then g k) i ++ later_at slot parameter k at i ∷ []) ∙ sym (map-append (λ (p : Text). Some p) parameters (parameter ∷ [])))

-- the slot of one more parameter
pub next_slots : {table later : Table} (parameters : List Text) (i : ℕ) (parameter : Text) (slots : List ℕ) (slot : ℕ) → i < length parameters → parameter ≡ get_or parameters i parameter → AreSlots table slots (take i parameters) → Grows table later → slice_get later slot ≡ Some parameter → AreSlots later (slots ++ slot ∷ []) (take (i + 1) parameters)
next_slots parameters i parameter slots slot h is a g at last k =
    let front : take (i + 1) parameters ≡ take i parameters ++ parameter ∷ [] = take_more parameters i parameter h ∙ ap (λ (p : Text). take i parameters ++ p ∷ []) (sym is) in
    slots_more slots slot (take i parameters) parameter a g at last k ∙ ap (λ (ps : List Text). map Some ps) (sym front)

-- ---- arguments

none_slots : (table : Table) → code.none_set (length table) ≡ slots_of table []
none_slots [] = refl
none_slots (n ∷ ns) = ap (λ (slots : code.Slots). None ∷ slots) (none_slots ns)

in_front : (table : Table) (vars : m.Vars) (name : Text) (v : Value) → slots_of table ((name, v) ∷ vars) ≡ slots_of table (m.put vars name v)
in_front [] vars name v = refl
in_front (n ∷ ns) vars name v = λ i. sym (found_put vars name v n) i ∷ in_front ns vars name v i

argument_slots : (table : Table) (distinct : IsDistinct table) (slots : List ℕ) (parameters : List Text) (arguments : List Value) → map (slice_get table) slots ≡ map Some parameters
    → code.with_arguments slots arguments (code.none_set (length table)) ≡ slots_of table (zip parameters arguments)
argument_slots table distinct [] [] arguments h = none_slots table
argument_slots table distinct [] (p ∷ ps) arguments h = absurd (cc)
argument_slots table distinct (k ∷ ks) [] arguments h = absurd (cc)
argument_slots table distinct (k ∷ ks) (p ∷ ps) [] h = none_slots table
argument_slots table distinct (k ∷ ks) (p ∷ ps) (v ∷ vs) h =
    let at : slice_get table k ≡ Some p = cc in
    let rest : map (slice_get table) ks ≡ map Some ps = cc in
    ap (λ (slots : code.Slots). slice_set slots k (Some v)) (argument_slots table distinct ks ps vs rest)
    ∙ sym (in_front table (zip ps vs) p v ∙ slots_put table (zip ps vs) k p v distinct at)

done_same : (table : Table) (names : List Text) (f : m.Flow) → code.done names (flow_of table f) ≡ m.done names f
done_same table names (m.Goes s) = refl
done_same table names (m.Returns v s) = refl

pub program_of : (p : Program) (table : Table) (apps : List Text) (b : Block) (parameters : List Text) → p.slots ≡ length table → IsDistinct table → AreSlots table p.parameters parameters → AllFollow table p.steps (block_parts apps b) → IsProgramOf p apps b parameters
unfolding code.program_act m.body
program_of p table apps b parameters count distinct slots follow arguments names =
    let s : m.State = record { vars = zip parameters arguments; written = m.unwritten names; left = m.max_turns } in
    let begin : code.at_begin p arguments names ≡ store_of table s = λ i. record { slots = (ap (λ (n : ℕ). code.with_arguments p.parameters arguments (code.none_set n)) count ∙ argument_slots table distinct p.parameters parameters arguments (slots table grows_none)) i; written = m.unwritten names; left = m.max_turns } in
    let steps : code.steps_do names p.steps (code.at_begin p arguments names) ≡ (fold_block (doing apps names) b s >>= λ f. Give (flow_of table f)) =
    ap (code.steps_do names p.steps) begin ∙ (follow.same table grows_none distinct names s ∙ ap (λ (does : m.Does). does s >>= λ f. Give (flow_of table f)) (sym (block_part apps names b))) in
    ap (λ (a : Act code.Flow). a >>= code.done names) steps
    ∙ (bind_assoc (fold_block (doing apps names) b s) (λ f. Give (flow_of table f)) (code.done names)
    ∙ bind_both (fold_block (doing apps names) b s) (fold_block (doing apps names) b s) _ _ refl (done_same table names))
