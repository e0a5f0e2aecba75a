-- A script's bytes have one refusal, or an output.
use Rattle.std.proofs.Common.{◌≡◌, ◌⊎◌, inl, inr, ℕ, suc, ◌<◌, ◌≤◌, Bool, None, Some, List, [], ◌∷◌, ◌++◌, map, get_or, nat_eq, if◌then◌else◌, refl, sym, ◌∙◌, ap, subst, arith}
use Rattle.std.specs.Prelude.{Contains}
use Rattle.script_tree.specs.declared.tree.AppDef.{AppDef}
use Rattle.script_tree.specs.declared.body_kind.BodyKind.TheVariants.{OfMain}
use Rattle.script_tree.specs.declared.fault.SyntaxFault.{SyntaxFault}
use Rattle.script_tree.specs.declared.fault.Rule.{Rule}
use Rattle.script_tree.specs.declared.fault.Rule.TheVariants as rule
use Rattle.script_tree.specs.Faults.{rule_number}
use Rattle.script_tree.specs.Grammar.{Tree, PlacedTree}
use Rattle.script_tree.specs.Marks.{Marks, script}
use Rattle.script_tree.specs.Rules.{State, faults, faults_at, faults_from, behind, IsWellFormed, IsCheckFault}
use Rattle.parsl_engine.specs.declared.words.Command.{Command}
use Rattle.parsl_engine.specs.declared.words.Command.TheVariants as command
use Rattle.parsl_engine.specs.declared.script.ScriptRefusal.{ScriptRefusal}
use Rattle.parsl_engine.specs.declared.script.ScriptRefusal.TheVariants.{Parse, Check}
use Rattle.stored_units.specs.declared.units.Limit.{Limit}
use Rattle.stored_units.specs.declared.units.Limit.TheVariants as limit
use Rattle.stored_units.specs.Totals.{limit_met}
use Rattle.kernel_model.specs.RunTotals.{IsWithinRun}
use Rattle.parsl_engine.specs.Scripts.{IsCheckedText, BreaksRule, IsFaulty}
use Rattle.parsl_engine.specs.Runs.{without_losses, PassesLimit}
use Rattle.parsl_engine.specs.Output.{Prints, Limits}
use Rattle.parsl_engine.specs.Tellings.{Ledgers}

-- ---- a script that breaks no rule has no fault, wherever its tokens stand

abbrev placed : ℕ → List Rule → List (ℕ × Rule)
placed at = map (λ broken. (at, broken))

none_here : (at to : ℕ) (rules : List Rule) (fs gs : List (ℕ × Rule)) → placed at rules ++ fs ≡ [] → (fs ≡ [] → gs ≡ []) → placed to rules ++ gs ≡ []
none_here at to [] fs gs e h = h e
none_here at to (broken ∷ rules) fs gs e h = absurd (cc)

none_anywhere : (apps : List AppDef) (places others : List ℕ) (k n : ℕ) (s : State) (ms : Marks) → faults_from apps places k s ms ≡ [] → faults_from apps others n s ms ≡ []
none_anywhere apps places others k n s [] e = refl
none_anywhere apps places others k n s (m ∷ ms) e = none_here (get_or places k 0) (get_or others n 0) (faults_at apps s m) _ _ e (none_anywhere apps places others (suc k) (suc n) (behind m s) ms)

faults_are : (tree : Tree) (places : List ℕ) → faults tree places ≡ faults_from tree.0 places 0 (record { scopes = []; body = OfMain }) (script tree)
unfolding faults
faults_are tree places = refl

no_faults : (tree : Tree) (places : List ℕ) → IsWellFormed tree → faults tree places ≡ []
no_faults tree places right = faults_are tree places ∙ none_anywhere tree.0 [] places 0 0 (record { scopes = []; body = OfMain }) (script tree) (sym (faults_are tree []) ∙ right)

well_formed-faultless : (tree : Tree) (places : List ℕ) (kind : Rule) (place : ℕ) → IsWellFormed tree → IsCheckFault tree places kind place → ⊥
well_formed-faultless tree places kind place right fault =
    let none : Contains [] (place, kind) = subst (λ (l : List (ℕ × Rule)). Contains l (place, kind)) (no_faults tree places right) fault.0 in
    omega (arith, none.1)

-- ---- a script has one least fault

-- no two rules have one number
abbrev numbered : ℕ → Rule
numbered n =
    if nat_eq n 1 then rule.UnknownName else (if nat_eq n 2 then rule.UnknownApp else (if nat_eq n 3 then rule.Arity else (if nat_eq n 4 then rule.CallInApp else (if nat_eq n 5 then rule.WaitOutsideMain else (if nat_eq n 6 then rule.Outputs else (if nat_eq n 7 then rule.Repeated else (if nat_eq n 8 then rule.CachedJoin else rule.CachedTooLong)))))))

numbered-back : (broken : Rule) → numbered (rule_number broken) ≡ broken
numbered-back rule.UnknownName = refl
numbered-back rule.UnknownApp = refl
numbered-back rule.Arity = refl
numbered-back rule.CallInApp = refl
numbered-back rule.WaitOutsideMain = refl
numbered-back rule.Outputs = refl
numbered-back rule.Repeated = refl
numbered-back rule.CachedJoin = refl
numbered-back rule.CachedTooLong = refl

same_number : (a b : Rule) → rule_number a ≡ rule_number b → a ≡ b
same_number a b e = sym (numbered-back a) ∙ ap numbered e ∙ numbered-back b

one_least : (kind place other at : ℕ) → (place < at) ⊎ ((place ≡ at) × (kind ≤ other)) → (at < place) ⊎ ((at ≡ place) × (other ≤ kind)) → (other ≡ kind) × (at ≡ place)
one_least kind place other at (inl a) (inl b) = absurd (omega (arith, a, b))
one_least kind place other at (inl a) (inr b) = absurd (omega (arith, a, b.0))
one_least kind place other at (inr a) (inl b) = absurd (omega (arith, a.0, b))
one_least kind place other at (inr a) (inr b) = (omega (arith, a.1, b.1), sym a.0)

one_check : (s : PlacedTree) (kind other : Rule) (place at : ℕ) → IsCheckFault s.tree s.places kind place → IsCheckFault s.tree s.places other at → (other ≡ kind) × (at ≡ place)
one_check s kind other place at a b =
    let one = one_least (rule_number kind) place (rule_number other) at (a.1 other at b.0) (b.1 kind place a.0) in
    (same_number other kind one.0, one.1)

-- ---- one refusal

same_check : (kind other : Rule) (place at : ℕ) → (other ≡ kind) × (at ≡ place) → Check other at ≡ Check kind place
same_check kind other place at h = rw (h.0, h.1) refl

same_parse : (kind other : SyntaxFault) (place at : ℕ) → (other ≡ kind) × (at ≡ place) → Parse other at ≡ Parse kind place
same_parse kind other place at h = rw (h.0, h.1) refl

fault_of : (bytes : List ℕ) (s : PlacedTree) (kind : Rule) (place : ℕ) (b : BreaksRule bytes kind place) → b.script ≡ s → IsCheckFault s.tree s.places kind place
fault_of bytes s kind place b is = subst (λ (p : PlacedTree). IsCheckFault p.tree p.places kind place) is b.fault

pub one_fault : (bytes : List ℕ) (a b : ScriptRefusal) → IsFaulty bytes a → IsFaulty bytes b → b ≡ a
one_fault bytes (Parse kind place) (Parse other at) p q = same_parse kind other place at (p.only other at q.fault)
one_fault bytes (Parse kind place) (Check other at) p q = absurd (p.none q.script q.text.has)
one_fault bytes (Check kind place) (Parse other at) p q = absurd (q.none p.script p.text.has)
one_fault bytes (Check kind place) (Check other at) p q = same_check kind other place at (one_check p.script kind other place at p.fault (fault_of bytes p.script other at q (p.text.only q.script q.text.has)))

-- a text of a script that breaks no rule has no fault
right_faultless : (bytes : List ℕ) (s : PlacedTree) (r : ScriptRefusal) → IsCheckedText bytes s → IsFaulty bytes r → ⊥
right_faultless bytes s (Parse kind place) t f = f.none s t.text.has
right_faultless bytes s (Check kind place) t f = well_formed-faultless s.tree s.places kind place t.well_formed (fault_of bytes s kind place f (t.text.only f.script f.text.has))

-- ---- what has an output isn't refused

same_script : (bytes : List ℕ) (s t : PlacedTree) → IsCheckedText bytes s → IsCheckedText bytes t → s ≡ t
same_script bytes s t a b = b.text.only s a.text.has

pub not_refused : (c : Command) (bytes output : List ℕ) (raised : Bool) (told told' : Ledgers) (r : ScriptRefusal) → Prints c bytes output raised told told' → IsFaulty bytes r → ⊥
not_refused c bytes output raised told told' r p h = right_faultless bytes p.script r p.text h

-- ---- what passes a limit has no output, and isn't refused

within_passes : (tree : Tree) (l : Limit) → IsWithinRun tree.0 (without_losses tree) → PassesLimit tree l → ⊥
within_passes tree limit.Tasks within passes = let few = within.few in absurd (omega (arith, few, passes))
within_passes tree limit.Stored within passes = let small = within.small in absurd (omega (arith, small, passes))

none_met : (tree : Tree) (l : Limit) → limit_met (without_losses tree) ≡ None → limit_met (without_losses tree) ≡ Some l → ⊥
none_met tree l none met = absurd (let bad : Some l ≡ None = sym met ∙ none in cc)

pub not_limited : (c : Command) (bytes output : List ℕ) (raised : Bool) (told told' : Ledgers) (l : Limit) → Prints c bytes output raised told told' → Limits c bytes l → ⊥
not_limited command.Run bytes output raised told told' l p h =
    within_passes p.script.tree l p.prints.within (subst (λ (s : PlacedTree). PassesLimit s.tree l) (same_script bytes h.script p.script h.text p.text) h.passes)
not_limited command.Seq bytes output raised told told' l p h =
    none_met p.script.tree l p.prints.0.within (subst (λ (s : PlacedTree). limit_met (without_losses s.tree) ≡ Some l) (same_script bytes h.script p.script h.text p.text) h.passes)
not_limited command.Check bytes output raised told told' l p h = h.passes
not_limited command.Format bytes output raised told told' l p h = h.passes

pub limited_not_refused : (c : Command) (bytes : List ℕ) (l : Limit) (r : ScriptRefusal) → Limits c bytes l → IsFaulty bytes r → ⊥
limited_not_refused c bytes l r h f = right_faultless bytes h.script r h.text f
