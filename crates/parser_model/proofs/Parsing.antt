-- The verdict on a text is what the grammar says of it.
use Rattle.std.specs.Prelude.{nat_lt}
use Rattle.std.proofs.Common.{◌≡◌, ℕ, ◌+◌, ◌<◌, ◌≤◌, ◌⊎◌, inl, inr, List, [], ◌∷◌, ◌++◌, length, refl, ap, ◌∙◌, sym, subst, Bool, true, false, None, arith}
use Rattle.std.proofs.lemmas.Bool.{ltb-true}
use Rattle.std.proofs.lemmas.Bool.Decides.{nat_tests}
use Rattle.script_tree.specs.declared.token.Token.{Token}
use Rattle.script_tree.specs.declared.fault.SyntaxFault.{SyntaxFault}
use Rattle.script_tree.specs.Faults.{syntax_number}
use Rattle.script_tree.specs.Spelling.{Tokens, script}
use Rattle.script_tree.specs.Lexing.{Text, Lexed, lex}
use Rattle.script_tree.specs.Grammar.{At, IsNestedWithin, Tree, nesting, max_nesting, max_text, tokens_of, HasTree, IsFault, Faulty}
use Rattle.parser_model.specs.declared.script_state.ParserState.{ParserState}
use Rattle.parser_model.specs.Scripts.{script_step, script_ended, nothing_read}
use Rattle.parser_model.specs.Verdicts.{Verdict, Fine, Refused}
use Rattle.parser_model.specs.Parsing.{lexed_verdict, sized_verdict, text_verdict, Says}
use Rattle.parser_model.proofs.Scripts.{spelled}
use Rattle.parser_model.proofs.ScriptReads.{script_laws}
use Rattle.parser_model.proofs.FaultNumbers.{same_number}
use Rattle.parser_model.proofs.Places.{lexed_ordered}
use Rattle.parser_model.proofs.Least.{Ordered, Right, verdict_right, unambiguous, tokens_of-split}

-- ---- tokens with their places

abbrev pub RightScript : Lexed → ℕ → Verdict → Type 0
RightScript = Right ParserState script_step spelled nothing_read script_ended

-- the verdict is the tree, or the fault that is least by place and then by number
pub lexed_verdict_right : (l : Lexed) (len : ℕ) → Ordered 0 l.tokens l.fault len → RightScript l len (lexed_verdict l len)
unfolding lexed_verdict
lexed_verdict_right l len ordered = verdict_right ParserState script_step spelled nothing_read script_ended script_laws l len ordered

-- a list of tokens has one tree
pub one_script : (a b : Tree) → script a ≡ script b → a ≡ b
one_script a b e = unambiguous ParserState script_step spelled nothing_read script_ended script_laws a b e

-- ---- a text

not_long : (n : ℕ) → nat_lt max_text n ≡ false → n ≤ max_text
not_long n e = grind (arith, nat_tests)

right_says : (text : Text) (v : Verdict) → length text ≤ max_text → RightScript (lex text) (length text) v → Says text v
right_says text (Fine tree) size r = record { size = size; whole = r.0; tokens = r.1; places = refl; nested = subst IsNestedWithin r.1 r.2 }
right_says text (Refused kind place) size r = inr (size, r.0, r.1)

sized_says : (text : Text) (b : Bool) → nat_lt max_text (length text) ≡ b → Says text (sized_verdict b (lexed_verdict (lex text) (length text)))
sized_says text true e = inl (ltb-true max_text (length text) e, refl, refl)
sized_says text false e = right_says text (lexed_verdict (lex text) (length text)) (not_long (length text) e) (lexed_verdict_right (lex text) (length text) (lexed_ordered text))

-- the verdict on a text is true
pub text_says : (text : Text) → Says text (text_verdict text)
unfolding text_verdict
text_says text = sized_says text (nat_lt max_text (length text)) refl

-- ---- no other tree, and no other fault

front_at : (text : Text) (tree : Tree) (place : ℕ) (P : Tokens → Token → Type 0) → tokens_of (lex text).tokens ≡ script tree → (h : At (lex text) place P)
    → script tree ≡ (tokens_of h.front ++ h.token ∷ []) ++ tokens_of h.rest
front_at text tree place P e h = sym e ∙ (ap tokens_of h.is ∙ tokens_of-split h.front (place, h.token) h.rest)

too_deep : (ts us : Tokens) → IsNestedWithin (ts ++ us) → nesting ts ≡ max_nesting + 1 → ⊥
too_deep ts us within deep = let h : nesting ts ≤ max_nesting = within ts us refl in omega (arith, h, deep)

tree_or_fault : (text : Text) (tree : Tree) (kind : SyntaxFault) (place : ℕ) → (lex text).fault ≡ None → tokens_of (lex text).tokens ≡ script tree → IsNestedWithin (script tree) → Faulty text kind place → ⊥
tree_or_fault text tree kind place whole tokens nested (inl e) = cc
tree_or_fault text tree kind place whole tokens nested (inr (inl (k, inl h))) = h.fact.1 (record { tree = tree; rest = tokens_of h.rest; is = front_at text tree place _ tokens h })
tree_or_fault text tree kind place whole tokens nested (inr (inl (k, inr h))) = h.3 (record { tree = tree; is = sym tokens })
tree_or_fault text tree kind place whole tokens nested (inr (inr (k, h))) =
    too_deep (tokens_of h.front ++ h.token ∷ []) (tokens_of h.rest) (subst IsNestedWithin (front_at text tree place _ tokens h) nested) h.fact.1

-- a text that has a tree has no fault
pub no_fault : (text : Text) (tree : Tree) (at : List ℕ) (kind : SyntaxFault) (place : ℕ) → HasTree text tree at → IsFault text kind place → ⊥
no_fault text tree at kind place h (inl f) = let size : length text ≤ max_text = h.size in let long : max_text < length text = f.0 in omega (arith, size, long)
no_fault text tree at kind place h (inr f) = tree_or_fault text tree kind place h.whole h.tokens h.nested f.1

pub one_tree : (text : Text) (a b : Tree) (at to : List ℕ) → HasTree text a at → HasTree text b to → a ≡ b
one_tree text a b at to h k = one_script a b (sym h.tokens ∙ k.tokens)

least_place : (p q : ℕ) (k m : SyntaxFault) → (p < q) ⊎ ((p ≡ q) × (syntax_number k ≤ syntax_number m)) → (q < p) ⊎ ((q ≡ p) × (syntax_number m ≤ syntax_number k)) → (p ≡ q) × (k ≡ m)
least_place p q k m (inl a) (inl b) = absurd (omega (arith, a, b))
least_place p q k m (inl a) (inr b) = absurd (omega (arith, a, b.0))
least_place p q k m (inr a) (inl b) = absurd (omega (arith, a.0, b))
least_place p q k m (inr a) (inr b) = (a.0, same_number k m (omega (arith, a.1, b.1)))

-- a text has one fault at most
pub one_fault : (text : Text) (k m : SyntaxFault) (p q : ℕ) → IsFault text k p → IsFault text m q → (p ≡ q) × (k ≡ m)
one_fault text k m p q (inl f) (inl g) = (f.2 ∙ sym g.2, f.1 ∙ sym g.1)
one_fault text k m p q (inl f) (inr g) = let long : max_text < length text = f.0 in let size : length text ≤ max_text = g.0 in absurd (omega (arith, long, size))
one_fault text k m p q (inr f) (inl g) = let long : max_text < length text = g.0 in let size : length text ≤ max_text = f.0 in absurd (omega (arith, long, size))
one_fault text k m p q (inr f) (inr g) = least_place p q k m (f.2 m q g.1) (g.2 k p f.1)

-- ---- the verdict is the only answer

fine_is : (text : Text) (tree : Tree) (at : List ℕ) (v : Verdict) → Says text v → HasTree text tree at → v ≡ Fine tree
fine_is text tree at (Fine other) says h = ap (λ (x : Tree). Fine x) (one_tree text other tree _ at says h)
fine_is text tree at (Refused kind place) says h = absurd (no_fault text tree at kind place h says)

refused_is : (text : Text) (kind : SyntaxFault) (place : ℕ) (v : Verdict) → Says text v → IsFault text kind place → v ≡ Refused kind place
refused_is text kind place (Fine tree) says f = absurd (no_fault text tree _ kind place says f)
refused_is text kind place (Refused k p) says f = let same = one_fault text k kind p place says f in ap (λ (x : SyntaxFault). Refused x p) same.1 ∙ ap (λ (x : ℕ). Refused kind x) same.0

pub has_tree_verdict : (text : Text) (tree : Tree) (at : List ℕ) → HasTree text tree at → text_verdict text ≡ Fine tree
has_tree_verdict text tree at h = fine_is text tree at (text_verdict text) (text_says text) h

pub is_fault_verdict : (text : Text) (kind : SyntaxFault) (place : ℕ) → IsFault text kind place → text_verdict text ≡ Refused kind place
is_fault_verdict text kind place f = refused_is text kind place (text_verdict text) (text_says text) f
