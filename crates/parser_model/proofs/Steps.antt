-- A token more is spelled at the end of all that has been read.
use Rattle.std.proofs.Common.{◌≡◌, ℕ, List, [], ◌∷◌, ◌++◌, map, refl, ap, ◌∙◌, sym, subst, Bool, true, false, if◌then◌else◌, Option, Some, None, append-nil, append_assoc}
use Rattle.std.proofs.lemmas.Grind.{flat_map-append}
use Rattle.script_tree.specs.declared.token.Token.{Token}
use Rattle.script_tree.specs.declared.token.Token.TheVariants as t
use Rattle.script_tree.specs.declared.token.Keyword.TheVariants as w
use Rattle.script_tree.specs.declared.token.Symbol.TheVariants as s
use Rattle.script_tree.specs.declared.tree.Atom.TheVariants as a
use Rattle.script_tree.specs.declared.tree.Expr.{Expr}
use Rattle.parser_model.specs.declared.expression_state.Listing.{Listing}
use Rattle.parser_model.specs.declared.expression_state.Listing.TheVariants as l
use Rattle.parser_model.specs.declared.expression_state.OpenBracket.{OpenBracket}
use Rattle.parser_model.specs.declared.expression_state.OpenBracket.TheVariants as f
use Rattle.parser_model.specs.declared.expression_state.ExprState.{ExprState}
use Rattle.script_tree.specs.Spelling.{Tokens, symbol, listed, in_parens, names_part}
use Rattle.parser_model.specs.declared.expression_state.ExprMove.{ExprMove}
use Rattle.parser_model.specs.declared.expression_state.ExprMove.TheVariants.{To, Open, Ends, Empty, Stuck}
use Rattle.parser_model.specs.declared.expression_state.Closer.{Closer}
use Rattle.parser_model.specs.declared.expression_state.Closer.TheVariants.{Round, Square, Comma, Other}
use Rattle.parser_model.specs.declared.expression_state.ExprNext.{ExprNext}
use Rattle.parser_model.specs.declared.expression_state.ExprNext.TheVariants.{Stay, Done, Stop}
use Rattle.parser_model.specs.Reading.{bare, list_done, move, split, split_with, closer_of, ends_list, may_be_empty, listed_on, in_frame, close, empty, act, step}
use Rattle.parser_model.proofs.Equations.{expr, post, atom-built_in, atom-paren, atom-list}
use Rattle.std.specs.Prelude.{◌&&◌}
use Rattle.parser_model.proofs.Spelled.{call_part, before_list, frame, focus, frames, read, bare-spells, with_index-spells, items-spells, nothing-spells, Moves, call_post-spells, move-moves}

abbrev pub Spells : Tokens → Token → ExprNext → Type 0
Spells ts token (Stay fs o) = read fs o ≡ ts ++ token ∷ []
Spells ts token (Done e) = expr e ≡ ts
Spells ts token Stop = Unit {0}

-- ---- the last bracket

abbrev pub IsSplit : {A : Type 0} → List A → Option (List A × A) → Type 0
IsSplit xs None = xs ≡ []
IsSplit xs (Some (ys, y)) = xs ≡ ys ++ y ∷ []

split_with-is : {A : Type 0} (x : A) (xs : List A) (r : Option (List A × A)) → IsSplit xs r → IsSplit (x ∷ xs) (split_with x r)
split_with-is x xs None e = ap (λ z. x ∷ z) e
split_with-is x xs (Some (ys, y)) e = ap (λ z. x ∷ z) e

pub split-is : {A : Type 0} (xs : List A) → IsSplit xs (split xs)
split-is [] = refl
split-is (x ∷ xs) = split_with-is x xs (split xs) (split-is xs)

pub split-snoc : {A : Type 0} (xs : List A) (y : A) → split (xs ++ y ∷ []) ≡ Some (xs, y)
split-snoc [] y = refl
split-snoc {A} (x ∷ xs) y = ap (λ (r : Option (List A × A)). split_with x r) (split-snoc xs y)

abbrev pub IsCloser : Token → Closer → Type 0
IsCloser token Round = token ≡ t.Symbol s.CloseParen
IsCloser token Square = token ≡ t.Symbol s.CloseList
IsCloser token Comma = token ≡ t.Symbol s.Comma
IsCloser token Other = Unit {0}

pub is_closer : (token : Token) → IsCloser token (closer_of token)
is_closer (t.Symbol s.CloseParen) = refl
is_closer (t.Symbol s.CloseList) = refl
is_closer (t.Symbol s.Comma) = refl
is_closer _ = tt

pub paren-spells : (e : Expr) → post (bare (a.Paren e)) ≡ in_parens (expr e)
paren-spells e = bare-spells _ ∙ atom-paren e

-- names are written where there are some
abbrev pub HasNames : Listing → List Expr → Type 0
HasNames (l.Names b x es) ns = names_part (map expr ns) ≡ t.Keyword w.To ∷ in_parens (listed (map expr ns))
HasNames _ ns = Unit {0}

pub has_names : (l : Listing) (es : List Expr) (e : Expr) → HasNames l (es ++ e ∷ [])
has_names (l.Names b x ds) [] e = refl
has_names (l.Names b x ds) (d ∷ es) e = refl
has_names (l.List b) es e = tt
has_names (l.Arguments b x) es e = tt
has_names (l.Call b x) es e = tt

pub call_part-is : (x : List ℕ) (es : List Expr) → call_part x es ≡ (t.Keyword w.Call ∷ t.Name x ∷ symbol s.OpenParen) ++ (listed (map expr es) ++ symbol s.CloseParen)
unfolding call_part
call_part-is x es = refl

pub list_done-spells : (l : Listing) (es : List Expr) (c : Closer) (token : Token) → IsCloser token c → HasNames l es → ends_list l c ≡ true
    → focus (list_done l es) ≡ before_list l ++ (listed (map expr es) ++ token ∷ [])
unfolding focus before_list
list_done-spells (l.List b) es Square token is has e = rw (is, bare-spells (a.List es), atom-list es) (simp append_assoc)
list_done-spells (l.Arguments b x) es Round token is has e = rw (is, bare-spells (a.BuiltIn x es), atom-built_in x es) (simp append_assoc)
list_done-spells (l.Call b x) es Round token is has e = rw (is, call_part-is x es) (simp append_assoc)
list_done-spells (l.Names b x ds) es Round token is has e = rw (is, call_post-spells x ds es, has) (simp append_assoc)
list_done-spells (l.List b) es _ token is has e = absurd (cc)
list_done-spells _ es _ token is has e = absurd (cc)

-- the list ends, or nothing goes on
ends-spells : (fs : List OpenBracket) (l : Listing) (es : List Expr) (token : Token) (ok : Bool) → (ok ≡ true → focus (list_done l es) ≡ before_list l ++ (listed (map expr es) ++ token ∷ []))
    → Spells (frames fs ++ (before_list l ++ listed (map expr es))) token (if ok then Stay fs (list_done l es) else Stop)
ends-spells fs l es token true e = rw (e refl) (simp append_assoc)
ends-spells fs l es token false e = tt

listed_on-spells : (fs : List OpenBracket) (l : Listing) (es : List Expr) (e : Expr) (c : Closer) (token : Token) → IsCloser token c
    → Spells (frames fs ++ (before_list l ++ listed (map expr (es ++ e ∷ [])))) token (listed_on fs l (es ++ e ∷ []) c)
unfolding focus frame
listed_on-spells fs l es e Comma token is = rw (is, items-spells es e) (simp (flat_map-append, nothing-spells, append-nil, append_assoc))
listed_on-spells fs l es e c token is = ends-spells fs l (es ++ e ∷ []) token (ends_list l c) (list_done-spells l (es ++ e ∷ []) c token is (has_names l es e))

in_frame-spells : (fs : List OpenBracket) (fr : OpenBracket) (e : Expr) (c : Closer) (token : Token) → IsCloser token c → Spells (frames fs ++ (frame fr ++ expr e)) token (in_frame fs fr e c)
unfolding focus frame
in_frame-spells fs (f.Paren b) e Round token is = rw (is, paren-spells e) (simp append_assoc)
in_frame-spells fs (f.Index b p) e Square token is = rw (is, with_index-spells p e) (simp append_assoc)
in_frame-spells fs (f.Listed l es) e c token is =
    subst (λ (z : Tokens). Spells (frames fs ++ z) token (listed_on fs l (es ++ e ∷ []) c))
    (ap (λ z. before_list l ++ z) (items-spells es e) ∙ simp append_assoc) (listed_on-spells fs l es e c token is)
in_frame-spells fs (f.Paren b) e _ token is = tt
in_frame-spells fs (f.Index b p) e _ token is = tt

close-spells : (fs : List OpenBracket) (e : Expr) (c : Closer) (token : Token) (r : Option (List OpenBracket × OpenBracket)) → IsSplit fs r → IsCloser token c → Spells (frames fs ++ expr e) token (close e c r)
close-spells fs e c token None is i = rw is refl
close-spells fs e c token (Some (gs, fr)) is i = subst (λ (z : Tokens). Spells (z ++ expr e) token (in_frame gs fr e c))
    (sym (ap frames is ∙ simp (flat_map-append, append-nil)))
    (subst (λ (z : Tokens). Spells z token (in_frame gs fr e c)) (sym (append_assoc (frames gs) (frame fr) (expr e))) (in_frame-spells gs fr e c token i))

listed_frames : (gs : List OpenBracket) (l : Listing) → frames (gs ++ f.Listed l [] ∷ []) ≡ frames gs ++ (before_list l ++ [])
unfolding frame
listed_frames gs l = simp (flat_map-append, append-nil)

has_none : (l : Listing) → may_be_empty l ≡ true → HasNames l []
has_none (l.Names b x ds) e = absurd (cc)
has_none (l.List b) e = tt
has_none (l.Arguments b x) e = tt
has_none (l.Call b x) e = tt

both-true : (a b : Bool) → (a && b) ≡ true → (a ≡ true) × (b ≡ true)
both-true true b e = (refl, e)
both-true false b e = absurd (cc)

empty_list-spells : (fs : List OpenBracket) (l : Listing) (c : Closer) (token : Token) → IsCloser token c
    → Spells (frames fs ++ (before_list l ++ [])) token (if may_be_empty l && ends_list l c then Stay fs (list_done l []) else Stop)
empty_list-spells fs l c token i = ends-spells fs l [] token (may_be_empty l && ends_list l c)
    (λ e. let both = both-true (may_be_empty l) (ends_list l c) e in list_done-spells l [] c token i (has_none l both.0) both.1)

empty-spells : (fs : List OpenBracket) (c : Closer) (token : Token) (r : Option (List OpenBracket × OpenBracket)) → IsSplit fs r → IsCloser token c → Spells (frames fs) token (empty c r)
empty-spells fs c token None is i = tt
empty-spells fs c token (Some (gs, f.Paren b)) is i = tt
empty-spells fs c token (Some (gs, f.Index b p)) is i = tt
empty-spells fs c token (Some (gs, f.Listed l (e ∷ es))) is i = tt
empty-spells fs c token (Some (gs, f.Listed l [])) is i = subst (λ (z : Tokens). Spells z token (empty c (Some (gs, f.Listed l []))))
    (sym (ap frames is ∙ listed_frames gs l)) (empty_list-spells gs l c token i)

act-spells : (fs : List OpenBracket) (ts : Tokens) (token : Token) (m : ExprMove) → Moves ts token m → Spells (frames fs ++ ts) token (act fs token m)
act-spells fs ts token (To o) e = rw e (simp append_assoc)
act-spells fs ts token (Open fr o) e = simp (flat_map-append, append-nil, append_assoc) (ap (λ z. frames fs ++ z) e ∙ refl)
act-spells fs ts token (Ends x) e = subst (λ (z : Tokens). Spells (frames fs ++ z) token (close x (closer_of token) (split fs))) e (close-spells fs x (closer_of token) token (split fs) (split-is fs) (is_closer token))
act-spells fs ts token Empty e = rw (e, append-nil) (empty-spells fs (closer_of token) token (split fs) (split-is fs) (is_closer token))
act-spells fs ts token Stuck e = tt

pub step-spells : (fs : List OpenBracket) (o : ExprState) (token : Token) → Spells (read fs o) token (step fs o token)
unfolding step
step-spells fs o token = act-spells fs (focus o) token (move o token) (move-moves o token)
