-- What has been read goes on to some expression.
use Rattle.std.proofs.Common.{◌≡◌, ℕ, List, [], ◌∷◌, ◌++◌, map, refl, ◌∙◌, sym, subst, append-nil, append_assoc}
use Rattle.std.proofs.lemmas.Grind.{flat_map-append}
use Rattle.script_tree.specs.declared.token.Token.{Token}
use Rattle.script_tree.specs.declared.token.Token.TheVariants as t
use Rattle.script_tree.specs.declared.token.Keyword.TheVariants as w
use Rattle.script_tree.specs.declared.token.Symbol.TheVariants as s
use Rattle.script_tree.specs.declared.tree.Atom.TheVariants as a
use Rattle.script_tree.specs.declared.tree.Expr.{Expr}
use Rattle.script_tree.specs.declared.tree.Post.{Post}
use Rattle.parser_model.specs.declared.expression_state.Before.{Before}
use Rattle.parser_model.specs.declared.expression_state.Listing.{Listing}
use Rattle.parser_model.specs.declared.expression_state.Listing.TheVariants as l
use Rattle.parser_model.specs.declared.expression_state.OpenBracket.{OpenBracket}
use Rattle.parser_model.specs.declared.expression_state.OpenBracket.TheVariants as f
use Rattle.parser_model.specs.declared.expression_state.ExprState.{ExprState}
use Rattle.parser_model.specs.declared.expression_state.ExprState.TheVariants as o
use Rattle.script_tree.specs.Spelling.{Tokens, symbol, word, listed}
use Rattle.parser_model.specs.declared.expression_state.Closer.{Closer}
use Rattle.parser_model.specs.declared.expression_state.Closer.TheVariants.{Round, Square}
use Rattle.parser_model.specs.Reading.{whole_expr, nothing_before, bare, with_index, call_post, list_done}
use Rattle.parser_model.proofs.Equations.{expr, post, atom-nothing, atom-variable}
use Rattle.parser_model.proofs.Spelled.{before, call_part, before_list, frame, focus, frames, read, bare-spells, with_index-spells, items-spells, nothing-spells, call_post-spells, whole_expr-spells}
use Rattle.parser_model.proofs.Steps.{list_done-spells, has_names, paren-spells}

pub record Completes (ts : Tokens) : Type 0 where
  pub found : Expr
  pub rest : Tokens
  pub is : expr found ≡ ts ++ rest

shorter : (ts more : Tokens) → Completes (ts ++ more) → Completes ts
shorter ts more c = record { found = c.found; rest = more ++ c.rest; is = c.is ∙ append_assoc ts more c.rest }

-- induction from the end of a list
pub from_end : {A : Type 0} (P : List A → Type 0) → P [] → ((xs : List A) (x : A) → P xs → P (xs ++ x ∷ [])) → (xs ys : List A) → P xs → P (xs ++ ys)
from_end P none more xs [] p = subst P (sym (append-nil xs)) p
from_end P none more xs (y ∷ ys) p = subst P (append_assoc xs (y ∷ []) ys) (from_end P none more (xs ++ y ∷ []) ys (more xs y p))

-- what stands before an operand, and the operand
abbrev Closes : List OpenBracket → Type 0
Closes fs = (b : Before) (p : Post) → Completes (frames fs ++ (before b ++ post p))

done_closes : (gs : List OpenBracket) (l : Listing) (es : List Expr) → Closes gs → Completes (frames gs ++ focus (list_done l es))
unfolding focus
done_closes gs (l.List b) es c = c b (bare (a.List es))
done_closes gs (l.Arguments b x) es c = c b (bare (a.BuiltIn x es))
done_closes gs (l.Call b x) es c = subst (λ (z : Tokens). Completes (frames gs ++ (before b ++ z))) (call_post-spells x es [] ∙ append-nil _) (c b (call_post x es []))
done_closes gs (l.Names b x ds) es c = c b (call_post x ds es)

abbrev closer : Listing → Closer
closer (l.List b) = Square
closer _ = Round

abbrev closing : Listing → Token
closing (l.List b) = t.Symbol s.CloseList
closing _ = t.Symbol s.CloseParen

done-spells : (l : Listing) (es : List Expr) (e : Expr) → focus (list_done l (es ++ e ∷ [])) ≡ before_list l ++ (listed (map expr (es ++ e ∷ [])) ++ closing l ∷ [])
done-spells (l.List b) es e = list_done-spells (l.List b) (es ++ e ∷ []) Square _ refl tt refl
done-spells (l.Arguments b x) es e = list_done-spells (l.Arguments b x) (es ++ e ∷ []) Round _ refl tt refl
done-spells (l.Call b x) es e = list_done-spells (l.Call b x) (es ++ e ∷ []) Round _ refl tt refl
done-spells (l.Names b x ds) es e = list_done-spells (l.Names b x ds) (es ++ e ∷ []) Round _ refl (has_names (l.Names b x ds) es e) refl

frame_closes : (gs : List OpenBracket) (fr : OpenBracket) (e : Expr) → Closes gs → Completes (frames gs ++ (frame fr ++ expr e))
unfolding frame
frame_closes gs (f.Paren b) e c = shorter _ (symbol s.CloseParen) (subst Completes (rw (paren-spells e) (simp append_assoc)) (c b (bare (a.Paren e))))
frame_closes gs (f.Index b p) e c = shorter _ (symbol s.CloseList) (subst Completes (rw (with_index-spells p e) (simp append_assoc)) (c b (with_index p e)))
frame_closes gs (f.Listed l es) e c = shorter _ (closing l ∷ []) (subst Completes (rw (done-spells l es e, items-spells es e) (simp append_assoc)) (done_closes gs l (es ++ e ∷ []) c))

closes_more : (gs : List OpenBracket) (fr : OpenBracket) → Closes gs → Closes (gs ++ fr ∷ [])
closes_more gs fr c b p = subst Completes (rw (whole_expr-spells b p) (simp (flat_map-append, append-nil, append_assoc))) (frame_closes gs fr (whole_expr b p) c)

pub closes : (fs : List OpenBracket) → Closes fs
closes fs = from_end Closes (λ b p. record { found = whole_expr b p; rest = []; is = whole_expr-spells b p ∙ sym (append-nil _) }) closes_more [] fs
    (λ b p. record { found = whole_expr b p; rest = []; is = whole_expr-spells b p ∙ sym (append-nil _) })

some_name : List ℕ
some_name = 102 ∷ []

nothing_closes : (fs : List OpenBracket) (b : Before) → Completes (frames fs ++ (before b ++ word w.Nothing))
nothing_closes fs b = subst (λ (z : Tokens). Completes (frames fs ++ (before b ++ z))) (bare-spells _ ∙ atom-nothing) (closes fs b (bare a.Nothing))

call_closes : (fs : List OpenBracket) (b : Before) (x : List ℕ) → Completes (frames fs ++ (before b ++ (t.Keyword w.Call ∷ t.Name x ∷ t.Symbol s.OpenParen ∷ t.Symbol s.CloseParen ∷ [])))
unfolding call_part
call_closes fs b x = subst (λ (z : Tokens). Completes (frames fs ++ (before b ++ z))) (call_post-spells x [] []) (closes fs b (call_post x [] []))

pub completes : (fs : List OpenBracket) (o : ExprState) → Completes (read fs o)
unfolding focus frame before_list
completes fs (o.Operand b) = shorter _ (word w.Nothing) (subst Completes (simp append_assoc) (nothing_closes fs b))
completes fs o.First = shorter _ (word w.Nothing) (subst Completes (simp (nothing-spells, append-nil)) (nothing_closes fs nothing_before))
completes fs (o.Named b x) = subst (λ (z : Tokens). Completes (frames fs ++ (before b ++ z))) (bare-spells _ ∙ atom-variable x) (closes fs b (bare (a.Variable x)))
completes fs (o.CallWord b) = shorter _ (t.Name some_name ∷ t.Symbol s.OpenParen ∷ t.Symbol s.CloseParen ∷ []) (subst Completes (simp append_assoc) (call_closes fs b some_name))
completes fs (o.CallName b x) = shorter _ (t.Symbol s.OpenParen ∷ t.Symbol s.CloseParen ∷ []) (subst Completes (simp append_assoc) (call_closes fs b x))
completes fs (o.Called b x es) = subst (λ (z : Tokens). Completes (frames fs ++ (before b ++ z))) (call_post-spells x es [] ∙ append-nil _) (closes fs b (call_post x es []))
completes fs (o.CallTo b x es) = shorter _ (t.Symbol s.OpenParen ∷ t.Keyword w.Nothing ∷ []) (subst Completes (simp (flat_map-append, nothing-spells, append-nil, append_assoc)) (nothing_closes (fs ++ f.Listed (l.Names b x es) [] ∷ []) nothing_before))
completes fs (o.After b p) = closes fs b p
