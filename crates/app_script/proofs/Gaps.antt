-- Blanks and comments pass over no token.
use Rattle.std.proofs.Common.{◌≡◌, ℕ, suc, ◌+◌, ◌-◌, ◌≤◌, true, false, if◌then◌else◌, nat_eq, [], ◌∷◌, length, get_or, take, drop, Ok, Err, refl, ap, sym, subst, ◌∙◌, arith, length-drop}
use Rattle.std.proofs.lemmas.Bool.{false≢true}
use Rattle.std.proofs.lemmas.Bool.Decides.{nat_tests}
use Rattle.std.proofs.lemmas.List.{take_all}
use Rattle.std.proofs.lemmas.List.Sums.{prefix_len-le-length}
use Rattle.std.specs.List.{prefix_len}
use Rattle.script_tree.specs.declared.fault.SyntaxFault.TheVariants.{WrongByte}
use Rattle.script_tree.specs.Lexing.{Text, is_blank, is_in_comment, after_comment, stops_at}
use Rattle.app_script.specs.Lexer.{lexed, ends_line, IsGap}
use Rattle.app_script.proofs.Turns.{lexed_blank, lexed_comment}

newline_is_blank : (b : ℕ) → nat_eq b 10 ≡ true → is_blank b ≡ true
newline_is_blank b h = grind (arith, nat_tests)

comment_ends : (at : ℕ) (text : Text) → ends_line text ≡ true → after_comment lexed at text ≡ lexed at text
comment_ends at [] h = refl
comment_ends at (b ∷ bs) h =
    ap (λ t. if t then lexed (at + 1) bs else stops_at at WrongByte) h ∙ sym (lexed_blank at b bs (newline_is_blank b h))

comment_stops : (at : ℕ) (text : Text) → ends_line text ≡ false → after_comment lexed at text ≡ stops_at at WrongByte
comment_stops at [] h = absurd (false≢true (sym h))
comment_stops at (b ∷ bs) h = ap (λ t. if t then lexed (at + 1) bs else stops_at at WrongByte) h

behind : (at n : ℕ) → at + 1 + n ≡ at + (1 + n)
behind at n = omega arith

drop_behind : (n b : ℕ) (bs : Text) → drop n bs ≡ drop (1 + n) (b ∷ bs)
drop_behind n b bs = let e : 1 + n ≡ suc n = omega arith in rw e refl

comment_passed : (bs : Text) → ends_line (drop (prefix_len is_in_comment bs) bs) ≡ true → IsGap (Ok (1 + prefix_len is_in_comment bs)) (35 ∷ bs)
comment_passed bs h =
    let len = prefix_len is_in_comment bs in (
      omega (arith, prefix_len-le-length is_in_comment bs),
      λ at. lexed_comment at bs ∙ comment_ends (at + 1 + len) (drop len bs) h ∙ ap (λ place. lexed place (drop len bs)) (behind at len) ∙ ap (lexed (at + (1 + len))) (drop_behind len 35 bs),
    )

comment_stopped : (bs : Text) → ends_line (drop (prefix_len is_in_comment bs) bs) ≡ false → IsGap (Err (1 + prefix_len is_in_comment bs)) (35 ∷ bs)
comment_stopped bs h =
    let len = prefix_len is_in_comment bs in (
      omega (arith, prefix_len-le-length is_in_comment bs),
      λ at. lexed_comment at bs ∙ comment_stops (at + 1 + len) (drop len bs) h ∙ ap (λ place. stops_at place WrongByte) (behind at len),
    )

rest_is : (bs : Text) (n : ℕ) → take (length bs - n) (drop n bs) ≡ drop n bs
rest_is bs n = take_all (length bs - n) (drop n bs) (omega (arith, length-drop n bs))

-- the same of code that compares the rest of a slice
pub comment_is_passed : (bs : Text) (n : ℕ) → n ≡ prefix_len is_in_comment bs → ends_line (take (length bs - n) (drop n bs)) ≡ true → IsGap (Ok (1 + n)) (35 ∷ bs)
comment_is_passed bs n is h =
    subst (λ k. IsGap (Ok (1 + k)) (35 ∷ bs)) (sym is) (comment_passed bs (subst (λ k. ends_line (drop k bs) ≡ true) is (ap ends_line (sym (rest_is bs n)) ∙ h)))

pub comment_is_stopped : (bs : Text) (n : ℕ) → n ≡ prefix_len is_in_comment bs → ends_line (take (length bs - n) (drop n bs)) ≡ false → IsGap (Err (1 + n)) (35 ∷ bs)
comment_is_stopped bs n is h =
    subst (λ k. IsGap (Err (1 + k)) (35 ∷ bs)) (sym is) (comment_stopped bs (subst (λ k. ends_line (drop k bs) ≡ false) is (ap ends_line (sym (rest_is bs n)) ∙ h)))

pub blank_passed : (text : Text) → 1 ≤ length text → is_blank (get_or text 0 0) ≡ true → IsGap (Ok 1) text
blank_passed [] long h = absurd (omega arith)
blank_passed (b ∷ bs) long h = (long, λ at. lexed_blank at b bs h)
