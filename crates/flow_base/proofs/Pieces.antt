-- A list that is written in pieces.
use Rattle.std.proofs.Common.{◌≡◌, ℕ, ◌+◌, ◌-◌, ◌≤◌, List, ◌++◌, length, take, drop, sym, ◌∙◌, ap, subst, arith, append_assoc, length-drop}
use Rattle.std.proofs.Math.Seq.{take-add}
use Rattle.std.proofs.lemmas.Grind.{common_steps}

-- how much of the whole stands before what is left
abbrev pub done : List ℕ → List ℕ → ℕ
done whole rest = length whole - length rest

pub record Left (whole rest : List ℕ) : Type 0 where
  pub shorter : length rest ≤ length whole
  pub is : rest ≡ drop (done whole rest) whole

pub left-start : (whole : List ℕ) → Left whole whole
left-start whole = record { shorter = omega arith; is = grind (arith, common_steps) }

pub left-next : (whole rest : List ℕ) (n : ℕ) → n ≤ length rest → Left whole rest → Left whole (drop n rest)
left-next whole rest n le left = record { shorter = grind (arith, common_steps, left.shorter); is = grind (arith, common_steps, left.is, left.shorter) }

pub taken-next : (whole rest : List ℕ) (n : ℕ) → n ≤ length rest → Left whole rest → take (done whole rest) whole ++ take n rest ≡ take (done whole (drop n rest)) whole
taken-next whole rest n le left =
    let further : done whole (drop n rest) ≡ done whole rest + n = omega (arith, length-drop n rest, left.shorter) in
    ap (λ (l : List ℕ). take (done whole rest) whole ++ take n l) left.is ∙ sym (take-add (done whole rest) n whole) ∙ ap (λ (k : ℕ). take k whole) (sym further)

-- one piece more
pub next-piece : (whole rest before now next : List ℕ) (n : ℕ) → Left whole rest → n ≤ length rest → now ≡ before ++ take (done whole rest) whole → next ≡ now ++ take n rest → next ≡ before ++ take (done whole (drop n rest)) whole
next-piece whole rest before now next n left le so_far took =
    took ∙ ap (λ (l : List ℕ). l ++ take n rest) so_far ∙ append_assoc before (take (done whole rest) whole) (take n rest) ∙ ap (λ (l : List ℕ). before ++ l) (taken-next whole rest n le left)

-- `&rest[n..]`
abbrev pub behind : List ℕ → ℕ → List ℕ
behind rest n = take (length rest - n) (drop n rest)

behind-drop : (rest : List ℕ) (n : ℕ) → behind rest n ≡ drop n rest
behind-drop rest n = grind (arith, common_steps)

pub left-behind : (whole rest : List ℕ) (n : ℕ) → n ≤ length rest → Left whole rest → Left whole (behind rest n)
left-behind whole rest n le left = subst (Left whole) (sym (behind-drop rest n)) (left-next whole rest n le left)

pub piece-behind : (whole rest before now next : List ℕ) (n : ℕ) → Left whole rest → n ≤ length rest → now ≡ before ++ take (done whole rest) whole → next ≡ now ++ take n rest → next ≡ before ++ take (done whole (behind rest n)) whole
piece-behind whole rest before now next n left le so_far took =
    next-piece whole rest before now next n left le so_far took ∙ ap (λ (l : List ℕ). before ++ take (done whole l) whole) (sym (behind-drop rest n))
