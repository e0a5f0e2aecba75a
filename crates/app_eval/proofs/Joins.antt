-- Texts joined, one more at a time.
use Rattle.std.proofs.Common.{◌≡◌, ℕ, zero, suc, ◌+◌, ◌<◌, ◌-◌, ◌≤◌, drop, take, get_or, List, [], ◌∷◌, ◌++◌, length, append_assoc, sym, ap, ◌∙◌, arith}
use Rattle.std.proofs.lemmas.Grind.{common_steps}
use Rattle.std.proofs.lemmas.List.{take_all}
use Rattle.flow_meaning.specs.Operators.{Text, joined}
use Rattle.app_eval.specs.Joins.{behind}

append-nil : (t : Text) → t ++ [] ≡ t
append-nil t = grind (arith, common_steps)

pub joined-behind : (by t : Text) (ts : List Text) → joined by (t ∷ ts) ≡ t ++ behind by ts
joined-behind by t [] = sym (append-nil t)
joined-behind by t (u ∷ us) = ap (λ l. t ++ (by ++ l)) (joined-behind by u us) ∙ ap (λ l. t ++ l) (sym (append_assoc by u (behind by us)))

pub joined_whole : (by first : Text) (texts : List Text) → 1 ≤ length texts → first ≡ get_or texts 0 first → first ++ behind by (take (length texts - 1) (drop 1 texts)) ≡ joined by texts
joined_whole by first [] some e = absurd (omega arith)
joined_whole by first (t ∷ ts) some e =
    let k : length (t ∷ ts) - 1 ≡ length ts = omega arith in
    rw (k, take_all (length ts) ts (omega arith), e) (sym (joined-behind by t ts))

behind_next : (text by : Text) (ts : List Text) (i : ℕ) (t : Text) → i < length ts → t ≡ get_or ts i t → ((text ++ by) ++ t) ++ behind by (drop (suc i) ts) ≡ text ++ behind by (drop i ts)
behind_next text by [] i t short e = absurd (omega arith)
behind_next text by (u ∷ us) zero t short e = rw e (ap (λ l. l ++ behind by us) (append_assoc text by u) ∙ append_assoc text (by ++ u) (behind by us))
behind_next text by (u ∷ us) (suc i) t short e = behind_next text by us i t (omega arith) e

-- one more text
pub behind_step : (text by : Text) (ts : List Text) (i : ℕ) (t : Text) → i < length ts → t ≡ get_or ts i t → ((text ++ by) ++ t) ++ behind by (drop (i + 1) ts) ≡ text ++ behind by (drop i ts)
behind_step text by ts i t short e =
    let next : i + 1 ≡ suc i = omega arith in
    rw next (behind_next text by ts i t short e)

pub ruleset join_rules = (behind_step)
