-- The answers that a run leaves are the last of those that it was told.
use Rattle.std.proofs.Common.{◌≡◌, ◌-◌, List, [], ◌∷◌, ◌++◌, length, drop, ap, arith}
use Rattle.std.proofs.lemmas.Grind.{common_steps}
use Rattle.flow_meaning.specs.declared.walk.Answer.{Answer}
use Rattle.flow_meaning.specs.Act.{Act, Give, Throw, Ask}
use Rattle.flow_meaning.specs.Run.{Gave, run}

-- the answers before those that are left
record Ends (told left : List Answer) : Type 0 where
  pub used : List Answer
  pub is : told ≡ used ++ left

left_of_gave : {A : Type 0} (a : A) (told : List Answer) (v : A) (left : List Answer) → Gave a told ≡ Gave v left → told ≡ left
left_of_gave a told v left h = cc

ends : {A : Type 0} (act : Act A) (told : List Answer) (v : A) (left : List Answer) → run act told ≡ Gave v left → Ends told left
ends (Give a) told v left h = record { used = []; is = left_of_gave a told v left h }
ends (Throw x) told v left h = absurd (cc)
ends (Ask request go) [] v left h = absurd (cc)
ends (Ask request go) (r ∷ rs) v left h = let e = ends (go r) rs v left h in record { used = r ∷ e.used; is = ap (λ l. r ∷ l) e.is }

last_of : (used left : List Answer) → left ≡ drop (length (used ++ left) - length left) (used ++ left)
last_of used left = grind (arith, common_steps)

pub last_left : {A : Type 0} (act : Act A) (told : List Answer) (v : A) (left : List Answer) → run act told ≡ Gave v left → left ≡ drop (length told - length left) told
last_left act told v left h = let e = ends act told v left h in rw e.is (last_of e.used left)
