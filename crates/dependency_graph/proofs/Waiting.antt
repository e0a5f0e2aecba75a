-- The callbacks that wait for a task.
use Rattle.std.proofs.Common.{◌≡◌, ℕ, zero, suc, ◌+◌, ◌<◌, Bool, true, false, ◌||◌, List, [], ◌∷◌, ◌++◌, length, refl, sym, ap, arith, eq-eqb, true≢false, cond}
use Rattle.dependency_graph.specs.CallbackViews.{CallbackView}
use Rattle.dependency_graph.specs.Callbacks.{has_number, AreDistinctNumbers, if_settled, waits_at, waiting_from, waiting_on}
use Rattle.dependency_graph.proofs.Numbers.{not-eq}

-- numbers start at i
waits-before : (j i n : ℕ) (ws : List CallbackView) → j < i → has_number j (waiting_from i n ws) ≡ false
waits-before j i n [] h = refl
waits-before j i n (w ∷ ws) h = by (has_number n w.inputs) (waits-before j (suc i) n ws (omega (arith, h)))
  where
    by : (b : Bool) → has_number j (waiting_from (suc i) n ws) ≡ false → has_number j (cond b (i ∷ waiting_from (suc i) n ws) (waiting_from (suc i) n ws)) ≡ false
    by true rest = rw (not-eq j i (λ e. absurd (omega (arith, h, e)))) rest
    by false rest = rest

pub waits-distinct : (i n : ℕ) (ws : List CallbackView) → AreDistinctNumbers (waiting_from i n ws)
waits-distinct i n [] = tt
waits-distinct i n (w ∷ ws) = by (has_number n w.inputs) (waits-distinct (suc i) n ws)
  where
    by : (b : Bool) → AreDistinctNumbers (waiting_from (suc i) n ws) → AreDistinctNumbers (cond b (i ∷ waiting_from (suc i) n ws) (waiting_from (suc i) n ws))
    by true rest = (waits-before i (suc i) n ws (omega arith), rest)
    by false rest = rest

waits-at : (i j c n : ℕ) (ws : List CallbackView) → j ≡ i + c → has_number j (waiting_from i n ws) ≡ has_number n (waits_at ws c)
waits-at i j c n [] is = refl
waits-at i j zero n (w ∷ ws) is = by (has_number n w.inputs)
  where
    same : j ≡ i
    same = omega (arith, is)

    by : (b : Bool) → has_number j (cond b (i ∷ waiting_from (suc i) n ws) (waiting_from (suc i) n ws)) ≡ b
    by true = ap (λ (x : Bool). x || has_number j (waiting_from (suc i) n ws)) (eq-eqb j i same)
    by false = waits-before j (suc i) n ws (omega (arith, same))
waits-at i j (suc c) n (w ∷ ws) is = by (has_number n w.inputs) (waits-at (suc i) j c n ws (omega (arith, is)))
  where
    by : (b : Bool) → has_number j (waiting_from (suc i) n ws) ≡ has_number n (waits_at ws c) → has_number j (cond b (i ∷ waiting_from (suc i) n ws) (waiting_from (suc i) n ws)) ≡ has_number n (waits_at ws c)
    by true rest = rw (not-eq j i (λ e. absurd (omega (arith, is, e)))) rest
    by false rest = rest

-- a callback is among them exactly where the task is among its inputs
pub waits-has : (c n : ℕ) (ws : List CallbackView) → has_number c (waiting_on n ws) ≡ has_number n (waits_at ws c)
waits-has c n ws = waits-at 0 c c n ws (omega arith)

pub waits-none : (i n : ℕ) (ws : List CallbackView) → ((c : ℕ) → has_number n (waits_at ws c) ≡ false) → waiting_from i n ws ≡ []
waits-none i n [] none = refl
waits-none i n (w ∷ ws) none = rw (none zero) (waits-none (suc i) n ws (λ c. none (suc c)))

waits-longer : (i j n : ℕ) (ws : List CallbackView) (w : CallbackView) → j ≡ i + length ws → waiting_from i n (ws ++ w ∷ []) ≡ waiting_from i n ws ++ if_settled (has_number n w.inputs) j
waits-longer i j n [] w is = by (has_number n w.inputs)
  where
    same : i ≡ j
    same = omega (arith, is)

    by : (b : Bool) → cond b (i ∷ []) [] ≡ if_settled b j
    by true = ap (λ (k : ℕ). k ∷ []) same
    by false = refl
waits-longer i j n (v ∷ ws) w is = by (has_number n v.inputs) (waits-longer (suc i) j n ws w (omega (arith, is)))
  where
    by : (b : Bool) → waiting_from (suc i) n (ws ++ w ∷ []) ≡ waiting_from (suc i) n ws ++ if_settled (has_number n w.inputs) j → cond b (i ∷ waiting_from (suc i) n (ws ++ w ∷ [])) (waiting_from (suc i) n (ws ++ w ∷ [])) ≡ cond b (i ∷ waiting_from (suc i) n ws) (waiting_from (suc i) n ws) ++ if_settled (has_number n w.inputs) j
    by true rest = ap (λ (l : List ℕ). i ∷ l) rest
    by false rest = rest

-- one more callback stands last
pub waits-more : (n : ℕ) (ws : List CallbackView) (w : CallbackView) → waiting_on n (ws ++ w ∷ []) ≡ waiting_on n ws ++ if_settled (has_number n w.inputs) (length ws)
waits-more n ws w = waits-longer 0 (length ws) n ws w (omega arith)

-- ---- inputs

pub inputs-last : (ws : List CallbackView) (w : CallbackView) → waits_at (ws ++ w ∷ []) (length ws) ≡ w.inputs
inputs-last [] w = refl
inputs-last (v ∷ ws) w = inputs-last ws w

pub inputs-before : (ws : List CallbackView) (w : CallbackView) (c : ℕ) → (c ≡ length ws → ⊥) → waits_at (ws ++ w ∷ []) c ≡ waits_at ws c
inputs-before [] w zero ne = absurd (ne refl)
inputs-before [] w (suc c) ne = refl
inputs-before (v ∷ ws) w zero ne = refl
inputs-before (v ∷ ws) w (suc c) ne = inputs-before ws w c (λ e. ne (ap suc e))

pub inputs-there : (ws : List CallbackView) (c n : ℕ) → has_number n (waits_at ws c) ≡ true → c < length ws
inputs-there [] c n h = absurd (true≢false (sym h))
inputs-there (w ∷ ws) zero n h = omega arith
inputs-there (w ∷ ws) (suc c) n h = let below = inputs-there ws c n h in omega (arith, below)
