-- For each task, the callbacks that wait for it.
use Rattle.std.specs.Prelude.{◌≡◌, ℕ, zero, suc, ◌<◌, List, [], ◌∷◌, ◌++◌, map, vec_items, vec_len, vec_capacity}
use Rattle.std.proofs.Common.{get_or, set}
use Rattle.std.specs.declared.vec.Vec.{Vec}

abbrev pub row_at : List (List ℕ) → ℕ → List ℕ
row_at rows n = get_or rows n []

abbrev pub pushed_at : List (List ℕ) → ℕ → ℕ → List (List ℕ)
pushed_at rows n c = set rows n (row_at rows n ++ c ∷ [])

-- the callback is put behind each of these rows
abbrev pub pushed : List ℕ → ℕ → List (List ℕ) → List (List ℕ)
pushed [] c rows = rows
pushed (n ∷ ns) c rows = pushed ns c (pushed_at rows n c)

module _ {Z : Type 0} where
  abbrev pub rows_of : List (Vec ℕ Z) → List (List ℕ)
  rows_of rows = map vec_items rows

  -- the row has room for one more
  abbrev pub RowHasRoom : List (Vec ℕ Z) → ℕ → Type 0
  RowHasRoom [] n = ⊥
  RowHasRoom (r ∷ rows) zero = vec_len r < vec_capacity r
  RowHasRoom (r ∷ rows) (suc n) = RowHasRoom rows n

  -- each of these rows has
  abbrev pub RowsHaveRoom : List (Vec ℕ Z) → List ℕ → Type 0
  RowsHaveRoom rows [] = Unit {0}
  RowsHaveRoom rows (n ∷ ns) = RowHasRoom rows n × RowsHaveRoom rows ns

  -- room is kept
  pub record KeepsRoom (rows after : List (Vec ℕ Z)) : Type 0 where
    pub room : (n : ℕ) → RowHasRoom rows n → RowHasRoom after n

  -- room is kept in the other rows
  pub record KeepsOthers (rows after : List (Vec ℕ Z)) (n : ℕ) : Type 0 where
    pub room : (m : ℕ) → (m ≡ n → ⊥) → RowHasRoom rows m → RowHasRoom after m
