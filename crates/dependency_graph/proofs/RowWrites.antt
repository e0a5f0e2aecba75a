-- What a write of one row does.
use Rattle.std.proofs.Common.{◌≡◌, ℕ, zero, suc, ◌+◌, ◌<◌, ◌≤◌, false, List, [], ◌∷◌, ◌++◌, length, get_or, set, take, drop, refl, sym, ◌∙◌, ap, subst, arith, vec_items, vec_len, vec_capacity}
use Rattle.std.specs.declared.vec.Vec.{Vec}
use Rattle.std.proofs.lemmas.List.{take_more, length-map}
use Rattle.dependency_graph.specs.Callbacks.{has_number, AreDistinctNumbers, AreBelow}
use Rattle.dependency_graph.specs.Rows.{pushed_at, pushed, rows_of, RowHasRoom, RowsHaveRoom, KeepsRoom, KeepsOthers}
use Rattle.dependency_graph.proofs.Numbers.{or-split, apart, next-of}

module _ {Z : Type 0} where
  pub room-within : (rows : List (Vec ℕ Z)) (n : ℕ) → RowHasRoom rows n → n < length rows
  room-within [] n h = absurd h
  room-within (r ∷ rows) zero h = omega arith
  room-within (r ∷ rows) (suc n) h = let below = room-within rows n h in omega arith

  pub room-here : (rows : List (Vec ℕ Z)) (n : ℕ) (r : Vec ℕ Z) → RowHasRoom rows n → r ≡ get_or rows n r → vec_len r < vec_capacity r
  room-here [] n r h at = absurd h
  room-here (s ∷ rows) zero r h at = subst (λ (v : Vec ℕ Z). vec_len v < vec_capacity v) (sym at) h
  room-here (s ∷ rows) (suc n) r h at = room-here rows n r h at

  pub room-at : (rows : List (Vec ℕ Z)) (n : ℕ) (r : Vec ℕ Z) → n < length rows → vec_len r < vec_capacity r → RowHasRoom (set rows n r) n
  room-at [] n r below h = absurd (omega arith)
  room-at (s ∷ rows) zero r below h = h
  room-at (s ∷ rows) (suc n) r below h = room-at rows n r (omega arith) h

  pub room-set : (rows : List (Vec ℕ Z)) (n m : ℕ) (r s : Vec ℕ Z) → r ≡ get_or rows n r → vec_len s ≡ vec_len r → vec_capacity r ≤ vec_capacity s → RowHasRoom rows m → RowHasRoom (set rows n s) m
  room-set [] n m r s at len cap h = h
  room-set (t ∷ rows) zero zero r s at len cap h =
      let before : vec_len r < vec_capacity r = subst (λ (v : Vec ℕ Z). vec_len v < vec_capacity v) (sym at) h in
      omega (arith, before, len, cap)
  room-set (t ∷ rows) zero (suc m) r s at len cap h = h
  room-set (t ∷ rows) (suc n) zero r s at len cap h = h
  room-set (t ∷ rows) (suc n) (suc m) r s at len cap h = room-set rows n m r s at len cap h

  pub room-other : (rows : List (Vec ℕ Z)) (n m : ℕ) (s : Vec ℕ Z) → (m ≡ n → ⊥) → RowHasRoom rows m → RowHasRoom (set rows n s) m
  room-other [] n m s ne h = h
  room-other (t ∷ rows) zero zero s ne h = absurd (ne refl)
  room-other (t ∷ rows) zero (suc m) s ne h = h
  room-other (t ∷ rows) (suc n) zero s ne h = h
  room-other (t ∷ rows) (suc n) (suc m) s ne h = room-other rows n m s (λ e. ne (ap suc e)) h

  pub rows-same : (rows : List (Vec ℕ Z)) (n : ℕ) (r s : Vec ℕ Z) → r ≡ get_or rows n r → vec_items s ≡ vec_items r → rows_of (set rows n s) ≡ rows_of rows
  rows-same [] n r s at is = refl
  rows-same (t ∷ rows) zero r s at is = ap (λ (l : List ℕ). l ∷ rows_of rows) (is ∙ ap vec_items at)
  rows-same (t ∷ rows) (suc n) r s at is = ap (λ (l : List (List ℕ)). vec_items t ∷ l) (rows-same rows n r s at is)

  pub rows-pushed : (rows : List (Vec ℕ Z)) (n c : ℕ) (r s : Vec ℕ Z) → r ≡ get_or rows n r → vec_items s ≡ vec_items r ++ c ∷ [] → rows_of (set rows n s) ≡ pushed_at (rows_of rows) n c
  rows-pushed [] n c r s at is = refl
  rows-pushed (t ∷ rows) zero c r s at is = ap (λ (l : List ℕ). l ∷ rows_of rows) (is ∙ ap (λ (v : Vec ℕ Z). vec_items v ++ c ∷ []) at)
  rows-pushed (t ∷ rows) (suc n) c r s at is = ap (λ (l : List (List ℕ)). vec_items t ∷ l) (rows-pushed rows n c r s at is)

  -- ---- passes

  rooms-rest : (before after : List (Vec ℕ Z)) (n : ℕ) (ns : List ℕ) → has_number n ns ≡ false → KeepsOthers before after n → RowsHaveRoom before ns → RowsHaveRoom after ns
  rooms-rest before after n [] new keeps h = tt
  rooms-rest before after n (m ∷ ms) new keeps h =
      let parts = or-split _ _ new in
      (keeps.room m (apart n m parts.0) h.0, rooms-rest before after n ms parts.1 keeps h.1)

  rooms-kept : (before after : List (Vec ℕ Z)) (ns : List ℕ) → KeepsRoom before after → RowsHaveRoom before ns → RowsHaveRoom after ns
  rooms-kept before after [] keeps h = tt
  rooms-kept before after (m ∷ ms) keeps h = (keeps.room m h.0, rooms-kept before after ms keeps h.1)

  rooms-more : (rows : List (Vec ℕ Z)) (ns : List ℕ) (n : ℕ) → RowsHaveRoom rows ns → RowHasRoom rows n → RowsHaveRoom rows (ns ++ n ∷ [])
  rooms-more rows [] n h here = (here, tt)
  rooms-more rows (m ∷ ns) n h here = (h.0, rooms-more rows ns n h.1 here)

  room-longer : (rows : List (Vec ℕ Z)) (r : Vec ℕ Z) (n : ℕ) → RowHasRoom rows n → RowHasRoom (rows ++ r ∷ []) n
  room-longer [] r n h = absurd h
  room-longer (s ∷ rows) r zero h = h
  room-longer (s ∷ rows) r (suc n) h = room-longer rows r n h

  -- one more row
  pub rooms-longer : (rows more : List (Vec ℕ Z)) (r : Vec ℕ Z) (ns : List ℕ) → more ≡ rows ++ r ∷ [] → RowsHaveRoom rows ns → RowsHaveRoom more ns
  rooms-longer rows more r ns is h = subst (λ (l : List (Vec ℕ Z)). RowsHaveRoom l ns) (sym is) (rooms-kept rows (rows ++ r ∷ []) ns (record { room = room-longer rows r }) h)

  pub record PushNext (tasks : List ℕ) (i c : ℕ) (after : List (Vec ℕ Z)) (all : List (List ℕ)) : Type 0 where
    pub rows : pushed (drop (i + 1) tasks) c (rows_of after) ≡ all
    pub distinct : AreDistinctNumbers (drop (i + 1) tasks)
    pub room : RowsHaveRoom after (drop (i + 1) tasks)

  pub push-next : (tasks : List ℕ) (i n c : ℕ) (before after : List (Vec ℕ Z)) (all : List (List ℕ)) → i < length tasks → n ≡ get_or tasks i 0
      → pushed (drop i tasks) c (rows_of before) ≡ all → AreDistinctNumbers (drop i tasks) → RowsHaveRoom before (drop i tasks)
      → rows_of after ≡ pushed_at (rows_of before) n c → KeepsOthers before after n → PushNext tasks i c after all
  push-next tasks i n c before after all short is rows distinct room did keeps =
      let rest = drop (i + 1) tasks in
      let here : drop i tasks ≡ n ∷ rest = next-of tasks i n short is in
      let apart_here : AreDistinctNumbers (n ∷ rest) = subst AreDistinctNumbers here distinct in
      let rooms : RowsHaveRoom before (n ∷ rest) = subst (RowsHaveRoom before) here room in
      record {
        rows = ap (pushed rest c) did ∙ ap (λ (l : List ℕ). pushed l c (rows_of before)) (sym here) ∙ rows;
        distinct = apart_here.1;
        room = rooms-rest before after n rest apart_here.0 keeps rooms.1;
      }

  pub record ReserveNext (tasks : List ℕ) (i : ℕ) (after : List (Vec ℕ Z)) (all : List (List ℕ)) : Type 0 where
    pub same : rows_of after ≡ all
    pub below : AreBelow (length after) (drop (i + 1) tasks)
    pub room : RowsHaveRoom after (take (i + 1) tasks)

  pub reserve-next : (tasks : List ℕ) (i n : ℕ) (before after : List (Vec ℕ Z)) (all : List (List ℕ)) → i < length tasks → n ≡ get_or tasks i 0
      → rows_of before ≡ all → AreBelow (length before) (drop i tasks) → RowsHaveRoom before (take i tasks)
      → rows_of after ≡ rows_of before → KeepsRoom before after → RowHasRoom after n → ReserveNext tasks i after all
  reserve-next tasks i n before after all short is same below room did keeps here =
      let rest = drop (i + 1) tasks in
      let split : drop i tasks ≡ n ∷ rest = next-of tasks i n short is in
      let lens : length after ≡ length before = sym (length-map after vec_items) ∙ ap length did ∙ length-map before vec_items in
      let all_below : AreBelow (length before) (n ∷ rest) = subst (AreBelow (length before)) split below in
      let more : take (i + 1) tasks ≡ take i tasks ++ n ∷ [] = take_more tasks i 0 short ∙ rw (← is) refl in
      record {
        same = did ∙ same;
        below = subst (λ (k : ℕ). AreBelow k rest) (sym lens) all_below.1;
        room = subst (RowsHaveRoom after) (sym more) (rooms-more after (take i tasks) n (rooms-kept before after (take i tasks) keeps room) here);
      }
