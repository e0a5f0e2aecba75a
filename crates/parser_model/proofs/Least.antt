-- The least fault, from four laws of a machine that reads tokens.
use Rattle.std.specs.Prelude.{nat_lt}
use Rattle.std.proofs.Common.{◌≡◌, ℕ, ◌+◌, ◌<◌, ◌≤◌, ◌⊎◌, inl, inr, List, [], ◌∷◌, ◌++◌, refl, ap, ◌∙◌, sym, subst, Bool, true, false, Option, Some, None, append-nil, append_assoc, arith}
use Rattle.std.proofs.lemmas.List.{map-append, append_cancel_left}
use Rattle.std.proofs.lemmas.List.Sums.{fold-append}
use Rattle.std.proofs.lemmas.Bool.{ltb-true}
use Rattle.script_tree.specs.declared.token.Token.{Token}
use Rattle.script_tree.specs.declared.fault.SyntaxFault.{SyntaxFault}
use Rattle.script_tree.specs.declared.fault.SyntaxFault.TheVariants.{Unexpected, TooDeep}
use Rattle.script_tree.specs.Faults.{syntax_number}
use Rattle.script_tree.specs.declared.token.Token.TheVariants as t
use Rattle.script_tree.specs.declared.token.Symbol.TheVariants as s
use Rattle.std.proofs.lemmas.Bool.Decides.{nat_tests}
use Rattle.script_tree.specs.Spelling.{Tokens, script}
use Rattle.script_tree.specs.Lexing.{Lexed}
use Rattle.parser_model.specs.Verdicts.{Verdict, Fine, Refused, at_end, after_step, judge}
use Rattle.script_tree.specs.Grammar.{At, IsNestedWithin, Tree, GoesOn, IsScript, nesting_after, nesting, max_nesting, Placed, tokens_of}

-- ---- two places of a list

pub data Compared {A : Type 0} (xs : List A) (x : A) (ys : List A) (y : A) : Type 0 where
  Same : xs ≡ ys → x ≡ y → Compared xs x ys y
  Before : (more : List A) → ys ≡ xs ++ x ∷ more → Compared xs x ys y
  Behind : (more : List A) → xs ≡ ys ++ y ∷ more → Compared xs x ys y

compared_more : {A : Type 0} (z w : A) (xs : List A) (x : A) (ys : List A) (y : A) → z ≡ w → Compared xs x ys y → Compared (z ∷ xs) x (w ∷ ys) y
compared_more z w xs x ys y e (Same p q) = Same (cc) q
compared_more z w xs x ys y e (Before more p) = Before more (cc)
compared_more z w xs x ys y e (Behind more p) = Behind more (cc)

pub compare_places : {A : Type 0} (xs : List A) (x : A) (more : List A) (ys : List A) (y : A) (rest : List A) → xs ++ x ∷ more ≡ ys ++ y ∷ rest → Compared xs x ys y
compare_places [] x more [] y rest e = Same refl (cc)
compare_places [] x more (w ∷ ys) y rest e = Before ys (cc)
compare_places (z ∷ xs) x more [] y rest e = Behind xs (cc)
compare_places {A} (z ∷ xs) x more (w ∷ ys) y rest e =
    let heads : z ≡ w = cc in
    let tails : xs ++ x ∷ more ≡ ys ++ y ∷ rest = cc in
    compared_more z w xs x ys y heads (compare_places xs x more ys y rest tails)

-- ---- faults of tokens with their places

abbrev pub UnexpectedIn : Lexed → ℕ → ℕ → Type 0
UnexpectedIn l len place =
    At l place (λ front token. GoesOn front × (GoesOn (front ++ token ∷ []) → ⊥))
    ⊎ ((place ≡ len) × (l.fault ≡ None) × GoesOn (tokens_of l.tokens) × (IsScript (tokens_of l.tokens) → ⊥))

abbrev pub DeepIn : Lexed → ℕ → Type 0
DeepIn l place = At l place (λ front token. (nesting front ≡ max_nesting) × (nesting (front ++ token ∷ []) ≡ max_nesting + 1))

-- the same as Grammar's, where l is the lexed text and len its length
abbrev pub FaultyIn : Lexed → ℕ → SyntaxFault → ℕ → Type 0
FaultyIn l len kind place = (l.fault ≡ Some (place, kind)) ⊎ ((kind ≡ Unexpected) × UnexpectedIn l len place) ⊎ ((kind ≡ TooDeep) × DeepIn l place)

abbrev pub IsLeast : Lexed → ℕ → SyntaxFault → ℕ → Type 0
IsLeast l len kind place = (other : SyntaxFault) (at : ℕ) → FaultyIn l len other at → (place < at) ⊎ ((place ≡ at) × (syntax_number kind ≤ syntax_number other))

-- places rise, and the fault or the end comes behind them
abbrev pub Ordered : ℕ → Placed → Option (ℕ × SyntaxFault) → ℕ → Type 0
Ordered lo [] None len = lo ≤ len
Ordered lo [] (Some p) len = lo ≤ p.0
Ordered lo (x ∷ rest) fault len = (lo ≤ x.0) × Ordered (x.0 + 1) rest fault len

ordered_fault : (lo : ℕ) (rest : Placed) (p : ℕ × SyntaxFault) (len : ℕ) → Ordered lo rest (Some p) len → lo ≤ p.0
ordered_fault lo [] p len h = h
ordered_fault lo (x ∷ rest) p len h = omega (arith, h.0, ordered_fault (x.0 + 1) rest p len h.1)

ordered_len : (lo : ℕ) (rest : Placed) (len : ℕ) → Ordered lo rest None len → lo ≤ len
ordered_len lo [] len h = h
ordered_len lo (x ∷ rest) len h = omega (arith, h.0, ordered_len (x.0 + 1) rest len h.1)

ordered_later : (lo : ℕ) (rest : Placed) (fault : Option (ℕ × SyntaxFault)) (len : ℕ) (xs : Placed) (y : ℕ × Token) (ys : Placed) → Ordered lo rest fault len → rest ≡ xs ++ y ∷ ys → lo ≤ y.0
ordered_later lo [] fault len [] y ys h e = absurd (cc)
ordered_later lo [] fault len (x ∷ xs) y ys h e = absurd (cc)
ordered_later lo (z ∷ rest) fault len [] y ys h e = let same : z ≡ y = cc in subst (λ (w : ℕ × Token). lo ≤ w.0) same h.0
ordered_later lo (z ∷ rest) fault len (x ∷ xs) y ys h e = let tails : rest ≡ xs ++ y ∷ ys = cc in omega (arith, h.0, ordered_later (z.0 + 1) rest fault len xs y ys h.1 tails)

pub tokens_of-split : (front : Placed) (x : ℕ × Token) (more : Placed) → tokens_of (front ++ x ∷ more) ≡ (tokens_of front ++ x.1 ∷ []) ++ tokens_of more
tokens_of-split front x more = map-append (λ (p : ℕ × Token). p.1) front (x ∷ more) ∙ sym (append_assoc (tokens_of front) (x.1 ∷ []) (tokens_of more))

-- ---- the machine

module _ (State : Type 0) (step : State → Token → Option State) (spelled : State → Tokens) (start : State) (ended : State → Option Tree) where
  abbrev pub then_walk : (State → Option State) → Option State → Option State
  then_walk go None = None
  then_walk go (Some s) = go s

  abbrev pub walk : Tokens → State → Option State
  walk [] s = Some s
  walk (t ∷ ts) s = then_walk (walk ts) (step s t)

  -- what is asked of a machine
  pub record Laws : Type 0 where
    pub begins : spelled start ≡ []
    -- its state is what has been read
    pub spells : (s : State) (t : Token) (next : State) → step s t ≡ Some next → spelled next ≡ spelled s ++ t ∷ []
    -- each state goes on to a script
    pub completes : (s : State) → GoesOn (spelled s)
    pub ends : (s : State) (tree : Tree) → ended s ≡ Some tree → spelled s ≡ script tree
    -- a script is read, to its tree
    pub reads : (tree : Tree) → (s : State) × (walk (script tree) start ≡ Some s) × (ended s ≡ Some tree)

  walk_append-by : (ts us : Tokens) (r : Option State) → ((s : State) → walk (ts ++ us) s ≡ then_walk (walk us) (walk ts s)) → then_walk (walk (ts ++ us)) r ≡ then_walk (walk us) (then_walk (walk ts) r)
  walk_append-by ts us None h = refl
  walk_append-by ts us (Some s) h = h s

  pub walk-append : (ts us : Tokens) (s : State) → walk (ts ++ us) s ≡ then_walk (walk us) (walk ts s)
  walk-append [] us s = refl
  walk-append (t ∷ ts) us s = walk_append-by ts us (step s t) (walk-append ts us)

  -- a state, or none
  pub data Walks (ts : Tokens) (s : State) : Type 0 where
    Through : (next : State) → walk ts s ≡ Some next → Walks ts s
    Stuck : walk ts s ≡ None → Walks ts s

  pub walks : (ts : Tokens) (s : State) → Walks ts s
  walks ts s = elim (walk ts s) as (λ r. walk ts s ≡ r → Walks ts s) [ None ↦ λ e. Stuck e | Some next ↦ λ e. Through next e ] refl

  walk_spells-by : Laws → (t : Token) (ts : Tokens) (s next : State) (r : Option State) → step s t ≡ r → ((mid : State) → walk ts mid ≡ Some next → spelled next ≡ spelled mid ++ ts)
      → then_walk (walk ts) r ≡ Some next → spelled next ≡ spelled s ++ t ∷ ts
  walk_spells-by laws t ts s next None is h e = absurd (cc)
  walk_spells-by laws t ts s next (Some mid) is h e = h mid e ∙ (ap (λ z. z ++ ts) (laws.spells s t mid is) ∙ append_assoc (spelled s) (t ∷ []) ts)

  pub walk-spells : Laws → (ts : Tokens) (s next : State) → walk ts s ≡ Some next → spelled next ≡ spelled s ++ ts
  walk-spells laws [] s next e = let same : s ≡ next = cc in ap spelled (sym same) ∙ sym (append-nil _)
  walk-spells laws (t ∷ ts) s next e = walk_spells-by laws t ts s next (step s t) refl (λ mid. walk-spells laws ts mid next) e

  read_so_far : Laws → (ts : Tokens) (s : State) → walk ts start ≡ Some s → spelled s ≡ ts
  read_so_far laws ts s e = walk-spells laws ts start s e ∙ ap (λ z. z ++ ts) laws.begins

  -- what is walked goes on to a script
  pub walked-goes_on : Laws → (ts : Tokens) (s : State) → walk ts start ≡ Some s → GoesOn ts
  walked-goes_on laws ts s e = subst GoesOn (read_so_far laws ts s e) (laws.completes s)

  -- what goes on to a script is walked
  pub goes_on-walked : Laws → (ts : Tokens) → walk ts start ≡ None → GoesOn ts → ⊥
  goes_on-walked laws ts e g =
      let r = laws.reads g.tree in
      let all : walk (ts ++ g.rest) start ≡ Some r.0 = ap (λ (z : Tokens). walk z start) (sym g.is) ∙ r.1 in
      let front : walk (ts ++ g.rest) start ≡ None = walk-append ts g.rest start ∙ ap (then_walk (walk g.rest)) e in
      cc

  pub one_tree : Laws → (tree : Tree) (s : State) → walk (script tree) start ≡ Some s → ended s ≡ Some tree
  one_tree laws tree s e = let r = laws.reads tree in let same : r.0 ≡ s = cc in subst (λ (z : State). ended z ≡ Some tree) same r.2

  -- a script's tokens have one tree
  pub unambiguous : Laws → (a b : Tree) → script a ≡ script b → a ≡ b
  unambiguous laws a b e =
      let ra = laws.reads a in
      let h : ended ra.0 ≡ Some b = one_tree laws b ra.0 (subst (λ (z : Tokens). walk z start ≡ Some ra.0) e ra.1) in
      let k : ended ra.0 ≡ Some a = ra.2 in
      cc

  -- ---- the verdict is right

  pub record Stands (l : Lexed) (front rest : Placed) (s : State) : Type 0 where
    pub whole : l.tokens ≡ front ++ rest
    pub walked : walk (tokens_of front) start ≡ Some s
    pub within : IsNestedWithin (tokens_of front)

  front_walked : (ts us : Tokens) (s : State) → walk (ts ++ us) start ≡ Some s → walk ts start ≡ None → ⊥
  front_walked ts us s e stuck =
      let front : walk (ts ++ us) start ≡ None = walk-append ts us start ∙ ap (then_walk (walk us)) stuck in
      cc

  -- a front of what is walked goes on
  front_goes_on : Laws → (ts us : Tokens) (s : State) → walk (ts ++ us) start ≡ Some s → GoesOn ts
  front_goes_on laws ts us s e = elim (walks ts start) [ Through next is ↦ walked-goes_on laws ts next is | Stuck is ↦ absurd (front_walked ts us s e is) ]

  -- no fault in what has been read
  no_unexpected : Laws → (front : Placed) (s : State) (before : Placed) (x : ℕ × Token) (more : Placed) → walk (tokens_of front) start ≡ Some s → front ≡ before ++ x ∷ more
      → (GoesOn (tokens_of before ++ x.1 ∷ []) → ⊥) → ⊥
  no_unexpected laws front s before x more walked e never =
      never (front_goes_on laws (tokens_of before ++ x.1 ∷ []) (tokens_of more) s (ap (λ (z : Tokens). walk z start) (sym (ap tokens_of e ∙ tokens_of-split before x more)) ∙ walked))

  no_depth : (front before : Placed) (x : ℕ × Token) (more : Placed) → IsNestedWithin (tokens_of front) → front ≡ before ++ x ∷ more
      → nesting (tokens_of before ++ x.1 ∷ []) ≡ max_nesting + 1 → ⊥
  no_depth front before x more within e deep =
      let h : nesting (tokens_of before ++ x.1 ∷ []) ≤ max_nesting = within (tokens_of before ++ x.1 ∷ []) (tokens_of more) (ap tokens_of e ∙ tokens_of-split before x more) in
      omega (arith, h, deep)

  stuck_at : (ts : Tokens) (t : Token) (s : State) → walk ts start ≡ Some s → step s t ≡ None → walk (ts ++ t ∷ []) start ≡ None
  stuck_at ts t s e none = walk-append ts (t ∷ []) start ∙ (ap (then_walk (walk (t ∷ []))) e ∙ ap (then_walk (walk [])) none)

  -- other faults, where a token has one
  module _ (laws : Laws) (l : Lexed) (len : ℕ) (front rest : Placed) (p : ℕ) (t : Token) (s : State) (stands : Stands l front ((p, t) ∷ rest) s) (ordered : Ordered (p + 1) rest l.fault len) (kind : SyntaxFault) where
    at_other : (other : SyntaxFault) (at : ℕ) (P : Tokens → Token → Type 0) → At l at P
        → ((before : Placed) (x : ℕ × Token) (more : Placed) → front ≡ before ++ x ∷ more → P (tokens_of before) x.1 → ⊥)
        → (P (tokens_of front) t → syntax_number kind ≤ syntax_number other) → (p < at) ⊎ ((p ≡ at) × (syntax_number kind ≤ syntax_number other))
    at_other other at P h never here =
        elim (compare_places front (p, t) rest h.front (at, h.token) h.rest (sym stands.whole ∙ h.is)) [
          | Same fronts tokens ↦
              let places : p ≡ at = ap (λ (z : ℕ × Token). z.0) tokens in
              let same : t ≡ h.token = ap (λ (z : ℕ × Token). z.1) tokens in
              inr (places, here (subst (λ (z : Placed). P (tokens_of z) t) (sym fronts) (subst (λ (z : Token). P (tokens_of h.front) z) (sym same) h.fact)))
          | Before more e ↦
              let whole : front ++ (p, t) ∷ rest ≡ front ++ (p, t) ∷ (more ++ (at, h.token) ∷ h.rest) = sym stands.whole ∙ (h.is ∙ (ap (λ z. z ++ (at, h.token) ∷ h.rest) e ∙ append_assoc front ((p, t) ∷ more) ((at, h.token) ∷ h.rest))) in
              let tails : (p, t) ∷ rest ≡ (p, t) ∷ (more ++ (at, h.token) ∷ h.rest) = append_cancel_left front _ _ whole in
              let later : rest ≡ more ++ (at, h.token) ∷ h.rest = cc in
              let after : p + 1 ≤ at = ordered_later (p + 1) rest l.fault len more (at, h.token) h.rest ordered later in
              inl (omega (arith, after))
          | Behind more e ↦ absurd (never h.front (at, h.token) more e h.fact)
        ]

    not_before : (before : Placed) (x : ℕ × Token) (more : Placed) → front ≡ before ++ x ∷ more → GoesOn (tokens_of before) × (GoesOn (tokens_of before ++ x.1 ∷ []) → ⊥) → ⊥
    not_before before x more e h = no_unexpected laws front s before x more stands.walked e h.1

    not_deep : (before : Placed) (x : ℕ × Token) (more : Placed) → front ≡ before ++ x ∷ more
        → (nesting (tokens_of before) ≡ max_nesting) × (nesting (tokens_of before ++ x.1 ∷ []) ≡ max_nesting + 1) → ⊥
    not_deep before x more e h = no_depth front before x more stands.within e h.1

    -- the fault at the token is the least, if no fault of a smaller number stands there too
    pub least_at : ((GoesOn (tokens_of front ++ t ∷ []) → ⊥) → syntax_number kind ≤ syntax_number Unexpected) → syntax_number kind ≤ syntax_number TooDeep → IsLeast l len kind p
    least_at h4 h5 other at (inl e) =
        inl (let after : p + 1 ≤ at = ordered_fault (p + 1) rest (at, other) len (subst (λ (z : Option (ℕ × SyntaxFault)). Ordered (p + 1) rest z len) e ordered) in omega (arith, after))
    least_at h4 h5 other at (inr (inl (k, inl h))) = at_other other at _ h not_before (λ f. omega (arith, ap syntax_number k, h4 f.1))
    least_at h4 h5 other at (inr (inl (k, inr h))) =
        inl (let after : p + 1 ≤ len = ordered_len (p + 1) rest len (subst (λ (z : Option (ℕ × SyntaxFault)). Ordered (p + 1) rest z len) h.1 ordered) in omega (arith, after, h.0))
    least_at h4 h5 other at (inr (inr (k, h))) = at_other other at _ h not_deep (λ f. omega (arith, ap syntax_number k, h5))

  abbrev pub Right : Lexed → ℕ → Verdict → Type 0
  Right l len (Fine tree) = (l.fault ≡ None) × (tokens_of l.tokens ≡ script tree) × IsNestedWithin (tokens_of l.tokens)
  Right l len (Refused kind place) = FaultyIn l len kind place × IsLeast l len kind place

  front_of_more_by : {A : Type 0} (w y : A) → w ≡ y → (xs : List A) (x : A) (front : List A) → (front ≡ xs ++ x ∷ []) ⊎ ((more : List A) × (xs ≡ front ++ more))
      → (y ∷ front ≡ w ∷ (xs ++ x ∷ [])) ⊎ ((more : List A) × (w ∷ xs ≡ y ∷ (front ++ more)))
  front_of_more_by w y e xs x front (inl h) = inl (cc)
  front_of_more_by w y e xs x front (inr h) = let is = h.1 in inr (h.0, cc)

  nesting-more : (ts : Tokens) (t : Token) → nesting (ts ++ t ∷ []) ≡ nesting_after (nesting ts) t
  nesting-more ts t = fold-append nesting_after 0 ts (t ∷ [])

  -- a front of one more is all of it, or a front of the others
  front_of_more : {A : Type 0} (xs : List A) (x : A) (front rest : List A) → xs ++ x ∷ [] ≡ front ++ rest → (front ≡ xs ++ x ∷ []) ⊎ ((more : List A) × (xs ≡ front ++ more))
  front_of_more xs x [] rest e = inr (xs, refl)
  front_of_more [] x (y ∷ []) rest e = inl (cc)
  front_of_more [] x (y ∷ (z ∷ front)) rest e = absurd (cc)
  front_of_more {A} (w ∷ xs) x (y ∷ front) rest e =
      let heads : w ≡ y = cc in
      let tails : xs ++ x ∷ [] ≡ front ++ rest = cc in
      front_of_more_by w y heads xs x front (front_of_more xs x front rest tails)

  -- one token more within the nesting
  within_more : (ts : Tokens) (t : Token) → IsNestedWithin ts → nesting (ts ++ t ∷ []) ≤ max_nesting → IsNestedWithin (ts ++ t ∷ [])
  within_more ts t h last front rest e = elim (front_of_more ts t front rest e) [
    | inl whole ↦ subst (λ (z : Tokens). nesting z ≤ max_nesting) (sym whole) last
    | inr shorter ↦ h front shorter.0 shorter.1
  ]

  -- at the end, all faults stand there
  at_the_end : Laws → (l : Lexed) (len : ℕ) (s : State) → Stands l l.tokens [] s → (other : SyntaxFault) (at : ℕ) → FaultyIn l len other at
      → (l.fault ≡ Some (at, other)) ⊎ ((other ≡ Unexpected) × (at ≡ len) × (l.fault ≡ None) × (IsScript (tokens_of l.tokens) → ⊥))
  at_the_end laws l len s stands other at (inl e) = inl e
  at_the_end laws l len s stands other at (inr (inl (k, inl h))) = absurd (no_unexpected laws l.tokens s h.front (at, h.token) h.rest stands.walked h.is h.fact.1)
  at_the_end laws l len s stands other at (inr (inl (k, inr h))) = inr (k, h.0, h.1, h.3)
  at_the_end laws l len s stands other at (inr (inr (k, h))) = absurd (no_depth l.tokens h.front (at, h.token) h.rest stands.within h.is h.fact.1)

  no_script : Laws → (ts : Tokens) (s : State) → walk ts start ≡ Some s → ended s ≡ None → IsScript ts → ⊥
  no_script laws ts s walked none found =
      let h : ended s ≡ Some found.tree = one_tree laws found.tree s (subst (λ (z : Tokens). walk z start ≡ Some s) (sym found.is) walked) in cc

  same_fault : (a b : ℕ × SyntaxFault) → Some a ≡ Some b → (b.0 < a.0) ⊎ ((b.0 ≡ a.0) × (syntax_number b.1 ≤ syntax_number a.1))
  same_fault a b e = let same : a ≡ b = cc in inr (sym (ap (λ (z : ℕ × SyntaxFault). z.0) same), omega (arith, ap (λ (z : ℕ × SyntaxFault). syntax_number z.1) same))

  after_le : (n : ℕ) (t : Token) → nesting_after n t ≤ n + 1
  after_le n (t.Symbol s.OpenParen) = omega arith
  after_le n (t.Symbol s.OpenList) = omega arith
  after_le n (t.Symbol s.OpenBlock) = omega arith
  after_le n (t.Symbol s.CloseParen) = omega arith
  after_le n (t.Symbol s.CloseList) = omega arith
  after_le n (t.Symbol s.CloseBlock) = omega arith
  after_le n _ = omega arith

  end_right : Laws → (l : Lexed) (len : ℕ) (s : State) (fault : Option (ℕ × SyntaxFault)) (r : Option Tree) → Stands l l.tokens [] s → l.fault ≡ fault → ended s ≡ r → Right l len (at_end len fault r)
  end_right laws l len s (Some (p, k)) r stands e is = (
    inl e,
    λ other at f. elim (at_the_end laws l len s stands other at f) [
      | inl h ↦ same_fault (at, other) (p, k) (sym h ∙ e)
      | inr h ↦ (let none : l.fault ≡ None = h.2 in absurd (cc))
    ],
  )
  end_right laws l len s None (Some tree) stands e is = (e, sym (read_so_far laws (tokens_of l.tokens) s stands.walked) ∙ laws.ends s tree is, stands.within)
  end_right laws l len s None None stands e is = (
    inr (inl (refl, inr (refl, e, walked-goes_on laws (tokens_of l.tokens) s stands.walked, no_script laws (tokens_of l.tokens) s stands.walked is))),
    λ other at f. elim (at_the_end laws l len s stands other at f) [ inl h ↦ absurd (cc) | inr h ↦ inr (sym h.1, omega (arith, ap syntax_number h.0)) ],
  )

  stands_more : (l : Lexed) (front : Placed) (x : ℕ × Token) (rest : Placed) (s next : State) → Stands l front (x ∷ rest) s → step s x.1 ≡ Some next → nesting (tokens_of front ++ x.1 ∷ []) ≤ max_nesting
      → Stands l (front ++ x ∷ []) rest next
  stands_more l front x rest s next st goes deep = record {
    whole = st.whole ∙ sym (append_assoc front (x ∷ []) rest);
    walked = ap (λ (z : Tokens). walk z start) (map-append (λ (p : ℕ × Token). p.1) front (x ∷ [])) ∙ (walk-append (tokens_of front) (x.1 ∷ []) start ∙ (ap (then_walk (walk (x.1 ∷ []))) st.walked ∙ ap (then_walk (walk [])) goes));
    within = subst IsNestedWithin (sym (map-append (λ (p : ℕ × Token). p.1) front (x ∷ []))) (within_more (tokens_of front) x.1 st.within deep);
  }

  abbrev JudgedRight : Lexed → ℕ → Placed → Type 0
  JudgedRight l len rest = (front : Placed) (s : State) (depth lo : ℕ) → Stands l front rest s → nesting (tokens_of front) ≡ depth → Ordered lo rest l.fault len → Right l len (judge State step ended len l.fault rest depth s)

  not_less : (m n : ℕ) → nat_lt m n ≡ false → n ≤ m
  not_less m n e = grind (arith, nat_tests)

  token_right : Laws → (l : Lexed) (len : ℕ) (rest : Placed) (x : ℕ × Token) → JudgedRight l len rest → (front : Placed) (s : State) (depth lo : ℕ) → Stands l front (x ∷ rest) s
      → nesting (tokens_of front) ≡ depth → Ordered (x.0 + 1) rest l.fault len → (deep : Bool) → nat_lt max_nesting (nesting_after depth x.1) ≡ deep → (r : Option State) → step s x.1 ≡ r
      → Right l len (after_step x.0 deep (judge State step ended len l.fault rest (nesting_after depth x.1)) r)
  token_right laws l len rest x h front s depth lo stands d ordered deep test None goes =
      let never : GoesOn (tokens_of front ++ x.1 ∷ []) → ⊥ = goes_on-walked laws (tokens_of front ++ x.1 ∷ []) (stuck_at (tokens_of front) x.1 s stands.walked goes) in (
        inr (inl (refl, inl (record { front = front; token = x.1; rest = rest; is = stands.whole; fact = (walked-goes_on laws (tokens_of front) s stands.walked, never) }))),
        least_at laws l len front rest x.0 x.1 s stands ordered Unexpected (λ z. omega arith) (omega arith),
      )
  token_right laws l len rest x h front s depth lo stands d ordered false test (Some next) goes =
      let more : nesting (tokens_of front ++ x.1 ∷ []) ≡ nesting_after depth x.1 = nesting-more (tokens_of front) x.1 ∙ ap (λ n. nesting_after n x.1) d in
      let within : nesting (tokens_of front ++ x.1 ∷ []) ≤ max_nesting = omega (arith, more, not_less max_nesting (nesting_after depth x.1) test) in
      h (front ++ x ∷ []) next (nesting_after depth x.1) (x.0 + 1) (stands_more l front x rest s next stands goes within) (ap nesting (map-append (λ (p : ℕ × Token). p.1) front (x ∷ [])) ∙ more) ordered
  token_right laws l len rest x h front s depth lo stands d ordered true test (Some next) goes =
      let more : nesting (tokens_of front ++ x.1 ∷ []) ≡ nesting_after depth x.1 = nesting-more (tokens_of front) x.1 ∙ ap (λ n. nesting_after n x.1) d in
      let over : max_nesting < nesting_after depth x.1 = ltb-true max_nesting (nesting_after depth x.1) test in
      let was : nesting (tokens_of front) ≤ max_nesting = stands.within (tokens_of front) [] (sym (append-nil _)) in
      let one : nesting_after depth x.1 ≤ depth + 1 = after_le depth x.1 in
      let walked : walk (tokens_of front ++ x.1 ∷ []) start ≡ Some next =
      walk-append (tokens_of front) (x.1 ∷ []) start ∙ (ap (then_walk (walk (x.1 ∷ []))) stands.walked ∙ ap (then_walk (walk [])) goes) in
      let goes_on : GoesOn (tokens_of front ++ x.1 ∷ []) = walked-goes_on laws (tokens_of front ++ x.1 ∷ []) next walked in (
        inr (inr (refl, record { front = front; token = x.1; rest = rest; is = stands.whole; fact = (omega (arith, over, was, one, d), omega (arith, over, was, one, d, more)) })),
        least_at laws l len front rest x.0 x.1 s stands ordered TooDeep (λ never. absurd (never goes_on)) (omega arith),
      )

  nothing_within : IsNestedWithin []
  nothing_within [] rest e = omega arith
  nothing_within (x ∷ front) rest e = absurd (cc)

  pub judge_right : Laws → (l : Lexed) (len : ℕ) (rest : Placed) → JudgedRight l len rest
  judge_right laws l len [] front s depth lo stands d ordered =
      end_right laws l len s l.fault (ended s) (subst (λ (z : Placed). Stands l z [] s) (sym (append-nil front) ∙ sym stands.whole) stands) refl refl
  judge_right laws l len (x ∷ rest) front s depth lo stands d ordered =
      token_right laws l len rest x (judge_right laws l len rest) front s depth lo stands d ordered.1 (nat_lt max_nesting (nesting_after depth x.1)) refl (step s x.1) refl

  -- the verdict on the tokens of a text
  abbrev pub verdict : Lexed → ℕ → Verdict
  verdict l len = judge State step ended len l.fault l.tokens 0 start

  pub verdict_right : Laws → (l : Lexed) (len : ℕ) → Ordered 0 l.tokens l.fault len → Right l len (verdict l len)
  verdict_right laws l len ordered = judge_right laws l len l.tokens [] start 0 0 (record { whole = refl; walked = refl; within = nothing_within }) refl ordered
