-- What the fields of a graph are behind each act.
use Rattle.std.proofs.Common.{◌≡◌, ℕ, zero, suc, ◌+◌, ◌<◌, Bool, true, false, nat_eq, List, [], ◌∷◌, ◌++◌, length, get_or, set, refl, sym, ◌∙◌, ap, subst, arith, vec_items, length-append, ◌||◌, eq-eqb, Some, slice_get}
use Rattle.std.specs.declared.vec.Vec.{Vec}
use Rattle.std.proofs.lemmas.List.{length-map}
use Rattle.dependency_graph.specs.declared.callback.FutureState.{FutureState}
use Rattle.dependency_graph.specs.declared.callback.FutureState.TheVariants as state
use Rattle.dependency_graph.specs.CallbackViews.{CallbackView}
use Rattle.dependency_graph.specs.declared.callback.Callback.{Callback}
use Rattle.dependency_graph.specs.declared.callback.CallbackKind.TheVariants as kind
use Rattle.dependency_graph.specs.Callbacks.{Callbacks, is_open, state_in, all_settled, has_number, AreDistinctNumbers, AreBelow, if_settled, with_open, with_launch, with_stored, with_state, to_do, to_do_of, next_in, next_of, with_given_by, with_given}
use Rattle.dependency_graph.specs.Counts.{open_in, lowered, freed, AllWait}
use Rattle.dependency_graph.specs.Rows.{row_at, pushed, rows_of}
use Rattle.dependency_graph.specs.Kept.{callbacks_of, IsKept}
use Rattle.dependency_graph.proofs.Numbers.{or-right, below-longer}
use Rattle.dependency_graph.proofs.Opens.{open-within, open-more, settled-none}
use Rattle.dependency_graph.proofs.Keeping.{kept-grown, kept-added, kept-settled, settled-waits, settled-made}

-- a graph behind an act
pub record Behind (g v : Callbacks) (counts : List ℕ) (rows : List (List ℕ)) : Type 0 where
  pub view : g ≡ v
  pub kept : IsKept g counts rows

behind : (g v u : Callbacks) (counts counts_is : List ℕ) (rows rows_is : List (List ℕ)) → g ≡ u → u ≡ v → counts ≡ counts_is → rows ≡ rows_is → IsKept u counts_is rows_is → Behind g v counts rows
behind g v u counts counts_is rows rows_is view after same_counts same_rows kept = record {
  view = view ∙ after;
  kept = subst (λ (h : Callbacks). IsKept h counts rows) (sym view) (subst (λ (l : List ℕ). IsKept u l rows) (sym same_counts) (subst (λ (l : List (List ℕ)). IsKept u counts_is l) (sym same_rows) kept));
}

pub wait-keeps : (g v : Callbacks) (w : CallbackView) (counts counts_same counts_after : List ℕ) (rows rows_same rows_after : List (List ℕ)) (waits_same waits : List CallbackView) (made_same made : List ℕ) (count c : ℕ) (ns ms : List ℕ)
    → IsKept g counts rows → g ≡ v → AreBelow (length v.states) w.inputs → AreDistinctNumbers w.inputs
    → ns ≡ w.inputs → ms ≡ w.inputs → c ≡ length g.waits → count ≡ open_in g.states ns
    → waits_same ≡ g.waits → waits ≡ waits_same ++ w ∷ []
    → made_same ≡ g.made → made ≡ made_same ++ if_settled (nat_eq count 0) c
    → counts_same ≡ counts → counts_after ≡ counts_same ++ count ∷ []
    → rows_same ≡ rows → rows_after ≡ pushed ms c rows_same
    → Behind (callbacks_of g.states waits made g.given) (with_stored w v) counts_after rows_after
wait-keeps g v w counts counts_same counts_after rows rows_same rows_after waits_same waits made_same made count c ns ms kept view below distinct inputs inputs_too number counted w_same w_is m_same m_is c_same c_is r_same r_is =
    let opens : count ≡ open_in g.states w.inputs = counted ∙ ap (open_in g.states) inputs in
    let test : nat_eq count 0 ≡ all_settled g.states w.inputs = ap (λ (n : ℕ). nat_eq n 0) opens ∙ sym (settled-none g.states w.inputs) in
    let waits_is : waits ≡ g.waits ++ w ∷ [] = w_is ∙ ap (λ (l : List CallbackView). l ++ w ∷ []) w_same in
    let made_is : made ≡ g.made ++ if_settled (all_settled g.states w.inputs) (length g.waits) = m_is ∙ ap (λ (l : List ℕ). l ++ if_settled (nat_eq count 0) c) m_same ∙ ap (λ (b : Bool). g.made ++ if_settled b c) test ∙ ap (λ (n : ℕ). g.made ++ if_settled (all_settled g.states w.inputs) n) number in
    behind (callbacks_of g.states waits made g.given) (with_stored w v) (with_stored w g) counts_after (counts ++ open_in g.states w.inputs ∷ []) rows_after (pushed w.inputs (length g.waits) rows)
    (ap (λ (l : List CallbackView). callbacks_of g.states l made g.given) waits_is ∙ ap (λ (l : List ℕ). callbacks_of g.states (g.waits ++ w ∷ []) l g.given) made_is)
    (ap (with_stored w) view)
    (c_is ∙ ap (λ (l : List ℕ). l ++ count ∷ []) c_same ∙ ap (λ (n : ℕ). counts ++ n ∷ []) opens)
    (r_is ∙ ap (pushed ms c) r_same ∙ ap (λ (l : List ℕ). pushed l c rows) inputs_too ∙ ap (λ (n : ℕ). pushed w.inputs n rows) number)
    (kept-added g w counts rows kept (subst (λ (h : Callbacks). AreBelow (length h.states) w.inputs) (sym view) below) distinct)

-- one more task with its launch
pub add-keeps : {Z : Type 0} (g v : Callbacks) (inputs : List ℕ) (counts counts_same counts_after : List ℕ) (rows rows_same rows_more rows_after : List (Vec ℕ Z)) (r : Vec ℕ Z) (states_same states : List FutureState) (waits_same waits : List CallbackView) (made_same made : List ℕ) (count c task : ℕ) (w : CallbackView)
    → IsKept g counts (rows_of rows) → g ≡ v → AreBelow (length v.states) inputs → AreDistinctNumbers inputs
    → w ≡ record { kind = kind.Launch; task = task; inputs = inputs } → task ≡ length g.states → c ≡ length g.waits → count ≡ open_in g.states inputs
    → states_same ≡ g.states → states ≡ states_same ++ state.Open ∷ []
    → waits_same ≡ g.waits → waits ≡ waits_same ++ w ∷ []
    → made_same ≡ g.made → made ≡ made_same ++ if_settled (nat_eq count 0) c
    → counts_same ≡ counts → counts_after ≡ counts_same ++ count ∷ []
    → rows_of rows_same ≡ rows_of rows → vec_items r ≡ [] → rows_more ≡ rows_same ++ r ∷ [] → rows_of rows_after ≡ pushed inputs c (rows_of rows_more)
    → Behind (callbacks_of states waits made g.given) (with_launch inputs v) counts_after (rows_of rows_after)
add-keeps {Z = Z} g v inputs counts counts_same counts_after rows rows_same rows_more rows_after r states_same states waits_same waits made_same made count c task w kept view below distinct w_is task_is number counted s_same s_is w_same waits_is m_same m_is c_same c_is r_same r_empty r_more r_is =
    let longer : length (g.states ++ state.Open ∷ []) ≡ length g.states + 1 = length-append g.states (state.Open ∷ []) in
    let before : AreBelow (length g.states) inputs = subst (λ (h : Callbacks). AreBelow (length h.states) inputs) (sym view) below in
    let all_below : AreBelow (length (g.states ++ state.Open ∷ [])) inputs = below-longer (length g.states) (length (g.states ++ state.Open ∷ [])) inputs (omega (arith, longer)) before in
    let grown_rows : rows_of rows_more ≡ rows_of rows ++ [] ∷ [] = ap rows_of r_more ∙ rows-append rows_same (r ∷ []) ∙ ap (λ (l : List ℕ). rows_of rows_same ++ l ∷ []) r_empty ∙ ap (λ (l : List (List ℕ)). l ++ [] ∷ []) r_same in
    let launch : CallbackView = record { kind = kind.Launch; task = length g.states; inputs = inputs } in
    let is_launch : w ≡ launch = w_is ∙ ap (λ (n : ℕ). record { kind = kind.Launch; task = n; inputs = inputs }) task_is in
    let b = wait-keeps (with_open g) (with_open v) launch counts counts_same counts_after (rows_of rows ++ [] ∷ []) (rows_of rows_more) (rows_of rows_after) waits_same waits made_same made count c inputs inputs
    (kept-grown g counts (rows_of rows) kept) (ap with_open view) (subst (λ (h : Callbacks). AreBelow (length (h.states ++ state.Open ∷ [])) inputs) view all_below) distinct
    refl refl number (counted ∙ sym (open-more g.states state.Open inputs before))
    w_same (waits_is ∙ ap (λ (x : CallbackView). waits_same ++ x ∷ []) is_launch) m_same m_is c_same c_is grown_rows r_is in
    let states_are : states ≡ g.states ++ state.Open ∷ [] = s_is ∙ ap (λ (l : List FutureState). l ++ state.Open ∷ []) s_same in
    let here : callbacks_of states waits made g.given ≡ callbacks_of (g.states ++ state.Open ∷ []) waits made g.given = ap (λ (l : List FutureState). callbacks_of l waits made g.given) states_are in
    record {
      view = here ∙ b.view ∙ ap (λ (h : Callbacks). with_stored (record { kind = kind.Launch; task = length h.states; inputs = inputs }) (with_open v)) view;
      kept = subst (λ (h : Callbacks). IsKept h counts_after (rows_of rows_after)) (sym here) b.kept;
    }
  where
    rows-append : (xs ys : List (Vec ℕ Z)) → rows_of (xs ++ ys) ≡ rows_of xs ++ rows_of ys
    rows-append [] ys = refl
    rows-append (x ∷ xs) ys = ap (λ (l : List (List ℕ)). vec_items x ∷ l) (rows-append xs ys)

-- ---- a settlement

pub row-read : {Z : Type 0} (rows : List (Vec ℕ Z)) (n : ℕ) (r : Vec ℕ Z) → n < length rows → r ≡ get_or rows n r → vec_items r ≡ row_at (rows_of rows) n
row-read [] n r below at = absurd (omega (arith, below))
row-read (s ∷ rows) zero r below at = ap vec_items at
row-read (s ∷ rows) (suc n) r below at = row-read rows n r (omega (arith, below)) at

pub row-within : {Z : Type 0} (g v : Callbacks) (counts : List ℕ) (rows : List (Vec ℕ Z)) (n : ℕ) → IsKept g counts (rows_of rows) → g ≡ v → is_open (state_in v.states n) ≡ true → n < length rows
row-within g v counts rows n kept view opened =
    let below = open-within g.states n (subst (λ (h : Callbacks). is_open (state_in h.states n) ≡ true) (sym view) opened) in
    let wide = kept.wide in
    let same = length-map rows vec_items in
    omega (arith, below, wide, same)

pub settle-waits : (g v : Callbacks) (n : ℕ) (s : FutureState) (counts : List ℕ) (rows : List (List ℕ)) (ws : List ℕ) → IsKept g counts rows → g ≡ v → is_open (state_in v.states n) ≡ true → is_open s ≡ false → ws ≡ row_at rows n → AllWait ws counts
settle-waits g v n s counts rows ws kept view opened closes is =
    subst (λ (l : List ℕ). AllWait l counts) (sym is) (settled-waits g n s counts rows kept (subst (λ (h : Callbacks). is_open (state_in h.states n) ≡ true) (sym view) opened) closes)

pub settle-keeps : (g v : Callbacks) (n : ℕ) (s : FutureState) (counts counts_after : List ℕ) (rows : List (List ℕ)) (ws made_same made : List ℕ)
    → IsKept g counts rows → g ≡ v → is_open (state_in v.states n) ≡ true → is_open s ≡ false → ws ≡ row_at rows n
    → counts_after ≡ lowered ws counts → made_same ≡ g.made → made ≡ made_same ++ freed ws counts
    → Behind (callbacks_of (set g.states n s) g.waits made g.given) (with_state n s v) counts_after rows
settle-keeps g v n s counts counts_after rows ws made_same made kept view opened closes row c_is m_same m_is =
    let before = subst (λ (h : Callbacks). is_open (state_in h.states n) ≡ true) (sym view) opened in
    let made_is = m_is ∙ ap (λ (l : List ℕ). l ++ freed ws counts) m_same ∙ ap (λ (l : List ℕ). g.made ++ freed l counts) row ∙ ap (λ (l : List ℕ). g.made ++ l) (settled-made g n s counts rows kept before closes) in
    behind (callbacks_of (set g.states n s) g.waits made g.given) (with_state n s v) (with_state n s g) counts_after (lowered (row_at rows n) counts) rows rows
    (ap (λ (l : List ℕ). callbacks_of (set g.states n s) g.waits l g.given) made_is)
    (ap (with_state n s) view)
    (c_is ∙ ap (λ (l : List ℕ). lowered l counts) row)
    refl
    (kept-settled g n s counts rows kept before closes)

-- ---- what is given next

get-has : (xs : List ℕ) (i c : ℕ) → i < length xs → c ≡ get_or xs i c → has_number c xs ≡ true
get-has [] i c below at = absurd (omega (arith, below))
get-has (x ∷ xs) zero c below at = ap (λ (b : Bool). b || has_number c xs) (eq-eqb c x at)
get-has (x ∷ xs) (suc i) c below at = or-right (nat_eq c x) (has_number c xs) (get-has xs i c (omega (arith, below)) at)

get-some : {A : Type 0} (xs : List A) (i : ℕ) (x : A) → i < length xs → x ≡ get_or xs i x → slice_get xs i ≡ Some x
get-some [] i x below at = absurd (omega (arith, below))
get-some (y ∷ xs) zero x below at = ap Some (sym at)
get-some (y ∷ xs) (suc i) x below at = get-some xs i x (omega (arith, below)) at

-- it is a callback that is there
pub next-there : (g : Callbacks) (counts : List ℕ) (rows : List (List ℕ)) (made : List ℕ) (c : ℕ) → IsKept g counts rows → made ≡ g.made → g.given < length made → c ≡ get_or made g.given c → c < length g.waits
next-there g counts rows made c kept same below at =
    (kept.exact.only c (subst (λ (l : List ℕ). has_number c l ≡ true) same (get-has made g.given c below at))).there

pub record Gives (g v : Callbacks) (c : ℕ) (todo : Callback) : Type 0 where
  pub is : Some todo ≡ next_of v
  pub after : record g { given = g.given + 1 } ≡ with_given v

pub next-gives : (g v : Callbacks) (counts : List ℕ) (rows : List (List ℕ)) (made : List ℕ) (c : ℕ) (w : CallbackView) (states : List FutureState) (todo : Callback) → IsKept g counts rows → g ≡ v → made ≡ g.made → g.given < length made → c ≡ get_or made g.given c
    → w ≡ get_or g.waits c w → states ≡ g.states → todo ≡ to_do states w → Gives g v c todo
next-gives g v counts rows made c w states todo kept view same below at at_w stays is =
    let first : slice_get g.made g.given ≡ Some c = ap (λ (l : List ℕ). slice_get l g.given) (sym same) ∙ get-some made g.given c below at in
    let there : slice_get g.waits c ≡ Some w = get-some g.waits c w (next-there g counts rows made c kept same below at) at_w in
    let next : next_of g ≡ Some (to_do g.states w) = ap (next_in g) first ∙ ap (to_do_of g.states) there in
    let step : with_given g ≡ record g { given = g.given + 1 } = ap (with_given_by g) first in
    record {
      is = ap Some (is ∙ ap (λ (l : List FutureState). to_do l w) stays) ∙ sym next ∙ ap next_of view;
      after = sym step ∙ ap with_given view;
    }
