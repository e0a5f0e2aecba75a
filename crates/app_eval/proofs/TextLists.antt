-- Lists of texts, and what they have when they are joined.
use Rattle.std.proofs.Common.{◌≡◌, ℕ, zero, suc, ◌+◌, ◌-◌, ◌*◌, ◌<◌, List, [], ◌∷◌, ◌++◌, drop, length, get_or, refl, sym, ap, ◌∙◌, arith}
use Rattle.std.proofs.lemmas.Grind.{common_steps}
use Rattle.flow_base.specs.declared.value.Value.{Value, out-Value, out-roll-Value}
use Rattle.flow_base.specs.declared.value.Value.TheOpen.{Value-F}
use Rattle.flow_base.specs.declared.value.Value.TheVariants as v
use Rattle.flow_base.specs.declared.value.Value.TheVariants.{rolls-Text}
use Rattle.flow_base.specs.declared.outcome.Exception.{Exception}
use Rattle.flow_meaning.specs.Act.{Act, Give, Throw, Ask, ◌>>=◌}
use Rattle.flow_meaning.specs.Operators.{Text, text_of, texts_of, texts_from}
use Rattle.app_eval.specs.Gives.{IsGiven}

pub text_of-Text : (t : Text) → text_of (v.Text t) ≡ Give t
unfolding text_of
text_of-Text t = rw (← rolls-Text t, out-roll-Value) refl

-- whether texts are given doesn't rest on those that were read before
rest_given : (act : Act Text) (f g : Text → Act (List Text)) → ((t : Text) → IsGiven (f t) → IsGiven (g t)) → IsGiven (act >>= f) → IsGiven (act >>= g)
rest_given (Give t) f g h is = h t is
rest_given (Throw exception) f g h is = absurd is
rest_given (Ask request go) f g h is = absurd is

pub given_behind : (vs : List Value) (given other : List Text) → IsGiven (texts_from given vs) → IsGiven (texts_from other vs)
given_behind [] given other is = tt
given_behind (v ∷ vs) given other is = rest_given (text_of v) (λ t. texts_from (given ++ t ∷ []) vs) (λ t. texts_from (other ++ t ∷ []) vs) (λ t. given_behind vs (given ++ t ∷ []) (other ++ t ∷ [])) is

-- and neither does what is thrown
rest_thrown : (act : Act Text) (f g : Text → Act (List Text)) (exception : Exception) → ((t : Text) → f t ≡ Throw exception → g t ≡ Throw exception) → (act >>= f) ≡ Throw exception → (act >>= g) ≡ Throw exception
rest_thrown (Give t) f g exception h is = h t is
rest_thrown (Throw other) f g exception h is = cc
rest_thrown (Ask request go) f g exception h is = absurd (cc)

pub thrown_behind : (vs : List Value) (given other : List Text) (exception : Exception) → texts_from given vs ≡ Throw exception → texts_from other vs ≡ Throw exception
thrown_behind [] given other exception is = absurd (cc)
thrown_behind (v ∷ vs) given other exception is = rest_thrown (text_of v) (λ t. texts_from (given ++ t ∷ []) vs) (λ t. texts_from (other ++ t ∷ []) vs) exception (λ t. thrown_behind vs (given ++ t ∷ []) (other ++ t ∷ []) exception) is

-- the values from a place on decide about all
abbrev pub Decides : List Value → ℕ → Type 0
Decides vs i = (IsGiven (texts_of (drop i vs)) → IsGiven (texts_of vs)) × ((exception : Exception) → texts_of (drop i vs) ≡ Throw exception → texts_of vs ≡ Throw exception)

rest_at : (vs : List Value) (i : ℕ) (w : Value) → i < length vs → w ≡ get_or vs i w → drop i vs ≡ w ∷ drop (suc i) vs
rest_at [] i w h e = absurd (omega arith)
rest_at (u ∷ us) zero w h e = grind (arith, common_steps)
rest_at (u ∷ us) (suc i) w h e = rest_at us i w (omega arith) e

texts_next : (w : Value) (t : Text) (vs : List Value) → w ≡ v.Text t → texts_of (w ∷ vs) ≡ texts_from (t ∷ []) vs
texts_next w t vs is = rw (is, text_of-Text t) refl

pub decides_next : (vs : List Value) (i : ℕ) (w : Value) (t : Text) → i < length vs → w ≡ get_or vs i w → w ≡ v.Text t → Decides vs i → Decides vs (i + 1)
decides_next vs i w t h e is was =
    let next : i + 1 ≡ suc i = omega arith in
    let same : texts_of (drop i vs) ≡ texts_from (t ∷ []) (drop (suc i) vs) = ap texts_of (rest_at vs i w h e) ∙ texts_next w t (drop (suc i) vs) is in
    rw next (
      (λ given. was.0 (rw same (given_behind (drop (suc i) vs) [] (t ∷ []) given))),
      (λ exception thrown. was.1 exception (same ∙ thrown_behind (drop (suc i) vs) [] (t ∷ []) exception thrown)),
    )

texts_stop : (act : Act Text) (f : Text → Act (List Text)) (exception : Exception) → act ≡ Throw exception → (act >>= f) ≡ Throw exception
texts_stop act f exception is = rw is refl

pub no_text : (vs : List Value) (i : ℕ) (w : Value) (exception : Exception) → i < length vs → w ≡ get_or vs i w → text_of w ≡ Throw exception → Decides vs i → texts_of vs ≡ Throw exception
no_text vs i w exception h e is was = was.1 exception (ap texts_of (rest_at vs i w h e) ∙ texts_stop (text_of w) (λ t. texts_from (t ∷ []) (drop (suc i) vs)) exception is)

nothing_left : (vs : List Value) (i : ℕ) → length vs ≡ i → drop i vs ≡ []
nothing_left vs i h = grind (arith, common_steps)

pub all_texts : (vs : List Value) (i : ℕ) → length vs ≡ i → Decides vs i → IsGiven (texts_of vs)
all_texts vs i h was = was.0 (rw (nothing_left vs i h) tt)
