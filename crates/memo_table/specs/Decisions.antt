-- Keys that are the same are equal.
use Rattle.std.proofs.Common.{◌≡◌, true, ◌&&◌, map, bytes_eq, ap, sym, ◌∙◌, refl}
use Rattle.std.proofs.lemmas.Bool.{and_parts, and_from}
use Rattle.std.proofs.lemmas.Slice.Eq.{bytes_eq-Decides}
use Rattle.std.specs.Bool.{Decides}
use Rattle.std.specs.Cmp.Lexicographic.{pointwise, pointwise_decides}
use Rattle.flow_base.specs.Values.{all_match, same}
use Rattle.memo_table.specs.Keys.{KeyView, same_key}
use Rattle.flow_base.proofs.Equality.{all_equal, all_match-equal}

same_is : (a b : KeyView) → same_key a b ≡ true → a ≡ b
same_is a b h =
    let first = and_parts (bytes_eq a.app b.app && all_match (map same a.arguments) b.arguments) (pointwise bytes_eq a.names b.names) h in
    let both = and_parts (bytes_eq a.app b.app) (all_match (map same a.arguments) b.arguments) first.0 in
    let app : a.app ≡ b.app = (bytes_eq-Decides a.app b.app).0 both.0 in
    let arguments : a.arguments ≡ b.arguments = all_equal a.arguments b.arguments both.1 in
    let names : a.names ≡ b.names = (pointwise_decides bytes_eq-Decides a.names b.names).0 first.1 in
    λ i. record { app = app i; arguments = arguments i; names = names i }

itself : (a : KeyView) → same_key a a ≡ true
itself a =
    and_from _ _ (and_from _ _ ((bytes_eq-Decides a.app a.app).1 refl) (all_match-equal a.arguments a.arguments refl)) ((pointwise_decides bytes_eq-Decides a.names a.names).1 refl)

pub keys_decide : (a b : KeyView) → Decides (same_key a b) (a ≡ b)
keys_decide a b = (same_is a b, λ e. ap (same_key a) (sym e) ∙ itself a)
