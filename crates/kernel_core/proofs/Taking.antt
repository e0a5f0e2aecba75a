-- Turns, taken one after another.
use Rattle.std.proofs.Common.{◌≡◌, suc, inr, false, List, ◌∷◌, sym, subst, arith}
use Rattle.std.specs.Prelude.{All}
use Rattle.script_tree.specs.Grammar.{Tree}
use Rattle.kernel_model.specs.Known.{Known, has_ended, apps_in}
use Rattle.kernel_model.specs.Turns.{Extends}
use Rattle.kernel_core.specs.declared.any_turns.Turn.{Turn}
use Rattle.kernel_core.specs.AnyTurns.{IsHonest, Does, Took}

-- one turn, and then the others
pub took_on : (w u : Known) (turns rest : List Turn) (t : Turn) (v : Known) → turns ≡ t ∷ rest → false ≡ has_ended w → Does w t u → Took rest u v → Took turns w v
took_on w u turns rest t v is going does took = subst (λ (ts : List Turn). Took ts w v) (sym is) (inr (sym going, inr (u, does, took)))

-- a turn leaves the apps, so that the turns behind it stay honest
pub honest_rest : (w v : Known) (turns more : List Turn) (taken : Turn) → turns ≡ taken ∷ more → Extends w v → All (IsHonest (apps_in w)) turns → All (IsHonest (apps_in v)) more
honest_rest w v turns more taken e x all =
    let behind_it : All (IsHonest (apps_in w)) more = λ k d lt. (subst (All (IsHonest (apps_in w))) e all) (suc k) d (omega (arith, lt)) in
    subst (λ (tree : Tree). All (IsHonest tree.0) more) (sym x.tree) behind_it
