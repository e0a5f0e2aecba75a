-- What a kernel promises.
use Rattle.std.proofs.Common.{◌≡◌, List, subst}
use Rattle.dependency_graph.specs.declared.monitor.Settlement.{Settlement}
use Rattle.kernel_model.specs.Acts.{retold}
use Rattle.kernel_model.specs.Known.{Known}
use Rattle.kernel_model.proofs.Facts.{legal-now, outcome-now, complete-now}
use Rattle.kernel_model.proofs.Retelling.{inv-retold}
use Rattle.kernel_model.proofs.Whole.{evaluation-now}
use Rattle.kernel_model.proofs.RunTotals.{done-within}
use Rattle.kernel_core.specs.AnyTurns.{Holds}
use Rattle.kernel_core.specs.Views.{IsFact}

pub holds : (w : Known) → IsFact w → Holds w
holds w fact = record {
  legal = legal-now w fact.inv;
  outcomes = outcome-now w fact.inv;
  complete = complete-now w fact.inv;
  evaluation = λ h. evaluation-now w fact.inv (fact.inv.holds.right.ends h);
  within = λ h. done-within w fact.inv (fact.inv.holds.right.ends h) fact.within;
}

-- the same of a state, with what the monitors were told
pub seen-fact : (s w : Known) (told : List (List Settlement)) → retold told s ≡ w → IsFact s → IsFact w
seen-fact s w told is fact = subst IsFact is (record { inv = inv-retold s told fact.inv; few_apps = fact.few_apps; within = fact.within })
