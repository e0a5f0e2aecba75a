-- What is known of main, and where its walk stands, behind each turn.
use Rattle.std.proofs.Common.{◌≡◌, ℕ, ◌+◌, ◌-◌, ◌^◌, Bool, true, false, List, [], ◌∷◌, length, Option, Some, None, refl, sym, ◌∙◌, ap, subst}
use Rattle.script_tree.specs.Grammar.{Tree}
use Rattle.flow_meaning.specs.declared.walk.Answer.{Answer}
use Rattle.flow_meaning.specs.Act.{after}
use Rattle.flow_meaning.specs.Walk.{main_act}
use Rattle.call_rules.specs.Calls.{Call, Begin, Fails, Attempts, Joins, join_dry}
use Rattle.memo_table.specs.declared.saved.Saved.{Saved}
use Rattle.kernel_model.specs.declared.answers.Delivered.{Delivered}
use Rattle.kernel_model.specs.declared.answers.Delivered.TheVariants.{Taken, Stale}
use Rattle.kernel_model.specs.Jobs.{JobView, DoneView}
use Rattle.kernel_model.specs.Known.{Known, begin_at, saved_at, path_at, apps_in}
use Rattle.kernel_model.specs.Acts.{submitted, all_submitted, joining}
use Rattle.kernel_model.specs.Turns.{CarriesOut, begins, ends, attempted, carried_out, CallbackTurn, FetchTurn, DeliverTurn, StoreTurn, SettleTurn, EndTurn}
use Rattle.kernel_core.specs.declared.main_walk.MainWalk.{MainWalk}
use Rattle.kernel_core.specs.MainWalks.{rest_in, Stands}

-- main is as it was, and nothing was refused
pub record KeepsMain (w v : Known) : Type 0 where
  pub tree : v.tree ≡ w.tree
  pub answers : v.answers ≡ w.answers
  pub ending : v.ending ≡ w.ending
  pub refusal : v.refusal ≡ w.refusal

pub keeps-same : (w v : Known) → v ≡ w → KeepsMain w v
keeps-same w v e = record {
  tree = ap (λ (u : Known). u.tree) e;
  answers = ap (λ (u : Known). u.answers) e;
  ending = ap (λ (u : Known). u.ending) e;
  refusal = ap (λ (u : Known). u.refusal) e;
}

keeps_on : (w u v : Known) → KeepsMain w u → KeepsMain u v → KeepsMain w v
keeps_on w u v a b = record { tree = b.tree ∙ a.tree; answers = b.answers ∙ a.answers; ending = b.ending ∙ a.ending; refusal = b.refusal ∙ a.refusal }

keeps_as : (w u v : Known) → v ≡ u → KeepsMain w u → KeepsMain w v
keeps_as w u v e kept = subst (λ (x : Known). KeepsMain w x) (sym e) kept

-- ---- turns of tasks

keeps_submitted : (w : Known) (cs : List Call) → KeepsMain w (all_submitted w cs)
keeps_submitted w [] = keeps-same w w refl
keeps_submitted w (c ∷ cs) = keeps_on w (submitted w c) (all_submitted (submitted w c) cs) (record { tree = refl; answers = refl; ending = refl; refusal = refl }) (keeps_submitted (submitted w c) cs)

keeps_attempted : (w : Known) (k : ℕ) (saved : Option Saved) → KeepsMain w (attempted w k saved)
keeps_attempted w k None = record { tree = refl; answers = refl; ending = refl; refusal = refl }
keeps_attempted w k (Some saved) = record { tree = refl; answers = refl; ending = refl; refusal = refl }

keeps_carried : (w : Known) (k : ℕ) (b : Begin) → KeepsMain w (carried_out w k b)
keeps_carried w k (Fails exception) = record { tree = refl; answers = refl; ending = refl; refusal = refl }
keeps_carried w k (Attempts app values) = keeps_attempted w k (saved_at w k)
keeps_carried w k (Joins app values) =
    let ran = join_dry (apps_in w) (path_at w k) app values in
    keeps_on w (joining w k ran) (all_submitted (joining w k ran) ran.1) (record { tree = refl; answers = refl; ending = refl; refusal = refl }) (keeps_submitted (joining w k ran) ran.1)

keeps_carries : (w v : Known) → CarriesOut w v → KeepsMain w v
keeps_carries w v (begins k is after) = keeps_as w (carried_out w k (begin_at w k)) v after (keeps_carried w k (begin_at w k))
keeps_carries w v (ends k is after) = keeps_as w _ v after (record { tree = refl; answers = refl; ending = refl; refusal = refl })

pub callback-keeps : (w v : Known) (did : Bool) → CallbackTurn w did v → KeepsMain w v
callback-keeps w v true did = keeps_carries w v did
callback-keeps w v false did = keeps-same w v did.2

pub fetch-keeps : (w v : Known) (job : Option JobView) → FetchTurn w job v → KeepsMain w v
fetch-keeps w v (Some job) did = keeps_as w _ v did.after (record { tree = refl; answers = refl; ending = refl; refusal = refl })
fetch-keeps w v None did = keeps-same w v did.1

pub deliver-keeps : (w v : Known) (done : DoneView) (answer : Delivered) → DeliverTurn w done answer v → KeepsMain w v
deliver-keeps w v done Taken did = keeps_as w _ v did.after (record { tree = refl; answers = refl; ending = refl; refusal = refl })
deliver-keeps w v done Stale did = keeps-same w v did.1

pub store-keeps : (w v : Known) (did : Bool) → StoreTurn w did v → KeepsMain w v
store-keeps w v true did = keeps_as w _ v did.after (record { tree = refl; answers = refl; ending = refl; refusal = refl })
store-keeps w v false did = keeps-same w v did.1

pub settle-keeps : (w v : Known) (did : Bool) → SettleTurn w did v → KeepsMain w v
settle-keeps w v true did = keeps_as w _ v did.after (record { tree = refl; answers = refl; ending = refl; refusal = refl })
settle-keeps w v false did = keeps-same w v did.1

pub end-keeps : (w v : Known) (did : Bool) → EndTurn w did v → KeepsMain w v
end-keeps w v true did = keeps_as w _ v did.1 (record { tree = refl; answers = refl; ending = refl; refusal = refl })
end-keeps w v false did = keeps-same w v did.1

-- ---- where the walk stands

-- while nothing was refused and main goes on
abbrev pub StandsOpen : MainWalk → Known → Type 0
StandsOpen m w = w.refusal ≡ None → w.ending ≡ None → Stands m w

pub keeps-stands : (m : MainWalk) (w v : Known) → KeepsMain w v → StandsOpen m w → StandsOpen m v
keeps-stands m w v kept stands accepted going =
    let s = stands (sym kept.refusal ∙ accepted) (sym kept.ending ∙ going) in
    record {
      ready = s.ready;
      follows = record {
        left =
            s.follows.left
            ∙ ap (λ (rs : List Answer). after (main_act w.tree) rs) (sym kept.answers)
            ∙ ap (λ (t : Tree). after (main_act t) v.answers) (sym kept.tree);
        rest = subst (λ (rs : List Answer). rest_in m + length rs ≡ 2 ^ 64 - 1) (sym kept.answers) s.follows.rest;
      };
    }
