-- A turn that is taken refuses nothing, and one that is refused does nothing else.
use Rattle.std.proofs.Common.{◌≡◌, Bool, true, false, List, [], ◌∷◌, Option, Some, None, is_some, refl, ◌∙◌, ap}
use Rattle.std.proofs.lemmas.Bool.{or_parts}
use Rattle.flow_base.specs.declared.value.Value.{out-Value}
use Rattle.flow_base.specs.declared.outcome.Ending.{Ending}
use Rattle.flow_base.specs.declared.outcome.Outcome.{Outcome}
use Rattle.flow_meaning.specs.declared.walk.Request.{Request}
use Rattle.flow_meaning.specs.declared.walk.Request.TheVariants as request
use Rattle.flow_meaning.specs.Act.{Act, Give, Throw, Ask}
use Rattle.flow_meaning.specs.Inputs.{Path, path_in}
use Rattle.flow_meaning.specs.Meaning.{Done}
use Rattle.flow_meaning.specs.Sequential.{outcome_at}
use Rattle.history_laws.specs.Reads.{has_end}
use Rattle.kernel_model.specs.declared.answers.Refusal.{Refusal}
use Rattle.kernel_model.specs.Known.{Known, known, has_ended, main_left}
use Rattle.kernel_model.specs.Turns.{unsettled_step, outcome_step, wait_step, request_step, act_step, unless_ended, script_step}

none : (r : Option Refusal) → is_some r ≡ false → r ≡ None
none None h = refl
none (Some refusal) h = absurd (cc)

pub going_accepts : (w : Known) → has_ended w ≡ false → w.refusal ≡ None
going_accepts w going = none w.refusal (or_parts (is_some w.refusal) (has_end w.past) going).0

unsettled-accepts : (w : Known) (p : Path) (arrived : Bool) → (unsettled_step w p arrived).1.refusal ≡ w.refusal
unsettled-accepts w p true = refl
unsettled-accepts w p false = refl

outcome-accepts : (w : Known) (p : Path) (outcome : Option Outcome) → (outcome_step w p outcome).1.refusal ≡ w.refusal
outcome-accepts w p None = unsettled-accepts w p w.arrived
outcome-accepts w p (Some outcome) = refl

wait-accepts : (w : Known) (ps : List Path) → (wait_step w ps).1.refusal ≡ w.refusal
wait-accepts w [] = refl
wait-accepts w (p ∷ ps) = outcome-accepts w p (outcome_at (known w) p)

request-accepts : (w : Known) (wanted : Request) → (request_step w wanted).1.refusal ≡ w.refusal
request-accepts w (request.Call app arguments names) = refl
request-accepts w (request.WaitValue f) = wait-accepts w (path_in (out-Value f))
request-accepts w (request.WaitName f) = wait-accepts w (path_in (out-Value f))
request-accepts w (request.Print value) = refl
request-accepts w request.Checkpoint = refl

act-accepts : (w : Known) (act : Act Done) → (act_step w act).1.refusal ≡ w.refusal
act-accepts w (Give d) = refl
act-accepts w (Throw exception) = refl
act-accepts w (Ask wanted go) = request-accepts w wanted

step-accepts : (w : Known) (ending : Option Ending) → (unless_ended ending w (act_step w (main_left w))).1.refusal ≡ w.refusal
step-accepts w None = act-accepts w (main_left w)
step-accepts w (Some ending) = refl

pub accepts_script : (w v : Known) → has_ended w ≡ false → v ≡ (script_step w).1 → v.refusal ≡ None
accepts_script w v going is = ap (λ (u : Known). u.refusal) is ∙ step-accepts w w.ending ∙ going_accepts w going
