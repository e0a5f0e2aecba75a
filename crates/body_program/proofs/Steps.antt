-- What each step does.
use Rattle.std.proofs.Common.{◌≡◌, ℕ, if◌then◌else◌, List, ap, sym, ◌∙◌}
use Rattle.flow_base.specs.declared.outcome.Exception.TheVariants as x
use Rattle.flow_meaning.specs.declared.walk.Request.TheVariants as request
use Rattle.flow_meaning.specs.Act.{Give, Throw, Ask, ◌>>=◌}
use Rattle.flow_meaning.specs.Operators.{Text, text_of, list_of, truth_of}
use Rattle.body_program.specs.declared.code.Code.{Code}
use Rattle.body_program.specs.declared.code.Simple.TheVariants as simple
use Rattle.body_program.specs.declared.code.Step.{Step, roll-Step, fold-roll-Step}
use Rattle.body_program.specs.declared.code.Step.TheOpen.{Step-F}
use Rattle.body_program.specs.declared.code.Step.TheFolds.{map-Step}
use Rattle.body_program.specs.declared.code.Step.TheVariants as t
use Rattle.body_program.specs.Meaning as code

module _ (names : List Text) where
  abbrev does : Step → code.Does
  does = code.step_does names

  rolled : (y : Step-F Step) → does (roll-Step y) ≡ code.step_step names (map-Step Step code.Does does y)
  unfolding code.step_does
  rolled y = fold-roll-Step code.Does (code.step_step names) y

  pub does-Set : (k : ℕ) (e : Code) → does (t.Simple (simple.Set k e)) ≡ (λ s. code.code_value s.slots e >>= λ value. Give (code.Goes (code.with_slot k value s)))
  does-Set k e = ap does (sym (t.rolls-Simple (simple.Set k e))) ∙ rolled (Step-F.Simple (simple.Set k e))

  pub does-Append : (k : ℕ) (e : Code) → does (t.Simple (simple.Append k e)) ≡ code.step_step names (Step-F.Simple (simple.Append k e))
  does-Append k e = ap does (sym (t.rolls-Simple (simple.Append k e))) ∙ rolled (Step-F.Simple (simple.Append k e))

  pub does-While : (e : Code) (steps : List Step) → does (t.While e steps) ≡ code.repeated e (code.steps_do names steps)
  does-While e steps = ap does (sym (t.rolls-While e steps)) ∙ rolled (Step-F.While e steps)

  pub does-For : (k : ℕ) (e : Code) (steps : List Step) → does (t.For k e steps) ≡ (λ s. code.code_value s.slots e >>= list_of >>= λ items. code.each_turn k (code.steps_do names steps) items s)
  does-For k e steps = ap does (sym (t.rolls-For k e steps)) ∙ rolled (Step-F.For k e steps)

  pub does-If : (e : Code) (steps others : List Step) → does (t.If e steps others) ≡ (λ s. code.code_value s.slots e >>= truth_of >>= λ holds. (if holds then code.steps_do names steps else code.steps_do names others) s)
  does-If e steps others = ap does (sym (t.rolls-If e steps others)) ∙ rolled (Step-F.If e steps others)

  pub does-Return : (e : Code) → does (t.Simple (simple.Return e)) ≡ (λ s. code.code_value s.slots e >>= λ value. Give (code.Returns value s))
  does-Return e = ap does (sym (t.rolls-Simple (simple.Return e))) ∙ rolled (Step-F.Simple (simple.Return e))

  pub does-Raise : (e : Code) → does (t.Simple (simple.Raise e)) ≡ (λ s. code.code_value s.slots e >>= text_of >>= λ text. Throw (x.AppError text))
  does-Raise e = ap does (sym (t.rolls-Simple (simple.Raise e))) ∙ rolled (Step-F.Simple (simple.Raise e))

  pub does-Write : (e d : Code) → does (t.Simple (simple.Write e d)) ≡ (λ s. code.code_value s.slots e >>= λ at. code.code_value s.slots d >>= λ with. code.writes names at with s)
  does-Write e d = ap does (sym (t.rolls-Simple (simple.Write e d))) ∙ rolled (Step-F.Simple (simple.Write e d))

  pub does-Print : (e : Code) → does (t.Simple (simple.Print e)) ≡ (λ s. code.code_value s.slots e >>= λ value. Ask (request.Print value) (λ _. Give (code.Goes s)))
  does-Print e = ap does (sym (t.rolls-Simple (simple.Print e))) ∙ rolled (Step-F.Simple (simple.Print e))

  pub does-Checkpoint : does (t.Simple simple.Checkpoint) ≡ (λ s. Ask request.Checkpoint (λ _. Give (code.Goes s)))
  does-Checkpoint = ap does (sym (t.rolls-Simple simple.Checkpoint)) ∙ rolled (Step-F.Simple simple.Checkpoint)

  pub does-Do : (e : Code) → does (t.Simple (simple.Do e)) ≡ (λ s. code.code_value s.slots e >>= λ _. Give (code.Goes s))
  does-Do e = ap does (sym (t.rolls-Simple (simple.Do e))) ∙ rolled (Step-F.Simple (simple.Do e))
