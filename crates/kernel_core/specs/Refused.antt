-- Turns that were refused.
use Rattle.std.specs.Prelude.{◌≡◌, ◌⊎◌, List}
use Rattle.dependency_graph.specs.declared.monitor.Settlement.{Settlement}
use Rattle.dependency_graph.specs.Monitors.{tell, ToldFirst}
use Rattle.kernel_model.specs.declared.answers.Refusal.{Refusal}
use Rattle.kernel_model.specs.declared.answers.Refusal.TheVariants.{NoMemory}
use Rattle.kernel_model.specs.Acts.{refused, retold}
use Rattle.kernel_model.specs.Known.{Known}
use Rattle.kernel_model.specs.Limits.{IsRefusedFor}

-- the first monitors were told of the settlement that the turn would have made
pub record IsToldFirst (w : Known) (told : List (List Settlement)) (Leaves : Known → Type 0) : Type 0 where
  pub after : Known
  pub leaves : Leaves after
  pub settlement : Settlement
  pub would : after.told ≡ tell settlement w.told
  pub first : ToldFirst settlement w.told told

-- no monitor was told, or memory was wanting while they were told
abbrev pub IsToldAtRefusal : Known → List (List Settlement) → (Known → Type 0) → Refusal → Type 0
IsToldAtRefusal w told Leaves refusal = (told ≡ w.told) ⊎ ((refusal ≡ NoMemory) × IsToldFirst w told Leaves)

-- a turn that would leave such a kernel is to be refused for this cause, and changed nothing but what monitors were told
pub record IsUndone (w v : Known) (Leaves : Known → Type 0) (refusal : Refusal) : Type 0 where
  pub same : v ≡ retold v.told w
  pub told : IsToldAtRefusal w v.told Leaves refusal
  pub cause : IsRefusedFor Leaves refusal

-- such a turn was refused for this cause, and nothing else changed but what monitors were told
pub record IsRefused (w v : Known) (Leaves : Known → Type 0) (refusal : Refusal) : Type 0 where
  pub after : v ≡ refused (retold v.told w) refusal
  pub told : IsToldAtRefusal w v.told Leaves refusal
  pub cause : IsRefusedFor Leaves refusal
