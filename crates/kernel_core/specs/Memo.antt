-- What a run reads of its memo, and what it stores there.
use Rattle.std.specs.Prelude.{◌≡◌, ◌<◌, ℕ, Bool, true, false, List, Option, Some, None, option_map, slice_get}
use Rattle.flow_base.specs.declared.outcome.Outcome.{Outcome}
use Rattle.flow_base.specs.declared.outcome.Outcome.TheVariants as o
use Rattle.script_tree.specs.declared.tree.AppDef.{AppDef}
use Rattle.flow_base.specs.declared.value.Value.{Value}
use Rattle.memo_table.specs.Keys.{KeyView}
use Rattle.memo_table.specs.declared.saved.Saved.{Saved}
use Rattle.agenda_model.specs.AgendaViews.{AgendaView}
use Rattle.agenda_model.specs.Agendas.{NeedsNoStore}
use Rattle.kernel_model.specs.Known.{Known, saved_at, value_of, apps_in, has_ended}
use Rattle.kernel_model.specs.Turns.{IsStore, IsCallback}
use Rattle.kernel_core.specs.Turned.{IsAttempt}

-- what the memo has of a call, as its outcome
abbrev pub recalled_outcome : Known → ℕ → Option Outcome
recalled_outcome w k = option_map value_of (saved_at w k)

-- a task that gets its outcome by an attempt on these values, all of whose inputs are settled
pub record MayAttempt (w : Known) (k : ℕ) (values : List Value) : Type 0 where
  pub not_ended : has_ended w ≡ false
  pub callback : IsCallback w k
  pub attempt : IsAttempt w k values

-- the memo has this outcome of the call
pub record MayRecall (w : Known) (k : ℕ) (outcome : Outcome) : Type 0 where
  pub not_ended : has_ended w ≡ false
  pub callback : IsCallback w k
  pub saved : Saved
  pub there : saved_at w k ≡ Some saved
  pub is : outcome ≡ value_of saved

-- the value of the task's attempt isn't stored, and this is its key
pub record IsUnstored (w : Known) (k : ℕ) (key : KeyView) : Type 0 where
  pub saved : Saved
  pub store : IsStore w k key saved

-- it may be stored
pub record MayStore (w : Known) (k : ℕ) (key : KeyView) : Type 0 where
  pub not_ended : has_ended w ≡ false
  pub unstored : IsUnstored w k key

-- how the task's attempt ended needs no storing
abbrev pub IsKeptTask : Known → ℕ → Type 0
IsKeptTask w k = NeedsNoStore (apps_in w) w.memo w.calls w.lives k

-- ---- what is read of a task

-- an app that is cached
abbrev pub is_cached_app : Option AppDef → Bool
is_cached_app None = false
is_cached_app (Some app) = app.cached

abbrev pub is_valued : Option Outcome → Bool
is_valued (Some (o.Value value files)) = true
is_valued _ = false

abbrev pub IsValue : Outcome → Type 0
IsValue outcome = is_valued (Some outcome) ≡ true

-- ---- the queue of tasks whose attempts are over

-- the first task of the queue that isn't known to need no storing, with its key
pub record IsFirstUnstored (a : AgendaView) (w : Known) (k : ℕ) (key : KeyView) : Type 0 where
  pub at : slice_get a.over a.kept ≡ Some k
  pub unstored : IsUnstored w k key

-- a task of the queue that may settle, the first one where that is known
pub record IsKeptPlace (a : AgendaView) (w : Known) (i : ℕ) : Type 0 where
  pub task : ℕ
  pub at : slice_get a.over i ≡ Some task
  pub kept : IsKeptTask w task
  pub first : 0 < a.kept → i ≡ 0

-- no task of the queue may settle
abbrev pub NoKeptPlace : AgendaView → Known → Type 0
NoKeptPlace a w = (i k : ℕ) → slice_get a.over i ≡ Some k → IsKeptTask w k → ⊥
