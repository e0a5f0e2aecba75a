-- How tasks stand that aren't settled, and what is stored of those that settle.
use Rattle.std.proofs.Common.{◌≡◌, ℕ, ◌<◌, true, false, length, Option, Some, refl, sym, ◌∙◌, ap, subst}
use Rattle.std.specs.Prelude.{is_some}
use Rattle.flow_base.specs.declared.outcome.Exception.TheVariants as x
use Rattle.flow_base.specs.declared.outcome.Outcome.{Outcome}
use Rattle.flow_base.specs.declared.outcome.Outcome.TheVariants as o
use Rattle.task_record.specs.declared.status.Status.{Status}
use Rattle.task_record.specs.declared.status.Status.TheVariants as status
use Rattle.task_record.specs.States.{is_settled}
use Rattle.memo_table.specs.Keys.{KeyView}
use Rattle.memo_table.specs.Table.{MemoView, found}
use Rattle.history_laws.specs.Reads.{has_hit}
use Rattle.history_laws.specs.Tables.{status_of}
use Rattle.kernel_model.specs.Known.{Known, no_retries, path_at, life_at, status_at, settled_outcome, is_kept}
use Rattle.kernel_model.specs.Invariants.{IsLife, IsReached, Inv, is_memoised}
use Rattle.kernel_model.proofs.Places.{status-within}

pub none-at : (w : Known) (k : ℕ) (outcome : Outcome) → is_settled (status_at w k) ≡ false → settled_outcome w k ≡ Some outcome → ⊥
none-at w k outcome unsettled h = absurd (let none = rw unsettled at h in cc)

-- a task that isn't settled took no value from the memo
pub not-memoised : (s : Status) → is_settled s ≡ false → is_memoised s ≡ false
not-memoised status.Unsched h = refl
not-memoised status.Pending h = refl
not-memoised status.Launched h = refl
not-memoised status.Running h = refl
not-memoised status.RunningEnded h = refl
not-memoised status.Joining h = refl
not-memoised status.ExecDone h = refl
not-memoised status.MemoDone h = absurd (cc)
not-memoised status.Failed h = refl
not-memoised status.DepFail h = refl
not-memoised status.FailRetryable h = refl

-- how a task stands that isn't settled
pub record IsAtState (w : Known) (k : ℕ) (s : Status) : Type 0 where
  pub within : k < length w.calls
  pub is : status_at w k ≡ s
  pub unsettled : is_settled (status_at w k) ≡ false
  pub unhit : has_hit (path_at w k) w.past ≡ false
  pub life : IsLife no_retries (path_at w k) w.past (life_at w k)
  pub reached : IsReached (life_at w k) s

pub at-state : (w : Known) → Inv w → (k : ℕ) (s : Status) → status_at w k ≡ s → (s ≡ status.Unsched → ⊥) → is_settled s ≡ false → IsAtState w k s
at-state w inv k s is begun unsettled =
    let within = status-within w inv.holds.tracks.lives k (λ h. begun (sym is ∙ h)) in
    let life = inv.holds.tracks.lived k within in
    let open_yet = ap is_settled is ∙ unsettled in
    record { within = within; is = is; unsettled = open_yet; unhit = life.hit ∙ not-memoised (status_at w k) open_yet; life = life; reached = subst (IsReached (life_at w k)) is life.reached }

-- the value of a task that is kept is stored by its key
pub kept-stored : (memo : MemoView) (other : Option KeyView) (key : KeyView) (outcome : Outcome) → is_kept memo other outcome ≡ true → status_of outcome ≡ status.ExecDone → other ≡ Some key → is_some (found memo key) ≡ true
kept-stored memo other key (o.Value value files) kept done is = ap (λ k. is_kept memo k (o.Value value files)) (sym is) ∙ kept
kept-stored memo other key (o.Failed x.ZeroDivisionError) kept done is = absurd (cc)
kept-stored memo other key (o.Failed x.OverflowError) kept done is = absurd (cc)
kept-stored memo other key (o.Failed x.TypeError) kept done is = absurd (cc)
kept-stored memo other key (o.Failed x.IndexError) kept done is = absurd (cc)
kept-stored memo other key (o.Failed x.ValueError) kept done is = absurd (cc)
kept-stored memo other key (o.Failed x.SizeError) kept done is = absurd (cc)
kept-stored memo other key (o.Failed x.BudgetError) kept done is = absurd (cc)
kept-stored memo other key (o.Failed x.MissingOutputs) kept done is = absurd (cc)
kept-stored memo other key (o.Failed (x.AppError text)) kept done is = absurd (cc)
kept-stored memo other key (o.Failed (x.DependencyError paths)) kept done is = absurd (cc)
kept-stored memo other key (o.Failed (x.JoinError paths)) kept done is = absurd (cc)
kept-stored memo other key (o.Failed x.DepthError) kept done is = absurd (cc)
kept-stored memo other key (o.Failed (x.ManagerLost manager)) kept done is = absurd (cc)
