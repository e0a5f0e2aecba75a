-- What the law of settling says of the calls of joins, in the words of the specification.
use Rattle.std.proofs.Common.{◌≡◌, ℕ, suc, ◌<◌, true, [], ◌∷◌, Some, sym, ◌∙◌, ap, subst, arith}
use Rattle.task_record.specs.declared.status.Status.{Status}
use Rattle.event_log.specs.declared.entry.Entry.{Entry}
use Rattle.event_log.specs.declared.entry.Entry.TheVariants as entry
use Rattle.flow_meaning.specs.Inputs.{Path}
use Rattle.flow_meaning.specs.Operators.{Text}
use Rattle.history_laws.specs.declared.table.Expected.{Expected}
use Rattle.history_laws.specs.declared.table.Table.{Table}
use Rattle.call_rules.specs.Calls.{child}
use Rattle.history_laws.specs.Reads.{History, due, has_joined, submits}
use Rattle.history_laws.specs.Tables.{task_at}
use Rattle.history_laws.specs.Laws.{SettlingLaw, SettlingStands, follows, stands, IsFree, SettledStands, AllSettled, calls_at}
use Rattle.call_rules.proofs.Tasks.{same-some}
use Rattle.history_laws.proofs.Dues.{due_of, due-path, due-count}

-- the submission of the next call of a join
pub record IsNextCall (z : Table) (p : Path) (k : ℕ) (e : Entry) : Type 0 where
  pub task : Expected
  pub there : task_at z (child p k) ≡ Some task
  pub is : e ≡ entry.Submit (child p k) task.app

-- JoinRun is followed directly by the submissions of its calls in order
pub due-only : (z : Table) (b : History) (e : Entry) (p : Path) (k : ℕ) → due b ≡ due_of p k → k < calls_at z p → SettlingLaw z b e → IsNextCall z p k e
due-only z b e p k at more law = by_case law.stands
  where
    by_case : SettlingStands z b e → IsNextCall z p k e
    by_case (follows q n c) =
        let path : q ≡ p = due-path q p n k (sym c.due ∙ at) in
        let count : n ≡ k = due-count q p n k (sym c.due ∙ at) in
        subst (λ (x : Path). IsNextCall z x k e) path (subst (λ (m : ℕ). IsNextCall z q m e) count (record { task = c.task; there = c.there; is = c.is }))
    by_case (stands free own) = absurd (let few = free p k at in omega arith)

-- no other submission stands but that of main's next call
pub main-only : (z : Table) (b : History) (q : Path) (app : Text) → IsFree z b → SettlingLaw z b (entry.Submit q app) → q ≡ suc (submits b) ∷ []
main-only z b q app free law = by_case law.stands
  where
    by_case : SettlingStands z b (entry.Submit q app) → q ≡ suc (submits b) ∷ []
    by_case (follows p n c) = absurd (let few = free p n c.due in let more = c.more in omega arith)
    by_case (stands other own) = own.next

settled_own : (z : Table) (b : History) (p : Path) (s : Status) → SettlingStands z b (entry.Settled p s) → SettledStands z b p s
settled_own z b p s (stands free own) = own
settled_own z b p s (follows q n c) = absurd (let is = c.is in cc)

-- a join that its rules don't settle is settled after its body ran, and after all that it returned
pub join-settles : (z : Table) (b : History) (p : Path) (s : Status) (task : Expected) → task_at z p ≡ Some task → task.joins ≡ true → SettlingLaw z b (entry.Settled p s) → (has_joined p b ≡ true) × AllSettled task.awaits b
join-settles z b p s task at joins law =
    let own = settled_own z b p s law.stands in
    let same : own.task ≡ task = same-some own.task task (sym own.is ∙ at) in
    let both = own.joined (ap (λ (t : Expected). t.joins) same ∙ joins) in
    (both.0, subst (λ (t : Expected). AllSettled t.awaits b) same both.1)
