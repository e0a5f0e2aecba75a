-- What the table of a script says of each task.
use Rattle.std.proofs.Common.{◌≡◌, ℕ, Bool, true, false, bytes_eq, List, [], ◌∷◌, Option, Some, None, IsSome, refl, sym, ◌∙◌, subst, arith}
use Rattle.std.specs.Prelude.{option_map, slice_get, map, if◌then◌else◌}
use Rattle.flow_base.specs.declared.outcome.Ended.{Ended}
use Rattle.flow_base.specs.declared.outcome.Ended.TheVariants as ended
use Rattle.flow_base.specs.declared.outcome.Exception.{Exception}
use Rattle.flow_base.specs.declared.outcome.Exception.TheVariants as x
use Rattle.flow_base.specs.Exceptions.{exception_name}
use Rattle.script_tree.specs.declared.tree.AppDef.{AppDef}
use Rattle.script_tree.specs.Grammar.{Tree}
use Rattle.event_log.specs.LogWords.{is_end_word}
use Rattle.event_log.specs.Logs.{IsTaskPath, IsName}
use Rattle.flow_meaning.specs.Inputs.{Path}
use Rattle.flow_meaning.specs.Operators.{Text}
use Rattle.flow_meaning.specs.Sequential.{Task, Tasks, apply, seq}
use Rattle.flow_meaning.specs.Evaluations.{name_in}
use Rattle.body_requests.specs.Asks.{Each}
use Rattle.call_rules.specs.Calls.{Losses, Begin, Fails, Attempts, Joins, begin, call_in, found}
use Rattle.call_rules.specs.Groups.{IsUnder}
use Rattle.call_rules.specs.Told.{whole}
use Rattle.call_rules.proofs.Whole.{tasks_ruled}
use Rattle.call_rules.proofs.Tasks.{same-some}
use Rattle.history_laws.specs.declared.table.Expected.{Expected}
use Rattle.history_laws.specs.Tables.{kind_of, is_attempt, kind_with, expected, task_in, table}
use Rattle.history_laws.proofs.Dues.{found-expected}
use Rattle.log_lines.specs.Lines.{HasNames, IsOfApp}
use Rattle.log_lines.proofs.Histories.{HasWords, AllHaveWords}

-- ---- how a body ends

exception_word : (e : Exception) → is_end_word (exception_name e) ≡ true
exception_word x.ZeroDivisionError = refl
exception_word x.OverflowError = refl
exception_word x.TypeError = refl
exception_word x.IndexError = refl
exception_word x.ValueError = refl
exception_word x.SizeError = refl
exception_word x.BudgetError = refl
exception_word x.MissingOutputs = refl
exception_word (x.AppError text) = refl
exception_word (x.DependencyError paths) = refl
exception_word (x.JoinError paths) = refl
exception_word x.DepthError = refl
exception_word (x.ManagerLost manager) = refl

end_word : (e : Ended) → is_end_word (kind_of e) ≡ true
end_word (ended.Value value files) = refl
end_word (ended.Raised exception) = exception_word exception

attempt_word : (names : List Text) (how : Begin) → is_attempt how ≡ true → is_end_word (kind_with names how) ≡ true
attempt_word names (Attempts app values) h = end_word (apply app values names)
attempt_word names (Joins app values) h = absurd (cc)
attempt_word names (Fails exception) h = absurd (cc)

-- ---- the tasks of an evaluation

under_path : (n : ℕ) (p : Path) → IsUnder [] n p → IsTaskPath p
under_path n p h = subst IsTaskPath (sym h.is) (omega arith)

pub app_name : (apps : List AppDef) → ((k : ℕ) (app : AppDef) → slice_get apps k ≡ Some app → IsName app.name) → (k : ℕ) → IsSome (slice_get apps k) → IsName (name_in (slice_get apps k))
app_name apps names k there = by_app (slice_get apps k) refl there
  where
    by_app : (o : Option AppDef) → slice_get apps k ≡ o → IsSome o → IsName (name_in o)
    by_app (Some app) at h = names k app at
    by_app None at h = absurd (cc)

-- what is found is one of them
found_each : (P : Task → Type 0) (ts : Tasks) → Each P ts → (p : Path) (t : Task) → found ts p ≡ Some t → P t
found_each P [] each p t at = absurd (cc)
found_each P (s ∷ ts) each p t at = by_test (bytes_eq s.path p) at (found_each P ts each.1 p t)
  where
    by_test : (b : Bool) → (if b then Some s else found ts p) ≡ Some t → (found ts p ≡ Some t → P t) → P t
    by_test true e further = subst P (same-some s t e) each.0
    by_test false e further = further e

module _ (tree : Tree) (losses : Losses) (names : HasNames tree) (apps : Each (IsOfApp tree.0) (whole tree losses)) where
  task_words : (p : Path) (t : Task) → found (whole tree losses) p ≡ Some t → HasWords p (expected tree.0 (whole tree losses) t)
  task_words p t at = record {
    path = under_path _ p ((tasks_ruled tree losses).under p t at);
    name = app_name tree.0 names t.app (found_each (IsOfApp tree.0) (whole tree losses) apps p t at);
    ends = attempt_word t.names (begin tree.0 (whole tree losses) (call_in t));
  }

  row_words : (p : Path) (task : Expected) → task_in (map (expected tree.0 (whole tree losses)) (whole tree losses)) p ≡ Some task → HasWords p task
  row_words p task at = by_found (found (whole tree losses) p) refl (sym (found-expected tree.0 (whole tree losses) (whole tree losses) p) ∙ at)
    where
      by_found : (o : Option Task) → found (whole tree losses) p ≡ o → option_map (expected tree.0 (whole tree losses)) o ≡ Some task → HasWords p task
      by_found (Some t) is e = subst (HasWords p) (same-some _ task e) (task_words p t is)
      by_found None is e = absurd (cc)

pub table-words : (tree : Tree) (losses : Losses) → HasNames tree → Each (IsOfApp tree.0) (seq tree.0 tree.1 losses).tasks → AllHaveWords (table tree losses)
unfolding seq
table-words tree losses names apps p task at = row_words tree losses names apps p task at
