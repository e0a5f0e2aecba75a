-- The entries of a legal history have lines, where each task of its table has a path, the name of an app, and a
-- word for how its body ends.
use Rattle.std.proofs.Common.{◌≡◌, Bool, true, false, [], ◌∷◌, Option, Some, None, refl, sym, ap, ◌∙◌, subst, bytes_eq}
use Rattle.std.specs.Prelude.{option_map, if◌then◌else◌}
use Rattle.body_requests.specs.Asks.{Each}
use Rattle.std.proofs.lemmas.Slice.Eq.{bytes_eq-Decides}
use Rattle.task_record.specs.declared.status.Status.{Status}
use Rattle.event_log.specs.declared.entry.Entry.{Entry}
use Rattle.event_log.specs.declared.entry.Entry.TheVariants as entry
use Rattle.event_log.specs.LogWords.{is_end_word}
use Rattle.event_log.specs.Logs.{IsTaskPath, IsName, HasLine}
use Rattle.flow_meaning.specs.Inputs.{Path}
use Rattle.flow_meaning.specs.Operators.{Text}
use Rattle.call_rules.specs.Calls.{child}
use Rattle.call_rules.proofs.Tasks.{same-some}
use Rattle.history_laws.specs.declared.table.Expected.{Expected}
use Rattle.history_laws.specs.declared.table.Retries.{Retries}
use Rattle.history_laws.specs.declared.table.Table.{Table}
use Rattle.history_laws.specs.Tables.{task_at}
use Rattle.history_laws.specs.Reads.{History, Stage, Waiting, Running, Over, stage}
use Rattle.history_laws.specs.Laws.{SettlingLaw, SettlingStands, follows, stands, LaunchLaw, IsOut, AttemptLaw, ManagerLaw}
use Rattle.history_laws.specs.Legal.{Holds, IsLegal}

-- what a line says of a task that the table expects
pub record HasWords (p : Path) (task : Expected) : Type 0 where
  pub path : IsTaskPath p
  pub name : IsName task.app
  pub ends : task.runs ≡ true → is_end_word task.kind ≡ true

abbrev pub AllHaveWords : Table → Type 0
AllHaveWords z = (p : Path) (task : Expected) → task_at z p ≡ Some task → HasWords p task

-- an attempt of the task was launched
record IsLaunched (z : Table) (p : Path) : Type 0 where
  task : Expected
  is : task_at z p ≡ Some task
  runs : task.runs ≡ true

is_out : (s there : Stage) → s ≡ there → IsOut there → IsOut s
is_out s there e h = subst IsOut (sym e) h

-- an attempt that waits or runs was launched
launched : (z : Table) (p : Path) (b : History) → Holds (LaunchLaw z) b → Holds ManagerLaw b → IsOut (stage p b) → IsLaunched z p
launched z p [] l m out = absurd out
launched z p (entry.Launch q n ∷ b) l m out = by_test (bytes_eq p q) refl out (launched z p b l.1 m.1)
  where
    by_test : (t : Bool) → bytes_eq p q ≡ t → IsOut (if t then Waiting else stage p b) → (IsOut (stage p b) → IsLaunched z p) → IsLaunched z p
    by_test true e h further = record { task = l.0.task; is = subst (λ (x : Path). task_at z x ≡ Some l.0.task) (sym ((bytes_eq-Decides p q).0 e)) l.0.is; runs = l.0.runs }
    by_test false e h further = further h
launched z p (entry.Start q n manager ∷ b) l m out = by_test (bytes_eq p q) refl out (launched z p b l.1 m.1)
  where
    by_test : (t : Bool) → bytes_eq p q ≡ t → IsOut (if t then Running else stage p b) → (IsOut (stage p b) → IsLaunched z p) → IsLaunched z p
    by_test true e h further = further (subst (λ (x : Path). IsOut (stage x b)) (sym ((bytes_eq-Decides p q).0 e)) (is_out (stage q b) Waiting m.0.stands tt))
    by_test false e h further = further h
launched z p (entry.Ended q n manager kind ∷ b) l m out = by_test (bytes_eq p q) refl out (launched z p b l.1 m.1)
  where
    by_test : (t : Bool) → bytes_eq p q ≡ t → IsOut (if t then Over kind else stage p b) → (IsOut (stage p b) → IsLaunched z p) → IsLaunched z p
    by_test true e h further = absurd h
    by_test false e h further = further h
launched z p (e ∷ b) l m out = launched z p b l.1 m.1 out

module _ (z : Table) (words : AllHaveWords z) where
  submitted : (b : History) (p : Path) (app : Text) → SettlingStands z b (entry.Submit p app) → HasLine (entry.Submit p app)
  submitted b p app (follows caller k c) = subst HasLine (sym c.is) (let w = words (child caller k) c.task c.there in (w.path, w.name))
  submitted b p app (stands free own) = by_task (task_at z p) refl own.same_app
    where
      by_task : (found : Option Expected) → task_at z p ≡ found → option_map (λ (t : Expected). t.app) found ≡ Some app → HasLine (entry.Submit p app)
      by_task (Some task) at same = let w = words p task at in (w.path, subst IsName (same-some task.app app same) w.name)
      by_task None at same = absurd (cc)

  settled_line : (b : History) (p : Path) (s : Status) → SettlingStands z b (entry.Settled p s) → IsTaskPath p
  settled_line b p s (follows caller k c) = absurd (let is = c.is in cc)
  settled_line b p s (stands free own) = (words p own.task own.is).path

  ended_word : (p : Path) (task : Expected) (kind : Text) → task_at z p ≡ Some task → kind ≡ task.kind → IsLaunched z p → is_end_word kind ≡ true
  ended_word p task kind at same h =
      let one : h.task ≡ task = same-some h.task task (sym h.is ∙ at) in
      ap is_end_word same ∙ (words p task at).ends (subst (λ (t : Expected). t.runs ≡ true) one h.runs)

  line : (r : Retries) (b : History) (e : Entry) → Holds (LaunchLaw z) b → Holds ManagerLaw b → SettlingLaw z b e → LaunchLaw z b e → AttemptLaw r z b e → ManagerLaw b e → HasLine e
  line r b (entry.Submit p app) ls ms s l a m = submitted b p app s.stands
  line r b (entry.JoinRun p) ls ms s l a m = (words p l.task l.is).path
  line r b (entry.MemoHit p) ls ms s l a m = (words p l.task l.is).path
  line r b (entry.Launch p n) ls ms s l a m = (words p l.task l.is).path
  line r b (entry.Dispatch p n manager) ls ms s l a m = absurd (cc)
  line r b (entry.Start p n manager) ls ms s l a m = let h = launched z p b ls ms (is_out (stage p b) Waiting m.stands tt) in (words p h.task h.is).path
  line r b (entry.Ended p n manager kind) ls ms s l a m =
      ((words p a.task a.is).path, ended_word p a.task kind a.is a.same_kind (launched z p b ls ms (is_out (stage p b) Running m.stands tt)))
  line r b (entry.Held p n manager) ls ms s l a m = absurd (cc)
  line r b (entry.LostTry p n manager) ls ms s l a m = absurd (cc)
  line r b (entry.Stored p) ls ms s l a m = (words p l.task l.is).path
  line r b (entry.Settled p state) ls ms s l a m = settled_line b p state s.stands
  line r b _ ls ms s l a m = tt

  lines : (r : Retries) (b : History) → Holds (SettlingLaw z) b → Holds (LaunchLaw z) b → Holds (AttemptLaw r z) b → Holds ManagerLaw b → Each HasLine b
  lines r [] s l a m = tt
  lines r (e ∷ b) s l a m = (line r b e l.1 m.1 s.0 l.0 a.0 m.0, lines r b s.1 l.1 a.1 m.1)

  pub history-lines : (r : Retries) (b : History) → IsLegal r z b → Each HasLine b
  history-lines r b legal = lines r b legal.settling legal.launching legal.attempts legal.managers
