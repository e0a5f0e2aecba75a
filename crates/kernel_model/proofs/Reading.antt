-- What one more entry changes of what is read from a history.
use Rattle.std.proofs.Common.{◌≡◌, ◌≢◌, ℕ, zero, suc, ◌+◌, ◌<◌, Bool, true, false, List, [], ◌∷◌, ◌++◌, Option, Some, IsSome, refl, sym, ◌∙◌, ap, arith, bytes_eq, append_assoc}
use Rattle.std.specs.Prelude.{if◌then◌else◌}
use Rattle.std.proofs.lemmas.Slice.Eq.{bytes_eq-Decides}
use Rattle.task_record.specs.declared.status.Status.{Status}
use Rattle.event_log.specs.declared.entry.Entry.{Entry}
use Rattle.event_log.specs.declared.entry.Entry.TheVariants as entry
use Rattle.flow_meaning.specs.Inputs.{Path}
use Rattle.flow_meaning.specs.Operators.{Text}
use Rattle.flow_meaning.specs.Sequential.{MainAct}
use Rattle.history_laws.specs.declared.table.MainEvent.{MainEvent}
use Rattle.history_laws.specs.declared.table.MainEvent.TheVariants as act
use Rattle.history_laws.specs.declared.table.Retries.{Retries}
use Rattle.history_laws.specs.Reads.{History, submits, is_submitted, settled, has_end}
use Rattle.history_laws.specs.Tables.{calls_in, waits_before, acts_of, act_of}
use Rattle.history_laws.specs.Laws.{AllSettled}
use Rattle.kernel_model.specs.Known.{Life, printed_in, printed_by}
use Rattle.kernel_model.specs.Invariants.{IsLife, WaitsSettled}

-- an entry of this task other than its submission
abbrev pub IsOfTask : Entry → Path → Type 0
IsOfTask (entry.JoinRun q) p = q ≡ p
IsOfTask (entry.Launch q n) p = q ≡ p
IsOfTask (entry.Start q n manager) p = q ≡ p
IsOfTask (entry.Ended q n manager kind) p = q ≡ p
IsOfTask (entry.Settled q s) p = q ≡ p
IsOfTask (entry.MemoHit q) p = q ≡ p
IsOfTask (entry.Stored q) p = q ≡ p
IsOfTask _ p = ⊥

pub path-same : (p : Path) → bytes_eq p p ≡ true
path-same p = (bytes_eq-Decides p p).1 refl

pub path-other : (p q : Path) → p ≢ q → bytes_eq p q ≡ false
path-other p q ne = by_test (bytes_eq p q) refl
  where
    by_test : (t : Bool) → bytes_eq p q ≡ t → t ≡ false
    by_test false e = refl
    by_test true e = absurd (ne ((bytes_eq-Decides p q).0 e))

other_path : (q p o : Path) → q ≡ p → o ≢ p → bytes_eq o q ≡ false
other_path q p o is ne = path-other o q (λ e. ne (e ∙ is))

-- what is stored changes nothing of a task's life
pub stored-life : (r : Retries) (q p : Path) (b : History) (life : Life) → IsLife r p b life → IsLife r p (entry.Stored q ∷ b) life
stored-life r q p b life h = record {
  reached = h.reached;
  first = h.first;
  joined = h.joined;
  hit = h.hit;
  opened = λ t. let a = h.opened t in record { attempts = a.attempts; costs = a.costs; stage = a.stage; last = a.last; unsettled = a.unsettled };
  closed = λ t. let c = h.closed t in record { settled = c.settled; state = c.state };
}

-- it changes nothing of another task
pub other-life : (r : Retries) (e : Entry) (p o : Path) (b : History) (life : Life) → IsOfTask e p → o ≢ p → IsLife r o b life → IsLife r o (e ∷ b) life
other-life r (entry.JoinRun q) p o b life is ne h =
    let n = other_path q p o is ne in record {
      reached = h.reached;
      first = h.first;
      joined = rw n h.joined;
      hit = h.hit;
      opened = λ t. let a = h.opened t in record { attempts = a.attempts; costs = a.costs; stage = a.stage; last = a.last; unsettled = a.unsettled };
      closed = λ t. let c = h.closed t in record { settled = c.settled; state = c.state };
    }
other-life r (entry.Launch q m) p o b life is ne h =
    let n = other_path q p o is ne in record {
      reached = h.reached;
      first = h.first;
      joined = h.joined;
      hit = h.hit;
      opened = λ t. let a = h.opened t in record { attempts = rw n a.attempts; costs = a.costs; stage = rw n a.stage; last = rw n a.last; unsettled = a.unsettled };
      closed = λ t. let c = h.closed t in record { settled = c.settled; state = c.state };
    }
other-life r (entry.Start q m manager) p o b life is ne h =
    let n = other_path q p o is ne in record {
      reached = h.reached;
      first = h.first;
      joined = h.joined;
      hit = h.hit;
      opened = λ t. let a = h.opened t in record { attempts = a.attempts; costs = a.costs; stage = rw n a.stage; last = a.last; unsettled = a.unsettled };
      closed = λ t. let c = h.closed t in record { settled = c.settled; state = c.state };
    }
other-life r (entry.Ended q m manager kind) p o b life is ne h =
    let n = other_path q p o is ne in record {
      reached = h.reached;
      first = h.first;
      joined = h.joined;
      hit = h.hit;
      opened = λ t. let a = h.opened t in record { attempts = a.attempts; costs = rw n a.costs; stage = rw n a.stage; last = rw n a.last; unsettled = a.unsettled };
      closed = λ t. let c = h.closed t in record { settled = c.settled; state = c.state };
    }
other-life r (entry.Settled q s) p o b life is ne h =
    let n = other_path q p o is ne in record {
      reached = h.reached;
      first = h.first;
      joined = h.joined;
      hit = h.hit;
      opened = λ t. let a = h.opened t in record { attempts = a.attempts; costs = a.costs; stage = a.stage; last = a.last; unsettled = rw n a.unsettled };
      closed = λ t. let c = h.closed t in record { settled = rw n c.settled; state = c.state };
    }
other-life r (entry.MemoHit q) p o b life is ne h =
    let n = other_path q p o is ne in record {
      reached = h.reached;
      first = h.first;
      joined = h.joined;
      hit = rw n h.hit;
      opened = λ t. let a = h.opened t in record { attempts = a.attempts; costs = a.costs; stage = a.stage; last = a.last; unsettled = a.unsettled };
      closed = λ t. let c = h.closed t in record { settled = c.settled; state = c.state };
    }
other-life r (entry.Stored q) p o b life is ne h = stored-life r q o b life h
other-life r (entry.Submit q app) p o b life is ne h = absurd is
other-life r entry.End p o b life is ne h = absurd is
other-life r (entry.Dispatch q n manager) p o b life is ne h = absurd is
other-life r (entry.Held q n manager) p o b life is ne h = absurd is
other-life r (entry.LostTry q n manager) p o b life is ne h = absurd is
other-life r (entry.Block block state) p o b life is ne h = absurd is
other-life r (entry.Register manager block slots) p o b life is ne h = absurd is
other-life r (entry.Refused block version) p o b life is ne h = absurd is
other-life r (entry.Tick at) p o b life is ne h = absurd is
other-life r (entry.Beat manager) p o b life is ne h = absurd is
other-life r (entry.Silent manager) p o b life is ne h = absurd is
other-life r (entry.Lost manager) p o b life is ne h = absurd is
other-life r (entry.Drain manager) p o b life is ne h = absurd is
other-life r (entry.Drained manager) p o b life is ne h = absurd is
other-life r (entry.Hold manager) p o b life is ne h = absurd is
other-life r (entry.Scale decided) p o b life is ne h = absurd is
other-life r (entry.Checkpoint count) p o b life is ne h = absurd is

pub task-submits : (e : Entry) (p : Path) (b : History) → IsOfTask e p → submits (e ∷ b) ≡ submits b
task-submits (entry.JoinRun q) p b is = refl
task-submits (entry.Launch q n) p b is = refl
task-submits (entry.Start q n manager) p b is = refl
task-submits (entry.Ended q n manager kind) p b is = refl
task-submits (entry.Settled q s) p b is = refl
task-submits (entry.Submit q app) p b is = absurd is
task-submits entry.End p b is = absurd is
task-submits (entry.MemoHit q) p b is = refl
task-submits (entry.Dispatch q n manager) p b is = absurd is
task-submits (entry.Held q n manager) p b is = absurd is
task-submits (entry.LostTry q n manager) p b is = absurd is
task-submits (entry.Stored q) p b is = refl
task-submits (entry.Block block state) p b is = absurd is
task-submits (entry.Register manager block slots) p b is = absurd is
task-submits (entry.Refused block version) p b is = absurd is
task-submits (entry.Tick at) p b is = absurd is
task-submits (entry.Beat manager) p b is = absurd is
task-submits (entry.Silent manager) p b is = absurd is
task-submits (entry.Lost manager) p b is = absurd is
task-submits (entry.Drain manager) p b is = absurd is
task-submits (entry.Drained manager) p b is = absurd is
task-submits (entry.Hold manager) p b is = absurd is
task-submits (entry.Scale decided) p b is = absurd is
task-submits (entry.Checkpoint count) p b is = absurd is

pub task-submitted : (e : Entry) (p : Path) (b : History) (o : Path) → IsOfTask e p → is_submitted o (e ∷ b) ≡ is_submitted o b
task-submitted (entry.JoinRun q) p b o is = refl
task-submitted (entry.Launch q n) p b o is = refl
task-submitted (entry.Start q n manager) p b o is = refl
task-submitted (entry.Ended q n manager kind) p b o is = refl
task-submitted (entry.Settled q s) p b o is = refl
task-submitted (entry.Submit q app) p b o is = absurd is
task-submitted entry.End p b o is = absurd is
task-submitted (entry.MemoHit q) p b o is = refl
task-submitted (entry.Dispatch q n manager) p b o is = absurd is
task-submitted (entry.Held q n manager) p b o is = absurd is
task-submitted (entry.LostTry q n manager) p b o is = absurd is
task-submitted (entry.Stored q) p b o is = refl
task-submitted (entry.Block block state) p b o is = absurd is
task-submitted (entry.Register manager block slots) p b o is = absurd is
task-submitted (entry.Refused block version) p b o is = absurd is
task-submitted (entry.Tick at) p b o is = absurd is
task-submitted (entry.Beat manager) p b o is = absurd is
task-submitted (entry.Silent manager) p b o is = absurd is
task-submitted (entry.Lost manager) p b o is = absurd is
task-submitted (entry.Drain manager) p b o is = absurd is
task-submitted (entry.Drained manager) p b o is = absurd is
task-submitted (entry.Hold manager) p b o is = absurd is
task-submitted (entry.Scale decided) p b o is = absurd is
task-submitted (entry.Checkpoint count) p b o is = absurd is

pub task-ends : (e : Entry) (p : Path) (b : History) → IsOfTask e p → has_end (e ∷ b) ≡ has_end b
task-ends (entry.JoinRun q) p b is = refl
task-ends (entry.Launch q n) p b is = refl
task-ends (entry.Start q n manager) p b is = refl
task-ends (entry.Ended q n manager kind) p b is = refl
task-ends (entry.Settled q s) p b is = refl
task-ends (entry.Submit q app) p b is = absurd is
task-ends entry.End p b is = absurd is
task-ends (entry.MemoHit q) p b is = refl
task-ends (entry.Dispatch q n manager) p b is = absurd is
task-ends (entry.Held q n manager) p b is = absurd is
task-ends (entry.LostTry q n manager) p b is = absurd is
task-ends (entry.Stored q) p b is = refl
task-ends (entry.Block block state) p b is = absurd is
task-ends (entry.Register manager block slots) p b is = absurd is
task-ends (entry.Refused block version) p b is = absurd is
task-ends (entry.Tick at) p b is = absurd is
task-ends (entry.Beat manager) p b is = absurd is
task-ends (entry.Silent manager) p b is = absurd is
task-ends (entry.Lost manager) p b is = absurd is
task-ends (entry.Drain manager) p b is = absurd is
task-ends (entry.Drained manager) p b is = absurd is
task-ends (entry.Hold manager) p b is = absurd is
task-ends (entry.Scale decided) p b is = absurd is
task-ends (entry.Checkpoint count) p b is = absurd is

-- a submission and the end change nothing of a task's life
pub submit-life : (r : Retries) (q : Path) (app : Text) (p : Path) (b : History) (life : Life) → IsLife r p b life → IsLife r p (entry.Submit q app ∷ b) life
submit-life r q app p b life h = record {
  reached = h.reached;
  first = h.first;
  joined = h.joined;
  hit = h.hit;
  opened = λ t. let a = h.opened t in record { attempts = a.attempts; costs = a.costs; stage = a.stage; last = a.last; unsettled = a.unsettled };
  closed = λ t. let c = h.closed t in record { settled = c.settled; state = c.state };
}

pub end-life : (r : Retries) (p : Path) (b : History) (life : Life) → IsLife r p b life → IsLife r p (entry.End ∷ b) life
end-life r p b life h = record {
  reached = h.reached;
  first = h.first;
  joined = h.joined;
  hit = h.hit;
  opened = λ t. let a = h.opened t in record { attempts = a.attempts; costs = a.costs; stage = a.stage; last = a.last; unsettled = a.unsettled };
  closed = λ t. let c = h.closed t in record { settled = c.settled; state = c.state };
}

-- what has settled stays settled
some_if : (t : Bool) (s : Status) (found : Option Status) → IsSome found → IsSome (if t then Some s else found)
some_if true s found h = refl
some_if false s found h = h

pub settled-stays : (e : Entry) (p : Path) (b : History) → IsSome (settled p b) → IsSome (settled p (e ∷ b))
settled-stays (entry.Launch q n) p b h = h
settled-stays (entry.Start q n manager) p b h = h
settled-stays (entry.Ended q n manager kind) p b h = h
settled-stays (entry.Settled q s) p b h = some_if (bytes_eq p q) s (settled p b) h
settled-stays (entry.Submit q app) p b h = h
settled-stays (entry.JoinRun q) p b h = h
settled-stays entry.End p b h = h
settled-stays (entry.MemoHit q) p b h = h
settled-stays (entry.Dispatch q n manager) p b h = h
settled-stays (entry.Held q n manager) p b h = h
settled-stays (entry.LostTry q n manager) p b h = h
settled-stays (entry.Stored q) p b h = h
settled-stays (entry.Block block state) p b h = h
settled-stays (entry.Register manager block slots) p b h = h
settled-stays (entry.Refused block version) p b h = h
settled-stays (entry.Tick at) p b h = h
settled-stays (entry.Beat manager) p b h = h
settled-stays (entry.Silent manager) p b h = h
settled-stays (entry.Lost manager) p b h = h
settled-stays (entry.Drain manager) p b h = h
settled-stays (entry.Drained manager) p b h = h
settled-stays (entry.Hold manager) p b h = h
settled-stays (entry.Scale decided) p b h = h
settled-stays (entry.Checkpoint count) p b h = h

pub waits-stay : (e : Entry) (acts : List MainEvent) (b : History) → WaitsSettled acts b → WaitsSettled acts (e ∷ b)
waits-stay e [] b h = tt
waits-stay e (act.Call ∷ acts) b h = waits-stay e acts b h
waits-stay e (act.Wait p ∷ acts) b h = (settled-stays e p b h.0, waits-stay e acts b h.1)

-- acts, one after another
pub waits-append : (xs ys : List MainEvent) (b : History) → WaitsSettled xs b → WaitsSettled ys b → WaitsSettled (xs ++ ys) b
waits-append [] ys b h g = g
waits-append (act.Call ∷ xs) ys b h g = waits-append xs ys b h g
waits-append (act.Wait p ∷ xs) ys b h g = (h.0, waits-append xs ys b h.1 g)

pub calls-append : (xs ys : List MainEvent) → calls_in (xs ++ ys) ≡ calls_in xs + calls_in ys
calls-append [] ys = omega arith
calls-append (act.Call ∷ xs) ys = let e = calls-append xs ys in omega arith
calls-append (act.Wait p ∷ xs) ys = calls-append xs ys

-- further acts change no waits before a call that is there
pub waits_before-append : (k : ℕ) (xs ys : List MainEvent) → k < calls_in xs → waits_before k (xs ++ ys) ≡ waits_before k xs
waits_before-append k [] ys lt = absurd (omega arith)
waits_before-append zero (act.Call ∷ xs) ys lt = refl
waits_before-append (suc k) (act.Call ∷ xs) ys lt = waits_before-append k xs ys (omega arith)
waits_before-append zero (act.Wait p ∷ xs) ys lt = ap (λ (ps : List Path). p ∷ ps) (waits_before-append zero xs ys lt)
waits_before-append (suc k) (act.Wait p ∷ xs) ys lt = ap (λ (ps : List Path). p ∷ ps) (waits_before-append (suc k) xs ys lt)

waited : (k : ℕ) (acts : List MainEvent) (b : History) → k ≡ calls_in acts → WaitsSettled acts b → AllSettled (waits_before k (acts ++ act.Call ∷ [])) b
waited zero [] b e h = tt
waited (suc k) [] b e h = tt
waited zero (act.Call ∷ acts) b e h = tt
waited (suc k) (act.Call ∷ acts) b e h = waited k acts b (omega arith) h
waited zero (act.Wait p ∷ acts) b e h = (h.0, waited zero acts b e h.1)
waited (suc k) (act.Wait p ∷ acts) b e h = (h.0, waited (suc k) acts b e h.1)

-- all that main waited for before its next call has settled
pub waits_before-settled : (acts : List MainEvent) (b : History) → WaitsSettled acts b → AllSettled (waits_before (calls_in acts) (acts ++ act.Call ∷ [])) b
waits_before-settled acts b h = waited (calls_in acts) acts b refl h

pub acts_of-append : (xs ys : List MainAct) → acts_of (xs ++ ys) ≡ acts_of xs ++ acts_of ys
acts_of-append [] ys = refl
acts_of-append (x ∷ xs) ys = ap (λ l. act_of x ++ l) (acts_of-append xs ys) ∙ sym (append_assoc (act_of x) (acts_of xs) (acts_of ys))

pub printed-append : (xs ys : List MainAct) → printed_in (xs ++ ys) ≡ printed_in xs ++ printed_in ys
printed-append [] ys = refl
printed-append (x ∷ xs) ys = ap (λ l. printed_by x ++ l) (printed-append xs ys) ∙ sym (append_assoc (printed_by x) (printed_in xs) (printed_in ys))
