-- What is read from a history. Definitions have the newest entry of a history first, so that the entries
-- before one are the rest of the list.
use Rattle.std.specs.Prelude.{ℕ, suc, ◌+◌, Bool, true, false, ◌&&◌, if◌then◌else◌, List, [], ◌∷◌, Option, Some, None, bytes_eq, codes, reverse}
use Rattle.task_record.specs.declared.status.Status.{Status}
use Rattle.event_log.specs.declared.entry.Entry.{Entry}
use Rattle.event_log.specs.declared.entry.Entry.TheVariants as entry
use Rattle.flow_meaning.specs.Inputs.{Path}
use Rattle.flow_meaning.specs.Operators.{Text}
use Rattle.memo_table.specs.Keys.{KeyView, same_key}
use Rattle.history_laws.specs.declared.table.Retries.{Retries}
use Rattle.history_laws.specs.declared.table.RetryCost.{RetryCost}

abbrev pub History : Type 0
History = List Entry

-- the history of a log, whose oldest entry stands first
abbrev pub history_of : List Entry → History
history_of entries = reverse entries

-- ---- submissions

abbrev pub is_submitted : Path → History → Bool
is_submitted p [] = false
is_submitted p (entry.Submit q app ∷ b) = if bytes_eq p q then true else is_submitted p b
is_submitted p (e ∷ b) = is_submitted p b

-- a call of main has a path of one number
abbrev pub is_of_main : Path → Bool
is_of_main (n ∷ []) = true
is_of_main _ = false

-- how many calls of main were submitted
abbrev pub submits : History → ℕ
submits [] = 0
submits (entry.Submit q app ∷ b) = if is_of_main q then submits b + 1 else submits b
submits (e ∷ b) = submits b

-- ---- settlements

-- the state that a task was settled in
abbrev pub settled : Path → History → Option Status
settled p [] = None
settled p (entry.Settled q status ∷ b) = if bytes_eq p q then Some status else settled p b
settled p (e ∷ b) = settled p b

-- ---- joins

-- the body of a join ran
abbrev pub has_joined : Path → History → Bool
has_joined p [] = false
has_joined p (entry.JoinRun q ∷ b) = if bytes_eq p q then true else has_joined p b
has_joined p (e ∷ b) = has_joined p b

-- the join whose calls are being submitted, and how many are
abbrev pub Due : Type 0
Due = Option (Path × ℕ)

abbrev pub one_more : Due → Due
one_more None = None
one_more (Some d) = Some (d.0, suc d.1)

abbrev pub due : History → Due
due [] = None
due (entry.JoinRun p ∷ b) = Some (p, 0)
due (entry.Submit q app ∷ b) = one_more (due b)
due (e ∷ b) = None

-- ---- attempts

-- how many attempts of a task were launched
abbrev pub launches : Path → History → ℕ
launches p [] = 0
launches p (entry.Launch q n ∷ b) = if bytes_eq p q then launches p b + 1 else launches p b
launches p (e ∷ b) = launches p b

-- where the last attempt of a task stands: there is none, it waits for a worker, it runs, or it ended
pub data Stage : Type 0 where
  Unlaunched : Stage
  Waiting : Stage
  Running : Stage
  Over : Text → Stage

abbrev pub stage : Path → History → Stage
stage p [] = Unlaunched
stage p (entry.Launch q n ∷ b) = if bytes_eq p q then Waiting else stage p b
stage p (entry.Start q n manager ∷ b) = if bytes_eq p q then Running else stage p b
stage p (entry.Ended q n manager kind ∷ b) = if bytes_eq p q then Over kind else stage p b
stage p (e ∷ b) = stage p b

-- the same without the starts, at which the law of attempts doesn't look
abbrev pub last_try : Path → History → Stage
last_try p [] = Unlaunched
last_try p (entry.Launch q n ∷ b) = if bytes_eq p q then Waiting else last_try p b
last_try p (entry.Ended q n manager kind ∷ b) = if bytes_eq p q then Over kind else last_try p b
last_try p (e ∷ b) = last_try p b

-- ---- costs

abbrev pub value_word : Text
value_word = codes "value"

-- the cost of a name: the first that is given, else 100
abbrev pub cost_in : List RetryCost → Text → ℕ
cost_in [] name = 100
cost_in (c ∷ cs) name = if bytes_eq c.name name then c.cost else cost_in cs name

-- the cost of an attempt that ended so
abbrev pub cost : Retries → Text → ℕ
cost r kind = if bytes_eq kind value_word then 0 else cost_in r.costs kind

-- what the attempts of a task that ended cost together
abbrev pub costs : Retries → Path → History → ℕ
costs r p [] = 0
costs r p (entry.Ended q n manager kind ∷ b) = if bytes_eq p q then costs r p b + cost r kind else costs r p b
costs r p (e ∷ b) = costs r p b

-- ---- the memo

-- the task took its value from the memo
abbrev pub has_hit : Path → History → Bool
has_hit p [] = false
has_hit p (entry.MemoHit q ∷ b) = if bytes_eq p q then true else has_hit p b
has_hit p (e ∷ b) = has_hit p b

-- an attempt of the task ended with a value
abbrev pub has_value : Path → History → Bool
has_value p [] = false
has_value p (entry.Ended q n manager kind ∷ b) = if bytes_eq p q && bytes_eq kind value_word then true else has_value p b
has_value p (e ∷ b) = has_value p b

abbrev pub is_key : KeyView → Option KeyView → Bool
is_key key None = false
is_key key (Some other) = same_key key other

-- the key is that of a task whose value was stored, where tasks have these keys
abbrev pub stores : (Path → Option KeyView) → KeyView → History → Bool
stores keys key [] = false
stores keys key (entry.Stored p ∷ b) = if is_key key (keys p) then true else stores keys key b
stores keys key (e ∷ b) = stores keys key b

-- ---- the whole

abbrev pub has_end : History → Bool
has_end [] = false
has_end (entry.End ∷ b) = true
has_end (e ∷ b) = has_end b

-- Which tasks are lost, each with its manager: no entry tells of a loss.
abbrev pub lost : History → Path → Option ℕ
lost b p = None
