-- The words of a log.
use Rattle.std.specs.Prelude.{ℕ, List, [], ◌∷◌, Bool, true, false, if◌then◌else◌, Option, map, bytes_eq, codes}
use Rattle.task_record.specs.declared.status.Status.{Status}
use Rattle.task_record.specs.declared.status.Status.TheVariants as status
use Rattle.script_tree.specs.BuiltIns.{lookup}
use Rattle.script_tree.specs.Lexing.{keywords}
use Rattle.event_log.specs.declared.entry.BlockState.{BlockState}
use Rattle.event_log.specs.declared.entry.BlockState.TheVariants as state
use Rattle.event_log.specs.declared.words.Kind.{Kind}
use Rattle.event_log.specs.declared.words.Kind.TheVariants as kind
use Rattle.event_log.specs.declared.words.ScaleWord.{ScaleWord}
use Rattle.event_log.specs.declared.words.ScaleWord.TheVariants as scale

-- the first word of each kind of line
abbrev pub kinds : List (List ℕ × Kind)
kinds =
    (codes "submit", kind.Submit) ∷ (codes "join", kind.Join) ∷ (codes "memo", kind.Memo) ∷ (codes "launch", kind.Launch) ∷
    (codes "dispatch", kind.Dispatch) ∷ (codes "start", kind.Start) ∷ (codes "ended", kind.Ended) ∷ (codes "held", kind.Held) ∷
    (codes "losttry", kind.LostTry) ∷ (codes "stored", kind.Stored) ∷ (codes "settled", kind.Settled) ∷ (codes "block", kind.Block) ∷
    (codes "register", kind.Register) ∷ (codes "refused", kind.Refused) ∷ (codes "tick", kind.Tick) ∷ (codes "beat", kind.Beat) ∷
    (codes "silent", kind.Silent) ∷ (codes "lost", kind.Lost) ∷ (codes "drain", kind.Drain) ∷ (codes "drained", kind.Drained) ∷
    (codes "hold", kind.Hold) ∷ (codes "scale", kind.Scale) ∷ (codes "checkpoint", kind.Checkpoint) ∷ (codes "end", kind.End) ∷ []

abbrev pub kind_of : List ℕ → Option Kind
kind_of = lookup kinds

abbrev pub statuses : List (List ℕ × Status)
statuses =
    (codes "unsched", status.Unsched) ∷ (codes "pending", status.Pending) ∷ (codes "launched", status.Launched) ∷
    (codes "running", status.Running) ∷ (codes "running_ended", status.RunningEnded) ∷ (codes "joining", status.Joining) ∷
    (codes "exec_done", status.ExecDone) ∷ (codes "memo_done", status.MemoDone) ∷ (codes "failed", status.Failed) ∷
    (codes "dep_fail", status.DepFail) ∷ (codes "fail_retryable", status.FailRetryable) ∷ []

abbrev pub status_of : List ℕ → Option Status
status_of = lookup statuses

abbrev pub block_word : BlockState → List ℕ
block_word state.Started = codes "started"
block_word state.Failed = codes "failed"
block_word state.Ended = codes "ended"

abbrev pub block_states : List (List ℕ × BlockState)
block_states = (codes "started", state.Started) ∷ (codes "failed", state.Failed) ∷ (codes "ended", state.Ended) ∷ []

abbrev pub block_state_of : List ℕ → Option BlockState
block_state_of = lookup block_states

abbrev pub scale_words : List (List ℕ × ScaleWord)
scale_words = (codes "keep", scale.Keep) ∷ (codes "out", scale.Out) ∷ (codes "in", scale.In) ∷ []

abbrev pub scale_word_of : List ℕ → Option ScaleWord
scale_word_of = lookup scale_words

-- ---- words without a value

abbrev pub is_one_of : List (List ℕ) → List ℕ → Bool
is_one_of [] word = false
is_one_of (key ∷ keys) word = if bytes_eq key word then true else is_one_of keys word

-- `value`, or the name of an exception
abbrev pub end_words : List (List ℕ)
end_words =
    codes "value" ∷ codes "ZeroDivisionError" ∷ codes "OverflowError" ∷ codes "TypeError" ∷ codes "IndexError" ∷
    codes "ValueError" ∷ codes "SizeError" ∷ codes "BudgetError" ∷ codes "MissingOutputs" ∷ codes "AppError" ∷
    codes "DependencyError" ∷ codes "JoinError" ∷ codes "DepthError" ∷ codes "ManagerLost" ∷ []

abbrev pub is_end_word : List ℕ → Bool
is_end_word = is_one_of end_words

abbrev pub is_keyword : List ℕ → Bool
is_keyword = is_one_of (map (λ e. e.0) keywords)
