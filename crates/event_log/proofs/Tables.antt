-- What stands beside a word in a table.
use Rattle.std.specs.Prelude.{bytes_eq, codes}
use Rattle.std.specs.List.{list_all, AllByRecursion}
use Rattle.std.proofs.Common.{◌≡◌, ℕ, true, List, [], ◌∷◌, Some, refl, ap, sym, ◌∙◌}
use Rattle.std.proofs.lemmas.Slice.Eq.{bytes_eq-Decides}
use Rattle.script_tree.specs.BuiltIns.{lookup}
use Rattle.task_record.specs.declared.status.Status.{Status}
use Rattle.task_record.specs.declared.status.Status.TheVariants as status
use Rattle.task_record.specs.States.{status_name}
use Rattle.event_log.specs.declared.entry.BlockState.{BlockState}
use Rattle.event_log.specs.declared.entry.BlockState.TheVariants as state
use Rattle.event_log.specs.declared.words.Kind.{Kind}
use Rattle.event_log.specs.declared.words.Kind.TheVariants as kind
use Rattle.event_log.specs.declared.words.ScaleWord.{ScaleWord}
use Rattle.event_log.specs.declared.words.ScaleWord.TheVariants as scale
use Rattle.event_log.specs.LogWords.{kinds, kind_of, statuses, status_of, block_states, block_state_of, block_word, scale_words, scale_word_of}
use Rattle.event_log.specs.Reading.{is_in_word}
use Rattle.event_log.proofs.Branches.{if_case}
use Rattle.event_log.proofs.Readers.{IsWord}

-- each value stands beside its text
abbrev pub Tells : {A : Type 0} → (A → List ℕ) → List (List ℕ × A) → Type 0
Tells text = AllByRecursion (λ e. e.0 ≡ text e.1)

table_takes : {A : Type 0} (text : A → List ℕ) (es : List (List ℕ × A)) (w : List ℕ) (a : A) → Tells text es → lookup es w ≡ Some a → w ≡ text a
table_takes text [] w a told e = absurd (cc)
table_takes text (x ∷ xs) w a told e =
    if_case (λ o. o ≡ Some a → w ≡ text a) (bytes_eq x.0 w) (Some x.1) (lookup xs w)
    (λ same h.
    let key : x.0 ≡ w = (bytes_eq-Decides x.0 w).0 same in
    let value : x.1 ≡ a = cc in
    sym key ∙ told.0 ∙ ap text value)
    (λ differ h. table_takes text xs w a told.1 h)
    e

-- a table has this value, and its text is a word
abbrev pub IsRow : {A : Type 0} → (A → List ℕ) → List (List ℕ × A) → A → Type 0
IsRow text es a = (lookup es (text a) ≡ Some a) × (list_all is_in_word (text a) ≡ true)

pub word_of_table : {A : Type 0} (text : A → List ℕ) (es : List (List ℕ × A)) → Tells text es → ((a : A) → IsRow text es a) → IsWord (lookup es) text (λ _. Unit {0})
word_of_table text es told rows = record {
  takes = λ w a e. (tt, table_takes text es w a told e);
  again = λ a _. (rows a).0;
  plain = λ a _. (rows a).1;
}

-- ---- the tables of a log

abbrev pub kind_word : Kind → List ℕ
kind_word kind.Submit = codes "submit"
kind_word kind.Join = codes "join"
kind_word kind.Memo = codes "memo"
kind_word kind.Launch = codes "launch"
kind_word kind.Dispatch = codes "dispatch"
kind_word kind.Start = codes "start"
kind_word kind.Ended = codes "ended"
kind_word kind.Held = codes "held"
kind_word kind.LostTry = codes "losttry"
kind_word kind.Stored = codes "stored"
kind_word kind.Settled = codes "settled"
kind_word kind.Block = codes "block"
kind_word kind.Register = codes "register"
kind_word kind.Refused = codes "refused"
kind_word kind.Tick = codes "tick"
kind_word kind.Beat = codes "beat"
kind_word kind.Silent = codes "silent"
kind_word kind.Lost = codes "lost"
kind_word kind.Drain = codes "drain"
kind_word kind.Drained = codes "drained"
kind_word kind.Hold = codes "hold"
kind_word kind.Scale = codes "scale"
kind_word kind.Checkpoint = codes "checkpoint"
kind_word kind.End = codes "end"

kind_row : (k : Kind) → IsRow kind_word kinds k
kind_row kind.Submit = (refl, refl)
kind_row kind.Join = (refl, refl)
kind_row kind.Memo = (refl, refl)
kind_row kind.Launch = (refl, refl)
kind_row kind.Dispatch = (refl, refl)
kind_row kind.Start = (refl, refl)
kind_row kind.Ended = (refl, refl)
kind_row kind.Held = (refl, refl)
kind_row kind.LostTry = (refl, refl)
kind_row kind.Stored = (refl, refl)
kind_row kind.Settled = (refl, refl)
kind_row kind.Block = (refl, refl)
kind_row kind.Register = (refl, refl)
kind_row kind.Refused = (refl, refl)
kind_row kind.Tick = (refl, refl)
kind_row kind.Beat = (refl, refl)
kind_row kind.Silent = (refl, refl)
kind_row kind.Lost = (refl, refl)
kind_row kind.Drain = (refl, refl)
kind_row kind.Drained = (refl, refl)
kind_row kind.Hold = (refl, refl)
kind_row kind.Scale = (refl, refl)
kind_row kind.Checkpoint = (refl, refl)
kind_row kind.End = (refl, refl)

kinds_told : Tells kind_word kinds
kinds_told = (refl, (refl, (refl, (refl, (refl, (refl, (refl, (refl, (refl, (refl, (refl, (refl, (refl, (refl, (refl, (refl, (refl, (refl, (refl, (refl, (refl, (refl, (refl, (refl, tt))))))))))))))))))))))))

pub word_of_kind : IsWord kind_of kind_word (λ _. Unit {0})
word_of_kind = word_of_table kind_word kinds kinds_told kind_row

status_row : (s : Status) → IsRow status_name statuses s
status_row status.Unsched = (refl, refl)
status_row status.Pending = (refl, refl)
status_row status.Launched = (refl, refl)
status_row status.Running = (refl, refl)
status_row status.RunningEnded = (refl, refl)
status_row status.Joining = (refl, refl)
status_row status.ExecDone = (refl, refl)
status_row status.MemoDone = (refl, refl)
status_row status.Failed = (refl, refl)
status_row status.DepFail = (refl, refl)
status_row status.FailRetryable = (refl, refl)

statuses_told : Tells status_name statuses
statuses_told = (refl, (refl, (refl, (refl, (refl, (refl, (refl, (refl, (refl, (refl, (refl, tt)))))))))))

pub word_of_status : IsWord status_of status_name (λ _. Unit {0})
word_of_status = word_of_table status_name statuses statuses_told status_row

block_row : (s : BlockState) → IsRow block_word block_states s
block_row state.Started = (refl, refl)
block_row state.Failed = (refl, refl)
block_row state.Ended = (refl, refl)

pub word_of_block_state : IsWord block_state_of block_word (λ _. Unit {0})
word_of_block_state = word_of_table block_word block_states (refl, (refl, (refl, tt))) block_row

abbrev pub scale_text : ScaleWord → List ℕ
scale_text scale.Keep = codes "keep"
scale_text scale.Out = codes "out"
scale_text scale.In = codes "in"

scale_row : (s : ScaleWord) → IsRow scale_text scale_words s
scale_row scale.Keep = (refl, refl)
scale_row scale.Out = (refl, refl)
scale_row scale.In = (refl, refl)

pub word_of_scale : IsWord scale_word_of scale_text (λ _. Unit {0})
word_of_scale = word_of_table scale_text scale_words (refl, (refl, (refl, tt))) scale_row
