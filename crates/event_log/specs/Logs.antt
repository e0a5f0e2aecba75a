-- Which entries have a line, and which bytes are a log.
use Rattle.std.specs.Prelude.{◌≡◌, ℕ, ◌+◌, ◌^◌, ◌<◌, ◌≤◌, ◌⊎◌, true, List, [], ◌++◌, length, All, Ok}
use Rattle.flow_base.specs.TextBytes.{IsTextByte}
use Rattle.flow_base.specs.declared.decision.Decision.{Decision}
use Rattle.flow_base.specs.declared.decision.Decision.TheVariants as decision
use Rattle.script_tree.specs.declared.token.Token.TheVariants as t
use Rattle.script_tree.specs.Lexing.{piece}
use Rattle.event_log.specs.declared.entry.Entry.{Entry}
use Rattle.event_log.specs.declared.entry.Entry.TheVariants as entry
use Rattle.event_log.specs.LogWords.{is_end_word}
use Rattle.event_log.specs.LogText.{entry_line, log_text}

-- a path that has a line: it has at least one number
abbrev pub IsTaskPath : List ℕ → Type 0
IsTaskPath path = 1 ≤ length path

-- the whole of it is one name of a script
abbrev pub IsName : List ℕ → Type 0
IsName name = piece name ≡ Ok (t.Name name, length name)

-- which entries have a line
abbrev pub HasLine : Entry → Type 0
HasLine (entry.Submit path app) = IsTaskPath path × IsName app
HasLine (entry.JoinRun path) = IsTaskPath path
HasLine (entry.MemoHit path) = IsTaskPath path
HasLine (entry.Launch path attempt) = IsTaskPath path
HasLine (entry.Dispatch path attempt manager) = IsTaskPath path
HasLine (entry.Start path attempt manager) = IsTaskPath path
HasLine (entry.Ended path attempt manager ended) = IsTaskPath path × (is_end_word ended ≡ true)
HasLine (entry.Held path attempt manager) = IsTaskPath path
HasLine (entry.LostTry path attempt manager) = IsTaskPath path
HasLine (entry.Stored path) = IsTaskPath path
HasLine (entry.Settled path status) = IsTaskPath path
HasLine _ = Unit {0}

abbrev pub IsShort : ℕ → Type 0
IsShort n = n < 2 ^ 32

abbrev pub AreShort : List ℕ → Type 0
AreShort = All IsShort

abbrev pub DecisionInRange : Decision → Type 0
DecisionInRange decision.Keep = Unit {0}
DecisionInRange (decision.Out n) = IsShort n
DecisionInRange (decision.In n) = IsShort n

-- the numbers and texts of an entry are those that its types hold
abbrev pub InRange : Entry → Type 0
InRange (entry.Submit path app) = AreShort path
InRange (entry.JoinRun path) = AreShort path
InRange (entry.MemoHit path) = AreShort path
InRange (entry.Launch path attempt) = AreShort path × IsShort attempt
InRange (entry.Dispatch path attempt manager) = AreShort path × IsShort attempt × IsShort manager
InRange (entry.Start path attempt manager) = AreShort path × IsShort attempt × IsShort manager
InRange (entry.Ended path attempt manager ended) = AreShort path × IsShort attempt × IsShort manager
InRange (entry.Held path attempt manager) = AreShort path × IsShort attempt × IsShort manager
InRange (entry.LostTry path attempt manager) = AreShort path × IsShort attempt × IsShort manager
InRange (entry.Stored path) = AreShort path
InRange (entry.Settled path status) = AreShort path
InRange (entry.Block block state) = IsShort block
InRange (entry.Register manager block slots) = IsShort manager × IsShort block × IsShort slots
InRange (entry.Refused block version) = IsShort block × All IsTextByte version
InRange (entry.Tick at) = at < 2 ^ 64
InRange (entry.Beat manager) = IsShort manager
InRange (entry.Silent manager) = IsShort manager
InRange (entry.Lost manager) = IsShort manager
InRange (entry.Drain manager) = IsShort manager
InRange (entry.Drained manager) = IsShort manager
InRange (entry.Hold manager) = IsShort manager
InRange (entry.Scale decided) = DecisionInRange decided
InRange (entry.Checkpoint count) = count < 2 ^ 64
InRange entry.End = Unit {0}

-- the most entries of a log
abbrev pub max_entries : ℕ
max_entries = 4000000

-- entries that have lines and their text
pub record AreLines (bytes : List ℕ) (entries : List Entry) (rest : List ℕ) : Type 0 where
  pub whole : bytes ≡ log_text entries ++ rest
  pub each : All HasLine entries
  pub ranges : All InRange entries
  pub within : length entries ≤ max_entries

abbrev pub IsLogOf : List ℕ → List Entry → Type 0
IsLogOf bytes entries = AreLines bytes entries []

-- a whole line of an entry stands at the front
abbrev pub BeginsWithEntry : List ℕ → Type 0
BeginsWithEntry bytes = (e : Entry) × (rest : List ℕ) × HasLine e × InRange e × (bytes ≡ entry_line e ++ rest)

-- the line with this number, counted from 1, is the first that is no entry, or one too many
abbrev pub IsFirstBad : List ℕ → ℕ → Type 0
IsFirstBad bytes line =
    (entries : List Entry) × (rest : List ℕ) × AreLines bytes entries rest × (line ≡ length entries + 1) × (1 ≤ length rest)
    × ((length entries ≡ max_entries) ⊎ (BeginsWithEntry rest → ⊥))

-- each text is the log of one list of entries at most, and of none where some line is the first bad one
pub record LogsAreRead : Type 0 where
  pub one : (bytes : List ℕ) (entries others : List Entry) → IsLogOf bytes entries → IsLogOf bytes others → entries ≡ others
  pub bad : (bytes : List ℕ) (entries : List Entry) (line : ℕ) → IsLogOf bytes entries → IsFirstBad bytes line → ⊥
