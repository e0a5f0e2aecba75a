-- How a call goes: what it asks of the outside, what it writes, and what its status says.
use Rattle.std.specs.Prelude.{◌≡◌, ◌≢◌, ◌⊎◌, ℕ, ◌+◌, Bool, true, false, IsTrue, List, [], ◌∷◌, ◌++◌, take, decimal, option_map, codes, IfSome, None, Some, Ok, Err}
use Rattle.std.specs.declared.result.Result.{Result}
use Rattle.std.specs.declared.option.Option.{Option}
use Rattle.flow_base.specs.Causes.{Rose}
use Rattle.flow_base.specs.Shelf.{ShelfState, Stand, ShelfCall}
use Rattle.flow_base.specs.Sink.{SinkState, Adds, AddsPart, AddsUnlessFailed}
use Rattle.flow_base.specs.declared.shelf.CallKind.{CallKind}
use Rattle.flow_base.specs.declared.shelf.CallKind.TheVariants.{Read}
use Rattle.script_tree.specs.Faults.{syntax_number, rule_number}
use Rattle.script_tree.specs.Grammar.{max_text}
use Rattle.parsl_engine.specs.declared.exit.Exit.{Exit}
use Rattle.parsl_engine.specs.declared.exit.Exit.TheVariants.{Done, Raised, Refused, Unread, Unwritten, Limited, NoMemory}
use Rattle.parsl_engine.specs.declared.script.ScriptRefusal.{ScriptRefusal}
use Rattle.parsl_engine.specs.declared.script.ScriptRefusal.TheVariants.{Parse, Check}
use Rattle.parsl_engine.specs.declared.words.Command.{Command}
use Rattle.stored_units.specs.declared.units.Limit.{Limit}
use Rattle.stored_units.specs.declared.units.Limit.TheVariants as limit
use Rattle.parsl_engine.specs.declared.output.Output.{Output}
use Rattle.parsl_engine.specs.declared.script.ScriptFault.{ScriptFault}
use Rattle.parsl_engine.specs.Exits.{exit_of}
use Rattle.parsl_engine.specs.Output.{Prints, Limits, TellsOf, MayHaveTold}
use Rattle.parsl_engine.specs.Scripts.{IsFaulty}
use Rattle.parsl_engine.specs.Tellings.{Ledgers, refusal_for}
use Rattle.parsl_engine.specs.Words.{Meaning}

-- ---- statuses and lines

abbrev pub newline : List ℕ
newline = 10 ∷ []

abbrev pub words_line : List ℕ
words_line = codes "parsl: words" ++ newline

-- a fault's number and place, behind what names it
abbrev pub fault_line : List ℕ → ℕ → ℕ → List ℕ
fault_line front number place = (front ++ decimal number) ++ ((codes " at " ++ decimal place) ++ newline)

abbrev pub refusal_line : ScriptRefusal → List ℕ
refusal_line (Parse kind place) = fault_line (codes "parsl: script: parse ") (syntax_number kind) place
refusal_line (Check kind place) = fault_line (codes "parsl: script: check ") (rule_number kind) place

abbrev pub limit_line : Limit → List ℕ
limit_line limit.Tasks = codes "parsl: task limit 100000" ++ newline
limit_line limit.Stored = codes "parsl: store limit 16777216" ++ newline

abbrev pub read_line : List ℕ → List ℕ
read_line name = codes "parsl: read: " ++ name ++ newline

abbrev pub write_line : List ℕ
write_line = codes "parsl: write" ++ newline

abbrev pub memory_line : List ℕ
memory_line = codes "parsl: memory" ++ newline

abbrev pub status_of : Exit → ℕ
status_of Done = 0
status_of Raised = 1
status_of (Refused refusal) = 3
status_of Unread = 6
status_of Unwritten = 7
status_of (Limited l) = 10
status_of NoMemory = 12

-- the line of a call that names this script
abbrev pub line_of : List ℕ → Exit → List ℕ
line_of name Done = []
line_of name Raised = []
line_of name (Refused refusal) = refusal_line refusal
line_of name Unread = read_line name
line_of name Unwritten = write_line
line_of name (Limited l) = limit_line l
line_of name NoMemory = memory_line

-- ---- the shelf

-- the longest script, and one byte more
abbrev pub read_limit : ℕ
read_limit = max_text + 1

-- a read of a name may have given these bytes
abbrev pub WasRead : Bool → ShelfState → List ℕ → List ℕ → Type 0
WasRead tells shelf name bytes = IsTrue tells → option_map (λ s. take read_limit (Stand.held s)) (shelf.stands name) ≡ Some bytes

-- these calls, in this order or the first of them; none behind one that failed
abbrev pub Follows : List ShelfCall → List (CallKind × List ℕ) → Type 0
Follows [] expected = Unit {0}
Follows (call ∷ calls) [] = ⊥
Follows (call ∷ calls) (e ∷ expected) = (call.kind ≡ e.0) × (call.name ≡ e.1) × (call.failed ≡ true → calls ≡ []) × Follows calls expected

-- a read that gave the bytes
abbrev pub read_of : List ℕ → ShelfCall
read_of name = record { kind = Read; name = name; failed = false }

-- the calls that were added
pub record AddsCalls (expected : List (CallKind × List ℕ)) (old new : ShelfState) : Type 0 where
  pub made : List ShelfCall
  pub added : new.calls ≡ old.calls ++ made
  pub follows : Follows made expected

-- ---- a command on a script

-- what was written of a command's output for a script's bytes: all, a part, or nothing
pub record WritesPart (c : Command) (bytes : List ℕ) (tells : Bool) (out out' : SinkState) (told told' : Ledgers) : Type 0 where
  pub output : List ℕ
  pub raised : Bool
  pub prints : Prints c bytes output raised told told'
  pub part : AddsPart tells out out' output

-- all of it, where an exception ended main or not
pub record WritesWhole (c : Command) (bytes : List ℕ) (raised : Bool) (tells : Bool) (out out' : SinkState) (told told' : Ledgers) : Type 0 where
  pub output : List ℕ
  pub prints : Prints c bytes output raised told told'
  pub whole : Adds tells out out' output

-- how the printing of an output ends
abbrev pub Wrote : Result Output ScriptFault → Exit → Bool → SinkState → SinkState → Type 0
Wrote (Ok output) Done tells out out' = (output.raised ≡ false) × Adds tells out out' output.text.items
Wrote (Ok output) Raised tells out out' = (output.raised ≡ true) × Adds tells out out' output.text.items
Wrote (Ok output) Unwritten tells out out' = AddsPart tells out out' output.text.items × Rose out.faults out'.faults
Wrote (Ok output) exit tells out out' = ⊥
Wrote (Err fault) exit tells out out' = (exit ≡ exit_of fault) × (out' ≡ out)

-- how the printing of a command's output ends
abbrev pub Printed : Command → List ℕ → Exit → Bool → SinkState → SinkState → Ledgers → Ledgers → Type 0
Printed c bytes Done tells out out' told told' = WritesWhole c bytes false tells out out' told told'
Printed c bytes Raised tells out out' told told' = WritesWhole c bytes true tells out out' told told'
Printed c bytes (Refused refusal) tells out out' told told' = IsFaulty bytes refusal × (out' ≡ out) × (told' ≡ told)
Printed c bytes Unread tells out out' told told' = ⊥
Printed c bytes Unwritten tells out out' told told' = WritesPart c bytes tells out out' told told' × Rose out.faults out'.faults
Printed c bytes (Limited l) tells out out' told told' = Limits c bytes l × (out' ≡ out) × TellsOf c bytes (Some (refusal_for l)) told told'
Printed c bytes NoMemory tells out out' told told' = (out' ≡ out) × MayHaveTold c bytes told told'

-- what monitors were told, where no output says it
abbrev pub ToldAt : Command → List ℕ → Exit → Ledgers → Ledgers → Type 0
ToldAt c bytes (Refused refusal) told told' = told' ≡ told
ToldAt c bytes (Limited l) told told' = TellsOf c bytes (Some (refusal_for l)) told told'
ToldAt c bytes NoMemory told told' = MayHaveTold c bytes told told'
ToldAt c bytes exit told told' = Unit {0}

-- a limit ends the command
abbrev pub IsLimited : Exit → Type 0
IsLimited (Limited l) = Unit {0}
IsLimited _ = ⊥

-- what an exit says where the script's bytes are these
pub record Answers (c : Command) (bytes : List ℕ) (exit : Exit) (tells : Bool) (out out' : SinkState) (told told' : Ledgers) : Type 0 where
  -- the command's output, whole, where main ended without an exception
  pub done : exit ≡ Done → WritesWhole c bytes false tells out out' told told'
  -- or by one
  pub raised : exit ≡ Raised → WritesWhole c bytes true tells out out' told told'
  -- refused exactly where there is a cause, but for want of memory, and for that cause
  pub refused : (refusal : ScriptRefusal) → exit ≡ Refused refusal → IsFaulty bytes refusal
  pub causes : (refusal : ScriptRefusal) → IsFaulty bytes refusal → (exit ≡ Refused refusal) ⊎ (exit ≡ NoMemory)
  -- limited exactly where the run or the evaluation passes a limit, but for want of memory, and by one that it passes
  pub limited : (l : Limit) → exit ≡ Limited l → Limits c bytes l
  pub limits : (l : Limit) → Limits c bytes l → IsLimited exit ⊎ (exit ≡ NoMemory)
  -- a part of the output, for a fault of out
  pub unwritten : exit ≡ Unwritten → WritesPart c bytes tells out out' told told' × Rose out.faults out'.faults
  -- for reads alone
  pub not_unread : exit ≢ Unread
  -- nothing but a part of the output is ever written
  pub part : (out' ≡ out) ⊎ WritesPart c bytes tells out out' told told'
  -- what monitors were told: with an output, as it says
  pub told_at : ToldAt c bytes exit told told'

-- a command on the script of this name
pub record Course (c : Command) (name : List ℕ) (exit : Exit) (shelf_tells out_tells : Bool) (shelf shelf' : ShelfState) (out out' : SinkState) (told told' : Ledgers) : Type 0 where
  -- the script's bytes, where the read gave them
  pub given : Option (List ℕ)
  pub gave : IfSome given (WasRead shelf_tells shelf name)
  pub answers : IfSome given (λ bytes. Answers c bytes exit out_tells out out' told told')
  -- a read that failed, or want of memory
  pub not_given : given ≡ None → (exit ≡ Unread) ⊎ (exit ≡ NoMemory)
  pub nothing : given ≡ None → (out' ≡ out) × (told' ≡ told)
  -- unread only where the count rose in the read, and else it stays
  pub unread : exit ≡ Unread → Rose shelf.faults shelf'.faults
  pub kept : exit ≢ Unread → shelf'.faults ≡ shelf.faults
  -- no call but the one read
  pub calls : IsTrue shelf_tells → AddsCalls ((Read, name) ∷ []) shelf shelf'
  -- that read and no other, where it gave the bytes
  pub one_read : IfSome given (λ bytes. IsTrue shelf_tells → shelf'.calls ≡ shelf.calls ++ read_of name ∷ [])

-- an order is carried out: the status and the line are those of an exit: 0, 1, 3, 6, 7, 10 or 12
pub record Carries (m : Meaning) (status : ℕ) (shelf_tells out_tells err_tells : Bool) (shelf shelf' : ShelfState) (out out' err err' : SinkState) (told told' : Ledgers) : Type 0 where
  pub exit : Exit
  pub status_is : status ≡ status_of exit
  pub line : AddsUnlessFailed err_tells err err' (line_of m.1 exit)
  pub course : Course m.0 m.1 exit shelf_tells out_tells shelf shelf' out out' told told'

-- words that mean nothing
pub record NoReading (status : ℕ) (tells : Bool) (shelf shelf' : ShelfState) (out out' err err' : SinkState) (told told' : Ledgers) : Type 0 where
  pub refused : status ≡ 2
  pub shelf_kept : shelf' ≡ shelf
  pub out_kept : out' ≡ out
  pub told_kept : told' ≡ told
  pub line : AddsUnlessFailed tells err err' words_line
