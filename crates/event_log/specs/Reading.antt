-- How a line of a log is read from its front: each reader gives a value and what is left behind it.
use Rattle.std.specs.Prelude.{◌≡◌, ℕ, ◌^◌, ◌≤◌, Bool, true, false, not, ◌&&◌, if◌then◌else◌, List, [], ◌∷◌, length, take, drop, Option, Some, None, Result, Ok, Err, nat_eq, nat_lt, nat_le, codes}
use Rattle.std.specs.List.{prefix_len, list_all, slice_split}
use Rattle.std.specs.Char.{is_ascii_digit}
use Rattle.flow_base.specs.TextBytes.{IsTextByte}
use Rattle.flow_base.specs.declared.decision.Decision.{Decision}
use Rattle.flow_base.specs.declared.decision.Decision.TheVariants as decided
use Rattle.task_record.specs.declared.status.Status.{Status}
use Rattle.script_tree.specs.Lexing.{digits_value, begins_name, is_in_name, is_printable, max_name, escaped}
use Rattle.event_log.specs.declared.cursor.LineFault.{LineFault}
use Rattle.event_log.specs.declared.cursor.LineFault.TheVariants.{NoEntry, NoMemory}
use Rattle.event_log.specs.declared.cursor.TextPart.{TextPart}
use Rattle.event_log.specs.declared.cursor.TextPart.TheVariants.{End, Byte}
use Rattle.event_log.specs.declared.entry.Entry.{Entry}
use Rattle.event_log.specs.declared.entry.Entry.TheVariants as made
use Rattle.event_log.specs.declared.entry.BlockState.{BlockState}
use Rattle.event_log.specs.declared.words.Kind.{Kind}
use Rattle.event_log.specs.declared.words.Kind.TheVariants as kind
use Rattle.event_log.specs.declared.words.ScaleWord.{ScaleWord}
use Rattle.event_log.specs.declared.words.ScaleWord.TheVariants as scale
use Rattle.event_log.specs.LogWords as words

-- what was read and what is left behind it
abbrev pub Read : Type 0 → Type 0
Read A = Option (A × List ℕ)

abbrev pub and_then : {A B : Type 0} → Read A → (A → List ℕ → Read B) → Read B
and_then (Some r) next = next r.0 r.1
and_then None next = None

abbrev pub giving : {A B : Type 0} → (A → B) → Read A → Read B
giving f (Some r) = Some (f r.0, r.1)
giving f None = None

-- the answer is what was read, or the memory ran out
abbrev pub Gives : {A B : Type 0} → (A → B) → Result A LineFault → List ℕ → Read B → Type 0
Gives view (Ok a) rest read = read ≡ Some (view a, rest)
Gives view (Err NoEntry) rest read = read ≡ None
Gives view (Err NoMemory) rest read = Unit {0}

-- the answer is this value, or the memory ran out
abbrev pub Is : {A B : Type 0} → (A → B) → Result A LineFault → Option B → Type 0
Is view (Ok a) value = value ≡ Some (view a)
Is view (Err NoEntry) value = value ≡ None
Is view (Err NoMemory) value = Unit {0}

-- the bytes behind a front that is given
abbrev pub behind : List ℕ → List ℕ → Option (List ℕ)
behind [] bytes = Some bytes
behind (b ∷ bs) [] = None
behind (b ∷ bs) (c ∷ cs) = if nat_eq c b then behind bs cs else None

-- what skipping a front leaves
abbrev pub Skips : Result (Unit {0}) LineFault → List ℕ → Option (List ℕ) → Type 0
Skips (Ok u) rest found = found ≡ Some rest
Skips (Err NoEntry) rest found = found ≡ None
Skips (Err NoMemory) rest found = ⊥

abbrev pub past : {A : Type 0} → Option (List ℕ) → (List ℕ → Read A) → Read A
past (Some rest) next = next rest
past None next = None

-- what stands behind a front that is given
abbrev pub after : {A : Type 0} → List ℕ → (List ℕ → Read A) → List ℕ → Read A
after front next bytes = past (behind front bytes) next

-- one value behind the other
abbrev pub both : {A B : Type 0} → (List ℕ → Read A) → (List ℕ → Read B) → List ℕ → Read (A × B)
both first second bytes = and_then (first bytes) (λ a rest. giving (λ b. (a, b)) (second rest))

abbrev pub is_empty : List ℕ → Bool
is_empty [] = true
is_empty (b ∷ bs) = false

-- ---- words

abbrev pub is_in_word : ℕ → Bool
is_in_word b = not (nat_eq b 32) && not (nat_eq b 10)

abbrev pub word : List ℕ → List ℕ
word bytes = take (prefix_len is_in_word bytes) bytes

abbrev pub behind_word : List ℕ → List ℕ
behind_word bytes = drop (prefix_len is_in_word bytes) bytes

abbrev pub field : List ℕ → Read (List ℕ)
field = after (32 ∷ []) (λ bytes. Some (word bytes, behind_word bytes))

abbrev pub with_rest : {A : Type 0} → Option A → List ℕ → Read A
with_rest (Some a) rest = Some (a, rest)
with_rest None rest = None

-- a blank and a word that has a value
abbrev pub field_of : {A : Type 0} → (List ℕ → Option A) → List ℕ → Read A
field_of value bytes = and_then (field bytes) (λ w rest. with_rest (value w) rest)

-- ---- numbers, paths and names

abbrev pub value_below : ℕ → List ℕ → Option ℕ
value_below limit run = if list_all is_ascii_digit run && nat_lt (digits_value run) limit then Some (digits_value run) else None

abbrev pub has_no_zero : List ℕ → Bool
has_no_zero [] = false
has_no_zero (d ∷ []) = true
has_no_zero (d ∷ e ∷ ds) = not (nat_eq d 48)

-- `0`, or digits that don't begin with it
abbrev pub long_of : List ℕ → Option ℕ
long_of w = if has_no_zero w then value_below (2 ^ 64) w else None

abbrev pub below : ℕ → Option ℕ → Option ℕ
below limit (Some n) = if nat_lt n limit then Some n else None
below limit None = None

abbrev pub number_of : List ℕ → Option ℕ
number_of w = below (2 ^ 32) (long_of w)

abbrev pub in_front : Option ℕ → Option (List ℕ) → Option (List ℕ)
in_front (Some n) (Some ns) = Some (n ∷ ns)
in_front (Some n) None = None
in_front None ns = None

-- numbers, if each of these is one
abbrev pub numbers_of : List (List ℕ) → Option (List ℕ)
numbers_of [] = Some []
numbers_of (w ∷ ws) = in_front (number_of w) (numbers_of ws)

abbrev pub is_dot : ℕ → Bool
is_dot b = nat_eq b 46

abbrev pub is_no_dot : ℕ → Bool
is_no_dot b = not (is_dot b)

abbrev pub path_of : List ℕ → Option (List ℕ)
path_of w = numbers_of (slice_split is_dot w)

abbrev pub is_run : List ℕ → Bool
is_run [] = false
is_run (b ∷ bs) = begins_name b && list_all is_in_name bs

abbrev pub is_name : List ℕ → Bool
is_name w = is_run w && (nat_le (length w) max_name && not (words.is_keyword w))

abbrev pub if_passes : (List ℕ → Bool) → List ℕ → Option (List ℕ)
if_passes test w = if test w then Some w else None

abbrev pub name_of : List ℕ → Option (List ℕ)
name_of = if_passes is_name

abbrev pub end_word_of : List ℕ → Option (List ℕ)
end_word_of = if_passes words.is_end_word

-- ---- texts

abbrev pub with_byte : Option ℕ → Read (List ℕ) → Read (List ℕ)
with_byte (Some b) read = giving (λ t. b ∷ t) read
with_byte None read = None

abbrev mutual
  -- a text up to its closing quote
  pub text_end : List ℕ → Read (List ℕ)
  text_end [] = None
  text_end (b ∷ bs) = if nat_eq b 34 then Some ([], bs) else (if nat_eq b 92 then text_escape bs else (if is_printable b then with_byte (Some b) (text_end bs) else None))

  pub text_escape : List ℕ → Read (List ℕ)
  text_escape [] = None
  text_escape (b ∷ bs) = with_byte (escaped b) (text_end bs)

-- what stands at the front of a text behind its quote

abbrev pub escape_part : Option ℕ → Option TextPart
escape_part (Some b) = Some (Byte b 2)
escape_part None = None

abbrev pub part_behind : List ℕ → Option TextPart
part_behind [] = None
part_behind (b ∷ bs) = escape_part (escaped b)

abbrev pub part : List ℕ → Option TextPart
part [] = None
part (b ∷ bs) = if nat_eq b 34 then Some End else (if nat_eq b 92 then part_behind bs else (if is_printable b then Some (Byte b 1) else None))

abbrev pub IsPartWithin : ℕ → TextPart → Type 0
IsPartWithin n End = 1 ≤ n
IsPartWithin n (Byte b taken) = (1 ≤ taken) × (taken ≤ n) × IsTextByte b

-- ---- fields

abbrev pub number : List ℕ → Read ℕ
number = field_of number_of

abbrev pub long : List ℕ → Read ℕ
long = field_of long_of

abbrev pub path : List ℕ → Read (List ℕ)
path = field_of path_of

abbrev pub name : List ℕ → Read (List ℕ)
name = field_of name_of

abbrev pub end_word : List ℕ → Read (List ℕ)
end_word = field_of end_word_of

abbrev pub status : List ℕ → Read Status
status = field_of words.status_of

abbrev pub block_state : List ℕ → Read BlockState
block_state = field_of words.block_state_of

abbrev pub text : List ℕ → Read (List ℕ)
text = after (32 ∷ 34 ∷ []) text_end

abbrev pub decided_by : ScaleWord → List ℕ → Read Decision
decided_by scale.Keep rest = Some (decided.Keep, rest)
decided_by scale.Out rest = giving decided.Out (number rest)
decided_by scale.In rest = giving decided.In (number rest)

abbrev pub decision : List ℕ → Read Decision
decision bytes = and_then (field_of words.scale_word_of bytes) decided_by

abbrev pub attempt : List ℕ → Read (List ℕ × ℕ)
attempt = both path (after (codes " try") number)

abbrev pub Managed : Type 0
Managed = (List ℕ × ℕ) × ℕ

abbrev pub managed : List ℕ → Read Managed
managed = both attempt (after (codes " manager") number)

abbrev pub register : List ℕ → Read (ℕ × (ℕ × ℕ))
register = both number (both (after (codes " block") number) (after (codes " slots") number))

-- what stands behind the first word of a line
abbrev pub fields : Kind → List ℕ → Read Entry
fields kind.Submit bytes = giving (λ a. made.Submit a.0 a.1) (both path name bytes)
fields kind.Join bytes = giving made.JoinRun (path bytes)
fields kind.Memo bytes = giving made.MemoHit (path bytes)
fields kind.Launch bytes = giving (λ a. made.Launch a.0 a.1) (attempt bytes)
fields kind.Dispatch bytes = giving (λ a. made.Dispatch a.0.0 a.0.1 a.1) (managed bytes)
fields kind.Start bytes = giving (λ a. made.Start a.0.0 a.0.1 a.1) (managed bytes)
fields kind.Ended bytes = giving (λ a. made.Ended a.0.0.0 a.0.0.1 a.0.1 a.1) (both managed end_word bytes)
fields kind.Held bytes = giving (λ a. made.Held a.0.0 a.0.1 a.1) (managed bytes)
fields kind.LostTry bytes = giving (λ a. made.LostTry a.0.0 a.0.1 a.1) (managed bytes)
fields kind.Stored bytes = giving made.Stored (path bytes)
fields kind.Settled bytes = giving (λ a. made.Settled a.0 a.1) (both path status bytes)
fields kind.Block bytes = giving (λ a. made.Block a.0 a.1) (both number block_state bytes)
fields kind.Register bytes = giving (λ a. made.Register a.0 a.1.0 a.1.1) (register bytes)
fields kind.Refused bytes = giving (λ a. made.Refused a.0 a.1) (both number text bytes)
fields kind.Tick bytes = giving made.Tick (long bytes)
fields kind.Beat bytes = giving made.Beat (number bytes)
fields kind.Silent bytes = giving made.Silent (number bytes)
fields kind.Lost bytes = giving made.Lost (number bytes)
fields kind.Drain bytes = giving made.Drain (number bytes)
fields kind.Drained bytes = giving made.Drained (number bytes)
fields kind.Hold bytes = giving made.Hold (number bytes)
fields kind.Scale bytes = giving made.Scale (decision bytes)
fields kind.Checkpoint bytes = giving made.Checkpoint (long bytes)
fields kind.End bytes = Some (made.End, bytes)

abbrev pub kind_at : List ℕ → Read Kind
kind_at bytes = with_rest (words.kind_of (word bytes)) (behind_word bytes)

abbrev pub ended : {A : Type 0} → A → List ℕ → Read A
ended a = after (10 ∷ []) (λ rest. Some (a, rest))

-- a whole line
abbrev pub entry : List ℕ → Read Entry
entry bytes = and_then (and_then (kind_at bytes) fields) ended
