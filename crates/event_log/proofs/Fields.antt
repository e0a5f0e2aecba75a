-- What the fields of a line read, and the text of each.
use Rattle.std.specs.Prelude.{decimal, codes, ◌^◌}
use Rattle.std.proofs.Common.{◌≡◌, ℕ, ◌<◌, true, false, List, ◌∷◌, ◌++◌, Some, refl, ap, sym, subst, ◌∙◌, append_assoc}
use Rattle.flow_base.specs.declared.decision.Decision.{Decision}
use Rattle.flow_base.specs.declared.decision.Decision.TheVariants as decided
use Rattle.task_record.specs.States.{status_name}
use Rattle.text_writer.specs.Written.{path_text}
use Rattle.event_log.specs.declared.words.ScaleWord.{ScaleWord}
use Rattle.event_log.specs.declared.words.ScaleWord.TheVariants as scale
use Rattle.event_log.specs.LogWords as words
use Rattle.event_log.specs.LogText.{decision_text}
use Rattle.event_log.specs.Logs.{IsTaskPath, IsName, IsShort, AreShort, DecisionInRange}
use Rattle.event_log.specs.Reading as reading
use Rattle.event_log.proofs.Readers.{Reads, goes_on, and_then_some, giving_some, reads_after, reads_both, reads_field}
use Rattle.event_log.proofs.Numbers.{word_of_long, word_of_number}
use Rattle.event_log.proofs.Paths.{word_of_path}
use Rattle.event_log.proofs.Pieces.{word_of_name, word_of_end}
use Rattle.event_log.proofs.Tables.{scale_text, word_of_scale, word_of_status, word_of_block_state}

abbrev pub IsPath : List ℕ → Type 0
IsPath path = IsTaskPath path × AreShort path

abbrev pub Any : {A : Type 0} → A → Type 0
Any a = Unit {0}

-- a text behind a blank
abbrev pub blank : {A : Type 0} → (A → List ℕ) → A → List ℕ
blank text a = 32 ∷ text a

pub reads_number : Reads reading.number (blank decimal) IsShort
reads_number = reads_field reading.number_of decimal IsShort word_of_number

pub reads_long : Reads reading.long (blank decimal) (λ n. n < 2 ^ 64)
reads_long = reads_field reading.long_of decimal (λ n. n < 2 ^ 64) word_of_long

pub reads_path : Reads reading.path (blank path_text) IsPath
reads_path = reads_field reading.path_of path_text IsPath word_of_path

pub reads_name : Reads reading.name (blank (λ w. w)) IsName
reads_name = reads_field reading.name_of (λ w. w) IsName word_of_name

pub reads_end_word : Reads reading.end_word (blank (λ w. w)) (λ w. words.is_end_word w ≡ true)
reads_end_word = reads_field reading.end_word_of (λ w. w) (λ w. words.is_end_word w ≡ true) word_of_end

pub reads_status : Reads reading.status (blank status_name) Any
reads_status = reads_field words.status_of status_name Any word_of_status

pub reads_block_state : Reads reading.block_state (blank words.block_word) Any
reads_block_state = reads_field words.block_state_of words.block_word Any word_of_block_state

-- ---- several

abbrev pub attempt_field : List ℕ × ℕ → List ℕ
attempt_field a = blank path_text a.0 ++ (codes " try" ++ blank decimal a.1)

abbrev pub IsAttempt : List ℕ × ℕ → Type 0
IsAttempt a = IsPath a.0 × IsShort a.1

pub reads_attempt : Reads reading.attempt attempt_field IsAttempt
reads_attempt = reads_both reading.path (blank path_text) IsPath reads_path (reading.after (codes " try") reading.number) (λ n. codes " try" ++ blank decimal n) IsShort
    (reads_after (codes " try") reading.number (blank decimal) IsShort reads_number) (λ b rest. refl)

abbrev pub managed_field : reading.Managed → List ℕ
managed_field a = attempt_field a.0 ++ (codes " manager" ++ blank decimal a.1)

abbrev pub IsManaged : reading.Managed → Type 0
IsManaged a = IsAttempt a.0 × IsShort a.1

pub reads_managed : Reads reading.managed managed_field IsManaged
reads_managed = reads_both reading.attempt attempt_field IsAttempt reads_attempt (reading.after (codes " manager") reading.number) (λ n. codes " manager" ++ blank decimal n) IsShort
    (reads_after (codes " manager") reading.number (blank decimal) IsShort reads_number) (λ b rest. refl)

abbrev pub slots_field : ℕ × ℕ → List ℕ
slots_field a = (codes " block" ++ blank decimal a.0) ++ (codes " slots" ++ blank decimal a.1)

abbrev pub AreSlots : ℕ × ℕ → Type 0
AreSlots a = IsShort a.0 × IsShort a.1

reads_slots : Reads (reading.both (reading.after (codes " block") reading.number) (reading.after (codes " slots") reading.number)) slots_field AreSlots
reads_slots = reads_both (reading.after (codes " block") reading.number) (λ n. codes " block" ++ blank decimal n) IsShort
    (reads_after (codes " block") reading.number (blank decimal) IsShort reads_number)
    (reading.after (codes " slots") reading.number) (λ n. codes " slots" ++ blank decimal n) IsShort
    (reads_after (codes " slots") reading.number (blank decimal) IsShort reads_number) (λ b rest. refl)

abbrev pub register_field : ℕ × (ℕ × ℕ) → List ℕ
register_field a = blank decimal a.0 ++ slots_field a.1

abbrev pub IsRegister : ℕ × (ℕ × ℕ) → Type 0
IsRegister a = IsShort a.0 × AreSlots a.1

pub reads_register : Reads reading.register register_field IsRegister
reads_register = reads_both reading.number (blank decimal) IsShort reads_number
    (reading.both (reading.after (codes " block") reading.number) (reading.after (codes " slots") reading.number)) slots_field AreSlots reads_slots (λ b rest. refl)

-- ---- decisions

abbrev IsDecision : List ℕ → Decision → List ℕ → Type 0
IsDecision bytes d rest = DecisionInRange d × (bytes ≡ blank decision_text d ++ rest)

pub reads_scale : Reads (reading.field_of words.scale_word_of) (blank scale_text) Any
reads_scale = reads_field words.scale_word_of scale_text Any word_of_scale

-- a decision with a number, behind its word
counted_takes : (make : ℕ → Decision) (front : List ℕ) (bytes mid : List ℕ) (d : Decision) (rest : List ℕ)
    → ((n : ℕ) → IsShort n → DecisionInRange (make n)) → ((n : ℕ) → front ++ blank decimal n ≡ blank decision_text (make n))
    → bytes ≡ front ++ mid → reading.giving make (reading.number mid) ≡ Some (d, rest) → IsDecision bytes d rest
counted_takes make front bytes mid d rest fits is whole e =
    let p = giving_some make (reading.number mid) d rest e in
    let taken = reads_number.takes mid p.0 rest p.1 in
    let text : bytes ≡ blank decision_text (make p.0) ++ rest = whole ∙ ap (λ t. front ++ t) taken.1 ∙ sym (append_assoc front (blank decimal p.0) rest) ∙ ap (λ t. t ++ rest) (is p.0) in
    subst (λ c. IsDecision bytes c rest) p.2 (fits p.0 taken.0, text)

decided_takes : (w : ScaleWord) (bytes mid : List ℕ) (d : Decision) (rest : List ℕ) → bytes ≡ blank scale_text w ++ mid → reading.decided_by w mid ≡ Some (d, rest) → IsDecision bytes d rest
decided_takes scale.Keep bytes mid d rest whole e =
    let same : ◌≡◌ {A = Decision × List ℕ} (decided.Keep, mid) (d, rest) = cc in
    subst (λ p. IsDecision bytes p.0 p.1) same (tt, whole)
decided_takes scale.Out bytes mid d rest whole e = counted_takes decided.Out (blank scale_text scale.Out) bytes mid d rest (λ n small. small) (λ n. refl) whole e
decided_takes scale.In bytes mid d rest whole e = counted_takes decided.In (blank scale_text scale.In) bytes mid d rest (λ n small. small) (λ n. refl) whole e

decision_takes : (bytes : List ℕ) (d : Decision) (rest : List ℕ) → reading.decision bytes ≡ Some (d, rest) → IsDecision bytes d rest
decision_takes bytes d rest e =
    let p = and_then_some (reading.field_of words.scale_word_of bytes) reading.decided_by d rest e in
    decided_takes p.0 bytes p.1 d rest (reads_scale.takes bytes p.0 p.1 p.2).1 p.3

word_again : (w : ScaleWord) (mid : List ℕ) → goes_on mid ≡ false → reading.decision (blank scale_text w ++ mid) ≡ reading.decided_by w mid
word_again w mid ends = ap (λ o. reading.and_then o reading.decided_by) (reads_scale.again w mid tt ends)

decision_again : (d : Decision) (rest : List ℕ) → DecisionInRange d → goes_on rest ≡ false → reading.decision (blank decision_text d ++ rest) ≡ Some (d, rest)
decision_again decided.Keep rest fits ends = word_again scale.Keep rest ends
decision_again (decided.Out n) rest fits ends = word_again scale.Out (blank decimal n ++ rest) refl ∙ ap (reading.giving decided.Out) (reads_number.again n rest fits ends)
decision_again (decided.In n) rest fits ends = word_again scale.In (blank decimal n ++ rest) refl ∙ ap (reading.giving decided.In) (reads_number.again n rest fits ends)

pub reads_decision : Reads reading.decision (blank decision_text) DecisionInRange
reads_decision = record { takes = decision_takes; again = decision_again }
