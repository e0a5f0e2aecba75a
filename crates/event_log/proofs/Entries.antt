-- An entry that is read has a line, and its line is read again.
use Rattle.std.specs.Prelude.{codes, decimal}
use Rattle.std.proofs.Common.{◌≡◌, ℕ, true, false, List, [], ◌∷◌, ◌++◌, All, Some, refl, ap, sym, subst, ◌∙◌, append_assoc}
use Rattle.flow_base.specs.TextBytes.{IsTextByte}
use Rattle.task_record.specs.States.{status_name}
use Rattle.text_writer.specs.Written.{path_text, quoted}
use Rattle.event_log.specs.declared.entry.Entry.{Entry}
use Rattle.event_log.specs.declared.entry.Entry.TheVariants as entry
use Rattle.event_log.specs.declared.words.Kind.{Kind}
use Rattle.event_log.specs.declared.words.Kind.TheVariants as kind
use Rattle.event_log.specs.LogWords.{is_end_word, block_word, kind_of}
use Rattle.event_log.specs.LogText.{managed_text, entry_text, entry_line}
use Rattle.event_log.specs.Logs.{IsName, IsShort, HasLine, InRange}
use Rattle.event_log.specs.Reading as reading
use Rattle.event_log.proofs.Readers.{Reads, goes_on, past_some, behind_takes, and_then_some, giving_some, reads_both, reads_word}
use Rattle.event_log.proofs.Tables.{kind_word, word_of_kind}
use Rattle.event_log.proofs.Texts.{reads_text}
use Rattle.event_log.proofs.Fields.{IsPath, Any, blank, reads_number, reads_long, reads_path, reads_name, reads_end_word, reads_status, reads_block_state, reads_attempt, managed_field, IsManaged, reads_managed, reads_register, reads_decision}

-- ---- what stands behind the first word

-- behind this first word stood the fields of the entry, and then the rest
abbrev Took : List ℕ → List ℕ → Entry → List ℕ → Type 0
Took front bytes e rest = HasLine e × InRange e × (front ++ bytes ≡ entry_text e ++ rest)

module _ {A : Type 0} {reader : List ℕ → reading.Read A} {text : A → List ℕ} {Fits : A → Type 0} (r : Reads reader text Fits) (make : A → Entry) where
  made_takes : (front : List ℕ) → ((a : A) → Fits a → HasLine (make a) × InRange (make a)) → ((a : A) → entry_text (make a) ≡ front ++ text a)
      → (bytes : List ℕ) (e : Entry) (rest : List ℕ) → reading.giving make (reader bytes) ≡ Some (e, rest) → Took front bytes e rest
  made_takes front fits is bytes e rest h =
      let p = giving_some make (reader bytes) e rest h in
      let taken = r.takes bytes p.0 rest p.1 in
      let kept = fits p.0 taken.0 in
      let whole : front ++ bytes ≡ entry_text (make p.0) ++ rest = ap (λ t. front ++ t) taken.1 ∙ sym (append_assoc front (text p.0) rest) ∙ ap (λ t. t ++ rest) (sym (is p.0)) in
      subst (λ x. Took front bytes x rest) p.2 (kept.0, kept.1, whole)

-- the fields of the entry stand behind this first word, and are read again
record Again (k : Kind) (e : Entry) (rest : List ℕ) : Type 0 where
  body : List ℕ
  is : entry_text e ≡ kind_word k ++ body
  breaks : goes_on (body ++ rest) ≡ false
  again : reading.fields k (body ++ rest) ≡ Some (e, rest)

module _ (k : Kind) {A : Type 0} {reader : List ℕ → reading.Read A} {text : A → List ℕ} {Fits : A → Type 0} (r : Reads reader text Fits) (make : A → Entry) where
  made_again : (a : A) (rest : List ℕ) → entry_text (make a) ≡ kind_word k ++ text a → goes_on (text a ++ rest) ≡ false
      → reading.fields k (text a ++ rest) ≡ reading.giving make (reader (text a ++ rest)) → Fits a → goes_on rest ≡ false → Again k (make a) rest
  made_again a rest is breaks by_kind fits ends = record {
    body = text a;
    is = is;
    breaks = breaks;
    again = by_kind ∙ ap (reading.giving make) (r.again a rest fits ends);
  }

-- ---- two fields

reads_submit : Reads (reading.both reading.path reading.name) (λ a. blank path_text a.0 ++ blank (λ w. w) a.1) (λ a. IsPath a.0 × IsName a.1)
reads_submit = reads_both reading.path (blank path_text) IsPath reads_path reading.name (blank (λ w. w)) IsName reads_name (λ b rest. refl)

reads_ended : Reads (reading.both reading.managed reading.end_word) (λ a. managed_field a.0 ++ blank (λ w. w) a.1) (λ a. IsManaged a.0 × (is_end_word a.1 ≡ true))
reads_ended = reads_both reading.managed managed_field IsManaged reads_managed reading.end_word (blank (λ w. w)) (λ w. is_end_word w ≡ true) reads_end_word (λ b rest. refl)

reads_settled : Reads (reading.both reading.path reading.status) (λ a. blank path_text a.0 ++ blank status_name a.1) (λ a. IsPath a.0 × Any a.1)
reads_settled = reads_both reading.path (blank path_text) IsPath reads_path reading.status (blank status_name) Any reads_status (λ b rest. refl)

reads_block : Reads (reading.both reading.number reading.block_state) (λ a. blank decimal a.0 ++ blank block_word a.1) (λ a. IsShort a.0 × Any a.1)
reads_block = reads_both reading.number (blank decimal) IsShort reads_number reading.block_state (blank block_word) Any reads_block_state (λ b rest. refl)

reads_refused : Reads (reading.both reading.number reading.text) (λ a. blank decimal a.0 ++ blank quoted a.1) (λ a. IsShort a.0 × All IsTextByte a.1)
reads_refused = reads_both reading.number (blank decimal) IsShort reads_number reading.text (blank quoted) (All IsTextByte) reads_text (λ b rest. refl)

managed_is : (path : List ℕ) (attempt manager : ℕ) → 32 ∷ managed_text path attempt manager ≡ managed_field ((path, attempt), manager)
managed_is path attempt manager = simp append_assoc

ended_is : (path : List ℕ) (attempt manager : ℕ) (word : List ℕ) → entry_text (entry.Ended path attempt manager word) ≡ codes "ended" ++ (managed_field ((path, attempt), manager) ++ (32 ∷ word))
ended_is path attempt manager word =
    append_assoc (codes "ended " ++ managed_text path attempt manager) (codes " ") word
    ∙ ap (λ t. codes "ended" ++ (t ++ (32 ∷ word))) (managed_is path attempt manager)

-- ---- each kind of line

fields_take : (k : Kind) (bytes : List ℕ) (e : Entry) (rest : List ℕ) → reading.fields k bytes ≡ Some (e, rest) → Took (kind_word k) bytes e rest
fields_take kind.Submit bytes e rest h = made_takes reads_submit (λ a. entry.Submit a.0 a.1) (kind_word kind.Submit) (λ a v. ((v.0.0, v.1), v.0.1)) (λ a. simp append_assoc) bytes e rest h
fields_take kind.Join bytes e rest h = made_takes reads_path entry.JoinRun (kind_word kind.Join) (λ a v. v) (λ a. refl) bytes e rest h
fields_take kind.Memo bytes e rest h = made_takes reads_path entry.MemoHit (kind_word kind.Memo) (λ a v. v) (λ a. refl) bytes e rest h
fields_take kind.Launch bytes e rest h = made_takes reads_attempt (λ a. entry.Launch a.0 a.1) (kind_word kind.Launch) (λ a v. (v.0.0, (v.0.1, v.1))) (λ a. simp append_assoc) bytes e rest h
fields_take kind.Dispatch bytes e rest h = made_takes reads_managed (λ a. entry.Dispatch a.0.0 a.0.1 a.1) (kind_word kind.Dispatch) (λ a v. (v.0.0.0, (v.0.0.1, v.0.1, v.1))) (λ a. simp append_assoc) bytes e rest h
fields_take kind.Start bytes e rest h = made_takes reads_managed (λ a. entry.Start a.0.0 a.0.1 a.1) (kind_word kind.Start) (λ a v. (v.0.0.0, (v.0.0.1, v.0.1, v.1))) (λ a. simp append_assoc) bytes e rest h
fields_take kind.Ended bytes e rest h = made_takes reads_ended (λ a. entry.Ended a.0.0.0 a.0.0.1 a.0.1 a.1) (kind_word kind.Ended) (λ a v. ((v.0.0.0.0, v.1), (v.0.0.0.1, v.0.0.1, v.0.1))) (λ a. ended_is a.0.0.0 a.0.0.1 a.0.1 a.1) bytes e rest h
fields_take kind.Held bytes e rest h = made_takes reads_managed (λ a. entry.Held a.0.0 a.0.1 a.1) (kind_word kind.Held) (λ a v. (v.0.0.0, (v.0.0.1, v.0.1, v.1))) (λ a. simp append_assoc) bytes e rest h
fields_take kind.LostTry bytes e rest h = made_takes reads_managed (λ a. entry.LostTry a.0.0 a.0.1 a.1) (kind_word kind.LostTry) (λ a v. (v.0.0.0, (v.0.0.1, v.0.1, v.1))) (λ a. simp append_assoc) bytes e rest h
fields_take kind.Stored bytes e rest h = made_takes reads_path entry.Stored (kind_word kind.Stored) (λ a v. v) (λ a. refl) bytes e rest h
fields_take kind.Settled bytes e rest h = made_takes reads_settled (λ a. entry.Settled a.0 a.1) (kind_word kind.Settled) (λ a v. v.0) (λ a. simp append_assoc) bytes e rest h
fields_take kind.Block bytes e rest h = made_takes reads_block (λ a. entry.Block a.0 a.1) (kind_word kind.Block) (λ a v. (tt, v.0)) (λ a. simp append_assoc) bytes e rest h
fields_take kind.Register bytes e rest h = made_takes reads_register (λ a. entry.Register a.0 a.1.0 a.1.1) (kind_word kind.Register) (λ a v. (tt, (v.0, v.1.0, v.1.1))) (λ a. simp append_assoc) bytes e rest h
fields_take kind.Refused bytes e rest h = made_takes reads_refused (λ a. entry.Refused a.0 a.1) (kind_word kind.Refused) (λ a v. (tt, v)) (λ a. simp append_assoc) bytes e rest h
fields_take kind.Tick bytes e rest h = made_takes reads_long entry.Tick (kind_word kind.Tick) (λ a v. (tt, v)) (λ a. refl) bytes e rest h
fields_take kind.Beat bytes e rest h = made_takes reads_number entry.Beat (kind_word kind.Beat) (λ a v. (tt, v)) (λ a. refl) bytes e rest h
fields_take kind.Silent bytes e rest h = made_takes reads_number entry.Silent (kind_word kind.Silent) (λ a v. (tt, v)) (λ a. refl) bytes e rest h
fields_take kind.Lost bytes e rest h = made_takes reads_number entry.Lost (kind_word kind.Lost) (λ a v. (tt, v)) (λ a. refl) bytes e rest h
fields_take kind.Drain bytes e rest h = made_takes reads_number entry.Drain (kind_word kind.Drain) (λ a v. (tt, v)) (λ a. refl) bytes e rest h
fields_take kind.Drained bytes e rest h = made_takes reads_number entry.Drained (kind_word kind.Drained) (λ a v. (tt, v)) (λ a. refl) bytes e rest h
fields_take kind.Hold bytes e rest h = made_takes reads_number entry.Hold (kind_word kind.Hold) (λ a v. (tt, v)) (λ a. refl) bytes e rest h
fields_take kind.Scale bytes e rest h = made_takes reads_decision entry.Scale (kind_word kind.Scale) (λ a v. (tt, v)) (λ a. refl) bytes e rest h
fields_take kind.Checkpoint bytes e rest h = made_takes reads_long entry.Checkpoint (kind_word kind.Checkpoint) (λ a v. (tt, v)) (λ a. refl) bytes e rest h
fields_take kind.End bytes e rest h =
    let same : ◌≡◌ {A = Entry × List ℕ} (entry.End, bytes) (e, rest) = cc in
    subst (λ p. Took (kind_word kind.End) bytes p.0 p.1) same (tt, tt, refl)

fields_again : (e : Entry) (rest : List ℕ) → HasLine e → InRange e → goes_on rest ≡ false → (k : Kind) × Again k e rest
fields_again (entry.Submit path app) rest h s ends = (kind.Submit, made_again kind.Submit reads_submit (λ a. entry.Submit a.0 a.1) (path, app) rest (simp append_assoc) refl refl ((h.0, s), h.1) ends)
fields_again (entry.JoinRun path) rest h s ends = (kind.Join, made_again kind.Join reads_path entry.JoinRun path rest refl refl refl (h, s) ends)
fields_again (entry.MemoHit path) rest h s ends = (kind.Memo, made_again kind.Memo reads_path entry.MemoHit path rest refl refl refl (h, s) ends)
fields_again (entry.Launch path attempt) rest h s ends = (kind.Launch, made_again kind.Launch reads_attempt (λ a. entry.Launch a.0 a.1) (path, attempt) rest (simp append_assoc) refl refl ((h, s.0), s.1) ends)
fields_again (entry.Dispatch path attempt manager) rest h s ends = (kind.Dispatch, made_again kind.Dispatch reads_managed (λ a. entry.Dispatch a.0.0 a.0.1 a.1) ((path, attempt), manager) rest (simp append_assoc) refl refl (((h, s.0), s.1), s.2) ends)
fields_again (entry.Start path attempt manager) rest h s ends = (kind.Start, made_again kind.Start reads_managed (λ a. entry.Start a.0.0 a.0.1 a.1) ((path, attempt), manager) rest (simp append_assoc) refl refl (((h, s.0), s.1), s.2) ends)
fields_again (entry.Ended path attempt manager word) rest h s ends = (kind.Ended, made_again kind.Ended reads_ended (λ a. entry.Ended a.0.0.0 a.0.0.1 a.0.1 a.1) (((path, attempt), manager), word) rest (ended_is path attempt manager word) refl refl ((((h.0, s.0), s.1), s.2), h.1) ends)
fields_again (entry.Held path attempt manager) rest h s ends = (kind.Held, made_again kind.Held reads_managed (λ a. entry.Held a.0.0 a.0.1 a.1) ((path, attempt), manager) rest (simp append_assoc) refl refl (((h, s.0), s.1), s.2) ends)
fields_again (entry.LostTry path attempt manager) rest h s ends = (kind.LostTry, made_again kind.LostTry reads_managed (λ a. entry.LostTry a.0.0 a.0.1 a.1) ((path, attempt), manager) rest (simp append_assoc) refl refl (((h, s.0), s.1), s.2) ends)
fields_again (entry.Stored path) rest h s ends = (kind.Stored, made_again kind.Stored reads_path entry.Stored path rest refl refl refl (h, s) ends)
fields_again (entry.Settled path status) rest h s ends = (kind.Settled, made_again kind.Settled reads_settled (λ a. entry.Settled a.0 a.1) (path, status) rest (simp append_assoc) refl refl ((h, s), tt) ends)
fields_again (entry.Block block state) rest h s ends = (kind.Block, made_again kind.Block reads_block (λ a. entry.Block a.0 a.1) (block, state) rest (simp append_assoc) refl refl (s, tt) ends)
fields_again (entry.Register manager block slots) rest h s ends = (kind.Register, made_again kind.Register reads_register (λ a. entry.Register a.0 a.1.0 a.1.1) (manager, (block, slots)) rest (simp append_assoc) refl refl (s.0, (s.1, s.2)) ends)
fields_again (entry.Refused block version) rest h s ends = (kind.Refused, made_again kind.Refused reads_refused (λ a. entry.Refused a.0 a.1) (block, version) rest (simp append_assoc) refl refl s ends)
fields_again (entry.Tick at) rest h s ends = (kind.Tick, made_again kind.Tick reads_long entry.Tick at rest refl refl refl s ends)
fields_again (entry.Beat manager) rest h s ends = (kind.Beat, made_again kind.Beat reads_number entry.Beat manager rest refl refl refl s ends)
fields_again (entry.Silent manager) rest h s ends = (kind.Silent, made_again kind.Silent reads_number entry.Silent manager rest refl refl refl s ends)
fields_again (entry.Lost manager) rest h s ends = (kind.Lost, made_again kind.Lost reads_number entry.Lost manager rest refl refl refl s ends)
fields_again (entry.Drain manager) rest h s ends = (kind.Drain, made_again kind.Drain reads_number entry.Drain manager rest refl refl refl s ends)
fields_again (entry.Drained manager) rest h s ends = (kind.Drained, made_again kind.Drained reads_number entry.Drained manager rest refl refl refl s ends)
fields_again (entry.Hold manager) rest h s ends = (kind.Hold, made_again kind.Hold reads_number entry.Hold manager rest refl refl refl s ends)
fields_again (entry.Scale decision) rest h s ends = (kind.Scale, made_again kind.Scale reads_decision entry.Scale decision rest refl refl refl s ends)
fields_again (entry.Checkpoint count) rest h s ends = (kind.Checkpoint, made_again kind.Checkpoint reads_long entry.Checkpoint count rest refl refl refl s ends)
fields_again entry.End rest h s ends = (kind.End, record { body = []; is = refl; breaks = ends; again = refl })

-- ---- whole lines

reads_kind : Reads reading.kind_at kind_word Any
reads_kind = reads_word kind_of kind_word Any word_of_kind

ended_takes : (a : Entry) (bytes : List ℕ) (e : Entry) (rest : List ℕ) → reading.ended a bytes ≡ Some (e, rest) → (a ≡ e) × (bytes ≡ 10 ∷ rest)
ended_takes a bytes e rest h =
    let p = past_some (reading.behind (10 ∷ []) bytes) (λ mid. Some (a, mid)) e rest h in
    let same : ◌≡◌ {A = Entry × List ℕ} (a, p.0) (e, rest) = cc (p.2) in
    (ap (λ x. x.0) same, behind_takes (10 ∷ []) bytes p.0 p.1 ∙ ap (λ t. 10 ∷ t) (ap (λ x. x.1) same))

pub entry_takes : (bytes : List ℕ) (e : Entry) (rest : List ℕ) → reading.entry bytes ≡ Some (e, rest) → HasLine e × InRange e × (bytes ≡ entry_line e ++ rest)
entry_takes bytes e rest h =
    let p = and_then_some (reading.and_then (reading.kind_at bytes) reading.fields) reading.ended e rest h in
    let q = and_then_some (reading.kind_at bytes) reading.fields p.0 p.1 p.2 in
    let first = reads_kind.takes bytes q.0 q.1 q.2 in
    let took = fields_take q.0 q.1 p.0 p.1 q.3 in
    let end = ended_takes p.0 p.1 e rest p.3 in
    let whole : bytes ≡ entry_line p.0 ++ rest = first.1 ∙ took.2 ∙ ap (λ t. entry_text p.0 ++ t) end.1 ∙ sym (append_assoc (entry_text p.0) (10 ∷ []) rest) in
    subst (λ x. HasLine x × InRange x × (bytes ≡ entry_line x ++ rest)) end.0 (took.0, took.1, whole)

pub entry_again : (e : Entry) (rest : List ℕ) → HasLine e → InRange e → reading.entry (entry_line e ++ rest) ≡ Some (e, rest)
entry_again e rest h s =
    let f = fields_again e (10 ∷ rest) h s refl in
    let word = kind_word f.0 in
    let regrouped : entry_line e ++ rest ≡ word ++ (f.1.body ++ (10 ∷ rest)) = append_assoc (entry_text e) (10 ∷ []) rest ∙ ap (λ t. t ++ (10 ∷ rest)) f.1.is ∙ append_assoc word f.1.body (10 ∷ rest) in
    ap reading.entry regrouped
    ∙ ap (λ o. reading.and_then (reading.and_then o reading.fields) reading.ended) (reads_kind.again f.0 (f.1.body ++ (10 ∷ rest)) tt f.1.breaks)
    ∙ ap (λ o. reading.and_then o reading.ended) f.1.again
