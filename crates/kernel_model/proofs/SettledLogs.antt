-- The settlements of a history are its entries that settle a task, with the outcomes that are known.
use Rattle.std.proofs.Common.{◌≡◌, List, [], ◌∷◌, ◌++◌, map, Option, Some, None, IsSome, refl, sym, ◌∙◌, ap, subst}
use Rattle.std.specs.Prelude.{reverse}
use Rattle.std.specs.List.{All, filter}
use Rattle.std.proofs.lemmas.List.{map-append, reverse-append}
use Rattle.std.proofs.lemmas.List.Elements.{filter-append, All-append, All-nil, All-push}
use Rattle.flow_base.specs.declared.outcome.Outcome.{Outcome}
use Rattle.task_record.specs.declared.status.Status.{Status}
use Rattle.event_log.specs.declared.entry.Entry.{Entry}
use Rattle.event_log.specs.declared.entry.Entry.TheVariants as entry
use Rattle.dependency_graph.specs.declared.monitor.Settlement.{Settlement}
use Rattle.flow_meaning.specs.Inputs.{Path}
use Rattle.flow_meaning.specs.Sequential.{Tasks, outcome_at}
use Rattle.history_laws.specs.Reads.{History, settled}
use Rattle.kernel_model.specs.Invariants.{Tracks}
use Rattle.kernel_model.specs.Known.{Known, known}
use Rattle.kernel_model.specs.Telling.{settlement_with, settlement_in, settlements_in, settlements, is_settling, settling}
use Rattle.kernel_model.proofs.Telling.{Kind, settles, others, kind, settled_here, settled_more, settled-known}

-- the settlement has the outcome that is known
abbrev HasOutcome : Tasks → Settlement → Type 0
HasOutcome ts s = outcome_at ts s.path ≡ Some s.outcome

module _ (ts : Tasks) where
  with_entry : (p : Path) (s : Status) (r : Option Outcome) → IsSome r → map settling (settlement_with p s r) ≡ entry.Settled p s ∷ []
  with_entry p s (Some outcome) h = refl
  with_entry p s None h = absurd (cc)

  with_outcome : (p : Path) (s : Status) (r : Option Outcome) → outcome_at ts p ≡ r → All (HasOutcome ts) (settlement_with p s r)
  with_outcome p s None is = All-nil (HasOutcome ts)
  with_outcome p s (Some outcome) is = All-push (HasOutcome ts) [] _ (All-nil (HasOutcome ts)) is

  -- by entry
  entry_one : (e : Entry) (b : History) → Kind e → ((p : Path) → IsSome (settled p (e ∷ b)) → IsSome (outcome_at ts p)) → filter is_settling (e ∷ []) ≡ map settling (settlement_in ts e)
  entry_one _ b (settles p s) known = sym (with_entry p s (outcome_at ts p) (known p (settled_here p s b)))
  entry_one _ b (others e none rest unsettling) known = unsettling ∙ ap (map settling) (sym (none ts))

  outcome_one : (e : Entry) → Kind e → All (HasOutcome ts) (settlement_in ts e)
  outcome_one _ (settles p s) = with_outcome p s (outcome_at ts p) refl
  outcome_one _ (others e none rest unsettling) = subst (All (HasOutcome ts)) (sym (none ts)) (All-nil (HasOutcome ts))

  entries : (b : History) → ((p : Path) → IsSome (settled p b) → IsSome (outcome_at ts p)) → filter is_settling (reverse b) ≡ map settling (settlements_in ts b)
  entries [] known = refl
  entries (e ∷ b) known =
      ap (filter is_settling) (reverse-append (e ∷ []) b)
      ∙ filter-append is_settling (reverse b) (e ∷ [])
      ∙ ap (λ (es : List Entry). es ++ filter is_settling (e ∷ [])) (entries b (λ p h. known p (settled_more e b (kind e) p h)))
      ∙ ap (λ (es : List Entry). map settling (settlements_in ts b) ++ es) (entry_one e b (kind e) known)
      ∙ sym (map-append settling (settlements_in ts b) (settlement_in ts e))

  outcomes : (b : History) → All (HasOutcome ts) (settlements_in ts b)
  outcomes [] = All-nil (HasOutcome ts)
  outcomes (e ∷ b) = All-append (HasOutcome ts) (settlements_in ts b) (settlement_in ts e) (outcomes b) (outcome_one e (kind e))

pub settling-log : (w : Known) → Tracks w → filter is_settling (reverse w.past) ≡ map settling (settlements w)
settling-log w tracks = entries (known w) w.past (settled-known w tracks)

pub settled-outcomes : (w : Known) → All (λ (s : Settlement). outcome_at (known w) s.path ≡ Some s.outcome) (settlements w)
settled-outcomes w = outcomes (known w) w.past
