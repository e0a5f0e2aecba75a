-- A task that gets its outcome.
use Rattle.std.proofs.Common.{◌≡◌, ℕ, List, ◌∷◌, ◌++◌, length, Some, ◌∙◌, ap}
use Rattle.std.specs.Prelude.{slice_index_or, slice_set}
use Rattle.std.proofs.Math.Seq.{set-append_seam, get_or-append_seam}
use Rattle.flow_base.specs.declared.outcome.Outcome.{Outcome}
use Rattle.script_eval.specs.declared.state.EvalTask.{EvalTask}

pub written : (items : List EvalTask) (place : ℕ) (read new : EvalTask) (outcome : Outcome) → read ≡ slice_index_or items place read → new ≡ record read { outcome = Some outcome }
    → (front : List EvalTask) (t : EvalTask) (behind : List EvalTask) → items ≡ front ++ t ∷ behind → place ≡ length front
    → slice_set items place new ≡ front ++ record { path = t.path; app = t.app; outcome = Some outcome } ∷ behind
written items place read new outcome reads is front t behind stands at =
    let there : read ≡ t =
    reads ∙ ap (λ (ts : List EvalTask). slice_index_or ts place read) stands ∙ ap (λ (k : ℕ). slice_index_or (front ++ t ∷ behind) k read) at ∙ get_or-append_seam front t behind read in
    let new_is : new ≡ record { path = t.path; app = t.app; outcome = Some outcome } = is ∙ ap (λ (e : EvalTask). record { path = e.path; app = e.app; outcome = Some outcome }) there in
    ap (λ (ts : List EvalTask). slice_set ts place new) stands
    ∙ ap (λ (k : ℕ). slice_set (front ++ t ∷ behind) k new) at
    ∙ set-append_seam front t behind new
    ∙ ap (λ (e : EvalTask). front ++ e ∷ behind) new_is
