-- What stays where more is known.
use Rattle.std.proofs.Common.{◌≡◌, ℕ, ◌<◌, List, length, Some, sym, ◌∙◌, ap, subst, arith}
use Rattle.flow_base.specs.declared.outcome.Outcome.{Outcome}
use Rattle.script_tree.specs.Grammar.{Tree}
use Rattle.flow_meaning.specs.Inputs.{Path, inputs}
use Rattle.flow_meaning.specs.Sequential.{outcome_at}
use Rattle.call_rules.specs.Calls.{Losses, Call, begin, awaits, calls_below, call_outcome}
use Rattle.history_laws.specs.Tables.{key_with}
use Rattle.kernel_model.specs.Known.{Known, call_at, path_at, settled_outcome, inputs_at, known, begin_at, key_at, apps_in}
use Rattle.kernel_model.specs.Invariants.{FitsAt, FitsLosses, Tracks, GrowsInto}
use Rattle.call_rules.proofs.Agreeing.{Agree, agree-known, known-agree, begin-agrees, awaits-agree, calls-agree, outcome-agrees}
use Rattle.kernel_model.proofs.Places.{known-at, known-only, settled-within}
use Rattle.call_rules.specs.Groups.{AllKnown}

-- what has settled stays settled, by any path
pub grows-known : (w v : Known) → Tracks w → Tracks v → GrowsInto w v → (p : Path) (outcome : Outcome) → outcome_at (known w) p ≡ Some outcome → outcome_at (known v) p ≡ Some outcome
grows-known w v tw tv grows p outcome h =
    let at = known-only w p outcome h in
    let k = at.place in
    let before : settled_outcome w k ≡ Some outcome = sym (known-at w tw k at.within) ∙ (ap (outcome_at (known w)) at.is ∙ h) in
    let same : path_at v k ≡ p = ap (λ (c : Call). c.path) (grows.call k at.within) ∙ at.is in
    let within : k < length v.calls = (let lt = at.within in let le = grows.calls in omega arith) in
    ap (outcome_at (known v)) (sym same) ∙ (known-at v tv k within ∙ grows.outcome k outcome before)

pub grows-agree : (w v : Known) → Tracks w → Tracks v → GrowsInto w v → (ps : List Path) → AllKnown (known w) ps → Agree (known w) (known v) ps
grows-agree w v tw tv grows ps h = known-agree (known w) (known v) ps (grows-known w v tw tv grows) h

pub grows-all : (w v : Known) → Tracks w → Tracks v → GrowsInto w v → (ps : List Path) → AllKnown (known w) ps → AllKnown (known v) ps
grows-all w v tw tv grows ps h = agree-known (known w) (known v) ps (grows-agree w v tw tv grows ps h) h

-- a call whose inputs are known begins as before
pub grows-begin : (w v : Known) → Tracks w → Tracks v → GrowsInto w v → (k : ℕ) → k < length w.calls → AllKnown (known w) (inputs_at w k) → begin_at v k ≡ begin_at w k
grows-begin w v tw tv grows k within h =
    ap (λ (c : Call). begin (apps_in v) (known v) c) (grows.call k within)
    ∙ ap (λ (tree : Tree). begin tree.0 (known v) (call_at w k)) grows.tree
    ∙ sym (begin-agrees (apps_in w) (known w) (known v) (call_at w k) (grows-agree w v tw tv grows (inputs_at w k) h))

-- so it has the same key
pub grows-key : (w v : Known) → Tracks w → Tracks v → GrowsInto w v → (k : ℕ) → k < length w.calls → AllKnown (known w) (inputs_at w k) → key_at v k ≡ key_at w k
grows-key w v tw tv grows k within h =
    ap (λ (c : Call). key_with c.names (begin_at v k)) (grows.call k within)
    ∙ ap (key_with (call_at w k).names) (grows-begin w v tw tv grows k within h)

pub grows-awaits : (w v : Known) → Tracks w → Tracks v → GrowsInto w v → (k : ℕ) → k < length w.calls → AllKnown (known w) (inputs_at w k) → awaits (apps_in v) (known v) (call_at v k) ≡ awaits (apps_in w) (known w) (call_at w k)
grows-awaits w v tw tv grows k within h =
    ap (λ (c : Call). awaits (apps_in v) (known v) c) (grows.call k within)
    ∙ ap (λ (tree : Tree). awaits tree.0 (known v) (call_at w k)) grows.tree
    ∙ sym (awaits-agree (apps_in w) (known w) (known v) (call_at w k) (grows-agree w v tw tv grows (inputs_at w k) h))

pub grows-calls : (w v : Known) → Tracks w → Tracks v → GrowsInto w v → (k : ℕ) → k < length w.calls → AllKnown (known w) (inputs_at w k) → calls_below (apps_in v) (known v) (call_at v k) ≡ calls_below (apps_in w) (known w) (call_at w k)
grows-calls w v tw tv grows k within h =
    ap (λ (c : Call). calls_below (apps_in v) (known v) c) (grows.call k within)
    ∙ ap (λ (tree : Tree). calls_below tree.0 (known v) (call_at w k)) grows.tree
    ∙ sym (calls-agree (apps_in w) (known w) (known v) (call_at w k) (grows-agree w v tw tv grows (inputs_at w k) h))

pub grows-outcome : (w v : Known) → Tracks w → Tracks v → GrowsInto w v → (losses : Losses) (k : ℕ) → k < length w.calls → AllKnown (known w) (inputs_at w k) → AllKnown (known w) (awaits (apps_in w) (known w) (call_at w k)) → call_outcome (apps_in v) losses (known v) (call_at v k) ≡ call_outcome (apps_in w) losses (known w) (call_at w k)
grows-outcome w v tw tv grows losses k within h waits =
    ap (λ (c : Call). call_outcome (apps_in v) losses (known v) c) (grows.call k within)
    ∙ ap (λ (tree : Tree). call_outcome tree.0 losses (known v) (call_at w k)) grows.tree
    ∙ sym (outcome-agrees (apps_in w) losses (known w) (known v) (call_at w k) (grows-agree w v tw tv grows (inputs_at w k) h) (grows-agree w v tw tv grows _ waits))

pub grows-inputs : (w v : Known) → Tracks w → Tracks v → GrowsInto w v → (k : ℕ) → k < length w.calls → AllKnown (known w) (inputs_at w k) → AllKnown (known v) (inputs_at v k)
grows-inputs w v tw tv grows k within h = subst (λ (c : Call). AllKnown (known v) (inputs c.arguments)) (sym (grows.call k within)) (grows-all w v tw tv grows (inputs_at w k) h)

-- a settled task fits losses as before
pub fits-on : (w v : Known) → Tracks w → Tracks v → GrowsInto w v → (losses : Losses) (k : ℕ) (outcome : Outcome) → k < length w.calls → FitsAt losses w k outcome → FitsAt losses v k outcome
fits-on w v tw tv grows losses k outcome within h = record {
  inputs = grows-inputs w v tw tv grows k within h.inputs;
  awaited = subst (AllKnown (known v)) (sym (grows-awaits w v tw tv grows k within h.inputs)) (grows-all w v tw tv grows _ h.awaited);
  by_rule = h.by_rule ∙ sym (grows-outcome w v tw tv grows losses k within h.inputs h.awaited);
}

-- losses that more settled tasks fit are fitted by the fewer ones too
pub fits-back : (w v : Known) → Tracks w → Tracks v → GrowsInto w v → (some : Losses) → FitsLosses some w → (losses : Losses) → FitsLosses losses v → FitsLosses losses w
fits-back w v tw tv grows some before losses fits k outcome h =
    let within = settled-within w tw.lives k outcome h in
    let was = before k outcome h in
    record { inputs = was.inputs; awaited = was.awaited; by_rule = (fits k outcome (grows.outcome k outcome h)).by_rule ∙ grows-outcome w v tw tv grows losses k within was.inputs was.awaited }
