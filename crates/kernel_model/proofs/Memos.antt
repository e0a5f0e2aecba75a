-- How what is stored stays so where more is known.
use Rattle.std.proofs.Common.{◌≡◌, ℕ, ◌<◌, true, Option, Some, IsSome, is_some, length, sym, ◌∙◌, ap, subst, arith}
use Rattle.flow_base.specs.declared.outcome.Outcome.{Outcome}
use Rattle.script_tree.specs.Grammar.{Tree}
use Rattle.flow_meaning.specs.Inputs.{Path}
use Rattle.call_rules.specs.Calls.{Losses}
use Rattle.call_rules.specs.Groups.{AllKnown}
use Rattle.memo_table.specs.Keys.{KeyView}
use Rattle.memo_table.specs.Table.{MemoView, found, AreOnce}
use Rattle.history_laws.specs.Reads.{stores, lost}
use Rattle.history_laws.specs.Tables.{table, table_key}
use Rattle.kernel_model.specs.Known.{Known, settled_outcome, inputs_at, known, key_at, is_kept}
use Rattle.kernel_model.specs.Invariants.{FitsLosses, Tracks, IsValueOf, IsTaskKey, Memoises, IsConsistent, GrowsInto}
use Rattle.kernel_model.proofs.Places.{settled-within}
use Rattle.kernel_model.proofs.Growing.{grows-key, grows-inputs, fits-back}

-- the key of a task is still one
task_key_grows : (w v : Known) → Tracks w → Tracks v → GrowsInto w v → (key : KeyView) → IsTaskKey w key → IsTaskKey v key
task_key_grows w v tw tv grows key t = record {
  place = t.place;
  within = let lt = t.within in let le = grows.calls in omega arith;
  inputs = grows-inputs w v tw tv grows t.place t.within t.inputs;
  is = grows-key w v tw tv grows t.place t.within t.inputs ∙ t.is;
}

-- what was stored stays so, where nothing is stored and each task that settles is kept
pub memo-grows : (w v : Known) → Tracks w → Tracks v → GrowsInto w v → v.memo ≡ w.memo
    → ((keys : Path → Option KeyView) (key : KeyView) → stores keys key v.past ≡ stores keys key w.past)
    → ((losses : Losses) → FitsLosses losses v → FitsLosses losses w)
    → ((k : ℕ) (outcome : Outcome) → settled_outcome v k ≡ Some outcome → is_kept v.memo (key_at v k) outcome ≡ true)
    → Memoises w → Memoises v
memo-grows w v tw tv grows same stays back kept h = record {
  once = subst AreOnce (sym same) h.once;
  values = λ key saved is. subst (λ (tree : Tree). IsValueOf tree.0 key saved) (sym grows.tree) (h.values key saved (ap (λ (m : MemoView). found m key) (sym same) ∙ is));
  made = λ key is. task_key_grows w v tw tv grows key (h.made key (subst (λ (m : MemoView). IsSome (found m key)) same is));
  kept = kept;
  told = λ losses f key.
      ap (λ (tree : Tree). stores (table_key (table tree losses)) key v.past) grows.tree
      ∙ stays (table_key (table w.tree losses)) key
      ∙ h.told losses (back losses f) key
      ∙ ap (λ (m : MemoView). is_some (found m key)) (sym same);
}

-- the value of a task that was settled is still stored
pub kept-grows : (w v : Known) → Tracks w → Tracks v → GrowsInto w v → v.memo ≡ w.memo → (k : ℕ) (outcome : Outcome) → k < length w.calls → AllKnown (known w) (inputs_at w k) → is_kept w.memo (key_at w k) outcome ≡ true → is_kept v.memo (key_at v k) outcome ≡ true
kept-grows w v tw tv grows same k outcome within inputs h =
    ap (λ (m : MemoView). is_kept m (key_at v k) outcome) same
    ∙ ap (λ (key : Option KeyView). is_kept w.memo key outcome) (grows-key w v tw tv grows k within inputs)
    ∙ h

-- what was stored stays so, where nothing is stored or settled
pub memo-stays : (w v : Known) → IsConsistent w → Tracks v → GrowsInto w v → v.memo ≡ w.memo
    → ((keys : Path → Option KeyView) (key : KeyView) → stores keys key v.past ≡ stores keys key w.past)
    → ((k : ℕ) (outcome : Outcome) → settled_outcome v k ≡ Some outcome → settled_outcome w k ≡ Some outcome)
    → Memoises v
memo-stays w v h tv grows same stays settled =
    let tw = h.tracks in
    memo-grows w v tw tv grows same stays (fits-back w v tw tv grows (lost w.past) h.right.fits)
    (λ k outcome g. let was = settled k outcome g in kept-grows w v tw tv grows same k outcome (settled-within w tw.lives k outcome was) (h.right.fits k outcome was).inputs (h.memo.kept k outcome was))
    h.memo
