-- The evaluation, once main has ended.
use Rattle.std.proofs.Common.{◌≡◌, length, arith, List, [], ◌∷◌, ◌++◌, map, Some, None, Result, Ok, Err, IsErrAnd, refl, sym, ◌∙◌, ap, subst}
use Rattle.std.specs.Iterator.{Yields}
use Rattle.std.specs.Vec.Iter.{into_iter_items, into_iter_steps}
use Rattle.std.specs.declared.vec.IntoIter.{IntoIter}
use Rattle.flow_base.specs.declared.value.Value.{Value}
use Rattle.flow_base.specs.declared.outcome.Outcome.{Outcome}
use Rattle.flow_base.specs.declared.outcome.TaskEnd.{TaskEnd}
use Rattle.flow_base.specs.declared.outcome.Ended.{Ended}
use Rattle.flow_base.specs.declared.outcome.Ended.TheVariants as ended
use Rattle.flow_base.specs.declared.outcome.Ending.{Ending}
use Rattle.flow_base.specs.declared.outcome.Evaluation.{Evaluation}
use Rattle.script_tree.specs.declared.tree.AppDef.{AppDef}
use Rattle.script_tree.specs.Grammar.{Tree}
use Rattle.flow_meaning.specs.Evaluations.{task_end, evaluation_in}
use Rattle.flow_meaning.specs.Inputs.{Path}
use Rattle.flow_meaning.specs.Operators.{Text}
use Rattle.flow_meaning.specs.Sequential.{Tasks, ending_of, seq}
use Rattle.call_rules.specs.Calls.{Losses}
use Rattle.stored_units.specs.Totals.{limit_met}
use Rattle.join_apps.specs.Bodies.{result_of}
use Rattle.script_eval.specs.declared.state.EvalTask.{EvalTask}
use Rattle.script_eval.specs.declared.state.EvalState.{EvalState}
use Rattle.script_eval.specs.declared.evaluation.EvalFault.{EvalFault}
use Rattle.script_eval.specs.declared.evaluation.EvalFault.TheVariants.{TaskLimit, StoreLimit, NoMemory}
use Rattle.script_eval.specs.Faults.{Meets}
use Rattle.script_eval.specs.Evaluating.{Evaluates}
use Rattle.script_eval.specs.Answering.{shown, HaveEnds, AreSettled, IsEvaluation, MainGives, main_performed, ending_from}
use Rattle.script_eval.proofs.Standing.{seq-is}

-- ---- the ends of tasks

shown_ends : (apps : List AppDef) (ts : Tasks) → map (shown apps) ts ≡ map (λ (e : TaskEnd). record { path = e.path; app = e.app; outcome = Some e.outcome }) (map (task_end apps) ts)
shown_ends apps [] = refl
shown_ends apps (t ∷ ts) = ap (λ (us : List EvalTask). shown apps t ∷ us) (shown_ends apps ts)

same_end : (x y : TaskEnd) (t u : EvalTask) → t ≡ record { path = x.path; app = x.app; outcome = Some x.outcome } → u ≡ record { path = y.path; app = y.app; outcome = Some y.outcome } → t ≡ u → x ≡ y
same_end x y t u is are same =
    let whole : ◌≡◌ {A = EvalTask} (record { path = x.path; app = x.app; outcome = Some x.outcome }) (record { path = y.path; app = y.app; outcome = Some y.outcome }) = sym is ∙ same ∙ are in
    let path = ap (λ (e : EvalTask). e.path) whole in
    let app = ap (λ (e : EvalTask). e.app) whole in
    let some : Some x.outcome ≡ Some y.outcome = ap (λ (e : EvalTask). e.outcome) whole in
    let outcome : x.outcome ≡ y.outcome = cc in
    ap (λ (p : Path). record { path = p; app = x.app; outcome = x.outcome }) path
    ∙ ap (λ (n : Text). record { path = y.path; app = n; outcome = x.outcome }) app
    ∙ ap (λ (o : Outcome). record { path = y.path; app = y.app; outcome = o }) outcome

head_same : (t u : EvalTask) (ts us : List EvalTask) → t ∷ ts ≡ u ∷ us → t ≡ u
head_same t u ts us h = cc

tail_same : (t u : EvalTask) (ts us : List EvalTask) → t ∷ ts ≡ u ∷ us → ts ≡ us
tail_same t u ts us h = cc

pub same-ends : (ts : List EvalTask) (xs ys : List TaskEnd) → HaveEnds ts xs → HaveEnds ts ys → xs ≡ ys
same-ends ts [] [] is are = refl
same-ends ts [] (y ∷ ys) is are = absurd (let bad = sym is ∙ are in cc)
same-ends ts (x ∷ xs) [] is are = absurd (let bad = sym is ∙ are in cc)
same-ends ts (x ∷ xs) (y ∷ ys) is are =
    let whole = sym is ∙ are in
    let first = same_end x y _ _ refl refl (head_same _ _ _ _ whole) in
    ap (λ (z : TaskEnd). z ∷ xs) first ∙ ap (λ (zs : List TaskEnd). y ∷ zs) (same-ends _ xs ys refl (tail_same _ _ _ _ whole))

-- what the iterator of a vector has given is a front of its items
pub taken_front : {X A : Type 0} (s : IntoIter X A) (xs : List X) (t : IntoIter X A) → Yields into_iter_steps s xs t → into_iter_items s ≡ xs ++ into_iter_items t
taken_front s [] t y = ap into_iter_items y
taken_front s (x ∷ xs) t y = y.1.0 ∙ ap (λ ys. x ∷ ys) (taken_front y.0 xs t y.2)

pub no-items : {X : Type 0} → (xs : List X) → length xs ≡ 0 → xs ≡ []
no-items [] none = refl
no-items (x ∷ xs) none = absurd (omega arith)

-- among settled tasks each has an outcome
pub none-unsettled : (front : List EvalTask) (t : EvalTask) (behind : List EvalTask) (ends : List TaskEnd) → HaveEnds (front ++ t ∷ behind) ends → t.outcome ≡ None → ⊥
none-unsettled [] t behind [] is none = absurd (cc)
none-unsettled [] t behind (e ∷ ends) is none = absurd (let same = ap (λ (u : EvalTask). u.outcome) (head_same _ _ _ _ is) in cc)
none-unsettled (s ∷ front) t behind [] is none = absurd (cc)
none-unsettled (s ∷ front) t behind (e ∷ ends) is none = none-unsettled front t behind ends (tail_same _ _ _ _ is) none

-- ---- the whole

pub met-fault : (tree : Tree) (losses : Losses) (fault : EvalFault) (r : Result Evaluation EvalFault) → IsErrAnd r (λ e. e ≡ fault) → Meets fault (limit_met (seq tree.0 tree.1 losses)) → Evaluates tree losses r
met-fault tree losses fault (Ok evaluation) err met = absurd err
met-fault tree losses fault (Err e) err met = by_fault e (subst (λ (f : EvalFault). Meets f (limit_met (seq tree.0 tree.1 losses))) (sym err) met)
  where
    by_fault : (f : EvalFault) → Meets f (limit_met (seq tree.0 tree.1 losses)) → Evaluates tree losses (Err f)
    by_fault TaskLimit h = h
    by_fault StoreLimit h = h
    by_fault NoMemory h = tt

ending_same : (e : Ended) → ending_from e ≡ ending_of (result_of e)
ending_same (ended.Value value files) = refl
ending_same (ended.Raised exception) = refl

module _ (tree : Tree) (losses : Losses) (now : EvalState) (e : Ended) (h : MainGives tree losses now (Ok e)) where
  abbrev its_tasks : Tasks
  its_tasks = (main_performed tree losses).1.made.tasks

  its_ends : HaveEnds now.tasks.items (map (task_end tree.0) its_tasks)
  its_ends = h.1 ∙ shown_ends tree.0 its_tasks

  pub are-settled : AreSettled now.tasks.items
  are-settled = record { ends = map (task_end tree.0) its_tasks; are = its_ends }

  pub evaluates : (evaluation : Evaluation) → IsEvaluation now e evaluation → Evaluates tree losses (Ok evaluation)
  evaluates evaluation is =
      let r = main_performed tree losses in
      let printed : evaluation.printed ≡ r.1.printed = is.printed ∙ h.2 in
      let tasks : evaluation.tasks ≡ map (task_end tree.0) its_tasks = same-ends now.tasks.items evaluation.tasks (map (task_end tree.0) its_tasks) is.tasks its_ends in
      let main : evaluation.main ≡ ending_of r.0 = is.main ∙ ending_same e ∙ ap ending_of h.3 in (
        h.0,
        ap (λ (p : List Value). record { printed = p; tasks = evaluation.tasks; main = evaluation.main }) printed
            ∙ ap (λ (ts : List TaskEnd). record { printed = r.1.printed; tasks = ts; main = evaluation.main }) tasks
            ∙ ap (λ (m : Ending). record { printed = r.1.printed; tasks = map (task_end tree.0) its_tasks; main = m }) main
            ∙ sym (ap (evaluation_in tree.0) (seq-is tree losses)),
      )
