-- An attempt that is fetched, evaluated and delivered.
use Rattle.std.proofs.Common.{◌≡◌, ℕ, List, length, Option, Some, refl, sym, ◌∙◌, ap, subst, arith, length-set}
use Rattle.std.specs.Prelude.{slice_get}
use Rattle.flow_base.specs.declared.value.Value.{Value}
use Rattle.flow_base.specs.declared.outcome.Outcome.{Outcome}
use Rattle.script_tree.specs.declared.tree.AppDef.{AppDef}
use Rattle.script_tree.specs.Grammar.{Tree}
use Rattle.task_record.specs.declared.status.Status.TheVariants as status
use Rattle.event_log.specs.declared.entry.Entry.TheVariants as entry
use Rattle.flow_meaning.specs.Evaluations.{no_losses}
use Rattle.flow_meaning.specs.Sequential.{Tasks, apply, resolved, outcome_of}
use Rattle.call_rules.specs.Calls.{Call, Attempts, begin, call_outcome, outcome_with}
use Rattle.call_rules.proofs.Agreeing.{begin-attempts, runs-on}
use Rattle.kernel_model.specs.declared.answers.Delivered.{Delivered}
use Rattle.kernel_model.specs.declared.answers.Delivered.TheVariants.{Taken, Stale}
use Rattle.kernel_model.specs.Jobs.{JobView, DoneView}
use Rattle.kernel_model.specs.Known.{Known, Life, path_at, call_at, life_at, status_at, known, apps_in}
use Rattle.kernel_model.specs.Invariants.{Inv, IsAttempted, HasRun}
use Rattle.kernel_model.specs.Acts.{started, finished}
use Rattle.kernel_model.specs.Turns.{body_end, job_of, Fetches, FetchTurn, IsEndOf, IsRunning, DeliverTurn}
use Rattle.kernel_model.proofs.Places.{life-same, known-put, status-within}
use Rattle.parsl_engine.specs.Rounds.{AttemptsTask}

-- the job is not changed by the start
started_job : (w : Known) (k : ℕ) → length w.lives ≡ length w.calls → status_at w k ≡ status.Launched → IsRunning (started w k) (job_of w k) k
started_job w k same is =
    let within = status-within w same k (λ h. absurd (cc)) in
    let life : life_at (started w k) k ≡ record (life_at w k) { status = status.Running } = life-same w k _ (entry.Start (path_at w k) (life_at w k).attempts 1) (omega (arith, within, same)) in
    let tasks : known (started w k) ≡ known w = known-put w k (record (life_at w k) { status = status.Running }) (entry.Start (path_at w k) (life_at w k).attempts 1) (rw is refl) in
    record {
      running = ap (λ (l : Life). l.status) life;
      is = sym (ap (λ (l : Life). job_with (known (started w k)) l.attempts) life ∙ ap (λ (ts : Tasks). job_with ts (life_at w k).attempts) tasks);
    }
  where
    job_with : Tasks → ℕ → JobView
    job_with ts attempts = record { path = path_at w k; attempt = attempts; manager = 1; app = (call_at w k).app; arguments = resolved ts (call_at w k).arguments; names = (call_at w k).names }

-- the body of a call that is launched ends as the call does
body_ends : (apps : List AppDef) (ts : Tasks) (c : Call) (app : AppDef) (values : List Value) → begin apps ts c ≡ Attempts app values → outcome_of (body_end (slice_get apps c.app) (resolved ts c.arguments) c.names) ≡ call_outcome apps no_losses ts c
body_ends apps ts c app values is =
    let begun = begin-attempts apps ts c app values is in
    let runs = runs-on ts c.arguments values begun.0 in
    ap (λ (a : Option AppDef). outcome_of (body_end a (resolved ts c.arguments) c.names)) begun.1
    ∙ ap (λ (vs : List Value). outcome_of (apply app vs c.names)) (sym runs.are)
    ∙ sym (ap (outcome_with apps no_losses ts c) is)

job_end : (w : Known) (k : ℕ) (done : DoneView) → IsAttempted w k → done.job ≡ job_of w k → IsEndOf (apps_in w) done → outcome_of done.ended ≡ call_outcome (apps_in w) no_losses (known w) (call_at w k)
job_end w k done attempted job end =
    ap outcome_of (end ∙ ap (λ (j : JobView). body_end (slice_get (apps_in w) j.app) j.arguments j.names) job)
    ∙ body_ends (apps_in w) (known w) (call_at w k) attempted.app attempted.values attempted.begins

by_answer : (w : Known) (k : ℕ) (done : DoneView) (answer : Delivered) (v : Known) → Inv w → status_at w k ≡ status.Launched → done.job ≡ job_of w k → IsEndOf (apps_in w) done → DeliverTurn (started w k) done answer v → AttemptsTask w v
by_answer w k done Stale v inv is job end turn = absurd (turn.0 k (subst (λ (j : JobView). IsRunning (started w k) j k) (sym job) (started_job w k inv.holds.tracks.lives is)))
by_answer w k done Taken v inv is job end turn =
    let same = inv.holds.tracks.lives in
    let within = status-within w same k (λ h. absurd (cc)) in
    let there = status-within (started w k) (length-set w.lives k _ ∙ same) turn.task (λ h. absurd (let runs = turn.running.running in cc)) in
    let paths : path_at w turn.task ≡ path_at w k = ap (λ (j : JobView). j.path) (sym turn.running.is ∙ job) in
    let number : turn.task ≡ k = inv.holds.tracks.distinct turn.task k there within paths in
    let attempted = inv.holds.runs.attempted k (subst HasRun (sym is) tt) in
    record {
      task = k;
      waiting = is;
      after = turn.after ∙ ap (λ (j : ℕ). finished (started w k) j (outcome_of done.ended)) number ∙ ap (λ (o : Outcome). finished (started w k) k o) (job_end w k done attempted job end);
    }

-- a running attempt takes the end of its job
pub attempted : (w u v : Known) (found : Option JobView) (job : JobView) (tree : Tree) (done : DoneView) (answer : Delivered) → found ≡ Some job → FetchTurn w found u → Inv w → tree ≡ u.tree → done.job ≡ job → IsEndOf tree.0 done → DeliverTurn u done answer v → AttemptsTask w v
attempted w u v found job tree done answer has fetch inv is of end turn =
    let f : Fetches w job u = subst (λ (o : Option JobView). FetchTurn w o u) has fetch in
    let here : tree ≡ w.tree = is ∙ ap (λ (s : Known). s.tree) f.after in
    by_answer w f.task done answer v inv f.waiting (of ∙ f.is) (subst (λ (t : Tree). IsEndOf t.0 done) here end) (subst (λ (s : Known). DeliverTurn s done answer v) f.after turn)
