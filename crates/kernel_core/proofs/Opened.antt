-- The state of a run before any turn.
use Rattle.std.proofs.Common.{◌≡◌, ℕ, ◌<◌, ◌^◌, false, List, [], None, length, refl, sym, subst, arith}
use Rattle.script_tree.specs.Grammar.{Tree, PlacedTree, IsSpellable}
use Rattle.script_tree.specs.Rules.{IsWellFormed}
use Rattle.app_texts.proofs.Differing.{texts_differ}
use Rattle.event_log.specs.declared.entry.Entry.{Entry}
use Rattle.flow_meaning.specs.Inputs.{Path}
use Rattle.dependency_graph.specs.declared.monitor.Settlement.{Settlement}
use Rattle.body_requests.proofs.Told.{act_told, apply_plain}
use Rattle.memo_table.specs.Table.{MemoView}
use Rattle.kernel_model.specs.Acts.{started_with}
use Rattle.kernel_model.specs.Invariants.{TextsDiffer}
use Rattle.kernel_model.proofs.Counting.{stored-started_with}
use Rattle.kernel_model.proofs.Facts.{told-by-laws}
use Rattle.kernel_model.proofs.KeepingMain.{keep-start}
use Rattle.kernel_model.proofs.Passing.{passed-none}
use Rattle.kernel_core.specs.declared.task.Task.{Task}
use Rattle.kernel_core.specs.declared.run_state.MainStep.{MainStep}
use Rattle.kernel_core.specs.Views.{IsSound, IsIndexed, known_with}

started-sound : (tree : Tree) (told : List (List Settlement)) → TextsDiffer tree → length tree.0 < 2 ^ 32 → IsSound (started_with tree told) [] [] 0 0
started-sound tree told differ few =
    let units = stored-started_with tree told in
    record {
      fact = record {
        inv = keep-start tree told (told-by-laws act_told apply_plain tree) differ;
        few_apps = few;
        within = (passed-none (started_with tree told)).1 (omega arith, omega (arith, units));
      };
      over = tt;
      running = refl;
      units_are = sym units;
    }

-- its apps are told by their texts
pub differ-by : (tree : Tree) (seen : PlacedTree) → seen.tree ≡ tree → IsSpellable seen.tree → IsWellFormed tree → TextsDiffer tree
differ-by tree seen same spellable sound a b has_a has_b texts = texts_differ tree (subst IsSpellable same spellable) sound has_a.number has_b.number a b has_a.there has_b.there texts

pub begins-sound : (tree : Tree) (told : List (List Settlement)) (tasks : List Task) (steps : List MainStep) (memo : MemoView) (log : List Entry) → TextsDiffer tree → length tree.0 < 2 ^ 32 → tasks ≡ [] → steps ≡ [] → memo ≡ [] → log ≡ []
    → IsSound (known_with tree tasks steps false None memo log None told) tasks steps 0 0
begins-sound tree told tasks steps memo log differ few no_tasks no_steps no_memo no_log = rw (no_tasks, no_steps, no_memo, no_log) (started-sound tree told differ few)

pub begins-indexed : (tree : Tree) (told : List (List Settlement)) (tasks : List Task) (steps : List MainStep) (memo : MemoView) (log : List Entry) (places : List Path) → tasks ≡ [] → log ≡ [] → places ≡ []
    → IsIndexed (known_with tree tasks steps false None memo log None told) places 0
begins-indexed tree told tasks steps memo log places no_tasks no_log no_places = rw (no_tasks, no_log, no_places) (record { placed = refl; mains_are = refl; few = omega arith })
