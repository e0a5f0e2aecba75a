-- The rows of a table by their paths, and the calls that are due.
use Rattle.std.proofs.Common.{◌≡◌, ℕ, Bool, true, false, List, [], ◌∷◌, map, Option, Some, None, refl, ap, bytes_eq}
use Rattle.std.specs.Prelude.{option_map}
use Rattle.script_tree.specs.declared.tree.AppDef.{AppDef}
use Rattle.flow_meaning.specs.Inputs.{Path}
use Rattle.flow_meaning.specs.Sequential.{Tasks}
use Rattle.call_rules.specs.Calls.{found}
use Rattle.history_laws.specs.Reads.{Due}
use Rattle.history_laws.specs.Tables.{expected, task_in}

-- the row of a task is that of the task which is found
pub found-expected : (apps : List AppDef) (all ts : Tasks) (p : Path) → task_in (map (expected apps all) ts) p ≡ option_map (expected apps all) (found ts p)
found-expected apps all [] p = refl
found-expected apps all (s ∷ ts) p = by_test (bytes_eq s.path p) refl (found-expected apps all ts p)
  where
    by_test : (b : Bool) → bytes_eq s.path p ≡ b → task_in (map (expected apps all) ts) p ≡ option_map (expected apps all) (found ts p) → task_in (map (expected apps all) (s ∷ ts)) p ≡ option_map (expected apps all) (found (s ∷ ts) p)
    by_test true e further = rw e refl
    by_test false e further = rw e further

abbrev pub due_of : Path → ℕ → Due
due_of p n = Some (p, n)

pub due-path : (p q : Path) (n m : ℕ) → due_of p n ≡ due_of q m → p ≡ q
due-path p q n m e = ap path_or e
  where
    path_or : Due → Path
    path_or None = []
    path_or (Some d) = d.0

pub due-count : (p q : Path) (n m : ℕ) → due_of p n ≡ due_of q m → n ≡ m
due-count p q n m e = ap count_or e
  where
    count_or : Due → ℕ
    count_or None = 0
    count_or (Some d) = d.1
