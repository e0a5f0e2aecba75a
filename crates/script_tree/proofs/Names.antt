-- A name that is none of the built-ins' has none.
use Rattle.std.proofs.Common.{◌≡◌, ℕ, List, None, false, bytes_eq, arith}
use Rattle.std.specs.Prelude.{codes}
use Rattle.std.proofs.lemmas.Grind.{common_steps}
use Rattle.std.proofs.lemmas.Slice.Eq.{bytes_eq-Decides}
use Rattle.script_tree.specs.BuiltIns.{built_in_named}

differs : (key name : List ℕ) → (name ≡ key → ⊥) → bytes_eq key name ≡ false
differs key name h = grind (arith, common_steps, bytes_eq-Decides)

pub unnamed : (name : List ℕ) → (name ≡ codes "len" → ⊥) → (name ≡ codes "text" → ⊥) → (name ≡ codes "number" → ⊥) → (name ≡ codes "slice" → ⊥) → (name ≡ codes "range" → ⊥) → (name ≡ codes "append" → ⊥) → (name ≡ codes "split" → ⊥) → (name ≡ codes "concat" → ⊥) → (name ≡ codes "file" → ⊥) → (name ≡ codes "name" → ⊥) → (name ≡ codes "content" → ⊥) → (name ≡ codes "output" → ⊥) → (name ≡ codes "result" → ⊥) → (name ≡ codes "exception" → ⊥) → built_in_named name ≡ None
unfolding built_in_named
unnamed name is_len is_text is_number is_slice is_range is_append is_split is_concat is_file is_name is_content is_output is_result is_exception =
    simp (differs (codes "len") name is_len, differs (codes "text") name is_text, differs (codes "number") name is_number, differs (codes "slice") name is_slice, differs (codes "range") name is_range, differs (codes "append") name is_append, differs (codes "split") name is_split, differs (codes "concat") name is_concat, differs (codes "file") name is_file, differs (codes "name") name is_name, differs (codes "content") name is_content, differs (codes "output") name is_output, differs (codes "result") name is_result, differs (codes "exception") name is_exception)
