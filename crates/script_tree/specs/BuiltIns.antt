-- The built-ins by name, and how many arguments each takes.
use Rattle.std.specs.Prelude.{ℕ, List, [], ◌∷◌, Option, Some, None, if◌then◌else◌, bytes_eq, codes}
use Rattle.script_tree.specs.declared.tree.BuiltIn.{BuiltIn}
use Rattle.script_tree.specs.declared.tree.BuiltIn.TheVariants.{Len, Text, Number, Slice, Range, Append, Split, Concat, File, Name, Content, Output, Result, Exception}

abbrev pub built_ins : List (List ℕ × BuiltIn)
built_ins =
    (codes "len", Len) ∷ (codes "text", Text) ∷ (codes "number", Number) ∷ (codes "slice", Slice) ∷ (codes "range", Range) ∷
    (codes "append", Append) ∷ (codes "split", Split) ∷ (codes "concat", Concat) ∷ (codes "file", File) ∷ (codes "name", Name) ∷
    (codes "content", Content) ∷ (codes "output", Output) ∷ (codes "result", Result) ∷ (codes "exception", Exception) ∷ []

abbrev pub lookup : {A : Type 0} → List (List ℕ × A) → List ℕ → Option A
lookup [] name = None
lookup (e ∷ es) name = if bytes_eq e.0 name then Some e.1 else lookup es name

unfoldable pub built_in_named : List ℕ → Option BuiltIn
built_in_named = lookup built_ins

abbrev pub arity : BuiltIn → ℕ
arity Len = 1
arity Text = 1
arity Number = 1
arity Slice = 3
arity Range = 2
arity Append = 2
arity Split = 2
arity Concat = 2
arity File = 2
arity Name = 1
arity Content = 1
arity Output = 2
arity Result = 1
arity Exception = 1
