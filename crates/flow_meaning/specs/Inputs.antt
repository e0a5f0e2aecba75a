-- What a call waits for.
use Rattle.std.specs.Prelude.{ℕ, Bool, true, false, not, ◌&&◌, List, [], ◌∷◌, bytes_eq, flat_map, filter}
use Rattle.std.specs.List.{list_any}
use Rattle.flow_base.specs.declared.value.Value.{Value, out-Value}
use Rattle.flow_base.specs.declared.value.Value.TheOpen.{Value-F}
use Rattle.flow_base.specs.Values.{is_plain}
use Rattle.flow_meaning.specs.Operators.{Layer}

-- the name of a task: the numbers of the calls that lead to it
abbrev pub Path : Type 0
Path = List ℕ

-- the first of each path
abbrev pub distinct : List Path → List Path
distinct [] = []
distinct (p ∷ ps) = p ∷ filter (λ q. not (bytes_eq p q)) (distinct ps)

-- the path of a future or an output
abbrev pub path_in : Layer → List Path
path_in (Value-F.Future path outputs) = path ∷ []
path_in (Value-F.Output path index) = path ∷ []
path_in _ = []

abbrev pub paths_in : Layer → List Path
paths_in (Value-F.List vs) = flat_map (λ v. path_in (out-Value v)) vs
paths_in v = path_in v

-- the paths of futures and outputs that stand directly in the arguments or directly in a list argument
unfoldable pub inputs : List Value → List Path
inputs arguments = distinct (flat_map (λ v. paths_in (out-Value v)) arguments)

abbrev pub is_list : Layer → Bool
is_list (Value-F.List vs) = true
is_list _ = false

abbrev pub deep_in : Layer → Bool
deep_in (Value-F.List vs) = list_any (λ v. is_list (out-Value v) && not (is_plain v)) vs
deep_in _ = false

-- one stands deeper
unfoldable pub are_deep : List Value → Bool
are_deep = list_any (λ v. deep_in (out-Value v))
