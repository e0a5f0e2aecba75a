-- A shelf in memory.
use Rattle.std.specs.Prelude.{◌≡◌, ℕ, zero, suc, ◌+◌, ◌-◌, ◌^◌, min, Bool, true, false, List, [], ◌∷◌, ◌++◌, take, bytes_eq, nat_eq, if◌then◌else◌, option_map, None, Some, Ok, Err}
use Rattle.std.specs.List.{list_any}
use Rattle.std.specs.declared.option.Option.{Option}
use Rattle.std.specs.declared.result.Result.{Result}
use Rattle.flow_base.specs.declared.shelf.CallKind.{CallKind}
use Rattle.flow_base.specs.declared.shelf.ShelfFault.{ShelfFault}
use Rattle.flow_base.specs.declared.shelf.ShelfFault.TheVariants.{Failed, NoMemory}
use Rattle.flow_base.specs.Shelf.{Stand, Stands, ShelfCall, recorded}

-- a file with its name
pub record NamedFile : Type 0 where
  pub name : List ℕ
  pub held : List ℕ
  pub safe : ℕ

-- its files, the calls that were Ok or failed, the numbers of the calls that are to fail, how many
-- calls it had, and how often it failed
pub record MemShelfState : Type 0 where
  pub files : List NamedFile
  pub calls : List ShelfCall
  pub failing : List ℕ
  pub made : ℕ
  pub faults : ℕ

abbrev pub stand_of : NamedFile → Stand
stand_of file = record { held = file.held; safe = file.safe }

-- the first file of that name
abbrev pub stands_of : List NamedFile → Stands
stands_of [] name = None
stands_of (file ∷ files) name = if bytes_eq file.name name then Some (stand_of file) else stands_of files name

-- one call more, up to the greatest number
abbrev pub next_call : ℕ → ℕ
next_call made = min (made + 1) (2 ^ 64 - 1)

abbrev pub is_failing : List ℕ → ℕ → Bool
is_failing failing call = list_any (λ number. nat_eq number call) failing

-- what the next call reads, where memory suffices: None where it fails
abbrev pub readable : MemShelfState → List ℕ → ℕ → Option (List ℕ)
readable shelf name limit =
    if is_failing shelf.failing (next_call shelf.made) then None else option_map (λ stand. take limit (Stand.held stand)) (stands_of shelf.files name)

-- one fault more where a call failed, up to the greatest number
abbrev pub fault_more : ℕ → ShelfFault → ℕ
fault_more faults Failed = min (faults + 1) (2 ^ 64 - 1)
fault_more faults NoMemory = faults

abbrev pub faults_after : {T : Type 0} → ℕ → Result T ShelfFault → ℕ
faults_after faults (Ok t) = faults
faults_after faults (Err fault) = fault_more faults fault

-- a shelf after a call that leaves its files
abbrev pub left_by : {T : Type 0} → MemShelfState → CallKind → List ℕ → Result T ShelfFault → MemShelfState
left_by shelf kind name result = record {
  files = shelf.files;
  calls = shelf.calls ++ recorded kind name result;
  failing = shelf.failing;
  made = next_call shelf.made;
  faults = faults_after shelf.faults result;
}

-- the first file of that name is there
abbrev pub First : List NamedFile → List ℕ → ℕ → Type 0
First [] name place = ⊥
First (file ∷ files) name zero = bytes_eq file.name name ≡ true
First (file ∷ files) name (suc place) = (bytes_eq file.name name ≡ false) × First files name place
