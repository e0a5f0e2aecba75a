-- What a shelf holds, and what its calls do to it.
use Rattle.std.specs.Prelude.{◌≡◌, ℕ, ◌≤◌, Bool, true, false, IsTrue, List, [], ◌∷◌, ◌++◌, length, take, bytes_eq, if◌then◌else◌, IfOk, option_map, Some, Ok, Err, Vec}
use Rattle.std.specs.declared.option.Option.{Option}
use Rattle.std.specs.declared.result.Result.{Result}
use Rattle.std.specs.declared.alloc.Global.{Global}
use Rattle.flow_base.specs.declared.shelf.CallKind.{CallKind}
use Rattle.flow_base.specs.declared.shelf.CallKind.TheVariants.{Read}
use Rattle.flow_base.specs.declared.shelf.ShelfFault.{ShelfFault}
use Rattle.flow_base.specs.declared.shelf.ShelfFault.TheVariants.{Failed, NoMemory}
use Rattle.flow_base.specs.Causes.{Rose}

-- what stands under a name: the bytes that are held, and how many of them are safe
pub record Stand : Type 0 where
  pub held : List ℕ
  pub safe : ℕ

-- a call that was Ok or failed
pub record ShelfCall : Type 0 where
  pub kind : CallKind
  pub name : List ℕ
  pub failed : Bool

-- None where the name isn't there
abbrev pub Stands : Type 0
Stands = List ℕ → Option Stand

pub record ShelfState : Type 0 where
  pub stands : Stands
  pub calls : List ShelfCall
  pub faults : ℕ

-- a name is given this
abbrev pub put : Stands → List ℕ → Stand → Stands
put stands name stand n = if bytes_eq name n then Some stand else stands n

-- the same under each name
abbrev pub Same : Stands → Stands → Type 0
Same old new = (n : List ℕ) → new n ≡ old n

-- the failed call in the list: none for want of memory
abbrev pub noted : CallKind → List ℕ → ShelfFault → List ShelfCall
noted kind name Failed = record { kind = kind; name = name; failed = true } ∷ []
noted kind name NoMemory = []

abbrev pub recorded : {T : Type 0} → CallKind → List ℕ → Result T ShelfFault → List ShelfCall
recorded kind name (Ok t) = record { kind = kind; name = name; failed = false } ∷ []
recorded kind name (Err fault) = noted kind name fault

-- the count rises at Failed
abbrev pub CountsFault : ℕ → ℕ → ShelfFault → Type 0
CountsFault before now Failed = (before ≤ now) × Rose before now
CountsFault before now NoMemory = now ≡ before

-- the count moves at Failed alone
abbrev pub Counted : {T : Type 0} → ℕ → ℕ → Result T ShelfFault → Type 0
Counted before now (Ok t) = now ≡ before
Counted before now (Err fault) = CountsFault before now fault

-- the first bytes of what is held, and nothing else changes
pub record Reads (tells : Bool) (name : List ℕ) (limit : ℕ) (old : ShelfState) (result : Result (Vec ℕ Global) ShelfFault) (new : ShelfState) : Type 0 where
  pub bytes : IsTrue tells → IfOk result (λ bytes. option_map (λ s. take limit (Stand.held s)) (old.stands name) ≡ Some bytes.items)
  pub short : IfOk result (λ bytes. length bytes.items ≤ limit)
  pub stands : IsTrue tells → Same old.stands new.stands
  pub calls : IsTrue tells → new.calls ≡ old.calls ++ recorded Read name result
  pub count : Counted old.faults new.faults result

-- what a stop at this moment may leave of a name
pub record MayLeave (stand : Stand) (left : List ℕ) : Type 0 where
  pub shown : left ≡ take (length left) stand.held
  pub enough : stand.safe ≤ length left
