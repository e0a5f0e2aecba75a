-- What is stored by keys.
use Rattle.std.specs.Prelude.{◌≡◌, List, [], ◌∷◌, ◌++◌, if◌then◌else◌, Option, None, is_some}
use Rattle.std.specs.Map.{lookup}
use Rattle.memo_table.specs.Keys.{KeyView, same_key}
use Rattle.memo_table.specs.declared.saved.Saved.{Saved}

-- in the order of storing
abbrev pub MemoView : Type 0
MemoView = List (KeyView × Saved)

-- what was stored of this key
abbrev pub found : MemoView → KeyView → Option Saved
found memo key = lookup (same_key key) memo

-- a key that is there keeps what it has
abbrev pub with_saved : MemoView → KeyView → Saved → MemoView
with_saved memo key saved = if is_some (found memo key) then memo else memo ++ (key, saved) ∷ []

-- each key stands once
abbrev pub AreOnce : MemoView → Type 0
AreOnce [] = Unit {0}
AreOnce (e ∷ es) = (found es e.0 ≡ None) × AreOnce es
