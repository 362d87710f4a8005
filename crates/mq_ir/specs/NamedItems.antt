-- Items that go by names.
use Rattle.std.specs.Prelude.{◌≡◌, ℕ, List, [], ◌∷◌, Bool, Option, String, not}
use Rattle.std.specs.List.{filter, find, list_any}
use Rattle.std.specs.String.{string_bytes}
use Rattle.std.specs.declared.alloc.Global.{Global}
use Rattle.mq_ir.specs.Tables.{is_name}

module _ {A : Type 0} (name_of : A → List ℕ) where
  -- the item of this name, where there is one
  abbrev pub item_of : List A → List ℕ → Option A
  item_of items name = find (λ item. is_name (name_of item) name) items

  abbrev pub has_name : List A → List ℕ → Bool
  has_name items name = list_any (λ item. is_name (name_of item) name) items

  -- the items of other names
  abbrev pub others : List A → List ℕ → List A
  others items name = filter (λ item. not (is_name name (name_of item))) items

  -- each item is kept under its own name
  abbrev pub HaveTheirNames : List (String Global × A) → Type 0
  HaveTheirNames [] = Unit {0}
  HaveTheirNames (entry ∷ entries) = (string_bytes entry.0 ≡ name_of entry.1) × HaveTheirNames entries
