-- What is kept of the views of a session.
use Rattle.std.specs.Prelude.{◌≡◌, ℕ, zero, suc, Bool, List, [], ◌∷◌, Some, String, bytes_eq}
use Rattle.std.specs.String.{string_bytes}
use Rattle.std.specs.declared.alloc.Global.{Global}
use Rattle.mq_ir.specs.declared.catalog.View.{View}
use Rattle.mq_ir.specs.NamedItems.{item_of}
use Rattle.mq_ir.specs.Tables.{Tables}
use Rattle.mq_tables.specs.declared.touched.Touched.{Touched}
use Rattle.mq_delta_items.specs.Touching.{TableChanges}
use Rattle.mq_kept.specs.declared.standing.StandingView.{StandingView}
use Rattle.mq_compared.specs.Kept.{IsKeptOf}

-- a key is this name
abbrev pub goes_by : List ℕ → String Global → Bool
goes_by name key = bytes_eq name (string_bytes key)

module _ {K : Type 0} (Right : View → K → Type 0) where
  -- what is kept under a name is right for the view of that name, where there is one
  abbrev pub IsRightAt : List View → String Global × K → Type 0
  IsRightAt views entry = (v : View) → item_of (λ (view : View). view.name) views (string_bytes entry.0) ≡ Some v → Right v entry.1

  -- .. as is all that is kept
  abbrev pub AreRightAt : List View → List (String Global × K) → Type 0
  AreRightAt views [] = Unit {0}
  AreRightAt views (entry ∷ entries) = IsRightAt views entry × AreRightAt views entries

-- what is kept of a view stands over these tables
abbrev pub IsStandingOf : Tables → View → StandingView → Type 0
IsStandingOf tables view standing = IsKeptOf tables view.query standing

-- all that is kept does so for the view under whose name it is kept
abbrev pub AreStandingOf : Tables → List View → List (String Global × StandingView) → Type 0
AreStandingOf tables = AreRightAt (IsStandingOf tables)

-- what was kept stood so over the tables before a change of one of them
pub record StoodAll (touched : Touched) (name : List ℕ) (now : Tables) (views : List View)
    (entries : List (String Global × StandingView)) : Type 0 where
  pub before : Tables
  pub change : TableChanges touched name before now
  pub standing : AreStandingOf before views entries

-- the same of what is kept under one name
pub record StoodAt (touched : Touched) (name : List ℕ) (now : Tables) (views : List View)
    (entry : String Global × StandingView) : Type 0 where
  pub before : Tables
  pub change : TableChanges touched name before now
  pub standing : IsRightAt (IsStandingOf before) views entry

-- so many of these stand over the tables now, and the others over those before
abbrev pub AreHalfway : Tables → Tables → List View → ℕ → List (String Global × StandingView) → Type 0
AreHalfway before now views n [] = Unit {0}
AreHalfway before now views zero (entry ∷ entries) = AreStandingOf before views (entry ∷ entries)
AreHalfway before now views (suc n) (entry ∷ entries) = IsRightAt (IsStandingOf now) views entry × AreHalfway before now views n entries
