-- Groups of values.
use Rattle.std.specs.Prelude.{◌≡◌, ◌≢◌, ℕ, ◌+◌, List, map, true}
use Rattle.mq_values.specs.declared.value.Value.{Value}
use Rattle.mq_values.specs.declared.value.Value.TheVariants as value
use Rattle.mq_ir.specs.Keys.{Tuple, is_among}
use Rattle.mq_tables.specs.declared.groups.TheConstants.{DATES, NULLS, NUMBERS, TEXTS}

-- null, the texts, the dates, and the numbers of each scale are groups: two values of one group that are equal are the same
abbrev pub group_of : Value → ℕ
group_of (value.Num n) = NUMBERS + n.scale
group_of (value.Text text) = TEXTS
group_of (value.Date day) = DATES
group_of value.Null = NULLS

abbrev pub groups_of : Tuple → List ℕ
groups_of key = map group_of key

-- the values of these keys are of the groups of the sample's, place by place
abbrev pub AreLike : Tuple → List Tuple → Type 0
AreLike sample keys = (key : Tuple) → is_among keys key ≡ true → groups_of key ≡ groups_of sample

-- the same for some sample
pub record AreAlike (keys : List Tuple) : Type 0 where
  pub sample : Tuple
  pub like : AreLike sample keys

-- another value of the same group
pub record IsOtherValue (v wanted : Value) : Type 0 where
  pub alike : group_of v ≡ group_of wanted
  pub other : v ≢ wanted
