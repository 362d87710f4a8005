-- Printed texts.
use Rattle.std.specs.Prelude.{ℕ, ◌==◌, if◌then◌else◌, List, [], ◌∷◌, ◌++◌, codes}
use Rattle.std.specs.List.{flat_map}
use Rattle.mq_values.specs.Bytes.{QUOTE}
use Rattle.mq_values.specs.Calendar.{text_of_day}
use Rattle.mq_values.specs.Number.{text_of_number}
use Rattle.mq_values.specs.declared.value.Value.{Value}
use Rattle.mq_values.specs.declared.value.Value.TheVariants as value

abbrev pub doubled : ℕ → List ℕ
doubled b = if b == QUOTE then b ∷ b ∷ [] else b ∷ []

-- a text between quotation marks, each inner one doubled
abbrev pub quoted : List ℕ → List ℕ
quoted bytes = QUOTE ∷ (flat_map doubled bytes ++ QUOTE ∷ [])

abbrev pub printed : Value → List ℕ
printed (value.Num n) = text_of_number n
printed (value.Text t) = quoted t
printed (value.Date d) = text_of_day d
printed value.Null = codes "NULL"
