-- Tuples of values.
use Rattle.std.specs.Prelude.{List, []}
use Rattle.mq_values.specs.declared.value.Value.{Value}
use Rattle.mq_values.specs.declared.key.Behind.{Behind}
use Rattle.mq_values.specs.declared.key.Behind.TheVariants as behind

-- the values behind the pointer
abbrev pub items_behind : Behind → List Value
items_behind behind.Nothing = []
items_behind (behind.One a) = a.value
items_behind (behind.Two a) = a.value
items_behind (behind.Three a) = a.value
items_behind (behind.Many a) = a.value.items
