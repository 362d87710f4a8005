-- Left sides that are symbolic: in them ORDER BY has a meaning.
use Rattle.std.specs.Prelude.{Bool, true, false}
use Rattle.std.specs.List.{list_any}
use Rattle.mq_ir.specs.declared.query.Left.{Left}
use Rattle.mq_ir.specs.declared.query.Left.TheVariants as left
use Rattle.mq_ir.specs.declared.query.LeftItem.{LeftItem}
use Rattle.mq_ir.specs.declared.query.LeftItem.TheVariants as item

-- one of its items is a test
abbrev pub is_symbolic_item : LeftItem → Bool
is_symbolic_item (item.Sym t) = true
is_symbolic_item _ = false

abbrev pub is_symbolic : Left → Bool
is_symbolic (left.Places items) = list_any is_symbolic_item items
is_symbolic (left.Tuples dims source) = false
