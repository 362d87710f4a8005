-- The block of a session: what is kept of it, and the block of the definitions that it stands for.
use Rattle.std.specs.Prelude.{ℕ, ◌+◌, Option, Result, Ok}
use Rattle.std.specs.Option.{option_map}
use Rattle.mq_values.specs.declared.faults.Refused.{Refused}
use Rattle.mq_ir.specs.declared.catalog.Catalog.{Catalog}
use Rattle.mq_ir.specs.declared.statement.Change.{Change}
use Rattle.mq_ir.specs.Results.{◌>>=◌}
use Rattle.mq_ir.specs.Statement.{Block, State, change_of_tables}
use Rattle.mq_ir.specs.Tables.{Tables}
use Rattle.mq_tables.specs.Pending.{with_pending}
use Rattle.mq_engine.specs.declared.open_block.OpenBlock.{OpenBlock}
use Rattle.mq_engine.specs.Catalogs.{state_of}

-- the block over these tables: with the rows that are held they are pending
abbrev pub block_over : Tables → OpenBlock → Block
block_over tables b = record { pending = with_pending tables b.pending; line = b.line; count = b.count; refused = b.refused }

-- the state of these tables and this catalog, in a block where one is kept
abbrev pub state_over : Tables → Catalog → Option OpenBlock → State
state_over tables catalog block = record (state_of tables catalog) { block = option_map (block_over tables) block }

-- a block after a change of its pending tables, and how many rows are counted
abbrev pub held_change : Block → Change → Result (Block × ℕ) Refused
held_change block change =
    change_of_tables block.pending change >>= (λ changed.
    Ok (record block { pending = changed.0; count = block.count + changed.1 }, changed.1))
