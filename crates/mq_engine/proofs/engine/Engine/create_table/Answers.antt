use Rattle.std.proofs.Common.{ℕ, List, [], ◌∷◌, ◌++◌, ap, map, sym, ◌∙◌}
use Rattle.std.proofs.lemmas.List.{map-append}
use Rattle.mq_ir.specs.declared.catalog.TableEntry.{TableEntry}
use Rattle.mq_ir.specs.Statement.{State}
use Rattle.mq_ir.specs.Statement as spec
use Rattle.mq_ir.specs.Tables.{Table, Tables, table_at}
use Rattle.mq_engine.specs.Blocks.{state_over}
use Rattle.mq_engine.specs.Catalogs.{entry_of_table, state_of}
use Rattle.mq_engine.proofs.BlockLemmas.{none_kept, outside, still_outside}
use Rattle.mq_engine.proofs.StateLemmas.{names_back, new_table_entry, tables_back}
use Rattle.mq_engine.proofs.engine.Engine.create_table.Goals as goal

pub add-requires : goal.add-requires
add-requires c = ap (λ (s : State). table_at s.tables c.args.t.name) c.self.view_is ∙ c.requires.new

pub put-requires : goal.put-requires
put-requires c =
    let absent = ap (λ (s : State). table_at s.tables c.args.t.name) c.self.view_is ∙ c.requires.new in
    new_table_entry c.self.inside.catalog.tables c.self.inside.tables c.self.invariant.0 c.args.t.name c.in_ok-entry.entry
    (ap (λ (entry : TableEntry). entry.name) c.in_ok-entry.ensures ∙ c.in_ok-copy.ensures) absent

-- the table is taken away again
pub invariant_of-self-in-Err : goal.invariant_of-self-in-Err
invariant_of-self-in-Err c =
    let entries = c.self.inside.catalog.tables in
    let tables = c.self.inside.tables in
    let t : Table = record { name = c.args.t.name; schema = c.args.t.schema; rows = [] } in
    let absent = ap (λ (s : State). table_at s.tables t.name) c.self.view_is ∙ c.requires.new in
    let back = tables_back entries tables c.self.invariant.0 t c.as_str.result.now c.add.new.self c.remove.new.self c.in_ok-add.ensures.ok (c.as_str.ensures ∙ c.in_ok-name.ensures) absent c.remove.ensures.others in
    (names_back entries tables c.self.invariant.0 c.remove.new.self c.put.new.self back c.in-Err.ensures.err, c.self.invariant.1, c.self.invariant.2, c.pass_over.ensures tables c.remove.new.self c.self.inside.catalog.views c.self.invariant.3)

pub returns-clause-err : goal.returns-clause-err
returns-clause-err c =
    let entries = c.self.inside.catalog.tables in
    let tables = c.self.inside.tables in
    let t : Table = record { name = c.args.t.name; schema = c.args.t.schema; rows = [] } in
    let absent = ap (λ (s : State). table_at s.tables t.name) c.self.view_is ∙ c.requires.new in
    let back = tables_back entries tables c.self.invariant.0 t c.as_str.result.now c.add.new.self c.remove.new.self c.in_ok-add.ensures.ok (c.as_str.ensures ∙ c.in_ok-name.ensures) absent c.remove.ensures.others in
    ap (λ (ts : Tables). state_over ts c.self.inside.catalog c.self.inside.block) back ∙ c.self.view_is

pub returns-in-Ok-clause-ok : goal.returns-in-Ok-clause-ok
returns-in-Ok-clause-ok c =
    let tables = c.self.inside.tables in
    let k = c.self.inside.catalog in
    let block = c.self.inside.block in
    still_outside c.add.new.self k block (spec.create_table c.args.self.now c.args.t) (none_kept tables k block c.args.self.now c.self.view_is c.requires.outside)
    (ap (λ (ts : Tables). state_of ts k) c.in_ok-add.ensures.ok
    ∙ ap (λ (s : State). spec.create_table s c.args.t) (outside tables k block c.args.self.now c.self.view_is c.requires.outside))

-- nothing was added
pub invariant_of-self : goal.invariant_of-self
invariant_of-self c = (
  c.self.invariant.0 ∙ sym (ap (map entry_of_table) c.in_err-add.ensures.err),
  c.self.invariant.1,
  c.self.invariant.2,
  c.pass_over.ensures c.self.inside.tables c.add.new.self c.self.inside.catalog.views c.self.invariant.3,
)

pub invariant_of-self-in-Ok : goal.invariant_of-self-in-Ok
invariant_of-self-in-Ok c = (
  c.in-Ok.ensures.ok
      ∙ (λ i. c.self.invariant.0 i ++ (c.in_ok-entry.ensures ∙ ap (λ (name : List ℕ). record { name = name; schema = c.args.t.schema }) c.in_ok-copy.ensures) i ∷ [])
      ∙ sym (map-append entry_of_table c.self.inside.tables (record { name = c.args.t.name; schema = c.args.t.schema; rows = [] } ∷ []))
      ∙ sym (ap (map entry_of_table) c.in_ok-add.ensures.ok),
  c.self.invariant.1,
  c.self.invariant.2,
  c.pass_over.ensures c.self.inside.tables c.add.new.self c.self.inside.catalog.views c.self.invariant.3,
)
