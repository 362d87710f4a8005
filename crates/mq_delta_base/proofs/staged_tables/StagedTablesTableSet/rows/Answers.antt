use Rattle.std.proofs.Common.{rules, ◌≡◌, List, Bool, true, false, None, Some, sym, ap, ◌∙◌}
use Rattle.std.specs.Prelude.{if◌then◌else◌}
use Rattle.std.specs.Option.{option_copied, option_map}
use Rattle.mq_ir.specs.Keys.{Tuple}
use Rattle.mq_ir.specs.Tables.{is_name}
use Rattle.mq_tables.specs.Rows.{rows_at}
use Rattle.mq_delta_base.proofs.StagedLemmas.{rows_will}
use Rattle.mq_delta_base.proofs.staged_tables.StagedTablesTableSet.rows.Goals as goal

pub returns-in_err-rows : goal.returns-in_err-rows
returns-in_err-rows c =
    let t = c.args.self.now in
    let s = t.staged.now in
    let name = c.args.name.now in
    let old : rows_at t.before.now name ≡ None = search rules in
    let none : option_copied c.from_residual.result ≡ None = search rules in
    none ∙ sym (rows_will s.table s.rows t.before.now name ∙ ap (option_map (λ (rows : List Tuple). if is_name s.table name then s.rows else rows)) old)

pub returns-then-eq : goal.returns-then-eq
returns-then-eq c =
    let t = c.args.self.now in
    let s = t.staged.now in
    let name = c.args.name.now in
    let old : rows_at t.before.now name ≡ Some c.in_ok-rows.rows.now = search rules in
    let same : is_name s.table name ≡ true = search rules in
    ap Some c.rows-then-eq.ensures
    ∙ sym (rows_will s.table s.rows t.before.now name ∙ ap (option_map (λ (rows : List Tuple). if is_name s.table name then s.rows else rows)) old
    ∙ ap (λ (b : Bool). Some (if b then s.rows else c.in_ok-rows.rows.now)) same)

pub returns-else-eq : goal.returns-else-eq
returns-else-eq c =
    let t = c.args.self.now in
    let s = t.staged.now in
    let name = c.args.name.now in
    let old : rows_at t.before.now name ≡ Some c.in_ok-rows.rows.now = search rules in
    let other : is_name s.table name ≡ false = search rules in
    sym (rows_will s.table s.rows t.before.now name ∙ ap (option_map (λ (rows : List Tuple). if is_name s.table name then s.rows else rows)) old
    ∙ ap (λ (b : Bool). Some (if b then s.rows else c.in_ok-rows.rows.now)) other)
