use Rattle.std.proofs.Common.{List, ap, ◌++◌, ◌∙◌}
use Rattle.mq_ir.specs.Keys.{Tuple}
use Rattle.mq_cells.specs.Stores.{cell_name}
use Rattle.mq_lineage.specs.Held.{is_held}
use Rattle.mq_lineage.specs.Told.{Told}
use Rattle.mq_lineage.proofs.TellLemmas.{nothing_told, source_told}
use Rattle.mq_lineage.proofs.naming.push_source.Goals as goal

pub returns-in_ok-push : goal.returns-in_ok-push
returns-in_ok-push c =
    let a = c.args.a.now in
    c.in_ok-push.ensures.ok
    ∙ ap (λ (l : List Told). c.args.told.now ++ l)
    (source_told c.args.s.now (is_held c.args.sources.now) a (cell_name c.in_ok-copy.field-0 a.1) c.in_ok-has.field-0 c.requires (ap (λ (key : Tuple). cell_name key a.1) c.in_ok-copy.ensures)
    c.in_ok-has.ensures c.if-branch.true)

pub returns-else-branch : goal.returns-else-branch
returns-else-branch c = nothing_told c.args.s.now (is_held c.args.sources.now) c.args.a.now c.args.told.now c.in_ok-has.field-0 c.in_ok-has.ensures c.if-branch.false
