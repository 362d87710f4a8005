use Rattle.std.proofs.Common.{sym, ap, ◌∙◌, arith}
use Rattle.mq_ir.specs.Tables.{Tables}
use Rattle.mq_tables.specs.Pending.{with_pending}
use Rattle.mq_engine.proofs.HoldLemmas.{last_held, none_left}
use Rattle.mq_engine.proofs.open_block.commit_all.Goals as goal

pub staged-preserved : goal.staged-preserved
staged-preserved c =
    let rest = c.pop.new.self.items in
    ap (λ (ts : Tables). with_pending ts rest) c.commit.ensures.rows
    ∙ sym (last_held c.staged.tables rest c.in-Some.staged)
    ∙ ap (with_pending c.staged.tables) (sym c.in-Some.ensures.items)
    ∙ c.staged.invariant

pub returns : goal.returns
returns c =
    none_left c.staged.tables (with_pending c.args.tables.now c.args.held.items) c.staged.left.items
    (omega (arith, c.in_default.ensures.cases.0, c.staged.left.ok.0)) c.staged.invariant
