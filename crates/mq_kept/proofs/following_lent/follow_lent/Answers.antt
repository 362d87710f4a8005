use Rattle.std.proofs.Common.{◌≡◌, false, rules}
use Rattle.std.specs.List.{list_any}
use Rattle.mq_ir.specs.Statement.{tables_read}
use Rattle.mq_ir.specs.Tables.{is_name}
use Rattle.mq_kept.proofs.FollowLentLemmas.{still_lent}
use Rattle.mq_kept.proofs.following_lent.follow_lent.Goals as goal

-- what the query reads is as it was
pub returns-then-not-query_reads : goal.returns-then-not-query_reads
returns-then-not-query_reads g c =
    let table = c.args.old.now.table.now in
    let unread : list_any (is_name table) (tables_read c.args.q.now) ≡ false = search rules in
    λ _.
    still_lent table c.args.q.now c.args.part.now c.requires.lent.before (g.T.TableSet.tables c.args.tables.now) c.args.view.now c.args.parts.now
    c.requires.model c.args.old.now.were.now c.requires.lent.replaced c.requires.lent.lent unread
