use Rattle.std.proofs.Common.{ap, rules, subst, true, ◌+◌, ◌≡◌}
use Rattle.std.specs.List.{enumerate_from}
use Rattle.csv.specs.Records.{fields_of}
use Rattle.mq_csvload.specs.Left.{Takes, left_of}
use Rattle.mq_csvload.specs.Loading.{row_of}
use Rattle.mq_csvload.proofs.WalkLemmas.{walk_next}
use Rattle.mq_csvload.proofs.rows.rows_before.Goals as goal

pub records-preserved : goal.records-preserved
records-preserved c =
    let old = c.records.reader in
    let new = c.read_next.new.reader in
    let fields = fields_of c.read_next.new.into in
    let number = c.records.number in
    let found : c.in_ok-read_next.field-0 ≡ true = search rules in
    let step = subst (λ b. Takes b old new fields) found c.in_ok-read_next.ensures in (
      step.0,
      walk_next (row_of c.args.cols.now) (enumerate_from 1 (left_of c.args.reader.now)) (enumerate_from number (left_of old)) (enumerate_from (number + 1) (left_of new))
          c.records.rows.items c.push.new.self.items (number, fields) c.in_ok-row_of.field-0 (ap (enumerate_from number) step.1) c.in_ok-row_of.ensures c.in_ok-push.ensures.items
          c.records.invariant.1,
    )
