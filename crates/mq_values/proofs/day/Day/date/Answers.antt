use Rattle.std.proofs.Common.{arith, ap, ◌∙◌, pos, unsigned_abs}
use Rattle.jiff_core.specs.declared.civil.date.Date.{Date}
use Rattle.mq_values.proofs.EpochLemmas.{date_there, day_reads, month_reads, year_reads}
use Rattle.mq_values.proofs.day.Day.date.Goals as goal

pub overflow_cast-result : goal.overflow_cast-result
overflow_cast-result c =
    let is = date_there c.from_days_since_min.result c.self.inside.ordinal c.args.self c.self.view_is c.self.invariant c.from_days_since_min.ensures in
    rw (year_reads c.from_days_since_min.result c.args.self c.year.result is (c.year.ensures ∙ ap (λ (d : Date). d.year) c.from_plain-date.ensures))
    (tt, omega (arith, is.dated.year_high))

pub returns : goal.returns
returns c =
    let date = c.from_days_since_min.result in
    let o = c.args.self in
    let is = date_there date c.self.inside.ordinal o c.self.view_is c.self.invariant c.from_days_since_min.ensures in
    let year = year_reads date o c.year.result is (c.year.ensures ∙ ap (λ (d : Date). d.year) c.from_plain-date.ensures) in
    let month = month_reads date o c.month.result is (c.month.ensures ∙ ap (λ (d : Date). pos d.month) c.from_plain-date.ensures) in
    let day = day_reads date o c.day.result is (c.day.ensures ∙ ap (λ (d : Date). pos d.day) c.from_plain-date.ensures) in
    λ i. (unsigned_abs (year i), unsigned_abs (month i), unsigned_abs (day i))
