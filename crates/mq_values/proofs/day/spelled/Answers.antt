use Rattle.mq_values.proofs.SpellingLemmas.{none_by_length, none_by_dash, none_by_other_dash, none_by_year, none_by_month, none_by_day, reads, spells}
use Rattle.mq_values.proofs.day.spelled.Goals as goal
use Rattle.mq_values.proofs.day.spelled.Goals.{then-bytes-ne45-via-then-bytes-ne45, then-bytes-ne45-via-else-bytes-ne45+then-bytes-ne45-2}

pub returns-then-bytes-ne-DATE_BYTES : goal.returns-then-bytes-ne-DATE_BYTES
returns-then-bytes-ne-DATE_BYTES c = none_by_length c.args.bytes.now c.if-bytes-ne-DATE_BYTES.true

pub returns-then-bytes-ne45 : goal.returns-then-bytes-ne45
returns-then-bytes-ne45 c = elim c.then-bytes-ne45.branch [
  | then-bytes-ne45-via-then-bytes-ne45 w ↦ none_by_dash c.args.bytes.now w.if-bytes-ne45.true
  | then-bytes-ne45-via-else-bytes-ne45+then-bytes-ne45-2 w ↦ none_by_other_dash c.args.bytes.now w.if-bytes-ne45-2.true
]

pub returns-in_err-year : goal.returns-in_err-year
returns-in_err-year c = rw c.from_residual.ensures (none_by_year c.args.bytes.now c.in_err-year.ensures)

pub returns-in_err-month : goal.returns-in_err-month
returns-in_err-month c = rw c.from_residual-in_err-month.ensures (none_by_month c.args.bytes.now c.in_err-month.ensures)

pub returns-in_err-day : goal.returns-in_err-day
returns-in_err-day c = rw c.from_residual-in_err-day.ensures (none_by_day c.args.bytes.now c.in_err-day.ensures)

pub returns : goal.returns
returns c =
    let bs = c.args.bytes.now in
    let y = c.in_ok-year.ensures in
    let m = c.in_ok-month.ensures in
    let d = c.in_ok-day.ensures in
    let text = reads bs c.in_ok-year.year c.in_ok-month.month c.in_ok-day.day c.if-bytes-ne-DATE_BYTES.false c.if-bytes-ne45.false c.if-bytes-ne45-2.false y.1 m.1 d.1 in
    rw c.day_of.ensures (spells bs c.in_ok-year.year c.in_ok-month.month c.in_ok-day.day (record { year = y.0; month = m.0; day = d.0 }) text)
