use Rattle.std.proofs.Common.{◌≡◌, ◌+◌, ◌-◌, arith, sym, ap, subst, ◌∙◌, pos, Some, ◌+ℤ◌}
use Rattle.jiff_core.specs.declared.civil.date.Date.{Date}
use Rattle.jiff_core.specs.Date.{epoch_day}
use Rattle.mq_values.specs.Calendar.{ordinal_of}
use Rattle.mq_values.specs.CalendarLemmas.{Dated, date_of_is, is_ordinal_of}
use Rattle.mq_values.proofs.EpochLemmas.{IsDayOf, is_day_of, dated_by, days_agree}
use Rattle.mq_values.proofs.day.day_of.Goals as goal

is_day : (c : goal.After-days_since_min) → IsDayOf c.in-Ok.date c.args.year c.args.month c.args.day c.days_since_min.result
is_day c =
    let ymd = c.in-Ok.ensures.value in
    let since = subst (λ (date : Date). epoch_day date +ℤ pos 4371587 ≡ pos c.days_since_min.result) c.to_plain.ensures c.days_since_min.ensures.value in
    is_day_of c.in-Ok.date c.args.year c.args.month c.args.day c.days_since_min.result c.if-year-gt-MAX_YEAR.false c.if-month-gt-MONTHS.false c.if-day-gt-MAX_DAYS_OF_MONTH.false ymd.0 ymd.1 ymd.2 since

is_dated : (c : goal.After-days_since_min) → Dated c.args.year c.args.month c.args.day
is_dated c = dated_by c.in-Ok.date c.args.year c.args.month c.args.day c.days_since_min.result (is_day c) c.if-year-lt1.false c.if-year-gt-MAX_YEAR.false

is_same : (c : goal.After-days_since_min) → c.days_since_min.result + 1 ≡ ordinal_of c.args.year c.args.month c.args.day + 3652425
is_same c = days_agree c.in-Ok.date c.args.year c.args.month c.args.day c.days_since_min.result (is_day c) c.if-year-lt1.false c.if-year-gt-MAX_YEAR.false

is_less : (c : goal.After-days_since_min) → c.days_since_min.result + 1 - 3652425 ≡ ordinal_of c.args.year c.args.month c.args.day
is_less c = omega (arith, is_same c)

pub overflow_sub-result : goal.overflow_sub-result
overflow_sub-result c = omega (arith, is_same c)

pub invariant_of-result : goal.invariant_of-result
invariant_of-result c = rw (is_less c) (is_ordinal_of c.args.year c.args.month c.args.day (is_dated c))

pub returns-in-Ok : goal.returns-in-Ok
returns-in-Ok c = ap Some (is_less c) ∙ sym (date_of_is c.args.year c.args.month c.args.day (is_dated c))
