use Rattle.std.proofs.Common.{arith}
use Rattle.mq_values.specs.CalendarLemmas.{later_month, later_year}
use Rattle.mq_values.proofs.calendar_laws.ordinals_ascend_as_dates_do.Goals as goal

pub returns : goal.returns
returns c = record {
  years = later_year;
  months = later_month;
  days = λ y m d e h later lt. omega arith;
}
