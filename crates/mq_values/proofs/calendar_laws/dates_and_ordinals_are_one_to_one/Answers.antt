use Rattle.mq_values.specs.CalendarLemmas.{day_is, dated, is_date_of, is_ordinal_of, month_is, parts, year_is}
use Rattle.mq_values.proofs.calendar_laws.dates_and_ordinals_are_one_to_one.Goals as goal

pub returns : goal.returns
returns c = record {
  there = λ y m d h. is_ordinal_of y m d (dated y m d h);
  year = λ y m d h. year_is y m d (dated y m d h);
  month = λ y m d h. month_is y m d (dated y m d h);
  day = λ y m d h. day_is y m d (dated y m d h);
  back = λ o h. is_date_of _ _ _ (parts o h).date;
  same = λ o h. (parts o h).ordinal;
}
