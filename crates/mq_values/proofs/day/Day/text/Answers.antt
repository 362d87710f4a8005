use Rattle.std.proofs.Common.{ℕ, ◌∙◌, ap}
use Rattle.mq_values.specs.Calendar.{date_text, text_of_day}
use Rattle.mq_values.proofs.DayTextLemmas.{digits_are}
use Rattle.mq_values.proofs.day.Day.text.Goals as goal

pub returns : goal.returns
unfolding text_of_day
returns c =
    let r = c.date-year.result in
    digits_are r.0 r.1 r.2 c.digit.result c.digit-2.result c.digit-3.result c.digit-4.result c.digit-5.result c.digit-6.result c.digit-7.result c.digit-8.result
    c.digit.ensures c.digit-2.ensures c.digit-3.ensures c.digit-4.ensures c.digit-5.ensures c.digit-6.ensures c.digit-7.ensures c.digit-8.ensures
    ∙ ap (λ (r : ℕ × ℕ × ℕ). date_text r.0 r.1 r.2) c.date-year.ensures
