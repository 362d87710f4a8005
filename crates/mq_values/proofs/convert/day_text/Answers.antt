use Rattle.std.proofs.Common.{◌≡◌, rules}
use Rattle.std.proofs.lemmas.Str.{IsUtf8-from_ascii}
use Rattle.mq_values.specs.Calendar.{text_of_day}
use Rattle.mq_values.proofs.DayTextLemmas.{ascii-day, is_text-day}
use Rattle.mq_values.proofs.convert.day_text.Goals as goal

pub unreachable-requires : goal.unreachable-requires
unreachable-requires c =
    let e : c.print.new.out.items ≡ text_of_day c.args.day = search rules in
    let told = c.in-Err.ensures.succeeds (rw e (IsUtf8-from_ascii (text_of_day c.args.day) (ascii-day c.args.day))) in
    cc

pub returns-in_err-print-clause-text : goal.returns-in_err-print-clause-text
returns-in_err-print-clause-text c = is_text-day c.args.day

pub returns-clause-text : goal.returns-clause-text
returns-clause-text c = is_text-day c.args.day
