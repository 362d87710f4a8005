use Rattle.std.proofs.Common.{sym, ◌∙◌}
use Rattle.csv.proofs.ReadFacts.{strip-short}
use Rattle.mq_csvload.proofs.MarkLemmas.{mark_goes, no_mark_stays}
use Rattle.mq_csvload.proofs.records.without_mark.Goals as goal

pub returns-then-bytes-lt-MARK_LENGTH : goal.returns-then-bytes-lt-MARK_LENGTH
returns-then-bytes-lt-MARK_LENGTH c = sym (strip-short c.args.bytes.now c.if-bytes-lt-MARK_LENGTH.true)

pub returns-then-is_mark : goal.returns-then-is_mark
returns-then-is_mark c =
    c.split_at.ensures.back ∙ sym (mark_goes c.args.bytes.now c.if-bytes-lt-MARK_LENGTH.false (sym c.is_mark.ensures ∙ c.if-is_mark.true))

pub returns-else-is_mark : goal.returns-else-is_mark
returns-else-is_mark c = sym (no_mark_stays c.args.bytes.now c.if-bytes-lt-MARK_LENGTH.false (sym c.is_mark.ensures ∙ c.if-is_mark.false))
