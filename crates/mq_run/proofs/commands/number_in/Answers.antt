use Rattle.std.proofs.Common.{sym, ap, ◌∙◌}
use Rattle.mq_run.specs.Commands.{is_numeral}
use Rattle.mq_run.proofs.CommandLemmas.{out_of_range}
use Rattle.mq_run.proofs.commands.number_in.Goals as goal

pub returns-in_default-3 : goal.returns-in_default-3
returns-in_default-3 c =
    out_of_range c.args.least c.args.most c.args.word.now c.in_default.field-0 c.ranges.most.fits (ap is_numeral (sym c.as_bytes.ensures.value) ∙ sym c.is_numeral.ensures ∙ c.if-not-is_numeral.false) c.in_default.ensures.value.0
