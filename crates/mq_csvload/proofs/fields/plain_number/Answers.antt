use Rattle.std.proofs.Common.{sym}
use Rattle.mq_csvload.proofs.FieldLemmas.{no_number}
use Rattle.mq_csvload.proofs.fields.plain_number.Goals as goal

pub returns-in-Err : goal.returns-in-Err
returns-in-Err c = sym (no_number c.args.spelling.now c.in-Err.ensures.cases.0)
