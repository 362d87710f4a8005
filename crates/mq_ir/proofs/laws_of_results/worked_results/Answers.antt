use Rattle.mq_ir.proofs.WorkedLemmas as worked
use Rattle.mq_ir.proofs.WorkedScriptLemmas as script
use Rattle.mq_ir.proofs.laws_of_results.worked_results.Goals as goal

pub returns-clause-upserted : goal.returns-clause-upserted
returns-clause-upserted c = worked.upserted

pub returns-clause-order_missing : goal.returns-clause-order_missing
returns-clause-order_missing c = worked.missing

pub returns-clause-ordered_downwards : goal.returns-clause-ordered_downwards
returns-clause-ordered_downwards c = worked.downwards

pub returns-clause-halved_in_turns : goal.returns-clause-halved_in_turns
returns-clause-halved_in_turns c = worked.halved

pub returns-clause-cycle : goal.returns-clause-cycle
returns-clause-cycle c = worked.cycle

pub returns-clause-sum_of_range : goal.returns-clause-sum_of_range
returns-clause-sum_of_range c = worked.range

pub returns-clause-answer_downwards : goal.returns-clause-answer_downwards
returns-clause-answer_downwards c = script.answer_downwards

pub returns-clause-repeated_key : goal.returns-clause-repeated_key
returns-clause-repeated_key c = script.repeated_key
