use Rattle.mq_auto.proofs.runner.result_over.Goals as goal

pub stored_result-requires : goal.stored_result-requires
stored_result-requires g c = record { few = c.requires.levelled.few; held = c.in_ok-cells.ensures }
