use Rattle.std.proofs.Common.{rules}
use Rattle.mq_io.specs.ProgressLemmas.{Appends-more, AppendsFront-take}
use Rattle.mq_io.proofs.transfers.write_all.Goals as goal

pub returns-in_err-at-clause-front : goal.returns-in_err-at-clause-front
returns-in_err-at-clause-front g c =
    let front = AppendsFront-take _ _ _ _ _ c.pieces.invariant.written c.in_err-at.ensures.bytes in search rules

pub pieces-preserved : goal.pieces-preserved
pieces-preserved g c = record {
  within = search rules;
  written = Appends-more _ _ _ _ _ _ c.pieces.invariant.written c.in_ok-at.ensures.bytes;
  later = search rules;
}
