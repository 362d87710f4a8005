use Rattle.mq_levels.proofs.OutcomeLemmas.{outcome}
use Rattle.mq_levels.proofs.leveling.levels_over.Goals as goal

pub returns-clause-rounds : goal.returns-clause-rounds
returns-clause-rounds g c =
    (outcome (g.R.Reads.reads c.args.reads.now) c.requires.reads c.in_ok-numbering.numbering.count c.deref.result.now (rw c.deref.ensures.value c.in_ok-numbering.ensures) c.dealt.result c.dealt.ensures.long c.dealt.ensures.dealt).0

pub returns-clause-rest : goal.returns-clause-rest
returns-clause-rest g c =
    (outcome (g.R.Reads.reads c.args.reads.now) c.requires.reads c.in_ok-numbering.numbering.count c.deref.result.now (rw c.deref.ensures.value c.in_ok-numbering.ensures) c.dealt.result c.dealt.ensures.long c.dealt.ensures.dealt).1
