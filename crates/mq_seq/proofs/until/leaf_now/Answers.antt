use Rattle.std.proofs.Common.{subst}
use Rattle.mq_values.specs.Answers.{Gives}
use Rattle.mq_ir.specs.Reads.{read}
use Rattle.mq_refs.specs.Sites.{site_over}
use Rattle.mq_seq.proofs.until.leaf_now.Goals as goal

pub returns : goal.returns
returns c = subst (Gives c.leaf.result) (λ i. read (site_over c.args.at.now (c.store.ensures.keys i)) (c.store.ensures.base i) (c.lent.ensures.values i) c.args.leaf.now) c.leaf.ensures.exact
