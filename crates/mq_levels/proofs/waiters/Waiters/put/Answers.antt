use Rattle.std.proofs.Common.{subst, arith, rules}
use Rattle.mq_levels.specs.Chains.{AreChains}
use Rattle.mq_levels.proofs.ChainLemmas.{closes, lists_are, puts, read_at}
use Rattle.mq_levels.proofs.waiters.Waiters.put.Goals as goal

pub invariant_of-self : goal.invariant_of-self
invariant_of-self c =
    let first = c.self.inside.first.items in
    let next = c.self.inside.next.items in
    let a : AreChains first next c.args.self.now = subst (AreChains first next) c.self.view_is c.self.invariant in
    let is = read_at first c.args.read c.index.result.now (let many = a.many in omega arith) (search rules) in
    closes _ _ _ (puts first next c.args.self.now a c.args.read c.args.node c.index.result.now (let many = a.many in omega arith) (let many = a.many in omega arith) is c.requires.free)

pub returns : goal.returns
returns c =
    let first = c.self.inside.first.items in
    let next = c.self.inside.next.items in
    let a : AreChains first next c.args.self.now = subst (AreChains first next) c.self.view_is c.self.invariant in
    let is = read_at first c.args.read c.index.result.now (let many = a.many in omega arith) (search rules) in
    lists_are _ _ _ (puts first next c.args.self.now a c.args.read c.args.node c.index.result.now (let many = a.many in omega arith) (let many = a.many in omega arith) is c.requires.free)
