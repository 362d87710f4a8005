use Rattle.std.proofs.Common.{subst, arith, rules}
use Rattle.mq_levels.specs.Chains.{AreChains}
use Rattle.mq_levels.proofs.ChainLemmas.{node_below, node_there, read_at, take_frees, take_is, take_keeps}
use Rattle.mq_levels.proofs.waiters.Waiters.take.Goals as goal

pub index-requires : goal.index-requires
index-requires c =
    let first = c.self.inside.first.items in
    let next = c.self.inside.next.items in
    let a : AreChains first next c.args.self.now = subst (AreChains first next) c.self.view_is c.self.invariant in
    let is = read_at first c.args.read c.index-node.result.now (let many = a.many in omega arith) (search rules) in
    let there = node_there first next c.args.self.now a c.args.read c.index-node.result.now (let many = a.many in omega arith) is c.if-node.false in
    let small = c.self.inside.next.ok in
    omega arith

pub returns-clause-node : goal.returns-clause-node
returns-clause-node c =
    let first = c.self.inside.first.items in
    let next = c.self.inside.next.items in
    let a : AreChains first next c.args.self.now = subst (AreChains first next) c.self.view_is c.self.invariant in
    let is = read_at first c.args.read c.index-node.result.now (let many = a.many in omega arith) (search rules) in
    node_below first next c.args.self.now a c.args.read c.index-node.result.now (let many = a.many in omega arith) is c.if-node.false

pub invariant_of-self : goal.invariant_of-self
invariant_of-self c =
    let first = c.self.inside.first.items in
    let next = c.self.inside.next.items in
    let a : AreChains first next c.args.self.now = subst (AreChains first next) c.self.view_is c.self.invariant in
    let is = read_at first c.args.read c.index-node.result.now (let many = a.many in omega arith) (search rules) in
    let there = node_there first next c.args.self.now a c.args.read c.index-node.result.now (let many = a.many in omega arith) is c.if-node.false in
    let goes = read_at next c.index-node.result.now c.index.result.now there (search rules) in
    take_keeps first next c.args.self.now a c.args.read c.index-node.result.now c.index.result.now (let many = a.many in omega arith) is c.if-node.false goes

pub returns-clause-taken : goal.returns-clause-taken
returns-clause-taken c =
    let first = c.self.inside.first.items in
    let next = c.self.inside.next.items in
    let a : AreChains first next c.args.self.now = subst (AreChains first next) c.self.view_is c.self.invariant in
    let is = read_at first c.args.read c.index-node.result.now (let many = a.many in omega arith) (search rules) in
    let there = node_there first next c.args.self.now a c.args.read c.index-node.result.now (let many = a.many in omega arith) is c.if-node.false in
    let goes = read_at next c.index-node.result.now c.index.result.now there (search rules) in
    take_is first next c.args.self.now a c.args.read c.index-node.result.now c.index.result.now (let many = a.many in omega arith) is c.if-node.false goes

pub returns-clause-free : goal.returns-clause-free
returns-clause-free c =
    let first = c.self.inside.first.items in
    let next = c.self.inside.next.items in
    let a : AreChains first next c.args.self.now = subst (AreChains first next) c.self.view_is c.self.invariant in
    let is = read_at first c.args.read c.index-node.result.now (let many = a.many in omega arith) (search rules) in
    let there = node_there first next c.args.self.now a c.args.read c.index-node.result.now (let many = a.many in omega arith) is c.if-node.false in
    let goes = read_at next c.index-node.result.now c.index.result.now there (search rules) in
    take_frees first next c.args.self.now a c.args.read c.index-node.result.now c.index.result.now (let many = a.many in omega arith) is c.if-node.false goes
