use Rattle.std.proofs.Common.{◌≡◌, drop}
use Rattle.mq_bind_scopes.specs.OperatorKinds.{chain_kind, sum_kind}
use Rattle.mq_bind_expr.specs.OperatorNodes.{term_kinds}
use Rattle.mq_bind_expr.proofs.founds.sum_chain_kind.Given as goal

abbrev pub invariant-loop-op : goal.invariant-loop-op
invariant-loop-op l = chain_kind sum_kind l.kind (term_kinds (drop l.op-index l.terms)) ≡ chain_kind sum_kind l.fn.first (term_kinds l.terms)
