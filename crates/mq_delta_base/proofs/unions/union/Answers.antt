use Rattle.std.proofs.Common.{rules, ◌≡◌, ◌≤◌, length, ◌∙◌}
use Rattle.mq_delta_base.proofs.UnionLemmas.{finished}
use Rattle.mq_delta_base.proofs.unions.union.Goals as goal

pub returns : goal.returns
returns c =
    let h : length c.args.b.now.rows ≤ c.others.other = search rules in
    let rows = finished c.args.a.now.rows c.args.b.now.rows c.others.at c.others.other c.others.rows.rows h c.others.invariant.same in
    c.in_ok-push_rest.ensures ∙ (λ i. record { width = c.others.invariant.wide i; rows = rows i })
