use Rattle.std.proofs.Common.{◌<◌, ◌≤◌, length, sym, ◌∙◌, arith}
use Rattle.mq_tables.proofs.LeftLemmas.{leaving_end, leaving_gone, leaving_kept}
use Rattle.mq_tables.proofs.flags.take_each.Goals as goal
use Rattle.mq_tables.proofs.flags.take_each.Goals.{then-not-is_gone, else-not-is_gone}

pub items-preserved : goal.items-preserved
items-preserved g c =
    let rows = c.args.items.now.items in
    let gone = c.args.gone.now in
    let here : c.items.at < length rows = (let t = c.items-test.true in let e = c.len-at-end.ensures in let k = c.args.items.now.ok.0 in omega (arith, t, e, k)) in
    elim c.if-not-is_gone.branch [
      | then-not-is_gone w ↦
          rw (w.items-is, w.kept-is) (leaving_kept rows gone c.requires c.items.items.items c.items.kept c.items.at c.items.invariant here w.swap.new.self.items w.swap.ensures.by_index
          (sym c.is_gone.ensures ∙ w.if-not-is_gone.true))
      | else-not-is_gone w ↦
          rw (w.items-is, w.kept-is) (leaving_gone rows gone c.requires c.items.items.items c.items.kept c.items.at c.items.invariant here (sym c.is_gone.ensures ∙ w.if-not-is_gone.false))
    ]

pub swap-requires-clause-i_in_bounds : goal.swap-requires-clause-i_in_bounds
swap-requires-clause-i_in_bounds g c =
    let b = c.items.invariant.behind in
    let n = c.items.invariant.long in
    let k = c.items.items.ok.0 in
    let t = c.items-test.true in
    let e = c.len-at-end.ensures in
    let o = c.args.items.now.ok.0 in
    omega (arith, b, n, k, t, e, o)

pub returns : goal.returns
returns g c =
    let long : length c.args.items.now.items ≤ c.items.at = (let t = c.items-test.false in let e = c.len-at-end.ensures in let k = c.args.items.now.ok.0 in omega (arith, t, e, k)) in
    leaving_end c.args.items.now.items c.args.gone.now c.items.items.items c.truncate.new.self.items c.items.kept c.items.at long c.truncate.ensures.items c.items.invariant
