use Rattle.std.proofs.Common.{rules, ◌≡◌, ◌+ℤ◌, Ok, sym, ◌∙◌}
use Rattle.mq_values.specs.Arithmetic.{in_range}
use Rattle.mq_reads.proofs.SumLemmas.{sum_at_scale}
use Rattle.mq_reads.proofs.aggregates.add_to.Goals as goal

pub returns-in-Some : goal.returns-in-Some
returns-in-Some c =
    let a = c.args.sum.now in
    let b = c.args.n.now in
    let scale : a.scale ≡ b.scale = search rules in
    let exact : Ok c.new.result ≡ in_range (a.mant +ℤ b.mant) a.scale = search rules in
    sum_at_scale a b scale c.mant.ensures.range c.mant-2.ensures.range ∙ sym exact
