use Rattle.std.proofs.Common.{ap, sym, ◌∙◌}
use Rattle.std.specs.Ordering.{is_eq}
use Rattle.mq_values.specs.Order.{cmp_key}
use Rattle.mq_dim_index.proofs.NearLemmas.{stands_here}
use Rattle.mq_dim_index.proofs.near.place_around.Goals as goal

pub returns-in-Equal-clause-found : goal.returns-in-Equal-clause-found
returns-in-Equal-clause-found c =
    let key = c.args.key.now in
    let found = c.in-Some.ensures.lookup.3 in
    stands_here c.args.keys.now key c.in-Some.own.now c.args.near c.requires found.0 found.1
    (sym (ap is_eq (c.cmp.ensures ∙ ap (cmp_key key) c.as_slice.ensures)) ∙ ap is_eq c.in-Equal.is)
