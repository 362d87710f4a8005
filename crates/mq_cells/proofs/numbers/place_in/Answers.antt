use Rattle.std.proofs.Common.{◌≡◌, None, true≢false, sym, ap, ◌∙◌}
use Rattle.mq_dim_index.specs.Places.{place_of}
use Rattle.mq_cells.proofs.NumberLemmas.{lacks_key}
use Rattle.mq_cells.proofs.numbers.place_in.Goals as goal

pub unreachable-requires : goal.unreachable-requires
unreachable-requires c =
    let none : place_of c.args.index.now c.args.key.now ≡ None = ap (place_of c.args.index.now) (sym c.as_slice.ensures) ∙ sym c.place_near.ensures ∙ c.in-None.is in
    true≢false (sym c.requires ∙ lacks_key c.args.index.now c.args.key.now none)
