use Rattle.std.proofs.Common.{◌≡◌, sym, ap, ◌∙◌}
use Rattle.std.specs.Prelude.{slice_index_or}
use Rattle.mq_delta_base.specs.Moves.{place_in}
use Rattle.mq_delta_base.proofs.StayLemmas.{part_is}
use Rattle.mq_delta_base.proofs.staying.place_at.Goals as goal

pub returns-then-changed-item : goal.returns-then-changed-item
returns-then-changed-item c =
    let places = c.args.moves.now.places in
    c.moved_from.ensures
    ∙ ap (λ b. place_in places (b, slice_index_or c.args.tuple.now c.args.item 0)) (sym c.if-changed-item.true)
    ∙ ap (place_in places) (sym (part_is c.args.changed.now c.args.tuple.now c.args.item c.requires.item c.requires.as_many))

pub returns-else-changed-item : goal.returns-else-changed-item
returns-else-changed-item c =
    let places = c.args.moves.now.places in
    ap (λ b. place_in places (b, slice_index_or c.args.tuple.now c.args.item 0)) (sym c.if-changed-item.false)
    ∙ ap (place_in places) (sym (part_is c.args.changed.now c.args.tuple.now c.args.item c.requires.item c.requires.as_many))
