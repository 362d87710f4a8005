use Rattle.std.proofs.Common.{◌≡◌, true, None, List, ap, sym, ◌∙◌}
use Rattle.std.specs.Map.{keys_of}
use Rattle.mq_dim_index.specs.Places.{is_there, place_of}
use Rattle.mq_ir.specs.Keys.{Tuple}
use Rattle.mq_seq.specs.Steps.{State}
use Rattle.mq_seq.proofs.PlaceLemmas.{nowhere}
use Rattle.mq_seq.proofs.grid.Grid.place_near.Goals as goal

pub unreachable-requires : goal.unreachable-requires
unreachable-requires c =
    let keys : List Tuple = c.index.result.now in
    let missed : place_of keys c.args.key.now ≡ None = (λ i. place_of keys (sym c.as_slice.ensures i)) ∙ sym c.in-None.ensures in
    let none = nowhere c.args.key.now keys missed in
    let there : is_there keys c.args.key.now ≡ true = ap (λ (ks : List Tuple). is_there ks c.args.key.now) (c.index.ensures.keys ∙ ap (λ (s : State). keys_of s.track.cells) c.self.view_is) ∙ c.requires in
    absurd (cc)
