use Rattle.std.proofs.Common.{rules, ◌≡◌, ◌∷◌, ◌++◌, [], length, ◌+◌, sym, ap, ◌∙◌}
use Rattle.mq_join.specs.Kept.{PlaceRows, tuples_of}
use Rattle.mq_join.proofs.KeptLemmas.{one_more}
use Rattle.mq_join.proofs.kept_rows.PlaceRows.push.Goals as goal

pub returns : goal.returns
returns c =
    let width = ap (λ (p : PlaceRows). p.width) c.self.view_is in
    let counted : c.in-Some.count ≡ c.self.inside.count + 1 = search rules in
    let rows =
    ap (tuples_of c.self.inside.width c.in-Some.count) c.in_ok-extend_from_slice.ensures.items
    ∙ one_more c.self.inside.width c.self.inside.count c.in-Some.count c.self.inside.places.items c.args.tuple.now c.self.invariant (c.requires ∙ sym width) counted
    ∙ ap (λ (p : PlaceRows). p.rows ++ c.args.tuple.now ∷ []) c.self.view_is in
    λ i. record { width = width i; rows = rows i }
