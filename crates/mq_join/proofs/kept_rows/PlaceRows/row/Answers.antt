use Rattle.std.proofs.Common.{◌≡◌, [], ◌+◌, ◌-◌, ◌*◌, length, min, take, drop, ap, ◌∙◌, arith}
use Rattle.std.specs.Prelude.{slice_index_or}
use Rattle.std.proofs.lemmas.List.{length-drop, length-take}
use Rattle.mq_join.specs.Kept.{PlaceRows}
use Rattle.mq_join.proofs.KeptLemmas.{ends_within, no_tuple, tuple_is, tuples_long}
use Rattle.mq_join.proofs.kept_rows.PlaceRows.row.Goals as goal

pub returns-then-at-self-clause-is : goal.returns-then-at-self-clause-is
returns-then-at-self-clause-is c =
    no_tuple c.self.inside.width c.self.inside.count c.args.at c.self.inside.places.items c.if-at-self.true
    ∙ ap (λ (p : PlaceRows). slice_index_or p.rows c.args.at []) c.self.view_is

pub returns-then-at-self-clause-wide : goal.returns-then-at-self-clause-wide
returns-then-at-self-clause-wide c h =
    let long = ap (λ (p : PlaceRows). length p.rows) c.self.view_is in
    absurd (omega (arith, h, long, tuples_long c.self.inside.width c.self.inside.count c.self.inside.places.items, c.if-at-self.true))

pub returns-clause-is : goal.returns-clause-is
returns-clause-is c =
    let from = c.args.at * c.self.inside.width in
    let long : from + c.self.inside.width - from ≡ c.self.inside.width = omega arith in
    ap (λ n. take n (drop from c.deref.result.now)) long
    ∙ ap (λ places. take c.self.inside.width (drop from places)) c.deref.ensures.value
    ∙ tuple_is c.self.inside.width c.self.inside.count c.args.at c.self.inside.places.items c.if-at-self.false
    ∙ ap (λ (p : PlaceRows). slice_index_or p.rows c.args.at []) c.self.view_is

pub returns-clause-wide : goal.returns-clause-wide
returns-clause-wide c h =
    let from = c.args.at * c.self.inside.width in
    let width = ap (λ (p : PlaceRows). p.width) c.self.view_is in
    let all : length c.deref.result.now ≡ c.self.inside.count * c.self.inside.width = ap length c.deref.ensures.value ∙ c.self.invariant in
    omega (
      arith,
      width,
      all,
      length-drop from c.deref.result.now,
      length-take (from + c.self.inside.width - from) (drop from c.deref.result.now),
      ends_within c.self.inside.width c.self.inside.count c.args.at c.if-at-self.false,
    )
