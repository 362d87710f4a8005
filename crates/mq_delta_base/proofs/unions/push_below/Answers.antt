use Rattle.std.proofs.Common.{rules, ◌≡◌, ◌<◌, ◌≤◌, ◌∷◌, ◌++◌, [], true, length, sym, ap, ◌∙◌, arith}
use Rattle.std.specs.Ordering.{is_lt}
use Rattle.mq_join.specs.Kept.{PlaceRows}
use Rattle.mq_delta_base.specs.Sets.{cmp_places}
use Rattle.mq_delta_base.proofs.UnionLemmas.{push_one, stops_behind}
use Rattle.mq_delta_base.proofs.unions.push_below.Goals as goal

pub below-preserved : goal.below-preserved
below-preserved c =
    let h : c.below.place < length c.args.a.now.rows = search rules in
    let here = c.row.ensures.is in
    let again = c.row-in-below.ensures.is in
    let l : is_lt (cmp_places c.row.result.now c.args.tuple.now) ≡ true = search rules in
    let same : c.row-in-below.result.now ≡ c.row.result.now = again ∙ sym here in
    let less : is_lt (cmp_places c.row-in-below.result.now c.args.tuple.now) ≡ true = ap (λ x. is_lt (cmp_places x c.args.tuple.now)) same ∙ l in
    record {
      wide = ap (λ (p : PlaceRows). p.width) c.in_ok-push.ensures ∙ c.below.invariant.wide;
      within = omega (arith, h);
      same = push_one c.args.a.now.rows c.args.at c.args.tuple.now c.args.rows.now.rows c.below.place c.below.rows c.push.new.self c.row-in-below.result.now h less again c.in_ok-push.ensures c.below.invariant.same;
    }

pub returns-clause-below : goal.returns-clause-below
returns-clause-below c =
    let h : length c.args.a.now.rows ≤ c.below.place = search rules in
    stops_behind c.args.a.now.rows c.args.at c.args.tuple.now c.args.rows.now.rows c.len.result c.below.place c.below.rows.rows c.len.ensures h c.below.invariant.within c.below.invariant.same
