use Rattle.std.proofs.Common.{◌≡◌, FitsSigned, to_z, of_z, pos, sym, ap, ◌∙◌, rules, int_cmp}
use Rattle.std.proofs.lemmas.Int.{to_z-of_z}
use Rattle.std.specs.Int.{w128}
use Rattle.mq_values.specs.Number.{Number}
use Rattle.mq_values.proofs.RangeLemmas.{Compared, cmp_some, cmp_none}
use Rattle.mq_values.proofs.number.scaled_cmp.Goals as goal

pub returns-in-Some : goal.returns-in-Some
returns-in-Some c =
    let k : Compared c.args.a c.args.b c.b.inside.mant c.a.inside.scale c.b.inside.scale = record {
      a_scale = ap (λ (n : Number). n.scale) (sym c.a.view_is);
      b_scale = ap (λ (n : Number). n.scale) (sym c.b.view_is);
      b_mant = ap (λ (n : Number). n.mant) (sym c.b.view_is);
      below = c.requires;
      last = c.b.invariant;
    } in
    let f : FitsSigned w128 c.get.result = search rules in
    let is : to_z w128 (of_z w128 c.get.result) ≡ c.b.inside.mant = to_z-of_z w128 c.get.result f ∙ c.get.ensures in
    c.cmp.ensures ∙ ap (int_cmp (to_z w128 (of_z w128 c.in-Some.mant))) is
    ∙ cmp_some c.args.a c.args.b c.b.inside.mant c.a.inside.scale c.b.inside.scale c.in-Some.mant k c.in-Some.ensures

pub returns-in-None : goal.returns-in-None
returns-in-None c =
    let f : FitsSigned w128 c.b.inside.mant = search rules in
    let g : FitsSigned w128 c.get-in-None.result = search rules in
    let is : to_z w128 (of_z w128 c.get-in-None.result) ≡ c.a-2.inside.mant = to_z-of_z w128 c.get-in-None.result g ∙ c.get-in-None.ensures in
    let k : Compared c.args.a c.args.b c.b.inside.mant c.a.inside.scale c.b.inside.scale = record {
      a_scale = ap (λ (n : Number). n.scale) (sym c.a.view_is);
      b_scale = ap (λ (n : Number). n.scale) (sym c.b.view_is);
      b_mant = ap (λ (n : Number). n.mant) (sym c.b.view_is);
      below = c.requires;
      last = c.b.invariant;
    } in
    c.cmp-in-None.ensures ∙ ap (λ z. int_cmp z (pos 0)) (is ∙ ap (λ (n : Number). n.mant) c.a-2.view_is)
    ∙ cmp_none c.args.a c.args.b c.b.inside.mant c.a.inside.scale c.b.inside.scale k f c.in-None.ensures
