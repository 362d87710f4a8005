use Rattle.std.proofs.Common.{◌≡◌, ◌<◌, ◌-◌, Some, List, length, sym, ap, subst, slice_get, ◌∙◌}
use Rattle.std.specs.List.{All}
use Rattle.std.proofs.lemmas.List.Elements.{All-get_or}
use Rattle.std.proofs.lemmas.Option.{slice_get-get_or}
use Rattle.mq_ir.specs.Shape.{Assignment}
use Rattle.mq_auto_shape.specs.Found.{IsRuled}
use Rattle.mq_auto.specs.Walks.{model_in}
use Rattle.mq_auto.proofs.MappingLemmas.{assigned_is}
use Rattle.mq_auto.proofs.work.assigned_at.Goals as goal

pub rule_numbered-requires : goal.rule_numbered-requires
rule_numbered-requires c =
    let model = model_in c.args.work.now in
    let xs = c.as_slice-assigned.result.now in
    let below = subst (λ (l : List Assignment). c.args.place < length l) (sym c.as_slice-assigned.ensures) c.requires.there in
    let ruled = subst (IsRuled model) (sym c.index-assigned-place.is)
    (All-get_or (IsRuled model) xs c.args.place c.index-assigned-place.result below (subst (All (IsRuled model)) (sym c.as_slice-assigned.ensures) c.requires.ruled)) in
    record { positive = ruled.0; there = ruled.1 }

pub returns : goal.returns
returns c =
    let s = c.args.work.now.shape.now in
    let place = c.args.place in
    let a = c.index-assigned-place.result in
    let xs = c.as_slice-assigned.result.now in
    let below = subst (λ (l : List Assignment). place < length l) (sym c.as_slice-assigned.ensures) c.requires.there in
    let there : slice_get s.assigned place ≡ Some a =
    ap (λ (l : List Assignment). slice_get l place) (sym c.as_slice-assigned.ensures) ∙ slice_get-get_or xs place a below ∙ ap (λ (x : Assignment). Some x) (sym c.index-assigned-place.is) in
    assigned_is (model_in c.args.work.now) s place a c.rule_numbered.result.now there c.rule_numbered.ensures
