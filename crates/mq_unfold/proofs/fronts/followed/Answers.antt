use Rattle.std.proofs.Common.{subst, ◌≡◌, List, [], ◌∷◌, ◌++◌, map, sym, ap, ◌∙◌}
use Rattle.std.specs.List.{flat_map}
use Rattle.std.specs.Result.{IfOk}
use Rattle.mq_ir.specs.declared.query.SinglePlace.{SinglePlace}
use Rattle.mq_unfold.specs.Spreads.{form_places}
use Rattle.mq_unfold.proofs.fronts.followed.Goals as goal

pub returns-in-Listed : goal.returns-in-Listed
returns-in-Listed c =
    let places = c.as_slice-in-Listed.ensures ∙ sym (ap form_places c.in-Listed.is) in
    subst (λ (q : List (List SinglePlace)). IfOk c.with_each.result (λ rows. rows ≡ q))
    (λ i. flat_map (λ front. map (λ x. front ++ x ∷ []) (places i)) (c.as_slice.ensures i)) c.with_each.ensures

pub returns-in_ok-places-in-Stepped : goal.returns-in_ok-places-in-Stepped
returns-in_ok-places-in-Stepped c =
    let places = c.as_slice-in-Stepped-2.ensures ∙ c.in_ok-places-in-Stepped.ensures ∙ sym (ap form_places c.in-Stepped.is) in
    subst (λ (q : List (List SinglePlace)). IfOk c.with_each-in-Stepped.result (λ rows. rows ≡ q))
    (λ i. flat_map (λ front. map (λ x. front ++ x ∷ []) (places i)) (c.as_slice-in-Stepped.ensures i)) c.with_each-in-Stepped.ensures
