use Rattle.std.proofs.Common.{◌≡◌, rules, ◌<◌, not, ◌++◌, ◌∷◌, [], length, take, drop, sym, ap, subst, ◌∙◌, append_assoc, arith}
use Rattle.std.proofs.lemmas.List.{length-drop}
use Rattle.mq_ir.specs.Rising.{Rising}
use Rattle.mq_shape.specs.Runs.{by_parts, input_from, inputs_in, has_parts}
use Rattle.mq_shape.proofs.RunLemmas.{low_first, parts_total, run_some, run_taken}
use Rattle.mq_ir.specs.SortLaws.{rising_kept}
use Rattle.mq_shape.proofs.runs.inputs.Goals as goal

pub run_length-count-requires-clause-least : goal.run_length-count-requires-clause-least
run_length-count-requires-clause-least c =
    low_first c.args.q.now.parts c.index-rest-0.result c.loop-rest.rest.now c.index-rest-0.is c.loop-rest.invariant.rising

pub loop-rest-smaller : goal.loop-rest-smaller
loop-rest-smaller c =
    let parts = c.args.q.now.parts in
    let rest = c.loop-rest.rest.now in
    let n = c.run_length-count.result in
    let long : 0 < length rest = search rules in
    let some : 0 < n = run_some parts c.index-rest-0.result rest n long c.index-rest-0.is c.run_length-count.ensures.run in
    let less : length c.split_at.result.1.now < length rest = omega (arith, ap length c.split_at.ensures.back, length-drop n rest) in
    less

pub loop-rest-preserved : goal.loop-rest-preserved
loop-rest-preserved c =
    let q = c.args.q.now in
    let parts = q.parts in
    let rest = c.loop-rest.rest.now in
    let n = c.run_length-count.result in
    let first = c.index-rest-0.result in
    let long : 0 < length rest = search rules in
    let taken = run_taken q first rest n long c.index-rest-0.is c.run_length-count.ensures.run c.run_length-count.ensures.others in
    let others = c.split_at.ensures.back in
    let made : c.in_ok-input_of.field-0 ≡ input_from q (take parts first) (take n rest) = c.in_ok-input_of.ensures ∙ (λ i. input_from q ((c.up_to.ensures ∙ ap (take parts) c.as_slice.ensures) i) (c.split_at.ensures.front i)) in
    record {
      inputs =
          c.loop-rest.invariant.inputs
          ∙ ap (λ l. c.loop-rest.inputs ++ l) (taken ∙ (λ i. sym made i ∷ inputs_in q (sym others i)))
          ∙ sym (append_assoc c.loop-rest.inputs (c.in_ok-input_of.field-0 ∷ []) (inputs_in q c.split_at.result.1.now))
          ∙ ap (λ l. l ++ inputs_in q c.split_at.result.1.now) (sym c.in_ok-push.ensures.ok);
      rising =
          subst (Rising (by_parts parts)) (sym (others ∙ c.run_length-count.ensures.others))
          (rising_kept (parts_total parts) (λ row. not (has_parts parts (take parts first) row)) rest c.loop-rest.invariant.rising);
    }
