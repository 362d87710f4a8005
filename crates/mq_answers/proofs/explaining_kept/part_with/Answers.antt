use Rattle.std.proofs.Common.{Some, ap, subst, sym, rules, of_calls, ◌∙◌}
use Rattle.std.proofs.lemmas.Fn.{always_returns_same}
use Rattle.mq_values.specs.Order.{cmp_key}
use Rattle.mq_kept.specs.declared.kept_view.KeptPart.{KeptPart}
use Rattle.mq_kept.specs.Kept.{IsRight}
use Rattle.mq_answers.proofs.KeptExplainLemmas.{found_part, missed_part}
use Rattle.mq_answers.proofs.explaining_kept.part_with.Goals as goal

pub returns-in-Ok-clause-found : goal.returns-in-Ok-clause-found
returns-in-Ok-clause-found c = λ ascend.
    let key = c.args.key.now in
    let told = c.binary_search_by.ensures.position (λ (kept : KeptPart). cmp_key kept.input.key key) (always_returns_same _ _ _ (λ a r f k. search (rules, of_calls))) in
    ap (λ (kept : KeptPart). Some kept) c.index-parts-at.is
    ∙ found_part key c.args.parts.now c.binary_search_by.result c.in-Ok.at c.index-parts-at.result c.in-Ok.ensures.bound told c.in-Ok.is ascend

pub returns-in-Ok-clause-right : goal.returns-in-Ok-clause-right
returns-in-Ok-clause-right c = λ model all. subst (IsRight model) (sym c.index-parts-at.is) (all c.in-Ok.at c.index-parts-at.result c.in-Ok.ensures.bound)

pub returns-in-Err-clause-found : goal.returns-in-Err-clause-found
returns-in-Err-clause-found c =
    let key = c.args.key.now in
    let told = c.binary_search_by.ensures.position (λ (kept : KeptPart). cmp_key kept.input.key key) (always_returns_same _ _ _ (λ a r f k. search (rules, of_calls))) in
    missed_part key c.args.parts.now c.binary_search_by.result _ told c.in-Err.is
