use Rattle.std.proofs.Common.{rules, of_calls}
use Rattle.std.proofs.lemmas.Fn.{always_returns_same}
use Rattle.mq_values.specs.Order.{cmp_key}
use Rattle.mq_kept.specs.declared.kept_view.KeptPart.{KeptPart}
use Rattle.mq_kept.proofs.RenewLemmas.{found_at}
use Rattle.mq_kept.proofs.renewing_lent.place_of.Goals as goal

pub returns-in-Ok : goal.returns-in-Ok
returns-in-Ok c =
    let key = c.args.key.now in
    let told = c.binary_search_by.ensures.position (λ (kept : KeptPart). cmp_key kept.input.key key) (always_returns_same _ _ _ (λ a r f k. search (rules, of_calls))) in
    found_at c.args.parts.now key c.binary_search_by.result c.in-Ok.at c.in-Ok.is c.binary_search_by.ensures.bound told
