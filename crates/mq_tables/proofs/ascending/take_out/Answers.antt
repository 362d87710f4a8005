use Rattle.std.proofs.Common.{◌≡◌, ◌<◌, List, length, get_or, Equal, sym, ap, ◌∙◌, subst}
use Rattle.std.specs.Prelude.{is_ok}
use Rattle.std.specs.List.Sorted.{IsStrictlySortedBy}
use Rattle.mq_values.specs.Order.{cmp_key}
use Rattle.mq_ir.specs.Keys.{Tuple, is_among}
use Rattle.mq_tables.proofs.AscendingLemmas.{found}
use Rattle.mq_tables.proofs.RemovalLemmas.{ascends_still, lost_at, lost_none}
use Rattle.mq_tables.proofs.ascending.take_out.Goals as goal

pub returns-in-Ok-clause-lost : goal.returns-in-Ok-clause-lost
returns-in-Ok-clause-lost c =
    let same = c.deref.ensures.value in
    lost_at c.args.keys.now.items c.remove.new.self.items c.args.key.now c.in-Ok.at c.requires (subst (λ (l : List Tuple). c.in-Ok.at < length l) same c.in-Ok.ensures.bound)
    (subst (λ (l : List Tuple). cmp_key (get_or l c.in-Ok.at c.args.key.now) c.args.key.now ≡ Equal) same (c.in-Ok.ensures.position c.args.key.now)) c.remove.ensures.items

pub returns-in-Ok-clause-ascending : goal.returns-in-Ok-clause-ascending
returns-in-Ok-clause-ascending c =
    ascends_still c.args.keys.now.items c.remove.new.self.items c.in-Ok.at c.requires (subst (λ (l : List Tuple). c.in-Ok.at < length l) c.deref.ensures.value c.in-Ok.ensures.bound)
    c.remove.ensures.items

pub returns-in_default-clause-lost : goal.returns-in_default-clause-lost
returns-in_default-clause-lost c =
    let same = c.deref.ensures.value in
    let key = c.args.key.now in
    lost_none c.args.keys.now.items key
    (sym (ap (λ (l : List Tuple). is_among l key) same)
    ∙ sym (found c.deref.result.now key (subst (IsStrictlySortedBy cmp_key) (sym same) c.requires) c.binary_search.result c.binary_search.ensures.bound c.binary_search.ensures.position)
    ∙ ap is_ok c.in_default.is)
