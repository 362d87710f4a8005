use Rattle.std.proofs.Common.{List, [], ◌∷◌, ◌++◌, sym, ap, ◌∙◌, subst}
use Rattle.std.specs.List.Sorted.{IsStrictlySortedBy}
use Rattle.mq_values.specs.Order.{cmp_key}
use Rattle.mq_ir.specs.Keys.{Tuple, is_among}
use Rattle.mq_tables.proofs.StandingLemmas.{absent_standing, put_to_end}
use Rattle.mq_tables.proofs.ascending.Ascending.push.Goals as goal

pub returns-clause-new : goal.returns-clause-new
returns-clause-new c = λ _.
    let own = c.self.inside in
    let key = c.args.key.now in
    let follows = subst (λ (l : List Tuple). IsStrictlySortedBy cmp_key (l ++ key ∷ [])) c.as_slice.ensures.value (c.comes_behind.ensures c.if-not-comes_behind.false) in
    sym (ap (λ (l : List Tuple). is_among l key) c.self.view_is) ∙ absent_standing own.gone.keys own.keys.items key follows

pub returns-clause-put : goal.returns-clause-put
returns-clause-put c = λ _.
    let own = c.self.inside in
    let key = c.args.key.now in
    let follows = subst (λ (l : List Tuple). IsStrictlySortedBy cmp_key (l ++ key ∷ [])) c.as_slice.ensures.value (c.comes_behind.ensures c.if-not-comes_behind.false) in
    put_to_end own.gone.keys own.keys.items c.push.new.self.items key c.self.invariant follows (c.in_ok-push.ensures.items ∙ ap (λ (k : Tuple). own.keys.items ++ k ∷ []) c.in_ok-copy.ensures)
    ∙ ap (λ (l : List Tuple). l ++ key ∷ []) c.self.view_is
