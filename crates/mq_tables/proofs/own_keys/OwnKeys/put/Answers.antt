use Rattle.std.proofs.Common.{List, ◌++◌, ◌||◌, ap, ◌∙◌}
use Rattle.mq_ir.specs.Keys.{Tuple, is_among, is_same}
use Rattle.mq_values.specs.Order.{cmp_key}
use Rattle.std.specs.BTreeSet.{insert_key}
use Rattle.mq_tables.proofs.KeyLemmas.{among_inserted}
use Rattle.mq_tables.proofs.OwnLemmas.{put_first}
use Rattle.mq_tables.proofs.own_keys.OwnKeys.put.Goals as goal

pub returns-clause-put : goal.returns-clause-put
returns-clause-put c e q =
    let last = c.self.inside.last.keys in
    ap (λ (l : List Tuple). is_among (c.insert.new.self.keys ++ l) q) (c.in_ok-push.ensures.kept c.if-branch.false)
    ∙ put_first last c.insert.new.self.keys c.self.inside.behind c.args.key.now
    (λ k. ap (λ (l : List Tuple). is_among l k) (c.in_ok-insert.ensures.keys ∙ ap (insert_key cmp_key last) c.in_ok-copy.ensures) ∙ among_inserted k c.args.key.now last) q
    ∙ ap (λ (l : List Tuple). is_same q c.args.key.now || is_among l q) c.self.view_is
