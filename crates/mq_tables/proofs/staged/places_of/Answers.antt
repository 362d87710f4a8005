use Rattle.std.proofs.Common.{Some, [], ◌∷◌, ◌++◌, ap, sym, ◌∙◌, arith}
use Rattle.std.proofs.lemmas.List.FromFn.{map-range_with_len_more}
use Rattle.mq_tables.proofs.staged.places_of.Goals as goal

pub rows-preserved : goal.rows-preserved
rows-preserved c =
    c.in_ok-push.ensures.items
    ∙ ap (λ l. l ++ Some c.rows.at ∷ []) c.rows.invariant
    ∙ sym (map-range_with_len_more Some 0 c.rows.at c.rows.at (omega arith))
