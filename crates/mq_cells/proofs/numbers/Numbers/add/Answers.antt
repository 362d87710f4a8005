use Rattle.std.proofs.Common.{is_some, true≢false, sym, ap, subst, ◌∙◌}
use Rattle.std.specs.List.Sorted.{IsStrictlySortedBy}
use Rattle.mq_values.specs.Order.{cmp_key}
use Rattle.mq_cells.specs.Numberings.{Numbering, number_of}
use Rattle.mq_cells.proofs.NumberLemmas.{kept}
use Rattle.mq_cells.proofs.numbers.Numbers.add.Goals as goal

pub returns-in-Some-clause-keys : goal.returns-in-Some-clause-keys
returns-in-Some-clause-keys c =
    let cells = c.args.self.now in
    sym (
    kept cells c.args.key.now c.in-Some.number (subst (λ (s : Numbering). IsStrictlySortedBy cmp_key s.keys) c.self.view_is c.keys.ensures.ascending)
    (ap (number_of cells) (sym c.as_slice.ensures) ∙ sym c.in-Some.ensures.found)
    )

pub returns-in-None-clause-there : goal.returns-in-None-clause-there
returns-in-None-clause-there c = λ some. absurd (true≢false (sym some ∙ ap is_some (ap (number_of c.args.self.now) (sym c.as_slice.ensures) ∙ sym c.in-None.ensures.found)))
