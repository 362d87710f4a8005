use Rattle.std.proofs.Common.{rules, ◌≡◌, None, List, sym, subst, ◌∙◌}
use Rattle.mq_ir.specs.Keys.{Tuple}
use Rattle.mq_delta_parts.specs.Changed.{IsChangeIn}
use Rattle.mq_delta_parts.specs.Edits.{Ascends, amended}
use Rattle.mq_delta_parts.proofs.InputLemmas.{input_is, none_where_repeated, none_where_twice, old_cells_ascend, some_where_once}
use Rattle.mq_delta_parts.proofs.inputs.input_after.Goals as goal

pub returns-then-is_some-clause-none : goal.returns-then-is_some-clause-none
returns-then-is_some-clause-none c = λ before after in_rows. none_where_repeated c.args.old.now _ (search rules)

pub returns-in-Some : goal.returns-in-Some
returns-in-Some c =
    let part = c.args.part.now in
    let old = c.args.old.now in
    let gone = c.args.gone.now in
    let come = c.args.come.now in
    let once : old.repeated ≡ None = search rules in
    let told = λ (before after : List Tuple) (in_rows : IsChangeIn part old gone come before after).
    sym c.in-Some.is
    ∙ c.in_ok-cells.ensures (subst Ascends (sym c.as_slice.ensures) (old_cells_ascend part old gone come before after in_rows once))
    ∙ (λ i. amended (c.as_slice.ensures i) ((c.deref.ensures.value ∙ c.in_ok-edits.ensures) i)) in
    record {
      input =
          λ before after in_rows.
          input_is part old gone come before after in_rows once c.in-Some.cells (told before after in_rows) _
          (λ i. record { key = c.in_ok-copy-in-Some.ensures i; cells = c.in-Some.cells; repeated = None });
      none = λ before after in_rows. some_where_once part old gone come before after in_rows once c.in-Some.cells (told before after in_rows);
    }

pub returns : goal.returns
returns c =
    let part = c.args.part.now in
    let old = c.args.old.now in
    let gone = c.args.gone.now in
    let come = c.args.come.now in
    let once : old.repeated ≡ None = search rules in
    record {
      input = λ before after in_rows. tt;
      none =
          λ before after in_rows.
          none_where_twice part old gone come before after in_rows once
          (sym c.in-None.is
          ∙ c.in_ok-cells.ensures (subst Ascends (sym c.as_slice.ensures) (old_cells_ascend part old gone come before after in_rows once))
          ∙ (λ i. amended (c.as_slice.ensures i) ((c.deref.ensures.value ∙ c.in_ok-edits.ensures) i)));
    }
