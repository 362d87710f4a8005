use Rattle.std.proofs.Common.{◌≡◌, ap, length, replicate, sym, subst, ◌∙◌}
use Rattle.std.specs.Map.{keys_of}
use Rattle.std.proofs.lemmas.Map.Views.{All-keys-insert_entry}
use Rattle.mq_values.specs.Order.{cmp_key}
use Rattle.mq_values.specs.declared.value.Value.TheVariants.{Null}
use Rattle.mq_ir.specs.Keys.{Tuple}
use Rattle.mq_ir.specs.Ready.{HaveLength}
use Rattle.mq_seq.specs.Marks.{Marked, cell_with}
use Rattle.mq_seq.specs.Steps.{State}
use Rattle.mq_seq.proofs.grid.Grid.with_one.Goals as goal

pub invariant_of-result : goal.invariant_of-result
invariant_of-result c =
    let g = c.self.inside in
    let cells = c.in_ok-cells.ensures ∙ ap (cell_with c.in_ok-copy.field-0) c.cells.view_is ∙ ap (λ (key : Tuple). cell_with key g.cells) c.in_ok-copy.ensures in
    subst (λ (m : Marked). HaveLength g.width (keys_of m.cells)) (sym cells)
    (All-keys-insert_entry cmp_key c.args.key.now (replicate g.cells.count Null) (λ k. length k ≡ g.width) g.cells.cells c.self.invariant (c.requires.wide ∙ sym (ap (λ (s : State). s.width) c.self.view_is)))
