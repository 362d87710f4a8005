use Rattle.std.proofs.Common.{[], ◌∷◌, ◌++◌, take, Some, None, if◌then◌else◌, sym, ap, ◌∙◌}
use Rattle.std.specs.Option.{option_or}
use Rattle.std.proofs.lemmas.List.{take_more}
use Rattle.mq_ir.specs.Keys.{Tuple, is_same}
use Rattle.mq_ir.specs.Partitions.{Cells, cell_at}
use Rattle.mq_cells.proofs.GatherLemmas.{cell_behind, take_whole}
use Rattle.mq_cells.proofs.NumberLemmas.{grown_on}
use Rattle.mq_cells.proofs.gather.fill.Goals as goal

pub loop-key-preserved : goal.loop-key-preserved
loop-key-preserved c =
    let input = c.args.input.now in
    let at = c.loop-key.key-index in
    let cell = c.loop-key-item.result in
    record {
      input = λ q.
          c.in_ok-give.ensures.input q ∙ ap (λ o. option_or o (if is_same cell.0 q then Some cell.1 else None)) (c.loop-key.invariant.input q)
          ∙ sym (
          ap (λ (cells : Cells). cell_at cells q) (take_more input at cell c.loop-key-test.true ∙ ap (λ (x : Tuple × Tuple). take at input ++ x ∷ []) (sym c.loop-key-item.is))
          ∙ cell_behind (take at input) cell.0 cell.1 q
          );
      free = c.in_ok-give.ensures.free;
      grows = grown_on c.args.cells c.loop-key.cells c.give.new.cells c.loop-key.invariant.grows c.give.ensures.grows;
    }

pub returns-clause-input : goal.returns-clause-input
returns-clause-input c =
    let input = c.args.input.now in
    λ i q. (c.loop-key.invariant.input q ∙ ap (λ (cells : Cells). cell_at cells q) (take_whole input c.loop-key.key-index c.loop-key-test.false)) i
