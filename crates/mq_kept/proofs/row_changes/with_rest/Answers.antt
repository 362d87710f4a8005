use Rattle.std.proofs.Common.{◌++◌, ap, ◌∙◌}
use Rattle.mq_kept.proofs.RowChangeLemmas.{rest_further}
use Rattle.mq_kept.proofs.row_changes.with_rest.Goals as goal

pub returns : goal.returns
returns c =
    λ changed.
    rest_further c.args.old.now c.args.new.now c.args.at c.args.beside c.args.change (record { gone = c.add_rows.new.rows; come = c.add_rows-2.new.rows }) changed
    (c.in_ok-add_rows.ensures ∙ ap (λ rows. c.args.change.gone ++ rows) c.behind-gone.ensures)
    (c.in_ok-add_rows-2.ensures ∙ ap (λ rows. c.args.change.come ++ rows) c.behind-come.ensures)
