use Rattle.std.proofs.Common.{rules, ◌≡◌, None}
use Rattle.std.specs.Prelude.{slice_index_or}
use Rattle.mq_delta_base.specs.Inverts.{Notes}
use Rattle.mq_delta_base.proofs.InvertLemmas.{noted_more}
use Rattle.mq_delta_base.proofs.moves.moves_of.Goals as goal

pub rows-preserved : goal.rows-preserved
rows-preserved c =
    let noted : Notes c.from.result c.rows.to c.rows.places c.note_row.new.places c.rows.touched c.note_row.new.touched = search rules in
    noted_more c.args.staged.now.origins c.rows.to c.rows.places c.note_row.new.places c.rows.touched c.note_row.new.touched c.from.result c.rows.invariant c.from.ensures noted
