use Rattle.std.proofs.Common.{length, sym, ap, ◌∙◌}
use Rattle.mq_join.specs.Kept.{PlaceRows}
use Rattle.mq_join.proofs.KeptLemmas.{tuples_long}
use Rattle.mq_join.proofs.kept_rows.PlaceRows.len.Goals as goal

pub returns : goal.returns
returns c = sym (tuples_long c.self.inside.width c.self.inside.count c.self.inside.places.items) ∙ ap (λ (p : PlaceRows). length p.rows) c.self.view_is
