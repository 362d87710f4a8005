use Rattle.std.proofs.Common.{List, not, ◌&&◌, ap, ◌∙◌}
use Rattle.mq_ir.specs.Keys.{Tuple, is_among}
use Rattle.mq_tables.proofs.StandingLemmas.{lost_at_once}
use Rattle.mq_tables.proofs.ascending.Ascending.lose_all.Goals as goal

pub returns : goal.returns
returns c q =
    let own = c.self.inside in
    let gone = c.args.gone.now.keys in
    lost_at_once own.gone.keys gone own.keys.items c.settle.new.keys.items c.settle.new.gone.keys c.keep_others.new.keys.items c.settle.ensures.left c.settle.ensures.none c.keep_others.ensures.left q
    ∙ ap (λ (l : List Tuple). is_among l q && not (is_among gone q)) c.self.view_is
