use Rattle.std.proofs.Common.{◌≡◌, ◌||◌, List, subst}
use Rattle.mq_ir.specs.Keys.{Tuple, is_among}
use Rattle.mq_delta_cells.specs.Seeds.{is_missing}
use Rattle.mq_delta_cells.proofs.StartLemmas.{odd_is}
use Rattle.mq_delta_cells.proofs.starting.odd_keys.Goals as goal

pub returns : goal.returns
returns c =
    let of_were = c.in_ok-of_were.of_were in
    odd_is c.args.were.now c.args.are.now of_were c.new-odd.result c.put_missing.new.odd c.put_missing-2.new.odd c.in_ok-of_were.ensures c.new-odd.ensures
    c.in_ok-put_missing.ensures
    (subst (λ (keys : List Tuple). (q : Tuple) → is_among c.put_missing-2.new.odd q ≡ (is_among c.put_missing.new.odd q || is_missing keys of_were q)) c.keys.ensures.all
    c.in_ok-put_missing-2.ensures)
