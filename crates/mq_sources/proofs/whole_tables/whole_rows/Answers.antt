use Rattle.std.proofs.Common.{◌≡◌, ℕ, true, Ok, length, sym, ap, ◌∙◌}
use Rattle.std.specs.Prelude.{◌==◌}
use Rattle.std.specs.List.{list_all}
use Rattle.mq_ir.specs.Partitions.{Tuple}
use Rattle.mq_sources.proofs.WholeLemmas.{whole_is}
use Rattle.mq_sources.proofs.whole_tables.whole_rows.Goals as goal

pub returns : goal.returns
returns g c =
    let rows = c.in-Some.rows.now in
    let wide : list_all (λ (row : Tuple). length row == length c.args.part.now.items) rows ≡ true =
    ap (λ (n : ℕ). list_all (λ (row : Tuple). length row == n) rows) (sym c.len.ensures) ∙ sym c.have_width.ensures ∙ c.if-not-have_width.false in
    whole_is (g.T.TableSet.tables c.args.tables.now) c.args.from.now c.args.part.now rows
    (c.takes_all.ensures.conditions c.if-not-takes_all.false)
    (c.takes_all.ensures.group c.if-not-takes_all.false)
    (c.takes_all.ensures.items c.if-not-takes_all.false)
    c.in-Some.ensures
    c.if-rows-gt-MAX_BASE_ROWS.false
    wide
    ∙ ap Ok (sym c.in_ok-copies.ensures)
