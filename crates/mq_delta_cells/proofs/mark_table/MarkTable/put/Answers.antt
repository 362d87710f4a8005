use Rattle.std.proofs.Common.{◌≡◌, None, Some, sym, ap, subst, ◌∙◌}
use Rattle.std.proofs.lemmas.Result.{on_ok_weaker}
use Rattle.mq_dim_index.specs.Places.{place_of}
use Rattle.mq_ir.specs.Keys.{Tuple}
use Rattle.mq_cells.specs.Stores.{cell_name}
use Rattle.mq_delta_cells.specs.Nodes.{Numbers}
use Rattle.mq_delta_cells.proofs.MarkLemmas.{mark_seen, put_flag, put_name}
use Rattle.mq_delta_cells.proofs.mark_table.MarkTable.put.Goals as goal

pub returns-in-Some : goal.returns-in-Some
returns-in-Some c =
    let inside = c.self.inside in
    let key = c.args.key.now in
    let at : place_of c.args.cells.now key ≡ Some c.in-Some.place = ap (place_of c.args.cells.now) (sym c.as_slice.ensures) ∙ sym c.place_near.ensures ∙ c.in-Some.is in
    on_ok_weaker c.set_flag.result
    (λ set. mark_seen c.args.cells.now c.args.self.now (record { flags = inside.flags.items; elsewhere = inside.elsewhere })
    (record { flags = c.set_flag.new.flags.items; elsewhere = inside.elsewhere }) (cell_name key c.args.m) c.self.view_is
    (put_flag c.args.cells.now key c.args.m inside.flags.items c.set_flag.new.flags.items inside.elsewhere c.in-Some.place at set)) c.set_flag.ensures.ok

pub returns-in_ok-copy-in-None : goal.returns-in_ok-copy-in-None
returns-in_ok-copy-in-None c =
    let inside = c.self.inside in
    let key = c.args.key.now in
    let none : place_of c.args.cells.now key ≡ None = ap (place_of c.args.cells.now) (sym c.as_slice.ensures) ∙ sym c.place_near.ensures ∙ c.in-None.is in
    on_ok_weaker c.put.result
    (λ put. mark_seen c.args.cells.now c.args.self.now (record { flags = inside.flags.items; elsewhere = inside.elsewhere })
    (record { flags = inside.flags.items; elsewhere = c.put.new.self }) (cell_name key c.args.m) c.self.view_is
    (put_name c.args.cells.now key c.args.m inside.flags.items inside.elsewhere c.put.new.self 0 none
    (subst (λ (k : Tuple). Numbers inside.elsewhere c.put.new.self (cell_name k c.args.m) 0) c.in_ok-copy-in-None.ensures put))) c.put.ensures.ok
