use Rattle.std.proofs.Common.{◌≡◌, None, Some, sym, ap, subst, ◌∙◌}
use Rattle.std.proofs.lemmas.Result.{on_ok_weaker}
use Rattle.mq_dim_index.specs.Places.{place_of}
use Rattle.mq_ir.specs.Keys.{Tuple}
use Rattle.mq_cells.specs.Stores.{cell_name}
use Rattle.mq_delta_cells.specs.Nodes.{Numbers}
use Rattle.mq_delta_cells.proofs.TableLemmas.{put_named, put_placed, put_seen}
use Rattle.mq_delta_cells.proofs.number_table.NumberTable.put.Goals as goal

pub returns-in-Some : goal.returns-in-Some
returns-in-Some c =
    let inside = c.self.inside in
    let key = c.args.key.now in
    let at : place_of c.args.cells.now key ≡ Some c.in-Some.place = ap (place_of c.args.cells.now) (sym c.as_slice.ensures) ∙ sym c.place_near.ensures ∙ c.in-Some.is in
    on_ok_weaker c.put.result
    (λ put. put_seen c.args.cells.now c.args.self.now (record { lanes = inside.lanes; elsewhere = inside.elsewhere }) (record { lanes = c.put.new.self; elsewhere = inside.elsewhere })
    (cell_name key c.args.m) c.args.number c.self.view_is
    (put_placed c.args.cells.now key c.args.m c.args.number inside.lanes c.put.new.self inside.elsewhere c.in-Some.place at put)) c.put.ensures.ok

pub returns-in_ok-copy-in-None : goal.returns-in_ok-copy-in-None
returns-in_ok-copy-in-None c =
    let inside = c.self.inside in
    let key = c.args.key.now in
    let none : place_of c.args.cells.now key ≡ None = ap (place_of c.args.cells.now) (sym c.as_slice.ensures) ∙ sym c.place_near.ensures ∙ c.in-None.is in
    on_ok_weaker c.put-in-None.result
    (λ put. put_seen c.args.cells.now c.args.self.now (record { lanes = inside.lanes; elsewhere = inside.elsewhere }) (record { lanes = inside.lanes; elsewhere = c.put-in-None.new.self })
    (cell_name key c.args.m) c.args.number c.self.view_is
    (put_named c.args.cells.now key c.args.m c.args.number inside.lanes inside.elsewhere c.put-in-None.new.self none
    (subst (λ (k : Tuple). Numbers inside.elsewhere c.put-in-None.new.self (cell_name k c.args.m) c.args.number) c.in_ok-copy-in-None.ensures put))) c.put-in-None.ensures.ok
