use Rattle.std.proofs.Common.{◌≡◌, ℕ, length, arith, refl, subst}
use Rattle.std.proofs.lemmas.Result.{on_ok_weaker}
use Rattle.mq_cells.specs.Stores.{cell_name}
use Rattle.mq_delta_cells.specs.Readers.{HasMore, Readers}
use Rattle.mq_delta_cells.specs.Tables.{NumbersBy}
use Rattle.mq_delta_cells.specs.declared.reader_table.Link.{Link}
use Rattle.mq_delta_cells.proofs.ReaderLemmas.{noted_itself, noted_more}
use Rattle.mq_delta_cells.proofs.reader_table.ReaderTable.note.Goals as goal

pub returns-clause-more : goal.returns-clause-more
returns-clause-more c =
    let keys = c.args.cells.now in
    let inside = c.self.inside in
    let name = cell_name c.args.key.now c.args.m in
    let link : Link = record { place = c.args.place; earlier = c.in_ok-earlier.earlier } in
    let were : Readers = record { last = inside.last; links = inside.links.items } in
    let are : Readers = record { last = c.put.new.self; links = c.push.new.self.items } in
    let numbered : c.in-Ok.number ≡ length inside.links.items = omega (arith, c.in-Ok.ensures, c.len.ensures) in
    on_ok_weaker c.put.result
    (λ put.
    subst (λ (r : Readers). HasMore keys r are) c.self.view_is
    (noted_more keys were are name c.args.place link c.in_ok-push.ensures.items refl c.in_ok-earlier.ensures
    (subst (λ (n : ℕ). NumbersBy keys inside.last c.put.new.self name n) numbered put))) c.put.ensures

pub returns-clause-noted : goal.returns-clause-noted
returns-clause-noted c =
    let keys = c.args.cells.now in
    let inside = c.self.inside in
    let name = cell_name c.args.key.now c.args.m in
    let link : Link = record { place = c.args.place; earlier = c.in_ok-earlier.earlier } in
    let were : Readers = record { last = inside.last; links = inside.links.items } in
    let are : Readers = record { last = c.put.new.self; links = c.push.new.self.items } in
    let numbered : c.in-Ok.number ≡ length inside.links.items = omega (arith, c.in-Ok.ensures, c.len.ensures) in
    on_ok_weaker c.put.result
    (λ put.
    noted_itself keys were are name c.args.place link c.in_ok-push.ensures.items refl c.in_ok-earlier.ensures
    (subst (λ (n : ℕ). NumbersBy keys inside.last c.put.new.self name n) numbered put)) c.put.ensures
