use Rattle.std.proofs.Common.{Ok, Err}
use Rattle.std.proofs.lemmas.Result.{err_from_is_err_and}
use Rattle.mq_tool.proofs.BlockLemmas.{entries_seen}
use Rattle.mq_tool.proofs.LoadLemmas.{loads, loads_none}
use Rattle.mq_tool.proofs.StepLemmas.{stops}
use Rattle.mq_tool.proofs.loads.load.Goals as goal

pub returns-in_err-rows-clause-done : goal.returns-in_err-rows-clause-done
returns-in_err-rows-clause-done g c =
    let r = c.from_residual in
    let p = err_from_is_err_and r.result r.ensures.1 in
    let old = c.args.engine.now in
    let catalog = c.catalog.result.now in
    let e = c.in_err-rows.field-0.0 in
    λ told line is. rw (p.1, p.2) (loads_none told line old catalog c.args.table c.args.file.now c.args.out.now.items e
    (entries_seen old catalog c.catalog.ensures.there c.catalog.ensures.pending) (c.in_err-rows.ensures.exact told is))

pub returns-in_err-append-clause-done : goal.returns-in_err-append-clause-done
returns-in_err-append-clause-done g c =
    let r = c.from_residual-in_err-append in
    let p = err_from_is_err_and r.result r.ensures.1 in
    let old = c.args.engine.now in
    let catalog = c.catalog.result.now in
    let rows = c.in_ok-rows.rows.items in
    let e = c.in_err-append.field-0.0 in
    λ told line is. rw (p.1, p.2) (stops _ old c.append.new.engine c.args.out.now.items c.append.new.out.items e
    (loads told line old c.append.new.engine catalog c.args.table c.args.file.now rows c.args.out.now.items c.append.new.out.items (Err e)
    (entries_seen old catalog c.catalog.ensures.there c.catalog.ensures.pending) (c.in_ok-rows.ensures.exact told is) c.in_err-append.ensures))

pub returns-clause-done : goal.returns-clause-done
returns-clause-done g c =
    let old = c.args.engine.now in
    let catalog = c.catalog.result.now in
    let rows = c.in_ok-rows.rows.items in
    let flaw = c.in_ok-append.field-0 in
    λ told line is. loads told line old c.append.new.engine catalog c.args.table c.args.file.now rows c.args.out.now.items c.append.new.out.items (Ok flaw)
    (entries_seen old catalog c.catalog.ensures.there c.catalog.ensures.pending) (c.in_ok-rows.ensures.exact told is) c.in_ok-append.ensures
