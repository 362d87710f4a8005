use Rattle.std.proofs.Common.{◌≡◌, ◌+◌, ◌≤◌, Ok, sym, subst}
use Rattle.mq_ir.specs.Unfolding.{model_of}
use Rattle.mq_auto_shape.specs.Found.{shape_meant}
use Rattle.mq_delta_cells.proofs.PropagateLemmas.{change_over, found_done, is_shaped, most_are}
use Rattle.mq_delta_cells.proofs.propagating.propagate.Goals as goal

pub returns-in_err-propagate_over-in-Ok-clause-reads : goal.returns-in_err-propagate_over-in-Ok-clause-reads
returns-in_err-propagate_over-in-Ok-clause-reads g c =
    let model = model_of c.args.m.now in
    let keys = c.args.new.now in
    let old = c.args.old.now in
    let shape = c.in-Ok.it.shape in
    let given = g.C.Cells.input c.args.cells.now in
    let results = g.C.Cells.results c.args.cells.now in
    let found : Ok shape ≡ shape_meant model keys = rw c.in-Ok.is at c.in_ok-found.ensures.exact in
    let base = (rw c.in-Ok.is at c.in_ok-found.ensures.shape).base in
    λ before after change.
    subst (λ k. g.C.Cells.looks c.propagate_over.new.cells ≤ g.C.Cells.looks c.args.cells.now + k)
    (sym (most_are model keys old shape c.args.moved.now before after given results change found))
    (c.propagate_over.ensures.reads before after (is_shaped model keys old shape c.args.moved.now before after given results change found c.requires.ready.ascend)
    (change_over model keys old shape c.args.moved.now before after given results change found base))

pub returns-in_ok-propagate_over-in-Ok-clause-values : goal.returns-in_ok-propagate_over-in-Ok-clause-values
returns-in_ok-propagate_over-in-Ok-clause-values g c =
    let model = model_of c.args.m.now in
    let keys = c.args.new.now in
    let old = c.args.old.now in
    let shape = c.in-Ok.it.shape in
    let given = g.C.Cells.input c.args.cells.now in
    let results = g.C.Cells.results c.args.cells.now in
    let found : Ok shape ≡ shape_meant model keys = rw c.in-Ok.is at c.in_ok-found.ensures.exact in
    let base = (rw c.in-Ok.is at c.in_ok-found.ensures.shape).base in
    λ before after change.
    c.in_ok-propagate_over-in-Ok.ensures.values before after
    (is_shaped model keys old shape c.args.moved.now before after given results change found c.requires.ready.ascend)
    (change_over model keys old shape c.args.moved.now before after given results change found base)

pub returns-in_ok-propagate_over-in-Ok-clause-unaffected : goal.returns-in_ok-propagate_over-in-Ok-clause-unaffected
returns-in_ok-propagate_over-in-Ok-clause-unaffected g c =
    let model = model_of c.args.m.now in
    let keys = c.args.new.now in
    let old = c.args.old.now in
    let shape = c.in-Ok.it.shape in
    let given = g.C.Cells.input c.args.cells.now in
    let results = g.C.Cells.results c.args.cells.now in
    let found : Ok shape ≡ shape_meant model keys = rw c.in-Ok.is at c.in_ok-found.ensures.exact in
    let base = (rw c.in-Ok.is at c.in_ok-found.ensures.shape).base in
    λ before after change.
    c.in_ok-propagate_over-in-Ok.ensures.unaffected before after
    (is_shaped model keys old shape c.args.moved.now before after given results change found c.requires.ready.ascend)
    (change_over model keys old shape c.args.moved.now before after given results change found base)

pub returns-in_ok-propagate_over-in-Ok-clause-reads : goal.returns-in_ok-propagate_over-in-Ok-clause-reads
returns-in_ok-propagate_over-in-Ok-clause-reads g c =
    let model = model_of c.args.m.now in
    let keys = c.args.new.now in
    let old = c.args.old.now in
    let shape = c.in-Ok.it.shape in
    let given = g.C.Cells.input c.args.cells.now in
    let results = g.C.Cells.results c.args.cells.now in
    let found : Ok shape ≡ shape_meant model keys = rw c.in-Ok.is at c.in_ok-found.ensures.exact in
    let base = (rw c.in-Ok.is at c.in_ok-found.ensures.shape).base in
    λ before after change.
    subst (λ k. g.C.Cells.looks c.propagate_over.new.cells ≤ g.C.Cells.looks c.args.cells.now + k)
    (sym (most_are model keys old shape c.args.moved.now before after given results change found))
    (c.propagate_over.ensures.reads before after (is_shaped model keys old shape c.args.moved.now before after given results change found c.requires.ready.ascend)
    (change_over model keys old shape c.args.moved.now before after given results change found base))

pub returns-in_ok-propagate_over-in-Ok-clause-verdict : goal.returns-in_ok-propagate_over-in-Ok-clause-verdict
returns-in_ok-propagate_over-in-Ok-clause-verdict g c =
    let model = model_of c.args.m.now in
    let shape = c.in-Ok.it.shape in
    let found : Ok shape ≡ shape_meant model c.args.new.now = rw c.in-Ok.is at c.in_ok-found.ensures.exact in
    found_done model c.args.new.now shape found
