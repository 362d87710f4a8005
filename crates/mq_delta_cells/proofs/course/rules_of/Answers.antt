use Rattle.std.proofs.Common.{◌≡◌, ◌+◌, ◌-◌, ◌<◌, arith, length, drop, subst, sym}
use Rattle.std.specs.List.{find}
use Rattle.std.specs.Option.{option_map}
use Rattle.mq_ir.specs.declared.query.CellName.{CellName}
use Rattle.mq_ir.specs.Shape.{Assignment, assigns}
use Rattle.mq_delta_cells.specs.Tables.{number_by}
use Rattle.mq_delta_cells.proofs.StartLemmas.{rules_next}
use Rattle.mq_delta_cells.proofs.course.rules_of.Goals as goal

pub putting-preserved : goal.putting-preserved
putting-preserved c =
    let xs = c.as_slice-assigned.result.now in
    let n = c.putting.at - 1 in
    let e : n + 1 ≡ c.putting.at = omega (arith, c.putting-test.true) in
    let lt : n < length xs = omega (arith, c.putting-test.true, c.putting.invariant.within) in
    record {
      within = omega (arith, lt);
      rules =
          rules_next c.args.cells.now xs n c.index-assigned-at.result c.putting.rules c.put.new.self lt c.index-assigned-at.is c.in_ok-put.ensures
          (subst (λ k. (d : CellName) → number_by c.args.cells.now c.putting.rules d ≡ option_map (λ (a : Assignment). a.2) (find (assigns d.measure d.key) (drop k xs))) (sym e) c.putting.invariant.rules);
    }
