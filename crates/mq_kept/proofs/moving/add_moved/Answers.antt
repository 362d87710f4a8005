use Rattle.std.proofs.Common.{◌+◌, ◌≤◌, ◌||◌, Vec, Global, sym, ap, subst, ◌∙◌, arith}
use Rattle.mq_ir.specs.declared.query.CellName.{CellName}
use Rattle.mq_ir.specs.Keys.{Tuple}
use Rattle.mq_delta_cells.specs.Seeds.{is_moved}
use Rattle.mq_kept.specs.Moved.{moves_at}
use Rattle.mq_kept.proofs.MovedLemmas.{AddedBelow, added_start, added_same, added_more, added_all}
use Rattle.mq_kept.proofs.moving.add_moved.Goals.{then-is_other+in_ok-key+in_ok-push, else-is_other}
use Rattle.mq_kept.proofs.moving.add_moved.Goals as goal

pub measures-init : goal.measures-init
measures-init c = added_start c.args.key.now c.as_slice-were.result.now c.as_slice-are.result.now c.args.moved.now.items

pub measures-preserved : goal.measures-preserved
measures-preserved c =
    let key = c.args.key.now in
    let were = c.as_slice-were.result.now in
    let are = c.as_slice-are.result.now in
    let first = c.args.moved.now.items in
    let n = c.measures.measure in
    let moved = c.measures.moved.items in
    let Holds = λ (v : Vec CellName Global). AddedBelow key were are first (n + 1) v.items in
    elim c.if-is_other.branch [
      | then-is_other+in_ok-key+in_ok-push w ↦
          subst Holds (sym w.moved-is)
          (added_more key were are first n moved c.measures.invariant w.in_ok-key.key w.push.new.self.items (sym c.is_other.ensures ∙ w.if-is_other.true) w.in_ok-key.ensures
          w.in_ok-push.ensures.items)
      | else-is_other w ↦
          subst Holds (sym w.moved-is) (added_same key were are first n moved c.measures.invariant (sym c.is_other.ensures ∙ w.if-is_other.false))
    ]

pub returns : goal.returns
returns c =
    let key = c.args.key.now in
    let were = c.as_slice-were.result.now in
    let are = c.as_slice-are.result.now in
    let first = c.args.moved.now.items in
    let n = c.measures.measure in
    let all : c.longer.result ≤ n = omega (arith, c.in-Ok.ensures.1, c.measures-test.false) in
    λ name.
    added_all key were are first n c.measures.moved.items c.measures.invariant (omega (arith, all, c.longer.ensures.a)) (omega (arith, all, c.longer.ensures.b)) name
    ∙ ap (λ (t : Tuple). is_moved first name || moves_at key t are name) c.as_slice-were.ensures
    ∙ ap (λ (t : Tuple). is_moved first name || moves_at key c.args.were.now t name) c.as_slice-are.ensures
