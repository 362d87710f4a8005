-- The place of a cell, as a run.
use Rattle.std.proofs.Common.{◌≡◌, ℕ, ◌+◌, ◌-◌, ◌<◌, List, [], length, Some, sym, ap, arith, ◌∙◌}
use Rattle.std.specs.BTreeMap.{is_at}
use Rattle.std.specs.List.{cons_option, filter_map, range_with_len}
use Rattle.std.specs.Option.{option_and_then}
use Rattle.std.proofs.lemmas.Iterator.Adapters.{position_from-zero}
use Rattle.mq_values.specs.Order.{cmp_key}
use Rattle.mq_dim_index.specs.Places.{place_of}
use Rattle.mq_ir.specs.Keys.{Tuple}
use Rattle.mq_cells.specs.LaneItems.{Lanes, lane_item}
use Rattle.mq_auto_shape.specs.declared.lane_reads.LaneRun.{LaneRun}
use Rattle.mq_auto_shape.specs.LaneRuns.{numbers_between, numbers_in}
use Rattle.mq_auto_shape.specs.Numbers.{Numbered, number_at}
use Rattle.mq_auto_shape.proofs.EdgeLemmas.{hit}

-- a place is one of the keys
pub place_below : (keys : List Tuple) (key : Tuple) (p : ℕ) → place_of keys key ≡ Some p → p < length keys
place_below keys key p e =
    let it = hit (is_at (cmp_key key)) 0 keys p (sym (position_from-zero (is_at (cmp_key key)) keys) ∙ e) in
    omega (arith, it.is, it.below)

-- one place has one number at most
one_number : (lanes : Lanes ℕ) (m p : ℕ) → numbers_between lanes m p (p + 1) ≡ cons_option (lane_item lanes m p) []
one_number lanes m p = ap (λ n. filter_map (lane_item lanes m) (range_with_len p n)) (let e : p + 1 - p ≡ 1 = omega arith in e)

pub run_is : (seen : Numbered) (keys : List Tuple) (lanes : Lanes ℕ) (key : Tuple) (m p : ℕ) (run : LaneRun) → record { keys = keys; lanes = lanes } ≡ seen
    → place_of keys key ≡ Some p → run ≡ record { measure = m; first = p; past = p + 1 } → numbers_in seen.lanes run ≡ cons_option (number_at seen key m) []
run_is seen keys lanes key m p run view place is =
    ap (numbers_in seen.lanes) is
    ∙ sym (ap (λ (s : Numbered). numbers_between s.lanes m p (p + 1)) view)
    ∙ one_number lanes m p
    ∙ sym (ap (λ o. cons_option (option_and_then (lane_item lanes m) o) []) place)
    ∙ ap (λ (s : Numbered). cons_option (number_at s key m) []) view
