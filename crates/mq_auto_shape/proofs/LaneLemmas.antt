-- Runs of places, the numbers that stand there, and what is left of them.
use Rattle.std.proofs.Common.{◌≡◌, ℕ, suc, zero, ◌+◌, ◌-◌, ◌<◌, ◌≤◌, true, false, ◌&&◌, List, [], ◌∷◌, ◌++◌, Option, Some, None, drop, length, get_or, take, refl, sym, ap, subst, ◌∙◌, arith}
use Rattle.std.specs.List.{All, Contains, cons_option, filter_map, list_all, range_with_len}
use Rattle.std.proofs.lemmas.List.{append-nil, append_assoc, get_or-append-add, get_or-map, get_or_append_left, length-append, length-map, map-id, take_all, take_more}
use Rattle.std.proofs.lemmas.List.FromFn.{map-range_with_len_more}
use Rattle.std.proofs.lemmas.List.Folds.{list_all-append}
use Rattle.std.proofs.lemmas.Grind.{flat_map-append}
use Rattle.std.proofs.lemmas.List.Concat.{flat_map-cons}
use Rattle.std.proofs.lemmas.List.Elements.{Contains-append_left, filter_map-append}
use Rattle.mq_levels.specs.Levels.{reads_of}
use Rattle.mq_levels.specs.Numbers.{has_number}
use Rattle.mq_levels.specs.Places.{EndsOpen, IsLeft}
use Rattle.mq_cells.specs.LaneItems.{Lanes, lane_item}
use Rattle.mq_auto_shape.specs.declared.lane_reads.LaneRun.{LaneRun}
use Rattle.mq_auto_shape.specs.declared.lane_reads.LanePlace.{LanePlace}
use Rattle.mq_auto_shape.specs.LaneRuns.{left_of, numbers_between, numbers_in, numbers_of, reads_in_lanes, runs_of}

abbrev Rounds : Type 0
Rounds = List (Option ℕ)

-- ---- what is left
pub all_left : (rounds : Rounds) (list : List ℕ) → IsLeft rounds list list
all_left rounds list = record { behind = []; is = sym (append-nil list); passed = refl }

-- more of it is passed
pub more_passed : (rounds : Rounds) (list left behind : List ℕ) → IsLeft rounds list (left ++ behind) → list_all (has_number rounds) behind ≡ true → IsLeft rounds list left
more_passed rounds list left behind l e = record {
  behind = behind ++ l.behind;
  is = l.is ∙ append_assoc left behind l.behind;
  passed = list_all-append (has_number rounds) behind l.behind ∙ (λ i. e i && l.passed i);
}

-- nothing is left
pub all_passed : (rounds : Rounds) (list left : List ℕ) → IsLeft rounds list left → left ≡ [] → list_all (has_number rounds) list ≡ true
all_passed rounds list left l e = ap (list_all (has_number rounds)) (l.is ∙ ap (λ front. front ++ l.behind) e) ∙ l.passed

-- what is left is of the list
pub left_within : (P : ℕ → Type 0) (rounds : Rounds) (list left : List ℕ) → IsLeft rounds list left → All P list → All P left
left_within P rounds list left l a k d m =
    subst P (get_or_append_left left l.behind d k m) (subst (All P) l.is a k d (let long = length-append left l.behind in omega arith))

-- what stands behind is within, where all is
pub behind_within : (P : ℕ → Type 0) (front run : List ℕ) → All P (front ++ run) → All P run
behind_within P front run a k d l = subst P (get_or-append-add front run k d) (a (length front + k) d (let long = length-append front run in omega arith))

-- something is left behind a front
pub behind_front : (rounds : Rounds) (all front mid left : List ℕ) → IsLeft rounds all (front ++ mid) → IsLeft rounds mid left → IsLeft rounds all (front ++ left)
behind_front rounds all front mid left a l =
    more_passed rounds all (front ++ left) l.behind
    (subst (IsLeft rounds all) (ap (λ xs. front ++ xs) l.is ∙ sym (append_assoc front left l.behind)) a) l.passed

-- ---- the numbers at the places of a run
range_more : (a n : ℕ) → range_with_len a (n + 1) ≡ range_with_len a n ++ (a + n) ∷ []
range_more a n =
    sym (map-id (range_with_len a (n + 1)))
    ∙ map-range_with_len_more (λ (x : ℕ). x) a n (a + n) refl
    ∙ ap (λ xs. xs ++ (a + n) ∷ []) (map-id (range_with_len a n))

module _ (lanes : Lanes ℕ) (m : ℕ) where
  -- the first place
  pub first_place : (at past : ℕ) → at < past → numbers_between lanes m at past ≡ cons_option (lane_item lanes m at) (numbers_between lanes m (at + 1) past)
  first_place at past l =
      ap (λ n. filter_map (lane_item lanes m) (range_with_len at n)) (let e : past - at ≡ suc (past - (at + 1)) = omega (arith, l) in e)

  -- the last place
  pub last_place : (first past : ℕ) → first < past → numbers_between lanes m first past ≡ numbers_between lanes m first (past - 1) ++ cons_option (lane_item lanes m (past - 1)) []
  last_place first past l =
      let n = past - 1 - first in
      let e : past - first ≡ n + 1 = omega (arith, l) in
      let at : first + n ≡ past - 1 = omega (arith, l) in
      ap (λ k. filter_map (lane_item lanes m) (range_with_len first k)) e
      ∙ ap (filter_map (lane_item lanes m)) (range_more first n)
      ∙ filter_map-append (lane_item lanes m) (range_with_len first n) ((first + n) ∷ [])
      ∙ ap (λ p. filter_map (lane_item lanes m) (range_with_len first n) ++ cons_option (lane_item lanes m p) []) at

  -- no place
  pub no_place : (first past : ℕ) → past ≤ first → numbers_between lanes m first past ≡ []
  no_place first past l = ap (λ n. filter_map (lane_item lanes m) (range_with_len first n)) (let e : past - first ≡ zero = omega (arith, l) in e)

  -- nothing stands at the first place
  pub none_first : (all : List ℕ) (at past : ℕ) → at < past → numbers_between lanes m at past ≡ all → lane_item lanes m at ≡ None → numbers_between lanes m (at + 1) past ≡ all
  none_first all at past l h e = ap (λ o. cons_option o (numbers_between lanes m (at + 1) past)) (sym e) ∙ sym (first_place at past l) ∙ h

  pub one_first : (all : List ℕ) (at past number : ℕ) → at < past → numbers_between lanes m at past ≡ all → lane_item lanes m at ≡ Some number → Contains all number
  one_first all at past number l h e =
      let is : number ∷ numbers_between lanes m (at + 1) past ≡ all = ap (λ o. cons_option o (numbers_between lanes m (at + 1) past)) (sym e) ∙ sym (first_place at past l) ∙ h in
      subst (λ (list : List ℕ). Contains list number) is (0, omega arith, refl)

  module _ (rounds : Rounds) (all : List ℕ) (first past : ℕ) (some : first < past) (left : IsLeft rounds all (numbers_between lanes m first past)) where
    parted : IsLeft rounds all (numbers_between lanes m first (past - 1) ++ cons_option (lane_item lanes m (past - 1)) [])
    parted = subst (IsLeft rounds all) (last_place first past some) left

    -- what stands at the last place is within
    pub last_within : (P : ℕ → Type 0) → All P all → All P (cons_option (lane_item lanes m (past - 1)) [])
    last_within P a =
        behind_within P (numbers_between lanes m first (past - 1)) (cons_option (lane_item lanes m (past - 1)) [])
        (left_within P rounds all (numbers_between lanes m first (past - 1) ++ cons_option (lane_item lanes m (past - 1)) []) parted a)

    pub last_passed : list_all (has_number rounds) (cons_option (lane_item lanes m (past - 1)) []) ≡ true → IsLeft rounds all (numbers_between lanes m first (past - 1))
    last_passed e = more_passed rounds all (numbers_between lanes m first (past - 1)) (cons_option (lane_item lanes m (past - 1)) []) parted e

    pub last_open : (read : ℕ) → lane_item lanes m (past - 1) ≡ Some read → has_number rounds read ≡ false → EndsOpen rounds all (numbers_between lanes m first past) read
    last_open read e o = record {
      is_left = left;
      before = numbers_between lanes m first (past - 1);
      ends = last_place first past some ∙ ap (λ it. numbers_between lanes m first (past - 1) ++ cons_option it []) e;
      is_open = o;
    }

-- ---- the numbers of runs
-- nothing stands in the first run that is left
pub none_in_run : (lanes : Lanes ℕ) (runs : List LaneRun) (i : ℕ) (run : LaneRun) (rest : List LaneRun) (all : List ℕ) → numbers_of lanes (drop i runs) ≡ all → drop i runs ≡ run ∷ rest → numbers_in lanes run ≡ [] → numbers_of lanes rest ≡ all
none_in_run lanes runs i run rest all h d e = ap (λ (front : List ℕ). front ++ numbers_of lanes rest) (sym e) ∙ sym (flat_map-cons (numbers_in lanes) run rest) ∙ sym (ap (numbers_of lanes) d) ∙ h

pub one_in_run : (lanes : Lanes ℕ) (runs : List LaneRun) (i : ℕ) (run : LaneRun) (rest : List LaneRun) (all : List ℕ) (number : ℕ) → numbers_of lanes (drop i runs) ≡ all → drop i runs ≡ run ∷ rest → Contains (numbers_in lanes run) number → Contains all number
one_in_run lanes runs i run rest all number h d c =
    subst (λ (list : List ℕ). Contains list number) (sym (flat_map-cons (numbers_in lanes) run rest) ∙ sym (ap (numbers_of lanes) d) ∙ h)
    (Contains-append_left (numbers_in lanes run) (numbers_of lanes rest) number c)

-- the last one of whole runs
pub whole_last : (lanes : Lanes ℕ) (runs : List LaneRun) (whole : ℕ) (other : LaneRun) → 0 < whole → whole ≤ length runs → numbers_of lanes (take whole runs) ≡ numbers_of lanes (take (whole - 1) runs) ++ numbers_in lanes (get_or runs (whole - 1) other)
whole_last lanes runs whole other some l =
    ap (λ n. numbers_of lanes (take n runs)) (let m : whole ≡ whole - 1 + 1 = omega arith in m)
    ∙ ap (numbers_of lanes) (take_more runs (whole - 1) other (omega arith))
    ∙ flat_map-append (numbers_in lanes) (take (whole - 1) runs) (get_or runs (whole - 1) other ∷ [])
    ∙ ap (λ xs. numbers_of lanes (take (whole - 1) runs) ++ xs) (append-nil (numbers_in lanes (get_or runs (whole - 1) other)))

-- the run at a place is passed
pub run_passed : (lanes : Lanes ℕ) (rounds : Rounds) (all : List ℕ) (runs : List LaneRun) (place : LanePlace) → IsLeft rounds all (left_of lanes runs place) → list_all (has_number rounds) (numbers_in lanes place.run) ≡ true → IsLeft rounds all (numbers_of lanes (take place.whole runs))
run_passed lanes rounds all runs place l e = more_passed rounds all (numbers_of lanes (take place.whole runs)) (numbers_in lanes place.run) l e

-- an open one is found in the run at a place
pub found_in_run : (lanes : Lanes ℕ) (rounds : Rounds) (all : List ℕ) (runs : List LaneRun) (place : LanePlace) (run : LaneRun) (read : ℕ) → IsLeft rounds all (left_of lanes runs place) → EndsOpen rounds (numbers_in lanes place.run) (numbers_in lanes run) read → EndsOpen rounds all (numbers_of lanes (take place.whole runs) ++ numbers_in lanes run) read
found_in_run lanes rounds all runs place run read l e =
    let front = numbers_of lanes (take place.whole runs) in
    record {
      is_left = behind_front rounds all front (numbers_in lanes place.run) (numbers_in lanes run) l e.is_left;
      before = front ++ e.before;
      ends = ap (λ xs. front ++ xs) e.ends ∙ sym (append_assoc front e.before (read ∷ []));
      is_open = e.is_open;
    }

-- all of a node's runs
pub all_of_it : (lanes : Lanes ℕ) (lists : List (List LaneRun)) (node : ℕ) (run : LaneRun) (whole : ℕ) → node < length lists → whole ≡ length (runs_of lists node) → numbers_in lanes run ≡ []
    → numbers_of lanes (take whole (runs_of lists node)) ++ numbers_in lanes run ≡ reads_of (reads_in_lanes lanes lists) node
all_of_it lanes lists node run whole l e none =
    ap (λ (behind : List ℕ). numbers_of lanes (take whole (runs_of lists node)) ++ behind) none
    ∙ append-nil (numbers_of lanes (take whole (runs_of lists node)))
    ∙ ap (numbers_of lanes) (take_all whole (runs_of lists node) (omega (arith, e)))
    ∙ sym (get_or-map (numbers_of lanes) lists node [] [] l)

pub reads_at : (lanes : Lanes ℕ) (lists : List (List LaneRun)) (node : ℕ) → node < length lists → reads_of (reads_in_lanes lanes lists) node ≡ numbers_of lanes (runs_of lists node)
reads_at lanes lists node l = get_or-map (numbers_of lanes) lists node [] [] l

pub reads_long : (lanes : Lanes ℕ) (lists : List (List LaneRun)) → length (reads_in_lanes lanes lists) ≡ length lists
reads_long lanes lists = length-map lists (numbers_of lanes)
