-- Runs, their nodes, and the parts of a list that is cut at its ends.
use Rattle.std.proofs.Common.{add-zero, ◌≡◌, ℕ, suc, zero, ◌+◌, ◌-◌, ◌<◌, ◌≤◌, true, false, List, [], ◌∷◌, ◌++◌, drop, length, get_or, set, take, refl, sym, ap, subst, ◌∙◌, arith}
use Rattle.std.specs.List.{All, Contains, range_with_len}
use Rattle.std.proofs.lemmas.List.{append-nil, append_assoc, drop-append-le, drop_all, get_or-append-add, get_or-map, get_or_default, length-append, length-drop, length-map, length-set, length-take-le, take-append-le, take_all, take_more, take_more_set}
use Rattle.std.proofs.lemmas.List.FromFn.{get_or-range_with_len, length-range_with_len}
use Rattle.std.proofs.lemmas.Grind.{flat_map-append}
use Rattle.std.proofs.lemmas.List.Concat.{flat_map-cons}
use Rattle.std.proofs.lemmas.List.Elements.{Contains-append_left, Contains-append_right}
use Rattle.mq_levels.specs.declared.runs.Run.{Run}
use Rattle.mq_levels.specs.Levels.{reads_of}
use Rattle.mq_levels.specs.Numbers.{Numbers, has_number}
use Rattle.mq_levels.specs.Places.{EndsOpen, IsLeft}
use Rattle.mq_levels.specs.Runs.{AreEnds, RunLists, begin_from, last_end, lists_of, nodes_in, parts, reads_in_runs, runs_of, written}
use Rattle.mq_levels.proofs.DealLemmas.{range_more}
use Rattle.mq_levels.proofs.PlaceLemmas.{left_on, one_passed}

range_last : (a n : ℕ) → 0 < n → range_with_len a n ≡ range_with_len a (n - 1) ++ (a + (n - 1)) ∷ []
range_last a n some = ap (range_with_len a) (let e : n ≡ n - 1 + 1 = omega arith in e) ∙ range_more a (n - 1)

-- the last node of a run has a number and is passed
pub run_passed : (numbers : Numbers) (all : List ℕ) (start count : ℕ) → 0 < count → IsLeft numbers all (range_with_len start count) → has_number numbers (start + (count - 1)) ≡ true → IsLeft numbers all (range_with_len start (count - 1))
run_passed numbers all start count some left e =
    one_passed numbers all (range_with_len start (count - 1)) (start + (count - 1)) (subst (IsLeft numbers all) (range_last start count some) left) e

-- a node of a run is one
pub run_within : (P : ℕ → Type 0) (start count at : ℕ) → at < count → All P (range_with_len start count) → P (start + at)
run_within P start count at l a = subst P (get_or-range_with_len start count at 0 l) (a at 0 (let long = length-range_with_len start count in omega arith))

-- something is left behind a front
front_left : (numbers : Numbers) (front mid left : List ℕ) → IsLeft numbers mid left → IsLeft numbers (front ++ mid) (front ++ left)
front_left numbers front mid left l = record {
  behind = l.behind;
  is = ap (λ xs. front ++ xs) l.is ∙ sym (append_assoc front left l.behind);
  passed = l.passed;
}

-- the last open read is found in the run
pub found_in_run : (numbers : Numbers) (all front : List ℕ) (start count left : ℕ) → IsLeft numbers all (front ++ range_with_len start count) → IsLeft numbers (range_with_len start count) (range_with_len start left) → 0 < left → has_number numbers (start + (left - 1)) ≡ false → EndsOpen numbers all (front ++ range_with_len start left) (start + (left - 1))
found_in_run numbers all front start count left l m some e = record {
  is_left = left_on numbers all (front ++ range_with_len start count) (front ++ range_with_len start left) l (front_left numbers front (range_with_len start count) (range_with_len start left) m);
  before = front ++ range_with_len start (left - 1);
  ends = ap (λ xs. front ++ xs) (range_last start left some) ∙ sym (append_assoc front (range_with_len start (left - 1)) ((start + (left - 1)) ∷ []));
  is_open = e;
}

-- the run is passed, and the front is left
pub front_is_left : (numbers : Numbers) (all front : List ℕ) (start count left : ℕ) → IsLeft numbers all (front ++ range_with_len start count) → IsLeft numbers (range_with_len start count) (range_with_len start left) → left ≡ 0 → IsLeft numbers all front
front_is_left numbers all front start count left l m e =
    let none : range_with_len start left ≡ [] = ap (range_with_len start) e in
    let on = front_left numbers front (range_with_len start count) (range_with_len start left) m in
    left_on numbers all (front ++ range_with_len start count) front l
    (subst (IsLeft numbers (front ++ range_with_len start count)) (ap (λ xs. front ++ xs) none ∙ append-nil front) on)

-- whole runs, the last of them written out
pub written_last : (runs : List Run) (whole : ℕ) (other : Run) → 0 < whole → whole ≤ length runs → written (take whole runs) ≡ written (take (whole - 1) runs) ++ nodes_in (get_or runs (whole - 1) other)
written_last runs whole other some l =
    ap (λ n. written (take n runs)) (let m : whole ≡ whole - 1 + 1 = omega arith in m)
    ∙ ap written (take_more runs (whole - 1) other (omega arith))
    ∙ flat_map-append nodes_in (take (whole - 1) runs) (get_or runs (whole - 1) other ∷ [])
    ∙ ap (λ xs. written (take (whole - 1) runs) ++ xs) (append-nil (nodes_in (get_or runs (whole - 1) other)))

-- the run that is left is within, where all that is left is
pub behind_within : (P : ℕ → Type 0) (front run : List ℕ) → All P (front ++ run) → All P run
behind_within P front run a k d l = subst P (get_or-append-add front run k d) (a (length front + k) d (let long = length-append front run in omega arith))

pub all_of_it : (lists : RunLists) (node : ℕ) → node < length lists.nodes → (whole : ℕ) → whole ≡ length (runs_of lists node) → written (take whole (runs_of lists node)) ++ range_with_len 0 0 ≡ reads_of (reads_in_runs lists) node
all_of_it lists node l whole e =
    append-nil (written (take whole (runs_of lists node)))
    ∙ ap written (take_all whole (runs_of lists node) (omega arith))
    ∙ sym (get_or-map written lists.nodes node [] [] l)

-- the ends of the parts
pub ends_below : (from : ℕ) (ends : List ℕ) (long : ℕ) → AreEnds from ends long → from ≤ long
ends_below from [] long a = a
ends_below from (end ∷ ends) long a = let l = ends_below end ends long a.1 in let m = a.0 in omega arith

pub last_below : (from : ℕ) (ends : List ℕ) (long : ℕ) → AreEnds from ends long → last_end from ends ≤ long
last_below from [] long a = a
last_below from (end ∷ ends) long a = last_below end ends long a.1

pub ends_longer : (from : ℕ) (ends : List ℕ) (long longer : ℕ) → long ≤ longer → AreEnds from ends long → AreEnds from ends longer
ends_longer from [] long longer l a = omega arith
ends_longer from (end ∷ ends) long longer l a = (a.0, ends_longer end ends long longer l a.1)

pub one_end : (from : ℕ) (ends : List ℕ) (long : ℕ) → AreEnds from ends long → AreEnds from (ends ++ long ∷ []) long
one_end from [] long a = (a, omega arith)
one_end from (end ∷ ends) long a = (a.0, one_end end ends long a.1)

pub last_of_push : (from : ℕ) (ends : List ℕ) (end : ℕ) → last_end from (ends ++ end ∷ []) ≡ end
last_of_push from [] end = refl
last_of_push from (x ∷ xs) end = last_of_push x xs end

pub parts_long : (from : ℕ) (ends : List ℕ) (runs : List Run) → length (parts from ends runs) ≡ length ends
parts_long from [] runs = refl
parts_long from (end ∷ ends) runs = ap suc (parts_long end ends runs)

-- parts stay as they were where the list goes on
pub parts_more : (from : ℕ) (ends : List ℕ) (runs more : List Run) → AreEnds from ends (length runs) → parts from ends (runs ++ more) ≡ parts from ends runs
parts_more from [] runs more a = refl
parts_more from (end ∷ ends) runs more a =
    let below = ends_below end ends (length runs) a.1 in
    let less = a.0 in
    let same : take (end - from) (drop from (runs ++ more)) ≡ take (end - from) (drop from runs) =
    ap (take (end - from)) (drop-append-le from runs more (omega arith))
    ∙ take-append-le (end - from) (drop from runs) more (let long = length-drop from runs in omega arith) in
    λ i. same i ∷ parts_more end ends runs more a.1 i

-- one part more, with all that was left
pub parts_push : (from : ℕ) (ends : List ℕ) (runs : List Run) → parts from (ends ++ length runs ∷ []) runs ≡ parts from ends runs ++ drop (last_end from ends) runs ∷ []
parts_push from [] runs = ap (λ xs. xs ∷ []) (take_all (length runs - from) (drop from runs) (let long = length-drop from runs in omega arith))
parts_push from (end ∷ ends) runs = ap (λ xs. take (end - from) (drop from runs) ∷ xs) (parts_push end ends runs)

-- the part of a node, by its ends
pub part_at : (from : ℕ) (ends : List ℕ) (runs : List Run) (node begin : ℕ) → node < length ends → begin ≡ begin_from from ends node → AreEnds from ends (length runs) → (get_or (parts from ends runs) node [] ≡ take (get_or ends node 0 - begin) (drop begin runs)) × ((begin ≤ get_or ends node 0) × (get_or ends node 0 ≤ length runs))
part_at from [] runs node begin l e a = absurd (omega arith)
part_at from (end ∷ ends) runs zero begin l e a =
    let at : begin ≡ from = e in
    (ap (λ b. take (end - b) (drop b runs)) (sym at), (let m = a.0 in omega arith, ends_below end ends (length runs) a.1))
part_at from (end ∷ ends) runs (suc zero) begin l e a = part_at end ends runs zero begin (omega arith) e a.1
part_at from (end ∷ ends) runs (suc (suc node)) begin l e a = part_at end ends runs (suc node) begin (omega arith) e a.1

-- the list goes on: nodes stay, and the next one has more
pub nodes_more : (ends : List ℕ) (runs more : List Run) → AreEnds 0 ends (length runs) → (lists_of ends (runs ++ more)).nodes ≡ (lists_of ends runs).nodes
nodes_more ends runs more a = parts_more 0 ends runs more a

pub next_more : (ends : List ℕ) (runs more : List Run) → AreEnds 0 ends (length runs) → (lists_of ends (runs ++ more)).next ≡ (lists_of ends runs).next ++ more
next_more ends runs more a = drop-append-le (last_end 0 ends) runs more (last_below 0 ends (length runs) a)

-- nothing is left when a node was ended
pub next_ended : (ends : List ℕ) (runs : List Run) → drop (last_end 0 (ends ++ length runs ∷ [])) runs ≡ []
next_ended ends runs = ap (λ n. drop n runs) (last_of_push 0 ends (length runs)) ∙ drop_all (length runs) runs (omega arith)

pub has_end : (ends : List ℕ) (runs : List Run) (lists : RunLists) → lists_of ends runs ≡ lists → (node : ℕ) → node < length lists.nodes → node < length ends
has_end ends runs lists is node l =
    let long : length (parts 0 ends runs) ≡ length lists.nodes = ap (λ (all : RunLists). length all.nodes) is in
    let ends_long = parts_long 0 ends runs in
    omega arith

-- the runs of a node are those between its ends
pub part_of : (ends : List ℕ) (runs : List Run) (lists : RunLists) → AreEnds 0 ends (length runs) → lists_of ends runs ≡ lists → (node begin end : ℕ) → node < length ends → begin ≡ begin_from 0 ends node → end ≡ get_or ends node end → (take (end - begin) (drop begin runs) ≡ runs_of lists node) × ((begin ≤ end) × (end ≤ length runs))
part_of ends runs lists a is node begin end l b e =
    let at = part_at 0 ends runs node begin l b a in
    let its : get_or ends node 0 ≡ end = get_or_default ends node 0 end l ∙ sym e in
    let below = at.1.0 in
    let within = at.1.1 in (
      ap (λ n. take (n - begin) (drop begin runs)) (sym its) ∙ sym at.0 ∙ ap (λ (all : RunLists). runs_of all node) is,
      (omega arith, omega arith),
    )

-- there are as many nodes as ends
pub reads_count : (ends : List ℕ) (runs : List Run) (lists : RunLists) → lists_of ends runs ≡ lists → length (reads_in_runs lists) ≡ length ends
reads_count ends runs lists is = length-map lists.nodes written ∙ sym (ap (λ (all : RunLists). length all.nodes) is) ∙ parts_long 0 ends runs

-- the first node of a run is among those of the runs
pub start_written : (runs : List Run) (at : ℕ) (other : Run) → at < length runs → 0 < (get_or runs at other).count → Contains (written runs) (get_or runs at other).start
start_written [] at other l some = absurd (omega arith)
start_written (run ∷ runs) zero other l some =
    let first : get_or (range_with_len run.start run.count) 0 run.start ≡ run.start = get_or-range_with_len run.start run.count 0 run.start some ∙ add-zero run.start in
    subst (λ (list : List ℕ). Contains list run.start) (sym (flat_map-cons nodes_in run runs))
    (Contains-append_left (nodes_in run) (written runs) run.start (0, (let long = length-range_with_len run.start run.count in omega arith), first))
start_written (run ∷ runs) (suc at) other l some =
    let start = (get_or runs at other).start in
    subst (λ (list : List ℕ). Contains list start) (sym (flat_map-cons nodes_in run runs))
    (Contains-append_right (nodes_in run) (written runs) start (start_written runs at other (omega arith) some))

-- the last end stands last
pub last_end_at : (from : ℕ) (ends : List ℕ) → 0 < length ends → get_or ends (length ends - 1) 0 ≡ last_end from ends
last_end_at from [] some = absurd (omega arith)
last_end_at from (end ∷ []) some = refl
last_end_at from (end ∷ next ∷ ends) some =
    ap (λ n. get_or (end ∷ next ∷ ends) n 0) (let e : length (end ∷ next ∷ ends) - 1 ≡ suc (length (next ∷ ends) - 1) = omega arith in e)
    ∙ last_end_at end (next ∷ ends) (omega arith)

-- a run that goes on with one node
pub longer_run : (run : Run) (read : ℕ) → run.start + run.count ≡ read → range_with_len run.start (run.count + 1) ≡ nodes_in run ++ read ∷ []
longer_run run read e = range_more run.start run.count ∙ ap (λ node. nodes_in run ++ node ∷ []) e

ends_shorter : (from : ℕ) (ends : List ℕ) (long shorter : ℕ) → AreEnds from ends long → last_end from ends ≤ shorter → AreEnds from ends shorter
ends_shorter from [] long shorter a l = l
ends_shorter from (end ∷ ends) long shorter a l = (a.0, ends_shorter end ends long shorter a.1 l)

-- the last run of the node that is not ended is another one
module _ (ends : List ℕ) (runs : List Run) (run other : Run) (a : AreEnds 0 ends (length runs)) (under : last_end 0 ends < length runs) where
  abbrev front : List Run
  front = take (length runs - 1) runs

  was : runs ≡ front ++ get_or runs (length runs - 1) other ∷ []
  was =
      sym (take_all (length runs) runs (omega arith))
      ∙ ap (λ n. take n runs) (let e : length runs ≡ length runs - 1 + 1 = omega arith in e)
      ∙ take_more runs (length runs - 1) other (omega arith)

  is_now : set runs (length runs - 1) run ≡ front ++ run ∷ []
  is_now =
      sym (take_all (length runs) (set runs (length runs - 1) run) (let long = length-set runs (length runs - 1) run in omega arith))
      ∙ ap (λ n. take n (set runs (length runs - 1) run)) (let e : length runs ≡ length runs - 1 + 1 = omega arith in e)
      ∙ take_more_set runs (length runs - 1) run (omega arith)

  front_ends : AreEnds 0 ends (length front)
  front_ends = ends_shorter 0 ends (length runs) (length front) a (let long = length-take-le (length runs - 1) runs (omega arith) in omega arith)

  pub last_nodes : (lists_of ends (set runs (length runs - 1) run)).nodes ≡ (lists_of ends runs).nodes
  last_nodes =
      ap (parts 0 ends) is_now
      ∙ parts_more 0 ends front (run ∷ []) front_ends
      ∙ sym (parts_more 0 ends front (get_or runs (length runs - 1) other ∷ []) front_ends)
      ∙ sym (ap (parts 0 ends) was)

  next_with : (r : Run) → written (drop (last_end 0 ends) (front ++ r ∷ [])) ≡ written (drop (last_end 0 ends) front) ++ nodes_in r
  next_with r =
      ap written (drop-append-le (last_end 0 ends) front (r ∷ []) (last_below 0 ends (length front) front_ends))
      ∙ flat_map-append nodes_in (drop (last_end 0 ends) front) (r ∷ [])
      ∙ ap (λ xs. written (drop (last_end 0 ends) front) ++ xs) (append-nil (nodes_in r))

  pub last_longer : (read : ℕ) → nodes_in run ≡ nodes_in (get_or runs (length runs - 1) other) ++ read ∷ [] → written (lists_of ends (set runs (length runs - 1) run)).next ≡ written (lists_of ends runs).next ++ read ∷ []
  last_longer read e =
      let old = get_or runs (length runs - 1) other in
      ap (λ list. written (drop (last_end 0 ends) list)) is_now
      ∙ next_with run
      ∙ ap (λ xs. written (drop (last_end 0 ends) front) ++ xs) e
      ∙ sym (append_assoc (written (drop (last_end 0 ends) front)) (nodes_in old) (read ∷ []))
      ∙ ap (λ xs. xs ++ read ∷ []) (sym (next_with old))
      ∙ ap (λ list. written (drop (last_end 0 ends) list) ++ read ∷ []) (sym was)

-- one read as a run of its own
pub one_read : (next more : List Run) (read : ℕ) → more ≡ next ++ record { start = read; count = 1 } ∷ [] → written more ≡ written next ++ read ∷ []
one_read next more read e = ap written e ∙ flat_map-append nodes_in next (record { start = read; count = 1 } ∷ [])
