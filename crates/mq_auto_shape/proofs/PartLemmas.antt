-- Parts of what is looked at, as runs of places.
use Rattle.std.proofs.Common.{◌≡◌, ℕ, zero, suc, ◌+◌, ◌-◌, ◌<◌, ◌≤◌, Bool, true, false, cond, List, [], ◌∷◌, ◌++◌, add-zero, zero-add, drop, length, get_or, take, Some, slice_get, Less, Equal, refl, sym, ap, subst, arith, ◌∙◌}
use Rattle.std.specs.BTreeMap.{is_at}
use Rattle.std.specs.List.{AllByRecursion, cons_option, filter_map, position_from, range_with_len}
use Rattle.std.specs.List.Sorted.{IsStrictlySortedBy}
use Rattle.std.specs.Option.{option_and_then}
use Rattle.std.specs.Ordering.{is_eq}
use Rattle.std.proofs.lemmas.Iterator.Adapters.{position_from-zero}
use Rattle.std.proofs.lemmas.List.{append-nil, append_assoc}
use Rattle.std.proofs.lemmas.List.Concat.{flat_map-cons}
use Rattle.std.proofs.lemmas.List.Elements.{filter_map-append}
use Rattle.std.proofs.lemmas.Grind.{flat_map-append}
use Rattle.mq_values.specs.Order.{cmp_key}
use Rattle.mq_values.specs.OrderTells.{key_itself}
use Rattle.mq_dim_index.specs.Places.{place_of}
use Rattle.mq_ir.specs.declared.query.CellName.{CellName}
use Rattle.mq_ir.specs.declared.query.Look.{Look}
use Rattle.mq_ir.specs.Keys.{Tuple}
use Rattle.mq_ir.specs.Looks.{looks_at}
use Rattle.mq_ir.specs.StepLaws.{next_item}
use Rattle.mq_cells.specs.LaneItems.{Lanes, lane_item}
use Rattle.mq_refs.specs.declared.parts.LookPart.{LookPart}
use Rattle.mq_refs.specs.declared.parts.LookPart.TheVariants as part
use Rattle.mq_refs.specs.LookParts.{looks_in, looks_of_part}
use Rattle.mq_auto_shape.specs.declared.lane_reads.LaneRun.{LaneRun}
use Rattle.mq_auto_shape.specs.Edges.{number_looked}
use Rattle.mq_auto_shape.specs.LaneRuns.{numbers_between, numbers_in, numbers_of}
use Rattle.mq_auto_shape.specs.Numbers.{Numbered, number_at}
use Rattle.mq_auto_shape.proofs.EdgeLemmas.{there}
use Rattle.mq_auto_shape.proofs.LevelLemmas.{dropped}
use Rattle.mq_auto_shape.proofs.NumberLemmas.{same_tuple}

-- ---- a key of ascending ones is found at its place
other_key : (k key : Tuple) → cmp_key k key ≡ Less → is_at (cmp_key key) k ≡ false
other_key k key l = by (is_at (cmp_key key) k) refl
  where
    by : (b : Bool) → is_at (cmp_key key) k ≡ b → is_at (cmp_key key) k ≡ false
    by false e = e
    by true e = let itself : cmp_key k key ≡ Equal = ap (cmp_key k) (same_tuple key k e) ∙ key_itself k in absurd (cc)

less_at : (P : Tuple → Type 0) (keys : List Tuple) → AllByRecursion P keys → (n : ℕ) (key : Tuple) → slice_get keys n ≡ Some key → P key
less_at P [] a n key h = absurd (cc)
less_at P (k ∷ keys) a zero key h = let e : k ≡ key = cc in subst P e a.0
less_at P (k ∷ keys) a (suc n) key h = less_at P keys a.1 n key h

found_from : (i : ℕ) (keys : List Tuple) → IsStrictlySortedBy cmp_key keys → (n : ℕ) (key : Tuple) → slice_get keys n ≡ Some key → position_from (is_at (cmp_key key)) i keys ≡ Some (i + n)
unfolding IsStrictlySortedBy
found_from i [] s n key h = absurd (cc)
found_from i (k ∷ keys) s zero key h =
    let e : k ≡ key = cc in
    ap (λ b. cond b (Some i) (position_from (is_at (cmp_key key)) (i + 1) keys)) (ap (is_at (cmp_key key)) e ∙ ap is_eq (key_itself key)) ∙ ap Some (sym (add-zero i))
found_from i (k ∷ keys) s (suc n) key h =
    ap (λ b. cond b (Some i) (position_from (is_at (cmp_key key)) (i + 1) keys)) (other_key k key (less_at (λ y. cmp_key k y ≡ Less) keys s.0 n key h))
    ∙ found_from (i + 1) keys s.1 n key h ∙ ap Some (let e : i + 1 + n ≡ i + suc n = omega arith in e)

pub found_at : (keys : List Tuple) → IsStrictlySortedBy cmp_key keys → (n : ℕ) (key : Tuple) → slice_get keys n ≡ Some key → place_of keys key ≡ Some n
found_at keys s n key h = position_from-zero (is_at (cmp_key key)) keys ∙ found_from 0 keys s n key h ∙ ap Some (zero-add n)

-- ---- the numbers of the cells of a run
module _ (numbers : Numbered) (ascend : IsStrictlySortedBy cmp_key numbers.keys) where
  between : (m n i : ℕ) → (0 < n → i + n ≤ length numbers.keys)
      → filter_map (λ key. number_at numbers key m) (take n (drop i numbers.keys)) ≡ filter_map (lane_item numbers.lanes m) (range_with_len i n)
  between m zero i h = refl
  between m (suc n) i h =
      let within = h (omega arith) in
      let t = there numbers.keys i (omega (arith, within)) in
      let next : suc i ≡ i + 1 = omega arith in
      ap (λ keys. filter_map (λ key. number_at numbers key m) (take (suc n) keys)) (dropped numbers.keys i t.item t.is ∙ ap (λ k. t.item ∷ drop k numbers.keys) next)
      ∙ ap (λ o. cons_option (option_and_then (lane_item numbers.lanes m) o) (filter_map (λ key. number_at numbers key m) (take n (drop (i + 1) numbers.keys)))) (found_at numbers.keys ascend i t.item t.is)
      ∙ ap (cons_option (lane_item numbers.lanes m i)) (between m n (i + 1) (λ some. omega (arith, within)))

  looked_at : (m : ℕ) (keys : List Tuple) → filter_map (number_looked numbers) (looks_at m keys) ≡ filter_map (λ key. number_at numbers key m) keys
  looked_at m [] = refl
  looked_at m (key ∷ keys) = ap (cons_option (number_at numbers key m)) (looked_at m keys)

  pub run_looked : (m first past : ℕ) → past ≤ length numbers.keys
      → numbers_between numbers.lanes m first past ≡ filter_map (number_looked numbers) (looks_at m (take (past - first) (drop first numbers.keys)))
  run_looked m first past h =
      sym (looked_at m (take (past - first) (drop first numbers.keys)) ∙ between m (past - first) first (λ some. omega (arith, some, h)))

-- ---- parts
one_part : (keys : List Tuple) (p : LookPart) → looks_in keys (p ∷ []) ≡ looks_of_part keys p
one_part keys p = flat_map-cons (looks_of_part keys) p [] ∙ append-nil (looks_of_part keys p)

-- a run more
pub run_pushed : (lanes : Lanes ℕ) (runs : List LaneRun) (run : LaneRun) (list : List ℕ) → numbers_in lanes run ≡ list → numbers_of lanes (runs ++ run ∷ []) ≡ numbers_of lanes runs ++ list
run_pushed lanes runs run list e =
    flat_map-append (numbers_in lanes) runs (run ∷ [])
    ∙ ap (λ l. numbers_of lanes runs ++ l) (flat_map-cons (numbers_in lanes) run [] ∙ append-nil (numbers_in lanes run) ∙ e)

pub run_part : (numbers : Numbered) (m first past : ℕ) (p : LookPart) → IsStrictlySortedBy cmp_key numbers.keys → past ≤ length numbers.keys → p ≡ part.Run m first past
    → numbers_between numbers.lanes m first past ≡ filter_map (number_looked numbers) (looks_in numbers.keys (p ∷ []))
run_part numbers m first past p s h is =
    run_looked numbers s m first past h
    ∙ sym (ap (filter_map (number_looked numbers)) (one_part numbers.keys p ∙ ap (looks_of_part numbers.keys) is))

pub cell_part : (numbers : Numbered) (c : CellName) (p : LookPart) → p ≡ part.Measure c
    → cons_option (number_at numbers c.key c.measure) [] ≡ filter_map (number_looked numbers) (looks_in numbers.keys (p ∷ []))
cell_part numbers c p is = sym (ap (filter_map (number_looked numbers)) (one_part numbers.keys p ∙ ap (looks_of_part numbers.keys) is))

-- one part after another
pub part_more : (numbers : Numbered) (parts : List LookPart) (i : ℕ) (p : LookPart) (had has all : List ℕ) → i < length parts → p ≡ get_or parts i p
    → has ≡ had ++ filter_map (number_looked numbers) (looks_in numbers.keys (p ∷ []))
    → had ++ filter_map (number_looked numbers) (looks_in numbers.keys (drop i parts)) ≡ all
    → has ++ filter_map (number_looked numbers) (looks_in numbers.keys (drop (i + 1) parts)) ≡ all
part_more numbers parts i p had has all lt is e w =
    let f = filter_map (number_looked numbers) in
    let rest = looks_in numbers.keys (drop (i + 1) parts) in
    let one = looks_of_part numbers.keys p in
    ap (λ (l : List ℕ). l ++ f rest) (e ∙ ap (λ (l : List Look). had ++ f l) (one_part numbers.keys p))
    ∙ append_assoc had (f one) (f rest)
    ∙ ap (λ (l : List ℕ). had ++ l) (sym (filter_map-append (number_looked numbers) one rest))
    ∙ ap (λ (l : List Look). had ++ f l) (sym (flat_map-cons (looks_of_part numbers.keys) p (drop (i + 1) parts)))
    ∙ ap (λ (l : List LookPart). had ++ f (looks_in numbers.keys l)) (sym (next_item parts i p lt is))
    ∙ w
