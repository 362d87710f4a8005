-- The walk over the rows of an item that have one value: at the others it is idle.
use Rattle.std.proofs.Common.{◌≡◌, ℕ, zero, suc, ◌+◌, ◌-◌, ◌<◌, ◌≤◌, Bool, true, false, List, [], ◌∷◌, ◌++◌, length, Result, Ok, Err, Option, Some, None, sym, ap, subst, ◌∙◌, arith}
use Rattle.std.specs.Prelude.{slice_index_or}
use Rattle.mq_values.specs.Answers.{Gives}
use Rattle.mq_values.specs.declared.faults.FaultKind.{FaultKind}
use Rattle.mq_values.specs.declared.memory.Fail.{Fail}
use Rattle.mq_values.specs.declared.value.Value.{Value}
use Rattle.mq_ir.specs.declared.expression.Expr.{Expr}
use Rattle.mq_ir.specs.BaseRows.{Places}
use Rattle.mq_ir.specs.Keys.{Tuple}
use Rattle.mq_join.specs.Indexed.{IsFirst, IsIndexed, NoneIn, matches}
use Rattle.mq_join.specs.Passing.{Idle, IsStart}
use Rattle.mq_join.specs.Rows.{Joined}
use Rattle.mq_join.specs.Walk.{counts_from, joined_step}
use Rattle.mq_join.specs.declared.indexes.Index.{Index}
use Rattle.mq_join.proofs.IndexLemmas.{behind_match}
use Rattle.mq_join.proofs.PassingLemmas.{idle_behind}
use Rattle.mq_join.proofs.TurnLemmas.{rest_end, rest_next, rest_of}
use Rattle.mq_join.proofs.WalkLemmas.{all_rows, place_step, turns_fault, turns_start}

-- a walk over the numbers below n that goes on at a number, or is at its end
abbrev pub rest_at : {S E : Type 0} → (ℕ → S → Result S E) → ℕ → S → Option ℕ → Result S E
rest_at f n s None = Ok s
rest_at f n s (Some p) = rest_of f n p s

skip_by : {S E : Type 0} (f : ℕ → S → Result S E) (q : ℕ → Bool) (n d i p : ℕ) (s : S) → i + d ≡ p → p ≤ n → ((k : ℕ) → k < n → q k ≡ false → f k s ≡ Ok s) → NoneIn q i p → rest_of f n i s ≡ rest_of f n p s
skip_by f q n zero i p s e h idle none = let same : i ≡ p = omega (arith, e) in ap (λ k. rest_of f n k s) same
skip_by f q n (suc d) i p s e h idle none =
    let a : i ≤ i = omega arith in
    let b : i < p = omega (arith, e) in
    let c : i < n = omega (arith, e, h) in
    let g : (i + 1) + d ≡ p = omega (arith, e) in
    sym (rest_next f n i s s c (idle i c (none i a b)))
    ∙ skip_by f q n d (i + 1) p s g h idle (λ k l m. none k (omega arith) m)

-- numbers at which the step does nothing are passed over
pub to_first : {S E : Type 0} (f : ℕ → S → Result S E) (q : ℕ → Bool) (n i : ℕ) (s : S) (o : Option ℕ) → i ≤ n → ((k : ℕ) → k < n → q k ≡ false → f k s ≡ Ok s) → IsFirst q i n o → rest_of f n i s ≡ rest_at f n s o
to_first f q n i s None h idle first =
    let a : i + (n - i) ≡ n = omega arith in
    let b : n ≤ n = omega arith in
    skip_by f q n (n - i) i n s a b idle first ∙ rest_end f n n s b
to_first f q n i s (Some p) h idle first =
    let a : i + (p - i) ≡ p = omega (arith, first.0) in
    let b : p ≤ n = omega (arith, first.1) in
    skip_by f q n (p - i) i p s a b idle first.3

-- how many numbers are left
abbrev pub left_from : ℕ → Option ℕ → ℕ
left_from n None = 0
left_from n (Some p) = n - p

abbrev pub Matched : (ℕ → Bool) → ℕ → Option ℕ → Type 0
Matched q n None = Unit {0}
Matched q n (Some p) = (p < n) × (q p ≡ true)

first_matched : (q : ℕ → Bool) (i n : ℕ) (o : Option ℕ) → IsFirst q i n o → Matched q n o
first_matched q i n None h = tt
first_matched q i n (Some p) h = (h.1, h.2)

-- the walk stands at a row with the value that is looked up, or at its end
pub record Stands (conditions : List Expr) (items : List (List Tuple)) (front : Places) (rows : List Tuple) (x : Index) (at : Option ℕ) : Type 0 where
  pub value : Value
  pub indexed : IsIndexed rows x
  pub idle : (k : ℕ) → k < length rows → matches rows x.lookup.own value k ≡ false → Idle conditions items (front ++ k ∷ [])
  pub matched : Matched (matches rows x.lookup.own value) (length rows) at

module _ (conditions : List Expr) (items : List (List Tuple)) (front : Places) (rows : List Tuple) (x : Index) where
  abbrev step : ℕ → List Joined → Result (List Joined) FaultKind
  step = place_step (joined_step conditions items) items front

  idle_step : (v : Value) → ((k : ℕ) → k < length rows → matches rows x.lookup.own v k ≡ false → Idle conditions items (front ++ k ∷ [])) → (kept : List Joined) (k : ℕ) → k < length rows
      → matches rows x.lookup.own v k ≡ false → step k kept ≡ Ok kept
  idle_step v idle kept k a b = idle_behind conditions items (front ++ k ∷ []) (counts_from items (length front + 1)) kept (idle k a b)

  pub start_stands : (first : Option ℕ) → IsStart conditions items front rows x first → Stands conditions items front rows x first
  start_stands first h = record { value = h.value; indexed = h.indexed; idle = h.idle; matched = first_matched (matches rows x.lookup.own h.value) 0 (length rows) first h.first }

  pub matches_start : (first : Option ℕ) (kept : List Joined) → IsStart conditions items front rows x first → rest_at step (length rows) kept first ≡ all_rows (joined_step conditions items) items front (length rows) kept
  matches_start first kept h =
      let z : 0 ≤ length rows = omega arith in
      sym (to_first step (matches rows x.lookup.own h.value) (length rows) 0 kept first z (idle_step h.value h.idle kept) h.first)
      ∙ turns_start (joined_step conditions items) items front (length rows) kept

  -- the next row with the value
  next_first : (p : ℕ) (behind : Option ℕ) (h : Stands conditions items front rows x (Some p)) → behind ≡ slice_index_or x.next.items p None → IsFirst (matches rows x.lookup.own h.value) (p + 1) (length rows) behind
  next_first p behind h e =
      subst (λ (o : Option ℕ). IsFirst (matches rows x.lookup.own h.value) (p + 1) (length rows) o) (sym e)
      (behind_match rows x.lookup.own x.heads x.next.items h.value p h.indexed.chained h.matched.0 h.matched.1)

  pub next_stands : (p : ℕ) (at behind : Option ℕ) → at ≡ Some p → behind ≡ slice_index_or x.next.items p None → Stands conditions items front rows x at → Stands conditions items front rows x behind
  next_stands p at behind is e s =
      let h : Stands conditions items front rows x (Some p) = subst (λ (o : Option ℕ). Stands conditions items front rows x o) is s in
      record { value = h.value; indexed = h.indexed; idle = h.idle; matched = first_matched (matches rows x.lookup.own h.value) (p + 1) (length rows) behind (next_first p behind h e) }

  pub matches_next : (p : ℕ) (at behind : Option ℕ) (kept more : List Joined) (now : Places) (whole : Result (List Joined) FaultKind) → at ≡ Some p → behind ≡ slice_index_or x.next.items p None → now ≡ front
      → place_step (joined_step conditions items) items now p kept ≡ Ok more → Stands conditions items front rows x at → rest_at step (length rows) kept at ≡ whole → rest_at step (length rows) more behind ≡ whole
  matches_next p at behind kept more now whole is e same g s w =
      let h : Stands conditions items front rows x (Some p) = subst (λ (o : Option ℕ). Stands conditions items front rows x o) is s in
      let b : p + 1 ≤ length rows = omega (arith, h.matched.0) in
      sym (to_first step (matches rows x.lookup.own h.value) (length rows) (p + 1) more behind b (idle_step h.value h.idle more) (next_first p behind h e))
      ∙ rest_next step (length rows) p kept more h.matched.0 (ap (λ (t : Places). place_step (joined_step conditions items) items t p kept) (sym same) ∙ g)
      ∙ ap (λ (o : Option ℕ). rest_at step (length rows) kept o) (sym is)
      ∙ w

  pub matches_within : (p : ℕ) (at : Option ℕ) → at ≡ Some p → Stands conditions items front rows x at → p < length rows
  matches_within p at is s = (subst (λ (o : Option ℕ). Stands conditions items front rows x o) is s).matched.0

  -- where the walk ends with a fault
  pub matches_fault : (p : ℕ) (at : Option ℕ) (kept : List Joined) (now : Places) (e : Fail FaultKind) (whole : Result (List Joined) FaultKind) → at ≡ Some p → now ≡ front
      → Gives {T = List Joined} (Err e) (place_step (joined_step conditions items) items now p kept) → Stands conditions items front rows x at → rest_at step (length rows) kept at ≡ whole
      → Gives {T = List Joined} (Err e) whole
  matches_fault p at kept now e whole is same g s w =
      turns_fault (joined_step conditions items) items front now (length rows) p kept e whole same (matches_within p at is s) g (ap (λ (o : Option ℕ). rest_at step (length rows) kept o) (sym is) ∙ w)
