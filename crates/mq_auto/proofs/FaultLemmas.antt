-- The first fault among the results is the first among the slots.
use Rattle.std.proofs.Common.{◌≡◌, ℕ, zero, suc, ◌+◌, Bool, true, false, List, [], ◌∷◌, Option, Some, None, Ok, Err, cond, map, refl, sym, ap, subst, ◌∙◌, arith}
use Rattle.std.specs.Prelude.{slice_get, is_some, if◌then◌else◌, unwrap_or}
use Rattle.std.specs.Cmp.{IsTotalOrder}
use Rattle.std.specs.List.{enumerate_from, filter, filter_map}
use Rattle.std.specs.Option.{option_and_then, option_map, option_map_or}
use Rattle.std.specs.Ordering.{is_gt, on}
use Rattle.std.specs.declared.cmp.Ordering.{Ordering}
use Rattle.std.proofs.lemmas.Cmp.{nat_cmp_total, on_total, then_total}
use Rattle.mq_values.specs.OrderLaws.{key_total}
use Rattle.mq_values.specs.declared.faults.FaultKind.{FaultKind}
use Rattle.mq_values.specs.declared.faults.ValueFault.{ValueFault}
use Rattle.mq_values.specs.declared.value.Value.{Value}
use Rattle.mq_ir.specs.declared.query.PartResult.{PartResult}
use Rattle.mq_ir.specs.declared.query.PartResult.TheVariants.{Fault}
use Rattle.mq_ir.specs.declared.query.PartShape.{PartShape}
use Rattle.mq_ir.specs.declared.query.Slot.{Slot}
use Rattle.mq_ir.specs.declared.query.Slot.TheVariants.{Done, Faulted, Poisoned}
use Rattle.mq_ir.specs.Automatic.{first_fault, own_fault, slot_cell}
use Rattle.mq_ir.specs.Iteration.{part_result}
use Rattle.mq_ir.specs.Keys.{Tuple}
use Rattle.mq_ir.specs.Partitions.{ascending, placed}
use Rattle.mq_ir.specs.Placed.{Placed, at_partition, kind_of}
use Rattle.mq_ir.specs.Shape.{Assignment, cmp_by_rule, least_of}
use Rattle.mq_ir.specs.Slots.{Slots}
use Rattle.mq_ir.specs.Unfolding.{Model}
use Rattle.mq_cells.specs.Stores.{CellInput, Results, faulted_from, first_faulted, input_value, is_faulted, name_assigned, slot_at}
use Rattle.mq_ir.specs.Rising.{Low, Rising}
use Rattle.mq_ir.specs.SortLaws.{greater_is, mapped_ascending, rising_ascending, rising_kept}
use Rattle.mq_auto.specs.Findings.{faulted_at}
use Rattle.mq_auto.specs.Meaning.{result_with}

by_rule_total : IsTotalOrder cmp_by_rule
by_rule_total = then_total (on_total (λ (a : Assignment). a.2) nat_cmp_total) (on_total (λ (a : Assignment). a.0) key_total)

-- a test keeps of a list that is put in order what is put in order of the kept
module _ {K : Type 0} {R : K → K → Ordering} (o : IsTotalOrder R) (test : K → Bool) where
  at_front : (x : K) (ys : List K) → Low R x ys → placed R x ys ≡ x ∷ ys
  at_front x [] l = refl
  at_front x (y ∷ ys) l = ap (λ g. if g then y ∷ placed R x ys else x ∷ y ∷ ys) (greater_is o x y ∙ l.0)

  left_out : (x : K) (ys : List K) → test x ≡ false → filter test (placed R x ys) ≡ filter test ys
  left_out x [] e = ap (λ b. cond b (x ∷ []) []) e
  left_out x (y ∷ ys) e = by (is_gt (R x y)) (left_out x ys e)
    where
      by : (g : Bool) → filter test (placed R x ys) ≡ filter test ys → filter test (if g then y ∷ placed R x ys else x ∷ y ∷ ys) ≡ filter test (y ∷ ys)
      by true h = ap (λ l. cond (test y) (y ∷ l) l) h
      by false h = ap (λ b. cond b (x ∷ filter test (y ∷ ys)) (filter test (y ∷ ys))) e

  -- what is kept of the first, where the rest rises above it
  low_rest : (x : K) (ys : List K) → test x ≡ true → Rising R (x ∷ ys) → Low R x (filter test ys)
  low_rest x ys e r = by (test x) e (rising_kept o test (x ∷ ys) r)
    where
      by : (b : Bool) → b ≡ true → Rising R (cond b (x ∷ filter test ys) (filter test ys)) → Low R x (filter test ys)
      by true e s = s.0
      by false e s = cc

  kept_in : (x : K) (ys : List K) → test x ≡ true → Rising R (placed R x ys) → filter test (placed R x ys) ≡ placed R x (filter test ys)
  kept_in x [] e r = ap (λ b. cond b (x ∷ []) []) e
  kept_in x (y ∷ ys) e r = by (is_gt (R x y)) refl (kept_in x ys e) r
    where
      pick : (b : Bool) → is_gt (R x y) ≡ true → filter test (placed R x ys) ≡ placed R x (filter test ys)
          → cond b (y ∷ filter test (placed R x ys)) (filter test (placed R x ys)) ≡ placed R x (cond b (y ∷ filter test ys) (filter test ys))
      pick true g h = ap (λ l. y ∷ l) h ∙ sym (ap (λ b. if b then y ∷ placed R x (filter test ys) else x ∷ y ∷ filter test ys) g)
      pick false g h = h

      by : (g : Bool) → is_gt (R x y) ≡ g → (Rising R (placed R x ys) → filter test (placed R x ys) ≡ placed R x (filter test ys)) → Rising R (if g then y ∷ placed R x ys else x ∷ y ∷ ys)
          → filter test (if g then y ∷ placed R x ys else x ∷ y ∷ ys) ≡ placed R x (filter test (y ∷ ys))
      by true g h s = pick (test y) g (h s.1)
      by false g h s =
          ap (λ b. cond b (x ∷ filter test (y ∷ ys)) (filter test (y ∷ ys))) e
          ∙ sym (at_front x (filter test (y ∷ ys)) (low_rest x (y ∷ ys) e s))

  pub kept_order : (xs : List K) → filter test (ascending R xs) ≡ ascending R (filter test xs)
  kept_order [] = refl
  kept_order (x ∷ xs) = by (test x) refl (kept_order xs)
    where
      by : (b : Bool) → test x ≡ b → filter test (ascending R xs) ≡ ascending R (filter test xs) → filter test (placed R x (ascending R xs)) ≡ ascending R (cond b (x ∷ filter test xs) (filter test xs))
      by true e h = kept_in x (ascending R xs) e (rising_ascending o (x ∷ xs)) ∙ ap (placed R x) h
      by false e h = left_out x (ascending R xs) e ∙ h

-- the first for which there is something is the first of those for which there is
first_given : {X Y : Type 0} (g : X → Option Y) (test : X → Bool) → ((x : X) → is_some (g x) ≡ test x) → (xs : List X) → slice_get (filter_map g xs) 0 ≡ option_and_then g (slice_get (filter test xs) 0)
first_given g test same [] = refl
first_given {X} {Y} g test same (x ∷ xs) = by (g x) refl (test x) refl (first_given g test same xs)
  where
    by : (o : Option Y) → g x ≡ o → (b : Bool) → test x ≡ b → slice_get (filter_map g xs) 0 ≡ option_and_then g (slice_get (filter test xs) 0)
        → slice_get (filter_map g (x ∷ xs)) 0 ≡ option_and_then g (slice_get (cond b (x ∷ filter test xs) (filter test xs)) 0)
    by None e true f h = absurd (let k : false ≡ true = sym (ap is_some e) ∙ same x ∙ f in cc)
    by None e false f h = rw e h
    by (Some y) e true f h = rw e refl
    by (Some y) e false f h = absurd (let k : true ≡ false = sym (ap is_some e) ∙ same x ∙ f in cc)

-- an assignment has a fault where its result is one
own_by : (a : Assignment) (v : Value) (o : Option Slot) → is_some (own_fault (λ c. unwrap_or o (Done v)) a) ≡ is_faulted o
own_by a v None = refl
own_by a v (Some (Done w)) = refl
own_by a v (Some (Faulted f)) = refl
own_by a v (Some Poisoned) = refl

module _ (input : CellInput) (results : Results) where
  abbrev slots : Slots
  slots = slot_at input results

  abbrev test : Assignment → Bool
  test a = is_faulted (results (name_assigned a))

  own_is : (a : Assignment) → is_some (own_fault slots a) ≡ test a
  own_is a = own_by a (input_value input (name_assigned a)) (results (name_assigned a))

  -- each stands behind its number
  abbrev HasPlace : List Assignment → ℕ → ℕ × Assignment → Type 0
  HasPlace assigned n e = (k : ℕ) × (e.0 ≡ n + k) × (slice_get assigned k ≡ Some e.1)

  abbrev AllPlaced : (ℕ × Assignment → Type 0) → List (ℕ × Assignment) → Type 0
  AllPlaced P [] = Unit {0}
  AllPlaced P (e ∷ es) = P e × AllPlaced P es

  placed_weaker : (P Q : ℕ × Assignment → Type 0) → ((e : ℕ × Assignment) → P e → Q e) → (es : List (ℕ × Assignment)) → AllPlaced P es → AllPlaced Q es
  placed_weaker P Q w [] h = tt
  placed_weaker P Q w (e ∷ es) h = (w e h.0, placed_weaker P Q w es h.1)

  all_numbered : (assigned : List Assignment) (n : ℕ) → AllPlaced (HasPlace assigned n) (enumerate_from n assigned)
  all_numbered [] n = tt
  all_numbered (a ∷ others) n = (
    (zero, omega arith, refl),
    placed_weaker (HasPlace others (n + 1)) (HasPlace (a ∷ others) n) (λ e h. (suc h.0, omega (arith, h.1), h.2)) (enumerate_from (n + 1) others) (all_numbered others (n + 1)),
  )

  placed_kept : (P : ℕ × Assignment → Type 0) (p : ℕ × Assignment → Bool) (es : List (ℕ × Assignment)) → AllPlaced P es → AllPlaced P (filter p es)
  placed_kept P p [] h = tt
  placed_kept P p (e ∷ es) h = by (p e) (placed_kept P p es h.1)
    where
      by : (b : Bool) → AllPlaced P (filter p es) → AllPlaced P (cond b (e ∷ filter p es) (filter p es))
      by true r = (h.0, r)
      by false r = r

  placed_in : (P : ℕ × Assignment → Type 0) (cmp : ℕ × Assignment → ℕ × Assignment → Ordering) (e : ℕ × Assignment) (es : List (ℕ × Assignment)) → P e → AllPlaced P es → AllPlaced P (placed cmp e es)
  placed_in P cmp e [] p h = (p, tt)
  placed_in P cmp e (f ∷ fs) p h = by (is_gt (cmp e f)) (placed_in P cmp e fs p h.1)
    where
      by : (g : Bool) → AllPlaced P (placed cmp e fs) → AllPlaced P (if g then f ∷ placed cmp e fs else e ∷ f ∷ fs)
      by true r = (h.0, r)
      by false r = (p, h)

  placed_ascending : (P : ℕ × Assignment → Type 0) (cmp : ℕ × Assignment → ℕ × Assignment → Ordering) (es : List (ℕ × Assignment)) → AllPlaced P es → AllPlaced P (ascending cmp es)
  placed_ascending P cmp [] h = tt
  placed_ascending P cmp (e ∷ es) h = placed_in P cmp e (ascending cmp es) h.0 (placed_ascending P cmp es h.1)

  placed_first : (P : ℕ × Assignment → Type 0) (es : List (ℕ × Assignment)) (e : ℕ × Assignment) → AllPlaced P es → slice_get es 0 ≡ Some e → P e
  placed_first P [] e h i = cc
  placed_first P (f ∷ fs) e h i = let same : f ≡ e = ap (λ o. option_map_or (λ x. x) o f) i in subst P same h.0

  numbers_kept : (assigned : List Assignment) (n : ℕ) → map (λ (e : ℕ × Assignment). e.1) (faulted_from n results assigned) ≡ filter test assigned
  numbers_kept [] n = refl
  numbers_kept (a ∷ others) n = by (test a) (numbers_kept others (n + 1))
    where
      by : (b : Bool) → map (λ (e : ℕ × Assignment). e.1) (faulted_from (n + 1) results others) ≡ filter test others
          → map (λ (e : ℕ × Assignment). e.1) (cond b ((n, a) ∷ faulted_from (n + 1) results others) (faulted_from (n + 1) results others)) ≡ cond b (a ∷ filter test others) (filter test others)
      by true h = ap (λ l. a ∷ l) h
      by false h = h

  module _ (assigned : List Assignment) where
    abbrev order : ℕ × Assignment → ℕ × Assignment → Ordering
    order = on (λ e. e.1) cmp_by_rule

    abbrev least : Option (ℕ × Assignment)
    least = least_of order (faulted_from 0 results assigned)

    map_first : (es : List (ℕ × Assignment)) → slice_get (map (λ (e : ℕ × Assignment). e.1) es) 0 ≡ option_map (λ e. e.1) (slice_get es 0)
    map_first [] = refl
    map_first (e ∷ es) = refl

    -- the least that faulted, without its number
    least_is : option_map (λ (e : ℕ × Assignment). e.1) least ≡ slice_get (filter test (ascending cmp_by_rule assigned)) 0
    least_is =
        sym (map_first (ascending order (faulted_from 0 results assigned)))
        ∙ ap (λ (l : List Assignment). slice_get l 0) (mapped_ascending (λ (e : ℕ × Assignment). e.1) cmp_by_rule (faulted_from 0 results assigned) ∙ ap (ascending cmp_by_rule) (numbers_kept assigned 0)
        ∙ sym (kept_order by_rule_total test assigned))

    -- .. and its number is its place
    least_place : (e : ℕ × Assignment) → least ≡ Some e → slice_get assigned e.0 ≡ Some e.1
    least_place e h =
        let all = placed_ascending (HasPlace assigned 0) order (faulted_from 0 results assigned)
        (placed_kept (HasPlace assigned 0) (λ e. is_faulted (results (name_assigned e.1))) (enumerate_from 0 assigned) (all_numbered assigned 0)) in
        let p = placed_first (HasPlace assigned 0) (ascending order (faulted_from 0 results assigned)) e all h in
        let same : e.0 ≡ p.0 = omega (arith, p.1) in
        ap (slice_get assigned) same ∙ p.2

    first_is : (shape : PartShape) → shape.assigned ≡ assigned → first_fault shape slots ≡ option_and_then (own_fault slots) (option_map (λ (e : ℕ × Assignment). e.1) least)
    first_is shape s =
        ap (λ l. slice_get (filter_map (own_fault slots) (ascending cmp_by_rule l)) 0) s
        ∙ first_given (own_fault slots) test own_is (ascending cmp_by_rule assigned)
        ∙ ap (option_and_then (own_fault slots)) (sym least_is)

  passed : (p : ℕ × Assignment → Bool) (es : List (ℕ × Assignment)) → AllPlaced (λ e. p e ≡ true) (filter p es)
  passed p [] = tt
  passed p (e ∷ es) = by (p e) refl (passed p es)
    where
      by : (b : Bool) → p e ≡ b → AllPlaced (λ e. p e ≡ true) (filter p es) → AllPlaced (λ e. p e ≡ true) (cond b (e ∷ filter p es) (filter p es))
      by true h r = (h, r)
      by false h r = r

  -- at the place of the first fault stands an assignment with one
  pub record HasFault (assigned : List Assignment) (at : ℕ) : Type 0 where
    pub item : Assignment
    pub there : slice_get assigned at ≡ Some item
    pub faulted : is_faulted (results (name_assigned item)) ≡ true

  pub first_place : (assigned : List Assignment) (at : ℕ) → first_faulted results assigned ≡ Some at → HasFault assigned at
  first_place assigned at h = by (least assigned) refl h
    where
      by : (o : Option (ℕ × Assignment)) → least assigned ≡ o → option_map (λ e. e.0) o ≡ Some at → HasFault assigned at
      by None e g = cc
      by (Some e) f g =
          let same : e.0 ≡ at = ap (λ o. option_map_or (λ x. x) o at) g in
          record {
            item = e.1;
            there = ap (slice_get assigned) (sym same) ∙ least_place assigned e f;
            faulted =
                placed_first (λ e. is_faulted (results (name_assigned e.1)) ≡ true) (ascending (order assigned) (faulted_from 0 results assigned)) e
                (placed_ascending (λ e. is_faulted (results (name_assigned e.1)) ≡ true) (order assigned) (faulted_from 0 results assigned)
                (passed (λ e. is_faulted (results (name_assigned e.1))) (enumerate_from 0 assigned))) f;
          }

  pub faulted_slot : (a : Assignment) → is_faulted (results (name_assigned a)) ≡ true → is_faulted (Some (slots (name_assigned a))) ≡ true
  faulted_slot a = by (results (name_assigned a))
    where
      by : (o : Option Slot) → is_faulted o ≡ true → is_faulted (Some (unwrap_or o (Done (input_value input (name_assigned a))))) ≡ true
      by None h = cc
      by (Some (Done v)) h = cc
      by (Some (Faulted f)) h = refl
      by (Some Poisoned) h = cc

  -- the fault at the least assignment that faulted is the result
  pub fault_is : (model : Model) (key : Tuple) (shape : PartShape) (at : ℕ) (r : PartResult) → Some at ≡ first_faulted results shape.assigned → Some r ≡ faulted_at key slots (slice_get shape.assigned at)
      → r ≡ result_with model key shape slots
  fault_is model key shape at r first is = by (least shape.assigned) refl first
    where
      by_fault : (o : Option Placed) → first_fault shape slots ≡ o → Some r ≡ option_map (λ fault. Fault (at_partition key fault)) o → r ≡ result_with model key shape slots
      by_fault None e h = cc
      by_fault (Some p) e h =
          ap (λ o. option_map_or (λ x. x) o r) h
          ∙ sym (ap (λ (o : Option Placed). part_result key (option_map_or Err o (Ok (map (slot_cell model shape slots) shape.cells)))) e)

      by : (o : Option (ℕ × Assignment)) → least shape.assigned ≡ o → Some at ≡ option_map (λ e. e.0) o → r ≡ result_with model key shape slots
      by None e h = cc
      by (Some e) g h =
          let same : at ≡ e.0 = ap (λ o. option_map_or (λ x. x) o at) h in
          let there : slice_get shape.assigned at ≡ Some e.1 = ap (slice_get shape.assigned) same ∙ least_place shape.assigned e g in
          let fault : first_fault shape slots ≡ own_fault slots e.1 =
          first_is shape.assigned shape refl ∙ ap (λ o. option_and_then (own_fault slots) (option_map (λ (e : ℕ × Assignment). e.1) o)) g in
          by_fault (own_fault slots e.1) fault (is ∙ ap (faulted_at key slots) there)

  -- where none faulted the cells are
  pub cells_are : (model : Model) (key : Tuple) (shape : PartShape) → None ≡ first_faulted results shape.assigned
      → part_result key (Ok (map (slot_cell model shape slots) shape.cells)) ≡ result_with model key shape slots
  cells_are model key shape first = by (least shape.assigned) refl first
    where
      by : (o : Option (ℕ × Assignment)) → least shape.assigned ≡ o → None ≡ option_map (λ e. e.0) o → part_result key (Ok (map (slot_cell model shape slots) shape.cells)) ≡ result_with model key shape slots
      by (Some e) g h = cc
      by None g h =
          let none : first_fault shape slots ≡ None = first_is shape.assigned shape refl ∙ ap (λ o. option_and_then (own_fault slots) (option_map (λ (e : ℕ × Assignment). e.1) o)) g in
          sym (ap (λ (o : Option Placed). part_result key (option_map_or Err o (Ok (map (slot_cell model shape slots) shape.cells)))) none)

-- the fault that stands at the measure of an assignment, in the partition with this key
pub fault_made : (key : Tuple) (slots : Slots) (assigned : List Assignment) (at : ℕ) (a : Assignment) (fault : ValueFault) (kind : FaultKind) (partition cell : Tuple) → Some a ≡ slice_get assigned at → Faulted fault ≡ slots (name_assigned a)
    → kind ≡ kind_of fault → partition ≡ key → cell ≡ a.0 → Some (Fault (record { kind = kind; rule = a.2; partition = partition; cell = cell })) ≡ faulted_at key slots (slice_get assigned at)
fault_made key slots assigned at a fault kind partition cell there is k p c =
    (λ i. Some (Fault (record { kind = k i; rule = a.2; partition = p i; cell = c i })))
    ∙ ap (λ s. option_map (λ f. Fault (at_partition key f)) (own_fault (λ n. s) a)) is
    ∙ ap (faulted_at key slots) there
