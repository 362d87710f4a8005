-- What stands beside numbered cells, once a cell came or an item was put or taken away.
use Rattle.std.proofs.Common.{◌≡◌, ℕ, ◌+◌, ◌<◌, ◌≤◌, ◌==◌, ◌&&◌, Bool, true, false, true≢false, cond, List, [], ◌∷◌, length, Option, Some, None, Result, Ok, Err, OnErr, if◌then◌else◌, refl, sym, ap, ◌∙◌, inl, inr, ◌⊎◌, arith}
use Rattle.std.specs.Cmp.{unsigned_Decides}
use Rattle.std.specs.Option.{option_map, unwrap_or}
use Rattle.std.specs.Ordering.{on}
use Rattle.mq_ir.specs.declared.query.CellName.{CellName}
use Rattle.mq_ir.specs.declared.query.Slot.{Slot}
use Rattle.mq_ir.specs.declared.query.Slot.TheVariants.{Done, Faulted, Poisoned}
use Rattle.mq_ir.specs.Keys.{Tuple, is_same}
use Rattle.mq_ir.specs.Shape.{Assignment, cmp_by_rule, least_of}
use Rattle.mq_cells.specs.IndexedStores.{AreKept, IsFree, given_by, input_over, is_sound, result_by, results_over_numbers}
use Rattle.mq_cells.specs.LaneItems.{Lanes, LaneDiffers, lane_item}
use Rattle.mq_cells.specs.Numberings.{AreNumbered, Came, Grows, Numbering, number_of}
use Rattle.mq_cells.specs.Stores.{DiffersAt, Results, cell_name, faulted_from, first_faulted, is_faulted, name_assigned}
use Rattle.mq_cells.proofs.KeyLemmas.{same_tuple}

-- a cell that came has no input and no results
module _ (before after : Numbering) (grows : Grows before after) where
  pub same_input : (given : List (Option Tuple)) → IsFree before given → input_over after given ≡ input_over before given
  same_input given free = λ i key. by key (grows.each key) i
    where
      by : (key : Tuple) → (number_of after key ≡ number_of before key) ⊎ Came before after key → input_over after given key ≡ input_over before given key
      by key (inl e) = ap (given_by given) e
      by key (inr (none, (n, found, l))) = ap (given_by given) found ∙ free n l ∙ sym (ap (given_by given) none)

  pub same_results : (lanes : Lanes Slot) → ((m n : ℕ) → length before.numbers ≤ n → lane_item lanes m n ≡ None) → results_over_numbers after lanes ≡ results_over_numbers before lanes
  same_results lanes free = λ i c. by c (grows.each c.key) i
    where
      by : (c : CellName) → (number_of after c.key ≡ number_of before c.key) ⊎ Came before after c.key
          → results_over_numbers after lanes c ≡ results_over_numbers before lanes c
      by c (inl e) = ap (result_by lanes c.measure) e
      by c (inr (none, (n, found, l))) = ap (result_by lanes c.measure) found ∙ free c.measure n l ∙ sym (ap (result_by lanes c.measure) none)

-- the same items are the same results
pub same_items : (cells : Numbering) (before after : Lanes Slot) → ((m n : ℕ) → lane_item after m n ≡ lane_item before m n) → results_over_numbers cells after ≡ results_over_numbers cells before
same_items cells before after same = λ i c. by c (number_of cells c.key) i
  where
    by : (c : CellName) (o : Option ℕ) → result_by after c.measure o ≡ result_by before c.measure o
    by c None = refl
    by c (Some n) = same c.measure n

module _ (cells : Numbering) (numbered : AreNumbered cells) (key : Tuple) (m : ℕ) where
  -- a number is that of the key exactly where its own key is the same
  pub tells : (number : ℕ) → number_of cells key ≡ Some number → (q : Tuple) (n : ℕ) (b : Bool) → number_of cells q ≡ Some n → is_same key q ≡ b → (number == n) ≡ b
  tells number own q n true found e =
      let f : Some number ≡ Some n = sym own ∙ ap (number_of cells) (same_tuple key q e) ∙ found in
      (unsigned_Decides number n).1 (ap (λ (o : Option ℕ). unwrap_or o n) f)
  tells number own q n false found e = by (number == n) refl
    where
      by : (b : Bool) → (number == n) ≡ b → b ≡ false
      by true f = absurd (true≢false (sym (numbered.once key q n (own ∙ ap (λ x. Some x) ((unsigned_Decides number n).0 f)) found) ∙ e))
      by false f = refl

  turned_round : {X : Type 0} (a b : Bool) (x y : X) → (if a && b then x else y) ≡ (if b && a then x else y)
  turned_round true true x y = refl
  turned_round true false x y = refl
  turned_round false true x y = refl
  turned_round false false x y = refl

  -- an item at the number of a cell is the result of that cell
  pub item_differs : (number : ℕ) → number_of cells key ≡ Some number → (before after : Lanes Slot) (item : Option Slot) → LaneDiffers before after m number item
      → DiffersAt (results_over_numbers cells before) (results_over_numbers cells after) (cell_name key m) item
  item_differs number own before after item differs c = by (number_of cells c.key) (is_same key c.key) refl refl
    where
      by : (o : Option ℕ) (b : Bool) → number_of cells c.key ≡ o → is_same key c.key ≡ b → result_by after c.measure o ≡ (if b && (m == c.measure) then item else result_by before c.measure o)
      by None true found e = let f : None ≡ Some number = sym found ∙ ap (number_of cells) (sym (same_tuple key c.key e)) ∙ own in absurd cc
      by None false found e = refl
      by (Some n) b found e =
          differs c.measure n ∙ ap (λ x. if (m == c.measure) && x then item else lane_item before c.measure n) (tells number own c.key n b found e)
          ∙ turned_round (m == c.measure) b item (lane_item before c.measure n)

  -- a cell that is not there has nothing that could be taken away
  pub nothing_differs : number_of cells key ≡ None → (lanes : Lanes Slot) → DiffersAt (results_over_numbers cells lanes) (results_over_numbers cells lanes) (cell_name key m) None
  nothing_differs none lanes c = by (is_same key c.key) (m == c.measure) refl
    where
      by : (b d : Bool) → is_same key c.key ≡ b → results_over_numbers cells lanes c ≡ (if b && d then None else results_over_numbers cells lanes c)
      by true true e = ap (result_by lanes c.measure) (ap (number_of cells) (sym (same_tuple key c.key e)) ∙ none)
      by true false e = refl
      by false d e = refl

-- what is kept stays so where a cell may have come and one item of a cell changed
pub kept_put : (before after : Numbering) (given : List (Option Tuple)) (lanes changed : Lanes Slot) (sound now : Bool) (m number : ℕ) (item : Option Slot) → AreKept before given lanes sound → Grows before after
    → number < length after.numbers → LaneDiffers lanes changed m number item → (now ≡ true → (sound ≡ true) × (is_sound item ≡ true)) → AreKept after given changed now
kept_put before after given lanes changed sound now m number item kept grows below differs told = record {
  free_given = λ n l. let g = grows.further in kept.free_given n (omega (arith, g, l));
  free_lanes = λ j n l.
      let g = grows.further in
      let other : (number == n) ≡ false = apart n l (number == n) refl in
      differs j n ∙ ap (λ b. if (j_is j) && b then item else lane_item lanes j n) other ∙ off (j_is j) (lane_item lanes j n) ∙ kept.free_lanes j n (omega (arith, g, l));
  all_sound = λ t j n. ap is_sound (differs j n) ∙ by (j_is j && (number == n)) (lane_item lanes j n) (kept.all_sound (told t).0 j n) (told t).1;
}
  where
    j_is : ℕ → Bool
    j_is j = m == j

    apart : (n : ℕ) → length after.numbers ≤ n → (b : Bool) → (number == n) ≡ b → b ≡ false
    apart n l true e = let f : number ≡ n = (unsigned_Decides number n).0 e in absurd (omega (arith, f, l, below))
    apart n l false e = refl

    off : (b : Bool) (x : Option Slot) → (if b && false then item else x) ≡ x
    off true x = refl
    off false x = refl

    by : (b : Bool) (x : Option Slot) → is_sound x ≡ true → is_sound item ≡ true → is_sound (if b then item else x) ≡ true
    by true x old new = new
    by false x old new = old

pub grown_itself : (cells : Numbering) → Grows cells cells
grown_itself cells = record { further = omega arith; each = λ q. inl refl }

-- where all results are sound no fault stands
none_faulted : (results : Results) → ((c : CellName) → is_faulted (results c) ≡ false) → (n : ℕ) (assigned : List Assignment) → faulted_from n results assigned ≡ []
none_faulted results h n [] = refl
none_faulted results h n (a ∷ assigned) =
    ap (λ b. cond b ((n, a) ∷ faulted_from (n + 1) results assigned) (faulted_from (n + 1) results assigned)) (h (name_assigned a)) ∙ none_faulted results h (n + 1) assigned

pub no_fault : (cells : Numbering) (lanes : Lanes Slot) → ((m n : ℕ) → is_sound (lane_item lanes m n) ≡ true) → (assigned : List Assignment)
    → first_faulted (results_over_numbers cells lanes) assigned ≡ None
no_fault cells lanes sound assigned =
    ap (λ (es : List (ℕ × Assignment)). option_map (λ e. e.0) (least_of (on (λ (e : ℕ × Assignment). e.1) cmp_by_rule) es))
    (none_faulted (results_over_numbers cells lanes) (λ c. at c (number_of cells c.key)) 0 assigned)
  where
    unfaulted : (o : Option Slot) → is_sound o ≡ true → is_faulted o ≡ false
    unfaulted None h = refl
    unfaulted (Some (Done v)) h = refl
    unfaulted (Some (Faulted fault)) h = absurd cc
    unfaulted (Some Poisoned) h = refl

    at : (c : CellName) (o : Option ℕ) → is_faulted (result_by lanes c.measure o) ≡ false
    at c None = refl
    at c (Some n) = unfaulted (lane_item lanes c.measure n) (sound c.measure n)

pub on_err : {A E : Type 0} (P : Type 0) (r : Result A E) → P → OnErr r P
on_err P (Ok x) p = tt
on_err P (Err e) p = p
