-- The cells that stand before an assignment, and the slots of that moment: all of them are done, as a fault ends the run.
use Rattle.std.proofs.Common.{◌≡◌, ℕ, zero, suc, ◌+◌, ◌<◌, Bool, true, false, not, ◌&&◌, ◌||◌, List, [], ◌∷◌, cond, length, map, Some, refl, sym, ap, subst, ◌∙◌, arith}
use Rattle.std.specs.Prelude.{slice_index_or}
use Rattle.std.specs.List.{filter, list_all, range_with_len}
use Rattle.std.specs.List.Sorted.{IsStrictlySortedBy}
use Rattle.std.specs.Map.{keys_of}
use Rattle.std.specs.Option.{option_map_or}
use Rattle.mq_values.specs.Order.{cmp_key}
use Rattle.mq_values.specs.declared.value.Value.{Value}
use Rattle.mq_values.specs.declared.value.Value.TheVariants.{Null}
use Rattle.mq_ir.specs.declared.query.CellName.{CellName}
use Rattle.mq_ir.specs.declared.query.Look.{Look}
use Rattle.mq_ir.specs.declared.query.Look.TheVariants.{Measure, Presence}
use Rattle.mq_ir.specs.declared.query.Slot.TheVariants.{Done, Poisoned}
use Rattle.mq_ir.specs.EachLaws.{Each}
use Rattle.mq_ir.specs.Histories.{given_slots, version_slot, with_slot}
use Rattle.mq_ir.specs.Keys.{Tuple, is_among, is_same}
use Rattle.mq_ir.specs.Looks.{looks_of}
use Rattle.mq_ir.specs.Partitions.{Cells, cell_at}
use Rattle.mq_ir.specs.Reads.{measure_at, right_value}
use Rattle.mq_ir.specs.Sequential.{assigned, with_created}
use Rattle.mq_ir.specs.Slots.{Slots, done_value, is_known, slot_of}
use Rattle.mq_ir.specs.Targets.{targets}
use Rattle.mq_ir.specs.Unfolding.{Model}
use Rattle.mq_ir.specs.VersionLooks.{is_version_of, version_site}
use Rattle.mq_ir.specs.Versions.{LeftAt, Version, act_of, with_keys}
use Rattle.mq_change_laws.specs.AscentLaws.{below_apart}
use Rattle.mq_change_laws.specs.KeyLaws.{among_kept, each_itself, each_map, same_itself}
use Rattle.mq_change_laws.specs.OnceLaws.{created_apart}
use Rattle.mq_change_laws.specs.SoundLaws.{same_is}
use Rattle.mq_version_laws.proofs.CellLemmas.{HasRow, comes_among, empty_where_absent, has_row, keys_assigned, keys_created, measure_assigned, measures_created, rows_assigned, rows_created, stays_among, strict_with}

-- the cells have these keys, a value for each measure, and the slots of the moment are their values
pub record Stands (model : Model) (set : List Tuple) (slots : Slots) (cells : Cells) : Type 0 where
  pub keys : keys_of cells ≡ set
  pub ascend : IsStrictlySortedBy cmp_key set
  pub wide : Each (λ cell. length cell.1 ≡ length model.part.measures) cells
  pub worth : slots ≡ given_slots cells

-- ---- what a version comes to where all is done
all_known : (cells : Cells) (looks : List Look) → list_all (is_known (given_slots cells)) looks ≡ true
all_known cells [] = refl
all_known cells (Measure c ∷ looks) = all_known cells looks
all_known cells (Presence key ∷ looks) = all_known cells looks

module _ (model : Model) (keys set : List Tuple) (slots : Slots) (cells : Cells) (s : Stands model set slots cells) where
  -- the slot of a version over such a moment is the outcome of its right side
  pub slot_is_outcome : (v : Version) → v.set ≡ set
      → version_slot model keys v slots
      ≡ slot_of (right_value (record (version_site model v) { set = keys_of cells }) keys (measure_at cells) v.rule)
  slot_is_outcome v h =
      ap (version_slot model keys v) s.worth
      ∙ ap (λ b. cond b (slot_of (right_value (version_site model v) keys (measure_at cells) v.rule)) Poisoned) (all_known cells (looks_of (version_site model v) v.rule.right))
      ∙ ap (λ ks. slot_of (right_value (record (version_site model v) { set = ks }) keys (measure_at cells) v.rule)) (h ∙ sym s.keys)

  -- after the assignment of a cell that is there
  pub stands_assigned : (v : Version) (value : Value) → v.rule.measure < length model.part.measures → is_among set v.key ≡ true
      → Stands model set (with_slot slots v (Done value)) (assigned cells v.key v.rule.measure value)
  stands_assigned v value bound there =
      let among : is_among (keys_of cells) v.key ≡ true = ap (λ ks. is_among ks v.key) s.keys ∙ there in
      let has : HasRow (length model.part.measures) cells v.key = has_row (length model.part.measures) cells v.key s.wide among in
      record {
        keys =
            keys_assigned (length model.part.measures) cells v.key v.rule.measure value has (subst (IsStrictlySortedBy cmp_key) (sym s.keys) s.ascend) among
            ∙ s.keys;
        ascend = s.ascend;
        wide = rows_assigned (length model.part.measures) cells v.key v.rule.measure value has s.wide;
        worth = λ i c. with_is has c i;
      }
    where
      with_is : HasRow (length model.part.measures) cells v.key → (c : CellName)
          → with_slot slots v (Done value) c ≡ given_slots (assigned cells v.key v.rule.measure value) c
      with_is has c =
          pushed (is_version_of c v)
          ∙ ap Done (sym (measure_assigned (length model.part.measures) cells v.key v.rule.measure value has bound c))
        where
          pushed : (b : Bool) → cond b (Done value) (slots c) ≡ Done (cond b value (measure_at cells c))
          pushed true = refl
          pushed false = ap (λ f. f c) s.worth

  -- after the cells that a left side creates
  pub stands_created : (created : List Tuple) → Each (λ q. is_among set q ≡ false) created
      → Stands model (with_keys set created) slots (with_created model cells created)
  stands_created created none = record {
    keys = keys_created model created cells ∙ ap (λ ks. with_keys ks created) s.keys;
    ascend = strict_with created set s.ascend;
    wide = rows_created model created cells s.wide;
    worth = s.worth ∙ (λ i c. Done (sym (measures_created model created cells empty c) i));
  }
    where
      empty : Each (λ q. (m : ℕ) → measure_at cells (record { key = q; measure = m }) ≡ Null) created
      empty =
          each_map (λ q. is_among set q ≡ false) (λ q. (m : ℕ) → measure_at cells (record { key = q; measure = m }) ≡ Null)
          (λ q h m. empty_where_absent cells q (ap (λ ks. is_among ks q) s.keys ∙ h) m) created none

-- each target of a left side is there once its cells are created
pub targets_there : (at : LeftAt) (set : List Tuple) → Each (λ q. is_among (act_of at set).set q ≡ true) (act_of at set).targets
targets_there at set = each_map (λ q. is_among (act_of at set).targets q ≡ true) (λ q. is_among (act_of at set).set q ≡ true) there cells (each_itself cells)
  where
    cells : List Tuple
    cells = (targets at.left at.rule.mode set).cells

    created : List Tuple
    created = filter (λ key. not (is_among set key)) cells

    there : (q : Tuple) → is_among cells q ≡ true → is_among (with_keys set created) q ≡ true
    there q h = by (is_among set q) refl
      where
        by : (b : Bool) → is_among set q ≡ b → is_among (with_keys set created) q ≡ true
        by true e = stays_among q created set e
        by false e =
            comes_among q created set
            (among_kept (λ key. not (is_among set key)) q cells ∙ ap (λ b. not b && is_among cells q) e ∙ h)

-- the created cells of a left side were not there
pub created_new : (at : LeftAt) (set : List Tuple) → Each (λ q. is_among set q ≡ false) (act_of at set).created
created_new at set = created_apart set (targets at.left at.rule.mode set).cells

-- ---- cells told by their keys and the values that are read of them
abbrev pub cell_in : Model → Slots → Tuple → Tuple × Tuple
cell_in model slots key = (key, map (λ m. done_value (slots (record { key = key; measure = m }))) (range_with_len 0 (length model.part.measures)))

-- the values of a row from a place on
row_from : (whole row : Tuple) (n a : ℕ) → length row ≡ n → ((i : ℕ) → slice_index_or row i Null ≡ slice_index_or whole (a + i) Null)
    → map (λ m. slice_index_or whole m Null) (range_with_len a n) ≡ row
row_from whole [] n a h same = let z : n ≡ 0 = sym h in ap (λ k. map (λ m. slice_index_or whole m Null) (range_with_len a k)) z
row_from whole (x ∷ xs) zero a h same = absurd (omega (arith, h))
row_from whole (x ∷ xs) (suc n) a h same =
    let first : slice_index_or whole a Null ≡ x = sym (same 0 ∙ ap (λ k. slice_index_or whole k Null) zero_right) in
    let rest = row_from whole xs n (a + 1) (omega (arith, h)) (λ i. same (suc i) ∙ ap (λ k. slice_index_or whole k Null) (moved i)) in
    λ i. first i ∷ rest i
  where
    zero_right : a + 0 ≡ a
    zero_right = omega arith

    moved : (i : ℕ) → a + suc i ≡ a + 1 + i
    moved i = omega arith

row_is : (row : Tuple) (n : ℕ) → length row ≡ n → map (λ m. slice_index_or row m Null) (range_with_len 0 n) ≡ row
row_is row n h = row_from row row n 0 h (λ i. ap (λ k. slice_index_or row k Null) (let e : i ≡ 0 + i = omega arith in e))

-- cells that ascend, each row with a value for each measure, are what is read of them
cells_read : (n : ℕ) (cells : Cells) → IsStrictlySortedBy cmp_key (keys_of cells) → Each (λ cell. length cell.1 ≡ n) cells
    → (more : Cells) → ((key : Tuple) → is_among (keys_of cells) key ≡ true → cell_at more key ≡ cell_at cells key)
    → map (λ key. (key, map (λ m. measure_at more (record { key = key; measure = m })) (range_with_len 0 n))) (keys_of cells) ≡ cells
unfolding IsStrictlySortedBy
cells_read n [] s a more same = refl
cells_read n (e ∷ es) s a more same =
    let first : map (λ m. measure_at more (record { key = e.0; measure = m })) (range_with_len 0 n) ≡ e.1 =
    ap (λ o. map (λ m. option_map_or (λ measures. slice_index_or measures m Null) o Null) (range_with_len 0 n)) here ∙ row_is e.1 n a.0 in
    let rest = cells_read n es s.1 a.1 more (λ key h. same key (ap (λ b. is_same key e.0 || b) h ∙ either (is_same key e.0)) ∙ later key h) in
    λ i. (e.0, first i) ∷ rest i
  where
    either : (b : Bool) → (b || true) ≡ true
    either true = refl
    either false = refl

    here : cell_at more e.0 ≡ Some e.1
    here =
        same e.0 (ap (λ b. b || is_among (keys_of es) e.0) (same_itself e.0))
        ∙ ap (λ b. cond b (Some e.1) (cell_at es e.0)) (same_itself e.0)

    later : (key : Tuple) → is_among (keys_of es) key ≡ true → cond (is_same key e.0) (Some e.1) (cell_at es key) ≡ cell_at es key
    later key h = by (is_same key e.0) refl
      where
        by : (b : Bool) → is_same key e.0 ≡ b → cond b (Some e.1) (cell_at es key) ≡ cell_at es key
        by true f =
            let k : true ≡ false = sym h ∙ ap (is_among (keys_of es)) (same_is key e.0 f) ∙ below_apart e.0 (keys_of es) s.0 in
            cc
        by false f = refl

pub cells_are : (model : Model) (set : List Tuple) (slots : Slots) (cells : Cells) → Stands model set slots cells
    → map (cell_in model slots) set ≡ cells
cells_are model set slots cells s =
    (λ i. map (cell_in model (s.worth i)) (sym s.keys i))
    ∙ cells_read (length model.part.measures) cells (subst (IsStrictlySortedBy cmp_key) (sym s.keys) s.ascend) s.wide cells (λ key h. refl)
