-- What a right side looks at of its rule's own measure, part by part.
use Rattle.std.proofs.Common.{◌≡◌, ℕ, suc, ◌+◌, ◌-◌, ◌<◌, ◌≤◌, ◌==◌, Bool, true, false, ◌&&◌, ◌||◌, cond, not, List, [], ◌∷◌, drop, take, length, get_or, refl, sym, ap, arith, ◌∙◌}
use Rattle.std.specs.Prelude.{slice_index_or}
use Rattle.std.specs.List.{filter, list_any}
use Rattle.std.proofs.lemmas.Bool.{eqb-true}
use Rattle.std.proofs.lemmas.List.{drop_all, drop_more}
use Rattle.std.proofs.lemmas.List.Folds.{list_any-append}
use Rattle.mq_values.specs.KeySets.{HasKeysOf}
use Rattle.mq_ir.specs.declared.query.CellName.{CellName}
use Rattle.mq_ir.specs.declared.query.Look.{Look}
use Rattle.mq_ir.specs.declared.query.Look.TheVariants.{Measure, Presence}
use Rattle.mq_ir.specs.Keys.{Tuple, is_among, is_same}
use Rattle.mq_ir.specs.Looks.{looks_at}
use Rattle.mq_ir.specs.Sequential.{is_of_other}
use Rattle.mq_ir.specs.StepLaws.{next_item}
use Rattle.mq_refs.specs.declared.parts.LookPart.{LookPart}
use Rattle.mq_refs.specs.LookParts.{is_wanted, looks_in, looks_of_part}
use Rattle.mq_seq.specs.Steps.{is_other}

-- ---- looks at other measures do not count
module _ (found : List Tuple) (m : ℕ) (target : Tuple) where
  at_other : (c : CellName) → (c.measure == m) ≡ false → is_of_other found m target (Measure c) ≡ false
  at_other c h = ap (λ b. b && is_among found c.key && not (is_same c.key target)) h

  unwanted : (own : List Bool) → slice_index_or own m false ≡ true → (look : Look) → is_wanted own look ≡ false → is_of_other found m target look ≡ false
  unwanted own h (Presence key) off = refl
  unwanted own h (Measure c) off = by (c.measure == m) refl
    where
      by : (b : Bool) → (c.measure == m) ≡ b → is_of_other found m target (Measure c) ≡ false
      by false e = at_other c e
      by true e =
          let on : slice_index_or own c.measure false ≡ true = ap (λ k. slice_index_or own k false) (eqb-true c.measure m e) ∙ h in
          let none : true ≡ false = sym on ∙ off in
          absurd (cc)

  any_wanted : (own : List Bool) → slice_index_or own m false ≡ true → (looks : List Look) →
      list_any (is_of_other found m target) (filter (is_wanted own) looks) ≡ list_any (is_of_other found m target) looks
  any_wanted own h [] = refl
  any_wanted own h (look ∷ looks) = by (is_wanted own look) refl (any_wanted own h looks)
    where
      of : Look → Bool
      of = is_of_other found m target

      by : (b : Bool) → is_wanted own look ≡ b → list_any of (filter (is_wanted own) looks) ≡ list_any of looks
          → list_any of (cond b (look ∷ filter (is_wanted own) looks) (filter (is_wanted own) looks)) ≡ list_any of (look ∷ looks)
      by true e rest = ap (λ t. of look || t) rest
      by false e rest = rest ∙ sym (ap (λ t. t || list_any of looks) (unwanted own h look e))

  -- the looks at a measure of cells in a row
  run_any : (k : ℕ) (b : Bool) → (k == m) ≡ b → (keys : List Tuple) → list_any (is_of_other found m target) (looks_at k keys) ≡ (b && list_any (is_other found target) keys)
  run_any k true e [] = refl
  run_any k true e (key ∷ keys) =
      ap (λ t. (t && is_among found key && not (is_same key target)) || list_any (is_of_other found m target) (looks_at k keys)) e
      ∙ ap (λ t. is_other found target key || t) (run_any k true e keys)
  run_any k false e [] = refl
  run_any k false e (key ∷ keys) =
      ap (λ t. (t && is_among found key && not (is_same key target)) || list_any (is_of_other found m target) (looks_at k keys)) e
      ∙ run_any k false e keys

  pub any_at : (k : ℕ) (keys : List Tuple) → list_any (is_of_other found m target) (looks_at k keys) ≡ ((k == m) && list_any (is_other found target) keys)
  any_at k keys = run_any k (k == m) refl keys

-- the same keys, the same answer
same_keys : (targets set : List Tuple) → HasKeysOf targets set → (m : ℕ) (target : Tuple) (look : Look) → is_of_other set m target look ≡ is_of_other targets m target look
same_keys targets set h m target (Measure c) = ap (λ t. (c.measure == m) && t && not (is_same c.key target)) (h c.key)
same_keys targets set h m target (Presence key) = refl

-- those that are wanted tell
pub past_by_parts : (targets set : List Tuple) (own : List Bool) (m : ℕ) (target : Tuple) (parts lent : List LookPart) (cells : List Tuple) (looks : List Look)
    → HasKeysOf targets set → slice_index_or own m false ≡ true → lent ≡ parts → looks_in cells parts ≡ filter (is_wanted own) looks
    → list_any (is_of_other set m target) (looks_in cells lent) ≡ list_any (is_of_other targets m target) looks
past_by_parts targets set own m target parts lent cells looks h w same is =
    ap (λ (ps : List LookPart). list_any (is_of_other set m target) (looks_in cells ps)) same
    ∙ ap (list_any (is_of_other set m target)) is
    ∙ any_wanted set m target own w looks
    ∙ (λ i. list_any (λ look. same_keys targets set h m target look i) looks)

-- ---- one part after another
module _ (p : Look → Bool) (set : List Tuple) (parts : List LookPart) (i : ℕ) (part : LookPart) (lt : i < length parts) (is : part ≡ get_or parts i part) where
  at_part : list_any p (looks_in set (drop i parts)) ≡ (list_any p (looks_of_part set part) || list_any p (looks_in set (drop (i + 1) parts)))
  at_part =
      ap (λ (ps : List LookPart). list_any p (looks_in set ps)) (next_item parts i part lt is)
      ∙ list_any-append p (looks_of_part set part) (looks_in set (drop (i + 1) parts))

  pub part_found : list_any p (looks_of_part set part) ≡ true → list_any p (looks_in set (drop i parts)) ≡ true
  part_found h = at_part ∙ ap (λ t. t || list_any p (looks_in set (drop (i + 1) parts))) h

  pub part_passed : list_any p (looks_of_part set part) ≡ false → list_any p (looks_in set (drop i parts)) ≡ list_any p (looks_in set (drop (i + 1) parts))
  part_passed h = at_part ∙ ap (λ t. t || list_any p (looks_in set (drop (i + 1) parts))) h

pub parts_done : (p : Look → Bool) (set : List Tuple) (parts : List LookPart) (i : ℕ) → length parts ≤ i → list_any p (looks_in set (drop i parts)) ≡ false
parts_done p set parts i h = ap (λ (ps : List LookPart). list_any p (looks_in set ps)) (drop_all i parts h)

-- ---- one place after another
module _ (p : Tuple → Bool) (keys : List Tuple) (place past : ℕ) (within : past ≤ length keys) where
  at_place : place < past → list_any p (take (past - place) (drop place keys)) ≡ (p (slice_index_or keys place []) || list_any p (take (past - (place + 1)) (drop (place + 1) keys)))
  at_place lt =
      let e : past - place ≡ suc (past - (place + 1)) = omega (arith, lt) in
      ap (λ n. list_any p (take n (drop place keys))) e
      ∙ ap (λ (ks : List Tuple). list_any p (take (suc (past - (place + 1))) ks)) (drop_more keys place [] (omega (arith, lt, within)))

  pub place_found : place < past → p (slice_index_or keys place []) ≡ true → list_any p (take (past - place) (drop place keys)) ≡ true
  place_found lt h = at_place lt ∙ ap (λ t. t || list_any p (take (past - (place + 1)) (drop (place + 1) keys))) h

  pub place_passed : place < past → p (slice_index_or keys place []) ≡ false
      → list_any p (take (past - place) (drop place keys)) ≡ list_any p (take (past - (place + 1)) (drop (place + 1) keys))
  place_passed lt h = at_place lt ∙ ap (λ t. t || list_any p (take (past - (place + 1)) (drop (place + 1) keys))) h

pub places_done : (p : Tuple → Bool) (keys : List Tuple) (place past : ℕ) → past ≤ place → list_any p (take (past - place) (drop place keys)) ≡ false
places_done p keys place past h = let e : past - place ≡ 0 = omega (arith, h) in ap (λ n. list_any p (take n (drop place keys))) e
