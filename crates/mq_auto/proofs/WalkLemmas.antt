-- Round by round the right slots come to stand at the measures that are assigned.
use Rattle.std.proofs.Common.{◌≡◌, ℕ, zero, suc, ◌+◌, ◌-◌, ◌<◌, ◌≤◌, Bool, true, false, ◌&&◌, not, List, [], ◌∷◌, ◌++◌, map, length, get_or, Option, Some, None, cond, refl, sym, ap, subst, ◌∙◌, arith}
use Rattle.std.specs.Prelude.{slice_get, unwrap_or}
use Rattle.std.specs.List.{All, AllWithin, filter, find, range_with_len}
use Rattle.std.specs.Option.{option_and_then, option_map, option_map_or}
use Rattle.std.proofs.lemmas.Bool.{and_parts}
use Rattle.std.proofs.lemmas.List.Elements.{All-cons, All-filter, All-weaker, All-from_all_within, All-get_or, All-head, All-nil, All-push, All-tail, AllWithin-more, AllWithin-none, AllWithin-upto, at_read, filter_passes}
use Rattle.std.proofs.lemmas.List.FromFn.{get_or-range_with_len, length-range_with_len}
use Rattle.std.proofs.lemmas.Option.{get_or_from_slice_get, slice_get_within}
use Rattle.mq_ir.specs.declared.query.CellName.{CellName}
use Rattle.mq_ir.specs.declared.query.Look.{Look}
use Rattle.mq_ir.specs.declared.query.Look.TheVariants.{Measure}
use Rattle.mq_ir.specs.declared.query.PartShape.{PartShape}
use Rattle.mq_ir.specs.declared.query.Rule.{Rule}
use Rattle.mq_ir.specs.declared.query.Slot.{Slot}
use Rattle.mq_ir.specs.Automatic.{assigning_rule, node_looks, node_of}
use Rattle.mq_ir.specs.Looks.{looks_of}
use Rattle.mq_ir.specs.Partitions.{Cells, cell_at}
use Rattle.mq_ir.specs.Rounds.{levelled}
use Rattle.mq_ir.specs.Shape.{Assignment, assigns}
use Rattle.mq_ir.specs.Slots.{cell_slot, site_in}
use Rattle.mq_ir.specs.Unfolding.{Model}
use Rattle.mq_cells.specs.Columns.{no_results}
use Rattle.mq_cells.specs.Stores.{CellInput, DiffersAt, Results, is_named, name_assigned, slot_at}
use Rattle.mq_auto_shape.specs.Found.{AreRoundsOf, comes_in, is_levelled, place_comes_in, round_of}
use Rattle.mq_auto.specs.Meaning.{result_at}
use Rattle.mq_auto.specs.Walks.{AreFoundAt, AreOwn, AreRightWithin, AreSlotsOver, IsFoundAt, IsPut, IsPutAt, IsRight, IsRightAt, IsSlotOver, StayRight}
use Rattle.mq_auto.proofs.NodeLemmas.{StepsRead, found_slot, named_same, put_right, result_is}

-- what holds of each holds of the one at a place
pub at_place : {X : Type 0} (P : X → Type 0) (xs : List X) (k : ℕ) (x : X) → slice_get xs k ≡ Some x → All P xs → P x
at_place P xs k x e h = subst P (get_or_from_slice_get xs k x x e) (All-get_or P xs k x (slice_get_within xs k x e) h)

-- what holds of each that passes
kept : {X : Type 0} (p : X → Bool) (P : X → Type 0) (xs : List X) → All P (filter p xs) → All (λ x. p x ≡ true → P x) xs
kept p P [] h = All-nil (λ x. p x ≡ true → P x)
kept p P (x ∷ xs) h = by (p x) refl h (kept p P xs)
  where
    by : (b : Bool) → p x ≡ b → All P (cond b (x ∷ filter p xs) (filter p xs)) → (All P (filter p xs) → All (λ x. p x ≡ true → P x) xs) → All (λ x. p x ≡ true → P x) (x ∷ xs)
    by true e h rest = All-cons (λ x. p x ≡ true → P x) x xs (λ _. All-head P x (filter p xs) h) (rest (All-tail P x (filter p xs) h))
    by false e h rest = All-cons (λ x. p x ≡ true → P x) x xs (λ g. absurd (let f : false ≡ true = sym e ∙ g in cc)) (rest h)

-- the place of the one that is found
found_place : {X : Type 0} (test : X → Bool) (xs : List X) (a : X) → find test xs ≡ Some a → (k : ℕ) × (slice_get xs k ≡ Some a) × (test a ≡ true)
found_place test [] a h = cc
found_place test (x ∷ xs) a h = by (test x) refl h (found_place test xs a)
  where
    by : (b : Bool) → test x ≡ b → cond b (Some x) (find test xs) ≡ Some a → (find test xs ≡ Some a → (k : ℕ) × (slice_get xs k ≡ Some a) × (test a ≡ true))
        → (k : ℕ) × (slice_get (x ∷ xs) k ≡ Some a) × (test a ≡ true)
    by true e h rest = (zero, h, (let s : x ≡ a = cc in ap test (sym s) ∙ e))
    by false e h rest = let p = rest h in (suc p.0, p.1, p.2)

-- what stands at a place within a list
item_at : {X : Type 0} (xs : List X) (k : ℕ) → k < length xs → (x : X) × (slice_get xs k ≡ Some x)
item_at [] k h = absurd (omega (arith, h))
item_at (x ∷ xs) zero h = (x, refl)
item_at (x ∷ xs) (suc k) h = item_at xs k (omega (arith, h))

none_more : (n : ℕ) → 0 + n ≡ n
none_more n = omega arith

not_true : (b : Bool) → not b ≡ true → b ≡ false
not_true true h = cc
not_true false h = refl

module _ (model : Model) (shape : PartShape) where
  abbrev level : ℕ → CellName → Bool
  level n c = levelled (node_looks model shape) n (Measure c)

  -- what is not assigned is levelled from the start
  unruled_level : (n : ℕ) (c : CellName) → node_looks model shape (Measure c) ≡ None → level n c ≡ true
  unruled_level zero c e = rw e refl
  unruled_level (suc n) c e = rw e refl

  unruled_looks : (c : CellName) → assigning_rule model shape (Measure c) ≡ None → node_looks model shape (Measure c) ≡ None
  unruled_looks c e = ap (λ o. option_map (λ (rule : Rule). looks_of (site_in model shape 0 c.key) rule.right) o) e

  -- the rule of an assignment
  own_rule : AreOwn shape → (place : ℕ) (a : Assignment) → slice_get shape.assigned place ≡ Some a → assigning_rule model shape (node_of a) ≡ slice_get model.part.rules (a.2 - 1)
  own_rule own place a e =
      let found = at_place (λ a. find (assigns a.1 a.0) shape.assigned ≡ Some a) shape.assigned place a e own in
      ap (λ (o : Option Assignment). option_and_then (λ number. slice_get model.part.rules (number - 1)) (option_map (λ a. a.2) o)) found

  -- an assignment that comes in a round is levelled behind it, and its rule is there
  comes_parts : (n : ℕ) (place : ℕ) (a : Assignment) → slice_get shape.assigned place ≡ Some a → place_comes_in model shape n place ≡ true
      → (level (suc n) (name_assigned a) ≡ true) × (level n (name_assigned a) ≡ false)
  comes_parts n place a e h =
      let comes : comes_in model shape n a ≡ true = ap (λ o. option_map_or (comes_in model shape n) o false) (sym e) ∙ h in
      let both = and_parts (is_levelled model shape (suc n) a) (not (is_levelled model shape n a)) comes in
      (both.0, not_true (is_levelled model shape n a) both.1)

  has_rule : (n : ℕ) (c : CellName) (o : Option Rule) → assigning_rule model shape (Measure c) ≡ o → level n c ≡ false → (rule : Rule) × (o ≡ Some rule)
  has_rule n c None e h = absurd (let f : true ≡ false = sym (unruled_level n c (unruled_looks c e)) ∙ h in cc)
  has_rule n c (Some rule) e h = (rule, refl)

  -- Where n rounds are done, and an assignment comes in the next one: its slot, found over what stood before, is put over what
  -- stands in the middle. So it is right, and what was right stays so.
  abbrev pub IsFoundOver : CellInput → Results → Results → Results → ℕ → Type 0
  IsFoundOver given before mid after place =
      (input : Cells) (n : ℕ) → given ≡ cell_at input → place_comes_in model shape n place ≡ true → AreRightWithin model shape input n before
      → StayRight model shape input mid after × IsRightAt model shape input after place

  -- an assignment that comes in the next round gets its slot
  pub found_over : StepsRead → AreOwn shape → (given : CellInput) (before mid after : Results) (place : ℕ) (a : Assignment) → slice_get shape.assigned place ≡ Some a
      → ((rule : Rule) → slice_get model.part.rules (a.2 - 1) ≡ Some rule → DiffersAt mid after (name_assigned a) (Some (cell_slot model shape 0 rule a.0 (slot_at given before))))
      → IsFoundOver given before mid after place
  found_over law own given before mid after place a at put input n from comes right =
      let c : CellName = name_assigned a in
      let level = comes_parts n place a at comes in
      let same = own_rule own place a at in
      let r = has_rule n c (assigning_rule model shape (Measure c)) refl level.1 in
      let differs = put r.0 (sym same ∙ r.1) in
      let slot : cell_slot model shape 0 r.0 a.0 (slot_at given before) ≡ _ =
      ap (λ g. cell_slot model shape 0 r.0 a.0 (slot_at g before)) from ∙ found_slot law model shape input before c r.0 n r.1 level.0 right in
      let done = put_right model shape input mid after c (cell_slot model shape 0 r.0 a.0 (slot_at given before)) differs (ap Some slot ∙ sym (result_is model shape input c r.0 r.1)) in
      (done.0, λ b e. let s : a ≡ b = (let g : Some a ≡ Some b = sym at ∙ e in cc) in subst (λ (x : Assignment). IsRight model shape input after (name_assigned x)) s done.1)

  -- .. where it is found over what stands
  pub found_at : StepsRead → AreOwn shape → (given : CellInput) (before after : Results) (place : ℕ) (a : Assignment) → slice_get shape.assigned place ≡ Some a
      → ((rule : Rule) → slice_get model.part.rules (a.2 - 1) ≡ Some rule → IsPut model shape given before after a rule) → IsFoundAt model shape given before after place
  found_at law own given before after place a at put = found_over law own given before before after place a at put

  -- the slots of a round, each behind its place, are put one after another
  abbrev pub ArePut : CellInput → Results → Results → List (ℕ × Slot) → Type 0
  ArePut given before mid found = AreFoundAt model shape given before mid (map (λ f. f.0) found)

  pub put_start : (given : CellInput) (before : Results) → ArePut given before before []
  put_start given before input n from comes right = (λ c h. h, All-nil (IsRightAt model shape input before))

  places_push : (found : List (ℕ × Slot)) (f : ℕ × Slot) → map (λ f. f.0) (found ++ f ∷ []) ≡ map (λ f. f.0) found ++ f.0 ∷ []
  places_push [] f = refl
  places_push (g ∷ found) f = ap (λ l. g.0 ∷ l) (places_push found f)

  -- what holds of each of these places holds of those before the last, and of the last
  last_apart : (P : ℕ → Type 0) (places : List ℕ) (place : ℕ) → All P (places ++ place ∷ []) → All P places × P place
  last_apart P [] place h = (All-nil P, All-head P place [] h)
  last_apart P (x ∷ places) place h =
      let rest = last_apart P places place (All-tail P x (places ++ place ∷ []) h) in
      (All-cons P x places (All-head P x (places ++ place ∷ []) h) rest.0, rest.1)

  pub put_next : (given : CellInput) (before mid after : Results) (found : List (ℕ × Slot)) (f : ℕ × Slot) → IsFoundOver given before mid after f.0
      → ArePut given before mid found → ArePut given before after (found ++ f ∷ [])
  put_next given before mid after found f now some input n from comes right =
      let Comes : ℕ → Type 0 = λ place. place_comes_in model shape n place ≡ true in
      let Right : ℕ → Type 0 = IsRightAt model shape input after in
      let places = map (λ f. f.0) found in
      let parts = last_apart Comes places f.0 (subst (All Comes) (places_push found f) comes) in
      let so = some input n from parts.0 right in
      let next = now input n from parts.1 right in (
        λ c h. next.0 c (so.0 c h),
        subst (All Right) (sym (places_push found f))
            (All-push Right places f.0 (All-weaker (IsRightAt model shape input mid) Right (λ place h a e. next.0 (name_assigned a) (h a e)) places so.1) next.1),
      )

  -- the slot of an assignment was found over what stood before the round, and is put now
  pub put_over : StepsRead → AreOwn shape → (given : CellInput) (before mid after : Results) (place : ℕ) (slot : Slot) → place < length shape.assigned
      → IsSlotOver model shape (slot_at given before) (place, slot) → IsPutAt shape mid after place slot → IsFoundOver given before mid after place
  put_over law own given before mid after place slot there over put =
      let a = item_at shape.assigned place there in
      found_over law own given before mid after place a.0 a.1
      (λ rule is. subst (λ s. DiffersAt mid after (name_assigned a.0) (Some s)) (over a.0 rule a.1 is) (put a.0 a.1))

  -- the first i of some places that come in the next round have their slots
  abbrev pub FoundSome : CellInput → Results → Results → List ℕ → ℕ → Type 0
  FoundSome given before after places i =
      (input : Cells) (n : ℕ) → given ≡ cell_at input → All (λ place. place_comes_in model shape n place ≡ true) places → AreRightWithin model shape input n before
      → StayRight model shape input before after × AllWithin (IsRightAt model shape input after) places 0 i

  pub found_start : (given : CellInput) (before after : Results) (places : List ℕ) → after ≡ before → FoundSome given before after places 0
  found_start given before after places e input n from comes right =
      (λ c h. ap (λ r. r c) e ∙ h, AllWithin-none (IsRightAt model shape input after) places 0)

  pub found_next : (given given' : CellInput) (before mid after : Results) (places : List ℕ) (i place : ℕ) → i < length places → place ≡ get_or places i place → given' ≡ given
      → IsFoundAt model shape given' mid after place → FoundSome given before mid places i → FoundSome given before after places (i + 1)
  found_next given given' before mid after places i place lt is same visit some input n from comes right =
      let so = some input n from comes right in
      let now = visit input n (same ∙ from) (rw is (All-get_or (λ place. place_comes_in model shape n place ≡ true) places i place lt comes)) (λ c l. so.0 c (right c l)) in
      let P : ℕ → Type 0 = IsRightAt model shape input after in (
        λ c h. now.0 c (so.0 c h),
        AllWithin-more P places 0 i (λ k d lo hi a e. now.0 (name_assigned a) (so.1 k d lo hi a e)) (at_read places P i place lt is now.1),
      )

  pub found_all : (given : CellInput) (before after : Results) (places : List ℕ) (i : ℕ) → length places ≤ i → FoundSome given before after places i → AreFoundAt model shape given before after places
  found_all given before after places i h some input n from comes right =
      let so = some input n from comes right in
      let P : ℕ → Type 0 = IsRightAt model shape input after in
      (so.0, All-from_all_within P places (AllWithin-upto P places 0 i (length places) h so.1))

  in_rounds : (xs : List (List ℕ)) (n : ℕ) (d : List ℕ) → n < length xs → get_or xs n d ≡ get_or xs n []
  in_rounds [] n d h = absurd (omega (arith, h))
  in_rounds (x ∷ xs) zero d h = refl
  in_rounds (x ∷ xs) (suc n) d h = in_rounds xs n d (omega (arith, h))

  range_below : (a n : ℕ) → All (λ p. p < a + n) (range_with_len a n)
  range_below a zero = All-nil (λ p. p < a + zero)
  range_below a (suc n) =
      All-cons (λ p. p < a + suc n) a (range_with_len (a + 1) n) (omega arith)
      (All-weaker (λ p. p < a + 1 + n) (λ p. p < a + suc n) (λ p h. omega (arith, h)) (range_with_len (a + 1) n) (range_below (a + 1) n))

  -- what comes in a round is at places of assignments
  pub round_there : (rounds : List (List ℕ)) (n : ℕ) (round : List ℕ) → AreRoundsOf model shape rounds → n < length rounds → round ≡ get_or rounds n round → All (λ p. p < length shape.assigned) round
  round_there rounds n round are lt is =
      subst (All (λ p. p < length shape.assigned)) (sym (is ∙ in_rounds rounds n round lt ∙ are.each n))
      (All-filter (place_comes_in model shape n) (λ p. p < length shape.assigned) (range_with_len 0 (length shape.assigned))
      (All-weaker (λ p. p < 0 + length shape.assigned) (λ p. p < length shape.assigned) (λ p h. omega (arith, h)) (range_with_len 0 (length shape.assigned)) (range_below 0 (length shape.assigned))))

  -- after a round all that is levelled behind it has the right slots
  module _ (input : Cells) where
    pub right_start : (results : Results) → results ≡ no_results → AreRightWithin model shape input 0 results
    right_start results e c l = ap (λ r. r c) e ∙ by (node_looks model shape (Measure c)) refl
      where
        by : (o : Option (List Look)) → node_looks model shape (Measure c) ≡ o → None ≡ result_at model shape input c
        by None h = rw h refl
        by (Some looks) h = absurd (let f : false ≡ true = (rw h at l) in cc)

    -- a measure that is levelled behind this round, but not before, is that of a place in it
    right_next : (n : ℕ) (before after : Results) → StayRight model shape input before after → All (IsRightAt model shape input after) (round_of model shape n)
        → AreRightWithin model shape input n before → AreRightWithin model shape input (suc n) after
    right_next n before after stay found right c l = by_level (level n c) refl
      where
        by_found : (o : Option Assignment) → find (assigns c.measure c.key) shape.assigned ≡ o → level n c ≡ false → IsRight model shape input after c
        by_found None e h = absurd (let f : true ≡ false = sym (unruled_level n c (rw e refl)) ∙ h in cc)
        by_found (Some a) e h =
            let p = found_place (assigns c.measure c.key) shape.assigned a e in
            let same : c ≡ name_assigned a = named_same c (name_assigned a) p.2 in
            let count = length shape.assigned in
            let within : p.0 < count = slice_get_within shape.assigned p.0 a p.1 in
            let later : level (suc n) (name_assigned a) ≡ true = ap (level (suc n)) (sym same) ∙ l in
            let sooner : level n (name_assigned a) ≡ false = ap (level n) (sym same) ∙ h in
            let comes : place_comes_in model shape n p.0 ≡ true =
            ap (λ o. option_map_or (comes_in model shape n) o false) p.1 ∙ ap (λ b. b && not (level n (name_assigned a))) later ∙ ap not sooner in
            let pass = kept (place_comes_in model shape n) (IsRightAt model shape input after) (range_with_len 0 count) found in
            let at = All-get_or (λ k. place_comes_in model shape n k ≡ true → IsRightAt model shape input after k) (range_with_len 0 count) p.0 p.0 (rw (length-range_with_len 0 count) within) pass in
            let itself : get_or (range_with_len 0 count) p.0 p.0 ≡ p.0 = get_or-range_with_len 0 count p.0 p.0 within ∙ none_more p.0 in
            let done : IsRightAt model shape input after p.0 = subst (λ k. place_comes_in model shape n k ≡ true → IsRightAt model shape input after k) itself at comes in
            subst (IsRight model shape input after) (sym same) (done a p.1)

        by_level : (b : Bool) → level n c ≡ b → IsRight model shape input after c
        by_level true e = stay c (right c e)
        by_level false e = by_found (find (assigns c.measure c.key) shape.assigned) refl e

    pub right_round : (rounds : List (List ℕ)) (n : ℕ) (round : List ℕ) (given : CellInput) (before after : Results) → AreRoundsOf model shape rounds → n < length rounds → round ≡ get_or rounds n round
        → given ≡ cell_at input → AreFoundAt model shape given before after round → AreRightWithin model shape input n before → AreRightWithin model shape input (suc n) after
    right_round rounds n round given before after are lt is from found right =
        let same : round ≡ round_of model shape n = is ∙ in_rounds rounds n round lt ∙ are.each n in
        let passes = filter_passes (place_comes_in model shape n) (range_with_len 0 (length shape.assigned)) in
        let so = found input n from (subst (All (λ place. place_comes_in model shape n place ≡ true)) (sym same) passes) right in
        right_next n before after so.0 (subst (All (IsRightAt model shape input after)) same so.1) right

    -- behind the last round every right slot stands
    pub right_end : (rounds : List (List ℕ)) (n : ℕ) (results : Results) → AreRoundsOf model shape rounds → length rounds ≤ n → n ≤ length rounds → AreRightWithin model shape input n results
        → (c : CellName) → results c ≡ result_at model shape input c
    right_end rounds n results are past within right c = right c (by (find (assigns c.measure c.key) shape.assigned) refl)
      where
        by : (o : Option Assignment) → find (assigns c.measure c.key) shape.assigned ≡ o → level n c ≡ true
        by None e = unruled_level n c (rw e refl)
        by (Some a) e =
            let p = found_place (assigns c.measure c.key) shape.assigned a e in
            let same : c ≡ name_assigned a = named_same c (name_assigned a) p.2 in
            let last : n ≡ length rounds = omega (arith, past, within) in
            rw (same, last) (at_place (λ a. is_levelled model shape (length rounds) a ≡ true) shape.assigned p.0 a p.1 are.complete)

-- the places of the slots of a round are those of assignments
pub places_there : (P : ℕ → Type 0) (places : List ℕ) (found : List (ℕ × Slot)) → map (λ f. f.0) found ≡ places → All P places → All (λ f. P f.0) found
places_there P places found same h = of found (subst (All P) (sym same) h)
  where
    of : (found : List (ℕ × Slot)) → All P (map (λ f. f.0) found) → All (λ f. P f.0) found
    of [] h = All-nil (λ f. P f.0)
    of (f ∷ found) h = All-cons (λ f. P f.0) f found (All-head P f.0 (map (λ f. f.0) found) h) (of found (All-tail P f.0 (map (λ f. f.0) found) h))

-- what is put at the measure of an assignment is what its rule makes of the cell
pub put_is : (model : Model) (shape : PartShape) (given : CellInput) (before mid after : Results) (a : Assignment) (r rule : Rule) (slot : Slot) → mid ≡ before → Some r ≡ slice_get model.part.rules (a.2 - 1)
    → slot ≡ cell_slot model shape 0 r a.0 (slot_at given before) → DiffersAt mid after (name_assigned a) (Some slot) → slice_get model.part.rules (a.2 - 1) ≡ Some rule → IsPut model shape given before after a rule
put_is model shape given before mid after a r rule slot same there is differs at =
    let one : r ≡ rule = ap (λ o. unwrap_or o r) (there ∙ at) in
    let slot_is : slot ≡ cell_slot model shape 0 rule a.0 (slot_at given before) = is ∙ ap (λ q. cell_slot model shape 0 q a.0 (slot_at given before)) one in
    λ c. differs c ∙ (λ i. cond (is_named (name_assigned a) c) (Some (slot_is i)) (same i c))
