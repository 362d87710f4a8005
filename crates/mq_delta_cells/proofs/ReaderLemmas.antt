-- What is known of readers as they are noted, and of the marks of places that are due.
use Rattle.std.proofs.Common.{◌≡◌, ℕ, zero, suc, ◌+◌, ◌-◌, ◌<◌, ◌≤◌, ◌==◌, Bool, true, false, ◌||◌, List, [], ◌∷◌, ◌++◌, get_or, length, take, Option, Some, None, slice_get, refl, sym, ap, subst, ◌∙◌, arith, length-append}
use Rattle.std.specs.Prelude.{if◌then◌else◌, slice_index_or, slice_set}
use Rattle.std.specs.Option.{option_map_or}
use Rattle.std.proofs.lemmas.Bool.{cases_lt, eq-eqb, eqb-true, or_cases, or_left, or_right}
use Rattle.std.proofs.lemmas.List.{take_all, take_more}
use Rattle.mq_ir.specs.declared.query.CellName.{CellName}
use Rattle.mq_ir.specs.declared.query.Look.{Look}
use Rattle.mq_ir.specs.declared.query.Look.TheVariants.{Measure, Presence}
use Rattle.mq_ir.specs.Keys.{Tuple}
use Rattle.mq_cells.specs.Stores.{is_named}
use Rattle.mq_delta_cells.specs.Readers.{HasMore, HasReadersOf, Readers, is_due, is_linked, is_looked_at, is_reader}
use Rattle.mq_delta_cells.specs.Tables.{NumbersBy, number_by}
use Rattle.mq_delta_cells.specs.declared.reader_table.Link.{Link}
use Rattle.mq_delta_cells.proofs.NodeLemmas.{named_itself, named_same}
use Rattle.std.proofs.Common.{◌⊎◌, inl, inr}

-- ---- links
get_front : {X : Type 0} (xs ys : List X) (k : ℕ) (x : X) → slice_get xs k ≡ Some x → slice_get (xs ++ ys) k ≡ Some x
get_front [] ys k x h = cc
get_front (y ∷ xs) ys zero x h = h
get_front (y ∷ xs) ys (suc k) x h = get_front xs ys k x h

get_last : {X : Type 0} (xs : List X) (x : X) → slice_get (xs ++ x ∷ []) (length xs) ≡ Some x
get_last [] x = refl
get_last (y ∷ xs) x = get_last xs x

get_out : {X : Type 0} (xs : List X) (k : ℕ) → length xs ≤ k → slice_get xs k ≡ None
get_out [] k h = refl
get_out (y ∷ xs) zero h = absurd (omega (arith, h))
get_out (y ∷ xs) (suc k) h = get_out xs k (omega (arith, h))

get_in : {X : Type 0} (xs : List X) (k : ℕ) (x : X) → k < length xs → x ≡ get_or xs k x → slice_get xs k ≡ Some x
get_in [] k x h e = absurd (omega (arith, h))
get_in (y ∷ xs) zero x h e = ap Some (sym e)
get_in (y ∷ xs) (suc k) x h e = get_in xs k x (omega (arith, h)) e

-- what a link tells
abbrev tells : List Link → ℕ → ℕ → Link → Bool
tells links n place link = (link.place == place) || is_linked links n link.earlier place

tells_more : (links others : List Link) (n k place : ℕ) (link : Link)
    → (is_linked links n link.earlier place ≡ true → is_linked others k link.earlier place ≡ true)
    → tells links n place link ≡ true → tells others k place link ≡ true
tells_more links others n k place link more h =
    elim (or_cases (link.place == place) (is_linked links n link.earlier place) h) [
      | inl a ↦ or_left (link.place == place) (is_linked others k link.earlier place) a
      | inr b ↦ or_right (link.place == place) (is_linked others k link.earlier place) (more b)
    ]

-- links behind others leave what these tell
linked_more : (links ends : List Link) (n k : ℕ) (at : Option ℕ) (place : ℕ) → n ≤ k → is_linked links n at place ≡ true
    → is_linked (links ++ ends) k at place ≡ true
linked_more links ends zero k at place l h = cc
linked_more links ends (suc n) k None place l h = cc
linked_more links ends (suc n) zero (Some at) place l h = absurd (omega (arith, l))
linked_more links ends (suc n) (suc k) (Some at) place l h =
    by (slice_get links at) refl h (λ (e : Option ℕ). linked_more links ends n k e place (omega (arith, l)))
  where
    by : (o : Option Link) → slice_get links at ≡ o → option_map_or (tells links n place) o false ≡ true
        → ((e : Option ℕ) → is_linked links n e place ≡ true → is_linked (links ++ ends) k e place ≡ true)
        → option_map_or (tells (links ++ ends) k place) (slice_get (links ++ ends) at) false ≡ true
    by None e h more = cc
    by (Some link) e h more =
        ap (λ o. option_map_or (tells (links ++ ends) k place) o false) (get_front links ends at link e)
        ∙ tells_more links (links ++ ends) n k place link (more link.earlier) h

-- the last link tells of its own place, and of what came before
linked_last : (links : List Link) (link : Link) (k place : ℕ) → tells (links ++ link ∷ []) k place link ≡ true
    → is_linked (links ++ link ∷ []) (suc k) (Some (length links)) place ≡ true
linked_last links link k place h = ap (λ o. option_map_or (tells (links ++ link ∷ []) k place) o false) (get_last links link) ∙ h

one_longer : (links : List Link) (link : Link) → length (links ++ link ∷ []) ≡ suc (length links)
one_longer links link = omega (arith, length-append links (link ∷ []))

module _ (keys : List Tuple) (before after : Readers) (name : CellName) (place : ℕ) (link : Link)
    (links : after.links ≡ before.links ++ link ∷ []) (its : link.place ≡ place) (earlier : link.earlier ≡ number_by keys before.last name)
    (put : NumbersBy keys before.last after.last name (length before.links)) where
  last_is : (c : CellName) (b : Bool) → is_named name c ≡ b → number_by keys after.last c ≡ (if b then Some (length before.links) else number_by keys before.last c)
  last_is c b e = put c ∙ ap (λ b. if b then Some (length before.links) else number_by keys before.last c) e

  -- what is told with the links after
  told_after : (c : CellName) (q : ℕ) (at : Option ℕ) → number_by keys after.last c ≡ at
      → is_linked (before.links ++ link ∷ []) (suc (length before.links)) at q ≡ true → is_reader keys after c q ≡ true
  told_after c q at e h =
      (λ i. is_linked (links i) (length (links i)) (e i) q)
      ∙ ap (λ k. is_linked (before.links ++ link ∷ []) k at q) (one_longer before.links link) ∙ h

  pub noted_more : HasMore keys before after
  noted_more c q h = by (is_named name c) refl
    where
      by : (b : Bool) → is_named name c ≡ b → is_reader keys after c q ≡ true
      by true e =
          let was : is_linked before.links (length before.links) link.earlier q ≡ true =
          ap (λ o. is_linked before.links (length before.links) o q) (earlier ∙ ap (number_by keys before.last) (named_same name c e)) ∙ h in
          told_after c q (Some (length before.links)) (last_is c true e)
          (linked_last before.links link (length before.links) q
          (or_right (link.place == q) (is_linked (before.links ++ link ∷ []) (length before.links) link.earlier q)
          (linked_more before.links (link ∷ []) (length before.links) (length before.links) link.earlier q (omega arith) was)))
      by false e =
          told_after c q (number_by keys before.last c) (last_is c false e)
          (linked_more before.links (link ∷ []) (length before.links) (suc (length before.links)) (number_by keys before.last c) q (omega arith) h)

  pub noted_itself : is_reader keys after name place ≡ true
  noted_itself =
      told_after name place (Some (length before.links)) (last_is name true (named_itself name))
      (linked_last before.links link (length before.links) place
      (or_left (link.place == place) (is_linked (before.links ++ link ∷ []) (length before.links) link.earlier place) (eq-eqb link.place place its)))

-- a look at a measure of which a place is a reader
pub look_noted : (keys : List Tuple) (readers : Readers) (name : CellName) (place : ℕ) → is_reader keys readers name place ≡ true
    → (c : CellName) → is_looked_at (Measure name ∷ []) c ≡ true → is_reader keys readers c place ≡ true
look_noted keys readers name place h c l =
    ap (λ (d : CellName). is_reader keys readers d place) (sym (named_same name c (or_false (is_named name c) l))) ∙ h
  where
    or_false : (b : Bool) → (b || false) ≡ true → b ≡ true
    or_false true h = refl
    or_false false h = h

-- ---- the looks of a place, one after another
looked_append : (xs ys : List Look) (c : CellName) → is_looked_at (xs ++ ys) c ≡ (is_looked_at xs c || is_looked_at ys c)
looked_append [] ys c = refl
looked_append (Measure d ∷ xs) ys c = ap (λ b. is_named d c || b) (looked_append xs ys c) ∙ grouped (is_named d c) (is_looked_at xs c) (is_looked_at ys c)
  where
    grouped : (a b c : Bool) → (a || (b || c)) ≡ ((a || b) || c)
    grouped true b c = refl
    grouped false b c = refl
looked_append (Presence key ∷ xs) ys c = looked_append xs ys c

pub looks_noted : (keys : List Tuple) (looks : List Look) (i : ℕ) (look : Look) (place : ℕ) (mid after : Readers) → i < length looks → look ≡ get_or looks i look
    → HasMore keys mid after → ((c : CellName) → is_looked_at (look ∷ []) c ≡ true → is_reader keys after c place ≡ true)
    → ((c : CellName) → is_looked_at (take i looks) c ≡ true → is_reader keys mid c place ≡ true)
    → (c : CellName) → is_looked_at (take (i + 1) looks) c ≡ true → is_reader keys after c place ≡ true
looks_noted keys looks i look place mid after l at more one so c h =
    let parted : is_looked_at (take (i + 1) looks) c ≡ (is_looked_at (take i looks) c || is_looked_at (look ∷ []) c) =
    ap (λ (xs : List Look). is_looked_at xs c) (take_more looks i look l ∙ ap (λ (u : Look). take i looks ++ u ∷ []) (sym at))
    ∙ looked_append (take i looks) (look ∷ []) c in
    elim (or_cases (is_looked_at (take i looks) c) (is_looked_at (look ∷ []) c) (sym parted ∙ h)) [ inl a ↦ more c place (so c a) | inr b ↦ one c b ]

pub looks_all : (keys : List Tuple) (looks : List Look) (i place : ℕ) (readers : Readers) → length looks ≤ i
    → ((c : CellName) → is_looked_at (take i looks) c ≡ true → is_reader keys readers c place ≡ true)
    → (c : CellName) → is_looked_at looks c ≡ true → is_reader keys readers c place ≡ true
looks_all keys looks i place readers l so c h = so c (ap (λ (xs : List Look). is_looked_at xs c) (take_all i looks l) ∙ h)

-- ---- the lists, one after another
abbrev pub HasFirst : List Tuple → List (List Look) → ℕ → Readers → Type 0
HasFirst keys looks n readers = (c : CellName) (place : ℕ) → place < n → is_looked_at (slice_index_or looks place []) c ≡ true → is_reader keys readers c place ≡ true

in_range : {X : Type 0} (xs : List X) (n : ℕ) (d e : X) → n < length xs → get_or xs n d ≡ get_or xs n e
in_range [] n d e h = absurd (omega (arith, h))
in_range (x ∷ xs) zero d e h = refl
in_range (x ∷ xs) (suc n) d e h = in_range xs n d e (omega (arith, h))

pub first_next : (keys : List Tuple) (looks : List (List Look)) (i : ℕ) (list : List Look) (mid after : Readers) → i < length looks → list ≡ get_or looks i list
    → HasMore keys mid after → ((c : CellName) → is_looked_at list c ≡ true → is_reader keys after c i ≡ true)
    → HasFirst keys looks i mid → HasFirst keys looks (i + 1) after
first_next keys looks i list mid after l at more one so c place lt h = by (cases_lt place i)
  where
    by : (place < i) ⊎ (i ≤ place) → is_reader keys after c place ≡ true
    by (inl low) = more c place (so c place low h)
    by (inr high) =
        let same : place ≡ i = omega (arith, lt, high) in
        let there : list ≡ get_or looks i [] = at ∙ in_range looks i list [] l in
        subst (λ (p : ℕ). is_reader keys after c p ≡ true) (sym same) (one c (ap (λ (xs : List Look). is_looked_at xs c) there ∙ ap (λ (p : ℕ). is_looked_at (slice_index_or looks p []) c) (sym same) ∙ h))

none_there : (looks : List (List Look)) (place : ℕ) → length looks ≤ place → get_or looks place [] ≡ []
none_there [] place h = refl
none_there (x ∷ xs) zero h = absurd (omega (arith, h))
none_there (x ∷ xs) (suc place) h = none_there xs place (omega (arith, h))

pub first_all : (keys : List Tuple) (looks : List (List Look)) (i : ℕ) (readers : Readers) → length looks ≤ i → HasFirst keys looks i readers → HasReadersOf keys looks (Some readers)
first_all keys looks i readers l so c place h = by (cases_lt place i)
  where
    by : (place < i) ⊎ (i ≤ place) → is_reader keys readers c place ≡ true
    by (inl low) = so c place low h
    by (inr high) =
        absurd (let k : false ≡ true = ap (λ (xs : List Look). is_looked_at xs c) (sym (none_there looks place (omega (arith, l, high)))) ∙ h in cc)

-- ---- marks
set_due : (due : List Bool) (at q : ℕ) → (at ≡ q → ⊥) → is_due (slice_set due at true) q ≡ is_due due q
set_due [] at q h = refl
set_due (b ∷ due) zero zero h = absurd (h refl)
set_due (b ∷ due) zero (suc q) h = refl
set_due (b ∷ due) (suc at) zero h = refl
set_due (b ∷ due) (suc at) (suc q) h = set_due due at q (λ e. h (ap suc e))

set_itself : (due : List Bool) (at : ℕ) → at < length due → is_due (slice_set due at true) at ≡ true
set_itself [] at h = absurd (omega (arith, h))
set_itself (b ∷ due) zero h = refl
set_itself (b ∷ due) (suc at) h = set_itself due at (omega (arith, h))

behind : (due : List Bool) (at : ℕ) → length due ≤ at → is_due due at ≡ true
behind [] at h = refl
behind (b ∷ due) zero h = absurd (omega (arith, h))
behind (b ∷ due) (suc at) h = behind due at (omega (arith, h))

pub marked_one : (due : List Bool) (at : ℕ) → at < length due → (q : ℕ) → is_due (slice_set due at true) q ≡ false → (is_due due q ≡ false) × ((at == q) ≡ false)
marked_one due at l q h = by (at == q) refl
  where
    by : (b : Bool) → (at == q) ≡ b → (is_due due q ≡ false) × ((at == q) ≡ false)
    by true e =
        absurd (let k : true ≡ false = sym (set_itself due at l) ∙ ap (λ (p : ℕ). is_due (slice_set due at true) p) (eqb-true at q e) ∙ h in cc)
    by false e = (sym (set_due due at q (λ s. let k : true ≡ false = sym (eq-eqb at q s) ∙ e in cc)) ∙ h, e)

pub marked_none : (due : List Bool) (at : ℕ) → length due ≤ at → (q : ℕ) → is_due due q ≡ false → (is_due due q ≡ false) × ((at == q) ≡ false)
marked_none due at l q h = (h, by (at == q) refl)
  where
    by : (b : Bool) → (at == q) ≡ b → b ≡ false
    by true e = let k : true ≡ false = sym (behind due at l) ∙ ap (is_due due) (eqb-true at q e) ∙ h in cc
    by false e = refl

-- ---- marks of links
pub linked_none : (links : List Link) (left place : ℕ) → is_linked links left None place ≡ false
linked_none links zero place = refl
linked_none links (suc left) place = refl

pub linked_out : (links : List Link) (left at place : ℕ) → length links ≤ at → is_linked links left (Some at) place ≡ false
linked_out links zero at place h = refl
linked_out links (suc left) at place h = ap (λ o. option_map_or (tells links left place) o false) (get_out links at h)

linked_next : (links : List Link) (left at place : ℕ) (link : Link) → slice_get links at ≡ Some link → (link.place == place) ≡ false
    → is_linked links left link.earlier place ≡ false → is_linked links (suc left) (Some at) place ≡ false
linked_next links left at place link e one rest =
    ap (λ o. option_map_or (tells links left place) o false) e ∙ ap (λ b. b || is_linked links left link.earlier place) one ∙ rest

-- what the marks say, once the links to the next one are marked
abbrev pub MarkedTo : List Link → Option ℕ → List Bool → ℕ → Option ℕ → List Bool → Type 0
MarkedTo links last first left next due =
    (place : ℕ) → is_due due place ≡ false
    → (is_due first place ≡ false) × (is_linked links left next place ≡ false → is_linked links (length links) last place ≡ false)

pub marked_next : (links : List Link) (last : Option ℕ) (first mid after : List Bool) (left at : ℕ) (link : Link) → 0 < left → at < length links → link ≡ get_or links at link
    → ((q : ℕ) → is_due after q ≡ false → (is_due mid q ≡ false) × ((link.place == q) ≡ false))
    → MarkedTo links last first left (Some at) mid → MarkedTo links last first (left - 1) link.earlier after
marked_next links last first mid after left at link l within its one so q h =
    let now = one q h in
    let was = so q now.0 in
    let more : suc (left - 1) ≡ left = omega (arith, l) in
    (was.0, λ rest. was.1 (subst (λ k. is_linked links k (Some at) q ≡ false) more (linked_next links (left - 1) at q link (get_in links at link within its) now.1 rest)))
