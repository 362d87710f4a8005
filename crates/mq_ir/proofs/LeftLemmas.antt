-- Targets and combinations.
use Rattle.std.proofs.Common.{◌≡◌, suc, ◌*◌, ◌≤◌, List, [], ◌∷◌, ◌++◌, Bool, true, false, not, ◌&&◌, cond, length, map, refl, sym, ap, ◌∙◌, arith}
use Rattle.std.specs.Prelude.{if◌then◌else◌}
use Rattle.std.specs.List.{filter, flat_map}
use Rattle.std.proofs.Math.Nat.{suc-mul}
use Rattle.std.proofs.lemmas.List.{append-nil, length-append, map-append}
use Rattle.std.proofs.lemmas.Grind.{flat_map-append}
use Rattle.mq_values.specs.declared.operators.Mode.{Mode}
use Rattle.mq_values.specs.declared.operators.Mode.TheVariants.{Update, Upsert, UpsertAll}
use Rattle.mq_ir.specs.declared.query.SingleLeft.{SingleLeft}
use Rattle.mq_ir.specs.Combinations.{combinations}
use Rattle.mq_ir.specs.Keys.{Tuple, each_first, is_among, is_same}
use Rattle.mq_ir.specs.LeftLaws.{CountsByProduct, CreatesWhatIsMissing, LastTurnsFastest, SymbolCreatesNone, UpdateCreatesNone}
use Rattle.mq_ir.specs.RowLaws.{times}
use Rattle.mq_ir.specs.Targets.{cmp_targets, is_symbolic, meets_left, meets_symbols, named, projected, targets, targets_in}
use Rattle.mq_ir.proofs.KeyLemmas.{among_none, among_some, once_if, same_itself, times_ascending, times_first, times_kept, times_lost, times_more}

abbrev missing : List Tuple → Tuple → Bool
missing set key = not (is_among set key)

-- a list that has no key has no item
no_keys : (xs : List Tuple) → ((q : Tuple) → times q xs ≡ 0) → xs ≡ []
no_keys [] h = refl
no_keys (x ∷ xs) h =
    let o : once_if (is_same x x) ≡ 1 = ap once_if (same_itself x) in
    absurd (omega (arith, o, times_more x x xs, h x))

-- what is missing of cells that are all of the set
none_missing : (set xs : List Tuple) → ((q : Tuple) → is_among set q ≡ false → times q xs ≡ 0) → filter (missing set) xs ≡ []
none_missing set xs h = no_keys (filter (missing set) xs) each
  where
    each : (q : Tuple) → times q (filter (missing set) xs) ≡ 0
    each q = by (is_among set q) refl
      where
        by : (b : Bool) → is_among set q ≡ b → times q (filter (missing set) xs) ≡ 0
        by true e = times_lost (missing set) q xs (ap not e)
        by false e = times_kept (missing set) q xs (ap not e) ∙ h q e

-- what is filtered of a set holds no key that is not in the set
none_kept : (p : Tuple → Bool) (set : List Tuple) (q : Tuple) → is_among set q ≡ false → times q (filter p set) ≡ 0
none_kept p set q e = by (p q) refl
  where
    by : (b : Bool) → p q ≡ b → times q (filter p set) ≡ 0
    by true f = times_kept p q set f ∙ among_none q set e
    by false f = times_lost p q set f

pub update_creates_none : (left : SingleLeft) (set : List Tuple) → UpdateCreatesNone left set
update_creates_none left set =
    none_missing set (targets left Update set).cells
    (λ q e. times_ascending (cmp_targets left) q (filter (meets_left left) set) ∙ none_kept (meets_left left) set q e)

pub symbol_creates_none : (left : SingleLeft) (set : List Tuple) → SymbolCreatesNone left set
symbol_creates_none left set h =
    none_missing set (targets left Upsert set).cells
    (λ q e. times_ascending (cmp_targets left) q (targets_in left Upsert set)
    ∙ ap (λ b. times q (if b then filter (meets_left left) set else named left ∷ [])) h
    ∙ none_kept (meets_left left) set q e)

-- a key that is not in the set stands at most once among the targets
once_in : (left : SingleLeft) (mode : Mode) (set : List Tuple) (q : Tuple) → is_among set q ≡ false → times q (targets_in left mode set) ≤ 1
once_in left Update set q e = omega (arith, none_kept (meets_left left) set q e)
once_in left Upsert set q e = by (is_symbolic left)
  where
    by : (b : Bool) → times q (if b then filter (meets_left left) set else named left ∷ []) ≤ 1
    by true = omega (arith, none_kept (meets_left left) set q e)
    by false = alone (is_same q (named left))
      where
        alone : (s : Bool) → length (cond s (named left ∷ []) []) ≤ 1
        alone true = omega arith
        alone false = omega arith
once_in left UpsertAll set q e = by (is_symbolic left)
  where
    keys : List Tuple
    keys = map (projected left) (filter (meets_symbols left) set)

    at_most : (b : Bool) → once_if b ≤ 1
    at_most true = omega arith
    at_most false = omega arith

    by : (b : Bool) → times q (if b then each_first keys else named left ∷ []) ≤ 1
    by true = omega (arith, times_first q keys, at_most (is_among keys q))
    by false = alone (is_same q (named left))
      where
        alone : (s : Bool) → length (cond s (named left ∷ []) []) ≤ 1
        alone true = omega arith
        alone false = omega arith

pub creates_what_is_missing : (left : SingleLeft) (mode : Mode) (set : List Tuple) → CreatesWhatIsMissing left mode set
creates_what_is_missing left mode set key = by (is_among set key) refl (is_among cells key) refl
  where
    cells : List Tuple
    cells = (targets left mode set).cells

    at_most : is_among set key ≡ false → times key cells ≤ 1
    at_most e = omega (arith, times_ascending (cmp_targets left) key (targets_in left mode set), once_in left mode set key e)

    by : (b : Bool) → is_among set key ≡ b → (c : Bool) → is_among cells key ≡ c → times key (filter (missing set) cells) ≡ (if c && not b then 1 else 0)
    by true e true f = times_lost (missing set) key cells (ap not e)
    by true e false f = times_lost (missing set) key cells (ap not e)
    by false e true f = omega (arith, times_kept (missing set) key cells (ap not e), at_most e, among_some key cells f)
    by false e false f = times_kept (missing set) key cells (ap not e) ∙ among_none key cells f

length_map : {A B : Type 0} (f : A → B) (xs : List A) → length (map f xs) ≡ length xs
length_map f [] = refl
length_map f (x ∷ xs) = ap suc (length_map f xs)

map_map : {A B C : Type 0} (f : B → C) (g : A → B) (xs : List A) → map f (map g xs) ≡ map (λ x. f (g x)) xs
map_map f g [] = refl
map_map f g (x ∷ xs) = ap (λ ys. f (g x) ∷ ys) (map_map f g xs)

-- as many combinations as the product says
count_with : {A : Type 0} (rests : List (List A)) (xs : List A) → length (flat_map (λ x. map (λ rest. x ∷ rest) rests) xs) ≡ length xs * length rests
count_with rests [] = omega arith
count_with {A} rests (x ∷ xs) =
    let a = length-append (map (λ rest. x ∷ rest) rests) (flat_map (λ y. map (λ rest. y ∷ rest) rests) xs) in
    let b = length_map (λ (rest : List A). x ∷ rest) rests in
    let c = count_with rests xs in
    let e = suc-mul (length xs) (length rests) in
    omega (arith, a, b, c, e)

pub counts_by_product : {A : Type 0} (lists : List (List A)) → CountsByProduct lists
counts_by_product [] = refl
counts_by_product (xs ∷ lists) = count_with (combinations lists) xs ∙ ap (λ n. length xs * n) (counts_by_product lists)

-- what is put before each of some lists, and what stands behind it
module _ {A : Type 0} (xs : List A) where
  abbrev behind : List A → List (List A)
  behind front = map (λ x. front ++ x ∷ []) xs

  alone : (ys : List A) → flat_map (λ x. map (λ rest. x ∷ rest) ([] ∷ [])) ys ≡ map (λ x. [] ++ x ∷ []) ys
  alone [] = refl
  alone (y ∷ ys) = ap (λ rest. (y ∷ []) ∷ rest) (alone ys)

  before : (y : A) (zs : List (List A)) → map (λ rest. y ∷ rest) (flat_map behind zs) ≡ flat_map behind (map (λ rest. y ∷ rest) zs)
  before y [] = refl
  before y (z ∷ zs) =
      map-append (λ rest. y ∷ rest) (behind z) (flat_map behind zs)
      ∙ (λ i. map_map (λ rest. y ∷ rest) (λ x. z ++ x ∷ []) xs i ++ before y zs i)

  each_before : (rests : List (List A)) (ys : List A) → flat_map (λ y. map (λ rest. y ∷ rest) (flat_map behind rests)) ys ≡ flat_map behind (flat_map (λ y. map (λ rest. y ∷ rest) rests) ys)
  each_before rests [] = refl
  each_before rests (y ∷ ys) =
      (λ i. before y rests i ++ each_before rests ys i)
      ∙ sym (flat_map-append behind (map (λ rest. y ∷ rest) rests) (flat_map (λ z. map (λ rest. z ∷ rest) rests) ys))

  pub last_turns_fastest : (lists : List (List A)) → LastTurnsFastest lists xs
  last_turns_fastest [] = alone xs ∙ sym (append-nil (behind []))
  last_turns_fastest (ys ∷ lists) =
      ap (λ rests. flat_map (λ y. map (λ rest. y ∷ rest) rests) ys) (last_turns_fastest lists) ∙ each_before (combinations lists) ys
