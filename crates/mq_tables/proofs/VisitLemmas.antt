-- One visited row more.
use Rattle.std.proofs.Common.{◌≡◌, ℕ, zero, suc, ◌+◌, ◌<◌, get_or, List, [], ◌∷◌, ◌++◌, Bool, true, false, not, length, map, refl, sym, ap, ◌∙◌, arith}
use Rattle.std.specs.Prelude.{if◌then◌else◌}
use Rattle.std.specs.List.{enumerate_from, filter, zip}
use Rattle.std.proofs.lemmas.List.Elements.{filter-append}
use Rattle.std.proofs.lemmas.List.{append-nil, length-map, map_push}
use Rattle.mq_ir.specs.Changes.{Visited, visited_as}
use Rattle.mq_ir.specs.Keys.{Tuple}
use Rattle.mq_tables.specs.Visits.{flags_of, taken}

abbrev is_taken : Bool → Visited → Bool
is_taken wanted row = if wanted then row.1 else not row.1

pub enumerate_push : {A : Type 0} (n : ℕ) (xs : List A) (x : A) → enumerate_from n (xs ++ x ∷ []) ≡ enumerate_from n xs ++ (n + length xs, x) ∷ []
enumerate_push n [] x = ap (λ m. (m, x) ∷ []) (omega arith)
enumerate_push n (y ∷ ys) x =
    ap (λ l. (n, y) ∷ l) (enumerate_push (n + 1) ys x ∙ ap (λ m. enumerate_from (n + 1) ys ++ (m, x) ∷ []) (omega arith))

filter_yes : {A : Type 0} (p : A → Bool) (xs : List A) (x : A) → p x ≡ true → filter p (xs ++ x ∷ []) ≡ filter p xs ++ x ∷ []
filter_yes p xs x e = filter-append p xs (x ∷ []) ∙ ap (λ b. filter p xs ++ (if b then x ∷ [] else [])) e

filter_no : {A : Type 0} (p : A → Bool) (xs : List A) (x : A) → p x ≡ false → filter p (xs ++ x ∷ []) ≡ filter p xs
filter_no p xs x e = filter-append p xs (x ∷ []) ∙ ap (λ b. filter p xs ++ (if b then x ∷ [] else [])) e ∙ append-nil (filter p xs)

pub chosen_push : (vs : List Visited) (row : Tuple) → visited_as true (vs ++ (row, true) ∷ []) ≡ visited_as true vs ++ row ∷ []
chosen_push vs row = ap (map (λ (v : Visited). v.0)) (filter_yes (is_taken true) vs (row, true) refl) ∙ map_push (λ (v : Visited). v.0) (filter (is_taken true) vs) (row, true)

pub chosen_same : (vs : List Visited) (row : Tuple) → visited_as true (vs ++ (row, false) ∷ []) ≡ visited_as true vs
chosen_same vs row = ap (map (λ (v : Visited). v.0)) (filter_no (is_taken true) vs (row, false) refl)

-- ---- the rows that were visited as true, as they stood
zip_push : (xs : List Tuple) (flags : List Bool) (n : ℕ) (x : Tuple) (b : Bool) → length flags ≡ n → n < length xs → x ≡ get_or xs n x
    → zip xs (flags ++ b ∷ []) ≡ zip xs flags ++ (x, b) ∷ []
zip_push [] flags n x b l h e = absurd (omega (arith, h))
zip_push (y ∷ xs) [] zero x b l h e = ap (λ z. (z, b) ∷ zip xs []) (sym e) ∙ ap (λ r. (x, b) ∷ r) (no_flag xs)
  where
    no_flag : (xs : List Tuple) → ◌≡◌ {A = List (Tuple × Bool)} (zip xs []) []
    no_flag [] = refl
    no_flag (x ∷ xs) = refl
zip_push (y ∷ xs) [] (suc n) x b l h e = absurd (omega (arith, l))
zip_push (y ∷ xs) (f ∷ flags) zero x b l h e = absurd (omega (arith, l))
zip_push (y ∷ xs) (f ∷ flags) (suc n) x b l h e = ap (λ r. (y, f) ∷ r) (zip_push xs flags n x b (omega (arith, l)) (omega (arith, h)) e)

zip_long : (xs : List Tuple) (flags : List Bool) (n : ℕ) → length flags ≡ n → n < length xs → length (zip xs flags) ≡ n
zip_long [] flags n l h = absurd (omega (arith, h))
zip_long (y ∷ xs) [] n l h = l
zip_long (y ∷ xs) (f ∷ flags) zero l h = absurd (omega (arith, l))
zip_long (y ∷ xs) (f ∷ flags) (suc n) l h = ap suc (zip_long xs flags n (omega (arith, l)) (omega (arith, h)))

abbrev pub is_true : ℕ × (Tuple × Bool) → Bool
is_true row = row.1.1

abbrev pub stood : ℕ × (Tuple × Bool) → ℕ × Tuple
stood row = (row.0, row.1.0)

pub none_taken : (xs : List Tuple) → taken xs [] ≡ []
none_taken [] = refl
none_taken (x ∷ xs) = refl

pub taken_push : (xs : List Tuple) (vs : List Visited) (v : Visited) (n : ℕ) (x : Tuple) → length vs ≡ n → n < length xs → x ≡ get_or xs n x
    → taken xs (vs ++ v ∷ []) ≡ taken xs vs ++ (if v.1 then (n, x) ∷ [] else [])
taken_push xs vs v n x l h e =
    ap (λ fs. map stood (filter is_true (enumerate_from 0 (zip xs fs)))) (map_push (λ (row : Visited). row.1) vs v)
    ∙ ap (λ r. map stood (filter is_true (enumerate_from 0 r))) (zip_push xs (flags_of vs) n x v.1 many h e)
    ∙ ap (λ r. map stood (filter is_true r)) (enumerate_push 0 (zip xs (flags_of vs)) (x, v.1))
    ∙ ap (map stood) (filter-append is_true (enumerate_from 0 (zip xs (flags_of vs))) ((0 + length (zip xs (flags_of vs)), (x, v.1)) ∷ []))
    ∙ by v.1 (let k = zip_long xs (flags_of vs) n many h in omega (arith, k))
  where
    many : length (flags_of vs) ≡ n
    many = length-map vs (λ (row : Visited). row.1) ∙ l

    all : List (ℕ × (Tuple × Bool))
    all = enumerate_from 0 (zip xs (flags_of vs))

    by : (b : Bool) → 0 + length (zip xs (flags_of vs)) ≡ n
        → map stood (filter is_true all ++ (if b then (0 + length (zip xs (flags_of vs)), (x, b)) ∷ [] else [])) ≡ taken xs vs ++ (if b then (n, x) ∷ [] else [])
    by true m = map_push stood (filter is_true all) (0 + length (zip xs (flags_of vs)), (x, true)) ∙ ap (λ k. taken xs vs ++ (k, x) ∷ []) m
    by false m = ap (map stood) (append-nil (filter is_true all)) ∙ sym (append-nil (taken xs vs))
