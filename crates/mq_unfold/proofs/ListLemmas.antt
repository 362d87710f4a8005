-- Lists as a loop has come to them.
use Rattle.std.proofs.Common.{◌≡◌, ℕ, ◌+◌, ◌<◌, ◌≤◌, min, List, [], ◌∷◌, ◌++◌, map, length, take, drop, get_or, refl, sym, ap, ◌∙◌, arith, add-one, drop-cons}
use Rattle.std.specs.List.{enumerate_from, flat_map, range_with_len, zip}
use Rattle.std.proofs.lemmas.Grind.{flat_map-append}
use Rattle.std.proofs.lemmas.List.{append-nil, get_or_default, take_more}
use Rattle.std.proofs.lemmas.List.FromFn.{get_or-enumerate_from, length-enumerate_from, map-range_with_len_more}
use Rattle.std.proofs.lemmas.Slice.Zip.{get_or-zip, length-zip}

-- a loop goes on at the item number i
pub next_item : {A : Type 0} (xs : List A) (i : ℕ) (x : A) → i < length xs → x ≡ get_or xs i x → drop i xs ≡ x ∷ drop (i + 1) xs
next_item xs i x h e = drop-cons xs i x h ∙ (λ j. sym e j ∷ drop (sym (add-one i) j) xs)

-- the lists of one item more
pub flat_map_on : {A B : Type 0} (f : A → List B) (xs : List A) (i : ℕ) (x : A) → i < length xs → x ≡ get_or xs i x → flat_map f (take (i + 1) xs) ≡ flat_map f (take i xs) ++ f x
flat_map_on f xs i x h e =
    ap (flat_map f) (take_more xs i x h)
    ∙ flat_map-append f (take i xs) (get_or xs i x ∷ [])
    ∙ ap (λ ys. flat_map f (take i xs) ++ ys) (append-nil (f (get_or xs i x)))
    ∙ ap (λ y. flat_map f (take i xs) ++ f y) (sym e)

pub range_on : {A : Type 0} (f : ℕ → A) (n : ℕ) → map f (range_with_len 0 (n + 1)) ≡ map f (range_with_len 0 n) ++ f n ∷ []
range_on f n = map-range_with_len_more f 0 n n (omega arith)

-- the pair at a place of two lists
pub zip_is : {A B : Type 0} (xs : List A) (ys : List B) (i : ℕ) (d : A) (y : B) → i < min (length xs) (length ys) → y ≡ get_or ys i y → (get_or xs i d, y) ≡ get_or (zip xs ys) i (get_or xs i d, y)
zip_is xs ys i d y h e =
    let l : i < length xs = omega (arith, h) in
    let r : i < length ys = omega (arith, h) in
    (λ j. (get_or_default xs i d (get_or xs i d) l j, e j)) ∙ sym (get_or-zip xs ys i (get_or xs i d, y) l r)

pub zip_within : {A B : Type 0} (xs : List A) (ys : List B) (i : ℕ) → i < min (length xs) (length ys) → i < length (zip xs ys)
zip_within xs ys i h = omega (arith, h, length-zip xs ys)

pub zip_done : {A B : Type 0} (xs : List A) (ys : List B) (i : ℕ) → min (length xs) (length ys) ≤ i → length (zip xs ys) ≤ i
zip_done xs ys i h = omega (arith, h, length-zip xs ys)

pub zip_next : {A B : Type 0} (xs : List A) (ys : List B) (i : ℕ) (d : A) (y : B) → i < min (length xs) (length ys) → y ≡ get_or ys i y → drop i (zip xs ys) ≡ (get_or xs i d, y) ∷ drop (i + 1) (zip xs ys)
zip_next xs ys i d y h e = next_item (zip xs ys) i (get_or xs i d, y) (zip_within xs ys i h) (zip_is xs ys i d y h e)

-- an item with its number
pub numbered_is : {A : Type 0} (xs : List A) (i : ℕ) (x : A) → i < length xs → x ≡ get_or xs i x → (i, x) ≡ get_or (enumerate_from 0 xs) i (i, x)
numbered_is xs i x h e = (λ j. (i, e j)) ∙ sym (get_or-enumerate_from 0 xs i (i, x) h ∙ (λ j. (zero_and i j, get_or xs i x)))
  where
    zero_and : (n : ℕ) → 0 + n ≡ n
    zero_and n = omega arith

pub numbered_within : {A : Type 0} (xs : List A) (i : ℕ) → i < length xs → i < length (enumerate_from 0 xs)
numbered_within xs i h = omega (arith, h, length-enumerate_from 0 xs)

pub numbered_done : {A : Type 0} (xs : List A) (i : ℕ) → length xs ≤ i → length (enumerate_from 0 xs) ≤ i
numbered_done xs i h = omega (arith, h, length-enumerate_from 0 xs)
