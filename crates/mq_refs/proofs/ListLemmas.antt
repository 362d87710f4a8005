-- Lists as a loop has come to them.
use Rattle.std.proofs.Common.{◌≡◌, ℕ, ◌+◌, ◌<◌, ◌≤◌, min, List, ◌∷◌, length, drop, get_or, sym, ◌∙◌, arith, add-one, drop-cons}
use Rattle.std.specs.List.{zip}
use Rattle.std.proofs.lemmas.List.{get_or_default}
use Rattle.std.proofs.lemmas.Slice.Zip.{get_or-zip, length-zip}

-- a loop goes on at the item number i
pub next_item : {A : Type 0} (xs : List A) (i : ℕ) (x : A) → i < length xs → x ≡ get_or xs i x → drop i xs ≡ x ∷ drop (i + 1) xs
next_item xs i x h e = drop-cons xs i x h ∙ (λ j. sym e j ∷ drop (sym (add-one i) j) xs)

-- the pair at a place of two lists
pub zip_is : {A B : Type 0} (xs : List A) (ys : List B) (i : ℕ) (d : A) (y : B) → i < min (length xs) (length ys) → y ≡ get_or ys i y → (get_or xs i d, y) ≡ get_or (zip xs ys) i (get_or xs i d, y)
zip_is xs ys i d y h e =
    let l : i < length xs = omega (arith, h) in
    let r : i < length ys = omega (arith, h) in
    (λ j. (get_or_default xs i d (get_or xs i d) l j, e j)) ∙ sym (get_or-zip xs ys i (get_or xs i d, y) l r)

pub zip_within : {A B : Type 0} (xs : List A) (ys : List B) (i : ℕ) → i < min (length xs) (length ys) → i < length (zip xs ys)
zip_within xs ys i h = omega (arith, h, length-zip xs ys)

pub zip_done : {A B : Type 0} (xs : List A) (ys : List B) (i : ℕ) → min (length xs) (length ys) ≤ i → length (zip xs ys) ≤ i
zip_done xs ys i h = omega (arith, h, length-zip xs ys)
