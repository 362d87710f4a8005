-- A generated script is UTF-8: each of its bytes is ASCII.
use Rattle.std.proofs.Common.{◌≡◌, ℕ, zero, suc, ◌+◌, ◌*◌, ◌/◌, ◌%◌, ◌<◌, ◌^◌, List, [], ◌∷◌, ◌++◌, Bool, true, false, refl, arith, mod-lt}
use Rattle.std.specs.Prelude.{IsUtf8, ⊤, decimal, codes, slice_index, ltb, ◌&&◌, ◌==◌, if◌then◌else◌}
use Rattle.std.specs.List.{concat}
use Rattle.std.proofs.lemmas.Str.{IsUtf8-append, IsUtf8-from_ascii, IsUtf8-nil}
use Rattle.std.proofs.lemmas.Bool.{ltb-true}
use Rattle.std.proofs.lemmas.Fmt.{IsAscii-decimal}
use Rattle.mq_generate.specs.Draws.{draw_of, next_of, start_of, state_after}
use Rattle.mq_generate.specs.Pieces.{amount_text, fraction_text}
use Rattle.mq_generate.specs.Script.{change_of, changes, each_below, insert_line, inserts, line_of, product_insert, row_of, script_of, separator, show_at, statements, update_line, year_row}
use Rattle.mq_generate.specs.declared.script.TheConstants as script

-- each of these is UTF-8
abbrev Texts : List (List ℕ) → Type 0
Texts [] = ⊤
Texts (x ∷ xs) = IsUtf8 x × Texts xs

-- each byte is ASCII, as a test
abbrev is_ascii : List ℕ → Bool
is_ascii [] = true
is_ascii (b ∷ bs) = ltb b 128 && is_ascii bs

and_parts : (a b : Bool) → (a && b) ≡ true → (a ≡ true) × (b ≡ true)
and_parts true b h = (refl, h)
and_parts false b h = absurd cc

ascii_at : (bs : List ℕ) → is_ascii bs ≡ true → (i : ℕ) → slice_index bs i < 128
ascii_at [] h i = omega arith
ascii_at (b ∷ bs) h zero = ltb-true b 128 (and_parts (ltb b 128) (is_ascii bs) h).0
ascii_at (b ∷ bs) h (suc i) = ascii_at bs (and_parts (ltb b 128) (is_ascii bs) h).1 i

words : (bs : List ℕ) → is_ascii bs ≡ true → IsUtf8 bs
words bs h = IsUtf8-from_ascii bs (ascii_at bs h)

-- what a remainder is of
remains : (n k : ℕ) → 0 < k → n % k < k
remains n k some = mod-lt n some

-- a number of at most 64 bits
number : (n : ℕ) → n < 2 ^ 64 → IsUtf8 (decimal n)
number n less = IsUtf8-from_ascii (decimal n) (IsAscii-decimal n less)

both : {xs ys : List ℕ} → IsUtf8 xs → IsUtf8 ys → IsUtf8 (xs ++ ys)
both {xs} {ys} p q = IsUtf8-append xs ys p q

-- texts that a function gives below a bound, one after another
each_text : (f : ℕ → List ℕ) (n : ℕ) → ((i : ℕ) → i < n → IsUtf8 (f i)) → IsUtf8 (each_below f n)
unfolding each_below
each_text f zero h = IsUtf8-nil
each_text f (suc n) h = both (each_text f n (λ i less. h i (omega arith))) (h n (omega arith))

-- the same of lists of texts
all_both : (xs ys : List (List ℕ)) → Texts xs → Texts ys → Texts (xs ++ ys)
all_both [] ys p q = q
all_both (x ∷ xs) ys p q = (p.0, all_both xs ys p.1 q)

each_texts : (f : ℕ → List (List ℕ)) (n : ℕ) → ((i : ℕ) → i < n → Texts (f i)) → Texts (each_below f n)
unfolding each_below
each_texts f zero h = tt
each_texts f (suc n) h = all_both (each_below f n) (f n) (each_texts f n (λ i less. h i (omega arith))) (h n (omega arith))

joined : (xs : List (List ℕ)) → Texts xs → IsUtf8 (concat xs)
joined [] p = IsUtf8-nil
joined (x ∷ xs) p = both p.0 (joined xs p.1)

-- hundredths below a whole, and an amount below the number of amounts
fraction : (n : ℕ) → n < 2 ^ 64 → IsUtf8 (fraction_text n)
fraction n less = both (words (codes ".") refl) (both (number (n / 10) (omega arith)) (number (n % 10) (omega arith)))

amount : (n : ℕ) → n < script.AMOUNTS → IsUtf8 (amount_text n)
amount n less = both (number (n / 100) (omega arith)) (fraction (n % 100) (omega arith))

sold : (state : ℕ) → IsUtf8 (amount_text (draw_of script.AMOUNTS state))
sold state = amount (draw_of script.AMOUNTS state) (remains _ script.AMOUNTS (omega arith))

line : {xs : List ℕ} → IsUtf8 xs → IsUtf8 (line_of xs)
line p = both p (words (codes ";\n") refl)

parts : (index : ℕ) → IsUtf8 (separator index)
parts index = by (index == 0)
  where
    by : (b : Bool) → IsUtf8 (if b then codes " " else codes ",")
    by true = words (codes " ") refl
    by false = words (codes ",") refl

row : (state product year : ℕ) → product < 2 ^ 64 → year < script.YEARS → IsUtf8 (row_of state product year)
row state product year p y =
    both (parts year) (both (words (codes "(") refl) (both (number product p) (both (words (codes ",") refl)
    (both (number (script.FIRST_YEAR + year) (omega arith)) (both (words (codes ",") refl) (both (sold state) (words (codes ")") refl)))))))

insert : (state product : ℕ) → product < 2 ^ 64 → IsUtf8 (insert_line state product)
insert state product p =
    line (both (words (codes "INSERT INTO SALES VALUES") refl)
    (each_text (year_row state product) script.YEARS (λ year less. row (state_after year state) product year p less)))

all_inserts : (state size : ℕ) → size < 2 ^ 32 → Texts (inserts state size)
all_inserts state size small =
    each_texts (product_insert state) size (λ index less. (insert (state_after (script.YEARS * index) state) (index + 1) (omega arith), tt))

update : (state size : ℕ) → 0 < size → size < 2 ^ 32 → IsUtf8 (update_line state size)
update state size some small =
    let product : draw_of size state < size = remains _ size some in
    let year : draw_of script.YEARS (next_of state) < script.YEARS = remains _ script.YEARS (omega arith) in
    both (words (codes "UPDATE SALES SET AMT = ") refl) (both (sold (next_of (next_of state)))
    (both (words (codes " WHERE PROD = ") refl) (both (number (1 + draw_of size state) (omega (arith, product, small)))
    (both (words (codes " AND YR = ") refl) (both (number (script.FIRST_YEAR + draw_of script.YEARS (next_of state)) (omega (arith, year)))
    (words (codes ";\n") refl))))))

shown : (n : ℕ) → Texts (show_at n)
shown n = by (n % script.CHANGES_A_SHOW == 0)
  where
    by : (b : Bool) → Texts (if b then line_of script.SHOW.now ∷ [] else [])
    by true = (line (words script.SHOW.now refl), tt)
    by false = tt

all_changes : (state size : ℕ) → 0 < size → size < 2 ^ 32 → Texts (changes state size)
all_changes state size some small =
    each_texts (change_of state size) script.CHANGES
    (λ index less. (update (state_after (script.DRAWS_A_CHANGE * index) state) size some small, shown (index + 1)))

-- a generated script is UTF-8
pub script_text : (number size : ℕ) → 0 < size → size < 2 ^ 32 → IsUtf8 (script_of number size)
script_text number size some small =
    joined (statements number size) (
      line (words script.CREATE_TABLE.now refl),
      all_both (inserts (start_of number) size) _ (all_inserts (start_of number) size small) (
        line (words script.CREATE_VIEW.now refl),
        all_changes (state_after (script.YEARS * size) (start_of number)) size some small,
      ),
    )
