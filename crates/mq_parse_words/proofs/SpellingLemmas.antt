-- How a text is cut at its quotes.
use Rattle.std.proofs.Common.{◌≡◌, ◌≢◌, ℕ, suc, ◌+◌, ◌<◌, Bool, true, false, List, [], ◌∷◌, ◌++◌, length, refl, sym, ap, ◌∙◌, arith, append_assoc, append-nil}
use Rattle.std.specs.Prelude.{◌==◌, Option, Some, None}
use Rattle.std.specs.List.{position_or_len, before_first, after_first}
use Rattle.std.specs.Option.{option_map}
use Rattle.std.proofs.lemmas.Bool.Decides.{nat_tests}
use Rattle.mq_ast.specs.Spelling.{unquoted}
use Rattle.mq_parse_words.specs.Quotes.{is_quote}

-- a text up to its next quote
pub unquoted_none : (z : List ℕ) → position_or_len is_quote z ≡ length z → unquoted false z ≡ None
unquoted_none [] e = refl
unquoted_none (b ∷ z) e = let h = unquoted_none z in grind (arith, nat_tests, e, h)

map_twice : (b : ℕ) (z : List ℕ) (o : Option (List ℕ)) → option_map (λ c. b ∷ c) (option_map (λ c. z ++ c) o) ≡ option_map (λ c. (b ∷ z) ++ c) o
map_twice b z None = refl
map_twice b z (Some c) = refl

map_same : (o : Option (List ℕ)) → option_map (λ c. c) o ≡ o
map_same None = refl
map_same (Some c) = refl

-- before the first quote, and behind it
abbrev Splits : List ℕ → Type 0
Splits z = position_or_len is_quote z < length z → unquoted false z ≡ option_map (λ c. before_first is_quote z ++ c) (unquoted true (after_first is_quote z))

split_case : (b : ℕ) (z : List ℕ) (t : Bool) → (b == 39) ≡ t → Splits z → Splits (b ∷ z)
split_case b z true h ih e = rw h (sym (map_same (unquoted true z)))
split_case b z false h ih e =
    let l : 1 + position_or_len is_quote z < suc (length z) = rw h at e in
    let k : position_or_len is_quote z < length z = omega arith in
    let o : 1 + position_or_len is_quote z ≡ suc (position_or_len is_quote z) = omega arith in
    let a : suc (position_or_len is_quote z) + 1 ≡ suc (position_or_len is_quote z + 1) = omega arith in
    rw (h, o, a) (rw (ih k) (map_twice b (before_first is_quote z) (unquoted true (after_first is_quote z))))

pub unquoted_split : (z : List ℕ) → Splits z
unquoted_split [] e = absurd (omega arith)
unquoted_split (b ∷ z) e = split_case b z (b == 39) refl (unquoted_split z) e

-- a piece of a text up to a doubled quote, and behind it
joined : (x y : List ℕ) (o : Option (List ℕ)) → option_map (λ c. ((x ++ y) ++ 39 ∷ []) ++ c) o ≡ option_map (λ c. x ++ c) (option_map (λ c. y ++ c) (option_map (λ c. 39 ∷ c) o))
joined x y None = refl
joined x y (Some c) = ap Some (simp append_assoc)

pub piece_more : (x y rest after more new : List ℕ) (q : Option (List ℕ)) → option_map (λ c. x ++ c) (unquoted false rest) ≡ q → unquoted false rest ≡ option_map (λ c. y ++ c) (unquoted true after) → after ≡ 39 ∷ more → new ≡ (x ++ y) ++ 39 ∷ [] → option_map (λ c. new ++ c) (unquoted false more) ≡ q
piece_more x y rest after more new q i s a n = rw n (joined x y (unquoted false more) ∙ rw (s, a) at i)

pub piece_last : (x y rest after new : List ℕ) (q : Option (List ℕ)) → option_map (λ c. x ++ c) (unquoted false rest) ≡ q → unquoted false rest ≡ option_map (λ c. y ++ c) (unquoted true after) → after ≡ [] → new ≡ x ++ y → Some new ≡ q
piece_last x y rest after new q i s a n = rw n (ap (λ c. Some (x ++ c)) (sym (append-nil y)) ∙ rw (s, a) at i)

broken : (b : ℕ) (z : List ℕ) → ((r : List ℕ) → b ∷ z ≢ 39 ∷ r) → (b == 39) ≡ false
broken b z n = let f : b ≡ 39 → ⊥ = λ e. n z (ap (λ x. x ∷ z) e) in grind (arith, nat_tests, f)

pub piece_broken : (x y rest after : List ℕ) (q : Option (List ℕ)) → option_map (λ c. x ++ c) (unquoted false rest) ≡ q → unquoted false rest ≡ option_map (λ c. y ++ c) (unquoted true after) → ((r : List ℕ) → after ≢ 39 ∷ r) → 0 < length after → None ≡ q
piece_broken x y rest [] q i s n l = absurd (omega arith)
piece_broken x y rest (b ∷ after) q i s n l =
    let d : (b == 39) ≡ false = broken b after n in
    rw (s, d) at i

pub piece_none : (x rest : List ℕ) (q : Option (List ℕ)) → option_map (λ c. x ++ c) (unquoted false rest) ≡ q → position_or_len is_quote rest ≡ length rest → None ≡ q
piece_none x rest q i e = rw (unquoted_none rest e) at i

pub cut_quote : (rest piece after : List ℕ) → (piece ≡ before_first is_quote rest) × (after ≡ after_first is_quote rest) × (position_or_len is_quote rest < length rest) → unquoted false rest ≡ option_map (λ c. piece ++ c) (unquoted true after)
cut_quote rest piece after p = rw (p.0, p.1) (unquoted_split rest p.2)

pub empty_of : (z : List ℕ) → (length z == 0) ≡ true → z ≡ []
empty_of [] e = refl
empty_of (_ ∷ z) e = absurd (grind (arith, nat_tests, e))
