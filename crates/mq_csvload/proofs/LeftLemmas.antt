-- The records of a text, from a state on: a read takes the first of them, and there are no more than the bytes and one.
use Rattle.std.proofs.Common.{◌≡◌, ◌⊎◌, inl, inr, ℕ, zero, suc, ◌+◌, ◌<◌, List, [], ◌∷◌, ◌++◌, length, Bool, true, false, Option, Some, None, refl, sym, ap, ◌∙◌, arith}
use Rattle.std.specs.Prelude.{if◌then◌else◌}
use Rattle.csv.specs.Machine.{Read, ends_at_end, field_after, fields_after, is_end, next_record, step}
use Rattle.csv.specs.Reading.{records_from, records_next}
use Rattle.csv.specs.declared.parser.Config.{Config}
use Rattle.csv.specs.declared.parser.State.{State}
use Rattle.csv.specs.declared.parser.State.TheVariants as st

-- a record takes a byte, or was the end of the text
abbrev pub Advances : List ℕ → Read → Type 0
Advances xs r = (length r.2 < length xs) ⊎ ((r.1 ≡ st.StartRecord) × (r.2 ≡ []))

some_is : {A : Type 0} (a b : A) → Some a ≡ Some b → a ≡ b
some_is a b e = cc

advances_more : (c : ℕ) (xs : List ℕ) (r : Read) → Advances xs r → Advances (c ∷ xs) r
advances_more c xs r h = elim h [ inl l ↦ inl (omega arith) | inr e ↦ inr e ]

record_advances : (cfg : Config) (s : State) (fields : List (List ℕ)) (field xs : List ℕ) (r : Read) → next_record cfg s fields field xs ≡ Some r → Advances xs r
unfolding next_record
record_advances cfg s fields field [] r e = by (ends_at_end s) e
  where
    by : (b : Bool) → (if b then Some (fields ++ (field ∷ []), st.StartRecord, []) else None) ≡ Some r → Advances [] r
    by true e = let q = some_is (fields ++ (field ∷ []), st.StartRecord, []) r e in inr (ap (λ (p : Read). p.1) (sym q), ap (λ (p : Read). p.2) (sym q))
    by false e = absurd (cc)
record_advances cfg s fields field (c ∷ rest) r e =
    by (is_end (step cfg s c).1) e (record_advances cfg (step cfg s c).0 (fields_after (step cfg s c).1 fields field) (field_after (step cfg s c).1 c field) rest r)
  where
    later : Option Read
    later = next_record cfg (step cfg s c).0 (fields_after (step cfg s c).1 fields field) (field_after (step cfg s c).1 c field) rest

    by : (b : Bool) → (if b then Some (fields_after (step cfg s c).1 fields field, (step cfg s c).0, rest) else later) ≡ Some r
        → (later ≡ Some r → Advances rest r) → Advances (c ∷ rest) r
    by true e more =
        let q = some_is (fields_after (step cfg s c).1 fields field, (step cfg s c).0, rest) r e in
        let tail : r.2 ≡ rest = ap (λ (p : Read). p.2) (sym q) in
        let same : length r.2 ≡ length rest = ap length tail in
        inl (omega arith)
    by false e more = advances_more c rest r (more e)

-- so many records are all that there are
abbrev pub Suffice : ℕ → State → List ℕ → Type 0
Suffice n s xs = (length xs < n) ⊎ ((s ≡ st.StartRecord) × (xs ≡ []))

none_at_end : (cfg : Config) (n : ℕ) → records_from cfg n st.StartRecord [] ≡ []
unfolding records_from next_record
none_at_end cfg zero = refl
none_at_end cfg (suc n) = refl

none_there : (cfg : Config) (n : ℕ) (s : State) (xs : List ℕ) → (s ≡ st.StartRecord) × (xs ≡ []) → records_from cfg n s xs ≡ []
none_there cfg n s xs e = (λ i. records_from cfg n (e.0 i) (e.1 i)) ∙ none_at_end cfg n

suffice_next : (n : ℕ) (s : State) (xs : List ℕ) (r : Read) → length xs < suc n → Advances xs r → Suffice n r.1 r.2
suffice_next n s xs r l h = elim h [ inl m ↦ inl (omega arith) | inr e ↦ inr e ]

-- any two numbers that suffice give the same records
pub enough : (cfg : Config) (m n : ℕ) (s : State) (xs : List ℕ) → Suffice m s xs → Suffice n s xs → records_from cfg m s xs ≡ records_from cfg n s xs
unfolding records_from
enough cfg m n s xs (inr e) k = none_there cfg m s xs e ∙ sym (none_there cfg n s xs e)
enough cfg m n s xs (inl l) (inr e) = none_there cfg m s xs e ∙ sym (none_there cfg n s xs e)
enough cfg zero n s xs (inl l) (inl k) = absurd (omega arith)
enough cfg (suc m) zero s xs (inl l) (inl k) = absurd (omega arith)
enough cfg (suc m) (suc n) s xs (inl l) (inl k) = by (next_record cfg s [] [] xs) refl (enough cfg m n)
  where
    by : (o : Option Read) → next_record cfg s [] [] xs ≡ o
        → ((t : State) (ys : List ℕ) → Suffice m t ys → Suffice n t ys → records_from cfg m t ys ≡ records_from cfg n t ys)
        → records_next (records_from cfg m) o ≡ records_next (records_from cfg n) o
    by None e more = refl
    by (Some r) e more =
        let a = record_advances cfg s [] [] xs r e in
        ap (λ rest. r.0 ∷ rest) (more r.1 r.2 (suffice_next m s xs r l a) (suffice_next n s xs r k a))

-- all records from a state on
abbrev pub all_from : Config → State → List ℕ → List (List (List ℕ))
all_from cfg s xs = records_from cfg (length xs + 1) s xs

-- the next record is the first of them
pub first_taken : (cfg : Config) (s : State) (xs : List ℕ) (r : Read) → next_record cfg s [] [] xs ≡ Some r
    → all_from cfg s xs ≡ r.0 ∷ all_from cfg r.1 r.2
unfolding records_from
first_taken cfg s xs r e =
    let size : length xs + 1 ≡ suc (length xs) = omega arith in
    let rest : records_from cfg (length xs) r.1 r.2 ≡ all_from cfg r.1 r.2 =
    enough cfg (length xs) (length r.2 + 1) r.1 r.2 (suffice_next (length xs) s xs r (omega arith) (record_advances cfg s [] [] xs r e)) (inl (omega arith)) in
    (λ i. records_from cfg (size i) s xs) ∙ ap (records_next (records_from cfg (length xs))) e ∙ ap (λ more. r.0 ∷ more) rest

-- where there is no next record, there are none
pub none_taken : (cfg : Config) (s : State) (xs : List ℕ) → next_record cfg s [] [] xs ≡ None → all_from cfg s xs ≡ []
unfolding records_from
none_taken cfg s xs e =
    let size : length xs + 1 ≡ suc (length xs) = omega arith in
    (λ i. records_from cfg (size i) s xs) ∙ ap (records_next (records_from cfg (length xs))) e
