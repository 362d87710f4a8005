-- The place of a key among keys of which no two are the same.
use Rattle.std.proofs.Common.{◌≡◌, ℕ, zero, suc, ◌+◌, ◌<◌, ◌≤◌, List, [], ◌∷◌, Bool, true, false, ◌||◌, length, map, get_or, Option, Some, None, Result, Ok, refl, sym, ap, ◌∙◌, subst, inl, inr, ◌⊎◌, arith}
use Rattle.std.specs.Prelude.{◌≢◌, IfSome, if◌then◌else◌}
use Rattle.std.specs.Ordering.{is_eq}
use Rattle.std.specs.Option.{option_map}
use Rattle.std.proofs.lemmas.List.{get_or-map, get_or_default, length-map}
use Rattle.mq_values.specs.OrderTells.{key_itself}
use Rattle.mq_values.specs.declared.faults.Refused.{Refused}
use Rattle.mq_values.specs.declared.faults.Refused.TheVariants as refused
use Rattle.mq_ir.specs.declared.expression.Expr.{Expr}
use Rattle.mq_ir.specs.declared.statement.Schema.{Schema}
use Rattle.mq_ir.specs.Changes.{deleted_row, first_repeated, is_chosen, key_fault, row_key, set_values, updated_row, with_values}
use Rattle.mq_ir.specs.Keys.{Tuple, is_among, is_same}
use Rattle.mq_ir.specs.Results.{◌>>=◌}
use Rattle.mq_ir.specs.Statement.{unless_refused}
use Rattle.mq_tables.specs.declared.places.Places.{Places}
use Rattle.mq_tables.specs.Groups.{AreAlike, groups_of}
use Rattle.mq_tables.specs.KeyOrder.{AreKept, AreKeys, judged, keys_by}
use Rattle.mq_tables.specs.Seeking.{AreTold, AreWithin, FirstIsLike, HasKeyAt, IsOutside, IsPlaceWith, OthersOutside, PassesOutside}
use Rattle.mq_tables.proofs.LoseLemmas.{is_equal, same_turned}

-- ---- keys of which no two are the same
pub next_apart : (earlier keys : List Tuple) (k : Tuple) → first_repeated earlier (k ∷ keys) ≡ None → (is_among earlier k ≡ false) × (first_repeated (k ∷ earlier) keys ≡ None)
next_apart earlier keys k n = by (is_among earlier k) n
  where
    by : (b : Bool) → (if b then Some k else first_repeated (k ∷ earlier) keys) ≡ None → (b ≡ false) × (first_repeated (k ∷ earlier) keys ≡ None)
    by true e = absurd (cc)
    by false e = (refl, e)

pub either_false : (a b : Bool) → (a || b) ≡ false → (a ≡ false) × (b ≡ false)
either_false true b h = absurd (cc)
either_false false b h = (refl, h)

-- a key behind earlier ones is none of them
not_earlier : (earlier keys : List Tuple) → first_repeated earlier keys ≡ None → (j : ℕ) (b : Tuple) → j < length keys → b ≡ get_or keys j b → is_among earlier b ≡ false
not_earlier earlier [] n j b h e = absurd (omega (arith, h))
not_earlier earlier (k ∷ keys) n zero b h e = ap (is_among earlier) e ∙ (next_apart earlier keys k n).0
not_earlier earlier (k ∷ keys) n (suc j) b h e =
    (either_false (is_same b k) (is_among earlier b) (not_earlier (k ∷ earlier) keys (next_apart earlier keys k n).1 j b (omega (arith, h)) e)).1

apart_at : (earlier keys : List Tuple) → first_repeated earlier keys ≡ None → (i j : ℕ) (a b : Tuple) → i < j → j < length keys → a ≡ get_or keys i a → b ≡ get_or keys j b → is_same b a ≡ false
apart_at earlier [] n i j a b l h d e = absurd (omega (arith, h))
apart_at earlier (k ∷ keys) n i zero a b l h d e = absurd (omega (arith, l))
apart_at earlier (k ∷ keys) n zero (suc j) a b l h d e =
    ap (is_same b) d ∙ (either_false (is_same b k) (is_among earlier b) (not_earlier (k ∷ earlier) keys (next_apart earlier keys k n).1 j b (omega (arith, h)) e)).0
apart_at earlier (k ∷ keys) n (suc i) (suc j) a b l h d e = apart_at (k ∷ earlier) keys (next_apart earlier keys k n).1 i j a b (omega (arith, l)) (omega (arith, h)) d e

same_itself : (a : Tuple) → is_same a a ≡ true
same_itself a = ap is_eq (key_itself a)

member : (keys : List Tuple) (i : ℕ) (a : Tuple) → i < length keys → a ≡ get_or keys i a → is_among keys a ≡ true
member [] i a h e = absurd (omega (arith, h))
member (k ∷ keys) zero a h e = ap (λ b. b || is_among keys a) (ap (is_same a) (sym e) ∙ same_itself a)
member (k ∷ keys) (suc i) a h e = ap (λ b. is_same a k || b) (member keys i a (omega (arith, h)) e) ∙ or_true (is_same a k)
  where
    or_true : (b : Bool) → (b || true) ≡ true
    or_true true = refl
    or_true false = refl

lacking : (keys : List Tuple) (wanted : Tuple) → is_among keys wanted ≡ false → (i : ℕ) (a : Tuple) → i < length keys → a ≡ get_or keys i a → is_same a wanted ≡ false
lacking keys wanted n i a h e = by (is_same a wanted) refl
  where
    by : (b : Bool) → is_same a wanted ≡ b → b ≡ false
    by true s = absurd (let m : false ≡ true = sym n ∙ ap (is_among keys) (sym (is_equal a wanted s)) ∙ member keys i a h e in cc)
    by false s = refl

same_places : (p : Places) → p.to ≡ p.from + 1 → ◌≡◌ {A = Places} (record { from = p.from; to = p.from + 1 }) p
same_places p a = λ i. record { from = p.from; to = sym a i }

-- ---- all places
pub all_places : (schema : Schema) (rows : List Tuple) (wanted : Tuple) (places : Places) (count : ℕ) → places ≡ record { from = 0; to = count } → count ≡ length rows → OthersOutside schema rows wanted places
all_places schema rows wanted places count e n at row h r o = absurd (by (subst (λ (p : Places). IsOutside p at) e o))
  where
    by : (at < 0) ⊎ (count ≤ at) → ⊥
    by (inl l) = omega (arith, l)
    by (inr l) = omega (arith, l, h, n)

pub all_visited : (filter : Option Expr) (rows : List Tuple) (places : Places) (count : ℕ) → places ≡ record { from = 0; to = count } → count ≡ length rows → PassesOutside filter rows places
all_visited filter rows places count e n at row h r o = absurd (by (subst (λ (p : Places). IsOutside p at) e o))
  where
    by : (at < 0) ⊎ (count ≤ at) → ⊥
    by (inl l) = omega (arith, l)
    by (inr l) = omega (arith, l, h, n)

pub all_within : (rows : List Tuple) (places : Places) (count : ℕ) → places ≡ record { from = 0; to = count } → count ≡ length rows → AreWithin places (length rows)
all_within rows places count e n = subst (λ (p : Places). AreWithin p (length rows)) (sym e) (record { ascend = omega arith; end = omega (arith, n) })

pub all_told : (schema : Schema) (rows : List Tuple) (wanted : Tuple) (places : Places) (count : ℕ) → places ≡ record { from = 0; to = count } → count ≡ length rows → AreTold schema rows wanted places
all_told schema rows wanted places count e n = record { others = all_places schema rows wanted places count e n; within = all_within rows places count e n }

-- ---- what is asked of a row
pub key_there : (schema : Schema) (rows : List Tuple) (key : Tuple) (place : ℕ) (row found : Tuple) → place < length rows → row ≡ get_or rows place row → found ≡ row_key schema row → is_same found key ≡ true
    → HasKeyAt schema rows key place
key_there schema rows key place row found h s f e = record {
  there = h;
  is = λ r q. ap (λ x. is_same (row_key schema x) key) (q ∙ get_or_default rows place r row h ∙ sym s) ∙ ap (λ k. is_same k key) (sym f) ∙ e;
}

pub first_like : (schema : Schema) (rows : List Tuple) (key row : Tuple) → row ≡ get_or rows 0 row → groups_of (row_key schema row) ≡ groups_of key → FirstIsLike schema rows key
first_like schema rows key row e g r h q = ap (λ x. groups_of (row_key schema x)) (q ∙ get_or_default rows 0 r row h ∙ sym e) ∙ g

pub none_first : (schema : Schema) (rows : List Tuple) (key : Tuple) → length rows ≤ 0 → FirstIsLike schema rows key
none_first schema rows key n r h q = absurd (omega (arith, n, h))

-- no rows share no key
pub none_judged : (schema : Schema) (rows after : List Tuple) → rows ≡ [] → after ≡ rows → judged schema rows ≡ Ok after
none_judged schema rows after e f = ap (λ o. unless_refused o (Ok rows)) (ap (key_fault schema) e ∙ by schema.key) ∙ ap Ok (sym f)
  where
    by : (key : List ℕ) → ◌≡◌ {A = Option Refused} (elim key [ [] ↦ None | _ ∷ _ ↦ option_map refused.DuplicateKey (first_repeated [] []) ]) None
    by [] = refl
    by (c ∷ key) = refl

-- ---- rows that are not visited as true
pub row_left : (schema : Schema) (sets : List (ℕ × Expr)) (filter : Option Expr) (number : ℕ) (row : Tuple) → is_chosen filter (number, row) ≡ Ok false → updated_row schema sets filter (number, row) ≡ Ok (row, false)
row_left schema sets filter number row h =
    ap (λ (r : Result Bool Refused). r >>= (λ chosen. elim chosen [ true ↦ set_values schema sets (number, row) >>= (λ values. Ok (with_values row values, true)) | false ↦ Ok (row, false) ])) h

pub row_kept : (filter : Option Expr) (number : ℕ) (row : Tuple) → is_chosen filter (number, row) ≡ Ok false → deleted_row filter (number, row) ≡ Ok (row, false)
row_kept filter number row h = ap (λ (r : Result Bool Refused). r >>= (λ chosen. Ok (row, chosen))) h

-- ---- keys that are kept beside rows
module _ (schema : Schema) (rows order : List Tuple) (columns : List ℕ) (some : columns ≢ []) (key : columns ≡ schema.key) (kept : AreKept columns rows order) (alike : AreAlike order) (wanted : Tuple) where
  abbrev keys : List Tuple
  keys = map (row_key schema) rows

  known : AreKeys keys order
  known = subst (λ (cs : List ℕ). AreKeys (keys_by cs rows) order) key (kept some)

  key_at : (at : ℕ) (row : Tuple) → at < length rows → row ≡ get_or rows at row → row_key schema row ≡ get_or keys at (row_key schema row)
  key_at at row h e = ap (row_key schema) e ∙ sym (get_or-map (row_key schema) rows at row (row_key schema row) h)

  within : (at : ℕ) → at < length rows → at < length keys
  within at h = let l = length-map rows (row_key schema) in omega (arith, l, h)

  -- all rows have keys of the groups of the sample
  of_sample : (at : ℕ) (row : Tuple) → at < length rows → row ≡ get_or rows at row → groups_of (row_key schema row) ≡ groups_of alike.sample
  of_sample at row h e = alike.like (row_key schema row) (known.all (row_key schema row) ∙ member keys at (row_key schema row) (within at h) (key_at at row h e))

  -- the row at a place has the key
  pub one_place : (place : ℕ) → HasKeyAt schema rows wanted place → OthersOutside schema rows wanted (record { from = place; to = place + 1 })
  one_place place has at row h e o = record {
    alike = of_sample at row h e ∙ sym (of_sample place there has.there is_there) ∙ ap groups_of same;
    other = ap (is_same (row_key schema row)) (sym same) ∙ apart o;
  }
    where
      there : Tuple
      there = get_or rows place row

      is_there : there ≡ get_or rows place there
      is_there = get_or_default rows place row there has.there

      same : row_key schema there ≡ wanted
      same = is_equal (row_key schema there) wanted (has.is there is_there)

      apart : IsOutside (record { from = place; to = place + 1 }) at → is_same (row_key schema row) (row_key schema there) ≡ false
      apart (inl l) =
          same_turned (row_key schema row) (row_key schema there)
          ∙ apart_at [] keys known.apart at place (row_key schema row) (row_key schema there) l (within place has.there) (key_at at row h e) (key_at place there has.there is_there)
      apart (inr l) =
          apart_at [] keys known.apart place at (row_key schema there) (row_key schema row) (omega (arith, l)) (within at h) (key_at place there has.there is_there) (key_at at row h e)

  -- no row has the key
  pub no_place : is_among order wanted ≡ false → FirstIsLike schema rows wanted → OthersOutside schema rows wanted (record { from = 0; to = 0 })
  no_place n first at row h e o = record {
    alike = of_sample at row h e ∙ sym (of_sample 0 front some_row is_front) ∙ first front some_row is_front;
    other = lacking keys wanted (sym (known.all wanted) ∙ n) at (row_key schema row) (within at h) (key_at at row h e);
  }
    where
      some_row : 0 < length rows
      some_row = omega (arith, h)

      front : Tuple
      front = get_or rows 0 row

      is_front : front ≡ get_or rows 0 front
      is_front = get_or_default rows 0 row front some_row

  -- the rows as they are seen and as they are lent
  module _ (seen lent : List Tuple) (s : rows ≡ seen) (l : lent ≡ rows) where
    pub one_told : (found : Option Places) → IfSome found (IsPlaceWith schema lent wanted) → IfSome found (AreTold schema seen wanted)
    one_told None p = tt
    one_told (Some places) p = subst (λ (r : List Tuple). AreTold schema r wanted places) s (by (subst (λ (r : List Tuple). IsPlaceWith schema r wanted places) l p))
      where
        by : IsPlaceWith schema rows wanted places → AreTold schema rows wanted places
        by q =
            let t = q.has.there in
            record {
              others = subst (λ (p : Places). OthersOutside schema rows wanted p) (same_places places q.alone) (one_place places.from q.has);
              within = record { ascend = (let a = q.alone in omega (arith, a)); end = (let a = q.alone in omega (arith, a, t)) };
            }

    pub none_told : (places : Places) → places ≡ record { from = 0; to = 0 } → is_among order wanted ≡ false → FirstIsLike schema lent wanted → AreTold schema seen wanted places
    none_told places e n first =
        subst (λ (r : List Tuple). AreTold schema r wanted places) s
        (subst (λ (p : Places). AreTold schema rows wanted p) (sym e)
        (record { others = no_place n (subst (λ (r : List Tuple). FirstIsLike schema r wanted) l first); within = record { ascend = omega arith; end = omega arith } }))
