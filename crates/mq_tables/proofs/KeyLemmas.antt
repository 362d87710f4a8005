-- The first key that repeats an earlier one, found with an ordered set of the keys so far.
use Rattle.std.proofs.Common.{◌≡◌, ℕ, ◌+◌, ◌<◌, List, [], ◌∷◌, Bool, true, false, not, ◌||◌, length, map, drop, get_or, Ordering, Less, Equal, Greater, Option, Some, None, refl, sym, ap, ◌∙◌}
use Rattle.std.specs.Prelude.{if◌then◌else◌}
use Rattle.std.specs.Ordering.{match_ordering}
use Rattle.std.specs.BTreeSet.{insert_key}
use Rattle.std.specs.Option.{option_map}
use Rattle.mq_values.specs.Order.{cmp_key}
use Rattle.mq_values.specs.OrderTells.{same_key}
use Rattle.mq_values.specs.declared.faults.Refused.TheVariants as refused
use Rattle.mq_ir.specs.declared.statement.Schema.{Schema}
use Rattle.mq_ir.specs.Changes.{first_repeated, key_fault, row_key}
use Rattle.mq_ir.specs.Keys.{Tuple, is_among, is_same}
use Rattle.mq_tables.proofs.Walks.{next_item}

once : (a b : Bool) → (a || b) ≡ (a || (a || b))
once true b = refl
once false b = refl

pub swapped : (a b c : Bool) → (a || (b || c)) ≡ (b || (a || c))
swapped true true c = refl
swapped true false c = refl
swapped false true c = refl
swapped false false c = refl

-- what stands in an ordered set once a key is put into it
pub among_inserted : (q k : Tuple) (keys : List Tuple) → is_among (insert_key cmp_key keys k) q ≡ (is_same q k || is_among keys q)
among_inserted q k [] = refl
among_inserted q k (x ∷ xs) = by (cmp_key k x) refl (among_inserted q k xs)
  where
    by : (r : Ordering) → cmp_key k x ≡ r → is_among (insert_key cmp_key xs k) q ≡ (is_same q k || is_among xs q)
        → is_among (match_ordering r (k ∷ x ∷ xs) (x ∷ xs) (x ∷ insert_key cmp_key xs k)) q ≡ (is_same q k || (is_same q x || is_among xs q))
    by Less e h = refl
    by Equal e h = once (is_same q x) (is_among xs q) ∙ ap (λ y. is_same q y || (is_same q x || is_among xs q)) (sym (same_key k x e))
    by Greater e h = ap (λ b. is_same q x || b) h ∙ swapped (is_same q x) (is_same q k) (is_among xs q)

-- only what stands among the earlier keys matters, not how often or where
pub repeated_alike : (a b : List Tuple) → ((q : Tuple) → is_among a q ≡ is_among b q) → (keys : List Tuple) → first_repeated a keys ≡ first_repeated b keys
repeated_alike a b h [] = refl
repeated_alike a b h (k ∷ keys) =
    ap (λ t. if t then Some k else first_repeated (k ∷ a) keys) (h k)
    ∙ ap (λ r. if is_among b k then Some k else r) (repeated_alike (k ∷ a) (k ∷ b) (λ q. ap (λ t. is_same q k || t) (h q)) keys)

-- where there is a key at all
pub where_keyed : {A : Type 0} (columns : List ℕ) (x : Option A) → (columns ≡ [] → ⊥) → elim columns [ [] ↦ None | _ ∷ _ ↦ x ] ≡ x
where_keyed [] x h = absurd (h refl)
where_keyed (c ∷ cs) x h = refl

-- the keys of rows from a place on
pub next_key : (schema : Schema) (rows keys : List Tuple) (i : ℕ) (row key : Tuple) → i < length rows → row ≡ get_or rows i row → key ≡ row_key schema row
    → first_repeated keys (map (row_key schema) (drop i rows)) ≡ first_repeated keys (key ∷ map (row_key schema) (drop (i + 1) rows))
next_key schema rows keys i row key h e k =
    ap (λ l. first_repeated keys (map (row_key schema) l)) (next_item rows i row h e)
    ∙ ap (λ q. first_repeated keys (q ∷ map (row_key schema) (drop (i + 1) rows))) (sym k)

pub was_new : (b c : Bool) → b ≡ not c → b ≡ true → c ≡ false
was_new false c e f = absurd (cc)
was_new true false e f = refl
was_new true true e f = absurd (cc)

-- the fault of the keys, where there is a key
pub keyed_fault : (schema : Schema) (rows : List Tuple) → (schema.key ≡ [] → ⊥) → key_fault schema rows ≡ option_map refused.DuplicateKey (first_repeated [] (map (row_key schema) rows))
keyed_fault schema rows h = where_keyed schema.key (option_map refused.DuplicateKey (first_repeated [] (map (row_key schema) rows))) h
