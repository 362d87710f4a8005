-- Keys of the same groups.
use Rattle.std.proofs.Common.{◌≡◌, ℕ, ◌+◌, ◌<◌, List, [], ◌∷◌, ◌++◌, Bool, true, false, not, ◌&&◌, ◌||◌, length, map, take, get_or, Option, Some, None, refl, sym, ap, ◌∙◌, subst, inl, inr, ◌⊎◌}
use Rattle.std.specs.Prelude.{IfSome, slice_index_or}
use Rattle.std.proofs.lemmas.List.{map_push, take_more}
use Rattle.mq_values.specs.declared.value.Value.{Value}
use Rattle.mq_values.specs.declared.value.Value.TheVariants.{Null}
use Rattle.mq_ir.specs.declared.statement.Schema.{Schema}
use Rattle.mq_ir.specs.Changes.{row_key}
use Rattle.mq_ir.specs.Keys.{Tuple, is_among, is_same}
use Rattle.mq_tables.specs.Exchanging.{keys_put}
use Rattle.mq_tables.specs.Groups.{AreLike, group_of, groups_of}
use Rattle.mq_tables.specs.KeyOrder.{HoldsBoth, HoldsSame, Loses}
use Rattle.mq_tables.proofs.KeyOrderLemmas.{among_both, or_false, own_put}
use Rattle.mq_tables.proofs.LoseLemmas.{is_equal}

either_true : (a b : Bool) → (a || b) ≡ true → (a ≡ true) ⊎ (b ≡ true)
either_true true b h = inl refl
either_true false b h = inr h

-- ---- a key, place by place
pub groups_next : (row : Tuple) (columns : List ℕ) (values : List Value) (i : ℕ) (column : ℕ) (v : Value) → i < length columns → i < length values → column ≡ get_or columns i 0 → v ≡ get_or values i v
    → group_of (slice_index_or row column Null) ≡ group_of v
    → groups_of (map (λ c. slice_index_or row c Null) (take i columns)) ≡ groups_of (take i values)
    → groups_of (map (λ c. slice_index_or row c Null) (take (i + 1) columns)) ≡ groups_of (take (i + 1) values)
groups_next row columns values i column v h k e f g all =
    ap (λ l. groups_of (map at l)) (take_more columns i 0 h ∙ ap (λ c. take i columns ++ c ∷ []) (sym e))
    ∙ ap groups_of (map_push at (take i columns) column)
    ∙ map_push group_of (map at (take i columns)) (at column)
    ∙ ap (λ l. l ++ group_of (at column) ∷ []) all
    ∙ ap (λ n. groups_of (take i values) ++ n ∷ []) g
    ∙ sym (map_push group_of (take i values) v)
    ∙ sym (ap groups_of (take_more values i v k ∙ ap (λ x. take i values ++ x ∷ []) (sym f)))
  where
    at : ℕ → Value
    at c = slice_index_or row c Null

-- ---- keys of the groups of a sample
pub like_none : (sample : Tuple) (keys : List Tuple) → keys ≡ [] → AreLike sample keys
like_none sample keys e q h = absurd (let n : false ≡ true = ap (λ l. is_among l q) (sym e) ∙ h in cc)

pub like_same : (sample : Tuple) (keys after : List Tuple) → HoldsSame keys after → AreLike sample keys → AreLike sample after
like_same sample keys after s l q h = l q (sym (s q) ∙ h)

like_both : (sample : Tuple) (some others all : List Tuple) → HoldsBoth some others all → AreLike sample some → AreLike sample others → AreLike sample all
like_both sample some others all b l m q h = by (either_true (is_among some q) (is_among others q) (sym (b q) ∙ h))
  where
    by : (is_among some q ≡ true) ⊎ (is_among others q ≡ true) → groups_of q ≡ groups_of sample
    by (inl s) = l q s
    by (inr o) = m q o

like_more : (sample : Tuple) (keys : List Tuple) (key : Tuple) → groups_of key ≡ groups_of sample → AreLike sample keys → AreLike sample (keys ++ key ∷ [])
like_more sample keys key g l q m = by (either_true (is_among keys q) (is_among (key ∷ []) q) (sym (among_both keys (key ∷ []) q) ∙ m))
  where
    by : (is_among keys q ≡ true) ⊎ (is_among (key ∷ []) q ≡ true) → groups_of q ≡ groups_of sample
    by (inl s) = l q s
    by (inr o) = ap groups_of (is_equal q key (sym (or_false (is_same q key)) ∙ o)) ∙ g

pub like_next : (schema : Schema) (rows : List Tuple) (sample : Tuple) (i : ℕ) (row : Tuple) → i < length rows → row ≡ get_or rows i row → groups_of (row_key schema row) ≡ groups_of sample
    → AreLike sample (map (row_key schema) (take i rows)) → AreLike sample (map (row_key schema) (take (i + 1) rows))
like_next schema rows sample i row h e g l q m =
    by (either_true (is_among front q) (is_among (row_key schema row ∷ []) q) (sym (among_both front (row_key schema row ∷ []) q) ∙ ap (λ l. is_among l q) (sym parts) ∙ m))
  where
    front : List Tuple
    front = map (row_key schema) (take i rows)

    parts : map (row_key schema) (take (i + 1) rows) ≡ front ++ row_key schema row ∷ []
    parts = ap (map (row_key schema)) (take_more rows i row h ∙ ap (λ r. take i rows ++ r ∷ []) (sym e)) ∙ map_push (row_key schema) (take i rows) row

    by : (is_among front q ≡ true) ⊎ (is_among (row_key schema row ∷ []) q ≡ true) → groups_of q ≡ groups_of sample
    by (inl s) = l q s
    by (inr o) = ap groups_of (is_equal q (row_key schema row) (sym (or_false (is_same q (row_key schema row))) ∙ o)) ∙ g

pub put_like_next : (schema : Schema) (puts : List (ℕ × Tuple)) (sample : Tuple) (i : ℕ) (put : ℕ × Tuple) → i < length puts → put ≡ get_or puts i put → groups_of (row_key schema put.1) ≡ groups_of sample
    → AreLike sample (keys_put schema (take i puts)) → AreLike sample (keys_put schema (take (i + 1) puts))
put_like_next schema puts sample i put h e g l = subst (AreLike sample) (sym parts) (like_more sample (keys_put schema (take i puts)) (row_key schema put.1) g l)
  where
    parts : keys_put schema (take (i + 1) puts) ≡ keys_put schema (take i puts) ++ row_key schema put.1 ∷ []
    parts = ap (keys_put schema) (take_more puts i put h ∙ ap (λ p. take i puts ++ p ∷ []) (sym e)) ∙ map_push (λ (p : ℕ × Tuple). row_key schema p.1) (take i puts) put

-- ---- the sample that is kept beside keys
pub copied_like : (sample copy : Option Tuple) (keys after : List Tuple) → copy ≡ sample → HoldsSame keys after → IfSome sample (λ s. AreLike s keys) → IfSome copy (λ s. AreLike s after)
copied_like sample copy keys after e s l = subst (λ (o : Option Tuple). IfSome o (λ s. AreLike s after)) (sym e) (by sample l)
  where
    by : (o : Option Tuple) → IfSome o (λ s. AreLike s keys) → IfSome o (λ s. AreLike s after)
    by None m = tt
    by (Some x) m = like_same x keys after s m

pub grown_like : (old taken kept : Option Tuple) (own new after keys : List Tuple) → taken ≡ old → IfSome old (λ s. AreLike s own)
    → IfSome kept (λ s. (taken ≡ Some s) × AreLike s keys) → HoldsBoth new own after → ((q : Tuple) → is_among new q ≡ is_among keys q) → IfSome kept (λ s. AreLike s after)
grown_like old taken None own new after keys t l k b n = tt
grown_like old taken (Some x) own new after keys t l k b n =
    like_both x keys own after (own_put own new after keys b n) k.1 (subst (λ (o : Option Tuple). IfSome o (λ s. AreLike s own)) (sym t ∙ k.0) l)

pub lost_like : (sample : Option Tuple) (own gone after : List Tuple) (lost : Bool) → (lost ≡ true → Loses own gone after) → (lost ≡ false → after ≡ own)
    → IfSome sample (λ s. AreLike s own) → IfSome sample (λ s. AreLike s after)
lost_like None own gone after lost t f l = tt
lost_like (Some x) own gone after true t f l = λ q h. l q (stays (is_among own q) (is_among gone q) (sym (t refl q) ∙ h))
  where
    stays : (a b : Bool) → (a && not b) ≡ true → a ≡ true
    stays true b h = refl
    stays false b h = h
lost_like (Some x) own gone after false t f l = subst (AreLike x) (sym (f refl)) l
