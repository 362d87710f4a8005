-- The rows that a change makes are rows of its table.
use Rattle.std.proofs.Common.{◌≡◌, ℕ, zero, suc, ◌+◌, ◌==◌, ℤ, List, [], ◌∷◌, Bool, true, false, not, ◌&&◌, ◌||◌, Option, Some, length, Result, Ok, Err, refl, sym, ap, ◌∙◌, subst, arith}
use Rattle.std.specs.Prelude.{if◌then◌else◌, slice_get, slice_set, ◌^◌, ◌-◌, pos, nat_eq, nat_le}
use Rattle.std.specs.List.{enumerate_from, filter, list_all, zip}
use Rattle.std.specs.Option.{option_map_or}
use Rattle.std.proofs.lemmas.Bool.{eq-eqb, eqb-true}
use Rattle.std.proofs.lemmas.Bool.Decides.{nat_tests}
use Rattle.std.proofs.lemmas.List.{length-set}
use Rattle.mq_values.specs.Aggregate.{is_value}
use Rattle.mq_values.specs.Answers.{result_map}
use Rattle.mq_values.specs.Arithmetic.{rescaled, rounded}
use Rattle.mq_values.specs.Calendar.{text_of_day}
use Rattle.mq_values.specs.Convert.{cast_of, number_at}
use Rattle.mq_values.specs.Number.{Number, is_mantissa, mant_at, text_of_number}
use Rattle.mq_values.specs.declared.faults.Refused.{Refused}
use Rattle.mq_values.specs.declared.faults.Refused.TheVariants as refused
use Rattle.mq_values.specs.declared.faults.ValueFault.TheVariants.{Overflow}
use Rattle.mq_values.specs.declared.limits.TheConstants.{MAX_SCALE}
use Rattle.mq_values.specs.declared.value.Kind.{Kind}
use Rattle.mq_values.specs.declared.value.Kind.TheVariants as kind
use Rattle.mq_values.specs.declared.value.Value.{Value}
use Rattle.mq_values.specs.declared.value.Value.TheVariants as value
use Rattle.mq_ir.specs.declared.expression.Expr.{Expr}
use Rattle.mq_ir.specs.declared.expression.Leaf.{Leaf}
use Rattle.mq_ir.specs.declared.statement.Column.{Column}
use Rattle.mq_ir.specs.declared.statement.Schema.{Schema}
use Rattle.mq_ir.specs.Changes.{Visited, column_value, deleted_row, inserted_row, is_chosen, set_values, updated_row, with_values}
use Rattle.mq_ir.specs.Expression.{Outcome, ev}
use Rattle.mq_ir.specs.Fits.{row_scope}
use Rattle.mq_ir.specs.FitsExpression.{expression_fits}
use Rattle.mq_ir.specs.FitsStatement.{inserts_fit, is_row_of, may_hold, value_fits}
use Rattle.mq_ir.specs.Items.{row_leaves}
use Rattle.mq_ir.specs.Keys.{Tuple}
use Rattle.mq_ir.specs.Results.{◌>>=◌, each, marked}
use Rattle.mq_tables.specs.Columns.{asked_for_null, column_found, set_value}
use Rattle.mq_tables.proofs.SetLemmas.{set_of}

pub and_left : (a b : Bool) → (a && b) ≡ true → a ≡ true
and_left true b h = refl
and_left false b h = h

pub and_right : (a b : Bool) → (a && b) ≡ true → b ≡ true
and_right true b h = h
and_right false b h = absurd (cc)

pub both_true : (a b : Bool) → a ≡ true → b ≡ true → (a && b) ≡ true
both_true a b h k = ap (λ c. c && b) h ∙ k

-- ---- a value is of the kind that it was brought to
at_scale : (n : Number) (s : ℕ) (w : Value) (P : Value → Type 0) → number_at n s ≡ Ok w →
    ((m : ℤ) → is_mantissa m ≡ true → P (value.Num (record { mant = m; scale = s }))) → P value.Null → P w
at_scale n s w P h num null = by (nat_le s MAX_SCALE) h
  where
    m : ℤ
    m = if nat_le n.scale s then mant_at s n else rounded n.mant (pos (10 ^ (n.scale - s)))

    ranged : (c : Bool) → is_mantissa m ≡ c → result_map value.Num (if c then Ok (record { mant = m; scale = s }) else Err Overflow) ≡ Ok w → P w
    ranged true k g = let f : value.Num (record { mant = m; scale = s }) ≡ w = cc in subst P f (num m k)
    ranged false k g = cc

    by : (b : Bool) → (if b then result_map value.Num (rescaled n s) else Ok value.Null) ≡ Ok w → P w
    by false e = let f : value.Null ≡ w = cc in subst P f null
    by true e = ranged (is_mantissa m) refl e

same_nat : (s : ℕ) → nat_eq s s ≡ true
same_nat s = grind (arith, nat_tests)

cast_fits : (u : Value) (k : Kind) (v : Value) → cast_of u k ≡ Ok v → may_hold k v ≡ true
cast_fits (value.Num n) kind.Int v h = at_scale n 0 v (λ v. may_hold kind.Int v ≡ true) h (λ m e. both_true (is_mantissa m) (nat_eq 0 0) e (same_nat 0)) refl
cast_fits (value.Num n) (kind.Decimal s) v h = at_scale n s v (λ v. may_hold (kind.Decimal s) v ≡ true) h (λ m e. both_true (is_mantissa m) (nat_eq s s) e (same_nat s)) refl
cast_fits (value.Num n) kind.Text v h = let e : value.Text (text_of_number n) ≡ v = cc in subst (λ v. may_hold kind.Text v ≡ true) e refl
cast_fits (value.Num n) kind.Date v h = let e : value.Null ≡ v = cc in subst (λ v. may_hold kind.Date v ≡ true) e refl
cast_fits (value.Text t) kind.Int v h = let e : value.Null ≡ v = cc in subst (λ v. may_hold kind.Int v ≡ true) e refl
cast_fits (value.Text t) (kind.Decimal s) v h = let e : value.Null ≡ v = cc in subst (λ v. may_hold (kind.Decimal s) v ≡ true) e refl
cast_fits (value.Text t) kind.Text v h = let e : value.Text t ≡ v = cc in subst (λ v. may_hold kind.Text v ≡ true) e refl
cast_fits (value.Text t) kind.Date v h = let e : value.Null ≡ v = cc in subst (λ v. may_hold kind.Date v ≡ true) e refl
cast_fits (value.Date day) kind.Int v h = let e : value.Null ≡ v = cc in subst (λ v. may_hold kind.Int v ≡ true) e refl
cast_fits (value.Date day) (kind.Decimal s) v h = let e : value.Null ≡ v = cc in subst (λ v. may_hold (kind.Decimal s) v ≡ true) e refl
cast_fits (value.Date day) kind.Text v h = let e : value.Text (text_of_day day) ≡ v = cc in subst (λ v. may_hold kind.Text v ≡ true) e refl
cast_fits (value.Date day) kind.Date v h = let e : value.Date day ≡ v = cc in subst (λ v. may_hold kind.Date v ≡ true) e refl
cast_fits value.Null kind.Int v h = let e : value.Null ≡ v = cc in subst (λ v. may_hold kind.Int v ≡ true) e refl
cast_fits value.Null (kind.Decimal s) v h = let e : value.Null ≡ v = cc in subst (λ v. may_hold (kind.Decimal s) v ≡ true) e refl
cast_fits value.Null kind.Text v h = let e : value.Null ≡ v = cc in subst (λ v. may_hold kind.Text v ≡ true) e refl
cast_fits value.Null kind.Date v h = let e : value.Null ≡ v = cc in subst (λ v. may_hold kind.Date v ≡ true) e refl

passed : (n b : Bool) (r : Refused) (v w : Value) → (if n && not b then Err r else Ok v) ≡ Ok w → (v ≡ w) × ((b || not n) ≡ true)
passed true true r v w h = (cc, refl)
passed true false r v w h = absurd (cc)
passed false true r v w h = (cc, refl)
passed false false r v w h = (cc, refl)

asked_fits : (col : Column) (v w : Value) → may_hold col.kind v ≡ true → asked_for_null col v ≡ Ok w → value_fits (col, w) ≡ true
asked_fits col v w k h =
    let p = passed col.not_null (is_value v) (refused.NotNull col.name) v w h in
    subst (λ x. value_fits (col, x) ≡ true) p.0 (both_true (may_hold col.kind v) (is_value v || not col.not_null) k p.1)

pub column_fits : (leaves : Leaf → Outcome) (number : ℕ) (col : Column) (e : Expr) (w : Value) → column_found leaves number col e ≡ Ok w → value_fits (col, w) ≡ true
column_fits leaves number col e w h = by (ev leaves e) h
  where
    cast : (u : Value) (r : Outcome) → cast_of u col.kind ≡ r → (marked (refused.ChangeValue number) r >>= asked_for_null col) ≡ Ok w → value_fits (col, w) ≡ true
    cast u (Ok v) k g = asked_fits col v w (cast_fits u col.kind v k) g
    cast u (Err f) k g = absurd (cc)

    by : (r : Outcome) → (marked (refused.ChangeValue number) (r >>= (λ v. cast_of v col.kind)) >>= asked_for_null col) ≡ Ok w → value_fits (col, w) ≡ true
    by (Ok u) g = cast u (cast_of u col.kind) refl g
    by (Err f) g = absurd (cc)

-- ---- what steps give, item by item
pub each_cons : {A B E : Type 0} (f : A → Result B E) (x : A) (xs : List A) (vs : List B) (P : List B → Type 0) → each f (x ∷ xs) ≡ Ok vs →
    ((y : B) (ys : List B) → f x ≡ Ok y → each f xs ≡ Ok ys → P (y ∷ ys)) → P vs
each_cons {A} {B} {E} f x xs vs P h k = by (f x) refl (each f xs) refl h
  where
    by : (r : Result B E) → f x ≡ r → (s : Result (List B) E) → each f xs ≡ s → (r >>= (λ y. s >>= (λ ys. Ok (y ∷ ys)))) ≡ Ok vs → P vs
    by (Ok y) e (Ok ys) g h = let q : y ∷ ys ≡ vs = cc in subst P q (k y ys e g)
    by (Ok y) e (Err d) g h = absurd (cc)
    by (Err d) e s g h = absurd (cc)

pub each_nil : {A B E : Type 0} (f : A → Result B E) (vs : List B) (P : List B → Type 0) → each f [] ≡ Ok vs → P [] → P vs
each_nil f vs P h p = let q : [] ≡ vs = cc in subst P q p

pub each_length : {A B E : Type 0} (f : A → Result B E) (xs : List A) (vs : List B) → each f xs ≡ Ok vs → length vs ≡ length xs
each_length f [] vs h = each_nil f vs (λ vs. length vs ≡ 0) h refl
each_length f (x ∷ xs) vs h = each_cons f x xs vs (λ vs. length vs ≡ length (x ∷ xs)) h (λ y ys e g. ap suc (each_length f xs ys g))

-- numbered rows that pass one test become rows that pass another
pub all_pass : {A B E : Type 0} (f : ℕ × A → Result B E) (Q : A → Bool) (P : B → Bool) → ((n : ℕ) (x : A) (y : B) → Q x ≡ true → f (n, x) ≡ Ok y → P y ≡ true) →
    (n : ℕ) (xs : List A) (ys : List B) → list_all Q xs ≡ true → each f (enumerate_from n xs) ≡ Ok ys → list_all P ys ≡ true
all_pass f Q P step n [] ys q h = each_nil f ys (λ ys. list_all P ys ≡ true) h refl
all_pass f Q P step n (x ∷ xs) ys q h =
    each_cons f (n, x) (enumerate_from (n + 1) xs) ys (λ ys. list_all P ys ≡ true) h (λ y rest e g.
    both_true (P y) (list_all P rest) (step n x y (and_left (Q x) (list_all Q xs) q) e)
    (all_pass f Q P step (n + 1) xs rest (and_right (Q x) (list_all Q xs) q) g))

pub all_filtered : {A : Type 0} (P p : A → Bool) (xs : List A) → list_all P xs ≡ true → list_all P (filter p xs) ≡ true
all_filtered P p [] h = refl
all_filtered {A} P p (x ∷ xs) h = by (p x) (all_filtered P p xs (and_right (P x) (list_all P xs) h))
  where
    by : (b : Bool) → list_all P (filter p xs) ≡ true → list_all P (if b then x ∷ filter p xs else filter p xs) ≡ true
    by true k = both_true (P x) (list_all P (filter p xs)) (and_left (P x) (list_all P xs) h) k
    by false k = k

-- ---- the rows of INSERT
columns_all : (f : Column × Expr → Result Value Refused) → ((col : Column) (e : Expr) (v : Value) → f (col, e) ≡ Ok v → value_fits (col, v) ≡ true) →
    (cols : List Column) (es : List Expr) (vs : Tuple) → each f (zip cols es) ≡ Ok vs → list_all value_fits (zip cols vs) ≡ true
columns_all f step [] es vs h = refl
columns_all f step (col ∷ cols) [] vs h = each_nil f vs (λ vs. list_all value_fits (zip (col ∷ cols) vs) ≡ true) h refl
columns_all f step (col ∷ cols) (e ∷ es) vs h =
    each_cons f (col, e) (zip cols es) vs (λ vs. list_all value_fits (zip (col ∷ cols) vs) ≡ true) h (λ v rest k g.
    both_true (value_fits (col, v)) (list_all value_fits (zip cols rest)) (step col e v k) (columns_all f step cols es rest g))

zip_length : {A B : Type 0} (xs : List A) (ys : List B) → length ys ≡ length xs → length (zip xs ys) ≡ length xs
zip_length [] ys h = refl
zip_length (x ∷ xs) [] h = h
zip_length (x ∷ xs) (y ∷ ys) h = ap suc (zip_length xs ys (let k : length ys ≡ length xs = omega (arith, h) in k))

row_fits : (schema : Schema) (row : Tuple) → length row ≡ length schema.cols → list_all value_fits (zip schema.cols row) ≡ true → is_row_of schema row ≡ true
row_fits schema row h k = both_true (length row == length schema.cols) (list_all value_fits (zip schema.cols row)) (eq-eqb (length row) (length schema.cols) h) k

row_length : (schema : Schema) (row : Tuple) → is_row_of schema row ≡ true → length row ≡ length schema.cols
row_length schema row h = eqb-true (length row) (length schema.cols) (and_left (length row == length schema.cols) (list_all value_fits (zip schema.cols row)) h)

row_values : (schema : Schema) (row : Tuple) → is_row_of schema row ≡ true → list_all value_fits (zip schema.cols row) ≡ true
row_values schema row h = and_right (length row == length schema.cols) (list_all value_fits (zip schema.cols row)) h

pub inserted_fits : (schema : Schema) (number : ℕ) (es : List Expr) (row : Tuple) → inserts_fit schema es ≡ true → inserted_row schema (number, es) ≡ Ok row → is_row_of schema row ≡ true
inserted_fits schema number es row q h =
    let f : Column × Expr → Result Value Refused = λ (col, e). column_value [] number col e in
    let same : length es ≡ length schema.cols = eqb-true (length es) (length schema.cols) (and_left (length es == length schema.cols) (list_all (expression_fits (row_scope [])) es) q) in
    row_fits schema row (each_length f (zip schema.cols es) row h ∙ zip_length schema.cols es same)
    (columns_all f (λ col e v k. column_fits (row_leaves []) number col e v k) schema.cols es row h)

-- ---- the rows of UPDATE and DELETE
set_fits : (cols : List Column) (row : Tuple) (c : ℕ) (v : Value) → list_all value_fits (zip cols row) ≡ true →
    ((col : Column) → slice_get cols c ≡ Some col → value_fits (col, v) ≡ true) → list_all value_fits (zip cols (slice_set row c v)) ≡ true
set_fits [] row c v h k = refl
set_fits (col ∷ cols) [] c v h k = h
set_fits (col ∷ cols) (x ∷ row) zero v h k =
    both_true (value_fits (col, v)) (list_all value_fits (zip cols row)) (k col refl) (and_right (value_fits (col, x)) (list_all value_fits (zip cols row)) h)
set_fits (col ∷ cols) (x ∷ row) (suc c) v h k =
    both_true (value_fits (col, x)) (list_all value_fits (zip cols (slice_set row c v))) (and_left (value_fits (col, x)) (list_all value_fits (zip cols row)) h)
    (set_fits cols row c v (and_right (value_fits (col, x)) (list_all value_fits (zip cols row)) h) (λ d e. k d e))

set_row_fits : (schema : Schema) (row : Tuple) (c : ℕ) (v : Value) → is_row_of schema row ≡ true →
    ((col : Column) → slice_get schema.cols c ≡ Some col → value_fits (col, v) ≡ true) → is_row_of schema (slice_set row c v) ≡ true
set_row_fits schema row c v h k =
    row_fits schema (slice_set row c v) (length-set row c v ∙ row_length schema row h) (set_fits schema.cols row c v (row_values schema row h) k)

set_value_fits : (schema : Schema) (number : ℕ) (row : Tuple) (c : ℕ) (e : Expr) (v : Value) → set_value schema number row c e ≡ Ok v →
    (col : Column) → slice_get schema.cols c ≡ Some col → value_fits (col, v) ≡ true
set_value_fits schema number row c e v h col k =
    column_fits (row_leaves (row ∷ [])) number col e v (sym (ap (λ o. option_map_or (λ col. column_value (row ∷ []) number col e) o (Ok value.Null)) k) ∙ h)

pair_is : {E : Type 0} (c : ℕ) (r : Result Value E) (y : ℕ × Value) → (r >>= (λ v. Ok (c, v))) ≡ Ok y → (v : Value) × (r ≡ Ok v) × ((c, v) ≡ y)
pair_is c (Ok v) y h = (v, refl, cc)
pair_is c (Err e) y h = absurd (cc)

sets_fit : (schema : Schema) (number : ℕ) (row : Tuple) (sets : List (ℕ × Expr)) (values : List (ℕ × Value)) (start : Tuple) → is_row_of schema start ≡ true →
    each (set_of schema number row) sets ≡ Ok values → is_row_of schema (with_values start values) ≡ true
sets_fit schema number row [] values start s h = each_nil (set_of schema number row) values (λ vs. is_row_of schema (with_values start vs) ≡ true) h s
sets_fit schema number row (set ∷ sets) values start s h =
    each_cons (set_of schema number row) set sets values (λ vs. is_row_of schema (with_values start vs) ≡ true) h (λ y rest k g.
    let p = pair_is set.0 (set_value schema number row set.0 set.1) y k in
    subst (λ (z : ℕ × Value). is_row_of schema (with_values (slice_set start z.0 z.1) rest) ≡ true) p.2
    (sets_fit schema number row sets rest (slice_set start set.0 p.0)
    (set_row_fits schema start set.0 p.0 s (λ col e. set_value_fits schema number row set.0 set.1 p.0 p.1 col e)) g))

pub updated_fits : (schema : Schema) (sets : List (ℕ × Expr)) (filter : Option Expr) (number : ℕ) (row : Tuple) (v : Visited) → is_row_of schema row ≡ true →
    updated_row schema sets filter (number, row) ≡ Ok v → is_row_of schema v.0 ≡ true
updated_fits schema sets filter number row v s h = by (is_chosen filter (number, row)) h
  where
    chosen : (r : Result (List (ℕ × Value)) Refused) → set_values schema sets (number, row) ≡ r → (r >>= (λ values. Ok (with_values row values, true))) ≡ Ok v → is_row_of schema v.0 ≡ true
    chosen (Ok values) e g =
        let q : (with_values row values, true) ≡ v = cc in
        subst (λ (w : Visited). is_row_of schema w.0 ≡ true) q (sets_fit schema number row sets values row s e)
    chosen (Err d) e g = absurd (cc)

    by : (r : Result Bool Refused) → (r >>= (λ chosen. elim chosen [ true ↦ set_values schema sets (number, row) >>= (λ values. Ok (with_values row values, true)) | false ↦ Ok (row, false) ])) ≡ Ok v → is_row_of schema v.0 ≡ true
    by (Ok true) g = chosen (set_values schema sets (number, row)) refl g
    by (Ok false) g = let q : (row, false) ≡ v = cc in subst (λ (w : Visited). is_row_of schema w.0 ≡ true) q s
    by (Err d) g = absurd (cc)

pub deleted_is : (filter : Option Expr) (number : ℕ) (row : Tuple) (v : Visited) → deleted_row filter (number, row) ≡ Ok v → v.0 ≡ row
deleted_is filter number row v h = by (is_chosen filter (number, row)) h
  where
    by : (r : Result Bool Refused) → (r >>= (λ chosen. Ok (row, chosen))) ≡ Ok v → v.0 ≡ row
    by (Ok chosen) g = let q : (row, chosen) ≡ v = cc in ap (λ (w : Visited). w.0) (sym q)
    by (Err d) g = absurd (cc)
