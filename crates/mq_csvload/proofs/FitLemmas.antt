-- The rows that records hold are rows of the table.
use Rattle.std.proofs.Common.{◌≡◌, ℕ, suc, ◌+◌, ◌==◌, ℤ, List, [], ◌∷◌, Bool, true, false, not, ◌&&◌, ◌||◌, Option, Some, None, length, Result, Ok, Err, refl, ap, ◌∙◌, subst, arith, IsTrue}
use Rattle.std.specs.Prelude.{if◌then◌else◌, IfOk, ◌^◌, ◌-◌, pos, nat_eq, nat_le}
use Rattle.std.specs.List.{enumerate_from, list_all, zip}
use Rattle.std.specs.Option.{ok_or, option_and_then, option_map}
use Rattle.std.specs.Result.{result_ok}
use Rattle.std.specs.Str.{is_utf8}
use Rattle.std.proofs.lemmas.Bool.{eq-eqb, eqb-true}
use Rattle.std.proofs.lemmas.Bool.Decides.{nat_tests}
use Rattle.mq_values.specs.Aggregate.{is_value}
use Rattle.mq_values.specs.Answers.{result_map}
use Rattle.mq_values.specs.Arithmetic.{rescaled, rounded}
use Rattle.mq_values.specs.Convert.{number_at}
use Rattle.mq_values.specs.Number.{Number, is_mantissa, mant_at}
use Rattle.mq_values.specs.Text.{is_text}
use Rattle.mq_values.specs.declared.faults.Refused.{Refused}
use Rattle.mq_values.specs.declared.faults.Refused.TheVariants.{LoadHeader, LoadRow}
use Rattle.mq_values.specs.declared.faults.ValueFault.{ValueFault}
use Rattle.mq_values.specs.declared.faults.ValueFault.TheVariants.{Overflow}
use Rattle.mq_values.specs.declared.limits.TheConstants.{MAX_SCALE}
use Rattle.mq_values.specs.declared.value.Kind.{Kind}
use Rattle.mq_values.specs.declared.value.Kind.TheVariants as kind
use Rattle.mq_values.specs.declared.value.Value.{Value}
use Rattle.mq_values.specs.declared.value.Value.TheVariants as value
use Rattle.mq_ir.specs.declared.statement.Column.{Column}
use Rattle.mq_ir.specs.declared.statement.Schema.{Schema}
use Rattle.mq_ir.specs.FitsStatement.{is_row_of, may_hold, value_fits}
use Rattle.mq_ir.specs.Partitions.{Tuple}
use Rattle.mq_ir.specs.Results.{◌>>=◌, each}
use Rattle.mq_csvload.specs.Fields.{Field, column_value, day_of_text, field_value, signed_number, spelled_value, unless_refused}
use Rattle.mq_csvload.specs.Loading.{Fields, is_header, loaded, records_of, row_of, rows_in, value_of}

and_right : (a b : Bool) → (a && b) ≡ true → b ≡ true
and_right true b h = h
and_right false b h = absurd (cc)

both_true : (a b : Bool) → a ≡ true → b ≡ true → (a && b) ≡ true
both_true a b h k = ap (λ c. c && b) h ∙ k

some_is : {A : Type 0} (a b : A) → Some a ≡ Some b → a ≡ b
some_is a b e = cc

-- ---- a number is of the kind that it was brought to
at_scale : (n : Number) (s : ℕ) (w : Value) (P : Value → Type 0) → number_at n s ≡ Ok w
    → ((m : ℤ) → is_mantissa m ≡ true → P (value.Num (record { mant = m; scale = s }))) → P value.Null → P w
at_scale n s w P h num null = by (nat_le s MAX_SCALE) h
  where
    m : ℤ
    m = if nat_le n.scale s then mant_at s n else rounded n.mant (pos (10 ^ (n.scale - s)))

    ranged : (c : Bool) → is_mantissa m ≡ c → result_map value.Num (if c then Ok (record { mant = m; scale = s }) else Err Overflow) ≡ Ok w → P w
    ranged true k g = let f : value.Num (record { mant = m; scale = s }) ≡ w = cc in subst P f (num m k)
    ranged false k g = cc

    by : (b : Bool) → (if b then result_map value.Num (rescaled n s) else Ok value.Null) ≡ Ok w → P w
    by false e = let f : value.Null ≡ w = cc in subst P f null
    by true e = ranged (is_mantissa m) refl e

same_nat : (s : ℕ) → nat_eq s s ≡ true
same_nat s = grind (arith, nat_tests)

number_at_fits : (n : Number) (s : ℕ) (P : Value → Type 0) → ((m : ℤ) → is_mantissa m ≡ true → P (value.Num (record { mant = m; scale = s }))) → P value.Null
    → (v : Value) → result_ok (number_at n s) ≡ Some v → P v
number_at_fits n s P num null v h = by (number_at n s) refl h
  where
    by : (r : Result Value ValueFault) → number_at n s ≡ r → result_ok r ≡ Some v → P v
    by (Ok w) e g = subst P (some_is w v g) (at_scale n s w P e num null)
    by (Err fault) e g = absurd (cc)

spelled_number_fits : (o : Option Number) (s : ℕ) (P : Value → Type 0) → ((m : ℤ) → is_mantissa m ≡ true → P (value.Num (record { mant = m; scale = s }))) → P value.Null
    → (v : Value) → option_and_then (λ n. result_ok (number_at n s)) o ≡ Some v → P v
spelled_number_fits None s P num null v h = absurd (cc)
spelled_number_fits (Some n) s P num null v h = number_at_fits n s P num null v h

-- ---- a value of a field is of the column's kind
spelled_fits : (k : Kind) (z : Field) (v : Value) → spelled_value k z ≡ Some v → may_hold k v ≡ true
spelled_fits kind.Int z v h =
    spelled_number_fits (signed_number z) 0 (λ v. may_hold kind.Int v ≡ true) (λ m e. both_true (is_mantissa m) (nat_eq 0 0) e (same_nat 0)) refl v h
spelled_fits (kind.Decimal s) z v h =
    spelled_number_fits (signed_number z) s (λ v. may_hold (kind.Decimal s) v ≡ true) (λ m e. both_true (is_mantissa m) (nat_eq s s) e (same_nat s)) refl v h
spelled_fits kind.Text z v h = by (is_utf8 z && is_text z) h
  where
    by : (b : Bool) → (if b then Some (value.Text z) else None) ≡ Some v → may_hold kind.Text v ≡ true
    by true e = subst (λ v. may_hold kind.Text v ≡ true) (some_is (value.Text z) v e) refl
    by false e = absurd (cc)
spelled_fits kind.Date z v h = by (day_of_text z) h
  where
    by : (o : Option ℕ) → option_map value.Date o ≡ Some v → may_hold kind.Date v ≡ true
    by (Some day) e = subst (λ v. may_hold kind.Date v ≡ true) (some_is (value.Date day) v e) refl
    by None e = absurd (cc)

null_fits : (k : Kind) → may_hold k value.Null ≡ true
null_fits kind.Int = refl
null_fits (kind.Decimal s) = refl
null_fits kind.Text = refl
null_fits kind.Date = refl

field_fits : (k : Kind) (z : Field) (v : Value) → field_value k z ≡ Some v → may_hold k v ≡ true
field_fits k [] v h = subst (λ v. may_hold k v ≡ true) (some_is value.Null v h) (null_fits k)
field_fits k (b ∷ z) v h = spelled_fits k (b ∷ z) v h

passed : (n b : Bool) (v w : Value) → (if n && not b then None else Some v) ≡ Some w → (v ≡ w) × ((b || not n) ≡ true)
passed true true v w h = (some_is v w h, refl)
passed true false v w h = absurd (cc)
passed false true v w h = (some_is v w h, refl)
passed false false v w h = (some_is v w h, refl)

column_fits : (col : Column) (z : Field) (w : Value) → column_value col z ≡ Some w → value_fits (col, w) ≡ true
column_fits col z w h = by (field_value col.kind z) refl h
  where
    by : (o : Option Value) → field_value col.kind z ≡ o → option_and_then (unless_refused col) o ≡ Some w → value_fits (col, w) ≡ true
    by None e g = absurd (cc)
    by (Some v) e g =
        let p = passed col.not_null (is_value v) v w g in
        subst (λ x. value_fits (col, x) ≡ true) p.0 (both_true (may_hold col.kind v) (is_value v || not col.not_null) (field_fits col.kind z v e) p.1)

value_fits_of : (number : ℕ) (col : Column) (z : Field) (w : Value) → value_of number (col, z) ≡ Ok w → value_fits (col, w) ≡ true
value_fits_of number col z w h = by (column_value col z) refl h
  where
    by : (o : Option Value) → column_value col z ≡ o → ok_or o (LoadRow number) ≡ Ok w → value_fits (col, w) ≡ true
    by None e g = absurd (cc)
    by (Some v) e g = column_fits col z w (e ∙ ap Some (let q : v ≡ w = cc in q))

-- ---- what steps give, item by item
each_cons : {A B E : Type 0} (f : A → Result B E) (x : A) (xs : List A) (vs : List B) (P : List B → Type 0) → each f (x ∷ xs) ≡ Ok vs
    → ((y : B) (ys : List B) → f x ≡ Ok y → each f xs ≡ Ok ys → P (y ∷ ys)) → P vs
each_cons {A} {B} {E} f x xs vs P h k = by (f x) refl (each f xs) refl h
  where
    by : (r : Result B E) → f x ≡ r → (s : Result (List B) E) → each f xs ≡ s → (r >>= (λ y. s >>= (λ ys. Ok (y ∷ ys)))) ≡ Ok vs → P vs
    by (Ok y) e (Ok ys) g h = let q : y ∷ ys ≡ vs = cc in subst P q (k y ys e g)
    by (Ok y) e (Err d) g h = absurd (cc)
    by (Err d) e s g h = absurd (cc)

each_nil : {A B E : Type 0} (f : A → Result B E) (vs : List B) (P : List B → Type 0) → each f [] ≡ Ok vs → P [] → P vs
each_nil f vs P h p = let q : [] ≡ vs = cc in subst P q p

-- a record has a value for each of as many columns
values_fit : (number : ℕ) (cols : List Column) (fields : Fields) (row : Tuple) → length fields ≡ length cols → each (value_of number) (zip cols fields) ≡ Ok row
    → (length row ≡ length cols) × (list_all value_fits (zip cols row) ≡ true)
values_fit number [] fields row s h = each_nil (value_of number) row (λ row. (length row ≡ 0) × (list_all value_fits (zip [] row) ≡ true)) h (refl, refl)
values_fit number (col ∷ cols) [] row s h = absurd (omega arith)
values_fit number (col ∷ cols) (z ∷ fields) row s h =
    each_cons (value_of number) (col, z) (zip cols fields) row (λ row. (length row ≡ length (col ∷ cols)) × (list_all value_fits (zip (col ∷ cols) row) ≡ true)) h (λ v rest e g.
    let more = values_fit number cols fields rest (let t : length fields ≡ length cols = omega arith in t) g in
    (ap suc more.0, both_true (value_fits (col, v)) (list_all value_fits (zip cols rest)) (value_fits_of number col z v e) more.1))

row_fits : (schema : Schema) (number : ℕ) (fields : Fields) (row : Tuple) → row_of schema.cols (number, fields) ≡ Ok row → is_row_of schema row ≡ true
row_fits schema number fields row h = by (length fields == length schema.cols) refl h
  where
    by : (b : Bool) → (length fields == length schema.cols) ≡ b → (if b then each (value_of number) (zip schema.cols fields) else Err (LoadRow number)) ≡ Ok row → is_row_of schema row ≡ true
    by true e g =
        let p = values_fit number schema.cols fields row (eqb-true (length fields) (length schema.cols) e) g in
        both_true (length row == length schema.cols) (list_all value_fits (zip schema.cols row)) (eq-eqb (length row) (length schema.cols) p.0) p.1
    by false e g = absurd (cc)

rows_fit : (schema : Schema) (number : ℕ) (records : List Fields) (rows : List Tuple) → each (row_of schema.cols) (enumerate_from number records) ≡ Ok rows
    → list_all (is_row_of schema) rows ≡ true
rows_fit schema number [] rows h = each_nil (row_of schema.cols) rows (λ rows. list_all (is_row_of schema) rows ≡ true) h refl
rows_fit schema number (fields ∷ records) rows h =
    each_cons (row_of schema.cols) (number, fields) (enumerate_from (number + 1) records) rows (λ rows. list_all (is_row_of schema) rows ≡ true) h (λ row rest e g.
    both_true (is_row_of schema row) (list_all (is_row_of schema) rest) (row_fits schema number fields row e) (rows_fit schema (number + 1) records rest g))

loaded_fits : (schema : Schema) (records : List Fields) (rows : List Tuple) → loaded schema.cols records ≡ Ok rows → list_all (is_row_of schema) rows ≡ true
loaded_fits schema [] rows h = absurd (cc)
loaded_fits schema (header ∷ records) rows h = by (is_header schema.cols header) h
  where
    by : (b : Bool) → (if b then each (row_of schema.cols) (enumerate_from 1 records) else Err LoadHeader) ≡ Ok rows → list_all (is_row_of schema) rows ≡ true
    by true e = rows_fit schema 1 records rows e
    by false e = absurd (cc)

pub all_rows_fit : (bytes : List ℕ) (schema : Schema) → IfOk (rows_in bytes schema) (λ rows. IsTrue (list_all (is_row_of schema) rows))
all_rows_fit bytes schema = by (rows_in bytes schema) refl
  where
    by : (r : Result (List Tuple) Refused) → rows_in bytes schema ≡ r → IfOk r (λ rows. IsTrue (list_all (is_row_of schema) rows))
    by (Ok rows) e = loaded_fits schema (records_of bytes) rows e
    by (Err refused) e = tt
