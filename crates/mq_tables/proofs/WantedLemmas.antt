-- Conditions that begin with comparisons of columns with values.
use Rattle.std.proofs.Common.{◌≡◌, ◌≢◌, ℕ, ◌+◌, ◌<◌, List, [], ◌∷◌, map, drop, length, get_or, ◌++◌, subst, true, false, Option, Some, None, Ok, refl, sym, ap, ◌∙◌, is_eq, take, Ordering, Less, Equal, Greater, arith}
use Rattle.std.specs.Prelude.{IfSome, slice_index_or}
use Rattle.std.specs.Ordering.{nat_cmp, ordering_then}
use Rattle.std.specs.Cmp.{nat_cmp_total, tied_itself}
use Rattle.std.proofs.lemmas.List.{take_more}
use Rattle.mq_values.specs.Number.{Number, cmp_worth}
use Rattle.mq_values.specs.Order.{cmp_key, cmp_text, cmp_value}
use Rattle.mq_values.specs.OrderTells.{same_day, same_number, same_text, value_itself}
use Rattle.mq_values.specs.Truth.{Truth, comparison}
use Rattle.mq_values.specs.declared.operators.CmpOp.{CmpOp}
use Rattle.mq_values.specs.declared.operators.CmpOp.TheVariants.{Eq}
use Rattle.mq_values.specs.declared.value.Value.{Value}
use Rattle.mq_values.specs.declared.value.Value.TheVariants as value
use Rattle.mq_ir.specs.declared.expression.Expr.{Expr}
use Rattle.mq_ir.specs.declared.expression.Expr.TheVariants as expr
use Rattle.mq_ir.specs.declared.expression.Leaf.{Leaf}
use Rattle.mq_ir.specs.declared.expression.Leaf.TheVariants as leaf
use Rattle.mq_ir.specs.declared.expression.Worth.TheVariants as worth
use Rattle.mq_ir.specs.declared.statement.Schema.{Schema}
use Rattle.mq_ir.specs.BaseRows.{column_at, row_leaves}
use Rattle.mq_ir.specs.Changes.{is_chosen}
use Rattle.mq_ir.specs.ConditionLaws.{worth_and, worth_cmp}
use Rattle.mq_ir.specs.Conditions.{and_then, compared_to, conjunction}
use Rattle.mq_ir.specs.Expression.{worth_of}
use Rattle.mq_ir.specs.ExpressionLaws.{worth_leaf, worth_lit}
use Rattle.mq_ir.specs.Keys.{Tuple, is_same}
use Rattle.mq_ir.specs.Results.{◌>>=◌}
use Rattle.mq_ir.specs.Worth.{Found, Outcome, a_truth, a_value, as_truth, as_value}
use Rattle.mq_tables.specs.Groups.{group_of, groups_of}
use Rattle.mq_tables.specs.Wanted.{AreWanted, HasValue, IsWanted, NeverFaults, Refutes, StandsBeside, Wants}
use Rattle.mq_tables.proofs.Walks.{next_item}

-- ---- values of one group that differ
untied : (r : Ordering) → (r ≡ Equal → is_eq r ≡ false) → is_eq r ≡ false
untied Less f = refl
untied Equal f = f refl
untied Greater f = refl

numbers_apart : (a b : Number) → a.scale ≡ b.scale → a ≢ b → is_eq (cmp_worth a b) ≡ false
numbers_apart a b s n = untied (cmp_worth a b) (λ e. absurd (n (same_number a b
    (ap (λ r. ordering_then r (nat_cmp a.scale b.scale)) e ∙ ap (nat_cmp a.scale) (sym s) ∙ tied_itself nat_cmp_total a.scale))))

texts_apart : (a b : List ℕ) → a ≢ b → is_eq (cmp_text a b) ≡ false
texts_apart a b n = untied (cmp_text a b) (λ e. absurd (n (same_text a b e)))

days_apart : (a b : ℕ) → a ≢ b → is_eq (nat_cmp a b) ≡ false
days_apart a b n = untied (nat_cmp a b) (λ e. absurd (n (same_day a b e)))

-- values of one group are equal only where they are the same
apart : (v w : Value) → group_of v ≡ group_of w → v ≢ w → comparison Eq v w ≡ Some false
apart (value.Num a) (value.Num b) g n = ap Some (numbers_apart a b (omega (arith, g)) (λ e. n (ap value.Num e)))
apart (value.Num a) (value.Text b) g n = absurd (omega (arith, g))
apart (value.Num a) (value.Date b) g n = absurd (omega (arith, g))
apart (value.Num a) value.Null g n = absurd (omega (arith, g))
apart (value.Text a) (value.Num b) g n = absurd (omega (arith, g))
apart (value.Text a) (value.Text b) g n = ap Some (texts_apart a b (λ e. n (ap value.Text e)))
apart (value.Text a) (value.Date b) g n = absurd (omega (arith, g))
apart (value.Text a) value.Null g n = absurd (omega (arith, g))
apart (value.Date a) (value.Num b) g n = absurd (omega (arith, g))
apart (value.Date a) (value.Text b) g n = absurd (omega (arith, g))
apart (value.Date a) (value.Date b) g n = ap Some (days_apart a b (λ e. n (ap value.Date e)))
apart (value.Date a) value.Null g n = absurd (omega (arith, g))
apart value.Null (value.Num b) g n = absurd (omega (arith, g))
apart value.Null (value.Text b) g n = absurd (omega (arith, g))
apart value.Null (value.Date b) g n = absurd (omega (arith, g))
apart value.Null value.Null g n = absurd (n refl)

-- ---- what is found in a row
module _ (row : Tuple) where
  abbrev leaves : Leaf → Outcome
  leaves = row_leaves (row ∷ [])

  abbrev founds : List Expr → List Found
  founds es = map (worth_of leaves) es

  column_found : (column : ℕ) → worth_of leaves (expr.Leaf (leaf.Column 0 column)) ≡ Ok (worth.Value (slice_index_or row column value.Null))
  column_found column = simp (row_leaves, column_at, worth_leaf, leaf.outs-Column, a_value, ◌>>=◌) refl

  compared_found : (a b : Expr) (op : CmpOp) (v w : Value) → worth_of leaves a ≡ Ok (worth.Value v) → worth_of leaves b ≡ Ok (worth.Value w)
      → worth_of leaves (expr.Cmp a op b) ≡ Ok (worth.Truth (comparison op v w))
  compared_found a b op v w f g =
      worth_cmp leaves a op b
      ∙ ap (λ (r : Found). as_value r >>= (λ v. compared_to op v (worth_of leaves b))) f
      ∙ ap (compared_to op v) g

  named_found : (a : Expr) (column : ℕ) → a ≡ expr.Leaf (leaf.Column 0 column) → worth_of leaves a ≡ Ok (worth.Value (slice_index_or row column value.Null))
  named_found a column e = ap (worth_of leaves) e ∙ column_found column

  given_found : (a : Expr) (v : Value) → a ≡ expr.Lit v → worth_of leaves a ≡ Ok (worth.Value v)
  given_found a v e = ap (worth_of leaves) e ∙ worth_lit leaves v

pub column_has_value : (e : Expr) (column : ℕ) → e ≡ expr.Leaf (leaf.Column 0 column) → HasValue e
column_has_value e column h row = (slice_index_or row column value.Null, named_found row e column h)

pub literal_has_value : (e : Expr) (v : Value) → e ≡ expr.Lit v → HasValue e
literal_has_value e v h row = (v, given_found row e v h)

pub comparison_never_faults : (e a b : Expr) (op : CmpOp) → e ≡ expr.Cmp a op b → HasValue a → HasValue b → NeverFaults e
comparison_never_faults e a b op h f g row =
    (comparison op (f row).0 (g row).0, ap (worth_of (row_leaves (row ∷ []))) h ∙ compared_found row a b op (f row).0 (g row).0 (f row).1 (g row).1)

module _ (e a b : Expr) (column : ℕ) (wanted : Value) (h : e ≡ expr.Cmp a Eq b) where
  pub beside : StandsBeside a b column wanted → Refutes column e wanted
  beside s row d =
      let v = slice_index_or row column value.Null in
      ap (worth_of (row_leaves (row ∷ []))) h
      ∙ compared_found row a b Eq v wanted (named_found row a column s.is_column) (given_found row b wanted s.is_value)
      ∙ ap (λ (t : Truth). Ok (worth.Truth t)) (apart v wanted d.alike d.other)

  pub beside_turned : StandsBeside b a column wanted → Refutes column e wanted
  beside_turned s row d =
      let v = slice_index_or row column value.Null in
      ap (worth_of (row_leaves (row ∷ []))) h
      ∙ compared_found row a b Eq wanted v (given_found row a wanted s.is_value) (named_found row b column s.is_column)
      ∙ ap (λ (t : Truth). Ok (worth.Truth t)) (apart wanted v (sym d.alike) (λ q. d.other (sym q)))

-- ---- conjunctions: the first i members do not fault, so that a false member behind them is what counts
pub record GoesOn (es : List Expr) (i : ℕ) : Type 0 where
  pub from : (row : Tuple) → conjunction (founds row (drop i es)) ≡ Ok (Some false) → conjunction (founds row es) ≡ Ok (Some false)

stays_false : (t : Truth) → and_then t (Ok (Some false)) ≡ Ok (Some false)
stays_false None = refl
stays_false (Some true) = refl
stays_false (Some false) = refl

module _ (es : List Expr) (i : ℕ) (e : Expr) (h : i < length es) (is : e ≡ get_or es i e) (g : GoesOn es i) where
  comes_to : (row : Tuple) (t : Truth) → worth_of (row_leaves (row ∷ [])) e ≡ Ok (worth.Truth t)
      → conjunction (founds row (drop i es)) ≡ and_then t (conjunction (founds row (drop (i + 1) es)))
  comes_to row t f =
      ap (λ l. conjunction (founds row l)) (next_item es i e h is)
      ∙ ap (λ (r : Found). as_truth r >>= (λ t. and_then t (conjunction (founds row (drop (i + 1) es))))) f

  pub goes_on_behind : NeverFaults e → GoesOn es (i + 1)
  goes_on_behind n = record {
    from = λ row f. g.from row (comes_to row (n row).0 (n row).1 ∙ ap (and_then (n row).0) f ∙ stays_false (n row).0);
  }

  pub one_refutes : (column : ℕ) (wanted : Value) → Refutes column e wanted → Refutes column (expr.And es) wanted
  one_refutes column wanted r row d =
      worth_and (row_leaves (row ∷ [])) es
      ∙ ap a_truth (g.from row (comes_to row (Some false) (r row d)))

-- ---- conditions
pub if_some : {A : Type 0} (P Q : A → Type 0) (o : Option A) → ((x : A) → P x → Q x) → IfSome o P → IfSome o Q
if_some P Q None f h = tt
if_some P Q (Some x) f h = f x h

-- ---- the values that are wanted, column by column
pub wanted_push : (filter : Option Expr) (columns : List ℕ) (values : List Value) (column : ℕ) (v : Value)
    → AreWanted filter columns values → IsWanted filter column v → AreWanted filter (columns ++ column ∷ []) (values ++ v ∷ [])
wanted_push filter [] [] column v all w = (w, tt)
wanted_push filter [] (x ∷ values) column v all w = absurd all
wanted_push filter (c ∷ columns) [] column v all w = absurd all
wanted_push filter (c ∷ columns) (x ∷ values) column v all w = (all.0, wanted_push filter columns values column v all.1 w)

pub wanted_next : (filter : Option Expr) (columns : List ℕ) (i : ℕ) (column : ℕ) (values after : List Value) (v copy : Value)
    → i < length columns → column ≡ get_or columns i 0 → copy ≡ v → after ≡ values ++ copy ∷ [] → IsWanted filter column v
    → AreWanted filter (take i columns) values → AreWanted filter (take (i + 1) columns) after
wanted_next filter columns i column values after v copy h e c a w all =
    subst (λ (l : List Value). AreWanted filter (take (i + 1) columns) l) (sym a)
    (subst (λ (l : List ℕ). AreWanted filter l (values ++ copy ∷ [])) (ap (λ k. take i columns ++ k ∷ []) e ∙ sym (take_more columns i 0 h))
    (wanted_push filter (take i columns) values column copy all (subst (λ (x : Value). IsWanted filter column x) (sym c) w)))

-- a key of the same groups that is another one has another value somewhere
module _ (filter : Option Expr) (number : ℕ) (row : Tuple) where
  differs : (columns : List ℕ) (values : List Value) → AreWanted filter columns values
      → groups_of (map (λ c. slice_index_or row c value.Null) columns) ≡ groups_of values → is_same (map (λ c. slice_index_or row c value.Null) columns) values ≡ false
      → is_chosen filter (number, row) ≡ Ok false
  differs [] [] all g n = absurd (cc)
  differs [] (v ∷ values) all g n = absurd all
  differs (c ∷ columns) [] all g n = absurd all
  differs (c ∷ columns) (v ∷ values) all g n = by (cmp_value x v) refl (differs columns values all.1 others) n
    where
      x : Value
      x = slice_index_or row c value.Null

      rest : Tuple
      rest = map (λ c. slice_index_or row c value.Null) columns

      first : group_of x ≡ group_of v
      first = cc

      others : groups_of rest ≡ groups_of values
      others = cc

      unlike : (r : Ordering) → cmp_value x v ≡ r → r ≢ Equal → is_chosen filter (number, row) ≡ Ok false
      unlike r e u = all.0 number row (record { alike = first; other = λ q. u (sym e ∙ ap (λ y. cmp_value y v) q ∙ value_itself v) })

      by : (r : Ordering) → cmp_value x v ≡ r → (is_same rest values ≡ false → is_chosen filter (number, row) ≡ Ok false)
          → is_eq (ordering_then r (cmp_key rest values)) ≡ false → is_chosen filter (number, row) ≡ Ok false
      by Less e f m = unlike Less e (λ q. absurd (cc))
      by Equal e f m = f m
      by Greater e f m = unlike Greater e (λ q. absurd (cc))

pub wants_key : (filter : Option Expr) (schema : Schema) (key : Tuple) → AreWanted filter schema.key key → Wants filter schema key
wants_key filter schema key all number row o = differs filter number row schema.key key all o.alike o.other
