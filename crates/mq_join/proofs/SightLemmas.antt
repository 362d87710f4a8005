-- Expressions that never fault: what they are worth depends on the rows that they see.
use Rattle.std.proofs.Common.{◌≡◌, ℕ, ◌+◌, ◌<◌, Bool, true, false, List, [], ◌∷◌, ◌++◌, map, length, take, get_or, Ok, Some, None, refl, sym, ap, ◌∙◌}
use Rattle.std.specs.Prelude.{slice_index_or}
use Rattle.std.proofs.lemmas.List.{map-append, take_more}
use Rattle.mq_values.specs.DimTests.{is_null}
use Rattle.mq_values.specs.Truth.{Truth, opposite, both, either, negated_if, comparison}
use Rattle.mq_values.specs.declared.operators.CmpOp.{CmpOp}
use Rattle.mq_values.specs.declared.operators.CmpOp.TheVariants.{Eq, Le, Ge}
use Rattle.mq_values.specs.declared.value.Value.{Value}
use Rattle.mq_values.specs.declared.value.Value.TheVariants.{Null}
use Rattle.mq_ir.specs.declared.expression.Expr.{Expr}
use Rattle.mq_ir.specs.declared.expression.Expr.TheVariants as expr
use Rattle.mq_ir.specs.declared.expression.Leaf.{Leaf}
use Rattle.mq_ir.specs.declared.expression.Leaf.TheVariants as leaf
use Rattle.mq_ir.specs.declared.expression.Worth.{Worth}
use Rattle.mq_ir.specs.declared.expression.Worth.TheVariants as worth
use Rattle.mq_ir.specs.BaseRows.{column_at, row_leaves}
use Rattle.mq_ir.specs.Conditions.{and_then, or_then, conjunction, disjunction, compared_to, between, member}
use Rattle.mq_ir.specs.ConditionLaws.{worth_or, worth_and, worth_not, worth_cmp, worth_between, worth_in, worth_is_null}
use Rattle.mq_ir.specs.Expression.{Outcome, Verdict, worth_of}
use Rattle.mq_ir.specs.ExpressionLaws.{worth_lit, worth_leaf}
use Rattle.mq_ir.specs.Keys.{Tuple}
use Rattle.mq_ir.specs.Results.{◌>>=◌}
use Rattle.mq_ir.specs.Worth.{Found, a_value, a_truth, as_value, as_truth, value_in, truth_in}
use Rattle.mq_join.specs.Deciding.{AllSeeBelow, SeesBelow, all_found, value_at}

-- AND and OR of what was found
and_found : (t : Truth) (r : Verdict) (u : Truth) → r ≡ Ok u → (s : Truth) × (and_then t r ≡ Ok s)
and_found (Some false) r u e = (Some false, refl)
and_found (Some true) r u e = (u, ap (λ (x : Verdict). x >>= (λ v. Ok (both (Some true) v))) e)
and_found None r u e = (both None u, ap (λ (x : Verdict). x >>= (λ v. Ok (both None v))) e)

or_found : (t : Truth) (r : Verdict) (u : Truth) → r ≡ Ok u → (s : Truth) × (or_then t r ≡ Ok s)
or_found (Some true) r u e = (Some true, refl)
or_found (Some false) r u e = (u, ap (λ (x : Verdict). x >>= (λ v. Ok (either (Some false) v))) e)
or_found None r u e = (either None u, ap (λ (x : Verdict). x >>= (λ v. Ok (either None v))) e)

pub conjunction_found : (ws : List Worth) → (t : Truth) × (conjunction (all_found ws) ≡ Ok t)
conjunction_found [] = (Some true, refl)
conjunction_found (w ∷ ws) = let p = conjunction_found ws in and_found (truth_in w) (conjunction (all_found ws)) p.0 p.1

disjunction_found : (ws : List Worth) → (t : Truth) × (disjunction (all_found ws) ≡ Ok t)
disjunction_found [] = (Some false, refl)
disjunction_found (w ∷ ws) = let p = disjunction_found ws in or_found (truth_in w) (disjunction (all_found ws)) p.0 p.1

member_found : (v : Value) (ws : List Worth) → (t : Truth) × (member v (all_found ws) ≡ Ok t)
member_found v [] = (Some false, refl)
member_found v (w ∷ ws) = let p = member_found v ws in or_found (comparison Eq v (value_in w)) (member v (all_found ws)) p.0 p.1

between_found : (v : Value) (a b : Worth) → (t : Truth) × (between v (Ok a) (Ok b) ≡ Ok t)
between_found v a b = and_found (comparison Ge v (value_in a)) (Ok (comparison Le v (value_in b))) (comparison Le v (value_in b)) refl

module _ (n : ℕ) where
  pub sees_literal : (v : Value) → SeesBelow n (expr.Lit v)
  sees_literal v = record { found = λ rows others agree. (worth.Value v, worth_lit (row_leaves rows) v, worth_lit (row_leaves others) v) }

  pub column_found : (rows : List Tuple) (item column : ℕ) → worth_of (row_leaves rows) (expr.Leaf (leaf.Column item column)) ≡ Ok (worth.Value (value_at rows item column))
  column_found rows item column = simp (row_leaves, column_at, worth_leaf, leaf.outs-Column, a_value, ◌>>=◌) refl

  pub sees_column : (item column : ℕ) → item < n → SeesBelow n (expr.Leaf (leaf.Column item column))
  sees_column item column h = record {
    found = λ rows others agree. (
      worth.Value (value_at rows item column),
      column_found rows item column,
      column_found others item column ∙ ap (λ (row : Tuple). Ok (worth.Value (slice_index_or row column Null))) (sym (agree item h)),
    );
  }

  not_found : (leaves : Leaf → Outcome) (x : Expr) (w : Worth) → worth_of leaves x ≡ Ok w → worth_of leaves (expr.Not x) ≡ Ok (worth.Truth (opposite (truth_in w)))
  not_found leaves x w e = worth_not leaves x ∙ ap (λ (r : Found). a_truth (as_truth r >>= (λ t. Ok (opposite t)))) e

  pub sees_not : (x : Expr) → SeesBelow n x → SeesBelow n (expr.Not x)
  sees_not x h = record {
    found = λ rows others agree.
        let p = h.found rows others agree in
        (worth.Truth (opposite (truth_in p.0)), not_found (row_leaves rows) x p.0 p.1, not_found (row_leaves others) x p.0 p.2);
  }

  null_found : (leaves : Leaf → Outcome) (x : Expr) (neg : Bool) (w : Worth) → worth_of leaves x ≡ Ok w
      → worth_of leaves (expr.IsNull x neg) ≡ Ok (worth.Truth (negated_if neg (Some (is_null (value_in w)))))
  null_found leaves x neg w e = worth_is_null leaves x neg ∙ ap (λ (r : Found). a_truth (as_value r >>= (λ v. Ok (negated_if neg (Some (is_null v)))))) e

  pub sees_null : (x : Expr) (neg : Bool) → SeesBelow n x → SeesBelow n (expr.IsNull x neg)
  sees_null x neg h = record {
    found = λ rows others agree.
        let p = h.found rows others agree in
        (worth.Truth (negated_if neg (Some (is_null (value_in p.0)))), null_found (row_leaves rows) x neg p.0 p.1, null_found (row_leaves others) x neg p.0 p.2);
  }

  pub cmp_found : (leaves : Leaf → Outcome) (a : Expr) (op : CmpOp) (b : Expr) (v w : Worth) → worth_of leaves a ≡ Ok v → worth_of leaves b ≡ Ok w
      → worth_of leaves (expr.Cmp a op b) ≡ Ok (worth.Truth (comparison op (value_in v) (value_in w)))
  cmp_found leaves a op b v w e f =
      worth_cmp leaves a op b
      ∙ ap (λ (r : Found). as_value r >>= (λ x. compared_to op x (worth_of leaves b))) e
      ∙ ap (λ (r : Found). compared_to op (value_in v) r) f

  pub sees_cmp : (a : Expr) (op : CmpOp) (b : Expr) → SeesBelow n a → SeesBelow n b → SeesBelow n (expr.Cmp a op b)
  sees_cmp a op b h k = record {
    found = λ rows others agree.
        let p = h.found rows others agree in
        let q = k.found rows others agree in
        (worth.Truth (comparison op (value_in p.0) (value_in q.0)), cmp_found (row_leaves rows) a op b p.0 q.0 p.1 q.1, cmp_found (row_leaves others) a op b p.0 q.0 p.2 q.2);
  }

  range_found : (leaves : Leaf → Outcome) (x : Expr) (neg : Bool) (low high : Expr) (v a b : Worth) (t : Truth) → worth_of leaves x ≡ Ok v → worth_of leaves low ≡ Ok a → worth_of leaves high ≡ Ok b
      → between (value_in v) (Ok a) (Ok b) ≡ Ok t → worth_of leaves (expr.Between x neg low high) ≡ Ok (worth.Truth (negated_if neg t))
  range_found leaves x neg low high v a b t e f g h =
      worth_between leaves x neg low high
      ∙ ap (λ (r : Found). a_truth (as_value r >>= (λ v. between v (worth_of leaves low) (worth_of leaves high)) >>= (λ t. Ok (negated_if neg t)))) e
      ∙ (λ i. a_truth (between (value_in v) (f i) (g i) >>= (λ t. Ok (negated_if neg t))))
      ∙ ap (λ (r : Verdict). a_truth (r >>= (λ t. Ok (negated_if neg t)))) h

  pub sees_between : (x : Expr) (neg : Bool) (low high : Expr) → SeesBelow n x → SeesBelow n low → SeesBelow n high → SeesBelow n (expr.Between x neg low high)
  sees_between x neg low high h k l = record {
    found = λ rows others agree.
        let p = h.found rows others agree in
        let q = k.found rows others agree in
        let r = l.found rows others agree in
        let t = between_found (value_in p.0) q.0 r.0 in
        (worth.Truth (negated_if neg t.0), range_found (row_leaves rows) x neg low high p.0 q.0 r.0 t.0 p.1 q.1 r.1 t.1, range_found (row_leaves others) x neg low high p.0 q.0 r.0 t.0 p.2 q.2 r.2 t.1);
  }

  list_found : (leaves : Leaf → Outcome) (x : Expr) (neg : Bool) (es : List Expr) (v : Worth) (ws : List Worth) (t : Truth) → worth_of leaves x ≡ Ok v → map (worth_of leaves) es ≡ all_found ws
      → member (value_in v) (all_found ws) ≡ Ok t → worth_of leaves (expr.InList x neg es) ≡ Ok (worth.Truth (negated_if neg t))
  list_found leaves x neg es v ws t e f h =
      worth_in leaves x neg es
      ∙ ap (λ (r : Found). a_truth (as_value r >>= (λ v. member v (map (worth_of leaves) es)) >>= (λ t. Ok (negated_if neg t)))) e
      ∙ ap (λ (found : List Found). a_truth (member (value_in v) found >>= (λ t. Ok (negated_if neg t)))) f
      ∙ ap (λ (r : Verdict). a_truth (r >>= (λ t. Ok (negated_if neg t)))) h

  pub sees_in : (x : Expr) (neg : Bool) (es : List Expr) → SeesBelow n x → AllSeeBelow n es → SeesBelow n (expr.InList x neg es)
  sees_in x neg es h k = record {
    found = λ rows others agree.
        let p = h.found rows others agree in
        let q = k.found rows others agree in
        let t = member_found (value_in p.0) q.0 in
        (worth.Truth (negated_if neg t.0), list_found (row_leaves rows) x neg es p.0 q.0 t.0 p.1 q.1 t.1, list_found (row_leaves others) x neg es p.0 q.0 t.0 p.2 q.2 t.1);
  }

  all_found_and : (leaves : Leaf → Outcome) (es : List Expr) (ws : List Worth) (t : Truth) → map (worth_of leaves) es ≡ all_found ws → conjunction (all_found ws) ≡ Ok t → worth_of leaves (expr.And es) ≡ Ok (worth.Truth t)
  all_found_and leaves es ws t e h = worth_and leaves es ∙ ap (λ (found : List Found). a_truth (conjunction found)) e ∙ ap a_truth h

  pub sees_and : (es : List Expr) → AllSeeBelow n es → SeesBelow n (expr.And es)
  sees_and es h = record {
    found = λ rows others agree.
        let p = h.found rows others agree in
        let t = conjunction_found p.0 in
        (worth.Truth t.0, all_found_and (row_leaves rows) es p.0 t.0 p.1 t.1, all_found_and (row_leaves others) es p.0 t.0 p.2 t.1);
  }

  all_found_or : (leaves : Leaf → Outcome) (es : List Expr) (ws : List Worth) (t : Truth) → map (worth_of leaves) es ≡ all_found ws → disjunction (all_found ws) ≡ Ok t → worth_of leaves (expr.Or es) ≡ Ok (worth.Truth t)
  all_found_or leaves es ws t e h = worth_or leaves es ∙ ap (λ (found : List Found). a_truth (disjunction found)) e ∙ ap a_truth h

  pub sees_or : (es : List Expr) → AllSeeBelow n es → SeesBelow n (expr.Or es)
  sees_or es h = record {
    found = λ rows others agree.
        let p = h.found rows others agree in
        let t = disjunction_found p.0 in
        (worth.Truth t.0, all_found_or (row_leaves rows) es p.0 t.0 p.1 t.1, all_found_or (row_leaves others) es p.0 t.0 p.2 t.1);
  }

  one_more : (leaves : Leaf → Outcome) (es : List Expr) (e : Expr) (ws : List Worth) (w : Worth) → map (worth_of leaves) es ≡ all_found ws → worth_of leaves e ≡ Ok w
      → map (worth_of leaves) (es ++ e ∷ []) ≡ all_found (ws ++ w ∷ [])
  one_more leaves es e ws w h k =
      map-append (worth_of leaves) es (e ∷ [])
      ∙ (λ i. h i ++ k i ∷ [])
      ∙ sym (map-append (λ (x : Worth). (λ (r : Found). r) (Ok x)) ws (w ∷ []))

  pub sees_more : (es : List Expr) (i : ℕ) (e : Expr) → i < length es → e ≡ get_or es i e → AllSeeBelow n (take i es) → SeesBelow n e → AllSeeBelow n (take (i + 1) es)
  sees_more es i e h at all one = record {
    found = λ rows others agree.
        let p = all.found rows others agree in
        let q = one.found rows others agree in
        let more : take (i + 1) es ≡ take i es ++ e ∷ [] = take_more es i e h ∙ (λ j. take i es ++ sym at j ∷ []) in (
          p.0 ++ q.0 ∷ [],
          ap (map (worth_of (row_leaves rows))) more ∙ one_more (row_leaves rows) (take i es) e p.0 q.0 p.1 q.1,
          ap (map (worth_of (row_leaves others))) more ∙ one_more (row_leaves others) (take i es) e p.0 q.0 p.2 q.2,
        );
  }

-- all cases together
pub ruleset sight = (sees_literal, sees_column, sees_not, sees_null, sees_cmp, sees_between, sees_in, sees_and, sees_or)
