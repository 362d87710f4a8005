-- Parts of the conditions that tell that a tuple is not kept.
use Rattle.std.proofs.Common.{◌≡◌, ℕ, ◌+◌, ◌<◌, Bool, true, false, IsTrue, IfOk, List, [], ◌∷◌, ◌++◌, length, drop, get_or, Result, Ok, Err, Option, Some, None, refl, sym, ap, subst, ◌∙◌}
use Rattle.std.specs.Prelude.{if◌then◌else◌}
use Rattle.std.specs.List.{All}
use Rattle.std.specs.Option.{IfSome}
use Rattle.std.proofs.lemmas.List.Elements.{All-push}
use Rattle.mq_values.specs.Truth.{Truth, is_true, both, comparison}
use Rattle.mq_values.specs.declared.faults.ValueFault.{ValueFault}
use Rattle.mq_values.specs.declared.operators.CmpOp.TheVariants.{Eq}
use Rattle.mq_values.specs.declared.value.Value.{Value}
use Rattle.mq_values.specs.declared.value.Value.TheVariants as value
use Rattle.mq_ir.specs.declared.expression.Expr.{Expr}
use Rattle.mq_ir.specs.declared.expression.Expr.TheVariants as expr
use Rattle.mq_ir.specs.declared.expression.Leaf.TheVariants as leaf
use Rattle.mq_ir.specs.declared.expression.Worth.TheVariants as worth
use Rattle.mq_ir.specs.declared.query.ColRef.{ColRef}
use Rattle.mq_ir.specs.BaseRows.{all_true, row_leaves}
use Rattle.mq_ir.specs.Conditions.{and_then, conjunction}
use Rattle.mq_ir.specs.ConditionLaws.{worth_and}
use Rattle.mq_ir.specs.Expression.{Verdict, holds}
use Rattle.mq_ir.specs.Keys.{Tuple}
use Rattle.mq_ir.specs.Results.{◌>>=◌}
use Rattle.mq_ir.specs.Worth.{a_truth, as_truth, truth_in}
use Rattle.mq_join.specs.Deciding.{AddsDeciders, AllSeeBelow, Counts, Decides, Equates, IsDecider, LooksUp, Reached, ReachedInAnd, SeesBelow, Serves, and_of, columns_equal, equality, value_at}
use Rattle.mq_join.specs.JoinKeys.{same_keys_equiv}
use Rattle.mq_join.specs.declared.deciders.Decider.{Decider}
use Rattle.mq_join.specs.declared.lookups.Lookup.{Lookup}
use Rattle.mq_join.proofs.SightLemmas.{cmp_found, column_found, conjunction_found}
use Rattle.mq_join.proofs.WalkLemmas.{next_item}

abbrev NotTrue : Truth → Type 0
NotTrue t = is_true t ≡ false

-- ---- the conditions one after another

abbrev goes_on : Result Bool ValueFault → Truth → Result Bool ValueFault
goes_on rest t = if is_true t then rest else Ok false

falls_at : (rest : Result Bool ValueFault) (b : Bool) → b ≡ false → (if b then rest else Ok false) ≡ Ok false
falls_at rest b e = ap (λ (x : Bool). if x then rest else Ok false) e

falls_behind : (rest : Result Bool ValueFault) (b : Bool) → rest ≡ Ok false → (if b then rest else Ok false) ≡ Ok false
falls_behind rest true e = e
falls_behind rest false e = refl

pub counts_here : (conditions rest : List Expr) (c : Expr) → Reached conditions (c ∷ rest) → Counts conditions c
counts_here conditions rest c h = record {
  falls = λ rows t e f. h.falls rows (ap (λ (r : Verdict). r >>= goes_on (all_true (row_leaves rows) rest)) e ∙ falls_at (all_true (row_leaves rows) rest) (is_true t) f);
}

pub reached_first : (conditions : List Expr) → Reached conditions conditions
reached_first conditions = record { falls = λ rows e. e }

pub reached_next : (n : ℕ) (conditions rest : List Expr) (c : Expr) → SeesBelow n c → Reached conditions (c ∷ rest) → Reached conditions rest
reached_next n conditions rest c sees h = record {
  falls = λ rows e.
      let p = sees.found rows rows (λ i k. refl) in
      h.falls rows (ap (λ (r : Verdict). r >>= goes_on (all_true (row_leaves rows) rest)) (ap as_truth p.1) ∙ falls_behind (all_true (row_leaves rows) rest) (is_true (truth_in p.0)) e);
}

-- ---- the members of an AND one after another

no_right : (t : Truth) (rest : Verdict) → rest ≡ Ok (Some false) → and_then t rest ≡ Ok (Some false)
no_right (Some false) rest e = refl
no_right (Some true) rest e = ap (λ (r : Verdict). r >>= (λ u. Ok (both (Some true) u))) e
no_right None rest e = ap (λ (r : Verdict). r >>= (λ u. Ok (both None u))) e

not_true_right : (t : Truth) (rest : Verdict) → IfOk rest NotTrue → IfOk (and_then t rest) NotTrue
not_true_right (Some false) rest h = refl
not_true_right (Some true) (Ok u) h = h
not_true_right (Some true) (Err fault) h = tt
not_true_right None (Ok (Some true)) h = refl
not_true_right None (Ok (Some false)) h = refl
not_true_right None (Ok None) h = refl
not_true_right None (Err fault) h = tt

unknown_left : (rest : Verdict) → IfOk (and_then None rest) NotTrue
unknown_left (Ok (Some true)) = refl
unknown_left (Ok (Some false)) = refl
unknown_left (Ok None) = refl
unknown_left (Err fault) = tt

pub reached_in_first : (es : List Expr) → ReachedInAnd es es
reached_in_first es = record { no = λ rows h. h; unknown = λ rows h. h }

first_of_and : (rows : List Tuple) (e : Expr) (rest : List Expr) (t : Truth) → holds (row_leaves rows) e ≡ Ok t → and_of rows (e ∷ rest) ≡ and_then t (and_of rows rest)
first_of_and rows e rest t h = ap (λ (r : Verdict). r >>= (λ t. and_then t (and_of rows rest))) h

pub reached_in_next : (n : ℕ) (es rest : List Expr) (e : Expr) → SeesBelow n e → ReachedInAnd es (e ∷ rest) → ReachedInAnd es rest
reached_in_next n es rest e sees h = record {
  no = λ rows k.
      let p = sees.found rows rows (λ i l. refl) in
      h.no rows (first_of_and rows e rest (truth_in p.0) (ap as_truth p.1) ∙ no_right (truth_in p.0) (and_of rows rest) k);
  unknown = λ rows k.
      let p = sees.found rows rows (λ i l. refl) in
      h.unknown rows (subst (λ (v : Verdict). IfOk v NotTrue) (sym (first_of_and rows e rest (truth_in p.0) (ap as_truth p.1))) (not_true_right (truth_in p.0) (and_of rows rest) k));
}

truth_back : (r : Verdict) → as_truth (a_truth r) ≡ r
truth_back (Ok t) = refl
truth_back (Err fault) = refl

and_is : (rows : List Tuple) (es : List Expr) → holds (row_leaves rows) (expr.And es) ≡ and_of rows es
and_is rows es = ap as_truth (worth_and (row_leaves rows) es) ∙ truth_back (and_of rows es)

pub member_decides : (n : ℕ) (conditions es rest : List Expr) (e : Expr) (safe : Bool) → Counts conditions (expr.And es) → ReachedInAnd es (e ∷ rest) → (IsTrue safe → AllSeeBelow n es)
    → Decides conditions e safe
member_decides n conditions es rest e safe counts reached sees = record {
  no = λ rows h. counts.falls rows (Some false) (and_is rows es ∙ reached.no rows (first_of_and rows e rest (Some false) h)) refl;
  unknown = λ s rows h.
      let all = (sees s).found rows rows (λ i l. refl) in
      let t = conjunction_found all.0 in
      let whole : and_of rows es ≡ Ok t.0 = ap conjunction all.1 ∙ t.1 in
      counts.falls rows t.0 (and_is rows es ∙ whole)
      (subst (λ (v : Verdict). IfOk v NotTrue) whole
      (reached.unknown rows (subst (λ (v : Verdict). IfOk v NotTrue) (sym (first_of_and rows e rest None h)) (unknown_left (and_of rows rest)))));
}

pub whole_decides : (conditions : List Expr) (e : Expr) (safe : Bool) → Counts conditions e → Decides conditions e safe
whole_decides conditions e safe counts = record {
  no = λ rows h. counts.falls rows (Some false) h refl;
  unknown = λ s rows h. counts.falls rows None h refl;
}

-- ---- one decider more

pub decider_is : (conditions : List Expr) (d : Decider) (e : Expr) (safe : Bool) → d.e.now ≡ e → d.safe ≡ safe → IfSome d.below (λ n. SeesBelow n e) → Decides conditions e safe → IsDecider conditions d
decider_is conditions d e safe p q sees h = record {
  decides = subst (λ (b : Bool). Decides conditions d.e.now b) (sym q) (subst (λ (x : Expr). Decides conditions x safe) (sym p) h);
  sees = subst (λ (x : Expr). IfSome d.below (λ n. SeesBelow n x)) (sym p) sees;
}

pub one_decider_more : (conditions : List Expr) (old new : List Decider) (d : Decider) → new ≡ old ++ d ∷ [] → All (IsDecider conditions) old → IsDecider conditions d → All (IsDecider conditions) new
one_decider_more conditions old new d e all one = subst (λ (ds : List Decider). All (IsDecider conditions) ds) (sym e) (All-push (IsDecider conditions) old d all one)

-- ---- equalities of columns

turned : (a b : Value) → comparison Eq a b ≡ comparison Eq b a
turned (value.Num a) (value.Num b) = ap Some (same_keys_equiv.symm (value.Num a) (value.Num b))
turned (value.Num a) (value.Text b) = refl
turned (value.Num a) (value.Date b) = refl
turned (value.Num a) value.Null = refl
turned (value.Text a) (value.Num b) = refl
turned (value.Text a) (value.Text b) = ap Some (same_keys_equiv.symm (value.Text a) (value.Text b))
turned (value.Text a) (value.Date b) = refl
turned (value.Text a) value.Null = refl
turned (value.Date a) (value.Num b) = refl
turned (value.Date a) (value.Text b) = refl
turned (value.Date a) (value.Date b) = ap Some (same_keys_equiv.symm (value.Date a) (value.Date b))
turned (value.Date a) value.Null = refl
turned value.Null (value.Num b) = refl
turned value.Null (value.Text b) = refl
turned value.Null (value.Date b) = refl
turned value.Null value.Null = refl

equality_found : (rows : List Tuple) (a b : ColRef) → holds (row_leaves rows) (equality a b) ≡ Ok (columns_equal rows a.item a.column b.item b.column)
equality_found rows a b =
    ap as_truth
    (cmp_found 0 (row_leaves rows) (expr.Leaf (leaf.Column a.item a.column)) Eq (expr.Leaf (leaf.Column b.item b.column)) (worth.Value (value_at rows a.item a.column)) (worth.Value (value_at rows b.item b.column))
    (column_found 0 rows a.item a.column) (column_found 0 rows b.item b.column))

pub equates : (e : Expr) (a b : ColRef) (level : ℕ) (safe : Bool) (l : Lookup) → e ≡ equality a b → LooksUp a b level safe l → Equates e level l
equates e a b level safe l h u = record {
  earlier = subst (λ (n : ℕ). n < level) (sym u.0) u.4;
  is = λ rows.
      ap (λ (x : Expr). holds (row_leaves rows) x) h
      ∙ equality_found rows a b
      ∙ (λ i. Ok (columns_equal rows (sym u.0 i) (sym u.1 i) (u.3 i) (sym u.2 i)));
}

pub equates_turned : (e : Expr) (a b : ColRef) (level : ℕ) (safe : Bool) (l : Lookup) → e ≡ equality a b → LooksUp b a level safe l → Equates e level l
equates_turned e a b level safe l h u = record {
  earlier = subst (λ (n : ℕ). n < level) (sym u.0) u.4;
  is = λ rows.
      ap (λ (x : Expr). holds (row_leaves rows) x) h
      ∙ equality_found rows a b
      ∙ ap Ok (turned (value_at rows a.item a.column) (value_at rows b.item b.column))
      ∙ (λ i. Ok (columns_equal rows (sym u.0 i) (sym u.1 i) (u.3 i) (sym u.2 i)));
}

pub some_turned : (e : Expr) (a b : ColRef) (level : ℕ) (safe : Bool) (o : Option Lookup) → e ≡ equality a b → IfSome o (λ l. LooksUp b a level safe l) → IfSome o (λ l. Equates e level l)
some_turned e a b level safe None h u = tt
some_turned e a b level safe (Some l) h u = equates_turned e a b level safe l h u

pub serves : (deciders : List Decider) (i : ℕ) (d : Decider) (level : ℕ) (l : Lookup) → i < length deciders → d ≡ get_or deciders i d → Equates d.e.now level l → l.safe ≡ d.safe → Serves deciders level l
serves deciders i d level l within at equal safe conditions all =
    let h : IsDecider conditions d = subst (IsDecider conditions) (sym at) (all i d within) in
    record {
      earlier = equal.earlier;
      no = λ rows no. h.decides.no rows (equal.is rows ∙ ap Ok no);
      unknown = λ s rows u. h.decides.unknown (sym safe ∙ s) rows (equal.is rows ∙ ap Ok u);
    }

-- ---- the steps of the loops

pub condition_step : (conditions : List Expr) (i : ℕ) (e : Expr) (old new : List Decider) → i < length conditions → e ≡ get_or conditions i e → AddsDeciders e old new → Reached conditions (drop i conditions)
    → All (IsDecider conditions) old → All (IsDecider conditions) new
condition_step conditions i e old new within at adds reached all =
    adds conditions (counts_here conditions (drop (i + 1) conditions) e (subst (λ (es : List Expr). Reached conditions es) (next_item conditions i e within at) reached)) all

pub reached_step : (n : ℕ) (conditions : List Expr) (i : ℕ) (e : Expr) → i < length conditions → e ≡ get_or conditions i e → SeesBelow n e → Reached conditions (drop i conditions) → Reached conditions (drop (i + 1) conditions)
reached_step n conditions i e within at sees reached =
    reached_next n conditions (drop (i + 1) conditions) e sees (subst (λ (es : List Expr). Reached conditions es) (next_item conditions i e within at) reached)

-- as the loop over the conditions tells it
pub condition_more : (conditions : List Expr) (i : ℕ) (item e : Expr) (old new : List Decider) → i < length conditions → item ≡ get_or conditions i item → e ≡ item → AddsDeciders e old new
    → Reached conditions (drop i conditions) → All (IsDecider conditions) old → All (IsDecider conditions) new
condition_more conditions i item e old new within at same adds reached all =
    condition_step conditions i item old new within at (subst (λ (x : Expr). AddsDeciders x old new) same adds) reached all

pub condition_seen : (n : ℕ) (conditions : List Expr) (i : ℕ) (item e : Expr) → i < length conditions → item ≡ get_or conditions i item → e ≡ item → SeesBelow n e → Reached conditions (drop i conditions)
    → Reached conditions (drop (i + 1) conditions)
condition_seen n conditions i item e within at same sees reached = reached_step n conditions i item within at (subst (λ (x : Expr). SeesBelow n x) same sees) reached

pub whole_step : (e : Expr) (safe : Bool) (d : Decider) (old new : List Decider) → d.e.now ≡ e → d.safe ≡ safe → IfSome d.below (λ n. SeesBelow n e) → new ≡ old ++ d ∷ [] → AddsDeciders e old new
whole_step e safe d old new p q sees is conditions counts all =
    one_decider_more conditions old new d is all (decider_is conditions d e safe p q sees (whole_decides conditions e safe counts))

pub member_step : (n : ℕ) (es : List Expr) (i : ℕ) (e : Expr) (safe : Bool) (d : Decider) (first old new : List Decider) → i < length es → e ≡ get_or es i e → d.e.now ≡ e → d.safe ≡ safe
    → IfSome d.below (λ n. SeesBelow n e) → (IsTrue safe → AllSeeBelow n es) → new ≡ old ++ d ∷ [] → ReachedInAnd es (drop i es) → AddsDeciders (expr.And es) first old → AddsDeciders (expr.And es) first new
member_step n es i e safe d first old new within at p q sees all_see is reached added conditions counts all =
    one_decider_more conditions old new d is (added conditions counts all)
    (decider_is conditions d e safe p q sees
    (member_decides n conditions es (drop (i + 1) es) e safe counts (subst (λ (rest : List Expr). ReachedInAnd es rest) (next_item es i e within at) reached) all_see))

pub reached_in_step : (n : ℕ) (es : List Expr) (i : ℕ) (e : Expr) → i < length es → e ≡ get_or es i e → SeesBelow n e → ReachedInAnd es (drop i es) → ReachedInAnd es (drop (i + 1) es)
reached_in_step n es i e within at sees reached =
    reached_in_next n es (drop (i + 1) es) e sees (subst (λ (rest : List Expr). ReachedInAnd es rest) (next_item es i e within at) reached)

-- for the loops and the look-ups
pub ruleset decider_steps = (reached_first, condition_step, reached_step, whole_step, member_step, reached_in_first, reached_in_step, equates, equates_turned, serves)
