-- Two rules that read the same tokens are equal.
use Rattle.std.proofs.Common.{◌≡◌, ℕ, List, ◌∷◌, refl, arith}
use Rattle.std.specs.Prelude.{Option, Bool}
use Rattle.mq_values.specs.declared.operators.Mode.{Mode}
use Rattle.mq_ast.specs.declared.expressions.E.{E}
use Rattle.mq_ast.specs.declared.queries.ForList.{ForList}
use Rattle.mq_ast.specs.declared.queries.LeftPlace.{LeftPlace}
use Rattle.mq_ast.specs.declared.queries.LeftTree.{LeftTree}
use Rattle.mq_ast.specs.declared.queries.RuleTree.{RuleTree}
use Rattle.mq_ast.specs.declared.parts.Range.{Range}
use Rattle.mq_lexer.specs.declared.keywords.Keyword.TheVariants as word
use Rattle.mq_lexer.specs.declared.terminals.Symbol.TheVariants as sign
use Rattle.mq_lexer.specs.declared.terminals.Terminal.TheVariants as terminal
use Rattle.mq_ast.specs.Tokens.{Tok, Word, terminal_at, opener, closer}
use Rattle.mq_ast.specs.declared.levels.TheConstants as level
use Rattle.mq_ast.specs.declared.clauses.TheConstants as clause
use Rattle.mq_ast.specs.Continuing.{Stops, Not, Ends, Past}
use Rattle.mq_ast.specs.OneTree.{OneTree}
use Rattle.mq_ast.specs.GrammarLists.{SomeOf, some_of}
use Rattle.mq_ast.specs.GrammarExpression.{Expr, Tuple, tuple}
use Rattle.mq_ast.specs.GrammarRule.{AloneE, alone, ModeE, mode_update, mode_upsert, mode_upsert_all, MaybeMode, mode_none, mode_some, ForListE, for_values, for_rows}
use Rattle.mq_ast.specs.GrammarRule.{DownE, down_no, down_yes, StartE, start, FinishE, finish, RangeE, range, LitE, lit_any, lit_expr, lit_in, lit_range, LeftE, left_places, left_tuples}
use Rattle.mq_ast.specs.GrammarRule.{RuleFront, rule_front, RuleRight, rule_right, RuleE, rule, RuleList, rules_none, rules_some}
use Rattle.mq_ast.specs.Laws.CommonLemmas.{Same, begin, cut}
use Rattle.mq_ast.specs.Laws.OneExpressionLemmas.{expr_same, tuple_same, expr_no_any, expr_no_for, expr_no_select}
use Rattle.mq_ast.specs.Laws.OneListLemmas.{some_same, names_same, Whatever}
use Rattle.mq_ast.specs.Laws.OneQueryLemmas.{plain_same, plain_front, order_same}

-- modes

pub mode_same : {m m' : Mode} {from to to' : List Tok} → ModeE m from to → ModeE m' from to' → Past clause.MODE to → Past clause.MODE to' → Same m m' to to'
mode_same mode_update mode_update s s' = (refl, refl)
mode_same mode_upsert mode_upsert s s' = (refl, refl)
mode_same mode_upsert mode_upsert_all s s' = absurd (omega arith)
mode_same mode_upsert_all mode_upsert s s' = absurd (omega arith)
mode_same mode_upsert_all mode_upsert_all s s' = (refl, refl)

pub mode_not_past : {m : Mode} {from to : List Tok} → ModeE m from to → Past clause.MODE from → ⊥
mode_not_past mode_update s = absurd (omega arith)
mode_not_past mode_upsert s = absurd (omega arith)
mode_not_past mode_upsert_all s = absurd (omega arith)

pub maybe_mode_same : {m m' : Option Mode} {from to to' : List Tok} → MaybeMode m from to → MaybeMode m' from to' → Past clause.MODE to → Past clause.MODE to' → Same m m' to to'
maybe_mode_same mode_none mode_none s s' = (refl, refl)
maybe_mode_same mode_none (mode_some d') s s' = absurd (mode_not_past d' s)
maybe_mode_same (mode_some d) mode_none s s' = absurd (mode_not_past d s')
maybe_mode_same (mode_some d) (mode_some d') s s' = let p = mode_same d d' s s' in (cc, p.1)

-- what a FOR goes through

abbrev pub NoComma : List Tok → Type 0
NoComma ts = Not (terminal.Sign sign.Comma) ts

pub tuple_one : OneTree Tuple Whatever
tuple_one _ _ _ _ _ d d' s s' = tuple_same d d'

pub tuples_same : {xs xs' : List (List E)} {from to to' : List Tok} → SomeOf Tuple xs from to → SomeOf Tuple xs' from to' → NoComma to → NoComma to' → Same xs xs' to to'
tuples_same = some_same (List E) Tuple Whatever NoComma tuple_one (λ ts s. tt) (λ ts. tt) (λ a ts mid s d. s refl)

pub alone_same : OneTree AloneE (Stops level.EXPRESSION)
alone_same _ _ _ _ _ (alone d) (alone d') s s' = let p = expr_same d d' s s' in (cc, p.1)

abbrev pub EndsExprs : List Tok → Type 0
EndsExprs ts = Ends (terminal.Sign sign.Comma) ts

pub alones_same : {xs xs' : List (List E)} {from to to' : List Tok} → SomeOf AloneE xs from to → SomeOf AloneE xs' from to' → EndsExprs to → EndsExprs to' → Same xs xs' to to'
alones_same = some_same (List E) AloneE (Stops level.EXPRESSION) EndsExprs alone_same (λ ts s. s.0) (λ ts. omega arith) (λ a ts mid s d. s.1 refl)

pub alones_no_plain : {xs : List (List E)} {from to : List Tok} → SomeOf AloneE xs from to → terminal_at from ≡ terminal.Word word.Select → ⊥
alones_no_plain (some_of (alone d) ds) e = expr_no_select d e

pub tuples_no_plain : {xs : List (List E)} {from to : List Tok} → SomeOf Tuple xs from to → terminal_at from ≡ terminal.Word word.Select → ⊥
tuples_no_plain (some_of (tuple d) ds) e = cc

module _ (R : List E → List Tok → List Tok → Type 0) (same : (xs xs' : List (List E)) (from to to' : List Tok) → SomeOf R xs from (closer ∷ to) → SomeOf R xs' from (closer ∷ to') → Same xs xs' to to') (no_plain : (xs : List (List E)) (from to : List Tok) → SomeOf R xs from to → terminal_at from ≡ terminal.Word word.Select → ⊥) where
  for_list_same : {l l' : ForList} {from to to' : List Tok} → ForListE R l from to → ForListE R l' from to' → Same l l' to to'
  for_list_same (for_values d) (for_values d') = let p = same _ _ _ _ _ d d' in (cc, p.1)
  for_list_same (for_values d) (for_rows q') = absurd (no_plain _ _ _ d (plain_front q'))
  for_list_same (for_rows q) (for_values d') = absurd (no_plain _ _ _ d' (plain_front q))
  for_list_same (for_rows q) (for_rows q') = let p = plain_same q q' (omega arith) (omega arith) in (cc, cut p.1)

alones_closed : {xs xs' : List (List E)} {from to to' : List Tok} → SomeOf AloneE xs from (closer ∷ to) → SomeOf AloneE xs' from (closer ∷ to') → Same xs xs' to to'
alones_closed d d' = let p = alones_same d d' (omega arith, λ e. cc) (omega arith, λ e. cc) in (p.0, cut p.1)

tuples_closed : {xs xs' : List (List E)} {from to to' : List Tok} → SomeOf Tuple xs from (closer ∷ to) → SomeOf Tuple xs' from (closer ∷ to') → Same xs xs' to to'
tuples_closed d d' = let p = tuples_same d d' (λ e. cc) (λ e. cc) in (p.0, cut p.1)

pub values_same : {l l' : ForList} {from to to' : List Tok} → ForListE AloneE l from to → ForListE AloneE l' from to' → Same l l' to to'
values_same = for_list_same AloneE (λ xs ys from to to' d d'. alones_closed d d') (λ xs from to d e. alones_no_plain d e)

pub rows_same : {l l' : ForList} {from to to' : List Tok} → ForListE Tuple l from to → ForListE Tuple l' from to' → Same l l' to to'
rows_same = for_list_same Tuple (λ xs ys from to to' d d'. tuples_closed d d') (λ xs from to d e. tuples_no_plain d e)

-- left sides

pub down_same : {b b' : Bool} {from to to' : List Tok} → DownE b from to → DownE b' from to' → Same b b' to to'
down_same down_no down_no = (refl, refl)
down_same down_yes down_yes = (refl, refl)

pub down_stop : {b : Bool} {from to : List Tok} → DownE b from to → Stops level.EXPRESSION from
down_stop down_no = omega arith
down_stop down_yes = omega arith

pub start_same : {a a' : E} {from to to' : List Tok} → StartE a from to → StartE a' from to' → Same a a' to to'
start_same (start d) (start d') = let p = expr_same d d' (omega arith) (omega arith) in (p.0, cut p.1)

pub finish_same : {a a' : E × Bool} {from to to' : List Tok} → FinishE a from to → FinishE a' from to' → Same a a' to to'
finish_same (finish d b) (finish d' b') =
    let p = expr_same d d' (down_stop b) (down_stop b') in
    let q = down_same b (begin DownE p.1 b') in
    (cc, q.1)

pub range_same : OneTree RangeE (Stops level.EXPRESSION)
range_same _ _ _ _ _ (range x y z) (range x' y' z') s s' =
    let p = start_same x x' in
    let q = finish_same y (begin FinishE p.1 y') in
    let r = expr_same z (begin Expr q.1 z') s s' in
    (cc, r.1)

pub range_no_in : {r : Range} {from to : List Tok} → RangeE r (Word word.In ∷ from) to → ⊥
range_no_in (range x y z) = elim x [ ]

pub lit_same : OneTree LitE (Stops level.EXPRESSION)
lit_same _ _ _ _ _ lit_any lit_any s s' = (refl, refl)
lit_same _ _ _ _ _ lit_any (lit_expr d') s s' = absurd (expr_no_any d')
lit_same _ _ _ _ _ (lit_expr d) lit_any s s' = absurd (expr_no_any d)
lit_same _ _ _ _ _ (lit_expr d) (lit_expr d') s s' = let p = expr_same d d' s s' in (cc, p.1)
lit_same _ _ _ _ _ (lit_expr d) (lit_in l') s s' = absurd (expr_no_for d)
lit_same _ _ _ _ _ (lit_expr d) (lit_range r') s s' = absurd (expr_no_for d)
lit_same _ _ _ _ _ (lit_in l) (lit_expr d') s s' = absurd (expr_no_for d')
lit_same _ _ _ _ _ (lit_range r) (lit_expr d') s s' = absurd (expr_no_for d')
lit_same _ _ _ _ _ (lit_in l) (lit_range r') s s' = absurd (range_no_in r')
lit_same _ _ _ _ _ (lit_range r) (lit_in l') s s' = absurd (range_no_in r)
lit_same _ _ _ _ _ (lit_in l) (lit_in l') s s' = let p = values_same l l' in (cc, p.1)
lit_same _ _ _ _ _ (lit_range r) (lit_range r') s s' = let p = range_same _ _ _ _ _ r r' s s' in (cc, p.1)

pub lits_same : {ps ps' : List LeftPlace} {from to to' : List Tok} → SomeOf LitE ps from to → SomeOf LitE ps' from to' → EndsExprs to → EndsExprs to' → Same ps ps' to to'
lits_same = some_same LeftPlace LitE (Stops level.EXPRESSION) EndsExprs lit_same (λ ts s. s.0) (λ ts. omega arith) (λ a ts mid s d. s.1 refl)

pub lits_no_tuple : {ps : List LeftPlace} {from to : List Tok} → SomeOf LitE ps (Word word.For ∷ opener ∷ from) to → ⊥
lits_no_tuple (some_of (lit_expr d) ds) = expr_no_for d

pub left_same : {l l' : LeftTree} {from to to' : List Tok} → LeftE l from to → LeftE l' from to' → EndsExprs to → EndsExprs to' → Same l l' to to'
left_same (left_places d) (left_places d') s s' = let p = lits_same d d' s s' in (cc, p.1)
left_same (left_places d) (left_tuples n' t') s s' = absurd (lits_no_tuple d)
left_same (left_tuples n t) (left_places d') s s' = absurd (lits_no_tuple d')
left_same (left_tuples n t) (left_tuples n' t') s s' =
    let p = names_same n n' (λ e. cc) (λ e. cc) in
    let q = rows_same t (begin (ForListE Tuple) (cut (cut p.1)) t') in
    (cc, q.1)

-- rules

pub rule_front_same : {a a' : Option Mode × List ℕ} {from to to' : List Tok} → RuleFront a from to → RuleFront a' from to' → Same a a' to to'
rule_front_same (rule_front {n = n} m) (rule_front {n = n'} m') =
    let p = maybe_mode_same m m' (omega arith) (omega arith) in
    let e : n ≡ n' = cc in
    (cc, cut (cut p.1))

pub rule_right_same : OneTree RuleRight (Stops level.EXPRESSION)
rule_right_same _ _ _ _ _ (rule_right o d) (rule_right o' d') s s' =
    let r = order_same o o' (λ e. cc) (λ e. cc) (λ e. cc, λ e. cc, λ e. cc) (λ e. cc, λ e. cc, λ e. cc) in
    let u = expr_same d (begin Expr (cut r.1) d') s s' in
    (cc, u.1)

pub rule_same : OneTree RuleE (Stops level.EXPRESSION)
rule_same _ _ _ _ _ (rule f l r) (rule f' l' r') s s' =
    let p = rule_front_same f f' in
    let q = left_same l (begin LeftE p.1 l') (omega arith, λ e. cc) (omega arith, λ e. cc) in
    let u = rule_right_same _ _ _ _ _ r (begin RuleRight (cut q.1) r') s s' in
    (cc, u.1)

pub rules_same : {rs rs' : List RuleTree} {from to to' : List Tok} → SomeOf RuleE rs from to → SomeOf RuleE rs' from to' → EndsExprs to → EndsExprs to' → Same rs rs' to to'
rules_same = some_same RuleTree RuleE (Stops level.EXPRESSION) EndsExprs rule_same (λ ts s. s.0) (λ ts. omega arith) (λ a ts mid s d. s.1 refl)

pub mode_no_closer : {m : Mode} {from to : List Tok} → ModeE m (closer ∷ from) to → ⊥
mode_no_closer d = elim d [ ]

pub rules_no_closer : {rs : List RuleTree} {from to : List Tok} → SomeOf RuleE rs (closer ∷ from) to → ⊥
rules_no_closer (some_of (rule (rule_front (mode_some m)) l r) ds) = mode_no_closer m

pub rule_list_same : {rs rs' : List RuleTree} {from to to' : List Tok} → RuleList rs from to → RuleList rs' from to' → Same rs rs' to to'
rule_list_same rules_none rules_none = (refl, refl)
rule_list_same rules_none (rules_some d') = absurd (rules_no_closer d')
rule_list_same (rules_some d) rules_none = absurd (rules_no_closer d)
rule_list_same (rules_some d) (rules_some d') = let p = rules_same d d' (omega arith, λ e. cc) (omega arith, λ e. cc) in (p.0, cut p.1)
