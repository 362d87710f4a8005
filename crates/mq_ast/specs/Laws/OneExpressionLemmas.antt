-- Two expressions that read the same tokens are equal.
use Rattle.std.proofs.Common.{◌≡◌, ℕ, ◌<◌, ◌≤◌, List, ◌∷◌, refl, sym, ap, ◌∙◌, subst, arith}
use Rattle.std.specs.Prelude.{Option, Some}
use Rattle.mq_values.specs.CalendarLaws.{days_print_apart}
use Rattle.mq_values.specs.declared.value.Kind.{Kind}
use Rattle.mq_values.specs.declared.value.Value.TheVariants as value
use Rattle.mq_values.specs.declared.operators.Func.{Func}
use Rattle.mq_ast.specs.declared.expressions.Path.{Path}
use Rattle.mq_ast.specs.declared.expressions.Place.{Place}
use Rattle.mq_ast.specs.declared.expressions.SumTerm.{SumTerm}
use Rattle.mq_ast.specs.declared.expressions.ProdTerm.{ProdTerm}
use Rattle.mq_ast.specs.declared.expressions.Arm.{Arm}
use Rattle.mq_ast.specs.declared.expressions.E.{E}
use Rattle.mq_ast.specs.declared.expressions.E.TheVariants as e
use Rattle.mq_lexer.specs.declared.keywords.Keyword.TheVariants as word
use Rattle.mq_lexer.specs.declared.terminals.Symbol.TheVariants as sign
use Rattle.mq_lexer.specs.declared.terminals.Terminal.{Terminal}
use Rattle.mq_lexer.specs.declared.terminals.Terminal.TheVariants as terminal
use Rattle.mq_ast.specs.Tokens.{Tok, Word, Name, terminal_at, closer, minus, star}
use Rattle.mq_ast.specs.declared.levels.TheConstants as level
use Rattle.mq_ast.specs.Continuing.{loose, Stops, Ends}
use Rattle.mq_ast.specs.Chains.{arm}
use Rattle.mq_ast.specs.GrammarNames.{PathE, path_one, path_two, KindE, kind_int, kind_decimal, kind_text, kind_date, DayE, dtxt}
use Rattle.mq_ast.specs.GrammarExpression.{Expr, MoreOr, AndE, MoreAnd, NotE, TestE, TestTail, Tuple, Exprs, MoreExprs, SumE, MoreSum, ProdE, MoreProd, SignE, PrimE, Brackets, MorePlaces, PlaceE, CaseE, Whens, ElseE, expr, or_end, or_more, and, and_end, and_more, not_plain, not_not, test, tail_none, tail_cmp, tail_between, tail_not_between, tail_in, tail_not_in, tail_null, tail_not_null, tail_present, tail_not_present, tail_any, tuple, exprs, exprs_end, exprs_more, sum, sum_end, sum_more, prod, prod_end, prod_more, sign_plain, sign_minus, prim_num, prim_text, prim_null, prim_date, prim_path, prim_cell, prim_round, prim_agg, prim_count, prim_range, prim_case, prim_cast, prim_to, prim_call, prim_cv, prim_cv_name, prim_turn, prim_previous, prim_presentv, prim_presentnnv, brackets, places_end, places_more, place_any, place_expr, case_none, case_some, whens_end, whens_more, else_none, else_some}
use Rattle.mq_ast.specs.Laws.CommonLemmas.{Same, same_flip, begin, cut, none_some, PRIMARY, SIGNED, WHOLE, first, first_word, Begins}

-- no token that goes on at a level below stands before the rest of a chain, a test or a list

pub or_stop : {xs : List E} {from to : List Tok} → MoreOr xs from to → Stops level.EXPRESSION to → Stops level.CONJUNCTION from
or_stop or_end s = omega arith
or_stop (or_more d ds) s = omega arith

pub and_stop : {xs : List E} {from to : List Tok} → MoreAnd xs from to → Stops level.CONJUNCTION to → Stops level.TEST from
and_stop and_end s = omega arith
and_stop (and_more d ds) s = omega arith

pub tail_stop : {a b : E} {from to : List Tok} → TestTail a b from to → Stops level.TEST to → Stops level.SUM from
tail_stop tail_none s = omega arith
tail_stop _ s = omega arith

pub sum_stop : {xs : List SumTerm} {from to : List Tok} → MoreSum xs from to → Stops level.SUM to → Stops level.PRODUCT from
sum_stop sum_end s = omega arith
sum_stop (sum_more d ds) s = omega arith

pub prod_stop : {xs : List ProdTerm} {from to : List Tok} → MoreProd xs from to → Stops level.PRODUCT to → Stops level.PRIMARY from
prod_stop prod_end s = omega arith
prod_stop (prod_more d ds) s = omega arith

pub exprs_stop : {xs : List E} {from to : List Tok} → MoreExprs xs from to → Ends (terminal.Sign sign.Comma) to → Stops level.EXPRESSION from
exprs_stop exprs_end s = s.0
exprs_stop (exprs_more d ds) s = omega arith

pub places_stop : {ps : List Place} {from to : List Tok} → MorePlaces ps from to → Ends (terminal.Sign sign.Comma) to → Stops level.EXPRESSION from
places_stop places_end s = s.0
places_stop (places_more d ds) s = omega arith

pub brackets_front : {ps : List Place} {from to : List Tok} → Brackets ps from to → terminal_at from ≡ terminal.Sign sign.OpenSquare
brackets_front (brackets d ds) = refl

pub brackets_stop : {ps : List Place} {from to : List Tok} → Brackets ps from to → Stops level.PATH from
brackets_stop (brackets d ds) = omega arith

pub whens_stop : {xs : List Arm} {from to : List Tok} → Whens xs from to → Ends (terminal.Word word.When) to → Stops level.EXPRESSION from
whens_stop whens_end s = s.0
whens_stop (whens_more d e ds) s = omega arith

pub whens_front : {a b : E} {xs : List Arm} {from to : List Tok} → Whens (arm a b ∷ xs) from to → terminal_at from ≡ terminal.Word word.When
whens_front (whens_more d e ds) = refl

pub else_stop : {o : Option E} {from to : List Tok} → ElseE o from (Word word.End ∷ to) → Ends (terminal.Word word.When) from
else_stop else_none = (omega arith, λ e. cc)
else_stop (else_some d) = (omega arith, λ e. cc)

-- what an expression begins with

pub path_begins : {p : Path} {from to : List Tok} → PathE p from to → Begins PRIMARY from
path_begins path_one = omega arith
path_begins path_two = omega arith

pub prim_begins : {a : E} {from to : List Tok} → PrimE a from to → Begins PRIMARY from
prim_begins (prim_path d) = omega arith
prim_begins (prim_call {k = k} c d l) = let P : Option (Func × ℕ) → Type 0 = λ o. first_word o k ≤ PRIMARY in subst P (sym c) (omega arith)
prim_begins _ = omega arith

pub sign_begins : {a : E} {from to : List Tok} → SignE a from to → Begins SIGNED from
sign_begins (sign_plain d) = let h = prim_begins d in omega arith
sign_begins (sign_minus d) = omega arith

pub sum_begins : {a : E} {from to : List Tok} → SumE a from to → Begins SIGNED from
sum_begins (sum (prod d ds) t) = sign_begins d

pub test_begins : {a : E} {from to : List Tok} → TestE a from to → Begins SIGNED from
test_begins (test d t) = sum_begins d

pub not_begins : {a : E} {from to : List Tok} → NotE a from to → Begins WHOLE from
not_begins (not_plain d) = let h = test_begins d in omega arith
not_begins (not_not d) = omega arith

pub expr_begins : {a : E} {from to : List Tok} → Expr a from to → Begins WHOLE from
expr_begins (expr (and d ds) t) = not_begins d

-- what cannot begin so

pub prim_no_minus : {a : E} {from to : List Tok} → PrimE a (minus ∷ from) to → ⊥
prim_no_minus d = let h = prim_begins d in absurd (omega arith)

pub test_no_not : {a : E} {from to : List Tok} → TestE a (Word word.Not ∷ from) to → ⊥
test_no_not d = let h = test_begins d in absurd (omega arith)

pub expr_no_any : {a : E} {from to : List Tok} → Expr a (Word word.Any ∷ from) to → ⊥
expr_no_any d = let h = expr_begins d in absurd (omega arith)

pub expr_no_star : {a : E} {from to : List Tok} → Expr a (star ∷ from) to → ⊥
expr_no_star d = let h = expr_begins d in absurd (omega arith)

-- an expression that begins with such a token
pub expr_front : {a : E} {from to : List Tok} (t : Terminal) → Expr a from to → terminal_at from ≡ t → first t ≤ WHOLE
expr_front t d e = let P : Terminal → Type 0 = λ k. first k ≤ WHOLE in subst P e (expr_begins d)

pub expr_no_when : {a : E} {from to : List Tok} → Expr a from to → terminal_at from ≡ terminal.Word word.When → ⊥
expr_no_when d e = let h = expr_front (terminal.Word word.When) d e in absurd (omega arith)

pub expr_no_select : {a : E} {from to : List Tok} → Expr a from to → terminal_at from ≡ terminal.Word word.Select → ⊥
expr_no_select d e = let h = expr_front (terminal.Word word.Select) d e in absurd (omega arith)

pub expr_no_for : {a : E} {from to : List Tok} → Expr a (Word word.For ∷ from) to → ⊥
expr_no_for d = let h = expr_begins d in absurd (omega arith)

-- what ends at once

pub or_stay : {xs : List E} {from to : List Tok} → MoreOr xs from to → Stops level.EXPRESSION from → to ≡ from
or_stay or_end s = refl
or_stay (or_more d ds) s = absurd (omega arith)

pub and_stay : {xs : List E} {from to : List Tok} → MoreAnd xs from to → Stops level.CONJUNCTION from → to ≡ from
and_stay and_end s = refl
and_stay (and_more d ds) s = absurd (omega arith)

pub tail_stay : {a b : E} {from to : List Tok} → TestTail a b from to → Stops level.TEST from → Same a b from to
tail_stay tail_none s = (refl, refl)
tail_stay _ s = absurd (omega arith)

pub sum_stay : {xs : List SumTerm} {from to : List Tok} → MoreSum xs from to → Stops level.SUM from → to ≡ from
sum_stay sum_end s = refl
sum_stay (sum_more d ds) s = absurd (omega arith)

pub prod_stay : {xs : List ProdTerm} {from to : List Tok} → MoreProd xs from to → Stops level.PRODUCT from → to ≡ from
prod_stay prod_end s = refl
prod_stay (prod_more d ds) s = absurd (omega arith)

-- a name with a closing bracket behind it is an expression that ends there

pub stops_closed : {from to : List Tok} → to ≡ closer ∷ from → Stops level.EXPRESSION to
stops_closed {from} {to} e = let P : List Tok → Type 0 = λ m. Stops level.EXPRESSION m in let h : Stops level.EXPRESSION (closer ∷ from) = omega arith in subst P (sym e) h

pub prim_name_ends : {a : E} {n : List ℕ} {from to : List Tok} → PrimE a (Name n ∷ closer ∷ from) to → to ≡ closer ∷ from
prim_name_ends (prim_path path_one) = refl
prim_name_ends (prim_cell path_one b) = elim b [ ]

pub sign_name_ends : {a : E} {n : List ℕ} {from to : List Tok} → SignE a (Name n ∷ closer ∷ from) to → to ≡ closer ∷ from
sign_name_ends (sign_plain d) = prim_name_ends d

pub prod_name_ends : {a : E} {n : List ℕ} {from to : List Tok} → ProdE a (Name n ∷ closer ∷ from) to → to ≡ closer ∷ from
prod_name_ends (prod d ds) = let h = sign_name_ends d in let s = stops_closed h in let e = prod_stay ds (omega arith) in cc

pub sum_name_ends : {a : E} {n : List ℕ} {from to : List Tok} → SumE a (Name n ∷ closer ∷ from) to → to ≡ closer ∷ from
sum_name_ends (sum d ds) = let h = prod_name_ends d in let s = stops_closed h in let e = sum_stay ds (omega arith) in cc

pub test_name_ends : {a : E} {n : List ℕ} {from to : List Tok} → TestE a (Name n ∷ closer ∷ from) to → to ≡ closer ∷ from
test_name_ends (test d t) = let h = sum_name_ends d in let s = stops_closed h in let e = tail_stay t (omega arith) in cc

pub not_name_ends : {a : E} {n : List ℕ} {from to : List Tok} → NotE a (Name n ∷ closer ∷ from) to → to ≡ closer ∷ from
not_name_ends (not_plain d) = test_name_ends d

pub and_name_ends : {a : E} {n : List ℕ} {from to : List Tok} → AndE a (Name n ∷ closer ∷ from) to → to ≡ closer ∷ from
and_name_ends (and d ds) = let h = not_name_ends d in let s = stops_closed h in let e = and_stay ds (omega arith) in cc

pub name_ends : {a : E} {n : List ℕ} {from to : List Tok} → Expr a (Name n ∷ closer ∷ from) to → to ≡ closer ∷ from
name_ends (expr d ds) = let h = and_name_ends d in let s = stops_closed h in let e = or_stay ds (omega arith) in cc

pub no_square : (to : List Tok) → Stops level.PRIMARY to → terminal_at to ≡ terminal.Sign sign.OpenSquare → ⊥
no_square to s e = let P : Terminal → Type 0 = λ t. level.PRIMARY < loose t in let h : level.PRIMARY < loose (terminal.Sign sign.OpenSquare) = subst P e s in absurd (omega arith)

-- paths, kinds and dates

pub path_same : {p p' : Path} {from to to' : List Tok} → PathE p from to → PathE p' from to' → Stops level.PATH to → Stops level.PATH to' → Same p p' to to'
path_same path_one path_one s s' = (refl, refl)
path_same path_one path_two s s' = absurd (omega arith)
path_same path_two path_one s s' = absurd (omega arith)
path_same path_two path_two s s' = (refl, refl)

pub kind_same : {k k' : Kind} {from to to' : List Tok} → KindE k from to → KindE k' from to' → Same k k' to to'
kind_same kind_int kind_int = (refl, refl)
kind_same (kind_decimal i) (kind_decimal i') = (refl, refl)
kind_same kind_text kind_text = (refl, refl)
kind_same kind_date kind_date = (refl, refl)

pub day_same : {d d' : ℕ} {from to to' : List Tok} → DayE d from to → DayE d' from to' → Same d d' to to'
day_same (dtxt {day = d} p) (dtxt {day = d'} p') = (days_print_apart d d' p.0 p'.0 (p.1 ∙ sym p'.1), refl)

pub stops_when : (to : List Tok) → terminal_at to ≡ terminal.Word word.When → Stops level.EXPRESSION to
stops_when to e = let P : Terminal → Type 0 = λ t. level.EXPRESSION < loose t in let h : level.EXPRESSION < loose (terminal.Word word.When) = omega arith in subst P (sym e) h

pub begin_tail : {a a' b : E} {from from' to : List Tok} → a ≡ a' → from ≡ from' → TestTail a' b from' to → TestTail a b from to
begin_tail {a} {a'} {b} {from} {from'} {to} e f t =
    let P : E → Type 0 = λ x. TestTail x b from to in
    let Q : List Tok → Type 0 = λ m. TestTail a' b m to in
    subst P (sym e) (subst Q (sym f) t)

pub one_call : {o : Option (Func × ℕ)} {f f' : Func} {n n' : ℕ} → o ≡ Some (f, n) → o ≡ Some (f', n') → f ≡ f'
one_call {f = f} {f' = f'} {n = n} {n' = n'} c c' = let p : (f, n) ≡ (f', n') = cc in ap (λ (x : Func × ℕ). x.0) p

mutual
  pub expr_same : {a a' : E} {from to to' : List Tok} → Expr a from to → Expr a' from to' → Stops level.EXPRESSION to → Stops level.EXPRESSION to' → Same a a' to to'
  expr_same (expr d ds) (expr d' ds') s s' =
      let p = and_same d d' (or_stop ds s) (or_stop ds' s') in
      let q = or_same ds (begin MoreOr p.1 ds') s s' in
      (cc, q.1)

  pub or_same : {xs xs' : List E} {from to to' : List Tok} → MoreOr xs from to → MoreOr xs' from to' → Stops level.EXPRESSION to → Stops level.EXPRESSION to' → Same xs xs' to to'
  or_same or_end or_end s s' = (refl, refl)
  or_same or_end (or_more d ds) s s' = absurd (omega arith)
  or_same (or_more d ds) or_end s s' = absurd (omega arith)
  or_same (or_more d ds) (or_more d' ds') s s' =
      let p = and_same d d' (or_stop ds s) (or_stop ds' s') in
      let q = or_same ds (begin MoreOr p.1 ds') s s' in
      (cc, q.1)

  pub and_same : {a a' : E} {from to to' : List Tok} → AndE a from to → AndE a' from to' → Stops level.CONJUNCTION to → Stops level.CONJUNCTION to' → Same a a' to to'
  and_same (and d ds) (and d' ds') s s' =
      let p = not_same d d' (and_stop ds s) (and_stop ds' s') in
      let q = more_and_same ds (begin MoreAnd p.1 ds') s s' in
      (cc, q.1)

  pub more_and_same : {xs xs' : List E} {from to to' : List Tok} → MoreAnd xs from to → MoreAnd xs' from to' → Stops level.CONJUNCTION to → Stops level.CONJUNCTION to' → Same xs xs' to to'
  more_and_same and_end and_end s s' = (refl, refl)
  more_and_same and_end (and_more d ds) s s' = absurd (omega arith)
  more_and_same (and_more d ds) and_end s s' = absurd (omega arith)
  more_and_same (and_more d ds) (and_more d' ds') s s' =
      let p = not_same d d' (and_stop ds s) (and_stop ds' s') in
      let q = more_and_same ds (begin MoreAnd p.1 ds') s s' in
      (cc, q.1)

  pub not_same : {a a' : E} {from to to' : List Tok} → NotE a from to → NotE a' from to' → Stops level.TEST to → Stops level.TEST to' → Same a a' to to'
  not_same (not_plain d) (not_plain d') s s' = test_same d d' s s'
  not_same (not_plain d) (not_not d') s s' = absurd (test_no_not d)
  not_same (not_not d) (not_plain d') s s' = absurd (test_no_not d')
  not_same (not_not d) (not_not d') s s' = let p = test_same d d' s s' in (cc, p.1)

  pub test_same : {a a' : E} {from to to' : List Tok} → TestE a from to → TestE a' from to' → Stops level.TEST to → Stops level.TEST to' → Same a a' to to'
  test_same (test d t) (test d' t') s s' =
      let p = sum_same d d' (tail_stop t s) (tail_stop t' s') in
      tail_same t (begin_tail p.0 p.1 t') s s'

  pub tail_same : {a b b' : E} {from to to' : List Tok} → TestTail a b from to → TestTail a b' from to' → Stops level.TEST to → Stops level.TEST to' → Same b b' to to'
  tail_same tail_none t' s s' = tail_stay t' s
  tail_same t tail_none s s' = same_flip (tail_stay t s')
  tail_same (tail_cmp d) (tail_cmp d') s s' = let p = sum_same d d' (omega arith) (omega arith) in (cc, p.1)
  tail_same (tail_between d h) (tail_between d' h') s s' =
      let p = sum_same d d' (omega arith) (omega arith) in
      let q = sum_same h (begin SumE (cut p.1) h') (omega arith) (omega arith) in
      (cc, q.1)
  tail_same (tail_not_between d h) (tail_not_between d' h') s s' =
      let p = sum_same d d' (omega arith) (omega arith) in
      let q = sum_same h (begin SumE (cut p.1) h') (omega arith) (omega arith) in
      (cc, q.1)
  tail_same (tail_in d) (tail_in d') s s' = let p = tuple_same d d' in (cc, p.1)
  tail_same (tail_not_in d) (tail_not_in d') s s' = let p = tuple_same d d' in (cc, p.1)
  tail_same tail_null tail_null s s' = (refl, refl)
  tail_same tail_not_null tail_not_null s s' = (refl, refl)
  tail_same tail_present tail_present s s' = (refl, refl)
  tail_same tail_not_present tail_not_present s s' = (refl, refl)
  tail_same tail_any tail_any s s' = (refl, refl)

  pub tuple_same : {xs xs' : List E} {from to to' : List Tok} → Tuple xs from to → Tuple xs' from to' → Same xs xs' to to'
  tuple_same (tuple d) (tuple d') = let p = exprs_same d d' (omega arith, λ e. cc) (omega arith, λ e. cc) in (p.0, cut p.1)

  pub exprs_same : {xs xs' : List E} {from to to' : List Tok} → Exprs xs from to → Exprs xs' from to' → Ends (terminal.Sign sign.Comma) to → Ends (terminal.Sign sign.Comma) to' → Same xs xs' to to'
  exprs_same (exprs d ds) (exprs d' ds') s s' =
      let p = expr_same d d' (exprs_stop ds s) (exprs_stop ds' s') in
      let q = more_exprs_same ds (begin MoreExprs p.1 ds') s s' in
      (cc, q.1)

  pub more_exprs_same : {xs xs' : List E} {from to to' : List Tok} → MoreExprs xs from to → MoreExprs xs' from to' → Ends (terminal.Sign sign.Comma) to → Ends (terminal.Sign sign.Comma) to' → Same xs xs' to to'
  more_exprs_same exprs_end exprs_end s s' = (refl, refl)
  more_exprs_same exprs_end (exprs_more d ds) s s' = absurd (s.1 refl)
  more_exprs_same (exprs_more d ds) exprs_end s s' = absurd (s'.1 refl)
  more_exprs_same (exprs_more d ds) (exprs_more d' ds') s s' =
      let p = expr_same d d' (exprs_stop ds s) (exprs_stop ds' s') in
      let q = more_exprs_same ds (begin MoreExprs p.1 ds') s s' in
      (cc, q.1)

  pub sum_same : {a a' : E} {from to to' : List Tok} → SumE a from to → SumE a' from to' → Stops level.SUM to → Stops level.SUM to' → Same a a' to to'
  sum_same (sum d ds) (sum d' ds') s s' =
      let p = prod_same d d' (sum_stop ds s) (sum_stop ds' s') in
      let q = more_sum_same ds (begin MoreSum p.1 ds') s s' in
      (cc, q.1)

  pub more_sum_same : {xs xs' : List SumTerm} {from to to' : List Tok} → MoreSum xs from to → MoreSum xs' from to' → Stops level.SUM to → Stops level.SUM to' → Same xs xs' to to'
  more_sum_same sum_end sum_end s s' = (refl, refl)
  more_sum_same sum_end (sum_more d ds) s s' = absurd (omega arith)
  more_sum_same (sum_more d ds) sum_end s s' = absurd (omega arith)
  more_sum_same (sum_more d ds) (sum_more d' ds') s s' =
      let p = prod_same d d' (sum_stop ds s) (sum_stop ds' s') in
      let q = more_sum_same ds (begin MoreSum p.1 ds') s s' in
      (cc, q.1)

  pub prod_same : {a a' : E} {from to to' : List Tok} → ProdE a from to → ProdE a' from to' → Stops level.PRODUCT to → Stops level.PRODUCT to' → Same a a' to to'
  prod_same (prod d ds) (prod d' ds') s s' =
      let p = sign_same d d' (prod_stop ds s) (prod_stop ds' s') in
      let q = more_prod_same ds (begin MoreProd p.1 ds') s s' in
      (cc, q.1)

  pub more_prod_same : {xs xs' : List ProdTerm} {from to to' : List Tok} → MoreProd xs from to → MoreProd xs' from to' → Stops level.PRODUCT to → Stops level.PRODUCT to' → Same xs xs' to to'
  more_prod_same prod_end prod_end s s' = (refl, refl)
  more_prod_same prod_end (prod_more d ds) s s' = absurd (omega arith)
  more_prod_same (prod_more d ds) prod_end s s' = absurd (omega arith)
  more_prod_same (prod_more d ds) (prod_more d' ds') s s' =
      let p = sign_same d d' (prod_stop ds s) (prod_stop ds' s') in
      let q = more_prod_same ds (begin MoreProd p.1 ds') s s' in
      (cc, q.1)

  pub sign_same : {a a' : E} {from to to' : List Tok} → SignE a from to → SignE a' from to' → Stops level.PRIMARY to → Stops level.PRIMARY to' → Same a a' to to'
  sign_same (sign_plain d) (sign_plain d') s s' = prim_same d d' s s'
  sign_same (sign_plain d) (sign_minus d') s s' = absurd (prim_no_minus d)
  sign_same (sign_minus d) (sign_plain d') s s' = absurd (prim_no_minus d')
  sign_same (sign_minus d) (sign_minus d') s s' = let p = prim_same d d' s s' in (cc, p.1)

  pub prim_same : {a a' : E} {from to to' : List Tok} → PrimE a from to → PrimE a' from to' → Stops level.PRIMARY to → Stops level.PRIMARY to' → Same a a' to to'
  prim_same prim_num prim_num s s' = (refl, refl)
  prim_same prim_text prim_text s s' = (refl, refl)
  prim_same prim_null prim_null s s' = (refl, refl)
  prim_same (prim_date d) (prim_date d') s s' = let p = day_same d d' in (ap (λ day. e.Lit (value.Date day)) p.0, p.1)
  prim_same (prim_path d) (prim_path d') s s' = let p = path_same d d' (omega arith) (omega arith) in (ap e.Name p.0, p.1)
  prim_same (prim_path d) (prim_cell d' b') s s' =
      let p = path_same d d' (omega arith) (brackets_stop b') in
      absurd (no_square _ s (cc (p.1, brackets_front b')))
  prim_same (prim_cell d b) (prim_path d') s s' =
      let p = path_same d d' (brackets_stop b) (omega arith) in
      absurd (no_square _ s' (cc (p.1, brackets_front b)))
  prim_same (prim_cell d b) (prim_cell d' b') s s' =
      let p = path_same d d' (brackets_stop b) (brackets_stop b') in
      let q = brackets_same b (begin Brackets p.1 b') in
      (cc, q.1)
  prim_same (prim_round d) (prim_round d') s s' = let p = expr_same d d' (omega arith) (omega arith) in (p.0, cut p.1)
  prim_same (prim_agg d) (prim_agg d') s s' = let p = expr_same d d' (omega arith) (omega arith) in (cc, cut p.1)
  prim_same (prim_agg d) prim_count s s' = absurd (expr_no_star d)
  prim_same (prim_agg d) (prim_range b') s s' = absurd (no_square _ s (cc (name_ends d, brackets_front b')))
  prim_same prim_count prim_count s s' = (refl, refl)
  prim_same prim_count (prim_agg d') s s' = absurd (expr_no_star d')
  prim_same (prim_range b) (prim_agg d') s s' = absurd (no_square _ s' (cc (name_ends d', brackets_front b)))
  prim_same (prim_range b) (prim_range b') s s' = let p = brackets_same b b' in (cc, p.1)
  prim_same (prim_case c ds o) (prim_case c' ds' o') s s' =
      let p = case_same c c' (whens_front ds) (whens_front ds') in
      let q = whens_same ds (begin Whens p.1 ds') (else_stop o) (else_stop o') in
      let r = else_same o (begin ElseE q.1 o') in
      (cc, cut r.1)
  prim_same (prim_cast d k) (prim_cast d' k') s s' =
      let p = expr_same d d' (omega arith) (omega arith) in
      let q = kind_same k (begin KindE (cut p.1) k') in
      (cc, cut q.1)
  prim_same (prim_call c d l) (prim_call c' d' l') s s' =
      let p = tuple_same d d' in
      let q = one_call c c' in
      (cc, p.1)
  prim_same (prim_call c d l) prim_null s s' = absurd (none_some c)
  prim_same (prim_call c d l) (prim_date _) s s' = absurd (none_some c)
  prim_same (prim_call c d l) (prim_case _ _ _) s s' = absurd (none_some c)
  prim_same (prim_call c d l) (prim_cast _ _) s s' = absurd (none_some c)
  prim_same (prim_call c d l) (prim_to _ _) s s' = absurd (none_some c)
  prim_same (prim_call c d l) prim_cv s s' = absurd (none_some c)
  prim_same (prim_call c d l) prim_cv_name s s' = absurd (none_some c)
  prim_same (prim_call c d l) prim_turn s s' = absurd (none_some c)
  prim_same (prim_call c d l) (prim_previous _) s s' = absurd (none_some c)
  prim_same (prim_call c d l) (prim_presentv _ _ _) s s' = absurd (none_some c)
  prim_same (prim_call c d l) (prim_presentnnv _ _ _) s s' = absurd (none_some c)
  prim_same prim_null (prim_call c' d' l') s s' = absurd (none_some c')
  prim_same (prim_date _) (prim_call c' d' l') s s' = absurd (none_some c')
  prim_same (prim_case _ _ _) (prim_call c' d' l') s s' = absurd (none_some c')
  prim_same (prim_cast _ _) (prim_call c' d' l') s s' = absurd (none_some c')
  prim_same (prim_to _ _) (prim_call c' d' l') s s' = absurd (none_some c')
  prim_same prim_cv (prim_call c' d' l') s s' = absurd (none_some c')
  prim_same prim_cv_name (prim_call c' d' l') s s' = absurd (none_some c')
  prim_same prim_turn (prim_call c' d' l') s s' = absurd (none_some c')
  prim_same (prim_previous _) (prim_call c' d' l') s s' = absurd (none_some c')
  prim_same (prim_presentv _ _ _) (prim_call c' d' l') s s' = absurd (none_some c')
  prim_same (prim_presentnnv _ _ _) (prim_call c' d' l') s s' = absurd (none_some c')
  prim_same (prim_to {n = n} d i) (prim_to {n = n'} d' i') s s' =
      let p = expr_same d d' (omega arith) (omega arith) in
      let m : n ≡ n' = cc in
      (cc, cc)
  prim_same prim_cv prim_cv s s' = (refl, refl)
  prim_same prim_cv_name prim_cv_name s s' = (refl, refl)
  prim_same prim_turn prim_turn s s' = (refl, refl)
  prim_same (prim_previous d) (prim_previous d') s s' = let p = expr_same d d' (omega arith) (omega arith) in (cc, cut p.1)
  prim_same (prim_presentv d f g) (prim_presentv d' f' g') s s' =
      let p = expr_same d d' (omega arith) (omega arith) in
      let q = expr_same f (begin Expr (cut p.1) f') (omega arith) (omega arith) in
      let r = expr_same g (begin Expr (cut q.1) g') (omega arith) (omega arith) in
      (cc, cut r.1)
  prim_same (prim_presentnnv d f g) (prim_presentnnv d' f' g') s s' =
      let p = expr_same d d' (omega arith) (omega arith) in
      let q = expr_same f (begin Expr (cut p.1) f') (omega arith) (omega arith) in
      let r = expr_same g (begin Expr (cut q.1) g') (omega arith) (omega arith) in
      (cc, cut r.1)

  pub brackets_same : {ps ps' : List Place} {from to to' : List Tok} → Brackets ps from to → Brackets ps' from to' → Same ps ps' to to'
  brackets_same (brackets d ds) (brackets d' ds') =
      let p = place_same d d' (places_stop ds (omega arith, λ e. cc)) (places_stop ds' (omega arith, λ e. cc)) in
      let q = places_same ds (begin MorePlaces p.1 ds') (omega arith, λ e. cc) (omega arith, λ e. cc) in
      (cc, cut q.1)

  pub places_same : {ps ps' : List Place} {from to to' : List Tok} → MorePlaces ps from to → MorePlaces ps' from to' → Ends (terminal.Sign sign.Comma) to → Ends (terminal.Sign sign.Comma) to' → Same ps ps' to to'
  places_same places_end places_end s s' = (refl, refl)
  places_same places_end (places_more d ds) s s' = absurd (s.1 refl)
  places_same (places_more d ds) places_end s s' = absurd (s'.1 refl)
  places_same (places_more d ds) (places_more d' ds') s s' =
      let p = place_same d d' (places_stop ds s) (places_stop ds' s') in
      let q = places_same ds (begin MorePlaces p.1 ds') s s' in
      (cc, q.1)

  pub place_same : {p p' : Place} {from to to' : List Tok} → PlaceE p from to → PlaceE p' from to' → Stops level.EXPRESSION to → Stops level.EXPRESSION to' → Same p p' to to'
  place_same place_any place_any s s' = (refl, refl)
  place_same place_any (place_expr d') s s' = absurd (expr_no_any d')
  place_same (place_expr d) place_any s s' = absurd (expr_no_any d)
  place_same (place_expr d) (place_expr d') s s' = let p = expr_same d d' s s' in (cc, p.1)

  pub case_same : {c c' : Option E} {from to to' : List Tok} → CaseE c from to → CaseE c' from to' → terminal_at to ≡ terminal.Word word.When → terminal_at to' ≡ terminal.Word word.When → Same c c' to to'
  case_same case_none case_none w w' = (refl, refl)
  case_same case_none (case_some d') w w' = absurd (expr_no_when d' w)
  case_same (case_some d) case_none w w' = absurd (expr_no_when d w')
  case_same (case_some d) (case_some d') w w' = let p = expr_same d d' (stops_when _ w) (stops_when _ w') in (cc, p.1)

  pub whens_same : {xs xs' : List Arm} {from to to' : List Tok} → Whens xs from to → Whens xs' from to' → Ends (terminal.Word word.When) to → Ends (terminal.Word word.When) to' → Same xs xs' to to'
  whens_same whens_end whens_end s s' = (refl, refl)
  whens_same whens_end (whens_more d f ds) s s' = absurd (s.1 refl)
  whens_same (whens_more d f ds) whens_end s s' = absurd (s'.1 refl)
  whens_same (whens_more d f ds) (whens_more d' f' ds') s s' =
      let p = expr_same d d' (omega arith) (omega arith) in
      let q = expr_same f (begin Expr (cut p.1) f') (whens_stop ds s) (whens_stop ds' s') in
      let r = whens_same ds (begin Whens q.1 ds') s s' in
      (cc, r.1)

  pub else_same : {o o' : Option E} {from to to' : List Tok} → ElseE o from (Word word.End ∷ to) → ElseE o' from (Word word.End ∷ to') → Same o o' (Word word.End ∷ to) (Word word.End ∷ to')
  else_same else_none else_none = (refl, refl)
  else_same (else_some d) (else_some d') = let p = expr_same d d' (omega arith) (omega arith) in (cc, p.1)

-- an expression up to a closing bracket
pub closed_same : {a a' : E} {from to to' : List Tok} → Expr a from (closer ∷ to) → Expr a' from (closer ∷ to') → Same a a' to to'
closed_same d d' = let p = expr_same d d' (omega arith) (omega arith) in (p.0, cut p.1)
