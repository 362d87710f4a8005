-- Where a part of the grammar of expressions reads nothing, by its parts. All of it is about lists of tokens.
use Rattle.std.proofs.Common.{◌≢◌, ◌<◌, ◌≤◌, Bool, true, false, List, [], ◌∷◌, refl, ap, arith}
use Rattle.mq_values.specs.declared.operators.SumOp.{SumOp}
use Rattle.mq_values.specs.declared.operators.ProdOp.{ProdOp}
use Rattle.mq_values.specs.declared.operators.CmpOp.{CmpOp}
use Rattle.mq_ast.specs.declared.expressions.E.{E}
use Rattle.mq_ast.specs.declared.expressions.E.TheVariants as tree
use Rattle.mq_ast.specs.declared.expressions.Place.{Place}
use Rattle.mq_lexer.specs.declared.keywords.Keyword.TheVariants as word
use Rattle.mq_lexer.specs.declared.terminals.Symbol.TheVariants as sign
use Rattle.mq_lexer.specs.declared.terminals.Terminal.{Terminal}
use Rattle.mq_lexer.specs.declared.terminals.Terminal.TheVariants as terminal
use Rattle.mq_ast.specs.Tokens.{Tok, Word, Sign, terminal_at, opener, open_square, comma, minus}
use Rattle.mq_ast.specs.declared.levels.TheConstants as level
use Rattle.mq_ast.specs.Continuing.{loose, Stops, Not, Ends}
use Rattle.mq_ast.specs.GrammarExpression.{Expr, MoreOr, AndE, MoreAnd, NotE, TestE, TestTail, Tuple, Exprs, MoreExprs, SumE, MoreSum, ProdE, MoreProd, SignE, PrimE, Brackets, MorePlaces, PlaceE, expr, or_end, or_more, and, and_end, and_more, not_plain, not_not, test, tail_none, tail_cmp, tail_between, tail_not_between, tail_in, tail_not_in, tuple, exprs, exprs_end, exprs_more, sum, sum_end, sum_more, prod, prod_end, prod_more, sign_plain, sign_minus, brackets, places_end, places_more, place_any, place_expr}
use Rattle.mq_ast.specs.Laws.{begin, cut}
use Rattle.mq_ast.specs.Laws.{begin_tail, or_stop, and_stop, tail_stop, sum_stop, prod_stop, exprs_stop, places_stop, prim_no_minus, test_no_not, expr_no_any, expr_same, and_same, not_same, sum_same, prod_same, sign_same, tuple_same, exprs_same, place_same, places_same}
use Rattle.mq_parse_words.specs.Reading.{No, Anywhere}
use Rattle.mq_parse_words.specs.Fronts.{Since, cmp_front, between_front, in_front, not_front}

-- a primary expression alone, as the levels above it
pub lone_prod : {a : E} {ts us : List Tok} → PrimE a ts us → ProdE a ts us
lone_prod d = prod (sign_plain d) prod_end

pub lone_expr : {a : E} {ts us : List Tok} → PrimE a ts us → Expr a ts us
lone_expr d = expr (and (not_plain (test (sum (lone_prod d) sum_end) tail_none)) and_end) or_end

-- and {OR and}
pub or_no_first : {ts : List Tok} → No AndE (Stops level.CONJUNCTION) ts → No Expr (Stops level.EXPRESSION) ts
or_no_first h a to (expr d ds) s = h _ _ d (or_stop ds s)

pub or_no_others : {x : E} {ts mid : List Tok} → AndE x ts mid → Stops level.CONJUNCTION mid → No MoreOr (Stops level.EXPRESSION) mid → No Expr (Stops level.EXPRESSION) ts
or_no_others e r h a to (expr d ds) s = let p = and_same e d r (or_stop ds s) in h _ _ (begin MoreOr p.1 ds) s

pub or_no_next : {ts : List Tok} → No AndE (Stops level.CONJUNCTION) ts → No MoreOr (Stops level.EXPRESSION) (Word word.Or ∷ ts)
or_no_next h a to or_end s = absurd (omega arith)
or_no_next h a to (or_more d ds) s = h _ _ d (or_stop ds s)

pub or_no_more : {x : E} {ts mid : List Tok} → AndE x ts mid → Stops level.CONJUNCTION mid → No MoreOr (Stops level.EXPRESSION) mid → No MoreOr (Stops level.EXPRESSION) (Word word.Or ∷ ts)
or_no_more e r h a to or_end s = absurd (omega arith)
or_no_more e r h a to (or_more d ds) s = let p = and_same e d r (or_stop ds s) in h _ _ (begin MoreOr p.1 ds) s

-- not {AND not}
pub and_no_first : {ts : List Tok} → No NotE (Stops level.TEST) ts → No AndE (Stops level.CONJUNCTION) ts
and_no_first h a to (and d ds) s = h _ _ d (and_stop ds s)

pub and_no_others : {x : E} {ts mid : List Tok} → NotE x ts mid → Stops level.TEST mid → No MoreAnd (Stops level.CONJUNCTION) mid → No AndE (Stops level.CONJUNCTION) ts
and_no_others e r h a to (and d ds) s = let p = not_same e d r (and_stop ds s) in h _ _ (begin MoreAnd p.1 ds) s

pub and_no_next : {ts : List Tok} → No NotE (Stops level.TEST) ts → No MoreAnd (Stops level.CONJUNCTION) (Word word.And ∷ ts)
and_no_next h a to and_end s = absurd (omega arith)
and_no_next h a to (and_more d ds) s = h _ _ d (and_stop ds s)

pub and_no_more : {x : E} {ts mid : List Tok} → NotE x ts mid → Stops level.TEST mid → No MoreAnd (Stops level.CONJUNCTION) mid → No MoreAnd (Stops level.CONJUNCTION) (Word word.And ∷ ts)
and_no_more e r h a to and_end s = absurd (omega arith)
and_no_more e r h a to (and_more d ds) s = let p = not_same e d r (and_stop ds s) in h _ _ (begin MoreAnd p.1 ds) s

-- prod {(+ | - | vbars) prod}
pub sum_no_first : {ts : List Tok} → No ProdE (Stops level.PRODUCT) ts → No SumE (Stops level.SUM) ts
sum_no_first h a to (sum d ds) s = h _ _ d (sum_stop ds s)

pub sum_no_others : {x : E} {ts mid : List Tok} → ProdE x ts mid → Stops level.PRODUCT mid → No MoreSum (Stops level.SUM) mid → No SumE (Stops level.SUM) ts
sum_no_others e r h a to (sum d ds) s = let p = prod_same e d r (sum_stop ds s) in h _ _ (begin MoreSum p.1 ds) s

pub sum_no_next : {op : SumOp} {ts : List Tok} → No ProdE (Stops level.PRODUCT) ts → No MoreSum (Stops level.SUM) (Sign (sign.Sum op) ∷ ts)
sum_no_next h a to sum_end s = absurd (omega arith)
sum_no_next h a to (sum_more d ds) s = h _ _ d (sum_stop ds s)

pub sum_no_more : {op : SumOp} {x : E} {ts mid : List Tok} → ProdE x ts mid → Stops level.PRODUCT mid → No MoreSum (Stops level.SUM) mid → No MoreSum (Stops level.SUM) (Sign (sign.Sum op) ∷ ts)
sum_no_more e r h a to sum_end s = absurd (omega arith)
sum_no_more e r h a to (sum_more d ds) s = let p = prod_same e d r (sum_stop ds s) in h _ _ (begin MoreSum p.1 ds) s

-- sign {(* | /) sign}
pub prod_no_first : {ts : List Tok} → No SignE (Stops level.PRIMARY) ts → No ProdE (Stops level.PRODUCT) ts
prod_no_first h a to (prod d ds) s = h _ _ d (prod_stop ds s)

pub prod_no_others : {x : E} {ts mid : List Tok} → SignE x ts mid → Stops level.PRIMARY mid → No MoreProd (Stops level.PRODUCT) mid → No ProdE (Stops level.PRODUCT) ts
prod_no_others e r h a to (prod d ds) s = let p = sign_same e d r (prod_stop ds s) in h _ _ (begin MoreProd p.1 ds) s

pub prod_no_next : {op : ProdOp} {ts : List Tok} → No SignE (Stops level.PRIMARY) ts → No MoreProd (Stops level.PRODUCT) (Sign (sign.Prod op) ∷ ts)
prod_no_next h a to prod_end s = absurd (omega arith)
prod_no_next h a to (prod_more d ds) s = h _ _ d (prod_stop ds s)

pub prod_no_more : {op : ProdOp} {x : E} {ts mid : List Tok} → SignE x ts mid → Stops level.PRIMARY mid → No MoreProd (Stops level.PRODUCT) mid → No MoreProd (Stops level.PRODUCT) (Sign (sign.Prod op) ∷ ts)
prod_no_more e r h a to prod_end s = absurd (omega arith)
prod_no_more e r h a to (prod_more d ds) s = let p = sign_same e d r (prod_stop ds s) in h _ _ (begin MoreProd p.1 ds) s

-- e {, e}
pub exprs_no_first : {ts : List Tok} → No Expr (Stops level.EXPRESSION) ts → No Exprs (Ends (terminal.Sign sign.Comma)) ts
exprs_no_first h a to (exprs d ds) s = h _ _ d (exprs_stop ds s)

pub exprs_no_others : {x : E} {ts mid : List Tok} → Expr x ts mid → Stops level.EXPRESSION mid → No MoreExprs (Ends (terminal.Sign sign.Comma)) mid → No Exprs (Ends (terminal.Sign sign.Comma)) ts
exprs_no_others e r h a to (exprs d ds) s = let p = expr_same e d r (exprs_stop ds s) in h _ _ (begin MoreExprs p.1 ds) s

pub exprs_no_next : {ts : List Tok} → No Expr (Stops level.EXPRESSION) ts → No MoreExprs (Ends (terminal.Sign sign.Comma)) (comma ∷ ts)
exprs_no_next h a to exprs_end s = s.1 refl
exprs_no_next h a to (exprs_more d ds) s = h _ _ d (exprs_stop ds s)

pub exprs_no_more : {x : E} {ts mid : List Tok} → Expr x ts mid → Stops level.EXPRESSION mid → No MoreExprs (Ends (terminal.Sign sign.Comma)) mid → No MoreExprs (Ends (terminal.Sign sign.Comma)) (comma ∷ ts)
exprs_no_more e r h a to exprs_end s = s.1 refl
exprs_no_more e r h a to (exprs_more d ds) s = let p = expr_same e d r (exprs_stop ds s) in h _ _ (begin MoreExprs p.1 ds) s

-- (ANY | e) {, (ANY | e)}
pub places_no_next : {ts : List Tok} → No PlaceE (Stops level.EXPRESSION) ts → No MorePlaces (Ends (terminal.Sign sign.Comma)) (comma ∷ ts)
places_no_next h a to places_end s = s.1 refl
places_no_next h a to (places_more d ds) s = h _ _ d (places_stop ds s)

pub places_no_more : {x : Place} {ts mid : List Tok} → PlaceE x ts mid → Stops level.EXPRESSION mid → No MorePlaces (Ends (terminal.Sign sign.Comma)) mid → No MorePlaces (Ends (terminal.Sign sign.Comma)) (comma ∷ ts)
places_no_more e r h a to places_end s = s.1 refl
places_no_more e r h a to (places_more d ds) s = let p = place_same e d r (places_stop ds s) in h _ _ (begin MorePlaces p.1 ds) s

-- [NOT] test
pub not_no_not : {ts : List Tok} → No TestE (Stops level.TEST) ts → No NotE (Stops level.TEST) (Word word.Not ∷ ts)
not_no_not h a to (not_plain d) s = absurd (test_no_not d)
not_no_not h a to (not_not d) s = h _ _ d s

pub not_no_plain : {ts : List Tok} → Not (terminal.Word word.Not) ts → No TestE (Stops level.TEST) ts → No NotE (Stops level.TEST) ts
not_no_plain n h a to (not_plain d) s = h _ _ d s
not_no_plain n h a to (not_not d) s = n refl

-- ['-'] prim
pub sign_no_minus : {ts : List Tok} → No PrimE (Stops level.PRIMARY) ts → No SignE (Stops level.PRIMARY) (minus ∷ ts)
sign_no_minus h a to (sign_plain d) s = absurd (prim_no_minus d)
sign_no_minus h a to (sign_minus d) s = h _ _ d s

pub sign_no_plain : {ts : List Tok} → Not (terminal_at (minus ∷ [])) ts → No PrimE (Stops level.PRIMARY) ts → No SignE (Stops level.PRIMARY) ts
sign_no_plain n h a to (sign_plain d) s = h _ _ d s
sign_no_plain n h a to (sign_minus d) s = n refl

-- a test
pub test_no_first : {ts : List Tok} → No SumE (Stops level.SUM) ts → No TestE (Stops level.TEST) ts
test_no_first h a to (test d t) s = h _ _ d (tail_stop t s)

pub test_no_tail : {x : E} {ts mid : List Tok} → SumE x ts mid → Stops level.SUM mid → No (TestTail x) (Stops level.TEST) mid → No TestE (Stops level.TEST) ts
test_no_tail {x} {ts} {mid} e r h a to (test {b} d t) s =
    let p = sum_same e d r (tail_stop t s) in
    h _ _ (begin_tail p.0 p.1 t) s

-- a comparison behind its sign
pub cmp_no_sum : {op : CmpOp} {x : E} {ts : List Tok} → No SumE (Stops level.SUM) ts → No (Since (cmp_front op) x) (Stops level.TEST) ts
cmp_no_sum h b to tail_none s = absurd (omega arith)
cmp_no_sum h b to (tail_cmp d) s = h _ _ d (omega arith)

pub cmp_no_end : {op : CmpOp} {x b : E} {ts : List Tok} (mid : List Tok) → SumE b ts mid → Stops level.SUM mid → loose (terminal_at mid) ≤ level.TEST → No (Since (cmp_front op) x) (Stops level.TEST) ts
cmp_no_end mid e r l b to tail_none s = absurd (omega arith)
cmp_no_end mid e r l b to (tail_cmp d) s =
    let p = sum_same e d r (omega arith) in
    let k = ap (λ x. loose (terminal_at x)) p.1 in absurd (omega arith)

-- BETWEEN behind it
pub between_no_low : (not : Bool) {x : E} {ts : List Tok} → No SumE (Stops level.SUM) ts → No (Since (between_front not) x) (Stops level.TEST) ts
between_no_low false h b to tail_none s = absurd (omega arith)
between_no_low false h b to (tail_between d f) s = h _ _ d (omega arith)
between_no_low true h b to tail_none s = absurd (omega arith)
between_no_low true h b to (tail_not_between d f) s = h _ _ d (omega arith)

pub between_no_and : (not : Bool) {x a : E} {ts mid : List Tok} → SumE a ts mid → Stops level.SUM mid → Not (terminal.Word word.And) mid → No (Since (between_front not) x) (Stops level.TEST) ts
between_no_and false e r n b to tail_none s = absurd (omega arith)
between_no_and false e r n b to (tail_between d f) s = let p = sum_same e d r (omega arith) in n (ap terminal_at p.1)
between_no_and true e r n b to tail_none s = absurd (omega arith)
between_no_and true e r n b to (tail_not_between d f) s = let p = sum_same e d r (omega arith) in n (ap terminal_at p.1)

pub between_no_high : (not : Bool) {x a : E} {ts mid : List Tok} → SumE a ts (Word word.And ∷ mid) → No SumE (Stops level.SUM) mid → No (Since (between_front not) x) (Stops level.TEST) ts
between_no_high false e h b to tail_none s = absurd (omega arith)
between_no_high false e h b to (tail_between d f) s =
    let p = sum_same e d (omega arith) (omega arith) in h _ _ (begin SumE (cut p.1) f) (omega arith)
between_no_high true e h b to tail_none s = absurd (omega arith)
between_no_high true e h b to (tail_not_between d f) s =
    let p = sum_same e d (omega arith) (omega arith) in h _ _ (begin SumE (cut p.1) f) (omega arith)

pub between_no_end : (not : Bool) {x a c : E} {ts mid : List Tok} (end : List Tok) → SumE a ts (Word word.And ∷ mid) → SumE c mid end → Stops level.SUM end → loose (terminal_at end) ≤ level.TEST → No (Since (between_front not) x) (Stops level.TEST) ts
between_no_end false end e g r l b to tail_none s = absurd (omega arith)
between_no_end false end e g r l b to (tail_between d f) s =
    let p = sum_same e d (omega arith) (omega arith) in
    let q = sum_same g (begin SumE (cut p.1) f) r (omega arith) in
    let k = ap (λ x. loose (terminal_at x)) q.1 in absurd (omega arith)
between_no_end true end e g r l b to tail_none s = absurd (omega arith)
between_no_end true end e g r l b to (tail_not_between d f) s =
    let p = sum_same e d (omega arith) (omega arith) in
    let q = sum_same g (begin SumE (cut p.1) f) r (omega arith) in
    let k = ap (λ x. loose (terminal_at x)) q.1 in absurd (omega arith)

-- IN behind it
pub in_no_tuple : (not : Bool) {x : E} {ts : List Tok} → No Tuple Anywhere ts → No (Since (in_front not) x) (Stops level.TEST) ts
in_no_tuple false h b to tail_none s = absurd (omega arith)
in_no_tuple false h b to (tail_in d) s = h _ _ d tt
in_no_tuple true h b to tail_none s = absurd (omega arith)
in_no_tuple true h b to (tail_not_in d) s = h _ _ d tt

pub in_no_end : (not : Bool) {x : E} {xs : List E} {ts : List Tok} (end : List Tok) → Tuple xs ts end → loose (terminal_at end) ≤ level.TEST → No (Since (in_front not) x) (Stops level.TEST) ts
in_no_end false end e l b to tail_none s = absurd (omega arith)
in_no_end false end e l b to (tail_in d) s =
    let p = tuple_same e d in let k = ap (λ x. loose (terminal_at x)) p.1 in absurd (omega arith)
in_no_end true end e l b to tail_none s = absurd (omega arith)
in_no_end true end e l b to (tail_not_in d) s =
    let p = tuple_same e d in let k = ap (λ x. loose (terminal_at x)) p.1 in absurd (omega arith)

-- NOT, and neither of the two behind it
pub not_no_other : {x : E} {ts : List Tok} → Not (terminal.Word word.Between) ts → Not (terminal.Word word.In) ts → No (Since not_front x) (Stops level.TEST) ts
not_no_other m n b to tail_none s = absurd (omega arith)
not_no_other m n b to (tail_not_between d f) s = m refl
not_no_other m n b to (tail_not_in d) s = n refl

-- a list between brackets
pub tuple_no_open : {ts : List Tok} → Not (terminal.Sign sign.Open) ts → No Tuple Anywhere ts
tuple_no_open n a to (tuple d) s = n refl

pub tuple_no_list : {ts : List Tok} → No Exprs (Ends (terminal.Sign sign.Comma)) ts → No Tuple Anywhere (opener ∷ ts)
tuple_no_list h a to (tuple d) s = h _ _ d (omega arith, λ e. cc)

pub tuple_no_close : {xs : List E} {ts mid : List Tok} → Exprs xs ts mid → Ends (terminal.Sign sign.Comma) mid → Not (terminal.Sign sign.Close) mid → No Tuple Anywhere (opener ∷ ts)
tuple_no_close e r n a to (tuple d) s = let p = exprs_same e d r (omega arith, λ e. cc) in n (ap terminal_at p.1)

-- places between square brackets
pub brackets_no_open : {ts : List Tok} → Not (terminal.Sign sign.OpenSquare) ts → No Brackets Anywhere ts
brackets_no_open n a to (brackets d ds) s = n refl

pub brackets_no_first : {ts : List Tok} → No PlaceE (Stops level.EXPRESSION) ts → No Brackets Anywhere (open_square ∷ ts)
brackets_no_first h a to (brackets d ds) s = h _ _ d (places_stop ds (omega arith, λ e. cc))

pub brackets_no_others : {x : Place} {ts mid : List Tok} → PlaceE x ts mid → Stops level.EXPRESSION mid → No MorePlaces (Ends (terminal.Sign sign.Comma)) mid → No Brackets Anywhere (open_square ∷ ts)
brackets_no_others e r h a to (brackets d ds) s =
    let p = place_same e d r (places_stop ds (omega arith, λ e. cc)) in
    h _ _ (begin MorePlaces p.1 ds) (omega arith, λ e. cc)

pub brackets_no_close : {x : Place} {xs : List Place} {ts mid end : List Tok} → PlaceE x ts mid → Stops level.EXPRESSION mid → MorePlaces xs mid end → Ends (terminal.Sign sign.Comma) end → Not (terminal.Sign sign.CloseSquare) end → No Brackets Anywhere (open_square ∷ ts)
brackets_no_close e r f q n a to (brackets d ds) s =
    let p = place_same e d r (places_stop ds (omega arith, λ e. cc)) in
    let u = places_same f (begin MorePlaces p.1 ds) q (omega arith, λ e. cc) in n (ap terminal_at u.1)

-- ANY or an expression
pub place_no_end : {ts : List Tok} → loose (terminal_at ts) ≤ level.EXPRESSION → No PlaceE (Stops level.EXPRESSION) (Word word.Any ∷ ts)
place_no_end l a to place_any s = absurd (omega arith)
place_no_end l a to (place_expr d) s = absurd (expr_no_any d)

pub place_no_expr : {ts : List Tok} → Not (terminal.Word word.Any) ts → No Expr (Stops level.EXPRESSION) ts → No PlaceE (Stops level.EXPRESSION) ts
place_no_expr n h a to place_any s = n refl
place_no_expr n h a to (place_expr d) s = h _ _ d s

-- one more kind of token that does not go on
pub stops_or : (s : Terminal) → level.CONJUNCTION < loose s → s ≢ terminal.Word word.Or → level.EXPRESSION < loose s
stops_or (terminal.Word word.Or) l n = absurd (n refl)
stops_or (terminal.Word word.Abs) l n = omega arith
stops_or (terminal.Sign (sign.Cmp _)) l n = omega arith
stops_or (terminal.Sign (sign.Sum _)) l n = omega arith
stops_or (terminal.Sign (sign.Prod _)) l n = omega arith
stops_or _ l n = omega arith

pub stops_and : (s : Terminal) → level.TEST < loose s → s ≢ terminal.Word word.And → level.CONJUNCTION < loose s
stops_and (terminal.Word word.And) l n = absurd (n refl)
stops_and (terminal.Word word.Abs) l n = omega arith
stops_and (terminal.Sign (sign.Cmp _)) l n = omega arith
stops_and (terminal.Sign (sign.Sum _)) l n = omega arith
stops_and (terminal.Sign (sign.Prod _)) l n = omega arith
stops_and _ l n = omega arith

pub stops_sum : (s : Terminal) → level.PRODUCT < loose s → ((op : SumOp) → s ≢ terminal.Sign (sign.Sum op)) → level.SUM < loose s
stops_sum (terminal.Sign (sign.Sum op)) l n = absurd (n op refl)
stops_sum (terminal.Word word.Abs) l n = omega arith
stops_sum (terminal.Sign (sign.Cmp _)) l n = omega arith
stops_sum (terminal.Sign (sign.Prod _)) l n = omega arith
stops_sum _ l n = omega arith

pub stops_prod : (s : Terminal) → level.PRIMARY < loose s → ((op : ProdOp) → s ≢ terminal.Sign (sign.Prod op)) → level.PRODUCT < loose s
stops_prod (terminal.Sign (sign.Prod op)) l n = absurd (n op refl)
stops_prod (terminal.Word word.Abs) l n = omega arith
stops_prod (terminal.Sign (sign.Cmp _)) l n = omega arith
stops_prod (terminal.Sign (sign.Sum _)) l n = omega arith
stops_prod _ l n = omega arith

-- a test by BETWEEN or IN
pub between_tail : (not : Bool) {x a b : E} {ts mid to : List Tok} → SumE a ts (Word word.And ∷ mid) → SumE b mid to → TestTail x (tree.Between x not a b) (between_front not ts) to
between_tail false d f = tail_between d f
between_tail true d f = tail_not_between d f

pub in_tail : (not : Bool) {x : E} {xs : List E} {ts to : List Tok} → Tuple xs ts to → TestTail x (tree.InList x not xs) (in_front not ts) to
in_tail false d = tail_in d
in_tail true d = tail_not_in d
