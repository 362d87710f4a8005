-- Primary expressions: where they read nothing, by their parts.
use Rattle.std.proofs.lemmas.Bool.Decides.{eqb_tells}
use Rattle.std.proofs.Common.{◌≡◌, ◌≢◌, ◌==◌, if◌then◌else◌, Bool, true, false, ◌⊎◌, inl, inr, ℕ, ◌≤◌, List, [], ◌∷◌, length, refl, sym, ap, ◌∙◌, subst, arith}
use Rattle.std.specs.Prelude.{Option, Some, None, Result}
use Rattle.mq_values.specs.declared.memory.Fail.{Fail}
use Rattle.mq_values.specs.declared.faults.Refused.{Refused}
use Rattle.mq_lexer.specs.declared.sorts.Token.{Token}
use Rattle.mq_values.specs.Number.{Number}
use Rattle.mq_values.specs.declared.value.Kind.{Kind}
use Rattle.mq_values.specs.declared.operators.Agg.{Agg}
use Rattle.mq_values.specs.declared.operators.Agg.TheVariants as agg
use Rattle.mq_values.specs.declared.operators.Func.{Func}
use Rattle.mq_values.specs.declared.operators.Func.TheVariants as func
use Rattle.mq_ast.specs.declared.expressions.E.{E}
use Rattle.mq_ast.specs.declared.expressions.E.TheVariants as e
use Rattle.mq_ast.specs.declared.expressions.Path.{Path}
use Rattle.mq_ast.specs.declared.expressions.Place.{Place}
use Rattle.mq_ast.specs.declared.expressions.Arm.{Arm}
use Rattle.mq_lexer.specs.declared.keywords.Keyword.{Keyword}
use Rattle.mq_lexer.specs.declared.keywords.Keyword.TheVariants as word
use Rattle.mq_lexer.specs.declared.terminals.Symbol.TheVariants as sign
use Rattle.mq_lexer.specs.declared.terminals.Terminal.{Terminal}
use Rattle.mq_lexer.specs.declared.terminals.Terminal.TheVariants as terminal
use Rattle.mq_ast.specs.Tokens.{Tok, Word, Aggregate, Sign, Name, terminal_at, rest_of, opener, closer, star}
use Rattle.mq_ast.specs.declared.levels.TheConstants as level
use Rattle.mq_ast.specs.Continuing.{loose, Stops, Not, Ends}
use Rattle.mq_ast.specs.Calls.{call_of}
use Rattle.mq_ast.specs.GrammarNames.{PathE, KindE, scale_of}
use Rattle.mq_ast.specs.GrammarExpression.{Expr, Tuple, Brackets, CaseE, Whens, ElseE, tuple, exprs, exprs_end, exprs_more, case_none, case_some, else_none, else_some, PrimE, prim_num, prim_text, prim_null, prim_date, prim_path, prim_cell, prim_round, prim_agg, prim_count, prim_range, prim_case, prim_cast, prim_call, prim_to, prim_cv, prim_cv_name, prim_turn, prim_previous, prim_presentv, prim_presentnnv}
use Rattle.mq_ast.specs.Laws.{Same, begin, cut, none_some, one_call}
use Rattle.mq_ast.specs.Laws.{brackets_front, brackets_stop, whens_front, else_stop, expr_no_star, name_ends, no_square, path_same, kind_same, day_same, stops_when, expr_same, tuple_same, brackets_same, case_same, whens_same, else_same, closed_same}
use Rattle.mq_parse_words.specs.declared.forms.Form.{Form}
use Rattle.mq_parse_words.specs.declared.forms.Form.TheVariants as form
use Rattle.mq_parse_words.specs.Reading.{No, Anywhere, IsRead}
use Rattle.mq_parse_words.specs.Forms.{form_of_word, form_of, asked, called_by, called, IsClosed}
use Rattle.mq_parse_words.specs.Fronts.{Behind, RoundE, round, NoAll, NoCells, CellsOf, AsKind, as_kind, ToScale, to_scale, AtWhen, SomeWhens, ElseEnd}

-- a primary expression begins with a form
pub prim_form : {a : E} {ts to : List Tok} → PrimE a ts to → form.Other ≡ form_of (terminal_at ts) → ⊥
prim_form prim_num e = cc
prim_form prim_text e = cc
prim_form prim_null e = cc
prim_form (prim_date d) e = cc
prim_form (prim_path d) e = cc
prim_form (prim_cell d b) e = cc
prim_form (prim_round d) e = cc
prim_form (prim_agg d) e = cc
prim_form prim_count e = cc
prim_form (prim_range b) e = cc
prim_form (prim_case c ds o) e = cc
prim_form (prim_cast d k) e = cc
prim_form (prim_to d i) e = cc
prim_form (prim_call {k = k} c d l) e =
    let P : Option (Func × ℕ) → Type 0 = λ o. form.Other ≡ form_of_word o k → ⊥ in subst P (sym c) (λ i. cc) e
prim_form prim_cv e = cc
prim_form prim_cv_name e = cc
prim_form prim_turn e = cc
prim_form (prim_previous d) e = cc
prim_form (prim_presentv d f g) e = cc
prim_form (prim_presentnnv d f g) e = cc

-- '(' e ')'
pub round_no_open : {ts : List Tok} → Not (terminal.Sign sign.Open) ts → No RoundE Anywhere ts
round_no_open n a to (round d) s = n refl

pub round_no_inner : {ts : List Tok} → No Expr (Stops level.EXPRESSION) ts → No RoundE Anywhere (opener ∷ ts)
round_no_inner h a to (round d) s = h _ _ d (omega arith)

pub round_no_close : {x : E} {ts mid : List Tok} → Expr x ts mid → Stops level.EXPRESSION mid → Not (terminal.Sign sign.Close) mid → No RoundE Anywhere (opener ∷ ts)
round_no_close e r n a to (round d) s = let p = expr_same e d r (omega arith) in n (ap terminal_at p.1)

round_same : {x y : E} {ts to to' : List Tok} → RoundE x ts to → RoundE y ts to' → Same x y to to'
round_same (round d) (round d') = closed_same d d'

pub prim_rounded : {a : E} {ts to : List Tok} → RoundE a ts to → PrimE a ts to
prim_rounded (round d) = prim_round d

pub prim_no_round : {us : List Tok} → No RoundE Anywhere (opener ∷ us) → No PrimE Anywhere (opener ∷ us)
prim_no_round h a to (prim_round d) s = h _ _ (round d) tt

-- a word that calls a function begins nothing else
prim_called : {k : Keyword} {f : Func} {n : ℕ} {a : E} {ts to : List Tok} → call_of k ≡ Some (f, n) → PrimE a (Word k ∷ ts) to → (xs : List E) × Tuple xs ts to × (a ≡ e.Call f xs)
prim_called c (prim_call {xs = xs} c' d l) = let i = one_call c c' in (xs, d, cc)
prim_called c prim_null = absurd (none_some c)
prim_called c (prim_date _) = absurd (none_some c)
prim_called c (prim_case _ _ _) = absurd (none_some c)
prim_called c (prim_cast _ _) = absurd (none_some c)
prim_called c (prim_to _ _) = absurd (none_some c)
prim_called c prim_cv = absurd (none_some c)
prim_called c prim_cv_name = absurd (none_some c)
prim_called c prim_turn = absurd (none_some c)
prim_called c (prim_previous _) = absurd (none_some c)
prim_called c (prim_presentv _ _ _) = absurd (none_some c)
prim_called c (prim_presentnnv _ _ _) = absurd (none_some c)

-- primary expressions that end with a token of their own
pub closed_prim_same : {a a' : E} {ts to to' : List Tok} → IsClosed (form_of (terminal_at ts)) → PrimE a ts to → PrimE a' ts to' → Same a a' to to'
closed_prim_same i (prim_call c d l) d' =
    let q = prim_called c d' in
    let p = tuple_same d q.1 in
    (cc, p.1)
closed_prim_same i d (prim_call c' d' l') =
    let q = prim_called c' d in
    let p = tuple_same q.1 d' in
    (cc, p.1)
closed_prim_same i prim_num prim_num = (refl, refl)
closed_prim_same i prim_text prim_text = (refl, refl)
closed_prim_same i prim_null prim_null = (refl, refl)
closed_prim_same i (prim_date d) (prim_date d') = let p = day_same d d' in (cc, p.1)
closed_prim_same i (prim_path d) d' = absurd i
closed_prim_same i (prim_cell d b) d' = absurd i
closed_prim_same i (prim_agg d) d' = absurd i
closed_prim_same i prim_count d' = absurd i
closed_prim_same i (prim_range b) d' = absurd i
closed_prim_same i (prim_round d) (prim_round d') = closed_same d d'
closed_prim_same i (prim_case c ds o) (prim_case c' ds' o') =
    let p = case_same c c' (whens_front ds) (whens_front ds') in
    let q = whens_same ds (begin Whens p.1 ds') (else_stop o) (else_stop o') in
    let r = else_same o (begin ElseE q.1 o') in
    (cc, cut r.1)
closed_prim_same i (prim_cast d k) (prim_cast d' k') =
    let p = expr_same d d' (omega arith) (omega arith) in
    let q = kind_same k (begin KindE (cut p.1) k') in
    (cc, cut q.1)
closed_prim_same i (prim_to {n = n} d k) (prim_to {n = n'} d' k') =
    let p = expr_same d d' (omega arith) (omega arith) in
    let m : n ≡ n' = cc in
    (cc, cc)
closed_prim_same i prim_cv prim_cv = (refl, refl)
closed_prim_same i prim_cv_name prim_cv_name = (refl, refl)
closed_prim_same i prim_turn prim_turn = (refl, refl)
closed_prim_same i (prim_previous d) (prim_previous d') = let p = closed_same d d' in (cc, p.1)
closed_prim_same i (prim_presentv d f g) (prim_presentv d' f' g') =
    let p = expr_same d d' (omega arith) (omega arith) in
    let q = expr_same f (begin Expr (cut p.1) f') (omega arith) (omega arith) in
    let r = closed_same g (begin Expr (cut q.1) g') in
    (cc, r.1)
closed_prim_same i (prim_presentnnv d f g) (prim_presentnnv d' f' g') =
    let p = expr_same d d' (omega arith) (omega arith) in
    let q = expr_same f (begin Expr (cut p.1) f') (omega arith) (omega arith) in
    let r = closed_same g (begin Expr (cut q.1) g') in
    (cc, r.1)

pub prim_no_closed : {ts : List Tok} → No PrimE Anywhere ts → No PrimE (Stops level.PRIMARY) ts
prim_no_closed h a to d s = h a to d tt

pub prim_no_end : {x : E} {ts : List Tok} (mid : List Tok) → IsClosed (form_of (terminal_at ts)) → PrimE x ts mid → loose (terminal_at mid) ≤ level.PRIMARY → No PrimE (Stops level.PRIMARY) ts
prim_no_end mid i e l a to d s =
    let p = closed_prim_same i e d in
    let k = ap (λ x. loose (terminal_at x)) p.1 in absurd (omega arith)

-- a column or a cell
pub split_name : (ts : List Tok) → terminal_at ts ≡ terminal.Name → (n : List ℕ) × (ts ≡ Name n ∷ rest_of ts)
split_name [] e = absurd (cc)
split_name (Name n ∷ ts) e = (n, refl)
split_name (Word _ ∷ ts) e = absurd (cc)
split_name (Sign _ ∷ ts) e = absurd (cc)
split_name (_ ∷ ts) e = absurd (cc)

pub prim_no_path : {n : List ℕ} {ts : List Tok} → No PathE (Stops level.PATH) (Name n ∷ ts) → No PrimE (Stops level.PRIMARY) (Name n ∷ ts)
prim_no_path h a to (prim_path d) s = h _ _ d (omega arith)
prim_no_path h a to (prim_cell d b) s = h _ _ d (brackets_stop b)

pub path_no_end : {p : Path} {n : List ℕ} {ts : List Tok} (mid : List Tok) → PathE p (Name n ∷ ts) mid → Stops level.PATH mid → Not (terminal.Sign sign.OpenSquare) mid → loose (terminal_at mid) ≤ level.PRIMARY → No PrimE (Stops level.PRIMARY) (Name n ∷ ts)
path_no_end mid e r m l a to (prim_path d) s =
    let p = path_same e d r (omega arith) in
    let k = ap (λ x. loose (terminal_at x)) p.1 in absurd (omega arith)
path_no_end mid e r m l a to (prim_cell d b) s =
    let p = path_same e d r (brackets_stop b) in m (ap terminal_at p.1 ∙ brackets_front b)

pub cell_no_places : {p : Path} {n : List ℕ} {ts mid : List Tok} → PathE p (Name n ∷ ts) mid → Stops level.PATH mid → terminal_at mid ≡ terminal.Sign sign.OpenSquare → No Brackets Anywhere mid → No PrimE (Stops level.PRIMARY) (Name n ∷ ts)
cell_no_places e r o h a to (prim_path d) s =
    let p = path_same e d r (omega arith) in no_square to s (ap terminal_at (sym p.1) ∙ o)
cell_no_places e r o h a to (prim_cell d b) s =
    let p = path_same e d r (brackets_stop b) in h _ _ (begin Brackets p.1 b) tt

pub cell_no_end : {p : Path} {ps : List Place} {n : List ℕ} {ts mid : List Tok} (end : List Tok) → PathE p (Name n ∷ ts) mid → Stops level.PATH mid → Brackets ps mid end → loose (terminal_at end) ≤ level.PRIMARY → No PrimE (Stops level.PRIMARY) (Name n ∷ ts)
cell_no_end end e r f l a to (prim_path d) s =
    let p = path_same e d r (omega arith) in no_square to s (ap terminal_at (sym p.1) ∙ brackets_front f)
cell_no_end end e r f l a to (prim_cell d b) s =
    let p = path_same e d r (brackets_stop b) in
    let q = brackets_same f (begin Brackets p.1 b) in
    let k = ap (λ x. loose (terminal_at x)) q.1 in absurd (omega arith)

-- an aggregate behind its word
pub all_no_end : {g : Agg} {ts : List Tok} → loose (terminal_at ts) ≤ level.PRIMARY → No (Behind (Aggregate g)) (Stops level.PRIMARY) (opener ∷ star ∷ closer ∷ ts)
all_no_end l a to (prim_agg d) s = absurd (expr_no_star d)
all_no_end l a to prim_count s = absurd (omega arith)

pub all_prim : {g : Agg} {ts to : List Tok} → g ≡ agg.Count → ts ≡ opener ∷ star ∷ closer ∷ to → PrimE e.CountAll (Aggregate g ∷ ts) to
all_prim {g} {ts} {to} i j =
    let P : Agg → Type 0 = λ x. PrimE e.CountAll (Aggregate x ∷ ts) to in
    let Q : List Tok → Type 0 = λ m. PrimE e.CountAll (Aggregate agg.Count ∷ m) to in
    subst P (sym i) (subst Q (sym j) prim_count)

pub agg_no_value : {g : Agg} {ts : List Tok} → NoAll g ts → NoCells ts → No RoundE Anywhere ts → No (Behind (Aggregate g)) (Stops level.PRIMARY) ts
agg_no_value m n h a to (prim_agg d) s = h _ _ (round d) tt
agg_no_value m n h a to prim_count s = m _ refl refl
agg_no_value m n h a to (prim_range b) s = n _ _ refl (brackets_front b)

pub agg_no_end : {g : Agg} {x : E} {ts : List Tok} (mid : List Tok) → NoAll g ts → NoCells ts → RoundE x ts mid → loose (terminal_at mid) ≤ level.PRIMARY → No (Behind (Aggregate g)) (Stops level.PRIMARY) ts
agg_no_end mid m n e l a to (prim_agg d) s =
    let p = round_same e (round d) in
    let k = ap (λ x. loose (terminal_at x)) p.1 in absurd (omega arith)
agg_no_end mid m n e l a to prim_count s = m _ refl refl
agg_no_end mid m n e l a to (prim_range b) s = n _ _ refl (brackets_front b)

pub agg_prim : {g : Agg} {a : E} {ts to : List Tok} → RoundE a ts to → PrimE (e.Agg g a) (Aggregate g ∷ ts) to
agg_prim (round d) = prim_agg d

-- the cells of an aggregate
pub measured : (g : Agg) (t : List Token) (at : ℕ) (r : Result (E × ℕ) (Fail Refused)) {m n : List ℕ} → m ≡ n → IsRead (CellsOf g m) (Stops level.PRIMARY) t at r → IsRead (CellsOf g n) (Stops level.PRIMARY) t at r
measured g t at r {m} {n} e d = let P : List ℕ → Type 0 = λ x. IsRead (CellsOf g x) (Stops level.PRIMARY) t at r in subst P e d

pub range_no_places : {g : Agg} {n : List ℕ} {ts : List Tok} → terminal_at ts ≡ terminal.Sign sign.OpenSquare → No Brackets Anywhere ts → No (CellsOf g n) (Stops level.PRIMARY) ts
range_no_places o h a to (prim_agg d) s = no_square to s (ap terminal_at (cut (name_ends d)) ∙ o)
range_no_places o h a to (prim_range b) s = h _ _ b tt

pub range_no_end : {g : Agg} {n : List ℕ} {ps : List Place} {ts : List Tok} (mid : List Tok) → Brackets ps ts mid → loose (terminal_at mid) ≤ level.PRIMARY → No (CellsOf g n) (Stops level.PRIMARY) ts
range_no_end mid f l a to (prim_agg d) s = no_square to s (ap terminal_at (cut (name_ends d)) ∙ brackets_front f)
range_no_end mid f l a to (prim_range b) s =
    let q = brackets_same f b in
    let k = ap (λ x. loose (terminal_at x)) q.1 in absurd (omega arith)

-- a CAST behind its word
pub cast_no_open : {ts : List Tok} → Not (terminal.Sign sign.Open) ts → No (Behind (Word word.Cast)) Anywhere ts
cast_no_open n a to (prim_cast d k) s = n refl
cast_no_open n a to (prim_call c d l) s = absurd (none_some c)

pub cast_no_expr : {ts : List Tok} → No Expr (Stops level.EXPRESSION) ts → No (Behind (Word word.Cast)) Anywhere (opener ∷ ts)
cast_no_expr h a to (prim_cast d k) s = h _ _ d (omega arith)
cast_no_expr h a to (prim_call c d l) s = absurd (none_some c)

pub cast_no_kind : {x : E} {ts mid : List Tok} → Expr x ts mid → Stops level.EXPRESSION mid → No AsKind Anywhere mid → No (Behind (Word word.Cast)) Anywhere (opener ∷ ts)
cast_no_kind e r h a to (prim_cast d k) s =
    let p = expr_same e d r (omega arith) in h _ _ (begin AsKind p.1 (as_kind k)) tt
cast_no_kind e r h a to (prim_call c d l) s = absurd (none_some c)

pub cast_prim : {x : E} {k : Kind} {ts mid to : List Tok} → Expr x ts mid → AsKind k mid to → PrimE (e.Cast x k) (Word word.Cast ∷ opener ∷ ts) to
cast_prim e (as_kind k) = prim_cast e k

-- a ROUND behind its word
pub rounded_no_open : {ts : List Tok} → Not (terminal.Sign sign.Open) ts → No (Behind (Word word.Round)) Anywhere ts
rounded_no_open n a to (prim_to d i) s = n refl
rounded_no_open n a to (prim_call c d l) s = absurd (none_some c)

pub rounded_no_expr : {ts : List Tok} → No Expr (Stops level.EXPRESSION) ts → No (Behind (Word word.Round)) Anywhere (opener ∷ ts)
rounded_no_expr h a to (prim_to d i) s = h _ _ d (omega arith)
rounded_no_expr h a to (prim_call c d l) s = absurd (none_some c)

pub rounded_no_scale : {x : E} {ts mid : List Tok} → Expr x ts mid → Stops level.EXPRESSION mid → No ToScale Anywhere mid → No (Behind (Word word.Round)) Anywhere (opener ∷ ts)
rounded_no_scale e r h a to (prim_to d i) s =
    let p = expr_same e d r (omega arith) in h _ _ (begin ToScale p.1 (to_scale i)) tt
rounded_no_scale e r h a to (prim_call c d l) s = absurd (none_some c)

pub rounded_prim : {x : E} {n : Number} {ts mid to : List Tok} → Expr x ts mid → ToScale n mid to → PrimE (e.Call (func.Round (scale_of n)) (x ∷ [])) (Word word.Round ∷ opener ∷ ts) to
rounded_prim e (to_scale i) = prim_to e i

-- a call behind its word
told : {m n : ℕ} → ((m == n ≡ true) × (m ≡ n)) ⊎ ((m == n ≡ false) × (m ≢ n)) → m ≡ n → (m == n) ≡ true
told (inl p) e = p.0
told (inr p) e = absurd (p.1 e)

length_is : {m n : ℕ} → m ≡ n → (m == n) ≡ true
length_is {m} {n} e = told (eqb_tells m n) e

told_back : {m n : ℕ} → ((m == n ≡ true) × (m ≡ n)) ⊎ ((m == n ≡ false) × (m ≢ n)) → (m == n) ≡ true → m ≡ n
told_back (inl p) e = p.1
told_back (inr p) e = absurd cc

length_back : {m n : ℕ} → (m == n) ≡ true → m ≡ n
length_back {m} {n} e = told_back (eqb_tells m n) e

some_of_true : {b : Bool} {x : E} → b ≡ true → (if b then Some x else None) ≡ Some x
some_of_true e = cc

call_args : (k : Keyword) {a : E} {ts to : List Tok} → form_of (terminal.Word k) ≡ form.Call k → PrimE a (Word k ∷ ts) to → (xs : List E) × Tuple xs ts to × (called k xs ≡ Some a)
call_args k i (prim_call {f = f} {n = n} {xs = xs} c d l) =
    let P : Option (Func × ℕ) → Type 0 = λ o. called_by o k xs ≡ Some (e.Call f xs) in
    (xs, d, subst P (sym c) (some_of_true (length_is l)))
call_args _ i prim_null = absurd cc
call_args _ i (prim_date _) = absurd cc
call_args _ i (prim_case _ _ _) = absurd cc
call_args _ i (prim_cast _ _) = absurd cc
call_args _ i (prim_to _ _) = absurd cc
call_args _ i prim_cv = absurd cc
call_args _ i prim_cv_name = absurd cc
call_args _ i prim_turn = absurd cc
call_args _ i (prim_previous {a = x} d) = (x ∷ [], tuple (exprs d exprs_end), refl)
call_args _ i (prim_presentv {a = x} {b = y} {c = z} d f g) = (x ∷ y ∷ z ∷ [], tuple (exprs d (exprs_more f (exprs_more g exprs_end))), refl)
call_args _ i (prim_presentnnv {a = x} {b = y} {c = z} d f g) = (x ∷ y ∷ z ∷ [], tuple (exprs d (exprs_more f (exprs_more g exprs_end))), refl)

pub call_no_tuple : (k : Keyword) {ts : List Tok} → form_of (terminal.Word k) ≡ form.Call k → No Tuple Anywhere ts → No (Behind (Word k)) Anywhere ts
call_no_tuple k i h a to d s = let p = call_args k i d in h p.0 to p.1 tt

pub call_no_count : (k : Keyword) {xs : List E} {ts mid : List Tok} → form_of (terminal.Word k) ≡ form.Call k → Tuple xs ts mid → None ≡ called k xs → No (Behind (Word k)) Anywhere ts
call_no_count k i e n a to d s =
    let p = call_args k i d in
    let q = tuple_same e p.1 in none_some (n ∙ (ap (called k) q.0 ∙ p.2))

of_some : {a b : E} {ts to : List Tok} → Some b ≡ Some a → PrimE b ts to → PrimE a ts to
of_some {a} {b} {ts} {to} e d = let P : E → Type 0 = λ x. PrimE x ts to in let q : b ≡ a = cc in subst P q d

counted : (b : Bool) {m n : ℕ} {a x : E} → b ≡ (m == n) → (if b then Some x else None) ≡ Some a → (m ≡ n) × (Some x ≡ Some a)
counted true {m} {n} i e = (length_back (sym i), e)
counted false i e = absurd (none_some e)

asked_prim : (k : Keyword) (xs : List E) {a : E} {ts to : List Tok} → Tuple xs ts to → asked k xs ≡ Some a → PrimE a (Word k ∷ ts) to
asked_prim word.Previous [] t e = absurd (none_some e)
asked_prim word.Previous (x ∷ []) (tuple (exprs d exprs_end)) e = of_some e (prim_previous d)
asked_prim word.Previous (x ∷ w ∷ ws) t e = absurd (none_some e)
asked_prim word.Presentv [] t e = absurd (none_some e)
asked_prim word.Presentv (x ∷ []) t e = absurd (none_some e)
asked_prim word.Presentv (x ∷ y ∷ []) t e = absurd (none_some e)
asked_prim word.Presentv (x ∷ y ∷ z ∷ []) (tuple (exprs d (exprs_more f (exprs_more g exprs_end)))) e = of_some e (prim_presentv d f g)
asked_prim word.Presentv (x ∷ y ∷ z ∷ w ∷ ws) t e = absurd (none_some e)
asked_prim word.Presentnnv [] t e = absurd (none_some e)
asked_prim word.Presentnnv (x ∷ []) t e = absurd (none_some e)
asked_prim word.Presentnnv (x ∷ y ∷ []) t e = absurd (none_some e)
asked_prim word.Presentnnv (x ∷ y ∷ z ∷ []) (tuple (exprs d (exprs_more f (exprs_more g exprs_end)))) e = of_some e (prim_presentnnv d f g)
asked_prim word.Presentnnv (x ∷ y ∷ z ∷ w ∷ ws) t e = absurd (none_some e)
asked_prim _ xs t e = absurd (none_some e)

called_prim : (o : Option (Func × ℕ)) (k : Keyword) (xs : List E) {a : E} {ts to : List Tok} → call_of k ≡ o → Tuple xs ts to → called_by o k xs ≡ Some a → PrimE a (Word k ∷ ts) to
called_prim None k xs c t e = asked_prim k xs t e
called_prim (Some (f, n)) k xs c t e = let p = counted (length xs == n) refl e in of_some p.1 (prim_call c t p.0)

pub call_prim : (k : Keyword) (xs : List E) {a : E} {ts to : List Tok} → Tuple xs ts to → called k xs ≡ Some a → PrimE a (Word k ∷ ts) to
call_prim k xs t e = called_prim (call_of k) k xs refl t e

-- a CASE behind its word
pub case_no_subject : {ts : List Tok} → No CaseE AtWhen ts → No (Behind (Word word.Case)) Anywhere ts
case_no_subject h a to (prim_case c ds o) s = h _ _ c (whens_front ds)
case_no_subject h a to (prim_call c d l) s = absurd (none_some c)

pub case_no_whens : {x : Option E} {ts mid : List Tok} → CaseE x ts mid → AtWhen mid → No SomeWhens (Ends (terminal.Word word.When)) mid → No (Behind (Word word.Case)) Anywhere ts
case_no_whens e r h a to (prim_case c ds o) s =
    let p = case_same e c r (whens_front ds) in h _ _ (tt, begin Whens p.1 ds) (else_stop o)
case_no_whens e r h a to (prim_call c d l) s = absurd (none_some c)

pub case_no_else : {x : Option E} {xs : List Arm} {ts mid next : List Tok} → CaseE x ts mid → AtWhen mid → SomeWhens xs mid next → Ends (terminal.Word word.When) next → No ElseEnd Anywhere next → No (Behind (Word word.Case)) Anywhere ts
case_no_else e r w q h a to (prim_case c ds o) s =
    let p = case_same e c r (whens_front ds) in
    let u = whens_same w.1 (begin Whens p.1 ds) q (else_stop o) in h _ _ (begin ElseE u.1 o) tt
case_no_else e r w q h a to (prim_call c d l) s = absurd (none_some c)

pub case_prim : {x : Option E} (xs : List Arm) {o : Option E} {ts mid next to : List Tok} → CaseE x ts mid → SomeWhens xs mid next → ElseEnd o next to → PrimE (e.Case x xs o) (Word word.Case ∷ ts) to
case_prim [] c w o = absurd w.0
case_prim (_ ∷ xs) c w o = prim_case c w.1 o

pub subject_no_expr : {ts : List Tok} → Not (terminal.Word word.When) ts → No Expr (Stops level.EXPRESSION) ts → No CaseE AtWhen ts
subject_no_expr n h a to case_none w = n w
subject_no_expr n h a to (case_some d) w = h _ _ d (stops_when to w)

pub subject_no_when : {x : E} {ts mid : List Tok} → Not (terminal.Word word.When) ts → Expr x ts mid → Stops level.EXPRESSION mid → Not (terminal.Word word.When) mid → No CaseE AtWhen ts
subject_no_when n e r m a to case_none w = n w
subject_no_when n e r m a to (case_some d) w = let p = expr_same e d r (stops_when to w) in m (ap terminal_at p.1 ∙ w)

pub else_no_expr : {ts : List Tok} → No Expr (Stops level.EXPRESSION) ts → No ElseEnd Anywhere (Word word.Else ∷ ts)
else_no_expr h a to (else_some d) s = h _ _ d (omega arith)

pub else_no_end : {x : E} {ts mid : List Tok} → Expr x ts mid → Stops level.EXPRESSION mid → Not (terminal.Word word.End) mid → No ElseEnd Anywhere (Word word.Else ∷ ts)
else_no_end e r n a to (else_some d) s = let p = expr_same e d r (omega arith) in n (ap terminal_at p.1)

pub else_no_word : {ts : List Tok} → Not (terminal.Word word.Else) ts → Not (terminal.Word word.End) ts → No ElseEnd Anywhere ts
else_no_word m n a to else_none s = n refl
else_no_word m n a to (else_some d) s = m refl

-- a form that neither a name nor an aggregate is
is_closed : (f : Form) → (f ≡ form.Name → ⊥) → ((g : Agg) → f ≡ form.Aggregate g → ⊥) → (f ≡ form.Other → ⊥) → IsClosed f
is_closed form.Name n a o = n refl
is_closed (form.Aggregate g) n a o = a g refl
is_closed form.Other n a o = o refl
is_closed _ n a o = tt

pub closed_form : (f : Form) (x : Terminal) → f ≡ form_of x → (f ≡ form.Name → ⊥) → ((g : Agg) → f ≡ form.Aggregate g → ⊥) → (f ≡ form.Other → ⊥) → IsClosed (form_of x)
closed_form f x e n a o = let P : Form → Type 0 = IsClosed in subst P e (is_closed f n a o)
