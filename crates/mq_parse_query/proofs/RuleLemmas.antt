-- Where the pieces of rules read nothing, by their parts, and how they are put together.
use Rattle.std.proofs.Common.{◌≡◌, ℕ, ◌≤◌, Bool, List, [], ◌∷◌, refl, sym, ap, ◌∙◌, arith}
use Rattle.std.specs.Prelude.{Option, Some, None, MatchOption}
use Rattle.mq_values.specs.declared.operators.Mode.{Mode}
use Rattle.mq_lexer.specs.declared.sorts.Token.{Token}
use Rattle.mq_ast.specs.declared.expressions.E.{E}
use Rattle.mq_ast.specs.declared.queries.ForList.{ForList}
use Rattle.mq_ast.specs.declared.queries.LeftTree.{LeftTree}
use Rattle.mq_ast.specs.declared.queries.OrderKey.{OrderKey}
use Rattle.mq_ast.specs.declared.queries.Plain.{Plain}
use Rattle.mq_lexer.specs.declared.terminals.Symbol.{Symbol}
use Rattle.mq_ast.specs.declared.clauses.TheConstants as clause
use Rattle.mq_ast.specs.declared.queries.LeftTree.TheVariants as left_tree
use Rattle.mq_ast.specs.declared.levels.TheConstants as level
use Rattle.mq_lexer.specs.declared.terminals.Symbol.TheVariants as sign
use Rattle.mq_lexer.specs.declared.terminals.Terminal.TheVariants as terminal
use Rattle.mq_lexer.specs.declared.keywords.Keyword.TheVariants as word
use Rattle.mq_ast.specs.Prelude.{AloneE, DownE, EndsList, EndsOrder, Expr, FinishE, ForListE, LitE, MaybeMode, Name, NameE, Not}
use Rattle.mq_ast.specs.Prelude.{OneTree, OrderE, Past, PlainE, RangeE, RuleE, RuleFront, RuleList, RuleRight, Sign, SomeOf, StartE}
use Rattle.mq_ast.specs.Prelude.{Stops, Tok, Tuple, Word, alone, close_square, closer, comma, down_no, down_yes, equal, finish}
use Rattle.mq_ast.specs.Prelude.{for_rows, for_values, left_places, left_tuples, lit_any, lit_expr, lit_in, lit_range, loose}
use Rattle.mq_ast.specs.Prelude.{mode_none, mode_some, mode_update, mode_upsert, mode_upsert_all, name, opener, part, range}
use Rattle.mq_ast.specs.Prelude.{rule, rule_front, rule_right, rules_none, rules_some, start, terminal_at}
use Rattle.mq_ast.specs.Laws.{Same, begin, cut, down_stop, expr_no_any, expr_no_for, expr_same, finish_same, left_same, lits_no_tuple}
use Rattle.mq_ast.specs.Laws.{maybe_mode_same, names_same, order_same, plain_front, plain_same, range_no_in, rows_same, rule_front_same}
use Rattle.mq_ast.specs.Laws.{some_same, start_same, values_same}
use Rattle.mq_parse_query.specs.Pieces.{Closed, ForOpen, ForPlace, LeftEnd, LeftTuples, NoForOpen, PlainEnd, Upserts}
use Rattle.mq_parse_words.specs.Reading.{from, Then, No, Anywhere}
use Rattle.mq_parse_words.specs.StepLemmas.{till}

-- lists with a closing sign
module _ {A : Type 0} (R : A → List Tok → List Tok → Type 0) (Stop : List Tok → Type 0) (k : Symbol) (closes : (ts : List Tok) → EndsList Stop (Sign k ∷ ts)) where
  pub closed_no_list : {ts : List Tok} → No (SomeOf R) (EndsList Stop) ts → No (Closed (Sign k) R) Anywhere ts
  closed_no_list h a to d s = h _ _ d (closes _)

  pub closed_no_close : OneTree R Stop → ((ts : List Tok) → Stop (comma ∷ ts)) → {xs : List A} {ts mid : List Tok} → SomeOf R xs ts mid → EndsList Stop mid → Not (terminal.Sign k) mid → No (Closed (Sign k) R) Anywhere ts
  closed_no_close one before {xs} {ts} {mid} e r n a to d s =
      let p = some_same A R Stop (EndsList Stop) one (λ us q. q.0) before (λ x us vs q f. q.1 refl) e d r (closes to) in
      n (ap terminal_at p.1)

pub ends_closed : (ts : List Tok) → EndsList (Stops level.EXPRESSION) (closer ∷ ts)
ends_closed ts = (omega arith, λ e. cc)

pub ends_square : (ts : List Tok) → EndsList (Stops level.EXPRESSION) (close_square ∷ ts)
ends_square ts = (omega arith, λ e. cc)

pub any_closed : (ts : List Tok) → EndsList Anywhere (closer ∷ ts)
any_closed ts = (tt, λ e. cc)

-- plain ')'
pub plain_no_plain : {ts : List Tok} → No PlainE (Stops level.PLAIN) ts → No PlainEnd Anywhere ts
plain_no_plain h a to d s = h _ _ d (omega arith)

pub plain_no_close : {x : Plain} {ts mid : List Tok} → PlainE x ts mid → Stops level.PLAIN mid → Not (terminal.Sign sign.Close) mid → No PlainEnd Anywhere ts
plain_no_close e r n a to d s = let p = plain_same e d r (omega arith) in n (ap terminal_at p.1)

-- what a FOR goes through
pub alone_no_expr : {ts : List Tok} → No Expr (Stops level.EXPRESSION) ts → No AloneE (Stops level.EXPRESSION) ts
alone_no_expr h a to (alone d) s = h _ _ d s

module _ (R : List E → List Tok → List Tok → Type 0) where
  pub for_no_open : {ts : List Tok} → Not (terminal.Sign sign.Open) ts → No (ForListE R) Anywhere ts
  for_no_open n a to (for_values d) s = n refl
  for_no_open n a to (for_rows d) s = n refl

  pub for_no_rows : ((xss : List (List E)) (ts to : List Tok) → SomeOf R xss ts to → terminal_at ts ≡ terminal.Word word.Select → ⊥) → {ts us : List Tok} → ts ≡ Word word.Select ∷ us → No PlainEnd Anywhere ts → No (ForListE R) Anywhere (opener ∷ ts)
  for_no_rows no_plain e h a to (for_values d) s = no_plain _ _ _ d (ap terminal_at e)
  for_no_rows no_plain e h a to (for_rows d) s = h _ _ d s

  pub for_no_list : {ts : List Tok} → Not (terminal.Word word.Select) ts → No (Closed closer R) Anywhere ts → No (ForListE R) Anywhere (opener ∷ ts)
  for_no_list n h a to (for_values d) s = h _ _ d s
  for_no_list n h a to (for_rows d) s = n (plain_front d)

-- FROM e TO e (INCREMENT | DECREMENT) e
pub start_no_from : {ts : List Tok} → Not (terminal.Word word.From) ts → No StartE Anywhere ts
start_no_from n a to (start d) s = n refl

pub start_no_expr : {ts : List Tok} → No Expr (Stops level.EXPRESSION) ts → No StartE Anywhere (Word word.From ∷ ts)
start_no_expr h a to (start d) s = h _ _ d (omega arith)

pub start_no_to : {x : E} {ts mid : List Tok} → Expr x ts mid → Stops level.EXPRESSION mid → Not (terminal.Word word.To) mid → No StartE Anywhere (Word word.From ∷ ts)
start_no_to e r n a to (start d) s = let p = expr_same e d r (omega arith) in n (ap terminal_at p.1)

pub down_no_word : {ts : List Tok} → Not (terminal.Word word.Increment) ts → Not (terminal.Word word.Decrement) ts → No DownE Anywhere ts
down_no_word m n a to down_no s = m refl
down_no_word m n a to down_yes s = n refl

pub finish_no_expr : {ts : List Tok} → No Expr (Stops level.EXPRESSION) ts → No FinishE Anywhere ts
finish_no_expr h a to (finish d b) s = h _ _ d (down_stop b)

pub finish_no_down : {x : E} {ts mid : List Tok} → Expr x ts mid → Stops level.EXPRESSION mid → No DownE Anywhere mid → No FinishE Anywhere ts
finish_no_down e r h a to (finish d b) s = let p = expr_same e d r (down_stop b) in h _ _ (begin DownE p.1 b) tt

pub range_no_start : {ts : List Tok} → No StartE Anywhere ts → No RangeE (Stops level.EXPRESSION) ts
range_no_start h a to (range x y z) s = h _ _ x tt

pub range_no_finish : {x : E} {ts mid : List Tok} → StartE x ts mid → No FinishE Anywhere mid → No RangeE (Stops level.EXPRESSION) ts
range_no_finish e h a to (range x y z) s = let p = start_same e x in h _ _ (begin FinishE p.1 y) tt

pub range_no_step : {v : E} {w : E × Bool} {ts mid next : List Tok} → StartE v ts mid → FinishE w mid next → No Expr (Stops level.EXPRESSION) next → No RangeE (Stops level.EXPRESSION) ts
range_no_step e f h a to (range x y z) s =
    let p = start_same e x in
    let q = finish_same f (begin FinishE p.1 y) in
    h _ _ (begin Expr q.1 z) s

-- a place behind FOR
pub for_no_name : {ts : List Tok} → No NameE Anywhere ts → No ForPlace (Stops level.EXPRESSION) ts
for_no_name h a to (lit_expr d) s = expr_no_for d
for_no_name h a to (lit_in l) s = h _ _ name tt
for_no_name h a to (lit_range r) s = h _ _ name tt

pub for_no_values : {n : List ℕ} {ts : List Tok} → No (ForListE AloneE) Anywhere ts → No ForPlace (Stops level.EXPRESSION) (Name n ∷ Word word.In ∷ ts)
for_no_values h a to (lit_expr d) s = expr_no_for d
for_no_values h a to (lit_in l) s = h _ _ l tt
for_no_values h a to (lit_range r) s = range_no_in r

pub for_no_end : {n : List ℕ} {x : ForList} {ts : List Tok} (mid : List Tok) → ForListE AloneE x ts mid → loose (terminal_at mid) ≤ level.EXPRESSION → No ForPlace (Stops level.EXPRESSION) (Name n ∷ Word word.In ∷ ts)
for_no_end mid e l a to (lit_expr d) s = expr_no_for d
for_no_end mid e l a to (lit_in d) s = let k = ap (λ x. loose (terminal_at x)) (values_same e d).1 in absurd (omega arith)
for_no_end mid e l a to (lit_range r) s = range_no_in r

pub for_no_range : {n : List ℕ} {ts : List Tok} → Not (terminal.Word word.In) ts → No RangeE (Stops level.EXPRESSION) ts → No ForPlace (Stops level.EXPRESSION) (Name n ∷ ts)
for_no_range n h a to (lit_expr d) s = expr_no_for d
for_no_range n h a to (lit_in l) s = n refl
for_no_range n h a to (lit_range r) s = h _ _ r s

-- a place
pub place_no_any : {ts : List Tok} → loose (terminal_at ts) ≤ level.EXPRESSION → No LitE (Stops level.EXPRESSION) (Word word.Any ∷ ts)
place_no_any l a to lit_any s = absurd (omega arith)
place_no_any l a to (lit_expr d) s = expr_no_any d

pub place_no_expr : {ts : List Tok} → Not (terminal.Word word.Any) ts → Not (terminal.Word word.For) ts → No Expr (Stops level.EXPRESSION) ts → No LitE (Stops level.EXPRESSION) ts
place_no_expr m n h a to lit_any s = m refl
place_no_expr m n h a to (lit_expr d) s = h _ _ d s
place_no_expr m n h a to (lit_in l) s = n refl
place_no_expr m n h a to (lit_range r) s = n refl

-- a left side
pub for_open : (t : List Token) (at mid : ℕ) (r : Option ℕ) → Then (Word word.For) t at mid → MatchOption r (Not (terminal.Sign sign.Open) (from t mid)) (Then opener t mid) → MatchOption r (NoForOpen (from t at)) (ForOpen t at)
for_open t at mid None f n = λ us e. n (ap terminal_at (cut (sym f.2 ∙ e)))
for_open t at mid (Some to) f o = (omega (arith, f.0, o.0), o.1, f.2 ∙ ap (λ r. Word word.For ∷ r) o.2)

pub no_for : {ts : List Tok} → Not (terminal.Word word.For) ts → NoForOpen ts
no_for n us e = n (ap terminal_at e)

pub left_no_names : {ts : List Tok} → No (Closed closer NameE) Anywhere ts → No LeftTuples Anywhere ts
left_no_names h a to (left_places d) s = lits_no_tuple d
left_no_names h a to (left_tuples n d) s = h _ _ n tt

pub left_no_in : {ns : List (List ℕ)} {ts mid : List Tok} → Closed closer NameE ns ts mid → Not (terminal.Word word.In) mid → No LeftTuples Anywhere ts
left_no_in e m a to (left_places d) s = lits_no_tuple d
left_no_in e m a to (left_tuples n d) s = let p = names_same e n (λ q. cc) (λ q. cc) in m (ap terminal_at (cut p.1))

pub left_no_list : {ns : List (List ℕ)} {ts mid next : List Tok} → Closed closer NameE ns ts mid → mid ≡ Word word.In ∷ next → No (ForListE Tuple) Anywhere next → No LeftTuples Anywhere ts
left_no_list e i h a to (left_places d) s = lits_no_tuple d
left_no_list e i h a to (left_tuples n d) s =
    let p = names_same e n (λ q. cc) (λ q. cc) in
    h _ _ (begin (ForListE Tuple) (cut (sym i ∙ cut p.1)) d) tt

pub left_no_close : {ns : List (List ℕ)} {l : ForList} {ts mid next last : List Tok} → Closed closer NameE ns ts mid → mid ≡ Word word.In ∷ next → ForListE Tuple l next last → Not (terminal.Sign sign.CloseSquare) last → No LeftTuples Anywhere ts
left_no_close e i f m a to (left_places d) s = lits_no_tuple d
left_no_close e i f m a to (left_tuples n d) s =
    let p = names_same e n (λ q. cc) (λ q. cc) in
    let q = rows_same f (begin (ForListE Tuple) (cut (sym i ∙ cut p.1)) d) in
    m (ap terminal_at q.1)

pub tuples_left : {ns : List (List ℕ)} {l : ForList} {ts mid next last to : List Tok} → Closed closer NameE ns ts mid → mid ≡ Word word.In ∷ next → ForListE Tuple l next last → last ≡ close_square ∷ to → LeftTuples (left_tree.Tuples ns l) ts to
tuples_left n i d e = left_tuples (till (SomeOf NameE) (ap (λ r. closer ∷ r) i) n) (till (ForListE Tuple) e d)

pub left_no_places : {ts : List Tok} → NoForOpen ts → No (Closed close_square LitE) Anywhere ts → No LeftEnd Anywhere ts
left_no_places n h a to (left_places d) s = h _ _ d s
left_no_places n h a to (left_tuples m d) s = n _ refl

left_end_same : {l l' : LeftTree} {ts to to' : List Tok} → LeftEnd l ts to → LeftEnd l' ts to' → Same l l' to to'
left_end_same d d' = let p = left_same d d' (omega arith, λ e. cc) (omega arith, λ e. cc) in (p.0, cut p.1)

-- modes
pub upsert_no_all : {ts : List Tok} → part (terminal_at ts) ≤ clause.MODE → No Upserts (Past clause.MODE) (Word word.All ∷ ts)
upsert_no_all l a to mode_none s = absurd (omega arith)
upsert_no_all l a to (mode_some mode_upsert) s = absurd (omega arith)
upsert_no_all l a to (mode_some mode_upsert_all) s = absurd (omega arith)

pub upsert_no_end : {ts : List Tok} → Not (terminal.Word word.All) ts → part (terminal_at ts) ≤ clause.MODE → No Upserts (Past clause.MODE) ts
upsert_no_end n l a to mode_none s = absurd (omega arith)
upsert_no_end n l a to (mode_some mode_upsert) s = absurd (omega arith)
upsert_no_end n l a to (mode_some mode_upsert_all) s = n refl

pub mode_no_update : {ts : List Tok} → part (terminal_at ts) ≤ clause.MODE → No MaybeMode (Past clause.MODE) (Word word.Update ∷ ts)
mode_no_update l a to mode_none s = absurd (omega arith)
mode_no_update l a to (mode_some mode_update) s = absurd (omega arith)

pub mode_no_word : {ts : List Tok} → Not (terminal.Word word.Update) ts → Not (terminal.Word word.Upsert) ts → part (terminal_at ts) ≤ clause.MODE → No MaybeMode (Past clause.MODE) ts
mode_no_word m n l a to mode_none s = absurd (omega arith)
mode_no_word m n l a to (mode_some mode_update) s = m refl
mode_no_word m n l a to (mode_some mode_upsert) s = n refl
mode_no_word m n l a to (mode_some mode_upsert_all) s = n refl

-- [mode] name '['
pub front_no_mode : {ts : List Tok} → No MaybeMode (Past clause.MODE) ts → No RuleFront Anywhere ts
front_no_mode h a to (rule_front d) s = h _ _ d (omega arith)

pub front_no_name : {m : Option Mode} {ts mid : List Tok} → MaybeMode m ts mid → Past clause.MODE mid → No NameE Anywhere mid → No RuleFront Anywhere ts
front_no_name e r h a to (rule_front d) s = let p = maybe_mode_same e d r (omega arith) in h _ _ (begin NameE p.1 name) tt

pub front_no_open : {m : Option Mode} {n : List ℕ} {ts mid next : List Tok} → MaybeMode m ts mid → Past clause.MODE mid → mid ≡ Name n ∷ next → Not (terminal.Sign sign.OpenSquare) next → No RuleFront Anywhere ts
front_no_open e r f k a to (rule_front d) s = let p = maybe_mode_same e d r (omega arith) in k (ap terminal_at (cut (sym f ∙ p.1)))

-- [ORDER BY key {',' key}] '=' e
pub before_equal : (ts : List Tok) → EndsOrder (equal ∷ ts)
before_equal ts = (λ e. cc, (λ e. cc, λ e. cc, λ e. cc))

order_ends : {ks ks' : List OrderKey} {ts to to' : List Tok} → OrderE ks ts to → OrderE ks' ts to' → EndsOrder to → EndsOrder to' → Same ks ks' to to'
order_ends d d' s s' = order_same d d' s.0 s'.0 s.1 s'.1

pub right_no_order : {ts : List Tok} → No OrderE EndsOrder ts → No RuleRight (Stops level.EXPRESSION) ts
right_no_order h a to (rule_right {mid = m} o d) s = h _ _ o (before_equal m)

pub right_no_equal : {ks : List OrderKey} {ts mid : List Tok} → OrderE ks ts mid → EndsOrder mid → Not (terminal_at (equal ∷ [])) mid → No RuleRight (Stops level.EXPRESSION) ts
right_no_equal e r n a to (rule_right {mid = m} o d) s = let p = order_ends e o r (before_equal m) in n (ap terminal_at p.1)

pub right_no_expr : {ks : List OrderKey} {ts mid next : List Tok} → OrderE ks ts mid → EndsOrder mid → mid ≡ equal ∷ next → No Expr (Stops level.EXPRESSION) next → No RuleRight (Stops level.EXPRESSION) ts
right_no_expr e r f h a to (rule_right {mid = m} o d) s =
    let p = order_ends e o r (before_equal m) in
    h _ _ (begin Expr (cut (sym f ∙ p.1)) d) s

-- rules
pub rule_no_token : {ts : List Tok} → ts ≡ [] → No RuleE (Stops level.EXPRESSION) ts
rule_no_token e a to (rule (rule_front mode_none) l r) s = absurd cc
rule_no_token e a to (rule (rule_front (mode_some mode_update)) l r) s = absurd cc
rule_no_token e a to (rule (rule_front (mode_some mode_upsert)) l r) s = absurd cc
rule_no_token e a to (rule (rule_front (mode_some mode_upsert_all)) l r) s = absurd cc

pub rule_no_front : {ts : List Tok} → No RuleFront Anywhere ts → No RuleE (Stops level.EXPRESSION) ts
rule_no_front h a to (rule f l r) s = h _ _ f tt

pub rule_no_left : {f : Option Mode × List ℕ} {ts mid : List Tok} → RuleFront f ts mid → No LeftEnd Anywhere mid → No RuleE (Stops level.EXPRESSION) ts
rule_no_left e h a to (rule f l r) s = h _ _ (begin LeftEnd (rule_front_same e f).1 l) tt

pub rule_no_right : {f : Option Mode × List ℕ} {x : LeftTree} {ts mid next : List Tok} → RuleFront f ts mid → LeftEnd x mid next → No RuleRight (Stops level.EXPRESSION) next → No RuleE (Stops level.EXPRESSION) ts
rule_no_right e g h a to (rule f l r) s =
    let q = left_end_same g (begin LeftEnd (rule_front_same e f).1 l) in
    h _ _ (begin RuleRight q.1 r) s

pub rules_no_open : {ts : List Tok} → Not (terminal.Sign sign.Open) ts → No RuleList Anywhere ts
rules_no_open n a to rules_none s = n refl
rules_no_open n a to (rules_some d) s = n refl

pub rules_no_list : {ts : List Tok} → Not (terminal.Sign sign.Close) ts → No (Closed closer RuleE) Anywhere ts → No RuleList Anywhere (opener ∷ ts)
rules_no_list n h a to rules_none s = n refl
rules_no_list n h a to (rules_some d) s = h _ _ d s
