-- Where aliases, columns and the items of FROM read nothing, by their parts. All of it is about lists of tokens.
use Rattle.std.proofs.Common.{◌≡◌, ℕ, ◌≤◌, List, ◌∷◌, refl, sym, ap, ◌∙◌, subst, arith}
use Rattle.std.specs.Prelude.{Option, Some, None, MatchOption}
use Rattle.mq_lexer.specs.declared.sorts.Token.{Token}
use Rattle.mq_ast.specs.declared.expressions.E.{E}
use Rattle.mq_ast.specs.declared.queries.FromItem.{FromItem}
use Rattle.mq_lexer.specs.declared.keywords.Keyword.{Keyword}
use Rattle.mq_ast.specs.declared.queries.Sel.{Sel}
use Rattle.mq_ast.specs.declared.levels.TheConstants as level
use Rattle.mq_lexer.specs.declared.terminals.Symbol.TheVariants as sign
use Rattle.mq_lexer.specs.declared.terminals.Terminal.TheVariants as terminal
use Rattle.mq_lexer.specs.declared.keywords.Keyword.TheVariants as word
use Rattle.mq_ast.specs.Prelude.{AliasE, BareFront, Cols, ConditionE, EndsList, Expr, FromE, ItemE, JoinE, ManyOf, Name, NameE, Not}
use Rattle.mq_ast.specs.Prelude.{OnE, OnFront, SelE, SomeOf, Stops, Tok, Word, alias_as, alias_name, alias_none, cols, condition}
use Rattle.mq_ast.specs.Prelude.{front_comma, front_cross, front_inner, front_join, item, item_of, items, join_bare, join_on, loose}
use Rattle.mq_ast.specs.Prelude.{many_end, many_more, name, on_item, opener, sel, terminal_at}
use Rattle.mq_ast.specs.Laws.{alias_stop, begin, cut, expr_same, item_same, joins_stop, sels_same}
use Rattle.mq_parse_query.specs.Pieces.{JoinFront, Leads, SomeName, TableE, front_word, some_name}
use Rattle.mq_parse_words.specs.Reading.{Then, No, Anywhere}

-- [AS] name
pub some_no_name : {ts : List Tok} → No NameE Anywhere ts → No SomeName (Stops level.ITEM) ts
some_no_name h a to some_name s = h _ _ name tt

pub some_no_end : {n : List ℕ} {ts mid : List Tok} → NameE n ts mid → loose (terminal_at mid) ≤ level.ITEM → No SomeName (Stops level.ITEM) ts
some_no_end name l a to some_name s = absurd (omega arith)

pub some_named : {n : List ℕ} {ts to : List Tok} → NameE n ts to → SomeName (Some n) ts to
some_named name = some_name

pub alias_behind : {o : Option (List ℕ)} {ts to : List Tok} → SomeName o ts to → AliasE o (Word word.As ∷ ts) to
alias_behind some_name = alias_as

pub alias_bare : {o : Option (List ℕ)} {ts to : List Tok} → SomeName o ts to → AliasE o ts to
alias_bare some_name = alias_name

pub alias_no_behind : {ts : List Tok} → No SomeName (Stops level.ITEM) ts → No AliasE (Stops level.ITEM) (Word word.As ∷ ts)
alias_no_behind h a to alias_none s = absurd (omega arith)
alias_no_behind h a to alias_as s = h _ _ some_name s

pub alias_no_bare : {n : List ℕ} {ts us : List Tok} → ts ≡ Name n ∷ us → No SomeName (Stops level.ITEM) ts → No AliasE (Stops level.ITEM) ts
alias_no_bare e h a to alias_none s = let k = ap (λ x. loose (terminal_at x)) e in absurd (omega arith)
alias_no_bare e h a to alias_as s = cc
alias_no_bare e h a to alias_name s = h _ _ some_name s

pub alias_no_end : {ts : List Tok} → Not (terminal.Word word.As) ts → Not terminal.Name ts → loose (terminal_at ts) ≤ level.ITEM → No AliasE (Stops level.ITEM) ts
alias_no_end n m l a to alias_none s = absurd (omega arith)
alias_no_end n m l a to alias_as s = n refl
alias_no_end n m l a to alias_name s = m refl

-- e [[AS] name]
pub sel_no_expr : {ts : List Tok} → No Expr (Stops level.EXPRESSION) ts → No SelE (Stops level.ITEM) ts
sel_no_expr h a to (sel d o) s = h _ _ d (alias_stop o s)

pub sel_no_alias : {x : E} {ts mid : List Tok} → Expr x ts mid → Stops level.EXPRESSION mid → No AliasE (Stops level.ITEM) mid → No SelE (Stops level.ITEM) ts
sel_no_alias e r h a to (sel d o) s = let p = expr_same e d r (alias_stop o s) in h _ _ (begin AliasE p.1 o) s

-- columns between brackets
pub cols_no_open : {ts : List Tok} → Not (terminal.Sign sign.Open) ts → No Cols Anywhere ts
cols_no_open n a to (cols d) s = n refl

pub cols_no_list : {ts : List Tok} → No (SomeOf SelE) (EndsList (Stops level.ITEM)) ts → No Cols Anywhere (opener ∷ ts)
cols_no_list h a to (cols d) s = h _ _ d (omega arith, λ e. cc)

pub cols_no_close : {xs : List Sel} {ts mid : List Tok} → SomeOf SelE xs ts mid → EndsList (Stops level.ITEM) mid → Not (terminal.Sign sign.Close) mid → No Cols Anywhere (opener ∷ ts)
cols_no_close e r n a to (cols d) s = let p = sels_same e d r (omega arith, λ e. cc) in n (ap terminal_at p.1)

-- name [[AS] name]
pub item_no_name : {ts : List Tok} → No NameE Anywhere ts → No (ItemE None) (Stops level.ITEM) ts
item_no_name h a to (item d) s = h _ _ name tt

pub item_no_alias : {n : List ℕ} {ts mid : List Tok} → NameE n ts mid → No AliasE (Stops level.ITEM) mid → No (ItemE None) (Stops level.ITEM) ts
item_no_alias name h a to (item d) s = h _ _ d s

pub table_no_item : {ts : List Tok} → No (ItemE None) (Stops level.ITEM) ts → No TableE (Stops level.ITEM) ts
table_no_item h a to d s = h _ _ d s

pub item_no_table : {ts : List Tok} → No TableE (Stops level.ITEM) ts → No (ItemE None) (Stops level.ITEM) ts
item_no_table h a to (item {n} {o} d) s = h (n, o) to (item d) s

pub item_named : {n : List ℕ} {o : Option (List ℕ)} {ts mid to : List Tok} → NameE n ts mid → AliasE o mid to → ItemE None (item_of n o None) ts to
item_named name d = item d

-- ON e
pub condition_no_on : {ts : List Tok} → Not (terminal.Word word.On) ts → No ConditionE (Stops level.ITEM) ts
condition_no_on n a to (condition d) s = n refl

pub condition_no_expr : {ts : List Tok} → No Expr (Stops level.EXPRESSION) ts → No ConditionE (Stops level.ITEM) (Word word.On ∷ ts)
condition_no_expr h a to (condition d) s = h _ _ d (omega arith)

pub condition_no_end : {x : E} {ts : List Tok} (mid : List Tok) → Expr x ts mid → Stops level.EXPRESSION mid → loose (terminal_at mid) ≤ level.ITEM → No ConditionE (Stops level.ITEM) (Word word.On ∷ ts)
condition_no_end mid e r l a to (condition d) s =
    let p = expr_same e d r (omega arith) in let k = ap (λ x. loose (terminal_at x)) p.1 in absurd (omega arith)

-- item ON e
pub on_no_item : {ts : List Tok} → No (ItemE None) (Stops level.ITEM) ts → No OnE (Stops level.ITEM) ts
on_no_item h a to (on_item (item d) (condition f)) s = h _ _ (item d) (omega arith)

pub on_no_condition : {i : FromItem} {ts mid : List Tok} → ItemE None i ts mid → Stops level.ITEM mid → No ConditionE (Stops level.ITEM) mid → No OnE (Stops level.ITEM) ts
on_no_condition e r h a to (on_item d (condition f)) s =
    let p = item_same e d r (omega arith) in h _ _ (begin ConditionE p.1 (condition f)) s

pub on_whole : {a : E} {i : FromItem} {ts mid to : List Tok} → ItemE None i ts mid → ConditionE a mid to → OnE (item_of i.table i.alias (Some a)) ts to
on_whole (item d) f = on_item (item d) f

-- what stands before an item
pub leads_from : (R : List Tok → List Tok → Type 0) {ts us to : List Tok} → ts ≡ us → R us to → R ts to
leads_from R {ts} {us} {to} e d = let P : List Tok → Type 0 = λ m. R m to in subst P (sym e) d

pub turned : {P P' : Type 0} {Q Q' : ℕ → Type 0} (o : Option ℕ) → (P → P') → ((n : ℕ) → Q n → Q' n) → MatchOption o P Q → MatchOption o P' Q'
turned None f g h = f h
turned (Some n) f g h = g n h

pub join_none : {k : Keyword} {ts : List Tok} → Not (terminal.Word k) ts → (us : List Tok) → JoinFront k ts us → ⊥
join_none n us front_word = n refl

pub join_no_word : {k : Keyword} {ts us : List Tok} → ts ≡ Word k ∷ us → Not (terminal.Word word.Join) us → (vs : List Tok) → JoinFront k ts vs → ⊥
join_no_word e n vs front_word = n (sym (ap terminal_at (cut e)))

pub join_leads : (k : Keyword) (t : List Token) (at join next : ℕ) → Then (Word k) t at join → Then (Word word.Join) t join next → Leads (JoinFront k) t at next
join_leads k t at join next s u = (omega (arith, s.0, u.0), u.1, leads_from (JoinFront k) (s.2 ∙ ap (λ r. Word k ∷ r) u.2) front_word)

pub bare_none : {ts : List Tok} → Not (terminal.Sign sign.Comma) ts → ((us : List Tok) → JoinFront word.Cross ts us → ⊥) → (us : List Tok) → BareFront ts us → ⊥
bare_none n h us front_comma = n refl
bare_none n h us front_cross = h us front_word

pub on_none : {ts : List Tok} → Not (terminal.Word word.Join) ts → ((us : List Tok) → JoinFront word.Inner ts us → ⊥) → (us : List Tok) → OnFront ts us → ⊥
on_none n h us front_join = n refl
on_none n h us front_inner = h us front_word

pub cross_front : {ts us : List Tok} → JoinFront word.Cross ts us → BareFront ts us
cross_front front_word = front_cross

pub inner_front : {ts us : List Tok} → JoinFront word.Inner ts us → OnFront ts us
inner_front front_word = front_inner

-- the items of FROM behind the first
pub joins_no_bare : {ts us : List Tok} → BareFront ts us → No (ItemE None) (Stops level.ITEM) us → No (ManyOf JoinE) (Stops level.SOURCES) ts
joins_no_bare front_comma h a to many_end s = absurd (omega arith)
joins_no_bare front_cross h a to many_end s = absurd (omega arith)
joins_no_bare front_comma h a to (many_more (join_bare front_comma d) ds) s = h _ _ d (joins_stop ds s)
joins_no_bare front_cross h a to (many_more (join_bare front_cross d) ds) s = h _ _ d (joins_stop ds s)
joins_no_bare front_comma h a to (many_more (join_on o d) ds) s = elim o [ ]
joins_no_bare front_cross h a to (many_more (join_on o d) ds) s = elim o [ ]

pub joins_no_on : {ts us : List Tok} → OnFront ts us → No OnE (Stops level.ITEM) us → No (ManyOf JoinE) (Stops level.SOURCES) ts
joins_no_on front_join h a to many_end s = absurd (omega arith)
joins_no_on front_inner h a to many_end s = absurd (omega arith)
joins_no_on front_join h a to (many_more (join_on front_join d) ds) s = h _ _ d (joins_stop ds s)
joins_no_on front_inner h a to (many_more (join_on front_inner d) ds) s = h _ _ d (joins_stop ds s)
joins_no_on front_join h a to (many_more (join_bare b d) ds) s = elim b [ ]
joins_no_on front_inner h a to (many_more (join_bare b d) ds) s = elim b [ ]

pub joins_no_front : {ts : List Tok} → ((us : List Tok) → BareFront ts us → ⊥) → ((us : List Tok) → OnFront ts us → ⊥) → loose (terminal_at ts) ≤ level.SOURCES → No (ManyOf JoinE) (Stops level.SOURCES) ts
joins_no_front m n l a to many_end s = absurd (omega arith)
joins_no_front m n l a to (many_more (join_bare f d) ds) s = m _ f
joins_no_front m n l a to (many_more (join_on f d) ds) s = n _ f

pub from_no_item : {ts : List Tok} → No (ItemE None) (Stops level.ITEM) ts → No FromE (Stops level.SOURCES) ts
from_no_item h a to (items d ds) s = h _ _ d (joins_stop ds s)

pub from_no_joins : {i : FromItem} {ts mid : List Tok} → ItemE None i ts mid → Stops level.ITEM mid → No (ManyOf JoinE) (Stops level.SOURCES) mid → No FromE (Stops level.SOURCES) ts
from_no_joins e r h a to (items d ds) s = let p = item_same e d r (joins_stop ds s) in h _ _ (begin (ManyOf JoinE) p.1 ds) s
