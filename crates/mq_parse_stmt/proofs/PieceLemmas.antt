-- Where a part of a statement reads nothing, by its parts.
use Rattle.std.proofs.Common.{◌≡◌, ℕ, ◌≤◌, List, ◌∷◌, Result, Ok, Err, refl, ap, arith}
use Rattle.std.specs.Prelude.{Option}
use Rattle.mq_values.specs.declared.memory.Fail.{Fail}
use Rattle.mq_values.specs.declared.faults.Refused.{Refused}
use Rattle.mq_lexer.specs.declared.sorts.Token.{Token}
use Rattle.mq_values.specs.declared.value.Kind.{Kind}
use Rattle.mq_values.specs.declared.operators.CmpOp.TheVariants as cmp
use Rattle.mq_ast.specs.declared.statements.ColDef.{ColDef}
use Rattle.mq_ast.specs.declared.expressions.E.{E}
use Rattle.mq_lexer.specs.declared.keywords.Keyword.{Keyword}
use Rattle.mq_ast.specs.declared.levels.TheConstants as level
use Rattle.mq_lexer.specs.declared.terminals.Symbol.TheVariants as sign
use Rattle.mq_lexer.specs.declared.terminals.Terminal.TheVariants as terminal
use Rattle.mq_lexer.specs.declared.keywords.Keyword.TheVariants as word
use Rattle.mq_ast.specs.Prelude.{ColE, Ends, EndsCols, EndsList, Expr, Exprs, KindE, MoreOf, Name, NameE, NamesE, Not, NotNullE}
use Rattle.mq_ast.specs.Prelude.{PrimaryE, SetE, SomeOf, Stops, Text, Tok, Tuple, WhereE, Word, col, comma, equal, loose}
use Rattle.mq_ast.specs.Prelude.{more_comma, more_end, name, names, names_none, names_some, null_may, null_not, opener, part_none}
use Rattle.mq_ast.specs.Prelude.{part_some, point, primary_none, primary_some, set, some_of, terminal_at}
use Rattle.mq_ast.specs.Laws.{begin, col_same, cols_of_same, cut, exprs_same, kind_same, maybe_part_same, names_of_same, names_same}
use Rattle.mq_ast.specs.Laws.{primary_ends, primary_same, sets_same, stops_not, tuple_same, where_same, where_stop}
use Rattle.mq_parse_words.specs.Names.{TextE, txt}
use Rattle.mq_parse_words.specs.Reading.{from, No, Anywhere, IsRead}
use Rattle.mq_parse_words.specs.StepLemmas.{exit}
use Rattle.mq_parse_stmt.specs.Results.{beside}
use Rattle.mq_parse_stmt.specs.Pieces.{WordName, word_name, KeyEnd, KeyBehind, Body, body, NamesValues, Changes, changes}
use Rattle.mq_parse_stmt.specs.Pieces.{Measure, measure, PartOpen, ValuesEnd, Spot, spot}

-- a part with another before it
pub beside_gives : {A B : Type 0} (R : A × B → List Tok → List Tok → Type 0) (S : B → List Tok → List Tok → Type 0) (Stop : List Tok → Type 0) (t : List Token) (at mid : ℕ) (a : A) (found : Result (B × ℕ) (Fail Refused)) → at ≤ mid → ((b : B) (to : List Tok) → S b (from t mid) to → R (a, b) (from t at) to) → (No S Stop (from t mid) → No R Stop (from t at)) → IsRead S Stop t mid found → IsRead R Stop t at (beside a found)
beside_gives R S Stop t at mid a (Ok r) l f h g = (omega (arith, l, g.0), g.1, f r.0 _ g.2, g.3)
beside_gives R S Stop t at mid a (Err f') l f h g = exit f' g h

-- a name behind a word, and a text
pub word_named : {k : Keyword} {n : List ℕ} {ts to : List Tok} → WordName k n ts to → ts ≡ Word k ∷ Name n ∷ to
word_named word_name = refl

pub texted : {z : List ℕ} {ts to : List Tok} → TextE z ts to → ts ≡ Text z ∷ to
texted txt = refl

pub word_name_no_word : {k : Keyword} {ts : List Tok} → Not (terminal.Word k) ts → No (WordName k) Anywhere ts
word_name_no_word n a to word_name s = n refl

pub word_name_no_name : {j k : Keyword} {ts : List Tok} → No NameE Anywhere ts → No (WordName k) Anywhere (Word j ∷ ts)
word_name_no_name h a to word_name s = h _ _ name tt

-- names between brackets
pub names_no_open : {ts : List Tok} → Not (terminal.Sign sign.Open) ts → No NamesE Anywhere ts
names_no_open n a to (names d) s = n refl

pub names_no_list : {ts : List Tok} → No (SomeOf NameE) (EndsList Anywhere) ts → No NamesE Anywhere (opener ∷ ts)
names_no_list h a to (names d) s = h _ _ d (tt, λ e. cc)

pub names_no_close : {ns : List (List ℕ)} {ts mid : List Tok} → SomeOf NameE ns ts mid → EndsList Anywhere mid → Not (terminal.Sign sign.Close) mid → No NamesE Anywhere (opener ∷ ts)
names_no_close e r n a to (names d) s = let p = names_same e d r.1 (λ e. cc) in n (ap terminal_at p.1)

-- [NOT NULL]
pub null_no_null : {ts : List Tok} → Not (terminal.Word word.Null) ts → No NotNullE (Stops level.EXPRESSION) (Word word.Not ∷ ts)
null_no_null n a to null_may s = absurd (omega arith)
null_no_null n a to null_not s = n refl

pub null_no_end : {ts : List Tok} → loose (terminal_at ts) ≤ level.EXPRESSION → No NotNullE (Stops level.EXPRESSION) (Word word.Not ∷ Word word.Null ∷ ts)
null_no_end l a to null_may s = absurd (omega arith)
null_no_end l a to null_not s = absurd (omega arith)

pub null_no_plain : {ts : List Tok} → Not (terminal.Word word.Not) ts → loose (terminal_at ts) ≤ level.EXPRESSION → No NotNullE (Stops level.EXPRESSION) ts
null_no_plain n l a to null_may s = absurd (omega arith)
null_no_plain n l a to null_not s = n refl

-- a column
pub col_no_name : {ts : List Tok} → No NameE Anywhere ts → No ColE (Stops level.EXPRESSION) ts
col_no_name h a to (col k b) s = h _ _ name tt

pub col_no_kind : {n : List ℕ} {ts : List Tok} → No KindE Anywhere ts → No ColE (Stops level.EXPRESSION) (Name n ∷ ts)
col_no_kind h a to (col k b) s = h _ _ k tt

pub col_no_null : {n : List ℕ} {k : Kind} {ts mid : List Tok} → KindE k ts mid → No NotNullE (Stops level.EXPRESSION) mid → No ColE (Stops level.EXPRESSION) (Name n ∷ ts)
col_no_null e h a to (col k b) s = let p = kind_same e k in h _ _ (begin NotNullE p.1 b) s

-- columns, up to a comma before PRIMARY
cols_stop : {cs : List ColDef} {from to : List Tok} → MoreOf ColE cs from to → EndsCols to → Stops level.EXPRESSION from
cols_stop more_end s = s.0
cols_stop (more_comma d ds) s = omega arith

pub cols_no_first : {ts : List Tok} → No ColE (Stops level.EXPRESSION) ts → No (SomeOf ColE) EndsCols ts
cols_no_first h a to (some_of d ds) s = h _ _ d (cols_stop ds s)

pub cols_no_others : {c : ColDef} {ts mid : List Tok} → ColE c ts mid → Stops level.EXPRESSION mid → No (MoreOf ColE) EndsCols mid → No (SomeOf ColE) EndsCols ts
cols_no_others e r h a to (some_of d ds) s = let p = col_same _ _ _ _ _ e d r (cols_stop ds s) in h _ _ (begin (MoreOf ColE) p.1 ds) s

pub cols_no_next : {ts : List Tok} → Not (terminal.Word word.Primary) ts → No ColE (Stops level.EXPRESSION) ts → No (MoreOf ColE) EndsCols (comma ∷ ts)
cols_no_next n h a to more_end s = n (s.1 refl)
cols_no_next n h a to (more_comma d ds) s = h _ _ d (cols_stop ds s)

pub cols_no_more : {c : ColDef} {ts mid : List Tok} → Not (terminal.Word word.Primary) ts → ColE c ts mid → Stops level.EXPRESSION mid → No (MoreOf ColE) EndsCols mid → No (MoreOf ColE) EndsCols (comma ∷ ts)
cols_no_more n e r h a to more_end s = n (s.1 refl)
cols_no_more n e r h a to (more_comma d ds) s = let p = col_same _ _ _ _ _ e d r (cols_stop ds s) in h _ _ (begin (MoreOf ColE) p.1 ds) s

-- the key and the closing bracket
pub key_no_close : {ts : List Tok} → Not (terminal.Sign sign.Comma) ts → Not (terminal.Sign sign.Close) ts → No KeyEnd Anywhere ts
key_no_close m n a to primary_none s = n refl
key_no_close m n a to (primary_some d) s = m refl

pub key_no_primary : {ts : List Tok} → Not (terminal.Word word.Primary) ts → No KeyBehind Anywhere ts
key_no_primary n a to (primary_some d) s = n refl

pub key_no_key : {ts : List Tok} → Not (terminal.Word word.Key) ts → No KeyBehind Anywhere (Word word.Primary ∷ ts)
key_no_key n a to (primary_some d) s = n refl

pub key_no_names : {ts : List Tok} → No NamesE Anywhere ts → No KeyBehind Anywhere (Word word.Primary ∷ Word word.Key ∷ ts)
key_no_names h a to (primary_some d) s = h _ _ d tt

pub key_no_end : {ns : List (List ℕ)} {ts mid : List Tok} → NamesE ns ts mid → Not (terminal.Sign sign.Close) mid → No KeyBehind Anywhere (Word word.Primary ∷ Word word.Key ∷ ts)
key_no_end e n a to (primary_some d) s = let p = names_of_same e d in n (ap terminal_at p.1)

-- the columns and the key between brackets
pub body_no_open : {ts : List Tok} → Not (terminal.Sign sign.Open) ts → No Body Anywhere ts
body_no_open n a to (body d k) s = n refl

pub body_no_cols : {ts : List Tok} → No (SomeOf ColE) EndsCols ts → No Body Anywhere (opener ∷ ts)
body_no_cols h a to (body d k) s = h _ _ d (primary_ends k)

pub body_no_key : {cs : List ColDef} {ts mid : List Tok} → SomeOf ColE cs ts mid → EndsCols mid → No KeyEnd Anywhere mid → No Body Anywhere (opener ∷ ts)
body_no_key e r h a to (body d k) s = let p = cols_of_same e d r (primary_ends k) in h _ _ (begin PrimaryE p.1 k) tt

pub body_same : {b b' : List ColDef × List (List ℕ)} {ts to to' : List Tok} → Body b ts to → Body b' ts to' → to ≡ to'
body_same (body d k) (body d' k') = let p = cols_of_same d d' (primary_ends k) (primary_ends k') in (primary_same k (begin PrimaryE p.1 k')).1

-- ['(' names ')'] VALUES
pub values_no_names : {ts : List Tok} → Not (terminal.Word word.Values) ts → No NamesE Anywhere ts → No NamesValues Anywhere ts
values_no_names n h a to names_none s = n refl
values_no_names n h a to (names_some d) s = h _ _ d tt

pub values_no_values : {ns : List (List ℕ)} {ts mid : List Tok} → NamesE ns ts mid → Not (terminal.Word word.Values) mid → No NamesValues Anywhere ts
values_no_values e n a to names_none s = elim e [ ]
values_no_values e n a to (names_some d) s = let p = names_of_same e d in n (ap terminal_at p.1)

-- name '=' e
pub set_no_name : {ts : List Tok} → No NameE Anywhere ts → No SetE (Stops level.EXPRESSION) ts
set_no_name h a to (set d) s = h _ _ name tt

pub set_no_equal : {n : List ℕ} {ts : List Tok} → Not (terminal.Sign (sign.Cmp cmp.Eq)) ts → No SetE (Stops level.EXPRESSION) (Name n ∷ ts)
set_no_equal n a to (set d) s = n refl

pub set_no_value : {n : List ℕ} {ts : List Tok} → No Expr (Stops level.EXPRESSION) ts → No SetE (Stops level.EXPRESSION) (Name n ∷ equal ∷ ts)
set_no_value h a to (set d) s = h _ _ d s

-- the new values and the condition
pub where_ends : {o : Option E} {from to : List Tok} → WhereE o from to → Stops level.FILTERED to → EndsList (Stops level.EXPRESSION) from
where_ends w s = let r = where_stop w s in (omega (arith, r), stops_not level.SOURCES (terminal.Sign sign.Comma) _ (omega arith) r)

pub changes_no_sets : {ts : List Tok} → No (SomeOf SetE) (EndsList (Stops level.EXPRESSION)) ts → No Changes (Stops level.FILTERED) ts
changes_no_sets h a to (changes d w) s = h _ _ d (where_ends w s)

pub changes_no_where : {xs : List (List ℕ × E)} {ts mid : List Tok} → SomeOf SetE xs ts mid → EndsList (Stops level.EXPRESSION) mid → No WhereE (Stops level.FILTERED) mid → No Changes (Stops level.FILTERED) ts
changes_no_where e r h a to (changes d w) s = let p = sets_same e d r (where_ends w s) in h _ _ (begin WhereE p.1 w) s

pub changes_same : {c c' : List (List ℕ × E) × Option E} {ts to to' : List Tok} → Changes c ts to → Changes c' ts to' → Stops level.FILTERED to → Stops level.FILTERED to' → to ≡ to'
changes_same (changes d w) (changes d' w') s s' = let p = sets_same d d' (where_ends w s) (where_ends w' s') in (where_same w (begin WhereE p.1 w') s s').1

-- CELL name '.' name
pub measured : {p : List ℕ × List ℕ} {ts to : List Tok} → Measure p ts to → ts ≡ Word word.Cell ∷ Name p.0 ∷ point ∷ Name p.1 ∷ to
measured measure = refl

pub measure_no_view : {ts : List Tok} → No (WordName word.Cell) Anywhere ts → No Measure Anywhere ts
measure_no_view h a to measure s = h _ _ word_name tt

pub measure_no_point : {n : List ℕ} {ts : List Tok} → Not (terminal.Sign sign.Point) ts → No Measure Anywhere (Word word.Cell ∷ Name n ∷ ts)
measure_no_point n a to measure s = n refl

pub measure_no_name : {n : List ℕ} {ts : List Tok} → No NameE Anywhere ts → No Measure Anywhere (Word word.Cell ∷ Name n ∷ point ∷ ts)
measure_no_name h a to measure s = h _ _ name tt

pub measure_read : {n m : List ℕ} {ts to : List Tok} → NameE m ts to → Measure (n, m) (Word word.Cell ∷ Name n ∷ point ∷ ts) to
measure_read name = measure

-- [PARTITION tuple] '['
pub part_no_word : {ts : List Tok} → Not (terminal.Sign sign.OpenSquare) ts → Not (terminal.Word word.Partition) ts → No PartOpen Anywhere ts
part_no_word n m a to part_none s = n refl
part_no_word n m a to (part_some d) s = m refl

pub part_no_tuple : {ts : List Tok} → No Tuple Anywhere ts → No PartOpen Anywhere (Word word.Partition ∷ ts)
part_no_tuple h a to (part_some d) s = h _ _ d tt

pub part_no_open : {xs : List E} {ts mid : List Tok} → Tuple xs ts mid → Not (terminal.Sign sign.OpenSquare) mid → No PartOpen Anywhere (Word word.Partition ∷ ts)
part_no_open e n a to (part_some d) s = let p = tuple_same e d in n (ap terminal_at p.1)

-- e {',' e} ']'
pub values_no_first : {ts : List Tok} → No Exprs (Ends (terminal.Sign sign.Comma)) ts → No ValuesEnd Anywhere ts
values_no_first h a to d s = h _ _ d (omega arith, λ e. cc)

pub values_no_close : {xs : List E} {ts mid : List Tok} → Exprs xs ts mid → Ends (terminal.Sign sign.Comma) mid → Not (terminal.Sign sign.CloseSquare) mid → No ValuesEnd Anywhere ts
values_no_close e r n a to d s = let p = exprs_same e d r (omega arith, λ e. cc) in n (ap terminal_at p.1)

-- [PARTITION tuple] '[' e {',' e} ']'
pub spot_no_part : {ts : List Tok} → No PartOpen Anywhere ts → No Spot Anywhere ts
spot_no_part h a to (spot p d) s = h _ _ p tt

pub spot_no_values : {ps : List E} {ts mid : List Tok} → PartOpen ps ts mid → No ValuesEnd Anywhere mid → No Spot Anywhere ts
spot_no_values e h a to (spot p d) s = let q = maybe_part_same e p in h _ _ (begin Exprs q.1 d) tt

pub spot_same : {a b : List E × List E} {ts to to' : List Tok} → Spot a ts to → Spot b ts to' → to ≡ to'
spot_same (spot p d) (spot p' d') =
    let q = maybe_part_same p p' in
    cut (exprs_same d (begin Exprs q.1 d') (omega arith, λ e. cc) (omega arith, λ e. cc)).1
