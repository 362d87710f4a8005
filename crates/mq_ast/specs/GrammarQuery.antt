-- The grammar of queries without their MODEL clause.
use Rattle.std.specs.Prelude.{ℕ, Bool, true, false, List, [], ◌∷◌, Option, None, Some}
use Rattle.mq_ast.specs.declared.expressions.Path.{Path}
use Rattle.mq_ast.specs.declared.expressions.E.{E}
use Rattle.mq_ast.specs.declared.queries.Sel.{Sel}
use Rattle.mq_ast.specs.declared.queries.FromItem.{FromItem}
use Rattle.mq_ast.specs.declared.queries.OrderKey.{OrderKey}
use Rattle.mq_ast.specs.declared.queries.Plain.{Plain}
use Rattle.mq_ast.specs.declared.parts.Shown.{Shown}
use Rattle.mq_ast.specs.declared.parts.Source.{Source}
use Rattle.mq_lexer.specs.declared.keywords.Keyword.TheVariants as word
use Rattle.mq_ast.specs.Tokens.{Tok, Word, Name, opener, closer, comma, star}
use Rattle.mq_ast.specs.GrammarNames.{PathE}
use Rattle.mq_ast.specs.GrammarLists.{SomeOf, ManyOf}
use Rattle.mq_ast.specs.GrammarExpression.{Expr}

abbrev pub sel_of : E → Option (List ℕ) → Sel
sel_of a alias = record { e = a; alias = alias }

abbrev pub item_of : List ℕ → Option (List ℕ) → Option E → FromItem
item_of table alias on = record { table = table; alias = alias; on = on }

abbrev pub key_of : List ℕ → Bool → OrderKey
key_of n desc = record { name = n; desc = desc }

-- [[AS] name]
pub data AliasE : Option (List ℕ) → List Tok → List Tok → Type 0 where
  alias_none : {to : List Tok} → AliasE None to to
  alias_as : {n : List ℕ} {to : List Tok} → AliasE (Some n) (Word word.As ∷ Name n ∷ to) to
  alias_name : {n : List ℕ} {to : List Tok} → AliasE (Some n) (Name n ∷ to) to

-- sel := e [[AS] name]
pub data SelE : Sel → List Tok → List Tok → Type 0 where
  sel : {a : E} {o : Option (List ℕ)} {from mid to : List Tok} → Expr a from mid → AliasE o mid to → SelE (sel_of a o) from to

-- cols := '(' sel {',' sel} ')'
pub data Cols : List Sel → List Tok → List Tok → Type 0 where
  cols : {xs : List Sel} {from to : List Tok} → SomeOf SelE xs from (closer ∷ to) → Cols xs (opener ∷ from) to

-- item := name [[AS] name], with the condition that stands behind it
pub data ItemE : Option E → FromItem → List Tok → List Tok → Type 0 where
  item : {on : Option E} {n : List ℕ} {o : Option (List ℕ)} {from to : List Tok} →
      AliasE o from to → ItemE on (item_of n o on) (Name n ∷ from) to

-- ',' | CROSS JOIN
pub data BareFront : List Tok → List Tok → Type 0 where
  front_comma : {to : List Tok} → BareFront (comma ∷ to) to
  front_cross : {to : List Tok} → BareFront (Word word.Cross ∷ Word word.Join ∷ to) to

-- [INNER] JOIN
pub data OnFront : List Tok → List Tok → Type 0 where
  front_join : {to : List Tok} → OnFront (Word word.Join ∷ to) to
  front_inner : {to : List Tok} → OnFront (Word word.Inner ∷ Word word.Join ∷ to) to

-- ON e
pub data ConditionE : E → List Tok → List Tok → Type 0 where
  condition : {a : E} {from to : List Tok} → Expr a from to → ConditionE a (Word word.On ∷ from) to

-- item ON e
pub data OnE : FromItem → List Tok → List Tok → Type 0 where
  on_item : {a : E} {i : FromItem} {from mid to : List Tok} → ItemE (Some a) i from mid → ConditionE a mid to → OnE i from to

-- ',' item | [INNER] JOIN item ON e | CROSS JOIN item
pub data JoinE : FromItem → List Tok → List Tok → Type 0 where
  join_bare : {i : FromItem} {from mid to : List Tok} → BareFront from mid → ItemE None i mid to → JoinE i from to
  join_on : {i : FromItem} {from mid to : List Tok} → OnFront from mid → OnE i mid to → JoinE i from to

-- from := item {',' item | [INNER] JOIN item ON e | CROSS JOIN item}
pub data FromE : List FromItem → List Tok → List Tok → Type 0 where
  items : {i : FromItem} {xs : List FromItem} {from mid to : List Tok} →
      ItemE None i from mid → ManyOf JoinE xs mid to → FromE (i ∷ xs) from to

abbrev pub shown_of : Bool → List Sel → Shown
shown_of star sels = record { star = star; sels = sels }

-- ('*' | sel {',' sel}) FROM
pub data ShownE : Shown → List Tok → List Tok → Type 0 where
  shown_star : {to : List Tok} → ShownE (shown_of true []) (star ∷ Word word.From ∷ to) to
  shown_list : {xs : List Sel} {from to : List Tok} → SomeOf SelE xs from (Word word.From ∷ to) → ShownE (shown_of false xs) from to

-- [WHERE e]
pub data WhereE : Option E → List Tok → List Tok → Type 0 where
  where_none : {to : List Tok} → WhereE None to to
  where_some : {a : E} {from to : List Tok} → Expr a from to → WhereE (Some a) (Word word.Where ∷ from) to

-- [GROUP BY path {',' path}]
pub data GroupE : List Path → List Tok → List Tok → Type 0 where
  group_none : {to : List Tok} → GroupE [] to to
  group_some : {xs : List Path} {from to : List Tok} → SomeOf PathE xs from to → GroupE xs (Word word.Group ∷ Word word.By ∷ from) to

abbrev pub source_of : List FromItem → Option E → List Path → Source
source_of froms filter group = record { froms = froms; filter = filter; group = group }

-- from [WHERE e] [GROUP BY path {',' path}]
pub data SourceE : Source → List Tok → List Tok → Type 0 where
  source : {fs : List FromItem} {o : Option E} {gs : List Path} {from mid last to : List Tok} →
      FromE fs from mid → WhereE o mid last → GroupE gs last to → SourceE (source_of fs o gs) from to

abbrev pub plain_of : Shown → Source → Plain
plain_of x y = record { star = x.star; sels = x.sels; froms = y.froms; filter = y.filter; group = y.group }

-- plain := SELECT ('*' | sel {',' sel}) FROM from [WHERE e] [GROUP BY path {',' path}]
pub data PlainE : Plain → List Tok → List Tok → Type 0 where
  plain : {x : Shown} {y : Source} {from mid to : List Tok} →
      ShownE x from mid → SourceE y mid to → PlainE (plain_of x y) (Word word.Select ∷ from) to

-- [ASC | DESC]
pub data DirectionE : Bool → List Tok → List Tok → Type 0 where
  direction_none : {to : List Tok} → DirectionE false to to
  direction_asc : {to : List Tok} → DirectionE false (Word word.Asc ∷ to) to
  direction_desc : {to : List Tok} → DirectionE true (Word word.Desc ∷ to) to

-- key := name [ASC | DESC]
pub data KeyE : OrderKey → List Tok → List Tok → Type 0 where
  key : {n : List ℕ} {b : Bool} {from to : List Tok} → DirectionE b from to → KeyE (key_of n b) (Name n ∷ from) to

-- [ORDER BY key {',' key}]
pub data OrderE : List OrderKey → List Tok → List Tok → Type 0 where
  order_none : {to : List Tok} → OrderE [] to to
  order_some : {ks : List OrderKey} {from to : List Tok} → SomeOf KeyE ks from to → OrderE ks (Word word.Order ∷ Word word.By ∷ from) to
