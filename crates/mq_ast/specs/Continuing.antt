-- Where a part of a statement ends: which tokens go on behind it.
use Rattle.std.specs.Prelude.{◌≡◌, ◌≢◌, ℕ, ◌<◌, List}
use Rattle.mq_lexer.specs.declared.keywords.Keyword.TheVariants as word
use Rattle.mq_lexer.specs.declared.terminals.Symbol.TheVariants as sign
use Rattle.mq_lexer.specs.declared.terminals.Terminal.{Terminal}
use Rattle.mq_lexer.specs.declared.terminals.Terminal.TheVariants.{Word, Sign, Name}
use Rattle.mq_ast.specs.declared.levels.TheConstants as level
use Rattle.mq_ast.specs.declared.clauses.TheConstants as clause
use Rattle.mq_ast.specs.Tokens.{Tok, terminal_at, rest_of}

-- how loosely a token goes on what stands before it
abbrev pub loose : Terminal → ℕ
loose (Sign sign.Point) = level.PATH
loose (Sign sign.Open) = level.PRIMARY
loose (Sign sign.OpenSquare) = level.PRIMARY
loose (Sign (sign.Prod _)) = level.PRODUCT
loose (Sign (sign.Sum _)) = level.SUM
loose (Sign (sign.Cmp _)) = level.TEST
loose (Word word.Between) = level.TEST
loose (Word word.In) = level.TEST
loose (Word word.Is) = level.TEST
loose (Word word.Not) = level.TEST
loose (Word word.And) = level.CONJUNCTION
loose (Word word.Or) = level.EXPRESSION
loose (Word word.As) = level.ITEM
loose Name = level.ITEM
loose (Sign sign.Comma) = level.SOURCES
loose (Word word.Join) = level.SOURCES
loose (Word word.Inner) = level.SOURCES
loose (Word word.Cross) = level.SOURCES
loose (Word word.On) = level.SOURCES
loose (Word word.Where) = level.FILTERED
loose (Word word.Group) = level.PLAIN
loose (Word word.Model) = level.QUERY
loose (Word word.Order) = level.QUERY
loose (Word word.Asc) = level.QUERY
loose (Word word.Desc) = level.QUERY
loose _ = level.NONE

-- no token stands here that goes on at this level or at one below it
abbrev pub Stops : ℕ → List Tok → Type 0
Stops level ts = level < loose (terminal_at ts)

-- no token of this kind stands here
abbrev pub Not : Terminal → List Tok → Type 0
Not t ts = terminal_at ts ≢ t

-- the end of an expression that no token of this kind follows
abbrev pub Ends : Terminal → List Tok → Type 0
Ends t ts = Stops level.EXPRESSION ts × Not t ts

-- a member of a list ends here, and no comma follows
abbrev pub EndsList : (List Tok → Type 0) → List Tok → Type 0
EndsList stop ts = stop ts × Not (Sign sign.Comma) ts

-- the end of a key of ORDER BY
abbrev pub EndsKey : List Tok → Type 0
EndsKey ts = Not (Word word.Asc) ts × Not (Word word.Desc) ts

-- the end of the keys of ORDER BY
abbrev pub EndsKeys : List Tok → Type 0
EndsKeys ts = Not (Sign sign.Comma) ts × Not (Word word.Asc) ts × Not (Word word.Desc) ts

-- neither ORDER stands here nor what goes on behind a key
abbrev pub EndsOrder : List Tok → Type 0
EndsOrder ts = Not (Word word.Order) ts × EndsKeys ts

-- the opening bracket of the rules stands here
abbrev pub Opens : List Tok → Type 0
Opens ts = terminal_at ts ≡ Sign sign.Open

-- the end of the columns of CREATE TABLE: a comma there is that of PRIMARY KEY
abbrev pub EndsCols : List Tok → Type 0
EndsCols ts = Stops level.EXPRESSION ts × (terminal_at ts ≡ Sign sign.Comma → terminal_at (rest_of ts) ≡ Word word.Primary)

-- which part of a MODEL clause begins with a token
abbrev pub part : Terminal → ℕ
part (Word word.Ignore) = clause.OPTION
part (Word word.Keep) = clause.OPTION
part (Word word.Unique) = clause.OPTION
part (Word word.Return) = clause.RETURN
part (Word word.Reference) = clause.REFERENCE
part (Word word.Main) = clause.MAIN
part (Word word.Partition) = clause.PARTITION
part (Word word.Update) = clause.MODE
part (Word word.Upsert) = clause.MODE
part (Word word.All) = clause.MODE
part (Word word.Automatic) = clause.ORDER
part (Word word.Sequential) = clause.ORDER
part (Word word.Iterate) = clause.ITERATE
part (Word word.Until) = clause.UNTIL
part _ = clause.NONE

-- no part of a MODEL clause up to this one begins here
abbrev pub Past : ℕ → List Tok → Type 0
Past n ts = n < part (terminal_at ts)
