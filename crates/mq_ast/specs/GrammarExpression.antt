-- The grammar of expressions. Expr a from to: a reads the tokens of `from` before `to`.
use Rattle.std.specs.Prelude.{◌≡◌, ℕ, true, false, List, [], ◌∷◌, length, Option, None, Some}
use Rattle.mq_values.specs.Number.{Number}
use Rattle.mq_values.specs.declared.operators.Agg.{Agg}
use Rattle.mq_values.specs.declared.operators.Agg.TheVariants as agg
use Rattle.mq_values.specs.declared.operators.CmpOp.{CmpOp}
use Rattle.mq_values.specs.declared.operators.SumOp.{SumOp}
use Rattle.mq_values.specs.declared.operators.ProdOp.{ProdOp}
use Rattle.mq_values.specs.declared.operators.Func.{Func}
use Rattle.mq_values.specs.declared.operators.Func.TheVariants as func
use Rattle.mq_values.specs.declared.value.Kind.{Kind}
use Rattle.mq_values.specs.declared.value.Value.TheVariants as value
use Rattle.mq_ast.specs.declared.expressions.Path.{Path}
use Rattle.mq_ast.specs.declared.expressions.Place.{Place}
use Rattle.mq_ast.specs.declared.expressions.Place.TheVariants as place
use Rattle.mq_ast.specs.declared.expressions.SumTerm.{SumTerm}
use Rattle.mq_ast.specs.declared.expressions.ProdTerm.{ProdTerm}
use Rattle.mq_ast.specs.declared.expressions.Arm.{Arm}
use Rattle.mq_ast.specs.declared.expressions.E.{E}
use Rattle.mq_ast.specs.declared.expressions.E.TheVariants as e
use Rattle.mq_lexer.specs.declared.keywords.Keyword.{Keyword}
use Rattle.mq_lexer.specs.declared.keywords.Keyword.TheVariants as word
use Rattle.mq_lexer.specs.declared.terminals.Symbol.TheVariants as sign
use Rattle.mq_ast.specs.Tokens.{Tok, Word, Aggregate, Sign, Name, Num, Text, opener, closer, open_square, close_square, comma, minus, star}
use Rattle.mq_ast.specs.GrammarNames.{PathE, IsInt, scale_of, KindE, DayE}
use Rattle.mq_ast.specs.Calls.{call_of}
use Rattle.mq_ast.specs.Chains.{or_of, and_of, sum_of, prod_of, sum_term, prod_term, arm}

mutual
  -- e := and {OR and}
  pub data Expr : E → List Tok → List Tok → Type 0 where
    expr : {a : E} {xs : List E} {from mid to : List Tok} → AndE a from mid → MoreOr xs mid to → Expr (or_of a xs) from to

  pub data MoreOr : List E → List Tok → List Tok → Type 0 where
    or_end : {to : List Tok} → MoreOr [] to to
    or_more : {a : E} {xs : List E} {from mid to : List Tok} → AndE a from mid → MoreOr xs mid to → MoreOr (a ∷ xs) (Word word.Or ∷ from) to

  -- and := not {AND not}
  pub data AndE : E → List Tok → List Tok → Type 0 where
    and : {a : E} {xs : List E} {from mid to : List Tok} → NotE a from mid → MoreAnd xs mid to → AndE (and_of a xs) from to

  pub data MoreAnd : List E → List Tok → List Tok → Type 0 where
    and_end : {to : List Tok} → MoreAnd [] to to
    and_more : {a : E} {xs : List E} {from mid to : List Tok} →
        NotE a from mid → MoreAnd xs mid to → MoreAnd (a ∷ xs) (Word word.And ∷ from) to

  -- not := [NOT] test
  pub data NotE : E → List Tok → List Tok → Type 0 where
    not_plain : {a : E} {from to : List Tok} → TestE a from to → NotE a from to
    not_not : {a : E} {from to : List Tok} → TestE a from to → NotE (e.Not a) (Word word.Not ∷ from) to

  -- test := sum [ what is below ]; TestTail a b: a with what follows is b
  pub data TestE : E → List Tok → List Tok → Type 0 where
    test : {a b : E} {from mid to : List Tok} → SumE a from mid → TestTail a b mid to → TestE b from to

  pub data TestTail : E → E → List Tok → List Tok → Type 0 where
    tail_none : {a : E} {to : List Tok} → TestTail a a to to
    -- ('=' | '<>' | '!=' | '<' | '<=' | '>' | '>=') sum
    tail_cmp : {a b : E} {op : CmpOp} {from to : List Tok} → SumE b from to → TestTail a (e.Cmp a op b) (Sign (sign.Cmp op) ∷ from) to
    -- [NOT] BETWEEN sum AND sum
    tail_between : {a b c : E} {from mid to : List Tok} →
        SumE b from (Word word.And ∷ mid) → SumE c mid to → TestTail a (e.Between a false b c) (Word word.Between ∷ from) to
    tail_not_between : {a b c : E} {from mid to : List Tok} →
        SumE b from (Word word.And ∷ mid) → SumE c mid to → TestTail a (e.Between a true b c) (Word word.Not ∷ Word word.Between ∷ from) to
    -- [NOT] IN tuple
    tail_in : {a : E} {xs : List E} {from to : List Tok} → Tuple xs from to → TestTail a (e.InList a false xs) (Word word.In ∷ from) to
    tail_not_in : {a : E} {xs : List E} {from to : List Tok} →
        Tuple xs from to → TestTail a (e.InList a true xs) (Word word.Not ∷ Word word.In ∷ from) to
    -- IS [NOT] NULL | IS [NOT] PRESENT | IS ANY
    tail_null : {a : E} {to : List Tok} → TestTail a (e.IsNull a false) (Word word.Is ∷ Word word.Null ∷ to) to
    tail_not_null : {a : E} {to : List Tok} → TestTail a (e.IsNull a true) (Word word.Is ∷ Word word.Not ∷ Word word.Null ∷ to) to
    tail_present : {a : E} {to : List Tok} → TestTail a (e.IsPresent a false) (Word word.Is ∷ Word word.Present ∷ to) to
    tail_not_present : {a : E} {to : List Tok} → TestTail a (e.IsPresent a true) (Word word.Is ∷ Word word.Not ∷ Word word.Present ∷ to) to
    tail_any : {a : E} {to : List Tok} → TestTail a (e.IsAny a) (Word word.Is ∷ Word word.Any ∷ to) to

  -- tuple := '(' e {',' e} ')'
  pub data Tuple : List E → List Tok → List Tok → Type 0 where
    tuple : {xs : List E} {from to : List Tok} → Exprs xs from (closer ∷ to) → Tuple xs (opener ∷ from) to

  -- e {',' e}
  pub data Exprs : List E → List Tok → List Tok → Type 0 where
    exprs : {a : E} {xs : List E} {from mid to : List Tok} → Expr a from mid → MoreExprs xs mid to → Exprs (a ∷ xs) from to

  pub data MoreExprs : List E → List Tok → List Tok → Type 0 where
    exprs_end : {to : List Tok} → MoreExprs [] to to
    exprs_more : {a : E} {xs : List E} {from mid to : List Tok} →
        Expr a from mid → MoreExprs xs mid to → MoreExprs (a ∷ xs) (comma ∷ from) to

  -- sum := prod {('+' | '-' | vbars) prod}
  pub data SumE : E → List Tok → List Tok → Type 0 where
    sum : {a : E} {xs : List SumTerm} {from mid to : List Tok} → ProdE a from mid → MoreSum xs mid to → SumE (sum_of a xs) from to

  pub data MoreSum : List SumTerm → List Tok → List Tok → Type 0 where
    sum_end : {to : List Tok} → MoreSum [] to to
    sum_more : {op : SumOp} {a : E} {xs : List SumTerm} {from mid to : List Tok} →
        ProdE a from mid → MoreSum xs mid to → MoreSum (sum_term op a ∷ xs) (Sign (sign.Sum op) ∷ from) to

  -- prod := sign {('*' | '/') sign}
  pub data ProdE : E → List Tok → List Tok → Type 0 where
    prod : {a : E} {xs : List ProdTerm} {from mid to : List Tok} → SignE a from mid → MoreProd xs mid to → ProdE (prod_of a xs) from to

  pub data MoreProd : List ProdTerm → List Tok → List Tok → Type 0 where
    prod_end : {to : List Tok} → MoreProd [] to to
    prod_more : {op : ProdOp} {a : E} {xs : List ProdTerm} {from mid to : List Tok} →
        SignE a from mid → MoreProd xs mid to → MoreProd (prod_term op a ∷ xs) (Sign (sign.Prod op) ∷ from) to

  -- sign := ['-'] prim
  pub data SignE : E → List Tok → List Tok → Type 0 where
    sign_plain : {a : E} {from to : List Tok} → PrimE a from to → SignE a from to
    sign_minus : {a : E} {from to : List Tok} → PrimE a from to → SignE (e.Neg a) (minus ∷ from) to

  -- prim := what is below
  pub data PrimE : E → List Tok → List Tok → Type 0 where
    -- num | txt | NULL | DATE dtxt
    prim_num : {n : Number} {to : List Tok} → PrimE (e.Lit (value.Num n)) (Num n ∷ to) to
    prim_text : {t : List ℕ} {to : List Tok} → PrimE (e.Lit (value.Text t)) (Text t ∷ to) to
    prim_null : {to : List Tok} → PrimE (e.Lit value.Null) (Word word.Null ∷ to) to
    prim_date : {day : ℕ} {from to : List Tok} → DayE day from to → PrimE (e.Lit (value.Date day)) (Word word.Date ∷ from) to
    -- path | path '[' (ANY | e) {',' (ANY | e)} ']', where a path begins with a name
    prim_path : {p : Path} {n : List ℕ} {from to : List Tok} → PathE p (Name n ∷ from) to → PrimE (e.Name p) (Name n ∷ from) to
    prim_cell : {p : Path} {n : List ℕ} {ps : List Place} {from mid to : List Tok} →
        PathE p (Name n ∷ from) mid → Brackets ps mid to → PrimE (e.Cell p ps) (Name n ∷ from) to
    -- '(' e ')'
    prim_round : {a : E} {from to : List Tok} → Expr a from (closer ∷ to) → PrimE a (opener ∷ from) to
    -- agg '(' e ')' | COUNT '(' '*' ')' | agg '(' name ')' '[' (ANY | e) {',' (ANY | e)} ']'
    prim_agg : {g : Agg} {a : E} {from to : List Tok} → Expr a from (closer ∷ to) → PrimE (e.Agg g a) (Aggregate g ∷ opener ∷ from) to
    prim_count : {to : List Tok} → PrimE e.CountAll (Aggregate agg.Count ∷ opener ∷ star ∷ closer ∷ to) to
    prim_range : {g : Agg} {n : List ℕ} {ps : List Place} {from to : List Tok} →
        Brackets ps from to → PrimE (e.RangeAgg g n ps) (Aggregate g ∷ opener ∷ Name n ∷ closer ∷ from) to
    -- CASE [e] WHEN e THEN e {WHEN e THEN e} [ELSE e] END
    prim_case : {c o : Option E} {a b : E} {xs : List Arm} {from start mid to : List Tok} → CaseE c from start →
        Whens (arm a b ∷ xs) start mid → ElseE o mid (Word word.End ∷ to) → PrimE (e.Case c (arm a b ∷ xs) o) (Word word.Case ∷ from) to
    -- CAST '(' e AS kind ')'
    prim_cast : {a : E} {k : Kind} {from mid to : List Tok} →
        Expr a from (Word word.As ∷ mid) → KindE k mid (closer ∷ to) → PrimE (e.Cast a k) (Word word.Cast ∷ opener ∷ from) to
    -- a word that calls a function, and as many expressions as it takes, as a tuple
    prim_call : {k : Keyword} {f : Func} {n : ℕ} {xs : List E} {from to : List Tok} →
        call_of k ≡ Some (f, n) → Tuple xs from to → length xs ≡ n → PrimE (e.Call f xs) (Word k ∷ from) to
    -- ROUND '(' e ',' int ')'
    prim_to : {a : E} {n : Number} {from to : List Tok} →
        Expr a from (comma ∷ Num n ∷ closer ∷ to) → IsInt n →
        PrimE (e.Call (func.Round (scale_of n)) (a ∷ [])) (Word word.Round ∷ opener ∷ from) to
    -- CV '(' [name] ')' | ITERATION_NUMBER | PREVIOUS '(' e ')'
    prim_cv : {to : List Tok} → PrimE (e.Cv None) (Word word.Cv ∷ opener ∷ closer ∷ to) to
    prim_cv_name : {n : List ℕ} {to : List Tok} → PrimE (e.Cv (Some n)) (Word word.Cv ∷ opener ∷ Name n ∷ closer ∷ to) to
    prim_turn : {to : List Tok} → PrimE e.Turn (Word word.IterationNumber ∷ to) to
    prim_previous : {a : E} {from to : List Tok} → Expr a from (closer ∷ to) → PrimE (e.Previous a) (Word word.Previous ∷ opener ∷ from) to
    -- PRESENTV '(' e ',' e ',' e ')' | PRESENTNNV '(' e ',' e ',' e ')'
    prim_presentv : {a b c : E} {from mid next to : List Tok} → Expr a from (comma ∷ mid) → Expr b mid (comma ∷ next) →
        Expr c next (closer ∷ to) → PrimE (e.PresentV (a ∷ b ∷ c ∷ [])) (Word word.Presentv ∷ opener ∷ from) to
    prim_presentnnv : {a b c : E} {from mid next to : List Tok} → Expr a from (comma ∷ mid) → Expr b mid (comma ∷ next) →
        Expr c next (closer ∷ to) → PrimE (e.PresentNnv (a ∷ b ∷ c ∷ [])) (Word word.Presentnnv ∷ opener ∷ from) to

  -- '[' (ANY | e) {',' (ANY | e)} ']'
  pub data Brackets : List Place → List Tok → List Tok → Type 0 where
    brackets : {p : Place} {ps : List Place} {from mid to : List Tok} →
        PlaceE p from mid → MorePlaces ps mid (close_square ∷ to) → Brackets (p ∷ ps) (open_square ∷ from) to

  pub data MorePlaces : List Place → List Tok → List Tok → Type 0 where
    places_end : {to : List Tok} → MorePlaces [] to to
    places_more : {p : Place} {ps : List Place} {from mid to : List Tok} →
        PlaceE p from mid → MorePlaces ps mid to → MorePlaces (p ∷ ps) (comma ∷ from) to

  -- ANY | e
  pub data PlaceE : Place → List Tok → List Tok → Type 0 where
    place_any : {to : List Tok} → PlaceE place.Any (Word word.Any ∷ to) to
    place_expr : {a : E} {from to : List Tok} → Expr a from to → PlaceE (place.Expr a) from to

  -- [e] behind CASE
  pub data CaseE : Option E → List Tok → List Tok → Type 0 where
    case_none : {to : List Tok} → CaseE None to to
    case_some : {a : E} {from to : List Tok} → Expr a from to → CaseE (Some a) from to

  -- {WHEN e THEN e}
  pub data Whens : List Arm → List Tok → List Tok → Type 0 where
    whens_end : {to : List Tok} → Whens [] to to
    whens_more : {a b : E} {xs : List Arm} {from mid next to : List Tok} →
        Expr a from (Word word.Then ∷ mid) → Expr b mid next → Whens xs next to → Whens (arm a b ∷ xs) (Word word.When ∷ from) to

  -- [ELSE e]
  pub data ElseE : Option E → List Tok → List Tok → Type 0 where
    else_none : {to : List Tok} → ElseE None to to
    else_some : {a : E} {from to : List Tok} → Expr a from to → ElseE (Some a) (Word word.Else ∷ from) to
