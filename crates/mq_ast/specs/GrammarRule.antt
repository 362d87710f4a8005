-- The grammar of the rules of a MODEL clause.
use Rattle.std.specs.Prelude.{ℕ, Bool, true, false, List, [], ◌∷◌, Option, None, Some}
use Rattle.mq_values.specs.declared.operators.Mode.{Mode}
use Rattle.mq_values.specs.declared.operators.Mode.TheVariants as mode
use Rattle.mq_ast.specs.declared.expressions.E.{E}
use Rattle.mq_ast.specs.declared.queries.OrderKey.{OrderKey}
use Rattle.mq_ast.specs.declared.queries.Plain.{Plain}
use Rattle.mq_ast.specs.declared.queries.ForList.{ForList}
use Rattle.mq_ast.specs.declared.queries.ForList.TheVariants.{Values, Rows}
use Rattle.mq_ast.specs.declared.queries.LeftPlace.{LeftPlace}
use Rattle.mq_ast.specs.declared.queries.LeftPlace.TheVariants as left_place
use Rattle.mq_ast.specs.declared.queries.LeftTree.{LeftTree}
use Rattle.mq_ast.specs.declared.queries.LeftTree.TheVariants as left_tree
use Rattle.mq_ast.specs.declared.queries.RuleTree.{RuleTree}
use Rattle.mq_ast.specs.declared.parts.Range.{Range}
use Rattle.mq_lexer.specs.declared.keywords.Keyword.TheVariants as word
use Rattle.mq_ast.specs.Tokens.{Tok, Word, Name, opener, closer, open_square, close_square, equal}
use Rattle.mq_ast.specs.GrammarLists.{SomeOf, NameE}
use Rattle.mq_ast.specs.GrammarExpression.{Expr, Tuple}
use Rattle.mq_ast.specs.GrammarQuery.{PlainE, OrderE}

-- mode := UPDATE | UPSERT [ALL]
pub data ModeE : Mode → List Tok → List Tok → Type 0 where
  mode_update : {to : List Tok} → ModeE mode.Update (Word word.Update ∷ to) to
  mode_upsert : {to : List Tok} → ModeE mode.Upsert (Word word.Upsert ∷ to) to
  mode_upsert_all : {to : List Tok} → ModeE mode.UpsertAll (Word word.Upsert ∷ Word word.All ∷ to) to

-- [mode]
pub data MaybeMode : Option Mode → List Tok → List Tok → Type 0 where
  mode_none : {to : List Tok} → MaybeMode None to to
  mode_some : {m : Mode} {from to : List Tok} → ModeE m from to → MaybeMode (Some m) from to

-- e, as a list of one
pub data AloneE : List E → List Tok → List Tok → Type 0 where
  alone : {a : E} {from to : List Tok} → Expr a from to → AloneE (a ∷ []) from to

-- '(' (a {',' a} | plain) ')', where each a is a list of expressions
pub data ForListE (R : List E → List Tok → List Tok → Type 0) : ForList → List Tok → List Tok → Type 0 where
  for_values : {xss : List (List E)} {from to : List Tok} → SomeOf R xss from (closer ∷ to) → ForListE R (Values xss) (opener ∷ from) to
  for_rows : {p : Plain} {from to : List Tok} → PlainE p from (closer ∷ to) → ForListE R (Rows p) (opener ∷ from) to

-- INCREMENT | DECREMENT
pub data DownE : Bool → List Tok → List Tok → Type 0 where
  down_no : {to : List Tok} → DownE false (Word word.Increment ∷ to) to
  down_yes : {to : List Tok} → DownE true (Word word.Decrement ∷ to) to

-- FROM e TO
pub data StartE : E → List Tok → List Tok → Type 0 where
  start : {a : E} {from to : List Tok} → Expr a from (Word word.To ∷ to) → StartE a (Word word.From ∷ from) to

-- e (INCREMENT | DECREMENT)
pub data FinishE : E × Bool → List Tok → List Tok → Type 0 where
  finish : {a : E} {b : Bool} {from mid to : List Tok} → Expr a from mid → DownE b mid to → FinishE (a, b) from to

abbrev pub range_of : E → E × Bool → E → Range
range_of a b c = record { start = a; finish = b.0; down = b.1; step = c }

-- FROM e TO e (INCREMENT | DECREMENT) e
pub data RangeE : Range → List Tok → List Tok → Type 0 where
  range : {a c : E} {b : E × Bool} {from mid next to : List Tok} →
      StartE a from mid → FinishE b mid next → Expr c next to → RangeE (range_of a b c) from to

abbrev pub place_of : List ℕ → Range → LeftPlace
place_of n r = left_place.ForRange n r.start r.finish r.step r.down

-- lit := ANY | e
--      | FOR name IN '(' (e {',' e} | plain) ')'
--      | FOR name FROM e TO e (INCREMENT | DECREMENT) e
pub data LitE : LeftPlace → List Tok → List Tok → Type 0 where
  lit_any : {to : List Tok} → LitE left_place.Any (Word word.Any ∷ to) to
  lit_expr : {a : E} {from to : List Tok} → Expr a from to → LitE (left_place.Expr a) from to
  lit_in : {n : List ℕ} {l : ForList} {from to : List Tok} →
      ForListE AloneE l from to → LitE (left_place.ForIn n l) (Word word.For ∷ Name n ∷ Word word.In ∷ from) to
  lit_range : {n : List ℕ} {r : Range} {from to : List Tok} → RangeE r from to → LitE (place_of n r) (Word word.For ∷ Name n ∷ from) to

-- left := lit {',' lit}
--       | FOR '(' names ')' IN '(' (tuple {',' tuple} | plain) ')'
pub data LeftE : LeftTree → List Tok → List Tok → Type 0 where
  left_places : {ps : List LeftPlace} {from to : List Tok} → SomeOf LitE ps from to → LeftE (left_tree.Places ps) from to
  left_tuples : {ns : List (List ℕ)} {l : ForList} {from mid to : List Tok} →
      SomeOf NameE ns from (closer ∷ Word word.In ∷ mid) → ForListE Tuple l mid to →
      LeftE (left_tree.Tuples ns l) (Word word.For ∷ opener ∷ from) to

-- [mode] name '['
pub data RuleFront : Option Mode × List ℕ → List Tok → List Tok → Type 0 where
  rule_front : {m : Option Mode} {n : List ℕ} {from to : List Tok} → MaybeMode m from (Name n ∷ open_square ∷ to) → RuleFront (m, n) from to

-- [ORDER BY key {',' key}] '=' e
pub data RuleRight : List OrderKey × E → List Tok → List Tok → Type 0 where
  rule_right : {ks : List OrderKey} {a : E} {from mid to : List Tok} →
      OrderE ks from (equal ∷ mid) → Expr a mid to → RuleRight (ks, a) from to

abbrev pub rule_of : Option Mode × List ℕ → LeftTree → List OrderKey × E → RuleTree
rule_of f l r = record { mode = f.0; measure = f.1; left = l; order = r.0; right = r.1 }

-- rule := [mode] name '[' left ']' [ORDER BY key {',' key}] '=' e
pub data RuleE : RuleTree → List Tok → List Tok → Type 0 where
  rule : {f : Option Mode × List ℕ} {l : LeftTree} {r : List OrderKey × E} {from mid next to : List Tok} →
      RuleFront f from mid → LeftE l mid (close_square ∷ next) → RuleRight r next to → RuleE (rule_of f l r) from to

-- '(' [rule {',' rule}] ')'
pub data RuleList : List RuleTree → List Tok → List Tok → Type 0 where
  rules_none : {to : List Tok} → RuleList [] (opener ∷ closer ∷ to) to
  rules_some : {rs : List RuleTree} {from to : List Tok} → SomeOf RuleE rs from (closer ∷ to) → RuleList rs (opener ∷ from) to
