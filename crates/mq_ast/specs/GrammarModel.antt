-- The grammar of MODEL clauses and of whole queries.
use Rattle.std.specs.Prelude.{ℕ, Bool, true, false, List, [], ◌∷◌, Option, None, Some}
use Rattle.mq_ast.specs.declared.queries.Sel.{Sel}
use Rattle.mq_ast.specs.declared.queries.OrderKey.{OrderKey}
use Rattle.mq_ast.specs.declared.queries.Plain.{Plain}
use Rattle.mq_ast.specs.declared.queries.Opt.{Opt}
use Rattle.mq_ast.specs.declared.queries.Opt.TheVariants as opt
use Rattle.mq_ast.specs.declared.queries.RefTree.{RefTree}
use Rattle.mq_ast.specs.declared.queries.RuleTree.{RuleTree}
use Rattle.mq_ast.specs.declared.queries.ModelTree.{ModelTree}
use Rattle.mq_ast.specs.declared.queries.Query.{Query}
use Rattle.mq_ast.specs.declared.parts.Head.{Head}
use Rattle.mq_ast.specs.declared.parts.Front.{Front}
use Rattle.mq_ast.specs.declared.parts.Body.{Body}
use Rattle.mq_ast.specs.declared.parts.Tail.{Tail}
use Rattle.mq_lexer.specs.declared.keywords.Keyword.TheVariants as word
use Rattle.mq_ast.specs.Tokens.{Tok, Word, Name, opener, closer}
use Rattle.mq_ast.specs.GrammarLists.{ManyOf}
use Rattle.mq_ast.specs.GrammarQuery.{Cols, PlainE, OrderE}
use Rattle.mq_ast.specs.GrammarRule.{RuleList}
use Rattle.mq_ast.specs.GrammarHead.{HeadE}

-- opt := IGNORE NAV | KEEP NAV | UNIQUE DIMENSION
pub data OptE : Opt → List Tok → List Tok → Type 0 where
  opt_ignore : {to : List Tok} → OptE opt.IgnoreNav (Word word.Ignore ∷ Word word.Nav ∷ to) to
  opt_keep : {to : List Tok} → OptE opt.KeepNav (Word word.Keep ∷ Word word.Nav ∷ to) to
  opt_unique : {to : List Tok} → OptE opt.UniqueDimension (Word word.Unique ∷ Word word.Dimension ∷ to) to

-- ALL | UPDATED
pub data WhichE : Bool → List Tok → List Tok → Type 0 where
  which_all : {to : List Tok} → WhichE false (Word word.All ∷ to) to
  which_updated : {to : List Tok} → WhichE true (Word word.Updated ∷ to) to

-- [RETURN (ALL | UPDATED) ROWS]
pub data ReturnE : Bool → List Tok → List Tok → Type 0 where
  return_none : {to : List Tok} → ReturnE false to to
  return_rows : {b : Bool} {from to : List Tok} → WhichE b from (Word word.Rows ∷ to) → ReturnE b (Word word.Return ∷ from) to

-- name ON '(' plain ')'
pub data RefSourceE : List ℕ × Plain → List Tok → List Tok → Type 0 where
  ref_source : {n : List ℕ} {p : Plain} {from to : List Tok} →
      PlainE p from (closer ∷ to) → RefSourceE (n, p) (Name n ∷ Word word.On ∷ opener ∷ from) to

-- DIMENSION BY cols MEASURES
pub data DimsE : List Sel → List Tok → List Tok → Type 0 where
  dims : {ds : List Sel} {from to : List Tok} →
      Cols ds from (Word word.Measures ∷ to) → DimsE ds (Word word.Dimension ∷ Word word.By ∷ from) to

-- DIMENSION BY cols MEASURES cols
pub data AxesE : List Sel × List Sel → List Tok → List Tok → Type 0 where
  axes : {ds ms : List Sel} {from mid to : List Tok} → DimsE ds from mid → Cols ms mid to → AxesE (ds, ms) from to

abbrev pub ref_of : List ℕ × Plain → List Sel × List Sel → List Opt → RefTree
ref_of s x os = record { name = s.0; query = s.1; dims = x.0; measures = x.1; opts = os }

-- ref := REFERENCE name ON '(' plain ')' DIMENSION BY cols MEASURES cols {opt}
pub data RefE : RefTree → List Tok → List Tok → Type 0 where
  reference : {s : List ℕ × Plain} {x : List Sel × List Sel} {os : List Opt} {from mid next to : List Tok} →
      RefSourceE s from mid → AxesE x mid next → ManyOf OptE os next to → RefE (ref_of s x os) (Word word.Reference ∷ from) to

-- {opt} [RETURN (ALL | UPDATED) ROWS] {ref}
pub data FrontE : Front → List Tok → List Tok → Type 0 where
  front : {os : List Opt} {b : Bool} {rs : List RefTree} {from mid next to : List Tok} →
      ManyOf OptE os from mid → ReturnE b mid next → ManyOf RefE rs next to →
      FrontE (record { opts = os; updated = b; refs = rs }) from to

-- [MAIN name]
pub data MainE : Option (List ℕ) → List Tok → List Tok → Type 0 where
  main_none : {to : List Tok} → MainE None to to
  main_some : {n : List ℕ} {to : List Tok} → MainE (Some n) (Word word.Main ∷ Name n ∷ to) to

-- [PARTITION BY cols]
pub data PartsE : List Sel → List Tok → List Tok → Type 0 where
  parts_none : {to : List Tok} → PartsE [] to to
  parts_some : {xs : List Sel} {from to : List Tok} → Cols xs from to → PartsE xs (Word word.Partition ∷ Word word.By ∷ from) to

-- [MAIN name] [PARTITION BY cols] DIMENSION BY cols MEASURES cols
pub data BodyE : Body → List Tok → List Tok → Type 0 where
  body : {o : Option (List ℕ)} {ps : List Sel} {x : List Sel × List Sel} {from mid next to : List Tok} →
      MainE o from mid → PartsE ps mid next → AxesE x next to → BodyE (record { main = o; parts = ps; axes = x }) from to

-- {opt} rules, where rules := the head of `rules`, and '(' [rule {',' rule}] ')'
pub data TailE : Tail → List Tok → List Tok → Type 0 where
  tail : {os : List Opt} {h : Head} {rs : List RuleTree} {from mid next to : List Tok} →
      ManyOf OptE os from mid → HeadE h mid next → RuleList rs next to → TailE (record { opts = os; head = h; rules = rs }) from to

abbrev pub model_of : Front → Body → Tail → ModelTree
model_of f b e = record {
  opts = f.opts;
  main_opts = e.opts;
  updated_only = f.updated;
  refs = f.refs;
  main = b.main;
  parts = b.parts;
  dims = b.axes.0;
  measures = b.axes.1;
  mode = e.head.mode;
  auto = e.head.auto;
  iterate = e.head.iterate;
  until = e.head.until;
  rules = e.rules;
}

-- model := MODEL {opt} [RETURN (ALL | UPDATED) ROWS] {ref} [MAIN name]
--          [PARTITION BY cols] DIMENSION BY cols MEASURES cols {opt} rules
pub data ModelE : ModelTree → List Tok → List Tok → Type 0 where
  model : {f : Front} {b : Body} {e : Tail} {from mid next to : List Tok} →
      FrontE f from mid → BodyE b mid next → TailE e next to → ModelE (model_of f b e) (Word word.Model ∷ from) to

-- [model]
pub data MaybeModel : Option ModelTree → List Tok → List Tok → Type 0 where
  model_none : {to : List Tok} → MaybeModel None to to
  model_some : {m : ModelTree} {from to : List Tok} → ModelE m from to → MaybeModel (Some m) from to

-- [model] [ORDER BY key {',' key}]
pub data EndE : Option ModelTree × List OrderKey → List Tok → List Tok → Type 0 where
  ending : {m : Option ModelTree} {ks : List OrderKey} {from mid to : List Tok} →
      MaybeModel m from mid → OrderE ks mid to → EndE (m, ks) from to

abbrev pub query_of : Plain → Option ModelTree × List OrderKey → Query
query_of p x = record { plain = p; model = x.0; order = x.1 }

-- query := plain [model] [ORDER BY key {',' key}]
pub data QueryE : Query → List Tok → List Tok → Type 0 where
  query : {p : Plain} {x : Option ModelTree × List OrderKey} {from mid to : List Tok} →
      PlainE p from mid → EndE x mid to → QueryE (query_of p x) from to
