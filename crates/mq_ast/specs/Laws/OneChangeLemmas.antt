-- Two changes that read the same tokens are equal.
use Rattle.std.proofs.Common.{◌≡◌, ℕ, List, [], ◌∷◌, refl, arith}
use Rattle.std.specs.Prelude.{Option}
use Rattle.mq_ast.specs.declared.expressions.E.{E}
use Rattle.mq_ast.specs.declared.statements.ChangeTree.{ChangeTree}
use Rattle.mq_lexer.specs.declared.keywords.Keyword.TheVariants as word
use Rattle.mq_ast.specs.Tokens.{Tok, Word}
use Rattle.mq_ast.specs.declared.levels.TheConstants as level
use Rattle.mq_ast.specs.Continuing.{Stops}
use Rattle.mq_ast.specs.OneTree.{OneTree}
use Rattle.mq_ast.specs.GrammarLists.{SomeOf}
use Rattle.mq_ast.specs.GrammarExpression.{Tuple}
use Rattle.mq_ast.specs.GrammarQuery.{WhereE, where_none, where_some}
use Rattle.mq_ast.specs.GrammarChange.{NamesE, names, MaybeNames, names_none, names_some, SetE, set, ChangeE, change_insert, change_update, change_delete}
use Rattle.mq_ast.specs.Laws.CommonLemmas.{Same, begin, cut}
use Rattle.mq_ast.specs.Laws.OneExpressionLemmas.{expr_same}
use Rattle.mq_ast.specs.Laws.OneListLemmas.{some_same, names_same}
use Rattle.mq_ast.specs.Laws.OneQueryLemmas.{where_same}
use Rattle.mq_ast.specs.Laws.OneRuleLemmas.{tuples_same, EndsExprs}

pub names_of_same : {ns ns' : List (List ℕ)} {from to to' : List Tok} → NamesE ns from to → NamesE ns' from to' → Same ns ns' to to'
names_of_same (names d) (names d') = let p = names_same d d' (λ e. cc) (λ e. cc) in (p.0, cut p.1)

pub maybe_names_same : {o o' : Option (List (List ℕ))} {from to to' : List Tok} → MaybeNames o from (Word word.Values ∷ to) → MaybeNames o' from (Word word.Values ∷ to') → Same o o' to to'
maybe_names_same names_none names_none = (refl, refl)
maybe_names_same names_none (names_some d') = elim d' [ ]
maybe_names_same (names_some d) names_none = elim d [ ]
maybe_names_same (names_some d) (names_some d') = let p = names_of_same d d' in (cc, cut p.1)

pub set_same : OneTree SetE (Stops level.EXPRESSION)
set_same _ _ _ _ _ (set d) (set d') s s' = let p = expr_same d d' s s' in (cc, p.1)

pub sets_same : {xs xs' : List (List ℕ × E)} {from to to' : List Tok} → SomeOf SetE xs from to → SomeOf SetE xs' from to' → EndsExprs to → EndsExprs to' → Same xs xs' to to'
sets_same = some_same (List ℕ × E) SetE (Stops level.EXPRESSION) EndsExprs set_same (λ ts s. s.0) (λ ts. omega arith) (λ a ts mid s d. s.1 refl)

pub where_ends : {o : Option E} {from : List Tok} → WhereE o from [] → EndsExprs from
where_ends where_none = (omega arith, λ e. cc)
where_ends (where_some d) = (omega arith, λ e. cc)

pub change_same : (a b : ChangeTree) (tokens : List Tok) → ChangeE a tokens → ChangeE b tokens → a ≡ b
change_same _ _ _ (change_insert n d) (change_insert n' d') =
    let p = maybe_names_same n n' in
    let q = tuples_same d (begin (SomeOf Tuple) p.1 d') (λ e. cc) (λ e. cc) in
    cc
change_same _ _ _ (change_update d w) (change_update d' w') =
    let p = sets_same d d' (where_ends w) (where_ends w') in
    let q = where_same w (begin WhereE p.1 w') (omega arith) (omega arith) in
    cc
change_same _ _ _ (change_delete w) (change_delete w') = let p = where_same w w' (omega arith) (omega arith) in cc
