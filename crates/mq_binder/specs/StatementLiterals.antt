-- Queries and statements whose literals have no more digits behind the point than a number may have.
use Rattle.std.specs.Prelude.{ℕ, List, Bool, true, ◌&&◌}
use Rattle.std.specs.List.{list_all}
use Rattle.std.specs.Option.{option_map_or}
use Rattle.mq_ast.specs.declared.expressions.E.{E}
use Rattle.mq_ast.specs.declared.queries.ForList.{ForList}
use Rattle.mq_ast.specs.declared.queries.ForList.TheVariants as for_list
use Rattle.mq_ast.specs.declared.queries.FromItem.{FromItem}
use Rattle.mq_ast.specs.declared.queries.LeftPlace.{LeftPlace}
use Rattle.mq_ast.specs.declared.queries.LeftPlace.TheVariants as left_place
use Rattle.mq_ast.specs.declared.queries.LeftTree.{LeftTree}
use Rattle.mq_ast.specs.declared.queries.LeftTree.TheVariants as left
use Rattle.mq_ast.specs.declared.queries.ModelTree.{ModelTree}
use Rattle.mq_ast.specs.declared.queries.Plain.{Plain}
use Rattle.mq_ast.specs.declared.queries.Query.{Query}
use Rattle.mq_ast.specs.declared.queries.RefTree.{RefTree}
use Rattle.mq_ast.specs.declared.queries.RuleTree.{RuleTree}
use Rattle.mq_ast.specs.declared.queries.Sel.{Sel}
use Rattle.mq_ast.specs.declared.statements.ChangeTree.{ChangeTree}
use Rattle.mq_ast.specs.declared.statements.ChangeTree.TheVariants as tree
use Rattle.mq_ast.specs.declared.statements.Stmt.{Stmt}
use Rattle.mq_ast.specs.declared.statements.Stmt.TheVariants as stmt
use Rattle.mq_binder.specs.Literals.{literals_fit, literals_if_any}

abbrev pub items_literals : List Sel → Bool
items_literals = list_all (λ (s : Sel). literals_fit s.e)

-- of a query, of its MODEL clause, and of what that is made of
abbrev pub plain_literals : Plain → Bool
plain_literals p = items_literals p.sels && list_all (λ (i : FromItem). literals_if_any i.on) p.froms && literals_if_any p.filter

abbrev pub reference_literals : RefTree → Bool
reference_literals r = plain_literals r.query && items_literals r.dims && items_literals r.measures

abbrev pub list_literals : ForList → Bool
list_literals (for_list.Values rows) = list_all (list_all literals_fit) rows
list_literals (for_list.Rows p) = plain_literals p

abbrev pub left_place_literals : LeftPlace → Bool
left_place_literals left_place.Any = true
left_place_literals (left_place.Expr e) = literals_fit e
left_place_literals (left_place.ForIn dim list) = list_literals list
left_place_literals (left_place.ForRange dim start stop step down) = literals_fit start && literals_fit stop && literals_fit step

abbrev pub left_literals : LeftTree → Bool
left_literals (left.Places places) = list_all left_place_literals places
left_literals (left.Tuples dims list) = list_literals list

abbrev pub rule_literals : RuleTree → Bool
rule_literals r = left_literals r.left && literals_fit r.right

abbrev pub model_literals : ModelTree → Bool
model_literals m =
    list_all reference_literals m.refs && items_literals m.parts && items_literals m.dims && items_literals m.measures
    && list_all rule_literals m.rules && literals_if_any m.until

abbrev pub query_literals : Query → Bool
query_literals q = plain_literals q.plain && option_map_or model_literals q.model true

-- of a change, which a statement is or takes into a scenario
abbrev pub change_literals : ChangeTree → Bool
change_literals (tree.Insert name cols rows) = list_all (list_all literals_fit) rows
change_literals (tree.Update name sets filter) = list_all (λ (set : List ℕ × E). literals_fit set.1) sets && literals_if_any filter
change_literals (tree.Delete name filter) = literals_if_any filter

-- of a statement: a query, a change, or the values of an explained cell
abbrev pub statement_literals : Stmt → Bool
statement_literals (stmt.CreateView name q) = query_literals q
statement_literals (stmt.Change c) = change_literals c
statement_literals (stmt.Query q) = query_literals q
statement_literals (stmt.Under scenario c) = change_literals c
statement_literals (stmt.ExplainCell view measure part cell) = list_all literals_fit part && list_all literals_fit cell
statement_literals _ = true
