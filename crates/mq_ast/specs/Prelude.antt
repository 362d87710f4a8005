-- The words of the grammar, from all of these files: what those who read trees or bind them name. The laws are in Laws.
pub use Rattle.mq_ast.specs.Tokens.{Tok, Word, Aggregate, Sign, Name, Num, Text, Bad, terminal_at, rest_of, opener, closer, open_square}
pub use Rattle.mq_ast.specs.Tokens.{close_square, comma, point, equal, minus, star}
pub use Rattle.mq_ast.specs.Spelling.{number_or_zero, text_or_empty, unquoted, content_of}
pub use Rattle.mq_ast.specs.Spelling.{tok, tok_of, toks}
pub use Rattle.mq_ast.specs.Continuing.{loose, Stops, Not, Ends, EndsList, EndsKey, EndsKeys, EndsOrder, Opens, EndsCols, part, Past}
pub use Rattle.mq_ast.specs.Chains.{or_of, and_of, sum_of, prod_of, sum_term, prod_term, arm}
pub use Rattle.mq_ast.specs.Calls.{call_of}
pub use Rattle.mq_ast.specs.OneTree.{OneTree}
pub use Rattle.mq_ast.specs.GrammarNames.{path_of, PathE, path_one, path_two, IsInt, nat_of, scale_of, KindE, kind_int, kind_decimal}
pub use Rattle.mq_ast.specs.GrammarNames.{kind_text, kind_date, DayE, dtxt}
pub use Rattle.mq_ast.specs.GrammarLists.{MoreOf, more_end, more_comma, SomeOf, some_of, ManyOf, many_end, many_more, NameE, name}
pub use Rattle.mq_ast.specs.GrammarExpression.{Expr, expr, MoreOr, or_end, or_more, AndE, and, MoreAnd, and_end, and_more, NotE}
pub use Rattle.mq_ast.specs.GrammarExpression.{not_plain, not_not, TestE, test, TestTail, tail_none, tail_cmp, tail_between}
pub use Rattle.mq_ast.specs.GrammarExpression.{tail_not_between, tail_in, tail_not_in, tail_null, tail_not_null, tail_present}
pub use Rattle.mq_ast.specs.GrammarExpression.{tail_not_present, tail_any, Tuple, tuple, Exprs, exprs, MoreExprs, exprs_end, exprs_more}
pub use Rattle.mq_ast.specs.GrammarExpression.{SumE, sum, MoreSum, sum_end, sum_more, ProdE, prod, MoreProd, prod_end, prod_more, SignE}
pub use Rattle.mq_ast.specs.GrammarExpression.{sign_plain, sign_minus, PrimE, prim_num, prim_text, prim_null, prim_date, prim_path, prim_cell}
pub use Rattle.mq_ast.specs.GrammarExpression.{prim_round, prim_agg, prim_count, prim_range, prim_case, prim_cast, prim_call, prim_to}
pub use Rattle.mq_ast.specs.GrammarExpression.{prim_cv, prim_cv_name, prim_turn, prim_previous, prim_presentv, prim_presentnnv}
pub use Rattle.mq_ast.specs.GrammarExpression.{Brackets, brackets, MorePlaces, places_end, places_more, PlaceE, place_any, place_expr}
pub use Rattle.mq_ast.specs.GrammarExpression.{CaseE, case_none, case_some, Whens, whens_end, whens_more, ElseE, else_none, else_some}
pub use Rattle.mq_ast.specs.GrammarQuery.{sel_of, item_of, key_of, AliasE, alias_none, alias_as, alias_name, SelE, sel, Cols, cols}
pub use Rattle.mq_ast.specs.GrammarQuery.{ItemE, item, BareFront, front_comma, front_cross, OnFront, front_join, front_inner}
pub use Rattle.mq_ast.specs.GrammarQuery.{ConditionE, condition, OnE, on_item, JoinE, join_bare, join_on, FromE, items, shown_of}
pub use Rattle.mq_ast.specs.GrammarQuery.{ShownE, shown_star, shown_list, WhereE, where_none, where_some, GroupE, group_none}
pub use Rattle.mq_ast.specs.GrammarQuery.{group_some, source_of, SourceE, source, plain_of, PlainE, plain, DirectionE, direction_none}
pub use Rattle.mq_ast.specs.GrammarQuery.{direction_asc, direction_desc, KeyE, key, OrderE, order_none, order_some}
pub use Rattle.mq_ast.specs.GrammarRule.{ModeE, mode_update, mode_upsert, mode_upsert_all, MaybeMode, mode_none, mode_some, AloneE}
pub use Rattle.mq_ast.specs.GrammarRule.{alone, ForListE, for_values, for_rows, DownE, down_no, down_yes, StartE, start, FinishE}
pub use Rattle.mq_ast.specs.GrammarRule.{finish, range_of, RangeE, range, place_of, LitE, lit_any, lit_expr, lit_in, lit_range, LeftE}
pub use Rattle.mq_ast.specs.GrammarRule.{left_places, left_tuples, RuleFront, rule_front, RuleRight, rule_right, rule_of, RuleE, rule}
pub use Rattle.mq_ast.specs.GrammarRule.{RuleList, rules_none, rules_some}
pub use Rattle.mq_ast.specs.GrammarHead.{AutoE, auto_none, auto_yes, auto_no, UntilE, until_none, until_some, RoundInt, round_int}
pub use Rattle.mq_ast.specs.GrammarHead.{IterateE, iterate_none, iterate_some, head_of, HeadE, head_none, head_some}
pub use Rattle.mq_ast.specs.GrammarModel.{OptE, opt_ignore, opt_keep, opt_unique, WhichE, which_all, which_updated, ReturnE}
pub use Rattle.mq_ast.specs.GrammarModel.{return_none, return_rows, RefSourceE, ref_source, DimsE, dims, AxesE, axes, ref_of, RefE}
pub use Rattle.mq_ast.specs.GrammarModel.{reference, FrontE, front, MainE, main_none, main_some, PartsE, parts_none, parts_some, BodyE}
pub use Rattle.mq_ast.specs.GrammarModel.{body, TailE, tail, model_of, ModelE, model, MaybeModel, model_none, model_some, EndE, ending}
pub use Rattle.mq_ast.specs.GrammarModel.{query_of, QueryE, query}
pub use Rattle.mq_ast.specs.GrammarChange.{NamesE, names, MaybeNames, names_none, names_some, SetE, set, ChangeE, change_insert}
pub use Rattle.mq_ast.specs.GrammarChange.{change_update, change_delete}
pub use Rattle.mq_ast.specs.GrammarStatement.{col_of, NotNullE, null_may, null_not, ColE, col, PrimaryE, primary_none, primary_some}
pub use Rattle.mq_ast.specs.GrammarStatement.{MaybePart, part_none, part_some, StmtE, stmt_create_table, stmt_drop_table}
pub use Rattle.mq_ast.specs.GrammarStatement.{stmt_create_view, stmt_drop_view, stmt_change, stmt_load, stmt_show, stmt_query}
pub use Rattle.mq_ast.specs.GrammarStatement.{stmt_begin, stmt_commit, stmt_rollback, stmt_create_scenario, stmt_drop_scenario}
pub use Rattle.mq_ast.specs.GrammarStatement.{stmt_under, stmt_compare, stmt_explain}
