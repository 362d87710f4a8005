-- The laws that two trees which read the same tokens are equal, and where their parts begin and end.
pub mod CommonLemmas
pub mod OneListLemmas
pub mod OneExpressionLemmas
pub mod OneQueryLemmas
pub mod OneRuleLemmas
pub mod OneModelLemmas
pub mod OneChangeLemmas
pub mod OneStatementLemmas
-- equal trees that end at equal places, and facts that begin where others end
pub use Rattle.mq_ast.specs.Laws.CommonLemmas.{Same, begin, none_some, cut}
-- lists
pub use Rattle.mq_ast.specs.Laws.OneListLemmas.{some_same, Whatever, name_same, names_same, stops_not}
-- expressions
pub use Rattle.mq_ast.specs.Laws.OneExpressionLemmas.{or_stop, and_stop, tail_stop, sum_stop, prod_stop, exprs_stop, places_stop}
pub use Rattle.mq_ast.specs.Laws.OneExpressionLemmas.{brackets_front, brackets_stop, whens_stop, whens_front, else_stop, prim_no_minus}
pub use Rattle.mq_ast.specs.Laws.OneExpressionLemmas.{test_no_not, expr_no_any, expr_no_star, expr_no_when, expr_no_for, name_ends}
pub use Rattle.mq_ast.specs.Laws.OneExpressionLemmas.{no_square, path_same, kind_same, day_same, stops_when, begin_tail, one_call, expr_same}
pub use Rattle.mq_ast.specs.Laws.OneExpressionLemmas.{and_same, not_same, test_same, tuple_same, exprs_same, sum_same, prod_same}
pub use Rattle.mq_ast.specs.Laws.OneExpressionLemmas.{sign_same, brackets_same, places_same, place_same, case_same, whens_same}
pub use Rattle.mq_ast.specs.Laws.OneExpressionLemmas.{else_same, closed_same}
-- queries without MODEL
pub use Rattle.mq_ast.specs.Laws.OneQueryLemmas.{alias_stop, sel_same, sels_same, cols_same, item_same, join_same, join_begins}
pub use Rattle.mq_ast.specs.Laws.OneQueryLemmas.{join_not_stop, joins_stop, from_same, sels_no_star, shown_same, where_same, where_stop}
pub use Rattle.mq_ast.specs.Laws.OneQueryLemmas.{path_one, paths_same, ends_paths, group_stop, plain_same, plain_front, key_same}
pub use Rattle.mq_ast.specs.Laws.OneQueryLemmas.{keys_same, order_same}
-- rules
pub use Rattle.mq_ast.specs.Laws.OneRuleLemmas.{maybe_mode_same, tuple_one, tuples_same, alone_same, alones_no_plain, tuples_no_plain}
pub use Rattle.mq_ast.specs.Laws.OneRuleLemmas.{values_same, rows_same, down_stop, start_same, finish_same, lit_same, lits_no_tuple}
pub use Rattle.mq_ast.specs.Laws.OneRuleLemmas.{range_no_in, left_same, rule_front_same, rule_same}
-- MODEL and whole queries
pub use Rattle.mq_ast.specs.Laws.OneModelLemmas.{dims_same, opt_same, opt_not_past, opts_same, which_same, return_same, return_past}
pub use Rattle.mq_ast.specs.Laws.OneModelLemmas.{ref_source_same, axes_same, axes_past, ref_same, ref_past, ref_not_past, refs_past}
pub use Rattle.mq_ast.specs.Laws.OneModelLemmas.{model_front_same, main_same, parts_same, parts_past, model_body_same, model_body_past}
pub use Rattle.mq_ast.specs.Laws.OneModelLemmas.{auto_same, auto_past, int_same, iterate_same, iterate_past, opens_past, head_same}
pub use Rattle.mq_ast.specs.Laws.OneModelLemmas.{head_past, rules_open, model_same, order_no_model, no_order, ends_keys, end_stop}
pub use Rattle.mq_ast.specs.Laws.OneModelLemmas.{query_same}
-- changes
pub use Rattle.mq_ast.specs.Laws.OneChangeLemmas.{names_of_same, maybe_names_same, set_same, sets_same, change_same}
-- statements
pub use Rattle.mq_ast.specs.Laws.OneStatementLemmas.{col_same, cols_of_same, primary_ends, primary_same, maybe_part_same}
