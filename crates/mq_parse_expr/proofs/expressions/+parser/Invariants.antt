use Rattle.std.proofs.Common.{◌+◌, ◌-◌, ◌*◌, length}
use Rattle.mq_lexer.specs.declared.terminals.Symbol.TheVariants as sign
use Rattle.mq_lexer.specs.declared.terminals.Terminal.TheVariants as terminal
use Rattle.mq_ast.specs.declared.levels.TheConstants as level
use Rattle.mq_ast.specs.Continuing.{Stops, Ends}
use Rattle.mq_ast.specs.GrammarExpression.{MoreOr, MoreAnd, MoreExprs, MoreSum, MoreProd, MorePlaces}
use Rattle.mq_parse_words.specs.StepLemmas.{SoFar}
use Rattle.mq_parse_expr.proofs.ArmLemmas.{WhensSoFar}
use Rattle.mq_parse_expr.proofs.expressions.+parser.Given as goal

abbrev pub decreases-read_tuple : goal.decreases-read_tuple
decreases-read_tuple l = 40 * (length l.t.now - l.at) + 20

abbrev pub decreases-read_exprs : goal.decreases-read_exprs
decreases-read_exprs l = 40 * (length l.t.now - l.at) + 19

abbrev pub decreases-read_more_exprs : goal.decreases-read_more_exprs
decreases-read_more_exprs l = 40 * (length l.t.now - l.at) + 18

abbrev pub decreases-read_place : goal.decreases-read_place
decreases-read_place l = 40 * (length l.t.now - l.at) + 19

abbrev pub decreases-read_places : goal.decreases-read_places
decreases-read_places l = 40 * (length l.t.now - l.at) + 18

abbrev pub decreases-read_brackets : goal.decreases-read_brackets
decreases-read_brackets l = 40 * (length l.t.now - l.at) + 5

abbrev pub decreases-read_subject : goal.decreases-read_subject
decreases-read_subject l = 40 * (length l.t.now - l.at) + 19

abbrev pub decreases-read_case : goal.decreases-read_case
decreases-read_case l = 40 * (length l.t.now - l.at) + 22

abbrev pub decreases-read_whens : goal.decreases-read_whens
decreases-read_whens l = 40 * (length l.t.now - l.at) + 18

abbrev pub decreases-read_else : goal.decreases-read_else
decreases-read_else l = 40 * (length l.t.now - l.at) + 18

abbrev pub decreases-read_whole : goal.decreases-read_whole
decreases-read_whole l = 40 * (length l.t.now - l.at) + 18

abbrev pub decreases-read_or : goal.decreases-read_or
decreases-read_or l = 40 * (length l.t.now - l.at) + 17

abbrev pub decreases-read_ors : goal.decreases-read_ors
decreases-read_ors l = 40 * (length l.t.now - l.at) + 16

abbrev pub decreases-read_and : goal.decreases-read_and
decreases-read_and l = 40 * (length l.t.now - l.at) + 16

abbrev pub decreases-read_ands : goal.decreases-read_ands
decreases-read_ands l = 40 * (length l.t.now - l.at) + 15

abbrev pub decreases-read_not : goal.decreases-read_not
decreases-read_not l = 40 * (length l.t.now - l.at) + 14

abbrev pub decreases-read_test : goal.decreases-read_test
decreases-read_test l = 40 * (length l.t.now - l.at) + 13

abbrev pub decreases-read_tail : goal.decreases-read_tail
decreases-read_tail l = 40 * (length l.t.now - l.at) + 11

abbrev pub decreases-read_negated : goal.decreases-read_negated
decreases-read_negated l = 40 * (length l.t.now - l.at) + 12

abbrev pub decreases-read_cmp : goal.decreases-read_cmp
decreases-read_cmp l = 40 * (length l.t.now - l.at) + 13

abbrev pub decreases-read_between : goal.decreases-read_between
decreases-read_between l = 40 * (length l.t.now - l.at) + 13

abbrev pub decreases-read_in : goal.decreases-read_in
decreases-read_in l = 40 * (length l.t.now - l.at) + 21

abbrev pub decreases-read_sum : goal.decreases-read_sum
decreases-read_sum l = 40 * (length l.t.now - l.at) + 12

abbrev pub decreases-read_sums : goal.decreases-read_sums
decreases-read_sums l = 40 * (length l.t.now - l.at) + 11

abbrev pub decreases-read_term : goal.decreases-read_term
decreases-read_term l = 40 * (length l.t.now - l.at) + 11

abbrev pub decreases-read_prod : goal.decreases-read_prod
decreases-read_prod l = 40 * (length l.t.now - l.at) + 10

abbrev pub decreases-read_prods : goal.decreases-read_prods
decreases-read_prods l = 40 * (length l.t.now - l.at) + 9

abbrev pub decreases-read_sign : goal.decreases-read_sign
decreases-read_sign l = 40 * (length l.t.now - l.at) + 8

abbrev pub decreases-read_prim : goal.decreases-read_prim
decreases-read_prim l = 40 * (length l.t.now - l.at) + 7

abbrev pub decreases-read_closed : goal.decreases-read_closed
decreases-read_closed l = 40 * (length l.t.now - l.at) + 6

abbrev pub decreases-read_name : goal.decreases-read_name
decreases-read_name l = 40 * (length l.t.now - l.at) + 6

abbrev pub decreases-read_agg : goal.decreases-read_agg
decreases-read_agg l = 40 * (length l.t.now - l.at) + 25

abbrev pub decreases-read_range : goal.decreases-read_range
decreases-read_range l = 40 * (length l.t.now - l.at) + 6

abbrev pub decreases-read_inner : goal.decreases-read_inner
decreases-read_inner l = 40 * (length l.t.now - l.at) + 5

abbrev pub decreases-read_cast : goal.decreases-read_cast
decreases-read_cast l = 40 * (length l.t.now - l.at) + 5

abbrev pub decreases-read_rounded : goal.decreases-read_rounded
decreases-read_rounded l = 40 * (length l.t.now - l.at) + 5

abbrev pub decreases-read_call : goal.decreases-read_call
decreases-read_call l = 40 * (length l.t.now - l.at) + 21

abbrev pub invariant-read_ors-loop-behind : goal.invariant-read_ors-loop-behind
invariant-read_ors-loop-behind l = SoFar MoreOr (Stops level.CONJUNCTION) (Stops level.EXPRESSION) l.t l.fn.at l.to l.found

abbrev pub decreases-read_ors-loop-behind : goal.decreases-read_ors-loop-behind
decreases-read_ors-loop-behind l = length l.t - l.to

abbrev pub invariant-read_ands-loop-behind : goal.invariant-read_ands-loop-behind
invariant-read_ands-loop-behind l = SoFar MoreAnd (Stops level.TEST) (Stops level.CONJUNCTION) l.t l.fn.at l.to l.found

abbrev pub decreases-read_ands-loop-behind : goal.decreases-read_ands-loop-behind
decreases-read_ands-loop-behind l = length l.t - l.to

abbrev pub invariant-read_more_exprs-loop-behind : goal.invariant-read_more_exprs-loop-behind
invariant-read_more_exprs-loop-behind l = SoFar MoreExprs (Stops level.EXPRESSION) (Ends (terminal.Sign sign.Comma)) l.t l.fn.at l.to l.found

abbrev pub decreases-read_more_exprs-loop-behind : goal.decreases-read_more_exprs-loop-behind
decreases-read_more_exprs-loop-behind l = length l.t - l.to

abbrev pub invariant-read_sums-loop-op : goal.invariant-read_sums-loop-op
invariant-read_sums-loop-op l = SoFar MoreSum (Stops level.PRODUCT) (Stops level.SUM) l.t l.fn.at l.to l.found

abbrev pub decreases-read_sums-loop-op : goal.decreases-read_sums-loop-op
decreases-read_sums-loop-op l = length l.t - l.to

abbrev pub invariant-read_prods-loop-op : goal.invariant-read_prods-loop-op
invariant-read_prods-loop-op l = SoFar MoreProd (Stops level.PRIMARY) (Stops level.PRODUCT) l.t l.fn.at l.to l.found

abbrev pub decreases-read_prods-loop-op : goal.decreases-read_prods-loop-op
decreases-read_prods-loop-op l = length l.t - l.to

abbrev pub invariant-read_places-loop-behind : goal.invariant-read_places-loop-behind
invariant-read_places-loop-behind l = SoFar MorePlaces (Stops level.EXPRESSION) (Ends (terminal.Sign sign.Comma)) l.t l.fn.at l.to l.found

abbrev pub decreases-read_places-loop-behind : goal.decreases-read_places-loop-behind
decreases-read_places-loop-behind l = length l.t - l.to

abbrev pub invariant-read_whens-loop-found : goal.invariant-read_whens-loop-found
invariant-read_whens-loop-found l = WhensSoFar l.t l.fn.at l.to l.found

abbrev pub decreases-read_whens-loop-found : goal.decreases-read_whens-loop-found
decreases-read_whens-loop-found l = length l.t - l.to
