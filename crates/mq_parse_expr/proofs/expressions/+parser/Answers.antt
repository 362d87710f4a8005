use Rattle.std.proofs.Common.{◌+◌, ◌++◌, false, [], ◌∷◌, sym, ap, ◌∙◌, arith}
use Rattle.mq_values.specs.declared.operators.Func.TheVariants as func
use Rattle.mq_ast.specs.declared.expressions.E.{E}
use Rattle.mq_ast.specs.declared.expressions.E.TheVariants as tree
use Rattle.mq_lexer.specs.declared.keywords.Keyword.TheVariants as word
use Rattle.mq_lexer.specs.declared.terminals.Symbol.TheVariants as sign
use Rattle.mq_lexer.specs.declared.terminals.Terminal.TheVariants as terminal
use Rattle.mq_ast.specs.Tokens.{Word, Aggregate, Sign, Name, terminal_at, opener, closer, comma}
use Rattle.mq_ast.specs.declared.levels.TheConstants as level
use Rattle.mq_ast.specs.Continuing.{Stops, Ends}
use Rattle.mq_ast.specs.Chains.{sum_term, prod_term}
use Rattle.mq_ast.specs.GrammarNames.{PathE}
use Rattle.mq_ast.specs.GrammarExpression.{Expr, MoreOr, AndE, MoreAnd, NotE, TestE, TestTail, Tuple, Exprs, MoreExprs, SumE, MoreSum, ProdE, MoreProd, SignE, PrimE, Brackets, MorePlaces, PlaceE, CaseE, expr, or_end, or_more, and, and_end, and_more, not_plain, not_not, test, tail_none, tail_cmp, tuple, exprs, exprs_end, exprs_more, sum, sum_end, sum_more, prod, prod_end, prod_more, sign_plain, sign_minus, prim_path, prim_cell, prim_range, brackets, places_end, places_more, place_any, place_expr, case_none, case_some, else_none, else_some}
use Rattle.mq_parse_words.specs.declared.forms.Form.TheVariants as form
use Rattle.mq_parse_words.specs.declared.forms.Tail.TheVariants as tail
use Rattle.mq_parse_words.specs.Reading.{from, Anywhere}
use Rattle.mq_parse_words.specs.Forms.{tail_of}
use Rattle.mq_parse_words.specs.Fronts.{RoundE, round, Behind, Since, cmp_front, not_front, is_front, between_front, in_front, CellsOf, ElseEnd, SomeWhens}
use Rattle.mq_parse_words.specs.StepLemmas.{quit, here, there, till, as_value, gives_as, fronted, one_more, cut_short, all_found}
use Rattle.mq_parse_expr.proofs.FrontLemmas.{call_form, form_front, tail_front, at_front, leaf_left}
use Rattle.mq_parse_expr.proofs.LevelLemmas.{lone_expr, lone_prod, or_no_first, or_no_others, or_no_next, or_no_more, and_no_first, and_no_others, and_no_next, and_no_more, sum_no_first, sum_no_others, sum_no_next, sum_no_more, prod_no_first, prod_no_others, prod_no_next, prod_no_more, exprs_no_first, exprs_no_others, exprs_no_next, exprs_no_more, places_no_next, places_no_more, not_no_not, not_no_plain, sign_no_minus, sign_no_plain, test_no_first, test_no_tail, cmp_no_sum, cmp_no_end, between_no_low, between_no_and, between_no_high, between_no_end, between_tail, in_no_tuple, in_no_end, in_tail, not_no_other, tuple_no_open, tuple_no_list, tuple_no_close, brackets_no_open, brackets_no_first, brackets_no_others, brackets_no_close, place_no_end, place_no_expr, stops_or, stops_and, stops_sum, stops_prod}
use Rattle.mq_parse_expr.specs.Lone.{Lone}
use Rattle.mq_parse_expr.proofs.LoneLemmas.{put_so, put_not}
use Rattle.mq_parse_expr.proofs.PrimLemmas.{prim_form, prim_rounded, prim_no_round, prim_no_closed, prim_no_end, closed_form, split_name, prim_no_path, path_no_end, cell_no_places, cell_no_end, round_no_open, round_no_inner, round_no_close, all_no_end, all_prim, agg_no_value, agg_no_end, agg_prim, measured, range_no_places, range_no_end, cast_no_open, cast_no_expr, cast_no_kind, cast_prim, rounded_no_open, rounded_no_expr, rounded_no_scale, rounded_prim, call_no_tuple, call_no_count, call_prim, case_no_subject, case_no_whens, case_no_else, case_prim, subject_no_expr, subject_no_when, else_no_expr, else_no_end, else_no_word}
use Rattle.mq_parse_expr.proofs.ArmLemmas.{whens_init, whens_none, whens_no_test_at, whens_no_then_at, whens_no_value_at, whens_kept, whens_done}
use Rattle.mq_parse_expr.proofs.expressions.+parser.Goals as goal

pub read_whole-returns-in-Some : goal.read_whole-returns-in-Some
read_whole-returns-in-Some t c =
    let e = rw c.in-Some.is at c.in_ok-e.ensures in
    (omega arith, omega (arith, e.0), lone_expr e.1, e.2)

pub read_or-returns-in_err-first : goal.read_or-returns-in_err-first
read_or-returns-in_err-first t c =
    quit Expr c.args.t.now c.args.at c.from_residual.result c.in_err-first.field-0.0 c.from_residual.ensures.1 c.in_err-first.ensures (or_no_first)

pub read_or-returns-in_default : goal.read_or-returns-in_default
read_or-returns-in_default t c =
    let f = c.in_ok-first.ensures in
    (f.0, f.1, expr f.2 or_end, stops_or (terminal_at (from c.args.t.now c.in_ok-first.mid)) f.3 c.in_default.ensures)

pub read_or-returns-in_err-others : goal.read_or-returns-in_err-others
read_or-returns-in_err-others t c =
    quit Expr c.args.t.now c.args.at c.from_residual-in_err-others.result c.in_err-others.field-0.0 c.from_residual-in_err-others.ensures.1 c.in_err-others.ensures (or_no_others c.in_ok-first.ensures.2 c.in_ok-first.ensures.3)

pub read_or-returns : goal.read_or-returns
read_or-returns t c =
    let f = c.in_ok-first.ensures in
    let o = c.in_ok-others.ensures in
    (omega (arith, f.0, o.0), o.1, as_value Expr c.in_ok-any_of.ensures (expr f.2 o.2), o.3)

pub read_ors-returns-in_err-e : goal.read_ors-returns-in_err-e
read_ors-returns-in_err-e t c =
    quit MoreOr c.args.t.now c.args.at c.from_residual.result c.in_err-e.field-0.0 c.from_residual.ensures.1 c.in_err-e.ensures (λ h. cut_short MoreOr (Stops level.CONJUNCTION) (Stops level.EXPRESSION) c.args.t.now c.args.at c.loop-behind.to c.loop-behind.found c.loop-behind.invariant (Word word.Or) c.in-Some.behind c.in-Some.ensures (or_no_next h))

pub read_ors-loop-behind-preserved : goal.read_ors-loop-behind-preserved
read_ors-loop-behind-preserved t c =
    let d = c.in_ok-e.ensures in
    one_more MoreOr (Stops level.CONJUNCTION) (Stops level.EXPRESSION) c.args.t.now c.args.at c.loop-behind.to c.loop-behind.found c.loop-behind.invariant (Word word.Or) c.in-Some.behind c.in-Some.ensures c.in_ok-e.e c.in_ok-e.next c.put.new.found (λ rest last ds. or_more d.2 ds) (λ h. or_no_more d.2 d.3 h) d.3 d.0 d.1 c.in_ok-put.ensures

pub read_ors-returns : goal.read_ors-returns
read_ors-returns t c =
    all_found MoreOr (Stops level.CONJUNCTION) (Stops level.EXPRESSION) c.args.t.now c.args.at c.loop-behind.to c.loop-behind.found c.loop-behind.invariant or_end (stops_or (terminal_at (from c.args.t.now c.loop-behind.to)) c.loop-behind.invariant.stops c.in_default.ensures)

pub read_and-returns-in_err-first : goal.read_and-returns-in_err-first
read_and-returns-in_err-first t c =
    quit AndE c.args.t.now c.args.at c.from_residual.result c.in_err-first.field-0.0 c.from_residual.ensures.1 c.in_err-first.ensures (and_no_first)

pub read_and-returns-in_default : goal.read_and-returns-in_default
read_and-returns-in_default t c =
    let f = c.in_ok-first.ensures in
    (f.0, f.1, and f.2 and_end, stops_and (terminal_at (from c.args.t.now c.in_ok-first.mid)) f.3 c.in_default.ensures)

pub read_and-returns-in_err-others : goal.read_and-returns-in_err-others
read_and-returns-in_err-others t c =
    quit AndE c.args.t.now c.args.at c.from_residual-in_err-others.result c.in_err-others.field-0.0 c.from_residual-in_err-others.ensures.1 c.in_err-others.ensures (and_no_others c.in_ok-first.ensures.2 c.in_ok-first.ensures.3)

pub read_and-returns : goal.read_and-returns
read_and-returns t c =
    let f = c.in_ok-first.ensures in
    let o = c.in_ok-others.ensures in
    (omega (arith, f.0, o.0), o.1, as_value AndE c.in_ok-all_of.ensures (and f.2 o.2), o.3)

pub read_ands-returns-in_err-e : goal.read_ands-returns-in_err-e
read_ands-returns-in_err-e t c =
    quit MoreAnd c.args.t.now c.args.at c.from_residual.result c.in_err-e.field-0.0 c.from_residual.ensures.1 c.in_err-e.ensures (λ h. cut_short MoreAnd (Stops level.TEST) (Stops level.CONJUNCTION) c.args.t.now c.args.at c.loop-behind.to c.loop-behind.found c.loop-behind.invariant (Word word.And) c.in-Some.behind c.in-Some.ensures (and_no_next h))

pub read_ands-loop-behind-preserved : goal.read_ands-loop-behind-preserved
read_ands-loop-behind-preserved t c =
    let d = c.in_ok-e.ensures in
    one_more MoreAnd (Stops level.TEST) (Stops level.CONJUNCTION) c.args.t.now c.args.at c.loop-behind.to c.loop-behind.found c.loop-behind.invariant (Word word.And) c.in-Some.behind c.in-Some.ensures c.in_ok-e.e c.in_ok-e.next c.put.new.found (λ rest last ds. and_more d.2 ds) (λ h. and_no_more d.2 d.3 h) d.3 d.0 d.1 c.in_ok-put.ensures

pub read_ands-returns : goal.read_ands-returns
read_ands-returns t c =
    all_found MoreAnd (Stops level.TEST) (Stops level.CONJUNCTION) c.args.t.now c.args.at c.loop-behind.to c.loop-behind.found c.loop-behind.invariant and_end (stops_and (terminal_at (from c.args.t.now c.loop-behind.to)) c.loop-behind.invariant.stops c.in_default.ensures)

pub read_not-returns-in_err-e-in-Some : goal.read_not-returns-in_err-e-in-Some
read_not-returns-in_err-e-in-Some t c =
    quit NotE c.args.t.now c.args.at c.from_residual.result c.in_err-e-in-Some.field-0.0 c.from_residual.ensures.1 c.in_err-e-in-Some.ensures (λ h. here NotE (Stops level.TEST) c.in-Some.ensures.2 (not_no_not h))

pub read_not-returns-in_ok-negation-in-Some : goal.read_not-returns-in_ok-negation-in-Some
read_not-returns-in_ok-negation-in-Some t c =
    let b = c.in-Some.ensures in
    let e = c.in_ok-e-in-Some.ensures in
    (omega (arith, b.0, e.0), e.1, as_value NotE c.in_ok-negation-in-Some.ensures (there NotE b.2 (not_not e.2)), e.3)

pub read_not-returns-in-None : goal.read_not-returns-in-None
read_not-returns-in-None t c =
    gives_as NotE TestE (Stops level.TEST) (Stops level.TEST) c.args.t.now c.args.at c.args.at c.read_test-in-None.result (omega arith) (λ a to d s. (not_plain d, s)) (λ h. not_no_plain c.in-None.ensures h) c.read_test-in-None.ensures

pub read_test-returns-in_err-a : goal.read_test-returns-in_err-a
read_test-returns-in_err-a t c =
    quit TestE c.args.t.now c.args.at c.from_residual.result c.in_err-a.field-0.0 c.from_residual.ensures.1 c.in_err-a.ensures (test_no_first)

pub read_test-returns : goal.read_test-returns
read_test-returns t c =
    let a = c.in_ok-a.ensures in
    gives_as TestE (TestTail c.in_ok-a.a) (Stops level.TEST) (Stops level.TEST) c.args.t.now c.args.at c.in_ok-a.mid c.read_tail.result a.0 (λ b to d s. (test a.2 d, s)) (λ h. test_no_tail a.2 a.3 h) c.read_tail.ensures

pub read_tail-returns-in-Cmp : goal.read_tail-returns-in-Cmp
read_tail-returns-in-Cmp t c =
    let f = tail_front (tail.Cmp c.in-Cmp.op) (from c.args.t.now c.args.at) c.in-Cmp.ensures.tail in
    fronted (TestTail c.args.a) (Stops level.TEST) (cmp_front c.in-Cmp.op) c.args.t.now c.args.at (c.args.at + 1) c.read_cmp.result (omega arith) (at_front (Sign (sign.Cmp c.in-Cmp.op)) c.args.t.now c.args.at f) c.read_cmp.ensures

pub read_tail-returns-in-Between : goal.read_tail-returns-in-Between
read_tail-returns-in-Between t c =
    let f = tail_front tail.Between (from c.args.t.now c.args.at) c.in-Between.ensures.tail in
    fronted (TestTail c.args.a) (Stops level.TEST) (between_front false) c.args.t.now c.args.at (c.args.at + 1) c.read_between.result (omega arith) (at_front (Word word.Between) c.args.t.now c.args.at f) c.read_between.ensures

pub read_tail-returns-in-In : goal.read_tail-returns-in-In
read_tail-returns-in-In t c =
    let f = tail_front tail.In (from c.args.t.now c.args.at) c.in-In.ensures.tail in
    fronted (TestTail c.args.a) (Stops level.TEST) (in_front false) c.args.t.now c.args.at (c.args.at + 1) c.read_in.result (omega arith) (at_front (Word word.In) c.args.t.now c.args.at f) c.read_in.ensures

pub read_tail-returns-in-Is : goal.read_tail-returns-in-Is
read_tail-returns-in-Is t c =
    let f = tail_front tail.Is (from c.args.t.now c.args.at) c.in-Is.ensures.tail in
    fronted (TestTail c.args.a) (Stops level.TEST) is_front c.args.t.now c.args.at (c.args.at + 1) c.read_is.result (omega arith) (at_front (Word word.Is) c.args.t.now c.args.at f) c.read_is.ensures

pub read_tail-returns-in-Not : goal.read_tail-returns-in-Not
read_tail-returns-in-Not t c =
    let f = tail_front tail.Not (from c.args.t.now c.args.at) c.in-Not.ensures.tail in
    fronted (TestTail c.args.a) (Stops level.TEST) not_front c.args.t.now c.args.at (c.args.at + 1) c.read_negated.result (omega arith) (at_front (Word word.Not) c.args.t.now c.args.at f) c.read_negated.ensures

pub read_tail-returns-in-Done : goal.read_tail-returns-in-Done
read_tail-returns-in-Done t c =
    (omega arith, c.requires.in_range, tail_none, tail_front tail.Done (from c.args.t.now c.args.at) c.in-Done.ensures.tail c.requires.stops)

pub read_negated-returns-in-Between : goal.read_negated-returns-in-Between
read_negated-returns-in-Between t c =
    let f = tail_front tail.Between (from c.args.t.now c.args.at) c.in-Between.ensures.tail in
    fronted (Since not_front c.args.a) (Stops level.TEST) (λ us. Word word.Between ∷ us) c.args.t.now c.args.at (c.args.at + 1) c.read_between.result (omega arith) (at_front (Word word.Between) c.args.t.now c.args.at f) c.read_between.ensures

pub read_negated-returns-in-In : goal.read_negated-returns-in-In
read_negated-returns-in-In t c =
    let f = tail_front tail.In (from c.args.t.now c.args.at) c.in-In.ensures.tail in
    fronted (Since not_front c.args.a) (Stops level.TEST) (λ us. Word word.In ∷ us) c.args.t.now c.args.at (c.args.at + 1) c.read_in.result (omega arith) (at_front (Word word.In) c.args.t.now c.args.at f) c.read_in.ensures

pub read_negated-returns-in_default : goal.read_negated-returns-in_default
read_negated-returns-in_default t c =
    not_no_other (λ e. c.in_default.not-Between (c.tail_at.ensures.tail ∙ ap tail_of e)) (λ e. c.in_default.not-In (c.tail_at.ensures.tail ∙ ap tail_of e))

pub read_cmp-returns-in_err-b : goal.read_cmp-returns-in_err-b
read_cmp-returns-in_err-b t c =
    quit (Since (cmp_front c.args.op) c.args.a) c.args.t.now c.args.at c.from_residual.result c.in_err-b.field-0.0 c.from_residual.ensures.1 c.in_err-b.ensures (cmp_no_sum)

pub read_cmp-returns-in_err-settled : goal.read_cmp-returns-in_err-settled
read_cmp-returns-in_err-settled t c =
    quit (Since (cmp_front c.args.op) c.args.a) c.args.t.now c.args.at c.from_residual-in_err-settled.result c.in_err-settled.field-0.0 c.from_residual-in_err-settled.ensures.1 c.in_err-settled.ensures (λ h. cmp_no_end (from c.args.t.now c.in_ok-b.to) c.in_ok-b.ensures.2 c.in_ok-b.ensures.3 h)

pub read_cmp-returns : goal.read_cmp-returns
read_cmp-returns t c =
    let b = c.in_ok-b.ensures in
    (b.0, b.1, as_value (Since (cmp_front c.args.op) c.args.a) c.in_ok-comparison.ensures (tail_cmp b.2), c.in_ok-settled.ensures)

pub read_between-returns-in_err-low : goal.read_between-returns-in_err-low
read_between-returns-in_err-low t c =
    quit (Since (between_front c.args.not) c.args.a) c.args.t.now c.args.at c.from_residual.result c.in_err-low.field-0.0 c.from_residual.ensures.1 c.in_err-low.ensures (between_no_low c.args.not)

pub read_between-returns-in_err-mid : goal.read_between-returns-in_err-mid
read_between-returns-in_err-mid t c =
    quit (Since (between_front c.args.not) c.args.a) c.args.t.now c.args.at c.from_residual-in_err-mid.result c.in_err-mid.field-0.0 c.from_residual-in_err-mid.ensures.1 c.in_err-mid.ensures (λ h. between_no_and c.args.not c.in_ok-low.ensures.2 c.in_ok-low.ensures.3 h)

pub read_between-returns-in_err-high : goal.read_between-returns-in_err-high
read_between-returns-in_err-high t c =
    quit (Since (between_front c.args.not) c.args.a) c.args.t.now c.args.at c.from_residual-in_err-high.result c.in_err-high.field-0.0 c.from_residual-in_err-high.ensures.1 c.in_err-high.ensures (λ h. between_no_high c.args.not (till SumE c.in_ok-mid.ensures.2 c.in_ok-low.ensures.2) h)

pub read_between-returns-in_err-settled : goal.read_between-returns-in_err-settled
read_between-returns-in_err-settled t c =
    quit (Since (between_front c.args.not) c.args.a) c.args.t.now c.args.at c.from_residual-in_err-settled.result c.in_err-settled.field-0.0 c.from_residual-in_err-settled.ensures.1 c.in_err-settled.ensures (λ h. between_no_end c.args.not (from c.args.t.now c.in_ok-high.to) (till SumE c.in_ok-mid.ensures.2 c.in_ok-low.ensures.2) c.in_ok-high.ensures.2 c.in_ok-high.ensures.3 h)

pub read_between-returns : goal.read_between-returns
read_between-returns t c =
    let l = c.in_ok-low.ensures in
    let m = c.in_ok-mid.ensures in
    let h = c.in_ok-high.ensures in
    (omega (arith, l.0, m.0, h.0), h.1, as_value (Since (between_front c.args.not) c.args.a) c.in_ok-between.ensures (between_tail c.args.not (till SumE m.2 l.2) h.2), c.in_ok-settled.ensures)

pub read_in-returns-in_err-members : goal.read_in-returns-in_err-members
read_in-returns-in_err-members t c =
    quit (Since (in_front c.args.not) c.args.a) c.args.t.now c.args.at c.from_residual.result c.in_err-members.field-0.0 c.from_residual.ensures.1 c.in_err-members.ensures (in_no_tuple c.args.not)

pub read_in-returns-in_err-settled : goal.read_in-returns-in_err-settled
read_in-returns-in_err-settled t c =
    quit (Since (in_front c.args.not) c.args.a) c.args.t.now c.args.at c.from_residual-in_err-settled.result c.in_err-settled.field-0.0 c.from_residual-in_err-settled.ensures.1 c.in_err-settled.ensures (λ h. in_no_end c.args.not (from c.args.t.now c.in_ok-members.to) c.in_ok-members.ensures.2 h)

pub read_in-returns : goal.read_in-returns
read_in-returns t c =
    let m = c.in_ok-members.ensures in
    (m.0, m.1, as_value (Since (in_front c.args.not) c.args.a) c.in_ok-in_list.ensures (in_tail c.args.not m.2), c.in_ok-settled.ensures)

pub read_tuple-returns-in_err-open : goal.read_tuple-returns-in_err-open
read_tuple-returns-in_err-open t c =
    quit Tuple c.args.t.now c.args.at c.from_residual.result c.in_err-open.field-0.0 c.from_residual.ensures.1 c.in_err-open.ensures (tuple_no_open)

pub read_tuple-returns-in_err-list : goal.read_tuple-returns-in_err-list
read_tuple-returns-in_err-list t c =
    quit Tuple c.args.t.now c.args.at c.from_residual-in_err-list.result c.in_err-list.field-0.0 c.from_residual-in_err-list.ensures.1 c.in_err-list.ensures (λ h. here Tuple Anywhere c.in_ok-open.ensures.2 (tuple_no_list h))

pub read_tuple-returns-in_err-to : goal.read_tuple-returns-in_err-to
read_tuple-returns-in_err-to t c =
    quit Tuple c.args.t.now c.args.at c.from_residual-in_err-to.result c.in_err-to.field-0.0 c.from_residual-in_err-to.ensures.1 c.in_err-to.ensures (λ h. here Tuple Anywhere c.in_ok-open.ensures.2 (tuple_no_close c.in_ok-list.ensures.2 c.in_ok-list.ensures.3 h))

pub read_tuple-returns : goal.read_tuple-returns
read_tuple-returns t c =
    let o = c.in_ok-open.ensures in
    let l = c.in_ok-list.ensures in
    let e = c.in_ok-to.ensures in
    (omega (arith, o.0, l.0, e.0), e.1, there Tuple o.2 (tuple (till Exprs e.2 l.2)), tt)

pub read_exprs-returns-in_err-first : goal.read_exprs-returns-in_err-first
read_exprs-returns-in_err-first t c =
    quit Exprs c.args.t.now c.args.at c.from_residual.result c.in_err-first.field-0.0 c.from_residual.ensures.1 c.in_err-first.ensures (exprs_no_first)

pub read_exprs-returns-in_err-all : goal.read_exprs-returns-in_err-all
read_exprs-returns-in_err-all t c =
    quit Exprs c.args.t.now c.args.at c.from_residual-in_err-all.result c.in_err-all.field-0.0 c.from_residual-in_err-all.ensures.1 c.in_err-all.ensures (exprs_no_others c.in_ok-first.ensures.2 c.in_ok-first.ensures.3)

pub read_exprs-returns : goal.read_exprs-returns
read_exprs-returns t c =
    let f = c.in_ok-first.ensures in
    let o = c.in_ok-all.ensures in
    (omega (arith, f.0, o.0), o.1, as_value Exprs c.in_ok-put_before.ensures (exprs f.2 o.2), o.3)

pub read_more_exprs-returns-in_err-e : goal.read_more_exprs-returns-in_err-e
read_more_exprs-returns-in_err-e t c =
    quit MoreExprs c.args.t.now c.args.at c.from_residual-in_err-e.result c.in_err-e.field-0.0 c.from_residual-in_err-e.ensures.1 c.in_err-e.ensures (λ h. cut_short MoreExprs (Stops level.EXPRESSION) (Ends (terminal.Sign sign.Comma)) c.args.t.now c.args.at c.loop-behind.to c.loop-behind.found c.loop-behind.invariant comma c.in-Some.behind c.in-Some.ensures (exprs_no_next h))

pub read_more_exprs-loop-behind-preserved-then-branch : goal.read_more_exprs-loop-behind-preserved-then-branch
read_more_exprs-loop-behind-preserved-then-branch t c =
    let p = put_so (λ (x : E). x) (Lone level.EXPRESSION c.args.t.now c.in-Some.behind) c.loop-behind.found c.put_lone.new.found _ c.if-branch.true c.in_ok-put_lone.ensures in
    let d = p.1 in
    one_more MoreExprs (Stops level.EXPRESSION) (Ends (terminal.Sign sign.Comma)) c.args.t.now c.args.at c.loop-behind.to c.loop-behind.found c.loop-behind.invariant comma c.in-Some.behind c.in-Some.ensures p.0 (c.in-Some.behind + 1) c.put_lone.new.found (λ rest last ds. exprs_more (lone_expr d.1) ds) (λ h. exprs_no_more (lone_expr d.1) d.2 h) d.2 (omega arith) (omega (arith, d.0)) p.2

pub read_more_exprs-loop-behind-preserved : goal.read_more_exprs-loop-behind-preserved
read_more_exprs-loop-behind-preserved t c =
    let q = put_not (λ (x : E). x) (Lone level.EXPRESSION c.args.t.now c.in-Some.behind) c.loop-behind.found c.put_lone.new.found _ c.if-branch.false c.in_ok-put_lone.ensures in
    let d = c.in_ok-e.ensures in
    one_more MoreExprs (Stops level.EXPRESSION) (Ends (terminal.Sign sign.Comma)) c.args.t.now c.args.at c.loop-behind.to c.loop-behind.found c.loop-behind.invariant comma c.in-Some.behind c.in-Some.ensures c.in_ok-e.e c.in_ok-e.next c.put.new.found (λ rest last ds. exprs_more d.2 ds) (λ h. exprs_no_more d.2 d.3 h) d.3 d.0 d.1 (c.in_ok-put.ensures ∙ ap (λ xs. xs ++ c.in_ok-e.e ∷ []) q)

pub read_more_exprs-returns : goal.read_more_exprs-returns
read_more_exprs-returns t c =
    all_found MoreExprs (Stops level.EXPRESSION) (Ends (terminal.Sign sign.Comma)) c.args.t.now c.args.at c.loop-behind.to c.loop-behind.found c.loop-behind.invariant exprs_end (c.loop-behind.invariant.stops, c.in_default.ensures)

pub read_sum-returns-in_err-first : goal.read_sum-returns-in_err-first
read_sum-returns-in_err-first t c =
    quit SumE c.args.t.now c.args.at c.from_residual.result c.in_err-first.field-0.0 c.from_residual.ensures.1 c.in_err-first.ensures (sum_no_first)

pub read_sum-returns-in_default : goal.read_sum-returns-in_default
read_sum-returns-in_default t c =
    let f = c.in_ok-first.ensures in
    (f.0, f.1, sum f.2 sum_end, stops_sum (terminal_at (from c.args.t.now c.in_ok-first.mid)) f.3 c.in_default.ensures)

pub read_sum-returns-in_err-others : goal.read_sum-returns-in_err-others
read_sum-returns-in_err-others t c =
    quit SumE c.args.t.now c.args.at c.from_residual-in_err-others.result c.in_err-others.field-0.0 c.from_residual-in_err-others.ensures.1 c.in_err-others.ensures (sum_no_others c.in_ok-first.ensures.2 c.in_ok-first.ensures.3)

pub read_sum-returns : goal.read_sum-returns
read_sum-returns t c =
    let f = c.in_ok-first.ensures in
    let o = c.in_ok-others.ensures in
    (omega (arith, f.0, o.0), o.1, as_value SumE c.in_ok-sum.ensures (sum f.2 o.2), o.3)

pub read_sums-returns-in_err-e : goal.read_sums-returns-in_err-e
read_sums-returns-in_err-e t c =
    quit MoreSum c.args.t.now c.args.at c.from_residual-in_err-e.result c.in_err-e.field-0.0 c.from_residual-in_err-e.ensures.1 c.in_err-e.ensures (λ h. cut_short MoreSum (Stops level.PRODUCT) (Stops level.SUM) c.args.t.now c.args.at c.loop-op.to c.loop-op.found c.loop-op.invariant (Sign (sign.Sum c.in-Some.op)) (c.loop-op.to + 1) c.in-Some.ensures (sum_no_next h))

pub read_sums-loop-op-preserved-then-branch : goal.read_sums-loop-op-preserved-then-branch
read_sums-loop-op-preserved-then-branch t c =
    let p = put_so (sum_term c.in-Some.op) (Lone level.PRODUCT c.args.t.now (c.loop-op.to + 1)) c.loop-op.found c.put_lone_term.new.found _ c.if-branch.true c.in_ok-put_lone_term.ensures in
    let d = p.1 in
    one_more MoreSum (Stops level.PRODUCT) (Stops level.SUM) c.args.t.now c.args.at c.loop-op.to c.loop-op.found c.loop-op.invariant (Sign (sign.Sum c.in-Some.op)) (c.loop-op.to + 1) c.in-Some.ensures (sum_term c.in-Some.op p.0) (c.loop-op.to + 1 + 1) c.put_lone_term.new.found (λ rest last ds. sum_more (lone_prod d.1) ds) (λ h. sum_no_more (lone_prod d.1) d.2 h) d.2 (omega arith) (omega (arith, d.0)) p.2

pub read_sums-loop-op-preserved : goal.read_sums-loop-op-preserved
read_sums-loop-op-preserved t c =
    let q = put_not (sum_term c.in-Some.op) (Lone level.PRODUCT c.args.t.now (c.loop-op.to + 1)) c.loop-op.found c.put_lone_term.new.found _ c.if-branch.false c.in_ok-put_lone_term.ensures in
    let d = c.in_ok-e.ensures in
    one_more MoreSum (Stops level.PRODUCT) (Stops level.SUM) c.args.t.now c.args.at c.loop-op.to c.loop-op.found c.loop-op.invariant (Sign (sign.Sum c.in-Some.op)) (c.loop-op.to + 1) c.in-Some.ensures (sum_term c.in-Some.op c.in_ok-e.e) c.in_ok-e.next c.put_sum.new.found (λ rest last ds. sum_more d.2 ds) (λ h. sum_no_more d.2 d.3 h) d.3 d.0 d.1 (c.in_ok-put_sum.ensures ∙ ap (λ xs. xs ++ sum_term c.in-Some.op c.in_ok-e.e ∷ []) q)

pub read_sums-returns : goal.read_sums-returns
read_sums-returns t c =
    all_found MoreSum (Stops level.PRODUCT) (Stops level.SUM) c.args.t.now c.args.at c.loop-op.to c.loop-op.found c.loop-op.invariant sum_end (stops_sum (terminal_at (from c.args.t.now c.loop-op.to)) c.loop-op.invariant.stops c.in_default.ensures)

pub read_term-returns-in-Some : goal.read_term-returns-in-Some
read_term-returns-in-Some t c =
    let e = rw c.in-Some.is at c.in_ok-e.ensures in
    (omega arith, omega (arith, e.0), lone_prod e.1, e.2)

pub read_prod-returns-in_err-first : goal.read_prod-returns-in_err-first
read_prod-returns-in_err-first t c =
    quit ProdE c.args.t.now c.args.at c.from_residual.result c.in_err-first.field-0.0 c.from_residual.ensures.1 c.in_err-first.ensures (prod_no_first)

pub read_prod-returns-in_default : goal.read_prod-returns-in_default
read_prod-returns-in_default t c =
    let f = c.in_ok-first.ensures in
    (f.0, f.1, prod f.2 prod_end, stops_prod (terminal_at (from c.args.t.now c.in_ok-first.mid)) f.3 c.in_default.ensures)

pub read_prod-returns-in_err-others : goal.read_prod-returns-in_err-others
read_prod-returns-in_err-others t c =
    quit ProdE c.args.t.now c.args.at c.from_residual-in_err-others.result c.in_err-others.field-0.0 c.from_residual-in_err-others.ensures.1 c.in_err-others.ensures (prod_no_others c.in_ok-first.ensures.2 c.in_ok-first.ensures.3)

pub read_prod-returns : goal.read_prod-returns
read_prod-returns t c =
    let f = c.in_ok-first.ensures in
    let o = c.in_ok-others.ensures in
    (omega (arith, f.0, o.0), o.1, as_value ProdE c.in_ok-product.ensures (prod f.2 o.2), o.3)

pub read_prods-returns-in_err-e : goal.read_prods-returns-in_err-e
read_prods-returns-in_err-e t c =
    quit MoreProd c.args.t.now c.args.at c.from_residual.result c.in_err-e.field-0.0 c.from_residual.ensures.1 c.in_err-e.ensures (λ h. cut_short MoreProd (Stops level.PRIMARY) (Stops level.PRODUCT) c.args.t.now c.args.at c.loop-op.to c.loop-op.found c.loop-op.invariant (Sign (sign.Prod c.in-Some.op)) (c.loop-op.to + 1) c.in-Some.ensures (prod_no_next h))

pub read_prods-loop-op-preserved : goal.read_prods-loop-op-preserved
read_prods-loop-op-preserved t c =
    let d = c.in_ok-e.ensures in
    one_more MoreProd (Stops level.PRIMARY) (Stops level.PRODUCT) c.args.t.now c.args.at c.loop-op.to c.loop-op.found c.loop-op.invariant (Sign (sign.Prod c.in-Some.op)) (c.loop-op.to + 1) c.in-Some.ensures (prod_term c.in-Some.op c.in_ok-e.e) c.in_ok-e.next c.put_prod.new.found (λ rest last ds. prod_more d.2 ds) (λ h. prod_no_more d.2 d.3 h) d.3 d.0 d.1 c.in_ok-put_prod.ensures

pub read_prods-returns : goal.read_prods-returns
read_prods-returns t c =
    all_found MoreProd (Stops level.PRIMARY) (Stops level.PRODUCT) c.args.t.now c.args.at c.loop-op.to c.loop-op.found c.loop-op.invariant prod_end (stops_prod (terminal_at (from c.args.t.now c.loop-op.to)) c.loop-op.invariant.stops c.in_default.ensures)

pub read_sign-returns-in_err-e-in-Some : goal.read_sign-returns-in_err-e-in-Some
read_sign-returns-in_err-e-in-Some t c =
    quit SignE c.args.t.now c.args.at c.from_residual.result c.in_err-e-in-Some.field-0.0 c.from_residual.ensures.1 c.in_err-e-in-Some.ensures (λ h. here SignE (Stops level.PRIMARY) c.in-Some.ensures.2 (sign_no_minus h))

pub read_sign-returns-in_ok-signed-in-Some : goal.read_sign-returns-in_ok-signed-in-Some
read_sign-returns-in_ok-signed-in-Some t c =
    let b = c.in-Some.ensures in
    let e = c.in_ok-e-in-Some.ensures in
    (omega (arith, b.0, e.0), e.1, as_value SignE c.in_ok-signed-in-Some.ensures (there SignE b.2 (sign_minus e.2)), e.3)

pub read_sign-returns-in-None : goal.read_sign-returns-in-None
read_sign-returns-in-None t c =
    gives_as SignE PrimE (Stops level.PRIMARY) (Stops level.PRIMARY) c.args.t.now c.args.at c.args.at c.read_prim-in-None.result (omega arith) (λ a to d s. (sign_plain d, s)) (λ h. sign_no_plain c.in-None.ensures h) c.read_prim-in-None.ensures

pub read_prim-returns-in-Aggregate : goal.read_prim-returns-in-Aggregate
read_prim-returns-in-Aggregate t c =
    let f = form_front (form.Aggregate c.in-Aggregate.agg) (from c.args.t.now c.args.at) c.in-Aggregate.ensures.form in
    fronted PrimE (Stops level.PRIMARY) (λ us. Aggregate c.in-Aggregate.agg ∷ us) c.args.t.now c.args.at (c.args.at + 1) c.read_agg.result (omega arith) (at_front (Aggregate c.in-Aggregate.agg) c.args.t.now c.args.at f) c.read_agg.ensures

pub read_prim-returns-in-Other : goal.read_prim-returns-in-Other
read_prim-returns-in-Other t c =
    λ a to d s. prim_form d c.in-Other.ensures.form

pub read_prim-returns-in_err-e-in_default : goal.read_prim-returns-in_err-e-in_default
read_prim-returns-in_err-e-in_default t c =
    quit PrimE c.args.t.now c.args.at c.from_residual.result c.in_err-e-in_default.field-0.0 c.from_residual.ensures.1 c.in_err-e-in_default.ensures (prim_no_closed)

pub read_prim-returns-in_err-settled-in_default : goal.read_prim-returns-in_err-settled-in_default
read_prim-returns-in_err-settled-in_default t c =
    quit PrimE c.args.t.now c.args.at c.from_residual-in_err-settled-in_default.result c.in_err-settled-in_default.field-0.0 c.from_residual-in_err-settled-in_default.ensures.1 c.in_err-settled-in_default.ensures (λ h. prim_no_end (from c.args.t.now c.in_ok-e-in_default.to) (closed_form c.form_at.result (terminal_at (from c.args.t.now c.args.at)) c.form_at.ensures.form c.in_default.not-Name c.in_default.not-Aggregate c.in_default.not-Other) c.in_ok-e-in_default.ensures.2 h)

pub read_closed-returns-in-Brackets : goal.read_closed-returns-in-Brackets
read_closed-returns-in-Brackets t c =
    let f = form_front form.Brackets (from c.args.t.now c.args.at) (sym c.in-Brackets.is ∙ c.requires.begins) in
    gives_as PrimE RoundE Anywhere Anywhere c.args.t.now c.args.at c.args.at c.read_inner.result (omega arith) (λ a to d s. (prim_rounded d, tt)) (λ h. here PrimE Anywhere f (prim_no_round (here RoundE Anywhere (sym f) h))) c.read_inner.ensures

pub read_closed-returns-in-Case : goal.read_closed-returns-in-Case
read_closed-returns-in-Case t c =
    let f = form_front form.Case (from c.args.t.now c.args.at) (sym c.in-Case.is ∙ c.requires.begins) in
    fronted PrimE Anywhere (λ us. Word word.Case ∷ us) c.args.t.now c.args.at (c.args.at + 1) c.read_case.result (omega arith) (at_front (Word word.Case) c.args.t.now c.args.at f) c.read_case.ensures

pub read_closed-returns-in-Cast : goal.read_closed-returns-in-Cast
read_closed-returns-in-Cast t c =
    let f = form_front form.Cast (from c.args.t.now c.args.at) (sym c.in-Cast.is ∙ c.requires.begins) in
    fronted PrimE Anywhere (λ us. Word word.Cast ∷ us) c.args.t.now c.args.at (c.args.at + 1) c.read_cast.result (omega arith) (at_front (Word word.Cast) c.args.t.now c.args.at f) c.read_cast.ensures

pub read_closed-returns-in-Round : goal.read_closed-returns-in-Round
read_closed-returns-in-Round t c =
    let f = form_front form.Round (from c.args.t.now c.args.at) (sym c.in-Round.is ∙ c.requires.begins) in
    fronted PrimE Anywhere (λ us. Word word.Round ∷ us) c.args.t.now c.args.at (c.args.at + 1) c.read_rounded.result (omega arith) (at_front (Word word.Round) c.args.t.now c.args.at f) c.read_rounded.ensures

pub read_closed-read_call-requires : goal.read_closed-read_call-requires
read_closed-read_call-requires t c =
    (omega (arith, c.requires.in_range), call_form c.in-Call.word (from c.args.t.now c.args.at) (sym c.in-Call.is ∙ c.requires.begins))

pub read_closed-returns-in-Call : goal.read_closed-returns-in-Call
read_closed-returns-in-Call t c =
    let f = form_front (form.Call c.in-Call.word) (from c.args.t.now c.args.at) (sym c.in-Call.is ∙ c.requires.begins) in
    fronted PrimE Anywhere (λ us. Word c.in-Call.word ∷ us) c.args.t.now c.args.at (c.args.at + 1) c.read_call.result (omega arith) (at_front (Word c.in-Call.word) c.args.t.now c.args.at f) c.read_call.ensures

pub read_closed-read_leaf-requires : goal.read_closed-read_leaf-requires
read_closed-read_leaf-requires t c =
    record {
      in_range = c.requires.in_range;
      begins = c.requires.begins;
      leaf = leaf_left c.args.form c.requires.closed c.in_default.not-Brackets c.in_default.not-Case c.in_default.not-Cast c.in_default.not-Round c.in_default.not-Call;
    }

pub read_name-returns-in_err-path : goal.read_name-returns-in_err-path
read_name-returns-in_err-path t c =
    quit PrimE c.args.t.now c.args.at c.from_residual.result c.in_err-path.field-0.0 c.from_residual.ensures.1 c.in_err-path.ensures (λ h. let n = (split_name (from c.args.t.now c.args.at) c.requires.begins) in here PrimE (Stops level.PRIMARY) n.1 (prim_no_path (here PathE (Stops level.PATH) (sym n.1) h)))

pub read_name-returns-in_err-settled : goal.read_name-returns-in_err-settled
read_name-returns-in_err-settled t c =
    quit PrimE c.args.t.now c.args.at c.from_residual-in_err-settled.result c.in_err-settled.field-0.0 c.from_residual-in_err-settled.ensures.1 c.in_err-settled.ensures (λ h. let n = (split_name (from c.args.t.now c.args.at) c.requires.begins) in here PrimE (Stops level.PRIMARY) n.1 (path_no_end (from c.args.t.now c.in_ok-path.mid) (there PathE (sym n.1) c.in_ok-path.ensures.2) c.in_ok-path.ensures.3 c.in_default.ensures h))

pub read_name-returns-in_default : goal.read_name-returns-in_default
read_name-returns-in_default t c =
    let n = (split_name (from c.args.t.now c.args.at) c.requires.begins) in
    let p = c.in_ok-path.ensures in
    (p.0, p.1, as_value PrimE c.in_ok-named.ensures (there PrimE n.1 (prim_path (there PathE (sym n.1) p.2))), c.in_ok-settled.ensures)

pub read_name-returns-in_err-places : goal.read_name-returns-in_err-places
read_name-returns-in_err-places t c =
    quit PrimE c.args.t.now c.args.at c.from_residual-in_err-places.result c.in_err-places.field-0.0 c.from_residual-in_err-places.ensures.1 c.in_err-places.ensures (λ h. let n = (split_name (from c.args.t.now c.args.at) c.requires.begins) in here PrimE (Stops level.PRIMARY) n.1 (cell_no_places (there PathE (sym n.1) c.in_ok-path.ensures.2) c.in_ok-path.ensures.3 (ap terminal_at c.in-Some.ensures.2) h))

pub read_name-returns-in_err-settled-2 : goal.read_name-returns-in_err-settled-2
read_name-returns-in_err-settled-2 t c =
    quit PrimE c.args.t.now c.args.at c.from_residual-in_err-settled-2.result c.in_err-settled-2.field-0.0 c.from_residual-in_err-settled-2.ensures.1 c.in_err-settled-2.ensures (λ h. let n = (split_name (from c.args.t.now c.args.at) c.requires.begins) in here PrimE (Stops level.PRIMARY) n.1 (cell_no_end (from c.args.t.now c.in_ok-places.to) (there PathE (sym n.1) c.in_ok-path.ensures.2) c.in_ok-path.ensures.3 c.in_ok-places.ensures.2 h))

pub read_name-returns : goal.read_name-returns
read_name-returns t c =
    let n = (split_name (from c.args.t.now c.args.at) c.requires.begins) in
    let p = c.in_ok-path.ensures in
    let b = c.in_ok-places.ensures in
    (omega (arith, p.0, b.0), b.1, as_value PrimE c.in_ok-cell.ensures (there PrimE n.1 (prim_cell (there PathE (sym n.1) p.2) b.2)), c.in_ok-settled-2.ensures)

pub read_agg-returns-in_err-settled-in-All : goal.read_agg-returns-in_err-settled-in-All
read_agg-returns-in_err-settled-in-All t c =
    quit (Behind (Aggregate c.args.agg)) c.args.t.now c.args.at c.from_residual.result c.in_err-settled-in-All.field-0.0 c.from_residual.ensures.1 c.in_err-settled-in-All.ensures (λ h. here (Behind (Aggregate c.args.agg)) (Stops level.PRIMARY) c.in-All.ensures.3 (all_no_end h))

pub read_agg-returns-in_ok-counted-in-All : goal.read_agg-returns-in_ok-counted-in-All
read_agg-returns-in_ok-counted-in-All t c =
    let a = c.in-All.ensures in
    (a.1, a.2, as_value (Behind (Aggregate c.args.agg)) c.in_ok-counted-in-All.ensures (all_prim a.0 a.3), c.in_ok-settled-in-All.ensures)

pub read_agg-returns-in_ok-measure-in-Cells : goal.read_agg-returns-in_ok-measure-in-Cells
read_agg-returns-in_ok-measure-in-Cells t c =
    let a = c.in-Cells.ensures in
    fronted (Behind (Aggregate c.args.agg)) (Stops level.PRIMARY) (λ us. opener ∷ Name c.in-Cells.measure.now ∷ closer ∷ us) c.args.t.now c.args.at c.in-Cells.cells c.read_range.result a.0 a.2 (measured c.args.agg c.args.t.now c.in-Cells.cells c.read_range.result c.in_ok-measure-in-Cells.ensures c.read_range.ensures)

pub read_agg-returns-in_err-e-in-Values : goal.read_agg-returns-in_err-e-in-Values
read_agg-returns-in_err-e-in-Values t c =
    quit (Behind (Aggregate c.args.agg)) c.args.t.now c.args.at c.from_residual-in_err-e-in-Values.result c.in_err-e-in-Values.field-0.0 c.from_residual-in_err-e-in-Values.ensures.1 c.in_err-e-in-Values.ensures (λ h. agg_no_value c.in-Values.ensures.0 c.in-Values.ensures.1 h)

pub read_agg-returns-in_err-settled-in-Values : goal.read_agg-returns-in_err-settled-in-Values
read_agg-returns-in_err-settled-in-Values t c =
    quit (Behind (Aggregate c.args.agg)) c.args.t.now c.args.at c.from_residual-in_err-settled-in-Values.result c.in_err-settled-in-Values.field-0.0 c.from_residual-in_err-settled-in-Values.ensures.1 c.in_err-settled-in-Values.ensures (λ h. agg_no_end (from c.args.t.now c.in_ok-e-in-Values.to) c.in-Values.ensures.0 c.in-Values.ensures.1 c.in_ok-e-in-Values.ensures.2 h)

pub read_agg-returns-in_ok-aggregate-in-Values : goal.read_agg-returns-in_ok-aggregate-in-Values
read_agg-returns-in_ok-aggregate-in-Values t c =
    let e = c.in_ok-e-in-Values.ensures in
    (e.0, e.1, as_value (Behind (Aggregate c.args.agg)) c.in_ok-aggregate-in-Values.ensures (agg_prim e.2), c.in_ok-settled-in-Values.ensures)

pub read_range-returns-in_err-places : goal.read_range-returns-in_err-places
read_range-returns-in_err-places t c =
    quit (CellsOf c.args.agg c.args.measure) c.args.t.now c.args.at c.from_residual.result c.in_err-places.field-0.0 c.from_residual.ensures.1 c.in_err-places.ensures (range_no_places c.requires.begins)

pub read_range-returns-in_err-settled : goal.read_range-returns-in_err-settled
read_range-returns-in_err-settled t c =
    quit (CellsOf c.args.agg c.args.measure) c.args.t.now c.args.at c.from_residual-in_err-settled.result c.in_err-settled.field-0.0 c.from_residual-in_err-settled.ensures.1 c.in_err-settled.ensures (λ h. range_no_end (from c.args.t.now c.in_ok-places.to) c.in_ok-places.ensures.2 h)

pub read_range-returns : goal.read_range-returns
read_range-returns t c =
    let b = c.in_ok-places.ensures in
    (b.0, b.1, as_value (CellsOf c.args.agg c.args.measure) c.in_ok-range.ensures (prim_range b.2), c.in_ok-settled.ensures)

pub read_inner-returns-in_err-open : goal.read_inner-returns-in_err-open
read_inner-returns-in_err-open t c =
    quit RoundE c.args.t.now c.args.at c.from_residual.result c.in_err-open.field-0.0 c.from_residual.ensures.1 c.in_err-open.ensures (round_no_open)

pub read_inner-returns-in_err-e : goal.read_inner-returns-in_err-e
read_inner-returns-in_err-e t c =
    quit RoundE c.args.t.now c.args.at c.from_residual-in_err-e.result c.in_err-e.field-0.0 c.from_residual-in_err-e.ensures.1 c.in_err-e.ensures (λ h. here RoundE Anywhere c.in_ok-open.ensures.2 (round_no_inner h))

pub read_inner-returns-in_err-to : goal.read_inner-returns-in_err-to
read_inner-returns-in_err-to t c =
    quit RoundE c.args.t.now c.args.at c.from_residual-in_err-to.result c.in_err-to.field-0.0 c.from_residual-in_err-to.ensures.1 c.in_err-to.ensures (λ h. here RoundE Anywhere c.in_ok-open.ensures.2 (round_no_close c.in_ok-e.ensures.2 c.in_ok-e.ensures.3 h))

pub read_inner-returns : goal.read_inner-returns
read_inner-returns t c =
    let o = c.in_ok-open.ensures in
    let e = c.in_ok-e.ensures in
    let k = c.in_ok-to.ensures in
    (omega (arith, o.0, e.0, k.0), k.1, there RoundE o.2 (round (till Expr k.2 e.2)), tt)

pub read_cast-returns-in_err-open : goal.read_cast-returns-in_err-open
read_cast-returns-in_err-open t c =
    quit (Behind (Word word.Cast)) c.args.t.now c.args.at c.from_residual.result c.in_err-open.field-0.0 c.from_residual.ensures.1 c.in_err-open.ensures (cast_no_open)

pub read_cast-returns-in_err-e : goal.read_cast-returns-in_err-e
read_cast-returns-in_err-e t c =
    quit (Behind (Word word.Cast)) c.args.t.now c.args.at c.from_residual-in_err-e.result c.in_err-e.field-0.0 c.from_residual-in_err-e.ensures.1 c.in_err-e.ensures (λ h. here (Behind (Word word.Cast)) Anywhere c.in_ok-open.ensures.2 (cast_no_expr h))

pub read_cast-returns-in_err-kind : goal.read_cast-returns-in_err-kind
read_cast-returns-in_err-kind t c =
    quit (Behind (Word word.Cast)) c.args.t.now c.args.at c.from_residual-in_err-kind.result c.in_err-kind.field-0.0 c.from_residual-in_err-kind.ensures.1 c.in_err-kind.ensures (λ h. here (Behind (Word word.Cast)) Anywhere c.in_ok-open.ensures.2 (cast_no_kind c.in_ok-e.ensures.2 c.in_ok-e.ensures.3 h))

pub read_cast-returns : goal.read_cast-returns
read_cast-returns t c =
    let o = c.in_ok-open.ensures in
    let e = c.in_ok-e.ensures in
    let k = c.in_ok-kind.ensures in
    (omega (arith, o.0, e.0, k.0), k.1, as_value (Behind (Word word.Cast)) c.in_ok-cast.ensures (there (Behind (Word word.Cast)) o.2 (cast_prim e.2 k.2)), tt)

pub read_rounded-returns-in_err-open : goal.read_rounded-returns-in_err-open
read_rounded-returns-in_err-open t c =
    quit (Behind (Word word.Round)) c.args.t.now c.args.at c.from_residual.result c.in_err-open.field-0.0 c.from_residual.ensures.1 c.in_err-open.ensures (rounded_no_open)

pub read_rounded-returns-in_err-e : goal.read_rounded-returns-in_err-e
read_rounded-returns-in_err-e t c =
    quit (Behind (Word word.Round)) c.args.t.now c.args.at c.from_residual-in_err-e.result c.in_err-e.field-0.0 c.from_residual-in_err-e.ensures.1 c.in_err-e.ensures (λ h. here (Behind (Word word.Round)) Anywhere c.in_ok-open.ensures.2 (rounded_no_expr h))

pub read_rounded-returns-in_err-places : goal.read_rounded-returns-in_err-places
read_rounded-returns-in_err-places t c =
    quit (Behind (Word word.Round)) c.args.t.now c.args.at c.from_residual-in_err-places.result c.in_err-places.field-0.0 c.from_residual-in_err-places.ensures.1 c.in_err-places.ensures (λ h. here (Behind (Word word.Round)) Anywhere c.in_ok-open.ensures.2 (rounded_no_scale c.in_ok-e.ensures.2 c.in_ok-e.ensures.3 h))

pub read_rounded-returns : goal.read_rounded-returns
read_rounded-returns t c =
    let o = c.in_ok-open.ensures in
    let e = c.in_ok-e.ensures in
    let k = c.in_ok-places.ensures in
    (omega (arith, o.0, e.0, k.0), k.1, as_value (Behind (Word word.Round)) (c.in_ok-rounded.ensures ∙ ap (λ n. tree.Call (func.Round n) (c.in_ok-e.e ∷ [])) c.scale_of.ensures) (there (Behind (Word word.Round)) o.2 (rounded_prim e.2 k.2)), tt)

pub read_call-returns-in_err-args : goal.read_call-returns-in_err-args
read_call-returns-in_err-args t c =
    quit (Behind (Word c.args.word)) c.args.t.now c.args.at c.from_residual.result c.in_err-args.field-0.0 c.from_residual.ensures.1 c.in_err-args.ensures (call_no_tuple c.args.word c.requires)

pub read_call-returns-in-Some : goal.read_call-returns-in-Some
read_call-returns-in-Some t c =
    let a = c.in_ok-args.ensures in
    (a.0, a.1, call_prim c.args.word c.in_ok-args.args a.2 (sym c.in_ok-e.ensures ∙ c.in-Some.is), tt)

pub read_call-returns-in-None : goal.read_call-returns-in-None
read_call-returns-in-None t c =
    call_no_count c.args.word c.requires c.in_ok-args.ensures.2 (sym c.in-None.is ∙ c.in_ok-e.ensures)

pub read_case-returns-in_err-subject : goal.read_case-returns-in_err-subject
read_case-returns-in_err-subject t c =
    quit (Behind (Word word.Case)) c.args.t.now c.args.at c.from_residual.result c.in_err-subject.field-0.0 c.from_residual.ensures.1 c.in_err-subject.ensures (case_no_subject)

pub read_case-returns-in_err-arms : goal.read_case-returns-in_err-arms
read_case-returns-in_err-arms t c =
    quit (Behind (Word word.Case)) c.args.t.now c.args.at c.from_residual-in_err-arms.result c.in_err-arms.field-0.0 c.from_residual-in_err-arms.ensures.1 c.in_err-arms.ensures (λ h. case_no_whens c.in_ok-subject.ensures.2 c.in_ok-subject.ensures.3 h)

pub read_case-returns-in_err-other : goal.read_case-returns-in_err-other
read_case-returns-in_err-other t c =
    quit (Behind (Word word.Case)) c.args.t.now c.args.at c.from_residual-in_err-other.result c.in_err-other.field-0.0 c.from_residual-in_err-other.ensures.1 c.in_err-other.ensures (λ h. case_no_else c.in_ok-subject.ensures.2 c.in_ok-subject.ensures.3 c.in_ok-arms.ensures.2 c.in_ok-arms.ensures.3 h)

pub read_case-returns : goal.read_case-returns
read_case-returns t c =
    let s = c.in_ok-subject.ensures in
    let a = c.in_ok-arms.ensures in
    let o = c.in_ok-other.ensures in
    (omega (arith, s.0, a.0, o.0), o.1, as_value (Behind (Word word.Case)) c.in_ok-case.ensures (case_prim c.in_ok-arms.arms s.2 a.2 o.2), tt)

pub read_subject-returns-in-Some : goal.read_subject-returns-in-Some
read_subject-returns-in-Some t c =
    (omega arith, omega (arith, c.in-Some.ensures.0, c.in-Some.ensures.1), case_none, ap terminal_at c.in-Some.ensures.2)

pub read_subject-returns-in_err-e-in-None : goal.read_subject-returns-in_err-e-in-None
read_subject-returns-in_err-e-in-None t c =
    quit CaseE c.args.t.now c.args.at c.from_residual.result c.in_err-e-in-None.field-0.0 c.from_residual.ensures.1 c.in_err-e-in-None.ensures (λ h. subject_no_expr c.in-None.ensures h)

pub read_subject-returns-in_err-pass_word-in-None : goal.read_subject-returns-in_err-pass_word-in-None
read_subject-returns-in_err-pass_word-in-None t c =
    quit CaseE c.args.t.now c.args.at c.from_residual-in_err-pass_word-in-None.result c.in_err-pass_word-in-None.field-0.0 c.from_residual-in_err-pass_word-in-None.ensures.1 c.in_err-pass_word-in-None.ensures (λ h. subject_no_when c.in-None.ensures c.in_ok-e-in-None.ensures.2 c.in_ok-e-in-None.ensures.3 h)

pub read_subject-returns-in_ok-pass_word-in-None : goal.read_subject-returns-in_ok-pass_word-in-None
read_subject-returns-in_ok-pass_word-in-None t c =
    let e = c.in_ok-e-in-None.ensures in
    (e.0, e.1, case_some e.2, ap terminal_at c.in_ok-pass_word-in-None.ensures.2)

pub read_else-returns-in_err-e-in-Some : goal.read_else-returns-in_err-e-in-Some
read_else-returns-in_err-e-in-Some t c =
    quit ElseEnd c.args.t.now c.args.at c.from_residual.result c.in_err-e-in-Some.field-0.0 c.from_residual.ensures.1 c.in_err-e-in-Some.ensures (λ h. here ElseEnd Anywhere c.in-Some.ensures.2 (else_no_expr h))

pub read_else-returns-in_err-to-in-Some : goal.read_else-returns-in_err-to-in-Some
read_else-returns-in_err-to-in-Some t c =
    quit ElseEnd c.args.t.now c.args.at c.from_residual-in_err-to-in-Some.result c.in_err-to-in-Some.field-0.0 c.from_residual-in_err-to-in-Some.ensures.1 c.in_err-to-in-Some.ensures (λ h. here ElseEnd Anywhere c.in-Some.ensures.2 (else_no_end c.in_ok-e-in-Some.ensures.2 c.in_ok-e-in-Some.ensures.3 h))

pub read_else-returns-in_ok-to-in-Some : goal.read_else-returns-in_ok-to-in-Some
read_else-returns-in_ok-to-in-Some t c =
    let b = c.in-Some.ensures in
    let e = c.in_ok-e-in-Some.ensures in
    let k = c.in_ok-to-in-Some.ensures in
    (omega (arith, b.0, e.0, k.0), k.1, there ElseEnd b.2 (else_some (till Expr k.2 e.2)), tt)

pub read_else-returns-in_err-to-in-None : goal.read_else-returns-in_err-to-in-None
read_else-returns-in_err-to-in-None t c =
    quit ElseEnd c.args.t.now c.args.at c.from_residual-in_err-to-in-None.result c.in_err-to-in-None.field-0.0 c.from_residual-in_err-to-in-None.ensures.1 c.in_err-to-in-None.ensures (λ h. else_no_word c.in-None.ensures h)

pub read_else-returns-in_ok-to-in-None : goal.read_else-returns-in_ok-to-in-None
read_else-returns-in_ok-to-in-None t c =
    let k = c.in_ok-to-in-None.ensures in
    (omega (arith, k.0), k.1, there ElseEnd k.2 else_none, tt)

pub read_brackets-returns-in_err-open : goal.read_brackets-returns-in_err-open
read_brackets-returns-in_err-open t c =
    quit Brackets c.args.t.now c.args.at c.from_residual.result c.in_err-open.field-0.0 c.from_residual.ensures.1 c.in_err-open.ensures (brackets_no_open)

pub read_brackets-returns-in_err-first : goal.read_brackets-returns-in_err-first
read_brackets-returns-in_err-first t c =
    quit Brackets c.args.t.now c.args.at c.from_residual-in_err-first.result c.in_err-first.field-0.0 c.from_residual-in_err-first.ensures.1 c.in_err-first.ensures (λ h. here Brackets Anywhere c.in_ok-open.ensures.2 (brackets_no_first h))

pub read_brackets-returns-in_err-all : goal.read_brackets-returns-in_err-all
read_brackets-returns-in_err-all t c =
    quit Brackets c.args.t.now c.args.at c.from_residual-in_err-all.result c.in_err-all.field-0.0 c.from_residual-in_err-all.ensures.1 c.in_err-all.ensures (λ h. here Brackets Anywhere c.in_ok-open.ensures.2 (brackets_no_others c.in_ok-first.ensures.2 c.in_ok-first.ensures.3 h))

pub read_brackets-returns-in_err-to : goal.read_brackets-returns-in_err-to
read_brackets-returns-in_err-to t c =
    quit Brackets c.args.t.now c.args.at c.from_residual-in_err-to.result c.in_err-to.field-0.0 c.from_residual-in_err-to.ensures.1 c.in_err-to.ensures (λ h. here Brackets Anywhere c.in_ok-open.ensures.2 (brackets_no_close c.in_ok-first.ensures.2 c.in_ok-first.ensures.3 c.in_ok-all.ensures.2 c.in_ok-all.ensures.3 h))

pub read_brackets-returns : goal.read_brackets-returns
read_brackets-returns t c =
    let o = c.in_ok-open.ensures in
    let f = c.in_ok-first.ensures in
    let a = c.in_ok-all.ensures in
    let k = c.in_ok-to.ensures in
    (omega (arith, o.0, f.0, a.0, k.0), k.1, as_value Brackets c.in_ok-put_before.ensures (there Brackets o.2 (brackets f.2 (till MorePlaces k.2 a.2))), tt)

pub read_places-returns-in_err-place : goal.read_places-returns-in_err-place
read_places-returns-in_err-place t c =
    quit MorePlaces c.args.t.now c.args.at c.from_residual.result c.in_err-place.field-0.0 c.from_residual.ensures.1 c.in_err-place.ensures (λ h. cut_short MorePlaces (Stops level.EXPRESSION) (Ends (terminal.Sign sign.Comma)) c.args.t.now c.args.at c.loop-behind.to c.loop-behind.found c.loop-behind.invariant comma c.in-Some.behind c.in-Some.ensures (places_no_next h))

pub read_places-loop-behind-preserved : goal.read_places-loop-behind-preserved
read_places-loop-behind-preserved t c =
    let d = c.in_ok-place.ensures in
    one_more MorePlaces (Stops level.EXPRESSION) (Ends (terminal.Sign sign.Comma)) c.args.t.now c.args.at c.loop-behind.to c.loop-behind.found c.loop-behind.invariant comma c.in-Some.behind c.in-Some.ensures c.in_ok-place.place c.in_ok-place.next c.put.new.found (λ rest last ds. places_more d.2 ds) (λ h. places_no_more d.2 d.3 h) d.3 d.0 d.1 c.in_ok-put.ensures

pub read_places-returns : goal.read_places-returns
read_places-returns t c =
    all_found MorePlaces (Stops level.EXPRESSION) (Ends (terminal.Sign sign.Comma)) c.args.t.now c.args.at c.loop-behind.to c.loop-behind.found c.loop-behind.invariant places_end (c.loop-behind.invariant.stops, c.in_default.ensures)

pub read_place-returns-in_err-settled-in-Some : goal.read_place-returns-in_err-settled-in-Some
read_place-returns-in_err-settled-in-Some t c =
    quit PlaceE c.args.t.now c.args.at c.from_residual.result c.in_err-settled-in-Some.field-0.0 c.from_residual.ensures.1 c.in_err-settled-in-Some.ensures (λ h. here PlaceE (Stops level.EXPRESSION) c.in-Some.ensures.2 (place_no_end h))

pub read_place-returns-in_ok-any_place-in-Some : goal.read_place-returns-in_ok-any_place-in-Some
read_place-returns-in_ok-any_place-in-Some t c =
    let b = c.in-Some.ensures in
    (omega (arith, b.0), b.1, as_value PlaceE c.in_ok-any_place-in-Some.ensures (there PlaceE b.2 place_any), c.in_ok-settled-in-Some.ensures)

pub read_place-returns-in_err-e-in-None : goal.read_place-returns-in_err-e-in-None
read_place-returns-in_err-e-in-None t c =
    quit PlaceE c.args.t.now c.args.at c.from_residual-in_err-e-in-None.result c.in_err-e-in-None.field-0.0 c.from_residual-in_err-e-in-None.ensures.1 c.in_err-e-in-None.ensures (λ h. place_no_expr c.in-None.ensures h)

pub read_place-returns-in_ok-place_of-in-None : goal.read_place-returns-in_ok-place_of-in-None
read_place-returns-in_ok-place_of-in-None t c =
    let e = c.in_ok-e-in-None.ensures in
    (e.0, e.1, as_value PlaceE c.in_ok-place_of-in-None.ensures (place_expr e.2), e.3)

pub read_whens-loop-found-init : goal.read_whens-loop-found-init
read_whens-loop-found-init t c =
    whens_init c.args.t.now c.args.at c.in_ok-to.to c.in_ok-to.ensures c.new-found.result c.new-found.ensures

pub read_whens-returns-in_err-to : goal.read_whens-returns-in_err-to
read_whens-returns-in_err-to t c =
    quit SomeWhens c.args.t.now c.args.at c.from_residual.result c.in_err-to.field-0.0 c.from_residual.ensures.1 c.in_err-to.ensures (whens_none)

pub read_whens-returns-in_err-test : goal.read_whens-returns-in_err-test
read_whens-returns-in_err-test t c =
    quit SomeWhens c.args.t.now c.args.at c.from_residual-in_err-test.result c.in_err-test.field-0.0 c.from_residual-in_err-test.ensures.1 c.in_err-test.ensures (whens_no_test_at c.args.t.now c.args.at c.loop-found.to c.loop-found.found c.loop-found.invariant)

pub read_whens-returns-in_err-mid : goal.read_whens-returns-in_err-mid
read_whens-returns-in_err-mid t c =
    quit SomeWhens c.args.t.now c.args.at c.from_residual-in_err-mid.result c.in_err-mid.field-0.0 c.from_residual-in_err-mid.ensures.1 c.in_err-mid.ensures (whens_no_then_at c.args.t.now c.args.at c.loop-found.to c.loop-found.found c.loop-found.invariant c.in_ok-test.ensures.2 c.in_ok-test.ensures.3)

pub read_whens-returns-in_err-value : goal.read_whens-returns-in_err-value
read_whens-returns-in_err-value t c =
    quit SomeWhens c.args.t.now c.args.at c.from_residual-in_err-value.result c.in_err-value.field-0.0 c.from_residual-in_err-value.ensures.1 c.in_err-value.ensures (whens_no_value_at c.args.t.now c.args.at c.loop-found.to c.loop-found.found c.loop-found.invariant c.in_ok-test.test c.in_ok-test.end c.in_ok-mid.mid c.in_ok-test.ensures.2 c.in_ok-mid.ensures)

pub read_whens-loop-found-preserved : goal.read_whens-loop-found-preserved
read_whens-loop-found-preserved t c =
    let v = c.in_ok-value.ensures in
    whens_kept c.args.t.now c.args.at c.loop-found.to c.loop-found.found c.loop-found.invariant c.in_ok-test.test c.in_ok-test.end c.in_ok-mid.mid c.in_ok-test.ensures.2 c.in_ok-mid.ensures c.in_ok-value.value c.in_ok-value.next v.2 v.3 (omega (arith, v.0, c.in_ok-test.ensures.0, c.in_ok-mid.ensures.0)) v.1 c.put_arm.new.found c.in_ok-put_arm.ensures c.in-Some.behind c.in-Some.ensures

pub read_whens-returns-in-None : goal.read_whens-returns-in-None
read_whens-returns-in-None t c =
    let v = c.in_ok-value.ensures in
    whens_done c.args.t.now c.args.at c.loop-found.to c.loop-found.found c.loop-found.invariant c.in_ok-test.test c.in_ok-test.end c.in_ok-mid.mid c.in_ok-test.ensures.2 c.in_ok-mid.ensures c.in_ok-value.value c.in_ok-value.next v.2 v.3 (omega (arith, v.0, c.in_ok-test.ensures.0, c.in_ok-mid.ensures.0)) v.1 c.put_arm.new.found c.in_ok-put_arm.ensures c.in-None.ensures
