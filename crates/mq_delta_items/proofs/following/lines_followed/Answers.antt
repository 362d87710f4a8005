use Rattle.std.proofs.Common.{ℕ, List, subst}
use Rattle.mq_values.specs.Answers.{Gives, result_map}
use Rattle.mq_ir.specs.Keys.{Tuple}
use Rattle.mq_ir.specs.Results.{each_in_turn}
use Rattle.mq_tables.specs.declared.touched.Touched.{Touched}
use Rattle.mq_delta_items.specs.Following.{Followed, lengthened, made_anew, no_change}
use Rattle.mq_delta_items.specs.Lines.{line_of}
use Rattle.mq_delta_items.specs.Touching.{IsTouchedBy}
use Rattle.mq_delta_items.proofs.FollowLemmas.{added_follows, gone_follows, replaced_follows}
use Rattle.mq_delta_items.proofs.following.lines_followed.Goals as goal

pub returns-in-Added : goal.returns-in-Added
returns-in-Added c = λ before touched is.
    let f = line_of c.args.from.now c.args.part.now in
    let rows = c.args.rows.now in
    let old = c.args.lines.now in
    let r = c.lines_added.result in
    let now = c.lines_added.new.lines in
    let by = subst (λ (it : Touched). IsTouchedBy it before rows) c.in-Added.is touched in
    added_follows f before rows c.in-Added.first old by.1 is now r
    (subst (λ (l : List Tuple). Gives {T = Followed} (result_map (λ change. (now, change)) r) (lengthened f l old)) c.behind.ensures c.lines_added.ensures)

pub returns-in-Replaced : goal.returns-in-Replaced
returns-in-Replaced c = λ before touched is.
    let f = line_of c.args.from.now c.args.part.now in
    let rows = c.args.rows.now in
    let old = c.args.lines.now in
    let r = c.lines_replaced.result in
    let now = c.lines_replaced.new.lines in
    let by = subst (λ (it : Touched). IsTouchedBy it before rows) c.in-Replaced.is touched in
    replaced_follows f before rows c.in-Replaced.replaced old now r by is
    (subst (λ (l : List (ℕ × Tuple)). Gives {T = Followed} (result_map (λ change. (now, change)) r) (each_in_turn (made_anew f rows) l (old, no_change)))
    c.as_slice.ensures c.lines_replaced.ensures)

pub returns-in-Gone : goal.returns-in-Gone
returns-in-Gone c = λ before touched is.
    let f = line_of c.args.from.now c.args.part.now in
    let rows = c.args.rows.now in
    let by = subst (λ (it : Touched). IsTouchedBy it before rows) c.in-Gone.is touched in
    gone_follows f before rows c.in-Gone.flags c.args.lines.now c.lines_gone.new.lines c.lines_gone.result by.0 by.1 is c.lines_gone.ensures
