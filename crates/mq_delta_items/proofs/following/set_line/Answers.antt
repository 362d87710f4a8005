use Rattle.std.proofs.Common.{rules, ◌≡◌, ◌<◌, None, get_or, length, set, arith}
use Rattle.std.proofs.lemmas.Grind.{common_steps}
use Rattle.mq_delta_items.proofs.FollowWalkLemmas.{at_most_all, put_counts}
use Rattle.mq_delta_items.proofs.following.set_line.Goals as goal

pub overflow_sub-lines : goal.overflow_sub-lines
overflow_sub-lines c =
    let old = c.lines.inside.lines in
    let there : c.args.place < length old = search rules in
    let put : c.from_vec.result ≡ set old c.args.place c.args.line = search rules in
    let was : c.replace-old.result ≡ get_or old c.args.place None = grind (arith, common_steps) in
    (put_counts old c.from_vec.result c.args.place c.args.line c.replace-old.result c.lines.inside.taken c.taken_in-more.result c.taken_in.result there put
    was c.lines.invariant c.taken_in-more.ensures c.taken_in.ensures).0

pub overflow_add-lines : goal.overflow_add-lines
overflow_add-lines c =
    let old = c.lines.inside.lines in
    let there : c.args.place < length old = search rules in
    let put : c.from_vec.result ≡ set old c.args.place c.args.line = search rules in
    let was : c.replace-old.result ≡ get_or old c.args.place None = grind (arith, common_steps) in
    let counts =
    put_counts old c.from_vec.result c.args.place c.args.line c.replace-old.result c.lines.inside.taken c.taken_in-more.result c.taken_in.result there put
    was c.lines.invariant c.taken_in-more.ensures c.taken_in.ensures in
    let few = at_most_all c.from_vec.result in
    let count = c.len-count.ensures in
    let sum = counts.1 in
    omega (arith, sum, few, count)

pub invariant_of-lines : goal.invariant_of-lines
invariant_of-lines c =
    let old = c.lines.inside.lines in
    let there : c.args.place < length old = search rules in
    let put : c.from_vec.result ≡ set old c.args.place c.args.line = search rules in
    let was : c.replace-old.result ≡ get_or old c.args.place None = grind (arith, common_steps) in
    (put_counts old c.from_vec.result c.args.place c.args.line c.replace-old.result c.lines.inside.taken c.taken_in-more.result c.taken_in.result there put
    was c.lines.invariant c.taken_in-more.ensures c.taken_in.ensures).1
