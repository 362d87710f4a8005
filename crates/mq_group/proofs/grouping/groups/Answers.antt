use Rattle.std.proofs.Common.{◌≡◌, eqb, false, true, length, sym, ap, ◌∙◌, rules}
use Rattle.std.proofs.lemmas.Result.{IfOk-weaker}
use Rattle.mq_group.proofs.GroupLemmas.{groups_are}
use Rattle.mq_group.proofs.grouping.groups.Goals as goal

pub returns : goal.returns
returns g c =
    let some : eqb (length c.args.cols.now) 0 ≡ false = search rules in
    IfOk-weaker c.keyed.result _ _
    (λ groups e. e ∙ sym (groups_are g.R.RowValues.values c.args.cols.now c.args.rows.now (λ none. let t : eqb (length c.args.cols.now) 0 ≡ true = ap (λ l. eqb (length l) 0) none in let f : true ≡ false = sym t ∙ some in cc)))
    c.keyed.ensures
