use Rattle.std.proofs.Common.{sym, ap, ◌∙◌, subst}
use Rattle.mq_ir.specs.Tables.{Table, Tables, table_at}
use Rattle.mq_tables.specs.Held.{HaveOwnNames, RowsFit}
use Rattle.mq_tables.proofs.HeldLemmas.{fits_added, names_added}
use Rattle.mq_tables.proofs.tables.Tables.add.Goals as goal

pub invariant_of-self-2 : goal.invariant_of-self-2
invariant_of-self-2 c =
    let old = c.self.inside.tables.items in
    let absent = ap (λ (u : Table). table_at old u.name) c.new.ensures ∙ ap (λ (ts : Tables). table_at ts c.args.t.name) c.self.view_is ∙ c.requires in
    subst HaveOwnNames (sym c.in_ok-push.ensures.items) (names_added old c.new.result c.self.invariant absent)

pub returns-clause-fit : goal.returns-clause-fit
returns-clause-fit c = λ fit.
    let old = c.self.inside.tables.items in
    subst RowsFit (sym c.in_ok-push.ensures.items)
    (fits_added old c.new.result (subst RowsFit (sym c.self.view_is) fit) (ap (λ (u : Table). u.rows) c.new.ensures))
