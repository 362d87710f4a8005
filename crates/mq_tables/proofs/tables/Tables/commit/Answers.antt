use Rattle.std.proofs.Common.{sym, ◌∙◌, subst}
use Rattle.mq_tables.specs.Held.{HaveOwnNames, RowsFit}
use Rattle.mq_tables.proofs.HeldLemmas.{committed, names_changed}
use Rattle.mq_tables.proofs.tables.Tables.commit.Goals as goal

pub invariant_of-self : goal.invariant_of-self
invariant_of-self c =
    subst HaveOwnNames (sym c.put_rows.ensures) (names_changed c.as_str.result.now _ c.self.inside.tables.items c.self.invariant)

pub returns-clause-fit : goal.returns-clause-fit
returns-clause-fit c = λ stands. λ fit.
    committed c.self.inside.tables.items c.args.self.now c.put_rows.new.tables.items c.args.s c.as_str.result.now _ c.self.view_is
    (c.as_str.ensures ∙ c.into_parts-table.ensures.0) c.into_parts-table.ensures.1 stands c.self.invariant (subst RowsFit (sym c.self.view_is) fit) c.put_rows.ensures
