use Rattle.std.proofs.Common.{◌≡◌, map, take}
use Rattle.mq_bind_scopes.specs.declared.scopes.Printed.{Printed}
use Rattle.mq_binder.proofs.for_lists.printed_kinds.Given as goal

abbrev pub invariant-printed : goal.invariant-printed
invariant-printed l = l.kinds ≡ map (λ (c : Printed). c.kind) (take l.c-index l.printed)
