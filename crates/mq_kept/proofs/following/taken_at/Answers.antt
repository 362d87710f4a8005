use Rattle.std.proofs.lemmas.List.Elements.{All-pop}
use Rattle.mq_kept.specs.Kept.{IsRight}
use Rattle.mq_kept.proofs.following.taken_at.Goals as goal

pub passing-preserved : goal.passing-preserved
passing-preserved c = λ model all. (All-pop (IsRight model) c.passing.left.items c.pop.new.self.items c.pop.result c.pop.ensures.items (c.passing.invariant model all)).0

pub returns-then-is_at : goal.returns-then-is_at
returns-then-is_at c = record {
  left = λ model all. (All-pop (IsRight model) c.passing.left.items c.pop-then-is_at.new.self.items c.pop-then-is_at.result c.pop-then-is_at.ensures.items (c.passing.invariant model all)).0;
  taken = λ model all. (All-pop (IsRight model) c.passing.left.items c.pop-then-is_at.new.self.items c.pop-then-is_at.result c.pop-then-is_at.ensures.items (c.passing.invariant model all)).1;
}
