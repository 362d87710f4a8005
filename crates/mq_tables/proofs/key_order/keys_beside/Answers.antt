use Rattle.std.proofs.Common.{◌≤◌, length, arith}
use Rattle.mq_tables.proofs.ExchangeLemmas.{adding_start, beside_end, beside_next, rows_put}
use Rattle.mq_tables.proofs.key_order.keys_beside.Goals as goal

pub puts-init : goal.puts-init
puts-init c = λ left lost. adding_start c.args.schema.now left (rows_put c.args.puts.now) c.empty-keys.result c.empty-keys.ensures

pub puts-preserved : goal.puts-preserved
puts-preserved c =
    beside_next c.args.schema.now c.args.order.now c.args.old.now c.args.puts.now c.puts.keys c.put_beside.new.keys c.puts.put-index c.put-item.result c.in_ok-key.key c.in_ok-gone.gone.keys
    c.in_ok-put_beside.field-0 c.puts-test.true c.put-item.is c.in_ok-key.ensures c.in_ok-gone.ensures c.in_ok-put_beside.ensures.new c.if-not-branch.false
    (c.in_ok-put_beside.ensures.put c.if-not-branch.false) c.puts.invariant

pub returns : goal.returns
returns c =
    let end : length c.args.puts.now ≤ c.puts.put-index = (let t = c.puts-test.false in omega (arith, t)) in
    beside_end c.args.schema.now c.args.order.now c.args.old.now c.args.puts.now c.puts.keys c.puts.put-index end c.puts.invariant
