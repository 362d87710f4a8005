use Rattle.std.proofs.Common.{◌≡◌, rules, sym, ap, ◌∙◌, min, length, take, drop}
use Rattle.std.specs.Prelude.{◌&&◌, nat_eq}
use Rattle.std.specs.List.{starts_with}
use Rattle.mq_generate.proofs.WordLemmas.{begins_in_parts}
use Rattle.mq_generate.proofs.lines.begins.Goals as goal

pub returns-then-starts_with : goal.returns-then-starts_with
returns-then-starts_with c =
    let cut : c.min.result ≡ min (length c.args.front.now) (length c.args.word.now) = search rules in
    let parts = begins_in_parts c.args.front.now c.args.back.now c.args.word.now c.split_at.result.0.now c.split_at.result.1.now
    (c.split_at.ensures.front ∙ ap (λ n. take n c.args.word.now) cut) (c.split_at.ensures.back ∙ ap (λ n. drop n c.args.word.now) cut) in
    c.starts_with-then-starts_with.ensures.value ∙ sym (parts ∙ ap (λ t. t && starts_with nat_eq c.args.back.now c.split_at.result.1.now) (sym c.starts_with.ensures.value ∙ c.if-starts_with.true))

pub returns-else-starts_with : goal.returns-else-starts_with
returns-else-starts_with c =
    let cut : c.min.result ≡ min (length c.args.front.now) (length c.args.word.now) = search rules in
    let parts = begins_in_parts c.args.front.now c.args.back.now c.args.word.now c.split_at.result.0.now c.split_at.result.1.now
    (c.split_at.ensures.front ∙ ap (λ n. take n c.args.word.now) cut) (c.split_at.ensures.back ∙ ap (λ n. drop n c.args.word.now) cut) in
    c.if-starts_with.false ∙ sym (parts ∙ ap (λ t. t && starts_with nat_eq c.args.back.now c.split_at.result.1.now) (sym c.starts_with.ensures.value ∙ c.if-starts_with.false))
