use Rattle.std.proofs.Common.{◌≡◌, ◌<◌, ◌∷◌, [], ◌++◌, Some, None, length, ap, ◌∙◌, get_or, rules}
use Rattle.std.proofs.lemmas.List.{get_or_default}
use Rattle.mq_levels.specs.Numbers.{number_of}
use Rattle.mq_levels.proofs.DealLemmas.{rest_dealt, some_dealt}
use Rattle.mq_levels.proofs.dealing.deal_one.Goals as goal

pub returns-in-Some : goal.returns-in-Some
returns-in-Some c =
    let number = c.in-Some.number in
    let is : number_of c.args.numbers.now c.args.node ≡ Some number = search rules in
    let below : number < length c.args.rounds.now = c.requires.below.below c.args.node number is in
    let after : c.push.new.self ≡ get_or c.args.rounds.now number [] ++ c.args.node ∷ [] =
    c.in_ok-push.ensures.ok ∙ ap (λ round. round ++ c.args.node ∷ []) (get_or_default c.args.rounds.now number c.index-rounds-number.result [] below) in
    rw after (some_dealt c.args.numbers.now c.args.node c.args.rounds.now c.args.rest.now c.requires.dealt number is below)

pub returns : goal.returns
returns c =
    let is : number_of c.args.numbers.now c.args.node ≡ None = search rules in
    rw c.in_ok-push-2.ensures.ok (rest_dealt c.args.numbers.now c.args.node c.args.rounds.now c.args.rest.now c.requires.dealt is)
