-- What is dealt out by the numbers of all rounds are the rounds and the rest.
use Rattle.std.proofs.Common.{◌≡◌, ℕ, ◌<◌, ◌≤◌, not, Bool, List, [], Result, Ok, Err, IfOk, length, get_or, take, sym, ap, subst, ◌∙◌, arith}
use Rattle.std.specs.List.{All, filter, range_with_len}
use Rattle.std.specs.declared.alloc.Global.{Global}
use Rattle.std.specs.declared.vec.Vec.{Vec}
use Rattle.std.proofs.lemmas.List.{take_all}
use Rattle.std.proofs.lemmas.List.Elements.{All-from_get_or}
use Rattle.mq_values.specs.declared.memory.Memory.{Memory}
use Rattle.mq_levels.specs.declared.dealing.Leveled.{Leveled}
use Rattle.mq_levels.specs.Levels.{AreRounds, ReadsNodes, in_round, levelled, nodes, reads_in, rest_of, round_of}
use Rattle.mq_levels.specs.Numbers.{AllNumbered, AreDealt, Numbers, has_number, is_numbered}
use Rattle.mq_levels.proofs.DealLemmas.{filter_within}
use Rattle.mq_levels.proofs.LevelLemmas.{same_later}
use Rattle.mq_levels.proofs.NumberLemmas.{number_is_round, number_tells}
use Rattle.mq_levels.proofs.PlaceLemmas.{reads_long, reads_read}

module _ (reads : List (List ℕ)) (h : ReadsNodes reads) (count : ℕ) (numbers : Numbers) (rounds : List (List ℕ)) (rest : List ℕ) (all : AllNumbered reads count numbers) (long : length rounds ≡ count) (dealt : AreDealt numbers (length numbers) rounds rest) where
  same_length : (p : ℕ → Bool) → filter p (range_with_len 0 (length numbers)) ≡ filter p (nodes reads)
  same_length p = ap (λ n. filter p (range_with_len 0 n)) all.numbered.long

  each_round : (n : ℕ) → get_or rounds n [] ≡ round_of reads n
  each_round n =
      dealt.each n
      ∙ same_length (is_numbered numbers n)
      ∙ filter_within (is_numbered numbers n) (in_round reads n) 0 (length reads) (λ x l. number_is_round reads count numbers h all n x (omega arith))

  pub are_rounds : AreRounds reads rounds
  are_rounds = record {
    each = each_round;
    filled = All-from_get_or (λ round. 0 < length round) rounds [] (λ n l. subst (λ round. 0 < length round) (sym (each_round n)) (all.numbered.filled n (omega arith)));
    complete = λ n node m l.
        same_later reads h count all.last n node (omega arith) l ∙ ap (λ k. levelled reads k node) (sym long);
  }

  pub rest_is : rest ≡ rest_of reads
  rest_is =
      dealt.others
      ∙ same_length (λ node. not (has_number numbers node))
      ∙ filter_within (λ node. not (has_number numbers node)) (λ node. not (levelled reads (length reads) node)) 0 (length reads)
      (λ x l. let below : x < length reads = omega arith in
      ap not (number_tells all.numbered x below ∙ sym (same_later reads h count all.last (length reads) x all.few below)))

pub outcome : (reads : List (List ℕ)) → ReadsNodes reads → (count : ℕ) (numbers : Numbers) → AllNumbered reads count numbers → (result : Result Leveled Memory) → IfOk result (λ it. length it.rounds ≡ count) → IfOk result (λ it. AreDealt numbers (length numbers) it.rounds it.rest) → IfOk result (λ it. AreRounds reads it.rounds) × IfOk result (λ it. it.rest ≡ rest_of reads)
outcome reads h count numbers all (Ok it) l d = (are_rounds reads h count numbers it.rounds it.rest all l d, rest_is reads h count numbers it.rounds it.rest all l d)
outcome reads h count numbers all (Err e) l d = (tt, tt)

-- what each list reads are nodes
pub nodes_at : (lists : List (Vec ℕ Global)) → ReadsNodes (reads_in lists) → (node : ℕ) (list : Vec ℕ Global) → node < length lists → list ≡ get_or lists node list → All (λ read. read < length lists) list.items
nodes_at lists h node list l e =
    let all : All (λ read. read < length (reads_in lists)) list.items = subst (All (λ read. read < length (reads_in lists))) (reads_read lists node list l e) (h node [] (let long = reads_long lists in omega arith)) in
    subst (λ n. All (λ read. read < n) list.items) (reads_long lists) all

pub nodes_all : (lists : List (Vec ℕ Global)) (n : ℕ) → length lists ≤ n → All (λ list. All (λ read. read < length lists) list) (reads_in (take n lists)) → ReadsNodes (reads_in lists)
nodes_all lists n l h =
    let whole : All (λ list. All (λ read. read < length lists) list) (reads_in lists) = subst (λ some. All (λ list. All (λ read. read < length lists) list) (reads_in some)) (take_all n lists l) h in
    subst (λ m. All (λ list. All (λ read. read < m) list) (reads_in lists)) (sym (reads_long lists)) whole
