-- The rules of assignments, from the last to the first.
use Rattle.std.proofs.Common.{◌≡◌, ℕ, ◌+◌, ◌<◌, ◌≤◌, Bool, true, false, List, [], Option, Some, drop, length, get_or, refl, sym, ap, ◌∙◌, subst}
use Rattle.std.specs.Prelude.{if◌then◌else◌}
use Rattle.std.specs.List.{find}
use Rattle.std.specs.Option.{option_map}
use Rattle.std.proofs.lemmas.List.{drop_all}
use Rattle.mq_values.specs.ListLaws.{next_item}
use Rattle.mq_ir.specs.declared.query.CellName.{CellName}
use Rattle.mq_ir.specs.Derivations.{is_same_measure}
use Rattle.mq_ir.specs.Shape.{Assignment, assigns}
use Rattle.mq_cells.specs.Stores.{name_assigned}
use Rattle.mq_lineage.specs.Nodes.{Nodes, Numbers, number_in}
use Rattle.mq_lineage.specs.Rules.{HasRulesIn}
use Rattle.mq_lineage.proofs.NodeLemmas.{named_turned}

abbrev first_of : CellName → List Assignment → Option ℕ
first_of c assigned = option_map (λ a. a.2) (find (assigns c.measure c.key) assigned)

pub rules_none : (assigned : List Assignment) (i : ℕ) (nodes : Nodes) → nodes ≡ [] → length assigned ≤ i → HasRulesIn (drop i assigned) nodes
rules_none assigned i nodes e h = subst (λ (n : Nodes). HasRulesIn (drop i assigned) n) (sym e) (λ c. sym (ap (first_of c) (drop_all i assigned h)))

pub rules_more : (assigned : List Assignment) (i : ℕ) (a : Assignment) (before after : Nodes) → i < length assigned → a ≡ get_or assigned i a → HasRulesIn (drop (i + 1) assigned) before
    → Numbers before after (name_assigned a) a.2 → HasRulesIn (drop i assigned) after
rules_more assigned i a before after h e w n = λ c. n c ∙ ap (λ b. if b then Some a.2 else number_in before c) (named_turned (name_assigned a) c) ∙ by c (is_same_measure c (name_assigned a)) (w c) ∙ sym (ap (first_of c) (next_item assigned i a h e))
  where
    by : (c : CellName) (b : Bool) → number_in before c ≡ first_of c (drop (i + 1) assigned)
        → (if b then Some a.2 else number_in before c) ≡ option_map (λ a. a.2) (if b then Some a else find (assigns c.measure c.key) (drop (i + 1) assigned))
    by c true k = refl
    by c false k = k
