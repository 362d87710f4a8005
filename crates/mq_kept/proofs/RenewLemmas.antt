-- Partitions that are given the inputs that they have after a change, group after group.
use Rattle.std.proofs.Common.{◌≡◌, ℕ, zero, suc, ◌+◌, ◌<◌, Bool, true, false, ◌||◌, List, [], ◌∷◌, ◌++◌, map, take, length, get_or, set}
use Rattle.std.proofs.Common.{Less, Option, Some, Result, Ok, Err, IfOk, IfSome, refl, sym, ap, subst, ◌∙◌, arith}
use Rattle.std.specs.Prelude.{if◌then◌else◌}
use Rattle.std.specs.List.{filter}
use Rattle.std.specs.List.Sorted.{IsBinarySearchResult, IsSearchInRange, IsStrictlySortedBy}
use Rattle.std.specs.Ordering.{is_eq}
use Rattle.std.proofs.lemmas.Bool.{or_from, or_left}
use Rattle.std.proofs.lemmas.List.{get_or-map, length-map, map-append, map-set, take_more, take-map}
use Rattle.std.proofs.lemmas.List.Elements.{recursion_from_All}
use Rattle.std.proofs.lemmas.Map.Keys.{Less-from_sorted}
use Rattle.mq_values.specs.declared.memory.Memory.{Memory}
use Rattle.mq_values.specs.Order.{cmp_key}
use Rattle.mq_values.specs.OrderTells.{same_key}
use Rattle.mq_ir.specs.declared.query.ModelPart.{ModelPart}
use Rattle.mq_ir.specs.declared.query.PartInput.{PartInput}
use Rattle.mq_ir.specs.Keys.{Tuple, is_among, is_same}
use Rattle.mq_ir.specs.Partitions.{input_of, partition_keys, partitions}
use Rattle.mq_ir.specs.Ready.{IsReady}
use Rattle.mq_ir.specs.RowLaws.{PartitionsAscend}
use Rattle.mq_shape.specs.Runs.{has_parts}
use Rattle.mq_change_laws.specs.AscentLaws.{Below, one_set}
use Rattle.mq_change_laws.specs.KeyLaws.{any_append, same_itself, same_turned}
use Rattle.mq_change_laws.specs.SoundLaws.{same_is}
use Rattle.mq_delta_items.specs.declared.following.ItemChange.{ItemChange}
use Rattle.mq_delta_parts.specs.declared.groups.PartChange.{PartChange}
use Rattle.mq_delta_parts.specs.Changed.{IsChangeIn}
use Rattle.mq_delta_parts.specs.ChangeLaws.{others_stay, partition_stays, partitions_change}
use Rattle.mq_delta_parts.specs.Groups.{AreGroups, group_of, keys_in}
use Rattle.mq_delta_parts.specs.Woven.{IsChangeOf}
use Rattle.mq_kept.specs.declared.kept_view.KeptPart.{KeptPart}
use Rattle.mq_kept.specs.Kept.{inputs_of}
use Rattle.mq_kept.specs.ReadyLaws.{partition_ready}
use Rattle.mq_kept.specs.Renewed.{HasFollowed, IsAt, IsThere, MayFollow, MayRenew, OneFollowed, OneMayFollow}

-- ---- one partition
-- the place that a binary search finds
pub found_at : (parts : List KeptPart) (key : Tuple) (r : Result ℕ ℕ) (at : ℕ) → r ≡ Ok at → IsSearchInRange r (length parts)
    → IsBinarySearchResult (λ (kept : KeptPart). cmp_key kept.input.key key) parts r → IsAt parts key at
found_at parts key r at is bound told = record {
  within = subst (λ q. IsSearchInRange q (length parts)) is bound;
  key_is =
      λ d. same_key (get_or parts at d).input.key key
      (subst (λ q. IsBinarySearchResult (λ (kept : KeptPart). cmp_key kept.input.key key) parts q) is told d);
}

module _ (part : ModelPart) (group : PartChange) (old : PartInput) where
  -- the input after the change, which was found by the same rows
  module _ (gone come : List Tuple) (gone_is : gone ≡ group.gone) (come_is : come ≡ group.come) (found : Option PartInput) (input : PartInput) (is : found ≡ Some input)
      (told : (before after : List Tuple) → IsChangeIn part old gone come before after → IfSome found (λ input. input ≡ input_of part after old.key)) where
    pub input_told : (before after : List Tuple) → IsChangeIn part old group.gone group.come before after → input ≡ input_of part after old.key
    input_told before after rows =
        subst (λ (o : Option PartInput). IfSome o (λ input. input ≡ input_of part after old.key)) is
        (told before after
        (subst (λ rows. IsChangeIn part old rows come before after) (sym gone_is)
        (subst (λ rows. IsChangeIn part old group.gone rows before after) (sym come_is) rows)))

    -- the rules may run over it
    pub ready_after : MayFollow part group old → IsReady part input
    ready_after may =
        subst (IsReady part) (sym (input_told may.before may.after may.rows))
        (partition_ready part may.after may.lefts (recursion_from_All _ may.after may.wide) old.key)

    pub has_followed : (new : PartInput) (r : Result Bool Memory) → IfOk r (λ renewed. renewed ≡ true → new ≡ input)
        → IfOk r (λ renewed. renewed ≡ true → IsThere part input) → IfOk r (λ renewed. renewed ≡ true → HasFollowed part group old new)
    has_followed new (Ok renewed) same there = λ h. record {
      input_is = λ before after rows. same h ∙ input_told before after rows;
      there = subst (IsThere part) (sym (same h)) (there h);
    }
    has_followed new (Err e) same there = tt

-- ---- keys that ascend
apart : (a b : Tuple) → cmp_key a b ≡ Less → is_same a b ≡ false
apart a b h = ap is_eq h

-- a key is not among those in front of it
not_in_front : (keys : List Tuple) (at : ℕ) (d : Tuple) → IsStrictlySortedBy cmp_key keys → at < length keys → is_among (take at keys) (get_or keys at d) ≡ false
unfolding IsStrictlySortedBy
not_in_front [] at d s l = absurd (omega arith)
not_in_front (x ∷ xs) zero d s l = refl
not_in_front (x ∷ xs) (suc at) d s l =
    let y : Tuple = get_or xs at d in
    or_from (is_same y x) (is_among (take at xs) y)
    (same_turned y x ∙ apart x y (Less-from_sorted cmp_key (x ∷ xs) 0 (suc at) d s (omega arith) l))
    (not_in_front xs at d s.1 (omega arith))

among_at : (keys : List Tuple) (at : ℕ) (d : Tuple) → at < length keys → is_among keys (get_or keys at d) ≡ true
among_at [] at d l = absurd (omega arith)
among_at (x ∷ xs) zero d l = or_left (is_same x x) (is_among xs x) (same_itself x)
among_at (x ∷ xs) (suc at) d l = later (is_same (get_or xs at d) x) (is_among xs (get_or xs at d)) (among_at xs at d (omega arith))
  where
    later : (a b : Bool) → b ≡ true → (a || b) ≡ true
    later true b h = refl
    later false b h = h

-- two functions of keys that differ at one key alone
module _ {A : Type 0} (f g : Tuple → A) (key : Tuple) (same : (q : Tuple) → is_same q key ≡ false → f q ≡ g q) where
  same_above : (xs : List Tuple) → Below key xs → map f xs ≡ map g xs
  same_above [] b = refl
  same_above (x ∷ xs) b = λ i. same x (same_turned x key ∙ apart key x b.0) i ∷ same_above xs b.1 i

  set_one : (keys : List Tuple) (at : ℕ) (d : Tuple) → IsStrictlySortedBy cmp_key keys → at < length keys → get_or keys at d ≡ key
      → set (map f keys) at (g key) ≡ map g keys
  unfolding IsStrictlySortedBy
  set_one [] at d s l is = absurd (omega arith)
  set_one (x ∷ xs) zero d s l is = λ i. g (sym is i) ∷ same_above xs (subst (λ q. Below q xs) is s.0) i
  set_one (x ∷ xs) (suc at) d s l is =
      let less : cmp_key x key ≡ Less = ap (cmp_key x) (sym is) ∙ Less-from_sorted cmp_key (x ∷ xs) 0 (suc at) d s (omega arith) l in
      λ i. same x (apart x key less) i ∷ set_one xs at d s.1 (omega arith) is i

-- ---- groups
-- those of the same rows
pub same_groups : (parts : ℕ) (gone come went came : List Tuple) (groups touched : List PartChange) → went ≡ gone → came ≡ come → groups ≡ touched
    → AreGroups parts went came touched → AreGroups parts gone come groups
same_groups parts gone come went came groups touched e f g are =
    subst (AreGroups parts gone come) (sym g)
    (subst (λ rows. AreGroups parts gone rows touched) f (subst (λ rows. AreGroups parts rows came touched) e are))

-- each has the rows of its key
group_own : (f : Tuple → PartChange) (groups : List PartChange) → groups ≡ map f (keys_in groups) → (at : ℕ) (group : PartChange) → at < length groups → group ≡ get_or groups at group
    → group ≡ f group.key
group_own f groups rows at group l is =
    is
    ∙ ap (λ (l : List PartChange). get_or l at group) rows
    ∙ get_or-map f (keys_in groups) at group.key group (omega (arith, l, length-map groups (λ (g : PartChange). g.key)))
    ∙ ap f (get_or-map (λ (g : PartChange). g.key) groups at group group.key l ∙ ap (λ (g : PartChange). g.key) (sym is))

-- ---- the inputs over rows before and after a change
module _ (part : ModelPart) (before after : List Tuple) where
  -- the input of a partition, where those of these keys have the inputs after the change
  abbrev pub input_by : List Tuple → Tuple → PartInput
  input_by done key = if is_among done key then input_of part after key else input_of part before key

  key_by : (done : List Tuple) (key : Tuple) → (input_by done key).key ≡ key
  key_by done key = by (is_among done key)
    where
      by : (b : Bool) → (if b then input_of part after key else input_of part before key).key ≡ key
      by true = refl
      by false = refl

  by_before : (done : List Tuple) (key : Tuple) → is_among done key ≡ false → input_by done key ≡ input_of part before key
  by_before done key h = ap (λ b. if b then input_of part after key else input_of part before key) h

  by_after : (done : List Tuple) (key : Tuple) → is_among done key ≡ true → input_by done key ≡ input_of part after key
  by_after done key h = ap (λ b. if b then input_of part after key else input_of part before key) h

  -- these are the inputs where the partitions of some groups are done, and are there still
  pub record Made (done : List Tuple) (inputs : List PartInput) : Type 0 where
    pub inputs_are : inputs ≡ map (input_by done) (partition_keys part.parts before)
    pub there : (q : Tuple) → is_among done q ≡ true → is_among (partition_keys part.parts after) q ≡ is_among (partition_keys part.parts before) q

  module _ (law : (parts : ℕ) (items : List Tuple) → PartitionsAscend parts items) (gone come : List Tuple) (groups : List PartChange) (are : AreGroups part.parts gone come groups) (change : IsChangeOf before gone come after) where
    abbrev keys : List Tuple
    keys = partition_keys part.parts before

    -- ---- where all groups are done
    other_stays : (q : Tuple) → is_among (keys_in groups) q ≡ false
        → (input_of part after q ≡ input_of part before q) × (is_among (partition_keys part.parts after) q ≡ is_among keys q)
    other_stays q h = others_stay part before gone come after q change (sym (are.touched q) ∙ h)

    all_after : (q : Tuple) → input_by (keys_in groups) q ≡ input_of part after q
    all_after q = by (is_among (keys_in groups) q) refl
      where
        by : (b : Bool) → is_among (keys_in groups) q ≡ b → input_by (keys_in groups) q ≡ input_of part after q
        by true h = by_after (keys_in groups) q h
        by false h = by_before (keys_in groups) q h ∙ sym (other_stays q h).0

    pub made_end : (inputs : List PartInput) → Made (keys_in groups) inputs → inputs ≡ partitions part after
    made_end inputs made =
        made.inputs_are
        ∙ (λ i. map (λ q. all_after q i) keys)
        ∙ ap (map (input_of part after)) (one_set keys (partition_keys part.parts after) (law part.parts before) (law part.parts after) (λ q. sym (among q)))
      where
        among : (q : Tuple) → is_among (partition_keys part.parts after) q ≡ is_among keys q
        among q = by (is_among (keys_in groups) q) refl
          where
            by : (b : Bool) → is_among (keys_in groups) q ≡ b → is_among (partition_keys part.parts after) q ≡ is_among keys q
            by true h = made.there q h
            by false h = (other_stays q h).1

    -- ---- one group more
    module _ (at : ℕ) (group : PartChange) (within : at < length groups) (is : group ≡ get_or groups at group) where
      abbrev done : List Tuple
      done = keys_in (take at groups)

      own : group ≡ group_of part.parts gone come group.key
      own = group_own (group_of part.parts gone come) groups are.rows at group within is

      key_is : get_or (keys_in groups) at group.key ≡ group.key
      key_is = get_or-map (λ (g : PartChange). g.key) groups at group group.key within ∙ ap (λ (g : PartChange). g.key) (sym is)

      not_yet : is_among done group.key ≡ false
      not_yet =
          (λ i. is_among (sym (take-map (λ (g : PartChange). g.key) at groups) i) (sym key_is i))
          ∙ not_in_front (keys_in groups) at group.key are.ascend (omega (arith, within, length-map groups (λ (g : PartChange). g.key)))

      -- the input of its partition is that of before, and its rows changed by those of the group
      rows_in : (input : PartInput) (q : Tuple) → input ≡ input_by done q → input.key ≡ group.key → IsChangeIn part input group.gone group.come before after
      rows_in input q e h = record { input_is = old; rows = rows }
        where
          same : q ≡ group.key
          same = sym (key_by done q) ∙ ap (λ (p : PartInput). p.key) (sym e) ∙ h

          old : input ≡ input_of part before input.key
          old = e ∙ ap (input_by done) same ∙ by_before done group.key not_yet ∙ ap (input_of part before) (sym h)

          rows : IsChangeOf (filter (has_parts part.parts input.key) before) group.gone group.come (filter (has_parts part.parts input.key) after)
          rows =
              subst (λ k. IsChangeOf (filter (has_parts part.parts k) before) group.gone group.come (filter (has_parts part.parts k) after)) (sym h)
              (subst (λ (g : PartChange). IsChangeOf (filter (has_parts part.parts group.key) before) g.gone g.come (filter (has_parts part.parts group.key) after)) (sym own)
              (partitions_change part.parts before gone come after group.key change))

      module _ (parts : List KeptPart) (made : Made done (inputs_of parts)) where
        place_in : (n : ℕ) → n < length parts → n < length keys
        place_in n l =
            omega (arith, l, length-map parts (λ (p : KeptPart). p.input), length-map keys (input_by done), ap length made.inputs_are)

        input_at : (n : ℕ) (d : KeptPart) (k : Tuple) → n < length parts → (get_or parts n d).input ≡ input_by done (get_or keys n k)
        input_at n d k l =
            sym (get_or-map (λ (p : KeptPart). p.input) parts n d d.input l)
            ∙ ap (λ (inputs : List PartInput). get_or inputs n d.input) made.inputs_are
            ∙ get_or-map (input_by done) keys n k d.input (place_in n l)

        rows_at : (n : ℕ) (d : KeptPart) → n < length parts → (get_or parts n d).input.key ≡ group.key
            → IsChangeIn part (get_or parts n d).input group.gone group.come before after
        rows_at n d l h = rows_in (get_or parts n d).input (get_or keys n group.key) (input_at n d group.key l) h

        module _ (new : List KeptPart) (one : OneFollowed part group parts new) where
          abbrev more : List Tuple
          more = done ++ group.key ∷ []

          among_more : (q : Tuple) → is_among more q ≡ (is_among done q || is_same q group.key)
          among_more q = any_append (is_same q) done (group.key ∷ []) ∙ ap (λ b. is_among done q || b) (or_none (is_same q group.key))
            where
              or_none : (b : Bool) → (b || false) ≡ b
              or_none true = refl
              or_none false = refl

          other : (q : Tuple) → is_same q group.key ≡ false → input_by done q ≡ input_by more q
          other q h =
              ap (λ b. if b then input_of part after q else input_of part before q)
              (sym (among_more q ∙ ap (λ b. is_among done q || b) h ∙ or_none (is_among done q)))
            where
              or_none : (b : Bool) → (b || false) ≡ b
              or_none true = refl
              or_none false = refl

          own_among : is_among more group.key ≡ true
          own_among = among_more group.key ∙ ap (λ b. is_among done group.key || b) (same_itself group.key) ∙ or_true (is_among done group.key)
            where
              or_true : (b : Bool) → (b || true) ≡ true
              or_true true = refl
              or_true false = refl

          new_input : one.one.input ≡ input_of part after group.key
          new_input =
              one.followed.input_is before after (rows_at one.at one.one one.within one.key_is)
              ∙ ap (input_of part after) one.key_is

          place_key : get_or keys one.at group.key ≡ group.key
          place_key =
              sym (key_by done (get_or keys one.at group.key))
              ∙ ap (λ (p : PartInput). p.key) (sym (input_at one.at one.one group.key one.within))
              ∙ one.key_is

          inputs_are : inputs_of new ≡ map (input_by more) keys
          inputs_are =
              ap inputs_of one.new_is
              ∙ map-set (λ (p : KeptPart). p.input) parts one.at one.one
              ∙ (λ i. set (made.inputs_are i) one.at ((new_input ∙ sym (by_after more group.key own_among)) i))
              ∙ set_one (input_by done) (input_by more) group.key other keys one.at group.key (law part.parts before) (place_in one.at one.within) place_key

          was_there : is_among keys group.key ≡ true
          was_there = ap (is_among keys) (sym place_key) ∙ among_at keys one.at group.key (place_in one.at one.within)

          is_there : is_among (partition_keys part.parts after) group.key ≡ true
          is_there = partition_stays part before after group.key was_there (subst (IsThere part) new_input one.followed.there)

          there : (q : Tuple) → is_among more q ≡ true → is_among (partition_keys part.parts after) q ≡ is_among keys q
          there q h = by (is_among done q) refl (is_same q group.key) refl (sym (among_more q) ∙ h)
            where
              by : (a : Bool) → is_among done q ≡ a → (b : Bool) → is_same q group.key ≡ b → (is_among done q || is_same q group.key) ≡ true
                  → is_among (partition_keys part.parts after) q ≡ is_among keys q
              by true e b f g = made.there q e
              by false e true f g =
                  let same : q ≡ group.key = same_is q group.key f in
                  ap (is_among (partition_keys part.parts after)) same ∙ is_there ∙ sym was_there ∙ ap (is_among keys) (sym same)
              by false e false f g = let no : false ≡ true = sym (λ i. e i || f i) ∙ g in absurd (cc)

          pub made_next : Made (keys_in (take (at + 1) groups)) (inputs_of new)
          made_next = subst (λ keys. Made keys (inputs_of new)) (sym keys_more) (record { inputs_are = inputs_are; there = there })
            where
              keys_more : keys_in (take (at + 1) groups) ≡ more
              keys_more =
                  ap keys_in (take_more groups at group within)
                  ∙ map-append (λ (g : PartChange). g.key) (take at groups) (get_or groups at group ∷ [])
                  ∙ ap (λ (g : PartChange). keys_in (take at groups) ++ g.key ∷ []) (sym is)

-- ---- the partitions of a view, where so many groups are done
pub record Renewing (part : ModelPart) (change : ItemChange) (groups : List PartChange) (old now : List KeptPart) : Type 0 where
  pub made : (before after : List Tuple) → inputs_of old ≡ partitions part before → IsChangeOf before change.gone change.come after
      → Made part before after (keys_in groups) (inputs_of now)

module _ (part : ModelPart) (change : ItemChange) (old : List KeptPart) where
  module _ (law : (parts : ℕ) (items : List Tuple) → PartitionsAscend parts items) (groups : List PartChange) (are : AreGroups part.parts change.gone change.come groups) where
    module _ (at : ℕ) (group : PartChange) (within : at < length groups) (is : group ≡ get_or groups at group) (now : List KeptPart) (w : Renewing part change (take at groups) old now) where
      pub one_may_follow : MayRenew part change (inputs_of old) → OneMayFollow part group now
      one_may_follow may n d l = λ h.
          record {
            before = may.before;
            after = may.after;
            rows = rows_at part may.before may.after law change.gone change.come groups are may.change_is at group within is now (w.made may.before may.after may.inputs_are may.change_is) n d l h;
            lefts = may.lefts;
            wide = may.wide;
          }

      pub renewing_next : (new : List KeptPart) → OneFollowed part group now new → Renewing part change (take (at + 1) groups) old new
      renewing_next new one = record {
        made = λ before after e changes. made_next part before after law change.gone change.come groups are changes at group within is now (w.made before after e changes) new one;
      }

    pub renewing_end : (now : List KeptPart) → Renewing part change groups old now → (before after : List Tuple) → inputs_of old ≡ partitions part before
        → IsChangeOf before change.gone change.come after → inputs_of now ≡ partitions part after
    renewing_end now w before after e changes =
        made_end part before after law change.gone change.come groups are changes (inputs_of now) (w.made before after e changes)
