-- What a change of rows comes to, partition by partition.
use Rattle.std.proofs.Common.{◌≡◌, ◌≢◌, ℕ, ◌==◌, ◌⊎◌, inl, inr, Bool, true, false, not, ◌&&◌, ◌||◌, cond, List, [], ◌∷◌, map, take}
use Rattle.std.proofs.Common.{refl, sym, ap, subst, ◌∙◌}
use Rattle.std.specs.Prelude.{if◌then◌else◌}
use Rattle.std.specs.List.{filter, list_any}
use Rattle.mq_values.specs.Order.{cmp_key}
use Rattle.mq_ir.specs.declared.query.ModelPart.{ModelPart}
use Rattle.mq_ir.specs.Keys.{Tuple, each_first, is_among, is_same}
use Rattle.mq_ir.specs.Partitions.{ascending, cells_of, input_of, partition_keys}
use Rattle.mq_shape.specs.Runs.{cut_row, has_parts, input_from}
use Rattle.mq_change_laws.specs.KeyLaws.{among_kept, any_ascending, same_turned}
use Rattle.mq_delta_parts.specs.Groups.{is_touched}
use Rattle.mq_delta_parts.specs.Woven.{IsChangeOf, Woven, woven_end, woven_some, woven_stay}

-- a partition of which no row went and none came has the input that it had, and is there where it was
abbrev pub OthersStay : ModelPart → List Tuple → List Tuple → List Tuple → List Tuple → Tuple → Type 0
OthersStay part old gone come new key =
    IsChangeOf old gone come new → is_touched part.parts gone come key ≡ false
    → (input_of part new key ≡ input_of part old key)
    × (is_among (partition_keys part.parts new) key ≡ is_among (partition_keys part.parts old) key)

-- a change of all rows changes the rows of a partition by those of it that went and came
abbrev pub PartitionsChange : ℕ → List Tuple → List Tuple → List Tuple → List Tuple → Tuple → Type 0
PartitionsChange parts old gone come new key =
    IsChangeOf old gone come new
    → IsChangeOf (filter (has_parts parts key) old) (filter (has_parts parts key) gone) (filter (has_parts parts key) come)
    (filter (has_parts parts key) new)

-- ---- woven lists
module _ {A : Type 0} where
  -- what a test keeps of a woven list
  pub woven_kept : (p : A → Bool) {stay some all : List A} → Woven stay some all
      → Woven (filter p stay) (filter p some) (filter p all)
  woven_kept p woven_end = woven_end
  woven_kept p (woven_stay {x = x} {stay = stay} {some = some} {all = all} w) = by (p x) (woven_kept p w)
    where
      by : (b : Bool) → Woven (filter p stay) (filter p some) (filter p all)
          → Woven (cond b (x ∷ filter p stay) (filter p stay)) (filter p some) (cond b (x ∷ filter p all) (filter p all))
      by true v = woven_stay v
      by false v = v
  woven_kept p (woven_some {x = x} {stay = stay} {some = some} {all = all} w) = by (p x) (woven_kept p w)
    where
      by : (b : Bool) → Woven (filter p stay) (filter p some) (filter p all)
          → Woven (filter p stay) (cond b (x ∷ filter p some) (filter p some)) (cond b (x ∷ filter p all) (filter p all))
      by true v = woven_some v
      by false v = v

  woven_same : {stay all : List A} → Woven stay [] all → stay ≡ all
  woven_same woven_end = refl
  woven_same (woven_stay {x = x} w) = ap (λ l. x ∷ l) (woven_same w)

  none_kept : (p : A → Bool) (xs : List A) → list_any p xs ≡ false → filter p xs ≡ []
  none_kept p [] h = refl
  none_kept p (x ∷ xs) h = by (p x) (list_any p xs) h (none_kept p xs)
    where
      by : (a b : Bool) → (a || b) ≡ false → (b ≡ false → filter p xs ≡ []) → cond a (x ∷ filter p xs) (filter p xs) ≡ []
      by true b h f = cc
      by false b h f = f h

  abbrev is_some_list : List A → Bool
  is_some_list [] = false
  is_some_list (x ∷ xs) = true

  any_kept : (p : A → Bool) (xs : List A) → list_any p xs ≡ is_some_list (filter p xs)
  any_kept p [] = refl
  any_kept p (x ∷ xs) = by (p x) (any_kept p xs)
    where
      by : (b : Bool) → list_any p xs ≡ is_some_list (filter p xs)
          → (b || list_any p xs) ≡ is_some_list (cond b (x ∷ filter p xs) (filter p xs))
      by true h = refl
      by false h = h

  -- where a test refuses all that went and came, it keeps the same of both lists
  kept_same : (p : A → Bool) (old gone come new : List A) → IsChangeOf old gone come new → list_any p gone ≡ false
      → list_any p come ≡ false → filter p new ≡ filter p old
  kept_same p old gone come new change g c =
      let stays = filter p change.stay in
      let before = woven_same (subst (λ l. Woven stays l (filter p old)) (none_kept p gone g) (woven_kept p change.before)) in
      let after = woven_same (subst (λ l. Woven stays l (filter p new)) (none_kept p come c) (woven_kept p change.after)) in
      sym after ∙ before

-- ---- which keys partitions have
among_first : (q : Tuple) (xs : List Tuple) → is_among (each_first xs) q ≡ is_among xs q
among_first q [] = refl
among_first q (x ∷ xs) =
    ap (λ b. is_same q x || b) (among_kept (λ k. not (is_same x k)) q (each_first xs)) ∙ by (is_same q x) refl (among_first q xs)
  where
    by : (b : Bool) → is_same q x ≡ b → is_among (each_first xs) q ≡ is_among xs q
        → (b || (not (is_same x q) && is_among (each_first xs) q)) ≡ (b || is_among xs q)
    by true e h = refl
    by false e h = ap (λ s. not s && is_among (each_first xs) q) (same_turned x q ∙ e) ∙ h

module _ (parts : ℕ) (key : Tuple) where
  keys_any : (items : List Tuple) → is_among (map (take parts) items) key ≡ list_any (has_parts parts key) items
  keys_any [] = refl
  keys_any (x ∷ xs) = ap (λ b. is_same key (take parts x) || b) (keys_any xs)

  among_keys : (b : Bool) (items : List Tuple)
      → is_among (if b then [] ∷ [] else ascending cmp_key (each_first (map (take parts) items))) key
      ≡ (if b then is_among ([] ∷ []) key else is_some_list (filter (has_parts parts key) items))
  among_keys true items = refl
  among_keys false items =
      any_ascending cmp_key (is_same key) (each_first (map (take parts) items))
      ∙ among_first key (map (take parts) items)
      ∙ keys_any items
      ∙ any_kept (has_parts parts key) items

refused : (a b : Bool) → (a || b) ≡ false → (a ≡ false) × (b ≡ false)
refused true b h = cc
refused false b h = (refl, h)

pub others_stay : (part : ModelPart) (old gone come new : List Tuple) (key : Tuple) → OthersStay part old gone come new key
others_stay part old gone come new key = λ change none.
    let p = has_parts part.parts key in
    let apart = refused (list_any p gone) (list_any p come) none in
    let same = kept_same p old gone come new change apart.0 apart.1 in (
      ap (input_from part key) same,
      among_keys part.parts key (part.parts == 0) new
          ∙ ap (λ (l : List Tuple). if part.parts == 0 then is_among ([] ∷ []) key else is_some_list l) same
          ∙ sym (among_keys part.parts key (part.parts == 0) old),
    )

pub partitions_change : (parts : ℕ) (old gone come new : List Tuple) (key : Tuple) → PartitionsChange parts old gone come new key
partitions_change parts old gone come new key = λ change.
    let p = has_parts parts key in
    record { stay = filter p change.stay; before = woven_kept p change.before; after = woven_kept p change.after }

-- a partition that was there is there after a change too, where it has cells then, or where there are no partition columns
pub partition_stays : (part : ModelPart) (old new : List Tuple) (key : Tuple) → is_among (partition_keys part.parts old) key ≡ true
    → (part.parts ≡ 0) ⊎ ((input_of part new key).cells ≢ []) → is_among (partition_keys part.parts new) key ≡ true
partition_stays part old new key was why = among_keys part.parts key (part.parts == 0) new ∙ by (part.parts == 0) refl why
  where
    rows : List Tuple
    rows = filter (has_parts part.parts key) new

    some : (l : List Tuple) → cells_of (map (cut_row part) l) ≢ [] → is_some_list l ≡ true
    some [] n = absurd (n refl)
    some (x ∷ xs) n = refl

    by : (b : Bool) → (part.parts == 0) ≡ b → (part.parts ≡ 0) ⊎ (cells_of (map (cut_row part) rows) ≢ [])
        → (if b then is_among ([] ∷ []) key else is_some_list rows) ≡ true
    by true e w = ap (λ b. is_among (if b then [] ∷ [] else ascending cmp_key (each_first (map (take part.parts) old))) key) (sym e) ∙ was
    by false e (inl none) = let k : true ≡ false = ap (λ n. n == 0) (sym none) ∙ e in absurd (cc)
    by false e (inr n) = some rows n
