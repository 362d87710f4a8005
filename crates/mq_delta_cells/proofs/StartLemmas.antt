-- What is gathered before a walk, item by item.
use Rattle.std.proofs.Common.{◌≡◌, ℕ, ◌+◌, ◌<◌, ◌≤◌, Bool, true, false, ◌&&◌, ◌||◌, not, cond, List, [], ◌∷◌, drop, length, get_or, Option, Some, None, refl, sym, ap, ◌∙◌, eqb}
use Rattle.std.specs.Prelude.{if◌then◌else◌}
use Rattle.std.specs.BTreeMap.{is_at}
use Rattle.std.specs.BTreeSet.{insert_key}
use Rattle.std.specs.List.{find, list_any, position_from}
use Rattle.std.specs.List.Sorted.{IsStrictlySortedBy}
use Rattle.std.specs.Option.{option_map}
use Rattle.std.proofs.lemmas.Bool.{eqb-true}
use Rattle.std.proofs.lemmas.Iterator.Adapters.{position_from-zero}
use Rattle.std.proofs.lemmas.List.{drop_all}
use Rattle.mq_values.specs.KeySetLaws.{among_with}
use Rattle.mq_values.specs.KeySets.{HasKeysOf}
use Rattle.mq_values.specs.ListLaws.{next_item}
use Rattle.mq_values.specs.Order.{cmp_key}
use Rattle.mq_ir.specs.declared.query.CellName.{CellName}
use Rattle.mq_ir.specs.Affected.{is_in_one}
use Rattle.mq_ir.specs.Keys.{Tuple, is_among, is_same}
use Rattle.mq_ir.specs.Shape.{Assignment, assigns}
use Rattle.mq_dim_index.specs.Places.{place_of, with_key}
use Rattle.mq_cells.specs.Stores.{Results, cell_name, is_named, name_assigned}
use Rattle.mq_change_laws.specs.SoundLaws.{same_is}
use Rattle.mq_delta_cells.specs.Marks.{Marks, MarksBy, is_marked, no_marks}
use Rattle.mq_delta_cells.specs.Tables.{NumbersBy, Table, no_numbers, number_by}
use Rattle.mq_delta_cells.specs.Seeds.{is_gone, is_gone_at, is_missing, is_missing_at, is_moved}
use Rattle.mq_delta_cells.proofs.NodeLemmas.{named_turned}
use Rattle.mq_delta_cells.proofs.MarkLemmas.{none_marked}
use Rattle.mq_delta_cells.proofs.TableLemmas.{none_by}

swapped : (a b c : Bool) → ((a || b) || c) ≡ (b || (a || c))
swapped true true c = refl
swapped true false c = refl
swapped false b c = refl

or_false : (a : Bool) → (a || false) ≡ a
or_false true = refl
or_false false = refl

-- ---- names
pub names_start : (keys : List Tuple) (names : Marks) (moved : List CellName) → names ≡ no_marks → (c : CellName)
    → (is_marked keys names c || is_moved (drop 0 moved) c) ≡ is_moved moved c
names_start keys names moved e c =
    ap (λ (n : Marks). is_marked keys n c || is_moved moved c) e ∙ ap (λ b. b || is_moved moved c) (none_marked keys c)

pub names_next : (keys : List Tuple) (moved : List CellName) (i : ℕ) (name : CellName) (before after : Marks) → i < length moved → name ≡ get_or moved i name
    → MarksBy keys before after (cell_name name.key name.measure)
    → ((c : CellName) → (is_marked keys before c || is_moved (drop i moved) c) ≡ is_moved moved c)
    → (c : CellName) → (is_marked keys after c || is_moved (drop (i + 1) moved) c) ≡ is_moved moved c
names_next keys moved i name before after l at put h c =
    ap (λ b. b || is_moved (drop (i + 1) moved) c) (put c ∙ ap (λ b. b || is_marked keys before c) (named_turned name c))
    ∙ swapped (is_named c name) (is_marked keys before c) (is_moved (drop (i + 1) moved) c)
    ∙ ap (λ (l : List CellName). is_marked keys before c || is_moved l c) (sym (next_item moved i name l at))
    ∙ h c

pub names_end : (keys : List Tuple) (moved : List CellName) (i : ℕ) (names : Marks) → length moved ≤ i
    → ((c : CellName) → (is_marked keys names c || is_moved (drop i moved) c) ≡ is_moved moved c)
    → (c : CellName) → is_marked keys names c ≡ is_moved moved c
names_end keys moved i names l h c =
    sym (or_false (is_marked keys names c)) ∙ ap (λ (m : List CellName). is_marked keys names c || is_moved m c) (sym (drop_all i moved l)) ∙ h c

-- ---- rules
pub rules_start : (keys : List Tuple) (assigned : List Assignment) (at : ℕ) (rules : Table) → rules ≡ no_numbers → length assigned ≤ at → (c : CellName)
    → number_by keys rules c ≡ option_map (λ a. a.2) (find (assigns c.measure c.key) (drop at assigned))
rules_start keys assigned at rules e l c =
    ap (λ (t : Table). number_by keys t c) e ∙ none_by keys c
    ∙ ap (λ (l : List Assignment). option_map (λ (a : Assignment). a.2) (find (assigns c.measure c.key) l)) (sym (drop_all at assigned l))

pub rules_next : (keys : List Tuple) (assigned : List Assignment) (i : ℕ) (a : Assignment) (before after : Table) → i < length assigned → a ≡ get_or assigned i a
    → NumbersBy keys before after (name_assigned a) a.2
    → ((c : CellName) → number_by keys before c ≡ option_map (λ a. a.2) (find (assigns c.measure c.key) (drop (i + 1) assigned)))
    → (c : CellName) → number_by keys after c ≡ option_map (λ a. a.2) (find (assigns c.measure c.key) (drop i assigned))
rules_next keys assigned i a before after l at put h c =
    put c
    ∙ ap (λ b. if b then Some a.2 else number_by keys before c) (named_turned (name_assigned a) c)
    ∙ ap (λ o. if is_named c (name_assigned a) then Some a.2 else o) (h c)
    ∙ by (is_named c (name_assigned a))
    ∙ ap (λ (l : List Assignment). option_map (λ (a : Assignment). a.2) (find (assigns c.measure c.key) l)) (sym (next_item assigned i a l at))
  where
    rest : Option Assignment
    rest = find (assigns c.measure c.key) (drop (i + 1) assigned)

    by : (b : Bool) → (if b then Some a.2 else option_map (λ (a : Assignment). a.2) rest) ≡ option_map (λ (a : Assignment). a.2) (cond b (Some a) rest)
    by true = refl
    by false = refl

-- ---- keys that others do not have
misses : {X : Type 0} (test : X → Bool) (i : ℕ) (xs : List X) → position_from test i xs ≡ None → list_any test xs ≡ false
misses test i [] h = refl
misses test i (x ∷ xs) h = by (test x) h (λ g. misses test (i + 1) xs g)
  where
    by : (b : Bool) → cond b (Some i) (position_from test (i + 1) xs) ≡ None → (position_from test (i + 1) xs ≡ None → list_any test xs ≡ false) → (b || list_any test xs) ≡ false
    by true g rest = absurd (cc)
    by false g rest = rest g

hits : {X : Type 0} (test : X → Bool) (i at : ℕ) (xs : List X) → position_from test i xs ≡ Some at → list_any test xs ≡ true
hits test i at [] h = cc
hits test i at (x ∷ xs) h = by (test x) h (λ g. hits test (i + 1) at xs g)
  where
    by : (b : Bool) → cond b (Some i) (position_from test (i + 1) xs) ≡ Some at → (position_from test (i + 1) xs ≡ Some at → list_any test xs ≡ true) → (b || list_any test xs) ≡ true
    by true g rest = refl
    by false g rest = rest g

pub placed_among : (keys : List Tuple) (key : Tuple) (at : ℕ) → place_of keys key ≡ Some at → is_among keys key ≡ true
placed_among keys key at h = hits (is_at (cmp_key key)) 0 at keys (sym (position_from-zero (is_at (cmp_key key)) keys) ∙ h)

pub unplaced_among : (keys : List Tuple) (key : Tuple) → place_of keys key ≡ None → is_among keys key ≡ false
unplaced_among keys key h = misses (is_at (cmp_key key)) 0 keys (sym (position_from-zero (is_at (cmp_key key)) keys) ∙ h)

and_not : (s : Bool) → (s && not true) ≡ false
and_not true = refl
and_not false = refl

pub missing_kept : (q k : Tuple) (odd others : List Tuple) → is_among others k ≡ true → is_among odd q ≡ (is_among odd q || is_missing_at others q k)
missing_kept q k odd others h = sym (ap (λ b. is_among odd q || b) (by (is_same q k) refl) ∙ or_false (is_among odd q))
  where
    by : (s : Bool) → is_same q k ≡ s → is_missing_at others q k ≡ false
    by true e = ap (λ b. is_same q k && not b) (ap (is_among others) (same_is q k e) ∙ h) ∙ and_not (is_same q k)
    by false e = ap (λ b. b && not (is_among others q)) e

pub missing_put : (q k key : Tuple) (odd after others : List Tuple) → is_among others k ≡ false → key ≡ k → after ≡ insert_key cmp_key odd key
    → is_among after q ≡ (is_among odd q || is_missing_at others q k)
missing_put q k key odd after others h e a =
    ap (λ (l : List Tuple). is_among l q) a ∙ ap (λ (key : Tuple). is_among (insert_key cmp_key odd key) q) e ∙ among_with q k odd ∙ by (is_same q k) refl
  where
    turned : (b : Bool) → true ≡ (b || true)
    turned true = refl
    turned false = refl

    by : (s : Bool) → is_same q k ≡ s → (is_same q k || is_among odd q) ≡ (is_among odd q || is_missing_at others q k)
    by true e =
        let none : is_among others q ≡ false = ap (is_among others) (same_is q k e) ∙ h in
        ap (λ b. b || is_among odd q) e ∙ turned (is_among odd q) ∙ (λ i. is_among odd q || (sym e i && not (sym none i)))
    by false e =
        ap (λ b. b || is_among odd q) e ∙ sym (or_false (is_among odd q)) ∙ ap (λ b. is_among odd q || (b && not (is_among others q))) (sym e)

grouped : (a b c : Bool) → ((a || b) || c) ≡ (a || (b || c))
grouped true b c = refl
grouped false b c = refl

pub missing_next : (keys others first before after : List Tuple) (i : ℕ) (key : Tuple) → i < length keys → key ≡ get_or keys i key
    → ((q : Tuple) → is_among after q ≡ (is_among before q || is_missing_at others q key))
    → ((q : Tuple) → (is_among before q || is_missing (drop i keys) others q) ≡ (is_among first q || is_missing keys others q))
    → (q : Tuple) → (is_among after q || is_missing (drop (i + 1) keys) others q) ≡ (is_among first q || is_missing keys others q)
missing_next keys others first before after i key l at put h q =
    ap (λ b. b || is_missing (drop (i + 1) keys) others q) (put q)
    ∙ grouped (is_among before q) (is_missing_at others q key) (is_missing (drop (i + 1) keys) others q)
    ∙ ap (λ (l : List Tuple). is_among before q || is_missing l others q) (sym (next_item keys i key l at))
    ∙ h q

pub missing_end : (keys others first odd : List Tuple) (i : ℕ) → length keys ≤ i
    → ((q : Tuple) → (is_among odd q || is_missing (drop i keys) others q) ≡ (is_among first q || is_missing keys others q))
    → (q : Tuple) → is_among odd q ≡ (is_among first q || is_missing keys others q)
missing_end keys others first odd i l h q =
    sym (or_false (is_among odd q)) ∙ ap (λ (m : List Tuple). is_among odd q || is_missing m others q) (sym (drop_all i keys l)) ∙ h q

missing_is : (keys others : List Tuple) (q : Tuple) → is_missing keys others q ≡ (is_among keys q && not (is_among others q))
missing_is keys others q = any_and (not (is_among others q)) keys
  where
    parted : (a b k : Bool) → ((a && k) || (b && k)) ≡ ((a || b) && k)
    parted true true true = refl
    parted true true false = refl
    parted true false true = refl
    parted true false false = refl
    parted false b k = refl

    any_and : (k : Bool) (xs : List Tuple) → list_any (λ x. is_same q x && k) xs ≡ (is_among xs q && k)
    any_and k [] = refl
    any_and k (x ∷ xs) = ap (λ b. (is_same q x && k) || b) (any_and k xs) ∙ parted (is_same q x) (is_among xs q) k

-- a set of what each of two lists has alone
pub odd_is : (a b of_a none one both : List Tuple) → HasKeysOf a of_a → none ≡ []
    → ((q : Tuple) → is_among one q ≡ (is_among none q || is_missing a b q)) → ((q : Tuple) → is_among both q ≡ (is_among one q || is_missing b of_a q))
    → (q : Tuple) → is_among both q ≡ is_in_one a b q
odd_is a b of_a none one both ha e f g q =
    g q
    ∙ ap (λ s. s || is_missing b of_a q) (f q ∙ ap (λ (n : List Tuple). is_among n q || is_missing a b q) e)
    ∙ (λ i. missing_is a b q i || missing_is b of_a q i)
    ∙ (λ i. (is_among a q && not (is_among b q)) || (is_among b q && not (ha q i)))

-- an index of keys in any order has the keys so far
pub keys_next : (keys : List Tuple) (i : ℕ) (key copy : Tuple) (before after : List Tuple) → i < length keys → key ≡ get_or keys i key → copy ≡ key
    → after ≡ with_key before copy → ((q : Tuple) → (is_among before q || is_among (drop i keys) q) ≡ is_among keys q)
    → (q : Tuple) → (is_among after q || is_among (drop (i + 1) keys) q) ≡ is_among keys q
keys_next keys i key copy before after l at e put h q =
    ap (λ b. b || is_among (drop (i + 1) keys) q)
    (ap (λ (xs : List Tuple). is_among xs q) (put ∙ ap (with_key before) e) ∙ among_with q key before)
    ∙ swapped (is_same q key) (is_among before q) (is_among (drop (i + 1) keys) q)
    ∙ ap (λ (xs : List Tuple). is_among before q || is_among xs q) (sym (next_item keys i key l at))
    ∙ h q

pub none_ascend : IsStrictlySortedBy cmp_key []
unfolding IsStrictlySortedBy
none_ascend = tt

pub keys_end : (keys : List Tuple) (i : ℕ) (index : List Tuple) → length keys ≤ i → ((q : Tuple) → (is_among index q || is_among (drop i keys) q) ≡ is_among keys q)
    → (q : Tuple) → is_among index q ≡ is_among keys q
keys_end keys i index l h q =
    sym (or_false (is_among index q)) ∙ ap (λ (xs : List Tuple). is_among index q || is_among xs q) (sym (drop_all i keys l)) ∙ h q

-- ---- what is gone
pub gone_next : (assigned : List Assignment) (keys : List Tuple) (rules : Table) (first before after : Results) (i : ℕ) (a : Assignment) → i < length assigned → a ≡ get_or assigned i a
    → ((c : CellName) → after c ≡ (if is_gone_at keys rules c a then None else before c))
    → ((c : CellName) → (if is_gone (drop i assigned) keys rules c then None else before c) ≡ (if is_gone assigned keys rules c then None else first c))
    → (c : CellName) → (if is_gone (drop (i + 1) assigned) keys rules c then None else after c) ≡ (if is_gone assigned keys rules c then None else first c)
gone_next assigned keys rules first before after i a l at cleared h c =
    ap (λ o. if is_gone (drop (i + 1) assigned) keys rules c then None else o) (cleared c)
    ∙ by (is_gone (drop (i + 1) assigned) keys rules c) (is_gone_at keys rules c a)
    ∙ ap (λ (l : List Assignment). if is_gone l keys rules c then None else before c) (sym (next_item assigned i a l at))
    ∙ h c
  where
    by : (r g : Bool) → (if r then None else (if g then None else before c)) ≡ (if g || r then None else before c)
    by true true = refl
    by true false = refl
    by false true = refl
    by false false = refl

pub gone_end : (assigned : List Assignment) (keys : List Tuple) (rules : Table) (first now : Results) (i : ℕ) → length assigned ≤ i
    → ((c : CellName) → (if is_gone (drop i assigned) keys rules c then None else now c) ≡ (if is_gone assigned keys rules c then None else first c))
    → (c : CellName) → now c ≡ (if is_gone assigned keys rules c then None else first c)
gone_end assigned keys rules first now i l h c = ap (λ (m : List Assignment). if is_gone m keys rules c then None else now c) (sym (drop_all i assigned l)) ∙ h c

-- ---- assignments
pub assignment_same : (a b : Assignment) → a.0 ≡ b.0 → a.1 ≡ b.1 → eqb a.2 b.2 ≡ true → a ≡ b
assignment_same a b k m n = λ i. (k i, m i, eqb-true a.2 b.2 n i)
