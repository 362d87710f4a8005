-- Rows of which some are gone: those that are left come together at the front.
use Rattle.std.proofs.Common.{◌≡◌, ℕ, zero, suc, ◌+◌, ◌-◌, ◌<◌, ◌≤◌, append_assoc, replicate, subst, List, [], ◌∷◌, ◌++◌, Bool, true, false, length, map, take, drop, get_or, set, Result, Ok, Err, refl, sym, ap, ◌∙◌, arith, length-append, ◌⊎◌, inl, inr}
use Rattle.std.specs.Prelude.{if◌then◌else◌}
use Rattle.std.specs.List.{SwappedAt, enumerate_from}
use Rattle.std.proofs.lemmas.Bool.{cases_lt}
use Rattle.std.proofs.lemmas.List.{append-nil, drop-drop, drop-set-lt, get_or-drop, get_or_default, length-replicate, length-set, length-take-le, map_push, set-set, take_all, take-set-le, take_more, take_more_set}
use Rattle.mq_values.specs.declared.faults.Refused.{Refused}
use Rattle.mq_ir.specs.declared.statement.Schema.{Schema}
use Rattle.mq_ir.specs.Changes.{Visited, row_key, visited_as}
use Rattle.mq_ir.specs.Keys.{Tuple}
use Rattle.mq_ir.specs.Results.{◌>>=◌, each}
use Rattle.mq_tables.specs.InPlace.{items_left}
use Rattle.mq_tables.specs.Visits.{flags_of, gone, taken}
use Rattle.mq_tables.proofs.VisitLemmas.{chosen_push, chosen_same, none_taken, taken_push}
use Rattle.mq_tables.proofs.Walks.{Numbered, number_start, number_next, number_end, number_fault}

left_push : {A : Type 0} (rows : List A) (gone : List Bool) (row : A) (g : Bool) → length gone ≡ length rows → items_left (rows ++ row ∷ []) (gone ++ g ∷ []) ≡ items_left rows gone ++ (if g then [] else row ∷ [])
left_push [] [] row true h = refl
left_push [] [] row false h = refl
left_push [] (g ∷ gone) row f h = absurd (cc)
left_push (r ∷ rows) [] row g h = absurd (cc)
left_push (r ∷ rows) (true ∷ gone) row g h = left_push rows gone row g (omega (arith, h))
left_push (r ∷ rows) (false ∷ gone) row g h = ap (λ l. r ∷ l) (left_push rows gone row g (omega (arith, h)))

-- where none is told to be gone, and where one may be
left_none : {A : Type 0} (items : List A) (before behind : ℕ) → length items ≤ before + behind → items_left items (replicate before false ++ replicate behind false) ≡ items
left_none [] before behind h = refl
left_none (x ∷ items) zero zero h = absurd (omega (arith, h))
left_none (x ∷ items) zero (suc behind) h = ap (λ l. x ∷ l) (left_none items zero behind (omega (arith, h)))
left_none (x ∷ items) (suc before) behind h = ap (λ l. x ∷ l) (left_none items before behind (omega (arith, h)))

left_other : {A : Type 0} (items : List A) (before behind : ℕ) → length items ≤ before + (1 + behind) → items_left items (replicate before false ++ false ∷ replicate behind false) ≡ items
left_other [] before behind h = refl
left_other (x ∷ items) zero behind h = ap (λ l. x ∷ l) (left_none items zero behind (omega (arith, h)))
left_other (x ∷ items) (suc before) behind h = ap (λ l. x ∷ l) (left_other items before behind (omega (arith, h)))

left_one : {A : Type 0} (items : List A) (before behind : ℕ) → length items ≤ before + (1 + behind) → items_left items (replicate before false ++ true ∷ replicate behind false) ≡ take before items ++ drop (suc before) items
left_one [] zero behind h = refl
left_one [] (suc before) behind h = refl
left_one (x ∷ items) zero behind h = left_none items zero behind (omega (arith, h))
left_one (x ∷ items) (suc before) behind h = ap (λ l. x ∷ l) (left_one items before behind (omega (arith, h)))

-- what is told of some, with those before and behind that are left
abbrev pub told_within : ℕ → List Bool → ℕ → List Bool
told_within before told behind = replicate before false ++ (told ++ replicate behind false)

told_long : (before : ℕ) (told : List Bool) (behind : ℕ) → length (told_within before told behind) ≡ before + (length told + behind)
told_long before told behind =
    length-append (replicate before false) (told ++ replicate behind false)
    ∙ (let a = length-append told (replicate behind false) in let b = length-replicate before false in let c = length-replicate behind false in omega (arith, a, b, c))

pub none_gone : {A : Type 0} (items : List A) (before : ℕ) (told : List Bool) (behind : ℕ) → length told ≡ 0 → length items ≤ length (told_within before told behind) → items ≡ items_left items (told_within before told behind)
none_gone items before [] behind n h = let l = told_long before [] behind in sym (left_none items before behind (omega (arith, h, l)))
none_gone items before (g ∷ told) behind n h = absurd (omega (arith, n))

pub one_gone : {A : Type 0} (items after : List A) (before : ℕ) (told : List Bool) (behind : ℕ) → length told ≡ 1 → get_or told 0 false ≡ true → length items ≤ length (told_within before told behind)
    → after ≡ take before items ++ drop (before + 1) items → after ≡ items_left items (told_within before told behind)
one_gone items after before [] behind n g h e = absurd (omega (arith, n))
one_gone items after before (true ∷ []) behind n g h e =
    let l = told_long before (true ∷ []) behind in
    e ∙ ap (λ k. take before items ++ drop k items) (let m : before + 1 ≡ suc before = omega arith in m) ∙ sym (left_one items before behind (omega (arith, h, l)))
one_gone items after before (false ∷ []) behind n g h e = absurd (cc)
one_gone items after before (f ∷ (d ∷ told)) behind n g h e = absurd (omega (arith, n))

pub one_left : {A : Type 0} (items : List A) (before : ℕ) (told : List Bool) (behind : ℕ) → length told ≡ 1 → get_or told 0 false ≡ false → length items ≤ length (told_within before told behind)
    → items ≡ items_left items (told_within before told behind)
one_left items before [] behind n g h = absurd (omega (arith, n))
one_left items before (true ∷ []) behind n g h = absurd (cc)
one_left items before (false ∷ []) behind n g h = let l = told_long before (false ∷ []) behind in sym (left_other items before behind (omega (arith, h, l)))
one_left items before (f ∷ (d ∷ told)) behind n g h = absurd (omega (arith, n))

-- the flag of the only one
pub first_flag : (told : List Bool) (d b : Bool) → length told ≡ 1 → d ≡ get_or told 0 d → d ≡ b → get_or told 0 false ≡ b
first_flag [] d b n g e = absurd (omega (arith, n))
first_flag (x ∷ told) d b n g e = sym g ∙ e

-- more may be told than there are
left_long : {A : Type 0} (items : List A) (n : ℕ) (gone : List Bool) → length items ≤ n → items_left items (take n gone) ≡ items_left items gone
left_long [] n gone h = refl
left_long (x ∷ items) zero gone h = absurd (omega (arith, h))
left_long (x ∷ items) (suc n) [] h = refl
left_long (x ∷ items) (suc n) (true ∷ gone) h = left_long items n gone (omega (arith, h))
left_long (x ∷ items) (suc n) (false ∷ gone) h = ap (λ l. x ∷ l) (left_long items n gone (omega (arith, h)))

-- the first `at` rows were looked at, and those of them that are left stand in the first `kept` places; the others are as they were
pub record Leaving {A : Type 0} (rows : List A) (gone : List Bool) (now : List A) (kept at : ℕ) : Type 0 where
  pub front : take kept now ≡ items_left (take at rows) (take at gone)
  pub rest : drop at now ≡ drop at rows
  pub behind : kept ≤ at
  pub long : length now ≡ length rows

some_item : {A : Type 0} (xs : List A) (i : ℕ) → i < length xs → A
some_item [] i h = absurd (omega (arith, h))
some_item (x ∷ xs) i h = x

module _ {A : Type 0} (rows : List A) (gone : List Bool) (told : length rows ≤ length gone) (now : List A) (kept at : ℕ) (l : Leaving rows gone now kept at) (within : at < length rows) where
  here : at < length gone
  here = omega (arith, told, within)

  item : A
  item = some_item rows at within

  more : (row : A) (g : Bool) → row ≡ get_or rows at row → get_or gone at false ≡ g → items_left (take (at + 1) rows) (take (at + 1) gone) ≡ take kept now ++ (if g then [] else row ∷ [])
  more row g r e =
      ap (λ x. items_left x (take (at + 1) gone)) (take_more rows at row within ∙ ap (λ x. take at rows ++ x ∷ []) (sym r))
      ∙ ap (items_left (take at rows ++ row ∷ [])) (take_more gone at false here ∙ ap (λ x. take at gone ++ x ∷ []) e)
      ∙ left_push (take at rows) (take at gone) row g (length-take-le at gone (omega (arith, here)) ∙ sym (length-take-le at rows (omega (arith, within))))
      ∙ ap (λ x. x ++ (if g then [] else row ∷ [])) (sym l.front)

  same_here : (d : A) → get_or now at d ≡ get_or rows at d
  same_here d = at_start now ∙ ap (λ x. get_or x 0 d) l.rest ∙ sym (at_start rows)
    where
      at_start : (xs : List A) → get_or xs at d ≡ get_or (drop at xs) 0 d
      at_start xs = ap (λ n. get_or xs n d) (let e : at ≡ at + 0 = omega arith in e) ∙ sym (get_or-drop at xs 0 d)

  one_less : drop (at + 1) now ≡ drop (at + 1) rows
  one_less = sym (drop-drop 1 at now) ∙ ap (drop 1) l.rest ∙ drop-drop 1 at rows

  pub leaving_gone : get_or gone at false ≡ true → Leaving rows gone now kept (at + 1)
  leaving_gone e = record {
    front = sym (more (get_or rows at item) true (get_or_default rows at item (get_or rows at item) within) e ∙ append-nil (take kept now));
    rest = one_less;
    behind = let b = l.behind in omega (arith, b);
    long = l.long;
  }

  inside : kept < length now
  inside = let b = l.behind in let n = l.long in omega (arith, b, n, within)

  module _ (after : List A) (row other : A) (r : row ≡ get_or rows at row) (o : other ≡ get_or now kept row) (s : after ≡ set (set now kept row) at other) where
    put_there : (kept < at) ⊎ (at ≤ kept) → take (kept + 1) after ≡ take kept now ++ row ∷ []
    put_there (inl h) = ap (take (kept + 1)) s ∙ take-set-le (kept + 1) (set now kept row) at other (omega (arith, h)) ∙ take_more_set now kept row inside
    put_there (inr h) =
        ap (take (kept + 1)) (s ∙ ap (λ n. set (set now kept row) n other) (sym e) ∙ set-set now kept row other ∙ ap (set now kept) same)
        ∙ take_more_set now kept row inside
      where
        e : kept ≡ at
        e = let b = l.behind in omega (arith, b, h)

        same : other ≡ row
        same = o ∙ ap (λ n. get_or now n row) e ∙ same_here row ∙ sym r

    swapped : get_or gone at false ≡ false → Leaving rows gone after (kept + 1) (at + 1)
    swapped e = record {
      front = put_there (cases_lt kept at) ∙ sym (more row false r e);
      rest =
          ap (drop (at + 1)) s
          ∙ drop-set-lt (at + 1) (set now kept row) at other (omega arith)
          ∙ drop-set-lt (at + 1) now kept row (let b = l.behind in omega (arith, b))
          ∙ one_less;
      behind = let b = l.behind in omega (arith, b);
      long = ap length s ∙ length-set (set now kept row) at other ∙ length-set now kept row ∙ l.long;
    }

  pub leaving_kept : (after : List A) → SwappedAt now after kept at → get_or gone at false ≡ false → Leaving rows gone after (kept + 1) (at + 1)
  leaving_kept after s =
      let row = get_or now at item in
      swapped after row (get_or now kept item) (same_here item ∙ get_or_default rows at item row within) (get_or_default now kept item row inside) (s.3 item)

pub leaving_end : {A : Type 0} (rows : List A) (gone : List Bool) (now after : List A) (kept at : ℕ) → length rows ≤ at → after ≡ take kept now → Leaving rows gone now kept at → after ≡ items_left rows gone
leaving_end rows gone now after kept at h e l = e ∙ l.front ∙ ap (λ x. items_left x (take at gone)) (take_all at rows h) ∙ left_long rows at gone h

-- ---- rows that DELETE visits as true
pub told_push : (before : ℕ) (told after : List Bool) (g b : Bool) → after ≡ told ++ g ∷ [] → g ≡ b → replicate before false ++ after ≡ (replicate before false ++ told) ++ b ∷ []
told_push before told after g b a e =
    ap (λ l. replicate before false ++ l) (a ∙ ap (λ x. told ++ x ∷ []) e) ∙ sym (append_assoc (replicate before false) told (b ∷ []))

pub told_end : (before : ℕ) (told after : List Bool) (n m : ℕ) → after ≡ replicate before false ++ (told ++ replicate n false) → n ≡ m → after ≡ (replicate before false ++ told) ++ replicate m false
told_end before told after n m a e =
    a ∙ ap (λ k. replicate before false ++ (told ++ replicate k false)) e ∙ sym (append_assoc (replicate before false) told (replicate m false))

module _ (schema : Schema) (f : ℕ × Tuple → Result Visited Refused) (xs : List Tuple) where
  -- the first i rows were visited, and it is told which of them as true, the keys of these, and these with their places
  pub record Taking (i : ℕ) (flags : List Bool) (keys : List Tuple) (rows : List (ℕ × Tuple)) : Type 0 where
    pub visited : List Visited
    pub walk : Numbered f xs i visited
    pub count : length visited ≡ i
    pub flags_are : flags ≡ flags_of visited
    pub keys_are : keys ≡ map (row_key schema) (visited_as true visited)
    pub rows_are : rows ≡ taken xs visited

  pub taking_start : (flags : List Bool) (keys : List Tuple) (rows : List (ℕ × Tuple)) → flags ≡ [] → keys ≡ [] → rows ≡ [] → Taking 0 flags keys rows
  taking_start flags keys rows a k r = record { visited = []; walk = number_start f xs [] refl; count = refl; flags_are = a; keys_are = k; rows_are = r ∙ sym (none_taken xs) }

  module _ (i : ℕ) (flags after : List Bool) (keys : List Tuple) (rows : List (ℕ × Tuple)) (x : Tuple) (h : i < length xs) (e : x ≡ get_or xs i x) (t : Taking i flags keys rows) where
    next : (b : Bool) (more : List Tuple) (gone : List (ℕ × Tuple)) → f (i + 1, x) ≡ Ok (x, b) → after ≡ flags ++ b ∷ []
        → more ≡ map (row_key schema) (visited_as true (t.visited ++ (x, b) ∷ [])) → gone ≡ rows ++ (if b then (i, x) ∷ [] else []) → Taking (i + 1) after more gone
    next b more gone g a k r =
        let vs = t.visited in
        record {
          visited = vs ++ (x, b) ∷ [];
          walk = number_next f xs i vs (vs ++ (x, b) ∷ []) x (x, b) h e g refl t.walk;
          count = length-append vs ((x, b) ∷ []) ∙ (let c = t.count in omega (arith, c));
          flags_are = a ∙ ap (λ l. l ++ b ∷ []) t.flags_are ∙ sym (map_push (λ (row : Visited). row.1) vs (x, b));
          keys_are = k;
          rows_are = r ∙ ap (λ l. l ++ (if b then (i, x) ∷ [] else [])) t.rows_are ∙ sym (taken_push xs vs (x, b) i x t.count h e);
        }

    pub taking_gone : (more : List Tuple) (key : Tuple) (gone : List (ℕ × Tuple)) → f (i + 1, x) ≡ Ok (x, true) → after ≡ flags ++ true ∷ [] → key ≡ row_key schema x
        → more ≡ keys ++ key ∷ [] → gone ≡ rows ++ (i, x) ∷ [] → Taking (i + 1) after more gone
    taking_gone more key gone g a k m r =
        next true more gone g a
        (m
        ∙ ap (λ (l : List Tuple). l ++ key ∷ []) t.keys_are
        ∙ ap (λ (q : Tuple). map (row_key schema) (visited_as true t.visited) ++ q ∷ []) k
        ∙ sym (ap (map (row_key schema)) (chosen_push t.visited x) ∙ map_push (row_key schema) (visited_as true t.visited) x)) r

    pub taking_left : f (i + 1, x) ≡ Ok (x, false) → after ≡ flags ++ false ∷ [] → Taking (i + 1) after keys rows
    taking_left g a = next false keys rows g a (t.keys_are ∙ sym (ap (map (row_key schema)) (chosen_same t.visited x))) (sym (append-nil rows))

  -- rows that are left, one behind another
  taking_over : (k i : ℕ) (flags : List Bool) (keys : List Tuple) (rows : List (ℕ × Tuple)) → i + k ≤ length xs → ((at : ℕ) (x : Tuple) → at < length xs → x ≡ get_or xs at x → i ≤ at → at < i + k → f (at + 1, x) ≡ Ok (x, false))
      → Taking i flags keys rows → Taking (i + k) (flags ++ replicate k false) keys rows
  taking_over zero i flags keys rows h g t =
      subst (λ n. Taking n (flags ++ []) keys rows) (let e : i ≡ i + 0 = omega arith in e) (subst (λ l. Taking i l keys rows) (sym (append-nil flags)) t)
  taking_over (suc k) i flags keys rows h g t =
      let x = get_or xs i [] in
      let l : i < length xs = omega (arith, h) in
      let e : x ≡ get_or xs i x = get_or_default xs i [] x l in
      subst (λ n. Taking n (flags ++ replicate (suc k) false) keys rows) (let m : (i + 1) + k ≡ i + suc k = omega arith in m)
      (subst (λ l. Taking ((i + 1) + k) l keys rows) (append_assoc flags (false ∷ []) (replicate k false))
      (taking_over k (i + 1) (flags ++ false ∷ []) keys rows (omega (arith, h)) (λ at y a b c d. g at y a b (omega (arith, c)) (omega (arith, d)))
      (taking_left i flags (flags ++ false ∷ []) keys rows x l e t (g i x l e (omega arith) (omega arith)) refl)))

  pub taking_front : (n : ℕ) (flags : List Bool) (keys : List Tuple) (rows : List (ℕ × Tuple)) → n ≤ length xs → ((at : ℕ) (x : Tuple) → at < length xs → x ≡ get_or xs at x → at < n → f (at + 1, x) ≡ Ok (x, false))
      → flags ≡ [] → keys ≡ [] → rows ≡ [] → Taking n (replicate n false ++ flags) keys rows
  taking_front n flags keys rows h g p k r =
      subst (λ l. Taking n l keys rows) (sym (ap (λ (l : List Bool). replicate n false ++ l) p ∙ append-nil (replicate n false)))
      (subst (λ m. Taking m (replicate n false) keys rows) (let m : 0 + n ≡ n = omega arith in m)
      (taking_over n 0 [] keys rows (omega (arith, h)) (λ at x a b c d. g at x a b (omega (arith, d))) (taking_start [] keys rows refl k r)))

  pub taking_back : (i : ℕ) (flags after : List Bool) (keys : List Tuple) (rows : List (ℕ × Tuple)) → i ≤ length xs → ((at : ℕ) (x : Tuple) → at < length xs → x ≡ get_or xs at x → i ≤ at → f (at + 1, x) ≡ Ok (x, false))
      → after ≡ flags ++ replicate (length xs - i) false → Taking i flags keys rows → Taking (length xs) after keys rows
  taking_back i flags after keys rows h g a t =
      subst (λ l. Taking (length xs) l keys rows) (sym a)
      (subst (λ m. Taking m (flags ++ replicate (length xs - i) false) keys rows) (let m : i + (length xs - i) ≡ length xs = omega (arith, h) in m)
      (taking_over (length xs - i) i flags keys rows (omega (arith, h)) (λ at x a b c d. g at x a b c) t))

  pub taking_fault : (i : ℕ) (flags : List Bool) (keys : List Tuple) (rows : List (ℕ × Tuple)) (x : Tuple) (fault : Refused) → i < length xs → x ≡ get_or xs i x → f (i + 1, x) ≡ Err fault
      → Taking i flags keys rows → (each f (enumerate_from 1 xs) >>= (λ visited. Ok (gone schema xs visited))) ≡ Err fault
  taking_fault i flags keys rows x fault h e g t = ap (λ r. r >>= (λ visited. Ok (gone schema xs visited))) (number_fault f xs i t.visited x fault h e g t.walk)

  pub taking_end : (i : ℕ) (flags : List Bool) (keys : List Tuple) (rows : List (ℕ × Tuple)) → length xs ≤ i → Taking i flags keys rows
      → (each f (enumerate_from 1 xs) >>= (λ visited. Ok (gone schema xs visited))) ≡ Ok (record { flags = flags; keys = keys; rows = rows })
  taking_end i flags keys rows h t =
      ap (λ r. r >>= (λ visited. Ok (gone schema xs visited))) (number_end f xs i t.visited h t.walk)
      ∙ ap (λ l. Ok (record { flags = l; keys = map (row_key schema) (visited_as true t.visited); rows = taken xs t.visited })) (sym t.flags_are)
      ∙ ap (λ l. Ok (record { flags = flags; keys = l; rows = taken xs t.visited })) (sym t.keys_are)
      ∙ ap (λ l. Ok (record { flags = flags; keys = keys; rows = l })) (sym t.rows_are)
