-- What the walks come to: the lines follow the rows, and their items are changed by those that went and came.
use Rattle.std.proofs.Common.{◌≡◌, ℕ, suc, ◌+◌, ◌<◌, Bool, true, false, ◌&&◌, not, List, [], ◌∷◌, ◌++◌, length, map, take, drop, get_or, set}
use Rattle.std.proofs.Common.{Some, None, Result, Ok, Err, refl, sym, ap, ◌∙◌, subst, arith, append_assoc, length-append}
use Rattle.std.specs.Prelude.{if◌then◌else◌, nat_lt}
use Rattle.std.specs.List.{cons_option, enumerate_from, filter}
use Rattle.std.proofs.lemmas.Bool.Decides.{nat_tests}
use Rattle.std.proofs.lemmas.List.{append-nil, drop-drop, get_or-drop, get_or_at, length-drop, length_push, set_at, take-append-drop}
use Rattle.mq_values.specs.Answers.{Gives, result_map}
use Rattle.mq_values.specs.declared.faults.FaultKind.{FaultKind}
use Rattle.mq_values.specs.declared.memory.Fail.{Fail}
use Rattle.mq_values.specs.declared.memory.Fail.TheVariants as fail
use Rattle.mq_ir.specs.Keys.{Tuple}
use Rattle.mq_ir.specs.Results.{◌>>=◌, each, each_in_turn}
use Rattle.mq_tables.specs.InPlace.{items_left}
use Rattle.mq_delta_items.specs.declared.following.ItemChange.{ItemChange}
use Rattle.mq_delta_items.specs.Following.{Followed, HasFollowed, LineOf, lengthened, made_anew, no_change, shortened}
use Rattle.mq_delta_items.specs.Following.{stay_of, went_of, with_exchange}
use Rattle.mq_delta_items.specs.Lines.{items_in}
use Rattle.mq_delta_items.specs.Touching.{IsReplaced, SameUnmarked, same_end, same_marked, same_unmarked}
use Rattle.mq_delta_items.specs.TouchLaws.{mapped_is, ok_same, then_is}
use Rattle.mq_delta_items.proofs.FollowWalkLemmas.{Line, items_more}
use Rattle.mq_delta_parts.specs.Woven.{IsChangeOf, Woven, woven_end, woven_some, woven_stay}

-- ---- steps that may fail
fault_is : {A B E : Type 0} (r : Result A E) (g : A → B) (e : E) → ◌≡◌ {A = Result B E} (r >>= (λ x. Ok (g x))) (Err e) → r ≡ Err e
fault_is (Ok x) g e h = absurd (cc)
fault_is (Err d) g e h = cc

module _ {A B E : Type 0} (f : A → Result B E) where
  -- what the first of some items gives, and what the others
  first_is : (x : A) (xs : List A) (ys : List B) → each f (x ∷ xs) ≡ Ok ys
      → (y : B) × (rest : List B) × (f x ≡ Ok y) × (each f xs ≡ Ok rest) × (y ∷ rest ≡ ys)
  first_is x xs ys h =
      let first = then_is (f x) (λ y. each f xs >>= (λ rest. Ok (y ∷ rest))) ys h in
      let rest = mapped_is (each f xs) (λ rest. first.0 ∷ rest) ys first.2 in
      (first.0, rest.0, first.1, rest.1, rest.2)

  first_given : (x : A) (xs : List A) (y : B) (ys : List B) → f x ≡ Ok y → each f xs ≡ Ok ys → each f (x ∷ xs) ≡ Ok (y ∷ ys)
  first_given x xs y ys h k = (λ i. h i >>= (λ z. k i >>= (λ zs. Ok (z ∷ zs))))

  first_faults : (x : A) (xs : List A) (e : E) → f x ≡ Err e → each f (x ∷ xs) ≡ Err e
  first_faults x xs e h = ap (λ (r : Result B E). r >>= (λ z. each f xs >>= (λ zs. Ok (z ∷ zs)))) h

  rest_faults : (x : A) (xs : List A) (y : B) (e : E) → f x ≡ Ok y → each f xs ≡ Err e → each f (x ∷ xs) ≡ Err e
  rest_faults x xs y e h k = (λ i. h i >>= (λ z. k i >>= (λ zs. Ok (z ∷ zs))))

  behind_given : (xs ys : List A) (zs : List B) → each f xs ≡ Ok zs → each f (xs ++ ys) ≡ (each f ys >>= (λ more. Ok (zs ++ more)))
  behind_given [] ys zs h =
      subst (λ (l : List B). each f ys ≡ (each f ys >>= (λ more. Ok (l ++ more)))) (ok_same [] zs h) (itself (each f ys))
    where
      itself : (r : Result (List B) E) → r ≡ (r >>= (λ more. Ok more))
      itself (Ok l) = refl
      itself (Err e) = refl
  behind_given (x ∷ xs) ys zs h =
      let it = first_is x xs zs h in
      (λ i. it.2 i >>= (λ y. behind_given xs ys it.1 it.3 i >>= (λ rest. Ok (y ∷ rest))))
      ∙ moved it.0 it.1 (each f ys)
      ∙ ap (λ (l : List B). each f ys >>= (λ more. Ok (l ++ more))) it.4
    where
      moved : (y : B) (rest : List B) (r : Result (List B) E) → ((r >>= (λ more. Ok (rest ++ more))) >>= (λ l. Ok (y ∷ l))) ≡ (r >>= (λ more. Ok ((y ∷ rest) ++ more)))
      moved y rest (Ok l) = refl
      moved y rest (Err e) = refl

-- ---- woven lists
module _ {A : Type 0} where
  all_stay : (xs : List A) → Woven xs [] xs
  all_stay [] = woven_end
  all_stay (x ∷ xs) = woven_stay (all_stay xs)

  others_behind : (xs ys : List A) → Woven xs ys (xs ++ ys)
  others_behind [] [] = woven_end
  others_behind [] (y ∷ ys) = woven_some (others_behind [] ys)
  others_behind (x ∷ xs) ys = woven_stay (others_behind xs ys)

-- the items of a line are among those that stay, or among the others
one_stays : (line : Line) (lines : List Line) (stay some : List Tuple) → Woven stay some (items_in lines)
    → Woven (cons_option line stay) some (items_in (line ∷ lines))
one_stays None lines stay some w = w
one_stays (Some item) lines stay some w = woven_stay w

one_more : (line : Line) (lines : List Line) (stay some : List Tuple) → Woven stay some (items_in lines)
    → Woven stay (cons_option line some) (items_in (line ∷ lines))
one_more None lines stay some w = w
one_more (Some item) lines stay some w = woven_some w

in_front : (line : Line) (items : List Tuple) → items_in (line ∷ []) ++ items ≡ cons_option line items
in_front None items = refl
in_front (Some item) items = refl

module _ (f : LineOf) where
  -- ---- rows that came
  module _ (before rows : List Tuple) (first : ℕ) (old : List Line) (front : take first rows ≡ before) (is : each f before ≡ Ok old) where
    all_rows : each f rows ≡ (each f (drop first rows) >>= (λ new. Ok (old ++ new)))
    all_rows =
        ap (each f) (sym (take-append-drop first rows))
        ∙ ap (λ l. each f (l ++ drop first rows)) front
        ∙ behind_given f before (drop first rows) old is

    abbrev all_change : List Line → Followed
    all_change new = (old ++ new, record { gone = []; come = items_in new })

    pub added_follows : (now : List Line) (r : Result ItemChange (Fail FaultKind))
        → Gives {T = Followed} (result_map (λ change. (now, change)) r) (lengthened f (drop first rows) old) → HasFollowed f rows old now r
    added_follows now (Ok change) g =
        let it = mapped_is (each f (drop first rows)) all_change (now, change) g in
        let lines : old ++ it.0 ≡ now = ap (λ (p : Followed). p.0) it.2 in
        let items : record { gone = []; come = items_in it.0 } ≡ change = ap (λ (p : Followed). p.1) it.2 in
        record {
          lines = all_rows ∙ ap (λ (l : Result (List Line) FaultKind). l >>= (λ new. Ok (old ++ new))) it.1 ∙ ap Ok lines;
          items =
              subst (λ (c : ItemChange). IsChangeOf (items_in old) c.gone c.come (items_in now)) items
              (subst (λ (l : List Tuple). IsChangeOf (items_in old) [] (items_in it.0) l) (sym (items_more old it.0) ∙ ap items_in lines)
              (record { stay = items_in old; before = all_stay (items_in old); after = others_behind (items_in old) (items_in it.0) }));
        }
    added_follows now (Err (fail.Cause fault)) g =
        all_rows ∙ ap (λ (l : Result (List Line) FaultKind). l >>= (λ new. Ok (old ++ new))) (fault_is (each f (drop first rows)) all_change fault g)
    added_follows now (Err fail.Memory) g = tt

  -- ---- rows that went
  -- these are the flags from number n on
  abbrev StandFrom : List Bool → ℕ → List Bool → Type 0
  StandFrom all n flags = (i : ℕ) → get_or flags i false ≡ get_or all (n + i) false

  further : (all : List Bool) (n : ℕ) (g : Bool) (flags : List Bool) → StandFrom all n (g ∷ flags) → StandFrom all (n + 1) flags
  further all n g flags h i = h (suc i) ∙ ap (λ m. get_or all m false) (let e : n + suc i ≡ (n + 1) + i = omega arith in e)

  first_flag : (all : List Bool) (n : ℕ) (g : Bool) (flags : List Bool) → StandFrom all n (g ∷ flags) → g ≡ get_or all n false
  first_flag all n g flags h = h 0 ∙ ap (λ m. get_or all m false) (let e : n + 0 ≡ n = omega arith in e)

  pub record Parted (rows : List Tuple) (old stay went : List Line) : Type 0 where
    pub lines : each f rows ≡ Ok stay
    pub items : Woven (items_in stay) (items_in went) (items_in old)

  abbrev lines_of_pairs : List (ℕ × Line) → List Line
  lines_of_pairs pairs = map (λ (pair : ℕ × Line). pair.1) pairs

  abbrev stays : List Bool → ℕ × Line → Bool
  stays all pair = not (get_or all pair.0 false)

  abbrev goes : List Bool → ℕ × Line → Bool
  goes all pair = get_or all pair.0 false

  -- a row and its line, with the flag g of the row; the line is told apart by c
  module _ (all : List Bool) (n : ℕ) (flags : List Bool) (b : Tuple) (before : List Tuple) (line : Line) (lines : List Line) where
    abbrev pairs : List (ℕ × Line)
    pairs = enumerate_from (n + 1) lines

    abbrev Split : Bool → Bool → Type 0
    Split g c =
        Parted (items_left (b ∷ before) (g ∷ flags)) (line ∷ lines)
        (lines_of_pairs (if not c then (n, line) ∷ filter (stays all) pairs else filter (stays all) pairs))
        (lines_of_pairs (if c then (n, line) ∷ filter (goes all) pairs else filter (goes all) pairs))

    split : (g : Bool) → f b ≡ Ok line → Parted (items_left before flags) lines (stay_of all pairs) (went_of all pairs) → Split g g
    split true e rest =
        record { lines = rest.lines; items = one_more line lines (items_in (stay_of all pairs)) (items_in (went_of all pairs)) rest.items }
    split false e rest = record {
      lines = first_given f b (items_left before flags) line (stay_of all pairs) e rest.lines;
      items = one_stays line lines (items_in (stay_of all pairs)) (items_in (went_of all pairs)) rest.items;
    }

  parted_from : (all : List Bool) (n : ℕ) (flags : List Bool) (before : List Tuple) (old : List Line) → StandFrom all n flags
      → length flags ≡ length before → each f before ≡ Ok old
      → Parted (items_left before flags) old (stay_of all (enumerate_from n old)) (went_of all (enumerate_from n old))
  parted_from all n [] [] old s l h =
      subst (λ (o : List Line). Parted [] o (stay_of all (enumerate_from n o)) (went_of all (enumerate_from n o))) (ok_same [] old h)
      (record { lines = refl; items = woven_end })
  parted_from all n [] (b ∷ before) old s l h = absurd (omega (arith, l))
  parted_from all n (g ∷ flags) [] old s l h = absurd (omega (arith, l))
  parted_from all n (g ∷ flags) (b ∷ before) old s l h =
      let it = first_is f b before old h in
      let rest = parted_from all (n + 1) flags before it.1 (further all n g flags s) (omega (arith, l)) it.3 in
      subst (λ (o : List Line). Parted (items_left (b ∷ before) (g ∷ flags)) o (stay_of all (enumerate_from n o)) (went_of all (enumerate_from n o)))
      it.4 (subst (Split all n flags b before it.0 it.1 g) (first_flag all n g flags s) (split all n flags b before it.0 it.1 g it.2 rest))

  all_stand : (all : List Bool) → StandFrom all 0 all
  all_stand all i = ap (λ n. get_or all n false) (let e : i ≡ 0 + i = omega arith in e)

  pub gone_follows : (before rows : List Tuple) (flags : List Bool) (old now : List Line) (r : Result ItemChange (Fail FaultKind))
      → length flags ≡ length before → rows ≡ items_left before flags → each f before ≡ Ok old
      → Gives {T = Followed} (result_map (λ change. (now, change)) r) (Ok (shortened flags old)) → HasFollowed f rows old now r
  gone_follows before rows flags old now (Ok change) l e h g =
      let it = ok_same (shortened flags old) (now, change) g in
      let parted = parted_from flags 0 flags before old (all_stand flags) l h in
      let stay = items_in (stay_of flags (enumerate_from 0 old)) in
      record {
        lines = ap (each f) e ∙ parted.lines ∙ ap (λ (p : Followed). Ok p.0) it;
        items =
            subst (λ (p : Followed). IsChangeOf (items_in old) p.1.gone p.1.come (items_in p.0)) it
            (record { stay = stay; before = parted.items; after = all_stay stay });
      }
  gone_follows before rows flags old now (Err (fail.Cause fault)) l e h g = absurd (cc)
  gone_follows before rows flags old now (Err fail.Memory) l e h g = tt

  -- ---- rows that were replaced
  abbrev marked_from : ℕ → List Bool → List ℕ
  marked_from n marks = map (λ (mark : ℕ × Bool). mark.0) (filter (λ (mark : ℕ × Bool). mark.1) (enumerate_from n marks))

  abbrev at_place : List Tuple → ℕ → Followed → Result Followed FaultKind
  at_place rows place before = made_anew f rows (place, []) before

  by_places : (rows : List Tuple) (replaced : List (ℕ × Tuple)) (s : Followed)
      → each_in_turn (made_anew f rows) replaced s ≡ each_in_turn (at_place rows) (map (λ (row : ℕ × Tuple). row.0) replaced) s
  by_places rows [] s = refl
  by_places rows (row ∷ others) s = next (made_anew f rows row s) (λ t. by_places rows others t)
    where
      next : (r : Result Followed FaultKind)
          → ((t : Followed) → each_in_turn (made_anew f rows) others t ≡ each_in_turn (at_place rows) (map (λ (row : ℕ × Tuple). row.0) others) t)
          → (r >>= each_in_turn (made_anew f rows) others) ≡ (r >>= each_in_turn (at_place rows) (map (λ (row : ℕ × Tuple). row.0) others))
      next (Ok t) h = h t
      next (Err e) h = refl

  -- lines in front, with what is made of the old lines behind them
  pub record Anew (now : List Tuple) (old front : List Line) (change : ItemChange) (after : Followed) : Type 0 where
    pub new : List Line
    pub lines_are : after.0 ≡ front ++ new
    pub rows_are : each f now ≡ Ok new
    pub stay : List Tuple
    pub gone : List Tuple
    pub come : List Tuple
    pub gone_are : after.1.gone ≡ change.gone ++ gone
    pub come_are : after.1.come ≡ change.come ++ come
    pub before : Woven stay gone (items_in old)
    pub behind : Woven stay come (items_in new)

  abbrev Walks : List Tuple → List Line → List Line → ItemChange → Result Followed FaultKind → Type 0
  Walks now old front change (Ok after) = Anew now old front change after
  Walks now old front change (Err e) = each f now ≡ Err e

  module _ (row : Tuple) (now : List Tuple) (line : Line) (is : f row ≡ Ok line) (front : List Line) (change : ItemChange) (old : List Line) where
    -- the line was made anew in the place of another
    made : (was : Line) (r : Result Followed FaultKind) → Walks now old (front ++ line ∷ []) (with_exchange change was line) r
        → Walks (row ∷ now) (was ∷ old) front change r
    made was (Ok after) w = record {
      new = line ∷ w.new;
      lines_are = w.lines_are ∙ append_assoc front (line ∷ []) w.new;
      rows_are = first_given f row now line w.new is w.rows_are;
      stay = w.stay;
      gone = cons_option was w.gone;
      come = cons_option line w.come;
      gone_are = w.gone_are ∙ append_assoc change.gone (items_in (was ∷ [])) w.gone ∙ ap (λ l. change.gone ++ l) (in_front was w.gone);
      come_are = w.come_are ∙ append_assoc change.come (items_in (line ∷ [])) w.come ∙ ap (λ l. change.come ++ l) (in_front line w.come);
      before = one_more was old w.stay w.gone w.before;
      behind = one_more line w.new w.stay w.come w.behind;
    }
    made was (Err e) w = rest_faults f row now line e is w

    -- or stays
    kept : (r : Result Followed FaultKind) → Walks now old (front ++ line ∷ []) change r → Walks (row ∷ now) (line ∷ old) front change r
    kept (Ok after) w = record {
      new = line ∷ w.new;
      lines_are = w.lines_are ∙ append_assoc front (line ∷ []) w.new;
      rows_are = first_given f row now line w.new is w.rows_are;
      stay = cons_option line w.stay;
      gone = w.gone;
      come = w.come;
      gone_are = w.gone_are;
      come_are = w.come_are;
      before = one_stays line old w.stay w.gone w.before;
      behind = one_stays line w.new w.stay w.come w.behind;
    }
    kept (Err e) w = rest_faults f row now line e is w

  -- what stands behind the first n
  module _ {A : Type 0} (all : List A) (n : ℕ) (x : A) (behind : List A) (d : drop n all ≡ x ∷ behind) where
    one_behind : drop (n + 1) all ≡ behind
    one_behind = sym (drop-drop 1 n all) ∙ ap (drop 1) d

    is_within : n < length all
    is_within = let a = length-drop n all in let b = ap length d in omega (arith, a, b)

    stands_there : (z : A) → get_or all n z ≡ x
    stands_there z = ap (λ m. get_or all m z) (let e : n ≡ n + 0 = omega arith in e) ∙ sym (get_or-drop n all 0 z) ∙ ap (λ l. get_or l 0 z) d

  lt_is : (a b : ℕ) → a < b → nat_lt a b ≡ true
  lt_is a b h = grind (arith, nat_tests)

  -- a step at the place behind the lines in front
  module _ (all : List Tuple) (n : ℕ) (row : Tuple) (now : List Tuple) (d : drop n all ≡ row ∷ now) (front : List Line) (l : length front ≡ n)
      (was : Line) (old : List Line) (change : ItemChange) where
    abbrev lines : List Line
    lines = front ++ was ∷ old

    row_there : nat_lt n (length all) ≡ true
    row_there = lt_is n (length all) (is_within all n row now d)

    line_there : nat_lt n (length lines) ≡ true
    line_there = lt_is n (length lines) (let a = length-append front (was ∷ old) in omega (arith, a, l))

    stepped : at_place all n (lines, change) ≡ (f row >>= (λ line. Ok (front ++ line ∷ old, with_exchange change was line)))
    stepped =
        ap (λ b. if b then f (get_or all n []) >>= (λ line. Ok (set lines n line, with_exchange change (get_or lines n None) line)) else Ok (lines, change))
        (λ i. row_there i && line_there i)
        ∙ (λ i. f (stands_there all n row now d [] i) >>= (λ line. Ok (set_at front was old line n l i, with_exchange change (get_or_at front was old None n l i) line)))

  -- behind a line that is made anew the walk goes on
  module _ (row : Tuple) (now : List Tuple) (front : List Line) (change : ItemChange) (was : Line) (old : List Line)
      (turn : Followed → Result Followed FaultKind) where
    marked : ((line : Line) → Walks now old (front ++ line ∷ []) (with_exchange change was line)
        (turn ((front ++ line ∷ []) ++ old, with_exchange change was line)))
        → (r : Result Line FaultKind) → f row ≡ r
        → Walks (row ∷ now) (was ∷ old) front change ((r >>= (λ line. Ok (front ++ line ∷ old, with_exchange change was line))) >>= turn)
    marked others (Err e) is = first_faults f row now e is
    marked others (Ok line) is =
        subst (λ (ls : List Line). Walks (row ∷ now) (was ∷ old) front change (turn (ls, with_exchange change was line)))
        (append_assoc front (line ∷ []) old)
        (made row now line is front change old was (turn ((front ++ line ∷ []) ++ old, with_exchange change was line)) (others line))

  walk : (all : List Tuple) {marks : List Bool} {before now : List Tuple} → SameUnmarked marks before now → (n : ℕ) (front : List Line)
      (change : ItemChange) (old : List Line) → drop n all ≡ now → length front ≡ n → each f before ≡ Ok old
      → Walks now old front change (each_in_turn (at_place all) (marked_from n marks) (front ++ old, change))
  walk all same_end n front change old d l h =
      subst (λ (o : List Line). Walks [] o front change (Ok (front ++ o, change))) (ok_same [] old h)
      (record {
        new = [];
        lines_are = refl;
        rows_are = refl;
        stay = [];
        gone = [];
        come = [];
        gone_are = sym (append-nil change.gone);
        come_are = sym (append-nil change.come);
        before = woven_end;
        behind = woven_end;
      })
  walk all (same_marked {marks = marks} {was = was} {is = is} {before = before} {now = now} same) n front change old d l h =
      let it = first_is f was before old h in
      let turn = each_in_turn (at_place all) (marked_from (n + 1) marks) in
      let others = λ (line : Line).
      walk all same (n + 1) (front ++ line ∷ []) (with_exchange change it.0 line) it.1 (one_behind all n is now d)
      (length_push front line ∙ ap (λ m. m + 1) l) it.3 in
      subst (λ (o : List Line). Walks (is ∷ now) o front change (each_in_turn (at_place all) (n ∷ marked_from (n + 1) marks) (front ++ o, change)))
      it.4 (subst (λ (r : Result Followed FaultKind). Walks (is ∷ now) (it.0 ∷ it.1) front change (r >>= turn))
      (sym (stepped all n is now d front l it.0 it.1 change)) (marked is now front change it.0 it.1 turn others (f is) refl))
  walk all (same_unmarked {marks = marks} {row = row} {before = before} {now = now} same) n front change old d l h =
      let it = first_is f row before old h in
      let turn = each_in_turn (at_place all) (marked_from (n + 1) marks) in
      let others = walk all same (n + 1) (front ++ it.0 ∷ []) change it.1 (one_behind all n row now d) (length_push front it.0 ∙ ap (λ m. m + 1) l) it.3 in
      subst (λ (o : List Line). Walks (row ∷ now) o front change (turn (front ++ o, change))) it.4
      (subst (λ (ls : List Line). Walks (row ∷ now) (it.0 ∷ it.1) front change (turn (ls, change))) (append_assoc front (it.0 ∷ []) it.1)
      (kept row now it.0 it.2 front change it.1 (turn ((front ++ it.0 ∷ []) ++ it.1, change)) others))

  all_walked : (before rows : List Tuple) (replaced : List (ℕ × Tuple)) (old : List Line)
      → IsReplaced (map (λ (row : ℕ × Tuple). row.0) replaced) before rows → each f before ≡ Ok old
      → Walks rows old [] no_change (each_in_turn (made_anew f rows) replaced (old, no_change))
  all_walked before rows replaced old is h =
      subst (Walks rows old [] no_change)
      (sym (by_places rows replaced (old, no_change) ∙ ap (λ places. each_in_turn (at_place rows) places (old, no_change)) is.places_are))
      (walk rows is.same 0 [] no_change old refl refl h)

  pub replaced_follows : (before rows : List Tuple) (replaced : List (ℕ × Tuple)) (old now : List Line) (r : Result ItemChange (Fail FaultKind))
      → IsReplaced (map (λ (row : ℕ × Tuple). row.0) replaced) before rows → each f before ≡ Ok old
      → Gives {T = Followed} (result_map (λ change. (now, change)) r) (each_in_turn (made_anew f rows) replaced (old, no_change))
      → HasFollowed f rows old now r
  replaced_follows before rows replaced old now (Ok change) is h g =
      let w = subst (Walks rows old [] no_change) g (all_walked before rows replaced old is h) in
      record {
        lines = w.rows_are ∙ ap Ok (sym w.lines_are);
        items = record {
          stay = w.stay;
          before = subst (λ (l : List Tuple). Woven w.stay l (items_in old)) (sym w.gone_are) w.before;
          after =
              subst (λ (l : List Tuple). Woven w.stay l (items_in now)) (sym w.come_are)
              (subst (λ (ls : List Line). Woven w.stay w.come (items_in ls)) (sym w.lines_are) w.behind);
        };
      }
  replaced_follows before rows replaced old now (Err (fail.Cause fault)) is h g =
      subst (Walks rows old [] no_change) g (all_walked before rows replaced old is h)
  replaced_follows before rows replaced old now (Err fail.Memory) is h g = tt
