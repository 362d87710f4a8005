-- What holds when n rounds are done, and one round more.
use Rattle.std.proofs.Common.{◌≡◌, ℕ, suc, zero, ◌+◌, ◌<◌, ◌≤◌, ◌⊎◌, Bool, true, false, cond, not, List, [], ◌∷◌, ◌++◌, Option, Some, None, length, get_or, set, replicate, refl, sym, ap, subst, ◌∙◌, inl, inr, arith, zero-add}
use Rattle.std.specs.Option.{is_some}
use Rattle.std.specs.List.{All, Contains, filter, list_all}
use Rattle.std.proofs.lemmas.Bool.{cases_Bool, cases_eq, cases_lt, false≢true}
use Rattle.std.proofs.lemmas.List.{append_assoc, get_or-replicate, get_or-set_other, get_or-set_same, get_or_past, length-replicate}
use Rattle.std.proofs.lemmas.List.Elements.{Contains-append_left, Contains-get_or, Contains-push, Contains-push_cases}
use Rattle.std.proofs.lemmas.List.FromFn.{get_or-range_with_len, length-range_with_len}
use Rattle.std.proofs.lemmas.List.Folds.{list_all_at}
use Rattle.mq_levels.specs.Levels.{ReadsNodes, in_round, levelled, nodes, reads_of, round_of}
use Rattle.mq_levels.specs.Numbers.{AllNumbered, AreMarked, AreNumbered, IsNumber, Numbers, has_number, number_of}
use Rattle.mq_levels.specs.Waiting.{IsFree, IsReady, Waiters, Waits, WentOn, is_ready, waiters_of, with_waiter}
use Rattle.mq_levels.specs.Rounds.{AllMoving, AreMoving, AreWoken, FirstMoving, Stands}
use Rattle.mq_levels.proofs.ChainLemmas.{is_first, is_later, nothing_in, one_of}
use Rattle.mq_levels.proofs.DealLemmas.{empty_at}
use Rattle.mq_levels.proofs.LevelLemmas.{all_agree, and_left, and_right, last_at_length, not_before, reads_within, stays_once}
use Rattle.mq_levels.proofs.NumberLemmas.{comes, number_tells, was_not}
use Rattle.mq_levels.proofs.PlaceLemmas.{read_there}

-- who stands where when one more stands in a list
stands_there : (waiters : Waiters) (read node : ℕ) → read < length waiters → waiters_of (with_waiter waiters read node) read ≡ node ∷ waiters_of waiters read
stands_there waiters read node l = get_or-set_same waiters read (node ∷ waiters_of waiters read) [] l

stands_elsewhere : (waiters : Waiters) (read node other : ℕ) → (other ≡ read → ⊥) → waiters_of (with_waiter waiters read node) other ≡ waiters_of waiters other
stands_elsewhere waiters read node other n = get_or-set_other waiters read other (node ∷ waiters_of waiters read) [] n

-- whoever stands in a list stood there, or came
stood : (waiters : Waiters) (read node other v : ℕ) → read < length waiters → Contains (waiters_of (with_waiter waiters read node) other) v → Contains (waiters_of waiters other) v ⊎ ((other ≡ read) × (node ≡ v))
stood waiters read node other v l k = by (cases_eq other read)
  where
    came : other ≡ read → (node ≡ v) ⊎ Contains (waiters_of waiters read) v → Contains (waiters_of waiters other) v ⊎ ((other ≡ read) × (node ≡ v))
    came e (inl is) = inr (e, is)
    came e (inr k) = inl (subst (λ r. Contains (waiters_of waiters r) v) (sym e) k)

    by : (other ≡ read) ⊎ (other ≡ read → ⊥) → Contains (waiters_of waiters other) v ⊎ ((other ≡ read) × (node ≡ v))
    by (inl e) =
        let here : Contains (waiters_of (with_waiter waiters read node) read) v = subst (λ r. Contains (waiters_of (with_waiter waiters read node) r) v) e k in
        came e (one_of node (waiters_of waiters read) v (subst (λ list. Contains list v) (stands_there waiters read node l) here))
    by (inr n) = inl (subst (λ list. Contains list v) (stands_elsewhere waiters read node other n) k)

-- .. and whoever stood there stands there
still_stands : (waiters : Waiters) (read node other v : ℕ) → read < length waiters → Contains (waiters_of waiters other) v → Contains (waiters_of (with_waiter waiters read node) other) v
still_stands waiters read node other v l k = by (cases_eq other read)
  where
    by : (other ≡ read) ⊎ (other ≡ read → ⊥) → Contains (waiters_of (with_waiter waiters read node) other) v
    by (inl e) =
        let here : Contains (waiters_of waiters read) v = subst (λ r. Contains (waiters_of waiters r) v) e k in
        subst (λ r. Contains (waiters_of (with_waiter waiters read node) r) v) (sym e)
        (subst (λ list. Contains list v) (sym (stands_there waiters read node l)) (is_later node (waiters_of waiters read) v here))
    by (inr n) = subst (λ list. Contains list v) (sym (stands_elsewhere waiters read node other n)) k

-- one node goes on that was no part of those in question
module _ (reads : List (List ℕ)) (h : ReadsNodes reads) (n : ℕ) (numbers : Numbers) (a : AreNumbered reads n numbers) (There Now : ℕ → Type 0) (before after : Waiters) (pending had has : List ℕ) (moving : AreMoving reads n numbers There before pending had) (long : length before ≡ length reads) (node : ℕ) (within : node < length reads) (early : levelled reads n node ≡ false) (more : (v : ℕ) → Now v → There v ⊎ (node ≡ v)) (less : (v : ℕ) → There v → Now v) (this : Now node) where
  all_within : (v : ℕ) → Now v → v < length reads
  all_within v t = by (more v t)
    where
      by : There v ⊎ (node ≡ v) → v < length reads
      by (inl t) = moving.within v t
      by (inr e) = subst (λ x. x < length reads) e within

  ready_on : IsReady reads numbers node before after had has → AreMoving reads n numbers Now after pending has
  ready_on r = record {
    within = all_within;
    waits = λ read v k. let w = moving.waits read v (back read v k) in (less v w.0, w.1);
    is_open = λ read v k. moving.is_open read v (back read v k);
    early = λ read v k. moving.early read v (back read v k);
    placed = λ v t e. placed v e (more v t);
    only = λ v k. only v (Contains-push_cases had node v (subst (λ list. Contains list v) r.joined k));
  }
    where
      back : (read v : ℕ) → Contains (waiters_of after read) v → Contains (waiters_of before read) v
      back read v k = subst (λ w. Contains (waiters_of w read) v) r.same k

      joins : (v : ℕ) → Contains (had ++ node ∷ []) v → Contains has v
      joins v k = subst (λ list. Contains list v) (sym r.joined) k

      kept : (v : ℕ) → Contains had v ⊎ Stands before v → Contains has v ⊎ Stands after v
      kept v (inl k) = inl (joins v (Contains-append_left had (node ∷ []) v k))
      kept v (inr s) = inr (subst (λ w. Stands w v) (sym r.same) s)

      placed : (v : ℕ) → levelled reads n v ≡ false → There v ⊎ (node ≡ v) → Contains has v ⊎ Stands after v
      placed v e (inl t) = kept v (moving.placed v t e)
      placed v e (inr is) = inl (joins v (subst (Contains (had ++ node ∷ [])) is (Contains-push had node)))

      levels_now : is_ready reads numbers node ≡ levelled reads (suc n) node
      levels_now = all_agree (has_number numbers) (levelled reads n) (length reads) (number_tells a) (reads_of reads node) (reads_within reads h node within)

      now : in_round reads n node ≡ true
      now = comes reads n node early ∙ sym levels_now ∙ r.ready

      only : (v : ℕ) → Contains had v ⊎ (node ≡ v) → (v < length reads) × (in_round reads n v ≡ true)
      only v (inl k) = moving.only v k
      only v (inr is) = (subst (λ x. x < length reads) is within, subst (λ x. in_round reads n x ≡ true) is now)

  waits_on : Waits reads numbers node before after had has → AreMoving reads n numbers Now after pending has
  waits_on w = record {
    within = all_within;
    waits = λ read v k. waits read v (back read v k);
    is_open = λ read v k. opens read v (back read v k);
    early = λ read v k. earlier read v (back read v k);
    placed = λ v t e. placed v e (more v t);
    only = λ v k. moving.only v (subst (λ list. Contains list v) w.same k);
  }
    where
      there : w.read < length before
      there = let l = w.there in omega arith

      back : (read v : ℕ) → Contains (waiters_of after read) v → Contains (waiters_of before read) v ⊎ ((read ≡ w.read) × (node ≡ v))
      back read v k = stood before w.read node read v there (subst (λ all. Contains (waiters_of all read) v) w.stands k)

      waits : (read v : ℕ) → Contains (waiters_of before read) v ⊎ ((read ≡ w.read) × (node ≡ v)) → Now v × Contains (reads_of reads v) read
      waits read v (inl k) = let was = moving.waits read v k in (less v was.0, was.1)
      waits read v (inr (e, is)) = (subst Now is this, subst (λ x. Contains (reads_of reads x) read) is (subst (Contains (reads_of reads node)) (sym e) w.reads_it))

      opens : (read v : ℕ) → Contains (waiters_of before read) v ⊎ ((read ≡ w.read) × (node ≡ v)) → (has_number numbers read ≡ false) ⊎ Contains pending read
      opens read v (inl k) = moving.is_open read v k
      opens read v (inr (e, is)) = inl (subst (λ r. has_number numbers r ≡ false) (sym e) w.is_open)

      earlier : (read v : ℕ) → Contains (waiters_of before read) v ⊎ ((read ≡ w.read) × (node ≡ v)) → levelled reads n v ≡ false
      earlier read v (inl k) = moving.early read v k
      earlier read v (inr (e, is)) = subst (λ x. levelled reads n x ≡ false) is early

      kept : (v : ℕ) → Contains had v ⊎ Stands before v → Contains has v ⊎ Stands after v
      kept v (inl k) = inl (subst (λ list. Contains list v) (sym w.same) k)
      kept v (inr s) = inr (record { read = s.read; among = subst (λ all. Contains (waiters_of all s.read) v) (sym w.stands) (still_stands before w.read node s.read v there s.among) })

      placed : (v : ℕ) → levelled reads n v ≡ false → There v ⊎ (node ≡ v) → Contains has v ⊎ Stands after v
      placed v e (inl t) = kept v (moving.placed v t e)
      placed v e (inr is) = inr (record {
        read = w.read;
        among = subst (λ all. Contains (waiters_of all w.read) v) (sym w.stands)
            (subst (λ list. Contains list v) (sym (stands_there before w.read node there))
            (subst (Contains (node ∷ waiters_of before w.read)) is (is_first node (waiters_of before w.read))));
      })

  pub went_on : WentOn reads numbers node before after had has → AreMoving reads n numbers Now after pending has
  went_on (inl r) = ready_on r
  went_on (inr w) = waits_on w

abbrev everyone : (reads : List (List ℕ)) → ℕ → Type 0
everyone reads v = v < length reads

-- a node is taken from the list in which it stood
taken : (reads : List (List ℕ)) (n : ℕ) (numbers : Numbers) (before after : Waiters) (pending ready : List ℕ) (read node : ℕ) → AllMoving reads n numbers before pending ready → read < length before → waiters_of before read ≡ node ∷ waiters_of after read → after ≡ set before read (waiters_of after read) → IsFree after node → AreMoving reads n numbers (λ v. everyone reads v × (node ≡ v → ⊥)) after pending ready
taken reads n numbers before after pending ready read node moving l was is free = record {
  within = λ v t. t.0;
  waits = λ r v k. let w = moving.waits r v (back r v k) in ((w.0, λ e. free r (subst (Contains (waiters_of after r)) (sym e) k)), w.1);
  is_open = λ r v k. moving.is_open r v (back r v k);
  early = λ r v k. moving.early r v (back r v k);
  placed = λ v t e. by v t.1 (moving.placed v t.0 e);
  only = moving.only;
}
  where
    same : (r : ℕ) → (r ≡ read → ⊥) → waiters_of after r ≡ waiters_of before r
    same r d = ap (λ w. waiters_of w r) is ∙ get_or-set_other before read r (waiters_of after read) [] d

    back : (r v : ℕ) → Contains (waiters_of after r) v → Contains (waiters_of before r) v
    back r v k = at (cases_eq r read)
      where
        at : (r ≡ read) ⊎ (r ≡ read → ⊥) → Contains (waiters_of before r) v
        at (inl e) =
            let here : Contains (waiters_of after read) v = subst (λ x. Contains (waiters_of after x) v) e k in
            subst (λ x. Contains (waiters_of before x) v) (sym e) (subst (λ list. Contains list v) (sym was) (is_later node (waiters_of after read) v here))
        at (inr d) = subst (λ list. Contains list v) (same r d) k

    on : (v : ℕ) → (node ≡ v → ⊥) → (s : Stands before v) → (s.read ≡ read) ⊎ (s.read ≡ read → ⊥) → Stands after v
    on v d s (inr o) = record { read = s.read; among = subst (λ list. Contains list v) (sym (same s.read o)) s.among }
    on v d s (inl e) =
        let here : Contains (node ∷ waiters_of after read) v = subst (λ list. Contains list v) was (subst (λ x. Contains (waiters_of before x) v) e s.among) in
        behind (one_of node (waiters_of after read) v here)
      where
        behind : (node ≡ v) ⊎ Contains (waiters_of after read) v → Stands after v
        behind (inl is) = absurd (d is)
        behind (inr k) = record { read = read; among = k }

    by : (v : ℕ) → (node ≡ v → ⊥) → Contains ready v ⊎ Stands before v → Contains ready v ⊎ Stands after v
    by v d (inl k) = inl k
    by v d (inr s) = inr (on v d s (cases_eq s.read read))

-- it went on, and all are there again
pub next_taken : (reads : List (List ℕ)) → ReadsNodes reads → (n : ℕ) (numbers : Numbers) → AreNumbered reads n numbers → (before mid after : Waiters) (pending had has : List ℕ) (read node : ℕ) → AllMoving reads n numbers before pending had → length mid ≡ length reads → read < length before → waiters_of before read ≡ node ∷ waiters_of mid read → mid ≡ set before read (waiters_of mid read) → IsFree mid node → WentOn reads numbers node mid after had has → AllMoving reads n numbers after pending has
next_taken reads h n numbers a before mid after pending had has read node moving long l was is free went =
    let stood : Contains (waiters_of before read) node = subst (λ list. Contains list node) (sym was) (is_first node (waiters_of mid read)) in
    let within : node < length reads = (moving.waits read node stood).0 in
    went_on reads h n numbers a (λ v. everyone reads v × (node ≡ v → ⊥)) (everyone reads) mid after pending had has
    (taken reads n numbers before mid pending had read node moving l was is free) long node within (moving.early read node stood)
    (λ v t. by v t (cases_eq node v)) (λ v t. t.0) within went
  where
    by : (v : ℕ) → v < length reads → (node ≡ v) ⊎ (node ≡ v → ⊥) → (everyone reads v × (node ≡ v → ⊥)) ⊎ (node ≡ v)
    by v t (inl e) = inr e
    by v t (inr d) = inl (t, d)

-- nobody waits for the read any more
pub one_woken : (reads : List (List ℕ)) (n : ℕ) (numbers : Numbers) (waiters : Waiters) (others ready : List ℕ) (read : ℕ) → waiters_of waiters read ≡ [] → AllMoving reads n numbers waiters (read ∷ others) ready → AllMoving reads n numbers waiters others ready
one_woken reads n numbers waiters others ready read none moving = record {
  within = moving.within;
  waits = moving.waits;
  is_open = λ r v k. by r v k (moving.is_open r v k);
  early = moving.early;
  placed = moving.placed;
  only = moving.only;
}
  where
    by : (r v : ℕ) → Contains (waiters_of waiters r) v → (has_number numbers r ≡ false) ⊎ Contains (read ∷ others) r → (has_number numbers r ≡ false) ⊎ Contains others r
    by r v k (inl e) = inl e
    by r v k (inr c) = at (one_of read others r c)
      where
        at : (read ≡ r) ⊎ Contains others r → (has_number numbers r ≡ false) ⊎ Contains others r
        at (inl e) = absurd (nothing_in v (subst (λ list. Contains list v) (ap (waiters_of waiters) (sym e) ∙ none) k))
        at (inr c) = inr c

-- one read after others
pub more_woken : (reads : List (List ℕ)) (numbers : Numbers) (nodes : List ℕ) (node : ℕ) (a b c : Waiters) (had mid has : List ℕ) → AreWoken reads numbers nodes a b had mid → AreWoken reads numbers (node ∷ []) b c mid has → AreWoken reads numbers (nodes ++ node ∷ []) a c had has
more_woken reads numbers nodes node a b c had mid has first second n others num moving =
    second n others num (first n (node ∷ others) num (subst (λ pending. AllMoving reads n numbers a pending had) (append_assoc nodes (node ∷ []) others) moving))

-- no node is there yet
pub begins : (reads : List (List ℕ)) (numbers : Numbers) (waiters : Waiters) → waiters ≡ replicate (length reads) [] → FirstMoving reads 0 numbers 0 waiters [] []
begins reads numbers waiters is = record {
  within = λ v l. absurd (omega arith);
  waits = λ r v k. absurd (none r v k);
  is_open = λ r v k. absurd (none r v k);
  early = λ r v k. absurd (none r v k);
  placed = λ v l. absurd (omega arith);
  only = λ v k. absurd (nothing_in v k);
}
  where
    none : (r v : ℕ) → Contains (waiters_of waiters r) v → ⊥
    none r v k = nothing_in v (subst (λ list. Contains list v) (ap (λ w. waiters_of w r) is ∙ empty_at {X = ℕ} (length reads) r) k)

pub nothing_numbered : (reads : List (List ℕ)) → AreNumbered reads 0 (replicate (length reads) None)
nothing_numbered reads = record {
  long = length-replicate (length reads) None;
  each = λ node l. subst (IsNumber reads 0 node) (sym (get_or-replicate (length reads) node None None l)) refl;
  filled = λ round l. absurd (omega arith);
}

pub next_free : (reads : List (List ℕ)) (n : ℕ) (numbers : Numbers) (node : ℕ) (waiters : Waiters) (pending ready : List ℕ) → FirstMoving reads n numbers node waiters pending ready → IsFree waiters node
next_free reads n numbers node waiters pending ready moving read k = let l = (moving.waits read node k).0 in omega arith

-- one node more
pub next_begun : (reads : List (List ℕ)) → ReadsNodes reads → (before after : Waiters) (had has : List ℕ) (node : ℕ) → FirstMoving reads 0 (replicate (length reads) None) node before [] had → length before ≡ length reads → node < length reads → WentOn reads (replicate (length reads) None) node before after had has → FirstMoving reads 0 (replicate (length reads) None) (node + 1) after [] has
next_begun reads h before after had has node moving long within went =
    went_on reads h 0 (replicate (length reads) None) (nothing_numbered reads) (λ v. v < node) (λ v. v < node + 1) before after [] had has moving long node within refl
    (λ v t. by v t (cases_lt v node)) (λ v t. omega arith) (omega arith) went
  where
    by : (v : ℕ) → v < node + 1 → (v < node) ⊎ (node ≤ v) → (v < node) ⊎ (node ≡ v)
    by v t (inl l) = inl l
    by v t (inr l) = inr (omega arith)

filter_some : (p : ℕ → Bool) (xs : List ℕ) (x : ℕ) → Contains xs x → p x ≡ true → 0 < length (filter p xs)
filter_some p [] x k e = absurd (nothing_in x k)
filter_some p (y ∷ ys) x (zero, l, is) e = by (p y) (ap p is ∙ e)
  where
    by : (b : Bool) → b ≡ true → 0 < length (cond b (y ∷ filter p ys) (filter p ys))
    by true f = omega arith
    by false f = absurd (false≢true f)
filter_some p (y ∷ ys) x (suc k, l, is) e = by (p y) (filter_some p ys x (k, omega arith, is) e)
  where
    by : (b : Bool) → 0 < length (filter p ys) → 0 < length (cond b (y ∷ filter p ys) (filter p ys))
    by true f = omega arith
    by false f = f

module _ (reads : List (List ℕ)) (h : ReadsNodes reads) (n : ℕ) (numbers : Numbers) (waiters : Waiters) (ready : List ℕ) (a : AreNumbered reads n numbers) (moving : AllMoving reads n numbers waiters [] ready) where
  read_is_open : (read node : ℕ) → Contains (waiters_of waiters read) node → has_number numbers read ≡ false
  read_is_open read node k = by (moving.is_open read node k)
    where
      by : (has_number numbers read ≡ false) ⊎ Contains [] read → has_number numbers read ≡ false
      by (inl e) = e
      by (inr c) = absurd (nothing_in read c)

  -- whoever waits is not levelled one round on
  waits_on_later : (read node : ℕ) → Contains (waiters_of waiters read) node → levelled reads (suc n) node ≡ false
  waits_on_later read node k =
      let w = moving.waits read node k in
      let there : read < length reads = read_there reads h node read w.0 w.1 in
      let low : levelled reads n read ≡ false = sym (number_tells a read there) ∙ read_is_open read node k in
      let at = w.1 in
      list_all_at (levelled reads n) (reads_of reads node) at.0 read at.1 (ap (levelled reads n) at.2 ∙ low)

  -- the ready nodes are those of the round
  pub all_ready : (node : ℕ) → node < length reads → in_round reads n node ≡ true → Contains ready node
  all_ready node l i = by (moving.placed node l (was_not (levelled reads n node) (and_right (levelled reads (suc n) node) (not (levelled reads n node)) i)))
    where
      by : Contains ready node ⊎ Stands waiters node → Contains ready node
      by (inl k) = k
      by (inr s) = absurd (false≢true (sym (waits_on_later s.read node s.among) ∙ and_left (levelled reads (suc n) node) (not (levelled reads n node)) i))

  pub ready_below : All (λ node. node < length reads) ready
  ready_below k d l = (moving.only (get_or ready k d) (Contains-get_or ready k d l)).0

  -- nothing is ready: all rounds are done
  pub ends : n ≤ length reads → ready ≡ [] → AllNumbered reads n numbers
  ends few none = record {
    numbered = a;
    few = few;
    last = λ node l. by node l (cases_Bool (levelled reads n node)) (cases_Bool (levelled reads (suc n) node));
  }
    where
      by : (node : ℕ) → node < length reads → (levelled reads n node ≡ true) ⊎ (levelled reads n node ≡ false) → (levelled reads (suc n) node ≡ true) ⊎ (levelled reads (suc n) node ≡ false) → levelled reads (suc n) node ≡ levelled reads n node
      by node l (inl e) f = stays_once reads n node e ∙ sym e
      by node l (inr e) (inl f) = absurd (nothing_in node (subst (λ list. Contains list node) none (all_ready node l (comes reads n node e ∙ f))))
      by node l (inr e) (inr f) = f ∙ sym e

  module _ (later : Numbers) (some : 0 < length ready) (marked : AreMarked ready n numbers later) where
    not_ready : (node : ℕ) → in_round reads n node ≡ false → Contains ready node → ⊥
    not_ready node e k = false≢true (sym e ∙ (moving.only node k).1)

    same_number : (node : ℕ) → in_round reads n node ≡ false → number_of later node ≡ number_of numbers node
    same_number node e = marked.same node (not_ready node e)

    pub numbers_grow : (node : ℕ) → has_number numbers node ≡ true → has_number later node ≡ true
    numbers_grow node e = by (cases_Bool (in_round reads n node)) (cases_lt node (length numbers))
      where
        past : (o : Option ℕ) → o ≡ None → is_some o ≡ true → ⊥
        past None h e = false≢true e
        past (Some x) h e = absurd (cc)

        by : (in_round reads n node ≡ true) ⊎ (in_round reads n node ≡ false) → (node < length numbers) ⊎ (length numbers ≤ node) → has_number later node ≡ true
        by (inl i) (inl l) = ap (λ (o : Option ℕ). is_some o) (marked.named node (all_ready node (let long = a.long in omega arith) i))
        by (inr i) l = ap (λ (o : Option ℕ). is_some o) (same_number node i) ∙ e
        by (inl i) (inr l) = absurd (past (number_of numbers node) (get_or_past numbers node None l) e)

    next_number : (node : ℕ) → node < length reads → IsNumber reads (suc n) node (number_of later node)
    next_number node l = by (cases_Bool (in_round reads n node))
      where
        keep : (o : Option ℕ) → in_round reads n node ≡ false → IsNumber reads n node o → IsNumber reads (suc n) node o
        keep None i e = sym (comes reads n node e) ∙ i
        keep (Some x) i (k, e) = (omega arith, e)

        by : (in_round reads n node ≡ true) ⊎ (in_round reads n node ≡ false) → IsNumber reads (suc n) node (number_of later node)
        by (inl i) = subst (IsNumber reads (suc n) node) (sym (marked.named node (all_ready node l i))) (omega arith, i)
        by (inr i) = subst (IsNumber reads (suc n) node) (sym (same_number node i)) (keep (number_of numbers node) i (a.each node l))

    now_filled : 0 < length (round_of reads n)
    now_filled =
        let first = get_or ready 0 0 in
        let came = moving.only first (Contains-get_or ready 0 0 some) in
        let l = came.0 in
        let at : get_or (nodes reads) first first ≡ first = get_or-range_with_len 0 (length reads) first first l ∙ zero-add first in
        filter_some (in_round reads n) (nodes reads) first (first, (let len = length-range_with_len 0 (length reads) in omega arith), at) came.1

    next_filled : (round : ℕ) → round < suc n → 0 < length (round_of reads round)
    next_filled round l = by (cases_eq round n)
      where
        by : (round ≡ n) ⊎ (round ≡ n → ⊥) → 0 < length (round_of reads round)
        by (inl e) = subst (λ m. 0 < length (round_of reads m)) (sym e) now_filled
        by (inr d) = a.filled round (let apart : round ≡ n → ⊥ = d in omega arith)

    pub next_numbered : AreNumbered reads (suc n) later
    next_numbered = record { long = marked.long ∙ a.long; each = next_number; filled = next_filled }

    pub all_numbered : All (λ node. has_number later node ≡ true) ready
    all_numbered k d l = ap (λ (o : Option ℕ). is_some o) (marked.named (get_or ready k d) (Contains-get_or ready k d l))

    next_open : (read node : ℕ) → Contains (waiters_of waiters read) node → (has_number later read ≡ false) ⊎ Contains (ready ++ []) read
    next_open read node k = by (cases_Bool (in_round reads n read))
      where
        there : read < length reads
        there = let w = moving.waits read node k in read_there reads h node read w.0 w.1

        by : (in_round reads n read ≡ true) ⊎ (in_round reads n read ≡ false) → (has_number later read ≡ false) ⊎ Contains (ready ++ []) read
        by (inl i) = inr (Contains-append_left ready [] read (all_ready read there i))
        by (inr i) = inl (ap (λ (o : Option ℕ). is_some o) (same_number read i) ∙ read_is_open read node k)

    next_placed : (node : ℕ) → node < length reads → levelled reads (suc n) node ≡ false → Contains [] node ⊎ Stands waiters node
    next_placed node l e = by (moving.placed node l (not_before reads n (suc n) node (omega arith) e))
      where
        by : Contains ready node ⊎ Stands waiters node → Contains [] node ⊎ Stands waiters node
        by (inl k) = absurd (false≢true (sym e ∙ and_left (levelled reads (suc n) node) (not (levelled reads n node)) (moving.only node k).1))
        by (inr s) = inr s

    -- one round more: those who wait for the ready nodes are to be woken
    pub next_moving : AllMoving reads (suc n) later waiters (ready ++ []) []
    next_moving = record {
      within = λ v l. l;
      waits = moving.waits;
      is_open = next_open;
      early = waits_on_later;
      placed = next_placed;
      only = λ v k. absurd (nothing_in v k);
    }

-- as many rounds as nodes are done
pub ends_at_length : (reads : List (List ℕ)) (numbers : Numbers) → ReadsNodes reads → AreNumbered reads (length reads) numbers → AllNumbered reads (length reads) numbers
ends_at_length reads numbers h a = record { numbered = a; few = omega arith; last = last_at_length reads h }

abbrev nothing : (X : Type 0) → Option X
nothing X = None

-- nothing has a number yet
unnumbered : (count node : ℕ) → has_number (replicate count None) node ≡ false
unnumbered count node = by (cases_lt node count)
  where
    by : (node < count) ⊎ (count ≤ node) → has_number (replicate count None) node ≡ false
    by (inl l) = ap (λ (o : Option ℕ). is_some o) (get_or-replicate count node None None l)
    by (inr l) = ap (λ (o : Option ℕ). is_some o) (get_or_past (replicate count None) node None (let long = length-replicate count (nothing ℕ) in omega arith))

-- a node begins: it reads nothing ..
pub begins_ready : (reads : List (List ℕ)) (node : ℕ) (waiters : Waiters) (had has : List ℕ) → reads_of reads node ≡ [] → has ≡ had ++ node ∷ [] → WentOn reads (replicate (length reads) None) node waiters waiters had has
begins_ready reads node waiters had has none joined = inl (record {
  ready = ap (λ (list : List ℕ). list_all (has_number (replicate (length reads) None)) list) none;
  same = refl;
  joined = joined;
})

-- .. or waits for a read
pub begins_waiting : (reads : List (List ℕ)) → ReadsNodes reads → (node read : ℕ) (before after : Waiters) (had : List ℕ) → node < length reads → Contains (reads_of reads node) read → after ≡ with_waiter before read node → WentOn reads (replicate (length reads) None) node before after had had
begins_waiting reads h node read before after had l its stands = inr (record {
  read = read;
  there = read_there reads h node read l its;
  reads_it = its;
  is_open = unnumbered (length reads) read;
  stands = stands;
  same = refl;
})
