-- Places that the walk over all tuples may pass over.
use Rattle.std.proofs.Common.{◌≡◌, ℕ, zero, suc, ◌<◌, ◌⊎◌, Bool, true, false, ◌||◌, IsTrue, IfSome, List, [], ◌∷◌, ◌++◌, map, length, get_or, Result, Ok, Option, Some, None, refl, sym, ap, subst, ◌∙◌, ⊎_elim, inl, inr, append_assoc, arith}
use Rattle.std.specs.Prelude.{slice_get, slice_index_or, if◌then◌else◌}
use Rattle.std.specs.List.{All}
use Rattle.std.specs.BTreeMap.{get}
use Rattle.std.proofs.lemmas.List.{get_or_default}
use Rattle.std.proofs.lemmas.Option.{slice_get_read}
use Rattle.mq_values.specs.Truth.{comparison}
use Rattle.mq_values.specs.declared.faults.FaultKind.{FaultKind}
use Rattle.mq_values.specs.declared.faults.ValueFault.{ValueFault}
use Rattle.mq_values.specs.declared.operators.CmpOp.TheVariants.{Eq}
use Rattle.mq_values.specs.declared.value.Value.{Value}
use Rattle.mq_values.specs.declared.value.Value.TheVariants as value
use Rattle.mq_ir.specs.declared.expression.Expr.{Expr}
use Rattle.mq_ir.specs.BaseRows.{Places, all_places, row_leaves, rows_at}
use Rattle.mq_ir.specs.Expression.{holds}
use Rattle.mq_ir.specs.Keys.{Tuple}
use Rattle.mq_ir.specs.Placed.{kind_of}
use Rattle.mq_ir.specs.Results.{◌>>=◌, each_in_turn, marked}
use Rattle.mq_ir.specs.Worth.{as_truth}
use Rattle.mq_join.specs.Deciding.{Agree, IsDecider, IsServing, SeesBelow, Serves, TellsNo, columns_equal, value_at}
use Rattle.mq_join.specs.Indexed.{IsFirst, IsIndexed, key_at, matches, may_pass}
use Rattle.mq_join.specs.JoinKeys.{cmp_joined, is_date, is_number, is_same_key, is_text}
use Rattle.mq_join.specs.Passing.{AllServe, Idle, IndexesServe, IsIdleBy, IsIndexOf, IsReady, ServesItem, Starts}
use Rattle.mq_join.specs.Rows.{Joined}
use Rattle.mq_join.specs.Walk.{joined_step, rows_behind, with_joined}
use Rattle.mq_join.specs.declared.deciders.Decider.{Decider}
use Rattle.mq_join.specs.declared.indexes.Index.{Index}
use Rattle.mq_join.specs.declared.lookups.Lookup.{Lookup}
use Rattle.mq_join.specs.declared.plans.Plan.{Plan}

-- the rows of the first items do not depend on the places behind them
agree_front : (items : List (List Tuple)) (front rest : Places) → Agree (length front) (rows_at items front) (rows_at items (front ++ rest))
agree_front [] front rest i h = refl
agree_front (one ∷ items) [] rest i h = absurd (omega arith)
agree_front (one ∷ items) (p ∷ front) rest zero h = refl
agree_front (one ∷ items) (p ∷ front) rest (suc i) h = agree_front items front rest i (omega arith)

-- and the row of the next item is the one of its place
at_next : (items : List (List Tuple)) (front rest : Places) (k : ℕ) → slice_index_or (rows_at items (front ++ k ∷ rest)) (length front) [] ≡ slice_index_or (slice_index_or items (length front) []) k []
at_next [] front rest k = refl
at_next (one ∷ items) [] rest k = refl
at_next (one ∷ items) (p ∷ front) rest k = at_next items front rest k

-- ---- by a decider

idle_by : (conditions : List Expr) (items : List (List Tuple)) (places : Places) (d : Decider) → IsDecider conditions d → TellsNo d (length places) (rows_at items places) → Idle conditions items places
idle_by conditions items places d h tells = record {
  idle = λ rest.
      let others = rows_at items (places ++ rest) in
      let sees : IfSome (Some (length places)) (λ n. SeesBelow n d.e.now) = subst (λ (o : Option ℕ). IfSome o (λ n. SeesBelow n d.e.now)) tells.sees h.sees in
      let p = sees.found (rows_at items places) others (agree_front items places rest) in
      let same : holds (row_leaves others) d.e.now ≡ holds (row_leaves (rows_at items places)) d.e.now = ap as_truth (p.2 ∙ sym p.1) in
      let found = same ∙ tells.denies.is in
      ⊎_elim
      (λ (unlike : tells.denies.truth ≡ Some false). h.decides.no others (found ∙ ap Ok unlike))
      (λ (u : IsTrue d.safe × (tells.denies.truth ≡ None)). h.decides.unknown u.0 others (found ∙ ap Ok u.1))
      tells.denies.no;
}

pub idle_by_one : (deciders : List Decider) (items : List (List Tuple)) (places : Places) (i : ℕ) (d : Decider) → i < length deciders → d ≡ get_or deciders i d → TellsNo d (length places) (rows_at items places)
    → IsIdleBy deciders items places
idle_by_one deciders items places i d within at tells conditions all =
    idle_by conditions items places d (subst (IsDecider conditions) (sym at) (all i d within)) tells

-- ---- by an index

safe_or : (s t : Bool) → (s || t) ≡ true → (t ≡ true → false ≡ true) → s ≡ true
safe_or true t h unlike = refl
safe_or false t h unlike = absurd (let e : false ≡ true = unlike h in cc)

-- values that are not one key compare as different, or it is safe that the comparison is unknown
told_apart : (x : Index) (v w : Value) → may_pass x v ≡ true → is_same_key v w ≡ false
    → (IsTrue x.numbers → is_number w ≡ true) → (IsTrue x.texts → is_text w ≡ true) → (IsTrue x.dates → is_date w ≡ true)
    → (comparison Eq v w ≡ Some false) ⊎ (IsTrue x.lookup.safe × (comparison Eq v w ≡ None))
told_apart x (value.Num a) (value.Num b) pass unlike numbers texts dates = inl (ap Some unlike)
told_apart x (value.Num a) (value.Text b) pass unlike numbers texts dates = inr (safe_or x.lookup.safe x.numbers pass numbers, refl)
told_apart x (value.Num a) (value.Date b) pass unlike numbers texts dates = inr (safe_or x.lookup.safe x.numbers pass numbers, refl)
told_apart x (value.Num a) value.Null pass unlike numbers texts dates = inr (safe_or x.lookup.safe x.numbers pass numbers, refl)
told_apart x (value.Text a) (value.Num b) pass unlike numbers texts dates = inr (safe_or x.lookup.safe x.texts pass texts, refl)
told_apart x (value.Text a) (value.Text b) pass unlike numbers texts dates = inl (ap Some unlike)
told_apart x (value.Text a) (value.Date b) pass unlike numbers texts dates = inr (safe_or x.lookup.safe x.texts pass texts, refl)
told_apart x (value.Text a) value.Null pass unlike numbers texts dates = inr (safe_or x.lookup.safe x.texts pass texts, refl)
told_apart x (value.Date a) (value.Num b) pass unlike numbers texts dates = inr (safe_or x.lookup.safe x.dates pass dates, refl)
told_apart x (value.Date a) (value.Text b) pass unlike numbers texts dates = inr (safe_or x.lookup.safe x.dates pass dates, refl)
told_apart x (value.Date a) (value.Date b) pass unlike numbers texts dates = inl (ap Some unlike)
told_apart x (value.Date a) value.Null pass unlike numbers texts dates = inr (safe_or x.lookup.safe x.dates pass dates, refl)
told_apart x value.Null (value.Num b) pass unlike numbers texts dates = inr (safe_or x.lookup.safe false pass (λ f. f), refl)
told_apart x value.Null (value.Text b) pass unlike numbers texts dates = inr (safe_or x.lookup.safe false pass (λ f. f), refl)
told_apart x value.Null (value.Date b) pass unlike numbers texts dates = inr (safe_or x.lookup.safe false pass (λ f. f), refl)
told_apart x value.Null value.Null pass unlike numbers texts dates = inr (safe_or x.lookup.safe false pass (λ f. f), refl)

module _ (conditions : List Expr) (items : List (List Tuple)) (front : Places) (x : Index) (v : Value) where
  abbrev rows : List Tuple
  rows = slice_index_or items (length front) []

  abbrev all_rows : ℕ → Places → List Tuple
  all_rows k rest = rows_at items ((front ++ k ∷ []) ++ rest)

  sought : IsServing conditions (length front) x.lookup → v ≡ value_at (rows_at items front) x.lookup.item x.lookup.column → (k : ℕ) (rest : Places) → value_at (all_rows k rest) x.lookup.item x.lookup.column ≡ v
  sought h e k rest =
      ap (λ (places : Places). value_at (rows_at items places) x.lookup.item x.lookup.column) (append_assoc front (k ∷ []) rest)
      ∙ ap (λ (row : Tuple). slice_index_or row x.lookup.column value.Null) (sym (agree_front items front (k ∷ rest) x.lookup.item h.earlier))
      ∙ sym e

  own : (k : ℕ) (rest : Places) → value_at (all_rows k rest) (length front) x.lookup.own ≡ key_at rows x.lookup.own k
  own k rest =
      ap (λ (places : Places). value_at (rows_at items places) (length front) x.lookup.own) (append_assoc front (k ∷ []) rest)
      ∙ ap (λ (row : Tuple). slice_index_or row x.lookup.own value.Null) (at_next items front rest k)

  idle_at : IsIndexOf conditions (length front) rows x → v ≡ value_at (rows_at items front) x.lookup.item x.lookup.column → may_pass x v ≡ true → (k : ℕ) → k < length rows
      → matches rows x.lookup.own v k ≡ false → Idle conditions items (front ++ k ∷ [])
  idle_at h e pass k within unlike = record {
    idle = λ rest.
        let same : columns_equal (all_rows k rest) x.lookup.item x.lookup.column (length front) x.lookup.own ≡ comparison Eq v (key_at rows x.lookup.own k) =
        λ i. comparison Eq (sought h.serving e k rest i) (own k rest i) in
        ⊎_elim
        (λ apart. h.serving.no (all_rows k rest) (same ∙ apart))
        (λ u. h.serving.unknown u.0 (all_rows k rest) (same ∙ u.1))
        (told_apart x v (key_at rows x.lookup.own k) pass unlike (λ s. h.indexed.numbers s k within) (λ s. h.indexed.texts s k within) (λ s. h.indexed.dates s k within));
  }

pub starts : (items : List (List Tuple)) (indexes : List (Option Index)) (front : Places) (x : Index) (v : Value) (first : Option ℕ) → slice_get indexes (length front) ≡ Some (Some x)
    → v ≡ value_at (rows_at items front) x.lookup.item x.lookup.column → may_pass x v ≡ true → first ≡ get cmp_joined x.heads v → Starts items indexes front x first
starts items indexes front x v first at e pass f conditions serve =
    let h = serve.each (length front) x at in
    record {
      value = v;
      indexed = h.indexed;
      idle = idle_at conditions items front x v h e pass;
      first = subst (λ (o : Option ℕ). IsFirst (matches (slice_index_or items (length front) []) x.lookup.own v) 0 (length (slice_index_or items (length front) [])) o) (sym f) (h.indexed.chained.heads v);
    }

-- ---- the walk at idle places

abbrev taken_by : List (List Tuple) → Places → List Joined → Result Bool ValueFault → Result (List Joined) FaultKind
taken_by items places kept r = marked kind_of r >>= (λ taken. if taken then with_joined items places kept else Ok kept)

idle_turns : (conditions : List Expr) (items : List (List Tuple)) (front : Places) (rests : List Places) (kept : List Joined) → Idle conditions items front
    → each_in_turn (joined_step conditions items) (map (λ rest. front ++ rest) rests) kept ≡ Ok kept
idle_turns conditions items front [] kept h = refl
idle_turns conditions items front (rest ∷ rests) kept h =
    ap (λ (r : Result (List Joined) FaultKind). r >>= each_in_turn (joined_step conditions items) (map (λ rest. front ++ rest) rests)) (ap (taken_by items (front ++ rest) kept) (h.idle rest))
    ∙ idle_turns conditions items front rests kept h

pub idle_behind : (conditions : List Expr) (items : List (List Tuple)) (front : Places) (counts : List ℕ) (kept : List Joined) → Idle conditions items front → rows_behind (joined_step conditions items) counts front kept ≡ Ok kept
idle_behind conditions items front counts kept h = idle_turns conditions items front (all_places counts) kept h

-- the same as a call tells it
pub idle_told : (conditions : List Expr) (items : List (List Tuple)) (front places : Places) (deciders given : List Decider) (counts : List ℕ) (kept : List Joined) → given ≡ deciders → places ≡ front
    → IsIdleBy given items places → All (IsDecider conditions) deciders → rows_behind (joined_step conditions items) counts front kept ≡ Ok kept
idle_told conditions items front places deciders given counts kept g p told all =
    idle_behind conditions items front counts kept
    (subst (λ (t : Places). Idle conditions items t) p (told conditions (subst (λ (ds : List Decider). All (IsDecider conditions) ds) (sym g) all)))

-- ---- the indexes of all items

pushed_at : (xs : List (Option Index)) (x : Option Index) (n : ℕ) (y : Index) → slice_get (xs ++ x ∷ []) n ≡ Some (Some y) → (slice_get xs n ≡ Some (Some y)) ⊎ ((n ≡ length xs) × (x ≡ Some y))
pushed_at [] x zero y e = inr (refl, cc)
pushed_at [] x (suc n) y e = absurd (cc)
pushed_at (z ∷ xs) x zero y e = inl e
pushed_at (z ∷ xs) x (suc n) y e = ⊎_elim (λ old. inl old) (λ new. inr (ap suc new.0, new.1)) (pushed_at xs x n y e)

pub serve_none : (conditions : List Expr) (items : List (List Tuple)) → AllServe conditions items []
serve_none conditions items = record { each = λ n x e. absurd (cc) }

pub serve_more : (conditions : List Expr) (items : List (List Tuple)) (indexes new : List (Option Index)) (x : Option Index) (level : ℕ) (rows : List Tuple) → level ≡ length indexes → level < length items
    → rows ≡ get_or items level rows → new ≡ indexes ++ x ∷ [] → IfSome x (λ y. IsIndexOf conditions level rows y) → AllServe conditions items indexes → AllServe conditions items new
serve_more conditions items indexes new x level rows long within at e one h = record {
  each = λ n y is.
      ⊎_elim
      (λ old. h.each n y old)
      (λ here.
      let same : level ≡ n = long ∙ sym here.0 in
      let its : IfSome (Some y) (λ z. IsIndexOf conditions level rows z) = subst (λ (o : Option Index). IfSome o (λ z. IsIndexOf conditions level rows z)) here.1 one in
      let there : rows ≡ slice_index_or items level [] = at ∙ get_or_default items level rows [] within in
      subst (λ (k : ℕ). IsIndexOf conditions k (slice_index_or items k []) y) same (subst (λ (rs : List Tuple). IsIndexOf conditions level rs y) there its))
      (pushed_at indexes x n y (ap (λ (xs : List (Option Index)). slice_get xs n) (sym e) ∙ is));
}

-- as the look-ups in the lists tell it
pub start_found : (items : List (List Tuple)) (indexes : List (Option Index)) (front : Places) (x : Index) (v : Value) (row : Tuple) (first : Option ℕ) (at : ℕ) (found : Option Index) → at ≡ length front
    → at < length indexes → found ≡ get_or indexes at found → found ≡ Some x → row ≡ slice_index_or (rows_at items front) x.lookup.item [] → v ≡ slice_index_or row x.lookup.column value.Null
    → may_pass x v ≡ true → first ≡ get cmp_joined x.heads v → Starts items indexes front x first
start_found items indexes front x v row first at found e within here some r key pass f =
    starts items indexes front x v first
    (subst (λ (k : ℕ). slice_get indexes k ≡ Some (Some x)) e (slice_get_read indexes (length indexes) at found refl within here ∙ ap Some some))
    (key ∙ ap (λ (row : Tuple). slice_index_or row x.lookup.column value.Null) r)
    pass f

-- the items before the walk, one by one
pub serve_first : (deciders : List Decider) (items : List (List Tuple)) → IndexesServe deciders items []
serve_first deciders items conditions all = serve_none conditions items

pub serve_next : (deciders : List Decider) (items : List (List Tuple)) (indexes new : List (Option Index)) (x : Option Index) (level : ℕ) (rows : List Tuple) → length indexes ≡ level → level < length items
    → rows ≡ get_or items level rows → new ≡ indexes ++ x ∷ [] → ServesItem deciders level rows x → IndexesServe deciders items indexes → IndexesServe deciders items new
serve_next deciders items indexes new x level rows long within at e one h conditions all =
    serve_more conditions items indexes new x level rows (sym long) within at e (one conditions all) (h conditions all)

pub serves_item : (deciders : List Decider) (level : ℕ) (rows : List Tuple) (l : Lookup) (x : Index) → Serves deciders level l → x.lookup ≡ l → IsIndexed rows x → ServesItem deciders level rows (Some x)
serves_item deciders level _ l x h e indexed conditions all =
    record { serving = subst (λ (k : Lookup). IsServing conditions level k) (sym e) (h conditions all); indexed = indexed }

pub ready : (conditions : List Expr) (items : List (List Tuple)) (p : Plan) → All (IsDecider conditions) p.deciders.items → IndexesServe p.deciders.items items p.indexes.items → IsReady conditions items p
ready conditions items p h serve = record { deciders = h; indexes = serve conditions h }

-- for what the walk asks
pub ruleset passing_steps = (idle_by_one, start_found, serve_first, serve_next, serves_item, ready)
