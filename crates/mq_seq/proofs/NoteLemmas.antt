-- What stood at cells when a turn began is told after they changed.
use Rattle.std.proofs.Common.{◌≡◌, ℕ, List, [], ◌∷◌, Bool, true, false, length, replicate, Option, Some, None, Ordering, Less, Equal, Greater, refl, sym, ap, ◌∙◌}
use Rattle.std.specs.Prelude.{if◌then◌else◌, is_some, slice_set, unwrap_or}
use Rattle.std.specs.BTreeMap.{insert_entry}
use Rattle.std.specs.Map.{lookup}
use Rattle.std.specs.Option.{option_map_or}
use Rattle.std.specs.Ordering.{is_eq, match_ordering, ordering_reverse}
use Rattle.mq_values.specs.Order.{cmp_key}
use Rattle.mq_values.specs.OrderLaws.{key_total}
use Rattle.mq_values.specs.OrderTells.{key_itself, same_key}
use Rattle.mq_values.specs.declared.value.Value.{Value}
use Rattle.mq_values.specs.declared.value.Value.TheVariants.{Null}
use Rattle.mq_ir.specs.Keys.{Tuple, is_same}
use Rattle.mq_ir.specs.Partitions.{Cells, cell_at, with_cell}
use Rattle.mq_ir.specs.Sequential.{assigned, with_created}
use Rattle.mq_ir.specs.Unfolding.{Model}
use Rattle.mq_seq.specs.Tracks.{Firsts, Track, assign, create, first_at, noted, noted_if_any, put, start_of}

tied : (r : Ordering) → is_eq r ≡ true → r ≡ Equal
tied Less e = absurd (cc)
tied Equal e = refl
tied Greater e = absurd (cc)

-- keys that are the same
pub is_equal : (a b : Tuple) → is_same a b ≡ true → a ≡ b
is_equal a b h = same_key a b (tied (cmp_key a b) h)

flipped : (r : Ordering) → is_eq (ordering_reverse r) ≡ is_eq r
flipped Less = refl
flipped Equal = refl
flipped Greater = refl

pub turned : (a b : Tuple) → is_same a b ≡ is_same b a
turned a b = ap is_eq (key_total.antisymm a b) ∙ flipped (cmp_key b a)

-- what is found once an entry is put
module _ {X : Type 0} (key : Tuple) (x : X) (k : Tuple) where
  abbrev then_rest : Option X → Option X
  then_rest rest = if is_same key k then Some x else rest

  at_first : (rest : Option X) → (if is_same k key then Some x else rest) ≡ then_rest rest
  at_first rest = ap (λ b. if b then Some x else rest) (turned k key)

  put_over : (e : Tuple) (y : X) (rest : Option X) → cmp_key key e ≡ Equal → (if is_same k e then Some x else rest) ≡ then_rest (if is_same k e then Some y else rest)
  put_over e y rest h = by (is_same k e) (is_same key k) refl (turned k e ∙ ap (λ a. is_same a k) (sym (same_key key e h)))
    where
      by : (b c : Bool) → is_same key k ≡ c → b ≡ is_same key k → (if b then Some x else rest) ≡ (if c then Some x else (if b then Some y else rest))
      by true true g f = refl
      by true false g f = absurd (cc)
      by false true g f = absurd (cc)
      by false false g f = refl

  further : (e : Tuple) (y : X) (more rest : Option X) → cmp_key key e ≡ Greater → more ≡ then_rest rest → (if is_same k e then Some y else more) ≡ then_rest (if is_same k e then Some y else rest)
  further e y more rest h m = by (is_same k e) (is_same key k) refl refl
    where
      by : (b c : Bool) → is_same k e ≡ b → is_same key k ≡ c → (if b then Some y else more) ≡ (if c then Some x else (if b then Some y else rest))
      by true true f g =
          let same : key ≡ e = is_equal key k g ∙ is_equal k e f in
          let apart : Equal ≡ Greater = sym (key_itself key) ∙ ap (cmp_key key) same ∙ h in
          absurd (cc)
      by true false f g = refl
      by false c f g = m ∙ ap (λ t. if t then Some x else rest) g

  pub found_with : (es : List (Tuple × X)) → lookup (is_same k) (insert_entry cmp_key es key x) ≡ then_rest (lookup (is_same k) es)
  found_with [] = at_first None
  found_with (e ∷ es) = by (cmp_key key e.0) refl (found_with es)
    where
      by : (r : Ordering) → cmp_key key e.0 ≡ r → lookup (is_same k) (insert_entry cmp_key es key x) ≡ then_rest (lookup (is_same k) es)
          → lookup (is_same k) (match_ordering r ((key, x) ∷ e ∷ es) ((e.0, x) ∷ es) (e ∷ insert_entry cmp_key es key x)) ≡ then_rest (lookup (is_same k) (e ∷ es))
      by Less h rest = at_first (lookup (is_same k) (e ∷ es))
      by Equal h rest = put_over e.0 e.1 (lookup (is_same k) es) h
      by Greater h rest = further e.0 e.1 (lookup (is_same k) (insert_entry cmp_key es key x)) (lookup (is_same k) es) h rest

-- what stood at a cell is told as before, once a cell is noted and then changed
module _ (firsts : Firsts) (cells : Cells) (key measures k : Tuple) where
  abbrev told : Firsts → Cells → Option Tuple
  told firsts cells = unwrap_or (first_at firsts k) (cell_at cells k)

  told_after : told (noted firsts key cells) (with_cell cells key measures) ≡ told firsts cells
  told_after = by (first_at firsts key) refl (is_same key k) refl
    where
      changed : (b : Bool) → is_same key k ≡ b → cell_at (with_cell cells key measures) k ≡ (if b then Some measures else cell_at cells k)
      changed b g = found_with key measures k cells ∙ ap (λ c. if c then Some measures else cell_at cells k) g

      by : (o : Option (Option Tuple)) → first_at firsts key ≡ o → (b : Bool) → is_same key k ≡ b
          → unwrap_or (first_at (if is_some o then firsts else insert_entry cmp_key firsts key (cell_at cells key)) k) (cell_at (with_cell cells key measures) k) ≡ told firsts cells
      by (Some first) there true g =
          let is : first_at firsts k ≡ Some first = ap (first_at firsts) (sym (is_equal key k g)) ∙ there in
          ap (λ f. unwrap_or f (cell_at (with_cell cells key measures) k)) is ∙ sym (ap (λ f. unwrap_or f (cell_at cells k)) is)
      by (Some first) there false g = ap (unwrap_or (first_at firsts k)) (changed false g)
      by None there true g =
          let here : first_at firsts k ≡ None = ap (first_at firsts) (sym (is_equal key k g)) ∙ there in
          ap (λ f. unwrap_or f (cell_at (with_cell cells key measures) k))
          (found_with key (cell_at cells key) k firsts ∙ ap (λ c. if c then Some (cell_at cells key) else first_at firsts k) g)
          ∙ ap (cell_at cells) (is_equal key k g)
          ∙ sym (ap (λ f. unwrap_or f (cell_at cells k)) here)
      by None there false g =
          ap (λ f. unwrap_or f (cell_at (with_cell cells key measures) k))
          (found_with key (cell_at cells key) k firsts ∙ ap (λ c. if c then Some (cell_at cells key) else first_at firsts k) g)
          ∙ ap (unwrap_or (first_at firsts k)) (changed false g)

pub put_tells : (t : Track) (key measures k : Tuple) → start_of (put t key measures) k ≡ start_of t k
put_tells t key measures k = by t.firsts
  where
    by : (firsts : Option Firsts) → start_of (record { cells = with_cell t.cells key measures; firsts = noted_if_any firsts key t.cells }) k ≡ start_of (record { cells = t.cells; firsts = firsts }) k
    by None = refl
    by (Some firsts) = told_after firsts t.cells key measures k

pub assign_tells : (t : Track) (key : Tuple) (m : ℕ) (v : Value) (k : Tuple) → start_of (assign t key m v) k ≡ start_of t k
assign_tells t key m v k = by (cell_at t.cells key)
  where
    by : (found : Option Tuple) → start_of (option_map_or (λ measures. put t key (slice_set measures m v)) found t) k ≡ start_of t k
    by None = refl
    by (Some measures) = put_tells t key (slice_set measures m v) k

pub assign_cells : (t : Track) (key : Tuple) (m : ℕ) (v : Value) → (assign t key m v).cells ≡ assigned t.cells key m v
assign_cells t key m v = by (cell_at t.cells key)
  where
    by : (found : Option Tuple) → (option_map_or (λ measures. put t key (slice_set measures m v)) found t).cells ≡ option_map_or (λ measures. with_cell t.cells key (slice_set measures m v)) found t.cells
    by None = refl
    by (Some measures) = refl

pub create_tells : (count : ℕ) (t : Track) (created : List Tuple) (k : Tuple) → start_of (create count t created) k ≡ start_of t k
create_tells count t [] k = refl
create_tells count t (key ∷ created) k = create_tells count (put t key (replicate count Null)) created k ∙ put_tells t key (replicate count Null) k

pub create_cells : (model : Model) (t : Track) (created : List Tuple) → (create (length model.part.measures) t created).cells ≡ with_created model t.cells created
create_cells model t [] = refl
create_cells model t (key ∷ created) = create_cells model (put t key (replicate (length model.part.measures) Null)) created
