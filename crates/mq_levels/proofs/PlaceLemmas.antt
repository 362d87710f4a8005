-- What is left of a list.
use Rattle.std.proofs.Common.{◌≡◌, ℕ, suc, zero, ◌+◌, ◌-◌, ◌<◌, ◌≤◌, ◌⊎◌, true, false, List, [], ◌∷◌, ◌++◌, length, get_or, set, take, refl, sym, ap, subst, ◌∙◌, inl, inr, arith}
use Rattle.std.specs.List.{All, Contains, list_all}
use Rattle.std.proofs.lemmas.Bool.{cases_eq}
use Rattle.std.proofs.lemmas.List.{append_assoc, append-nil, get_or_append_left, get_or-set_same, get_or-set_other, get_or-take, length-append, length-map, length-set, length-take-le, take_more}
use Rattle.std.proofs.lemmas.List.Folds.{list_all-append}
use Rattle.std.proofs.lemmas.List.Elements.{Contains-append_left, Contains-push}
use Rattle.std.specs.declared.alloc.Global.{Global}
use Rattle.std.specs.declared.vec.Vec.{Vec}
use Rattle.mq_levels.specs.Levels.{ReadsNodes, reads_in, reads_of}
use Rattle.mq_levels.specs.Numbers.{Numbers, has_number}
use Rattle.mq_levels.specs.Places.{ArePlaced, EndsOpen, IsLeft, IsPlaced}
use Rattle.mq_levels.proofs.LevelLemmas.{all_weaker, both}

-- nothing is passed
pub all_left : (numbers : Numbers) (list : List ℕ) → IsLeft numbers list list
all_left numbers list = record { behind = []; is = sym (append-nil list); passed = refl }

-- one more is passed
pub one_passed : (numbers : Numbers) (list left : List ℕ) (read : ℕ) → IsLeft numbers list (left ++ read ∷ []) → has_number numbers read ≡ true → IsLeft numbers list left
one_passed numbers list left read l e = record {
  behind = read ∷ l.behind;
  is = l.is ∙ append_assoc left (read ∷ []) l.behind;
  passed = both (has_number numbers read) (list_all (has_number numbers) l.behind) e l.passed;
}

-- nothing is left
pub all_passed : (numbers : Numbers) (list left : List ℕ) → IsLeft numbers list left → left ≡ [] → list_all (has_number numbers) list ≡ true
all_passed numbers list left l e = ap (list_all (has_number numbers)) (l.is ∙ ap (λ front. front ++ l.behind) e) ∙ l.passed

-- .. of what was left before
pub left_on : (numbers : Numbers) (list mid left : List ℕ) → IsLeft numbers list mid → IsLeft numbers mid left → IsLeft numbers list left
left_on numbers list mid left a b = record {
  behind = b.behind ++ a.behind;
  is = a.is ∙ ap (λ front. front ++ a.behind) b.is ∙ append_assoc left b.behind a.behind;
  passed = list_all-append (has_number numbers) b.behind a.behind ∙ both (list_all (has_number numbers) b.behind) (list_all (has_number numbers) a.behind) b.passed a.passed;
}

-- where all that is left has numbers, all has
pub ready_from_left : (numbers : Numbers) (list left : List ℕ) → IsLeft numbers list left → list_all (has_number numbers) left ≡ true → list_all (has_number numbers) list ≡ true
ready_from_left numbers list left l e =
    ap (list_all (has_number numbers)) l.is
    ∙ list_all-append (has_number numbers) left l.behind
    ∙ both (list_all (has_number numbers) left) (list_all (has_number numbers) l.behind) e l.passed

-- what is left is of the list
pub left_within : (P : ℕ → Type 0) (numbers : Numbers) (list left : List ℕ) → IsLeft numbers list left → All P list → All P left
left_within P numbers list left l a k d m = subst P (get_or_append_left left l.behind d k m) (subst (All P) l.is a k d (all_shorter left l.behind k m))
  where
    all_shorter : (xs ys : List ℕ) (k : ℕ) → k < length xs → k < length (xs ++ ys)
    all_shorter xs ys k m = let long = length-append xs ys in omega arith

pub open_is_read : (numbers : Numbers) (list mid left : List ℕ) (read : ℕ) → IsLeft numbers list mid → EndsOpen numbers mid left read → Contains list read
open_is_read numbers list mid left read a e =
    let whole = left_on numbers list mid left a e.is_left in
    subst (λ list. Contains list read) (sym whole.is)
    (Contains-append_left left whole.behind read (subst (λ list. Contains list read) (sym e.ends) (Contains-push e.before read)))

take_last : (list : List ℕ) (count : ℕ) → 0 < count → count ≤ length list → take count list ≡ take (count - 1) list ++ get_or list (count - 1) 0 ∷ []
take_last list count some l = ap (λ n. take n list) (let e : count ≡ count - 1 + 1 = omega arith in e) ∙ take_more list (count - 1) 0 (omega arith)

-- the last read that is left has no number ..
pub ends_here : (numbers : Numbers) (list all : List ℕ) (count : ℕ) → 0 < count → count ≤ length list → IsLeft numbers all (take count list) → has_number numbers (get_or list (count - 1) 0) ≡ false → EndsOpen numbers all (take count list) (get_or list (count - 1) 0)
ends_here numbers list all count some l left e = record { is_left = left; before = take (count - 1) list; ends = take_last list count some l; is_open = e }

-- .. or it has one and is passed
pub passed_here : (numbers : Numbers) (list all : List ℕ) (count : ℕ) → 0 < count → count ≤ length list → IsLeft numbers all (take count list) → has_number numbers (get_or list (count - 1) 0) ≡ true → IsLeft numbers all (take (count - 1) list)
passed_here numbers list all count some l left e =
    one_passed numbers all (take (count - 1) list) (get_or list (count - 1) 0) (subst (IsLeft numbers all) (take_last list count some l) left) e

pub front_within : (P : ℕ → Type 0) (list : List ℕ) (count at : ℕ) → All P (take count list) → at < count → count ≤ length list → P (get_or list at 0)
front_within P list count at a l m = subst P (get_or-take count list at 0 l) (a at 0 (let long = length-take-le count list m in omega arith))

-- what is passed stays so
pub left_later : (numbers later : Numbers) → ((node : ℕ) → has_number numbers node ≡ true → has_number later node ≡ true) → (list left : List ℕ) → IsLeft numbers list left → IsLeft later list left
left_later numbers later h list left l = record { behind = l.behind; is = l.is; passed = all_weaker (has_number numbers) (has_number later) h l.behind l.passed }

module _ {P : Type 0} (reads : List (List ℕ)) (is_place : ℕ → P → Type 0) (left : ℕ → P → List ℕ) (numbers : Numbers) (places : List P) (placed : ArePlaced reads is_place left numbers places) where
  pub places_later : (later : Numbers) → ((node : ℕ) → has_number numbers node ≡ true → has_number later node ≡ true) → ArePlaced reads is_place left later places
  places_later later h = record {
    long = placed.long;
    each = λ node other l. let p = placed.each node other l in record { is = p.is; is_left = left_later numbers later h (reads_of reads node) (left node (get_or places node other)) p.is_left };
  }

  -- the place that was read of a node
  pub placed_at : (node : ℕ) (place : P) → node < length reads → place ≡ get_or places node place → IsPlaced reads is_place left numbers node place
  placed_at node place l e = subst (IsPlaced reads is_place left numbers node) (sym e) (placed.each node place l)

  pub place_set : (node : ℕ) (place : P) → node < length reads → IsPlaced reads is_place left numbers node place → ArePlaced reads is_place left numbers (set places node place)
  place_set node place l p = record {
    long = length-set places node place ∙ placed.long;
    each = λ at other m. by at other m (cases_eq at node);
  }
    where
      by : (at : ℕ) (other : P) → at < length reads → (at ≡ node) ⊎ (at ≡ node → ⊥) → IsPlaced reads is_place left numbers at (get_or (set places node place) at other)
      by at other m (inl e) =
          let within : node < length places = let long = placed.long in omega arith in
          subst (λ k. IsPlaced reads is_place left numbers k (get_or (set places node place) k other)) (sym e)
          (subst (IsPlaced reads is_place left numbers node) (sym (get_or-set_same places node place other within)) p)
      by at other m (inr n) = subst (IsPlaced reads is_place left numbers at) (sym (get_or-set_other places node at place other n)) (placed.each at other m)

-- the list that was read of a node
pub reads_read : (lists : List (Vec ℕ Global)) (node : ℕ) (list : Vec ℕ Global) → node < length lists → list ≡ get_or lists node list → reads_of (reads_in lists) node ≡ list.items
reads_read [] node list l e = absurd (omega arith)
reads_read (x ∷ xs) zero list l e = ap (λ (v : Vec ℕ Global). v.items) (sym e)
reads_read (x ∷ xs) (suc node) list l e = reads_read xs node list (omega arith) e

pub reads_long : (lists : List (Vec ℕ Global)) → length (reads_in lists) ≡ length lists
reads_long lists = length-map lists (λ (list : Vec ℕ Global). list.items)

-- what is read is a node
pub read_there : (reads : List (List ℕ)) → ReadsNodes reads → (node read : ℕ) → node < length reads → Contains (reads_of reads node) read → read < length reads
read_there reads h node read n k = subst (λ x. x < length reads) k.2 (h node [] n k.0 read k.1)
