-- A view that is kept, after a change of one table.
use Rattle.std.proofs.Common.{◌≡◌, ℕ, ◌+◌, Bool, true, false, not, ◌||◌, List, [], ◌∷◌, ◌++◌, length, map, Option, Some, None, Result, Ok, Err, refl, sym, ap, subst, ◌∙◌}
use Rattle.std.specs.Prelude.{IfSome}
use Rattle.std.specs.List.{All, enumerate_from, list_any}
use Rattle.std.specs.Option.{option_map_or}
use Rattle.std.proofs.lemmas.Slice.Eq.{bytes_eq-Decides}
use Rattle.mq_values.specs.Answers.{result_map}
use Rattle.mq_values.specs.declared.faults.QueryFault.{QueryFault}
use Rattle.mq_ir.specs.declared.query.BoundQuery.{BoundQuery}
use Rattle.mq_ir.specs.declared.query.FromPart.{FromPart}
use Rattle.mq_ir.specs.declared.query.ItemPart.{ItemPart}
use Rattle.mq_ir.specs.declared.query.ModelPart.{ModelPart}
use Rattle.mq_ir.specs.declared.query.PartInput.{PartInput}
use Rattle.mq_ir.specs.declared.query.PlainPart.{PlainPart}
use Rattle.mq_ir.specs.declared.query.RefPart.{RefPart}
use Rattle.mq_ir.specs.Answer.{list_rows, model_over, rule_of_list}
use Rattle.mq_ir.specs.BaseRows.{kept_places, rows_at}
use Rattle.mq_ir.specs.Items.{item_rows, items_over}
use Rattle.mq_ir.specs.Partitions.{Cells, Tuple, partitions}
use Rattle.mq_ir.specs.Placed.{Placed, at_partition, placed_fault, plain_fault}
use Rattle.mq_ir.specs.Ready.{HaveLength, ModelIsReady, QueryIsReady}
use Rattle.mq_ir.specs.References.{reference_of, reference_over}
use Rattle.mq_ir.specs.Results.{◌>>=◌, each, marked}
use Rattle.mq_ir.specs.Statement.{tables_of_model, tables_read}
use Rattle.mq_ir.specs.Tables.{Tables, is_name, rows_of}
use Rattle.mq_ir.specs.Unfolding.{Model}
use Rattle.mq_delta_items.specs.Lines.{GoesByRow, items_in, lines_of}
use Rattle.mq_delta_items.specs.declared.following.ItemChange.{ItemChange}
use Rattle.mq_delta_parts.specs.Woven.{IsChangeOf}
use Rattle.mq_kept.specs.declared.carrying.FollowedLines.{FollowedLines}
use Rattle.mq_kept.specs.Renewed.{MayRenew}
use Rattle.mq_kept.specs.Standing.{IsStanding}
use Rattle.mq_kept.specs.Kept.{AreLinesOver, IsKept, IsRight, inputs_of, model_in, read_over, view_in}
use Rattle.mq_kept.specs.ReadyLaws.{items_have}
use Rattle.mq_kept.specs.declared.kept_view.KeptPart.{KeptPart}
use Rattle.mq_kept.specs.declared.kept_view.KeptView.{KeptView}
use Rattle.mq_kept.proofs.ReadLemmas.{model_uses, query_uses}
use Rattle.mq_kept.proofs.SourceLemmas.{lines_items}

ok_one : {A E : Type 0} {x y : A} → ◌≡◌ {A = Result A E} (Ok x) (Ok y) → x ≡ y
ok_one h = cc

-- neither of two
apart : (a b : Bool) → (a || b) ≡ false → (a ≡ false) × (b ≡ false)
apart true b h = cc
apart false b h = (refl, h)

same_each : {A B E : Type 0} (reads : A → Bool) (f g : A → Result B E) → ((x : A) → reads x ≡ false → f x ≡ g x) → (xs : List A)
    → list_any reads xs ≡ false → each f xs ≡ each g xs
same_each reads f g same [] h = refl
same_each reads f g same (x ∷ xs) h =
    let none = apart (reads x) (list_any reads xs) h in
    λ i. same x none.0 i >>= (λ y. same_each reads f g same xs none.1 i >>= (λ ys. Ok (y ∷ ys)))

-- names that are the same are one
pub one_name : (a b : List ℕ) → is_name a b ≡ true → a ≡ b
one_name a b h = (bytes_eq-Decides a b).0 h

-- ---- what reads no table that changed reads the same
module _ (table : List ℕ) (before now : Tables) (others : (other : List ℕ) → is_name table other ≡ false → rows_of now other ≡ rows_of before other) where
  same_rows : (names : List (List ℕ)) → list_any (is_name table) names ≡ false → map (rows_of now) names ≡ map (rows_of before) names
  same_rows [] h = refl
  same_rows (name ∷ names) h =
      let none = apart (is_name table name) (list_any (is_name table) names) h in λ i. others name none.0 i ∷ same_rows names none.1 i

  same_items : (from : FromPart) (part : ItemPart) → list_any (is_name table) from.tables ≡ false → items_over now from part ≡ items_over before from part
  same_items from part h =
      ap (λ (items : List (List Tuple)). (kept_places from items >>= (λ kept. Ok (map (rows_at items) kept))) >>= item_rows part) (same_rows from.tables h)

  abbrev of_reference : RefPart → Bool
  of_reference r = list_any (is_name table) r.source.from.tables

  abbrev of_list : PlainPart → Bool
  of_list list = list_any (is_name table) list.from.tables

  same_reference : (r : RefPart) → of_reference r ≡ false → reference_over now r ≡ reference_over before r
  same_reference r h = ap (λ found. marked (placed_fault 0 []) found >>= reference_of r) (same_items r.source.from r.source.items h)

  same_lists : (part : ModelPart) (n : ℕ) (lists : List PlainPart) → list_any of_list lists ≡ false
      → each (list_rows now part) (enumerate_from n lists) ≡ each (list_rows before part) (enumerate_from n lists)
  same_lists part n [] h = refl
  same_lists part n (list ∷ lists) h =
      let none = apart (of_list list) (list_any of_list lists) h in
      λ i. marked (plain_fault (rule_of_list part n)) (same_items list.from list.items none.0 i) >>= (λ y. same_lists part (n + 1) lists none.1 i >>= (λ ys. Ok (y ∷ ys)))

  pub same_model : (part : ModelPart) → list_any (is_name table) (tables_of_model part) ≡ false → model_over now part ≡ model_over before part
  same_model part h =
      let none = apart (list_any of_reference part.refs) (list_any of_list part.lists) (sym (model_uses (is_name table) part) ∙ h) in
      λ i. marked (at_partition []) (same_each of_reference (reference_over now) (reference_over before) same_reference part.refs none.0 i) >>= (λ refs.
      same_lists part 0 part.lists none.1 i >>= (λ lists. Ok (record { part = part; lists = lists; refs = refs })))

  module _ (q : BoundQuery) (part : ModelPart) (is : q.model ≡ Some part) (unread : list_any (is_name table) (tables_read q) ≡ false) where
    both : (list_any (is_name table) q.from.tables ≡ false) × (list_any (is_name table) (option_map_or tables_of_model q.model []) ≡ false)
    both = apart (list_any (is_name table) q.from.tables) (list_any (is_name table) (option_map_or tables_of_model q.model [])) (sym (query_uses (is_name table) q) ∙ unread)

    of_model : list_any (is_name table) (tables_of_model part) ≡ false
    of_model = sym (ap (λ (o : Option ModelPart). list_any (is_name table) (option_map_or tables_of_model o [])) is) ∙ both.1

    same_read : read_over now q part ≡ read_over before q part
    same_read =
        λ i. result_map (λ (found : List Tuple × Model). (partitions part found.0, found.1))
        (marked (plain_fault 0) (same_items q.from q.items both.0 i) >>= (λ items. same_model part of_model i >>= (λ model. Ok (items, model))))

    same_lines : (lines : Option (List (Option Tuple))) → IfSome lines (AreLinesOver before q) → IfSome lines (AreLinesOver now q)
    same_lines None h = tt
    same_lines (Some lines) h =
        let none = apart (is_name table h.table) false (sym (ap (list_any (is_name table)) h.by_row.only) ∙ both.0) in
        record { table = h.table; by_row = h.by_row; lines_are = ap (lines_of q.from q.items) (others h.table none.0) ∙ h.lines_are }

    -- a view that doesn't read the table that changed is kept as it is
    pub still_kept : (view : KeptView) → IsKept before q part view → IsKept now q part view
    still_kept view kept = record { read = same_read ∙ kept.read; right = kept.right; lines = same_lines view.lines kept.lines }

-- ---- what a query reads, by its items and its model
module _ (tables : Tables) (q : BoundQuery) (part : ModelPart) where
  abbrev read_from : Result (List Tuple) QueryFault → Result Model QueryFault → Result (List PartInput × Model) QueryFault
  read_from items model = result_map (λ (found : List Tuple × Model). (partitions part found.0, found.1)) (items >>= (λ items. model >>= (λ model. Ok (items, model))))

  -- the inputs and the model that are read are those of the items
  pub by_items : (items : List Tuple) (inputs : List PartInput) (model : Model) → marked (plain_fault 0) (items_over tables q.from q.items) ≡ Ok items
      → read_over tables q part ≡ Ok (inputs, model) → (inputs ≡ partitions part items) × (model_over tables part ≡ Ok model)
  by_items items inputs model e h =
      by (model_over tables part) (sym (ap (λ (r : Result (List Tuple) QueryFault). read_from r (model_over tables part)) e) ∙ h)
    where
      by : (r : Result Model QueryFault) → read_from (Ok items) r ≡ Ok (inputs, model) → (inputs ≡ partitions part items) × (r ≡ Ok model)
      by (Ok m) g =
          let same : (partitions part items, m) ≡ (inputs, model) = ok_one g in
          (sym (ap (λ (p : List PartInput × Model). p.0) same), ap (λ (p : List PartInput × Model). Ok p.1) same)
      by (Err f) g = absurd (cc)

  pub of_items : (items : List Tuple) (model : Model) → marked (plain_fault 0) (items_over tables q.from q.items) ≡ Ok items → model_over tables part ≡ Ok model
      → read_over tables q part ≡ Ok (partitions part items, model)
  of_items items model e f = λ i. read_from (e i) (f i)

-- ---- a view whose query takes the rows of the changed table alone
module _ (table : List ℕ) (q : BoundQuery) (there : list_any (is_name table) q.from.tables ≡ true) where
  pub by_row : (tables : Tables) (lines : List (Option Tuple)) → AreLinesOver tables q lines
      → GoesByRow q.from q.items table × (lines_of q.from q.items (rows_of tables table) ≡ Some lines)
  by_row tables lines are =
      let same : are.table ≡ table = sym (one_name table are.table (is_one (is_name table are.table) (sym (ap (list_any (is_name table)) are.by_row.only) ∙ there))) in (
        subst (GoesByRow q.from q.items) same are.by_row,
        ap (λ (name : List ℕ). lines_of q.from q.items (rows_of tables name)) (sym same) ∙ are.lines_are,
      )
    where
      is_one : (b : Bool) → (b || false) ≡ true → b ≡ true
      is_one true h = refl
      is_one false h = cc

-- the lines and the change of what was found
pub followed_with : (q : BoundQuery) (lines : List (Option Tuple)) (rows : List Tuple) (after : List (Option Tuple)) (found : Option ItemChange)
    (followed : Option FollowedLines) → IfSome followed (λ f. (f.lines ≡ after) × (found ≡ Some f.change))
    → IfSome found (λ change. (lines_of q.from q.items rows ≡ Some after) × IsChangeOf (items_in lines) change.gone change.come (items_in after))
    → IfSome followed (λ f. (lines_of q.from q.items rows ≡ Some f.lines) × IsChangeOf (items_in lines) f.change.gone f.change.come (items_in f.lines))
followed_with q lines rows after found None are h = tt
followed_with q lines rows after found (Some f) are h =
    let it = subst (λ (o : Option ItemChange). IfSome o (λ change. (lines_of q.from q.items rows ≡ Some after) × IsChangeOf (items_in lines) change.gone change.come (items_in after))) are.1 h in
    subst (λ (l : List (Option Tuple)). (lines_of q.from q.items rows ≡ Some l) × IsChangeOf (items_in lines) f.change.gone f.change.come (items_in l)) (sym are.0) it

pub found_some : {A : Type 0} (P : A → Type 0) {o : Option A} {x : A} → o ≡ Some x → IfSome o P → P x
found_some {A} P e h = subst (λ (o : Option A). IfSome o P) e h

-- ---- a view whose lines follow a change of the table of its query
module _ (table : List ℕ) (q : BoundQuery) (part : ModelPart) (before now : Tables) (old : KeptView) (is : q.model ≡ Some part) (ready : QueryIsReady q)
    (there : list_any (is_name table) q.from.tables ≡ true) (unread : list_any (is_name table) (tables_of_model part) ≡ false)
    (others : (other : List ℕ) → is_name table other ≡ false → rows_of now other ≡ rows_of before other) (kept : IsKept before q part old)
    (lines : List (Option Tuple)) (has : old.lines ≡ Some lines) where
  are_before : AreLinesOver before q lines
  are_before = subst (λ (o : Option (List (Option Tuple))). IfSome o (AreLinesOver before q)) has kept.lines

  pub lines_before : lines_of q.from q.items (rows_of before table) ≡ Some lines
  lines_before = (by_row table q there before lines are_before).1

  read_before : (inputs_of old.parts ≡ partitions part (items_in lines)) × (model_over before part ≡ Ok (model_in part old))
  read_before = by_items before q part (items_in lines) (inputs_of old.parts) (model_in part old) (lines_items before q lines are_before) kept.read

  is_ready : ModelIsReady (length q.items.items) part
  is_ready = subst (λ (o : Option ModelPart). IfSome o (ModelIsReady (length q.items.items))) is ready

  module _ (after : List (Option Tuple)) (change : ItemChange)
      (found : (lines_of q.from q.items (rows_of now table) ≡ Some after) × IsChangeOf (items_in lines) change.gone change.come (items_in after)) where
    are_now : AreLinesOver now q after
    are_now = record { table = table; by_row = (by_row table q there before lines are_before).0; lines_are = found.0 }

    items_now : marked (plain_fault 0) (items_over now q.from q.items) ≡ Ok (items_in after)
    items_now = lines_items now q after are_now

    pub may_renew : MayRenew part change (inputs_of old.parts)
    may_renew = record {
      before = items_in lines;
      after = items_in after;
      inputs_are = read_before.0;
      change_is = found.1;
      lefts = is_ready.lefts;
      wide = subst (λ n. HaveLength n (items_in after)) is_ready.wide (items_have now q.from q.items (items_in after) items_now);
    }

    pub stands : (parts : List KeptPart) (fresh : Bool) → All (IsRight (model_in part old)) parts
        → ((before after : List Tuple) → inputs_of old.parts ≡ partitions part before → IsChangeOf before change.gone change.come after
        → fresh ≡ true → inputs_of parts ≡ partitions part after)
        → IsStanding now q part (record { view = record { lists = old.lists; refs = old.refs; parts = parts; lines = Some after }; fresh = fresh })
    stands parts fresh right renewed = record {
      right = right;
      kept = λ e. record {
        read =
            of_items now q part (items_in after) (model_in part old) items_now (same_model table before now others part unread ∙ read_before.1)
            ∙ ap (λ (inputs : List PartInput). Ok (inputs, model_in part old)) (sym (renewed (items_in lines) (items_in after) read_before.0 found.1 e));
        right = right;
        lines = are_now;
      };
    }
