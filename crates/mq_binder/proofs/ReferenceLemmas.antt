-- The lists of a model and of a reference fit their rows, and a reference fits the catalog.
use Rattle.std.proofs.Common.{◌≡◌, ℕ, ◌+◌, ◌≤◌, List, [], ◌∷◌, ◌++◌, length, Bool, true, ◌&&◌, ◌==◌, Option, Some, None, Result, Ok, Err, refl, sym, ap, ◌∙◌, subst, arith}
use Rattle.std.specs.Prelude.{flat_map, nat_le, nat_lt}
use Rattle.std.specs.List.{enumerate_from, list_all, list_any}
use Rattle.std.specs.Option.{option_map_or}
use Rattle.std.proofs.lemmas.Bool.Decides.{nat_tests}
use Rattle.std.proofs.lemmas.List.{length-append, length-map}
use Rattle.std.proofs.lemmas.List.Folds.{list_all-append}
use Rattle.mq_lexer.specs.Words.{folded}
use Rattle.mq_values.specs.declared.faults.Refused.{Refused}
use Rattle.mq_values.specs.declared.limits.TheConstants.{MAX_DIMENSIONS, MAX_MEASURES, MAX_REFERENCES}
use Rattle.mq_values.specs.declared.value.Kind.{Kind}
use Rattle.mq_ast.specs.declared.expressions.E.{E}
use Rattle.mq_ast.specs.declared.queries.RefTree.{RefTree}
use Rattle.mq_ast.specs.declared.queries.Sel.{Sel}
use Rattle.mq_ir.specs.declared.catalog.Catalog.{Catalog}
use Rattle.mq_ir.specs.declared.limit_numbers.TheConstants.{LIMIT_OF_DIMENSIONS, LIMIT_OF_MEASURES, LIMIT_OF_REFERENCES}
use Rattle.mq_ir.specs.Fits.{plain_fits, reference_fits, row_scope as fit_row_scope}
use Rattle.mq_ir.specs.FitsExpression.{expression_fits, kind_fits}
use Rattle.mq_ir.specs.Results.{◌>>=◌}
use Rattle.mq_ir.specs.Tables.{is_name}
use Rattle.mq_bind_scopes.specs.declared.misuse_numbers.TheConstants.{MISUSE_OF_ITEM_WITHOUT_NAME, MISUSE_OF_OPTIONS}
use Rattle.mq_bind_scopes.specs.declared.scopes.Found.{Found}
use Rattle.mq_bind_scopes.specs.declared.scopes.Part.TheVariants as part
use Rattle.mq_bind_scopes.specs.declared.scopes.Position.{Position}
use Rattle.mq_bind_scopes.specs.declared.scopes.Printed.{Printed}
use Rattle.mq_bind_scopes.specs.declared.scopes.Scope.{Scope}
use Rattle.mq_bind_expr.specs.ExpressionWalk.{bound}
use Rattle.mq_bind_expr.specs.Forms.{name_of}
use Rattle.mq_bind_scopes.specs.Kinds.{column_kind}
use Rattle.mq_bind_scopes.specs.Names.{Name}
use Rattle.mq_bind_scopes.specs.Positions.{standing}
use Rattle.mq_bind_scopes.specs.Refusals.{duplicate_name, kind_mismatch, limit, misuse}
use Rattle.mq_bind_expr.specs.Steps.{each_behind}
use Rattle.mq_binder.specs.declared.found.ListItem.{ListItem}
use Rattle.mq_binder.specs.declared.found.PlainFound.{PlainFound}
use Rattle.mq_binder.specs.declared.found.ReferenceFound.{ReferenceFound}
use Rattle.mq_binder.specs.ListWalk.{item_checked, item_kind, items_listed, limited, list_columns, list_exprs, list_item, list_kinds, list_names, listed_name}
use Rattle.mq_bind_scopes.specs.Options.{options_checked, options_clash}
use Rattle.mq_binder.specs.PlainWalk.{plain_bound}
use Rattle.mq_binder.specs.ReferenceWalk.{dims_listed, lists_over, measures_listed, printed_column, printed_scope, reference_bound, reference_name, reference_of, references_bound}
use Rattle.mq_binder.specs.WithinLimits.{columns_within}
use Rattle.mq_binder.specs.Literals.{literals_fit}
use Rattle.mq_binder.specs.StatementLiterals.{items_literals, plain_literals, reference_literals}
use Rattle.mq_binder.proofs.FromLemmas.{RowColumnFits, RowsFit, each_append, few_of}
use Rattle.mq_binder.proofs.KindLemmas.{Within, column_fits}
use Rattle.mq_binder.proofs.PlainLemmas.{PlainFits, RowFound, plain_fit, value_found}
use Rattle.mq_binder.proofs.StandLemmas.{NamedWithin, ReferenceWithin}
use Rattle.mq_binder.proofs.FitStepLemmas.{Each, behind_gives, both, each_all, left_of, ok_is, passed, right_of, some_is, went}

-- ---- the items of a list
pub record ListItemFits (widths : List ℕ) (i : ListItem) : Type 0 where
  pub fits : expression_fits (fit_row_scope widths) i.e ≡ true
  pub within : Within i.column.kind
  pub kind : kind_fits i.kind ≡ true

never : {A P : Type 0} (e : Refused) (x : A) → ◌≡◌ {A = Result A Refused} (Err e) (Ok x) → P
never e x h = absurd cc

checked_fits : (widths : List ℕ) (taken : List Name) (name : Option Name) (f : Found) (i : ListItem) → item_checked taken name f ≡ Ok i → RowFound widths f → ListItemFits widths i
checked_fits widths taken None f i h k =
    let w = went (item_kind f) (λ k. Err (misuse MISUSE_OF_ITEM_WITHOUT_NAME)) i h in
    never (misuse MISUSE_OF_ITEM_WITHOUT_NAME) i w.after
checked_fits widths taken (Some name) f i h k =
    let made : Kind → ListItem = λ k. record { e = f.e; column = record { name = name; kind = f.kind }; kind = k } in
    let p = passed (list_any (is_name name) taken) (duplicate_name name) (item_kind f >>= (λ k. Ok (made k))) i h in
    let w = went (item_kind f) (λ k. Ok (made k)) i p.after in
    subst (ListItemFits widths) (ok_is (made w.value) i w.after) (record {
      fits = k.0;
      within = k.1;
      kind = column_fits f.kind w.value (some_is (column_kind f.kind) kind_mismatch w.value w.first) k.1;
    })

-- where each expression that stands there fits its rows
pub listed_fit : (widths : List ℕ) (scope : Scope) (at : Position) → ((e : E) → literals_fit e ≡ true → (f : Found) → bound scope e at ≡ Ok f → RowFound widths f)
    → (taken : List Name) (sels : List Sel) → items_literals sels ≡ true → (items : List ListItem) → items_listed scope at taken sels ≡ Ok items → Each (ListItemFits widths) items
listed_fit widths scope at found taken sels lit items h =
    behind_gives (list_item scope at) listed_name (λ (s : Sel). literals_fit s.e ≡ true) (ListItemFits widths)
    (λ earlier sel l i g.
    let w = went (bound scope sel.e at) (item_checked earlier (name_of sel)) i g in
    checked_fits widths earlier (name_of sel) w.value i w.after (found sel.e l w.value w.first))
    taken sels items (each_all (λ (s : Sel). literals_fit s.e) sels lit) h

pub limited_is : {A : Type 0} (most number : ℕ) (xs ys : List A) → limited most number xs ≡ Ok ys → (xs ≡ ys) × (nat_le (length ys) most ≡ true)
limited_is {A} most number xs ys h =
    let p = passed (nat_lt most (length xs)) (limit number) (Ok xs) ys h in
    let e = ok_is xs ys p.after in
    (e, subst (λ (ys : List A). nat_le (length ys) most ≡ true) e (few_of (length xs) most p.holds_not))

pub exprs_fit : (widths : List ℕ) (items : List ListItem) → Each (ListItemFits widths) items → list_all (expression_fits (fit_row_scope widths)) (list_exprs items) ≡ true
exprs_fit widths [] h = refl
exprs_fit widths (i ∷ items) h =
    both (expression_fits (fit_row_scope widths) i.e) (list_all (expression_fits (fit_row_scope widths)) (list_exprs items)) h.0.fits (exprs_fit widths items h.1)

pub columns_named : (widths : List ℕ) (items : List ListItem) → Each (ListItemFits widths) items → Each NamedWithin (list_columns items)
columns_named widths [] h = tt
columns_named widths (i ∷ items) h = (h.0.within, columns_named widths items h.1)

pub kinds_fit : (widths : List ℕ) (items : List ListItem) → Each (ListItemFits widths) items → list_all kind_fits (list_kinds items) ≡ true
kinds_fit widths [] h = refl
kinds_fit widths (i ∷ items) h = both (kind_fits i.kind) (list_all kind_fits (list_kinds items)) h.0.kind (kinds_fit widths items h.1)

pub exprs_long : (items : List ListItem) → length (list_exprs items) ≡ length items
exprs_long items = length-map items (λ (i : ListItem). i.e)

pub columns_long : (items : List ListItem) → length (list_columns items) ≡ length items
columns_long items = length-map items (λ (i : ListItem). i.column)

pub kinds_long : (items : List ListItem) → length (list_kinds items) ≡ length items
kinds_long items = length-map items (λ (i : ListItem). i.kind)

pub names_long : (items : List ListItem) → length (list_names items) ≡ length items
names_long items = length-map items listed_name

-- ---- the printed columns of a reference's query
printed_fit : (total n : ℕ) (printed : List Printed) → n + length printed ≤ total → Each (λ (p : Printed). Within p.kind) printed
    → Each (RowColumnFits (total ∷ [])) (flat_map (λ (p : ℕ × Printed). printed_column p.0 p.1) (enumerate_from n printed))
printed_fit total n [] l w = tt
printed_fit total n (p ∷ printed) l w =
    let below : nat_lt n total ≡ true = grind (arith, nat_tests) in
    each_append (RowColumnFits (total ∷ [])) (printed_column n p) (flat_map (λ (p : ℕ × Printed). printed_column p.0 p.1) (enumerate_from (n + 1) printed))
    (one p.name below) (printed_fit total (n + 1) printed (omega (arith, l)) w.1)
  where
    one : (name : Option Name) → nat_lt n total ≡ true
        → Each (RowColumnFits (total ∷ [])) (option_map_or (λ (name : Name). record { name = name; kind = p.kind; at = record { item = 0; column = n } } ∷ []) name [])
    one None b = tt
    one (Some name) b = (record { below = b; within = w.0 }, tt)

printed_rows : (printed : List Printed) → Each (λ (p : Printed). Within p.kind) printed → RowsFit (length printed ∷ []) (printed_scope printed)
printed_rows printed w = record { columns = printed_fit (length printed) 0 printed (omega arith) w; model = refl }

-- ---- a reference
pub record ReferenceFits (catalog : Catalog) (r : ReferenceFound) : Type 0 where
  pub fits : reference_fits catalog r.part ≡ true
  pub within : ReferenceWithin r.names
  pub dims : length r.part.dims ≡ length r.names.dims
  pub measures : length r.part.measures ≡ length r.names.measures

eq_of : (n m : ℕ) → n ≡ m → (n == m) ≡ true
eq_of n m h = grind (arith, nat_tests)

made_reference : (catalog : Catalog) (around : Bool) (r : RefTree) (source : PlainFound) (dims measures : List ListItem) → PlainFits catalog source
    → Each (ListItemFits (length source.part.items.items ∷ [])) dims → Each (ListItemFits (length source.part.items.items ∷ [])) measures
    → nat_le (length dims) MAX_DIMENSIONS ≡ true → nat_le (length measures) MAX_MEASURES ≡ true → ReferenceFits catalog (reference_of around r source dims measures)
made_reference catalog around r source dims measures plain d m few_d few_m =
    let widths = length source.part.items.items ∷ [] in
    let fit = expression_fits (fit_row_scope widths) in
    let exprs = list_all fit (list_exprs dims ++ list_exprs measures) in
    let kinds = list_kinds dims ++ list_kinds measures in
    let nd = nat_le (length (list_exprs dims)) MAX_DIMENSIONS in
    let nm = nat_le (length (list_exprs measures)) MAX_MEASURES in
    let long = length kinds == length (list_exprs dims) + length (list_exprs measures) in
    let plain_fit = plain_fits catalog source.part in
    let e : exprs ≡ true = list_all-append fit (list_exprs dims) (list_exprs measures) ∙ both (list_all fit (list_exprs dims)) (list_all fit (list_exprs measures)) (exprs_fit widths dims d) (exprs_fit widths measures m) in
    let k : list_all kind_fits kinds ≡ true = list_all-append kind_fits (list_kinds dims) (list_kinds measures) ∙ both (list_all kind_fits (list_kinds dims)) (list_all kind_fits (list_kinds measures)) (kinds_fit widths dims d) (kinds_fit widths measures m) in
    let fd : nd ≡ true = ap (λ n. nat_le n MAX_DIMENSIONS) (exprs_long dims) ∙ few_d in
    let fm : nm ≡ true = ap (λ n. nat_le n MAX_MEASURES) (exprs_long measures) ∙ few_m in
    let n : length kinds ≡ length (list_exprs dims) + length (list_exprs measures) =
    length-append (list_kinds dims) (list_kinds measures) ∙ (λ i. kinds_long dims i + kinds_long measures i) ∙ sym (λ i. exprs_long dims i + exprs_long measures i) in
    let l : long ≡ true = eq_of (length kinds) (length (list_exprs dims) + length (list_exprs measures)) n in
    record {
      fits =
          both (plain_fit && exprs && nd && nm && long) (list_all kind_fits kinds)
          (both (plain_fit && exprs && nd && nm) long (both (plain_fit && exprs && nd) nm (both (plain_fit && exprs) nd (both plain_fit exprs plain.fits e) fd) fm) l) k;
      within = (columns_named widths dims d, columns_named widths measures m);
      dims = exprs_long dims ∙ sym (columns_long dims);
      measures = exprs_long measures ∙ sym (columns_long measures);
    }

over_fits : (catalog : Catalog) (around : Bool) (r : RefTree) (source : PlainFound) → PlainFits catalog source → items_literals r.dims ≡ true → items_literals r.measures ≡ true → (x : ReferenceFound)
    → lists_over around r source (printed_scope source.printed) ≡ Ok x → ReferenceFits catalog x
over_fits catalog around r source plain lit_d lit_m x h =
    let scope = printed_scope source.printed in
    let finish : List ListItem → List ListItem → Result ReferenceFound Refused = λ dims measures. options_checked r.opts (Ok (reference_of around r source dims measures)) in
    let a = went (dims_listed r scope) (λ dims. measures_listed r dims scope >>= finish dims) x h in
    let b = went (measures_listed r a.value scope) (finish a.value) x a.after in
    let p = passed (options_clash r.opts) (misuse MISUSE_OF_OPTIONS) (Ok (reference_of around r source a.value b.value)) x b.after in
    let d = went (items_listed scope (standing part.Row) [] r.dims) (limited MAX_DIMENSIONS LIMIT_OF_DIMENSIONS) a.value a.first in
    let m = went (items_listed scope (standing part.Row) (list_names a.value) r.measures) (limited MAX_MEASURES LIMIT_OF_MEASURES) b.value b.first in
    let ld = limited_is MAX_DIMENSIONS LIMIT_OF_DIMENSIONS d.value a.value d.after in
    let lm = limited_is MAX_MEASURES LIMIT_OF_MEASURES m.value b.value m.after in
    let widths = length source.part.items.items ∷ [] in
    let rows : RowsFit widths scope = subst (λ n. RowsFit (n ∷ []) scope) plain.long (printed_rows source.printed plain.kinds) in
    let found = value_found widths scope rows in
    let fd = subst (Each (ListItemFits widths)) ld.0 (listed_fit widths scope (standing part.Row) found [] r.dims lit_d d.value d.first) in
    let fm = subst (Each (ListItemFits widths)) lm.0 (listed_fit widths scope (standing part.Row) found (list_names a.value) r.measures lit_m m.value m.first) in
    subst (ReferenceFits catalog) (ok_is (reference_of around r source a.value b.value) x p.after) (made_reference catalog around r source a.value b.value plain fd fm ld.1 lm.1)

one_fits : (catalog : Catalog) → columns_within catalog ≡ true → (around : Bool) (earlier : List Name) (r : RefTree) → reference_literals r ≡ true → (x : ReferenceFound) → reference_bound catalog around earlier r ≡ Ok x → ReferenceFits catalog x
one_fits catalog within around earlier r lit x h =
    let next : PlainFound → Result ReferenceFound Refused = λ source. lists_over around r source (printed_scope source.printed) in
    let p = passed (list_any (is_name (folded r.name)) earlier) (duplicate_name (folded r.name)) (plain_bound catalog r.query >>= next) x h in
    let w = went (plain_bound catalog r.query) next x p.after in
    let front = left_of (plain_literals r.query && items_literals r.dims) (items_literals r.measures) lit in
    over_fits catalog around r w.value (plain_fit catalog within r.query (left_of (plain_literals r.query) (items_literals r.dims) front) w.value w.first)
    (right_of (plain_literals r.query) (items_literals r.dims) front) (right_of (plain_literals r.query && items_literals r.dims) (items_literals r.measures) lit) x w.after

pub references_fit : (catalog : Catalog) → columns_within catalog ≡ true → (around : Bool) (rs : List RefTree) → list_all reference_literals rs ≡ true → (xs : List ReferenceFound) → references_bound catalog around rs ≡ Ok xs
    → Each (ReferenceFits catalog) xs × (nat_le (length xs) MAX_REFERENCES ≡ true)
references_fit catalog within around rs lit xs h =
    let w = went (each_behind (reference_bound catalog around) reference_name [] rs) (limited MAX_REFERENCES LIMIT_OF_REFERENCES) xs h in
    let l = limited_is MAX_REFERENCES LIMIT_OF_REFERENCES w.value xs w.after in (
      subst (Each (ReferenceFits catalog)) l.0
          (behind_gives (reference_bound catalog around) reference_name (λ (r : RefTree). reference_literals r ≡ true) (ReferenceFits catalog) (one_fits catalog within around) [] rs w.value (each_all reference_literals rs lit) w.first),
      l.1,
    )
