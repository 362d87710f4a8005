-- For the tests: which changes fit each table of two columns, and the last of a list.
use Rattle.std.specs.Prelude.{◌≡◌, ℕ, List, [], ◌∷◌, ◌++◌, All, length, Bool, true, false, ◌&&◌, ◌==◌, nat_lt, Option, Some, None, IfSome, Result, Ok, Err, IfOk, slice_index_or, refl}
use Rattle.std.specs.List.{list_all}
use Rattle.std.specs.Option.{option_map_or, option_to_list}
use Rattle.std.proofs.Common.{sym, ap, subst, ◌∙◌}
use Rattle.std.proofs.lemmas.Bool.{eqb-true}
use Rattle.std.proofs.lemmas.List.Elements.{All-pop, All-same}
use Rattle.mq_values.specs.declared.operators.CmpOp.{CmpOp}
use Rattle.mq_values.specs.declared.memory.Memory.{Memory}
use Rattle.mq_values.specs.declared.value.Value.{Value}
use Rattle.mq_ir.specs.declared.expression.BoundArm.{BoundArm, para-BoundArm}
use Rattle.mq_ir.specs.declared.expression.BoundProd.{BoundProd, para-BoundProd}
use Rattle.mq_ir.specs.declared.expression.BoundSum.{BoundSum, para-BoundSum}
use Rattle.mq_ir.specs.declared.expression.Expr.{Expr, map-Expr, para-roll-Expr, roll-Expr}
use Rattle.mq_ir.specs.declared.expression.Expr.TheOpen as layer
use Rattle.mq_ir.specs.declared.expression.Expr.TheVariants as e
use Rattle.mq_ir.specs.declared.expression.Leaf.{Leaf, map-Leaf, para-Leaf, para-roll-Leaf, roll-Leaf}
use Rattle.mq_ir.specs.declared.expression.Leaf.TheVariants as l
use Rattle.mq_ir.specs.declared.expression.Test.{Test}
use Rattle.mq_ir.specs.declared.statement.Change.{Change}
use Rattle.mq_ir.specs.declared.statement.Change.TheVariants.{Insert, Update, Delete}
use Rattle.mq_ir.specs.declared.statement.Schema.{Schema}
use Rattle.mq_ir.specs.Changes.{table_of}
use Rattle.mq_ir.specs.Fits.{fits_if_there, row_scope}
use Rattle.mq_ir.specs.FitsExpression.{Scope, expression_fits, layer_fits, leaf_fits, test_fits, test_layer_fits}
use Rattle.mq_ir.specs.FitsStatement.{change_fits_schema, inserts_fit, set_fits}
use Rattle.mq_ir.specs.Tables.{Table, Tables, table_at}

unfoldable leaf_fit : Scope → Leaf → Bool
leaf_fit s =
    para-Leaf Bool Bool Bool Bool Bool Bool
    layer_fits (leaf_fits s) test_layer_fits (λ arm. arm.test.1 && arm.value.1) (λ term. term.e.1) (λ term. term.e.1)

unfoldable arm_fit : Scope → BoundArm → Bool
arm_fit s =
    para-BoundArm Bool Bool Bool Bool Bool Bool
    layer_fits (leaf_fits s) test_layer_fits (λ arm. arm.test.1 && arm.value.1) (λ term. term.e.1) (λ term. term.e.1)

unfoldable prod_fit : Scope → BoundProd → Bool
prod_fit s =
    para-BoundProd Bool Bool Bool Bool Bool Bool
    layer_fits (leaf_fits s) test_layer_fits (λ arm. arm.test.1 && arm.value.1) (λ term. term.e.1) (λ term. term.e.1)

unfoldable sum_fit : Scope → BoundSum → Bool
sum_fit s =
    para-BoundSum Bool Bool Bool Bool Bool Bool
    layer_fits (leaf_fits s) test_layer_fits (λ arm. arm.test.1 && arm.value.1) (λ term. term.e.1) (λ term. term.e.1)

fits_roll : (s : Scope) (x : layer.Expr-F Expr Leaf Test BoundArm BoundProd BoundSum)
    → expression_fits s (roll-Expr x) ≡ layer_fits (map-Expr Expr Leaf Test BoundArm BoundProd BoundSum
    (Expr × Bool) (Leaf × Bool) (Test × Bool) (BoundArm × Bool) (BoundProd × Bool) (BoundSum × Bool)
    (λ x. (x, expression_fits s x)) (λ x. (x, leaf_fit s x)) (λ x. (x, test_fits s x)) (λ x. (x, arm_fit s x)) (λ x. (x, prod_fit s x)) (λ x. (x, sum_fit s x)) x)
unfolding expression_fits leaf_fit test_fits arm_fit prod_fit sum_fit
fits_roll s x =
    para-roll-Expr Bool Bool Bool Bool Bool Bool
    layer_fits (leaf_fits s) test_layer_fits (λ arm. arm.test.1 && arm.value.1) (λ term. term.e.1) (λ term. term.e.1) x

leaf_roll : (s : Scope) (x : layer.Leaf-F Expr Leaf Test BoundArm BoundProd BoundSum)
    → leaf_fit s (roll-Leaf x) ≡ leaf_fits s (map-Leaf Expr Leaf Test BoundArm BoundProd BoundSum
    (Expr × Bool) (Leaf × Bool) (Test × Bool) (BoundArm × Bool) (BoundProd × Bool) (BoundSum × Bool)
    (λ x. (x, expression_fits s x)) (λ x. (x, leaf_fit s x)) (λ x. (x, test_fits s x)) (λ x. (x, arm_fit s x)) (λ x. (x, prod_fit s x)) (λ x. (x, sum_fit s x)) x)
unfolding expression_fits leaf_fit test_fits arm_fit prod_fit sum_fit
leaf_roll s x =
    para-roll-Leaf Bool Bool Bool Bool Bool Bool
    layer_fits (leaf_fits s) test_layer_fits (λ arm. arm.test.1 && arm.value.1) (λ term. term.e.1) (λ term. term.e.1) x

lit_fits : (s : Scope) (v : Value) → expression_fits s (e.Lit v) ≡ true
lit_fits s v = ap (expression_fits s) (sym (e.rolls-Lit v)) ∙ fits_roll s (layer.Lit v)

column_fits : (s : Scope) (item column : ℕ) → expression_fits s (e.Leaf (l.Column item column)) ≡ nat_lt column (slice_index_or s.columns item 0)
column_fits s item column =
    ap (expression_fits s) (sym (e.rolls-Leaf (l.Column item column))) ∙ fits_roll s (layer.Leaf (l.Column item column))
    ∙ ap (leaf_fit s) (sym (l.rolls-Column item column)) ∙ leaf_roll s (layer.Column item column)

cmp_fits : (s : Scope) (a : Expr) (op : CmpOp) (b : Expr) → expression_fits s (e.Cmp a op b) ≡ (expression_fits s a && expression_fits s b)
cmp_fits s a op b = ap (expression_fits s) (sym (e.rolls-Cmp a op b)) ∙ fits_roll s (layer.«Expr::Cmp» a op b)

both : (a b : Bool) → a ≡ true → b ≡ true → (a && b) ≡ true
both a b p q = ap (λ x. x && b) p ∙ q

-- a comparison of the key with a value
pub key_fits : (r : Result Expr Memory) (k : Expr) (op : CmpOp) (v : Value) → IfOk r (λ f. f ≡ e.Cmp k op (e.Lit v)) → k ≡ e.Leaf (l.Column 0 0)
    → IfOk r (λ f. expression_fits (row_scope (2 ∷ [])) f ≡ true)
key_fits (Err m) k op v same key = tt
key_fits (Ok f) k op v same key =
    let s = row_scope (2 ∷ []) in
    ap (expression_fits s) (same ∙ ap (λ (x : Expr). e.Cmp x op (e.Lit v)) key) ∙ cmp_fits s (e.Leaf (l.Column 0 0)) op (e.Lit v)
    ∙ both (expression_fits s (e.Leaf (l.Column 0 0))) (expression_fits s (e.Lit v)) (column_fits s 0 0) (lit_fits s v)

pub insert_fits : (name : List ℕ) (rows : List (List Expr)) (row : List Expr) (v w : Value) → rows ≡ row ∷ [] → row ≡ e.Lit v ∷ e.Lit w ∷ []
    → (s : Schema) → length s.cols ≡ 2 → change_fits_schema s (Insert name rows) ≡ true
insert_fits name rows row v w r o s n =
    let none = row_scope [] in
    let fit = both (expression_fits none (e.Lit v)) (list_all (expression_fits none) (e.Lit w ∷ [])) (lit_fits none v)
    (both (expression_fits none (e.Lit w)) true (lit_fits none w) refl) in
    let long : (2 == length s.cols) ≡ true = ap (λ k. 2 == k) n in
    ap (λ (xs : List (List Expr)). list_all (inserts_fit s) xs) (r ∙ ap (λ (x : List Expr). x ∷ []) o)
    ∙ both (inserts_fit s (e.Lit v ∷ e.Lit w ∷ [])) true (both (2 == length s.cols) (list_all (expression_fits none) (e.Lit v ∷ e.Lit w ∷ [])) long fit) refl

filter_fits : (f : Expr) → expression_fits (row_scope (2 ∷ [])) f ≡ true → (s : Schema) → length s.cols ≡ 2 → fits_if_there (row_scope (length s.cols ∷ [])) (Some f) ≡ true
filter_fits f h s n = ap (λ k. expression_fits (row_scope (k ∷ [])) f) n ∙ h

pub update_fits : (name : List ℕ) (sets : List (ℕ × Expr)) (f : Expr) (v : Value) → sets ≡ (1, e.Lit v) ∷ [] → expression_fits (row_scope (2 ∷ [])) f ≡ true
    → (s : Schema) → length s.cols ≡ 2 → change_fits_schema s (Update name sets (Some f)) ≡ true
update_fits name sets f v r h s n =
    let set = both (nat_lt 1 (length s.cols)) (expression_fits (row_scope (length s.cols ∷ [])) (e.Lit v)) (ap (λ k. nat_lt 1 k) n) (lit_fits (row_scope (length s.cols ∷ [])) v) in
    both (list_all (set_fits s) sets) (fits_if_there (row_scope (length s.cols ∷ [])) (Some f))
    (ap (λ (xs : List (ℕ × Expr)). list_all (set_fits s) xs) r ∙ both (set_fits s (1, e.Lit v)) true set refl) (filter_fits f h s n)

pub delete_fits : (name : List ℕ) (f : Expr) → expression_fits (row_scope (2 ∷ [])) f ≡ true → (s : Schema) → length s.cols ≡ 2 → change_fits_schema s (Delete name (Some f)) ≡ true
delete_fits name f h s n = filter_fits f h s n

-- a change of a table that is there and has two columns
there_fits : (tables : Tables) (name table : List ℕ) (c : Change) (b : Bool) → table_of c ≡ table → table ≡ name
    → b ≡ option_map_or (λ (t : Table). length t.schema.cols == 2) (table_at tables name) false → b ≡ true
    → ((s : Schema) → length s.cols ≡ 2 → change_fits_schema s c ≡ true)
    → option_map_or (λ (t : Table). change_fits_schema t.schema c) (table_at tables (table_of c)) false ≡ true
there_fits tables name table c b p q two so h =
    ap (λ n. option_map_or (λ (t : Table). change_fits_schema t.schema c) (table_at tables n) false) (p ∙ q) ∙ by (table_at tables name) (sym two ∙ so)
  where
    by : (t : Option Table) → option_map_or (λ (t : Table). length t.schema.cols == 2) t false ≡ true → option_map_or (λ (t : Table). change_fits_schema t.schema c) t false ≡ true
    by None e = absurd (cc)
    by (Some t) e = h t.schema (eqb-true (length t.schema.cols) 2 e)

-- the same of a change that is made if memory is left
pub there_fit : (tables : Tables) (name table : List ℕ) (r : Result Change Memory) (b : Bool) → IfOk r (λ c. table_of c ≡ table)
    → IfOk r (λ c. (s : Schema) → length s.cols ≡ 2 → change_fits_schema s c ≡ true) → table ≡ name
    → b ≡ option_map_or (λ (t : Table). length t.schema.cols == 2) (table_at tables name) false → b ≡ true
    → IfOk r (λ c. option_map_or (λ (t : Table). change_fits_schema t.schema c) (table_at tables (table_of c)) false ≡ true)
there_fit tables name table (Err m) b p h q two so = tt
there_fit tables name table (Ok c) b p h q two so = there_fits tables name table c b p q two so h

-- what holds of each of a list holds of the last
pub last_stands : {A : Type 0} (P : A → Type 0) (xs ys all : List A) (last : Option A) → xs ≡ ys ++ option_to_list last → xs ≡ all → All P all → IfSome last P
last_stands P xs ys all last e s h = (All-pop P xs ys last e (All-same P xs all s h)).1

-- what holds of what was made holds of it where it is not refused
pub made_stands : {A E : Type 0} (P : A → Type 0) (made : Result A E) (found : Result (Option A) Memory)
    → IfOk found (λ f. IfSome f (λ (x : A). made ≡ Ok x)) → IfOk made P → IfOk found (λ f. IfSome f P)
made_stands P made (Err m) h k = tt
made_stands P made (Ok None) h k = tt
made_stands {A} {E} P made (Ok (Some x)) h k = subst (λ (r : Result A E). IfOk r P) h k

-- what holds of what was made holds of it in a box
pub boxed_stands : {A E : Type 0} (P : A → Type 0) (made : Result A E) (found : Result A Memory)
    → IfOk found (λ (x : A). made ≡ Ok x) → IfOk made P → IfOk found P
boxed_stands P made (Err m) h k = tt
boxed_stands {A} {E} P made (Ok x) h k = subst (λ (r : Result A E). IfOk r P) h k
