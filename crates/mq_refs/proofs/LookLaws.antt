-- The looks of an expression, case by case.
use Rattle.std.specs.Prelude.{◌≡◌, Bool, List, [], ◌∷◌, ◌++◌, Option, Some, None, refl}
use Rattle.std.specs.List.{flat_map}
use Rattle.std.proofs.Common.{sym, ap, ◌∙◌, append_assoc}
use Rattle.std.proofs.lemmas.Grind.{flat_map-append}
use Rattle.std.proofs.lemmas.List.{append-nil}
use Rattle.mq_values.specs.declared.operators.CmpOp.{CmpOp}
use Rattle.mq_values.specs.declared.operators.Func.{Func}
use Rattle.mq_values.specs.declared.value.Kind.{Kind}
use Rattle.mq_values.specs.declared.value.Value.{Value}
use Rattle.mq_ir.specs.declared.expression.BoundArm.{BoundArm}
use Rattle.mq_ir.specs.declared.expression.BoundProd.{BoundProd}
use Rattle.mq_ir.specs.declared.expression.BoundSum.{BoundSum}
use Rattle.mq_ir.specs.declared.expression.Expr.{Expr}
use Rattle.mq_ir.specs.declared.expression.Expr.TheVariants as e
use Rattle.mq_ir.specs.declared.expression.Leaf.{Leaf}
use Rattle.mq_ir.specs.declared.query.Look.{Look}
use Rattle.mq_ir.specs.LeavesLaws as law
use Rattle.mq_ir.specs.LeavesLaws.{leaves_where_any}
use Rattle.mq_ir.specs.Looks.{Leaves, leaves_of}
use Rattle.mq_refs.specs.LookLists.{looks_by, looks_in_arm, looks_in_factor, looks_in_term, looks_where_any}

module _ (of : Leaf → List Look) where
  -- the looks of leaves that stand behind one another
  abbrev over : Leaves → List Look
  over = flat_map of

  joined : (a b : Leaves) → over (a ++ b) ≡ over a ++ over b
  joined a b = flat_map-append of a b

  -- the looks of what is found item by item
  nested : {A : Type 0} (f : A → Leaves) (xs : List A) → over (flat_map f xs) ≡ flat_map (λ x. over (f x)) xs
  nested f [] = refl
  nested f (x ∷ xs) = joined (f x) (flat_map f xs) ∙ ap (λ looks. over (f x) ++ looks) (nested f xs)

  alike : {A : Type 0} (f g : A → List Look) → ((x : A) → f x ≡ g x) → (xs : List A) → flat_map f xs ≡ flat_map g xs
  alike f g h [] = refl
  alike f g h (x ∷ xs) = λ i. h x i ++ alike f g h xs i

  pub looks_or : (es : List Expr) → looks_by of (e.Or es) ≡ flat_map (looks_by of) es
  looks_or es = ap over (law.leaves_or es) ∙ nested leaves_of es

  pub looks_and : (es : List Expr) → looks_by of (e.And es) ≡ flat_map (looks_by of) es
  looks_and es = ap over (law.leaves_and es) ∙ nested leaves_of es

  pub looks_call : (f : Func) (es : List Expr) → looks_by of (e.Call f es) ≡ flat_map (looks_by of) es
  looks_call f es = ap over (law.leaves_call f es) ∙ nested leaves_of es

  pub looks_not : (a : Expr) → looks_by of (e.Not a) ≡ looks_by of a
  looks_not a = ap over (law.leaves_not a)

  pub looks_is_null : (a : Expr) (negated : Bool) → looks_by of (e.IsNull a negated) ≡ looks_by of a
  looks_is_null a negated = ap over (law.leaves_is_null a negated)

  pub looks_neg : (a : Expr) → looks_by of (e.Neg a) ≡ looks_by of a
  looks_neg a = ap over (law.leaves_neg a)

  pub looks_cast : (a : Expr) (k : Kind) → looks_by of (e.Cast a k) ≡ looks_by of a
  looks_cast a k = ap over (law.leaves_cast a k)

  pub looks_convert : (a : Expr) (k : Kind) → looks_by of (e.Convert a k) ≡ looks_by of a
  looks_convert a k = ap over (law.leaves_convert a k)

  pub looks_cmp : (a : Expr) (op : CmpOp) (b : Expr) → looks_by of (e.Cmp a op b) ≡ looks_by of a ++ looks_by of b
  looks_cmp a op b = ap over (law.leaves_cmp a op b) ∙ joined (leaves_of a) (leaves_of b)

  pub looks_between : (a : Expr) (negated : Bool) (b c : Expr) → looks_by of (e.Between a negated b c) ≡ looks_by of a ++ looks_by of b ++ looks_by of c
  looks_between a negated b c =
      ap over (law.leaves_between a negated b c) ∙ joined (leaves_of a ++ leaves_of b) (leaves_of c)
      ∙ ap (λ looks. looks ++ looks_by of c) (joined (leaves_of a) (leaves_of b))

  pub looks_in : (a : Expr) (negated : Bool) (es : List Expr) → looks_by of (e.InList a negated es) ≡ looks_by of a ++ flat_map (looks_by of) es
  looks_in a negated es =
      ap over (law.leaves_in a negated es) ∙ joined (leaves_of a) (flat_map leaves_of es) ∙ ap (λ looks. looks_by of a ++ looks) (nested leaves_of es)

  pub looks_is_present : (l : Leaf) (negated : Bool) → looks_by of (e.IsPresent l negated) ≡ of l
  looks_is_present l negated = ap over (law.leaves_is_present l negated) ∙ append-nil (of l)

  pub looks_leaf : (l : Leaf) → looks_by of (e.Leaf l) ≡ of l
  looks_leaf l = ap over (law.leaves_leaf l) ∙ append-nil (of l)

  pub looks_lit : (v : Value) → looks_by of (e.Lit v) ≡ []
  looks_lit v = ap over (law.leaves_lit v)

  pub looks_sum : (a : Expr) (terms : List BoundSum) → looks_by of (e.Sum a terms) ≡ looks_by of a ++ flat_map (looks_in_term of) terms
  looks_sum a terms =
      ap over (law.leaves_sum a terms) ∙ joined (leaves_of a) (flat_map (λ t. leaves_of t.e) terms)
      ∙ ap (λ looks. looks_by of a ++ looks) (nested (λ t. leaves_of t.e) terms)

  pub looks_prod : (a : Expr) (factors : List BoundProd) → looks_by of (e.Prod a factors) ≡ looks_by of a ++ flat_map (looks_in_factor of) factors
  looks_prod a factors =
      ap over (law.leaves_prod a factors) ∙ joined (leaves_of a) (flat_map (λ t. leaves_of t.e) factors)
      ∙ ap (λ looks. looks_by of a ++ looks) (nested (λ t. leaves_of t.e) factors)

  pub looks_present_v : (l : Leaf) (a b : Expr) → looks_by of (e.PresentV l a b) ≡ of l ++ (looks_by of a ++ looks_by of b)
  looks_present_v l a b =
      ap over (law.leaves_present_v l a b) ∙ ap (λ looks. of l ++ looks) (joined (leaves_of a) (leaves_of b))

  pub looks_present_nnv : (l : Leaf) (n : Leaf) (a b : Expr) → looks_by of (e.PresentNnv l n a b) ≡ of l ++ (of n ++ (looks_by of a ++ looks_by of b))
  looks_present_nnv l n a b =
      ap over (law.leaves_present_nnv l n a b)
      ∙ ap (λ looks. of l ++ (of n ++ looks)) (joined (leaves_of a) (leaves_of b))

  where_any : (x : Option Expr) → over (leaves_where_any x) ≡ looks_where_any of x
  where_any None = refl
  where_any (Some x) = refl

  in_arms : (arms : List BoundArm) → over (flat_map (λ a. leaves_of a.test ++ leaves_of a.value) arms) ≡ flat_map (looks_in_arm of) arms
  in_arms arms =
      nested (λ a. leaves_of a.test ++ leaves_of a.value) arms
      ∙ alike (λ a. over (leaves_of a.test ++ leaves_of a.value)) (looks_in_arm of) (λ a. joined (leaves_of a.test) (leaves_of a.value)) arms

  pub looks_case : (on : Option Expr) (arms : List BoundArm) (or_else : Option Expr)
      → looks_by of (e.Case on arms or_else) ≡ looks_where_any of on ++ flat_map (looks_in_arm of) arms ++ looks_where_any of or_else
  looks_case on arms or_else =
      let in_all : Leaves = flat_map (λ a. leaves_of a.test ++ leaves_of a.value) arms in
      ap over (law.leaves_case on arms or_else)
      ∙ joined (leaves_where_any on ++ in_all) (leaves_where_any or_else)
      ∙ (λ i. joined (leaves_where_any on) in_all i ++ where_any or_else i)
      ∙ (λ i. (where_any on i ++ in_arms arms i) ++ looks_where_any of or_else)

  -- what is put behind others part by part
  two : (front a b : List Look) → front ++ (a ++ b) ≡ front ++ a ++ b
  two front a b = sym (append_assoc front a b)

  three : (front a b c : List Look) → front ++ (a ++ b ++ c) ≡ front ++ a ++ b ++ c
  three front a b c = two front (a ++ b) c ∙ ap (λ looks. looks ++ c) (two front a b)

  pub put_lit : (front : List Look) (v : Value) → front ++ looks_by of (e.Lit v) ≡ front
  put_lit front v = ap (λ looks. front ++ looks) (looks_lit v) ∙ append-nil front

  pub put_cmp : (front : List Look) (a : Expr) (op : CmpOp) (b : Expr) → front ++ looks_by of (e.Cmp a op b) ≡ front ++ looks_by of a ++ looks_by of b
  put_cmp front a op b = ap (λ looks. front ++ looks) (looks_cmp a op b) ∙ two front (looks_by of a) (looks_by of b)

  pub put_between : (front : List Look) (a : Expr) (negated : Bool) (b c : Expr)
      → front ++ looks_by of (e.Between a negated b c) ≡ front ++ looks_by of a ++ looks_by of b ++ looks_by of c
  put_between front a negated b c =
      ap (λ looks. front ++ looks) (looks_between a negated b c) ∙ three front (looks_by of a) (looks_by of b) (looks_by of c)

  pub put_in : (front : List Look) (a : Expr) (negated : Bool) (es : List Expr)
      → front ++ looks_by of (e.InList a negated es) ≡ front ++ looks_by of a ++ flat_map (looks_by of) es
  put_in front a negated es = ap (λ looks. front ++ looks) (looks_in a negated es) ∙ two front (looks_by of a) (flat_map (looks_by of) es)

  pub put_sum : (front : List Look) (a : Expr) (terms : List BoundSum)
      → front ++ looks_by of (e.Sum a terms) ≡ front ++ looks_by of a ++ flat_map (looks_in_term of) terms
  put_sum front a terms = ap (λ looks. front ++ looks) (looks_sum a terms) ∙ two front (looks_by of a) (flat_map (looks_in_term of) terms)

  pub put_prod : (front : List Look) (a : Expr) (factors : List BoundProd)
      → front ++ looks_by of (e.Prod a factors) ≡ front ++ looks_by of a ++ flat_map (looks_in_factor of) factors
  put_prod front a factors = ap (λ looks. front ++ looks) (looks_prod a factors) ∙ two front (looks_by of a) (flat_map (looks_in_factor of) factors)

  pub put_present_v : (front : List Look) (l : Leaf) (a b : Expr)
      → front ++ looks_by of (e.PresentV l a b) ≡ front ++ of l ++ looks_by of a ++ looks_by of b
  put_present_v front l a b =
      ap (λ looks. front ++ looks) (looks_present_v l a b)
      ∙ two front (of l) (looks_by of a ++ looks_by of b)
      ∙ two (front ++ of l) (looks_by of a) (looks_by of b)

  pub put_present_nnv : (front : List Look) (l : Leaf) (n : Leaf) (a b : Expr)
      → front ++ looks_by of (e.PresentNnv l n a b) ≡ front ++ of l ++ of n ++ looks_by of a ++ looks_by of b
  put_present_nnv front l n a b =
      ap (λ looks. front ++ looks) (looks_present_nnv l n a b)
      ∙ two front (of l) (of n ++ (looks_by of a ++ looks_by of b))
      ∙ two (front ++ of l) (of n) (looks_by of a ++ looks_by of b)
      ∙ two (front ++ of l ++ of n) (looks_by of a) (looks_by of b)

  pub put_case : (front : List Look) (on : Option Expr) (arms : List BoundArm) (or_else : Option Expr)
      → front ++ looks_by of (e.Case on arms or_else) ≡ front ++ looks_where_any of on ++ flat_map (looks_in_arm of) arms ++ looks_where_any of or_else
  put_case front on arms or_else =
      ap (λ looks. front ++ looks) (looks_case on arms or_else)
      ∙ three front (looks_where_any of on) (flat_map (looks_in_arm of) arms) (looks_where_any of or_else)

  -- CASE, put part by part
  pub put_case_parts : (front first second : List Look) (whole : Expr) (on : Option Expr) (or_else : Option Expr) (arms lent : List BoundArm)
      → whole ≡ e.Case on arms or_else → lent ≡ arms
      → first ≡ front ++ looks_where_any of on → second ≡ first ++ flat_map (looks_in_arm of) lent
      → second ++ looks_where_any of or_else ≡ front ++ looks_by of whole
  put_case_parts front first second whole on or_else arms lent is same one next =
      ap (λ looks. looks ++ looks_where_any of or_else)
      (next ∙ ap (λ xs. first ++ flat_map (looks_in_arm of) xs) same ∙ ap (λ looks. looks ++ flat_map (looks_in_arm of) arms) one)
      ∙ sym (put_case front on arms or_else)
      ∙ ap (λ x. front ++ looks_by of x) (sym is)

-- all of them together: those of one part, and those of more that are put behind others
pub ruleset looks_laws = (looks_or, looks_and, looks_call, looks_not, looks_is_null, looks_neg, looks_cast, looks_convert, looks_is_present, looks_leaf, put_lit, put_cmp, put_between, put_in, put_sum, put_prod, put_present_v, put_present_nnv)
