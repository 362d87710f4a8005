-- The nodes of operators, functions and CASE: where their operands are as is asked, so is what they make.
use Rattle.std.proofs.Common.{◌≡◌, List, [], ◌∷◌, map, length, Bool, true, false, not, Option, Some, None, Result, Ok, refl, sym, ap, ◌∙◌, subst}
use Rattle.std.specs.Prelude.{if◌then◌else◌}
use Rattle.std.specs.Option.{option_map, option_map_or}
use Rattle.std.proofs.lemmas.List.{length-map}
use Rattle.mq_values.specs.declared.faults.Refused.{Refused}
use Rattle.mq_values.specs.declared.operators.CmpOp.{CmpOp}
use Rattle.mq_values.specs.declared.operators.Func.{Func}
use Rattle.mq_values.specs.declared.operators.ProdOp.{ProdOp}
use Rattle.mq_values.specs.declared.operators.SumOp.{SumOp}
use Rattle.mq_values.specs.declared.value.Kind.{Kind}
use Rattle.mq_values.specs.declared.value.Value.{Value}
use Rattle.mq_ir.specs.declared.expression.BoundProd.{BoundProd}
use Rattle.mq_ir.specs.declared.expression.BoundSum.{BoundSum}
use Rattle.mq_ir.specs.declared.expression.Expr.{Expr}
use Rattle.mq_ir.specs.declared.expression.Expr.TheVariants as expr
use Rattle.mq_ir.specs.FitsExpression.{Scope, call_fits}
use Rattle.mq_ir.specs.Results.{◌>>=◌}
use Rattle.mq_bind_scopes.specs.declared.kinds.ExprKind.{ExprKind}
use Rattle.mq_bind_scopes.specs.declared.kinds.ExprKind.TheVariants as kind
use Rattle.mq_bind_scopes.specs.declared.scopes.Found.{Found}
use Rattle.mq_bind_expr.specs.FunctionNodes.{ArmFound, arguments_of, bound_arm, bound_arms, call_node, case_kind, case_node, case_of, converted, converted_all, converted_found, expr_found, is_nvl, kinds_if_any, result_kind, results_kind, tests_fit}
use Rattle.mq_bind_scopes.specs.Kinds.{column_kind, common, common_from, number_scale, value_kind, wider}
use Rattle.mq_bind_expr.specs.NameNodes.{a_condition, a_value}
use Rattle.mq_bind_scopes.specs.OperatorKinds.{call_kind, cast_kind, chain_kind, product_kind, sum_kind}
use Rattle.mq_bind_expr.specs.OperatorNodes.{all_conditions, and_node, between_node, cast_node, cmp_node, equated_by, exprs_of, go_together, in_node, is_condition_found, kinds_of, lit_node, neg_node, not_node, null_node, or_node, prod_node, prod_terms, sum_node, sum_terms, term_kinds}
use Rattle.mq_bind_scopes.specs.Refusals.{kind_mismatch}
use Rattle.mq_binder.specs.Literals.{is_within}
use Rattle.mq_binder.proofs.FineLemmas.{ArmSound, SoundIfAny, arm_sound, fine_and, fine_between, fine_call, fine_case, fine_cast, fine_cmp, fine_convert, fine_in, fine_is_null, fine_lit, fine_neg, fine_not, fine_or, fine_prod, fine_sum, none_sound}
use Rattle.mq_binder.proofs.KindLemmas.{Within, call_within, cast_within, chain_within, column_fits, common_within, product_within, scale_within, sum_within}
use Rattle.mq_binder.proofs.SoundLemmas.{Fine}
use Rattle.mq_binder.proofs.FitStepLemmas.{Each, ok_is, passed, went}

-- what an expression is bound to is as is asked of it where it stands, and its kind is within the limit of scales
pub record FoundFits (s : Scope) (c i : Bool) (f : Found) : Type 0 where
  pub fine : Fine s c i f.e
  pub within : Within f.kind

module _ (s : Scope) (c i : Bool) where
  pub settled : (x f : Found) → ◌≡◌ {A = Result Found Refused} (Ok x) (Ok f) → FoundFits s c i x → FoundFits s c i f
  settled x f h k = subst (FoundFits s c i) (ok_is x f h) k

  pub fines : (fs : List Found) → Each (FoundFits s c i) fs → Each (Fine s c i) (exprs_of fs)
  fines [] h = tt
  fines (f ∷ fs) h = (h.0.fine, fines fs h.1)

  pub withins : (fs : List Found) → Each (FoundFits s c i) fs → Each Within (kinds_of fs)
  withins [] h = tt
  withins (f ∷ fs) h = (h.0.within, withins fs h.1)

  pub or_fits : (fs : List Found) (f : Found) → or_node fs ≡ Ok f → Each (FoundFits s c i) fs → FoundFits s c i f
  or_fits fs f h k =
      let x = a_condition (expr.Or (exprs_of fs)) in
      let p = passed (not (all_conditions fs)) kind_mismatch (Ok x) f h in
      settled x f p.after (record { fine = fine_or s c i (exprs_of fs) (fines fs k); within = refl })

  pub and_fits : (fs : List Found) (f : Found) → and_node fs ≡ Ok f → Each (FoundFits s c i) fs → FoundFits s c i f
  and_fits fs f h k =
      let x = a_condition (expr.And (exprs_of fs)) in
      let p = passed (not (all_conditions fs)) kind_mismatch (Ok x) f h in
      settled x f p.after (record { fine = fine_and s c i (exprs_of fs) (fines fs k); within = refl })

  pub not_fits : (a f : Found) → not_node a ≡ Ok f → FoundFits s c i a → FoundFits s c i f
  not_fits a f h k =
      let x = a_condition (expr.Not a.e) in
      let p = passed (not (is_condition_found a)) kind_mismatch (Ok x) f h in
      settled x f p.after (record { fine = fine_not s c i a.e k.fine; within = refl })

  pub cmp_fits : (op : CmpOp) (a b f : Found) → cmp_node op a b ≡ Ok f → FoundFits s c i a → FoundFits s c i b → FoundFits s c i f
  cmp_fits op a b f h k m =
      let x : Found = record { e = expr.Cmp a.e op b.e; kind = kind.Condition; equated = equated_by op b.kind } in
      let g = went (go_together a.kind b.kind) (λ k. Ok x) f h in
      settled x f g.after (record { fine = fine_cmp s c i a.e op b.e k.fine m.fine; within = refl })

  pub between_fits : (negated : Bool) (a low high f : Found) → between_node negated a low high ≡ Ok f → FoundFits s c i a → FoundFits s c i low → FoundFits s c i high → FoundFits s c i f
  between_fits negated a low high f h k m n =
      let x = a_condition (expr.Between a.e negated low.e high.e) in
      let g = went (go_together a.kind low.kind) (λ k. wider k high.kind >>= (λ l. Ok x)) f h in
      let j = went (wider g.value high.kind) (λ l. Ok x) f g.after in
      settled x f j.after (record { fine = fine_between s c i a.e negated low.e high.e k.fine m.fine n.fine; within = refl })

  pub in_fits : (negated : Bool) (a : Found) (fs : List Found) (f : Found) → in_node negated a fs ≡ Ok f → FoundFits s c i a → Each (FoundFits s c i) fs → FoundFits s c i f
  in_fits negated a fs f h k m =
      let x = a_condition (expr.InList a.e negated (exprs_of fs)) in
      let g = went (common (a.kind ∷ kinds_of fs)) (λ k. Ok x) f h in
      settled x f g.after (record { fine = fine_in s c i a.e negated (exprs_of fs) k.fine (fines fs m); within = refl })

  pub null_fits : (negated : Bool) (a f : Found) → null_node negated a ≡ Ok f → FoundFits s c i a → FoundFits s c i f
  null_fits negated a f h k =
      let x = a_condition (expr.IsNull a.e negated) in
      let p = passed (is_condition_found a) kind_mismatch (Ok x) f h in
      settled x f p.after (record { fine = fine_is_null s c i a.e negated k.fine; within = refl })

  pub sums_fine : (ts : List (SumOp × Found)) → Each (λ (t : SumOp × Found). FoundFits s c i t.1) ts → Each (λ (t : BoundSum). Fine s c i t.e) (sum_terms ts)
  sums_fine [] h = tt
  sums_fine (t ∷ ts) h = (h.0.fine, sums_fine ts h.1)

  pub prods_fine : (ts : List (ProdOp × Found)) → Each (λ (t : ProdOp × Found). FoundFits s c i t.1) ts → Each (λ (t : BoundProd). Fine s c i t.e) (prod_terms ts)
  prods_fine [] h = tt
  prods_fine (t ∷ ts) h = (h.0.fine, prods_fine ts h.1)

  terms_within : {Op : Type 0} (ts : List (Op × Found)) → Each (λ (t : Op × Found). FoundFits s c i t.1) ts → Each (λ (t : Op × ExprKind). Within t.1) (term_kinds ts)
  terms_within [] h = tt
  terms_within (t ∷ ts) h = (h.0.within, terms_within ts h.1)

  pub sum_fits : (a : Found) (ts : List (SumOp × Found)) (f : Found) → sum_node a ts ≡ Ok f → FoundFits s c i a → Each (λ (t : SumOp × Found). FoundFits s c i t.1) ts → FoundFits s c i f
  sum_fits a ts f h k m =
      let e = expr.Sum a.e (sum_terms ts) in
      let g = went (chain_kind sum_kind a.kind (term_kinds ts)) (λ k. Ok (a_value e k)) f h in
      settled (a_value e g.value) f g.after (record {
        fine = fine_sum s c i a.e (sum_terms ts) k.fine (sums_fine ts m);
        within = chain_within sum_kind sum_within a.kind (term_kinds ts) g.value g.first k.within (terms_within ts m);
      })

  pub prod_fits : (a : Found) (ts : List (ProdOp × Found)) (f : Found) → prod_node a ts ≡ Ok f → FoundFits s c i a → Each (λ (t : ProdOp × Found). FoundFits s c i t.1) ts → FoundFits s c i f
  prod_fits a ts f h k m =
      let e = expr.Prod a.e (prod_terms ts) in
      let g = went (chain_kind product_kind a.kind (term_kinds ts)) (λ k. Ok (a_value e k)) f h in
      settled (a_value e g.value) f g.after (record {
        fine = fine_prod s c i a.e (prod_terms ts) k.fine (prods_fine ts m);
        within = chain_within product_kind product_within a.kind (term_kinds ts) g.value g.first k.within (terms_within ts m);
      })

  pub neg_fits : (a f : Found) → neg_node a ≡ Ok f → FoundFits s c i a → FoundFits s c i f
  neg_fits a f h k =
      let g = went (number_scale a.kind) (λ s. Ok (a_value (expr.Neg a.e) (kind.Number s))) f h in
      settled (a_value (expr.Neg a.e) (kind.Number g.value)) f g.after (record { fine = fine_neg s c i a.e k.fine; within = scale_within a.kind g.value g.first k.within })

  pub lit_fits : (v : Value) (f : Found) → ◌≡◌ {A = Result Found Refused} (Ok (lit_node v)) (Ok f) → is_within (value_kind v) ≡ true → FoundFits s c i f
  lit_fits v f h w = settled (lit_node v) f h (record { fine = fine_lit s c i v; within = w })

  pub cast_fits : (to : Kind) (a f : Found) → cast_node to a ≡ Ok f → FoundFits s c i a → FoundFits s c i f
  cast_fits to a f h k =
      let g = went (cast_kind to a.kind) (λ k. Ok (a_value (expr.Cast a.e to) k)) f h in
      let w = cast_within to a.kind g.value g.first in
      settled (a_value (expr.Cast a.e to) g.value) f g.after (record { fine = fine_cast s c i a.e to k.fine w.0; within = w.1 })

  -- a result that is brought to the kind of the whole
  converted_to : (o : Option Kind) (k : ExprKind) (e : Expr) → column_kind k ≡ o → Within k → Fine s c i e → Fine s c i (option_map_or (expr.Convert e) o e)
  converted_to None k e h w f = f
  converted_to (Some to) k e h w f = fine_convert s c i e to f (column_fits k to h w)

  pub converted_fine : (k : ExprKind) (e : Expr) → Within k → Fine s c i e → Fine s c i (converted k e)
  converted_fine k e w f = converted_to (column_kind k) k e refl w f

  all_converted : (k : ExprKind) (fs : List Found) → Within k → Each (FoundFits s c i) fs → Each (Fine s c i) (converted_all k fs)
  all_converted k [] w h = tt
  all_converted k (f ∷ fs) w h = (converted_fine k f.e w h.0.fine, all_converted k fs w h.1)

  arguments_fine : (nvl : Bool) (k : ExprKind) (fs : List Found) → Within k → Each (FoundFits s c i) fs → Each (Fine s c i) (if nvl then converted_all k fs else exprs_of fs)
  arguments_fine true k fs w h = all_converted k fs w h
  arguments_fine false k fs w h = fines fs h

  arguments_long : (nvl : Bool) (k : ExprKind) (fs : List Found) → length (if nvl then converted_all k fs else exprs_of fs) ≡ length fs
  arguments_long true k fs = length-map fs (converted_found k)
  arguments_long false k fs = length-map fs (λ (f : Found). f.e)

  pub call_node_fits : (f : Func) (fs : List Found) (g : Found) → call_node f fs ≡ Ok g → Each (FoundFits s c i) fs → FoundFits s c i g
  call_node_fits f fs g h k =
      let j = went (call_kind f (kinds_of fs)) (λ k. Ok (a_value (expr.Call f (arguments_of f k fs)) k)) g h in
      let w = call_within f (kinds_of fs) j.value j.first (withins fs k) in
      let n : length (arguments_of f j.value fs) ≡ length (kinds_of fs) = arguments_long (is_nvl f) j.value fs ∙ sym (length-map fs (λ (f : Found). f.kind)) in
      settled (a_value (expr.Call f (arguments_of f j.value fs)) j.value) g j.after (record {
        fine = fine_call s c i f (arguments_of f j.value fs) (ap (call_fits f) n ∙ w.0) (arguments_fine (is_nvl f) j.value fs w.1 k);
        within = w.1;
      })

  -- CASE
  abbrev pub ArmFits : ArmFound → Type 0
  ArmFits a = FoundFits s c i a.0 × FoundFits s c i a.1

  abbrev pub FitsIfAny : Option Found → Type 0
  FitsIfAny None = Unit {0}
  FitsIfAny (Some f) = FoundFits s c i f

  results_within : (arms : List ArmFound) → Each ArmFits arms → Each Within (map result_kind arms)
  results_within [] h = tt
  results_within (a ∷ arms) h = (h.0.1.within, results_within arms h.1)

  last_within : (or_else : Option Found) → FitsIfAny or_else → Each Within (kinds_if_any or_else)
  last_within None h = tt
  last_within (Some f) h = (h.within, tt)

  arms_sound : (k : ExprKind) (arms : List ArmFound) → Within k → Each ArmFits arms → Each (ArmSound s c i) (bound_arms k arms)
  arms_sound k [] w h = tt
  arms_sound k (a ∷ arms) w h = (arm_sound s c i (bound_arm k a) h.0.0.fine (converted_fine k a.1.e w h.0.1.fine), arms_sound k arms w h.1)

  subject_sound : (subject : Option Found) → FitsIfAny subject → SoundIfAny s c i (option_map expr_found subject)
  subject_sound None h = none_sound s c i
  subject_sound (Some f) h = h.fine.sound

  last_sound : (k : ExprKind) (or_else : Option Found) → Within k → FitsIfAny or_else → SoundIfAny s c i (option_map (converted_found k) or_else)
  last_sound k None w h = none_sound s c i
  last_sound k (Some f) w h = (converted_fine k f.e w h.fine).sound

  pub case_fits : (subject : Option Found) (arms : List ArmFound) (or_else : Option Found) (f : Found) → case_node subject arms or_else ≡ Ok f
      → FitsIfAny subject → Each ArmFits arms → FitsIfAny or_else → FoundFits s c i f
  case_fits subject arms or_else f h p q r =
      let g = went (case_kind subject arms or_else) (λ k. Ok (a_value (case_of k subject arms or_else) k)) f h in
      let j = went (tests_fit subject arms) (λ compared. results_kind arms or_else) g.value g.first in
      let m = went (common (map result_kind arms)) (λ k. common_from k (kinds_if_any or_else)) g.value j.after in
      let v = common_within kind.Null (map result_kind arms) m.value m.first refl (results_within arms q) in
      let w = common_within m.value (kinds_if_any or_else) g.value m.after v (last_within or_else r) in
      settled (a_value (case_of g.value subject arms or_else) g.value) f g.after (record {
        fine =
            fine_case s c i (option_map expr_found subject) (bound_arms g.value arms) (option_map (converted_found g.value) or_else)
            (subject_sound subject p) (arms_sound g.value arms w q) (last_sound g.value or_else w r);
        within = w;
      })
