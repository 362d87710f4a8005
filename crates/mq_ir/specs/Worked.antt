-- Models in their bound forms over small inputs, with the results that were worked out by hand.
use Rattle.std.specs.Prelude.{◌≡◌, ℕ, pos, List, [], ◌∷◌, Bool, true, false, Some, None, codes}
use Rattle.mq_values.specs.declared.faults.FaultKind.{FaultKind}
use Rattle.mq_values.specs.declared.faults.FaultKind.TheVariants as fault
use Rattle.mq_values.specs.declared.operators.Agg.TheVariants as agg
use Rattle.mq_values.specs.declared.operators.CmpOp.TheVariants as cmp
use Rattle.mq_values.specs.declared.operators.Mode.TheVariants as mode
use Rattle.mq_values.specs.declared.operators.ProdOp.TheVariants.{Mul, Div}
use Rattle.mq_values.specs.declared.operators.SumOp.TheVariants.{Sub}
use Rattle.mq_values.specs.declared.value.Kind.TheVariants as kind
use Rattle.mq_values.specs.declared.value.Value.{Value}
use Rattle.mq_values.specs.declared.value.Value.TheVariants as value
use Rattle.mq_ir.specs.declared.expression.Expr.{Expr}
use Rattle.mq_ir.specs.declared.expression.Expr.TheVariants as e
use Rattle.mq_ir.specs.declared.expression.Leaf.TheVariants as leaf
use Rattle.mq_ir.specs.declared.expression.Test.TheVariants as test
use Rattle.mq_ir.specs.declared.query.Left.TheVariants as left
use Rattle.mq_ir.specs.declared.query.LeftItem.{LeftItem}
use Rattle.mq_ir.specs.declared.query.LeftItem.TheVariants as item
use Rattle.mq_ir.specs.declared.query.OutCell.{OutCell}
use Rattle.mq_ir.specs.declared.query.PartInput.{PartInput}
use Rattle.mq_ir.specs.declared.query.PartResult.{PartResult}
use Rattle.mq_ir.specs.declared.query.PartResult.TheVariants.{Rows, Fault}
use Rattle.mq_ir.specs.declared.query.Rule.{Rule}
use Rattle.mq_ir.specs.Automatic.{automatic}
use Rattle.mq_ir.specs.Expression.{whole}
use Rattle.mq_ir.specs.Iteration.{sequential}
use Rattle.mq_ir.specs.Unfolding.{Model}

-- so many hundredths
abbrev pub amount : ℕ → Value
amount n = value.Num (record { mant = pos n; scale = 2 })

abbrev pub number : ℕ → Expr
number n = e.Lit (whole n)

-- the first measure of the cell at this place
abbrev pub cell : Expr → Expr
cell place = e.Leaf (leaf.Cell 0 (place ∷ []))

abbrev pub less : Expr → Expr → Expr
less a b = e.Sum a (record { op = Sub; e = b } ∷ [])

-- the first dimension of the cell that is assigned, less a number
abbrev pub before : ℕ → Expr
before n = less (e.Leaf (leaf.Cv 0)) (number n)

-- the amounts of product A in the years 2000 and 2001
abbrev pub sales : PartInput
sales = record {
  key = value.Text (codes "A") ∷ [];
  cells = (whole 2000 ∷ [], amount 1000 ∷ []) ∷ (whole 2001 ∷ [], amount 1250 ∷ []) ∷ [];
  repeated = None;
}

-- a model over one year and one amount, and one over a whole number and a whole number with at most three turns
abbrev pub over_years : Bool → List Rule → Model
over_years auto rules = record {
  part = record {
    parts = 1;
    part_kinds = kind.Text ∷ [];
    dims = kind.Int ∷ [];
    measures = kind.Decimal 2 ∷ [];
    names = codes "S" ∷ [];
    ignore_nav = false;
    updated_only = false;
    auto = auto;
    iterate = None;
    rules = rules;
    refs = [];
    lists = [];
  };
  lists = [];
  refs = [];
}

abbrev pub in_turns : Expr → List Rule → Model
in_turns until rules = record {
  part = record {
    parts = 0;
    part_kinds = [];
    dims = kind.Int ∷ [];
    measures = kind.Int ∷ [];
    names = codes "S" ∷ [];
    ignore_nav = false;
    updated_only = false;
    auto = false;
    iterate = Some (record { turns = 3; until = Some until });
    rules = rules;
    refs = [];
    lists = [];
  };
  lists = [];
  refs = [];
}

-- a rule of the first measure under UPSERT
abbrev pub rule_of : LeftItem → List (ℕ × Bool) → Expr → Rule
rule_of place order right = record { mode = mode.Upsert; measure = 0; left = left.Places (place ∷ []); order = order; right = right }

abbrev pub year_cell : ℕ → Value → Bool → OutCell
year_cell year v updated = record { key = whole year ∷ []; measures = v ∷ []; updated = updated }

-- a fault of product A in the first rule
abbrev pub fault_at : FaultKind → ℕ → PartResult
fault_at kind year = Fault (record { kind = kind; rule = 1; partition = value.Text (codes "A") ∷ []; cell = whole year ∷ [] })

-- S[FOR YR FROM 2002 TO 2004 INCREMENT 1] = S[CV(YR)-1] * 2: each created cell sees the one before it
abbrev pub UpsertedCells : Type 0
UpsertedCells =
    sequential (over_years false (rule_of (item.Steps (number 2002) (number 2004) (number 1) false) []
    (e.Prod (cell (before 1)) (record { op = Mul; e = number 2 } ∷ [])) ∷ [])) sales
    ≡ Rows (year_cell 2000 (amount 1000) false ∷ year_cell 2001 (amount 1250) false ∷ year_cell 2002 (amount 2500) true
    ∷ year_cell 2003 (amount 5000) true ∷ year_cell 2004 (amount 10000) true ∷ [])

-- S[ANY] = S[CV()-1]: it matters in which order the targets come, and no order is given
abbrev pub OrderMissing : Type 0
OrderMissing = sequential (over_years false (rule_of (item.Sym test.Any) [] (cell (before 1)) ∷ [])) sales ≡ fault_at fault.SelfOrder 2001

-- S[ANY] ORDER BY YR DESC = S[CV()-1]: the later year comes first
abbrev pub OrderedDownwards : Type 0
OrderedDownwards =
    sequential (over_years false (rule_of (item.Sym test.Any) ((0, true) ∷ []) (cell (before 1)) ∷ [])) sales
    ≡ Rows (year_cell 2000 value.Null true ∷ year_cell 2001 (amount 1000) true ∷ [])

-- AUTOMATIC ORDER (S[2002] = S[2003], S[2003] = S[2002]): a cycle is named at its least rule
abbrev pub CycleAtLeast : Type 0
CycleAtLeast =
    (automatic (over_years true (rule_of (item.At (number 2002)) [] (cell (number 2003)) ∷ rule_of (item.At (number 2003)) [] (cell (number 2002)) ∷ [])) sales).1
    ≡ fault_at fault.Cycle 2002

-- AUTOMATIC ORDER (S[0] = SUM(S)[YR > 2000])
abbrev pub SumOfRange : Type 0
SumOfRange =
    (automatic (over_years true (rule_of (item.At (number 0)) [] (e.Leaf (leaf.Range agg.Sum 0 (test.Cmp cmp.Gt (number 2000) ∷ []))) ∷ [])) sales).1
    ≡ Rows (year_cell 0 (amount 1250) true ∷ year_cell 2000 (amount 1000) false ∷ year_cell 2001 (amount 1250) false ∷ [])

-- ITERATE (3) UNTIL (PREVIOUS(X[0]) - X[0] <= 1) (X[0] = X[0] / 2) from 4: two turns
abbrev pub HalvedInTurns : Type 0
HalvedInTurns =
    sequential (in_turns (e.Cmp (less (e.Leaf (leaf.Previous 0 (number 0 ∷ []))) (cell (number 0))) cmp.Le (number 1))
    (rule_of (item.At (number 0)) [] (e.Prod (cell (number 0)) (record { op = Div; e = number 2 } ∷ [])) ∷ []))
    (record { key = []; cells = (whole 0 ∷ [], whole 4 ∷ []) ∷ []; repeated = None })
    ≡ Rows (year_cell 0 (whole 1) true ∷ [])
