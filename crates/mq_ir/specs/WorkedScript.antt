-- A table, a query and an insertion in their bound forms, with what was worked out by hand that they come to.
use Rattle.std.specs.Prelude.{◌≡◌, ℕ, List, [], ◌∷◌, true, false, Some, None, Err, codes}
use Rattle.mq_values.specs.declared.faults.Refused.TheVariants.{DuplicateKey}
use Rattle.mq_values.specs.declared.operators.ProdOp.TheVariants.{Mul}
use Rattle.mq_values.specs.declared.value.Kind.TheVariants as kind
use Rattle.mq_values.specs.declared.value.Value.{Value}
use Rattle.mq_values.specs.declared.value.Value.TheVariants as value
use Rattle.mq_ir.specs.declared.expression.Expr.{Expr}
use Rattle.mq_ir.specs.declared.expression.Expr.TheVariants as e
use Rattle.mq_ir.specs.declared.expression.Leaf.TheVariants as leaf
use Rattle.mq_ir.specs.declared.query.Answer.TheVariants.{Rows}
use Rattle.mq_ir.specs.declared.query.BoundQuery.{BoundQuery}
use Rattle.mq_ir.specs.declared.query.LeftItem.TheVariants as item
use Rattle.mq_ir.specs.declared.query.Rule.{Rule}
use Rattle.mq_ir.specs.declared.statement.Change.TheVariants.{Insert}
use Rattle.mq_ir.specs.Answer.{answer_of}
use Rattle.mq_ir.specs.Expression.{whole}
use Rattle.mq_ir.specs.Keys.{Tuple}
use Rattle.mq_ir.specs.Statement.{change_of_tables}
use Rattle.mq_ir.specs.Tables.{Tables}
use Rattle.mq_ir.specs.Worked.{amount, before, cell, number, rule_of}

-- a row of product A: a year and an amount
abbrev pub row : ℕ → Value → Tuple
row year v = value.Text (codes "A") ∷ whole year ∷ v ∷ []

-- SALES (PROD TEXT, YR INT, AMT DECIMAL(2), PRIMARY KEY (PROD, YR)) with two rows
abbrev pub sales_table : Tables
sales_table =
    record {
      name = codes "SALES";
      schema = record {
        cols = record { name = codes "PROD"; kind = kind.Text; not_null = true } ∷ record { name = codes "YR"; kind = kind.Int; not_null = true }
            ∷ record { name = codes "AMT"; kind = kind.Decimal 2; not_null = false } ∷ [];
        key = 0 ∷ 1 ∷ [];
      };
      rows = row 2000 (amount 1000) ∷ row 2001 (amount 1250) ∷ [];
    } ∷ []

-- SELECT PROD, YR, S FROM SALES MODEL PARTITION BY (PROD) DIMENSION BY (YR) MEASURES (AMT S) RULES .. ORDER BY PROD, YR DESC
abbrev pub query_with : List Rule → BoundQuery
query_with rules = record {
  from = record { tables = codes "SALES" ∷ []; ons = None ∷ []; filter = None };
  items = record { group = None; items = e.Leaf (leaf.Column 0 0) ∷ e.Leaf (leaf.Column 0 1) ∷ e.Leaf (leaf.Column 0 2) ∷ [] };
  model = Some (record {
    parts = 1;
    part_kinds = kind.Text ∷ [];
    dims = kind.Int ∷ [];
    measures = kind.Decimal 2 ∷ [];
    names = codes "S" ∷ [];
    ignore_nav = false;
    updated_only = false;
    auto = false;
    iterate = None;
    rules = rules;
    refs = [];
    lists = [];
  });
  print = 0 ∷ 1 ∷ 2 ∷ [];
  order = (0, false) ∷ (1, true) ∷ [];
}

-- S[FOR YR FROM 2002 TO 2004 INCREMENT 1] = S[CV(YR)-1] * 2
abbrev pub doubling : Rule
doubling = rule_of (item.Steps (number 2002) (number 2004) (number 1) false) [] (e.Prod (cell (before 1)) (record { op = Mul; e = number 2 } ∷ []))

-- what the query answers
abbrev pub AnswerDownwards : Type 0
AnswerDownwards =
    answer_of sales_table (query_with (doubling ∷ []))
    ≡ Rows (row 2004 (amount 10000) ∷ row 2003 (amount 5000) ∷ row 2002 (amount 2500) ∷ row 2001 (amount 1250) ∷ row 2000 (amount 1000) ∷ [])

abbrev pub new_row : ℕ → ℕ → List Expr
new_row year hundredths = e.Lit (value.Text (codes "A")) ∷ number year ∷ e.Lit (amount hundredths) ∷ []

-- INSERT INTO SALES VALUES ('A', 2002, 1.00), ('A', 2000, 2.00)
abbrev pub RepeatedKey : Type 0
RepeatedKey =
    change_of_tables sales_table
    (Insert (codes "SALES") (new_row 2002 100 ∷ new_row 2000 200 ∷ []))
    ≡ Err (DuplicateKey (value.Text (codes "A") ∷ whole 2000 ∷ []))
