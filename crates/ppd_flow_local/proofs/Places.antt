-- Places of intervals, and look-ups in tables of an interval.
use Rattle.std.proofs.Common.{◌≡◌, ℕ, ◌≤◌, arith, length, Bool, List, [], ◌∷◌, Option, Some, None, subst, sym, refl}
use Rattle.std.specs.Prelude.{position, slice_get, unwrap_or}
use Rattle.std.proofs.lemmas.List.Quantifiers.{position-Some}
use Rattle.std.proofs.lemmas.Option.{none-some}
use Rattle.ppd_ast.specs.declared.plan.Plan.{Plan}
use Rattle.ppd_ast.specs.declared.program.Program.{Program}
use Rattle.ppd_model.specs.declared.flow.Item.{Item}
use Rattle.ppd_flow_local_tables.specs.declared.table.LocalTable.{LocalTable}
use Rattle.ppd_flow_local_tables.specs.Tables.{IsTableOf}
use Rattle.ppd_graph.specs.Seen.{first_or, is_item_of, place_of}

first_within : (test : Item → Bool) (xs : List Item) (i : ℕ) → position test xs ≡ Some i → i ≤ length xs
first_within test [] i e = absurd (none-some i e)
first_within test (x ∷ xs) i e =
    let lt = (position-Some test (x ∷ xs) i x e).0 in omega (arith, lt)

pub place_within : (m : ℕ) (items : List Item) → place_of m items ≤ length items
place_within m items = by (position (is_item_of m) items) refl
  where
    by : (o : Option ℕ) → position (is_item_of m) items ≡ o → place_of m items ≤ length items
    by None e = subst (λ (o : Option ℕ). unwrap_or o 0 ≤ length items) (sym e) (omega arith)
    by (Some i) e =
        subst (λ (o : Option ℕ). unwrap_or o 0 ≤ length items) (sym e) (first_within (is_item_of m) items i e)

-- the first of them, which code looks up
pub first_there : (m : ℕ) (xs : List ℕ) → unwrap_or (slice_get xs 0) m ≡ first_or m xs
first_there m [] = refl
first_there m (k ∷ ks) = refl

-- the table of these items is that of the same items
pub table_at : (program : Program) (plan : Plan) (xs items : List Item) (t : LocalTable) → items ≡ xs
    → IsTableOf program plan xs t → IsTableOf program plan items t
table_at program plan xs items t e is = subst (λ (ys : List Item). IsTableOf program plan ys t) (sym e) is
