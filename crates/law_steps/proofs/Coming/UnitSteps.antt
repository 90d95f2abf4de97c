-- The unit that a step starts, in the index of a log.
use Rattle.std.proofs.Common.{◌≡◌, ℕ, List, [], ◌∷◌, ◌++◌, Option, Some, None, refl, ap, map}
use Rattle.std.specs.Prelude.{ℤ}
use Rattle.ppd_ast.specs.declared.plan.Plan.{Plan}
use Rattle.ppd_ast.specs.declared.program.Program.{Program}
use Rattle.ppd_model.specs.declared.entry.Entry.TheVariants as entry
use Rattle.ppd_model.specs.IntervalLogs.{LoggedInterval, Indexing, index_step}
use Rattle.ppd_model.specs.Pieces.{Piece, unit}
use Rattle.ppd_model.specs.Marks.{Mark}
use Rattle.ppd_model.specs.Story.{Moment, unit_started}
use Rattle.law_steps.specs.Coming.Pieces.{unit_pieces}
use Rattle.law_steps.proofs.Coming.Indexes.{Grows, more}
use Rattle.law_steps.proofs.Coming.Shapes.{unit_in, with_unit}

module _ (program : Program) (plan : Plan) where
  -- a unit's piece before the others
  pub unit_first : (e : ℕ) (vals : List ℤ) (u : Option ℕ) (i : LoggedInterval) (c : List Piece) (o : Option LoggedInterval)
      → Grows (unit_in vals e u i) c o → Grows i (unit_pieces u vals ++ c) o
  unit_first e vals None i c o g = g
  unit_first e vals (Some u) i c o g = more e (unit u vals) i c o g

  pub unit_log : (e : ℕ) (vals : List ℤ) (u : Option ℕ) (i : LoggedInterval) → i.pieces ≡ []
      → map (λ q. q.1) (unit_in vals e u i).pieces ≡ unit_pieces u vals
  unit_log e vals None i h = ap (map (λ q. q.1)) h
  unit_log e vals (Some u) i h = ap (λ ps. map (λ q. q.1) (ps ++ (e, unit u vals) ∷ [])) h

  pub unit_block : (e : ℕ) (vals : List ℤ) (u : Option ℕ) (i : LoggedInterval)
      → (unit_in vals e u i).extent.block ≡ i.extent.block
  unit_block e vals None i = refl
  unit_block e vals (Some u) i = refl

  pub unit_values_are : (e : ℕ) (vals : List ℤ) (u : Option ℕ) (i : LoggedInterval)
      → (unit_in vals e u i).values ≡ i.values
  unit_values_are e vals None i = refl
  unit_values_are e vals (Some u) i = refl

  abbrev pub unit_at : Moment → Option ℕ
  unit_at m = unit_started m.taken.need

  abbrev pub put_index : Mark → Indexing → Indexing
  put_index a x = index_step x (entry.Prelog a.block a.values)

  abbrev pub put_unit : Moment → Mark → Indexing → Indexing
  put_unit m a x = with_unit m.unit_values (unit_started m.taken.need) (put_index a x)

  abbrev pub left_index : Mark → Indexing → Indexing
  left_index a x = index_step x (entry.Postlog a.block a.values)

  abbrev pub left_unit : Moment → Mark → Indexing → Indexing
  left_unit m a x = with_unit m.unit_values (unit_started m.taken.need) (left_index a x)
