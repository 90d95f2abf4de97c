-- An end does not come before so many steps.
use Rattle.std.proofs.Common.{◌≡◌, ℕ, zero, suc, ◌+◌, ◌≤◌, List, [], ◌∷◌, ◌++◌, map, get_or, Option, Some, None, refl, arith}
use Rattle.std.proofs.lemmas.Bool.{cond-false, ne_eqb}
use Rattle.std.specs.Prelude.{⊤, nat_eq}
use Rattle.ppd_ast.specs.declared.plan.Plan.{Plan}
use Rattle.ppd_ast.specs.declared.program.Program.{Program}
use Rattle.ppd_ast.specs.declared.status.Status.{Status}
use Rattle.ppd_ast.specs.declared.status.Status.TheVariants as status
use Rattle.ppd_model.specs.Pieces.{Piece, unit, sync, nested, unfinished, postlog, finish}
use Rattle.ppd_sem.specs.declared.proc.Proc.{Proc}
use Rattle.ppd_sem.specs.Process.{act}
use Rattle.ppd_model.specs.declared.flow.Item.{Item}
use Rattle.ppd_model.specs.Logs.{status_of}
use Rattle.ppd_model.specs.Marks.{Mark, opened, closed}
use Rattle.ppd_model.specs.Story.{Moment, unit_started}
use Rattle.ppd_model.specs.Synchronizations.{Sync, sync_of}
use Rattle.ppd_model.specs.Replay.{end_here}
use Rattle.law_steps.specs.Coming.Pieces.{After, Inner, coming, event_items, inner_opens, leaves, own_closes, own_ends, own_opens, since_after, sync_pieces, unit_pieces}

-- the pieces that are left begin with no end of fewer steps
abbrev pub IsLate : ℕ → List Piece → Type 0
IsLate n [] = ⊥
IsLate n (finish s rest ∷ ps) = n ≤ rest
IsLate n (p ∷ ps) = ⊤

abbrev pub first_piece : List Piece → Piece
first_piece [] = finish status.Ended 0
first_piece (p ∷ ps) = p

pub next_is : (xs : List (ℕ × Piece)) → (get_or xs 0 (0, finish status.Ended 0)).1 ≡ first_piece (map (λ q. q.1) xs)
next_is [] = refl
next_is (x ∷ xs) = refl

pub not_here : (since : ℕ) (ps : List Piece) → IsLate (since + 1) ps → end_here since (first_piece ps) ≡ None
not_here since [] h = absurd h
not_here since (finish s rest ∷ ps) h =
    cond-false (nat_eq since rest) (Some s) None (ne_eqb since rest (λ e. omega (arith, e, h)))
not_here since (unit u v ∷ ps) h = refl
not_here since (sync k o n v ∷ ps) h = refl
not_here since (nested k b v ∷ ps) h = refl
not_here since (unfinished k b ∷ ps) h = refl
not_here since (postlog v ∷ ps) h = refl

-- ---- one step

abbrev AllInner : ℕ → After → Type 0
AllInner n after = (i : Inner) (next since : ℕ) → IsLate n (after (Some i) next since).pieces

abbrev AllOwn : ℕ → After → Type 0
AllOwn n after = (next since : ℕ) → n ≤ since → IsLate n (after None next since).pieces

pieces_late : (n : ℕ) (m : Moment) (s : Option Sync) (u : Option ℕ) (after : After) (next since : ℕ) → n ≤ since
    → AllOwn n after
    → IsLate n ((sync_pieces m.taken s ++ unit_pieces u m.unit_values) ++ (after None next
    (since_after since (sync_pieces m.taken s ++ unit_pieces u m.unit_values))).pieces)
pieces_late n m None None after next since h own = own next (since + 1) (omega (arith, h))
pieces_late n m None (Some u) after next since h own = tt
pieces_late n m (Some s) u after next since h own = tt

ends_late : (n : ℕ) (items : List Item) (m : Moment) (next since : ℕ) (s : Option Status) (after : After)
    → n ≤ since → AllOwn n after → IsLate n (own_ends items m next since s after).pieces
ends_late n items m next since (Some status.Budget) after h own = h
ends_late n items m next since (Some status.Ended) after h own = h
ends_late n items m next since (Some status.Blocked) after h own = h
ends_late n items m next since (Some (status.Trap t)) after h own = h
ends_late n items m next since None after h own =
    pieces_late n m (sync_of m.taken) (unit_started m.taken.need) after next since h own

closes_late : (n : ℕ) (items : List Item) (m : Moment) (next since : ℕ) (c : Option Mark) (s : Option Status)
    (after : After) → n ≤ since → AllOwn n after → IsLate n (own_closes items m next since c s after).pieces
closes_late n items m next since (Some mark) s after h own = tt
closes_late n items m next since None s after h own = ends_late n items m next since s after h own

opens_late : (n : ℕ) (items : List Item) (m : Moment) (next since : ℕ) (o c : Option Mark) (s : Option Status)
    (after : After) → n ≤ since → AllInner n after → AllOwn n after
    → IsLate n (own_opens items m next since o c s after).pieces
opens_late n items m next since (Some mark) c s after h inner own =
    inner (record { level = 0; interval = next; block = mark.block }) (next + 1) since
opens_late n items m next since None c s after h inner own = closes_late n items m next since c s after h own

inner_late : (n : ℕ) (i : Inner) (m : Moment) (next since : ℕ) (o c : Option Mark) (s : Option Status)
    (after : After) → AllInner n after → IsLate n (inner_opens i m next since o c s after).pieces
inner_late n i m next since (Some mark) c s after inner = inner (record i { level = i.level + 1 }) (next + 1) since
inner_late n i m next since None (Some mark) s after inner = left i.level
  where
    left : (level : ℕ) → IsLate n
        (leaves i level mark.values (unit_pieces (unit_started m.taken.need) m.unit_values) next since after).pieces
    left zero = tt
    left (suc level) = inner (record i { level = level }) next since
inner_late n i m next since None None (Some s) after inner = tt
inner_late n i m next since None None None after inner = inner i next since

-- ---- all steps

module _ (program : Program) (plan : Plan) where
  pub late_inner : (n : ℕ) (ms : List Moment) (s : Proc) (i : Inner) (next since : ℕ)
      → IsLate n (coming program plan s ms (Some i) next since).pieces
  late_inner n [] s i next since = tt
  late_inner n (m ∷ ms) s i next since =
      inner_late n i m next since (opened program plan s m.taken.need) (closed program plan s m.taken.need)
      (status_of m.taken.need) (coming program plan (act program plan s m.taken.answer) ms)
      (λ j next since. late_inner n ms (act program plan s m.taken.answer) j next since)

  pub late_own : (n : ℕ) (ms : List Moment) (s : Proc) (next since : ℕ) → n ≤ since
      → IsLate n (coming program plan s ms None next since).pieces
  late_own n [] s next since h = h
  late_own n (m ∷ ms) s next since h =
      opens_late n (event_items program plan s m.taken) m next since (opened program plan s m.taken.need)
      (closed program plan s m.taken.need) (status_of m.taken.need)
      (coming program plan (act program plan s m.taken.answer) ms) h
      (λ j next since. late_inner n ms (act program plan s m.taken.answer) j next since)
      (λ next since h. late_own n ms (act program plan s m.taken.answer) next since h)
