-- The start of a unit, and the end of a process, by their rules.
use Rattle.std.proofs.Common.{◌≡◌, ◌≢◌, ℕ, nat_eq, ℤ, Bool, true, false, List, Option, Some, None, unwrap_or, refl, ap, sym, ◌∙◌, subst, if◌then◌else◌}
use Rattle.std.proofs.lemmas.Bool.{eq-eqb, eqb-false, eqb-true}
use Rattle.ppd_ast.specs.declared.plan.Plan.{Plan}
use Rattle.ppd_ast.specs.declared.status.Status.{Status}
use Rattle.ppd_ast.specs.declared.status.SyncKind.{SyncKind}
use Rattle.ppd_ast.specs.declared.status.SyncKind.TheVariants as sync_kind
use Rattle.ppd_model.specs.Pieces.{Piece, unit, sync, nested, unfinished, postlog, finish}
use Rattle.ppd_model.specs.declared.wanted.Wanted.TheVariants as wanted
use Rattle.ppd_model.specs.Fits.{found_of, fits}
use Rattle.ppd_model.specs.Replay.{Replaying, Turn, more, end_here, fail, next_piece, take_unit, unit_taken}
use Rattle.law_rules.specs.Replays.{EndsHere, EndsLater, Starts, no_unit, other_is_next, unit_is_next}

-- ---- the start of a unit

-- no synchronization is a unit
no_sync : (u : ℕ) (k : SyncKind) (o n : ℕ) (v : ℤ) → fits (wanted.Unit u) (found_of (sync k o n v)) ≡ false
no_sync u sync_kind.P o n v = refl
no_sync u sync_kind.V o n v = refl
no_sync u sync_kind.Send o n v = refl
no_sync u sync_kind.Recv o n v = refl
no_sync u sync_kind.Done o n v = refl

module _ (plan : Plan) (u : ℕ) (r : Replaying) where
  -- what is taken of a piece
  taken : Piece → Turn
  taken piece =
      if fits (wanted.Unit u) (found_of piece) then more (unit_taken plan u piece r) else fail r (wanted.Unit u)

  fails : (piece : Piece) → (next_piece r).1 ≡ piece → ((values : List ℤ) → piece ≢ unit u values) → fits (wanted.Unit u) (found_of piece) ≡ false
      → Starts plan r (Some u) (taken piece)
  unfolding taken
  fails piece is other e =
      subst (λ b. Starts plan r (Some u) (if b then more (unit_taken plan u piece r) else fail r (wanted.Unit u))) (sym e)
      (other_is_next u (λ values same. other values (sym is ∙ same)))

  unit_starts : (v : ℕ) (values : List ℤ) → (next_piece r).1 ≡ unit v values → (b : Bool) → nat_eq u v ≡ b
      → Starts plan r (Some u) (if b then more (unit_taken plan u (unit v values) r) else fail r (wanted.Unit u))
  unit_starts v values is true e =
      let same : u ≡ v = eqb-true u v e in
      unit_is_next u values (is ∙ ap (λ w. unit w values) (sym same))
  unit_starts v values is false e = other_is_next u (λ others same. clash (of_units (sym is ∙ same)))
    where
      number : Piece → ℕ
      number (unit w ws) = w
      number piece = 0

      of_units : {others : List ℤ} → unit v values ≡ unit u others → v ≡ u
      of_units same = ap number same

      clash : v ≡ u → ⊥
      clash same = eqb-false u v e (sym same)

  by_piece : (piece : Piece) → (next_piece r).1 ≡ piece → Starts plan r (Some u) (taken piece)
  unfolding taken
  by_piece (unit v values) is = unit_starts v values is (nat_eq u v) refl
  by_piece (sync k o n v) is = fails (sync k o n v) is (λ values e. cc) (no_sync u k o n v)
  by_piece (nested k b values) is = fails (nested k b values) is (λ others e. cc) refl
  by_piece (unfinished k b) is = fails (unfinished k b) is (λ values e. cc) refl
  by_piece (postlog values) is = fails (postlog values) is (λ others e. cc) refl
  by_piece (finish s rest) is = fails (finish s rest) is (λ values e. cc) refl

  -- a unit that starts does so by a rule
  pub unit_by_rule : Starts plan r (Some u) (take_unit plan (Some u) r)
  unfolding taken
  unit_by_rule = by_piece (next_piece r).1 refl

pub start_by_rule : (plan : Plan) (o : Option ℕ) (r : Replaying) → Starts plan r o (take_unit plan o r)
start_by_rule plan None r = no_unit
start_by_rule plan (Some u) r = unit_by_rule plan u r

-- what is not unit u does not fit it
unfit : (u : ℕ) (piece : Piece) → ((values : List ℤ) → piece ≢ unit u values) → fits (wanted.Unit u) (found_of piece) ≡ false
unfit u (unit v values) other = by (nat_eq u v) refl
  where
    by : (b : Bool) → nat_eq u v ≡ b → b ≡ false
    by true e = absurd (other values (ap (λ w. unit w values) (sym (eqb-true u v e))))
    by false e = refl
unfit u (sync k o n v) other = no_sync u k o n v
unfit u (nested k b values) other = refl
unfit u (unfinished k b) other = refl
unfit u (postlog values) other = refl
unfit u (finish s rest) other = refl

-- and what a rule says is what is taken
pub start_is : (plan : Plan) (r : Replaying) (o : Option ℕ) (t : Turn) → Starts plan r o t → take_unit plan o r ≡ t
start_is plan r o t no_unit = refl
start_is plan r o t (unit_is_next u values is) =
    ap (λ p. if fits (wanted.Unit u) (found_of p) then more (unit_taken plan u p r) else fail r (wanted.Unit u)) is
    ∙ ap (λ b. if b then more (unit_taken plan u (unit u values) r) else fail r (wanted.Unit u)) (eq-eqb u u refl)
start_is plan r o t (other_is_next u other) =
    ap (λ b. if b then more (unit_taken plan u (next_piece r).1 r) else fail r (wanted.Unit u)) (unfit u (next_piece r).1 other)

-- ---- the end of the process

pub end_of : (r : Replaying) (s : Status) → EndsHere r s → end_here r.since (next_piece r).1 ≡ Some s
end_of r s is = ap (end_here r.since) is ∙ ap (λ b. if b then Some s else None) (eq-eqb r.since r.since refl)

ended_if : (since rest : ℕ) (s how : Status) (b : Bool) → nat_eq since rest ≡ b → (if b then Some s else None) ≡ Some how → finish s rest ≡ finish how since
ended_if since rest s how true e is =
    ap (λ o. finish (unwrap_or o s) rest) is ∙ ap (finish how) (sym (eqb-true since rest e))
ended_if since rest s how false e is = cc

ended_by : (since : ℕ) (how : Status) (piece : Piece) → end_here since piece ≡ Some how → piece ≡ finish how since
ended_by since how (unit v values) e = cc
ended_by since how (sync k o n v) e = cc
ended_by since how (nested k b values) e = cc
ended_by since how (unfinished k b) e = cc
ended_by since how (postlog values) e = cc
ended_by since how (finish s rest) e = ended_if since rest s how (nat_eq since rest) refl e

pub ends_here : (r : Replaying) (s : Status) → end_here r.since (next_piece r).1 ≡ Some s → EndsHere r s
ends_here r s e = ended_by r.since s (next_piece r).1 e

pub ends_later : (r : Replaying) → end_here r.since (next_piece r).1 ≡ None → EndsLater r
ends_later r e s here = let clash : None ≡ Some s = sym e ∙ end_of r s here in cc

pub none_here : (r : Replaying) → EndsLater r → end_here r.since (next_piece r).1 ≡ None
none_here r later = by (end_here r.since (next_piece r).1) refl
  where
    by : (o : Option Status) → end_here r.since (next_piece r).1 ≡ o → o ≡ None
    by None e = refl
    by (Some s) e = absurd (later s (ends_here r s e))

-- where it ends in one way, it does not in another
pub ends_once : (r : Replaying) (s s' : Status) → EndsHere r s → EndsHere r s' → s ≡ s'
ends_once r s s' a b =
    let same : Some s ≡ Some s' = sym (end_of r s a) ∙ end_of r s' b in ap (λ o. unwrap_or o s) same
