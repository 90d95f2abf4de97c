-- The record and the accesses of a run of the machine.
use Rattle.ppd_model.specs.Setting.{Setting}
use Rattle.std.proofs.Common.{◌≡◌, ℕ, suc, ◌+◌, ◌<◌, ◌≤◌, List, [], ◌∷◌, ◌++◌, Option, Some, None, Bool, true, false, refl, ap, sym, subst, ◌∙◌, arith, length, ltb-true, ⊎_elim}
use Rattle.std.specs.Prelude.{nat_lt, option_to_list, slice_get, filter_map}
use Rattle.std.proofs.lemmas.Bool.{cases_eq}
use Rattle.ppd_ast.specs.declared.program.Program.{Program}
use Rattle.ppd_ast.specs.declared.status.SyncKind.TheVariants.{P, V}
use Rattle.ppd_sem.specs.declared.proc.Need.{Need}
use Rattle.ppd_sem.specs.declared.proc.Need.TheVariants as n
use Rattle.ppd_model.specs.declared.trace.EventId.{EventId}
use Rattle.ppd_model.specs.declared.tracing.Taken.{Taken}
use Rattle.ppd_model.specs.Numbers.{sync}
use Rattle.ppd_model.specs.Record.{SharedAccess, access_at, accesses_from}
use Rattle.ppd_model.specs.Synchronizations as s
use Rattle.ppd_model.specs.Synchronizations.{sync_of}
use Rattle.ppd_model.proofs.Accesses.{accesses-append}
use Rattle.ppd_model.proofs.CountedOn.{kept_at, last_at}
use Rattle.ppd_model.proofs.Numbers.{syncs-append}
use Rattle.law_steps.proofs.Machine.Model.{Read, Write, Sync, Scene, Run, Record, HasRecord, Touches, Writes, answer_for, number_for, want_at}
use Rattle.law_steps.proofs.Machine.Runs.{climb, hist_other, hist_own}
use Rattle.law_steps.proofs.Instance.Wants.{History, Line, Tagged, blank, event_after, grown, if_there, line, machine, made, need_after, sorted, synced_in, want_after}
use Rattle.law_steps.proofs.Instance.Lawful.{sync_made}

abbrev pub syncs_in : History → List s.Sync
syncs_in None = []
syncs_in (Some xs) = filter_map sync_of xs

abbrev pub accesses_in : History → List SharedAccess
accesses_in None = []
accesses_in (Some xs) = accesses_from 0 xs

pub synced_is : (h : History) → synced_in h ≡ length (syncs_in h)
synced_is None = refl
synced_is (Some xs) = refl

-- an access in this edge
abbrev pub access : ℕ → ℕ → Bool → SharedAccess
access e x w = record { edge = e; cell = x; writes = w }

-- the access of a step that touches a cell
pub record Accesses (program : Program) (e : EventId) (need : Need) (x : ℕ) : Type 0 where
  pub writes : Bool
  pub is : (edge : ℕ) → access_at edge need ≡ access edge x writes ∷ []
  pub there : x < length program.starts
  pub writing : Writes x (sorted program e need) → writes ≡ true

touched : (program : Program) (e : EventId) (need : Need) (x : ℕ) → Touches x (sorted program e need) → Accesses program e need x
touched program e (n.Read c) x t = by (nat_lt c (length program.starts)) refl t
  where
    by : (b : Bool) → nat_lt c (length program.starts) ≡ b → Touches {L = Line} {V = Tagged} x (if_there b (Read c)) → Accesses program e (n.Read c) x
    by true is same = record {
      writes = false;
      is = λ edge. ap (λ (k : ℕ). access edge k false ∷ []) same;
      there = subst (λ (k : ℕ). k < length program.starts) same (ltb-true c (length program.starts) is);
      writing = λ w. absurd (never (nat_lt c (length program.starts)) w);
    }
      where
        never : (b : Bool) → Writes {L = Line} {V = Tagged} x (if_there b (Read c)) → ⊥
        never true w = w
        never false w = w
    by false is same = absurd same
touched program e (n.Write c v) x t = by (nat_lt c (length program.starts)) refl t
  where
    by : (b : Bool) → nat_lt c (length program.starts) ≡ b → Touches {L = Line} {V = Tagged} x (if_there b (Write c (v, Some e))) → Accesses program e (n.Write c v) x
    by true is same = record {
      writes = true;
      is = λ edge. ap (λ (k : ℕ). access edge k true ∷ []) same;
      there = subst (λ (k : ℕ). k < length program.starts) same (ltb-true c (length program.starts) is);
      writing = λ w. refl;
    }
    by false is same = absurd same
touched program e (n.V s u) x t = absurd (never (nat_lt s (length program.sems)) t)
  where
    never : (b : Bool) → Touches {L = Line} {V = Tagged} x (if_there b (line V s blank)) → ⊥
    never true w = w
    never false w = w
touched program e (n.P s u) x t = absurd t
touched program e (n.Send c v u) x t = absurd t
touched program e (n.Offer c v) x t = absurd t
touched program e (n.Done c u) x t = absurd t
touched program e (n.Recv c u) x t = absurd t
touched program e n.Stopped x t = absurd t
touched program e need x t = absurd t

-- ---- a run

abbrev pub line_in : Option s.Sync → Line
line_in None = (P, 0)
line_in (Some x) = (x.kind, x.object)

abbrev pub number_at : Option s.Sync → ℕ
number_at None = 0
number_at (Some x) = x.number

-- the record by processes
abbrev pub sheet : (ℕ → List s.Sync) → Record Line
sheet syncs = record {
  line = λ p i. line_in (slice_get (syncs p) i);
  number = λ p i. number_at (slice_get (syncs p) i);
  total = λ p. length (syncs p);
}

module _ (setting : Setting) {first : Scene History Line Tagged} (R : Run (machine setting) first) where
  -- what one more step keeps
  pub grows : (K : History → Type 0) → ((p : ℕ) (h : History) (a : Tagged) (k : ℕ) → K h → K (grown setting p h a k)) → (q i j : ℕ) → i ≤ j → j ≤ R.ends → K ((R.at i).hist q) → K ((R.at j).hist q)
  grows K more q i j lo hi base =
      climb (λ m. K ((R.at m).hist q)) i R.ends base
      (λ m a b hyp. ⊎_elim
      (λ (e : q ≡ R.who m).
      let hyp2 : K ((R.at m).hist (R.who m)) = subst (λ (p : ℕ). K ((R.at m).hist p)) e hyp in
      subst (λ (p : ℕ). K ((R.at (suc m)).hist p)) (sym e) (subst K (sym (hist_own R m b)) (more _ _ _ _ hyp2)))
      (λ (ne : q ≡ R.who m → ⊥). subst K (sym (hist_other R m q b ne)) hyp)
      (cases_eq q (R.who m)))
      j lo hi

  entry_keeps : (i : ℕ) (x : s.Sync) (p : ℕ) (h : History) (a : Tagged) (k : ℕ) → slice_get (syncs_in h) i ≡ Some x → slice_get (syncs_in (grown setting p h a k)) i ≡ Some x
  entry_keeps i x p None a k e = e
  entry_keeps i x p (Some xs) a k e =
      ap (λ (ss : List s.Sync). slice_get ss i) (syncs-append xs (made setting.program (need_after setting p xs) a k))
      ∙ kept_at (filter_map sync_of xs) (option_to_list (sync_of (made setting.program (need_after setting p xs) a k))) i x e

  entry_new : (p : ℕ) (h : History) (a : Tagged) (k : ℕ) (l : Line) (v : Tagged) → want_after setting p h ≡ Sync l v → slice_get (syncs_in (grown setting p h a k)) (synced_in h) ≡ Some (sync l.0 l.1 k)
  entry_new p None a k l v is = cc
  entry_new p (Some xs) a k l v is =
      ap (λ (ss : List s.Sync). slice_get ss (length (filter_map sync_of xs))) (syncs-append xs (made setting.program (need_after setting p xs) a k))
      ∙ ap (λ (o : Option s.Sync). slice_get (filter_map sync_of xs ++ option_to_list o) (length (filter_map sync_of xs))) (sync_made setting.program (need_after setting p xs) (event_after p xs) a k l v is)
      ∙ last_at (filter_map sync_of xs) (sync l.0 l.1 k)

  -- the record at the end has the entry that the step at time i made
  pub entry_at : (i : ℕ) (l : Line) (v : Tagged) → i < R.ends → want_at R i ≡ Sync l v → slice_get (syncs_in ((R.at R.ends).hist (R.who i))) (synced_in ((R.at i).hist (R.who i))) ≡ Some (sync l.0 l.1 (suc ((R.at i).count l)))
  entry_at i l v lt is =
      let q : ℕ = R.who i in
      let here : History = (R.at i).hist q in
      let k : ℕ = number_for (R.at i) (want_at R i) in
      let a : Tagged = answer_for (machine setting) (R.at i) (want_at R i) in
      let new : slice_get (syncs_in (grown setting q here a k)) (synced_in here) ≡ Some (sync l.0 l.1 k) = entry_new q here a k l v is in
      let number : k ≡ suc ((R.at i).count l) = ap (number_for (R.at i)) is in
      grows (λ h. slice_get (syncs_in h) (synced_in here) ≡ Some (sync l.0 l.1 (suc ((R.at i).count l)))) (entry_keeps (synced_in here) (sync l.0 l.1 (suc ((R.at i).count l)))) q (suc i) R.ends lt (omega arith)
      (ap (λ (h : History). slice_get (syncs_in h) (synced_in here)) (hist_own R i lt) ∙ new ∙ ap (λ (m : ℕ). Some (sync l.0 l.1 m)) number)

  pub has_record : (syncs : ℕ → List s.Sync) → ((p : ℕ) → syncs_in ((R.at R.ends).hist p) ≡ syncs p) → HasRecord R (sheet syncs)
  has_record syncs same = record {
    lines = λ i l v lt is. ap line_in (ap (λ (ss : List s.Sync). slice_get ss (synced_in ((R.at i).hist (R.who i)))) (sym (same (R.who i))) ∙ entry_at i l v lt is);
    numbers = λ i l v lt is. ap number_at (ap (λ (ss : List s.Sync). slice_get ss (synced_in ((R.at i).hist (R.who i)))) (sym (same (R.who i))) ∙ entry_at i l v lt is);
    totals = λ p. synced_is ((R.at R.ends).hist p) ∙ ap length (same p);
  }

  -- ---- accesses

  access_keeps : (x : SharedAccess) (p : ℕ) (h : History) (a : Tagged) (k : ℕ) → (m : ℕ) × (slice_get (accesses_in h) m ≡ Some x) → (m : ℕ) × (slice_get (accesses_in (grown setting p h a k)) m ≡ Some x)
  access_keeps x p None a k f = f
  access_keeps x p (Some xs) a k f =
      let y : Taken = made setting.program (need_after setting p xs) a k in
      (f.0, ap (λ (as' : List SharedAccess). slice_get as' f.0) (accesses-append 0 xs y) ∙ kept_at (accesses_from 0 xs) (access_at (0 + length (filter_map sync_of xs)) y.need) f.0 x f.1)

  -- the step at this time accesses the cell, as the accesses at the end have it
  pub record IsAccess (i x : ℕ) : Type 0 where
    pub writes : Bool
    pub there : x < length setting.program.starts
    pub found : (m : ℕ) × (slice_get (accesses_in ((R.at R.ends).hist (R.who i))) m ≡ Some (access (synced_in ((R.at i).hist (R.who i))) x writes))
    pub writing : Writes x (want_at R i) → writes ≡ true

  access_new : (p : ℕ) (h : History) (a : Tagged) (k x : ℕ) → Touches x (want_after setting p h)
      → (w : Bool) × ((m : ℕ) × (slice_get (accesses_in (grown setting p h a k)) m ≡ Some (access (synced_in h) x w))) × (x < length setting.program.starts) × (Writes x (want_after setting p h) → w ≡ true)
  access_new p None a k x t = absurd t
  access_new p (Some xs) a k x t =
      let y : Taken = made setting.program (need_after setting p xs) a k in
      let r : Accesses setting.program (event_after p xs) (need_after setting p xs) x = touched setting.program (event_after p xs) (need_after setting p xs) x t in
      let e : ℕ = length (filter_map sync_of xs) in
      let zero_more : 0 + e ≡ e = omega arith in (
        r.writes,
        (
          length (accesses_from 0 xs),
          ap (λ (as' : List SharedAccess). slice_get as' (length (accesses_from 0 xs))) (accesses-append 0 xs y ∙ ap (λ (as' : List SharedAccess). accesses_from 0 xs ++ as') (r.is (0 + e)))
              ∙ last_at (accesses_from 0 xs) (access (0 + e) x r.writes)
              ∙ ap (λ (m : ℕ). Some (access m x r.writes)) zero_more,
        ),
        r.there,
        r.writing,
      )

  pub is_access : (i x : ℕ) → i < R.ends → Touches x (want_at R i) → IsAccess i x
  is_access i x lt t =
      let q : ℕ = R.who i in
      let here : History = (R.at i).hist q in
      let a : Tagged = answer_for (machine setting) (R.at i) (want_at R i) in
      let k : ℕ = number_for (R.at i) (want_at R i) in
      let new = access_new q here a k x t in
      let now : (m : ℕ) × (slice_get (accesses_in ((R.at (suc i)).hist q)) m ≡ Some (access (synced_in here) x new.0)) =
      subst (λ (h : History). (m : ℕ) × (slice_get (accesses_in h) m ≡ Some (access (synced_in here) x new.0))) (sym (hist_own R i lt)) new.1 in
      record {
        writes = new.0;
        there = new.2;
        found = grows (λ h. (m : ℕ) × (slice_get (accesses_in h) m ≡ Some (access (synced_in here) x new.0))) (access_keeps (access (synced_in here) x new.0)) q (suc i) R.ends lt (omega arith) now;
        writing = new.3;
      }
