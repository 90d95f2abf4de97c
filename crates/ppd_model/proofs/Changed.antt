-- A step changes its process and what its need names.
use Rattle.std.proofs.Common.{◌≡◌, ℕ, zero, suc, ◌+◌, true, false, nat_eq, List, [], ◌∷◌, ◌++◌, refl, ap, arith}
use Rattle.std.specs.Prelude.{slice_get, slice_set}
use Rattle.std.proofs.lemmas.Bool.Decides.{nat_tests}
use Rattle.ppd_sem.specs.declared.proc.Need.{Need}
use Rattle.ppd_sem.specs.declared.proc.Need.TheVariants.{Write, P, V, Send, Offer, Done, Recv}
use Rattle.ppd_sem.specs.Process.{act}
use Rattle.ppd_model.specs.Bounds.{StepsChangeTheirOwn, names_chan, names_sem}
use Rattle.ppd_model.specs.World.{World, answer, effect, need, writes_cell}
use Rattle.ppd_model.proofs.Changes.{change-else}

other : (a b : ℕ) → nat_eq a b ≡ false → b ≡ a → ⊥
other a b e is = let same : nat_eq a b ≡ true = grind (arith, nat_tests) in cc

set-else : {A : Type 0} (xs : List A) (i j : ℕ) (x : A) → (j ≡ i → ⊥) → slice_get (slice_set xs i x) j ≡ slice_get xs j
set-else [] i j x d = refl
set-else (y ∷ ys) zero zero x d = absurd (d refl)
set-else (y ∷ ys) zero (suc j) x d = refl
set-else (y ∷ ys) (suc i) zero x d = refl
set-else (y ∷ ys) (suc i) (suc j) x d = set-else ys i j x (λ e. d (ap (λ n. suc n) e))

cells : (w : World) (n : Need) (c : ℕ) → writes_cell c n ≡ false → slice_get (effect w n).shared c ≡ slice_get w.shared c
cells w (Write d v) c e = set-else w.shared d c v (other d c e)
cells w (P s u) c e = refl
cells w (V s u) c e = refl
cells w (Send o v u) c e = refl
cells w (Offer o v) c e = refl
cells w (Done o u) c e = refl
cells w (Recv o u) c e = refl
cells w n c e = refl

sems : (w : World) (n : Need) (s : ℕ) → names_sem s n ≡ false → slice_get (effect w n).sems s ≡ slice_get w.sems s
sems w (Write d v) s e = refl
sems w (P o u) s e = change-else (λ x. record x { taken = x.taken + 1 }) o s w.sems (other o s e)
sems w (V o u) s e = change-else (λ x. record x { given = x.given + 1 }) o s w.sems (other o s e)
sems w (Send o v u) s e = refl
sems w (Offer o v) s e = refl
sems w (Done o u) s e = refl
sems w (Recv o u) s e = refl
sems w n s e = refl

chans : (w : World) (n : Need) (c : ℕ) → names_chan c n ≡ false → slice_get (effect w n).chans c ≡ slice_get w.chans c
chans w (Write d v) c e = refl
chans w (P o u) c e = refl
chans w (V o u) c e = refl
chans w (Send o v u) c e = change-else (λ x. record x { sent = x.sent ++ v ∷ [] }) o c w.chans (other o c e)
chans w (Offer o v) c e = change-else (λ x. record x { sent = x.sent ++ v ∷ [] }) o c w.chans (other o c e)
chans w (Done o u) c e = change-else (λ x. record x { completed = x.completed + 1 }) o c w.chans (other o c e)
chans w (Recv o u) c e = change-else (λ x. record x { received = x.received + 1 }) o c w.chans (other o c e)
chans w n c e = refl

pub changed : StepsChangeTheirOwn
changed program plan w p = record {
  procs = λ q d. change-else (λ s. act program plan s (answer w (need program plan w p))) p q w.procs d;
  cells = λ c e. cells w (need program plan w p) c e;
  sems = λ s e. sems w (need program plan w p) s e;
  chans = λ c e. chans w (need program plan w p) c e;
}
