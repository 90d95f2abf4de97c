-- Which needs synchronize, and which write a shared cell.
use Rattle.std.proofs.Common.{◌≡◌, ℕ, ℤ, ◌<◌, None, Some, Bool, true, false, refl, subst, length, ltb-true}
use Rattle.std.specs.Prelude.{nat_lt}
use Rattle.ppd_ast.specs.declared.program.Program.{Program}
use Rattle.ppd_ast.specs.declared.status.SyncKind.TheVariants.{P, V, Send, Recv, Done}
use Rattle.ppd_sem.specs.declared.proc.Need.{Need}
use Rattle.ppd_sem.specs.declared.proc.Need.TheVariants as n
use Rattle.ppd_model.specs.declared.trace.EventId.{EventId}
use Rattle.law_steps.proofs.Machine.Model.{Want, Read, Write, Sync}
use Rattle.law_steps.proofs.Instance.Wants.{Line, Tagged, blank, if_there, line, sorted}

-- the needs that are synchronizations, each with its line and value
pub data Syncs (program : Program) : Need → Line → Tagged → Type 0 where
  takes : (s u : ℕ) → Syncs program (n.P s u) (P, s) blank
  gives : (s u : ℕ) → s < length program.sems → Syncs program (n.V s u) (V, s) blank
  sends : (c : ℕ) (v : ℤ) (u : ℕ) → Syncs program (n.Send c v u) (Send, c) (v, None)
  offers : (c : ℕ) (v : ℤ) → Syncs program (n.Offer c v) (Send, c) (v, None)
  completes : (c u : ℕ) → Syncs program (n.Done c u) (Done, c) blank
  receives : (c u : ℕ) → Syncs program (n.Recv c u) (Recv, c) blank

same_sync : (program : Program) (need : Need) (l m : Line) (v w : Tagged) → line l.0 l.1 v ≡ Sync m w → Syncs program need l v → Syncs program need m w
same_sync program need l m v w e h =
    let where_is : l ≡ m = cc in
    let value_is : v ≡ w = cc in
    subst (λ (x : Line). Syncs program need x w) where_is (subst (λ (x : Tagged). Syncs program need l x) value_is h)

if_sync : (program : Program) (need : Need) (b : Bool) (w : Want Line Tagged) (l : Line) (v : Tagged) → (b ≡ true → w ≡ Sync l v → Syncs program need l v) → if_there b w ≡ Sync l v → Syncs program need l v
if_sync program need true w l v found e = found refl e
if_sync program need false w l v found e = cc

pub synced_need : (program : Program) (need : Need) (e : EventId) (l : Line) (v : Tagged) → sorted program e need ≡ Sync l v → Syncs program need l v
synced_need program (n.Read c) e l v is = if_sync program (n.Read c) (nat_lt c (length program.starts)) (Read c) l v (λ b f. cc) is
synced_need program (n.Write c x) e l v is = if_sync program (n.Write c x) (nat_lt c (length program.starts)) (Write c (x, Some e)) l v (λ b f. cc) is
synced_need program (n.P s u) e l v is = same_sync program (n.P s u) (P, s) l blank v is (takes s u)
synced_need program (n.V s u) e l v is =
    if_sync program (n.V s u) (nat_lt s (length program.sems)) (line V s blank) l v
    (λ b f. same_sync program (n.V s u) (V, s) l blank v f (gives s u (ltb-true s (length program.sems) b))) is
synced_need program (n.Send c x u) e l v is = same_sync program (n.Send c x u) (Send, c) l (x, None) v is (sends c x u)
synced_need program (n.Offer c x) e l v is = same_sync program (n.Offer c x) (Send, c) l (x, None) v is (offers c x)
synced_need program (n.Done c u) e l v is = same_sync program (n.Done c u) (Done, c) l blank v is (completes c u)
synced_need program (n.Recv c u) e l v is = same_sync program (n.Recv c u) (Recv, c) l blank v is (receives c u)
synced_need program n.Stopped e l v is = cc
synced_need program need e l v is = cc

-- the needs that write a shared cell that is there, each with its cell and value
pub data Puts (program : Program) (e : EventId) : Need → ℕ → Tagged → Type 0 where
  puts : (c : ℕ) (v : ℤ) → c < length program.starts → Puts program e (n.Write c v) c (v, Some e)

if_put : (program : Program) (need : Need) (e : EventId) (b : Bool) (w : Want Line Tagged) (x : ℕ) (v : Tagged) → (b ≡ true → w ≡ Write x v → Puts program e need x v) → if_there b w ≡ Write x v → Puts program e need x v
if_put program need e true w x v found is = found refl is
if_put program need e false w x v found is = cc

pub put_need : (program : Program) (need : Need) (e : EventId) (x : ℕ) (v : Tagged) → sorted program e need ≡ Write x v → Puts program e need x v
put_need program (n.Write c u) e x v is =
    if_put program (n.Write c u) e (nat_lt c (length program.starts)) (Write c (u, Some e)) x v
    (λ b f.
    let cell : c ≡ x = cc in
    let value : (u, Some e) ≡ v = cc in
    subst (λ (y : ℕ). Puts program e (n.Write c u) y v) cell
    (subst (λ (y : Tagged). Puts program e (n.Write c u) c y) value (puts c u (ltb-true c (length program.starts) b)))) is
put_need program (n.Read c) e x v is = if_put program (n.Read c) e (nat_lt c (length program.starts)) (Read c) x v (λ b f. cc) is
put_need program (n.V s u) e x v is = if_put program (n.V s u) e (nat_lt s (length program.sems)) (line V s blank) x v (λ b f. cc) is
put_need program (n.P s u) e x v is = cc
put_need program (n.Send c y u) e x v is = cc
put_need program (n.Offer c y) e x v is = cc
put_need program (n.Done c u) e x v is = cc
put_need program (n.Recv c u) e x v is = cc
put_need program n.Stopped e x v is = cc
put_need program need e x v is = cc
