-- The partners found by numbers are those that lead to each.
use Rattle.ppd_ast.specs.declared.program.Program.{Program}
use Rattle.ppd_ast.specs.declared.status.SyncKind.{SyncKind}
use Rattle.ppd_ast.specs.declared.status.SyncKind.TheVariants.{Done, P, Recv, Send, V}
use Rattle.ppd_graph.specs.Partners.{IsOnce, PartnersAreFound, found, found_from, found_in_row, paired_by, pairs_of, partner_of, wanted}
use Rattle.ppd_graph.specs.Times.{ArePartners, node_of, pair_at}
use Rattle.ppd_graph.specs.declared.paired.Paired.TheVariants.{Nothing}
use Rattle.ppd_graph_partners.specs.Wanted.{wanted_by}
use Rattle.ppd_model.proofs.SameSyncs.{same_is, same_self}
use Rattle.ppd_model.specs.HappenedBefore.{node, sync_at}
use Rattle.ppd_model.specs.Numbers.{sync}
use Rattle.ppd_model.specs.SameSyncs.{same_sync}
use Rattle.ppd_model.specs.Synchronizations.{Sync, is_number, leads_at, led_to}
use Rattle.ppd_model.specs.Tables.{capacity_of}
use Rattle.ppd_model.specs.declared.graph.NodeId.{NodeId}
use Rattle.std.proofs.Common.{Bool, List, None, Option, Some, [], ap, arith, eq-eqb, eqb-true, false, get_or, le-leb, leb-true, length, map, refl, subst, suc, sym, true, true≢false, zero, ℕ, ◌+◌, ◌-◌, ◌∙◌, ◌∷◌, ◌≡◌, ◌≤◌}
use Rattle.std.proofs.lemmas.Bool.{and_from, and_parts}
use Rattle.std.specs.Option.{option_or as or_else}
use Rattle.std.specs.Prelude.{IsTrue, if◌then◌else◌, is_some, nat_eq, nat_le, slice_get, unwrap_or}

pub some_is : {A : Type 0} (x y : A) → Some x ≡ Some y → x ≡ y
some_is x y e = ap (λ o. unwrap_or o x) e

pub none_some : {A : Type 0} (x : A) → None ≡ Some x → ⊥
none_some x e = true≢false (ap is_some (sym e))

-- ---- which leads to which

led_wanted : (c : ℕ) (k k' : SyncKind) (o n n' : ℕ) → IsTrue (is_number (led_to c k k' n) n') → wanted_by c k' o n' ≡ Some (sync k o n)
led_wanted c V P o n n' h = ap (λ i. Some (sync V o i)) (sym (eqb-true n n' h))
led_wanted c Send Recv o n n' h = ap (λ i. Some (sync Send o i)) (sym (eqb-true n n' h))
led_wanted zero Recv Done o n n' h = ap (λ i. Some (sync Recv o i)) (sym (eqb-true n n' h))
led_wanted zero Done Send o n zero h = let e : n + 1 ≡ 0 = eqb-true (n + 1) 0 h in absurd (omega (arith, e))
led_wanted zero Done Send o n (suc n') h = let e : n + 1 ≡ suc n' = eqb-true (n + 1) (suc n') h in let i : n' ≡ n = omega (arith, e) in ap (λ i. Some (sync Done o i)) i
led_wanted (suc c) Recv Send o n n' h =
    let e : n + suc c ≡ n' = eqb-true (n + suc c) n' h in
    let i : n' - suc c ≡ n = omega (arith, e) in
    ap (λ t. if t then Some (sync Recv o (n' - suc c)) else None) (le-leb (suc c) n' (omega (arith, e))) ∙ ap (λ i. Some (sync Recv o i)) i
led_wanted zero k k' o n n' h = absurd (true≢false (sym h))
led_wanted (suc c) k k' o n n' h = absurd (true≢false (sym h))

leads_wanted : (program : Program) (k k' : SyncKind) (o o' n n' : ℕ) → IsTrue (leads_at program (Some (sync k o n)) (Some (sync k' o' n'))) → wanted program (sync k' o' n') ≡ Some (sync k o n)
leads_wanted program k k' o o' n n' h =
    let b = and_parts (nat_eq o o') (is_number (led_to (capacity_of program o) k k' n) n') h in
    ap (λ x. wanted_by (capacity_of program x) k' x n') (sym (eqb-true o o' b.0)) ∙ led_wanted (capacity_of program o) k k' o n n' b.1

-- s leads to the synchronization by its number, and is of the same object
LeadsBy : ℕ → SyncKind → ℕ → ℕ → Sync → Type 0
LeadsBy c k o n s = (s.object ≡ o) × IsTrue (is_number (led_to c s.kind k s.number) n)

freed : (c o n : ℕ) (s : Sync) (b : Bool) → nat_le (suc c) n ≡ b → (if b then Some (sync Recv o (n - suc c)) else None) ≡ Some s → LeadsBy (suc c) Send o n s
unfolding LeadsBy
freed c o n s true t e =
    let le : suc c ≤ n = leb-true (suc c) n t in
    subst (LeadsBy (suc c) Send o n) (some_is (sync Recv o (n - suc c)) s e) (refl, eq-eqb ((n - suc c) + suc c) n (omega (arith, le)))
freed c o n s false t e = absurd (none_some s e)

wanted_led : (c : ℕ) (k : SyncKind) (o n : ℕ) (s : Sync) → wanted_by c k o n ≡ Some s → LeadsBy c k o n s
unfolding LeadsBy
wanted_led c P o n s e = subst (LeadsBy c P o n) (some_is (sync V o n) s e) (refl, eq-eqb n n refl)
wanted_led c V o n s e = absurd (none_some s e)
wanted_led c Recv o n s e = subst (LeadsBy c Recv o n) (some_is (sync Send o n) s e) (refl, eq-eqb n n refl)
wanted_led zero Done o n s e = subst (LeadsBy zero Done o n) (some_is (sync Recv o n) s e) (refl, eq-eqb n n refl)
wanted_led (suc c) Done o n s e = absurd (none_some s e)
wanted_led zero Send o zero s e = absurd (none_some s e)
wanted_led zero Send o (suc n) s e = subst (LeadsBy zero Send o (suc n)) (some_is (sync Done o n) s e) (refl, eq-eqb (n + 1) (suc n) (omega arith))
wanted_led (suc c) Send o n s e = freed c o n s (nat_le (suc c) n) refl e

wanted_leads : (program : Program) (s : Sync) (k : SyncKind) (o n : ℕ) → wanted program (sync k o n) ≡ Some s → IsTrue (leads_at program (Some s) (Some (sync k o n)))
unfolding LeadsBy
wanted_leads program s k o n e =
    let l = wanted_led (capacity_of program o) k o n s e in
    and_from (nat_eq s.object o) (is_number (led_to (capacity_of program s.object) s.kind k s.number) n) (eq-eqb s.object o l.0)
    (subst (λ x. IsTrue (is_number (led_to (capacity_of program x) s.kind k s.number) n)) (sym l.0) l.1)

-- ---- where one stands

-- what is found in a row stands there
row_sound : (s : Sync) (p i : ℕ) (row : List Sync) (a : NodeId) → found_in_row s p i row ≡ Some a → (k : ℕ) × (a ≡ node p (i + k)) × (slice_get row k ≡ Some s)
row_sound s p i [] a e = absurd (none_some a e)
row_sound s p i (x ∷ xs) a e = by (same_sync x s) refl e (row_sound s p (i + 1) xs a)
  where
    by : (b : Bool) → same_sync x s ≡ b → (if b then Some (node p i) else found_in_row s p (i + 1) xs) ≡ Some a
        → (found_in_row s p (i + 1) xs ≡ Some a → (k : ℕ) × (a ≡ node p ((i + 1) + k)) × (slice_get xs k ≡ Some s))
        → (k : ℕ) × (a ≡ node p (i + k)) × (slice_get (x ∷ xs) k ≡ Some s)
    by true t f later = let z : i ≡ i + 0 = omega arith in (0, sym (some_is (node p i) a f) ∙ ap (node p) z, ap Some (same_is x s t))
    by false t f later = let r = later f in let z : (i + 1) + r.0 ≡ i + suc r.0 = omega arith in (suc r.0, r.1 ∙ ap (node p) z, r.2)

from_sound : (s : Sync) (p : ℕ) (rows : List (List Sync)) (a : NodeId) → found_from s p rows ≡ Some a → (q k : ℕ) × (a ≡ node (p + q) k) × (slice_get (get_or rows q []) k ≡ Some s)
from_sound s p [] a e = absurd (none_some a e)
from_sound s p (row ∷ rows) a e = by (found_in_row s p 0 row) refl e (from_sound s (p + 1) rows a)
  where
    by : (o : Option NodeId) → found_in_row s p 0 row ≡ o → or_else o (found_from s (p + 1) rows) ≡ Some a
        → (found_from s (p + 1) rows ≡ Some a → (q k : ℕ) × (a ≡ node ((p + 1) + q) k) × (slice_get (get_or rows q []) k ≡ Some s))
        → (q k : ℕ) × (a ≡ node (p + q) k) × (slice_get (get_or (row ∷ rows) q []) k ≡ Some s)
    by (Some b) t f later =
        let r = row_sound s p 0 row b t in
        let z : p ≡ p + 0 = omega arith in
        let y : 0 + r.0 ≡ r.0 = omega arith in
        (0, r.0, sym (some_is b a f) ∙ r.1 ∙ ap (node p) y ∙ ap (λ x. node x r.0) z, r.2)
    by None t f later = let r = later f in let z : (p + 1) + r.0 ≡ p + suc r.0 = omega arith in (suc r.0, r.1, r.2 ∙ ap (λ x. node x r.1) z, r.3)

found_there : (syncs : List (List Sync)) (s : Sync) (a : NodeId) → found_from s 0 syncs ≡ Some a → sync_at syncs a ≡ Some s
found_there syncs s a e =
    let r = from_sound s 0 syncs a e in
    let z : 0 + r.0 ≡ r.0 = omega arith in
    ap (sync_at syncs) (r.2 ∙ ap (λ x. node x r.1) z) ∙ r.3

-- one that stands somewhere is found
row_found : (s : Sync) (p i : ℕ) (row : List Sync) (k : ℕ) → slice_get row k ≡ Some s → IsTrue (is_some (found_in_row s p i row))
row_found s p i [] k e = absurd (none_some s e)
row_found s p i (x ∷ xs) zero e = ap (λ b. is_some (if b then Some (node p i) else found_in_row s p (i + 1) xs)) (subst (λ y. IsTrue (same_sync x y)) (some_is x s e) (same_self x))
row_found s p i (x ∷ xs) (suc k) e = by (same_sync x s) (row_found s p (i + 1) xs k e)
  where
    by : (b : Bool) → IsTrue (is_some (found_in_row s p (i + 1) xs)) → IsTrue (is_some (if b then Some (node p i) else found_in_row s p (i + 1) xs))
    by true h = refl
    by false h = h

or_first : (o r : Option NodeId) → IsTrue (is_some o) → IsTrue (is_some (or_else o r))
or_first (Some a) r h = refl
or_first None r h = absurd (true≢false (sym h))

or_second : (o r : Option NodeId) → IsTrue (is_some r) → IsTrue (is_some (or_else o r))
or_second (Some a) r h = refl
or_second None r h = h

from_found : (s : Sync) (p : ℕ) (rows : List (List Sync)) (q k : ℕ) → slice_get (get_or rows q []) k ≡ Some s → IsTrue (is_some (found_from s p rows))
from_found s p [] q k e = absurd (none_some s e)
from_found s p (row ∷ rows) zero k e = or_first (found_in_row s p 0 row) (found_from s (p + 1) rows) (row_found s p 0 row k e)
from_found s p (row ∷ rows) (suc q) k e = or_second (found_in_row s p 0 row) (found_from s (p + 1) rows) (from_found s (p + 1) rows q k e)

once_found : (syncs : List (List Sync)) (s : Sync) (a : NodeId) → IsOnce syncs → sync_at syncs a ≡ Some s → found_from s 0 syncs ≡ Some a
once_found syncs s a once e = by (found_from s 0 syncs) refl (from_found s 0 syncs a.process a.sync e)
  where
    by : (o : Option NodeId) → found_from s 0 syncs ≡ o → IsTrue (is_some o) → o ≡ Some a
    by (Some b) f h = ap Some (once b a s (found_there syncs s b f) e)
    by None f h = absurd (true≢false (sym h))

-- ---- the table of partners

pub length_mapped : {A B : Type 0} (f : A → B) (xs : List A) → length (map f xs) ≡ length xs
length_mapped f [] = refl
length_mapped f (x ∷ xs) = ap suc (length_mapped f xs)

pub row_mapped : {A B : Type 0} (f : A → B) (xss : List (List A)) (q : ℕ) → get_or (map (map f) xss) q [] ≡ map f (get_or xss q [])
row_mapped f [] q = refl
row_mapped f (xs ∷ xss) zero = refl
row_mapped f (xs ∷ xss) (suc q) = row_mapped f xss q

at_mapped : {A B : Type 0} (f : A → B) (d : B) (xs : List A) (i : ℕ) (x : A) → slice_get xs i ≡ Some x → get_or (map f xs) i d ≡ f x
at_mapped f d [] i x e = absurd (none_some x e)
at_mapped f d (y ∷ xs) zero x e = ap f (some_is y x e)
at_mapped f d (y ∷ xs) (suc i) x e = at_mapped f d xs i x e

past_mapped : {A B : Type 0} (f : A → B) (d : B) (xs : List A) (i : ℕ) → slice_get xs i ≡ None → get_or (map f xs) i d ≡ d
past_mapped f d [] i e = refl
past_mapped f d (y ∷ xs) zero e = absurd (none_some y (sym e))
past_mapped f d (y ∷ xs) (suc i) e = past_mapped f d xs i e

node_of_paired : (k : SyncKind) (o : Option NodeId) → node_of (paired_by k o) ≡ o
node_of_paired k (Some a) = refl
node_of_paired P None = refl
node_of_paired V None = refl
node_of_paired Send None = refl
node_of_paired Recv None = refl
node_of_paired Done None = refl

module _ (program : Program) (syncs : List (List Sync)) (once : IsOnce syncs) where
  pair_there : (b : NodeId) (s : Sync) → sync_at syncs b ≡ Some s → node_of (pair_at (pairs_of program syncs) b) ≡ found syncs (wanted program s)
  pair_there b s e =
      ap (λ row. node_of (get_or row b.sync Nothing)) (row_mapped (partner_of program syncs) syncs b.process)
      ∙ ap node_of (at_mapped (partner_of program syncs) Nothing (get_or syncs b.process []) b.sync s e) ∙ node_of_paired s.kind (found syncs (wanted program s))

  pair_none : (b : NodeId) → sync_at syncs b ≡ None → node_of (pair_at (pairs_of program syncs) b) ≡ None
  pair_none b e =
      ap (λ row. node_of (get_or row b.sync Nothing)) (row_mapped (partner_of program syncs) syncs b.process)
      ∙ ap node_of (past_mapped (partner_of program syncs) Nothing (get_or syncs b.process []) b.sync e)

  to : (a b : NodeId) (x y : Option Sync) → sync_at syncs a ≡ x → sync_at syncs b ≡ y → IsTrue (leads_at program x y) → node_of (pair_at (pairs_of program syncs) b) ≡ Some a
  to a b (Some x) (Some y) e f h = pair_there b y f ∙ ap (found syncs) (leads_wanted program x.kind y.kind x.object y.object x.number y.number h) ∙ once_found syncs x a once e
  to a b (Some x) None e f h = absurd (true≢false (sym h))
  to a b None y e f h = absurd (true≢false (sym h))

  from_wanted : (a : NodeId) (y : Sync) (w : Option Sync) → wanted program y ≡ w → found syncs w ≡ Some a → IsTrue (leads_at program (sync_at syncs a) (Some y))
  from_wanted a y None t e = absurd (none_some a e)
  from_wanted a y (Some x) t e = subst (λ o. IsTrue (leads_at program o (Some y))) (sym (found_there syncs x a e)) (wanted_leads program x y.kind y.object y.number t)

  from : (a b : NodeId) (y : Option Sync) → sync_at syncs b ≡ y → node_of (pair_at (pairs_of program syncs) b) ≡ Some a → IsTrue (leads_at program (sync_at syncs a) y)
  from a b (Some y) f e = from_wanted a y (wanted program y) refl (sym (pair_there b y f) ∙ e)
  from a b None f e = absurd (none_some a (sym (pair_none b f) ∙ e))

  pub partners : ArePartners program syncs (pairs_of program syncs)
  partners = record {
    processes = length_mapped (map (partner_of program syncs)) syncs;
    counts = λ q. ap length (row_mapped (partner_of program syncs) syncs q) ∙ length_mapped (partner_of program syncs) (get_or syncs q []);
    leads = λ a b. (to a b (sync_at syncs a) (sync_at syncs b) refl refl, from a b (sync_at syncs b) refl);
  }

pub partners_found : PartnersAreFound
partners_found program syncs once = partners program syncs once
