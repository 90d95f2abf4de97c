-- A direct step leads to another synchronization, which is there; and how many there are after one more.
use Rattle.std.proofs.Common.{◌≡◌, ℕ, zero, suc, ◌+◌, ◌<◌, ◌≤◌, List, [], ◌∷◌, ◌++◌, length, map, get_or, Option, Some, None, refl, ap, sym, arith, inl, inr, true≢false, eqb-true, ◌&&◌}
use Rattle.std.proofs.lemmas.Bool.{and_parts, or_cases}
use Rattle.std.specs.Prelude.{IsTrue, is_some, nat_eq, option_to_list, filter_map}
use Rattle.ppd_ast.specs.declared.program.Program.{Program}
use Rattle.ppd_ast.specs.declared.status.SyncKind.{SyncKind}
use Rattle.ppd_ast.specs.declared.status.SyncKind.TheVariants.{P, V, Send, Recv, Done}
use Rattle.ppd_ast.proofs.ValidLaws.{slice_get_below}
use Rattle.ppd_sem.specs.Tables.{capacity_of}
use Rattle.ppd_sem.specs.declared.proc.Proc.{Proc}
use Rattle.ppd_model.specs.declared.graph.NodeId.{NodeId}
use Rattle.ppd_model.specs.HappenedBefore.{is_direct, sync_at}
use Rattle.ppd_model.proofs.OrderWords.{is_next}
use Rattle.ppd_model.specs.Story.{steps_of}
use Rattle.ppd_model.specs.Synchronizations.{Sync, is_number, leads_at, led_to, sync_of}
use Rattle.ppd_model.specs.World.{change}

-- ---- one more at the end of one list

more_by : (o : Option Sync) (xs : List Sync) → (length xs ≤ length (xs ++ option_to_list o)) × (length (xs ++ option_to_list o) ≤ length xs + 1)
more_by None [] = (omega arith, omega arith)
more_by (Some s) [] = (omega arith, omega arith)
more_by o (x ∷ xs) = let r = more_by o xs in let a = r.0 in let b = r.1 in (omega (arith, a), omega (arith, b))

pub one_more : (o : Option Sync) (p q : ℕ) (rows : List (List Sync)) → (length (get_or rows q []) ≤ length (get_or (change (λ ss. ss ++ option_to_list o) p rows) q []))
    × (length (get_or (change (λ ss. ss ++ option_to_list o) p rows) q []) ≤ length (get_or rows q []) + 1)
one_more o p q [] = (omega arith, omega arith)
one_more o zero zero (row ∷ rows) = more_by o row
one_more o zero (suc q) (row ∷ rows) = (omega arith, omega arith)
one_more o (suc p) zero (row ∷ rows) = (omega arith, omega arith)
one_more o (suc p) (suc q) (row ∷ rows) = one_more o p q rows

pub others : (o : Option Sync) (p q : ℕ) (rows : List (List Sync)) → (q ≡ p → ⊥) → length (get_or (change (λ ss. ss ++ option_to_list o) p rows) q []) ≡ length (get_or rows q [])
others o p q [] d = refl
others o zero zero (row ∷ rows) d = absurd (d refl)
others o zero (suc q) (row ∷ rows) d = refl
others o (suc p) zero (row ∷ rows) d = refl
others o (suc p) (suc q) (row ∷ rows) d = others o p q rows (λ e. d (ap suc e))

pub none_begun : (procs : List Proc) (q : ℕ) → length (get_or (map (filter_map sync_of) (map steps_of (map (λ _. []) procs))) q []) ≡ 0
none_begun [] q = refl
none_begun (s ∷ ss) zero = refl
none_begun (s ∷ ss) (suc q) = none_begun ss q

-- ---- a direct step

no_self_kind : (c : ℕ) (k : SyncKind) (n : ℕ) → IsTrue (is_number (led_to c k k n) n) → ⊥
no_self_kind zero P n h = true≢false (sym h)
no_self_kind zero V n h = true≢false (sym h)
no_self_kind zero Send n h = true≢false (sym h)
no_self_kind zero Recv n h = true≢false (sym h)
no_self_kind zero Done n h = true≢false (sym h)
no_self_kind (suc c) P n h = true≢false (sym h)
no_self_kind (suc c) V n h = true≢false (sym h)
no_self_kind (suc c) Send n h = true≢false (sym h)
no_self_kind (suc c) Recv n h = true≢false (sym h)
no_self_kind (suc c) Done n h = true≢false (sym h)

module _ (program : Program) (syncs : List (List Sync)) where
  no_self_lead : (o : Option Sync) → IsTrue (leads_at program o o) → ⊥
  no_self_lead None h = true≢false (sym h)
  no_self_lead (Some s) h = no_self_kind (capacity_of program s.object) s.kind s.number (and_parts (nat_eq s.object s.object) (is_number (led_to (capacity_of program s.object) s.kind s.kind s.number) s.number) h).1

  -- it leads to another one
  pub not_itself : (a : NodeId) → IsTrue (is_direct program syncs a a) → ⊥
  not_itself a d = elim (or_cases (is_next syncs a a) (leads_at program (sync_at syncs a) (sync_at syncs a)) d) [
    | inl next ↦
        let both = and_parts (nat_eq a.process a.process && nat_eq (a.sync + 1) a.sync) (is_some (sync_at syncs a)) next in
        let parts = and_parts (nat_eq a.process a.process) (nat_eq (a.sync + 1) a.sync) both.0 in
        let e : a.sync + 1 ≡ a.sync = eqb-true (a.sync + 1) a.sync parts.1 in
        omega (arith, e)
    | inr lead ↦ no_self_lead (sync_at syncs a) lead
  ]

  some_there : (a : NodeId) (o : Option Sync) → sync_at syncs a ≡ o → IsTrue (is_some o) → a.sync < length (get_or syncs a.process [])
  some_there a (Some s) e h = slice_get_below (get_or syncs a.process []) a.sync s e
  some_there a None e h = absurd (true≢false (sym h))

  led_some : (x y : Option Sync) → IsTrue (leads_at program x y) → IsTrue (is_some y)
  led_some (Some a) (Some b) h = refl
  led_some (Some a) None h = absurd (true≢false (sym h))
  led_some None y h = absurd (true≢false (sym h))

  -- to one that is there
  pub direct_there : (a b : NodeId) → IsTrue (is_direct program syncs a b) → b.sync < length (get_or syncs b.process [])
  direct_there a b d = elim (or_cases (is_next syncs a b) (leads_at program (sync_at syncs a) (sync_at syncs b)) d) [
    | inl next ↦ some_there b (sync_at syncs b) refl (and_parts (nat_eq a.process b.process && nat_eq (a.sync + 1) b.sync) (is_some (sync_at syncs b)) next).1
    | inr lead ↦ some_there b (sync_at syncs b) refl (led_some (sync_at syncs a) (sync_at syncs b) lead)
  ]
