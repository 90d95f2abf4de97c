-- The local cells that a statement reads are cells of its frame.
use Rattle.std.proofs.Common.{◌≡◌, ℕ, zero, suc, ◌+◌, ◌<◌, ℤ, pos, negsuc, Bool, true, false, nat_lt, List, [], ◌∷◌, ◌++◌, Some, None, Ok, Err, refl, ap, sym, subst, ◌∙◌, arith, if◌then◌else◌}
use Rattle.std.specs.Prelude.{slice_get, ⊤, get_or}
use Rattle.std.specs.List.{AllByRecursion as Each, All}
use Rattle.std.proofs.lemmas.Bool.{ltb-true}
use Rattle.std.proofs.lemmas.Option.{none-some}
use Rattle.std.specs.Ordering.{int_eq}
use Rattle.ppd_ast.specs.declared.program.Expr.{Expr}
use Rattle.ppd_ast.specs.declared.program.Kind.{Kind}
use Rattle.ppd_ast.specs.declared.program.Kind.TheVariants as K
use Rattle.ppd_ast.specs.declared.program.Program.{Program}
use Rattle.ppd_ast.specs.declared.program.Target.TheVariants as T
use Rattle.ppd_ast.specs.declared.status.Trap.TheVariants.{Index}
use Rattle.ppd_ast.specs.Term.{Term, const, local, local_at, shared, shared_at, neg, not, two, and, or, term}
use Rattle.ppd_ast.specs.Lookups.{kind_of}
use Rattle.ppd_ast.proofs.Vocabulary.{kind_of_stmt}
use Rattle.ppd_sem.specs.Ask.{ask, element}
use Rattle.ppd_sem.specs.Asked.{Asked, and_then, lift, once}
use Rattle.ppd_sem.specs.Reads.{ask_place, reads_of, reads_of_all, reads_of_kind, reads_of_stored, shared_read, local_accesses}
use Rattle.ppd_sem.specs.Runs.{AreUses, RunsOver, IsRunnable, IsRunnableStmt, IsUse, size_of, stmt_size}
use Rattle.ppd_sem.specs.Within.{IsWithin}
use Rattle.ppd_sem.specs.declared.event.Access.{Access}
use Rattle.ppd_sem.specs.declared.event.Spot.{Spot}
use Rattle.ppd_sem.specs.declared.event.Spot.TheVariants.{Local, Shared}
use Rattle.ppd_sem.proofs.Kept.{There, there_at}
use Rattle.ppd_model.proofs.Changes.{some}

-- a cell of this frame with n cells, or a shared one
abbrev pub InFrame : ℕ → ℕ → Spot → Type 0
InFrame frame n (Local f c) = (f ≡ frame) × (c < n)
InFrame frame n (Shared c) = ⊤

abbrev pub AllIn : ℕ → ℕ → List Access → Type 0
AllIn frame n xs = Each (λ (a : Access). InFrame frame n a.spot) xs

pub each_at : (frame n : ℕ) (xs : List Access) (i : ℕ) (a : Access) → AllIn frame n xs → slice_get xs i ≡ Some a
    → InFrame frame n a.spot
each_at frame n [] i a h e = absurd (none-some a e)
each_at frame n (x ∷ xs) zero a h e = subst (λ (b : Access). InFrame frame n b.spot) (some e) h.0
each_at frame n (x ∷ xs) (suc i) a h e = each_at frame n xs i a h.1 e

module _ (frame n : ℕ) where
  both : (xs ys : List Access) → AllIn frame n xs → AllIn frame n ys → AllIn frame n (xs ++ ys)
  both [] ys h g = g
  both (x ∷ xs) ys h g = (h.0, both xs ys h.1 g)

  once_in : {A : Type 0} (r : Asked A) (bring : A → List ℤ → List Access)
      → ((x : A) (left : List ℤ) → AllIn frame n (bring x left)) → AllIn frame n (once r bring)
  once_in (Ok q) bring h = h q.0 q.1
  once_in (Err pause) bring h = tt

  if_in : (b : Bool) (xs ys : List Access) → AllIn frame n xs → AllIn frame n ys → AllIn frame n (if b then xs else ys)
  if_in true xs ys h g = h
  if_in false xs ys h g = g

  shared_in : (c : ℕ) (answers : List ℤ) → AllIn frame n (shared_read c answers)
  shared_in c [] = tt
  shared_in c (v ∷ vs) = (tt, tt)

  module _ (base len : ℕ) (bring : ℕ → List ℤ → List Access) (all : (c : ℕ) (left : List ℤ) → c < base + len
      → AllIn frame n (bring c left)) where
    element_in : (at : ℤ) (left : List ℤ) → AllIn frame n (once (lift left (element base len at)) bring)
    element_in (pos i) left = by (nat_lt i len) refl
      where
        by : (b : Bool) → nat_lt i len ≡ b
            → AllIn frame n (once (lift left (if b then Ok (base + i) else Err Index)) bring)
        by true e = let lt : i < len = ltb-true i len e in all (base + i) left (omega (arith, lt))
        by false e = tt
    element_in (negsuc i) left = tt

    placed_in : (r : Asked ℤ) → AllIn frame n (once (and_then r (λ at left. lift left (element base len at))) bring)
    placed_in (Ok q) = element_in q.0 q.1
    placed_in (Err pause) = tt

  terms_in : (t : Term) (cells answers : List ℤ) → IsWithin n t → AllIn frame n (reads_of frame t cells answers)
  terms_in (const v) cells answers h = tt
  terms_in (local c) cells answers h = ((refl, h), tt)
  terms_in (local_at base len i) cells answers h =
      both (reads_of frame i cells answers) (once (ask_place i base len cells answers)
      (λ c left. local_accesses frame c (get_or cells c (pos 0) ∷ []))) (terms_in i cells answers h.1)
      (placed_in base len (λ c left. local_accesses frame c (get_or cells c (pos 0) ∷ []))
      (λ c left lt. ((refl, (let le = h.0 in omega (arith, lt, le))), tt)) (ask i cells answers))
  terms_in (shared c) cells answers h = shared_in c answers
  terms_in (shared_at base len i) cells answers h =
      both (reads_of frame i cells answers) (once (ask_place i base len cells answers)
      (λ c left. shared_read c left)) (terms_in i cells answers h.1)
      (placed_in base len (λ c left. shared_read c left) (λ c left lt. shared_in c left) (ask i cells answers))
  terms_in (neg a) cells answers h = terms_in a cells answers h
  terms_in (not a) cells answers h = terms_in a cells answers h
  terms_in (two op a b) cells answers h =
      both (reads_of frame a cells answers) (once (ask a cells answers) (λ x left. reads_of frame b cells left))
      (terms_in a cells answers h.0)
      (once_in (ask a cells answers) (λ x left. reads_of frame b cells left) (λ x left. terms_in b cells left h.1))
  terms_in (and a b) cells answers h =
      both (reads_of frame a cells answers)
      (once (ask a cells answers) (λ x left. if int_eq x (pos 0) then [] else reads_of frame b cells left))
      (terms_in a cells answers h.0)
      (once_in (ask a cells answers) (λ x left. if int_eq x (pos 0) then [] else reads_of frame b cells left)
      (λ x left. if_in (int_eq x (pos 0)) [] (reads_of frame b cells left) tt (terms_in b cells left h.1)))
  terms_in (or a b) cells answers h =
      both (reads_of frame a cells answers)
      (once (ask a cells answers) (λ x left. if int_eq x (pos 0) then reads_of frame b cells left else []))
      (terms_in a cells answers h.0)
      (once_in (ask a cells answers) (λ x left. if int_eq x (pos 0) then reads_of frame b cells left else [])
      (λ x left. if_in (int_eq x (pos 0)) (reads_of frame b cells left) [] (terms_in b cells left h.1) tt))

  args_in : (es : List Expr) (args : List ℕ) (cells answers : List ℤ) → All (IsUse es n) args
      → AllIn frame n (reads_of_all frame es args cells answers)
  args_in es [] cells answers h = tt
  args_in es (a ∷ rest) cells answers h =
      both (reads_of frame (term es a) cells answers)
      (once (ask (term es a) cells answers) (λ v left. reads_of_all frame es rest cells left))
      (terms_in (term es a) cells answers (h 0 a (omega arith)).within)
      (once_in (ask (term es a) cells answers) (λ v left. reads_of_all frame es rest cells left)
      (λ v left. args_in es rest cells left (λ k d lt. h (suc k) d (omega (arith, lt)))))

  stored_in : (i e : Term) (base len : ℕ) (cells answers : List ℤ) → IsWithin n i → IsWithin n e
      → AllIn frame n (reads_of_stored frame i e base len cells answers)
  stored_in i e base len cells answers hi he =
      both (reads_of frame i cells answers) (once (ask_place i base len cells answers)
      (λ c left. reads_of frame e cells left)) (terms_in i cells answers hi)
      (once_in (ask_place i base len cells answers) (λ c left. reads_of frame e cells left)
      (λ c left. terms_in e cells left he))

  module _ (es : List Expr) (cells answers : List ℤ) where
    pub kinds_in : (k : Kind) → AreUses es n k → AllIn frame n (reads_of_kind frame es k cells answers)
    kinds_in (K.Set (T.Local c) e) h = terms_in (term es e) cells answers h.1.within
    kinds_in (K.Set (T.LocalAt base len i) e) h =
        stored_in (term es i) (term es e) base len cells answers h.0.0.within h.1.within
    kinds_in (K.Set (T.Shared c) e) h = terms_in (term es e) cells answers h.1.within
    kinds_in (K.Set (T.SharedAt base len i) e) h =
        stored_in (term es i) (term es e) base len cells answers h.0.0.within h.1.within
    kinds_in (K.Zero base len) h = tt
    kinds_in (K.If e first second) h = terms_in (term es e) cells answers h.within
    kinds_in (K.While e body) h = terms_in (term es e) cells answers h.within
    kinds_in (K.Call f args into) h = args_in es args cells answers h
    kinds_in (K.Return None) h = tt
    kinds_in (K.Return (Some e)) h = terms_in (term es e) cells answers h.within
    kinds_in (K.P s) h = tt
    kinds_in (K.V s) h = tt
    kinds_in (K.Send c e) h = terms_in (term es e) cells answers h.within
    kinds_in (K.Recv c into) h = tt
    kinds_in (K.Print e) h = terms_in (term es e) cells answers h.within
    kinds_in (K.Assert e) h = terms_in (term es e) cells answers h.within
    kinds_in K.End h = tt

-- the expressions of a statement over frames of n cells
pub uses_of : (p : Program) (n s : ℕ) → IsRunnable p → RunsOver p n s → AreUses p.exprs n (kind_of p s)
uses_of p n s h over =
    let found : There (λ _ x. IsRunnableStmt p x) p.stmts s =
    there_at (λ _ x. IsRunnableStmt p x) p.stmts s h.stmts over.there in
    let size : size_of p found.0.body ≡ n = sym (ap (stmt_size p) found.1) ∙ over.size in
    let kind : found.0.kind ≡ kind_of p s = sym (ap kind_of_stmt found.1) in
    subst (λ (m : ℕ). AreUses p.exprs m (kind_of p s)) size
    (subst (λ (k : Kind). AreUses p.exprs (size_of p found.0.body) k) kind found.2.uses)
