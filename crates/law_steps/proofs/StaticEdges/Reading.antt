-- What a statement reads is among what it may read.
use Rattle.std.proofs.Common.{◌≡◌, ℕ, zero, suc, ◌+◌, ◌<◌, ◌≤◌, ℤ, pos, negsuc, Bool, true, false, nat_lt, List, [], ◌∷◌, ◌++◌, Some, None, Ok, Err, refl, subst, ap, sym, arith, if◌then◌else◌}
use Rattle.std.specs.Prelude.{IsTrue, ⊤, slice_get, get_or}
use Rattle.std.specs.List.{range_with_len}
use Rattle.std.proofs.lemmas.Bool.{ltb-true}
use Rattle.std.specs.Ordering.{int_eq}
use Rattle.ppd_ast.specs.declared.program.Expr.{Expr}
use Rattle.ppd_ast.specs.declared.program.Kind.{Kind}
use Rattle.ppd_ast.specs.declared.program.Kind.TheVariants as K
use Rattle.ppd_ast.specs.declared.program.Target.TheVariants as T
use Rattle.ppd_ast.specs.declared.status.Trap.TheVariants.{Index}
use Rattle.ppd_ast.specs.Term.{Term, const, local, local_at, shared, shared_at, neg, not, two, and, or, term}
use Rattle.ppd_ast.specs.Uses.{kind_uses}
use Rattle.ppd_ast.specs.Members.{has}
use Rattle.ppd_ast.proofs.Members.{has_first, has_later, has_left, has_right, in_bounds_has, flat_from}
use Rattle.ppd_sem.specs.declared.event.Access.{Access}
use Rattle.ppd_sem.specs.declared.event.Spot.{Spot}
use Rattle.ppd_sem.specs.declared.event.Spot.TheVariants.{Local, Shared}
use Rattle.ppd_sem.specs.Ask.{ask, element}
use Rattle.ppd_sem.specs.Asked.{Asked, and_then, lift, once}
use Rattle.ppd_sem.specs.Reads.{ask_place, reads_of, reads_of_all, reads_of_kind, reads_of_stored, shared_read, local_accesses}
use Rattle.ppd_sets.specs.Named.{cells_in, reads}

-- each access is at such a place
abbrev AllAt : (Spot → Type 0) → List Access → Type 0
AllAt W [] = ⊤
AllAt W (a ∷ as') = W a.spot × AllAt W as'

at_each : (W : Spot → Type 0) (xs : List Access) (i : ℕ) (a : Access) → AllAt W xs → slice_get xs i ≡ Some a → W a.spot
at_each W [] i a all e = absurd (cc)
at_each W (x ∷ xs) zero a all e = let same : x ≡ a = cc in subst (λ (y : Access). W y.spot) same all.0
at_each W (x ∷ xs) (suc i) a all e = at_each W xs i a all.1 e

both_at : (W : Spot → Type 0) (xs ys : List Access) → AllAt W xs → AllAt W ys → AllAt W (xs ++ ys)
both_at W [] ys h k = k
both_at W (x ∷ xs) ys h k = (h.0, both_at W xs ys h.1 k)

once_at : {A : Type 0} (W : Spot → Type 0) (r : Asked A) (bring : A → List ℤ → List Access) → ((x : A) (left : List ℤ) → AllAt W (bring x left)) → AllAt W (once r bring)
once_at W (Ok p) bring h = h p.0 p.1
once_at W (Err pause) bring h = tt

if_at : (W : Spot → Type 0) (b : Bool) (xs ys : List Access) → AllAt W xs → AllAt W ys → AllAt W (if b then xs else ys)
if_at W true xs ys h k = h
if_at W false xs ys h k = k

-- ---- an element's cell is one of its array

module _ (W : Spot → Type 0) (base len : ℕ) (bring : ℕ → List ℤ → List Access) (all : (c : ℕ) (left : List ℤ) → base ≤ c → c < base + len → AllAt W (bring c left)) where
  element_at : (at : ℤ) (left : List ℤ) → AllAt W (once (lift left (element base len at)) bring)
  element_at (pos i) left = by (nat_lt i len) refl
    where
      by : (b : Bool) → nat_lt i len ≡ b → AllAt W (once (lift left (if b then Ok (base + i) else Err Index)) bring)
      by true e = let lt : i < len = ltb-true i len e in all (base + i) left (omega arith) (omega arith)
      by false e = tt
  element_at (negsuc i) left = tt

  placed : (r : Asked ℤ) → AllAt W (once (and_then r (λ at left. lift left (element base len at))) bring)
  placed (Ok p) = element_at p.0 p.1
  placed (Err pause) = tt

-- ---- expressions

-- the cells that the expression may read are such places
record AllIn (W : Spot → Type 0) (frame : ℕ) (t : Term) : Type 0 where
  locals : (c : ℕ) → IsTrue (has (cells_in false t) c) → W (Local frame c)
  shareds : (c : ℕ) → IsTrue (has (cells_in true t) c) → W (Shared c)

left_in : (W : Spot → Type 0) (frame : ℕ) (a b t : Term) → ((w : Bool) → cells_in w t ≡ cells_in w a ++ cells_in w b) → AllIn W frame t → AllIn W frame a
left_in W frame a b t e h = record {
  locals = λ c k. h.locals c (subst (λ xs. IsTrue (has xs c)) (sym (e false)) (has_left (cells_in false a) (cells_in false b) c k));
  shareds = λ c k. h.shareds c (subst (λ xs. IsTrue (has xs c)) (sym (e true)) (has_left (cells_in true a) (cells_in true b) c k));
}

right_in : (W : Spot → Type 0) (frame : ℕ) (a b t : Term) → ((w : Bool) → cells_in w t ≡ cells_in w a ++ cells_in w b) → AllIn W frame t → AllIn W frame b
right_in W frame a b t e h = record {
  locals = λ c k. h.locals c (subst (λ xs. IsTrue (has xs c)) (sym (e false)) (has_right (cells_in false a) (cells_in false b) c k));
  shareds = λ c k. h.shareds c (subst (λ xs. IsTrue (has xs c)) (sym (e true)) (has_right (cells_in true a) (cells_in true b) c k));
}

read_at : (W : Spot → Type 0) (c : ℕ) (answers : List ℤ) → W (Shared c) → AllAt W (shared_read c answers)
read_at W c [] w = tt
read_at W c (v ∷ left) w = (w, tt)

module _ (W : Spot → Type 0) (frame : ℕ) where
  terms_at : (t : Term) (cells answers : List ℤ) → AllIn W frame t → AllAt W (reads_of frame t cells answers)
  terms_at (const v) cells answers h = tt
  terms_at (local c) cells answers h = (h.locals c (has_first c []), tt)
  terms_at (local_at base len i) cells answers h =
      both_at W (reads_of frame i cells answers) (once (ask_place i base len cells answers) (λ c left. local_accesses frame c (get_or cells c (pos 0) ∷ [])))
      (terms_at i cells answers (record { locals = λ c k. h.locals c (has_right (range_with_len base len) (cells_in false i) c k); shareds = h.shareds }))
      (placed W base len (λ c left. local_accesses frame c (get_or cells c (pos 0) ∷ []))
      (λ c left low high. (h.locals c (has_left (range_with_len base len) (cells_in false i) c (in_bounds_has base len c low high)), tt)) (ask i cells answers))
  terms_at (shared c) cells answers h = read_at W c answers (h.shareds c (has_first c []))
  terms_at (shared_at base len i) cells answers h =
      both_at W (reads_of frame i cells answers) (once (ask_place i base len cells answers) (λ c left. shared_read c left))
      (terms_at i cells answers (record { locals = h.locals; shareds = λ c k. h.shareds c (has_right (range_with_len base len) (cells_in true i) c k) }))
      (placed W base len (λ c left. shared_read c left)
      (λ c left low high. read_at W c left (h.shareds c (has_left (range_with_len base len) (cells_in true i) c (in_bounds_has base len c low high)))) (ask i cells answers))
  terms_at (neg a) cells answers h = terms_at a cells answers (record { locals = h.locals; shareds = h.shareds })
  terms_at (not a) cells answers h = terms_at a cells answers (record { locals = h.locals; shareds = h.shareds })
  terms_at (two op a b) cells answers h =
      both_at W (reads_of frame a cells answers) (once (ask a cells answers) (λ x left. reads_of frame b cells left)) (terms_at a cells answers (left_in W frame a b (two op a b) (λ w. refl) h))
      (once_at W (ask a cells answers) (λ x left. reads_of frame b cells left) (λ x left. terms_at b cells left (right_in W frame a b (two op a b) (λ w. refl) h)))
  terms_at (and a b) cells answers h =
      both_at W (reads_of frame a cells answers) (once (ask a cells answers) (λ x left. if int_eq x (pos 0) then [] else reads_of frame b cells left))
      (terms_at a cells answers (left_in W frame a b (and a b) (λ w. refl) h))
      (once_at W (ask a cells answers) (λ x left. if int_eq x (pos 0) then [] else reads_of frame b cells left)
      (λ x left. if_at W (int_eq x (pos 0)) [] (reads_of frame b cells left) tt (terms_at b cells left (right_in W frame a b (and a b) (λ w. refl) h))))
  terms_at (or a b) cells answers h =
      both_at W (reads_of frame a cells answers) (once (ask a cells answers) (λ x left. if int_eq x (pos 0) then reads_of frame b cells left else []))
      (terms_at a cells answers (left_in W frame a b (or a b) (λ w. refl) h))
      (once_at W (ask a cells answers) (λ x left. if int_eq x (pos 0) then reads_of frame b cells left else [])
      (λ x left. if_at W (int_eq x (pos 0)) (reads_of frame b cells left) [] (terms_at b cells left (right_in W frame a b (or a b) (λ w. refl) h)) tt))

  all_args : (es : List Expr) (args : List ℕ) (cells answers : List ℤ) → ((e : ℕ) → IsTrue (has args e) → AllIn W frame (term es e)) → AllAt W (reads_of_all frame es args cells answers)
  all_args es [] cells answers h = tt
  all_args es (a ∷ rest) cells answers h =
      both_at W (reads_of frame (term es a) cells answers) (once (ask (term es a) cells answers) (λ v left. reads_of_all frame es rest cells left)) (terms_at (term es a) cells answers (h a (has_first a rest)))
      (once_at W (ask (term es a) cells answers) (λ v left. reads_of_all frame es rest cells left) (λ v left. all_args es rest cells left (λ e k. h e (has_later a e rest k))))

  -- ---- statements

  stored_at : (i e : Term) (base len : ℕ) (cells answers : List ℤ) → AllIn W frame i → AllIn W frame e → AllAt W (reads_of_stored frame i e base len cells answers)
  stored_at i e base len cells answers hi he =
      both_at W (reads_of frame i cells answers) (once (ask_place i base len cells answers) (λ c left. reads_of frame e cells left)) (terms_at i cells answers hi)
      (once_at W (ask_place i base len cells answers) (λ c left. reads_of frame e cells left) (λ c left. terms_at e cells left he))

  module _ (es : List Expr) (cells answers : List ℤ) where
    kinds_at : (k : Kind) → ((e : ℕ) → IsTrue (has (kind_uses k) e) → AllIn W frame (term es e)) → AllAt W (reads_of_kind frame es k cells answers)
    kinds_at (K.Set (T.Local c) e) h = terms_at (term es e) cells answers (h e (has_first e []))
    kinds_at (K.Set (T.LocalAt base len i) e) h = stored_at (term es i) (term es e) base len cells answers (h i (has_first i (e ∷ []))) (h e (has_later i e (e ∷ []) (has_first e [])))
    kinds_at (K.Set (T.Shared c) e) h = terms_at (term es e) cells answers (h e (has_first e []))
    kinds_at (K.Set (T.SharedAt base len i) e) h = stored_at (term es i) (term es e) base len cells answers (h i (has_first i (e ∷ []))) (h e (has_later i e (e ∷ []) (has_first e [])))
    kinds_at (K.Zero base len) h = tt
    kinds_at (K.If e first second) h = terms_at (term es e) cells answers (h e (has_first e []))
    kinds_at (K.While e body) h = terms_at (term es e) cells answers (h e (has_first e []))
    kinds_at (K.Call f args into) h = all_args es args cells answers h
    kinds_at (K.Return None) h = tt
    kinds_at (K.Return (Some e)) h = terms_at (term es e) cells answers (h e (has_first e []))
    kinds_at (K.P s) h = tt
    kinds_at (K.V s) h = tt
    kinds_at (K.Send c e) h = terms_at (term es e) cells answers (h e (has_first e []))
    kinds_at (K.Recv c into) h = tt
    kinds_at (K.Print e) h = terms_at (term es e) cells answers (h e (has_first e []))
    kinds_at (K.Assert e) h = terms_at (term es e) cells answers (h e (has_first e []))
    kinds_at K.End h = tt

-- a place that a statement of this kind may read
pub record MayRead (es : List Expr) (k : Kind) (s : Spot) : Type 0 where
  pub local_cell : (frame c : ℕ) → s ≡ Local frame c → IsTrue (has (reads false es k) c)
  pub shared_cell : (c : ℕ) → s ≡ Shared c → IsTrue (has (reads true es k) c)

abbrev same_cell : Spot → ℕ
same_cell (Local frame c) = c
same_cell (Shared c) = c

of_local : (es : List Expr) (k : Kind) (frame c : ℕ) → IsTrue (has (reads false es k) c) → MayRead es k (Local frame c)
of_local es k frame c h = record { local_cell = λ f d e. subst (λ x. IsTrue (has (reads false es k) x)) (ap same_cell e) h; shared_cell = λ d e. absurd (cc) }

of_shared : (es : List Expr) (k : Kind) (c : ℕ) → IsTrue (has (reads true es k) c) → MayRead es k (Shared c)
of_shared es k c h = record { local_cell = λ f d e. absurd (cc); shared_cell = λ d e. subst (λ x. IsTrue (has (reads true es k) x)) (ap same_cell e) h }

-- each place that is read is one that may be read
pub read_may : (frame : ℕ) (es : List Expr) (k : Kind) (cells answers : List ℤ) (i : ℕ) (a : Access) → slice_get (reads_of_kind frame es k cells answers) i ≡ Some a → MayRead es k a.spot
read_may frame es k cells answers i a e =
    at_each (MayRead es k) (reads_of_kind frame es k cells answers) i a
    (kinds_at (MayRead es k) frame es cells answers k
    (λ x u. record {
      locals = λ c h. of_local es k frame c (flat_from (λ y. cells_in false (term es y)) (kind_uses k) x c u h);
      shareds = λ c h. of_shared es k c (flat_from (λ y. cells_in true (term es y)) (kind_uses k) x c u h);
    }))
    e
