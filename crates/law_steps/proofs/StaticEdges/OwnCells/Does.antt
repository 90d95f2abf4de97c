-- What a deed tells of the local cells that its statement writes.
use Rattle.std.proofs.Common.{◌≡◌, ◌≢◌, ℕ, ◌+◌, ◌<◌, ◌≤◌, ℤ, Bool, true, false, List, [], Option, Some, None, refl, sym}
use Rattle.std.specs.Prelude.{IsTrue, ⊤}
use Rattle.std.proofs.lemmas.Bool.{ne_eqb}
use Rattle.ppd_ast.specs.declared.program.Expr.{Expr}
use Rattle.ppd_ast.specs.declared.program.Kind.{Kind}
use Rattle.ppd_ast.specs.declared.program.Kind.TheVariants as K
use Rattle.ppd_ast.specs.declared.program.Target.TheVariants as T
use Rattle.ppd_ast.specs.Members.{has}
use Rattle.ppd_ast.proofs.Members.{has_first, in_bounds_has}
use Rattle.ppd_deps.specs.Edges.{scalar_written}
use Rattle.ppd_deps.proofs.Vocabulary.{is_cell}
use Rattle.ppd_sem.specs.Asked.{Asked}
use Rattle.ppd_sem.specs.Deed.{Deed, set_local, set_shared, clear, branch, turn, leave, invoke, back, take, give, send, receive, print, pass, finish, ask_deed}
use Rattle.ppd_sem.proofs.OfKind.{IsDeedOf, OfAsked, asked_holds, backs, backs_value, clears, finishes, invokes, receives, releases, sends, sets, sets_element, shares, shares_element, takes}
use Rattle.ppd_sets.specs.Named.{writes}

-- neither a call nor a return: what a statement of this kind writes is written at itself
abbrev pub is_own : Kind → Bool
is_own (K.Call f args into) = false
is_own (K.Return e) = false
is_own k = true

-- a statement of this kind that writes local cell c, and no other scalar
pub record IsLocalWrite (k : Kind) (c : ℕ) : Type 0 where
  pub own : is_own k ≡ true
  pub written : IsTrue (has (writes false k) c)
  pub others : (d : ℕ) → d ≢ c → is_cell d (scalar_written k) ≡ false

-- a statement of this kind that writes no local scalar
pub record WritesNone (k : Kind) : Type 0 where
  pub own : is_own k ≡ true
  pub none : scalar_written k ≡ None

pub record IsSend (k : Kind) (c : ℕ) : Type 0 where
  pub value : ℕ
  pub kind_is : k ≡ K.Send c value

-- what a deed tells of the kind of its statement
abbrev pub Does : Kind → Deed → Type 0
Does k (set_local c v) = IsLocalWrite k c
Does k (set_shared c v) = WritesNone k × IsTrue (has (writes true k) c)
Does k (clear base len) = k ≡ K.Zero base len
Does k (branch stmts) = WritesNone k
Does k (turn stmts) = WritesNone k
Does k leave = WritesNone k
Does k (invoke f values into) = ⊤
Does k (back value) = (e : Option ℕ) × (k ≡ K.Return e)
Does k (take sem) = k ≡ K.P sem
Does k (give sem) = k ≡ K.V sem
Does k (send chan value) = IsSend k chan
Does k (receive chan into) = k ≡ K.Recv chan into
Does k (print v) = WritesNone k
Does k pass = WritesNone k
Does k finish = k ≡ K.End

abbrev pub AskedDoes : Kind → Asked Deed → Type 0
AskedDoes k = OfAsked (Does k)

-- another cell is none that this scalar's write writes
pub other_cell : (c d : ℕ) → d ≢ c → is_cell d (Some c) ≡ false
other_cell c d n = ne_eqb c d (λ e. n (sym e))

scalar_write : (c e : ℕ) → IsLocalWrite (K.Set (T.Local c) e) c
scalar_write c e = record { own = refl; written = has_first c []; others = λ d n. other_cell c d n }

element_write : (base len i e c : ℕ) → base ≤ c → c < base + len → IsLocalWrite (K.Set (T.LocalAt base len i) e) c
element_write base len i e c low high = record { own = refl; written = in_bounds_has base len c low high; others = λ d n. refl }

does : (k : Kind) (d : Deed) → IsDeedOf k d → Does k d
does k d (sets {c = c} {e = e} v) = scalar_write c e
does k d (sets_element {base = base} {len = len} {i = i} {e = e} {c = c} v low high) = element_write base len i e c low high
does k d (shares {c = c} v) = (record { own = refl; none = refl }, has_first c [])
does k d (shares_element {base = base} {len = len} {c = c} v low high) =
    (record { own = refl; none = refl }, in_bounds_has base len c low high)
does k d clears = refl
does k d (invokes values count) = tt
does k d backs = (None, refl)
does k d (backs_value {e = e} v) = (Some e, refl)
does k d takes = refl
does k d releases = refl
does k d (sends {e = e} v) = record { value = e; kind_is = refl }
does k d receives = refl
does k d finishes = refl
does k d is = record { own = refl; none = refl }

pub deed_does : (es : List Expr) (k : Kind) (cells answers : List ℤ) → AskedDoes k (ask_deed es k cells answers)
deed_does es k cells answers = asked_holds es cells answers (Does k) k (does k)
