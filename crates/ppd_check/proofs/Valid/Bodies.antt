-- The statements and bodies of the table are valid, where their terms and statements are before they are numbered.
use Rattle.std.proofs.Common.{◌≡◌, refl, sym, ap, subst, ℕ, ◌+◌, ◌<◌, nat_le, false, arith, List, [], ◌∷◌, ◌++◌, map, length, Option, Some, None, IsTrue}
use Rattle.std.specs.Prelude.{slice_get}
use Rattle.std.specs.List.{All, AllByRecursion, flat_map}
use Rattle.std.proofs.lemmas.List.{length-append}
use Rattle.std.proofs.lemmas.List.Elements.{All-from_recursion, recursion_from_All, All-append, All-nil}
use Rattle.ppd_ast.specs.declared.program.Expr.{Expr}
use Rattle.ppd_ast.specs.declared.program.Var.{Var}
use Rattle.ppd_ast.specs.declared.program.Kind.TheVariants.{If, While}
use Rattle.ppd_ast.specs.declared.program.Body.{Body}
use Rattle.ppd_ast.specs.declared.program.Program.{Program}
use Rattle.ppd_ast.specs.Term.{Term, term}
use Rattle.ppd_ast.specs.Order.{StandIn}
use Rattle.ppd_ast.specs.Uses.{kind_uses}
use Rattle.ppd_ast.specs.Cells.{NamesWhole, WritesWhole}
use Rattle.ppd_ast.specs.Valid.{Follow, HasObject, CallsRightly, IsValidUse, IsValidKind, IsValidStmt, IsValidBody}
use Rattle.ppd_check_names.specs.Fitted.{fitted}
use Rattle.ppd_check_names.specs.Names.{Scope}
use Rattle.ppd_check_stmts.specs.Code.{Code, Act, done, act, choice, loop, count}
use Rattle.ppd_check_stmts.specs.Table.{weight, weights, root, roots, flats, terms, act_terms, kind, numbers, stmts}
use Rattle.ppd_check.specs.Sources.{head_code, head_frame, vars, body, bodies, all_stmts, return_faults}
use Rattle.ppd_check_names.specs.Globals.{Head}
use Rattle.ppd_check_stmts.proofs.Table.Joined.{flats_append}
use Rattle.ppd_check_stmts.proofs.Table.Writing.{length_flats, length_stmts}
use Rattle.ppd_check.proofs.Valid.Facts.{TermSmall, acts_in, CodeNames, HeadNames, CodeSizes, HeadSizes}
use Rattle.ppd_check.proofs.Valid.Headers.{HeadersPass}
use Rattle.ppd_check.proofs.Valid.Lists.{EachFrom, Stands, all_parts, all_three, all_two, each_append, some_and, stands_append}
use Rattle.ppd_check.proofs.Valid.Order.{stands_stmts, IsIn, stand_in, no_inner, body_in_order}
use Rattle.ppd_check.proofs.Valid.Terms.{stands_flat, each_root}
use Rattle.ppd_check.proofs.Valid.Uses.{act_uses}
use Rattle.ppd_check.proofs.Valid.Returns.{EndsRight, head_ends, body_right, body_ending}

stands_flats : (all : List Expr) (m : ℕ) (ts us : List Term) → Stands all m (flats m (ts ++ us)) → Stands all m (flats m ts) × Stands all (m + weights ts) (flats (m + weights ts) us)
stands_flats all m ts us h =
    let parts = stands_append all (flats m ts) (flats (m + weights ts) us) m (subst (Stands all m) (flats_append m ts us) h) in
    (parts.0, subst (λ k. Stands all (m + k) (flats (m + weights ts) us)) (length_flats m ts) parts.1)

-- Rows.

abbrev TermFits : Program → List Var → Term → Type 0
TermFits p locals t = TermSmall t × NamesWhole p.shared locals t

abbrev ActFits : Program → List Var → Act → Type 0
ActFits p locals a = ((m : ℕ) → WritesWhole p.shared locals (kind m a)) × ((m : ℕ) → HasObject p (kind m a)) × ((m : ℕ) → CallsRightly p (kind m a))

terms_fit : (p : Program) (locals : List Var) (c : Code) → CodeSizes c → CodeNames p locals c → AllByRecursion (TermFits p locals) (terms c)
terms_fit p locals c s h = all_two TermSmall (NamesWhole p.shared locals) (terms c) s.terms (recursion_from_All (NamesWhole p.shared locals) (terms c) h.names)

acts_fit : (p : Program) (locals : List Var) (c : Code) → CodeNames p locals c → AllByRecursion (ActFits p locals) (acts_in c)
acts_fit p locals c h =
    all_three _ _ _ (acts_in c) (recursion_from_All (λ a. (m : ℕ) → WritesWhole p.shared locals (kind m a)) (acts_in c) h.writes)
    (recursion_from_All (λ a. (m : ℕ) → HasObject p (kind m a)) (acts_in c) h.objects) (recursion_from_All (λ a. (m : ℕ) → CallsRightly p (kind m a)) (acts_in c) h.calls)

module _ (p : Program) (j : ℕ) (b : Body) (here : slice_get p.bodies j ≡ Some b) where
  abbrev TreeFits : ℕ → Type 0
  TreeFits i = (i < length p.exprs) × TermFits p b.locals (term p.exprs i)

  uses_valid : (is : List ℕ) → AllByRecursion TreeFits is → AllByRecursion (IsValidUse p b) is
  uses_valid [] h = tt
  uses_valid (i ∷ is) h =
      (record { there = h.0.0; depth = h.0.1.0.0; operators = h.0.1.0.1; names = h.0.1.1 }, uses_valid is h.1)

  -- the uses of a statement whose terms these are
  kind_valid : (m : ℕ) (ts : List Term) (is : List ℕ) → is ≡ roots m ts → Stands p.exprs m (flats m ts) → AllByRecursion (TermFits p b.locals) ts → All (IsValidUse p b) is
  kind_valid m ts is e h f =
      subst (All (IsValidUse p b)) (sym e) (All-from_recursion (IsValidUse p b) (roots m ts) (uses_valid (roots m ts) (each_root (TermFits p b.locals) p.exprs m ts h f)))

  one_valid : (m : ℕ) (t : Term) (us : List Term) → Stands p.exprs m (flats m (t ∷ us)) → TermFits p b.locals t → All (IsValidUse p b) (root m t ∷ [])
  one_valid m t us h f =
      kind_valid m (t ∷ []) (root m t ∷ []) refl (stands_flats p.exprs m (t ∷ []) us h).0 (f, tt)

  row_valid : (q : Option ℕ) (n m : ℕ) (c : Code) → Stands p.stmts n (stmts j q n m c) → Stands p.exprs m (flats m (terms c)) → AllByRecursion (TermFits p b.locals) (terms c)
      → AllByRecursion (ActFits p b.locals) (acts_in c) → EndsRight b n c → EachFrom (IsValidStmt p) n (stmts j q n m c)
  row_valid q n m done h x f a r = tt
  row_valid q n m (act w o c) h x f a r =
      let xs = stands_flats p.exprs m (act_terms o) (terms c) x in
      let fs = all_parts (TermFits p b.locals) (act_terms o) (terms c) f in (
        record {
          kind = some_and (slice_get p.bodies j) b (λ d. IsValidKind p d n (kind m o)) here
              (record {
                uses = kind_valid m (act_terms o) (kind_uses (kind m o)) (act_uses m o) xs.0 fs.0;
                writes = a.0.0 m;
                object = a.0.1 m;
                call = a.0.2 m;
                ending = r.0 m;
              });
          inside = subst (StandIn p.stmts (Some n) j) (sym (no_inner m o)) (All-nil (IsIn p.stmts (Some n) j));
        },
        row_valid q (n + 1) (m + weights (act_terms o)) c h.1 xs.1 fs.1 a.1 r.1,
      )
  row_valid q n m (choice w e y z c) h x f a r =
      let n1 : ℕ = n + 1 in
      let n2 : ℕ = n1 + count y in
      let n3 : ℕ = n2 + count z in
      let m1 : ℕ = m + weight e in
      let m2 : ℕ = m1 + weights (terms y) in
      let m3 : ℕ = m2 + weights (terms z) in
      let ys = stands_stmts p.stmts j (Some n) n1 m1 y (stmts j (Some n) n2 m2 z ++ stmts j q n3 m3 c) h.1 in
      let zs = stands_stmts p.stmts j (Some n) n2 m2 z (stmts j q n3 m3 c) ys.1 in
      let xe = stands_flat p.exprs m e (flats m1 (terms y ++ (terms z ++ terms c))) x in
      let xy = stands_flats p.exprs m1 (terms y) (terms z ++ terms c) xe.1 in
      let xz = stands_flats p.exprs m2 (terms z) (terms c) xy.1 in
      let fy = all_parts (TermFits p b.locals) (terms y) (terms z ++ terms c) f.1 in
      let fz = all_parts (TermFits p b.locals) (terms z) (terms c) fy.1 in
      let ay = all_parts (ActFits p b.locals) (acts_in y) (acts_in z ++ acts_in c) a in
      let az = all_parts (ActFits p b.locals) (acts_in z) (acts_in c) ay.1 in (
        record {
          kind = some_and (slice_get p.bodies j) b (λ d. IsValidKind p d n (If (root m e) (numbers n1 y) (numbers n2 z))) here
              (record { uses = one_valid m e (terms y ++ (terms z ++ terms c)) x f.0; writes = tt; object = tt; call = tt; ending = tt });
          inside = All-append (IsIn p.stmts (Some n) j) (numbers n1 y) (numbers n2 z)
              (All-from_recursion (IsIn p.stmts (Some n) j) (numbers n1 y) (stand_in p.stmts j (Some n) n1 m1 y ys.0))
              (All-from_recursion (IsIn p.stmts (Some n) j) (numbers n2 z) (stand_in p.stmts j (Some n) n2 m2 z zs.0));
        },
        each_append (IsValidStmt p) n1 n2 (stmts j (Some n) n1 m1 y) (stmts j (Some n) n2 m2 z ++ stmts j q n3 m3 c) (ap (λ k. n1 + k) (length_stmts j (Some n) n1 m1 y))
            (row_valid (Some n) n1 m1 y ys.0 xy.0 fy.0 ay.0 r.0)
            (each_append (IsValidStmt p) n2 n3 (stmts j (Some n) n2 m2 z) (stmts j q n3 m3 c) (ap (λ k. n2 + k) (length_stmts j (Some n) n2 m2 z))
            (row_valid (Some n) n2 m2 z zs.0 xz.0 fz.0 az.0 r.1)
            (row_valid q n3 m3 c zs.1 xz.1 fz.1 az.1 r.2)),
      )
  row_valid q n m (loop w e y c) h x f a r =
      let n1 : ℕ = n + 1 in
      let n2 : ℕ = n1 + count y in
      let m1 : ℕ = m + weight e in
      let m2 : ℕ = m1 + weights (terms y) in
      let ys = stands_stmts p.stmts j (Some n) n1 m1 y (stmts j q n2 m2 c) h.1 in
      let xe = stands_flat p.exprs m e (flats m1 (terms y ++ terms c)) x in
      let xy = stands_flats p.exprs m1 (terms y) (terms c) xe.1 in
      let fy = all_parts (TermFits p b.locals) (terms y) (terms c) f.1 in
      let ay = all_parts (ActFits p b.locals) (acts_in y) (acts_in c) a in (
        record {
          kind = some_and (slice_get p.bodies j) b (λ d. IsValidKind p d n (While (root m e) (numbers n1 y))) here
              (record { uses = one_valid m e (terms y ++ terms c) x f.0; writes = tt; object = tt; call = tt; ending = tt });
          inside = All-from_recursion (IsIn p.stmts (Some n) j) (numbers n1 y) (stand_in p.stmts j (Some n) n1 m1 y ys.0);
        },
        each_append (IsValidStmt p) n1 n2 (stmts j (Some n) n1 m1 y) (stmts j q n2 m2 c) (ap (λ k. n1 + k) (length_stmts j (Some n) n1 m1 y))
            (row_valid (Some n) n1 m1 y ys.0 xy.0 fy.0 ay.0 r.0)
            (row_valid q n2 m2 c ys.1 xy.1 fy.1 ay.1 r.1),
      )

-- Bodies.

-- what holds of a function or a process of an accepted source
pub record IsRightHead (p : Program) (scope : Scope) (h : Head) : Type 0 where
  pub passes : HeadersPass h.block.row
  pub returns : return_faults h ≡ []
  pub plain : IsTrue h.process → (h.params ≡ []) × (h.gives ≡ false)
  pub names : HeadNames p scope h
  pub sizes : HeadSizes scope h

short : (j : ℕ) → j < 65536 → fitted 16 j ≡ j
short j h = omega (arith, h)

module _ (p : Program) (scope : Scope) where
  head_valid : (h : Head) (j n m : ℕ) → slice_get p.bodies j ≡ Some (body scope n h) → Stands p.stmts n (stmts j None n m (head_code scope h)) → IsRightHead p scope h → h.process ≡ nat_le p.functions j
      → IsValidBody p j (body scope n h)
  head_valid h j n m here x r e = record {
    process = e;
    plain = λ t. (ap (λ l. fitted 16 (length l)) (r.plain t).0, (r.plain t).1);
    name = r.sizes.name;
    names = r.sizes.names;
    frame = r.names.frame;
    cells = r.names.cells;
    params = r.names.params;
    order = body_in_order p.stmts j None n m _ (head_code scope h) r.sizes.code.nested x;
    top = All-from_recursion (IsIn p.stmts None j) (numbers n (head_code scope h)) (stand_in p.stmts j None n m (head_code scope h) x);
    ending = body_ending p.stmts j n m None h.process h.gives (head_code scope h) x (head_ends scope h r.passes r.returns);
  }

  head_stmts : (h : Head) (j n m : ℕ) → slice_get p.bodies j ≡ Some (body scope n h) → Stands p.stmts n (stmts j None n m (head_code scope h)) → Stands p.exprs m (flats m (terms (head_code scope h)))
      → IsRightHead p scope h → EachFrom (IsValidStmt p) n (stmts j None n m (head_code scope h))
  head_stmts h j n m here x y r =
      let c : Code = head_code scope h in
      let locals : List Var = vars 0 (head_frame scope h).variables in
      row_valid p j (body scope n h) here None n m c x y (terms_fit p locals c r.sizes.code r.names.code) (acts_fit p locals c r.names.code) (body_right (body scope n h) n c refl (head_ends scope h r.passes r.returns))

  pub heads_valid : (hs : List Head) (j n m : ℕ) → j + length hs < 65536 → Stands p.bodies j (bodies scope n hs) → Stands p.stmts n (all_stmts j n m (map (head_code scope) hs))
      → Stands p.exprs m (flats m (flat_map terms (map (head_code scope) hs))) → AllByRecursion (IsRightHead p scope) hs → EachFrom (λ i h. h.process ≡ nat_le p.functions i) j hs
      → EachFrom (IsValidBody p) j (bodies scope n hs) × EachFrom (IsValidStmt p) n (all_stmts j n m (map (head_code scope) hs))
  heads_valid [] j n m l b x y r e = (tt, tt)
  heads_valid (h ∷ hs) j n m l b x y r e =
      let c : Code = head_code scope h in
      let cs : List Code = map (head_code scope) hs in
      let n1 : ℕ = n + count c in
      let m1 : ℕ = m + weights (terms c) in
      let is : fitted 16 j ≡ j = short j (omega (arith, l)) in
      let xs = stands_stmts p.stmts (fitted 16 j) None n m c (all_stmts (j + 1) n1 m1 cs) x in
      let own : Stands p.stmts n (stmts j None n m c) = subst (λ i. Stands p.stmts n (stmts i None n m c)) is xs.0 in
      let ys = stands_flats p.exprs m (terms c) (flat_map terms cs) y in
      let rest = heads_valid hs (j + 1) n1 m1 (omega (arith, l)) b.1 xs.1 ys.1 r.1 e.1 in
      let mine : EachFrom (IsValidStmt p) n (stmts j None n m c) = head_stmts h j n m b.0 own ys.0 r.0 in (
        (head_valid h j n m b.0 own r.0 e.0, rest.0),
        each_append (IsValidStmt p) n n1 (stmts (fitted 16 j) None n m c) (all_stmts (j + 1) n1 m1 cs) (ap (λ k. n + k) (length_stmts (fitted 16 j) None n m c))
            (subst (λ i. EachFrom (IsValidStmt p) n (stmts i None n m c)) (sym is) mine) rest.1,
      )

-- the bodies' ranges follow one another
pub follow : (scope : Scope) (hs : List Head) (j n m : ℕ) → Follow n (bodies scope n hs) (n + length (all_stmts j n m (map (head_code scope) hs)))
follow scope [] j n m = omega arith
follow scope (h ∷ hs) j n m =
    let c : Code = head_code scope h in
    let cs : List Code = map (head_code scope) hs in
    let n1 : ℕ = n + count c in
    let m1 : ℕ = m + weights (terms c) in
    let l : length (stmts (fitted 16 j) None n m c ++ all_stmts (j + 1) n1 m1 cs) ≡ length (stmts (fitted 16 j) None n m c) + length (all_stmts (j + 1) n1 m1 cs) = length-append (stmts (fitted 16 j) None n m c) (all_stmts (j + 1) n1 m1 cs) in
    let e : n1 + length (all_stmts (j + 1) n1 m1 cs) ≡ n + length (stmts (fitted 16 j) None n m c ++ all_stmts (j + 1) n1 m1 cs) = omega (arith, l, length_stmts (fitted 16 j) None n m c) in
    (refl, omega arith, subst (Follow n1 (bodies scope n1 hs)) e (follow scope hs (j + 1) n1 m1))
