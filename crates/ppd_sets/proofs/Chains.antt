-- What bodies use and define, by chains of calls.
use Rattle.std.proofs.Common.{◌≡◌, ◌↔◌, ℕ, ◌<◌, min, List, [], ◌∷◌, Bool, Some, length, sym, ap, ◌∙◌, arith}
use Rattle.std.specs.Prelude.{IsTrue, slice_get, true}
use Rattle.std.specs.List.{flat_map, range_with_len, list_any}
use Rattle.ppd_ast.specs.declared.program.Var.{Var}
use Rattle.ppd_ast.specs.declared.program.Program.{Program}
use Rattle.ppd_ast.specs.Cells.{holds}
use Rattle.ppd_ast.proofs.ValidLaws.{slice_get_below}
use Rattle.ppd_ast.specs.Members.{has}
use Rattle.ppd_ast.proofs.Members.{has_filter, filter_has, any_from, any_gives, from_zero, flat_gives, flat_from}
use Rattle.ppd_sets.specs.Reach.{Reached, closure, leads}
use Rattle.ppd_sets.proofs.Leading.{leads-tests}
use Rattle.ppd_sets.specs.Used.{call_rows, called_from, stmts_at, reads_at, writes_at, is_met, vars_met, IsUsed, IsDefined}
use Rattle.ppd_sets.specs.Laws.{UsedByChains, DefinedByChains}
use Rattle.ppd_sets.proofs.Gathering.{called_below}

pub called_law : (p : Program) (b k : ℕ) → IsTrue (has (called_from p b) k) ↔ (k < length p.bodies) × Reached (call_rows p) (b ∷ []) k
called_law p b k =
    let tests = leads-tests (call_rows p) (b ∷ []) k in (
      (λ h. (called_below p b k h, tests.0 (has_filter (leads (closure (call_rows p)) (b ∷ [])) (range_with_len 0 (length p.bodies)) k h).1)),
      (λ h. filter_has (leads (closure (call_rows p)) (b ∷ [])) (range_with_len 0 (length p.bodies)) k (from_zero k (length p.bodies) h.0) (tests.1 h.1)),
    )

-- a variable is met just where one of its cells is
met_law : (vars : List Var) (cells : List ℕ) (v : ℕ) (x : Var) → v < 65536 → slice_get vars v ≡ Some x → IsTrue (has (vars_met vars cells) v) ↔ IsTrue (list_any (λ c. holds c x) cells)
met_law vars cells v x few at =
    let n : ℕ = min (length vars) 65536 in
    let test : ℕ → Bool = λ i. is_met cells (slice_get vars i) in
    let below : v < n = (let there : v < length vars = slice_get_below vars v x at in omega arith) in
    let is : test v ≡ list_any (λ c. holds c x) cells = ap (is_met cells) at in (
      (λ h. sym is ∙ (has_filter test (range_with_len 0 n) v h).1),
      (λ h. filter_has test (range_with_len 0 n) v (from_zero v n below) (is ∙ h)),
    )

-- a statement of a body that a chain of calls reaches from b touches a cell of the variable
record IsTouched (cells_at : ℕ → List ℕ) (p : Program) (b : ℕ) (x : Var) : Type 0 where
  body : ℕ
  is_body : body < length p.bodies
  chain : Reached (call_rows p) (b ∷ []) body
  stmt : ℕ
  stands : IsTrue (has (stmts_at p body) stmt)
  cell : ℕ
  touched : IsTrue (has (cells_at stmt) cell)
  held : IsTrue (holds cell x)

-- a variable is met by what the statements touch just where one of them touches it
touched_by_chains : (cells_at : ℕ → List ℕ) (p : Program) (b v : ℕ) (x : Var) → v < 65536 → slice_get p.shared v ≡ Some x
    → IsTrue (has (vars_met p.shared (flat_map (λ k. flat_map cells_at (stmts_at p k)) (called_from p b))) v) ↔ IsTouched cells_at p b x
touched_by_chains cells_at p b v x few at =
    let of_body : ℕ → List ℕ = λ k. flat_map cells_at (stmts_at p k) in
    let cells : List ℕ = flat_map of_body (called_from p b) in
    let met = met_law p.shared cells v x few at in (
      (λ h.
          let c = any_gives (λ c. holds c x) cells (met.0 h) in
          let body = flat_gives of_body (called_from p b) c.0 c.1 in
          let stmt = flat_gives cells_at (stmts_at p body.0) c.0 body.2 in
          let chain = (called_law p b body.0).0 body.1 in
          record { body = body.0; is_body = chain.0; chain = chain.1; stmt = stmt.0; stands = stmt.1; cell = c.0; touched = stmt.2; held = c.2 }),
      (λ (t : IsTouched cells_at p b x).
          let called = (called_law p b t.body).1 (t.is_body, t.chain) in
          let cell = flat_from of_body (called_from p b) t.body t.cell called (flat_from cells_at (stmts_at p t.body) t.stmt t.cell t.stands t.touched) in
          met.1 (any_from (λ c. holds c x) cells t.cell cell t.held)),
    )

pub used_by_chains : UsedByChains
used_by_chains p b v x few at =
    let law = touched_by_chains (reads_at true p) p b v x few at in (
      (λ h. let t = law.0 h in record { body = t.body; is_body = t.is_body; chain = t.chain; stmt = t.stmt; stands = t.stands; cell = t.cell; read = t.touched; held = t.held }),
      (λ (u : IsUsed p b x). law.1 record { body = u.body; is_body = u.is_body; chain = u.chain; stmt = u.stmt; stands = u.stands; cell = u.cell; touched = u.read; held = u.held }),
    )

pub defined_by_chains : DefinedByChains
defined_by_chains p b v x few at =
    let law = touched_by_chains (writes_at true p) p b v x few at in (
      (λ h. let t = law.0 h in record { body = t.body; is_body = t.is_body; chain = t.chain; stmt = t.stmt; stands = t.stands; cell = t.cell; written = t.touched; held = t.held }),
      (λ (u : IsDefined p b x). law.1 record { body = u.body; is_body = u.is_body; chain = u.chain; stmt = u.stmt; stands = u.stands; cell = u.cell; touched = u.written; held = u.held }),
    )
