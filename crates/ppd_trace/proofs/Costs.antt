-- The bounds on steps, added up.
use Rattle.std.proofs.Common.{◌≡◌, ℕ, zero, suc, ◌+◌, ◌*◌, ◌<◌, ◌≤◌, List, [], ◌∷◌, length, take, get_or, Option, Some, None, refl, ap, sym, ◌∙◌, arith}
use Rattle.std.specs.Prelude.{slice_get, unwrap_or}
use Rattle.std.specs.List.{sum_by}
use Rattle.std.proofs.Math.Nat.{add-mul, mul-add}
use Rattle.std.proofs.lemmas.List.Sums.{sum_by-take-le, sum_by_more}
use Rattle.std.proofs.lemmas.Nat.{mul-le}
use Rattle.std.proofs.lemmas.Option.{slice_get-get_or}
use Rattle.ppd_ast.specs.declared.program.Body.{Body}
use Rattle.ppd_ast.specs.declared.program.Program.{Program}
use Rattle.ppd_model.specs.declared.tracing.Story.{Story}
use Rattle.ppd_model.specs.declared.tracing.Taken.{Taken}
use Rattle.ppd_model.proofs.Changes.{some}
use Rattle.ppd_trace.specs.Spending.{extent, steps_in}
use Rattle.ppd_ast.specs.Lookups.{body_numbered, no_body}

-- ---- a loop of turns of k steps

pub turn_on : (old k i before now : ℕ) → before ≤ old + k * i → now ≤ before + k → now ≤ old + k * (i + 1)
turn_on old k i before now h g =
    let more : k * (i + 1) ≡ k * i + k * 1 = mul-add k i 1 in
    let one : k * 1 ≡ k = omega arith in
    omega arith

pub turns_within : (old k i n now : ℕ) → i ≤ n → now ≤ old + k * i → now ≤ old + k * n
turns_within old k i n now lt h = omega (arith, mul-le k i k n (omega arith) lt, h)

-- the same of a turn after which no other is taken
pub turn_ends : (old k i n before now : ℕ) → i < n → before ≤ old + k * i → now ≤ before + k → now ≤ old + k * n
turn_ends old k i n before now lt h g = turns_within old k (i + 1) n now (omega (arith, lt)) (turn_on old k i before now h g)

-- ---- process by process

some_there : {A : Type 0} (xs : List A) (i : ℕ) → i < length xs → None ≡ slice_get xs i → ⊥
some_there [] i lt e = omega arith
some_there (x ∷ xs) zero lt e = cc e
some_there (x ∷ xs) (suc i) lt e = some_there xs i (omega arith) e

-- the cells of the first bodies, and of one more
abbrev cells_to : List Body → ℕ → ℕ
cells_to bodies i = sum_by (λ b. b.cells) (take i bodies)

one_body : (bodies : List Body) (i : ℕ) → i < length bodies → cells_to bodies (i + 1) ≡ cells_to bodies i + (unwrap_or (slice_get bodies i) no_body).cells
one_body bodies i lt = by (slice_get bodies i) refl
  where
    by : (o : Option Body) → slice_get bodies i ≡ o → cells_to bodies (i + 1) ≡ cells_to bodies i + (unwrap_or (slice_get bodies i) no_body).cells
    by None is = absurd (some_there bodies i lt (sym is))
    by (Some b) is =
        let same : b ≡ get_or bodies i b = some (sym is ∙ slice_get-get_or bodies i b lt) in
        let more : cells_to bodies (i + 1) ≡ cells_to bodies i + (get_or bodies i b).cells = sum_by_more (λ b. b.cells) bodies i b lt in
        more ∙ ap (λ (x : Body). cells_to bodies i + x.cells) (sym same) ∙ ap (λ (o : Option Body). cells_to bodies i + (unwrap_or o no_body).cells) (sym is)

module _ (program : Program) (s : Story) (k old : ℕ) where
  -- the steps for the first processes, of k for each of their steps
  abbrev pub spent_to : ℕ → ℕ
  spent_to i = old + 4 * i + 2 * cells_to program.bodies (program.functions + i) + k * sum_by length (take i s.steps)

  pub process_on : (i : ℕ) (own : List Taken) (before now : ℕ) → i < length s.steps → own ≡ get_or s.steps i own → program.functions + i < length program.bodies → before ≤ spent_to i
      → now ≤ before + 4 + 2 * (body_numbered program (program.functions + i)).cells + k * length own → now ≤ spent_to (i + 1)
  process_on i own before now lt is there h g =
      let body : cells_to program.bodies (program.functions + i + 1) ≡ cells_to program.bodies (program.functions + i) + (body_numbered program (program.functions + i)).cells = one_body program.bodies (program.functions + i) there in
      let next : program.functions + (i + 1) ≡ program.functions + i + 1 = omega arith in
      let all : cells_to program.bodies (program.functions + (i + 1)) ≡ cells_to program.bodies (program.functions + i + 1) = ap (λ (n : ℕ). cells_to program.bodies n) next in
      let steps : sum_by length (take (i + 1) s.steps) ≡ sum_by length (take i s.steps) + length (get_or s.steps i own) = sum_by_more length s.steps i own lt in
      let same : length own ≡ length (get_or s.steps i own) = ap length is in
      let more : k * (sum_by length (take i s.steps) + length own) ≡ k * sum_by length (take i s.steps) + k * length own = mul-add k (sum_by length (take i s.steps)) (length own) in
      let sums : k * sum_by length (take (i + 1) s.steps) ≡ k * (sum_by length (take i s.steps) + length own) = ap (λ (n : ℕ). k * n) (omega arith) in
      omega arith

  pub processes_within : (i now : ℕ) → program.functions + i ≤ length program.bodies → now ≤ spent_to i
      → now ≤ old + 4 * length program.bodies + 2 * sum_by (λ b. b.cells) program.bodies + k * steps_in s
  processes_within i now lt h =
      let cells : cells_to program.bodies (program.functions + i) ≤ sum_by (λ b. b.cells) program.bodies = sum_by-take-le (λ b. b.cells) program.bodies (program.functions + i) in
      let steps : sum_by length (take i s.steps) ≤ steps_in s = sum_by-take-le length s.steps i in
      let all : k * sum_by length (take i s.steps) ≤ k * steps_in s = mul-le k (sum_by length (take i s.steps)) k (steps_in s) (omega arith) steps in
      omega arith

  -- the same of a process's turn after which no other is taken
  pub process_ends : (i : ℕ) (own : List Taken) (before now : ℕ) → i < length s.steps → own ≡ get_or s.steps i own → program.functions + i < length program.bodies → before ≤ spent_to i
      → now ≤ before + 4 + 2 * (body_numbered program (program.functions + i)).cells + k * length own
      → now ≤ old + 4 * length program.bodies + 2 * sum_by (λ b. b.cells) program.bodies + k * steps_in s
  process_ends i own before now lt is there h g =
      processes_within (i + 1) now (omega (arith, there)) (process_on i own before now lt is there h g)

-- ---- list by list

module _ (lists : List (List Taken)) (old i : ℕ) (own : List Taken) (before now : ℕ) (lt : i < length lists) (is : own ≡ get_or lists i own)
    (h : before ≤ old + i + 3 * sum_by length (take i lists)) (g : now ≤ before + 1 + 3 * length own) where
  pub list_on : now ≤ old + (i + 1) + 3 * sum_by length (take (i + 1) lists)
  list_on =
      let steps : sum_by length (take (i + 1) lists) ≡ sum_by length (take i lists) + length (get_or lists i own) = sum_by_more length lists i own lt in
      let same : length own ≡ length (get_or lists i own) = ap length is in
      omega arith

  pub list_within : now ≤ old + length lists + 3 * sum_by length lists
  list_within =
      let on : now ≤ old + (i + 1) + 3 * sum_by length (take (i + 1) lists) = list_on in
      let steps : sum_by length (take (i + 1) lists) ≤ sum_by length lists = sum_by-take-le length lists (i + 1) in
      omega arith

-- ---- the whole

pub whole_cost : (program : Program) (s : Story) (m n old told now : ℕ) → steps_in s ≤ n → told ≤ old + 7 * (n + length program.starts + length program.bodies)
    → now ≤ told + 8 * extent program + (3 * m + 24) * steps_in s → now ≤ old + (3 * m + 31) * (n + extent program)
whole_cost program s m n old told now few h g =
    let steps : (3 * m + 24) * steps_in s ≤ (3 * m + 24) * n = mul-le (3 * m + 24) (steps_in s) (3 * m + 24) n (omega arith) few in
    let apart : (3 * m + 31) * (n + extent program) ≡ (3 * m + 31) * n + (3 * m + 31) * extent program = mul-add (3 * m + 31) n (extent program) in
    let seven : (3 * m + 24 + 7) * n ≡ (3 * m + 24) * n + 7 * n = add-mul (3 * m + 24) 7 n in
    let same : (3 * m + 31) * n ≡ (3 * m + 24 + 7) * n = ap (λ (k : ℕ). k * n) (omega arith) in
    let least : 31 * extent program ≤ (3 * m + 31) * extent program = mul-le 31 (extent program) (3 * m + 31) (extent program) (omega arith) (omega arith) in
    omega arith
