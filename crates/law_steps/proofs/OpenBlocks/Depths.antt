-- The functions that are open are those of the frames above the process's own.
use Rattle.std.proofs.Common.{◌≡◌, ℕ, suc, ◌+◌, ◌<◌, Bool, true, false, List, [], ◌∷◌, ◌++◌, length, Option, Some, None, refl, ap, sym, ◌∙◌, arith, if◌then◌else◌, true≢false}
use Rattle.std.proofs.lemmas.Bool.{le-leb}
use Rattle.std.proofs.lemmas.List.{length-append}
use Rattle.std.specs.Prelude.{is_some, option_to_list}
use Rattle.ppd_ast.specs.Valid.{IsValid}
use Rattle.ppd_ast.proofs.ValidLaws.{slice_get_there, valid_body}
use Rattle.ppd_ast.specs.declared.plan.BlockKind.TheVariants as block
use Rattle.ppd_ast.specs.declared.plan.Plan.{Plan}
use Rattle.ppd_ast.specs.declared.plan.Policy.{Policy}
use Rattle.ppd_ast.specs.declared.program.Kind.{Kind}
use Rattle.ppd_ast.specs.declared.program.Kind.TheVariants as kind
use Rattle.ppd_ast.specs.declared.program.Program.{Program}
use Rattle.ppd_ast.specs.Lookups.{kind_of, body_of}
use Rattle.ppd_ast.specs.Counting.{one_if}
use Rattle.law_steps.specs.Blocks.{plan_of}
use Rattle.ppd_sem.specs.declared.proc.Frame.{Frame}
use Rattle.ppd_sem.specs.declared.proc.Todo.{Todo}
use Rattle.ppd_sem.specs.Blocks.{block_kind, is_function}
use Rattle.ppd_sem.specs.Process.{loop_of}
use Rattle.ppd_sem.specs.Runs.{returns, bodies_in}
use Rattle.ppd_sem.specs.Tables.{block_of}
use Rattle.ppd_sem.proofs.TableWords.{or_zero}
use Rattle.law_steps.specs.OpenBlocks.Stack.{block_frames, entered_block, functions_in, open_blocks, process_block, returned_block, returning}
use Rattle.law_steps.proofs.OpenBlocks.Planned.{kind_is, process_found}

-- ---- by the bodies

-- how many of these bodies are blocks
abbrev called_blocks : Plan → List ℕ → ℕ
called_blocks plan [] = 0
called_blocks plan (b ∷ bs) = (if is_some (block_of plan (block.Function b)) then 1 else 0) + called_blocks plan bs

by_bodies : (plan : Plan) (frames : List Frame) (bs : List ℕ) (base : ℕ) → bodies_in frames ≡ bs ++ base ∷ [] → block_frames plan frames ≡ called_blocks plan bs
by_bodies plan [] [] base e = refl
by_bodies plan [] (b ∷ bs) base e = absurd (let never : [] ≡ b ∷ (bs ++ base ∷ []) = e in cc)
by_bodies plan (f ∷ []) [] base e = refl
by_bodies plan (f ∷ []) (b ∷ bs) base e =
    let short : 1 ≡ length (b ∷ (bs ++ base ∷ [])) = ap length e in
    let long : length (bs ++ base ∷ []) ≡ length bs + 1 = length-append bs (base ∷ []) in
    absurd (omega (arith, short, long))
by_bodies plan (f ∷ g ∷ fs) [] base e = let long : suc (suc (length (bodies_in fs))) ≡ 1 = ap length e in absurd (omega (arith, long))
by_bodies plan (f ∷ g ∷ fs) (b ∷ bs) base e =
    let first : f.body ≡ b = ap (λ xs. first_or xs) e in
    let rest : bodies_in (g ∷ fs) ≡ bs ++ base ∷ [] = ap (λ xs. rest_of xs) e in
    ap (λ n. one_if (is_some (block_of plan (block.Function n))) + block_frames plan (g ∷ fs)) first
    ∙ ap (λ n. one_if (is_some (block_of plan (block.Function b))) + n) (by_bodies plan (g ∷ fs) bs base rest)
  where
    first_or : List ℕ → ℕ
    first_or [] = 0
    first_or (x ∷ xs) = x

    rest_of : List ℕ → List ℕ
    rest_of [] = []
    rest_of (x ∷ xs) = xs

-- ---- by the blocks

functions_append : (plan : Plan) (xs ys : List ℕ) → functions_in plan (xs ++ ys) ≡ functions_in plan xs + functions_in plan ys
functions_append plan [] ys = omega arith
functions_append plan (x ∷ xs) ys = let rest : functions_in plan (xs ++ ys) ≡ functions_in plan xs + functions_in plan ys = functions_append plan xs ys in omega (arith, rest)

module _ (program : Program) (policy : Policy) where
  abbrev plan : Plan
  plan = plan_of program policy

  one : (b : ℕ) (k : _) → block_kind plan b ≡ k → functions_in plan (b ∷ []) ≡ one_if (is_function k)
  one b k e = let z : one_if (is_function (block_kind plan b)) ≡ one_if (is_function k) = ap (λ x. one_if (is_function x)) e in omega (arith, z)

  loop_counts : (s : ℕ) (k : Kind) (o : Option ℕ) → loop_of plan s k ≡ o → functions_in plan (option_to_list o) ≡ 0
  loop_counts s k None e = refl
  loop_counts s (kind.While x body) (Some b) e = one b (block.Loop s) (kind_is program policy (block.Loop s) b e)
  loop_counts s k (Some b) e = absurd (cc)

  function_counts : (f : ℕ) (o : Option ℕ) → block_of plan (block.Function f) ≡ o → functions_in plan (option_to_list o) ≡ one_if (is_some o)
  function_counts f None e = refl
  function_counts f (Some b) e = one b (block.Function f) (kind_is program policy (block.Function f) b e)

  entered_counts : (t : Todo) (b : Bool) → t.entered ≡ b → functions_in plan (entered_block program plan t) ≡ 0
  entered_counts t true e =
      ap (λ x. functions_in plan (if x then option_to_list (loop_of plan t.stmt (kind_of program t.stmt)) else [])) e
      ∙ loop_counts t.stmt (kind_of program t.stmt) (loop_of plan t.stmt (kind_of program t.stmt)) refl
  entered_counts t false e = ap (λ x. functions_in plan (if x then option_to_list (loop_of plan t.stmt (kind_of program t.stmt)) else [])) e

  returned_counts : (t : Todo) (b : Bool) → returns (kind_of program t.stmt) ≡ b
      → functions_in plan (returned_block program plan t) ≡ called_blocks plan (if returns (kind_of program t.stmt) then body_of program t.stmt ∷ [] else [])
  returned_counts t true e =
      ap (λ x. functions_in plan (if x then option_to_list (block_of plan (block.Function (body_of program t.stmt))) else [])) e
      ∙ function_counts (body_of program t.stmt) (block_of plan (block.Function (body_of program t.stmt))) refl
      ∙ (let z : one_if (is_some (block_of plan (block.Function (body_of program t.stmt)))) ≡ called_blocks plan (body_of program t.stmt ∷ []) = omega arith in z)
      ∙ ap (λ x. called_blocks plan (if x then body_of program t.stmt ∷ [] else [])) (sym e)
  returned_counts t false e =
      ap (λ x. functions_in plan (if x then option_to_list (block_of plan (block.Function (body_of program t.stmt))) else [])) e
      ∙ ap (λ x. called_blocks plan (if x then body_of program t.stmt ∷ [] else [])) (sym e)

  called_append : (xs ys : List ℕ) → called_blocks plan (xs ++ ys) ≡ called_blocks plan xs + called_blocks plan ys
  called_append [] ys = omega arith
  called_append (x ∷ xs) ys = let rest : called_blocks plan (xs ++ ys) ≡ called_blocks plan xs + called_blocks plan ys = called_append xs ys in omega (arith, rest)

  by_blocks : (todo : List Todo) → functions_in plan (open_blocks program plan todo) ≡ called_blocks plan (returning program todo)
  by_blocks [] = refl
  by_blocks (t ∷ ts) =
      let whole : functions_in plan (open_blocks program plan (t ∷ ts)) ≡ functions_in plan (entered_block program plan t ++ returned_block program plan t) + functions_in plan (open_blocks program plan ts) =
      functions_append plan (entered_block program plan t ++ returned_block program plan t) (open_blocks program plan ts) in
      let head : functions_in plan (entered_block program plan t ++ returned_block program plan t) ≡ functions_in plan (entered_block program plan t) + functions_in plan (returned_block program plan t) =
      functions_append plan (entered_block program plan t) (returned_block program plan t) in
      let first : functions_in plan (entered_block program plan t) ≡ 0 = entered_counts t t.entered refl in
      let second : functions_in plan (returned_block program plan t) ≡ called_blocks plan (if returns (kind_of program t.stmt) then body_of program t.stmt ∷ [] else []) = returned_counts t (returns (kind_of program t.stmt)) refl in
      let rest : functions_in plan (open_blocks program plan ts) ≡ called_blocks plan (returning program ts) = by_blocks ts in
      let called : called_blocks plan (returning program (t ∷ ts)) ≡ called_blocks plan (if returns (kind_of program t.stmt) then body_of program t.stmt ∷ [] else []) + called_blocks plan (returning program ts) =
      called_append (if returns (kind_of program t.stmt) then body_of program t.stmt ∷ [] else []) (returning program ts) in
      omega (arith, whole, head, first, second, rest, called)

  process_counts : (v : IsValid program) (p : ℕ) → program.functions + p < length program.bodies → functions_in plan (process_block program plan p ∷ []) ≡ 0
  process_counts v p lt =
      let f : ℕ = program.functions + p in
      let b = slice_get_there program.bodies f lt in
      let process : b.0.process ≡ true = (valid_body program f b.0 v b.1).process ∙ le-leb program.functions f (omega arith) in
      by f (block_of plan (block.Process f)) refl (process_found program policy f b.0 b.1 process)
    where
      by : (f : ℕ) (o : Option ℕ) → block_of plan (block.Process f) ≡ o → is_some o ≡ true → functions_in plan (or_zero o ∷ []) ≡ 0
      by f None e is = absurd (true≢false (sym is))
      by f (Some b) e is = one b (block.Process f) (kind_is program policy (block.Process f) b e)

  pub deep : (v : IsValid program) (p : ℕ) → program.functions + p < length program.bodies → (frames : List Frame) (todo : List Todo) → bodies_in frames ≡ returning program todo ++ (program.functions + p) ∷ []
      → functions_in plan (open_blocks program plan todo ++ process_block program plan p ∷ []) ≡ block_frames plan frames
  deep v p lt frames todo framed =
      let whole : functions_in plan (open_blocks program plan todo ++ process_block program plan p ∷ []) ≡ functions_in plan (open_blocks program plan todo) + functions_in plan (process_block program plan p ∷ []) =
      functions_append plan (open_blocks program plan todo) (process_block program plan p ∷ []) in
      let none : functions_in plan (process_block program plan p ∷ []) ≡ 0 = process_counts v p lt in
      let all : functions_in plan (open_blocks program plan todo) ≡ called_blocks plan (returning program todo) = by_blocks todo in
      let frames_are : block_frames plan frames ≡ called_blocks plan (returning program todo) = by_bodies plan frames (returning program todo) (program.functions + p) framed in
      omega (arith, whole, none, all, frames_are)
