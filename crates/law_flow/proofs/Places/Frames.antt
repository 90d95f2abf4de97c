-- The frame of the next step is that of its place.
use Rattle.std.proofs.Common.{◌≡◌, ℕ, suc, ◌+◌, ◌<◌, Bool, true, false, not, ◌||◌, List, [], ◌∷◌, ◌++◌, Option, Some, None, refl, ap, sym, subst, ◌∙◌, arith, if◌then◌else◌, true≢false}
use Rattle.std.specs.List.{AllByRecursion as Each, list_any, prefix_len}
use Rattle.std.specs.Prelude.{is_some, take}
use Rattle.std.proofs.lemmas.Option.{none-some}
use Rattle.ppd_ast.specs.Numbered.{is_while}
use Rattle.ppd_ast.specs.Valid.{IsEnding, IsValid}
use Rattle.ppd_ast.specs.declared.plan.BlockKind.TheVariants as block
use Rattle.ppd_ast.specs.declared.plan.Plan.{Plan}
use Rattle.ppd_ast.specs.declared.plan.Policy.{Policy}
use Rattle.ppd_ast.specs.declared.program.Kind.{Kind}
use Rattle.ppd_ast.specs.declared.program.Kind.TheVariants as kind
use Rattle.ppd_ast.specs.declared.program.Program.{Program}
use Rattle.ppd_ast.specs.Lookups.{kind_of, body_of}
use Rattle.law_steps.specs.Beside.Opens.{IsWhile}
use Rattle.law_steps.proofs.Beside.LoopKinds.{while_goes}
use Rattle.ppd_blocks.specs.Blocks.{plan_of}
use Rattle.law_steps.specs.Course.{IsWay, behind, calls_left, calls_of, follow_if}
use Rattle.law_steps.proofs.Course.Last.{ends_are_last}
use Rattle.law_steps.proofs.Facts.Entered.{IsEntered}
use Rattle.law_steps.proofs.Facts.State.{IsState}
use Rattle.law_steps.specs.OpenBlocks.Stack.{IsInOrder, process_block, returning}
use Rattle.law_steps.proofs.OpenBlocks.DeedKinds.{loop_is, return_no_loop, while_block}
use Rattle.law_steps.proofs.OpenBlocks.Framed.{head_returns, head_stays}
use Rattle.ppd_sem.specs.Described.{ends_body, frame_of, is_block, is_in_loop}
use Rattle.ppd_sem.specs.Process.{loop_of, top_frame}
use Rattle.ppd_sem.specs.Runs.{returns, bodies_in}
use Rattle.ppd_sem.specs.Tables.{block_of}
use Rattle.ppd_sem.specs.declared.proc.Frame.{Frame}
use Rattle.ppd_sem.specs.declared.proc.Proc.{Proc}
use Rattle.ppd_sem.specs.declared.proc.Todo.{Todo}
use Rattle.ppd_sem.specs.Passed.{next_stmt_of}
use Rattle.ppd_model.specs.Intervals.{Split}
use Rattle.ppd_graph.specs.declared.leaf_call.LeafCall.{LeafCall}
use Rattle.ppd_graph.specs.Locals.{frame_in}
use Rattle.law_flow.specs.Places.Closing.{closing, if_there, of_loop, of_return}
use Rattle.law_flow.specs.Places.Levels.{Level}
use Rattle.law_flow.specs.Places.Leaves.{frame_at, leaf_of, of_leaf, open_at}
use Rattle.law_flow.proofs.Places.NoLeaf.{top_function}
use Rattle.law_flow.proofs.Places.Opened.{head_plain, no_loop_mark, no_return_mark, return_mark}
use Rattle.law_flow.proofs.Places.Opening.{first_is}
use Rattle.law_steps.proofs.Facts.BodyBlocks.{no_process}

-- ---- kinds

while_test : (k : Kind) → IsWhile k → is_while k ≡ true
while_test (kind.While e body) h = refl
while_test k h = absurd h

returns_end : (k : Kind) → returns k ≡ true → ends_body k ≡ true
returns_end (kind.Return e) h = refl
returns_end k h = absurd (true≢false (sym h))

end_last : (k : Kind) → ends_body k ≡ true → IsEnding k × (is_while k ≡ false)
end_last (kind.Return e) h = (tt, refl)
end_last kind.End h = (tt, refl)
end_last k h = absurd (true≢false (sym h))

pub is_there : (o : Option ℕ) → is_some o ≡ true → (b : ℕ) × (o ≡ Some b)
is_there None h = absurd (true≢false (sym h))
is_there (Some b) h = (b, refl)

none_first : (us : List Todo) → next_stmt_of us ≡ None → us ≡ []
none_first [] e = refl
none_first (u ∷ us) e = absurd (none-some u.stmt (sym e))

module _ (program : Program) (policy : Policy) (v : IsValid program) (base pb : ℕ) where
  abbrev plan : Plan
  plan = plan_of program policy

  abbrev All : List Todo → List (Option ℕ)
  All todo = closing program plan todo ++ Some pb ∷ []

  -- a block loop runs in the top frame, or the frame's body is a block
  abbrev Has : List Todo → ℕ → Bool
  Has todo g = is_in_loop program todo || is_block plan g

  abbrev goes_on : Todo → Bool
  goes_on u = not (ends_body (kind_of program u.stmt))

  in_loop_by : (t : Todo) (ts : List Todo) (b : Bool) → ends_body (kind_of program t.stmt) ≡ b
      → is_in_loop program (t ∷ ts)
      ≡ list_any (λ (u : Todo). u.entered) (take (if not b then 1 + prefix_len goes_on ts else 0) (t ∷ ts))
  in_loop_by t ts b e =
      ap (λ b. list_any (λ (u : Todo). u.entered) (take (if not b then 1 + prefix_len goes_on ts else 0) (t ∷ ts))) e

  in_loop_on : (t : Todo) (ts : List Todo) → ends_body (kind_of program t.stmt) ≡ false
      → is_in_loop program (t ∷ ts) ≡ (t.entered || is_in_loop program ts)
  in_loop_on t ts goes =
      let one : 1 + prefix_len goes_on ts ≡ suc (prefix_len goes_on ts) = omega arith in
      in_loop_by t ts false goes ∙ ap (λ n. list_any (λ (u : Todo). u.entered) (take n (t ∷ ts))) one

  in_loop_end : (t : Todo) (ts : List Todo) → ends_body (kind_of program t.stmt) ≡ true
      → is_in_loop program (t ∷ ts) ≡ false
  in_loop_end t ts ends = in_loop_by t ts true ends

  module _ (is_process : is_some (block_of plan (block.Process base)) ≡ true) where
    base_is_block : is_block plan base ≡ true
    base_is_block = by (is_some (block_of plan (block.Function base)))
      where
        by : (b : Bool) → (b || is_some (block_of plan (block.Process base))) ≡ true
        by true = refl
        by false = is_process

    -- the body of the top frame, by the returns to come
    abbrev IsTop : List Todo → ℕ → Type 0
    IsTop todo g = (gs : List ℕ) × (returning program todo ++ base ∷ [] ≡ g ∷ gs)

    in_loop_or : (b c : Bool) → b ≡ true → (b || c) ≡ true
    in_loop_or b c e = ap (λ x. x || c) e

    function_block : (g : ℕ) → g < program.functions → is_block plan g ≡ is_some (block_of plan (block.Function g))
    function_block g lt = ap (λ o. is_some (block_of plan (block.Function g)) || is_some o)
        (no_process program policy v g lt) ∙ by (is_some (block_of plan (block.Function g)))
      where
        by : (b : Bool) → (b || false) ≡ b
        by true = refl
        by false = refl

    -- the same of what is to do after the first statement
    abbrev Rest : List Todo → List (Option ℕ) → ℕ → Option ℕ → List (Option ℕ) → Type 0
    Rest ts calls g o xs = IsWay program plan (calls_left false calls) ts → IsTop ts g
        → ((fs : List ℕ) → returning program ts ≡ g ∷ fs → g < program.functions) → All ts ≡ o ∷ xs
        → Has ts g ≡ is_some o

    first_open : (todo : List Todo) (calls : List (Option ℕ)) (g : ℕ) (o : Option ℕ) (xs : List (Option ℕ))
        → Each (IsEntered program plan) todo → IsWay program plan calls todo
        → IsTop todo g → ((fs : List ℕ) → returning program todo ≡ g ∷ fs → g < program.functions)
        → All todo ≡ o ∷ xs → Has todo g ≡ is_some o
    first_open [] calls g o xs entered way top below at = ap (is_block plan) (sym (first_is base g [] top.0 top.1))
        ∙ base_is_block ∙ ap is_some (first_is (Some pb) o [] xs at)
    first_open (t ∷ ts) calls g o xs entered way top below at =
        by_entered (λ way' top' below' at'. first_open ts
        (calls_left false calls) g o xs entered.1 way' top' below' at') t.entered refl
      where
        in_a_loop : t.entered ≡ true → Has (t ∷ ts) g ≡ is_some o
        in_a_loop e =
            let loop : IsWhile (kind_of program t.stmt) = entered.0.loops e in
            let w : is_while (kind_of program t.stmt) ≡ true = while_test (kind_of program t.stmt) loop in
            let b = is_there (block_of plan (block.Loop t.stmt)) (entered.0.blocks e) in
            let mark : of_loop program plan t ≡ Some b.0 ∷ [] =
            ap (λ x. if x then if_there (loop_of plan t.stmt (kind_of program t.stmt)) else []) e
            ∙ ap if_there (loop_is plan t.stmt (kind_of program t.stmt) w ∙ b.1) in
            let runs : is_in_loop program (t ∷ ts) ≡ true =
            in_loop_on t ts (while_goes (kind_of program t.stmt) loop)
            ∙ in_loop_or t.entered (is_in_loop program ts) e in
            in_loop_or (is_in_loop program (t ∷ ts)) (is_block plan g) runs
            ∙ ap is_some (first_is (Some b.0) o
            ((of_return program plan t ++ closing program plan ts) ++ Some pb ∷ []) xs
            (sym (ap (λ ys. ((ys ++ of_return program plan t) ++ closing program plan ts) ++ Some pb ∷ []) mark)
            ∙ at))

        returned : returns (kind_of program t.stmt) ≡ true → Has (t ∷ ts) g ≡ is_some o
        returned goes =
            let none : of_loop program plan t ≡ [] =
            no_loop_mark program plan t (while_block plan t.stmt (kind_of program t.stmt)
            (return_no_loop (kind_of program t.stmt) goes)) in
            let body : body_of program t.stmt ≡ g =
            first_is (body_of program t.stmt) g (returning program ts ++ base ∷ []) top.0
            (sym (ap (λ ys. ys ++ base ∷ []) (head_returns program t ts goes)) ∙ top.1) in
            let lt : g < program.functions = below (returning program ts) (head_returns program t ts goes
            ∙ ap (λ b. b ∷ returning program ts) body) in
            let first : block_of plan (block.Function (body_of program t.stmt)) ≡ o =
            first_is (block_of plan (block.Function (body_of program t.stmt))) o
            (closing program plan ts ++ Some pb ∷ []) xs
            (sym (ap (λ ys. (ys ++ closing program plan ts) ++ Some pb ∷ []) (return_mark program plan t goes))
            ∙ sym (ap (λ ys. ((ys ++ of_return program plan t) ++ closing program plan ts) ++ Some pb ∷ []) none)
            ∙ at) in
            ap (λ b. b || is_block plan g) (in_loop_end t ts (returns_end (kind_of program t.stmt) goes))
            ∙ function_block g lt ∙ ap (λ n. is_some (block_of plan (block.Function n))) (sym body)
            ∙ ap is_some first

        ended : returns (kind_of program t.stmt) ≡ false → ends_body (kind_of program t.stmt) ≡ true
            → Has (t ∷ ts) g ≡ is_some o
        ended stays ends =
            let last = end_last (kind_of program t.stmt) ends in
            let nothing : ts ≡ [] =
            none_first ts (subst (λ b. next_stmt_of ts
            ≡ follow_if program (behind b t.stmt calls)) stays way.0.follows
            ∙ ends_are_last program t.stmt v last.0) in
            let same : closing program plan (t ∷ ts) ≡ [] =
            head_plain program plan t ts (while_block plan t.stmt (kind_of program t.stmt) last.1) stays
            ∙ ap (closing program plan) nothing in
            let returns_none : returning program (t ∷ ts) ≡ [] = head_stays program t ts stays
            ∙ ap (returning program) nothing in
            let body : base ≡ g = first_is base g [] top.0 (sym (ap (λ ys. ys ++ base ∷ []) returns_none) ∙ top.1) in
            ap (λ b. b || is_block plan g) (in_loop_end t ts ends) ∙ ap (is_block plan) (sym body) ∙ base_is_block
            ∙ ap is_some (first_is (Some pb) o [] xs (sym (ap (λ ys. ys ++ Some pb ∷ []) same) ∙ at))

        further : Rest ts calls g o xs → t.entered ≡ false → returns (kind_of program t.stmt) ≡ false
            → ends_body (kind_of program t.stmt) ≡ false → Has (t ∷ ts) g ≡ is_some o
        further rest e stays goes =
            let none : of_loop program plan t ≡ [] =
            ap (λ x. if x then if_there (loop_of plan t.stmt (kind_of program t.stmt)) else []) e in
            let same : closing program plan (t ∷ ts) ≡ closing program plan ts =
            ap (λ ys. (ys ++ of_return program plan t) ++ closing program plan ts) none
            ∙ ap (λ ys. ys ++ closing program plan ts) (no_return_mark program plan t stays) in
            let calls' : IsWay program plan (calls_left false calls) ts =
            subst (λ b. IsWay program plan (calls_left b calls) ts) stays way.1 in
            ap (λ b. b || is_block plan g) (in_loop_on t ts goes ∙ ap (λ b. b || is_in_loop program ts) e)
            ∙ rest calls' (
              top.0,
              sym (ap (λ ys. ys ++ base ∷ []) (head_stays program t ts stays))
                  ∙ top.1,
            ) (λ fs h. below fs (head_stays program t ts stays
            ∙ h)) (sym (ap (λ ys. ys ++ Some pb ∷ []) same) ∙ at)

        by_ends : Rest ts calls g o xs → (b : Bool) → ends_body (kind_of program t.stmt) ≡ b → t.entered ≡ false
            → returns (kind_of program t.stmt) ≡ false → Has (t ∷ ts) g ≡ is_some o
        by_ends rest true ends e stays = ended stays ends
        by_ends rest false goes e stays = further rest e stays goes

        by_returns : Rest ts calls g o xs → (b : Bool) → returns (kind_of program t.stmt) ≡ b → t.entered ≡ false
            → Has (t ∷ ts) g ≡ is_some o
        by_returns rest true goes e = returned goes
        by_returns rest false stays e = by_ends rest (ends_body (kind_of program t.stmt)) refl e stays

        by_entered : Rest ts calls g o xs → (b : Bool) → t.entered ≡ b → Has (t ∷ ts) g ≡ is_some o
        by_entered rest true e = in_a_loop e
        by_entered rest false e = by_returns rest (returns (kind_of program t.stmt)) refl e

-- ---- of a process

first_of_open : (lf : Option LeafCall) (b : ℕ) (xs : List (Option ℕ))
    → (o : Option ℕ) × (rest : List (Option ℕ)) × (of_leaf lf ++ (Some b ∷ xs) ≡ o ∷ rest)
    × ((if is_some o then 0 else 1) ≡ frame_in lf)
first_of_open None b xs = (Some b, xs, refl, refl)
first_of_open (Some call) b xs = (None, Some b ∷ xs, refl, refl)

pub frame_tells : (program : Program) (policy : Policy) (p : ℕ) (y : Split) (s : Proc) (l : Level) (ls : List Level)
    → IsValid program → IsInOrder program (plan_of program policy) p s → IsState program (plan_of program policy) s
    → is_some (block_of (plan_of program policy) (block.Process (program.functions + p))) ≡ true
    → open_at program (plan_of program policy) y (l ∷ ls)
    ≡ closing program (plan_of program policy) s.todo ++ Some
    (process_block program (plan_of program policy) p) ∷ []
    → frame_of program (plan_of program policy) s ≡ frame_at program (plan_of program policy) y (l ∷ ls)
frame_tells program policy p y s l ls v order state is_process at =
    let first = first_of_open (leaf_of program (plan_of program policy) y l) l.block
    (open_at program (plan_of program policy) y ls) in
    let top = top_of_frames (returning program s.todo) order.frames in
    ap (λ b. if b then 0 else 1)
    (first_open program policy v (program.functions + p)
    (process_block program (plan_of program policy) p) is_process s.todo (calls_of s.frames)
    (top_frame s.frames).body first.0 first.1 state.ready.0 order.course
    top (λ fs h. subst (λ n. n < program.functions) (sym (below fs h).0) (below fs h).1) (sym at ∙ first.2))
    ∙ first.3
  where
    top_of_frames : (rs : List ℕ) → bodies_in s.frames ≡ rs ++ (program.functions + p) ∷ []
        → (gs : List ℕ) × (rs ++ (program.functions + p) ∷ [] ≡ (top_frame s.frames).body ∷ gs)
    top_of_frames rs e = by s.frames (sym e)
      where
        by : (frames : List Frame) → rs ++ (program.functions + p) ∷ [] ≡ bodies_in frames
            → (gs : List ℕ) × (rs ++ (program.functions + p) ∷ [] ≡ (top_frame frames).body ∷ gs)
        by [] h = absurd (nothing rs h)
          where
            nothing : (rs : List ℕ) → rs ++ (program.functions + p) ∷ [] ≡ [] → ⊥
            nothing [] h = cc
            nothing (r ∷ rs) h = cc
        by (f ∷ fs) h = (bodies_in fs, h)

    below : (fs : List ℕ) → returning program s.todo ≡ (top_frame s.frames).body ∷ fs
        → ((top_frame s.frames).body ≡ (top_frame s.frames).body) × ((top_frame s.frames).body < program.functions)
    below fs h = top_function program s.frames (top_frame s.frames).body fs (program.functions + p) v state.called
        (order.frames ∙ ap (λ ys. ys ++ (program.functions + p) ∷ []) h)
