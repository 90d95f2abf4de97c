-- What a step opens or closes has the values that the plan says.
use Rattle.law_logs.proofs.Index.OfKind.{kind_found, postlog_fits, prelog_fits}
use Rattle.law_logs.proofs.Index.Tested.{MayBegin}
use Rattle.law_steps.proofs.OpenBlocks.DeedKinds.{found_while, loop_is}
use Rattle.law_steps.proofs.OpenBlocks.Framed.{body_is, head_returns}
use Rattle.law_steps.proofs.OpenBlocks.Moving.{top_is}
use Rattle.law_steps.proofs.OpenBlocks.Planned.{postlog_cells_are, prelog_cells_are}
use Rattle.law_steps.specs.OpenBlocks.Stack.{block_frames, returning}
use Rattle.ppd_ast.proofs.Vocabulary.{gives, params_of_body}
use Rattle.ppd_ast.specs.Counting.{one_if}
use Rattle.ppd_ast.specs.Lookups.{body_of, kind_of}
use Rattle.ppd_ast.specs.Valid.{IsValid}
use Rattle.ppd_ast.specs.declared.limits.TheConstants.{MOST_CALLS}
use Rattle.ppd_ast.specs.declared.plan.BlockKind.TheVariants as block
use Rattle.ppd_ast.specs.declared.plan.Plan.{Plan}
use Rattle.ppd_ast.specs.declared.plan.Policy.{Policy}
use Rattle.ppd_ast.specs.declared.plan.Start.TheVariants as start
use Rattle.ppd_ast.specs.declared.program.Body.{Body}
use Rattle.ppd_ast.specs.declared.program.Program.{Program}
use Rattle.ppd_ast.specs.declared.status.Trap.TheVariants as trap
use Rattle.ppd_blocks.proofs.Vocabulary.{params_of}
use Rattle.ppd_blocks.specs.Blocks.{plan_of}
use Rattle.ppd_index.proofs.Vocabulary.{fits_postlog, fits_prelog}
use Rattle.ppd_index.specs.Refusals.{may_begin}
use Rattle.ppd_model.proofs.Homes.{AskedOf, DeedOf, head_of}
use Rattle.ppd_model.specs.Logs.{status_of}
use Rattle.ppd_model.specs.Marks.{Mark, closed, opened, values_at}
use Rattle.ppd_sem.proofs.EventWords.{arguments_of_head, result_of_head}
use Rattle.ppd_sem.proofs.NeedWords.{need_by_entry, need_by_offer, need_of_running}
use Rattle.ppd_sem.proofs.Progress.{need_at_todo}
use Rattle.ppd_sem.specs.Asked.{Asked}
use Rattle.ppd_sem.specs.Blocks.{postlog_cells, prelog_cells}
use Rattle.ppd_sem.specs.Deed.{Deed, back, branch, clear, finish, give, invoke, leave, pass, print, receive, send, set_local, set_shared, take, turn}
use Rattle.ppd_sem.specs.Passed.{arguments_at, arguments_by, result_at, result_by}
use Rattle.ppd_sem.specs.Process.{call_unit, cost, entry_of, head_deed, loop_of, need_of, need_of_asked, need_of_deed, need_of_head, need_of_leaving, need_of_send, offer_of, top_frame}
use Rattle.ppd_sem.specs.Runs.{bodies_in}
use Rattle.ppd_sem.specs.Tables.{block_of, capacity_of, unit_of}
use Rattle.ppd_sem.specs.declared.asking.Pause.TheVariants.{Traps, Wants}
use Rattle.ppd_sem.specs.declared.proc.Frame.{Frame}
use Rattle.ppd_sem.specs.declared.proc.Need.{Need}
use Rattle.ppd_sem.specs.declared.proc.Need.TheVariants as need
use Rattle.ppd_sem.specs.declared.proc.Proc.{Proc}
use Rattle.ppd_sem.specs.declared.proc.Todo.{Todo}
use Rattle.std.proofs.Common.{Bool, Err, List, None, Ok, Option, Some, [], ap, ap₂, arith, false, if◌then◌else◌, length, nat_lt, not, refl, subst, suc, sym, true, zero, ℕ, ℤ, ◌++◌, ◌+◌, ◌∙◌, ◌∷◌, ◌≡◌, ◌≤◌}
use Rattle.std.proofs.lemmas.Bool.Decides.{nat_tests}
use Rattle.std.proofs.lemmas.List.{length-append, length-map}
use Rattle.std.proofs.lemmas.List.FromFn.{length-range_with_len}
use Rattle.std.proofs.lemmas.Option.{none-some}
use Rattle.std.specs.Prelude.{get_or, is_some, map, nat_le, option_to_list, pos, slice_get, ◌&&◌}

-- fewer frames of blocks than frames
few_blocks : (plan : Plan) (f : Frame) (fs : List Frame) → block_frames plan (f ∷ fs) ≤ length fs
few_blocks plan f [] = omega arith
few_blocks plan f (g ∷ gs) = let rest : block_frames plan (g ∷ gs) ≤ length gs = few_blocks plan g gs in by (is_some (block_of plan (block.Function f.body))) rest
  where
    by : (b : Bool) → block_frames plan (g ∷ gs) ≤ length gs → (if b then 1 else 0) + block_frames plan (g ∷ gs) ≤ length (g ∷ gs)
    by true rest = omega (arith, rest)
    by false rest = omega (arith, rest)

module _ (program : Program) (policy : Policy) (v : IsValid program) where
  abbrev plan : Plan
  plan = plan_of program policy

  -- a block that is entered: as many values as its prelog, and its interval may begin
  pub record IsPrelog (deep : ℕ) (m : Mark) : Type 0 where
    pub fits : fits_prelog (slice_get plan.blocks m.block) m.values ≡ true
    pub begins : MayBegin plan deep m.block

  -- and one that is left
  abbrev pub IsPostlog : Mark → Type 0
  IsPostlog m = fits_postlog (slice_get plan.blocks m.block) m.values ≡ true

  params_length : (o : Option Body) → length (params_of o) ≡ params_of_body o
  params_length None = refl
  params_length (Some b) = length-range_with_len 0 b.params

  value_length : (o : Option ℤ) → length (option_to_list o) ≡ (if is_some o then 1 else 0)
  value_length None = refl
  value_length (Some x) = refl

  -- ---- one step

  module _ (t : Todo) (ts : List Todo) (s : Proc) (is : s.todo ≡ t ∷ ts) (base : ℕ) (framed : bodies_in s.frames ≡ returning program (t ∷ ts) ++ base ∷ []) where
    abbrev Marks : Need → Type 0
    Marks n = ((m : Mark) → opened program plan s n ≡ Some m → IsPrelog (block_frames plan s.frames) m) × ((m : Mark) → closed program plan s n ≡ Some m → status_of n ≡ None → IsPostlog m)

    neither : (n : Need) → opened program plan s n ≡ None → closed program plan s n ≡ None → Marks n
    neither n o c = ((λ m e. absurd (none-some m (sym o ∙ e))), (λ m e goes. absurd (none-some m (sym c ∙ e))))

    some_mark : (m k : Mark) → Some m ≡ Some k → m ≡ k
    some_mark m k e = ap (λ o. elim o [ None ↦ m | Some z ↦ z ]) e

    opens_one : (n : Need) (k : Mark) → opened program plan s n ≡ Some k → closed program plan s n ≡ None → IsPrelog (block_frames plan s.frames) k → Marks n
    opens_one n k o c h = ((λ m e. subst (IsPrelog (block_frames plan s.frames)) (some_mark k m (sym o ∙ e)) h), (λ m e goes. absurd (none-some m (sym c ∙ e))))

    closes_one : (n : Need) (k : Mark) → opened program plan s n ≡ None → closed program plan s n ≡ Some k → IsPostlog k → Marks n
    closes_one n k o c h = ((λ m e. absurd (none-some m (sym o ∙ e))), (λ m e goes. subst IsPostlog (some_mark k m (sym c ∙ e)) h))

    -- ---- loops

    entering : (b : ℕ) → loop_of plan t.stmt (kind_of program t.stmt) ≡ Some b → Marks (need.Enter b (unit_of plan (start.Enter t.stmt)))
    entering b e =
        let found : block_of plan (block.Loop t.stmt) ≡ Some b = sym (loop_is plan t.stmt (kind_of program t.stmt) (found_while plan t.stmt (kind_of program t.stmt) b e)) ∙ e in
        opens_one (need.Enter b (unit_of plan (start.Enter t.stmt))) _ refl refl (record {
          fits = prelog_fits program policy v (block.Loop t.stmt) b found (values_at s (prelog_cells plan b))
              (length-map (prelog_cells plan b) (λ c. get_or (top_frame s.frames).cells c (pos 0)) ∙ ap (λ cs. length cs) (prelog_cells_are program policy (block.Loop t.stmt) b found));
          begins = λ body at inside deep. ap (may_begin body at) (kind_found program policy v (block.Loop t.stmt) b found) ∙ inside;
        })

    leaving : (o : Option ℕ) → block_of plan (block.Loop t.stmt) ≡ o → Marks (need_of_leaving plan t.stmt o)
    leaving None e = neither need.Plain refl refl
    leaving (Some b) e =
        closes_one (need.Leave b (unit_of plan (start.Exit t.stmt))) _ refl refl
        (postlog_fits program policy v (block.Loop t.stmt) b e (values_at s (postlog_cells plan b))
        (length-map (postlog_cells plan b) (λ c. get_or (top_frame s.frames).cells c (pos 0)) ∙ ap (λ cs. length cs) (postlog_cells_are program policy (block.Loop t.stmt) b e) ∙ omega arith))

    -- ---- calls

    few_frames : nat_lt MOST_CALLS (s.below + length s.frames) ≡ false → nat_le MOST_CALLS (block_frames plan s.frames) ≡ false
    few_frames shallow = by s.frames framed shallow
      where
        small : (n k below : ℕ) → n ≤ k → nat_lt MOST_CALLS (below + suc k) ≡ false → nat_le MOST_CALLS n ≡ false
        small n k below few lt = grind (arith, nat_tests)

        by : (frames : List Frame) → bodies_in frames ≡ returning program (t ∷ ts) ++ base ∷ [] → nat_lt MOST_CALLS (s.below + length frames) ≡ false → nat_le MOST_CALLS (block_frames plan frames) ≡ false
        by [] e lt = let none : 0 ≡ length (returning program (t ∷ ts) ++ base ∷ []) = ap (λ bs. length bs) e in let some : length (returning program (t ∷ ts) ++ base ∷ []) ≡ length (returning program (t ∷ ts)) + 1 = length-append (returning program (t ∷ ts)) (base ∷ []) in absurd (omega (arith, none, some))
        by (f ∷ fs) e lt = let few : block_frames plan (f ∷ fs) ≤ length fs = few_blocks plan f fs in small (block_frames plan (f ∷ fs)) (length fs) s.below few lt

    invoking : (f : ℕ) (values : List ℤ) (into : Option ℕ) (left : List ℤ) → head_deed program t s ≡ Ok (invoke f values into, left) → length values ≡ params_of_body (slice_get program.bodies f) → nat_le MOST_CALLS (block_frames plan s.frames) ≡ false
        → (o : Option ℕ) → block_of plan (block.Function f) ≡ o → (u : ℕ) → Marks (need.Invoke o u)
    invoking f values into left head count few None e u = neither (need.Invoke None u) refl refl
    invoking f values into left head count few (Some b) e u =
        let same : arguments_at program s ≡ values = ap (λ us. arguments_of_head program s (slice_get us 0)) is ∙ ap (λ x. arguments_by x) head in
        opens_one (need.Invoke (Some b) u) _ refl refl (record {
          fits = prelog_fits program policy v (block.Function f) b e (arguments_at program s) (ap (λ vs. length vs) same ∙ count ∙ sym (params_length (slice_get program.bodies f)));
          begins = λ body at inside deep.
              ap (may_begin body at) (kind_found program policy v (block.Function f) b e)
              ∙ ap₂ (λ i n. i && not (nat_le MOST_CALLS n)) inside deep ∙ ap not few;
        })

    calling : (x : Bool) (f : ℕ) (values : List ℤ) (into : Option ℕ) (left : List ℤ) → head_deed program t s ≡ Ok (invoke f values into, left) → length values ≡ params_of_body (slice_get program.bodies f) → nat_lt MOST_CALLS (s.below + length s.frames) ≡ x
        → Marks (if x then need.Trap trap.Depth else need.Invoke (block_of plan (block.Function f)) (unit_of plan (start.Entry f)))
    calling true f values into left head count e = neither (need.Trap trap.Depth) refl refl
    calling false f values into left head count e = invoking f values into left head count (few_frames e) (block_of plan (block.Function f)) refl (unit_of plan (start.Entry f))

    backing : (value : Option ℤ) (left : List ℤ) → head_deed program t s ≡ Ok (back value, left) → (f : ℕ) → is_some value ≡ gives (slice_get program.bodies f) → (o u : Option ℕ) → block_of plan (block.Function f) ≡ o → Marks (need.Back o u)
    backing value left head f value_is None u e = neither (need.Back None u) refl refl
    backing value left head f value_is (Some b) u e =
        let same : result_at program s ≡ option_to_list value = ap (λ us. option_to_list (result_of_head program s (slice_get us 0))) is ∙ ap (λ x. option_to_list (result_by x)) head in
        closes_one (need.Back (Some b) u) _ refl refl
        (postlog_fits program policy v (block.Function f) b e (result_at program s)
        (ap (λ vs. length vs) same ∙ value_length value ∙ ap (λ x. one_if x) value_is ∙ (let z : one_if (gives (slice_get program.bodies f)) ≡ 0 + one_if (gives (slice_get program.bodies f)) = omega arith in z)))

    returning_back : (value : Option ℤ) (left : List ℤ) → head_deed program t s ≡ Ok (back value, left) → DeedOf program (body_of program t.stmt) (kind_of program t.stmt) (back value)
        → Marks (need.Back (block_of plan (block.Function (top_frame s.frames).body)) (call_unit plan (top_frame s.frames).call))
    returning_back value left head h =
        let own : (top_frame s.frames).body ≡ body_of program t.stmt = top_is s (body_of program t.stmt) (returning program ts ++ base ∷ []) (framed ∙ ap (λ bs. bs ++ base ∷ []) (head_returns program t ts h.0)) in
        backing value left head (top_frame s.frames).body (h.1 ∙ ap (λ n. gives (slice_get program.bodies n)) (body_is program t.stmt ∙ sym own)) (block_of plan (block.Function (top_frame s.frames).body)) (call_unit plan (top_frame s.frames).call) refl

    -- ---- each deed

    sending : (n c : ℕ) (value : ℤ) → Marks (need_of_send plan t.stmt n c value)
    sending zero c value = neither (need.Offer c value) refl refl
    sending (suc n) c value = neither (need.Send c value (unit_of plan (start.After t.stmt))) refl refl

    by_deed : (d : Deed) (left : List ℤ) → head_deed program t s ≡ Ok (d, left) → DeedOf program (body_of program t.stmt) (kind_of program t.stmt) d → Marks (need_of_deed program plan t.stmt s d)
    by_deed (set_local c x) left head h = neither need.Plain refl refl
    by_deed (set_shared c x) left head h = neither (need.Write c x) refl refl
    by_deed (clear first len) left head h = neither need.Plain refl refl
    by_deed (branch stmts) left head h = neither need.Plain refl refl
    by_deed (turn stmts) left head h = neither need.Plain refl refl
    by_deed leave left head h = leaving (block_of plan (block.Loop t.stmt)) refl
    by_deed (invoke f values into) left head h = calling (nat_lt MOST_CALLS (s.below + length s.frames)) f values into left head h.1.1 refl
    by_deed (back value) left head h = returning_back value left head h
    by_deed (take x) left head h = neither (need.P x (unit_of plan (start.After t.stmt))) refl refl
    by_deed (give x) left head h = neither (need.V x (unit_of plan (start.After t.stmt))) refl refl
    by_deed (send c x) left head h = sending (capacity_of program c) c x
    by_deed (receive c into) left head h = neither (need.Recv c (unit_of plan (start.After t.stmt))) refl refl
    by_deed (print x) left head h = neither need.Plain refl refl
    by_deed pass left head h = neither need.Plain refl refl
    by_deed finish left head h = ((λ m e. absurd (none-some m e)), (λ m e goes. absurd (none-some _ (sym goes))))

    by_asked : (x : Asked Deed) → head_deed program t s ≡ x → AskedOf program (body_of program t.stmt) (kind_of program t.stmt) x → Marks (need_of_asked program plan t.stmt s x)
    by_asked (Ok q) head h = by_deed q.0 q.1 head h
    by_asked (Err (Wants c)) head h = neither (need.Read c) refl refl
    by_asked (Err (Traps x)) head h = neither (need.Trap x) refl refl

    by_entry : (o : Option ℕ) → entry_of program plan t ≡ o → Marks (need_by_entry program plan t.stmt s o (head_deed program t s))
    by_entry (Some b) e = entering b (loop_found t.entered refl)
      where
        loop_found : (x : Bool) → t.entered ≡ x → loop_of plan t.stmt (kind_of program t.stmt) ≡ Some b
        loop_found true entered = absurd (none-some b (sym (ap (λ x. if x then None else loop_of plan t.stmt (kind_of program t.stmt)) entered) ∙ e))
        loop_found false entered = sym (ap (λ x. if x then None else loop_of plan t.stmt (kind_of program t.stmt)) entered) ∙ e
    by_entry None e = by_asked (head_deed program t s) refl (head_of program t s v)

    by_offer : (o : Option ℕ) → Marks (need_by_offer plan t.stmt o (need_by_entry program plan t.stmt s (entry_of program plan t) (head_deed program t s)))
    by_offer (Some c) = neither (need.Done c (unit_of plan (start.After t.stmt))) refl refl
    by_offer None = by_entry (entry_of program plan t) refl

    by_budget : (b : Bool) → Marks (if b then need.Budget else need_of_head program plan t s)
    by_budget true = neither need.Budget refl refl
    by_budget false = by_offer (offer_of program t)

    pub head_marked : Marks (need_of_running program plan (t ∷ ts) s)
    head_marked = by_budget (nat_lt s.budget (s.spent + cost plan (need_of_head program plan t s)))

  -- the step of a running process
  pub marked : (s : Proc) (base : ℕ) (t : Todo) (ts : List Todo) (is : s.todo ≡ t ∷ ts) → s.status ≡ None → (framed : bodies_in s.frames ≡ returning program s.todo ++ base ∷ []) → Marks t ts s is base (framed ∙ ap (λ us. returning program us ++ base ∷ []) is) (need_of program plan s)
  marked s base t ts is runs framed =
      subst (Marks t ts s is base (framed ∙ ap (λ us. returning program us ++ base ∷ []) is)) (sym (need_at_todo program plan s (t ∷ ts) runs is)) (head_marked t ts s is base (framed ∙ ap (λ us. returning program us ++ base ∷ []) is))
