-- Where a step opens an interval: which block it is of, and what the process has to do there.
use Rattle.std.proofs.Common.{◌≡◌, ℕ, zero, suc, ◌+◌, ℤ, Bool, true, false, List, [], ◌∷◌, ◌++◌, Option, Some, None, Ok, Err, refl, ap, sym, subst, ◌∙◌, length, map, true≢false}
use Rattle.std.specs.Prelude.{IsSome, IsTrue, is_some, nat_lt, slice_get, if◌then◌else◌, get_or, pos}
use Rattle.ppd_ast.specs.declared.plan.BlockKind.{BlockKind}
use Rattle.ppd_ast.specs.declared.plan.BlockKind.TheVariants as block
use Rattle.ppd_ast.specs.declared.plan.Plan.{Plan}
use Rattle.ppd_ast.specs.declared.plan.Start.TheVariants as start
use Rattle.ppd_ast.specs.declared.program.Kind.{Kind}
use Rattle.ppd_ast.specs.declared.program.Kind.TheVariants as kind
use Rattle.ppd_ast.specs.declared.program.Program.{Program}
use Rattle.ppd_ast.specs.declared.status.Trap.TheVariants as trap
use Rattle.ppd_ast.specs.Valid.{IsValid}
use Rattle.ppd_ast.specs.Lookups.{kind_of, body_of}
use Rattle.ppd_ast.proofs.Vocabulary.{params_of_body}
use Rattle.ppd_ast.specs.declared.limits.TheConstants.{MOST_CALLS}
use Rattle.ppd_sem.specs.Blocks.{block_body, block_todo, block_unit, prelog_cells}
use Rattle.ppd_sem.specs.declared.asking.Pause.TheVariants.{Wants, Traps}
use Rattle.ppd_sem.specs.Offers.{OffersAtHead}
use Rattle.ppd_sem.specs.Passed.{arguments_at, arguments_by}
use Rattle.ppd_sem.proofs.EventWords.{arguments_of_head}
use Rattle.ppd_sem.specs.declared.proc.Answer.{Answer}
use Rattle.ppd_sem.specs.declared.proc.Frame.{Frame}
use Rattle.ppd_sem.specs.declared.proc.Need.{Need}
use Rattle.ppd_sem.specs.declared.proc.Need.TheVariants.{Enter, Invoke, Done, Trap, Budget}
use Rattle.ppd_sem.specs.declared.proc.Proc.{Proc}
use Rattle.ppd_sem.specs.declared.proc.Todo.{Todo}
use Rattle.ppd_sem.specs.Asked.{Asked}
use Rattle.ppd_sem.specs.Deed.{Deed, leave, invoke, send}
use Rattle.ppd_sem.specs.Process.{act, act_by_asked, act_by_need, chan_of, cost, entry_of, head_deed, loop_of, need_of, need_of_asked, need_of_deed, need_of_head, need_of_leaving, need_of_send, new_frame, offer_of, top_frame}
use Rattle.ppd_sem.proofs.NeedWords.{act_at, cells_for, need_by_entry, need_by_offer}
use Rattle.ppd_sem.specs.Tables.{block_of, capacity_of, unit_of}
use Rattle.ppd_sem.proofs.Progress.{need_at_todo}
use Rattle.ppd_sem.specs.Runs.{bodies_in}
use Rattle.ppd_model.proofs.Homes.{AreHome, AskedOf, head_of}
use Rattle.ppd_model.specs.Marks.{Mark, opened}
use Rattle.ppd_model.specs.Story.{unit_started}
use Rattle.law_steps.specs.Beside.Relation.{IsCallOf}
use Rattle.law_steps.proofs.Vocabulary.Relation.{Suits, Yields}
use Rattle.law_steps.proofs.Openings.Blocks.{IsBodyThere}
use Rattle.law_steps.proofs.Facts.Called.{head_home}
use Rattle.law_steps.proofs.Beside.Deeds.{suits}
use Rattle.law_steps.proofs.Facts.Entered.{unentered}
use Rattle.law_steps.proofs.Facts.Placed.{IsCallee, callee}
use Rattle.law_steps.proofs.Facts.State.{IsState, unanswered}

-- the values of a prelog: of a loop those of its cells in the frame, of a function the arguments, and of a process none
abbrev pub IsMarkedBy : Program → Plan → BlockKind → Frame → ℕ → List ℤ → Type 0
IsMarkedBy program plan (block.Loop q) frame number values =
    values ≡ map (λ c. get_or frame.cells c (pos 0)) (prelog_cells plan number)
IsMarkedBy program plan (block.Function f) frame number values =
    (frame.cells ≡ cells_for (slice_get program.bodies f) values)
    × (length values ≡ params_of_body (slice_get program.bodies f))
IsMarkedBy program plan (block.Process f) frame number values =
    (values ≡ []) × (frame.cells ≡ cells_for (slice_get program.bodies f) [])

-- the block of this mark, of which the process begins an interval where this unit starts
pub record IsOpenedAt (program : Program) (plan : Plan) (m : Mark) (unit : Option ℕ) (x : Proc) : Type 0 where
  pub kind : BlockKind
  pub unit_is : unit ≡ Some (block_unit plan kind)
  pub block_is : block_of plan kind ≡ Some m.block
  pub there : IsBodyThere program kind
  pub frame : Frame
  pub below : List Frame
  pub top : x.frames ≡ frame ∷ below
  pub home : frame.body ≡ block_body program kind
  pub later : List Todo
  pub todo : x.todo ≡ block_todo program kind ++ later
  pub answers : x.answers ≡ []
  pub running : x.status ≡ None
  pub marked : IsMarkedBy program plan kind frame m.block m.values

abbrev block_in : Option Mark → ℕ
block_in None = 0
block_in (Some m) = m.block

abbrev values_of_mark : Option Mark → List ℤ
values_of_mark None = []
values_of_mark (Some m) = m.values

loop_found : (plan : Plan) (t : ℕ) (k : Kind) (b : ℕ) → loop_of plan t k ≡ Some b
    → block_of plan (block.Loop t) ≡ Some b
loop_found plan t (kind.While x body) b e = e
loop_found plan t k b e = absurd (true≢false (sym (ap is_some e)))

loop_while : (plan : Plan) (t : ℕ) (k : Kind) (b : ℕ) → loop_of plan t k ≡ Some b → chan_of k ≡ None
loop_while plan t (kind.While x body) b e = refl
loop_while plan t k b e = absurd (true≢false (sym (ap is_some e)))

-- a loop is not marked as offered
unoffered : (k : Kind) → chan_of k ≡ None → (b : Bool) → (IsTrue b → IsSome (chan_of k)) → b ≡ false
unoffered k e true h = absurd (true≢false (sym (h refl) ∙ ap is_some e))
unoffered k e false h = refl

module _ (program : Program) (plan : Plan) (v : IsValid program) (s : Proc) (a : Answer)
    (h : IsState program plan s) (t : Todo) (ts : List Todo) (is : s.todo ≡ t ∷ ts) (m : Mark)
    (running : s.status ≡ None) where
  abbrev Goal : Need → Type 0
  Goal n = opened program plan s n ≡ Some m
      → IsOpenedAt program plan m (unit_started n) (act_by_need program plan a t ts n s)

  unmarked : (n : Need) → opened program plan s n ≡ None → Goal n
  unmarked n none e = absurd (true≢false (sym (ap is_some (sym none ∙ e))))

  entering : (b : ℕ) → entry_of program plan t ≡ Some b → Goal (Enter b (unit_of plan (start.Enter t.stmt)))
  entering b e is_m =
      let top = head_home program s.frames t ts (subst (λ ys. AreHome program (bodies_in s.frames) ys) is h.home) in
      let number : b ≡ m.block = ap block_in is_m in
      record {
        kind = block.Loop t.stmt;
        unit_is = refl;
        block_is = loop_found plan t.stmt (kind_of program t.stmt) b (unentered program plan t b e) ∙ ap Some number;
        there = tt;
        frame = top.0;
        below = top.1;
        top = top.2;
        home = sym top.3;
        later = ts;
        todo = ap (λ x. record { stmt = t.stmt; entered = true; offered = x } ∷ ts)
            (unoffered (kind_of program t.stmt)
            (loop_while plan t.stmt (kind_of program t.stmt) b (unentered program plan t b e)) t.offered
            (subst (OffersAtHead program) is h.offers).0);
        answers = unanswered program plan v s h t ts is b e;
        running = running;
        marked = sym (ap values_of_mark is_m) ∙ ap (λ fs. map (λ c. get_or (top_frame fs).cells c (pos 0)) (prelog_cells plan b)) top.2
            ∙ ap (λ n. map (λ c. get_or top.0.cells c (pos 0)) (prelog_cells plan n)) number;
      }

  calling : (g : ℕ) (values : List ℤ) (into : Option ℕ) (left : List ℤ)
      → head_deed program t s ≡ Ok (invoke g values into, left) → IsCallOf (kind_of program t.stmt) g
      → (deep : Bool) (o : Option ℕ) → block_of plan (block.Function g) ≡ o
      → Goal (if deep then Trap trap.Depth else Invoke o (unit_of plan (start.Entry g)))
  calling g values into left e call true o eo = unmarked (Trap trap.Depth) refl
  calling g values into left e call false None eo = unmarked (Invoke None (unit_of plan (start.Entry g))) refl
  calling g values into left e call false (Some b) eo = λ is_m. (
      let c : IsCallee program g = callee program t.stmt g v call in
      let number : b ≡ m.block = ap block_in is_m in
      let arguments : arguments_at program s ≡ values =
      ap (λ ys. arguments_of_head program s (slice_get ys 0)) is ∙ ap (λ q. arguments_by q) e in
      let same : values ≡ m.values = sym arguments ∙ ap values_of_mark is_m in
      let asked : AskedOf program (body_of program t.stmt) (kind_of program t.stmt)
      (Ok (invoke g values into, left)) =
      subst (AskedOf program (body_of program t.stmt) (kind_of program t.stmt)) e (head_of program t s v) in
      let count : length values ≡ params_of_body (slice_get program.bodies g) = asked.1.1 in
      record {
        kind = block.Function g;
        unit_is = refl;
        block_is = eo ∙ ap Some number;
        there = (c.body, c.there);
        frame = new_frame program g values (Some t.stmt);
        below = s.frames;
        top = ap (λ q. (act_by_asked program a t ts q s).frames) e;
        home = refl;
        later = ts;
        todo = ap (λ q. (act_by_asked program a t ts q s).todo) e;
        answers = ap (λ q. (act_by_asked program a t ts q s).answers) e;
        running = ap (λ q. (act_by_asked program a t ts q s).status) e ∙ running;
        marked = (ap (cells_for (slice_get program.bodies g)) same, sym (ap length same) ∙ count);
      })

  leaving : (o : Option ℕ) → Goal (need_of_leaving plan t.stmt o)
  leaving None = unmarked (need_of_leaving plan t.stmt None) refl
  leaving (Some b) = unmarked (need_of_leaving plan t.stmt (Some b)) refl

  sending : (c : ℕ) (x : ℤ) (n : ℕ) → Goal (need_of_send plan t.stmt n c x)
  sending c x zero = unmarked (need_of_send plan t.stmt 0 c x) refl
  sending c x (suc n) = unmarked (need_of_send plan t.stmt (suc n) c x) refl

  doing : (d : Deed) (left : List ℤ) → head_deed program t s ≡ Ok (d, left) → Suits (kind_of program t.stmt) d
      → Goal (need_of_deed program plan t.stmt s d)
  doing (invoke g values into) left e k =
      calling g values into left e k (nat_lt MOST_CALLS (s.below + length s.frames)) (block_of plan (block.Function g)) refl
  doing (send c x) left e k = sending c x (capacity_of program c)
  doing leave left e k = leaving (block_of plan (block.Loop t.stmt))
  doing d left e k = unmarked (need_of_deed program plan t.stmt s d) refl

  asking : (q : Asked Deed) → head_deed program t s ≡ q → Goal (need_of_asked program plan t.stmt s q)
  asking (Ok p) e = doing p.0 p.1 e
      (subst (Yields (Suits (kind_of program t.stmt))) e
      (suits program.exprs (kind_of program t.stmt) (top_frame s.frames).cells s.answers))
  asking (Err (Wants c)) e = unmarked (need_of_asked program plan t.stmt s (Err (Wants c))) refl
  asking (Err (Traps x)) e = unmarked (need_of_asked program plan t.stmt s (Err (Traps x))) refl

  by_entry : (o : Option ℕ) → entry_of program plan t ≡ o
      → Goal (need_by_entry program plan t.stmt s o (head_deed program t s))
  by_entry (Some b) e = entering b e
  by_entry None e = asking (head_deed program t s) refl

  by_offer : (o : Option ℕ)
      → Goal (need_by_offer plan t.stmt o
      (need_by_entry program plan t.stmt s (entry_of program plan t) (head_deed program t s)))
  by_offer (Some c) = unmarked (Done c (unit_of plan (start.After t.stmt))) refl
  by_offer None = by_entry (entry_of program plan t) refl

  by_budget : (b : Bool) → Goal (if b then Budget else need_of_head program plan t s)
  by_budget true = unmarked Budget refl
  by_budget false = by_offer (offer_of program t)

  -- a step that opens an interval
  pub opened_step : opened program plan s (need_of program plan s) ≡ Some m
      → IsOpenedAt program plan m (unit_started (need_of program plan s)) (act program plan s a)
  opened_step e =
      let n : need_of program plan s
      ≡ (if nat_lt s.budget (s.spent + cost plan
      (need_of_head program plan t s)) then Budget else need_of_head program plan t s) = need_at_todo program plan s (t ∷ ts) running is in
      subst (λ ys. IsOpenedAt program plan m (unit_started (need_of program plan s)) (act_at program plan a ys s))
      (sym is)
      (subst (λ x. Goal x) (sym n)
      (by_budget (nat_lt s.budget (s.spent + cost plan (need_of_head program plan t s)))) e)
