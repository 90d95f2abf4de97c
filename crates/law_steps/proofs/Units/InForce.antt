-- The head of what a process has to do is reached in the unit in force, or is a block loop that is yet to be entered.
use Rattle.law_steps.proofs.Units.Listed.{IsListed}
use Rattle.law_steps.proofs.Units.Needs.{AreCalled, IsCallIf, IsEntering, Tells, need_enters, need_tells, top_called}
use Rattle.law_steps.proofs.Units.Numbers.{after_listed, block_loop, enter_listed, entry_listed, exit_listed, loop_block, loop_is_while}
use Rattle.law_steps.specs.Course.{BeginsList, EntersLoop, GoesAlong, GoesOn, LeadsTo, OffersSend, ReturnsBehind, StartsBehind}
use Rattle.ppd_ast.proofs.Members.{has_first}
use Rattle.ppd_ast.proofs.Vocabulary.{kind_of_stmt}
use Rattle.ppd_ast.specs.Lookups.{body_numbered, kind_of, no_body}
use Rattle.ppd_ast.specs.Members.{has}
use Rattle.ppd_ast.specs.Numbered.{is_left, is_while}
use Rattle.ppd_ast.specs.Valid.{IsValid}
use Rattle.ppd_ast.specs.declared.plan.BlockKind.TheVariants.{Loop}
use Rattle.ppd_ast.specs.declared.plan.Plan.{Plan}
use Rattle.ppd_ast.specs.declared.plan.Policy.{Policy}
use Rattle.ppd_ast.specs.declared.plan.Start.{Start}
use Rattle.ppd_ast.specs.declared.plan.Start.TheVariants as start
use Rattle.ppd_ast.specs.declared.program.Body.{Body}
use Rattle.ppd_ast.specs.declared.program.Kind.{Kind}
use Rattle.ppd_ast.specs.declared.program.Kind.TheVariants as kind
use Rattle.ppd_ast.specs.declared.program.Program.{Program}
use Rattle.ppd_ast.specs.declared.program.Stmt.{Stmt}
use Rattle.ppd_blocks.proofs.Staying.{row_from, unless_no}
use Rattle.ppd_blocks.proofs.Vocabulary.{all_starts, block_loops}
use Rattle.ppd_blocks.specs.Blocks.{plan_of}
use Rattle.ppd_blocks.specs.Walk.{begin_of, enters, is_between, stands_in, unit_rows}
use Rattle.ppd_sets.specs.Flow.{follow}
use Rattle.ppd_sets.specs.Reach.{Reached, next, start as starts_at}
use Rattle.ppd_model.specs.Story.{unit_started}
use Rattle.ppd_sem.specs.Process.{act, need_of, top_frame}
use Rattle.ppd_sem.specs.Tables.{block_of, unit_of}
use Rattle.ppd_sem.specs.declared.proc.Answer.{Answer}
use Rattle.ppd_sem.specs.declared.proc.Need.{Need}
use Rattle.ppd_sem.specs.declared.proc.Need.TheVariants.{Back, Budget, Done, End, Enter, Invoke, Leave, Offer, P, Plain, Read, Recv, Send, Stopped, Trap, V, Write}
use Rattle.ppd_sem.specs.declared.proc.Proc.{Proc}
use Rattle.ppd_sem.specs.declared.proc.Todo.{Todo}
use Rattle.std.proofs.Common.{List, None, Option, Some, [], ap, false, inl, inr, length, refl, subst, sym, true, true≢false, ℕ, ◌<◌, ◌∙◌, ◌∷◌, ◌≡◌, ◌⊎◌}
use Rattle.std.proofs.lemmas.Bool.{cases_Bool}
use Rattle.std.proofs.lemmas.Option.{slice_get_within}
use Rattle.std.specs.List.{find}
use Rattle.std.specs.Prelude.{IsSome, get_or, not, option_to_list, slice_get, unwrap_or, ⊤, ◌&&◌, ◌||◌}

-- ---- kinds

while_there : (stmts : List Stmt) (s : ℕ) (o : Option Stmt) → slice_get stmts s ≡ o → is_while (kind_of_stmt o) ≡ true → s < length stmts
while_there stmts s None at is = absurd (true≢false (sym is))
while_there stmts s (Some x) at is = slice_get_within stmts s x at

while_not_left : (k : Kind) → is_while k ≡ true → is_left k ≡ false
while_not_left (kind.While e body) is = refl
while_not_left k is = absurd (true≢false (sym is))

-- ---- the head

module _ (program : Program) (policy : Policy) where
  abbrev pub loops : List ℕ
  loops = block_loops program policy

  abbrev pub plan : Plan
  plan = plan_of program policy

  -- a block loop that is yet to be entered
  abbrev pub IsYetToEnter : Todo → Type 0
  IsYetToEnter t = (has loops t.stmt ≡ true) × (t.entered ≡ false)

  -- the unit with this start reaches the statement
  abbrev pub IsInUnit : Start → ℕ → Type 0
  IsInUnit s stmt = Reached (unit_rows program loops) (option_to_list (begin_of program loops s)) stmt

  -- a unit that is there, and reaches the head
  pub record HasHead (unit : ℕ) (t : Todo) : Type 0 where
    pub origin : Start
    pub unit_is : unit ≡ unit_of plan origin
    pub listed : IsListed (all_starts program loops) origin
    pub head : IsYetToEnter t ⊎ IsInUnit origin t.stmt

  abbrev pub HasHeadOf : ℕ → List Todo → Type 0
  HasHeadOf unit [] = ⊤
  HasHeadOf unit (t ∷ ts) = HasHead unit t

  -- ---- a unit begins

  abbrev IsMarked : ℕ → Todo → Type 0
  IsMarked s t = (b : ℕ) → block_of plan (Loop t.stmt) ≡ Some b → t.entered ≡ stands_in program s t.stmt

  -- t is entered by no way from s, or is a block loop that is yet to be entered
  entered_or : (s : ℕ) (t : Todo) → IsMarked s t → IsYetToEnter t ⊎ (enters program loops s t.stmt ≡ false)
  entered_or s t marks = elim (cases_Bool (has loops t.stmt)) [
    | inr isnt ↦ inr (ap (λ b. b && not (stands_in program s t.stmt)) isnt)
    | inl is ↦ by_stand is (marks (loop_block program policy t.stmt is).0 (loop_block program policy t.stmt is).1)
  ]
    where
      by_stand : has loops t.stmt ≡ true → t.entered ≡ stands_in program s t.stmt → IsYetToEnter t ⊎ (enters program loops s t.stmt ≡ false)
      by_stand is e = elim (cases_Bool (stands_in program s t.stmt)) [
        | inl stands ↦ inr (ap (λ b. b && not (stands_in program s t.stmt)) is ∙ ap not stands)
        | inr apart ↦ inl (is, e ∙ apart)
      ]

  begun : (s : Start) (n : ℕ) (o : Option ℕ) → begin_of program loops s ≡ o → o ≡ Some n → IsInUnit s n
  begun s n o e is = subst (λ (x : Option ℕ). Reached (unit_rows program loops) (option_to_list x) n) (sym (e ∙ is)) (starts_at (has_first n []))

  by_follow : (a : ℕ) (origin : Start) (t : Todo) → begin_of program loops origin ≡ find (λ t. not (enters program loops a t)) (option_to_list (follow program a)) → Some t.stmt ≡ follow program a → IsMarked a t
      → IsYetToEnter t ⊎ IsInUnit origin t.stmt
  by_follow a origin t begins follows marks = elim (entered_or a t marks) [
    | inl yet ↦ inl yet
    | inr apart ↦ inr (begun origin t.stmt (find (λ t. not (enters program loops a t)) (option_to_list (follow program a))) begins (ap (λ o. find (λ t. not (enters program loops a t)) (option_to_list o)) (sym follows) ∙ unless_no (enters program loops a) t.stmt apart))
  ]

  starts_behind : (a : ℕ) (origin : Start) (u : ℕ) (todo : List Todo) → begin_of program loops origin ≡ find (λ t. not (enters program loops a t)) (option_to_list (follow program a)) → IsListed (all_starts program loops) origin
      → StartsBehind program plan a origin u todo → HasHeadOf u todo
  starts_behind a origin u [] begins listed h = tt
  starts_behind a origin u (t ∷ ts) begins listed h = record {
    origin = origin;
    unit_is = h.unit_is;
    listed = listed;
    head = by_follow a origin t begins h.goes.follows h.goes.marks;
  }

  body_of : (b n : ℕ) (o : Option Body) → slice_get program.bodies b ≡ o → Some n ≡ slice_get (unwrap_or o no_body).top 0 → IsListed (all_starts program loops) (start.Entry b)
  body_of b n None at e = cc
  body_of b n (Some body) at e = entry_listed program loops b body at

  pub starts_body : (b u : ℕ) (todo : List Todo) → u ≡ unit_of plan (start.Entry b) → BeginsList (body_numbered program b).top todo → HasHeadOf u todo
  starts_body b u [] is h = tt
  starts_body b u (t ∷ ts) is h = record {
    origin = start.Entry b;
    unit_is = is;
    listed = body_of b t.stmt (slice_get program.bodies b) refl h.first;
    head = elim (cases_Bool (has loops t.stmt)) [
      | inl loop ↦ inl (loop, h.unmarked t ts refl)
      | inr isnt ↦ inr (begun (start.Entry b) t.stmt (find (λ t. not (has loops t)) (option_to_list (slice_get (body_numbered program b).top 0))) refl (ap (λ o. find (λ t. not (has loops t)) (option_to_list o)) (sym h.first) ∙ unless_no (has loops) t.stmt isnt))
    ];
  }

  -- ---- a unit goes on

  stays_inside : (s : ℕ) (t : Todo) → GoesAlong program plan s t → enters program loops t.stmt s ≡ false
  stays_inside s t g = elim (cases_Bool (has loops s)) [
    | inr isnt ↦ ap (λ b. b && not (stands_in program t.stmt s)) isnt
    | inl is ↦
        (let block = loop_block program policy s is in
        ap (λ b. b && not (stands_in program t.stmt s)) is ∙ ap not (g.inside block.0 (loop_is_while program policy s is) block.1))
  ]

  goes_along : (s : ℕ) (origin : Start) (t : Todo) → GoesAlong program plan s t → IsInUnit origin s → IsYetToEnter t ⊎ IsInUnit origin t.stmt
  goes_along s origin t g reached = elim (entered_or s t g.marks) [
    | inl yet ↦ inl yet
    | inr apart ↦
        (let within : is_between program loops s t.stmt ≡ false =
        ap (λ b. b || (enters program loops s t.stmt || enters program loops t.stmt s)) g.same_unit
        ∙ ap (λ b. b || enters program loops t.stmt s) apart ∙ stays_inside s t g in
        inr (next reached (row_from program loops s t.stmt g.next (ap not within))))
  ]

  goes_on : (s u : ℕ) (origin : Start) (todo : List Todo) → u ≡ unit_of plan origin → IsListed (all_starts program loops) origin → IsInUnit origin s → GoesOn program plan s todo → HasHeadOf u todo
  goes_on s u origin [] is listed reached g = tt
  goes_on s u origin (t ∷ ts) is listed reached g = record { origin = origin; unit_is = is; listed = listed; head = goes_along s origin t (g t ts refl) reached }

  -- ---- one step

  -- a block loop that is yet to be entered is entered by the next step, if the process goes on
  enters_first : (s : Proc) (t : Todo) (ts : List Todo) → s.todo ≡ t ∷ ts → IsYetToEnter t → IsEntering (need_of program plan s)
  enters_first s t ts is yet =
      let block = loop_block program policy t.stmt yet.0 in
      need_enters program plan s t ts block.0 is yet.1 (loop_is_while program policy t.stmt yet.0) block.1

  -- else the unit in force reaches the head
  pub in_unit : (s : Proc) (t : Todo) (ts : List Todo) (u : ℕ) → s.todo ≡ t ∷ ts → (h : HasHead u t) → (IsEntering (need_of program plan s) → ⊥) → IsInUnit h.origin t.stmt
  in_unit s t ts u is h isnt = elim h.head [ inl yet ↦ absurd (isnt (enters_first s t ts is yet)) | inr reached ↦ reached ]

  call_listed : (c : ℕ) → IsValid program → IsCallIf program (Some c) → IsListed (all_starts program loops) (start.After c)
  call_listed c v is = after_listed program loops c v is

  exit_there : (s b : ℕ) → IsValid program → block_of plan (Loop s) ≡ Some b → IsListed (all_starts program loops) (start.Exit s)
  exit_there s b v at =
      let is : has loops s ≡ true = block_loop program policy s b at in
      let loop : is_while (kind_of program s) ≡ true = loop_is_while program policy s is in
      exit_listed program loops s v (while_there program.stmts s (slice_get program.stmts s) refl loop) (while_not_left (kind_of program s) loop) is

  enters_loop : (s b u : ℕ) (before after : List Todo) → IsValid program → EntersLoop plan s b u before after → HasHeadOf u after
  enters_loop s b u before after v h =
      let is : has loops s ≡ true = block_loop program policy s b h.block_is in
      let loop : is_while (kind_of program s) ≡ true = loop_is_while program policy s is in
      subst (HasHeadOf u) (sym h.after_is) (record {
        origin = start.Enter s;
        unit_is = h.unit_is;
        listed = enter_listed program loops s v (while_there program.stmts s (slice_get program.stmts s) refl loop) (while_not_left (kind_of program s) loop) is;
        head = inr (subst (λ n. IsInUnit (start.Enter s) n) (sym h.stmt_is) (starts_at (has_first s [])));
      })

  returns_behind : (call unit : Option ℕ) (u : ℕ) (todo : List Todo) → IsValid program → IsCallIf program call → ReturnsBehind program plan call unit todo → HasHeadOf (unwrap_or unit u) todo
  returns_behind None None u todo v is h = subst (HasHeadOf u) (sym h) tt
  returns_behind None (Some w) u todo v is h = absurd h
  returns_behind (Some c) None u todo v is h = absurd h
  returns_behind (Some c) (Some w) u todo v is h = starts_behind c (start.After c) w todo refl (call_listed c v is) h

  -- the process has stopped, or the unit in force reaches the head
  abbrev pub IsInForce : ℕ → Proc → Type 0
  IsInForce u s = IsSome s.status ⊎ HasHeadOf u s.todo

  module _ (v : IsValid program) (s : Proc) (a : Answer) (t : Todo) (ts : List Todo) (u : ℕ) (is : s.todo ≡ t ∷ ts) (h : HasHead u t) (called : AreCalled program s.frames) where
    abbrev now : Proc
    now = act program plan s a

    plainly : (IsEntering (need_of program plan s) → ⊥) → GoesOn program plan t.stmt now.todo → IsInForce u now
    plainly isnt g = inr (goes_on t.stmt u h.origin now.todo h.unit_is h.listed (in_unit s t ts u is h isnt) g)

    behind : (w : ℕ) → is_left (kind_of program t.stmt) ≡ true → StartsBehind program plan t.stmt (start.After t.stmt) w now.todo → IsInForce w now
    behind w left g = inr (starts_behind t.stmt (start.After t.stmt) w now.todo refl (call_listed t.stmt v left) g)

    offers : OffersSend t.stmt s.todo now.todo → HasHeadOf u now.todo
    offers g = subst (HasHeadOf u) (sym g.after_is) (marked g.head (ap (λ l. get_or l 0 t) (sym g.before_is ∙ is)))
      where
        marked : (w : Todo) → w ≡ t → HasHead u (record w { offered = true })
        marked w e = subst (λ z. HasHead u (record z { offered = true })) (sym e) (record { origin = h.origin; unit_is = h.unit_is; listed = h.listed; head = h.head })

    by_need : (n : Need) → need_of program plan s ≡ n → Tells program plan t.stmt n → LeadsTo program plan n t.stmt (top_frame s.frames).call s now → IsInForce (unwrap_or (unit_started n) u) now
    by_need (Read c) e tells g = inr (subst (HasHeadOf u) (sym (g ∙ is)) h)
    by_need (Write c x) e tells g = plainly (λ k. subst IsEntering e k) g
    by_need Plain e tells g = plainly (λ k. subst IsEntering e k) g
    by_need (Enter b w) e tells g = inr (enters_loop t.stmt b w s.todo now.todo v g)
    by_need (Leave b w) e tells g = inr (starts_behind t.stmt (start.Exit t.stmt) w now.todo refl (exit_there t.stmt b v tells) g)
    by_need (Invoke b w) e tells g = inr (starts_body g.function w now.todo g.unit_is g.goes)
    by_need (Back b unit) e tells g = inr (returns_behind (top_frame s.frames).call unit u now.todo v (top_called program s.frames called) g)
    by_need (P x w) e tells g = behind w tells g
    by_need (V x w) e tells g = behind w tells g
    by_need (Send x y w) e tells g = behind w tells g
    by_need (Offer x y) e tells g = inr (offers g)
    by_need (Done x w) e tells g = behind w tells g
    by_need (Recv x w) e tells g = behind w tells g
    by_need (End b) e tells g = inl g
    by_need (Trap x) e tells g = inl g
    by_need Budget e tells g = inl g
    by_need Stopped e tells g = inr (subst (λ (p : Proc). HasHeadOf u p.todo) (sym g) (subst (HasHeadOf u) (sym is) h))

    pub steps_on : LeadsTo program plan (need_of program plan s) t.stmt (top_frame s.frames).call s now → IsInForce (unwrap_or (unit_started (need_of program plan s)) u) now
    steps_on g = by_need (need_of program plan s) refl (need_tells program plan s t ts is) g
