-- What is open after each step, and which statement the step is of.
use Rattle.std.proofs.Common.{◌≡◌, ℕ, zero, suc, ◌+◌, ℤ, Bool, true, false, nat_lt, List, [], ◌∷◌, ◌++◌, length, Option, Some, None, Ok, Err, refl, ap, sym, subst, ◌∙◌, if◌then◌else◌}
use Rattle.std.proofs.lemmas.Option.{none-some}
use Rattle.std.specs.Prelude.{⊤}
use Rattle.ppd_ast.specs.Numbered.{is_call, is_while}
use Rattle.ppd_ast.specs.Valid.{IsValid}
use Rattle.ppd_ast.specs.declared.plan.BlockKind.TheVariants as block
use Rattle.ppd_ast.specs.declared.plan.Plan.{Plan}
use Rattle.ppd_ast.specs.declared.plan.Start.TheVariants as start
use Rattle.ppd_ast.specs.declared.program.Kind.{Kind}
use Rattle.ppd_ast.specs.declared.program.Program.{Program}
use Rattle.ppd_ast.specs.declared.status.Trap.TheVariants as trap
use Rattle.ppd_ast.specs.Lookups.{kind_of, body_of, body_numbered}
use Rattle.ppd_ast.specs.declared.limits.TheConstants.{MOST_CALLS}
use Rattle.law_steps.proofs.Course.Deeds.{IsLoopDeed}
use Rattle.ppd_model.proofs.Deeds.{AskedOf as DoesIf, asked_of as does}
use Rattle.ppd_sem.specs.declared.asking.Pause.TheVariants.{Wants, Traps}
use Rattle.ppd_sem.specs.declared.proc.Answer.{Answer}
use Rattle.ppd_sem.specs.declared.proc.Need.{Need}
use Rattle.ppd_sem.specs.declared.proc.Need.TheVariants as need
use Rattle.ppd_sem.specs.declared.proc.Proc.{Proc}
use Rattle.ppd_sem.specs.declared.proc.Todo.{Todo}
use Rattle.ppd_sem.specs.Asked.{Asked}
use Rattle.ppd_sem.specs.Deed.{Deed, set_local, set_shared, clear, branch, turn, leave, invoke, back, take, give, send, receive, print, pass, finish}
use Rattle.ppd_sem.specs.Process.{act_by_asked, act_by_deed, act_by_need, call_unit, chan_of, cost, entry_of, head_deed, loop_of, need_of_asked, need_of_deed, need_of_head, need_of_leaving, need_of_send, offer_of, top_frame}
use Rattle.ppd_sem.proofs.NeedWords.{need_by_entry, need_by_offer, need_of_running}
use Rattle.ppd_sem.specs.Runs.{returns, bodies_in}
use Rattle.ppd_sem.specs.Tables.{block_of, capacity_of, unit_of}
use Rattle.ppd_model.proofs.Homes.{AskedOf, DeedOf, head_of}
use Rattle.law_steps.specs.OpenBlocks.Stack.{returning}
use Rattle.law_steps.proofs.OpenBlocks.DeedKinds.{found_while, loop_is, no_loop, return_no_loop, send_is, while_block, while_stays}
use Rattle.law_steps.proofs.OpenBlocks.Framed.{head_returns}
use Rattle.law_steps.proofs.OpenBlocks.Moving.{top_is}
use Rattle.law_flow.specs.Places.Closing.{closing, if_there, of_loop, of_return}
use Rattle.law_flow.proofs.Places.Opened.{head_plain, inner_plain, no_loop_mark, no_return_mark, return_mark, top_opens}
use Rattle.law_flow.proofs.Places.Calling.{IsCallDeed, no_call, send_no_call, while_no_call}

-- a step opens or closes the innermost, or nothing
abbrev pub MovesTo : Need → (before after : List (Option ℕ)) → Type 0
MovesTo (need.Enter b u) x y = y ≡ Some b ∷ x
MovesTo (need.Leave b u) x y = x ≡ Some b ∷ y
MovesTo (need.Invoke o u) x y = y ≡ o ∷ x
MovesTo (need.Back o u) x y = x ≡ o ∷ y
MovesTo (need.End b) x y = ⊤
MovesTo n x y = x ≡ y

-- the head statement is a call of a function with this block, if it is one
pub record IsCalling (program : Program) (plan : Plan) (t : Todo) (s : Proc) (o : Option ℕ) : Type 0 where
  pub function : ℕ
  pub values : List ℤ
  pub into : Option ℕ
  pub left : List ℤ
  pub deed : head_deed program t s ≡ Ok (invoke function values into, left)
  pub block : o ≡ block_of plan (block.Function function)

-- a return of the function with this block, if it is one
pub record IsReturning (program : Program) (plan : Plan) (t : Todo) (s : Proc) (o : Option ℕ) : Type 0 where
  pub value : Option ℤ
  pub left : List ℤ
  pub deed : head_deed program t s ≡ Ok (back value, left)
  pub goes : returns (kind_of program t.stmt) ≡ true
  pub block : o ≡ block_of plan (block.Function (top_frame s.frames).body)

-- the test of a block loop that ends
pub record IsLeft (program : Program) (plan : Plan) (t : Todo) (s : Proc) (b : ℕ) : Type 0 where
  pub left : List ℤ
  pub deed : head_deed program t s ≡ Ok (leave, left)
  pub loop : is_while (kind_of program t.stmt) ≡ true
  pub block : block_of plan (block.Loop t.stmt) ≡ Some b

pub record IsOther (k : Kind) : Type 0 where
  pub no_call : is_call k ≡ false
  pub stays : returns k ≡ false

-- what the head statement of a step with this need is
abbrev pub IsOf : Program → Plan → Todo → Proc → Need → Type 0
IsOf program plan t s (need.Enter b u) = entry_of program plan t ≡ Some b
IsOf program plan t s (need.Leave b u) = IsLeft program plan t s b
IsOf program plan t s (need.Invoke o u) = IsCalling program plan t s o
IsOf program plan t s (need.Back o u) = IsReturning program plan t s o
IsOf program plan t s (need.Read c) = head_deed program t s ≡ Err (Wants c)
IsOf program plan t s (need.End b) = ⊤
IsOf program plan t s (need.Trap x) = ⊤
IsOf program plan t s need.Budget = ⊤
IsOf program plan t s need.Stopped = ⊤
IsOf program plan t s n = IsOther (kind_of program t.stmt)

module _ (program : Program) (plan : Plan) (p : ℕ) (v : IsValid program) (a : Answer) (t : Todo) (ts : List Todo)
    (s : Proc)
    (is : s.todo ≡ t ∷ ts) (framed : bodies_in s.frames
    ≡ returning program (t ∷ ts) ++ (program.functions + p) ∷ []) where
  abbrev before : List (Option ℕ)
  before = closing program plan (t ∷ ts)

  abbrev Goes : Need → List Todo → Type 0
  Goes n todo = MovesTo n before (closing program plan todo)

  abbrev Tells : Need → Type 0
  Tells n = Goes n (act_by_need program plan a t ts n s).todo × IsOf program plan t s n

  moved : (n : Need) (x : Asked Deed) → head_deed program t s ≡ x → Goes n (act_by_asked program a t ts x s).todo
      → Goes n (act_by_asked program a t ts (head_deed program t s) s).todo
  moved n x at h = subst (λ y. Goes n (act_by_asked program a t ts y s).todo) (sym at) h

  unchanged : before ≡ closing program plan s.todo
  unchanged = ap (closing program plan) (sym is)

  -- the head goes, which is no loop and does not return
  gone : is_while (kind_of program t.stmt) ≡ false → returns (kind_of program t.stmt) ≡ false
      → before ≡ closing program plan ts
  gone isnt stays = head_plain program plan t ts (while_block plan t.stmt (kind_of program t.stmt) isnt) stays

  module _ (d : Deed) (left : List ℤ) (at : head_deed program t s ≡ Ok (d, left)) where
    other_deed : ((body : List ℕ) → IsLoopDeed body d → ⊥) → is_while (kind_of program t.stmt) ≡ false
    other_deed none = no_loop program.exprs (kind_of program t.stmt) (top_frame s.frames).cells s.answers d left at none

    other_call : (IsCallDeed d → ⊥) → is_call (kind_of program t.stmt) ≡ false
    other_call none = no_call program.exprs (kind_of program t.stmt) (top_frame s.frames).cells s.answers d left at none

    -- a deed that only takes the head away
    plain : ((body : List ℕ) → IsLoopDeed body d → ⊥) → (IsCallDeed d → ⊥) → returns (kind_of program t.stmt) ≡ false
        → (act_by_deed program a t ts d (record s { answers = [] })).todo ≡ ts
        → (before ≡ closing program plan (act_by_asked program a t ts (head_deed program t s) s).todo)
        × IsOther (kind_of program t.stmt)
    plain none none_called stays todo = (
      gone (other_deed none) stays ∙ ap (closing program plan) (sym todo)
          ∙ ap (λ x. closing program plan (act_by_asked program a t ts x s).todo) (sym at),
      record { no_call = other_call none_called; stays = stays },
    )

  -- ---- loops

  entered_is : t.entered ≡ true → (o : Option ℕ) → loop_of plan t.stmt (kind_of program t.stmt) ≡ o
      → of_loop program plan t ≡ if_there o
  entered_is e o is_loop = ap (λ b. if b then if_there (loop_of plan t.stmt (kind_of program t.stmt)) else []) e
      ∙ ap if_there is_loop

  was_entered : (c : ℕ) → loop_of plan t.stmt (kind_of program t.stmt) ≡ Some c → entry_of program plan t ≡ None
      → t.entered ≡ true
  was_entered c is_loop no_entry = by t.entered refl
    where
      by : (x : Bool) → t.entered ≡ x → t.entered ≡ true
      by true e = e
      by false e = absurd (none-some c (sym no_entry
          ∙ ap (λ x. if x then None else loop_of plan t.stmt (kind_of program t.stmt)) e ∙ is_loop))

  not_entered : (c : ℕ) → entry_of program plan t ≡ Some c
      → (t.entered ≡ false) × (loop_of plan t.stmt (kind_of program t.stmt) ≡ Some c)
  not_entered c entry = by t.entered refl
    where
      by : (x : Bool) → t.entered ≡ x → (t.entered ≡ false) × (loop_of plan t.stmt (kind_of program t.stmt) ≡ Some c)
      by true e = absurd (none-some c
          (sym (ap (λ x. if x then None else loop_of plan t.stmt (kind_of program t.stmt)) e) ∙ entry))
      by false e = (e, sym (ap (λ x. if x then None else loop_of plan t.stmt (kind_of program t.stmt)) e) ∙ entry)

  entering : (c : ℕ) → entry_of program plan t ≡ Some c
      → closing program plan (record t { entered = true } ∷ ts) ≡ Some c ∷ before
  entering c entry =
      let n = not_entered c entry in
      let stays : returns (kind_of program t.stmt) ≡ false =
      while_stays (kind_of program t.stmt) (found_while plan t.stmt (kind_of program t.stmt) c n.1) in
      let none : of_loop program plan t ≡ [] =
      ap (λ b. if b then if_there (loop_of plan t.stmt (kind_of program t.stmt)) else []) n.0 in
      ap (λ o. (if_there o ++ of_return program plan t) ++ closing program plan ts) n.1
      ∙ ap (λ xs. (Some c ∷ xs) ++ closing program plan ts) (no_return_mark program plan t stays)
      ∙ ap (λ xs. Some c ∷ (xs ++ closing program plan ts)) (sym (no_return_mark program plan t stays))
      ∙ ap (λ xs. Some c ∷ ((xs ++ of_return program plan t) ++ closing program plan ts)) (sym none)

  module _ (no_entry : entry_of program plan t ≡ None) where
    leaving : (o : Option ℕ) (left : List ℤ) → head_deed program t s ≡ Ok (leave, left)
        → block_of plan (block.Loop t.stmt) ≡ o → is_while (kind_of program t.stmt) ≡ true
        → Tells (need_of_leaving plan t.stmt o)
    leaving None left at e w =
        let stays : returns (kind_of program t.stmt) ≡ false = while_stays (kind_of program t.stmt) w in (
          moved need.Plain (Ok (leave, left)) at
              (head_plain program plan t ts (loop_is plan t.stmt (kind_of program t.stmt) w
              ∙ e) stays),
          record { no_call = while_no_call (kind_of program t.stmt) w; stays = stays },
        )
    leaving (Some c) left at e w =
        let is_loop : loop_of plan t.stmt (kind_of program t.stmt) ≡ Some c =
        loop_is plan t.stmt (kind_of program t.stmt) w ∙ e in
        let stays : returns (kind_of program t.stmt) ≡ false = while_stays (kind_of program t.stmt) w in (
          moved (need.Leave c (unit_of plan (start.Exit t.stmt))) (Ok (leave, left)) at
              (ap (λ xs. (xs ++ of_return program plan t) ++ closing program plan ts)
              (entered_is (was_entered c is_loop no_entry) (Some c) is_loop)
              ∙ ap (λ xs. (Some c ∷ xs) ++ closing program plan ts) (no_return_mark program plan t stays)),
          record { left = left; deed = at; loop = w; block = e },
        )

    -- ---- calls

    calling : (x : Bool) (f : ℕ) (values : List ℤ) (into : Option ℕ) (left : List ℤ)
        → head_deed program t s ≡ Ok (invoke f values into, left)
        → DeedOf program (body_of program t.stmt) (kind_of program t.stmt) (invoke f values into)
        → Tells (if x then need.Trap trap.Depth else need.Invoke (block_of plan (block.Function f))
        (unit_of plan (start.Entry f)))
    calling true f values into left at h = (unchanged, tt)
    calling false f values into left at h = (
      moved (need.Invoke (block_of plan (block.Function f)) (unit_of plan (start.Entry f)))
          (Ok (invoke f values into, left)) at
          (top_opens program plan f (body_numbered program f).top ts h.1.0
          ∙ ap (λ xs. block_of plan (block.Function f) ∷ xs)
          (sym (gone (other_deed (invoke f values into) left at (λ body z. z)) h.0))),
      record { function = f; values = values; into = into; left = left; deed = at; block = refl },
    )

    returning_back : (value : Option ℤ) (left : List ℤ) → head_deed program t s ≡ Ok (back value, left)
        → returns (kind_of program t.stmt) ≡ true
        → Tells (need.Back (block_of plan (block.Function (top_frame s.frames).body)) (call_unit plan (top_frame s.frames).call))
    returning_back value left at ret =
        let none : of_loop program plan t ≡ [] =
        no_loop_mark program plan t (while_block plan t.stmt (kind_of program t.stmt)
        (return_no_loop (kind_of program t.stmt) ret)) in
        let own : (top_frame s.frames).body ≡ body_of program t.stmt =
        top_is s (body_of program t.stmt) (returning program ts ++ (program.functions + p) ∷ []) (framed
        ∙ ap (λ bs. bs ++ (program.functions + p) ∷ []) (head_returns program t ts ret)) in (
          moved (need.Back (block_of plan (block.Function (top_frame s.frames).body)) (call_unit plan (top_frame s.frames).call))
              (Ok (back value, left)) at
              (ap (λ xs. (xs ++ of_return program plan t) ++ closing program plan ts) none
              ∙ ap (λ xs. xs ++ closing program plan ts) (return_mark program plan t ret)
              ∙ ap (λ n. block_of plan (block.Function n) ∷ closing program plan ts) (sym own)),
          record { value = value; left = left; deed = at; goes = ret; block = refl },
        )

    -- ---- each deed

    sending : (n c : ℕ) (value : ℤ) (left : List ℤ) → head_deed program t s ≡ Ok (send c value, left)
        → returns (kind_of program t.stmt) ≡ false → Tells (need_of_send plan t.stmt n c value)
    sending zero c value left at stays =
        (refl, record { no_call = other_call (send c value) left at (λ z. z); stays = stays })
    sending (suc n) c value left at stays = plain (send c value) left at (λ body z. z) (λ z. z) stays refl

    by_deed : (d : Deed) (left : List ℤ) → head_deed program t s ≡ Ok (d, left)
        → DeedOf program (body_of program t.stmt) (kind_of program t.stmt) d
        → Tells (need_of_deed program plan t.stmt s d)
    by_deed (set_local c x) left at h = plain (set_local c x) left at (λ body z. z) (λ z. z) h refl
    by_deed (set_shared c x) left at h = plain (set_shared c x) left at (λ body z. z) (λ z. z) h refl
    by_deed (clear first len) left at h = plain (clear first len) left at (λ body z. z) (λ z. z) h refl
    by_deed (branch stmts) left at h = (
      moved need.Plain (Ok (branch stmts, left)) at
          (gone (other_deed (branch stmts) left at (λ body z. z)) h.0
          ∙ sym (inner_plain program plan (body_of program t.stmt) stmts ts h.1)),
      record { no_call = other_call (branch stmts) left at (λ z. z); stays = h.0 },
    )
    by_deed (turn stmts) left at h = (
      moved need.Plain (Ok (turn stmts, left)) at
          (sym (inner_plain program plan (body_of program t.stmt) stmts (t ∷ ts) h.1)),
      record { no_call = other_call (turn stmts) left at (λ z. z); stays = h.0 },
    )
    by_deed leave left at h = leaving (block_of plan (block.Loop t.stmt)) left at refl loop
      where
        loop : is_while (kind_of program t.stmt) ≡ true
        loop = subst (DoesIf (kind_of program t.stmt)) at (does program.exprs (kind_of program t.stmt)
            (top_frame s.frames).cells s.answers)
    by_deed (invoke f values into) left at h = calling (nat_lt MOST_CALLS (s.below + length s.frames)) f values into left at h
    by_deed (back value) left at h = returning_back value left at h.0
    by_deed (take x) left at h = plain (take x) left at (λ body z. z) (λ z. z) h refl
    by_deed (give x) left at h = plain (give x) left at (λ body z. z) (λ z. z) h refl
    by_deed (send c x) left at h = sending (capacity_of program c) c x left at h
    by_deed (receive c into) left at h = plain (receive c into) left at (λ body z. z) (λ z. z) h refl
    by_deed (print x) left at h = plain (print x) left at (λ body z. z) (λ z. z) h refl
    by_deed pass left at h = plain pass left at (λ body z. z) (λ z. z) h refl
    by_deed finish left at h = (tt, tt)

    by_asked : (x : Asked Deed) → head_deed program t s ≡ x
        → AskedOf program (body_of program t.stmt) (kind_of program t.stmt) x
        → Tells (need_of_asked program plan t.stmt s x)
    by_asked (Ok q) at h = by_deed q.0 q.1 at h
    by_asked (Err (Wants c)) at h = (moved (need.Read c) (Err (Wants c)) at unchanged, at)
    by_asked (Err (Traps x)) at h = (unchanged, tt)

  by_entry : (o : Option ℕ) → entry_of program plan t ≡ o
      → Tells (need_by_entry program plan t.stmt s o (head_deed program t s))
  by_entry (Some c) e = (entering c e, e)
  by_entry None e = by_asked e (head_deed program t s) refl (head_of program t s v)

  by_offer : (o : Option ℕ) → offer_of program t ≡ o
      → Tells (need_by_offer plan t.stmt o (need_by_entry program plan t.stmt s (entry_of program plan t)
      (head_deed program t s)))
  by_offer (Some c) e =
      let chan = of_send t.offered refl in
      let sends = send_is (kind_of program t.stmt) c chan in
      (gone sends.0 sends.1, record { no_call = send_no_call (kind_of program t.stmt) c chan; stays = sends.1 })
    where
      of_send : (b : Bool) → t.offered ≡ b → chan_of (kind_of program t.stmt) ≡ Some c
      of_send true o = sym (ap (λ b. if b then chan_of (kind_of program t.stmt) else None) o) ∙ e
      of_send false o = absurd (none-some c (sym (ap (λ b. if b then chan_of (kind_of program t.stmt) else None) o)
          ∙ e))
  by_offer None e = by_entry (entry_of program plan t) refl

  by_budget : (b : Bool) → Tells (if b then need.Budget else need_of_head program plan t s)
  by_budget true = (unchanged, tt)
  by_budget false = by_offer (offer_of program t) refl

  pub head_moves : Tells (need_of_running program plan (t ∷ ts) s)
  head_moves = by_budget (nat_lt s.budget (s.spent + cost plan (need_of_head program plan t s)))
