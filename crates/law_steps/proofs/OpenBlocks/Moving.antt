-- Each step opens its block inside those that are open, or closes the innermost.
use Rattle.std.proofs.Common.{◌≡◌, ℕ, zero, suc, ◌+◌, ℤ, Bool, true, false, nat_lt, List, [], ◌∷◌, ◌++◌, length, Option, Some, None, Ok, Err, refl, ap, sym, subst, ◌∙◌, if◌then◌else◌, append_assoc}
use Rattle.std.proofs.lemmas.Option.{none-some}
use Rattle.std.specs.Prelude.{option_to_list}
use Rattle.ppd_ast.specs.Numbered.{is_while}
use Rattle.ppd_ast.specs.Valid.{IsValid}
use Rattle.ppd_ast.specs.declared.plan.BlockKind.TheVariants as block
use Rattle.ppd_ast.specs.declared.plan.Plan.{Plan}
use Rattle.ppd_ast.specs.declared.plan.Start.TheVariants as start
use Rattle.ppd_ast.specs.declared.program.Program.{Program}
use Rattle.ppd_ast.specs.declared.status.Trap.TheVariants as trap
use Rattle.ppd_ast.specs.Lookups.{kind_of, body_of, body_numbered}
use Rattle.ppd_ast.specs.declared.limits.TheConstants.{MOST_CALLS}
use Rattle.law_steps.specs.Course.{IsWay, behind, calls_of, follow_if}
use Rattle.law_steps.proofs.Course.Deeds.{IsLoopDeed}
use Rattle.law_steps.proofs.Course.Last.{ends_are_last}
use Rattle.ppd_sem.specs.declared.asking.Pause.TheVariants.{Wants, Traps}
use Rattle.ppd_sem.specs.declared.proc.Answer.{Answer}
use Rattle.ppd_sem.specs.declared.proc.Need.{Need}
use Rattle.ppd_sem.specs.declared.proc.Need.TheVariants as need
use Rattle.ppd_sem.specs.declared.proc.Proc.{Proc}
use Rattle.ppd_sem.specs.declared.proc.Todo.{Todo}
use Rattle.ppd_sem.specs.Asked.{Asked}
use Rattle.ppd_sem.specs.Deed.{Deed, set_local, set_shared, clear, branch, turn, leave, invoke, back, take, give, send, receive, print, pass, finish}
use Rattle.ppd_sem.specs.Process.{act_by_asked, act_by_deed, act_by_need, call_unit, chan_of, cost, entry_of, head_deed, loop_of, need_of_asked, need_of_deed, need_of_head, need_of_leaving, need_of_send, offer_of, todos, top_frame}
use Rattle.ppd_sem.proofs.NeedWords.{need_by_entry, need_by_offer, need_of_running}
use Rattle.ppd_sem.specs.Runs.{returns, bodies_in}
use Rattle.ppd_sem.specs.Tables.{block_of, capacity_of, unit_of}
use Rattle.ppd_sem.proofs.TableWords.{or_zero}
use Rattle.ppd_sem.specs.Passed.{next_stmt_of}
use Rattle.ppd_model.specs.Logs.{status_of}
use Rattle.ppd_model.specs.Marks.{opened, closed}
use Rattle.ppd_model.proofs.Deeds.{AskedOf as DoesIf, asked_of as does}
use Rattle.ppd_model.proofs.Homes.{AskedOf, DeedOf, head_of}
use Rattle.law_steps.specs.OpenBlocks.Stack.{Moves, entered_block, open_blocks, process_block, returned_block, returning}
use Rattle.law_steps.proofs.OpenBlocks.Framed.{head_returns, head_stays}
use Rattle.law_steps.proofs.OpenBlocks.DeedKinds.{Finishes, FinishesIf, finishing, found_while, loop_is, no_loop, return_no_loop, send_is, while_block, while_stays}
use Rattle.law_steps.proofs.OpenBlocks.Opened.{head_plain, inner_plain, no_entered, no_returned, top_opens}

pub top_is : (s : Proc) (b : ℕ) (bs : List ℕ) → bodies_in s.frames ≡ b ∷ bs → (top_frame s.frames).body ≡ b
top_is s b bs e = by s.frames e
  where
    first : List ℕ → ℕ
    first [] = 0
    first (x ∷ xs) = x

    by : (frames : List _) → bodies_in frames ≡ b ∷ bs → (top_frame frames).body ≡ b
    by [] e = absurd (cc)
    by (f ∷ fs) e = ap first e

module _ (program : Program) (plan : Plan) (p : ℕ) (v : IsValid program) (a : Answer) (t : Todo) (ts : List Todo) (s : Proc)
    (is : s.todo ≡ t ∷ ts) (framed : bodies_in s.frames ≡ returning program (t ∷ ts) ++ (program.functions + p) ∷ []) (course : IsWay program plan (calls_of s.frames) (t ∷ ts)) where
  abbrev base : List ℕ
  base = process_block program plan p ∷ []

  abbrev before : List ℕ
  before = open_blocks program plan (t ∷ ts) ++ base

  -- what is open after a step of this need, which leaves these to do
  abbrev Goes : Need → List Todo → Type 0
  Goes n todo = Moves (opened program plan s n) (closed program plan s n) (status_of n) before (open_blocks program plan todo ++ base)

  abbrev Tells : Need → Type 0
  Tells n = Goes n (act_by_need program plan a t ts n s).todo

  moved : (n : Need) (x : Asked Deed) → head_deed program t s ≡ x → Goes n (act_by_asked program a t ts x s).todo → Goes n (act_by_asked program a t ts (head_deed program t s) s).todo
  moved n x at h = subst (λ y. Goes n (act_by_asked program a t ts y s).todo) (sym at) h

  -- no block is opened or closed
  same : (todo : List Todo) → open_blocks program plan (t ∷ ts) ≡ open_blocks program plan todo → before ≡ open_blocks program plan todo ++ base
  same todo e = ap (λ bs. bs ++ base) e

  unchanged : before ≡ open_blocks program plan s.todo ++ base
  unchanged = same s.todo (ap (open_blocks program plan) (sym is))

  -- the head goes, which is no loop and does not return
  gone : is_while (kind_of program t.stmt) ≡ false → returns (kind_of program t.stmt) ≡ false → before ≡ open_blocks program plan ts ++ base
  gone isnt stays = same ts (head_plain program plan t ts (while_block plan t.stmt (kind_of program t.stmt) isnt) stays)

  module _ (d : Deed) (left : List ℤ) (at : head_deed program t s ≡ Ok (d, left)) where
    other_deed : ((body : List ℕ) → IsLoopDeed body d → ⊥) → is_while (kind_of program t.stmt) ≡ false
    other_deed none = no_loop program.exprs (kind_of program t.stmt) (top_frame s.frames).cells s.answers d left at none

    -- a deed that only takes the head away
    plain : ((body : List ℕ) → IsLoopDeed body d → ⊥) → returns (kind_of program t.stmt) ≡ false → (act_by_deed program a t ts d (record s { answers = [] })).todo ≡ ts → before ≡ open_blocks program plan (act_by_asked program a t ts (head_deed program t s) s).todo ++ base
    plain none stays todo =
        gone (other_deed none) stays ∙ ap (λ us. open_blocks program plan us ++ base) (sym todo)
        ∙ ap (λ x. open_blocks program plan (act_by_asked program a t ts x s).todo ++ base) (sym at)

  -- ---- loops

  entered_is : t.entered ≡ true → (o : Option ℕ) → loop_of plan t.stmt (kind_of program t.stmt) ≡ o → entered_block program plan t ≡ option_to_list o
  entered_is e o is_loop = ap (λ b. if b then option_to_list (loop_of plan t.stmt (kind_of program t.stmt)) else []) e ∙ ap option_to_list is_loop

  -- a loop that is left was entered
  was_entered : (c : ℕ) → loop_of plan t.stmt (kind_of program t.stmt) ≡ Some c → entry_of program plan t ≡ None → t.entered ≡ true
  was_entered c is_loop no_entry = by t.entered refl
    where
      by : (x : Bool) → t.entered ≡ x → t.entered ≡ true
      by true e = e
      by false e = absurd (none-some c (sym no_entry ∙ ap (λ x. if x then None else loop_of plan t.stmt (kind_of program t.stmt)) e ∙ is_loop))

  not_entered : (c : ℕ) → entry_of program plan t ≡ Some c → (t.entered ≡ false) × (loop_of plan t.stmt (kind_of program t.stmt) ≡ Some c)
  not_entered c entry = by t.entered refl
    where
      by : (x : Bool) → t.entered ≡ x → (t.entered ≡ false) × (loop_of plan t.stmt (kind_of program t.stmt) ≡ Some c)
      by true e = absurd (none-some c (sym (ap (λ x. if x then None else loop_of plan t.stmt (kind_of program t.stmt)) e) ∙ entry))
      by false e = (e, sym (ap (λ x. if x then None else loop_of plan t.stmt (kind_of program t.stmt)) e) ∙ entry)

  entering : (c : ℕ) → entry_of program plan t ≡ Some c → open_blocks program plan (record t { entered = true } ∷ ts) ++ base ≡ c ∷ before
  entering c entry =
      let n = not_entered c entry in
      let stays : returns (kind_of program t.stmt) ≡ false = while_stays (kind_of program t.stmt) (found_while plan t.stmt (kind_of program t.stmt) c n.1) in
      let none : entered_block program plan t ≡ [] = ap (λ b. if b then option_to_list (loop_of plan t.stmt (kind_of program t.stmt)) else []) n.0 in
      ap (λ o. ((option_to_list o ++ returned_block program plan t) ++ open_blocks program plan ts) ++ base) n.1
      ∙ ap (λ xs. ((c ∷ xs) ++ open_blocks program plan ts) ++ base) (no_returned program plan t stays)
      ∙ ap (λ xs. c ∷ ((xs ++ open_blocks program plan ts) ++ base)) (sym (no_returned program plan t stays))
      ∙ ap (λ xs. c ∷ (((xs ++ returned_block program plan t) ++ open_blocks program plan ts) ++ base)) (sym none)

  module _ (no_entry : entry_of program plan t ≡ None) where
    leaving : (o : Option ℕ) (left : List ℤ) → head_deed program t s ≡ Ok (leave, left) → loop_of plan t.stmt (kind_of program t.stmt) ≡ o → returns (kind_of program t.stmt) ≡ false → Tells (need_of_leaving plan t.stmt o)
    leaving None left at is_loop stays = moved need.Plain (Ok (leave, left)) at (same ts (head_plain program plan t ts is_loop stays))
    leaving (Some c) left at is_loop stays =
        moved (need.Leave c (unit_of plan (start.Exit t.stmt))) (Ok (leave, left)) at
        (ap (λ xs. ((xs ++ returned_block program plan t) ++ open_blocks program plan ts) ++ base) (entered_is (was_entered c is_loop no_entry) (Some c) is_loop)
        ∙ ap (λ xs. ((c ∷ xs) ++ open_blocks program plan ts) ++ base) (no_returned program plan t stays))

    -- ---- calls

    invoking : (o : Option ℕ) (u : ℕ) (todo : List Todo) → before ≡ open_blocks program plan ts ++ base → open_blocks program plan todo ++ base ≡ option_to_list o ++ (open_blocks program plan ts ++ base) → Goes (need.Invoke o u) todo
    invoking None u todo popped more = popped ∙ sym more
    invoking (Some b) u todo popped more = more ∙ ap (λ bs. b ∷ bs) (sym popped)

    calling : (x : Bool) (f : ℕ) (values : List ℤ) (into : Option ℕ) (left : List ℤ) → head_deed program t s ≡ Ok (invoke f values into, left) → DeedOf program (body_of program t.stmt) (kind_of program t.stmt) (invoke f values into)
        → Tells (if x then need.Trap trap.Depth else need.Invoke (block_of plan (block.Function f)) (unit_of plan (start.Entry f)))
    calling true f values into left at h = unchanged
    calling false f values into left at h =
        moved (need.Invoke (block_of plan (block.Function f)) (unit_of plan (start.Entry f))) (Ok (invoke f values into, left)) at
        (invoking (block_of plan (block.Function f)) (unit_of plan (start.Entry f)) (todos (body_numbered program f).top ++ ts)
        (gone (other_deed (invoke f values into) left at (λ body z. z)) h.0)
        (ap (λ bs. bs ++ base) (top_opens program plan f (body_numbered program f).top ts h.1.0) ∙ append_assoc (option_to_list (block_of plan (block.Function f))) (open_blocks program plan ts) base))

    backing : (o u : Option ℕ) (todo : List Todo) → before ≡ option_to_list o ++ (open_blocks program plan todo ++ base) → Goes (need.Back o u) todo
    backing None u todo e = e
    backing (Some b) u todo e = e

    returning_back : (value : Option ℤ) (left : List ℤ) → head_deed program t s ≡ Ok (back value, left) → returns (kind_of program t.stmt) ≡ true
        → Tells (need.Back (block_of plan (block.Function (top_frame s.frames).body)) (call_unit plan (top_frame s.frames).call))
    returning_back value left at ret =
        let none : entered_block program plan t ≡ [] = no_entered program plan t (while_block plan t.stmt (kind_of program t.stmt) (return_no_loop (kind_of program t.stmt) ret)) in
        let own : (top_frame s.frames).body ≡ body_of program t.stmt = top_is s (body_of program t.stmt) (returning program ts ++ (program.functions + p) ∷ []) (framed ∙ ap (λ bs. bs ++ (program.functions + p) ∷ []) (head_returns program t ts ret)) in
        let here : returned_block program plan t ≡ option_to_list (block_of plan (block.Function (top_frame s.frames).body)) =
        ap (λ b. if b then option_to_list (block_of plan (block.Function (body_of program t.stmt))) else []) ret ∙ ap (λ n. option_to_list (block_of plan (block.Function n))) (sym own) in
        moved (need.Back (block_of plan (block.Function (top_frame s.frames).body)) (call_unit plan (top_frame s.frames).call)) (Ok (back value, left)) at
        (backing (block_of plan (block.Function (top_frame s.frames).body)) (call_unit plan (top_frame s.frames).call) ts
        (ap (λ xs. ((xs ++ returned_block program plan t) ++ open_blocks program plan ts) ++ base) none
        ∙ ap (λ xs. (xs ++ open_blocks program plan ts) ++ base) here
        ∙ append_assoc (option_to_list (block_of plan (block.Function (top_frame s.frames).body))) (open_blocks program plan ts) base))

    -- ---- the end

    -- nothing is to do after it
    nothing_after : returns (kind_of program t.stmt) ≡ false → Finishes (kind_of program t.stmt) finish → ts ≡ []
    nothing_after stays ends =
        let last : next_stmt_of ts ≡ None = subst (λ b. next_stmt_of ts ≡ follow_if program (behind b t.stmt (calls_of s.frames))) stays course.0.follows ∙ ends_are_last program t.stmt v ends in
        none_left ts last
      where
        none_left : (us : List Todo) → next_stmt_of us ≡ None → us ≡ []
        none_left [] e = refl
        none_left (u ∷ us) e = absurd (none-some u.stmt (sym e))

    finishing_off : (left : List ℤ) → head_deed program t s ≡ Ok (finish, left) → returns (kind_of program t.stmt) ≡ false → Tells (need.End (or_zero (block_of plan (block.Process (top_frame s.frames).body))))
    finishing_off left at stays =
        let fits : Finishes (kind_of program t.stmt) finish = subst (FinishesIf (kind_of program t.stmt)) at (finishing program.exprs (kind_of program t.stmt) (top_frame s.frames).cells s.answers) in
        let none : ts ≡ [] = nothing_after stays fits in
        let own : (top_frame s.frames).body ≡ program.functions + p =
        top_is s (program.functions + p) [] (framed ∙ ap (λ bs. bs ++ (program.functions + p) ∷ []) (head_stays program t ts stays) ∙ ap (λ us. returning program us ++ (program.functions + p) ∷ []) none) in
        gone (other_deed finish left at (λ body z. z)) stays ∙ ap (λ us. open_blocks program plan us ++ base) none
        ∙ ap (λ n. or_zero (block_of plan (block.Process n)) ∷ []) (sym own)

    -- ---- each deed

    sending : (n c : ℕ) (value : ℤ) (left : List ℤ) → head_deed program t s ≡ Ok (send c value, left) → returns (kind_of program t.stmt) ≡ false → Tells (need_of_send plan t.stmt n c value)
    sending zero c value left at stays = refl
    sending (suc n) c value left at stays = plain (send c value) left at (λ body z. z) stays refl

    by_deed : (d : Deed) (left : List ℤ) → head_deed program t s ≡ Ok (d, left) → DeedOf program (body_of program t.stmt) (kind_of program t.stmt) d → Tells (need_of_deed program plan t.stmt s d)
    by_deed (set_local c x) left at h = plain (set_local c x) left at (λ body z. z) h refl
    by_deed (set_shared c x) left at h = plain (set_shared c x) left at (λ body z. z) h refl
    by_deed (clear first len) left at h = plain (clear first len) left at (λ body z. z) h refl
    by_deed (branch stmts) left at h =
        moved need.Plain (Ok (branch stmts, left)) at
        (gone (other_deed (branch stmts) left at (λ body z. z)) h.0 ∙ ap (λ bs. bs ++ base) (sym (inner_plain program plan (body_of program t.stmt) stmts ts h.1)))
    by_deed (turn stmts) left at h =
        moved need.Plain (Ok (turn stmts, left)) at (ap (λ bs. bs ++ base) (sym (inner_plain program plan (body_of program t.stmt) stmts (t ∷ ts) h.1)))
    by_deed leave left at h = leaving_by (block_of plan (block.Loop t.stmt)) refl
      where
        loop : is_while (kind_of program t.stmt) ≡ true
        loop = subst (DoesIf (kind_of program t.stmt)) at (does program.exprs (kind_of program t.stmt) (top_frame s.frames).cells s.answers)

        leaving_by : (o : Option ℕ) → block_of plan (block.Loop t.stmt) ≡ o → Tells (need_of_leaving plan t.stmt o)
        leaving_by o e = leaving o left at (loop_is plan t.stmt (kind_of program t.stmt) loop ∙ e) h
    by_deed (invoke f values into) left at h = calling (nat_lt MOST_CALLS (s.below + length s.frames)) f values into left at h
    by_deed (back value) left at h = returning_back value left at h.0
    by_deed (take x) left at h = plain (take x) left at (λ body z. z) h refl
    by_deed (give x) left at h = plain (give x) left at (λ body z. z) h refl
    by_deed (send c x) left at h = sending (capacity_of program c) c x left at h
    by_deed (receive c into) left at h = plain (receive c into) left at (λ body z. z) h refl
    by_deed (print x) left at h = plain (print x) left at (λ body z. z) h refl
    by_deed pass left at h = plain pass left at (λ body z. z) h refl
    by_deed finish left at h = moved (need.End (or_zero (block_of plan (block.Process (top_frame s.frames).body)))) (Ok (finish, left)) at (finishing_off left at h)

    by_asked : (x : Asked Deed) → head_deed program t s ≡ x → AskedOf program (body_of program t.stmt) (kind_of program t.stmt) x → Tells (need_of_asked program plan t.stmt s x)
    by_asked (Ok q) at h = by_deed q.0 q.1 at h
    by_asked (Err (Wants c)) at h = moved (need.Read c) (Err (Wants c)) at unchanged
    by_asked (Err (Traps x)) at h = unchanged

  by_entry : (o : Option ℕ) → entry_of program plan t ≡ o → Tells (need_by_entry program plan t.stmt s o (head_deed program t s))
  by_entry (Some c) e = entering c e
  by_entry None e = by_asked e (head_deed program t s) refl (head_of program t s v)

  by_offer : (o : Option ℕ) → offer_of program t ≡ o → Tells (need_by_offer plan t.stmt o (need_by_entry program plan t.stmt s (entry_of program plan t) (head_deed program t s)))
  by_offer (Some c) e = let sends = send_is (kind_of program t.stmt) c (of_send t.offered refl) in gone sends.0 sends.1
    where
      of_send : (b : Bool) → t.offered ≡ b → chan_of (kind_of program t.stmt) ≡ Some c
      of_send true o = sym (ap (λ b. if b then chan_of (kind_of program t.stmt) else None) o) ∙ e
      of_send false o = absurd (none-some c (sym (ap (λ b. if b then chan_of (kind_of program t.stmt) else None) o) ∙ e))
  by_offer None e = by_entry (entry_of program plan t) refl

  by_budget : (b : Bool) → Tells (if b then need.Budget else need_of_head program plan t s)
  by_budget true = unchanged
  by_budget false = by_offer (offer_of program t) refl

  pub head_moves : Tells (need_of_running program plan (t ∷ ts) s)
  head_moves = by_budget (nat_lt s.budget (s.spent + cost plan (need_of_head program plan t s)))
