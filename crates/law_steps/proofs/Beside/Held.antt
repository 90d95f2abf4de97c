-- A step inside a nested block leaves the frame in which it began alone, but for the cells that it may write.
use Rattle.std.proofs.Common.{◌≡◌, ℕ, ◌+◌, ◌<◌, ℤ, List, ◌∷◌, ◌++◌, Bool, true, false, Some, None, Option, refl, ap, sym, subst, ◌∙◌, append_assoc, true≢false}
use Rattle.std.specs.Prelude.{slice_set, replicate, pos}
use Rattle.std.proofs.lemmas.Bool.{cond-true}
use Rattle.std.specs.List.{range_with_len}
use Rattle.ppd_ast.specs.declared.program.Kind.{Kind}
use Rattle.ppd_ast.specs.declared.program.Kind.TheVariants.{Call}
use Rattle.ppd_ast.specs.declared.program.Program.{Program}
use Rattle.ppd_ast.specs.Lookups.{kind_of, body_numbered}
use Rattle.ppd_sem.specs.declared.proc.Answer.{Answer}
use Rattle.ppd_sem.specs.declared.proc.Frame.{Frame}
use Rattle.ppd_sem.specs.declared.proc.Todo.{Todo}
use Rattle.ppd_sem.specs.declared.proc.Proc.{Proc}
use Rattle.ppd_sem.specs.Deed.{Deed, set_local, set_shared, clear, invoke, branch, leave, turn, back, take, give, send, receive, print, pass, finish}
use Rattle.ppd_sem.specs.Process.{todos, into_of, new_frame, returned, receive_at, value_of, act_by_deed, on_top, into_at, with_values}
use Rattle.ppd_sem.specs.Described.{ends_body}
use Rattle.law_steps.specs.Beside.Relation.{IsListOf, IsCallOf}
use Rattle.law_steps.proofs.Vocabulary.Relation.{HasEnd, IsLong, IsOwnTodo, past_body, HasEnds, IsReturn, Suits}
use Rattle.law_steps.proofs.Vocabulary.Held.{IsWriting, MayWrite, IsWritingBlock, IsReceiving, Held, own, called, IsIn, StaysIn}
use Rattle.law_steps.proofs.Beside.Deeds.{list_goes_on, call_goes_on, return_ends}
use Rattle.law_steps.proofs.Beside.Todos.{all_todos, end_more, end_past, last_more, last_past, past_on}
use Rattle.law_steps.proofs.Beside.Writes.{kept_clear, kept_set, some_same}

module _ (program : Program) (written inside : ℕ → Type 0) (ends : HasEnds program)
    (block : IsWritingBlock program written inside) (closer : Todo) (base : Frame) (below : List Frame) where
  -- of a write in the block's own frame the cell must be one of these
  write_held : (b : Bool) (c : ℕ) (v : ℤ) (fs : List Frame) (todo : List Todo) → (b ≡ false → written c)
      → Held program written inside closer base below b fs todo
      → Held program written inside closer base below b (on_top (λ cells. slice_set cells c v) fs) todo
  write_held b c v fs todo w (own f todo' kept within) =
      own (record f { cells = slice_set f.cells c v }) todo' (kept_set written base f c v (w refl) kept) within
  write_held b c v fs todo w (called b' f fs' todo' to has h) =
      called b' (record f { cells = slice_set f.cells c v }) fs' todo' to has h

  clear_held : (b : Bool) (first len : ℕ) (fs : List Frame) (todo : List Todo)
      → (b ≡ false → (k : ℕ) → k < len → written (first + k))
      → Held program written inside closer base below b fs todo
      → Held program written inside closer base below b (on_top (with_values (range_with_len first len) (replicate len (pos 0))) fs) todo
  clear_held b first len fs todo w (own f todo' kept within) =
      own (record f { cells = with_values (range_with_len first len) (replicate len (pos 0)) f.cells }) todo'
      (kept_clear written base f first len (w refl) kept) within
  clear_held b first len fs todo w (called b' f fs' todo' to has h) =
      called b' (record f { cells = with_values (range_with_len first len) (replicate len (pos 0)) f.cells }) fs' todo' to has h

  moved_held : (b : Bool) (fs : List Frame) (before after : List Todo)
      → (IsOwnTodo inside closer before → IsOwnTodo inside closer after)
      → (HasEnd program before → HasEnd program after) → past_body program after ≡ past_body program before
      → Held program written inside closer base below b fs before
      → Held program written inside closer base below b fs after
  moved_held b fs before after all end past (own f todo kept within) = own f after kept (all within)
  moved_held b fs before after all end past (called b' f fs' todo to has h) =
      called b' f fs' after to (end has)
      (subst (λ ts. Held program written inside closer base below b' fs' ts) (sym past) h)

  -- the head's own writes, where the block has called nothing
  pub head_written : (b : Bool) (t : Todo) (fs : List Frame) (ts : List Todo)
      → Held program written inside closer base below b fs (t ∷ ts) → b ≡ false
      → IsWriting written (kind_of program t.stmt)
  head_written b t fs ts (own f todo kept within) e = block.writes t.stmt within.0.0
  head_written b t fs ts (called b' f fs' todo to has h) e = absurd (true≢false e)

  pub past_held : (b : Bool) (t : Todo) (fs : List Frame) (ts : List Todo)
      → ends_body (kind_of program t.stmt) ≡ false → (b ≡ false → IsLong (t ∷ ts))
      → Held program written inside closer base below b fs (t ∷ ts)
      → Held program written inside closer base below b fs ts
  past_held b t fs ts e long (own f todo kept within) =
      own f ts kept (within.0.1, last_past closer t ts (long refl) within.1)
  past_held b t fs ts e long (called b' f fs' todo to has h) =
      called b' f fs' ts to (end_past program t ts e has)
      (subst (λ ys. Held program written inside closer base below b' fs' ys) (past_on program t ts e) h)

  branch_held : (b : Bool) (t : Todo) (fs : List Frame) (ts : List Todo) (stmts : List ℕ)
      → IsListOf (kind_of program t.stmt) stmts → (b ≡ false → IsLong (t ∷ ts))
      → Held program written inside closer base below b fs (t ∷ ts)
      → Held program written inside closer base below b fs (todos stmts ++ ts)
  branch_held b t fs ts stmts e long (own f todo kept within) =
      own f (todos stmts ++ ts) kept (
        all_todos inside stmts ts (block.within t.stmt within.0.0 stmts e) within.0.1,
        last_more closer
            (todos stmts) ts (last_past closer t ts (long refl) within.1),
      )
  branch_held b t fs ts stmts e long (called b' f fs' todo to has h) =
      called b' f fs' (todos stmts ++ ts) to
      (end_more program (todos stmts) ts
      (end_past program t ts (list_goes_on (kind_of program t.stmt) stmts e) has))
      (subst (λ ys. Held program written inside closer base below b' fs' ys)
      (sym (ends.nested t.stmt stmts e ts
      ∙ sym (past_on program t ts (list_goes_on (kind_of program t.stmt) stmts e)))) h)

  -- the local that a call receives into, where the head is the call
  into_written : (k : Kind) (f : ℕ) → IsCallOf k f → IsWriting written k → (c : ℕ) → into_of k ≡ Some c → written c
  into_written (Call g arguments into) f e w c i = w c i
  into_written k f e w c i = absurd e

  new_receives : (t : Todo) (f g : ℕ) (values : List ℤ) → IsCallOf (kind_of program t.stmt) g
      → IsWriting written (kind_of program t.stmt)
      → IsReceiving program written (new_frame program f values (Some t.stmt))
  new_receives t f g values e w s c is into =
      into_written (kind_of program t.stmt) g e w c
      (ap (λ n. into_of (kind_of program n)) (some_same t.stmt s is) ∙ into)

  received_held : (b : Bool) (into : Option ℕ) (value : Option ℤ) (fs : List Frame) (todo : List Todo)
      → (b ≡ false → (c : ℕ) → into ≡ Some c → written c) → Held program written inside closer base below b fs todo
      → Held program written inside closer base below b (receive_at into value fs) todo
  received_held b (Some c) (Some v) fs todo w h = write_held b c v fs todo (λ e. w e c refl) h
  received_held b (Some c) None fs todo w h = h
  received_held b None value fs todo w h = h

  back_held : (b : Bool) (call : Option ℕ) (value : Option ℤ) (fs : List Frame) (todo : List Todo)
      → (b ≡ false → (s c : ℕ) → call ≡ Some s → into_of (kind_of program s) ≡ Some c → written c)
      → Held program written inside closer base below b fs todo
      → Held program written inside closer base below b (receive_at (into_at program call) value fs) todo
  back_held b None value fs todo w h = h
  back_held b (Some s) value fs todo w h =
      received_held b (into_of (kind_of program s)) value fs todo (λ e c i. w e s c refl i) h

  in_after : (b : Bool) (fs : List Frame) (before after : List Todo) (outside : List Todo) (s : Proc)
      → before ≡ after ++ outside → Held program written inside closer base below b fs after
      → IsIn program written inside closer base below outside (record s { todo = before; frames = fs })
  in_after b fs before after outside s e h = record { has_called = b; todo = after; todo_is = e; frames = h }

  returned_held : (b : Bool) (t : Todo) (fs : List Frame) (ts : List Todo) (outside : List Todo) (value : Option ℤ)
      (s : Proc) → b ≡ true → IsReturn (kind_of program t.stmt)
      → Held program written inside closer base below b fs (t ∷ ts)
      → IsIn program written inside closer base below outside
      (record s { todo = ts ++ outside; frames = returned program value fs })
  returned_held b t fs ts outside value s e r (own f todo kept within) = absurd (true≢false (sym e))
  returned_held b t fs ts outside value s e r (called b' f fs' todo to has h) =
      in_after b' _ (ts ++ outside) ts outside s refl (back_held b' f.call value fs' ts to
      (subst (λ ys. Held program written inside closer base below b' fs' ys)
      (cond-true (ends_body (kind_of program t.stmt)) ts (past_body program ts)
      (return_ends (kind_of program t.stmt) r)) h))

  -- a step that stays in the block
  pub deed_held : (outside : List Todo) (a : Answer) (b : Bool) (t : Todo) (ts : List Todo) (d : Deed) (s : Proc)
      → Held program written inside closer base below b s.frames (t ∷ ts) → Suits (kind_of program t.stmt) d
      → (b ≡ false → MayWrite written d) → StaysIn b (t ∷ ts) d
      → IsIn program written inside closer base below outside (act_by_deed program a t (ts ++ outside) d s)
  deed_held outside a b t ts (set_local c v) s h e w k =
      in_after b _ (ts ++ outside) ts outside s refl
      (write_held b c v s.frames ts w (past_held b t s.frames ts e k h))
  deed_held outside a b t ts (clear first len) s h e w k =
      in_after b _ (ts ++ outside) ts outside s refl
      (clear_held b first len s.frames ts w (past_held b t s.frames ts e k h))
  deed_held outside a b t ts (branch stmts) s h e w k =
      in_after b s.frames (todos stmts ++ (ts ++ outside)) (todos stmts ++ ts) outside s
      (sym (append_assoc (todos stmts) ts outside))
      (branch_held b t s.frames ts stmts e k h)
  deed_held outside a b t ts (turn stmts) s h e w k =
      in_after b s.frames (todos stmts ++ (t ∷ (ts ++ outside))) (todos stmts ++ t ∷ ts) outside s
      (sym (append_assoc (todos stmts) (t ∷ ts) outside))
      (moved_held b s.frames (t ∷ ts) (todos stmts ++ t ∷ ts)
      (λ x. (
        all_todos inside stmts (t ∷ ts) (block.within t.stmt x.0.0 stmts e) x.0,
        last_more closer
            (todos stmts) (t ∷ ts) x.1,
      )) (end_more program (todos stmts) (t ∷ ts))
      (ends.nested t.stmt stmts e (t ∷ ts)) h)
  deed_held outside a b t ts (invoke f values into) s h e w k =
      in_after true (new_frame program f values (Some t.stmt) ∷ s.frames)
      (todos (body_numbered program f).top ++ (ts ++ outside))
      (todos (body_numbered program f).top ++ ts) outside s
      (sym (append_assoc (todos (body_numbered program f).top) ts outside))
      (called b (new_frame program f values (Some t.stmt)) s.frames _
      (λ unmoved. new_receives t f f values e (head_written b t s.frames ts h unmoved)) (ends.ended t.stmt f e ts)
      (subst (λ ys. Held program written inside closer base below b s.frames ys) (sym (ends.whole t.stmt f e ts))
      (past_held b t s.frames ts (call_goes_on (kind_of program t.stmt) f e) k h)))
  deed_held outside a b t ts (back value) s h e w k = returned_held b t s.frames ts outside value s k e h
  deed_held outside a b t ts (receive chan into) s h e w k =
      in_after b _ (ts ++ outside) ts outside s refl
      (write_held b into (value_of a) s.frames ts w (past_held b t s.frames ts e k h))
  deed_held outside a b t ts finish s h e w k = absurd k
  deed_held outside a b t ts (print v) s h e w k =
      record { has_called = b; todo = ts; todo_is = refl; frames = past_held b t s.frames ts e k h }
  deed_held outside a b t ts (set_shared c v) s h e w k =
      in_after b s.frames (ts ++ outside) ts outside s refl (past_held b t s.frames ts e k h)
  deed_held outside a b t ts leave s h e w k =
      in_after b s.frames (ts ++ outside) ts outside s refl (past_held b t s.frames ts e k h)
  deed_held outside a b t ts (take sem) s h e w k =
      in_after b s.frames (ts ++ outside) ts outside s refl (past_held b t s.frames ts e k h)
  deed_held outside a b t ts (give sem) s h e w k =
      in_after b s.frames (ts ++ outside) ts outside s refl (past_held b t s.frames ts e k h)
  deed_held outside a b t ts (send chan value) s h e w k =
      in_after b s.frames (ts ++ outside) ts outside s refl (past_held b t s.frames ts e k h)
  deed_held outside a b t ts pass s h e w k =
      in_after b s.frames (ts ++ outside) ts outside s refl (past_held b t s.frames ts e k h)
