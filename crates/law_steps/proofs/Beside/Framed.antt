-- Two stacks of frames beside each other, with the count of calls not returned, as deeds change them.
use Rattle.std.proofs.Common.{◌≡◌, ℕ, ◌+◌, ℤ, List, ◌∷◌, ◌++◌, false, Some, None, Option, sym, subst, ◌∙◌, arith, length}
use Rattle.std.specs.Prelude.{slice_set, replicate, pos}
use Rattle.std.proofs.lemmas.Bool.{cond-true}
use Rattle.std.specs.List.{range_with_len}
use Rattle.ppd_ast.specs.declared.program.Program.{Program}
use Rattle.ppd_ast.specs.Lookups.{kind_of, body_numbered}
use Rattle.ppd_sem.specs.declared.proc.Frame.{Frame}
use Rattle.ppd_sem.specs.declared.proc.Todo.{Todo}
use Rattle.ppd_sem.specs.declared.proc.Proc.{Proc}
use Rattle.ppd_sem.specs.Process.{todos, into_of, returned, receive_at, on_top, into_at, with_values}
use Rattle.ppd_sem.specs.Described.{ends_body}
use Rattle.law_steps.specs.Beside.Relation.{IsCallOf, IsListOf}
use Rattle.law_steps.proofs.Vocabulary.Relation.{Rests, Stacked, at_base, called, past_body, HasEnds, IsBlock, IsBeside, IsReturn, IsCalled}
use Rattle.law_steps.proofs.Beside.Deeds.{list_goes_on, call_goes_on, return_ends}
use Rattle.law_steps.proofs.Beside.Frames.{clear_length, clear_stacked, moved_stacked, past_stacked, write_length, write_stacked}
use Rattle.law_steps.proofs.Beside.Todos.{all_todos, end_more, end_past, last_more, last_past, past_on}

module _ (program : Program) (used inside : ℕ → Type 0) (calls : Type 0) (closer : Todo) (home : ℕ) (depth : ℕ)
    (ends : HasEnds program) (block : IsBlock program used inside calls) (outside : List Todo) where
  -- the frames, with the count of calls not returned
  pub record Framed (fs gs : List Frame) (todo : List Todo) : Type 0 where
    pub stacked : Stacked program used inside calls closer home fs gs todo
    pub count : calls → length fs ≡ depth + length gs

  pub writes : (c : ℕ) (v : ℤ) (fs gs : List Frame) (todo : List Todo) → Framed fs gs todo
      → Framed (on_top (λ cells. slice_set cells c v) fs) (on_top (λ cells. slice_set cells c v) gs) todo
  writes c v fs gs todo h = record {
    stacked = write_stacked program used inside calls closer home c v fs gs todo h.stacked;
    count = λ k. omega (arith, write_length c v fs, h.count k, write_length c v gs);
  }

  pub clears : (base len : ℕ) (fs gs : List Frame) (todo : List Todo) → Framed fs gs todo
      → Framed (on_top (with_values (range_with_len base len) (replicate len (pos 0))) fs) (on_top (with_values (range_with_len base len) (replicate len (pos 0))) gs) todo
  clears base len fs gs todo h = record {
    stacked = clear_stacked program used inside calls closer home base len fs gs todo h.stacked;
    count = λ k. omega (arith, clear_length base len fs, h.count k, clear_length base len gs);
  }

  -- past a head that does not end its body
  pub past : (t : Todo) (fs gs : List Frame) (ts : List Todo) → ends_body (kind_of program t.stmt) ≡ false
      → (h : Framed fs gs (t ∷ ts)) → Rests h.stacked → Framed fs gs ts
  past t fs gs ts e h long = record {
    stacked = past_stacked program used inside calls closer home t fs gs ts e
        (sym (past_on program t ts e)) h.stacked long;
    count = h.count;
  }

  branch_stacked : (t : Todo) (fs gs : List Frame) (ts : List Todo) (stmts : List ℕ)
      → IsListOf (kind_of program t.stmt) stmts
      → (x : Stacked program used inside calls closer home fs gs (t ∷ ts)) → Rests x
      → Stacked program used inside calls closer home fs gs (todos stmts ++ ts)
  branch_stacked t fs gs ts stmts e (at_base f g fs' gs' todo same body first within) long =
      at_base f g fs' gs' (todos stmts ++ ts) same body first (
        all_todos inside stmts ts (block.within t.stmt within.0.0 stmts e) within.0.1,
        last_more closer
            (todos stmts) ts (last_past closer t ts long within.1),
      )
  branch_stacked t fs gs ts stmts e (called f fs' gs' todo k has below) long =
      called f fs' gs' (todos stmts ++ ts) k
      (end_more program (todos stmts) ts
      (end_past program t ts (list_goes_on (kind_of program t.stmt) stmts e) has))
      (subst (λ ys. Stacked program used inside calls closer home fs' gs' ys)
      (sym (ends.nested t.stmt stmts e ts
      ∙ sym (past_on program t ts (list_goes_on (kind_of program t.stmt) stmts e)))) below)

  pub branches : (t : Todo) (fs gs : List Frame) (ts : List Todo) (stmts : List ℕ)
      → IsListOf (kind_of program t.stmt) stmts → (h : Framed fs gs (t ∷ ts)) → Rests h.stacked
      → Framed fs gs (todos stmts ++ ts)
  branches t fs gs ts stmts e h long = record {
    stacked = branch_stacked t fs gs ts stmts e h.stacked long;
    count = h.count;
  }

  pub turns : (t : Todo) (fs gs : List Frame) (ts : List Todo) (stmts : List ℕ)
      → IsListOf (kind_of program t.stmt) stmts → Framed fs gs (t ∷ ts) → Framed fs gs (todos stmts ++ t ∷ ts)
  turns t fs gs ts stmts e h = record {
    stacked = moved_stacked program used inside calls closer home fs gs (t ∷ ts) (todos stmts ++ t ∷ ts)
        (λ a. (
          all_todos inside stmts (t ∷ ts) (block.within t.stmt a.0.0 stmts e) a.0,
          last_more closer
              (todos stmts) (t ∷ ts) a.1,
        )) (end_more program (todos stmts) (t ∷ ts))
        (ends.nested t.stmt stmts e (t ∷ ts)) h.stacked;
    count = h.count;
  }

  pub calling : (t : Todo) (fs gs : List Frame) (ts : List Todo) (f : ℕ) → IsCallOf (kind_of program t.stmt) f
      → Stacked program used inside calls closer home fs gs (t ∷ ts) → calls
  calling t fs gs ts f e (at_base f' g fs' gs' todo same body first within) = block.calling t.stmt f within.0.0 e
  calling t fs gs ts f e (called f' fs' gs' todo k has below) = k

  pub invokes : (t : Todo) (fs gs : List Frame) (ts : List Todo) (f : ℕ) (x : Frame)
      → IsCallOf (kind_of program t.stmt) f → (h : Framed fs gs (t ∷ ts)) → Rests h.stacked
      → Framed (x ∷ fs) (x ∷ gs) (todos (body_numbered program f).top ++ ts)
  invokes t fs gs ts f x e h long = record {
    stacked = called x fs gs (todos (body_numbered program f).top ++ ts) (calling t fs gs ts f e h.stacked)
        (ends.ended t.stmt f e ts)
        (subst (λ ys. Stacked program used inside calls closer home fs gs ys) (sym (ends.whole t.stmt f e ts))
        (past t fs gs ts (call_goes_on (kind_of program t.stmt) f e) h long).stacked);
    count = λ k. omega (arith, h.count k);
  }

  pub receives : (into : Option ℕ) (value : Option ℤ) (fs gs : List Frame) (todo : List Todo) → Framed fs gs todo
      → Framed (receive_at into value fs) (receive_at into value gs) todo
  receives (Some c) (Some v) fs gs todo h = writes c v fs gs todo h
  receives (Some c) None fs gs todo h = h
  receives None value fs gs todo h = h

  returns_to : (call : Option ℕ) (value : Option ℤ) (fs gs : List Frame) (todo : List Todo) → Framed fs gs todo
      → Framed (receive_at (into_at program call) value fs) (receive_at (into_at program call) value gs) todo
  returns_to None value fs gs todo h = h
  returns_to (Some c) value fs gs todo h = receives (into_of (kind_of program c)) value fs gs todo h

  pub returns : (t : Todo) (fs gs : List Frame) (ts : List Todo) (value : Option ℤ)
      → IsReturn (kind_of program t.stmt) → (calls → length fs ≡ depth + length gs)
      → (x : Stacked program used inside calls closer home fs gs (t ∷ ts)) → IsCalled x
      → Framed (returned program value fs) (returned program value gs) ts
  returns t fs gs ts value e d (at_base f g fs' gs' todo same body first within) k = absurd k
  returns t fs gs ts value e d (called f fs' gs' todo c has below) k =
      returns_to f.call value fs' gs' ts (record {
        stacked = subst (λ ys. Stacked program used inside calls closer home fs' gs' ys)
            (cond-true (ends_body (kind_of program t.stmt)) ts (past_body program ts)
            (return_ends (kind_of program t.stmt) e)) below;
        count = λ c. omega (arith, d c);
      })

  pub framed : (s r : Proc) (t : Todo) (ts : List Todo) → r.todo ≡ t ∷ ts
      → IsBeside program used inside calls closer home depth outside s r → Framed s.frames r.frames (t ∷ ts)
  framed s r t ts e b =
      record { stacked = subst (λ ys. Stacked program used inside calls closer home s.frames r.frames ys) e b.frames; count = b.count }
