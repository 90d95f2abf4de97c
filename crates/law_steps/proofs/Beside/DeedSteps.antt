-- What a deed leaves keeps the process and its replay beside each other.
use Rattle.std.proofs.Common.{◌≡◌, ℕ, List, ◌∷◌, ◌++◌, Some, refl, sym, append_assoc}
use Rattle.ppd_ast.specs.declared.program.Program.{Program}
use Rattle.ppd_ast.specs.Lookups.{kind_of, body_numbered}
use Rattle.ppd_sem.specs.declared.proc.Answer.{Answer}
use Rattle.ppd_sem.specs.declared.proc.Frame.{Frame}
use Rattle.ppd_sem.specs.declared.proc.Todo.{Todo}
use Rattle.ppd_sem.specs.declared.proc.Proc.{Proc}
use Rattle.ppd_sem.specs.Deed.{Deed, set_local, set_shared, clear, invoke, branch, leave, turn, back, take, give, send, receive, print, pass, finish}
use Rattle.ppd_sem.specs.Process.{todos, new_frame, act_by_deed, value_of}
use Rattle.law_steps.proofs.Vocabulary.Relation.{HasEnds, IsBlock, IsBeside, Suits, Stays}
use Rattle.law_steps.proofs.Beside.Framed.{Framed, writes, clears, past, branches, turns, invokes, returns}

module _ (program : Program) (used inside : ℕ → Type 0) (calls : Type 0) (closer : Todo) (home : ℕ) (depth : ℕ)
    (ends : HasEnds program) (block : IsBlock program used inside calls) (outside : List Todo) where
  -- the process with these frames and this to do, beside its replay
  beside : (fs gs : List Frame) (before after : List Todo) (s r : Proc)
      → IsBeside program used inside calls closer home depth outside s r → before ≡ after ++ outside
      → Framed program used inside calls closer home depth ends block outside fs gs after
      → IsBeside program used inside calls closer home depth outside (record s { todo = before; frames = fs })
      (record r { todo = after; frames = gs })
  beside fs gs before after s r b e h = record {
    todo = e;
    frames = h.stacked;
    whole = b.whole;
    below = b.below;
    count = h.count;
    answers = b.answers;
    status = b.status;
    budget = b.budget;
    spent = b.spent;
  }

  -- what a deed leaves
  pub deed_beside : (a : Answer) (t : Todo) (ts : List Todo) (d : Deed) (s r : Proc)
      → IsBeside program used inside calls closer home depth outside s r
      → (h : Framed program used inside calls closer home depth ends block outside s.frames r.frames (t ∷ ts))
      → Suits (kind_of program t.stmt) d → Stays d h.stacked
      → IsBeside program used inside calls closer home depth outside (act_by_deed program a t (ts ++ outside) d s)
      (act_by_deed program a t ts d r)
  deed_beside a t ts (set_local c v) s r b h e k =
      beside _ _ (ts ++ outside) ts s r b refl
      (writes program used inside calls closer home depth ends block outside c v s.frames r.frames ts
      (past program used inside calls closer home depth ends block outside t s.frames r.frames ts e h k))
  deed_beside a t ts (clear base len) s r b h e k =
      beside _ _ (ts ++ outside) ts s r b refl
      (clears program used inside calls closer home depth ends block outside base len s.frames r.frames ts
      (past program used inside calls closer home depth ends block outside t s.frames r.frames ts e h k))
  deed_beside a t ts (branch stmts) s r b h e k =
      beside _ _ (todos stmts ++ (ts ++ outside)) (todos stmts ++ ts) s r b
      (sym (append_assoc (todos stmts) ts outside))
      (branches program used inside calls closer home depth ends block outside t s.frames r.frames ts stmts e h k)
  deed_beside a t ts (turn stmts) s r b h e k =
      beside _ _ (todos stmts ++ (t ∷ (ts ++ outside))) (todos stmts ++ t ∷ ts) s r b
      (sym (append_assoc (todos stmts) (t ∷ ts) outside))
      (turns program used inside calls closer home depth ends block outside t s.frames r.frames ts stmts e h)
  deed_beside a t ts (invoke f values into) s r b h e k =
      beside _ _ (todos (body_numbered program f).top ++ (ts ++ outside))
      (todos (body_numbered program f).top ++ ts) s r b
      (sym (append_assoc (todos (body_numbered program f).top) ts outside))
      (invokes program used inside calls closer home depth ends block outside t s.frames r.frames ts f
      (new_frame program f values (Some t.stmt)) e h k)
  deed_beside a t ts (back value) s r b h e k =
      beside _ _ (ts ++ outside) ts s r b refl
      (returns program used inside calls closer home depth ends block outside t s.frames r.frames ts value e h.count h.stacked k)
  deed_beside a t ts (receive chan into) s r b h e k =
      beside _ _ (ts ++ outside) ts s r b refl
      (writes program used inside calls closer home depth ends block outside into (value_of a) s.frames r.frames ts
      (past program used inside calls closer home depth ends block outside t s.frames r.frames ts e h k))
  deed_beside a t ts (print v) s r b h e k = record {
    todo = refl;
    frames = (past program used inside calls closer home depth ends block outside t s.frames r.frames ts e h k).stacked;
    whole = b.whole;
    below = b.below;
    count = b.count;
    answers = b.answers;
    status = b.status;
    budget = b.budget;
    spent = b.spent;
  }
  deed_beside a t ts finish s r b h e k = absurd k
  deed_beside a t ts (set_shared c v) s r b h e k =
      beside _ _ (ts ++ outside) ts s r b refl
      (past program used inside calls closer home depth ends block outside t s.frames r.frames ts e h k)
  deed_beside a t ts leave s r b h e k =
      beside _ _ (ts ++ outside) ts s r b refl
      (past program used inside calls closer home depth ends block outside t s.frames r.frames ts e h k)
  deed_beside a t ts (take sem) s r b h e k =
      beside _ _ (ts ++ outside) ts s r b refl
      (past program used inside calls closer home depth ends block outside t s.frames r.frames ts e h k)
  deed_beside a t ts (give sem) s r b h e k =
      beside _ _ (ts ++ outside) ts s r b refl
      (past program used inside calls closer home depth ends block outside t s.frames r.frames ts e h k)
  deed_beside a t ts (send chan value) s r b h e k =
      beside _ _ (ts ++ outside) ts s r b refl
      (past program used inside calls closer home depth ends block outside t s.frames r.frames ts e h k)
  deed_beside a t ts pass s r b h e k =
      beside _ _ (ts ++ outside) ts s r b refl
      (past program used inside calls closer home depth ends block outside t s.frames r.frames ts e h k)
