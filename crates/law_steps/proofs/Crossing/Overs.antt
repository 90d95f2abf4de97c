-- What is to do past the bodies of the upper frames stays, step by step.
use Rattle.std.proofs.Common.{◌≡◌, ℕ, zero, suc, ◌+◌, ◌≤◌, ℤ, List, [], ◌∷◌, ◌++◌, true, Option, Some, None, Ok, Err, refl, ap, sym, subst, ◌∙◌, arith, length}
use Rattle.std.proofs.lemmas.Bool.{cond-true}
use Rattle.std.specs.Prelude.{⊤}
use Rattle.ppd_ast.specs.declared.plan.Plan.{Plan}
use Rattle.ppd_ast.specs.declared.program.Program.{Program}
use Rattle.ppd_ast.specs.Lookups.{kind_of}
use Rattle.ppd_sem.specs.declared.asking.Pause.TheVariants.{Wants, Traps}
use Rattle.ppd_sem.specs.declared.proc.Answer.{Answer}
use Rattle.ppd_sem.specs.declared.proc.Frame.{Frame}
use Rattle.ppd_sem.specs.declared.proc.Need.{Need}
use Rattle.ppd_sem.specs.declared.proc.Need.TheVariants.{Enter, Offer, Done, Trap, Budget, Stopped}
use Rattle.ppd_sem.specs.declared.proc.Proc.{Proc}
use Rattle.ppd_sem.specs.declared.proc.Todo.{Todo}
use Rattle.ppd_sem.specs.Asked.{Asked}
use Rattle.ppd_sem.specs.Deed.{Deed, set_local, set_shared, clear, branch, turn, leave, invoke, back, take, give, send, receive, print, pass, finish}
use Rattle.ppd_sem.specs.Described.{ends_body}
use Rattle.ppd_sem.specs.Process.{act, act_by_asked, act_by_deed, act_by_need, head_deed, into_of, need_of, receive_at, returned, todos, value_of, top_frame, into_at}
use Rattle.ppd_sem.proofs.NeedWords.{act_at}
use Rattle.ppd_sem.proofs.Offers.{CompletesSend, completes}
use Rattle.law_steps.proofs.Vocabulary.Relation.{HasEnds, Suits, Yields, past_body}
use Rattle.law_steps.proofs.Vocabulary.Calls.{IsPastFrames, past_all}
use Rattle.law_steps.proofs.Beside.Deeds.{call_goes_on, list_goes_on, return_ends, suits}
use Rattle.law_steps.proofs.Beside.Sends.{send_goes_on}
use Rattle.law_steps.proofs.Beside.Frames.{clear_length, write_length}
use Rattle.law_steps.proofs.Beside.Todos.{past_on}

-- a return is of a frame above the last that counts
abbrev pub IsAbove : ℕ → Deed → Type 0
IsAbove more (back v) = 1 ≤ more
IsAbove more finish = ⊥
IsAbove more d = ⊤

module _ (program : Program) (plan : Plan) (ends : HasEnds program) (k : ℕ) (rest : List Todo) where
  receive_len : (o : Option ℕ) (v : Option ℤ) (fs : List Frame) → length (receive_at o v fs) ≡ length fs
  receive_len (Some c) (Some v) fs = write_length c v fs
  receive_len (Some c) None fs = refl
  receive_len None v fs = refl

  from_len : (o : Option ℕ) (v : Option ℤ) (fs : List Frame) → length (receive_at (into_at program o) v fs) ≡ length fs
  from_len None v fs = refl
  from_len (Some c) v fs = receive_len (into_of (kind_of program c)) v fs

  returned_len : (v : Option ℤ) (fs : List Frame) → 1 ≤ length fs → length (returned program v fs) + 1 ≡ length fs
  returned_len v [] h = absurd (omega (arith, h))
  returned_len v (f ∷ fs) h = omega (arith, from_len f.call v fs)

  over : (y : Proc) (n : ℕ) (todo before : List Todo) → length y.frames ≡ suc n + k → y.todo ≡ todo
      → past_body program todo ≡ past_body program before → past_all program n (past_body program before) ≡ rest
      → IsPastFrames program k rest y
  over y n todo before len is same past =
      record {
        more = n;
        frames = len;
        past = ap (λ ys. past_all program n (past_body program ys)) is
            ∙ ap (past_all program n) same ∙ past;
      }

  fewer : (n : ℕ) (y s : Proc) (t : Todo) (ts : List Todo) (v : Option ℤ) → 1 ≤ n → length s.frames ≡ suc n + k
      → past_all program n (past_body program (t ∷ ts)) ≡ rest → ends_body (kind_of program t.stmt) ≡ true
      → y.frames ≡ returned program v s.frames → y.todo ≡ ts → IsPastFrames program k rest y
  fewer zero y s t ts v h len past e ef et = absurd (omega (arith, h))
  fewer (suc n) y s t ts v h len past e ef et = record {
    more = n;
    frames = omega (arith, ap length ef, returned_len v s.frames (omega (arith, len)), len);
    past = ap (λ ys. past_all program n (past_body program ys))
        (et ∙ sym (cond-true (ends_body (kind_of program t.stmt)) ts (past_body program ts) e)) ∙ past;
  }

  deed_over : (a : Answer) (t : Todo) (ts : List Todo) (d : Deed) (s : Proc) (n : ℕ) → length s.frames ≡ suc n + k
      → past_all program n (past_body program (t ∷ ts)) ≡ rest → Suits (kind_of program t.stmt) d → IsAbove n d
      → IsPastFrames program k rest (act_by_deed program a t ts d s)
  deed_over a t ts (set_local c v) s n len past e h =
      over (act_by_deed program a t ts (set_local c v) s) n ts (t ∷ ts) (write_length c v s.frames ∙ len) refl
      (sym (past_on program t ts e)) past
  deed_over a t ts (clear c m) s n len past e h =
      over (act_by_deed program a t ts (clear c m) s) n ts (t ∷ ts) (clear_length c m s.frames ∙ len) refl
      (sym (past_on program t ts e)) past
  deed_over a t ts (receive o i) s n len past e h =
      over (act_by_deed program a t ts (receive o i) s) n ts (t ∷ ts)
      (write_length i (value_of a) s.frames ∙ len) refl (sym (past_on program t ts e)) past
  deed_over a t ts (branch stmts) s n len past e h =
      over (act_by_deed program a t ts (branch stmts) s) n (todos stmts ++ ts) (t ∷ ts) len refl
      (ends.nested t.stmt stmts e ts
      ∙ sym (past_on program t ts (list_goes_on (kind_of program t.stmt) stmts e))) past
  deed_over a t ts (turn stmts) s n len past e h =
      over (act_by_deed program a t ts (turn stmts) s) n (todos stmts ++ t ∷ ts) (t ∷ ts) len refl
      (ends.nested t.stmt stmts e (t ∷ ts)) past
  deed_over a t ts (invoke f vs into) s n len past e h = record {
    more = suc n;
    frames = omega (arith, len);
    past = ap (λ ys. past_all program n (past_body program ys)) (ends.whole t.stmt f e ts)
        ∙ ap (past_all program n) (sym (past_on program t ts (call_goes_on (kind_of program t.stmt) f e))) ∙ past;
  }
  deed_over a t ts (back v) s n len past e h =
      fewer n (act_by_deed program a t ts (back v) s) s t ts v h len past
      (return_ends (kind_of program t.stmt) e) refl refl
  deed_over a t ts finish s n len past e h = absurd h
  deed_over a t ts (print v) s n len past e h =
      over (act_by_deed program a t ts (print v) s) n ts (t ∷ ts) len refl (sym (past_on program t ts e)) past
  deed_over a t ts (set_shared c v) s n len past e h =
      over (act_by_deed program a t ts (set_shared c v) s) n ts (t ∷ ts) len refl (sym (past_on program t ts e)) past
  deed_over a t ts leave s n len past e h =
      over (act_by_deed program a t ts leave s) n ts (t ∷ ts) len refl (sym (past_on program t ts e)) past
  deed_over a t ts (take o) s n len past e h =
      over (act_by_deed program a t ts (take o) s) n ts (t ∷ ts) len refl (sym (past_on program t ts e)) past
  deed_over a t ts (give o) s n len past e h =
      over (act_by_deed program a t ts (give o) s) n ts (t ∷ ts) len refl (sym (past_on program t ts e)) past
  deed_over a t ts (send o v) s n len past e h =
      over (act_by_deed program a t ts (send o v) s) n ts (t ∷ ts) len refl (sym (past_on program t ts e)) past
  deed_over a t ts pass s n len past e h =
      over (act_by_deed program a t ts pass s) n ts (t ∷ ts) len refl (sym (past_on program t ts e)) past

  asked_over : (a : Answer) (t : Todo) (ts : List Todo) (q : Asked Deed) (s : Proc) → s.todo ≡ t ∷ ts
      → (o : IsPastFrames program k rest s) → Yields (Suits (kind_of program t.stmt)) q → Yields (IsAbove o.more) q
      → IsPastFrames program k rest (act_by_asked program a t ts q s)
  asked_over a t ts (Ok p) s is o e h =
      deed_over a t ts p.0 (record s { answers = [] }) o.more o.frames
      (ap (λ ys. past_all program o.more (past_body program ys)) (sym is) ∙ o.past) e h
  asked_over a t ts (Err (Wants c)) s is o e h = record { more = o.more; frames = o.frames; past = o.past }
  asked_over a t ts (Err (Traps y)) s is o e h = record { more = o.more; frames = o.frames; past = o.past }

  need_over : (a : Answer) (t : Todo) (ts : List Todo) (n : Need) (s : Proc) → s.todo ≡ t ∷ ts
      → (o : IsPastFrames program k rest s) → Yields (IsAbove o.more) (head_deed program t s)
      → CompletesSend program t.stmt n → IsPastFrames program k rest (act_by_need program plan a t ts n s)
  need_over a t ts Stopped s is o h of = o
  need_over a t ts Budget s is o h of = record { more = o.more; frames = o.frames; past = o.past }
  need_over a t ts (Trap y) s is o h of = record { more = o.more; frames = o.frames; past = o.past }
  need_over a t ts (Enter b u) s is o h of =
      record {
        more = o.more;
        frames = o.frames;
        past = ap (λ ys. past_all program o.more (past_body program ys))
            (sym is) ∙ o.past;
      }
  need_over a t ts (Offer c v) s is o h of =
      record {
        more = o.more;
        frames = o.frames;
        past = ap (λ ys. past_all program o.more (past_body program ys))
            (sym is) ∙ o.past;
      }
  need_over a t ts (Done c u) s is o h of =
      over (act_by_need program plan a t ts (Done c u) s) o.more ts (t ∷ ts) o.frames refl
      (sym (past_on program t ts (send_goes_on (kind_of program t.stmt) c of)))
      (ap (λ ys. past_all program o.more (past_body program ys)) (sym is) ∙ o.past)
  need_over a t ts n s is o h of =
      let z : IsPastFrames program k rest (act_by_asked program a t ts (head_deed program t s) s) =
      asked_over a t ts (head_deed program t s) s is o
      (suits program.exprs (kind_of program t.stmt) (top_frame s.frames).cells s.answers) h in
      record { more = z.more; frames = z.frames; past = z.past }

  pub act_over : (a : Answer) (t : Todo) (ts : List Todo) (s : Proc) → s.todo ≡ t ∷ ts
      → (o : IsPastFrames program k rest s) → Yields (IsAbove o.more) (head_deed program t s)
      → IsPastFrames program k rest (act program plan s a)
  act_over a t ts s is o h =
      subst (λ (y : Proc). IsPastFrames program k rest y) (sym (ap (λ todo. act_at program plan a todo s) is))
      (need_over a t ts (need_of program plan s) s is o h (completes program plan s t ts is))
