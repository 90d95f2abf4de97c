-- Which cell a step gives a returned value to, as the search tells it.
use Rattle.std.proofs.Common.{◌≡◌, ℕ, ◌+◌, ℤ, true, false, cond, ◌&&◌, List, ◌∷◌, Option, Some, None, Ok, Err, refl, sym, ap, ◌∙◌, length, true≢false}
use Rattle.std.specs.Prelude.{is_some, nat_eq, option_to_list, slice_get}
use Rattle.ppd_ast.specs.declared.plan.Plan.{Plan}
use Rattle.ppd_ast.specs.declared.program.Expr.{Expr}
use Rattle.ppd_ast.specs.declared.program.Kind.{Kind}
use Rattle.ppd_ast.specs.declared.program.Kind.TheVariants as kind
use Rattle.ppd_ast.specs.declared.program.Program.{Program}
use Rattle.ppd_ast.specs.Term.{term}
use Rattle.ppd_ast.specs.Lookups.{kind_of}
use Rattle.law_steps.proofs.Course.Deeds.{DeedFits, Fits, deed_fits}
use Rattle.ppd_sem.specs.Ask.{ask}
use Rattle.ppd_sem.specs.Asked.{Asked, and_then, gives}
use Rattle.ppd_sem.specs.Deed.{Deed, back, invoke, ask_deed}
use Rattle.ppd_sem.specs.Described.{evaluates, value_at, valued}
use Rattle.ppd_sem.proofs.EventWords.{result_of_head, value_if}
use Rattle.ppd_sem.specs.Passed.{result_at, result_by}
use Rattle.ppd_sem.specs.Process.{head_deed, need_of, top_frame, into_at}
use Rattle.ppd_sem.specs.Runs.{returns}
use Rattle.ppd_sem.specs.declared.proc.Proc.{Proc}
use Rattle.ppd_sem.specs.declared.proc.Todo.{Todo}
use Rattle.ppd_model.specs.FullTrace.{event_of}
use Rattle.ppd_model.specs.LocalTags.{is_into, is_received, is_received_by}
use Rattle.ppd_model.specs.Synchronizations.{is_number}
use Rattle.ppd_model.specs.declared.tracing.Taken.{Taken}
use Rattle.law_flow.proofs.Places.Moves.{IsOther}

-- ---- what a return gives

value_of_return : (es : List Expr) (k : Kind) (cells answers : List ℤ) (value : Option ℤ) (left : List ℤ)
    → returns k ≡ true → ask_deed es k cells answers ≡ Ok (back value, left)
    → value_at es cells answers (valued k) ≡ value
value_of_return es (kind.Return None) cells answers value left ret e = ap (λ x. value_in x) e
  where
    value_in : Asked Deed → Option ℤ
    value_in (Ok (back v, l)) = v
    value_in x = None
value_of_return es (kind.Return (Some i)) cells answers value left ret e = by (ask (term es i) cells answers) e
  where
    value_in : Asked Deed → Option ℤ
    value_in (Ok (back v, l)) = v
    value_in x = None

    by : (r : Asked ℤ) → and_then r (λ v l. gives l (back (Some v))) ≡ Ok (back value, left) → value_if r ≡ value
    by (Ok q) h = ap (λ x. value_in x) h
    by (Err pause) h = absurd (cc)
value_of_return es k cells answers value left ret e = absurd (true≢false (sym ret))

module _ (program : Program) (plan : Plan) (s : Proc) (h : Todo) (hs : List Todo) (is : s.todo ≡ h ∷ hs) where
  at_head : (k c : ℕ) → is_received program s k c s.todo ≡ is_received_by program s.frames k c (head_deed program h s)
  at_head k c = ap (λ todo. is_received program s k c todo) is

  -- another statement gives none
  pub received_other : IsOther (kind_of program h.stmt) → (k c : ℕ) → is_received program s k c s.todo ≡ false
  received_other o k c = at_head k c
      ∙ by (head_deed program h s) (deed_fits program.exprs (top_frame s.frames).cells s.answers (kind_of program h.stmt))
    where
      by_deed : (d : Deed) (left : List ℤ) → DeedFits (kind_of program h.stmt) d
          → is_received_by program s.frames k c (Ok (d, left)) ≡ false
      by_deed (back value) left f = absurd (true≢false (sym f ∙ o.stays))
      by_deed d left f = refl

      by : (x : Asked Deed) → Fits (kind_of program h.stmt) x → is_received_by program s.frames k c x ≡ false
      by (Ok q) f = by_deed q.0 q.1 f
      by (Err pause) f = refl

  pub received_call : (f : ℕ) (values : List ℤ) (into : Option ℕ) (left : List ℤ)
      → head_deed program h s ≡ Ok (invoke f values into, left) → (k c : ℕ) → is_received program s k c s.todo ≡ false
  received_call f values into left at k c = at_head k c ∙ ap (is_received_by program s.frames k c) at

  -- a return gives its value to the cell of the call that began the top frame, in the frame below
  pub received_back : (value : Option ℤ) (left : List ℤ) → head_deed program h s ≡ Ok (back value, left) → (k c : ℕ)
      → is_received program s k c s.todo
      ≡ (nat_eq (k + 2) (length s.frames) && is_into (into_at program (top_frame s.frames).call) value c)
  received_back value left at k c = at_head k c ∙ ap (is_received_by program s.frames k c) at

  -- the event's value is the returned one
  pub value_now : (taken : Taken) (value : Option ℤ) (left : List ℤ) → head_deed program h s ≡ Ok (back value, left)
      → returns (kind_of program h.stmt) ≡ true → evaluates (need_of program plan s) ≡ true
      → (event_of program plan s taken s.todo).value ≡ value
  value_now taken value left at ret ev =
      ap (λ todo. (event_of program plan s taken todo).value) is
      ∙ ap (λ b. cond b (value_at program.exprs (top_frame s.frames).cells s.answers (valued (kind_of program h.stmt)))
      None) ev
      ∙ value_of_return program.exprs (kind_of program h.stmt) (top_frame s.frames).cells s.answers value left ret at

  pub result_is : (value : Option ℤ) (left : List ℤ) → head_deed program h s ≡ Ok (back value, left)
      → result_at program s ≡ option_to_list value
  result_is value left at = ap (λ todo. option_to_list (result_of_head program s (slice_get todo 0))) is
      ∙ ap (λ x. option_to_list (result_by x)) at

-- a value is given to the cell where there are both
pub into_is : (into : Option ℕ) (value : Option ℤ) (c : ℕ) → is_into into value c ≡ (is_some value && is_number into c)
into_is (Some d) (Some v) c = refl
into_is (Some d) None c = refl
into_is None (Some v) c = refl
into_is None None c = refl
