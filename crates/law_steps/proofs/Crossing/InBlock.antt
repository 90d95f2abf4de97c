-- Which steps inside a nested block do not close it.
use Rattle.std.proofs.Common.{◌≡◌, ℕ, ℤ, List, [], ◌∷◌, Bool, true, false, Option, Some, None, Ok, Err, refl, ap, sym, subst, ◌∙◌, true≢false}
use Rattle.std.specs.Prelude.{is_some}
use Rattle.ppd_ast.specs.declared.plan.BlockKind.TheVariants as block
use Rattle.ppd_ast.specs.declared.plan.Plan.{Plan}
use Rattle.ppd_ast.specs.declared.program.Kind.TheVariants as kind
use Rattle.ppd_ast.specs.declared.program.Program.{Program}
use Rattle.ppd_ast.specs.Lookups.{kind_of}
use Rattle.ppd_sem.specs.declared.asking.Pause.TheVariants.{Wants, Traps}
use Rattle.ppd_sem.specs.declared.proc.Frame.{Frame}
use Rattle.ppd_sem.specs.declared.proc.Proc.{Proc}
use Rattle.ppd_sem.specs.declared.proc.Todo.{Todo}
use Rattle.ppd_sem.specs.Asked.{Asked}
use Rattle.ppd_sem.specs.Deed.{Deed, set_local, set_shared, clear, branch, turn, leave, invoke, back, take, give, send, receive, print, pass, finish}
use Rattle.ppd_sem.specs.Described.{ends_body}
use Rattle.ppd_sem.specs.Process.{entry_of, head_deed, need_of_asked, need_of_leaving, offer_of, top_frame}
use Rattle.ppd_sem.specs.Tables.{block_of}
use Rattle.ppd_model.specs.Logs.{status_of}
use Rattle.ppd_model.specs.Marks.{closed}
use Rattle.law_steps.proofs.Vocabulary.Relation.{IsLong, IsReturn, Suits, Yields}
use Rattle.law_steps.proofs.Vocabulary.Held.{Held, StaysIn, own, called}
use Rattle.law_steps.specs.Beside.Opens.{IsWhile}
use Rattle.law_steps.proofs.Beside.Deeds.{call_goes_on, list_goes_on, suits}
use Rattle.law_steps.proofs.Beside.OfLoop.{IsOfLoop, of_loop, only_loop}
use Rattle.law_steps.proofs.Beside.Sends.{offered_goes_on, offered_no_loop}
use Rattle.law_steps.proofs.Beside.Entries.{entry_loops}

module _ (program : Program) (plan : Plan) (written inside : ℕ → Type 0) (closer : Todo) (base : Frame)
    (below : List Frame)
    -- the block's own last statement is an entered loop that is a block, or ends a body
    (loop : closer.entered ≡ true → IsWhile (kind_of program closer.stmt)
    × (is_some (block_of plan (block.Loop closer.stmt)) ≡ true))
    (body : closer.entered ≡ false → ends_body (kind_of program closer.stmt) ≡ true) where
  module _ (x : Proc) (b : Bool) (t : Todo) (ts : List Todo)
      (held : Held program written inside closer base below b x.frames (t ∷ ts)) where
    longs : (c : Bool) (fs : List Frame) (ys : List Todo) → c ≡ false
        → Held program written inside closer base below c fs (t ∷ ys) → (t ≡ closer → ys ≡ [] → ⊥) → IsLong (t ∷ ys)
    longs c fs [] e (own f todo kept within) h = h within.1 refl
    longs c fs (y ∷ ys) e (own f todo kept within) h = tt
    longs c fs ys e (called b' f fs' todo to has k) h = absurd (true≢false e)

    -- the last statement, where it is a loop's
    at_loop : t ≡ closer → ends_body (kind_of program t.stmt) ≡ false → (closer.entered ≡ true → ⊥) → ⊥
    at_loop e go h = by closer.entered refl
      where
        by : (z : Bool) → closer.entered ≡ z → ⊥
        by true is = h is
        by false is = true≢false (sym (ap (λ (y : Todo). ends_body (kind_of program y.stmt)) e ∙ body is) ∙ go)

    pub entry_long : (c : ℕ) → entry_of program plan t ≡ Some c → ends_body (kind_of program t.stmt) ≡ false
        → b ≡ false → IsLong (t ∷ ts)
    entry_long c e go none = longs b x.frames ts none held
        (λ is empty. at_loop is go
        (λ en. true≢false (sym (ap (λ (y : Todo). y.entered) is ∙ en) ∙ (entry_loops program plan t c e).0)))

    -- a send whose offer was taken is not the last
    pub offer_long : (c : ℕ) → offer_of program t ≡ Some c → b ≡ false → IsLong (t ∷ ts)
    offer_long c e none =
        longs b x.frames ts none held
        (λ is empty. at_loop is (offered_goes_on program t c e)
        (λ en. offered_no_loop program t c e
        (subst (λ (y : Todo). IsWhile (kind_of program y.stmt)) (sym is) (loop en).0)))

    module _ (no_return : b ≡ false → (v : Option ℤ) (left : List ℤ) → head_deed program t x ≡ Ok (back v, left)
        → IsReturn (kind_of program t.stmt) → ⊥)
        (goes : status_of (need_of_asked program plan t.stmt x (head_deed program t x)) ≡ None)
        (unclosed : ts ≡ [] → closed program plan x
        (need_of_asked program plan t.stmt x (head_deed program t x)) ≡ None) where
      plain : (d : Deed) → ends_body (kind_of program t.stmt) ≡ false → IsOfLoop (kind_of program t.stmt) d
          → (IsOfLoop (kind.While 0 []) d → ⊥) → b ≡ false → IsLong (t ∷ ts)
      plain d go of other none =
          longs b x.frames ts none held
          (λ is empty. at_loop is go
          (λ en. other (only_loop (kind_of program t.stmt) d
          (subst (λ (y : Todo). IsWhile (kind_of program y.stmt)) (sym is) (loop en).0) of)))

      leaving : (o : Option ℕ) → is_some o ≡ true → closed program plan x (need_of_leaving plan t.stmt o) ≡ None → ⊥
      leaving None h e = true≢false (sym h)
      leaving (Some c) h e = true≢false (ap is_some e)

      leaves : (left : List ℤ) → head_deed program t x ≡ Ok (leave, left)
          → ends_body (kind_of program t.stmt) ≡ false → b ≡ false → IsLong (t ∷ ts)
      leaves left e go none =
          longs b x.frames ts none held
          (λ is empty. at_loop is go
          (λ en. leaving (block_of plan (block.Loop t.stmt))
          (ap (λ (y : Todo). is_some (block_of plan (block.Loop y.stmt))) is ∙ (loop en).1)
          (ap (λ q. closed program plan x (need_of_asked program plan t.stmt x q)) (sym e) ∙ unclosed empty)))

      returning : (c : Bool) (v : Option ℤ) (left : List ℤ) → head_deed program t x ≡ Ok (back v, left) → b ≡ c
          → IsReturn (kind_of program t.stmt) → b ≡ true
      returning true v left q e r = e
      returning false v left q e r = absurd (no_return e v left q r)

      deeds : (d : Deed) (left : List ℤ) → head_deed program t x ≡ Ok (d, left) → Suits (kind_of program t.stmt) d
          → IsOfLoop (kind_of program t.stmt) d → StaysIn b (t ∷ ts) d
      deeds (turn stmts) left e su of = tt
      deeds finish left e su of =
          true≢false (ap is_some (ap (λ q. status_of (need_of_asked program plan t.stmt x q)) (sym e) ∙ goes))
      deeds (back v) left e su of = returning b v left e refl su
      deeds leave left e su of = leaves left e su
      deeds (branch stmts) left e su of =
          plain (branch stmts) (list_goes_on (kind_of program t.stmt) stmts su) of (λ z. z)
      deeds (invoke f vs into) left e su of =
          plain (invoke f vs into) (call_goes_on (kind_of program t.stmt) f su) of (λ z. z)
      deeds (set_local a v) left e su of = plain (set_local a v) su of (λ z. z)
      deeds (set_shared a v) left e su of = plain (set_shared a v) su of (λ z. z)
      deeds (clear a n) left e su of = plain (clear a n) su of (λ z. z)
      deeds (take a) left e su of = plain (take a) su of (λ z. z)
      deeds (give a) left e su of = plain (give a) su of (λ z. z)
      deeds (send a v) left e su of = plain (send a v) su of (λ z. z)
      deeds (receive a i) left e su of = plain (receive a i) su of (λ z. z)
      deeds (print v) left e su of = plain (print v) su of (λ z. z)
      deeds pass left e su of = plain pass su of (λ z. z)

      askeds : (q : Asked Deed) → head_deed program t x ≡ q → Yields (StaysIn b (t ∷ ts)) q
      askeds (Ok p) e = deeds p.0 p.1 e
          (subst (Yields (Suits (kind_of program t.stmt))) e
          (suits program.exprs (kind_of program t.stmt) (top_frame x.frames).cells x.answers))
          (subst (Yields (IsOfLoop (kind_of program t.stmt))) e
          (of_loop program.exprs (kind_of program t.stmt) (top_frame x.frames).cells x.answers))
      askeds (Err (Wants a)) e = tt
      askeds (Err (Traps a)) e = tt

      pub in_block : Yields (StaysIn b (t ∷ ts)) (head_deed program t x)
      in_block = askeds (head_deed program t x) refl
