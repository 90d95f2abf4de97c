-- A step that closes no interval keeps something to do in the interval's own frame.
use Rattle.std.proofs.Common.{◌≡◌, ℕ, ℤ, List, [], ◌∷◌, Bool, true, false, Option, Some, None, Ok, Err, refl, ap, sym, subst, ◌∙◌, true≢false}
use Rattle.std.specs.Prelude.{is_some}
use Rattle.ppd_ast.specs.declared.plan.BlockKind.TheVariants as block
use Rattle.ppd_ast.specs.declared.plan.Plan.{Plan}
use Rattle.ppd_ast.specs.declared.program.Kind.TheVariants as kind
use Rattle.ppd_ast.specs.declared.program.Program.{Program}
use Rattle.ppd_ast.specs.Lookups.{kind_of}
use Rattle.ppd_sem.specs.declared.asking.Pause.TheVariants.{Wants, Traps}
use Rattle.ppd_sem.specs.declared.proc.Frame.{Frame}
use Rattle.ppd_sem.specs.declared.proc.Need.TheVariants.{Back}
use Rattle.ppd_sem.specs.declared.proc.Proc.{Proc}
use Rattle.ppd_sem.specs.declared.proc.Todo.{Todo}
use Rattle.ppd_sem.specs.Asked.{Asked}
use Rattle.ppd_sem.specs.Deed.{Deed, set_local, set_shared, clear, branch, turn, leave, invoke, back, take, give, send, receive, print, pass, finish}
use Rattle.ppd_sem.specs.Described.{ends_body}
use Rattle.ppd_sem.specs.Process.{call_unit, entry_of, head_deed, need_of, offer_of, need_of_leaving, top_frame}
use Rattle.ppd_sem.proofs.NeedWords.{need_by_entry, need_by_offer}
use Rattle.ppd_sem.specs.Tables.{block_of}
use Rattle.ppd_model.specs.Marks.{closed}
use Rattle.ppd_model.specs.Replay.{is_budget}
use Rattle.law_steps.proofs.Vocabulary.Relation.{IsReturn, Rests, Stacked, Stays, StaysAt, Suits, Yields, at_base, called}
use Rattle.law_steps.specs.Beside.Opens.{IsWhile}
use Rattle.law_steps.proofs.Beside.Deeds.{call_goes_on, list_goes_on, suits}
use Rattle.law_steps.proofs.Beside.OfLoop.{IsOfLoop, of_loop, only_loop}
use Rattle.law_steps.proofs.Beside.Sends.{offered_goes_on, offered_no_loop}
use Rattle.law_steps.proofs.Beside.Turned.{head_is}
use Rattle.law_steps.proofs.Beside.LoopKinds.{end_no_loop, return_no_loop}
use Rattle.law_steps.proofs.Beside.Entries.{entry_loops}

module _ (program : Program) (plan : Plan) (used inside : ℕ → Type 0) (calls : Type 0) (closer : Todo) (home : ℕ) where
  -- the interval's own closing statement is a block loop that is entered, or ends a body; where a return is among its
  -- statements, its body is a block
  pub record IsClosed : Type 0 where
    pub loop : closer.entered ≡ true → IsWhile (kind_of program closer.stmt)
        × (is_some (block_of plan (block.Loop closer.stmt)) ≡ true)
    pub body : closer.entered ≡ false → ends_body (kind_of program closer.stmt) ≡ true
    pub returns : (s : ℕ) → inside s → IsReturn (kind_of program s)
        → is_some (block_of plan (block.Function home)) ≡ true

  module _ (c : IsClosed) (s : Proc) (t : Todo) where
    -- a head that is the last one and neither leaves its loop nor ends its body stays
    rests : (fs gs : List Frame) (ts : List Todo) (d : Deed) → ends_body (kind_of program t.stmt) ≡ false
        → IsOfLoop (kind_of program t.stmt) d → (t.entered ≡ true → IsOfLoop (kind.While 0 []) d → ⊥)
        → (x : Stacked program used inside calls closer home fs gs (t ∷ ts)) → Rests x
    rests fs gs [] d go of stuck (at_base f g fs' gs' todo same body first within) = by closer.entered refl
      where
        by : (e : Bool) → closer.entered ≡ e → ⊥
        by true is = stuck (ap (λ (z : Todo). z.entered) within.1 ∙ is)
            (only_loop (kind_of program t.stmt) d
            (subst (λ (z : Todo). IsWhile (kind_of program z.stmt)) (sym within.1) (c.loop is).0) of)
        by false is = true≢false (sym (ap (λ (z : Todo). ends_body (kind_of program z.stmt)) within.1 ∙ c.body is) ∙ go)
    rests fs gs (u ∷ us) d go of stuck (at_base f g fs' gs' todo same body first within) = tt
    rests fs gs ts d go of stuck (called f fs' gs' todo k has below) = tt

    closes_some : (o u : Option ℕ) → is_some o ≡ true → closed program plan s (Back o u) ≡ None → ⊥
    closes_some None u h e = true≢false (sym h)
    closes_some (Some b) u h e = true≢false (ap is_some e)

    backs : (fs gs : List Frame) (ts : List Todo) (v : Option ℤ) → s.frames ≡ fs
        → IsReturn (kind_of program t.stmt)
        → closed program plan s (Back (block_of plan (block.Function (top_frame s.frames).body))
        (call_unit plan (top_frame s.frames).call)) ≡ None
        → (x : Stacked program used inside calls closer home fs gs (t ∷ ts)) → Stays (back v) x
    backs fs gs ts v ef r none (at_base f g fs' gs' todo same body first within) =
        closes_some (block_of plan (block.Function (top_frame s.frames).body)) (call_unit plan (top_frame s.frames).call)
        (ap (λ x. is_some (block_of plan (block.Function x))) (ap (λ fs. (top_frame fs).body) ef ∙ body)
        ∙ c.returns t.stmt within.0.0 r) none
    backs fs gs ts v ef r none (called f fs' gs' todo k has below) = tt

    leaving : (o : Option ℕ) → is_some o ≡ true → closed program plan s (need_of_leaving plan t.stmt o) ≡ None → ⊥
    leaving None h e = true≢false (sym h)
    leaving (Some b) h e = true≢false (ap is_some e)

    loop_rests : (fs gs : List Frame) (ts : List Todo) → ends_body (kind_of program t.stmt) ≡ false
        → closed program plan s (need_of_leaving plan t.stmt (block_of plan (block.Loop t.stmt))) ≡ None
        → (x : Stacked program used inside calls closer home fs gs (t ∷ ts)) → Rests x
    loop_rests fs gs [] go none (at_base f g fs' gs' todo same body first within) = by closer.entered refl
      where
        by : (e : Bool) → closer.entered ≡ e → ⊥
        by true is = leaving (block_of plan (block.Loop t.stmt))
            (ap (λ (z : Todo). is_some (block_of plan (block.Loop z.stmt))) within.1 ∙ (c.loop is).1) none
        by false is = true≢false (sym (ap (λ (z : Todo). ends_body (kind_of program z.stmt)) within.1 ∙ c.body is) ∙ go)
    loop_rests fs gs (u ∷ us) go none (at_base f g fs' gs' todo same body first within) = tt
    loop_rests fs gs ts go none (called f fs' gs' todo k has below) = tt

    plain : (d : Deed) (gs : List Frame) (ts : List Todo) → ends_body (kind_of program t.stmt) ≡ false
        → IsOfLoop (kind_of program t.stmt) d → (IsOfLoop (kind.While 0 []) d → ⊥)
        → (x : Stacked program used inside calls closer home s.frames gs (t ∷ ts)) → Rests x
    plain d gs ts go of other x = rests s.frames gs ts d go of (λ e. other) x

    deeds : (d : Deed) (left : List ℤ) (o : Option ℕ) (gs : List Frame) (ts : List Todo)
        → entry_of program plan t ≡ o → Suits (kind_of program t.stmt) d → IsOfLoop (kind_of program t.stmt) d
        → closed program plan s (need_by_entry program plan t.stmt s o (Ok (d, left))) ≡ None
        → (x : Stacked program used inside calls closer home s.frames gs (t ∷ ts)) → Stays d x
    deeds (turn stmts) left o gs ts eo su of none x = tt
    deeds finish left (Some b) gs ts eo su of none x =
        end_no_loop (kind_of program t.stmt) su (entry_loops program plan t b eo).1
    deeds finish left None gs ts eo su of none x = true≢false (ap is_some none)
    deeds (back v) left (Some b) gs ts eo su of none x =
        absurd (return_no_loop (kind_of program t.stmt) su (entry_loops program plan t b eo).1)
    deeds (back v) left None gs ts eo su of none x = backs s.frames gs ts v refl su none x
    deeds leave left (Some b) gs ts eo su of none x =
        rests s.frames gs ts leave su of (λ e. absurd (true≢false (sym e ∙ (entry_loops program plan t b eo).0))) x
    deeds leave left None gs ts eo su of none x = loop_rests s.frames gs ts su none x
    deeds (branch stmts) left o gs ts eo su of none x =
        plain (branch stmts) gs ts (list_goes_on (kind_of program t.stmt) stmts su) of (λ z. z) x
    deeds (invoke f vs into) left o gs ts eo su of none x =
        plain (invoke f vs into) gs ts (call_goes_on (kind_of program t.stmt) f su) of (λ z. z) x
    deeds (set_local a v) left o gs ts eo su of none x = plain (set_local a v) gs ts su of (λ z. z) x
    deeds (set_shared a v) left o gs ts eo su of none x = plain (set_shared a v) gs ts su of (λ z. z) x
    deeds (clear a n) left o gs ts eo su of none x = plain (clear a n) gs ts su of (λ z. z) x
    deeds (take a) left o gs ts eo su of none x = plain (take a) gs ts su of (λ z. z) x
    deeds (give a) left o gs ts eo su of none x = plain (give a) gs ts su of (λ z. z) x
    deeds (send a v) left o gs ts eo su of none x = plain (send a v) gs ts su of (λ z. z) x
    deeds (receive a i) left o gs ts eo su of none x = plain (receive a i) gs ts su of (λ z. z) x
    deeds (print v) left o gs ts eo su of none x = plain (print v) gs ts su of (λ z. z) x
    deeds pass left o gs ts eo su of none x = plain pass gs ts su of (λ z. z) x

    askeds : (q : Asked Deed) (gs : List Frame) (ts : List Todo) → head_deed program t s ≡ q
        → closed program plan s (need_by_entry program plan t.stmt s (entry_of program plan t) q) ≡ None
        → (x : Stacked program used inside calls closer home s.frames gs (t ∷ ts)) → Yields (λ d. Stays d x) q
    askeds (Ok p) gs ts e none x =
        deeds p.0 p.1 (entry_of program plan t) gs ts refl
        (subst (Yields (Suits (kind_of program t.stmt))) e
        (suits program.exprs (kind_of program t.stmt) (top_frame s.frames).cells s.answers))
        (subst (Yields (IsOfLoop (kind_of program t.stmt))) e
        (of_loop program.exprs (kind_of program t.stmt) (top_frame s.frames).cells s.answers)) none x
    askeds (Err (Wants a)) gs ts e none x = tt
    askeds (Err (Traps a)) gs ts e none x = tt

    -- a send whose offer was taken is not the last
    offered_rests : (o : ℕ) → offer_of program t ≡ Some o
        → (fs gs : List Frame) (ts : List Todo) (x : Stacked program used inside calls closer home fs gs (t ∷ ts))
        → Rests x
    offered_rests o e fs gs [] (at_base f g fs' gs' todo same body first within) = by closer.entered refl
      where
        by : (b : Bool) → closer.entered ≡ b → ⊥
        by true is = offered_no_loop program t o e
            (subst (λ (z : Todo). IsWhile (kind_of program z.stmt)) (sym within.1) (c.loop is).0)
        by false is = true≢false (sym (ap (λ (z : Todo). ends_body (kind_of program z.stmt)) within.1 ∙ c.body is)
            ∙ offered_goes_on program t o e)
    offered_rests o e fs gs (u ∷ us) (at_base f g fs' gs' todo same body first within) = tt
    offered_rests o e fs gs ts (called f fs' gs' todo k has below) = tt

    -- the step stays in the interval
    pub stays : (rest : List Todo) (gs : List Frame) (ts : List Todo) → s.status ≡ None → s.todo ≡ t ∷ rest
        → is_budget (need_of program plan s) ≡ false → closed program plan s (need_of program plan s) ≡ None
        → (x : Stacked program used inside calls closer home s.frames gs (t ∷ ts))
        → StaysAt (offer_of program t) (head_deed program t s) x
    stays rest gs ts running is payable none x =
        by (offer_of program t) refl
        (ap (closed program plan s)
        (head_is program plan s t rest (need_of program plan s) running is refl payable) ∙ none)
      where
        by : (o : Option ℕ) → offer_of program t ≡ o
            → closed program plan s (need_by_offer plan t.stmt o
            (need_by_entry program plan t.stmt s (entry_of program plan t) (head_deed program t s))) ≡ None
            → StaysAt o (head_deed program t s) x
        by (Some o) e unclosed = offered_rests o e s.frames gs ts x
        by None e unclosed = askeds (head_deed program t s) gs ts refl unclosed x
