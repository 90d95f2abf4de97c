-- A process and its replay that are beside each other have a head, and name the frame of their event alike.
use Rattle.std.proofs.Common.{◌≡◌, ℕ, List, [], ◌∷◌, ◌++◌, Bool, true, false, cond, refl, ap, ap₂, sym, subst, ◌∙◌, append-nil}
use Rattle.std.specs.List.{AllByRecursion as Each, list_any}
use Rattle.std.specs.Prelude.{not as negated, ◌||◌, if◌then◌else◌}
use Rattle.std.proofs.lemmas.Bool.{or_left, or_right}
use Rattle.ppd_ast.specs.declared.plan.Plan.{Plan}
use Rattle.ppd_ast.specs.declared.program.Program.{Program}
use Rattle.ppd_ast.specs.Lookups.{kind_of}
use Rattle.ppd_sem.specs.declared.proc.Frame.{Frame}
use Rattle.ppd_sem.specs.declared.proc.Proc.{Proc}
use Rattle.ppd_sem.specs.declared.proc.Todo.{Todo}
use Rattle.ppd_sem.specs.Described.{ends_body, frame_of, is_block}
use Rattle.ppd_sem.proofs.EventWords.{has_interval}
use Rattle.ppd_sem.specs.Process.{top_frame}
use Rattle.law_steps.proofs.Vocabulary.Relation.{HasEnd, IsBeside, IsLast, IsOwnTodo, Stacked, at_base, called}
use Rattle.law_steps.proofs.Beside.Events.{called_frame, top_of_list, taken}

module _ (program : Program) (plan : Plan) (used inside : ℕ → Type 0) (calls : Type 0) (closer : Todo) (home : ℕ)
    (depth : ℕ) (outside : List Todo) where
  -- the interval is one of a loop, whose statements end no body, or of a body that is a block
  pub record IsOwned : Type 0 where
    pub goes_on : closer.entered ≡ true → (s : ℕ) → inside s → ends_body (kind_of program s) ≡ false
    pub block : closer.entered ≡ false → is_block plan home ≡ true

  nonempty : (fs gs : List Frame) (todo : List Todo) → Stacked program used inside calls closer home fs gs todo
      → (t : Todo) × (ts : List Todo) × (todo ≡ t ∷ ts)
  nonempty fs gs [] (at_base f g fs' gs' todo same body first within) = absurd within.1
  nonempty fs gs [] (called f fs' gs' todo k has below) = absurd has
  nonempty fs gs (t ∷ ts) x = (t, ts, refl)

  pub head : (s r : Proc) → IsBeside program used inside calls closer home depth outside s r → (t : Todo)
      × (ts : List Todo) × (r.todo ≡ t ∷ ts)
  head s r b = nonempty s.frames r.frames r.todo b.frames

  module _ (owned : IsOwned) where
    -- the loop runs in the interval's own frame
    runs : (todo rest : List Todo) → closer.entered ≡ true → Each (λ t. inside t.stmt) todo → IsLast closer todo
        → list_any (λ t. t.entered) (top_of_list program (todo ++ rest)) ≡ true
    runs [] rest e all h = absurd h
    runs (t ∷ []) rest e all h =
        ap (λ ys. list_any (λ t. t.entered) ys)
        (taken (negated (ends_body (kind_of program t.stmt))) _ t rest
        ∙ ap (λ b. cond (negated b) (t ∷ top_of_list program rest) []) (owned.goes_on e t.stmt all.0))
        ∙ or_left t.entered _ (ap (λ (z : Todo). z.entered) h ∙ e)
    runs (t ∷ u ∷ us) rest e all h =
        ap (λ ys. list_any (λ t. t.entered) ys)
        (taken (negated (ends_body (kind_of program t.stmt))) _ t (u ∷ us ++ rest)
        ∙ ap (λ b. cond (negated b) (t ∷ top_of_list program (u ∷ us ++ rest)) []) (owned.goes_on e t.stmt all.0))
        ∙ or_right t.entered _ (runs (u ∷ us) rest e all.1 h)

    own_by : (todo rest : List Todo) (body : ℕ) (b : Bool) → closer.entered ≡ b → body ≡ home
        → IsOwnTodo inside closer todo
        → (list_any (λ t. t.entered) (top_of_list program (todo ++ rest)) || is_block plan body) ≡ true
    own_by todo rest body true e same within = or_left _ _ (runs todo rest e within.0 within.1)
    own_by todo rest body false e same within =
        or_right (list_any (λ t. t.entered) (top_of_list program (todo ++ rest))) _
        (ap (is_block plan) same ∙ owned.block e)

    abbrev numbered_by : Bool → ℕ
    numbered_by b = if b then 0 else 1

    frame_by : (s r : Proc) (fs gs : List Frame) (todo : List Todo) → s.todo ≡ todo ++ outside → r.todo ≡ todo
        → s.frames ≡ fs → r.frames ≡ gs → Stacked program used inside calls closer home fs gs todo
        → frame_of program plan s ≡ frame_of program plan r
    frame_by s r fs gs todo es er ef eg (at_base f g fs' gs' todo' same body first within) =
        let first : has_interval program plan s ≡ true =
        ap₂ (λ ys (xs : List Frame). list_any (λ t. t.entered) (top_of_list program ys) || is_block plan
        (top_frame xs).body) es ef ∙ own_by todo' outside f.body closer.entered refl body within in
        let second : has_interval program plan r ≡ true =
        ap₂ (λ ys (xs : List Frame). list_any (λ t. t.entered) (top_of_list program ys) || is_block plan
        (top_frame xs).body) (er ∙ sym (append-nil todo')) eg ∙ own_by todo' [] g.body closer.entered refl
        (sym same.body ∙ body) within in
        ap numbered_by (first ∙ sym second)
    frame_by s r fs gs todo es er ef eg (called f fs' gs' todo' k has below) =
        called_frame program plan s r outside (es ∙ ap (λ ys. ys ++ outside) (sym er))
        (ap (λ fs. (top_frame fs).body) ef ∙ sym (ap (λ fs. (top_frame fs).body) eg)) (subst (HasEnd program) (sym er) has)

    pub frame : (s r : Proc) → IsBeside program used inside calls closer home depth outside s r
        → frame_of program plan s ≡ frame_of program plan r
    frame s r b = frame_by s r s.frames r.frames r.todo b.todo refl refl refl b.frames
