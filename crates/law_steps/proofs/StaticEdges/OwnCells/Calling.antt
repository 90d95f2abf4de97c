-- A call and a return: the last writes of the local cells come to where the process then is.
use Rattle.law_steps.proofs.Course.Deeds.{IsInvoke}
use Rattle.law_steps.proofs.Course.Frames.{calls_returned}
use Rattle.law_steps.proofs.Course.Ways.{head_todos}
use Rattle.law_steps.proofs.StaticEdges.Frames.{AreLinked, IsCalled, links}
use Rattle.law_steps.proofs.StaticEdges.OwnCells.Moving.{behind_call, head_body, into_tags, new_frame}
use Rattle.law_steps.proofs.StaticEdges.OwnCells.Steps.{Before, HomeAfter, Leaves}
use Rattle.law_steps.proofs.StaticEdges.OwnCells.Tagging.{tagged_locals, top_changed}
use Rattle.law_steps.proofs.StaticEdges.OwnCells.Ways.{AllCome, AreCome}
use Rattle.law_steps.specs.Course.{IsBehind, behind, calls_left, calls_of, follow_if, top_call_of}
use Rattle.ppd_ast.proofs.Vocabulary.{gives as gives_value, params_of_body}
use Rattle.ppd_ast.specs.Lookups.{body_numbered, body_of, kind_of}
use Rattle.ppd_ast.specs.Valid.{IsValid}
use Rattle.ppd_ast.specs.declared.plan.Plan.{Plan}
use Rattle.ppd_ast.specs.declared.program.Kind.{Kind}
use Rattle.ppd_ast.specs.declared.program.Kind.TheVariants as K
use Rattle.ppd_ast.specs.declared.program.Program.{Program}
use Rattle.ppd_model.proofs.Homes.{AreHome, AreTop, bodies-returned}
use Rattle.ppd_model.specs.FullTrace.{Tag, tagged_into}
use Rattle.ppd_model.specs.LocalTags.{locals}
use Rattle.ppd_model.specs.declared.trace.EventId.{EventId}
use Rattle.ppd_model.specs.declared.tracing.Activation.{Activation}
use Rattle.ppd_sem.specs.Deed.{back, invoke}
use Rattle.ppd_sem.specs.Passed.{next_stmt_of}
use Rattle.ppd_sem.specs.Process.{into_at, into_of, returned, todos, top_frame}
use Rattle.ppd_sem.specs.Runs.{bodies_in, returns}
use Rattle.ppd_sem.specs.declared.proc.Answer.{Answer}
use Rattle.ppd_sem.specs.declared.proc.Frame.{Frame}
use Rattle.ppd_sem.specs.declared.proc.Proc.{Proc}
use Rattle.ppd_sem.specs.declared.proc.Todo.{Todo}
use Rattle.std.proofs.Common.{List, None, Option, Some, [], ap, length, refl, subst, sym, true, ℕ, ℤ, ◌++◌, ◌-◌, ◌<◌, ◌∙◌, ◌∷◌, ◌≡◌}
use Rattle.std.specs.Option.{option_or}
use Rattle.std.specs.Prelude.{drop, is_some, slice_get}

-- ---- lists

drop_locals : (xs : List Activation) → locals (drop 1 xs) ≡ drop 1 (locals xs)
drop_locals [] = refl
drop_locals (x ∷ xs) = refl

top_same : (xs : List (List Tag)) → xs ≡ top_changed (λ ts. ts) xs
top_same [] = refl
top_same (x ∷ xs) = refl

into_locals : (into : Option ℕ) (value : Option ℤ) (me : Tag) (xs : List Activation) → locals (tagged_into into value me xs) ≡ top_changed (into_tags into value me) (locals xs)
into_locals (Some c) (Some x) me xs = tagged_locals c me xs
into_locals (Some c) None me xs = top_same (locals xs)
into_locals None value me xs = top_same (locals xs)

-- the first of a list that has one
first_of : (p : Program) (f h : ℕ) (top : List ℕ) (after : Option ℕ) → AreTop p f top → option_or (slice_get top 0) after ≡ Some h → slice_get top 0 ≡ Some h
first_of p f h [] after are e = absurd are
first_of p f h (x ∷ xs) after are e = e

module _ (program : Program) (plan : Plan) (v : IsValid program) (E : EventId → ℕ → Type 0) (a : Answer) (t : Todo) (ts : List Todo) (me : EventId) (there : t.stmt < length program.stmts) (is_me : E me t.stmt) where
  abbrev k : Kind
  k = kind_of program t.stmt

  -- ---- a call

  pub calls_on : (s : Proc) (acts : List Activation) (b : Before program plan v E a t ts me there is_me s (locals acts)) (f : ℕ) (values : List ℤ) (into : Option ℕ) (left : List ℤ) → IsInvoke k f → AreTop program f (body_numbered program f).top
      → length values ≡ params_of_body (slice_get program.bodies f) → HomeAfter program plan v E a t ts me there is_me s acts b (invoke f values into) → Leaves program plan v E a t ts me there is_me s acts b (invoke f values into) left
  calls_on s acts b f values into left i top count home = (
    new_frame program E v t.stmt there me is_me f i.arguments i.into i.kind_is (length values) ((body_numbered program f).cells - length values) (next_stmt_of (todos (body_numbered program f).top ++ ts)) count
        (λ h is.
        let first : option_or (slice_get (body_numbered program f).top 0) (next_stmt_of ts) ≡ Some h = sym (head_todos (body_numbered program f).top ts) ∙ is in
        first_of program f h (body_numbered program f).top (next_stmt_of ts) top first)
        (λ h is. head_body program f (bodies_in s.frames) (todos (body_numbered program f).top ++ ts) h home is),
    b.come,
  )

  -- ---- a return

  abbrev Back : Option ℤ → List Frame → List (List Tag) → Type 0
  Back value frames tags = AllCome program E (next_stmt_of ts ∷ calls_left true (calls_of frames)) (top_changed (into_tags (into_at program (top_frame frames).call) value (Some me)) (drop 1 tags))

  no_frame : (value : Option ℤ) (tags : List (List Tag)) (f : Frame) → f.call ≡ None → next_stmt_of ts ≡ follow_if program f.call → Back value (f ∷ []) tags
  no_frame value [] f none follows = tt
  no_frame value (x ∷ []) f none follows = tt
  no_frame value (x ∷ y ∷ ys) f none follows = (subst (λ o. AreCome program E o (into_tags (into_at program f.call) value (Some me) y)) (sym (follows ∙ ap (follow_if program) none)) tt, nowhere ys)
    where
      nowhere : (ys : List (List Tag)) → AllCome program E [] ys
      nowhere [] = tt
      nowhere (y ∷ ys) = tt

  into_is : (c f : ℕ) (args : List ℕ) (into call : Option ℕ) → call ≡ Some c → kind_of program c ≡ K.Call f args into → into_at program call ≡ into
  into_is c f args into call e is = ap (into_at program) e ∙ ap into_of is

  module _ (is_return : (e : Option ℕ) × (k ≡ K.Return e)) where
    to_caller : (value : Option ℤ) (f g : Frame) (fs : List Frame) (tags : List (List Tag)) → body_of program t.stmt ≡ f.body → IsCalled program f.body f.call g.body → is_some value ≡ gives_value (slice_get program.bodies f.body)
        → next_stmt_of ts ≡ follow_if program f.call → AreHome program (bodies_in (g ∷ fs)) ts → AllCome program E (Some t.stmt ∷ f.call ∷ g.call ∷ calls_of fs) tags → Back value (f ∷ g ∷ fs) tags
    to_caller value f g fs [] body l gives follows home old = tt
    to_caller value f g fs (x ∷ []) body l gives follows home old = tt
    to_caller value f g fs (x ∷ y ∷ ys) body l gives follows home old =
        let kind : kind_of program l.by ≡ K.Call (body_of program t.stmt) l.args l.into = l.kind_is ∙ ap (λ n. K.Call n l.args l.into) (sym body) in
        let into : into_at program f.call ≡ l.into = into_is l.by f.body l.args l.into f.call l.call_is l.kind_is in
        let given : is_some value ≡ gives_value (slice_get program.bodies (body_of program t.stmt)) = gives ∙ ap (λ n. gives_value (slice_get program.bodies n)) (sym body) in (
          subst (λ o. AreCome program E (next_stmt_of ts) (into_tags o value (Some me) y)) (sym into)
              (behind_call program E v t.stmt there me is_me is_return l.by g.body l.args l.into value (next_stmt_of ts) y kind l.of_body given (follows ∙ ap (follow_if program) l.call_is)
              (λ h is. head_body program g.body (bodies_in fs) ts h home is) (subst (λ o. AreCome program E o y) l.call_is old.1.0)),
          old.1.1,
        )

    by_frames : (value : Option ℤ) (frames : List Frame) (tags : List (List Tag)) → AreHome program (bodies_in frames) (t ∷ ts) → AreLinked program (links frames) → is_some value ≡ gives_value (slice_get program.bodies (body_of program t.stmt))
        → next_stmt_of ts ≡ follow_if program (top_call_of (calls_of frames)) → AreHome program (drop 1 (bodies_in frames)) ts → AllCome program E (Some t.stmt ∷ calls_of frames) tags → Back value frames tags
    by_frames value [] tags home linked gives follows after old = absurd home
    by_frames value (f ∷ []) tags home linked gives follows after old = no_frame value tags f linked follows
    by_frames value (f ∷ g ∷ fs) tags home linked gives follows after old =
        to_caller value f g fs tags home.0 linked.0 (gives ∙ ap (λ n. gives_value (slice_get program.bodies n)) home.0) follows after old

    pub backs_on : (s : Proc) (acts : List Activation) (b : Before program plan v E a t ts me there is_me s (locals acts)) (value : Option ℤ) (left : List ℤ) → is_some value ≡ gives_value (slice_get program.bodies (body_of program t.stmt))
        → HomeAfter program plan v E a t ts me there is_me s acts b (back value) → Leaves program plan v E a t ts me there is_me s acts b (back value) left
    backs_on s acts b value left gives home =
        let behind_is : IsBehind program plan (top_call_of (calls_of s.frames)) ts = subst (λ r. IsBehind program plan (behind r t.stmt (calls_of s.frames)) ts) (ap returns is_return.1) b.way.0 in
        let after : AreHome program (drop 1 (bodies_in s.frames)) ts = subst (λ bs. AreHome program bs ts) (bodies-returned program value s.frames) home in
        let tags : locals (tagged_into (into_at program (top_frame s.frames).call) value (Some me) (drop 1 acts)) ≡ top_changed (into_tags (into_at program (top_frame s.frames).call) value (Some me)) (drop 1 (locals acts)) =
        into_locals (into_at program (top_frame s.frames).call) value (Some me) (drop 1 acts) ∙ ap (top_changed (into_tags (into_at program (top_frame s.frames).call) value (Some me))) (drop_locals acts) in
        subst (λ (xs : List (List Tag)). AllCome program E (next_stmt_of ts ∷ calls_of (returned program value s.frames)) xs) (sym tags)
        (subst (λ cs. AllCome program E (next_stmt_of ts ∷ cs) (top_changed (into_tags (into_at program (top_frame s.frames).call) value (Some me)) (drop 1 (locals acts)))) (sym (calls_returned program value s.frames))
        (by_frames value s.frames (locals acts) b.home b.linked gives behind_is.follows after b.come))
