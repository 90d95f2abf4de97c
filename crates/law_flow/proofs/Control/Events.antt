-- An event at the top level: what is known of the level with it.
use Rattle.std.proofs.Common.{◌≡◌, ℕ, ◌<◌, true, false, ◌&&◌, List, [], ◌∷◌, ◌++◌, Some, None, refl, ap, sym, subst, ◌∙◌, inl, inr}
use Rattle.std.specs.Prelude.{⊤, nat_eq, slice_get, option_and_then}
use Rattle.std.proofs.lemmas.Bool.{both_ways, cases_eq, ne_eqb}
use Rattle.ppd_ast.specs.Numbered.{is_while}
use Rattle.ppd_ast.specs.Valid.{IsValid}
use Rattle.ppd_ast.specs.declared.plan.Policy.{Policy}
use Rattle.ppd_ast.specs.declared.program.Kind.TheVariants as kind
use Rattle.ppd_ast.specs.declared.program.Program.{Program}
use Rattle.ppd_ast.specs.Lookups.{kind_of, body_of}
use Rattle.ppd_blocks.specs.Blocks.{plan_of}
use Rattle.ppd_sem.specs.declared.event.Event.{Event}
use Rattle.ppd_sem.specs.declared.proc.Todo.{Todo}
use Rattle.ppd_sem.specs.Process.{todos}
use Rattle.ppd_sem.specs.Runs.{returns}
use Rattle.ppd_blocks.specs.Walk.{stands_in}
use Rattle.ppd_model.specs.declared.trace.EventId.{EventId}
use Rattle.ppd_model.specs.FullTrace.{latest}
use Rattle.ppd_model.specs.Parents.{is_choice}
use Rattle.ppd_model.proofs.Homes.{AllBeside}
use Rattle.ppd_model.proofs.Moves.{AllInner}
use Rattle.ppd_model.proofs.TestSteps.{View, older}
use Rattle.ppd_model.proofs.CountedOn.{kept_at}
use Rattle.law_steps.proofs.Course.Rising.{parent_below}
use Rattle.law_steps.proofs.Course.Standing.{not_in_later}
use Rattle.law_flow.proofs.Control.Sights.{BeginsNone, Sign, leaf_goes, tests_other}
use Rattle.law_flow.proofs.Control.Statics.{Free, child_calm, child_stands_in, in_own_loop, stmt_with_parent}
use Rattle.law_flow.proofs.Control.Levels.{EndsWith, Fact, Facts, Has, Knows, Level, Looping, Met, OfLeaf, OfLoop, Outer, OuterAt, Plain, Sort, StandsAt, frame_of, function, leaf, loop, passes, process}
use Rattle.law_flow.proofs.Control.Goes.{Every, Goes, event_goes, event_met, fact_on, facts_on, looping_on, plain_on, view_after}
use Rattle.law_flow.proofs.Control.AtLevel.{AtLevel, MayTest, me_of, sight_after}

module _ (program : Program) (policy : Policy) (p : ℕ) where
  module _ (v : IsValid program) (x : Level) (t n : ℕ) (e : Event) (at : AtLevel program policy p x t n e) where
    abbrev me : EventId
    me = me_of program policy p n

    abbrev now : List Sign
    now = sight_after program policy p x.run.sight n e

    abbrev seen : View
    seen = view_after program me e x.view

    begins_none : (frame : ℕ) → BeginsNone program (plan_of program policy) frame e
    begins_none frame = ap (λ b. b && nat_eq frame 1) at.no_leaf

    pub goes : (frame : ℕ) → Goes program policy p frame Every x.run.sight x.view now seen
    goes frame = event_goes program policy p frame n e x.run.sight x.view (begins_none frame) at.fine

    -- another statement's latest test is as it was
    other_test : (s : ℕ) → (s ≡ t → ⊥) → latest s seen.1 ≡ latest s x.view.1
    other_test s other = older (kind_of program e.stmt) e.stmt s me e.value x.view.1
        (ap (λ b. b && is_choice (kind_of program e.stmt)) (ne_eqb e.stmt s (λ same. other (sym same ∙ at.is))))

    -- the statement itself was tested just now
    pub own_met : (frame : ℕ) → is_choice (kind_of program t) ≡ true → Met program policy p frame now seen t
    own_met frame choice = event_met program policy p frame n e x.run.sight x.view
        (begins_none frame) at.fine t at.is choice

    -- ---- a level that is no loop's

    plain_event : (frame : ℕ) → Free program policy t → Plain program policy p frame x.body x.run.sight x.view
        → Plain program policy p frame x.body now seen
    plain_event frame free h =
        plain_on program policy p frame Every x.run.sight x.view now seen (goes frame) x.body (λ s home f. tt)
        (λ l home is. tests_other program (plan_of program policy) frame l n e x.run.sight (begins_none frame)
        (λ same. absurd (both_ways (stands_in program t l) (free l is)
        (subst (λ i. stands_in program i l ≡ true) (sym same ∙ at.is) (in_own_loop program policy l)))))
        (λ s l is loop_is inside.
        ap passes (other_test s (λ same. absurd
        (both_ways (stands_in program t l) (free l loop_is)
        (subst (λ i. stands_in program i l ≡ true) same inside))))
        ∙ h.quiet s l is loop_is inside)
        h

    -- ---- a loop's level

    -- what is still to do has each `while` whose run goes on
    pub record StillToDo (l : ℕ) (todo more : List Todo) : Type 0 where
      pub own : is_while (kind_of program t) ≡ true → (t ≡ l → ⊥) → passes (latest t seen.1) ≡ true → Has t more
      pub others : (s : ℕ) → (s ≡ t → ⊥) → is_while (kind_of program s) ≡ true → Has s todo → Has s more

    looping_event : (l : ℕ) (todo more : List Todo) → StillToDo l todo more
        → Looping program policy p l x.body x.run.sight x.view todo → Looping program policy p l x.body now seen more
    looping_event l todo more still h =
        looping_on program policy p Every x.run.sight x.view now seen (goes 0) l x.body todo more (λ s home. tt)
        (λ s is inside other pass. elim (cases_eq s t) [
          | inl same ↦ subst (λ i. Has i more) (sym same)
              (still.own (subst (λ i. is_while (kind_of program i) ≡ true) same is) (λ f. other (same ∙ f))
              (subst (λ i. passes (latest i seen.1) ≡ true) same pass))
          | inr differs ↦ still.others s differs is
              (h.runs s is inside other (sym (ap passes (other_test s differs)) ∙ pass))
        ])
        h

    abbrev pub StillAt : Sort → List Todo → List Todo → Type 0
    StillAt (loop l) todo more = StillToDo l todo more
    StillAt s todo more = ⊤

    pub knows_event : (sort : Sort) → MayTest program policy sort t → (more : List Todo) → StillAt sort x.todo more
        → Knows program policy p sort x.body x.run.sight x.view x.todo
        → Knows program policy p sort x.body now seen more
    knows_event process stands more still h = plain_event 0 stands h
    knows_event function stands more still h = plain_event 0 stands h
    knows_event leaf stands more still h = plain_event 1 stands h
    knows_event (loop l) stands more still h = looping_event l x.todo more still h

    -- ---- what is to do

    pub facts_event : (sort : Sort) (todo : List Todo) → Facts program policy p sort x.body x.run.sight x.view todo
        → Facts program policy p sort x.body now seen todo
    facts_event sort todo h = facts_on program policy p (frame_of sort) Every x.run.sight x.view now seen
        (goes (frame_of sort)) sort x.body todo refl (λ o home stands. tt) h

    pub fact_event : (sort : Sort) (s : ℕ) → Fact program policy p sort x.body x.run.sight x.view s
        → Fact program policy p sort x.body now seen s
    fact_event sort s h = fact_on program policy p (frame_of sort) Every x.run.sight x.view now seen
        (goes (frame_of sort)) sort x.body s refl (λ o home stands. tt) h

    pub ends_event : (sort : Sort) (last : List Todo) → EndsWith program policy p sort x.body x.run.sight x.view last
        → EndsWith program policy p sort x.body now seen last
    ends_event process last h = h
    ends_event function last h = (h.0, h.1, h.2, h.3, fact_event function h.0.stmt h.4)
    ends_event leaf last h = (h.0, h.1, h.2, h.3, fact_event leaf h.0.stmt h.4)
    ends_event (loop l) last h = h

    outer_at : (sort : Sort) → MayTest program policy sort t → OuterAt program policy p sort t
    outer_at process h = h
    outer_at function h = h
    outer_at leaf h = h
    outer_at (loop l) h = tt

    child_at : (sort : Sort) (i : ℕ) → MayTest program policy sort t → option_and_then (λ x. x.parent) (slice_get program.stmts i) ≡ Some t
        → StandsAt program policy p sort i
    child_at process i h parent = child_calm program policy i t v parent h
    child_at function i h parent = child_calm program policy i t v parent h
    child_at leaf i h parent = child_calm program policy i t v parent h
    child_at (loop l) i h parent = (
      child_stands_in program v i t l parent h,
      λ same. absurd
          (both_ways (stands_in program t l) (below same) h),
    )
      where
        below : i ≡ l → stands_in program t l ≡ false
        below same =
            let y = stmt_with_parent (slice_get program.stmts i) t parent in
            not_in_later program t l v (subst (λ k. t < k) same (parent_below program i t y.0 v y.1 y.2))

    -- statements inside a statement that was tested
    pub inner_facts : (sort : Sort) (stmts : List ℕ) (more : List Todo) → MayTest program policy sort t
        → is_choice (kind_of program t) ≡ true → AllInner program t stmts → AllBeside program (body_of program t) stmts
        → Facts program policy p sort x.body now seen more
        → Facts program policy p sort x.body now seen (todos stmts ++ more)
    inner_facts sort [] more stands choice inner beside h = h
    inner_facts sort (i ∷ is) more stands choice inner beside h = (
      (
        record {
          home = beside.0.of_body ∙ at.home;
          stands = child_at sort i stands inner.0.parent;
          outer = λ o parent.
              subst (λ z. Outer program policy p sort x.body now seen z) (one (sym inner.0.parent ∙ parent))
              (record {
                home = at.home;
                choice = choice;
                stands = outer_at sort stands;
                met = own_met
                    (frame_of sort) choice;
              });
        },
        (inner.0.stays, refl),
      ),
      inner_facts sort is more stands choice inner.1 beside.1 h,
    )
      where
        one : {o : ℕ} → Some t ≡ Some o → t ≡ o
        one {o = o} e = ap (λ z. elim z [ None ↦ t | Some k ↦ k ]) e

    -- ---- over the level below

    pub leaf_event : (y : Level) → OfLeaf program policy p x.body x.run x.view.0 y
        → OfLeaf program policy p x.body (record x.run { sight = now }) x.view.0 y
    leaf_event y h = record {
      call = h.call;
      leaf_is = leaf_goes program (plan_of program policy) n e x.run.sight at.no_leaf
          (ap (λ i. returns (kind_of program i)) at.is ∙ at.stays) ∙ h.leaf_is;
      number = h.number;
      event = h.event;
      there = kept_at x.run.sight (Some (n, e) ∷ []) h.call.item (Some (h.number, h.event)) h.there;
      called = h.called;
      frame_is = h.frame_is;
      number_is = h.number_is;
      kind_is = h.kind_is;
      place_is = h.place_is;
      longer = λ j q there. kept_at x.run.sight (Some (n, e) ∷ []) j q (h.longer j q there);
      same = λ s home choice.
          tests_other program (plan_of program policy) 0 s n e x.run.sight (begins_none 0)
          (λ same. h.other (sym at.home ∙ ap (body_of program) (sym at.is ∙ same) ∙ home))
          ∙ h.same s home choice;
      other = h.other;
      no_block = h.no_block;
      low = h.low;
    }

    pub loop_event : (l : ℕ) (y : Level) → stands_in program t l ≡ true
        → OfLoop program policy p l x.body x.run.kind x.run.place x.view y
        → OfLoop program policy p l x.body x.run.kind x.run.place seen y
    loop_event l y inside h = record {
      is_loop = h.is_loop;
      kind_is = h.kind_is;
      body_is = h.body_is;
      home = h.home;
      before = h.before;
      sight_is = h.sight_is;
      place_is = h.place_is;
      call_is = h.call_is;
      same = λ s out. other_test s (λ same. absurd
          (both_ways (stands_in program t l) (subst (λ i. stands_in program i l ≡ false) same out) inside))
          ∙ h.same s out;
      fact = h.fact;
      no_leaf = h.no_leaf;
      not_loop = h.not_loop;
    }
