-- Past a nested block the process and its replay are beside each other again.
use Rattle.std.proofs.Common.{◌≡◌, ℕ, ◌+◌, ◌≤◌, ℤ, false, List, [], ◌∷◌, ◌++◌, Option, Some, refl, ap, sym, subst, ◌∙◌, arith, map, length, drop}
use Rattle.std.specs.Prelude.{slice_get, get_or, pos}
use Rattle.ppd_ast.specs.declared.program.Program.{Program}
use Rattle.ppd_ast.specs.declared.plan.Plan.{Plan}
use Rattle.ppd_ast.specs.Lookups.{kind_of}
use Rattle.ppd_sem.specs.declared.proc.Need.{Need}
use Rattle.ppd_sem.specs.declared.proc.Need.TheVariants.{Enter, Invoke}
use Rattle.ppd_sem.specs.declared.proc.Frame.{Frame}
use Rattle.ppd_sem.specs.declared.proc.Todo.{Todo}
use Rattle.ppd_sem.specs.declared.proc.Proc.{Proc}
use Rattle.ppd_sem.specs.Process.{charged, cost, into_of, returned, receive_at, need_of, on_top, into_at, with_values}
use Rattle.ppd_sem.specs.Described.{ends_body}
use Rattle.ppd_sem.specs.Blocks.{postlog_cells}
use Rattle.ppd_sem.specs.Blocks.{skipped, frames_past, head_stmt}
use Rattle.law_steps.proofs.Vocabulary.Relation.{Rests, Stacked, at_base, called, HasEnds, IsBlock, IsBeside}
use Rattle.law_steps.proofs.Vocabulary.Held.{Among, IsKeptBut}
use Rattle.law_steps.proofs.Beside.Filled.{filled_whole, filled_same}
use Rattle.law_steps.proofs.Beside.Framed.{Framed, past, receives}

-- the state past a block that the head would enter, by its need
abbrev pub skipped_by : Program → Plan → List ℤ → Need → Proc → Proc
skipped_by program plan values need s =
    charged plan need (record s
    { frames = frames_past program plan values need s; todo = drop 1 s.todo; answers = [] })

pub skipped_is : (program : Program) (plan : Plan) (values : List ℤ) (n : Need) (s : Proc)
    → need_of program plan s ≡ n → skipped program plan values s ≡ skipped_by program plan values n s
skipped_is program plan values n s e = ap (λ m. skipped_by program plan values m s) e

module _ (program : Program) (used inside : ℕ → Type 0) (calls : Type 0) (closer : Todo) (home : ℕ) (depth : ℕ)
    (ends : HasEnds program) (block : IsBlock program used inside calls) (outside : List Todo) where
  -- g is the block's own frame at its end, f as it was at its start
  filled_stacked : (cs : List ℕ) (f g : Frame) (fs gs : List Frame) (todo : List Todo) → IsKeptBut (Among cs) f g
      → Stacked program used inside calls closer home (f ∷ fs) gs todo
      → Stacked program used inside calls closer home (g ∷ fs) (on_top (with_values cs (map (λ c. get_or g.cells c (pos 0)) cs)) gs) todo
  filled_stacked cs f g fs gs todo k (at_base f' r fs' gs' todo' same body first within) =
      at_base g (record r { cells = with_values cs (map (λ c. get_or g.cells c (pos 0)) cs) r.cells }) fs' gs' todo'
      (filled_same used cs f g r k same) (k.body ∙ body) first within
  filled_stacked cs f g fs gs todo k (called f' fs' gs' todo' c has below) =
      subst (λ x. Stacked program used inside calls closer home (g ∷ fs') (x ∷ gs') todo')
      (sym (filled_whole cs f g k)) (called g fs' gs' todo' c has below)

  filled_length : (cs : List ℕ) (vs : List ℤ) (gs : List Frame) → length (on_top (with_values cs vs) gs) ≡ length gs
  filled_length cs vs [] = refl
  filled_length cs vs (g ∷ gs) = refl

  -- before the block entered its first test the process was s with f on top, beside r; x is the process after the
  -- test that leaves the block, without the answers of that test
  pub loop_past : (plan : Plan) (b u : ℕ) (t : Todo) (ts : List Todo) (f g : Frame) (fs : List Frame) (s r x : Proc)
      → IsBeside program used inside calls closer home depth outside s r → s.frames ≡ f ∷ fs → r.todo ≡ t ∷ ts
      → ends_body (kind_of program t.stmt) ≡ false
      → ((x : Stacked program used inside calls closer home (f ∷ fs) r.frames (t ∷ ts)) → Rests x)
      → IsKeptBut (Among (postlog_cells plan b)) f g → x.frames ≡ g ∷ fs → x.todo ≡ ts ++ outside → x.answers ≡ []
      → x.status ≡ s.status → x.budget ≡ s.budget → x.below ≡ 0 → s.spent + cost plan (Enter b u) ≤ x.spent
      → IsBeside program used inside calls closer home depth outside x
      (skipped_by program plan (map (λ c. get_or g.cells c (pos 0)) (postlog_cells plan b)) (Enter b u) r)
  loop_past plan b u t ts f g fs s r x beside top head on long kept now todo answers status budget whole spent =
      let before : Framed program used inside calls closer home depth ends block outside (f ∷ fs) r.frames
      (t ∷ ts) = record {
        stacked = subst (λ ys. Stacked program used inside calls closer home (f ∷ fs) r.frames ys) head
            (subst (λ ys. Stacked program used inside calls closer home ys r.frames r.todo) top beside.frames);
        count = λ c. ap length (sym top) ∙ beside.count c;
      } in
      let further : Framed program used inside calls closer home depth ends block outside (f ∷ fs) r.frames ts =
      past program used inside calls closer home depth ends block outside t (f ∷ fs) r.frames ts on before
      (long before.stacked) in
      let values : List ℤ = map (λ c. get_or g.cells c (pos 0)) (postlog_cells plan b) in
      let rest : drop 1 r.todo ≡ ts = ap (λ ys. drop 1 ys) head in
      record {
        todo = todo ∙ ap (λ ys. ys ++ outside) (sym rest);
        frames = subst (λ ys. Stacked program used inside calls closer home x.frames
            (on_top (with_values (postlog_cells plan b) values) r.frames) ys) (sym rest)
            (subst (λ ys. Stacked program used inside calls closer home ys
            (on_top (with_values (postlog_cells plan b) values) r.frames) ts) (sym now)
            (filled_stacked (postlog_cells plan b) f g fs r.frames ts kept further.stacked));
        whole = whole;
        below = beside.below;
        count = λ c. omega (
          arith,
          ap length now,
          further.count c,
          filled_length
              (postlog_cells plan b) values r.frames,
        );
        answers = answers;
        status = status ∙ beside.status;
        budget = budget ∙ beside.budget;
        spent = omega (arith, spent, beside.spent);
      }

  -- a call of a block: g is the callee's own frame at its end
  pub call_past : (plan : Plan) (b : ℕ) (u : ℕ) (value : Option ℤ) (values : List ℤ) (t : Todo) (ts : List Todo)
      (g : Frame) (s r x : Proc)
      → IsBeside program used inside calls closer home depth outside s r → r.todo ≡ t ∷ ts
      → ends_body (kind_of program t.stmt) ≡ false
      → ((x : Stacked program used inside calls closer home s.frames r.frames (t ∷ ts)) → Rests x)
      → g.call ≡ Some t.stmt → value ≡ slice_get values 0 → x.frames ≡ returned program value (g ∷ s.frames)
      → x.todo ≡ ts ++ outside → x.answers ≡ [] → x.status ≡ s.status → x.budget ≡ s.budget → x.below ≡ 0
      → s.spent + cost plan (Invoke (Some b) u) ≤ x.spent
      → IsBeside program used inside calls closer home depth outside x
      (skipped_by program plan values (Invoke (Some b) u) r)
  call_past plan b u value values t ts g s r x beside head on long call is now todo answers status budget whole spent =
      let before : Framed program used inside calls closer home depth ends block outside s.frames r.frames
      (t ∷ ts) = record {
        stacked = subst (λ ys. Stacked program used inside calls closer home s.frames r.frames ys) head beside.frames;
        count = beside.count;
      } in
      let further : Framed program used inside calls closer home depth ends block outside s.frames r.frames ts =
      past program used inside calls closer home depth ends block outside t s.frames r.frames ts on before
      (long before.stacked) in
      let into : Option ℕ = into_of (kind_of program t.stmt) in
      let given : Framed program used inside calls closer home depth ends block outside
      (receive_at into (slice_get values 0) s.frames) (receive_at into (slice_get values 0) r.frames) ts =
      receives program used inside calls closer home depth ends block outside into
      (slice_get values 0) s.frames r.frames ts further in
      let rest : drop 1 r.todo ≡ ts = ap (λ ys. drop 1 ys) head in
      let frames : x.frames ≡ receive_at into (slice_get values 0) s.frames =
      now ∙ ap (λ o. receive_at (into_at program o) value s.frames) call ∙ ap (λ v. receive_at into v s.frames) is in
      let past_is : frames_past program plan values (Invoke (Some b) u) r ≡ receive_at into
      (slice_get values 0) r.frames =
      ap (λ ys. receive_at (into_of (kind_of program (head_stmt ys))) (slice_get values 0) r.frames) head in
      record {
        todo = todo ∙ ap (λ ys. ys ++ outside) (sym rest);
        frames = subst (λ ys. Stacked program used inside calls closer home x.frames
            (frames_past program plan values (Invoke (Some b) u) r) ys) (sym rest)
            (subst (λ ys. Stacked program used inside calls closer home ys
            (frames_past program plan values (Invoke (Some b) u) r) ts) (sym frames)
            (subst (λ ys. Stacked program used inside calls closer home
            (receive_at into (slice_get values 0) s.frames) ys ts) (sym past_is) given.stacked));
        whole = whole;
        below = beside.below;
        count = λ c. omega (arith, ap length frames, given.count c, ap length past_is);
        answers = answers;
        status = status ∙ beside.status;
        budget = budget ∙ beside.budget;
        spent = omega (arith, spent, beside.spent);
      }
