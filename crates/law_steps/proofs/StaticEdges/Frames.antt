-- Which calls began the frames of a process, and that their bodies run.
use Rattle.law_steps.proofs.Course.Deeds.{Fits, deed_fits}
use Rattle.ppd_ast.proofs.Members.{flat_from, has_first, in_bounds_has}
use Rattle.ppd_ast.specs.Lookups.{body_of, kind_of}
use Rattle.ppd_ast.specs.Members.{has}
use Rattle.ppd_ast.specs.Valid.{IsValid}
use Rattle.ppd_ast.specs.declared.plan.Plan.{Plan}
use Rattle.ppd_ast.specs.declared.program.Kind.{Kind}
use Rattle.ppd_ast.specs.declared.program.Kind.TheVariants as K
use Rattle.ppd_ast.specs.declared.program.Program.{Program}
use Rattle.ppd_sets.proofs.FlowRows.{row_at}
use Rattle.ppd_sets.specs.Reach.{Reached, next, start}
use Rattle.ppd_deps.proofs.Arriving.{body_there}
use Rattle.ppd_deps.proofs.Bodies.{stands_among}
use Rattle.ppd_deps.proofs.Vocabulary.{processes}
use Rattle.ppd_sem.proofs.NeedWords.{act_at}
use Rattle.ppd_sem.specs.Asked.{Asked}
use Rattle.ppd_sem.specs.Deed.{Deed, back, clear, invoke, receive, set_local}
use Rattle.ppd_sem.specs.Process.{act, act_by_asked, act_by_deed, act_by_need, head_deed, into_at, into_of, need_of, on_top, receive_at, returned, started, top_frame, with_values}
use Rattle.ppd_sem.specs.declared.asking.Pause.TheVariants.{Traps, Wants}
use Rattle.ppd_sem.specs.declared.proc.Answer.{Answer}
use Rattle.ppd_sem.specs.declared.proc.Frame.{Frame}
use Rattle.ppd_sem.specs.declared.proc.Need.{Need}
use Rattle.ppd_sem.specs.declared.proc.Need.TheVariants.{Budget, Done, Enter, Offer, Stopped, Trap}
use Rattle.ppd_sem.specs.declared.proc.Proc.{Proc}
use Rattle.ppd_sem.specs.declared.proc.Todo.{Todo}
use Rattle.ppd_sets.proofs.Vocabulary.{calls_at}
use Rattle.ppd_sets.specs.Used.{call_rows, callee, stmts_at}
use Rattle.std.proofs.Common.{Err, List, None, Ok, Option, Some, [], ap, arith, length, map, refl, subst, sym, ℕ, ℤ, ◌+◌, ◌-◌, ◌<◌, ◌∙◌, ◌∷◌, ◌≡◌}
use Rattle.std.specs.List.{range_with_len}
use Rattle.std.specs.Prelude.{IsTrue, drop, get_or, pos, replicate, slice_set, ⊤}

-- ---- links

-- the body of a frame, and the call that began it
abbrev pub Link : Type 0
Link = ℕ × Option ℕ

abbrev pub links : List Frame → List Link
links frames = map (λ f. (f.body, f.call)) frames

links_write : (c : ℕ) (v : ℤ) (frames : List Frame) → links (on_top (λ cells. slice_set cells c v) frames) ≡ links frames
links_write c v [] = refl
links_write c v (f ∷ fs) = refl

links_clear : (base len : ℕ) (frames : List Frame) → links (on_top (with_values (range_with_len base len) (replicate len (pos 0))) frames) ≡ links frames
links_clear base len [] = refl
links_clear base len (f ∷ fs) = refl

links_receive : (into : Option ℕ) (value : Option ℤ) (frames : List Frame) → links (receive_at into value frames) ≡ links frames
links_receive (Some c) (Some v) frames = links_write c v frames
links_receive (Some c) None frames = refl
links_receive None value frames = refl

links_from : (p : Program) (call : Option ℕ) (value : Option ℤ) (frames : List Frame) → links (receive_at (into_at p call) value frames) ≡ links frames
links_from p None value frames = refl
links_from p (Some c) value frames = links_receive (into_of (kind_of p c)) value frames

links_returned : (p : Program) (value : Option ℤ) (frames : List Frame) → links (returned p value frames) ≡ drop 1 (links frames)
links_returned p value [] = refl
links_returned p value (f ∷ fs) = links_from p f.call value fs

-- what a step of statement t does to them
pub data Relinks (p : Program) (t : ℕ) (old new : List Link) : Type 0 where
  same : new ≡ old → Relinks p t old new
  called : (f : ℕ) (args : List ℕ) (into : Option ℕ) → kind_of p t ≡ K.Call f args into → new ≡ (f, Some t) ∷ old → Relinks p t old new
  dropped : new ≡ drop 1 old → Relinks p t old new

module _ (p : Program) (a : Answer) (t : Todo) (ts : List Todo) where
  by_deed : (s : Proc) (d : Deed) (left : List ℤ) → Fits (kind_of p t.stmt) (Ok (d, left)) → Relinks p t.stmt (links s.frames) (links (act_by_deed p a t ts d s).frames)
  by_deed s (set_local c v) left h = same (links_write c v s.frames)
  by_deed s (clear base len) left h = same (links_clear base len s.frames)
  by_deed s (invoke f values into) left h = called f h.arguments h.into h.kind_is refl
  by_deed s (back value) left h = dropped (links_returned p value s.frames)
  by_deed s (receive chan into) left h = same (links_write into _ s.frames)
  by_deed s d left h = same refl

  by_asked : (s : Proc) (asked : Asked Deed) → Fits (kind_of p t.stmt) asked → Relinks p t.stmt (links s.frames) (links (act_by_asked p a t ts asked s).frames)
  by_asked s (Ok q) h = by_deed (record s { answers = [] }) q.0 q.1 h
  by_asked s (Err (Wants c)) h = same refl
  by_asked s (Err (Traps x)) h = same refl

  pub head_fits : (s : Proc) → Fits (kind_of p t.stmt) (head_deed p t s)
  head_fits s = deed_fits p.exprs (top_frame s.frames).cells s.answers (kind_of p t.stmt)

  by_need : (plan : Plan) (s : Proc) (n : Need) → Relinks p t.stmt (links s.frames) (links (act_by_need p plan a t ts n s).frames)
  by_need plan s Stopped = same refl
  by_need plan s Budget = same refl
  by_need plan s (Enter b u) = same refl
  by_need plan s (Offer c v) = same refl
  by_need plan s (Done c u) = same refl
  by_need plan s (Trap x) = same refl
  by_need plan s n = by_asked s (head_deed p t s) (head_fits s)

-- ---- what holds of them

-- the frame was begun by a call of its body, in the body of the frame below it
pub record IsCalled (p : Program) (f : ℕ) (call : Option ℕ) (g : ℕ) : Type 0 where
  pub by : ℕ
  pub call_is : call ≡ Some by
  pub args : List ℕ
  pub into : Option ℕ
  pub kind_is : kind_of p by ≡ K.Call f args into
  pub of_body : body_of p by ≡ g

abbrev pub AreLinked : Program → List Link → Type 0
AreLinked p [] = ⊤
AreLinked p (x ∷ []) = x.1 ≡ None
AreLinked p (x ∷ y ∷ ys) = IsCalled p x.0 x.1 y.0 × AreLinked p (y ∷ ys)

-- the body runs, where it is there
abbrev pub Runs : Program → ℕ → Type 0
Runs p b = b < length p.bodies → Reached (call_rows p) (processes p) b

abbrev pub AllRun : Program → List Link → Type 0
AllRun p [] = ⊤
AllRun p (x ∷ xs) = Runs p x.0 × AllRun p xs

-- a process whose frames are linked, by calls of bodies that run
pub record AreSound (p : Program) (ls : List Link) : Type 0 where
  pub linked : AreLinked p ls
  pub run : AllRun p ls

drop_linked : (p : Program) (ls : List Link) → AreLinked p ls → AreLinked p (drop 1 ls)
drop_linked p [] h = tt
drop_linked p (x ∷ []) h = tt
drop_linked p (x ∷ y ∷ ys) h = h.1

drop_run : (p : Program) (ls : List Link) → AllRun p ls → AllRun p (drop 1 ls)
drop_run p [] h = tt
drop_run p (x ∷ xs) h = h.1

-- a statement of a body that runs calls another one, which so runs
pub calls_run : (p : Program) (t f : ℕ) (args : List ℕ) (into : Option ℕ) → IsValid p → t < length p.stmts → kind_of p t ≡ K.Call f args into → Runs p (body_of p t) → Runs p f
calls_run p t f args into v there is run lt =
    let b : ℕ = body_of p t in
    let below : b < length p.bodies = body_there p t v there in
    let called : IsTrue (has (callee (kind_of p t)) f) = subst (λ (k : Kind). IsTrue (has (callee k) f)) (sym is) (has_first f []) in
    let listed : IsTrue (has (calls_at p b) f) = flat_from (λ s. callee (kind_of p s)) (stmts_at p b) t f (stands_among p t v there) called in
    let e : 0 + b ≡ b = omega arith in
    let at : get_or (call_rows p) b [] ≡ calls_at p b = row_at (calls_at p) 0 (length p.bodies) b below ∙ ap (calls_at p) e in
    next (run below) (subst (λ xs. IsTrue (has xs f)) (sym at) listed)

module _ (p : Program) (v : IsValid p) (t : ℕ) (there : t < length p.stmts) where
  -- the statement is of the top frame
  abbrev pub IsOfTop : List Link → Type 0
  IsOfTop [] = ⊥
  IsOfTop (x ∷ xs) = body_of p t ≡ x.0

  pub relinked : (old new : List Link) → Relinks p t old new → IsOfTop old → AreSound p old → AreSound p new
  relinked old new (same e) top h = subst (λ ls. AreSound p ls) (sym e) h
  relinked old new (dropped e) top h = subst (λ ls. AreSound p ls) (sym e) (record { linked = drop_linked p old h.linked; run = drop_run p old h.run })
  relinked [] new (called f args into is e) top h = absurd top
  relinked (x ∷ xs) new (called f args into is e) top h =
      subst (λ ls. AreSound p ls) (sym e)
      (record {
        linked = (record { by = t; call_is = refl; args = args; into = into; kind_is = is; of_body = top }, h.linked);
        run = (calls_run p t f args into v there is (subst (λ b. Runs p b) (sym top) h.run.0), h.run);
      })

-- the frame with which a process begins
pub started_sound : (p : Program) (plan : Plan) (q budget : ℕ) → AreSound p (links (started p plan q budget).frames)
started_sound p plan q budget = record { linked = refl; run = (λ lt. start (in_bounds_has p.functions (length p.bodies - p.functions) (p.functions + q) (omega arith) (omega arith)), tt) }

-- a step keeps them so
pub relinks : (p : Program) (plan : Plan) (s : Proc) (a : Answer) (t : Todo) (ts : List Todo) → s.todo ≡ t ∷ ts → Relinks p t.stmt (links s.frames) (links (act p plan s a).frames)
relinks p plan s a t ts is = subst (λ (todo : List Todo). Relinks p t.stmt (links s.frames) (links (act_at p plan a todo s).frames)) (sym is) (by_need p a t ts plan s (need_of p plan s))
