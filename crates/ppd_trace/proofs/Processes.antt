-- The trace of a process, step by step.
use Rattle.std.proofs.Common.{◌≡◌, ℕ, ◌+◌, ◌-◌, ◌<◌, ◌≤◌, ℤ, List, [], ◌∷◌, length, map, take, drop, get_or, pos, Option, Some, None, Result, Ok, Err, OnOk, refl, ap, sym, ◌∙◌, subst, arith}
use Rattle.std.specs.Prelude.{fold, replicate, slice_get, unwrap_or}
use Rattle.std.specs.FinMap.{empty}
use Rattle.std.proofs.lemmas.List.{drop_more, length-replicate, take_all, take_more}
use Rattle.std.proofs.lemmas.List.Sums.{fold-append}
use Rattle.ppd_ast.specs.declared.plan.Plan.{Plan}
use Rattle.ppd_ast.specs.declared.program.Body.{Body}
use Rattle.ppd_ast.specs.declared.program.Program.{Program}
use Rattle.ppd_sem.specs.declared.proc.Proc.{Proc}
use Rattle.ppd_sem.specs.Process.{act, started, top_frame}
use Rattle.ppd_sem.proofs.NeedWords.{cells_for}
use Rattle.ppd_model.specs.declared.tracing.Story.{Story}
use Rattle.ppd_model.specs.declared.tracing.Taken.{Taken}
use Rattle.ppd_model.specs.declared.tracing.Tracing.{Tracing}
use Rattle.ppd_model.specs.FullTrace as trace
use Rattle.ppd_model.specs.FullTrace.{Tag, begun_tracing}
use Rattle.ppd_model.specs.LocalTags.{AreOwn}
use Rattle.ppd_model.proofs.Lists.{get_or_any}
use Rattle.ppd_activations.specs.declared.runs.Run.{Run}
use Rattle.ppd_trace.specs.declared.tracer.Tracer.{Tracer}
use Rattle.ppd_trace.specs.Runs.{begun_body, trace_by, trace_step, tracer_of}
use Rattle.ppd_trace.proofs.Keeping.{few_events, parts, same_proc, step_as}
use Rattle.ppd_ast.specs.Lookups.{body_numbered, no_body}

-- ---- the steps of a process

pub own_next : (program : Program) (plan : Plan) (s : Proc) (own : List Taken) (i : ℕ) (x : Taken) → i < length own → x ≡ get_or own i x → AreOwn program plan s (drop i own)
    → AreOwn program plan s (x ∷ drop (i + 1) own)
own_next program plan s own i x lt is h =
    subst (λ (y : Taken). AreOwn program plan s (y ∷ drop (i + 1) own)) (sym is) (subst (λ (l : List Taken). AreOwn program plan s l) (drop_more own i x lt) h)

pub fold_next : {A B : Type 0} (f : B → A → B) (a : B) (xs : List A) (i : ℕ) (x : A) → i < length xs → x ≡ get_or xs i x → fold f a (take (i + 1) xs) ≡ f (fold f a (take i xs)) x
fold_next f a xs i x lt is =
    ap (fold f a) (take_more xs i x lt) ∙ fold-append f a (take i xs) (get_or xs i x ∷ []) ∙ ap (f (fold f a (take i xs))) (sym is)

-- ---- the start

none_tags : (cells : List ℤ) → ◌≡◌ {A = List Tag} (replicate (length cells) None) (map (λ _. None) cells)
none_tags [] = refl
none_tags (v ∷ vs) = ap (λ (l : List Tag). None ∷ l) (none_tags vs)

abbrev tracer : Proc → List Run → Tracer
tracer s runs = parts s runs [] []

pub begun_is : (program : Program) (plan : Plan) (p budget : ℕ) (s : Proc) (cells : List ℤ) (runs : List Run) (t : Tracer) → t ≡ tracer s runs → s ≡ started program plan p budget → cells ≡ (top_frame s.frames).cells
    → runs ≡ begun_body (length cells) → t ≡ tracer_of (begun_tracing (started program plan p budget))
begun_is program plan p budget s cells runs t t_is s_is c_is r_is =
    let first : List ℤ = (top_frame (started program plan p budget).frames).cells in
    t_is ∙ ap (λ (x : Proc). tracer x runs) s_is
    ∙ ap (λ (l : List Run). tracer (started program plan p budget) l) (r_is ∙ ap (λ (l : List ℤ). begun_body (length l)) c_is ∙ ap (λ (x : Proc). begun_body (length (top_frame x.frames).cells)) s_is)
    ∙ ap (λ (l : List Tag). tracer (started program plan p budget) (record { call = None; tags = l; latest = empty } ∷ [])) (none_tags first)

first_cells : (body : Option Body) → length (cells_for body []) ≡ (unwrap_or body no_body).cells
first_cells None = refl
first_cells (Some body) =
    let all : body.cells - 0 ≡ body.cells = omega arith in
    length-replicate (body.cells - 0) (pos 0) ∙ all

-- as many cells as its body has
pub cells_begun : (program : Program) (plan : Plan) (p budget : ℕ) (s : Proc) (cells : List ℤ) → s ≡ started program plan p budget → cells ≡ (top_frame s.frames).cells
    → length cells ≡ (body_numbered program (program.functions + p)).cells
cells_begun program plan p budget s cells s_is c_is =
    ap length c_is ∙ ap (λ (x : Proc). length (top_frame x.frames).cells) s_is ∙ first_cells (slice_get program.bodies (program.functions + p))

-- ---- a whole step, and the next one

pub stepped_by : {E : Type 0} (r : Result (Unit {0}) E) (program : Program) (plan : Plan) (story : Story) (p : ℕ) (x : Taken) (t u : Tracer) (s : Proc)
    → u ≡ trace_by program plan story p x t → OnOk r (s ≡ act program plan u.proc x.answer) → OnOk r (record u { proc = s } ≡ trace_step program plan story p t x)
stepped_by (Ok k) program plan story p x t u s e f =
    ap (λ (v : Tracer). record v { proc = s }) e
    ∙ ap (λ (q : Proc). record (trace_by program plan story p x t) { proc = q })
    (f ∙ ap (λ (q : Proc). act program plan q x.answer) (ap (λ (v : Tracer). v.proc) e ∙ same_proc program plan story p x t))
stepped_by (Err e) program plan story p x t u s is f = tt

pub own_begun : (program : Program) (plan : Plan) (p budget : ℕ) (own : List Taken) (t : Tracer) → t ≡ tracer_of (begun_tracing (started program plan p budget)) → AreOwn program plan (started program plan p budget) own
    → AreOwn program plan t.proc (drop 0 own)
own_begun program plan p budget own t e h = subst (λ (s : Proc). AreOwn program plan s own) (sym (ap (λ (v : Tracer). v.proc) e)) h

pub none_begun : (program : Program) (plan : Plan) (p budget : ℕ) (t : Tracer) → t ≡ tracer_of (begun_tracing (started program plan p budget)) → length t.events ≤ 0
none_begun program plan p budget t e = let same : length t.events ≡ 0 = ap (λ (v : Tracer). length v.events) e in omega arith

pub own_after : (program : Program) (plan : Plan) (story : Story) (p : ℕ) (own : List Taken) (i : ℕ) (x : Taken) (t u : Tracer) → i < length own → x ≡ get_or own i x → AreOwn program plan t.proc (drop i own)
    → u ≡ trace_step program plan story p t x → AreOwn program plan u.proc (drop (i + 1) own)
own_after program plan story p own i x t u lt is h e =
    subst (λ (s : Proc). AreOwn program plan s (drop (i + 1) own)) (sym (ap (λ (v : Tracer). v.proc) e)) (own_next program plan t.proc own i x lt is h).1

pub few_after : (program : Program) (plan : Plan) (story : Story) (p i : ℕ) (x : Taken) (t u : Tracer) → length t.events ≤ i → u ≡ trace_step program plan story p t x → length u.events ≤ i + 1
few_after program plan story p i x t u lt e =
    let same : length u.events ≡ length (trace_step program plan story p t x).events = ap (λ (v : Tracer). length v.events) e in
    let one : length (trace_step program plan story p t x).events ≤ length t.events + 1 = few_events program plan story p t x in
    omega arith

module _ (program : Program) (plan : Plan) (story : Story) (p : ℕ) where
  -- the trace of these steps
  abbrev pub all : Tracing → List Taken → Tracing
  all first own = fold (trace.trace_step program plan story p) first own

  pub traced_after : (first : Tracing) (own : List Taken) (i : ℕ) (x : Taken) (t u : Tracer) → i < length own → x ≡ get_or own i x
      → t ≡ tracer_of (all first (take i own)) → u ≡ trace_step program plan story p t x → u ≡ tracer_of (all first (take (i + 1) own))
  traced_after first own i x t u lt is inv e =
      e ∙ ap (λ (v : Tracer). trace_step program plan story p v x) inv ∙ sym (step_as program plan story p (all first (take i own)) x)
      ∙ ap tracer_of (sym (fold_next (trace.trace_step program plan story p) first own i x lt is))

  pub traced_whole : (first : Tracing) (own : List Taken) (i : ℕ) (t : Tracer) → length own ≤ i → t ≡ tracer_of (all first (take i own)) → t.events ≡ (all first own).events
  traced_whole first own i t lt e = ap (λ (v : Tracer). v.events) e ∙ ap (λ (l : List Taken). (all first l).events) (take_all i own lt)

-- ---- the next step, as the element of the list whatever stands past its end

module _ (program : Program) (plan : Plan) (story : Story) (p : ℕ) (own : List Taken) (i : ℕ) (d : Taken) (t u : Tracer) (lt : i < length own) (e : u ≡ trace_step program plan story p t (get_or own i d)) where
  there : get_or own i d ≡ get_or own i (get_or own i d)
  there = get_or_any own i d (get_or own i d) lt

  pub traced_on : (first : Tracing) → t ≡ tracer_of (all program plan story p first (take i own)) → u ≡ tracer_of (all program plan story p first (take (i + 1) own))
  traced_on first inv = traced_after program plan story p first own i (get_or own i d) t u lt there inv e

  pub own_on : AreOwn program plan t.proc (drop i own) → AreOwn program plan u.proc (drop (i + 1) own)
  own_on h = own_after program plan story p own i (get_or own i d) t u lt there h e

  pub few_on : length t.events ≤ i → length u.events ≤ i + 1
  few_on few = few_after program plan story p i (get_or own i d) t u few e
