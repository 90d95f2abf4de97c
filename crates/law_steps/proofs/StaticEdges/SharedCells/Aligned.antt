-- The answers that a statement has so far are of the cells that it wanted in turn, and their tags those of the cells' writers.
use Rattle.law_steps.proofs.StaticEdges.SharedCells.Asking.{Finishes, Tells, need_tells}
use Rattle.law_steps.proofs.StaticEdges.SharedCells.Writers.{EachReadIs, IsWriter, ReadIs}
use Rattle.ppd_ast.specs.Lookups.{kind_of}
use Rattle.ppd_ast.specs.declared.plan.Plan.{Plan}
use Rattle.ppd_ast.specs.declared.program.Program.{Program}
use Rattle.ppd_ast.specs.declared.status.Status.{Status}
use Rattle.ppd_model.proofs.Parents.{none_some}
use Rattle.ppd_model.specs.FullTrace.{Tag, tag_past, tags_of, trace_by, trace_step}
use Rattle.ppd_model.specs.LocalTags.{AreOwn}
use Rattle.ppd_model.specs.declared.tracing.Story.{Story}
use Rattle.ppd_model.specs.declared.tracing.Taken.{Taken}
use Rattle.ppd_model.specs.declared.tracing.Tracing.{Tracing}
use Rattle.ppd_sem.proofs.NeedWords.{act_at, need_by_status}
use Rattle.ppd_sem.proofs.Progress.{act-stopped}
use Rattle.ppd_sem.specs.Asked.{Asked}
use Rattle.ppd_sem.specs.Consumed.{WantsInTurn, shared_of, shared_with, values_read}
use Rattle.ppd_sem.specs.Deed.{Deed, ask_deed, back, clear, invoke, receive, set_local}
use Rattle.ppd_sem.specs.Process.{act, act_by_asked, act_by_deed, act_by_need, head_deed, need_of, started, top_frame, value_of}
use Rattle.ppd_sem.specs.declared.asking.Pause.TheVariants.{Traps, Wants}
use Rattle.ppd_sem.specs.declared.event.Access.{Access}
use Rattle.ppd_sem.specs.declared.event.Spot.{Spot}
use Rattle.ppd_sem.specs.declared.event.Spot.TheVariants.{Local, Shared}
use Rattle.ppd_sem.specs.declared.proc.Answer.{Answer}
use Rattle.ppd_sem.specs.declared.proc.Need.{Need}
use Rattle.ppd_sem.specs.declared.proc.Need.TheVariants.{Budget, Done, Enter, Offer, Read, Stopped, Trap, Write}
use Rattle.ppd_sem.specs.declared.proc.Proc.{Proc}
use Rattle.ppd_sem.specs.declared.proc.Todo.{Todo}
use Rattle.std.proofs.Common.{Err, List, None, Ok, Option, Some, [], ap, append-nil, append_assoc, map, refl, subst, suc, sym, zero, ℕ, ℤ, ◌++◌, ◌∙◌, ◌∷◌, ◌≡◌}
use Rattle.std.specs.Prelude.{fold, slice_get, ⊤}

-- ---- answers and their tags

-- with the answers before, the first cell is wanted, of which the tag is a writer; with its answer behind them the next
abbrev pub AreTaken : List (List Taken) → (List ℤ → Asked Deed) → List ℤ → List ℤ → List Tag → Type 0
AreTaken steps ev before [] [] = ⊤
AreTaken steps ev before [] (w ∷ ws) = ⊥
AreTaken steps ev before (v ∷ vs) [] = ⊥
AreTaken steps ev before (v ∷ vs) (w ∷ ws) = (c : ℕ) × (ev before ≡ Err (Wants c)) × IsWriter steps c w × AreTaken steps ev (before ++ v ∷ []) vs ws

-- one more
taken_more : (steps : List (List Taken)) (ev : List ℤ → Asked Deed) (before vs : List ℤ) (ws : List Tag) (v : ℤ) (w : Tag) (c : ℕ) → AreTaken steps ev before vs ws → ev (before ++ vs) ≡ Err (Wants c) → IsWriter steps c w → AreTaken steps ev before (vs ++ v ∷ []) (ws ++ w ∷ [])
taken_more steps ev before [] [] v w c h e is = (c, ap ev (sym (append-nil before)) ∙ e, is, tt)
taken_more steps ev before [] (x ∷ ws) v w c h e is = absurd h
taken_more steps ev before (y ∷ vs) [] v w c h e is = absurd h
taken_more steps ev before (y ∷ vs) (x ∷ ws) v w c h e is = (h.0, h.1, h.2, taken_more steps ev (before ++ y ∷ []) vs ws v w c h.3 (ap ev (append_assoc before (y ∷ []) vs) ∙ e) is)

abbrev wanted : Asked Deed → ℕ
wanted (Ok q) = 0
wanted (Err (Wants c)) = c
wanted (Err (Traps x)) = 0

abbrev cell_at : Option Spot → ℕ
cell_at (Some (Shared n)) = n
cell_at (Some (Local f n)) = n
cell_at None = 0

-- the tag of a shared read is of a writer of its cell
module _ (steps : List (List Taken)) (ev : List ℤ → Asked Deed) (ls : List Tag) where
  abbrev spots : List Access → List Spot
  spots as' = map (λ a. a.spot) as'

  abbrev IsAligned : List ℤ → List Access → Type 0
  IsAligned before as' =
      (left : List ℤ) (tags : List Tag) (i c : ℕ) (w : Tag) → WantsInTurn ev before (shared_of as') → AreTaken steps ev before (values_read (shared_of as') ++ left) tags
      → slice_get (spots as') i ≡ Some (Shared c) → slice_get (tags_of ls tags as') i ≡ Some w → IsWriter steps c w

  one : (s : Spot) (v : ℤ) (as' : List Access) (before left : List ℤ) (tags : List Tag) (i c : ℕ) (w : Tag) → ((b : List ℤ) → IsAligned b as') → WantsInTurn ev before (shared_with s v (shared_of as'))
      → AreTaken steps ev before (values_read (shared_with s v (shared_of as')) ++ left) tags → slice_get (s ∷ spots as') i ≡ Some (Shared c) → slice_get ((tag_past ls tags s).0 ∷ tags_of ls (tag_past ls tags s).1 as') i ≡ Some w → IsWriter steps c w
  one (Local f d) v as' before left tags zero c w rest wants takes at tag = absurd (cc)
  one (Local f d) v as' before left tags (suc i) c w rest wants takes at tag = rest before left tags i c w wants takes at tag
  one (Shared d) v as' before left [] i c w rest wants takes at tag = absurd takes
  one (Shared d) v as' before left (x ∷ xs) zero c w rest wants takes at tag =
      let cell : takes.0 ≡ d = ap wanted (sym takes.1 ∙ wants.0) in
      let same : d ≡ c = ap cell_at at in
      let is : x ≡ w = cc in
      subst (λ y. IsWriter steps c y) is (subst (λ n. IsWriter steps n x) (cell ∙ same) takes.2)
  one (Shared d) v as' before left (x ∷ xs) (suc i) c w rest wants takes at tag = rest (before ++ v ∷ []) left xs i c w wants.1 takes.3 at tag

  pub aligned : (as' : List Access) (before : List ℤ) → IsAligned before as'
  aligned [] before left tags i c w wants takes at tag = absurd (cc)
  aligned (a ∷ as') before left tags i c w wants takes at tag = one a.spot a.value as' before left tags i c w (λ b. aligned as' b) wants takes at tag

-- ---- one step

-- what a statement asks for, by its answers
abbrev pub evaluates_at : Program → Todo → Proc → List ℤ → Asked Deed
evaluates_at program t s answers = ask_deed program.exprs (kind_of program t.stmt) (top_frame s.frames).cells answers

abbrev pub TakenAt : Program → List (List Taken) → Proc → List Tag → List Todo → Type 0
TakenAt program steps s tags [] = ⊤
TakenAt program steps s tags (t ∷ ts) = AreTaken steps (evaluates_at program t s) [] s.answers tags

-- a process that goes on has answers with such tags
abbrev pub HasAnswers : Program → List (List Taken) → Proc → List Tag → Type 0
HasAnswers program steps s tags = s.status ≡ None → TakenAt program steps s tags s.todo

none_taken : (program : Program) (steps : List (List Taken)) (s : Proc) (todo : List Todo) → s.answers ≡ [] → TakenAt program steps s [] todo
none_taken program steps s [] e = tt
none_taken program steps s (t ∷ ts) e = subst (λ vs. AreTaken steps (evaluates_at program t s) [] vs []) (sym e) tt

pub deed_answers : (program : Program) (a : Answer) (t : Todo) (ts : List Todo) (d : Deed) (s : Proc) → (act_by_deed program a t ts d s).answers ≡ s.answers
deed_answers program a t ts (set_local c v) s = refl
deed_answers program a t ts (clear base len) s = refl
deed_answers program a t ts (invoke f values into) s = refl
deed_answers program a t ts (back value) s = refl
deed_answers program a t ts (receive chan into) s = refl
deed_answers program a t ts d s = refl

module _ (program : Program) (plan : Plan) (story : Story) (p : ℕ) (x : Taken) (steps : List (List Taken)) where
  -- the tags of the answers after a step of this need
  abbrev pub tags_by : Need → Tracing → List Tag
  tags_by n u = (trace_by program plan story p x n u).answers

  module _ (u : Tracing) (t : Todo) (ts : List Todo) (is : u.proc.todo ≡ t ∷ ts) (had : AreTaken steps (evaluates_at program t u.proc) [] u.proc.answers u.answers) where
    -- a statement that is finished has no answers left
    by_asked : (asked : Asked Deed) → Finishes asked → HasAnswers program steps (act_by_asked program x.answer t ts asked u.proc) []
    by_asked (Ok q) f running =
        none_taken program steps (act_by_asked program x.answer t ts (Ok q) u.proc) (act_by_asked program x.answer t ts (Ok q) u.proc).todo (deed_answers program x.answer t ts q.0 (record u.proc { answers = [] }))
    by_asked (Err (Wants c)) f running = absurd f
    by_asked (Err (Traps y)) f running = absurd (cc)

    still : (todo : List Todo) → todo ≡ t ∷ ts → TakenAt program steps u.proc u.answers todo
    still todo e = subst (λ l. TakenAt program steps u.proc u.answers l) (sym e) had

    reads_on : (c : ℕ) (asked : Asked Deed) → asked ≡ evaluates_at program t u.proc u.proc.answers → asked ≡ Err (Wants c) → IsWriter steps c x.writer → HasAnswers program steps (act_by_asked program x.answer t ts asked u.proc) (u.answers ++ x.writer ∷ [])
    reads_on c (Ok q) ev e w running = absurd (cc)
    reads_on c (Err (Traps y)) ev e w running = absurd (cc)
    reads_on c (Err (Wants d)) ev e w running =
        subst (λ todo. TakenAt program steps (act_by_asked program x.answer t ts (Err (Wants d)) u.proc) (u.answers ++ x.writer ∷ []) todo) (sym is)
        (taken_more steps (evaluates_at program t u.proc) [] u.proc.answers u.answers (value_of x.answer) x.writer c had (sym ev ∙ e) w)

    by_need : (n : Need) → Tells n (head_deed program t u.proc) → ReadIs steps n x.writer → HasAnswers program steps (act_by_need program plan x.answer t ts n u.proc) (tags_by n u)
    by_need (Read c) h w running = reads_on c (head_deed program t u.proc) refl h w running
    by_need (Enter b y) h w running = had
    by_need Budget h w running = absurd (cc)
    by_need Stopped h w running = still u.proc.todo is
    by_need (Trap y) h w running = absurd (cc)
    by_need (Offer c v) h w running = tt
    by_need (Done c y) h w running = none_taken program steps (record u.proc { todo = ts; answers = [] }) ts refl
    by_need (Write c v) h w running = by_asked (head_deed program t u.proc) (subst Finishes (sym h.1) tt) running
    by_need n h w running = by_asked (head_deed program t u.proc) h running

-- ---- all steps

module _ (program : Program) (plan : Plan) (story : Story) (p : ℕ) (steps : List (List Taken)) where
  abbrev next : Tracing → Taken → Tracing
  next u x = trace_step program plan story p u x

  module _ (u : Tracing) (x : Taken) (own : x.need ≡ need_of program plan u.proc) (w : ReadIs steps x.need x.writer) (had : HasAnswers program steps u.proc u.answers) where
    with_head : (t : Todo) (ts : List Todo) → u.proc.todo ≡ t ∷ ts → u.proc.status ≡ None → HasAnswers program steps (next u x).proc (next u x).answers
    with_head t ts is running =
        let n : Need = need_of program plan u.proc in
        let acts : act program plan u.proc x.answer ≡ act_by_need program plan x.answer t ts n u.proc = ap (λ todo. act_at program plan x.answer todo u.proc) is in
        let taken : AreTaken steps (evaluates_at program t u.proc) [] u.proc.answers u.answers = subst (λ todo. TakenAt program steps u.proc u.answers todo) is (had running) in
        let reads : ReadIs steps n x.writer = subst (λ m. ReadIs steps m x.writer) own w in
        let now : HasAnswers program steps (act_by_need program plan x.answer t ts n u.proc) (tags_by program plan story p x steps n u) =
        by_need program plan story p x steps u t ts is taken n (need_tells program plan u.proc t ts is) reads in
        subst (λ m. HasAnswers program steps (act program plan u.proc x.answer) (tags_by program plan story p x steps m u)) (sym own)
        (subst (λ (s : Proc). HasAnswers program steps s (tags_by program plan story p x steps n u)) (sym acts) now)

    by_todo : (todo : List Todo) → u.proc.todo ≡ todo → u.proc.status ≡ None → HasAnswers program steps (next u x).proc (next u x).answers
    by_todo [] is running =
        let same : act program plan u.proc x.answer ≡ u.proc = ap (λ todo. act_at program plan x.answer todo u.proc) is in
        λ goes_on. subst (λ todo. TakenAt program steps (next u x).proc (next u x).answers todo) (sym (ap (λ (s : Proc). s.todo) same ∙ is)) tt
    by_todo (t ∷ ts) is running = with_head t ts is running

    by_status : (o : Option Status) → u.proc.status ≡ o → HasAnswers program steps (next u x).proc (next u x).answers
    by_status None is = by_todo u.proc.todo refl is
    by_status (Some st) is =
        let stopped : need_of program plan u.proc ≡ Stopped = ap (λ o. need_by_status program plan o u.proc) is in
        let same : act program plan u.proc x.answer ≡ u.proc = act-stopped program plan u.proc x.answer stopped in
        λ goes_on. absurd (none_some (sym goes_on ∙ ap (λ (s : Proc). s.status) same ∙ is))

  pub answers_all : (u : Tracing) (xs : List Taken) → AreOwn program plan u.proc xs → EachReadIs steps xs → HasAnswers program steps u.proc u.answers
      → HasAnswers program steps (fold (trace_step program plan story p) u xs).proc (fold (trace_step program plan story p) u xs).answers
  answers_all u [] own w h = h
  answers_all u (x ∷ xs) own w h = answers_all (next u x) xs own.1 w.1 (by_status u x own.0 w.0 h u.proc.status refl)

  pub answers_start : (budget : ℕ) → HasAnswers program steps (started program plan p budget) []
  answers_start budget running = none_taken program steps (started program plan p budget) (started program plan p budget).todo refl
