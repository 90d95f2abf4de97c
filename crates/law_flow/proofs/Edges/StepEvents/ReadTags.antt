-- The tag of each shared cell that an event reads is that of a step that read it, of the same statement.
use Rattle.law_flow.proofs.Edges.Spans.Steps.{events_are, new_event, told_events}
use Rattle.law_steps.proofs.StaticEdges.SharedCells.Aligned.{deed_answers, evaluates_at}
use Rattle.law_steps.proofs.StaticEdges.SharedCells.Asking.{Finishes, Tells, need_tells}
use Rattle.ppd_ast.specs.Lookups.{kind_of}
use Rattle.ppd_ast.specs.declared.plan.Plan.{Plan}
use Rattle.ppd_ast.specs.declared.program.Program.{Program}
use Rattle.ppd_ast.specs.declared.status.Status.{Status}
use Rattle.ppd_model.specs.FullTrace.{Tag, event_of, tag_past, tags_of, top_tags, trace_by, trace_step}
use Rattle.ppd_model.specs.LocalTags.{AreOwn}
use Rattle.ppd_model.specs.declared.tracing.Story.{Story}
use Rattle.ppd_model.specs.declared.tracing.Taken.{Taken}
use Rattle.ppd_model.specs.declared.tracing.Tracing.{Tracing}
use Rattle.ppd_sem.proofs.Consumed.{reads_taken}
use Rattle.ppd_sem.proofs.NeedWords.{act_at, need_by_status}
use Rattle.ppd_sem.proofs.Progress.{act-stopped}
use Rattle.ppd_sem.specs.Asked.{Asked}
use Rattle.ppd_sem.specs.Consumed.{Takes, WantsInTurn, shared_of, shared_with, values_read}
use Rattle.ppd_sem.specs.Deed.{Deed}
use Rattle.ppd_sem.specs.Described.{evaluates, frame_of, is_event}
use Rattle.ppd_sem.specs.Process.{act, act_by_asked, act_by_need, head_deed, need_of, started, top_frame, value_of}
use Rattle.ppd_sem.specs.Reads.{reads_of_kind}
use Rattle.ppd_sem.specs.declared.asking.Pause.TheVariants.{Traps, Wants}
use Rattle.ppd_sem.specs.declared.event.Access.{Access}
use Rattle.ppd_sem.specs.declared.event.Spot.{Spot}
use Rattle.ppd_sem.specs.declared.event.Spot.TheVariants.{Local, Shared}
use Rattle.ppd_sem.specs.declared.proc.Need.{Need}
use Rattle.ppd_sem.specs.declared.proc.Need.TheVariants.{Budget, Done, Enter, Offer, Read, Stopped, Trap, Write}
use Rattle.ppd_sem.specs.declared.proc.Proc.{Proc}
use Rattle.ppd_sem.specs.declared.proc.Todo.{Todo}
use Rattle.std.proofs.Common.{Bool, Err, List, None, Ok, Option, Some, [], ap, append-nil, append_assoc, false, if◌then◌else◌, length, map, refl, subst, suc, sym, true, zero, ℕ, ℤ, ◌++◌, ◌∙◌, ◌∷◌, ◌≡◌}
use Rattle.std.specs.Prelude.{fold, slice_get, ⊤}

-- ---- answers and their tags

module _ (P : ℕ → Tag → Type 0) (ev : List ℤ → Asked Deed) where
  -- with the answers before, the first cell is wanted, of which the tag is such a one; with its answer behind them the next
  abbrev pub AreTaken : List ℤ → List ℤ → List Tag → Type 0
  AreTaken before [] [] = ⊤
  AreTaken before [] (w ∷ ws) = ⊥
  AreTaken before (v ∷ vs) [] = ⊥
  AreTaken before (v ∷ vs) (w ∷ ws) = (c : ℕ) × (ev before ≡ Err (Wants c)) × P c w × AreTaken (before ++ v ∷ []) vs ws

  -- one more
  taken_more : (before vs : List ℤ) (ws : List Tag) (v : ℤ) (w : Tag) (c : ℕ) → AreTaken before vs ws → ev (before ++ vs) ≡ Err (Wants c) → P c w → AreTaken before (vs ++ v ∷ []) (ws ++ w ∷ [])
  taken_more before [] [] v w c h e is = (c, ap ev (sym (append-nil before)) ∙ e, is, tt)
  taken_more before [] (x ∷ ws) v w c h e is = absurd h
  taken_more before (y ∷ vs) [] v w c h e is = absurd h
  taken_more before (y ∷ vs) (x ∷ ws) v w c h e is = (h.0, h.1, h.2, taken_more (before ++ y ∷ []) vs ws v w c h.3 (ap ev (append_assoc before (y ∷ []) vs) ∙ e) is)

  wanted : Asked Deed → ℕ
  wanted (Ok q) = 0
  wanted (Err (Wants c)) = c
  wanted (Err (Traps x)) = 0

  cell_at : Option Spot → ℕ
  cell_at (Some (Shared n)) = n
  cell_at (Some (Local f n)) = n
  cell_at None = 0

  module _ (ls : List Tag) where
    abbrev spots : List Access → List Spot
    spots as' = map (λ a. a.spot) as'

    abbrev IsAligned : List ℤ → List Access → Type 0
    IsAligned before as' =
        (left : List ℤ) (tags : List Tag) (i c : ℕ) (w : Tag) → WantsInTurn ev before (shared_of as') → AreTaken before (values_read (shared_of as') ++ left) tags
        → slice_get (spots as') i ≡ Some (Shared c) → slice_get (tags_of ls tags as') i ≡ Some w → P c w

    one : (s : Spot) (v : ℤ) (as' : List Access) (before left : List ℤ) (tags : List Tag) (i c : ℕ) (w : Tag) → ((b : List ℤ) → IsAligned b as') → WantsInTurn ev before (shared_with s v (shared_of as'))
        → AreTaken before (values_read (shared_with s v (shared_of as')) ++ left) tags → slice_get (s ∷ spots as') i ≡ Some (Shared c) → slice_get ((tag_past ls tags s).0 ∷ tags_of ls (tag_past ls tags s).1 as') i ≡ Some w → P c w
    unfolding wanted cell_at
    one (Local f d) v as' before left tags zero c w rest wants takes at tag = absurd (cc)
    one (Local f d) v as' before left tags (suc i) c w rest wants takes at tag = rest before left tags i c w wants takes at tag
    one (Shared d) v as' before left [] i c w rest wants takes at tag = absurd takes
    one (Shared d) v as' before left (x ∷ xs) zero c w rest wants takes at tag =
        let cell : takes.0 ≡ d = ap wanted (sym takes.1 ∙ wants.0) in
        let same : d ≡ c = ap cell_at at in
        let is : x ≡ w = cc in
        subst (λ y. P c y) is (subst (λ n. P n x) (cell ∙ same) takes.2)
    one (Shared d) v as' before left (x ∷ xs) (suc i) c w rest wants takes at tag = rest (before ++ v ∷ []) left xs i c w wants.1 takes.3 at tag

    pub aligned : (as' : List Access) (before : List ℤ) → IsAligned before as'
    aligned [] before left tags i c w wants takes at tag = absurd (cc)
    aligned (a ∷ as') before left tags i c w wants takes at tag = one a.spot a.value as' before left tags i c w (λ b. aligned as' b) wants takes at tag

-- ---- one step

abbrev pub TakenAt : (ℕ → Tag → Type 0) → Program → Proc → List Tag → List Todo → Type 0
TakenAt P program s tags [] = ⊤
TakenAt P program s tags (t ∷ ts) = AreTaken P (evaluates_at program t s) [] s.answers tags

-- a process that goes on has answers with such tags
abbrev pub HasAnswers : (ℕ → Tag → Type 0) → Program → Proc → List Tag → Type 0
HasAnswers P program s tags = s.status ≡ None → TakenAt P program s tags s.todo

none_taken : (P : ℕ → Tag → Type 0) (program : Program) (s : Proc) (todo : List Todo) → s.answers ≡ [] → TakenAt P program s [] todo
none_taken P program s [] e = tt
none_taken P program s (t ∷ ts) e = subst (λ vs. AreTaken P (evaluates_at program t s) [] vs []) (sym e) tt

-- a read has such a tag
abbrev pub ReadIs : (ℕ → Tag → Type 0) → Need → Tag → Type 0
ReadIs P (Read c) w = P c w
ReadIs P n w = ⊤

module _ (Q : ℕ → ℕ → Tag → Type 0) (program : Program) (plan : Plan) (story' : Story) (p : ℕ) where
  module _ (x : Taken) where
    -- the tags of the answers after a step of this need
    abbrev tags_by : Need → Tracing → List Tag
    tags_by n u = (trace_by program plan story' p x n u).answers

    module _ (u : Tracing) (t : Todo) (ts : List Todo) (is : u.proc.todo ≡ t ∷ ts) (k : ℕ) (same : ℕ) (had : AreTaken (Q k) (evaluates_at program t u.proc) [] u.proc.answers u.answers) where
      -- a statement that is finished has no answers left
      by_asked : (asked : Asked Deed) → Finishes asked → HasAnswers (Q same) program (act_by_asked program x.answer t ts asked u.proc) []
      by_asked (Ok q) f running =
          none_taken (Q same) program (act_by_asked program x.answer t ts (Ok q) u.proc) (act_by_asked program x.answer t ts (Ok q) u.proc).todo (deed_answers program x.answer t ts q.0 (record u.proc { answers = [] }))
      by_asked (Err (Wants c)) f running = absurd f
      by_asked (Err (Traps y)) f running = absurd (cc)

      still : (todo : List Todo) → todo ≡ t ∷ ts → TakenAt (Q k) program u.proc u.answers todo
      still todo e = subst (λ l. TakenAt (Q k) program u.proc u.answers l) (sym e) had

      reads_on : (c : ℕ) (asked : Asked Deed) → asked ≡ evaluates_at program t u.proc u.proc.answers → asked ≡ Err (Wants c) → Q k c x.writer → HasAnswers (Q k) program (act_by_asked program x.answer t ts asked u.proc) (u.answers ++ x.writer ∷ [])
      reads_on c (Ok q) ev e w running = absurd (cc)
      reads_on c (Err (Traps y)) ev e w running = absurd (cc)
      reads_on c (Err (Wants d)) ev e w running =
          subst (λ todo. TakenAt (Q k) program (act_by_asked program x.answer t ts (Err (Wants d)) u.proc) (u.answers ++ x.writer ∷ []) todo) (sym is)
          (taken_more (Q k) (evaluates_at program t u.proc) [] u.proc.answers u.answers (value_of x.answer) x.writer c had (sym ev ∙ e) w)

      -- an event empties the answers, and any number serves
      by_event : (n : Need) → is_event n ≡ true → Tells n (head_deed program t u.proc) → HasAnswers (Q same) program (act_by_need program plan x.answer t ts n u.proc) (tags_by n u)
      by_event (Read c) e h running = absurd (cc)
      by_event (Enter b y) e h running = absurd (cc)
      by_event Budget e h running = absurd (cc)
      by_event Stopped e h running = absurd (cc)
      by_event (Trap y) e h running = absurd (cc)
      by_event (Offer c v) e h running = tt
      by_event (Done c y) e h running = none_taken (Q same) program (record u.proc { todo = ts; answers = [] }) ts refl
      by_event (Write c v) e h running = by_asked (head_deed program t u.proc) (subst Finishes (sym h.1) tt) running
      by_event n e h running = by_asked (head_deed program t u.proc) h running

      by_other : (n : Need) → is_event n ≡ false → Tells n (head_deed program t u.proc) → ReadIs (Q k) n x.writer → HasAnswers (Q k) program (act_by_need program plan x.answer t ts n u.proc) (tags_by n u)
      by_other (Read c) e h w running = reads_on c (head_deed program t u.proc) refl h w running
      by_other (Enter b y) e h w running = had
      by_other Budget e h w running = absurd (cc)
      by_other Stopped e h w running = still u.proc.todo is
      by_other n e h w running = absurd (cc)

  abbrev next : Tracing → Taken → Tracing
  next u x = trace_step program plan story' p u x

  module _ (u : Tracing) (x : Taken) (own : x.need ≡ need_of program plan u.proc) (w : ReadIs (Q (length u.events)) x.need x.writer) (had : HasAnswers (Q (length u.events)) program u.proc u.answers) where
    with_head : (t : Todo) (ts : List Todo) → u.proc.todo ≡ t ∷ ts → u.proc.status ≡ None → HasAnswers (Q (length (next u x).events)) program (next u x).proc (next u x).answers
    with_head t ts is running = by (is_event x.need) refl
      where
        acts : act program plan u.proc x.answer ≡ act_by_need program plan x.answer t ts (need_of program plan u.proc) u.proc
        acts = ap (λ todo. act_at program plan x.answer todo u.proc) is

        taken : AreTaken (Q (length u.events)) (evaluates_at program t u.proc) [] u.proc.answers u.answers
        taken = subst (λ todo. TakenAt (Q (length u.events)) program u.proc u.answers todo) is (had running)

        tells : Tells x.need (head_deed program t u.proc)
        tells = subst (λ m. Tells m (head_deed program t u.proc)) (sym own) (need_tells program plan u.proc t ts is)

        moved : (P : ℕ → Tag → Type 0) → HasAnswers P program (act_by_need program plan x.answer t ts x.need u.proc) (tags_by x x.need u) → HasAnswers P program (next u x).proc (next u x).answers
        moved P h = subst (λ (s : Proc). HasAnswers P program s (tags_by x x.need u)) (sym (acts ∙ ap (λ m. act_by_need program plan x.answer t ts m u.proc) (sym own))) h

        by : (b : Bool) → is_event x.need ≡ b → HasAnswers (Q (length (next u x).events)) program (next u x).proc (next u x).answers
        by true e = moved (Q (length (next u x).events)) (by_event x u t ts is (length u.events) (length (next u x).events) taken x.need e tells)
        by false e =
            subst (λ k. HasAnswers (Q k) program (next u x).proc (next u x).answers) (ap length (sym (events_are program plan story' p x u x.need ∙ ap (λ b. told_events program plan story' p b x u) e)))
            (moved (Q (length u.events)) (by_other x u t ts is (length u.events) 0 taken x.need e tells w))

    by_todo : (todo : List Todo) → u.proc.todo ≡ todo → u.proc.status ≡ None → HasAnswers (Q (length (next u x).events)) program (next u x).proc (next u x).answers
    by_todo [] is running =
        let same : act program plan u.proc x.answer ≡ u.proc = ap (λ todo. act_at program plan x.answer todo u.proc) is in
        λ goes_on. subst (λ todo. TakenAt (Q (length (next u x).events)) program (next u x).proc (next u x).answers todo) (sym (ap (λ (s : Proc). s.todo) same ∙ is)) tt
    by_todo (t ∷ ts) is running = with_head t ts is running

    by_status : (o : Option Status) → u.proc.status ≡ o → HasAnswers (Q (length (next u x).events)) program (next u x).proc (next u x).answers
    by_status None is = by_todo u.proc.todo refl is
    by_status (Some st) is =
        let stopped : need_of program plan u.proc ≡ Stopped = ap (λ o. need_by_status program plan o u.proc) is in
        let same : act program plan u.proc x.answer ≡ u.proc = act-stopped program plan u.proc x.answer stopped in
        λ goes_on. absurd (some_none (sym is ∙ sym (ap (λ (s : Proc). s.status) same) ∙ goes_on))
      where
        some_none : {A : Type 0} {y : A} → Some y ≡ None → ⊥
        some_none e = cc

  -- after these steps, each read of which has such a tag by the number of the events before it
  pub answers_all : (u : Tracing) (xs : List Taken) → AreOwn program plan u.proc xs → ((before : List Taken) (x : Taken) (after : List Taken) → xs ≡ before ++ x ∷ after → ReadIs (Q (length (fold next u before).events)) x.need x.writer)
      → HasAnswers (Q (length u.events)) program u.proc u.answers → HasAnswers (Q (length (fold next u xs).events)) program (fold next u xs).proc (fold next u xs).answers
  answers_all u [] own w h = h
  answers_all u (x ∷ xs) own w h =
      answers_all (next u x) xs own.1 (λ before y after e. w (x ∷ before) y after (ap (λ l. x ∷ l) e)) (by_status u x own.0 (w [] x xs refl) h u.proc.status refl)

  pub answers_start : (budget : ℕ) → HasAnswers (Q 0) program (started program plan p budget) []
  answers_start budget running = none_taken (Q 0) program (started program plan p budget) (started program plan p budget).todo refl

  -- ---- an event

  tags_there : (b : Bool) (ls tags : List Tag) (xs : List Access) (i : ℕ) (w : Tag) → slice_get (tags_of ls tags (if b then xs else [])) i ≡ Some w → slice_get (tags_of ls tags xs) i ≡ Some w
  tags_there true ls tags xs i w h = h
  tags_there false ls tags xs i w h = absurd (cc)

  reads_there : (b : Bool) (xs : List Access) (i : ℕ) (a : Access) → slice_get (if b then xs else []) i ≡ Some a → slice_get xs i ≡ Some a
  reads_there true xs i a h = h
  reads_there false xs i a h = absurd (cc)

  spot_there : (xs : List Access) (i : ℕ) (a : Access) → slice_get xs i ≡ Some a → slice_get (map (λ a. a.spot) xs) i ≡ Some a.spot
  spot_there [] i a h = absurd (cc)
  spot_there (x ∷ xs) zero a h = let same : x ≡ a = cc in ap (λ (y : Access). Some y.spot) same
  spot_there (x ∷ xs) (suc i) a h = spot_there xs i a h

  -- the tag of a shared read
  pub read_is : (u : Tracing) (x : Taken) (t : Todo) (ts : List Todo) (i c : ℕ) (a : Access) (w : Tag) → u.proc.todo ≡ t ∷ ts → u.proc.status ≡ None → HasAnswers (Q (length u.events)) program u.proc u.answers
      → slice_get (new_event program plan story' p x u).event.reads i ≡ Some a → a.spot ≡ Shared c → slice_get (new_event program plan story' p x u).writers i ≡ Some w → Q (length u.events) c w
  read_is u x t ts i c a w is running had read spot tag =
      let all : List Access = reads_of_kind (frame_of program plan u.proc) program.exprs (kind_of program t.stmt) (top_frame u.proc.frames).cells u.proc.answers in
      let takes : Takes (evaluates_at program t u.proc) u.proc.answers (shared_of all) = reads_taken.statement (frame_of program plan u.proc) program.exprs (kind_of program t.stmt) (top_frame u.proc.frames).cells u.proc.answers in
      let at : slice_get (map (λ a. a.spot) all) i ≡ Some (Shared c) =
      spot_there all i a (reads_there (evaluates (need_of program plan u.proc)) all i a (sym (ap (λ todo. slice_get (event_of program plan u.proc x todo).reads i) is) ∙ read)) ∙ ap Some spot in
      let tags : slice_get (tags_of (top_tags u.activations) u.answers all) i ≡ Some w =
      tags_there (evaluates (need_of program plan u.proc)) (top_tags u.activations) u.answers all i w
      (sym (ap (λ todo. slice_get (tags_of (top_tags u.activations) u.answers (event_of program plan u.proc x todo).reads) i) is) ∙ tag) in
      let taken : AreTaken (Q (length u.events)) (evaluates_at program t u.proc) [] u.proc.answers u.answers = subst (λ todo. TakenAt (Q (length u.events)) program u.proc u.answers todo) is (had running) in
      aligned (Q (length u.events)) (evaluates_at program t u.proc) (top_tags u.activations) all [] takes.left u.answers i c w takes.in_turn
      (subst (λ vs. AreTaken (Q (length u.events)) (evaluates_at program t u.proc) [] vs u.answers) (sym takes.all) taken) at tags
