-- After each step of a process of a valid program the last writes of its local cells come to where it is.
use Rattle.law_steps.proofs.Course.Deeds.{DeedFits, IsBranch}
use Rattle.law_steps.proofs.Course.Frames.{calls_clear, calls_write}
use Rattle.law_steps.proofs.Course.Last.{ends_are_last}
use Rattle.law_steps.proofs.Course.Successors.{has_rising_left, has_rising_right}
use Rattle.law_steps.proofs.Course.Ways.{head_todos}
use Rattle.law_steps.proofs.StaticEdges.Frames.{AreLinked, links}
use Rattle.law_steps.proofs.StaticEdges.OwnCells.Does.{IsLocalWrite, is_own, other_cell}
use Rattle.law_steps.proofs.StaticEdges.OwnCells.Moving.{own_stays, same_body, same_frame, same_tags}
use Rattle.law_steps.proofs.StaticEdges.OwnCells.Tagging.{all_locals, all_others, all_same, set_all, set_other, set_same, tagged_locals, top_changed}
use Rattle.law_steps.proofs.StaticEdges.OwnCells.Ways.{AllCome, NewTag, kept, mine, none}
use Rattle.law_steps.specs.Course.{IsBehind, IsWay, behind, calls_of}
use Rattle.ppd_ast.proofs.Members.{has_first, in_bounds_has}
use Rattle.ppd_ast.specs.Lookups.{body_of, kind_of}
use Rattle.ppd_ast.specs.Members.{has}
use Rattle.ppd_ast.specs.Valid.{IsEnding, IsValid}
use Rattle.ppd_ast.specs.declared.plan.Plan.{Plan}
use Rattle.ppd_ast.specs.declared.program.Kind.{Kind}
use Rattle.ppd_ast.specs.declared.program.Kind.TheVariants as K
use Rattle.ppd_ast.specs.declared.program.Program.{Program}
use Rattle.ppd_sets.specs.Flow.{follow, next_of, successors}
use Rattle.ppd_deps.specs.Edges.{scalar_written}
use Rattle.ppd_model.proofs.Homes.{AreHome, IsHome, bodies-clear, bodies-write}
use Rattle.ppd_model.proofs.Parents.{none_some}
use Rattle.ppd_model.specs.FullTrace.{Tag, tagged_by}
use Rattle.ppd_model.specs.LocalTags.{locals}
use Rattle.ppd_model.specs.declared.trace.EventId.{EventId}
use Rattle.ppd_model.specs.declared.tracing.Activation.{Activation}
use Rattle.ppd_sem.specs.Deed.{Deed, clear, receive, set_local}
use Rattle.ppd_sem.specs.Passed.{next_stmt_of}
use Rattle.ppd_sem.specs.Process.{act_by_deed, on_top, todos, value_of, with_values}
use Rattle.ppd_sem.specs.Runs.{bodies_in, returns}
use Rattle.ppd_sem.specs.declared.proc.Answer.{Answer}
use Rattle.ppd_sem.specs.declared.proc.Frame.{Frame}
use Rattle.ppd_sem.specs.declared.proc.Proc.{Proc}
use Rattle.ppd_sem.specs.declared.proc.Todo.{Todo}
use Rattle.std.proofs.Common.{List, None, Ok, Option, Some, [], ap, false, get_or, inl, inr, length, refl, subst, sym, true, ℕ, ℤ, ◌++◌, ◌+◌, ◌<◌, ◌∙◌, ◌∷◌, ◌≡◌}
use Rattle.std.proofs.lemmas.Bool.{cases_eq, cases_lt}
use Rattle.std.specs.List.{range_with_len}
use Rattle.std.specs.Option.{option_or}
use Rattle.std.specs.Prelude.{IsTrue, option_to_list, pos, replicate, slice_get, slice_set}

-- ---- the tags of what is written

set_new : (k : Kind) (me : EventId) (c : ℕ) (ts : List Tag) → IsLocalWrite k c → (d : ℕ) → NewTag k me d (get_or ts d None) (get_or (slice_set ts c (Some me)) d None)
set_new k me c ts w d = elim (cases_eq d c) [
  | inl same ↦ subst (λ i. NewTag k me i (get_or ts i None) (get_or (slice_set ts c (Some me)) i None)) (sym same) (elim (set_same ts c (Some me)) [
    | inl lost ↦ none lost
    | inr got ↦ mine got w.written
  ])
  | inr other ↦ kept (set_other ts c d (Some me) other) (w.others d other)
]

all_new : (me : EventId) (base len : ℕ) (ts : List Tag) (d : ℕ) → NewTag (K.Zero base len) me d (get_or ts d None) (get_or (set_all base len (Some me) ts) d None)
all_new me base len ts d = elim (cases_lt d base) [
  | inl low ↦ kept (all_others base len d (Some me) ts (inl low)) refl
  | inr up ↦ elim (cases_lt d (base + len)) [
    | inl within ↦ elim (all_same base len d (Some me) ts up within) [
      | inl lost ↦ none lost
      | inr got ↦ mine got (in_bounds_has base len d up within)
    ]
    | inr high ↦ kept (all_others base len d (Some me) ts (inr high)) refl
  ]
]

-- ---- a statement that leaves its frame

module _ (program : Program) (plan : Plan) (v : IsValid program) (E : EventId → ℕ → Type 0) (a : Answer) (t : Todo) (ts : List Todo) (me : EventId) (there : t.stmt < length program.stmts) (is_me : E me t.stmt) where
  abbrev k : Kind
  k = kind_of program t.stmt

  -- where the process is, and what its frames' cells have
  abbrev pub Come : List Todo → List Frame → List (List Tag) → Type 0
  Come todo frames tags = AllCome program E (next_stmt_of todo ∷ calls_of frames) tags

  -- before the step
  pub record Before (s : Proc) (tags : List (List Tag)) : Type 0 where
    pub way : IsWay program plan (calls_of s.frames) (t ∷ ts)
    pub home : AreHome program (bodies_in s.frames) (t ∷ ts)
    pub linked : AreLinked program (links s.frames)
    pub come : AllCome program E (Some t.stmt ∷ calls_of s.frames) tags

  module _ (s : Proc) (acts : List Activation) (b : Before s (locals acts)) where
    -- what is to do behind the statement
    pub follows : returns k ≡ false → next_stmt_of ts ≡ follow program t.stmt
    follows e = (subst (λ r. IsBehind program plan (behind r t.stmt (calls_of s.frames)) ts) e b.way.0).follows

    -- ---- successors

    abbrev pub Leads : List Todo → Type 0
    Leads todo = (h : ℕ) → next_stmt_of todo ≡ Some h → IsTrue (has (next_of program t.stmt) h)

    pub to_next : is_own k ≡ true → ((after : Option ℕ) → successors t.stmt k after ≡ option_to_list after) → Leads ts
    to_next own goes h is =
        let e : next_of program t.stmt ≡ h ∷ [] = goes (follow program t.stmt) ∙ ap option_to_list (sym (follows (own_stays k own)) ∙ is) in
        subst (λ xs. IsTrue (has xs h)) (sym e) (has_first h [])

    pub to_branch : (stmts : List ℕ) → IsBranch k stmts → Leads (todos stmts ++ ts)
    to_branch stmts c h is =
        let after : Option ℕ = follow program t.stmt in
        let first : option_or (slice_get stmts 0) after ≡ Some h = ap (option_or (slice_get stmts 0)) (sym (follows (ap returns c.kind_is))) ∙ sym (head_todos stmts ts) ∙ is in
        subst (λ (kind : Kind). IsTrue (has (successors t.stmt kind after) h)) (sym c.kind_is) (elim c.choice [
          | inl one ↦ has_rising_left (option_or (slice_get c.first 0) after) (option_or (slice_get c.second 0) after) h (ap (λ xs. option_or (slice_get xs 0) after) (sym one) ∙ first)
          | inr two ↦ has_rising_right (option_or (slice_get c.first 0) after) (option_or (slice_get c.second 0) after) h (ap (λ xs. option_or (slice_get xs 0) after) (sym two) ∙ first)
        ])

    pub to_turn : (test : ℕ) (stmts : List ℕ) → k ≡ K.While test stmts → Leads (todos stmts ++ t ∷ ts)
    to_turn test stmts e h is =
        let after : Option ℕ = follow program t.stmt in
        subst (λ (kind : Kind). IsTrue (has (successors t.stmt kind after) h)) (sym e) (has_rising_left (option_or (slice_get stmts 0) (Some t.stmt)) after h (sym (head_todos stmts (t ∷ ts)) ∙ is))

    pub to_leave : (test : ℕ) (body : List ℕ) → k ≡ K.While test body → Leads ts
    to_leave test body e h is =
        let after : Option ℕ = follow program t.stmt in
        subst (λ (kind : Kind). IsTrue (has (successors t.stmt kind after) h)) (sym e) (has_rising_right (option_or (slice_get body 0) (Some t.stmt)) after h (sym (follows (ap returns e)) ∙ is))

    pub to_end : k ≡ K.End → Leads ts
    to_end e h is =
        let last : follow program t.stmt ≡ None = ends_are_last program t.stmt v (subst (λ (kind : Kind). IsEnding kind) (sym e) tt) in
        absurd (none_some (sym last ∙ sym (follows (ap returns e)) ∙ is))

    -- ---- the frames and the tags

    in_body : (todo : List Todo) (frames : List Frame) → bodies_in frames ≡ bodies_in s.frames → AreHome program (bodies_in frames) todo → (h : ℕ) → next_stmt_of todo ≡ Some h → body_of program h ≡ body_of program t.stmt
    in_body todo frames bodies home h is = same_body program (bodies_in s.frames) t ts todo h b.home (subst (λ bs. AreHome program bs todo) bodies home) is

    -- with other tags of the top frame
    moved : (todo : List Todo) (frames : List Frame) (f : List Tag → List Tag) (tags : List (List Tag)) → calls_of frames ≡ calls_of s.frames → bodies_in frames ≡ bodies_in s.frames → AreHome program (bodies_in frames) todo
        → is_own k ≡ true → Leads todo → ((xs : List Tag) (c : ℕ) → NewTag k me c (get_or xs c None) (get_or (f xs) c None)) → tags ≡ top_changed f (locals acts) → Come todo frames tags
    moved todo frames f tags calls bodies home own leads new e =
        subst (λ (xs : List (List Tag)). Come todo frames xs) (sym e) (subst (λ cs. AllCome program E (next_stmt_of todo ∷ cs) (top_changed f (locals acts))) (sym calls)
        (same_frame program E v t.stmt there me is_me own f (calls_of s.frames) (locals acts) (next_stmt_of todo) leads (in_body todo frames bodies home) new b.come))

    -- with the same tags
    pub unmoved : (todo : List Todo) → AreHome program (bodies_in s.frames) todo → is_own k ≡ true → Leads todo → scalar_written k ≡ None → Come todo s.frames (locals acts)
    unmoved todo home own leads unset =
        same_tags program E v t.stmt there me is_me own (calls_of s.frames) (locals acts) (next_stmt_of todo) leads (in_body todo s.frames refl home) unset b.come

    -- what a deed that is neither a call nor a return leaves
    abbrev pub Leaves : Deed → List ℤ → Type 0
    Leaves d left = Come (act_by_deed program a t ts d (record s { answers = [] })).todo (act_by_deed program a t ts d (record s { answers = [] })).frames (locals (tagged_by program s (Some me) (Ok (d, left)) acts))

    abbrev pub HomeAfter : Deed → Type 0
    HomeAfter d = IsHome program (act_by_deed program a t ts d (record s { answers = [] }))

    pub sets_local : (c : ℕ) (x : ℤ) (left : List ℤ) → DeedFits k (set_local c x) → IsLocalWrite k c → HomeAfter (set_local c x) → Leaves (set_local c x) left
    sets_local c x left l w home =
        moved ts (on_top (λ cells. slice_set cells c x) s.frames) (λ xs. slice_set xs c (Some me)) (locals (tagged_by program s (Some me) (Ok (set_local c x, left)) acts)) (calls_write c x s.frames) (bodies-write c x s.frames) home
        w.own (to_next w.own (λ after. l.goes t.stmt after)) (λ xs d. set_new k me c xs w d) (tagged_locals c (Some me) acts)

    pub clears : (base len : ℕ) (left : List ℤ) → k ≡ K.Zero base len → HomeAfter (clear base len) → Leaves (clear base len) left
    clears base len left e home =
        moved ts (on_top (with_values (range_with_len base len) (replicate len (pos 0))) s.frames) (set_all base len (Some me)) (locals (tagged_by program s (Some me) (Ok (clear base len, left)) acts)) (calls_clear base len s.frames) (bodies-clear base len s.frames) home
        (ap is_own e) (to_next (ap is_own e) (λ after. ap (λ (kind : Kind). successors t.stmt kind after) e))
        (λ xs d. subst (λ (kind : Kind). NewTag kind me d (get_or xs d None) (get_or (set_all base len (Some me) xs) d None)) (sym e) (all_new me base len xs d)) (all_locals base len (Some me) acts)

    receives_one : (chan into : ℕ) → k ≡ K.Recv chan into → IsLocalWrite k into
    receives_one chan into e = subst (λ (kind : Kind). IsLocalWrite kind into) (sym e) (record { own = refl; written = has_first into []; others = λ d n. other_cell into d n })

    pub receives : (chan into : ℕ) (left : List ℤ) → k ≡ K.Recv chan into → HomeAfter (receive chan into) → Leaves (receive chan into) left
    receives chan into left e home =
        moved ts (on_top (λ cells. slice_set cells into (value_of a)) s.frames) (λ xs. slice_set xs into (Some me)) (locals (tagged_by program s (Some me) (Ok (receive chan into, left)) acts)) (calls_write into (value_of a) s.frames) (bodies-write into (value_of a) s.frames) home
        (ap is_own e) (to_next (ap is_own e) (λ after. ap (λ (kind : Kind). successors t.stmt kind after) e)) (λ xs d. set_new k me into xs (receives_one chan into e) d) (tagged_locals into (Some me) acts)
