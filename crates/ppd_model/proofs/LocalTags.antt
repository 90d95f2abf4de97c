-- The tag of a local cell is the event that last wrote it in the cell's activation.
use Rattle.ppd_model.specs.Setting.{Setting}
use Rattle.std.proofs.Common.{◌≡◌, ℕ, zero, suc, ◌+◌, ◌<◌, ◌≤◌, ℤ, List, [], ◌∷◌, ◌++◌, None, refl, ap, sym, subst, ◌∙◌, length, map, get_or, inl, inr, ◌⊎◌, arith}
use Rattle.std.specs.Prelude.{⊤, ◌-◌, fold, slice_get}
use Rattle.std.proofs.lemmas.Bool.{cases_Bool, cases_eq, cases_lt}
use Rattle.std.proofs.lemmas.List.{length-map}
use Rattle.ppd_ast.specs.declared.plan.Plan.{Plan}
use Rattle.ppd_ast.specs.declared.program.Program.{Program}
use Rattle.ppd_sem.specs.declared.proc.Frame.{Frame}
use Rattle.ppd_sem.specs.declared.proc.Proc.{Proc}
use Rattle.ppd_sem.specs.Process.{act, need_of, started}
use Rattle.ppd_sem.specs.Runs.{sizes}
use Rattle.ppd_model.specs.FullTrace.{Activation, Tag, Tracing, begun_tracing, trace_step}
use Rattle.ppd_model.specs.LocalTags.{AreOwn, HasTags, IsLastLocalWrite, IsLocalTag, IsSteady, IsUnwrittenSinceCall, LocalTagsAreLastWrites, ReadsAreOfTheTop, SchedulesTagLastWrites, StoriesTellOwnSteps, TagsItsWrites, cells_in, is_local_write, local_tag, locals}
use Rattle.ppd_model.specs.Schedule.{started_world}
use Rattle.ppd_model.specs.States.{act_on, states_from}
use Rattle.ppd_model.specs.Story.{Story, Taken, Telling, begun, moment_of, steps_of, story, tell, told}
use Rattle.ppd_model.specs.World.{change}
use Rattle.ppd_model.proofs.WorldWords.{need_at}
use Rattle.ppd_model.proofs.FromEnd.{hit, miss, past}
use Rattle.ppd_model.proofs.LocalSteps.{tags_its_writes}
use Rattle.ppd_model.proofs.States.{states-begun, states-tell}
use Rattle.ppd_model.proofs.Stories.{steps-change}
use Rattle.ppd_model.proofs.LocalDeeds.{no_tag}

pub has_all : (program : Program) (plan : Plan) (story : Story) (p : ℕ) (t : Tracing) (xs : List Taken) → HasTags t → AreOwn program plan t.proc xs → HasTags (fold (trace_step program plan story p) t xs)
has_all program plan story p t [] has own = has
has_all program plan story p t (x ∷ xs) has own =
    has_all program plan story p (trace_step program plan story p t x) xs (tags_its_writes program plan story p t x has own.0).has_tags own.1

module _ (program : Program) (plan : Plan) (story : Story) (p k c : ℕ) where
  abbrev next : Tracing → Taken → Tracing
  next t x = trace_step program plan story p t x

  abbrev after_all : Tracing → List Taken → Tracing
  after_all t xs = fold (trace_step program plan story p) t xs

  -- no step writes the cell of an activation that was there before them
  record IsKept (t : Tracing) (steps : List Taken) (tag : Tag) : Type 0 where
    is_there : k < length t.proc.frames
    tag_is : tag ≡ local_tag t.activations k c
    steady : IsSteady program plan k c t.proc steps

  abbrev Found : Tracing → List Taken → Tag → Type 0
  Found t steps tag =
      IsLastLocalWrite program plan story p k c t steps tag ⊎ (IsUnwrittenSinceCall program plan story p k c t steps tag ⊎ IsKept t steps tag)

  later_write : (t : Tracing) (x : Taken) (xs : List Taken) (tag : Tag) → IsLastLocalWrite program plan story p k c (next t x) xs tag → IsLastLocalWrite program plan story p k c t (x ∷ xs) tag
  later_write t x xs tag w = record { before = x ∷ w.before; taken = w.taken; after = w.after; steps_are = ap (λ ys. x ∷ ys) w.steps_are; writes = w.writes; tag_is = w.tag_is; steady = w.steady }

  later_call : (t : Tracing) (x : Taken) (xs : List Taken) (tag : Tag) → IsUnwrittenSinceCall program plan story p k c (next t x) xs tag → IsUnwrittenSinceCall program plan story p k c t (x ∷ xs) tag
  later_call t x xs tag w = record { before = x ∷ w.before; taken = w.taken; after = w.after; steps_are = ap (λ ys. x ∷ ys) w.steps_are; is_new = w.is_new; begins = w.begins; no_write = w.no_write; tag_is = w.tag_is; steady = w.steady }

  -- where no step of the rest writes the cell, the first one decides
  first : (t : Tracing) (x : Taken) (xs : List Taken) (tag : Tag) → TagsItsWrites program plan p t (next t x) x → c < cells_in (next t x).proc.frames k → IsKept (next t x) xs tag → Found t (x ∷ xs) tag
  first t x xs tag d lt s = elim (cases_Bool (is_local_write program plan k c t.proc x)) [
    | inl is ↦ inl (record { before = []; taken = x; after = xs; steps_are = refl; writes = is; tag_is = s.tag_is ∙ d.written k c is lt; steady = s.steady })
    | inr no_write ↦ elim (cases_lt k (length t.proc.frames)) [
      | inl there ↦ inr (inr (record { is_there = there; tag_is = s.tag_is ∙ d.kept k c no_write there s.is_there; steady = (no_write, (s.is_there, s.steady)) }))
      | inr new ↦ inr (inl (record { before = []; taken = x; after = xs; steps_are = refl; is_new = new; begins = s.is_there; no_write = no_write; tag_is = s.tag_is ∙ d.fresh k c no_write new; steady = s.steady }))
    ]
  ]

  -- an activation that goes on keeps the number of its cells
  same_cells : (t : Tracing) (xs : List Taken) → HasTags t → AreOwn program plan t.proc xs → k < length t.proc.frames → IsSteady program plan k c t.proc xs
      → cells_in (after_all t xs).proc.frames k ≡ cells_in t.proc.frames k
  same_cells t [] has own lt steady = refl
  same_cells t (x ∷ xs) has own lt steady =
      let d : TagsItsWrites program plan p t (next t x) x = tags_its_writes program plan story p t x has own.0 in
      same_cells (next t x) xs d.has_tags own.1 steady.1.0 steady.1.1 ∙ d.same_cells k lt steady.1.0

  is_there : (frames : List Frame) → c < cells_in frames k → k < length frames
  is_there frames lt = elim (cases_lt k (length frames)) [
    | inl there ↦ there
    | inr le ↦
        let no : cells_in frames k ≡ 0 = past 0 (sizes frames) k (subst (λ n. n ≤ k) (sym (length-map frames (λ f. length f.cells))) le) in
        absurd (omega arith)
  ]

  found : (t : Tracing) (xs : List Taken) → HasTags t → AreOwn program plan t.proc xs → c < cells_in (after_all t xs).proc.frames k → Found t xs (local_tag (after_all t xs).activations k c)
  found t [] has own lt = inr (inr (record { is_there = is_there t.proc.frames lt; tag_is = refl; steady = tt }))
  found t (x ∷ xs) has own lt =
      let d : TagsItsWrites program plan p t (next t x) x = tags_its_writes program plan story p t x has own.0 in
      let tag : Tag = local_tag (after_all t (x ∷ xs)).activations k c in
      elim (found (next t x) xs d.has_tags own.1 lt) [
        | inl w ↦ inl (later_write t x xs tag w)
        | inr rest ↦ elim rest [
          | inl w ↦ inr (inl (later_call t x xs tag w))
          | inr s ↦ first t x xs tag d (subst (λ n. c < n) (same_cells (next t x) xs d.has_tags own.1 s.is_there s.steady) lt) s
        ]
      ]

  from_start : (t : Tracing) (xs : List Taken) → local_tag t.activations k c ≡ None → HasTags t → AreOwn program plan t.proc xs → c < cells_in (after_all t xs).proc.frames k
      → IsLocalTag program plan story p k c t xs (local_tag (after_all t xs).activations k c)
  from_start t xs none has own lt = elim (found t xs has own lt) [
    | inl w ↦ inl w
    | inr rest ↦ elim rest [
      | inl w ↦ inr (inl w)
      | inr s ↦ inr (inr (record { is_there = s.is_there; tag_is = s.tag_is ∙ none; steady = s.steady }))
    ]
  ]

-- ---- the start

-- the activations of frames that have no tags
abbrev pub begun_at : List Frame → List Activation
begun_at frames = map (λ f. record { call = None; tags = map (λ _. None) f.cells; tests = [] }) frames

pub has_begun : (frames : List Frame) → map length (locals (begun_at frames)) ≡ sizes frames
has_begun [] = refl
has_begun (f ∷ fs) = ap (λ n. n ∷ map length (locals (begun_at fs))) (length-map f.cells (λ _. no_tag)) ∙ ap (λ ns. length f.cells ∷ ns) (has_begun fs)

none_at : (cells : List ℤ) (c : ℕ) → get_or (map (λ _. no_tag) cells) c None ≡ None
none_at [] c = refl
none_at (x ∷ xs) zero = refl
none_at (x ∷ xs) (suc c) = none_at xs c

none_begun : (frames : List Frame) (k c : ℕ) → local_tag (begun_at frames) k c ≡ None
none_begun [] k c = refl
none_begun (f ∷ fs) k c = elim (cases_eq k (length (locals (begun_at fs)))) [
  | inl is ↦ ap (λ xs. get_or xs c None) (hit [] (map (λ _. no_tag) f.cells) (locals (begun_at fs)) k is) ∙ none_at f.cells c
  | inr n ↦ ap (λ xs. get_or xs c None) (miss [] (map (λ _. no_tag) f.cells) (locals (begun_at fs)) k n) ∙ none_begun fs k c
]

pub local_tags : LocalTagsAreLastWrites
local_tags setting story p steps own =
    let t : Tracing = begun_tracing (started setting.program setting.plan p setting.budget) in
    record {
      has_tags = has_all setting.program setting.plan story p t steps (has_begun t.proc.frames) own;
      tags_are = λ k c lt. from_start setting.program setting.plan story p k c t steps (none_begun t.proc.frames k c) (has_begun t.proc.frames) own lt;
    }

-- ---- the steps of a story

module _ (setting : Setting) where
  own-append : (s : Proc) (xs : List Taken) (x : Taken) → AreOwn setting.program setting.plan s xs → x.need ≡ need_of setting.program setting.plan (fold (act_on setting.program setting.plan) s xs) → AreOwn setting.program setting.plan s (xs ++ x ∷ [])
  own-append s [] x own e = (e, tt)
  own-append s (y ∷ ys) x own e = (own.0, own-append (act setting.program setting.plan s y.answer) ys x own.1 e)

  -- the steps of the processes from number p on are their own
  AllOwn : ℕ → List (List Taken) → Type 0
  AllOwn p [] = ⊤
  AllOwn p (xs ∷ rest) = AreOwn setting.program setting.plan (started setting.program setting.plan p setting.budget) xs × AllOwn (p + 1) rest

  own-change : (x : Taken) (q p : ℕ) (steps : List (List Taken)) → AllOwn p steps → x.need ≡ need_at setting.program setting.plan (slice_get (states_from setting p steps) q)
      → AllOwn p (change (λ xs. xs ++ x ∷ []) q steps)
  unfolding AllOwn
  own-change x q p [] own e = tt
  own-change x zero p (xs ∷ rest) own e = (own-append (started setting.program setting.plan p setting.budget) xs x own.0 e, own.1)
  own-change x (suc q) p (xs ∷ rest) own e = (own.0, own-change x q (p + 1) rest own.1 e)

  own_begun : (p : ℕ) (procs : List Proc) → AllOwn p (map steps_of (map (λ _. []) procs))
  unfolding AllOwn
  own_begun p [] = tt
  own_begun p (s ∷ ss) = (tt, own_begun (p + 1) ss)

  own_fold : (t : Telling) (h : List ℕ) → t.world.procs ≡ states_from setting 0 (map steps_of t.moments) → AllOwn 0 (map steps_of t.moments)
      → AllOwn 0 (map steps_of (fold (tell setting.program setting.plan) t h).moments)
  own_fold t [] e own = own
  own_fold t (p ∷ h) e own =
      own_fold (tell setting.program setting.plan t p) h (states-tell setting t p e)
      (subst (λ xs. AllOwn 0 xs) (sym (steps-change (moment_of setting.program setting.plan t p) p t.moments))
      (own-change (moment_of setting.program setting.plan t p).taken p 0 (map steps_of t.moments) own (ap (λ ss. need_at setting.program setting.plan (slice_get ss p)) e)))

  own_at : (p i : ℕ) (steps : List (List Taken)) → AllOwn p steps → AreOwn setting.program setting.plan (started setting.program setting.plan (p + i) setting.budget) (get_or steps i [])
  unfolding AllOwn
  own_at p i [] own = tt
  own_at p zero (xs ∷ rest) own = subst (λ n. AreOwn setting.program setting.plan (started setting.program setting.plan n setting.budget) xs) (let e : p ≡ p + 0 = omega arith in e) own.0
  own_at p (suc i) (xs ∷ rest) own =
      subst (λ n. AreOwn setting.program setting.plan (started setting.program setting.plan n setting.budget) (get_or rest i [])) (let e : p + 1 + i ≡ p + suc i = omega arith in e) (own_at (p + 1) i rest own.1)

  all_own : (h : List ℕ) → AllOwn 0 (map steps_of (told setting h).moments)
  all_own h =
      own_fold (begun (started_world setting)) h (sym (states-begun setting 0 (length setting.program.bodies - setting.program.functions)))
      (own_begun 0 (started_world setting).procs)

pub own_steps_told : StoriesTellOwnSteps
own_steps_told setting h p =
    subst (λ n. AreOwn setting.program setting.plan (started setting.program setting.plan n setting.budget) (get_or (story setting h).steps p [])) (let e : 0 + p ≡ p = omega arith in e)
    (own_at setting 0 p (map steps_of (told setting h).moments) (all_own setting h))

pub own-before : (program : Program) (plan : Plan) (s : Proc) (before after : List Taken) → AreOwn program plan s (before ++ after) → AreOwn program plan s before
own-before program plan s [] after own = tt
own-before program plan s (x ∷ xs) after own = (own.0, own-before program plan (act program plan s x.answer) xs after own.1)

pub schedules_tag : SchedulesTagLastWrites
schedules_tag setting h p before after e =
    local_tags setting (story setting h) p before
    (own-before setting.program setting.plan (started setting.program setting.plan p setting.budget) before after
    (subst (λ xs. AreOwn setting.program setting.plan (started setting.program setting.plan p setting.budget) xs) e (own_steps_told setting h p)))

pub top_reads : ReadsAreOfTheTop
top_reads [] answers frame c = refl
top_reads (x ∷ xs) answers frame c =
    ap (λ ts. get_or ts c None) (sym (hit [] x.tags (locals xs) (length (x ∷ xs) - 1) (let e : length (x ∷ xs) - 1 ≡ length xs = omega arith in e ∙ sym (length-map xs (λ y. y.tags)))))
