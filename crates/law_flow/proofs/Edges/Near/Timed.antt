-- In which edge the step lies that left an interval.
use Rattle.std.proofs.Common.{◌≡◌, ℕ, suc, ◌+◌, ◌<◌, ◌≤◌, ℤ, Bool, true, false, List, [], ◌∷◌, ◌++◌, Option, Some, None, refl, ap, ap₂, sym, ◌∙◌, arith, length, length-append, inl, inr, ◌⊎◌, if◌then◌else◌}
use Rattle.std.specs.Prelude.{⊤, filter_map, fold, is_some, slice_get}
use Rattle.std.proofs.lemmas.List.{append-nil, append_assoc}
use Rattle.std.proofs.lemmas.List.Elements.{filter_map-append}
use Rattle.std.proofs.lemmas.List.Sums.{fold-append}
use Rattle.ppd_ast.specs.declared.plan.Plan.{Plan}
use Rattle.ppd_ast.specs.declared.program.Program.{Program}
use Rattle.ppd_ast.specs.declared.status.Status.{Status}
use Rattle.ppd_ast.specs.Counting.{one_if}
use Rattle.ppd_model.specs.declared.entry.Entry.{Entry}
use Rattle.ppd_model.specs.declared.entry.Entry.TheVariants as entry
use Rattle.ppd_sem.specs.declared.proc.Need.{Need}
use Rattle.ppd_sem.specs.declared.proc.Need.TheVariants as n
use Rattle.ppd_sem.specs.declared.proc.Proc.{Proc}
use Rattle.ppd_model.specs.declared.state.Logging.{Logging}
use Rattle.ppd_model.specs.declared.tracing.Story.{Story}
use Rattle.ppd_model.specs.declared.tracing.Taken.{Taken}
use Rattle.ppd_model.specs.Intervals.{Split, split_step}
use Rattle.ppd_model.specs.Logs.{ends, entries_of, log_step, status_of, syncs as sync_entries, units, block_entries}
use Rattle.ppd_model.specs.Marks.{Mark, closed, opened}
use Rattle.ppd_model.specs.Record.{edge_after}
use Rattle.ppd_model.specs.RecordedSets.{sync_in}
use Rattle.ppd_model.specs.Story.{Moment, steps_of, unit_started}
use Rattle.ppd_model.specs.Synchronizations.{Sync, kind_of_sync, numbered, sync_of}
use Rattle.ppd_model.proofs.CountedOn.{kept_at, last_at}
use Rattle.law_flow.proofs.Edges.Spans.Facts.{syncs}

-- ---- the edges of steps

module _ (program : Program) (plan : Plan) (story' : Story) (p : ℕ) where
  abbrev after : Split → List Taken → Split
  after x ts = fold (split_step program plan story' p) x ts

  edges_grow : (x : Split) (ts : List Taken) → (more : List ℕ) × ((after x ts).edges ≡ x.edges ++ more) × (length more ≡ length ts)
  edges_grow x [] = ([], sym (append-nil x.edges), refl)
  edges_grow x (t ∷ ts) =
      let r = edges_grow (split_step program plan story' p x t) ts in
      (x.edge ∷ r.0, r.1 ∙ append_assoc x.edges (x.edge ∷ []) r.0, ap (λ k. suc k) r.2)

  -- a step is in the edge that comes after the steps before it
  pub edge_at : (x : Split) (ts us : List Taken) (t : Taken) → slice_get (after x (ts ++ t ∷ us)).edges (length x.edges + length ts) ≡ Some (after x ts).edge
  edge_at x ts us t =
      let y : Split = after x ts in
      let r = edges_grow x ts in
      let q = edges_grow (split_step program plan story' p y t) us in
      let long : length y.edges ≡ length x.edges + length ts = ap length r.1 ∙ length-append x.edges r.0 ∙ ap (λ k. length x.edges + k) r.2 in
      ap (λ (z : Split). slice_get z.edges (length x.edges + length ts)) (fold-append (split_step program plan story' p) x ts (t ∷ us))
      ∙ ap₂ (λ es k. slice_get es k) q.1 (sym long)
      ∙ kept_at (y.edges ++ y.edge ∷ []) q.0 (length y.edges) y.edge (last_at y.edges y.edge)

-- ---- the entries of a step

module _ {A : Type 0} (f : Entry → Option A) where
  abbrev size : List Entry → ℕ
  size es = length (filter_map f es)

  pub size_both : (xs ys : List Entry) → size (xs ++ ys) ≡ size xs + size ys
  size_both xs ys = ap length (filter_map-append f xs ys) ∙ length-append (filter_map f xs) (filter_map f ys)

  size_parts : (a b c d e : List Entry) → size (a ++ b ++ c ++ d ++ e) ≡ (((size a + size b) + size c) + size d) + size e
  size_parts a b c d e =
      size_both (a ++ b ++ c ++ d) e
      ∙ ap (λ k. k + size e) (size_both (a ++ b ++ c) d ∙ ap (λ k. k + size d) (size_both (a ++ b) c ∙ ap (λ k. k + size c) (size_both a b)))

-- a postlog
abbrev is_postlog : Entry → Option ⊤
is_postlog (entry.Postlog b vs) = Some tt
is_postlog e = None

syncs_of_prelogs : (o : Option Mark) → size sync_in (block_entries entry.Prelog o) ≡ 0
syncs_of_prelogs None = refl
syncs_of_prelogs (Some m) = refl

syncs_of_syncs : (l : Logging) (t : Taken) (o : Option Sync) → size sync_in (sync_entries l t o) ≡ one_if (is_some o)
syncs_of_syncs l t None = refl
syncs_of_syncs l t (Some s) = refl

syncs_of_postlogs : (o : Option Mark) → size sync_in (block_entries entry.Postlog o) ≡ 0
syncs_of_postlogs None = refl
syncs_of_postlogs (Some m) = refl

syncs_of_units : (o : Option ℕ) (vs : List ℤ) → size sync_in (units o vs) ≡ 0
syncs_of_units None vs = refl
syncs_of_units (Some u) vs = refl

syncs_of_ends : (l : Logging) (o : Option Status) → size sync_in (ends l o) ≡ 0
syncs_of_ends l None = refl
syncs_of_ends l (Some s) = refl

posts_of_prelogs : (o : Option Mark) → size is_postlog (block_entries entry.Prelog o) ≡ 0
posts_of_prelogs None = refl
posts_of_prelogs (Some m) = refl

posts_of_syncs : (l : Logging) (t : Taken) (o : Option Sync) → size is_postlog (sync_entries l t o) ≡ 0
posts_of_syncs l t None = refl
posts_of_syncs l t (Some s) = refl

posts_of_postlogs : (o : Option Mark) → size is_postlog (block_entries entry.Postlog o) ≡ one_if (is_some o)
posts_of_postlogs None = refl
posts_of_postlogs (Some m) = refl

posts_of_units : (o : Option ℕ) (vs : List ℤ) → size is_postlog (units o vs) ≡ 0
posts_of_units None vs = refl
posts_of_units (Some u) vs = refl

posts_of_ends : (l : Logging) (o : Option Status) → size is_postlog (ends l o) ≡ 0
posts_of_ends l None = refl
posts_of_ends l (Some s) = refl

-- a step that leaves a block does not synchronize
leaves_plain : (program : Program) (plan : Plan) (s : Proc) (need : Need) → (closed program plan s need ≡ None) ⊎ (kind_of_sync need ≡ None)
leaves_plain program plan s (n.Leave b u) = inr refl
leaves_plain program plan s (n.Back b u) = inr refl
leaves_plain program plan s (n.End b) = inr refl
leaves_plain program plan s need = inl refl

module _ (program : Program) (plan : Plan) where
  step_syncs : (l : Logging) (m : Moment) → syncs (entries_of program plan l m) ≡ one_if (is_some (sync_of m.taken))
  step_syncs l m =
      let need : Need = m.taken.need in
      let a = syncs_of_prelogs (opened program plan l.proc need) in
      let b = syncs_of_syncs l m.taken (sync_of m.taken) in
      let c = syncs_of_postlogs (closed program plan l.proc need) in
      let d = syncs_of_units (unit_started need) m.unit_values in
      let e = syncs_of_ends l (status_of need) in
      let all = size_parts sync_in (block_entries entry.Prelog (opened program plan l.proc need)) (sync_entries l m.taken (sync_of m.taken)) (block_entries entry.Postlog (closed program plan l.proc need)) (units (unit_started need) m.unit_values) (ends l (status_of need)) in
      omega (arith, all, a, b, c, d, e)

  step_posts : (l : Logging) (m : Moment) → size is_postlog (entries_of program plan l m) ≡ one_if (is_some (closed program plan l.proc m.taken.need))
  step_posts l m =
      let need : Need = m.taken.need in
      let a = posts_of_prelogs (opened program plan l.proc need) in
      let b = posts_of_syncs l m.taken (sync_of m.taken) in
      let c = posts_of_postlogs (closed program plan l.proc need) in
      let d = posts_of_units (unit_started need) m.unit_values in
      let e = posts_of_ends l (status_of need) in
      let all = size_parts is_postlog (block_entries entry.Prelog (opened program plan l.proc need)) (sync_entries l m.taken (sync_of m.taken)) (block_entries entry.Postlog (closed program plan l.proc need)) (units (unit_started need) m.unit_values) (ends l (status_of need)) in
      omega (arith, all, a, b, c, d, e)

  -- no synchronization stands beside a postlog
  pub before_postlog : (l : Logging) (m : Moment) (d : List Entry) (b : ℕ) (vs : List ℤ) (f : List Entry) → entries_of program plan l m ≡ d ++ entry.Postlog b vs ∷ f → syncs d ≡ 0
  before_postlog l m d b vs f is =
      let total : syncs (entries_of program plan l m) ≡ syncs d + syncs (entry.Postlog b vs ∷ f) = ap syncs is ∙ size_both sync_in d (entry.Postlog b vs ∷ f) in
      let none : syncs (entries_of program plan l m) ≡ 0 = step_syncs l m ∙ ap (λ o. one_if (is_some o)) plain in
      omega (arith, total, none)
    where
      posts : (o : Option Mark) → closed program plan l.proc m.taken.need ≡ o → o ≡ None → ⊥
      posts o e g =
          let none : size is_postlog (entries_of program plan l m) ≡ 0 = step_posts l m ∙ ap (λ z. one_if (is_some z)) (e ∙ g) in
          let total : size is_postlog (entries_of program plan l m) ≡ size is_postlog d + suc (size is_postlog f) = ap (size is_postlog) is ∙ size_both is_postlog d (entry.Postlog b vs ∷ f) in
          omega (arith, none, total)

      plain : sync_of m.taken ≡ None
      plain = elim (leaves_plain program plan l.proc m.taken.need) [
        | inl e ↦ absurd (posts (closed program plan l.proc m.taken.need) refl e)
        | inr e ↦ ap (λ k. numbered k m.taken.number) e
      ]

  -- ---- the edge after some steps

  module _ (story' : Story) (p : ℕ) where
    after_is : (edge : ℕ) (t : Taken) → edge_after edge t ≡ edge + one_if (is_some (sync_of t))
    after_is edge t = by (is_some (sync_of t))
      where
        by : (b : Bool) → (if b then edge + 1 else edge) ≡ edge + one_if b
        by true = refl
        by false = omega arith

    -- counts the synchronizations in the log so far
    pub edge_is : (l : Logging) (x : Split) (ms : List Moment) → x.edge ≡ syncs l.entries → (fold (split_step program plan story' p) x (steps_of ms)).edge ≡ syncs (fold (log_step program plan) l ms).entries
    edge_is l x [] h = h
    edge_is l x (m ∷ ms) h =
        edge_is (log_step program plan l m) (split_step program plan story' p x m.taken) ms
        (after_is x.edge m.taken ∙ ap₂ (λ a b. a + b) h (sym (step_syncs l m)) ∙ sym (size_both sync_in l.entries (entries_of program plan l m)))

-- ---- an entry of a step

-- an entry among those in the middle
pub in_middle : (xs ys zs us vs : List Entry) (e : Entry) → (xs ++ ys) ++ zs ≡ us ++ e ∷ vs → length xs ≤ length us → length us < length (xs ++ ys)
    → (d : List Entry) × (f : List Entry) × (us ≡ xs ++ d) × (ys ≡ d ++ e ∷ f)
in_middle [] ys zs us vs e is le lt = by ys us is lt
  where
    by : (as' bs : List Entry) → as' ++ zs ≡ bs ++ e ∷ vs → length bs < length as' → (d : List Entry) × (f : List Entry) × (bs ≡ d) × (as' ≡ d ++ e ∷ f)
    by [] bs is' lt' = absurd (omega (arith, lt'))
    by (a ∷ as') [] is' lt' = ([], as', refl, ap (λ z. z ∷ as') (ap (λ l. elim l [ [] ↦ a | y ∷ ys' ↦ y ]) is'))
    by (a ∷ as') (b ∷ bs) is' lt' =
        let r = by as' bs (ap (λ l. elim l [ [] ↦ [] | y ∷ ys' ↦ ys' ]) is') (omega (arith, lt')) in
        let same : a ≡ b = ap (λ l. elim l [ [] ↦ a | y ∷ ys' ↦ y ]) is' in
        (b ∷ r.0, r.1, ap (λ l. b ∷ l) r.2, ap₂ (λ z l. z ∷ l) same r.3)
in_middle (x ∷ xs) ys zs [] vs e is le lt = absurd (omega (arith, le))
in_middle (x ∷ xs) ys zs (u ∷ us) vs e is le lt =
    let r = in_middle xs ys zs us vs e (ap (λ l. elim l [ [] ↦ [] | y ∷ ys' ↦ ys' ]) is) (omega (arith, le)) (omega (arith, lt)) in
    let same : x ≡ u = ap (λ l. elim l [ [] ↦ x | y ∷ ys' ↦ y ]) is in
    (r.0, r.1, ap₂ (λ z l. z ∷ l) (sym same) r.2, r.3)
