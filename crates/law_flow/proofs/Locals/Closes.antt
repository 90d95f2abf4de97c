-- The step that leaves an interval.
use Rattle.std.proofs.Common.{◌≡◌, ℕ, ℤ, true, false, List, [], ◌∷◌, ◌++◌, Option, Some, None, refl, ap, sym, subst, ◌∙◌, length, append-nil, true≢false, if◌then◌else◌}
use Rattle.std.specs.Prelude.{is_some, option_map, slice_get}
use Rattle.ppd_ast.specs.declared.plan.Plan.{Plan}
use Rattle.ppd_ast.specs.declared.program.Program.{Program}
use Rattle.ppd_sem.specs.Described.{frame_of, is_event}
use Rattle.ppd_sem.specs.declared.proc.Need.{Need}
use Rattle.ppd_sem.specs.declared.proc.Need.TheVariants as need
use Rattle.ppd_sem.specs.declared.proc.Proc.{Proc}
use Rattle.ppd_model.specs.FullTrace.{Tag, me_in, top_tags}
use Rattle.ppd_model.specs.Intervals.{Part, own, Span, Split, change_first, control_by, end_span, left_by, split_step, with_own, with_step}
use Rattle.ppd_model.proofs.IntervalWords.{begin_if, end_if}
use Rattle.ppd_model.specs.Marks.{Mark, closed, opened}
use Rattle.ppd_model.specs.declared.tracing.Story.{Story}
use Rattle.ppd_model.specs.declared.tracing.Taken.{Taken}
use Rattle.ppd_model.specs.declared.tracing.Tracing.{Tracing}
use Rattle.ppd_model.proofs.Changes.{change-at}
use Rattle.ppd_model.proofs.Items.{own_keeps, step_keeps}
use Rattle.law_flow.specs.Places.Levels.{Level, StandsIn}
use Rattle.law_flow.proofs.Vocabulary.Levels.{own_level, put, with_event}
use Rattle.law_flow.proofs.Places.Later.{own_later, step_later}
use Rattle.law_flow.proofs.Locals.Ends.{IsLeftAs, begin_closed, closed_at, closed_in, end_closes, own_closed, step_closed}

-- ---- a step that leaves interval m

-- with this need the first level is left: its parts and the event, its block and what it leaves
pub record ClosesAt (program : Program) (plan : Plan) (p : ℕ) (x : Split) (ls : List Level) (n : Need) (m : ℕ)
    (i : Span) : Type 0 where
  pub level : Level
  pub others : List Level
  pub levels_are : ls ≡ level ∷ others
  pub number : m ≡ level.interval
  pub parts_are : i.parts ≡ level.parts ++ own (length x.trace.events) ∷ []
  pub block_is : i.block ≡ level.block
  pub left_are : i.left ≡ left_by plan (me_in p x.trace) (top_tags x.trace.activations) n
  pub closes : is_some (closed program plan x.trace.proc n) ≡ true
  pub event : is_event n ≡ true

from_event : (N : ℕ) (ls : List Level) (l : Level) (others : List Level) → with_event N ls ≡ l ∷ others
    → (k : Level) × (ks : List Level) × (ls ≡ k ∷ ks) × (l ≡ put (own N) k)
from_event N [] l others e = absurd (cc)
from_event N (k ∷ ks) l others e = (k, ks, refl, ap (λ xs. first_level_or k xs) (sym e))
  where
    first_level_or : Level → List Level → Level
    first_level_or d [] = d
    first_level_or d (x ∷ xs) = x

module _ (program : Program) (plan : Plan) (story : Story) (p : ℕ) (x : Split) (t : Taken) (ls : List Level)
    (s : StandsIn x ls) (m : ℕ) (i : Span)
    (unso : closed_at m x.spans ≡ false) (at : slice_get (split_step program plan story p x t).spans m
    ≡ Some i) (is_so : is_some i.closed ≡ true) where
  abbrev a : Split
  a = with_step t.need x

  abbrev b : Split
  b = with_own t.need a

  b_trace : b.trace ≡ x.trace
  b_trace = (own_keeps t.need a).1 ∙ (step_keeps t.need x).1

  a_trace : a.trace ≡ x.trace
  a_trace = (step_keeps t.need x).1

  still : closed_at m b.spans ≡ false
  still = own_closed m t.need a ∙ step_closed m t.need x ∙ unso

  stands_b : StandsIn b (own_level t.need (length a.trace.events) ls)
  stands_b = (own_later t.need a ls (step_later t.need x ls s).0).0

  -- what the step closes
  by_mark : (o c : Option Mark) → opened program plan b.trace.proc t.need ≡ o
      → closed program plan b.trace.proc t.need ≡ c → (is_some c ≡ true → o ≡ None)
      → (is_some c ≡ true → is_event t.need ≡ true)
      → ClosesAt program plan p x ls t.need m i
  by_mark o None open_is close_is apart events =
      let same : closed_at m (split_step program plan story p x t).spans ≡ closed_at m b.spans =
      begin_closed m (opened program plan b.trace.proc t.need) (frame_of program plan b.trace.proc)
      (control_by program p b.trace t.need) (end_if (closed program plan b.trace.proc t.need)
      (left_by plan (me_in p b.trace) (top_tags b.trace.activations) t.need) b)
      ∙ ap (λ c. closed_at m
      (end_if c (left_by plan (me_in p b.trace) (top_tags b.trace.activations) t.need) b).spans) close_is in
      absurd (true≢false (sym is_so ∙ ap closed_in (sym at) ∙ same ∙ still))
  by_mark o (Some k) open_is close_is apart events =
      let tags : List Tag = left_by plan (me_in p b.trace) (top_tags b.trace.activations) t.need in
      let spans_are : (split_step program plan story p x t).spans ≡ (end_span k.values tags b).spans =
      ap (λ o. (begin_if o (frame_of program plan b.trace.proc) (control_by program p b.trace t.need)
      (end_if (closed program plan b.trace.proc t.need) tags b)).spans) (open_is ∙ apart refl)
      ∙ ap (λ c. (end_if c tags b).spans) close_is in
      let g : IsLeftAs b (own_level t.need (length a.trace.events) ls) m k.values tags i =
      end_closes m k.values tags b (own_level t.need (length a.trace.events) ls) stands_b still i
      (ap (λ ss. slice_get ss m) (sym spans_are) ∙ at) is_so in
      let owned : own_level t.need (length a.trace.events) ls ≡ with_event (length x.trace.events) ls =
      ap (λ e. if e then with_event (length a.trace.events) ls else ls) (events refl)
      ∙ ap (λ (u : Tracing). with_event (length u.events) ls) a_trace in
      let f = from_event (length x.trace.events) ls g.level g.others (sym owned ∙ g.levels_are) in
      record {
        level = f.0;
        others = f.1;
        levels_are = f.2;
        number = g.number ∙ ap (λ (l : Level). l.interval) f.3;
        parts_are = g.parts_are ∙ ap (λ (l : Level). l.parts) f.3;
        block_is = g.block_is ∙ ap (λ (l : Level). l.block) f.3;
        left_are = g.left_are ∙ ap (λ (u : Tracing). left_by plan (me_in p u) (top_tags u.activations) t.need) b_trace;
        closes = ap (λ (u : Tracing). is_some (closed program plan u.proc t.need)) (sym b_trace) ∙ ap is_some close_is;
        event = events refl;
      }

apart : (program : Program) (plan : Plan) (s : Proc) (n : Need) → is_some (closed program plan s n) ≡ true
    → opened program plan s n ≡ None
apart program plan s (need.Enter b u) h = absurd (true≢false (sym h))
apart program plan s (need.Invoke o u) h = absurd (true≢false (sym h))
apart program plan s n h = refl

events : (program : Program) (plan : Plan) (s : Proc) (n : Need) → is_some (closed program plan s n) ≡ true
    → is_event n ≡ true
events program plan s (need.Leave b u) h = refl
events program plan s (need.Back o u) h = refl
events program plan s (need.End b) h = refl
events program plan s n h = absurd (true≢false (sym h))

-- an interval that is left by a step
pub closes_at : (program : Program) (plan : Plan) (story : Story) (p : ℕ) (x : Split) (t : Taken) (ls : List Level)
    → StandsIn x ls → (m : ℕ) (i : Span)
    → closed_at m x.spans ≡ false → slice_get (split_step program plan story p x t).spans m ≡ Some i
    → is_some i.closed ≡ true → ClosesAt program plan p x ls t.need m i
closes_at program plan story p x t ls s m i unso at is_so =
    let q : Proc = (with_own t.need (with_step t.need x)).trace.proc in
    by_mark program plan story p x t ls s m i unso at is_so (opened program plan q t.need)
    (closed program plan q t.need) refl refl
    (λ h. apart program plan q t.need h) (λ h. events program plan q t.need h)

-- the first level's interval, where a step leaves it
pub record IsLeftNow (l : Level) (values : List ℤ) (parts : List Part) (after : List Span) : Type 0 where
  pub span : Span
  pub there : slice_get after l.interval ≡ Some span
  pub left : is_some span.closed ≡ true
  pub block_is : span.block ≡ l.block
  pub values_are : span.values ≡ values
  pub parts_are : span.parts ≡ parts

end_there : (values : List ℤ) (left : List Tag) (x : Split) (l : Level) (ls : List Level) → StandsIn x (l ∷ ls)
    → IsLeftNow l values l.parts (end_span values left x).spans
end_there values left x l ls s = record {
  span = record s.levels.0.span { closed = Some (length x.edges); values = values; left = left };
  there =
      subst (λ ks. slice_get (change_first (λ (j : Span). record j {
        closed = Some (length x.edges);
        values =
            values;
        left = left;
      }) ks x.spans) l.interval ≡ Some (record s.levels.0.span {
        closed =
            Some (length x.edges);
        values = values;
        left = left;
      })) (sym s.running)
      (change-at (λ (j : Span). record j {
        closed = Some (length x.edges);
        values = values;
        left =
            left;
      }) l.interval x.spans
      ∙ ap (option_map (λ (j : Span). record j { closed = Some (length x.edges); values = values; left = left }))
      s.levels.0.there);
  left = refl;
  block_is = s.levels.0.block_is;
  values_are = refl;
  parts_are = s.levels.0.parts_are ∙ append-nil l.parts;
}

pub left_now : (program : Program) (plan : Plan) (story : Story) (p : ℕ) (x : Split) (t : Taken) (l : Level)
    (ls : List Level) → StandsIn x (l ∷ ls) → (k : Mark) → closed program plan x.trace.proc t.need ≡ Some k
    → IsLeftNow l k.values (l.parts ++ own (length x.trace.events) ∷ []) (split_step program plan story p x t).spans
left_now program plan story p x t l ls s k close_is =
    let a : Split = with_step t.need x in
    let b : Split = with_own t.need a in
    let a_trace : a.trace ≡ x.trace = (step_keeps t.need x).1 in
    let b_trace : b.trace ≡ x.trace = (own_keeps t.need a).1 ∙ a_trace in
    let here : closed program plan b.trace.proc t.need ≡ Some k =
    ap (λ (u : Tracing). closed program plan u.proc t.need) b_trace ∙ close_is in
    let none : opened program plan b.trace.proc t.need ≡ None =
    apart program plan b.trace.proc t.need (ap is_some here) in
    let event : is_event t.need ≡ true = events program plan b.trace.proc t.need (ap is_some here) in
    let tags : List Tag = left_by plan (me_in p b.trace) (top_tags b.trace.activations) t.need in
    let spans_are : (split_step program plan story p x t).spans ≡ (end_span k.values tags b).spans =
    ap (λ o. (begin_if o (frame_of program plan b.trace.proc) (control_by program p b.trace t.need)
    (end_if (closed program plan b.trace.proc t.need) tags b)).spans) none
    ∙ ap (λ c. (end_if c tags b).spans) here in
    let stands : StandsIn b (own_level t.need (length a.trace.events) (l ∷ ls)) =
    (own_later t.need a (l ∷ ls) (step_later t.need x (l ∷ ls) s).0).0 in
    let owned : own_level t.need (length a.trace.events) (l ∷ ls) ≡ with_event (length a.trace.events) (l ∷ ls) =
    ap (λ e. if e then with_event (length a.trace.events) (l ∷ ls) else (l ∷ ls)) event in
    let g : IsLeftNow (put (own (length a.trace.events)) l) k.values (l.parts ++ own (length a.trace.events) ∷ [])
    (end_span k.values tags b).spans = end_there k.values tags b (put (own (length a.trace.events)) l) ls
    (subst (StandsIn b) owned stands) in
    record {
      span = g.span;
      there = ap (λ ss. slice_get ss l.interval) spans_are
          ∙ g.there;
      left = g.left;
      block_is = g.block_is;
      values_are = g.values_are;
      parts_are = g.parts_are
          ∙ ap (λ (u : Tracing). l.parts ++ own (length u.events) ∷ []) a_trace;
    }
