-- The intervals round each interval of a process: the one directly round it, and those round that one.
use Rattle.ppd_model.specs.Setting.{setting_of}
use Rattle.std.proofs.Common.{◌≡◌, ℕ, zero, suc, ◌+◌, Bool, true, false, List, [], ◌∷◌, ◌++◌, Option, Some, None, refl, ap, sym, subst, ◌∙◌, length, map, if◌then◌else◌}
use Rattle.std.specs.Prelude.{drop, fold, slice_get, ⊤}
use Rattle.std.proofs.lemmas.List.{length-map, map-append}
use Rattle.std.proofs.lemmas.List.Sums.{fold-append}
use Rattle.std.proofs.lemmas.Option.{get_or_from_slice_get}
use Rattle.ppd_ast.specs.declared.plan.Plan.{Plan}
use Rattle.ppd_ast.specs.declared.program.Program.{Program}
use Rattle.ppd_sem.specs.declared.proc.Need.{Need}
use Rattle.ppd_sem.specs.declared.proc.Need.TheVariants as n
use Rattle.ppd_sem.specs.Described.{frame_of, is_event}
use Rattle.ppd_ast.specs.declared.plan.BlockKind.TheVariants as block
use Rattle.ppd_sem.specs.Process.{started}
use Rattle.ppd_sem.specs.Tables.{block_of}
use Rattle.ppd_sem.proofs.TableWords.{or_zero}
use Rattle.ppd_model.specs.declared.trace.EventId.{EventId}
use Rattle.ppd_model.specs.declared.tracing.Story.{Story}
use Rattle.ppd_model.specs.declared.tracing.Taken.{Taken}
use Rattle.ppd_model.specs.FullTrace.{Tag, begun_tracing, me_in, top_tags}
use Rattle.ppd_model.specs.Intervals.{own, Span, Split, begin_span, begun_split, change_first, control_by, innermost, left_by, split_of, split_step, with_own, with_part, with_step}
use Rattle.ppd_model.proofs.IntervalWords.{begin_if, end_if}
use Rattle.ppd_model.specs.Marks.{Mark, closed, opened}
use Rattle.ppd_model.specs.World.{change}
use Rattle.ppd_model.proofs.CountedOn.{kept_at, last_at}
use Rattle.ppd_flow_past.specs.SeenBy.{rounds_by}
use Rattle.ppd_flow_past.proofs.Parents.{Rounds}
use Rattle.ppd_flow_past.proofs.SeenWords.{round_by}

abbrev rounds_in : List Span → Rounds
rounds_in spans = map (λ (i : Span). i.round) spans

abbrev parents_of : Rounds → List (Option ℕ)
parents_of rounds = map (λ ks. slice_get ks 0) rounds

-- of each of these intervals those round it are the ones after it
abbrev IsChain : Rounds → List ℕ → Type 0
IsChain rounds [] = ⊤
IsChain rounds (k ∷ ks) = (slice_get rounds k ≡ Some ks) × IsChain rounds ks

-- so it is with those that run, and each has round it those that its parent gives
record IsNested (rounds : Rounds) (running : List ℕ) : Type 0 where
  chain : IsChain rounds running
  rounds_are : rounds_by (parents_of rounds) ≡ rounds

chain_more : (rounds : Rounds) (r : List ℕ) (ks : List ℕ) → IsChain rounds ks → IsChain (rounds ++ r ∷ []) ks
chain_more rounds r [] h = tt
chain_more rounds r (k ∷ ks) h = (kept_at rounds (r ∷ []) k ks h.0, chain_more rounds r ks h.1)

chain_rest : (rounds : Rounds) (ks : List ℕ) → IsChain rounds ks → IsChain rounds (drop 1 ks)
chain_rest rounds [] h = tt
chain_rest rounds (k ∷ ks) h = h.1

round_is : (rounds : Rounds) (ks : List ℕ) → IsChain rounds ks → round_by rounds (slice_get ks 0) ≡ ks
round_is rounds [] h = refl
round_is rounds (k ∷ ks) h = ap (λ r. k ∷ r) (get_or_from_slice_get rounds k ks [] h.0)

nested_more : (rounds : Rounds) (running : List ℕ) → IsNested rounds running
    → IsNested (rounds ++ running ∷ []) (length rounds ∷ running)
nested_more rounds running h = record {
  chain = (last_at rounds running, chain_more rounds running running h.chain);
  rounds_are =
      ap rounds_by (map-append (λ ks. slice_get ks 0) rounds (running ∷ []))
      ∙ fold-append (λ rs p. rs ++ round_by rs p ∷ []) [] (parents_of rounds) (slice_get running 0 ∷ [])
      ∙ ap (λ rs. rs ++ round_by rs (slice_get running 0) ∷ []) h.rounds_are
      ∙ ap (λ r. rounds ++ r ∷ []) (round_is rounds running h.chain);
}

-- ---- one step

abbrev IsNestedIn : Split → Type 0
IsNestedIn x = IsNested (rounds_in x.spans) x.running

change_quiet : (f : Span → Span) → ((i : Span) → (f i).round ≡ i.round) → (k : ℕ) (spans : List Span)
    → rounds_in (change f k spans) ≡ rounds_in spans
change_quiet f same k [] = refl
change_quiet f same zero (i ∷ is) = ap (λ r. r ∷ rounds_in is) (same i)
change_quiet f same (suc k) (i ∷ is) = ap (λ rs. i.round ∷ rs) (change_quiet f same k is)

first_quiet : (f : Span → Span) → ((i : Span) → (f i).round ≡ i.round) → (ks : List ℕ) (spans : List Span)
    → rounds_in (change_first f ks spans) ≡ rounds_in spans
first_quiet f same [] spans = refl
first_quiet f same (k ∷ ks) spans = change_quiet f same k spans

quiet : (f : Span → Span) → ((i : Span) → (f i).round ≡ i.round) → (x : Split) → IsNestedIn x
    → IsNestedIn (innermost f x)
quiet f same x h = subst (λ rs. IsNested rs x.running) (sym (first_quiet f same x.running x.spans)) h

of_step : (need : Need) (x : Split) → IsNestedIn x → IsNestedIn (with_step need x)
of_step n.Budget x h = h
of_step n.Stopped x h = h
of_step need x h = quiet (λ i. record i { steps = i.steps + 1 }) (λ i. refl) x h

of_own : (need : Need) (x : Split) → IsNestedIn x → IsNestedIn (with_own need x)
of_own need x h = by (is_event need)
  where
    by : (b : Bool) → IsNestedIn (if b then innermost (with_part (own (length x.trace.events))) x else x)
    by true = quiet (with_part (own (length x.trace.events))) (λ i. refl) x h
    by false = h

of_begin : (b frame : ℕ) (control : Option EventId) (x : Split) → IsNestedIn x
    → IsNestedIn (begin_span b frame control x)
of_begin b frame control x h =
    let rounds = rounds_in x.spans in
    let outer : rounds_in (change_first (with_part _) x.running x.spans)
    ≡ rounds = first_quiet (with_part _) (λ i. refl) x.running x.spans in
    let whole : rounds_in (begin_span b frame control x).spans ≡ rounds ++ x.running ∷ [] =
    map-append (λ (i : Span). i.round) (change_first (with_part _) x.running x.spans) _
    ∙ ap (λ rs. rs ++ x.running ∷ []) outer in
    let count : length rounds ≡ length x.spans = length-map x.spans (λ (i : Span). i.round) in
    subst (λ rs. IsNested rs (length x.spans ∷ x.running)) (sym whole)
    (subst (λ k. IsNested (rounds ++ x.running ∷ []) (k ∷ x.running)) count (nested_more rounds x.running h))

of_begin_if : (o : Option Mark) (frame : ℕ) (control : Option EventId) (x : Split) → IsNestedIn x
    → IsNestedIn (begin_if o frame control x)
of_begin_if None frame control x h = h
of_begin_if (Some m) frame control x h = of_begin m.block frame control x h

of_end_if : (o : Option Mark) (tags : List Tag) (x : Split) → IsNestedIn x → IsNestedIn (end_if o tags x)
of_end_if None tags x h = h
of_end_if (Some m) tags x h =
    let ended : IsNested _ x.running = quiet (λ i. record i {
      closed = Some
          (length x.edges);
      values = m.values;
      left = tags;
    }) (λ i. refl) x h in
    record { chain = chain_rest _ x.running ended.chain; rounds_are = ended.rounds_are }

-- ---- all steps

module _ (program : Program) (plan : Plan) (s : Story) (p : ℕ) where
  of_split_step : (x : Split) (t : Taken) → IsNestedIn x → IsNestedIn (split_step program plan s p x t)
  of_split_step x t h =
      let a : Split = with_own t.need (with_step t.need x) in
      let inner : IsNestedIn a = of_own t.need (with_step t.need x) (of_step t.need x h) in
      of_begin_if (opened program plan a.trace.proc t.need) (frame_of program plan a.trace.proc)
      (control_by program p a.trace t.need) _
      (of_end_if (closed program plan a.trace.proc t.need) (left_by plan (me_in p a.trace)
      (top_tags a.trace.activations) t.need) a inner)

  of_steps : (x : Split) (ts : List Taken) → IsNestedIn x → IsNestedIn (fold (split_step program plan s p) x ts)
  of_steps x [] h = h
  of_steps x (t ∷ ts) h = of_steps (split_step program plan s p x t) ts (of_split_step x t h)

  -- after any steps of the process
  pub rounds_of_split : (budget : ℕ) (ts : List Taken)
      → rounds_by (map (λ (i : Span). slice_get i.round 0) (split_of (setting_of program plan budget) s p ts).spans)
      ≡ map (λ (i : Span). i.round) (split_of (setting_of program plan budget) s p ts).spans
  rounds_of_split budget ts =
      let x : Split = split_of (setting_of program plan budget) s p ts in
      let all : IsNestedIn x = of_steps (begun_split program plan p (started program plan p budget)) ts begun in
      ap rounds_by (sym (twice x.spans)) ∙ all.rounds_are
    where
      before : Split
      before = record {
        trace = begun_tracing
            (started program plan p budget);
        edges = [];
        edge = 0;
        spans = [];
        running = [];
      }

      begun : IsNestedIn (begun_split program plan p (started program plan p budget))
      begun = of_begin (or_zero (block_of plan (block.Process (program.functions + p)))) 0 None before
          (record { chain = tt; rounds_are = refl })

      twice : (spans : List Span) → parents_of (rounds_in spans) ≡ map (λ (i : Span). slice_get i.round 0) spans
      twice [] = refl
      twice (i ∷ is) = ap (λ ps. slice_get i.round 0 ∷ ps) (twice is)
