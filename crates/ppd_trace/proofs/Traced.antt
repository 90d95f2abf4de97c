-- The story and the trace of a schedule that was taken, and the number at which one ends.
use Rattle.ppd_model.specs.Setting.{Setting}
use Rattle.std.proofs.Common.{◌*◌, ◌≡◌, ℕ, ℤ, ◌+◌, ◌-◌, ◌<◌, ◌≤◌, ◌^◌, true, false, List, [], ◌∷◌, ◌++◌, length, map, take, drop, get_or, Ok, ap, sym, ◌∙◌, subst, arith}
use Rattle.std.specs.List.{All}
use Rattle.std.proofs.lemmas.List.{append_assoc, drop_more, length-map, length-take-le, take_all, take_more}
use Rattle.ppd_ast.specs.Valid.{IsValid}
use Rattle.ppd_ast.specs.declared.limits.TheConstants.{MOST_BUDGET, MOST_FUNCTIONS, MOST_PROCESSES}
use Rattle.ppd_model.specs.declared.tracing.Story.{Story}
use Rattle.ppd_model.specs.declared.tracing.Taken.{Taken}
use Rattle.ppd_model.specs.declared.trace.DriveError.{DriveError}
use Rattle.ppd_model.specs.declared.trace.DriveError.TheVariants.{NotEnabled, Memory}
use Rattle.ppd_model.specs.declared.trace.TracedEvent.{TracedEvent}
use Rattle.ppd_model.specs.FullTrace.{Tag, tracing_of}
use Rattle.ppd_model.proofs.TraceWords.{events_from}
use Rattle.ppd_model.specs.Story.{Moment, steps_of, story, told}
use Rattle.ppd_model.specs.World.{enabled}
use Rattle.ppd_model.proofs.LocalTags.{own_steps_told}
use Rattle.ppd_model.proofs.Earlier.{each_more}
use Rattle.ppd_world.specs.Running.{IsCause, Running, can_step}
use Rattle.ppd_world.proofs.Lists.{every_all, every_map}
use Rattle.ppd_world.proofs.Reached.{at_place}
use Rattle.ppd_trace.specs.Telling.{HasTold, Tells}
use Rattle.ppd_trace.specs.Traced.{IsRefused, IsStoryOf, IsStuckAt, IsTraceable}
use Rattle.ppd_trace.proofs.Counted.{few_taken, how_many, moments_within}
use Rattle.ppd_trace.proofs.Told.{tells_more}

module _ (setting : Setting) where
  -- ---- a schedule, number by number

  pub tells_next : (h : List ℕ) (i p : ℕ) (r : Running) (counts : List ℕ) (writers : List Tag) (steps : List (List Taken)) (next : Running) (counts' : List ℕ) (writers' : List Tag) (steps' : List (List Taken))
      → i < length h → p ≡ get_or h i p → Tells setting (take i h) r counts writers steps → can_step r p ≡ true → HasTold r counts writers steps p next counts' writers' steps'
      → Tells setting (take (i + 1) h) next counts' writers' steps'
  tells_next h i p r counts writers steps next counts' writers' steps' lt is b can s =
      let more : take (i + 1) h ≡ take i h ++ p ∷ [] = take_more h i p lt ∙ ap (λ (x : ℕ). take i h ++ x ∷ []) (sym is) in
      subst (λ (l : List ℕ). Tells setting l next counts' writers' steps') (sym more) (tells_more setting (take i h) p r counts writers steps next counts' writers' steps' b can s)

  pub few_numbers : (h : List ℕ) (i : ℕ) (r : Running) (counts : List ℕ) (writers : List Tag) (steps : List (List Taken)) → i ≤ length h → IsValid setting.program → setting.budget ≤ MOST_BUDGET
      → Tells setting (take i h) r counts writers steps → i ≤ MOST_PROCESSES * (MOST_BUDGET + 1)
  few_numbers h i r counts writers steps lt v few b =
      let taken : length (take i h) ≤ MOST_PROCESSES * (MOST_BUDGET + 1) = few_taken setting (take i h) (told setting (take i h)).world v few b.runs in
      let count : length (take i h) ≡ i = length-take-le i h lt in
      omega arith

  pub refused_at : (h : List ℕ) (i p : ℕ) (r : Running) (counts : List ℕ) (writers : List Tag) (steps : List (List Taken)) (e : DriveError)
      → i < length h → p ≡ get_or h i p → Tells setting (take i h) r counts writers steps → IsCause r p i e → IsRefused setting h e
  refused_at h i p r counts writers steps (NotEnabled k) lt is b c =
      let no : enabled setting.program setting.plan (told setting (take i h)).world p ≡ false = subst (λ (x : Running). can_step x p ≡ false) b.world c.1 in
      subst (λ (n : ℕ). IsStuckAt setting h n) (sym c.0) record {
        last = (told setting (take i h)).world;
        runs = b.runs;
        refused = at_place h i p (λ q. enabled setting.program setting.plan (told setting (take i h)).world q ≡ false) lt is no;
      }
  refused_at h i p r counts writers steps Memory lt is b c = tt

  made : List (List Taken) → List ℤ → List Tag → Story
  made steps cells writers = record { steps = steps; cells = cells; writers = writers }

  pub story_is : (h : List ℕ) (i : ℕ) (r : Running) (counts : List ℕ) (writers : List Tag) (steps : List (List Taken)) (s : Story)
      → length h ≤ i → Tells setting (take i h) r counts writers steps → s ≡ record { steps = steps; cells = r.world.shared; writers = writers } → IsStoryOf setting h (Ok s)
  unfolding made
  story_is h i r counts writers steps s lt b e =
      let whole : Tells setting h r counts writers steps = subst (λ (l : List ℕ). Tells setting l r counts writers steps) (take_all i h lt) b in (
        record { last = (told setting h).world; runs = whole.runs },
        e ∙ ap (λ (x : List (List Taken)). made x r.world.shared writers) whole.added
            ∙ ap (λ (x : Running). made (map steps_of (told setting h).moments) x.world.shared writers) whole.world
            ∙ ap (λ (x : List Tag). made (map steps_of (told setting h).moments) (told setting h).world.shared x) whole.written,
      )

  -- ---- the story can be traced

  few_steps : (h : List ℕ) → length h ≤ MOST_PROCESSES * (MOST_BUDGET + 1) → All (λ (xs : List Taken). length xs < 2 ^ 32) (map steps_of (told setting h).moments)
  few_steps h lt =
      every_all (λ (xs : List Taken). length xs < 2 ^ 32) (map steps_of (told setting h).moments)
      (every_map (λ (xs : List Taken). length xs < 2 ^ 32) steps_of (told setting h).moments
      (each_more (λ (ms : List Moment). length ms ≤ length h) (λ (ms : List Moment). length (steps_of ms) < 2 ^ 32) (told setting h).moments
      (λ ms few. let same : length (steps_of ms) ≡ length ms = length-map ms (λ m. m.taken) in omega arith)
      (moments_within setting h)))

  pub traceable : (h : List ℕ) (s : Story) → IsValid setting.program → setting.budget ≤ MOST_BUDGET → IsStoryOf setting h (Ok s) → IsTraceable setting s
  traceable h s v few e =
      let taken : length h ≤ MOST_PROCESSES * (MOST_BUDGET + 1) = few_taken setting h e.0.last v few e.0.runs in
      let functions : setting.program.functions ≤ MOST_FUNCTIONS = v.limits.functions in
      let process : setting.program.functions < length setting.program.bodies = v.limits.process in
      let processes : length setting.program.bodies ≤ setting.program.functions + MOST_PROCESSES = v.limits.processes in
      let many : length (story setting h).steps ≡ length setting.program.bodies - setting.program.functions = length-map (told setting h).moments steps_of ∙ how_many setting h in
      subst (λ (x : Story). IsTraceable setting x) (sym e.1) record {
        own = λ p. own_steps_told setting h p;
        few = few_steps h taken;
        processes = omega arith;
        range = omega arith;
        count = omega arith;
      }

  -- ---- process by process

  pub one_traced : (s : Story) (p : ℕ) (own : List Taken) (before now : List (List TracedEvent)) (events : List TracedEvent) (all : List (List TracedEvent)) → p < length s.steps → own ≡ get_or s.steps p own
      → events ≡ (tracing_of setting s p own).events → now ≡ before ++ events ∷ [] → before ++ events_from setting s p (drop p s.steps) ≡ all
      → now ++ events_from setting s (p + 1) (drop (p + 1) s.steps) ≡ all
  one_traced s p own before now events all lt is traced pushed inv =
      let rest : List (List TracedEvent) = events_from setting s (p + 1) (drop (p + 1) s.steps) in
      ap (λ (x : List (List TracedEvent)). x ++ rest) pushed ∙ append_assoc before (events ∷ []) rest
      ∙ ap (λ (x : List TracedEvent). before ++ x ∷ rest) (traced ∙ ap (λ (x : List Taken). (tracing_of setting s p x).events) is)
      ∙ ap (λ (l : List (List Taken)). before ++ events_from setting s p l) (sym (drop_more s.steps p own lt)) ∙ inv
