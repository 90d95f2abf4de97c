-- In what is told of a schedule the tag of each shared cell, and the writer of each read, is the event of a write.
use Rattle.ppd_model.specs.Setting.{Setting}
use Rattle.std.proofs.Common.{◌≡◌, ℕ, zero, suc, ◌+◌, ◌<◌, ℤ, List, [], ◌∷◌, ◌++◌, Option, Some, None, length, map, get_or, refl, sym, ap, ◌∙◌, subst, arith, inl, inr}
use Rattle.ppd_model.specs.declared.tracing.Taken.{Taken}
use Rattle.std.specs.Prelude.{◌-◌, fold, slice_get, slice_set}
use Rattle.std.proofs.lemmas.Bool.{cases_eq}
use Rattle.ppd_ast.proofs.ValidLaws.{slice_get_below}
use Rattle.ppd_model.specs.Schedule.{started_world}
use Rattle.ppd_model.specs.States.{states_from}
use Rattle.ppd_model.specs.Story.{Moment, Telling, begun, moment_of, next_event, steps_of, story, tell, writer_of, writers_after}
use Rattle.ppd_model.specs.World.{change, need}
use Rattle.ppd_model.proofs.WorldWords.{need_at}
use Rattle.ppd_model.proofs.Changes.{own-at}
use Rattle.ppd_model.proofs.States.{states-begun, states-tell}
use Rattle.ppd_model.proofs.Stories.{steps-change}
use Rattle.ppd_model.proofs.LocalDeeds.{no_tag}
use Rattle.ppd_sem.specs.declared.proc.Need.{Need}
use Rattle.ppd_sem.specs.declared.proc.Need.TheVariants.{Read, Write, Stopped}
use Rattle.ppd_sem.specs.declared.proc.Proc.{Proc}
use Rattle.law_steps.proofs.StaticEdges.OwnCells.Tagging.{set_other, set_same}
use Rattle.law_steps.proofs.StaticEdges.SharedCells.Writers.{EachReadIs, IsWrite, IsWriter, ReadIs, count_is, grown, more_reads, more_writer, reads_append}

-- ---- what is told

get_steps : (moments : List (List Moment)) (q : ℕ) → get_or (map steps_of moments) q [] ≡ steps_of (get_or moments q [])
get_steps [] q = refl
get_steps (ms ∷ rest) zero = refl
get_steps (ms ∷ rest) (suc q) = get_steps rest q

length_states : (setting : Setting) (p : ℕ) (steps : List (List Taken)) → length (states_from setting p steps) ≡ length steps
length_states setting p [] = refl
length_states setting p (xs ∷ rest) = ap suc (length_states setting (p + 1) rest)

module _ (setting : Setting) where
  record Tagged (t : Telling) : Type 0 where
    procs : t.world.procs ≡ states_from setting 0 (map steps_of t.moments)
    writers : (c : ℕ) → IsWriter (map steps_of t.moments) c (get_or t.writers c None)
    reads : (p : ℕ) → EachReadIs (map steps_of t.moments) (get_or (map steps_of t.moments) p [])

  module _ (t : Telling) (q : ℕ) (h : Tagged t) where
    abbrev m : Moment
    m = moment_of setting.program setting.plan t q

    abbrev grew : List (List Taken)
    grew = change (λ xs. xs ++ m.taken ∷ []) q (map steps_of t.moments)

    -- a process that writes is there
    writes_there : (c : ℕ) (v : ℤ) → need setting.program setting.plan t.world q ≡ Write c v → q < length (map steps_of t.moments)
    writes_there c v is = by (slice_get t.world.procs q) refl
      where
        by : (o : Option Proc) → slice_get t.world.procs q ≡ o → q < length (map steps_of t.moments)
        by None at = absurd (stopped (sym (ap (need_at setting.program setting.plan) at) ∙ is))
          where
            stopped : Stopped ≡ Write c v → ⊥
            stopped e = absurd (cc)
        by (Some s) at =
            let lt : q < length t.world.procs = slice_get_below t.world.procs q s at in
            let long : length t.world.procs ≡ length (map steps_of t.moments) = ap length h.procs ∙ length_states setting 0 (map steps_of t.moments) in
            omega arith

    new_write : (c : ℕ) (v : ℤ) → need setting.program setting.plan t.world q ≡ Write c v → IsWrite grew c (next_event t q)
    new_write c v is = record {
      before = steps_of (get_or t.moments q []);
      taken = m.taken;
      after = [];
      steps_are = own-at (λ xs. xs ++ m.taken ∷ []) q [] (map steps_of t.moments) (writes_there c v is) ∙ ap (λ xs. xs ++ m.taken ∷ []) (get_steps t.moments q);
      value = v;
      writes = is;
      number_is = count_is (get_or t.moments q []);
    }

    old_writers : (c : ℕ) → IsWriter grew c (get_or t.writers c None)
    old_writers c = more_writer (map steps_of t.moments) q m.taken c (get_or t.writers c None) (h.writers c)

    writers_by : (n : Need) → need setting.program setting.plan t.world q ≡ n → (c : ℕ) → IsWriter grew c (get_or (writers_after t q n) c None)
    writers_by (Write d v) is c = elim (cases_eq c d) [
      | inl same ↦ subst (λ i. IsWriter grew i (get_or (slice_set t.writers d (Some (next_event t q))) i None)) (sym same) (elim (set_same t.writers d (Some (next_event t q))) [
        | inl lost ↦ subst (λ w. IsWriter grew d w) (sym lost) tt
        | inr got ↦ subst (λ w. IsWriter grew d w) (sym got) (new_write d v is)
      ])
      | inr other ↦ subst (λ w. IsWriter grew c w) (sym (set_other t.writers d c (Some (next_event t q)) other)) (old_writers c)
    ]
    writers_by n is c = old_writers c

    read_by : (n : Need) → ReadIs grew n (writer_of t n)
    read_by (Read c) = old_writers c
    read_by n = tt

    reads_by : (p : ℕ) → EachReadIs grew (get_or grew p [])
    reads_by p =
        let old : EachReadIs grew (get_or (map steps_of t.moments) p []) = more_reads (map steps_of t.moments) q m.taken (get_or (map steps_of t.moments) p []) (h.reads p) in
        elim (grown (map steps_of t.moments) q m.taken p) [
          | inl same ↦ subst (EachReadIs grew) (sym same) old
          | inr new ↦ subst (EachReadIs grew) (sym new) (reads_append grew (get_or (map steps_of t.moments) p []) m.taken old (read_by (need setting.program setting.plan t.world q)))
        ]

    tagged_next : Tagged (tell setting.program setting.plan t q)
    tagged_next =
        let e : map steps_of (tell setting.program setting.plan t q).moments ≡ grew = steps-change m q t.moments in
        record {
          procs = states-tell setting t q h.procs;
          writers = λ c. subst (λ steps. IsWriter steps c (get_or (tell setting.program setting.plan t q).writers c None)) (sym e) (writers_by (need setting.program setting.plan t.world q) refl c);
          reads = λ p. subst (λ steps. EachReadIs steps (get_or steps p [])) (sym e) (reads_by p);
        }

  tagged_fold : (t : Telling) (h : List ℕ) → Tagged t → Tagged (fold (tell setting.program setting.plan) t h)
  tagged_fold t [] g = g
  tagged_fold t (q ∷ h) g = tagged_fold (tell setting.program setting.plan t q) h (tagged_next t q g)

  none_written : (cells : List ℤ) (c : ℕ) → get_or (map (λ _. no_tag) cells) c None ≡ None
  none_written [] c = refl
  none_written (x ∷ xs) zero = refl
  none_written (x ∷ xs) (suc c) = none_written xs c

  none_taken : (procs : List Proc) (p : ℕ) → get_or (map steps_of (map (λ _. []) procs)) p [] ≡ []
  none_taken [] p = refl
  none_taken (s ∷ ss) zero = refl
  none_taken (s ∷ ss) (suc p) = none_taken ss p

  tagged_begun : Tagged (begun (started_world setting))
  tagged_begun = record {
    procs = sym (states-begun setting 0 (length setting.program.bodies - setting.program.functions));
    writers = λ c. subst (λ w. IsWriter (map steps_of (begun (started_world setting)).moments) c w) (sym (none_written setting.program.starts c)) tt;
    reads = λ p. subst (EachReadIs (map steps_of (begun (started_world setting)).moments)) (sym (none_taken (started_world setting).procs p)) tt;
  }

  -- the writers of the reads of a schedule
  pub reads_told : (h : List ℕ) (p : ℕ) → EachReadIs (story setting h).steps (get_or (story setting h).steps p [])
  reads_told h p = (tagged_fold (begun (started_world setting)) h tagged_begun).reads p
