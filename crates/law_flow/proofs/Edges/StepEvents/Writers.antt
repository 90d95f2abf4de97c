-- The last writer of a cell in an edge, by the step that wrote it.
use Rattle.ppd_model.specs.Setting.{Setting}
use Rattle.std.proofs.Common.{◌≡◌, ℕ, ◌+◌, ◌<◌, ◌≤◌, ℤ, Bool, true, false, cond, List, [], ◌∷◌, ◌++◌, Option, Some, None, refl, ap, ap₂, sym, subst, ◌∙◌, arith, length, true≢false, inl, inr, ◌⊎◌, eq-eqb, ne_eqb, eqb-true, if◌then◌else◌}
use Rattle.std.specs.Prelude.{⊤, fold, is_some, nat_eq, slice_get, filter_map}
use Rattle.std.proofs.lemmas.List.{append_assoc}
use Rattle.std.proofs.lemmas.List.Sums.{fold-append}
use Rattle.std.proofs.lemmas.Option.{none-some}
use Rattle.ppd_ast.specs.Valid.{IsValid}
use Rattle.ppd_ast.specs.declared.plan.Plan.{Plan}
use Rattle.ppd_ast.specs.declared.program.Program.{Program}
use Rattle.ppd_ast.specs.Counting.{one_if}
use Rattle.ppd_sem.specs.declared.proc.Need.{Need}
use Rattle.ppd_sem.specs.declared.proc.Need.TheVariants as n
use Rattle.ppd_sem.specs.Described.{is_event}
use Rattle.ppd_model.specs.declared.trace.TracedEvent.{TracedEvent}
use Rattle.ppd_model.specs.declared.tracing.Taken.{Taken}
use Rattle.ppd_model.specs.Forward.{edge_in}
use Rattle.ppd_model.specs.Intervals.{Split}
use Rattle.ppd_model.specs.Laws.{IsUnwritten}
use Rattle.ppd_model.specs.SharedReads.{need_after}
use Rattle.ppd_model.specs.Story.{Telling, story, tell, told}
use Rattle.ppd_model.specs.Synchronizations.{Sync, kind_of_sync, numbered, sync_of}
use Rattle.ppd_model.proofs.Accesses.{record_at}
use Rattle.ppd_model.specs.World.{writes_cell}
use Rattle.law_steps.proofs.StaticEdges.SharedCells.Writers.{events_in}
use Rattle.law_flow.proofs.Vocabulary.Events.{AreQuiet, IsLastWriter, synchronizes, written_by}
use Rattle.law_flow.proofs.Edges.Spans.Facts.{count_to}
use Rattle.law_flow.proofs.Edges.StepEvents.Marks.{AreStill, count_is, event_is, events_within, quiet_is, syncs_length}
use Rattle.law_flow.proofs.Edges.StepEvents.Processes.{Facts}
use Rattle.law_flow.proofs.Edges.StepEvents.Timeline.{NoWrites, did, did_more, did_step, next, own_is}
use Rattle.law_flow.proofs.Edges.StepEvents.Writes.{write_to}

-- ---- lists of steps

abbrev pub AreNone : List Taken → Type 0
AreNone [] = ⊤
AreNone (x ∷ xs) = (sync_of x ≡ None) × AreNone xs

-- the first synchronization of these steps
pub record HasSync (xs : List Taken) : Type 0 where
  pub front : List Taken
  pub step : Taken
  pub back : List Taken
  pub are : xs ≡ front ++ step ∷ back
  pub none : AreNone front
  pub is_sync : is_some (sync_of step) ≡ true

pub first_sync : (xs : List Taken) → AreNone xs ⊎ HasSync xs
first_sync [] = inl tt
first_sync (x ∷ xs) = by (sync_of x) refl (first_sync xs)
  where
    by : (o : Option Sync) → sync_of x ≡ o → AreNone xs ⊎ HasSync xs → AreNone (x ∷ xs) ⊎ HasSync (x ∷ xs)
    by (Some s) e rest = inr (record { front = []; step = x; back = xs; are = refl; none = tt; is_sync = ap is_some e })
    by None e (inl none') = inl (e, none')
    by None e (inr h) = inr (record { front = x ∷ h.front; step = h.step; back = h.back; are = ap (λ l. x ∷ l) h.are; none = (e, h.none); is_sync = h.is_sync })

pub syncs_none : (xs : List Taken) → AreNone xs → length (filter_map sync_of xs) ≡ 0
syncs_none [] h = refl
syncs_none (x ∷ xs) h = syncs_length x xs ∙ ap₂ (λ b k. cond b 1 0 + k) (ap is_some h.0) (syncs_none xs h.1)

pub none_syncs : (xs : List Taken) → length (filter_map sync_of xs) ≡ 0 → AreNone xs
none_syncs [] e = tt
none_syncs (x ∷ xs) e = by (sync_of x) refl (none_syncs xs)
  where
    both : length (filter_map sync_of (x ∷ xs)) ≡ one_if (is_some (sync_of x)) + length (filter_map sync_of xs)
    both = syncs_length x xs

    by : (o : Option Sync) → sync_of x ≡ o → (length (filter_map sync_of xs) ≡ 0 → AreNone xs) → AreNone (x ∷ xs)
    by None f rest = (f, rest (let z : one_if (is_some (sync_of x)) ≡ 0 = ap (λ q. one_if (is_some q)) f in omega (arith, both, z, e)))
    by (Some s) f rest = absurd (let z : one_if (is_some (sync_of x)) ≡ 1 = ap (λ q. one_if (is_some q)) f in omega (arith, both, z, e))

pub syncs_both : (xs ys : List Taken) → length (filter_map sync_of (xs ++ ys)) ≡ length (filter_map sync_of xs) + length (filter_map sync_of ys)
syncs_both [] ys = let z : length (filter_map sync_of ys) ≡ 0 + length (filter_map sync_of ys) = omega arith in z
syncs_both (x ∷ xs) ys =
    let a : length (filter_map sync_of (x ∷ (xs ++ ys))) ≡ one_if (is_some (sync_of x)) + length (filter_map sync_of (xs ++ ys)) = syncs_length x (xs ++ ys) in
    let b : length (filter_map sync_of (x ∷ xs)) ≡ one_if (is_some (sync_of x)) + length (filter_map sync_of xs) = syncs_length x xs in
    let c : length (filter_map sync_of (xs ++ ys)) ≡ length (filter_map sync_of xs) + length (filter_map sync_of ys) = syncs_both xs ys in
    a ∙ (let z : one_if (is_some (sync_of x)) + length (filter_map sync_of (xs ++ ys)) ≡ length (filter_map sync_of (x ∷ xs)) + length (filter_map sync_of ys) = omega (arith, b, c) in z)

pub events_both : (xs ys : List Taken) → events_in (xs ++ ys) ≡ events_in xs + events_in ys
events_both [] ys = let z : events_in ys ≡ 0 + events_in ys = omega arith in z
events_both (x ∷ xs) ys = let r : events_in (xs ++ ys) ≡ events_in xs + events_in ys = events_both xs ys in omega (arith, r)

not_written : (c : ℕ) (m : Need) → writes_cell c m ≡ false → write_to c m ≡ None
not_written c (n.Write d u) e = ap (λ b. if b then Some u else None) (ne_eqb c d (λ same. true≢false (sym (eq-eqb d c (sym same)) ∙ e)))
not_written c m e = refl

pub write_is : (c : ℕ) (m : Need) (u : ℤ) → write_to c m ≡ Some u → m ≡ n.Write c u
write_is c (n.Write e w) u f = by (nat_eq c e) refl f
  where
    by : (b : Bool) → nat_eq c e ≡ b → (if b then Some w else None) ≡ Some u → n.Write e w ≡ n.Write c u
    by true g h = ap₂ (λ a z. n.Write a z) (sym (eqb-true c e g)) (some' h)
      where
        some' : {x y : ℤ} → Some x ≡ Some y → x ≡ y
        some' k = cc
    by false g h = absurd (none-some u h)
write_is c m u f = absurd (none-some u f)

pub still_of : (program : Program) (plan : Plan) (c : ℕ) (xs : List Taken) → AreNone xs → NoWrites program plan c xs → AreStill c xs
still_of program plan c [] h k = tt
still_of program plan c (x ∷ xs) h k = ((not_written c x.need k.0, h.0), still_of program plan c xs h.1 k.1)

-- the first of these writes nothing more
pub none_front : (program : Program) (plan : Plan) (c : ℕ) (xs ys : List Taken) → NoWrites program plan c (xs ++ ys) → NoWrites program plan c xs
none_front program plan c [] ys h = tt
none_front program plan c (x ∷ xs) ys h = (h.0, none_front program plan c xs ys h.1)

pub none_at : (program : Program) (plan : Plan) (c : ℕ) (xs : List Taken) (x : Taken) (ys : List Taken) → NoWrites program plan c (xs ++ x ∷ ys) → writes_cell c x.need ≡ false
none_at program plan c [] x ys h = h.0
none_at program plan c (z ∷ xs) x ys h = none_at program plan c xs x ys h.1

-- ---- events of a schedule

module _ (setting : Setting) (h : List ℕ) (v : IsValid setting.program) (q : ℕ) (x : Split) (f : Facts setting h v q x) where
  abbrev steps : List Taken
  steps = did (told setting h) q

  abbrev events : List TracedEvent
  events = x.trace.events

  pub ev_within : (xs ys : List Taken) → steps ≡ xs ++ ys → events_in xs ≤ length events
  ev_within xs ys e = subst (λ es. events_in xs ≤ length es) (sym f.events_are) (events_within setting (story setting h) q steps f.steps_own f.steps_numbered xs ys e)

  pub record HasEvent (before : List Taken) (y : Taken) : Type 0 where
    pub within : events_in before < length events
    pub is_sync : synchronizes (slice_get events (events_in before)) ≡ is_some (sync_of y)
    pub writes : (c : ℕ) → written_by c (slice_get events (events_in before)) ≡ write_to c y.need

  pub ev_at : (before : List Taken) (y : Taken) (after : List Taken) → steps ≡ before ++ y ∷ after → is_event y.need ≡ true → HasEvent before y
  ev_at before y after e finishes =
      let a = event_is setting (story setting h) q steps f.steps_own f.steps_numbered before y after e finishes in
      record {
        within = subst (λ es. events_in before < length es) (sym f.events_are) a.within;
        is_sync = ap (λ es. synchronizes (slice_get es (events_in before))) f.events_are ∙ a.is_sync;
        writes = λ c. ap (λ es. written_by c (slice_get es (events_in before))) f.events_are ∙ a.writes c;
      }

  pub ev_quiet : (c : ℕ) (before mid after : List Taken) → steps ≡ before ++ (mid ++ after) → AreStill c mid → AreQuiet events c (events_in before) (events_in (before ++ mid))
  ev_quiet c before mid after e still =
      subst (λ es. AreQuiet es c (events_in before) (events_in (before ++ mid))) (sym f.events_are) (quiet_is setting (story setting h) q steps f.steps_own f.steps_numbered c before mid after e still)

  pub ev_count : (before after : List Taken) → steps ≡ before ++ after → count_to events (events_in before) ≡ length (filter_map sync_of before)
  ev_count before after e = ap (λ es. count_to es (events_in before)) f.events_are ∙ count_is setting (story setting h) q steps f.steps_own f.steps_numbered before after e

  -- the writer of the cell up to an event, since which nothing is written or synchronized
  pub last_writer : (c : ℕ) (u : ℤ) (before : List Taken) (y : Taken) (mid after : List Taken) → steps ≡ before ++ y ∷ (mid ++ after) → y.need ≡ n.Write c u → AreNone mid → NoWrites setting.program setting.plan c mid
      → IsLastWriter events c 0 (events_in (before ++ y ∷ mid)) (events_in before) u
  last_writer c u before y mid after e need none' nowhere =
      let finishes : is_event y.need ≡ true = ap is_event need in
      let a : HasEvent before y = ev_at before y (mid ++ after) e finishes in
      let plain : sync_of y ≡ None = ap (λ m. numbered (kind_of_sync m) y.number) need in
      let one : events_in (before ++ y ∷ []) ≡ events_in before + 1 = events_both before (y ∷ []) ∙ ap (λ b. events_in before + (one_if b + 0)) finishes ∙ (let z : events_in before + (1 + 0) ≡ events_in before + 1 = omega arith in z) in
      let join : (before ++ y ∷ []) ++ mid ≡ before ++ y ∷ mid = append_assoc before (y ∷ []) mid in
      let total : events_in (before ++ y ∷ mid) ≡ events_in before + (one_if (is_event y.need) + events_in mid) = events_both before (y ∷ mid) in
      let counts : one_if (is_event y.need) ≡ 1 = ap one_if finishes in
      let quiet : AreQuiet events c (events_in (before ++ y ∷ [])) (events_in ((before ++ y ∷ []) ++ mid)) =
      ev_quiet c (before ++ y ∷ []) mid after (e ∙ sym (append_assoc before (y ∷ []) (mid ++ after))) (still_of setting.program setting.plan c mid none' nowhere) in
      record {
        from = omega arith;
        to = omega (arith, total, counts);
        plain = a.is_sync ∙ ap is_some plain;
        writes = a.writes c ∙ ap (write_to c) need ∙ ap (λ b. if b then Some u else None) (eq-eqb c c refl);
        since = subst (λ k. AreQuiet events c k (events_in (before ++ y ∷ mid))) one (subst (λ l. AreQuiet events c (events_in (before ++ y ∷ [])) (events_in l)) join quiet);
      }

-- ---- edges of a schedule

pub edge_is_count : (setting : Setting) (g : List ℕ) (p : ℕ) → edge_in setting g p ≡ length (filter_map sync_of (did (told setting g) p))
edge_is_count setting g p =
    ap (λ (ss : List Sync). length ss) (record_at (story setting g).steps p) ∙ ap (λ l. length (filter_map sync_of l)) (own_is setting.program setting.plan setting.budget g p)

-- a step of a schedule among the steps of its process
pub record IsWrite (setting : Setting) (b after : List ℕ) (q c : ℕ) : Type 0 where
  pub mid : List Taken
  pub steps_are : did (told setting (b ++ q ∷ after)) q ≡ did (told setting b) q ++ next setting.program setting.plan (told setting b) q ∷ mid
  pub nowhere : IsUnwritten setting.program setting.plan c (told setting (b ++ q ∷ [])) after → NoWrites setting.program setting.plan c mid

pub as_write : (setting : Setting) (b after : List ℕ) (q c : ℕ) → (need_after setting b q ≡ n.Stopped → ⊥) → IsWrite setting b after q c
as_write setting b after q c goes =
    let one : did (told setting (b ++ q ∷ [])) q ≡ did (told setting b) q ++ next setting.program setting.plan (told setting b) q ∷ [] = did_step setting.program setting.plan setting.budget b q goes in
    let rest = did_more setting.program setting.plan c q (told setting (b ++ q ∷ [])) after in
    let all : told setting (b ++ q ∷ after) ≡ fold (tell setting.program setting.plan) (told setting (b ++ q ∷ [])) after =
    ap (told setting) (sym (append_assoc b (q ∷ []) after)) ∙ fold-append (tell setting.program setting.plan) (told setting []) (b ++ q ∷ []) after in
    record {
      mid = rest.0;
      steps_are = ap (λ (t : Telling). did t q) all ∙ rest.1 ∙ ap (λ l. l ++ rest.0) one ∙ append_assoc (did (told setting b) q) (next setting.program setting.plan (told setting b) q ∷ []) rest.0;
      nowhere = rest.2;
    }
