-- The record of a beginning of a schedule is closed downward under happened before.
use Rattle.ppd_model.specs.Setting.{Setting}
use Rattle.std.proofs.Common.{◌≡◌, ℕ, zero, suc, ◌+◌, ◌<◌, ◌≤◌, Bool, true, false, cond, List, [], ◌∷◌, ◌++◌, length, map, get_or, Option, Some, None, refl, ap, sym, ◌∙◌, subst, arith, inl, inr, true≢false, eqb-true, ◌&&◌}
use Rattle.std.proofs.lemmas.Bool.{and_parts, or_cases}
use Rattle.std.proofs.lemmas.List.Sums.{fold-append}
use Rattle.std.proofs.lemmas.Option.{none-some}
use Rattle.std.specs.Prelude.{IsTrue, fold, is_some, nat_eq, option_to_list, slice_get, filter_map}
use Rattle.ppd_ast.specs.declared.plan.Plan.{Plan}
use Rattle.ppd_ast.specs.declared.program.Chan.{Chan}
use Rattle.ppd_ast.specs.declared.program.Program.{Program}
use Rattle.ppd_ast.specs.declared.program.Sem.{Sem}
use Rattle.ppd_ast.specs.declared.status.SyncKind.{SyncKind}
use Rattle.ppd_ast.specs.declared.status.SyncKind.TheVariants.{P, V, Send, Recv, Done}
use Rattle.ppd_ast.proofs.ValidLaws.{slice_get_there, slice_get_below}
use Rattle.ppd_sem.specs.Tables.{capacity_of}
use Rattle.ppd_sem.proofs.TableWords.{capacity_in}
use Rattle.ppd_model.specs.declared.graph.NodeId.{NodeId}
use Rattle.ppd_model.specs.declared.state.Channel.{Channel}
use Rattle.ppd_model.specs.declared.state.Counts.{Counts}
use Rattle.ppd_model.specs.Bounds.{AreEach, IsBalanced, IsBalancedChan, IsBalancedSem}
use Rattle.ppd_model.specs.World.{World, change, enabled, room_of, step}
use Rattle.ppd_model.specs.Schedule.{run, run_from, started_world}
use Rattle.ppd_model.specs.Story.{Moment, Telling, begun, moment_of, steps_of, tell, told}
use Rattle.ppd_model.specs.Synchronizations.{Sync, is_number, leads_at, led_to, sync_of}
use Rattle.ppd_model.specs.Record.{sync_record}
use Rattle.ppd_model.specs.HappenedBefore.{Before, direct, through, earlier, across, node, sync_at}
use Rattle.ppd_model.proofs.OrderWords.{is_next}
use Rattle.ppd_model.specs.Numbers.{count_in, count_of}
use Rattle.ppd_model.specs.Forward.{EdgesGoForward, RecordsAreClosed, edge_in}
use Rattle.ppd_model.proofs.Balanced.{balanced}
use Rattle.ppd_model.proofs.Changes.{some}
use Rattle.ppd_model.proofs.CountedOn.{kept_at}
use Rattle.ppd_model.proofs.Lists.{no_longer}
use Rattle.ppd_model.proofs.Numbers.{are_counted, record-change}
use Rattle.ppd_model.proofs.Stories.{steps-change, stories_are_of_runs}

-- ---- the record grows

grown : (o : List Sync) (p : ℕ) (xs : List (List Sync)) (q i : ℕ) (s : Sync) → slice_get (get_or xs q []) i ≡ Some s → slice_get (get_or (change (λ ss. ss ++ o) p xs) q []) i ≡ Some s
grown o p [] q i s e = e
grown o zero (x ∷ xs) zero i s e = kept_at x o i s e
grown o zero (x ∷ xs) (suc q) i s e = e
grown o (suc p) (x ∷ xs) zero i s e = e
grown o (suc p) (x ∷ xs) (suc q) i s e = grown o p xs q i s e

module _ (program : Program) (plan : Plan) where
  abbrev recorded : Telling → List (List Sync)
  recorded t = map (filter_map sync_of) (map steps_of t.moments)

  tell_grows : (t : Telling) (p : ℕ) (a : NodeId) (s : Sync) → sync_at (recorded t) a ≡ Some s → sync_at (recorded (tell program plan t p)) a ≡ Some s
  tell_grows t p a s e =
      let m : Moment = moment_of program plan t p in
      let same : recorded (tell program plan t p) ≡ change (λ ss. ss ++ option_to_list (sync_of m.taken)) p (recorded t) =
      ap (λ xs. map (filter_map sync_of) xs) (steps-change m p t.moments) ∙ record-change m.taken p (map steps_of t.moments) in
      ap (λ ss. sync_at ss a) same ∙ grown (option_to_list (sync_of m.taken)) p (recorded t) a.process a.sync s e

  fold_grows : (t : Telling) (h : List ℕ) (a : NodeId) (s : Sync) → sync_at (recorded t) a ≡ Some s → sync_at (recorded (fold (tell program plan) t h)) a ≡ Some s
  fold_grows t [] a s e = e
  fold_grows t (p ∷ h) a s e = fold_grows (tell program plan t p) h a s (tell_grows t p a s e)

  -- ---- a beginning of a run is one

  taken_both : (b : Bool) (y : Option World) (w : World) → cond b y None ≡ Some w → (b ≡ true) × (y ≡ Some w)
  taken_both true y w e = (refl, e)
  taken_both false y w e = absurd (none-some w e)

  pub run_begins : (x : World) (g rest : List ℕ) (w : World) → run_from program plan x (g ++ rest) ≡ Some w → (v : World) × (run_from program plan x g ≡ Some v)
  run_begins x [] rest w e = (x, refl)
  run_begins x (p ∷ g) rest w e =
      let both = taken_both (enabled program plan x p) (run_from program plan (step program plan x p) (g ++ rest)) w e in
      let r = run_begins (step program plan x p) g rest w both.1 in
      (r.0, ap (λ b. cond b (run_from program plan (step program plan x p) g) None) both.0 ∙ r.1)

-- ---- counts

-- a semaphore is taken no more often than given
pub sem_below : (sems : List Sem) (xs : List Counts) → AreEach IsBalancedSem sems xs → (o : ℕ) → count_in (λ (x : Counts). x.taken) (slice_get xs o) ≤ count_in (λ (x : Counts). x.given) (slice_get xs o)
sem_below [] [] h o = omega arith
sem_below [] (x ∷ xs) h o = absurd h
sem_below (s ∷ ss) [] h o = absurd h
sem_below (s ∷ ss) (x ∷ xs) h zero = h.0.taken
sem_below (s ∷ ss) (x ∷ xs) h (suc o) = sem_below ss xs h.1 o

-- from a channel no more is received than sent
pub received_below : (chans : List Chan) (xs : List Channel) → AreEach IsBalancedChan chans xs → (o : ℕ) → count_in (λ (x : Channel). x.received) (slice_get xs o) ≤ count_in (λ (x : Channel). length x.sent) (slice_get xs o)
received_below [] [] h o = omega arith
received_below [] (x ∷ xs) h o = absurd h
received_below (s ∷ ss) [] h o = absurd h
received_below (s ∷ ss) (x ∷ xs) h zero = h.0.received
received_below (s ∷ ss) (x ∷ xs) h (suc o) = received_below ss xs h.1 o

-- no more sends are completed than received
pub completed_below : (chans : List Chan) (xs : List Channel) → AreEach IsBalancedChan chans xs → (o : ℕ) → count_in (λ (x : Channel). x.completed) (slice_get xs o) ≤ count_in (λ (x : Channel). x.received) (slice_get xs o)
completed_below [] [] h o = omega arith
completed_below [] (x ∷ xs) h o = absurd h
completed_below (s ∷ ss) [] h o = absurd h
completed_below (s ∷ ss) (x ∷ xs) h zero = h.0.completed
completed_below (s ∷ ss) (x ∷ xs) h (suc o) = completed_below ss xs h.1 o

-- to a channel of capacity 0 no more is sent than completed and one more
pub offered_below : (chans : List Chan) (xs : List Channel) → AreEach IsBalancedChan chans xs → (o : ℕ) → capacity_in (slice_get chans o) ≡ 0
    → count_in (λ (x : Channel). length x.sent) (slice_get xs o) ≤ count_in (λ (x : Channel). x.completed) (slice_get xs o) + 1
offered_below [] [] h o e = omega arith
offered_below [] (x ∷ xs) h o e = absurd h
offered_below (s ∷ ss) [] h o e = absurd h
offered_below (s ∷ ss) (x ∷ xs) h zero e = subst (λ n. length x.sent ≤ room_of n x) (h.0.capacity ∙ e) h.0.sent
offered_below (s ∷ ss) (x ∷ xs) h (suc o) e = offered_below ss xs h.1 o e

-- to another one no more than received and its capacity together
pub sent_below : (chans : List Chan) (xs : List Channel) → AreEach IsBalancedChan chans xs → (o n : ℕ) → capacity_in (slice_get chans o) ≡ suc n
    → count_in (λ (x : Channel). length x.sent) (slice_get xs o) ≤ count_in (λ (x : Channel). x.received) (slice_get xs o) + suc n
sent_below [] [] h o n e = omega arith
sent_below [] (x ∷ xs) h o n e = absurd h
sent_below (s ∷ ss) [] h o n e = absurd h
sent_below (s ∷ ss) (x ∷ xs) h zero n e = subst (λ m. length x.sent ≤ room_of m x) (h.0.capacity ∙ e) h.0.sent
sent_below (s ∷ ss) (x ∷ xs) h (suc o) n e = sent_below ss xs h.1 o n e

-- what leads to a synchronization that is counted is counted
counted_too : (program : Program) (w : World) → IsBalanced program w → (ka kb : SyncKind) (o na nb : ℕ) → IsTrue (is_number (led_to (capacity_of program o) ka kb na) nb)
    → nb ≤ count_of w kb o → na ≤ count_of w ka o
counted_too program w b ka kb o na nb h le = by (capacity_of program o) refl ka kb h le
  where
    by : (c : ℕ) → capacity_of program o ≡ c → (ka kb : SyncKind) → IsTrue (is_number (led_to c ka kb na) nb) → nb ≤ count_of w kb o → na ≤ count_of w ka o
    by zero is V P h le = let e : na ≡ nb = eqb-true na nb h in let s = sem_below program.sems w.sems b.sems o in omega (arith, e, le, s)
    by zero is Send Recv h le = let e : na ≡ nb = eqb-true na nb h in let s = received_below program.chans w.chans b.chans o in omega (arith, e, le, s)
    by zero is Recv Done h le = let e : na ≡ nb = eqb-true na nb h in let s = completed_below program.chans w.chans b.chans o in omega (arith, e, le, s)
    by zero is Done Send h le =
        let e : na + 1 ≡ nb = eqb-true (na + 1) nb h in
        let s = offered_below program.chans w.chans b.chans o is in
        omega (arith, e, le, s)
    by zero is ka kb h le = absurd (true≢false (sym h))
    by (suc n) is V P h le = let e : na ≡ nb = eqb-true na nb h in let s = sem_below program.sems w.sems b.sems o in omega (arith, e, le, s)
    by (suc n) is Send Recv h le = let e : na ≡ nb = eqb-true na nb h in let s = received_below program.chans w.chans b.chans o in omega (arith, e, le, s)
    by (suc n) is Recv Send h le =
        let e : na + suc n ≡ nb = eqb-true (na + suc n) nb h in
        let s = sent_below program.chans w.chans b.chans o n is in
        omega (arith, e, le, s)
    by (suc n) is ka kb h le = absurd (true≢false (sym h))

both_lead : (program : Program) (x y : Option Sync) → IsTrue (leads_at program x y) → (a : Sync) × (b : Sync) × (x ≡ Some a) × (y ≡ Some b) × IsTrue (leads_at program (Some a) (Some b))
both_lead program None y h = absurd (true≢false (sym h))
both_lead program (Some a) None h = absurd (true≢false (sym h))
both_lead program (Some a) (Some b) h = (a, b, refl, refl, h)

-- ---- closed downward

module _ (setting : Setting) (g rest : List ℕ) (w : World) (runs : run setting (g ++ rest) ≡ Some w) where
  abbrev early : List (List Sync)
  early = sync_record setting g

  abbrev late : List (List Sync)
  late = sync_record setting (g ++ rest)

  grows : (a : NodeId) (s : Sync) → sync_at early a ≡ Some s → sync_at late a ≡ Some s
  grows a s e =
      subst (λ (t : Telling). sync_at (map (filter_map sync_of) (map steps_of t.moments)) a ≡ Some s) (sym (fold-append (tell setting.program setting.plan) (begun (started_world setting)) g rest))
      (fold_grows setting.program setting.plan (told setting g) rest a s e)

  middle : (v : World) × (run setting g ≡ Some v)
  middle = run_begins setting.program setting.plan (started_world setting) g rest w runs

  even : IsBalanced setting.program (told setting g).world
  even = subst (λ v. IsBalanced setting.program v) (sym (stories_are_of_runs setting g middle.0 middle.1)) (balanced setting g middle.0 middle.1)

  leads_below : (a b : NodeId) → IsTrue (leads_at setting.program (sync_at late a) (sync_at late b)) → b.sync < length (get_or early b.process []) → a.sync < length (get_or early a.process [])
  leads_below a b h lt =
      let there = slice_get_there (get_or early b.process []) b.sync lt in
      let l = both_lead setting.program (sync_at late a) (sync_at late b) h in
      let x : Sync = l.0 in
      let y : Sync = l.1 in
      let same : there.0 ≡ y = some (sym (grows b there.0 there.1) ∙ l.3) in
      let at_b : sync_at early b ≡ Some y = there.1 ∙ ap (λ (s : Sync). Some s) same in
      let parts = and_parts (nat_eq x.object y.object) (is_number (led_to (capacity_of setting.program x.object) x.kind y.kind x.number) y.number) l.4 in
      let object : x.object ≡ y.object = eqb-true x.object y.object parts.0 in
      let counts = are_counted setting g in
      let all = are_counted setting (g ++ rest) in
      let top : y.number ≤ count_of (told setting g).world y.kind x.object = subst (λ o. y.number ≤ count_of (told setting g).world y.kind o) (sym object) (counts.numbers b y at_b).1 in
      let le : x.number ≤ count_of (told setting g).world x.kind x.object = counted_too setting.program (told setting g).world even x.kind y.kind x.object x.number y.number parts.1 top in
      let found = counts.found x.kind x.object x.number (all.numbers a x l.2).0 le in
      let one : a ≡ found.0 = all.once a found.0 x l.2 (grows found.0 x found.1) in
      subst (λ (c : NodeId). c.sync < length (get_or early c.process [])) (sym one) (slice_get_below (get_or early found.0.process []) found.0.sync x found.1)

  next_below : (a b : NodeId) → IsTrue (is_next late a b) → b.sync < length (get_or early b.process []) → a.sync < length (get_or early a.process [])
  next_below a b h lt =
      let both = and_parts (nat_eq a.process b.process && nat_eq (a.sync + 1) b.sync) (is_some (sync_at late b)) h in
      let parts = and_parts (nat_eq a.process b.process) (nat_eq (a.sync + 1) b.sync) both.0 in
      let same : a.process ≡ b.process = eqb-true a.process b.process parts.0 in
      let next : a.sync + 1 ≡ b.sync = eqb-true (a.sync + 1) b.sync parts.1 in
      subst (λ p. a.sync < length (get_or early p [])) (sym same) (omega (arith, next, lt))

  closed_below : (a b : NodeId) → Before setting.program late a b → b.sync < length (get_or early b.process []) → a.sync < length (get_or early a.process [])
  closed_below a b (direct d) lt = elim (or_cases (is_next late a b) (leads_at setting.program (sync_at late a) (sync_at late b)) d) [
    | inl next ↦ next_below a b next lt
    | inr lead ↦ leads_below a b lead lt
  ]
  closed_below a b (through {b = m} f k) lt = closed_below a m f (closed_below m b k lt)

  -- a beginning has no more synchronizations
  pub fewer : (p : ℕ) → length (get_or early p []) ≤ length (get_or late p [])
  fewer p = no_longer (get_or early p []) (get_or late p []) (λ i s e. grows (node p i) s e)

pub records_closed : RecordsAreClosed
records_closed setting g rest w runs a b before lt = closed_below setting g rest w runs a b before lt

pub edges_forward : EdgesGoForward
edges_forward setting g more rest w runs p q (earlier same lt) =
    let first = run_begins setting.program setting.plan (started_world setting) (g ++ more) rest w runs in
    let le : length (get_or (sync_record setting g) q []) ≤ length (get_or (sync_record setting (g ++ more)) q []) = fewer setting g more first.0 first.1 q in
    let e : length (get_or (sync_record setting g) q []) ≡ length (get_or (sync_record setting g) p []) = ap (λ k. length (get_or (sync_record setting g) k [])) same in
    omega (arith, lt, le, e)
edges_forward setting g more rest w runs p q (across d j e before) =
    let first = run_begins setting.program setting.plan (started_world setting) (g ++ more) rest w runs in
    let le : edge_in setting g p ≤ edge_in setting (g ++ more) p = fewer setting g more first.0 first.1 p in
    let lt : edge_in setting (g ++ more) q < edge_in setting (g ++ more) q = records_closed setting (g ++ more) rest w runs
    (node q (edge_in setting (g ++ more) q)) (node p j) before (omega (arith, e, le)) in
    omega (arith, lt)
