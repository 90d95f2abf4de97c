-- The sets that logs record are the cells of the accesses.
use Rattle.ppd_model.specs.Setting.{Setting}
use Rattle.std.specs.Bool.{beq}
use Rattle.std.proofs.Common.{◌≡◌, ℕ, zero, suc, ◌+◌, ◌<◌, ◌≤◌, Bool, true, false, cond, ◌&&◌, ◌||◌, List, [], ◌∷◌, ◌++◌, Option, Some, None, refl, ap, ap₂, sym, subst, ◌∙◌, arith, length, length-append, map, get_or, inl, inr, ◌⊎◌, eq-eqb, if◌then◌else◌}
use Rattle.std.specs.Prelude.{filter_map, fold, is_none, option_to_list, slice_get}
use Rattle.std.specs.List.{list_any, range_with_len}
use Rattle.std.proofs.lemmas.List.{append-nil, append_assoc}
use Rattle.std.proofs.lemmas.List.Elements.{filter_map-append}
use Rattle.std.proofs.lemmas.List.Folds.{list_any-append}
use Rattle.std.proofs.lemmas.List.FromFn.{map-range_with_len_more}
use Rattle.std.proofs.lemmas.Option.{none-some}
use Rattle.ppd_ast.specs.Valid.{IsValid}
use Rattle.ppd_ast.specs.declared.plan.Plan.{Plan}
use Rattle.ppd_ast.specs.declared.program.Program.{Program}
use Rattle.ppd_ast.specs.declared.status.Status.{Status}
use Rattle.ppd_ast.specs.declared.status.Status.TheVariants as status
use Rattle.ppd_model.specs.declared.entry.Entry.{Entry}
use Rattle.ppd_model.specs.declared.entry.Entry.TheVariants as entry
use Rattle.ppd_model.specs.Entries.{is_end}
use Rattle.ppd_sem.specs.declared.proc.Need.{Need}
use Rattle.ppd_sem.specs.declared.proc.Need.TheVariants as n
use Rattle.ppd_sem.specs.declared.proc.Proc.{Proc}
use Rattle.ppd_sem.specs.Process.{act, need_of, started}
use Rattle.ppd_sem.proofs.Progress.{act-stopped, need_at_status}
use Rattle.ppd_model.specs.LocalTags.{AreOwn}
use Rattle.ppd_model.specs.Logs.{Logging, begun_log, closed_log, ends, entries_of, log_of, log_step, loggings, status_of, syncs, units, with_access, block_entries}
use Rattle.ppd_model.proofs.LogWords.{logs_from}
use Rattle.ppd_model.specs.Marks.{Mark, closed, opened}
use Rattle.ppd_model.specs.Record.{SharedAccess, access_at, accesses_from}
use Rattle.ppd_model.specs.RecordedSets.{LogsRecordAccesses, RecordsAccesses, cells_of, sets_at_sync}
use Rattle.ppd_model.specs.Story.{Moment, Taken, steps_of, story, told, unit_started}
use Rattle.ppd_model.specs.Synchronizations.{Sync, kind_of_sync, numbered, sync_of}
use Rattle.ppd_model.proofs.AccessSets.{beyond, cells-append, other_edge, picked, with_cells}
use Rattle.ppd_model.proofs.Accesses.{accesses-append}
use Rattle.ppd_model.proofs.Changes.{some}
use Rattle.ppd_model.proofs.LocalTags.{own_steps_told}
use Rattle.ppd_model.proofs.Numbered.{AreNumbered, IsNumbered, steps_numbered}
use Rattle.ppd_model.proofs.Numbers.{syncs-append}
use Rattle.ppd_model.proofs.RaceFree.{edge_below}
use Rattle.ppd_model.proofs.RecordedSyncs.{IsOfSyncs, of_step}
use Rattle.ppd_model.proofs.Statuses.{status_after}

-- ---- what one step adds

sets_only : IsOfSyncs sets_at_sync
sets_only = record {
  prelog = λ block values. refl;
  postlog = λ block values. refl;
  unit = λ u values. refl;
  end = λ s rest reads writes. refl;
}

-- the sets of a synchronization, if it is one
abbrev sets_by : Option Sync → Logging → List (List ℕ × List ℕ)
sets_by None l = []
sets_by (Some s) l = (l.reads, l.writes) ∷ []

sets_one : (l : Logging) (x : Taken) (o : Option Sync) → filter_map sets_at_sync (syncs l x o) ≡ sets_by o l
sets_one l x None = refl
sets_one l x (Some s) = refl

-- the entries of a step before the end of its process
abbrev body_of : Program → Plan → Logging → Moment → List Entry
body_of program plan l m =
    block_entries entry.Prelog (opened program plan l.proc m.taken.need)
    ++ syncs l m.taken (sync_of m.taken)
    ++ block_entries entry.Postlog (closed program plan l.proc m.taken.need)
    ++ units (unit_started m.taken.need) m.unit_values

no_ends : (program : Program) (plan : Plan) (l : Logging) (m : Moment) → list_any is_end (body_of program plan l m) ≡ false
no_ends program plan l m =
    let a : List Entry = block_entries entry.Prelog (opened program plan l.proc m.taken.need) in
    let b : List Entry = syncs l m.taken (sync_of m.taken) in
    let c : List Entry = block_entries entry.Postlog (closed program plan l.proc m.taken.need) in
    let d : List Entry = units (unit_started m.taken.need) m.unit_values in
    list_any-append is_end (a ++ b ++ c) d
    ∙ ap₂ (λ x y. x || y)
    (list_any-append is_end (a ++ b) c
    ∙ ap₂ (λ x y. x || y) (list_any-append is_end a b ∙ ap₂ (λ x y. x || y) (in_prelogs (opened program plan l.proc m.taken.need)) (in_syncs (sync_of m.taken))) (in_postlogs (closed program plan l.proc m.taken.need)))
    (in_units (unit_started m.taken.need))
  where
    in_prelogs : (o : Option Mark) → list_any is_end (block_entries entry.Prelog o) ≡ false
    in_prelogs None = refl
    in_prelogs (Some x) = refl

    in_syncs : (o : Option Sync) → list_any is_end (syncs l m.taken o) ≡ false
    in_syncs None = refl
    in_syncs (Some x) = refl

    in_postlogs : (o : Option Mark) → list_any is_end (block_entries entry.Postlog o) ≡ false
    in_postlogs None = refl
    in_postlogs (Some x) = refl

    in_units : (o : Option ℕ) → list_any is_end (units o m.unit_values) ≡ false
    in_units None = refl
    in_units (Some x) = refl

-- ---- the accesses since the last synchronization

-- the access of a step in this edge, picked there as a read or as a write
picked_here : (a : SharedAccess) (e : ℕ) (w : Bool) → a.edge ≡ e → picked (a ∷ []) e w ≡ cond (beq a.writes w) (a.cell ∷ []) []
picked_here a e w same = ap (λ b. map (λ (x : SharedAccess). x.cell) (cond (b && beq a.writes w) (a ∷ []) [])) (eq-eqb a.edge e same) ∙ by (beq a.writes w)
  where
    by : (b : Bool) → map (λ (x : SharedAccess). x.cell) (cond b (a ∷ []) []) ≡ cond b (a.cell ∷ []) []
    by true = refl
    by false = refl

-- the cells that are noted as read, or as written
abbrev noted_in : Logging → Bool → List ℕ
noted_in l false = l.reads
noted_in l true = l.writes

noted : (need : Need) (l : Logging) (e : ℕ) (w : Bool) → kind_of_sync need ≡ None
    → noted_in (with_access need l) w ≡ with_cells (noted_in l w) (picked (access_at e need) e w)
noted (n.Read c) l e false silent = ap (λ cs. with_cells l.reads cs) (sym (picked_here (record { edge = e; cell = c; writes = false }) e false refl))
noted (n.Read c) l e true silent = ap (λ cs. with_cells l.writes cs) (sym (picked_here (record { edge = e; cell = c; writes = false }) e true refl))
noted (n.Write c v) l e false silent = ap (λ cs. with_cells l.reads cs) (sym (picked_here (record { edge = e; cell = c; writes = true }) e false refl))
noted (n.Write c v) l e true silent = ap (λ cs. with_cells l.writes cs) (sym (picked_here (record { edge = e; cell = c; writes = true }) e true refl))
noted (n.P s u) l e w silent = absurd (none-some _ (sym silent))
noted (n.V s u) l e w silent = absurd (none-some _ (sym silent))
noted (n.Send c v u) l e w silent = absurd (none-some _ (sym silent))
noted (n.Offer c v) l e w silent = absurd (none-some _ (sym silent))
noted (n.Done c u) l e w silent = absurd (none-some _ (sym silent))
noted (n.Recv c u) l e w silent = absurd (none-some _ (sym silent))
noted need l e false silent = refl
noted need l e true silent = refl

-- a step that ends its process accesses nothing
noted_none : (need : Need) (l : Logging) (st : Status) → status_of need ≡ Some st → with_access need l ≡ l
noted_none (n.End b) l st is = refl
noted_none (n.Trap t) l st is = refl
noted_none n.Budget l st is = refl
noted_none need l st is = absurd (none-some st is)

-- what a synchronization begins anew with
record BeginsAnew (need : Need) (l : Logging) : Type 0 where
  reads : (with_access need l).reads ≡ []
  writes : (with_access need l).writes ≡ []
  none : (e : ℕ) → access_at e need ≡ []
  goes_on : status_of need ≡ None

anew : (x : Taken) (l : Logging) (s : Sync) → sync_of x ≡ Some s → BeginsAnew x.need l
anew x l s is = by x.need is
  where
    by : (need : Need) → numbered (kind_of_sync need) x.number ≡ Some s → BeginsAnew need l
    by (n.P o u) at = record { reads = refl; writes = refl; none = λ e. refl; goes_on = refl }
    by (n.V o u) at = record { reads = refl; writes = refl; none = λ e. refl; goes_on = refl }
    by (n.Send c v u) at = record { reads = refl; writes = refl; none = λ e. refl; goes_on = refl }
    by (n.Offer c v) at = record { reads = refl; writes = refl; none = λ e. refl; goes_on = refl }
    by (n.Done c u) at = record { reads = refl; writes = refl; none = λ e. refl; goes_on = refl }
    by (n.Recv c u) at = record { reads = refl; writes = refl; none = λ e. refl; goes_on = refl }
    by need at = absurd (none-some s at)

-- ---- the sets of all edges

abbrev sets_of : List SharedAccess → ℕ → List ℕ × List ℕ
sets_of xs i = (cells_of xs i false, cells_of xs i true)

map_same : {A : Type 0} (f g : ℕ → A) (a k : ℕ) → ((i : ℕ) → i < a + k → f i ≡ g i) → map f (range_with_len a k) ≡ map g (range_with_len a k)
map_same f g a zero same = refl
map_same f g a (suc k) same = ap₂ (λ x xs. x ∷ xs) (same a (omega arith)) (map_same f g (a + 1) k (λ i lt. same i (omega (arith, lt))))

-- after these steps the process runs, and its log has the sets so far
record IsRunningLog (xs : List Taken) (l : Logging) : Type 0 where
  runs : l.proc.status ≡ None
  syncs_are : filter_map sets_at_sync l.entries ≡ map (sets_of (accesses_from 0 xs)) (range_with_len 0 (length (filter_map sync_of xs)))
  no_end : list_any is_end l.entries ≡ false
  reads : l.reads ≡ cells_of (accesses_from 0 xs) (length (filter_map sync_of xs)) false
  writes : l.writes ≡ cells_of (accesses_from 0 xs) (length (filter_map sync_of xs)) true

-- these entries have the sets of these accesses, up to those of edge n, which is the last
record HasSets (accesses : List SharedAccess) (n : ℕ) (entries : List Entry) : Type 0 where
  before : List Entry
  status : Status
  rest : ℕ
  entries_are : entries ≡ before ++ entry.End status rest (cells_of accesses n false) (cells_of accesses n true) ∷ []
  syncs_are : filter_map sets_at_sync before ≡ map (sets_of accesses) (range_with_len 0 n)
  no_end : list_any is_end before ≡ false

-- it has ended, and its log is whole
record IsEndedLog (xs : List Taken) (l : Logging) : Type 0 where
  status : Status
  ended : l.proc.status ≡ Some status
  sets : HasSets (accesses_from 0 xs) (length (filter_map sync_of xs)) l.entries

abbrev IsRecording : List Taken → Logging → Type 0
IsRecording xs l = IsRunningLog xs l ⊎ IsEndedLog xs l

-- the accesses and the edges of one step more
record IsMore (xs : List Taken) (x : Taken) (l : Logging) : Type 0 where
  old : (i : ℕ) → i < length (filter_map sync_of xs) → sets_of (accesses_from 0 (xs ++ x ∷ [])) i ≡ sets_of (accesses_from 0 xs) i
  syncs_are : map (sets_of (accesses_from 0 xs)) (range_with_len 0 (length (filter_map sync_of xs))) ++ sets_by (sync_of x) l ≡ map (sets_of (accesses_from 0 (xs ++ x ∷ []))) (range_with_len 0 (length (filter_map sync_of (xs ++ x ∷ []))))
  reads : (with_access x.need l).reads ≡ cells_of (accesses_from 0 (xs ++ x ∷ [])) (length (filter_map sync_of (xs ++ x ∷ []))) false
  writes : (with_access x.need l).writes ≡ cells_of (accesses_from 0 (xs ++ x ∷ [])) (length (filter_map sync_of (xs ++ x ∷ []))) true

module _ (xs : List Taken) (x : Taken) (l : Logging) where
  abbrev e : ℕ
  e = length (filter_map sync_of xs)

  abbrev all : List SharedAccess
  all = accesses_from 0 (xs ++ x ∷ [])

  all_are : all ≡ accesses_from 0 xs ++ access_at e x.need
  all_are = accesses-append 0 xs x ∙ ap (λ k. accesses_from 0 xs ++ access_at k x.need) (omega arith)

  -- the cells of each edge
  cells_at : (i : ℕ) (w : Bool) → cells_of all i w ≡ with_cells (cells_of (accesses_from 0 xs) i w) (picked (access_at e x.need) i w)
  cells_at i w = ap (λ as'. cells_of as' i w) all_are ∙ cells-append (accesses_from 0 xs) (access_at e x.need) i w

  cells_old : (i : ℕ) (w : Bool) → i < e → cells_of all i w ≡ cells_of (accesses_from 0 xs) i w
  cells_old i w lt = cells_at i w ∙ ap (λ cs. with_cells (cells_of (accesses_from 0 xs) i w) cs) (other_edge x.need e i w (λ same. omega (arith, same, lt)))

  old_sets : (i : ℕ) → i < e → sets_of all i ≡ sets_of (accesses_from 0 xs) i
  old_sets i lt = ap₂ (λ r w. (r, w)) (cells_old i false lt) (cells_old i true lt)

  same_sets : map (sets_of (accesses_from 0 xs)) (range_with_len 0 e) ≡ map (sets_of all) (range_with_len 0 e)
  same_sets = map_same (sets_of (accesses_from 0 xs)) (sets_of all) 0 e (λ i lt. sym (old_sets i (omega (arith, lt))))

  edges_after : (o : Option Sync) → sync_of x ≡ o → length (filter_map sync_of (xs ++ x ∷ [])) ≡ length (filter_map sync_of xs ++ option_to_list o)
  edges_after o is = ap length (syncs-append xs x ∙ ap (λ o. filter_map sync_of xs ++ option_to_list o) is)

  quiet : IsNumbered x → sync_of x ≡ None → l.reads ≡ cells_of (accesses_from 0 xs) e false → l.writes ≡ cells_of (accesses_from 0 xs) e true → IsMore xs x l
  quiet numbered none reads writes =
      let same : length (filter_map sync_of (xs ++ x ∷ [])) ≡ e = edges_after None none ∙ ap length (append-nil (filter_map sync_of xs)) in
      record {
        old = old_sets;
        syncs_are = ap (λ o. map (sets_of (accesses_from 0 xs)) (range_with_len 0 e) ++ sets_by o l) none ∙ append-nil (map (sets_of (accesses_from 0 xs)) (range_with_len 0 e)) ∙ same_sets
            ∙ ap (λ k. map (sets_of all) (range_with_len 0 k)) (sym same);
        reads = noted x.need l e false (numbered none) ∙ ap (λ r. with_cells r (picked (access_at e x.need) e false)) reads ∙ sym (cells_at e false) ∙ ap (λ k. cells_of all k false) (sym same);
        writes = noted x.need l e true (numbered none) ∙ ap (λ r. with_cells r (picked (access_at e x.need) e true)) writes ∙ sym (cells_at e true) ∙ ap (λ k. cells_of all k true) (sym same);
      }

  synced : (s : Sync) → sync_of x ≡ Some s → BeginsAnew x.need l → l.reads ≡ cells_of (accesses_from 0 xs) e false → l.writes ≡ cells_of (accesses_from 0 xs) e true → IsMore xs x l
  synced s is b reads writes =
      let longer : length (filter_map sync_of (xs ++ x ∷ [])) ≡ e + 1 = edges_after (Some s) is ∙ length-append (filter_map sync_of xs) (s ∷ []) in
      let same : all ≡ accesses_from 0 xs = all_are ∙ ap (λ as'. accesses_from 0 xs ++ as') (b.none e) ∙ append-nil (accesses_from 0 xs) in
      record {
        old = old_sets;
        syncs_are =
            ap (λ o. map (sets_of (accesses_from 0 xs)) (range_with_len 0 e) ++ sets_by o l) is
            ∙ ap₂ (λ r w. map (sets_of (accesses_from 0 xs)) (range_with_len 0 e) ++ (r, w) ∷ []) reads writes
            ∙ sym (map-range_with_len_more (sets_of (accesses_from 0 xs)) 0 e e (omega arith))
            ∙ ap (λ as'. map (sets_of as') (range_with_len 0 (e + 1))) (sym same)
            ∙ ap (λ k. map (sets_of all) (range_with_len 0 k)) (sym longer);
        reads = b.reads ∙ sym (nothing same false) ∙ ap (λ k. cells_of all k false) (sym longer);
        writes = b.writes ∙ sym (nothing same true) ∙ ap (λ k. cells_of all k true) (sym longer);
      }
    where
      nothing : all ≡ accesses_from 0 xs → (w : Bool) → cells_of all (e + 1) w ≡ []
      nothing same w =
          ap (λ as'. cells_of as' (e + 1) w) same
          ∙ ap (λ cs. with_cells [] cs) (beyond (accesses_from 0 xs) (e + 1) w (λ m a is. let le : a.edge ≤ 0 + e = edge_below xs 0 m a is in omega (arith, le)))

  more : IsNumbered x → l.reads ≡ cells_of (accesses_from 0 xs) e false → l.writes ≡ cells_of (accesses_from 0 xs) e true → IsMore xs x l
  more numbered reads writes = by (sync_of x) refl
    where
      by : (o : Option Sync) → sync_of x ≡ o → IsMore xs x l
      by None is = quiet numbered is reads writes
      by (Some s) is = synced s is (anew x l s is) reads writes

module _ (program : Program) (plan : Plan) where
  module _ (xs : List Taken) (l : Logging) (m : Moment) (next : m.taken.need ≡ need_of program plan l.proc) (counted : IsNumbered m.taken) where
    abbrev now : Logging
    now = log_step program plan l m

    entries_by : (o : Option Status) → status_of m.taken.need ≡ o → entries_of program plan l m ≡ body_of program plan l m ++ ends l o
    entries_by o is = ap (λ o. body_of program plan l m ++ ends l o) is

    sets_now : IsRunningLog xs l → filter_map sets_at_sync (l.entries ++ entries_of program plan l m) ≡ map (sets_of (accesses_from 0 (xs ++ m.taken ∷ []))) (range_with_len 0 (length (filter_map sync_of (xs ++ m.taken ∷ []))))
    sets_now r =
        filter_map-append sets_at_sync l.entries (entries_of program plan l m)
        ∙ ap₂ (λ a b. a ++ b) r.syncs_are (of_step sets_at_sync sets_only program plan l m ∙ sets_one l m.taken (sync_of m.taken))
        ∙ (more xs m.taken l counted r.reads r.writes).syncs_are

    on : IsRunningLog xs l → status_of m.taken.need ≡ None → IsRecording (xs ++ m.taken ∷ []) now
    on r is =
        let only : entries_of program plan l m ≡ body_of program plan l m = entries_by None is ∙ append-nil (body_of program plan l m) in
        inl (record {
          runs = status_after program plan m.taken.answer l.proc r.runs ∙ ap status_of (sym next) ∙ is;
          syncs_are = sets_now r;
          no_end = list_any-append is_end l.entries (entries_of program plan l m) ∙ ap₂ (λ a b. a || b) r.no_end (ap (λ es. list_any is_end es) only ∙ no_ends program plan l m);
          reads = (more xs m.taken l counted r.reads r.writes).reads;
          writes = (more xs m.taken l counted r.reads r.writes).writes;
        })

    off : IsRunningLog xs l → (st : Status) → status_of m.taken.need ≡ Some st → IsRecording (xs ++ m.taken ∷ []) now
    off r st is =
        let x : Taken = m.taken in
        let k : ℕ = length (filter_map sync_of (xs ++ x ∷ [])) in
        let as' : List SharedAccess = accesses_from 0 (xs ++ x ∷ []) in
        let next_sets : IsMore xs x l = more xs x l counted r.reads r.writes in
        let whole : entries_of program plan l m ≡ body_of program plan l m ++ entry.End st l.rest l.reads l.writes ∷ [] = entries_by (Some st) is in
        let grouped : l.entries ++ entries_of program plan l m ≡ (l.entries ++ body_of program plan l m) ++ entry.End st l.rest l.reads l.writes ∷ [] =
        ap (λ es. l.entries ++ es) whole ∙ sym (append_assoc l.entries (body_of program plan l m) (entry.End st l.rest l.reads l.writes ∷ [])) in
        inr (record {
          status = st;
          ended = status_after program plan x.answer l.proc r.runs ∙ ap status_of (sym next) ∙ is;
          sets = record {
            before = l.entries ++ body_of program plan l m;
            status = st;
            rest = l.rest;
            entries_are = grouped
                ∙ ap₂ (λ reads writes. (l.entries ++ body_of program plan l m) ++ entry.End st l.rest reads writes ∷ [])
                (ap (λ (a : Logging). a.reads) (sym (noted_none x.need l st is)) ∙ next_sets.reads)
                (ap (λ (a : Logging). a.writes) (sym (noted_none x.need l st is)) ∙ next_sets.writes);
            syncs_are = sym (filter_map-append sets_at_sync (l.entries ++ body_of program plan l m) (entry.End st l.rest l.reads l.writes ∷ []) ∙ append-nil (filter_map sets_at_sync (l.entries ++ body_of program plan l m)))
                ∙ ap (filter_map sets_at_sync) (sym grouped) ∙ sets_now r;
            no_end = list_any-append is_end l.entries (body_of program plan l m) ∙ ap₂ (λ a b. a || b) r.no_end (no_ends program plan l m);
          };
        })

    after_end : IsEndedLog xs l → IsRecording (xs ++ m.taken ∷ []) now
    after_end r =
        let stop : m.taken.need ≡ n.Stopped = next ∙ need_at_status program plan l.proc (Some r.status) r.ended in
        let same : (act program plan l.proc m.taken.answer) ≡ l.proc = act-stopped program plan l.proc m.taken.answer (sym next ∙ stop) in
        let nothing : entries_of program plan l m ≡ [] =
        ap (λ k. block_entries entry.Prelog (opened program plan l.proc k) ++ syncs l m.taken (numbered (kind_of_sync k) m.taken.number) ++ block_entries entry.Postlog (closed program plan l.proc k) ++ units (unit_started k) m.unit_values ++ ends l (status_of k)) stop in
        let no_sync : sync_of m.taken ≡ None = ap (λ k. numbered (kind_of_sync k) m.taken.number) stop in
        let accesses : accesses_from 0 (xs ++ m.taken ∷ []) ≡ accesses_from 0 xs =
        accesses-append 0 xs m.taken ∙ ap (λ k. accesses_from 0 xs ++ access_at (0 + length (filter_map sync_of xs)) k) stop ∙ append-nil (accesses_from 0 xs) in
        let edges : length (filter_map sync_of (xs ++ m.taken ∷ [])) ≡ length (filter_map sync_of xs) = edges_after xs m.taken l None no_sync ∙ ap length (append-nil (filter_map sync_of xs)) in
        inr (record {
          status = r.status;
          ended = ap (λ (s : Proc). s.status) same ∙ r.ended;
          sets = subst (λ as'. HasSets as' (length (filter_map sync_of (xs ++ m.taken ∷ []))) (l.entries ++ entries_of program plan l m)) (sym accesses)
              (subst (λ k. HasSets (accesses_from 0 xs) k (l.entries ++ entries_of program plan l m)) (sym edges)
              (subst (λ es. HasSets (accesses_from 0 xs) (length (filter_map sync_of xs)) es) (sym (ap (λ es. l.entries ++ es) nothing ∙ append-nil l.entries)) r.sets));
        })

    recording_step : IsRecording xs l → IsRecording (xs ++ m.taken ∷ []) now
    recording_step (inr ended) = after_end ended
    recording_step (inl running) = by (status_of m.taken.need) refl
      where
        by : (o : Option Status) → status_of m.taken.need ≡ o → IsRecording (xs ++ m.taken ∷ []) now
        by None is = on running is
        by (Some st) is = off running st is

  recording_fold : (xs : List Taken) (l : Logging) (ms : List Moment) → IsRecording xs l → AreOwn program plan l.proc (steps_of ms) → AreNumbered (steps_of ms) → IsRecording (xs ++ steps_of ms) (fold (log_step program plan) l ms)
  recording_fold xs l [] r own numbered = subst (λ ys. IsRecording ys l) (sym (append-nil xs)) r
  recording_fold xs l (m ∷ ms) r own numbered =
      subst (λ ys. IsRecording ys (fold (log_step program plan) (log_step program plan l m) ms)) (append_assoc xs (m.taken ∷ []) (steps_of ms))
      (recording_fold (xs ++ m.taken ∷ []) (log_step program plan l m) ms (recording_step xs l m own.0 numbered.0 r) own.1 numbered.1)

-- ---- whole logs

closing : (xs : List Taken) (l : Logging) → IsRecording xs l → HasSets (accesses_from 0 xs) (length (filter_map sync_of xs)) (closed_log l)
closing xs l (inl r) = record {
  before = l.entries;
  status = status.Blocked;
  rest = l.rest;
  entries_are = ap (λ o. l.entries ++ (if is_none o then entry.End status.Blocked l.rest l.reads l.writes ∷ [] else [])) r.runs
      ∙ ap₂ (λ reads writes. l.entries ++ entry.End status.Blocked l.rest reads writes ∷ []) r.reads r.writes;
  syncs_are = r.syncs_are;
  no_end = r.no_end;
}
closing xs l (inr r) =
    subst (λ es. HasSets (accesses_from 0 xs) (length (filter_map sync_of xs)) es)
    (sym (ap (λ o. l.entries ++ (if is_none o then entry.End status.Blocked l.rest l.reads l.writes ∷ [] else [])) r.ended ∙ append-nil l.entries))
    r.sets

module _ (setting : Setting) where
  -- the log of process p, by its own moments
  log_found : (q : ℕ) (moments : List (List Moment)) (p : ℕ) (entries : List Entry) → slice_get (map closed_log (logs_from setting q moments)) p ≡ Some entries
      → (ms : List Moment) × (slice_get moments p ≡ Some ms) × (closed_log (log_of setting (q + p) ms) ≡ entries)
  log_found q [] p entries e = absurd (none-some entries e)
  log_found q (ms ∷ rest) zero entries e = (ms, refl, (let z : q + 0 ≡ q = omega arith in ap (λ k. closed_log (log_of setting k ms)) z) ∙ some e)
  log_found q (ms ∷ rest) (suc p) entries e =
      let r = log_found (q + 1) rest p entries e in
      (r.0, r.1, (let z : q + suc p ≡ (q + 1) + p = omega arith in ap (λ k. closed_log (log_of setting k r.0)) z) ∙ r.2)

  pub steps_found : (moments : List (List Moment)) (p : ℕ) (ms : List Moment) → slice_get moments p ≡ Some ms → get_or (map steps_of moments) p [] ≡ steps_of ms
  steps_found [] p ms e = absurd (none-some ms e)
  steps_found (xs ∷ rest) zero ms e = ap steps_of (some e)
  steps_found (xs ∷ rest) (suc p) ms e = steps_found rest p ms e

  begun_recording : (p : ℕ) → IsRecording [] (begun_log setting p)
  begun_recording p = inl (record { runs = refl; syncs_are = refl; no_end = refl; reads = refl; writes = refl })

  pub sets_recorded : (h : List ℕ) (p : ℕ) (entries : List Entry) → IsValid setting.program → slice_get (map closed_log (loggings setting h)) p ≡ Some entries → RecordsAccesses (story setting h) p entries
  sets_recorded h p entries v e =
      let found = log_found 0 (told setting h).moments p entries e in
      let ms : List Moment = found.0 in
      let same : get_or (story setting h).steps p [] ≡ steps_of ms = steps_found (told setting h).moments p ms found.1 in
      let own : AreOwn setting.program setting.plan (started setting.program setting.plan p setting.budget) (steps_of ms) = subst (λ xs. AreOwn setting.program setting.plan (started setting.program setting.plan p setting.budget) xs) same (own_steps_told setting h p) in
      let numbered' : AreNumbered (steps_of ms) = subst AreNumbered same (steps_numbered setting.program setting.plan v setting.budget h p) in
      let r : IsRecording (steps_of ms) (log_of setting p ms) = recording_fold setting.program setting.plan [] (begun_log setting p) ms (begun_recording p) own numbered' in
      let sets : HasSets (accesses_from 0 (steps_of ms)) (length (filter_map sync_of (steps_of ms))) (closed_log (log_of setting p ms)) = closing (steps_of ms) (log_of setting p ms) r in
      let z : 0 + p ≡ p = omega arith in
      let are : closed_log (log_of setting p ms) ≡ entries = ap (λ k. closed_log (log_of setting k ms)) (sym z) ∙ found.2 in
      let all : HasSets (accesses_from 0 (get_or (story setting h).steps p [])) (length (filter_map sync_of (get_or (story setting h).steps p []))) entries =
      subst (λ es. HasSets (accesses_from 0 (get_or (story setting h).steps p [])) (length (filter_map sync_of (get_or (story setting h).steps p []))) es) are
      (subst (λ xs. HasSets (accesses_from 0 xs) (length (filter_map sync_of xs)) (closed_log (log_of setting p ms))) (sym same) sets) in
      record { before = all.before; status = all.status; rest = all.rest; entries_are = all.entries_are; syncs_are = all.syncs_are; no_end = all.no_end }

pub record_sets : LogsRecordAccesses
record_sets setting h p entries v e = sets_recorded setting h p entries v e
