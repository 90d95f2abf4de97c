-- The races of the logs of a run are those of the run.
use Rattle.ppd_model.specs.Setting.{Setting}
use Rattle.ppd_model.specs.Synchronizations.{sync_of}
use Rattle.std.specs.Bool.{beq}
use Rattle.std.proofs.Common.{◌≡◌, ℕ, zero, suc, ◌+◌, ◌<◌, ◌≤◌, List, [], ◌∷◌, ◌++◌, Some, Bool, true, false, refl, ap, sym, subst, ◌∙◌, arith, length, map, get_or, filter_map, ne_eqb, inl, inr, ◌&&◌, ◌||◌}
use Rattle.std.specs.Prelude.{nat_eq, slice_get}
use Rattle.std.specs.List.{list_any, range_with_len}
use Rattle.std.proofs.lemmas.Bool.{cases_eq}
use Rattle.ppd_ast.specs.Valid.{IsValid}
use Rattle.ppd_ast.specs.Members.{has}
use Rattle.ppd_model.specs.declared.graph.EdgeId.{EdgeId}
use Rattle.ppd_model.specs.HappenedBefore.{is_edge_before}
use Rattle.ppd_model.specs.Logs.{closed_logs}
use Rattle.ppd_model.specs.Races.{edges_of_story, has_access, races}
use Rattle.ppd_model.specs.Record.{SharedAccess, accesses, record_of}
use Rattle.ppd_model.specs.RecordedSets.{set_in, last_edge, record_in, sync_in}
use Rattle.ppd_model.specs.Story.{story}
use Rattle.ppd_model.proofs.AccessSets.{accesses_there, cells_are}
use Rattle.ppd_model.proofs.Prefixes.{objects_stay}
use Rattle.ppd_model.proofs.RecordedSyncs.{record_syncs}
use Rattle.ppd_race_found.specs.Graphs.{sets_at}
use Rattle.ppd_race_found.specs.LogRecord.{no_sets, edge_sets_in}
use Rattle.ppd_race_found.proofs.ClosedSets.{row_sets, run_sets}
use Rattle.ppd_race_found.proofs.Timed.{at_end, at_front, length_more}
use Rattle.ppd_race_found.proofs.Leads.{length_mapped}
use Rattle.ppd_race.specs.Races.{AreCellsThere, IsThere, RunRacesAreOfLogs, cells_by, edges_of_logs, races_among}
use Rattle.ppd_race.proofs.Alike.{alike_race}

count_range : {A : Type 0} (f : ℕ → A) (a n : ℕ) → length (map f (range_with_len a n)) ≡ n
count_range f a zero = refl
count_range f a (suc n) = ap suc (count_range f (a + 1) n)

at_range_from : {A : Type 0} (f : ℕ → A) (d : A) (a n i : ℕ) → i < n → get_or (map f (range_with_len a n)) i d ≡ f (a + i)
at_range_from f d a zero i h = absurd (omega (arith, h))
at_range_from f d a (suc n) zero h = let e : a ≡ a + zero = omega arith in ap f e
at_range_from f d a (suc n) (suc i) h = let e : (a + 1) + i ≡ a + suc i = omega arith in at_range_from f d (a + 1) n i (omega (arith, h)) ∙ ap f e

-- all of the first n and the one after them
at_through : {A : Type 0} (f : ℕ → A) (d : A) (n i : ℕ) → i < n + 1 → get_or (map f (range_with_len 0 n) ++ f n ∷ []) i d ≡ f i
at_through f d n i h = elim (cases_eq i n) [
  | inl e ↦ ap (λ k. get_or (map f (range_with_len 0 n) ++ f n ∷ []) k d) (e ∙ sym (count_range f 0 n)) ∙ at_end (map f (range_with_len 0 n)) (f n) d ∙ ap f (sym e)
  | inr other ↦
      let less : i < n = omega (arith, h, other) in
      let z : 0 + i ≡ i = omega arith in
      let long = count_range f 0 n in
      at_front (map f (range_with_len 0 n)) (f n) d i (subst (λ k. i < k) (sym long) less) ∙ at_range_from f d 0 n i less ∙ ap f z
]

none_any : {A : Type 0} (t : A → Bool) (xs : List A) → ((m : ℕ) (a : A) → slice_get xs m ≡ Some a → t a ≡ false) → list_any t xs ≡ false
none_any t [] h = refl
none_any t (x ∷ xs) h = ap (λ b. b || list_any t xs) (h 0 x refl) ∙ none_any t xs (λ m a e. h (suc m) a e)

and_between : (a c : Bool) → (a && false && c) ≡ false
and_between true c = refl
and_between false c = refl

module _ (setting : Setting) (h : List ℕ) (valid : IsValid setting.program) where
  count : (p : ℕ) → p < length (closed_logs setting h).lists → length (get_or (edge_sets_in (closed_logs setting h)) p []) ≡ last_edge (story setting h) p + 1
  count p lt =
      let n = last_edge (story setting h) p in
      ap length (row_sets setting h valid p lt) ∙ length_more (map (run_sets (story setting h) p) (range_with_len 0 n)) (run_sets (story setting h) p n) ∙ ap (λ k. k + 1) (count_range (run_sets (story setting h) p) 0 n)

  by_kind : (p i : ℕ) (w : Bool) → cells_by w (run_sets (story setting h) p i) ≡ set_in (story setting h) p i w
  unfolding run_sets
  by_kind p i true = refl
  by_kind p i false = refl

  access : (a : EdgeId) (c : ℕ) (w : Bool) → IsThere (edges_of_logs setting.program (closed_logs setting h)) a
      → has (cells_by w (sets_at (edge_sets_in (closed_logs setting h)) a)) c ≡ has_access (story setting h) a.process a.edge c w
  access a c w x =
      let n = last_edge (story setting h) a.process in
      let inside : a.edge < n + 1 = subst (λ k. a.edge < k) (count a.process x.0) x.1 in
      ap (λ sets. has (cells_by w (get_or sets a.edge no_sets)) c) (row_sets setting h valid a.process x.0)
      ∙ ap (λ sets. has (cells_by w sets) c) (at_through (run_sets (story setting h) a.process) no_sets n a.edge inside)
      ∙ ap (λ cells. has cells c) (by_kind a.process a.edge w) ∙ (cells_are (story setting h) a.process a.edge w).are c

  size : length (story setting h).cells ≡ length setting.program.starts
  size = (objects_stay setting h).cells

  beyond : (p i c : ℕ) (w : Bool) → length setting.program.starts ≤ c → has_access (story setting h) p i c w ≡ false
  beyond p i c w le = none_any (λ (a : SharedAccess). nat_eq a.edge i && nat_eq a.cell c && beq a.writes w) (accesses (story setting h) p) (λ m a e.
      let below = accesses_there setting h p m a valid e in
      ap (λ b. nat_eq a.edge i && b && beq a.writes w) (ne_eqb a.cell c (λ same. absurd (omega (arith, same, below, le)))) ∙ and_between (nat_eq a.edge i) (beq a.writes w))

  records : record_in (closed_logs setting h) ≡ record_of (story setting h)
  records = (record_syncs setting h).closed

  pub cells_there : AreCellsThere setting.program (closed_logs setting h)
  cells_there a c w le x = access a c w x ∙ beyond a.process a.edge c w le

  pub run_races : races_among (edges_of_logs setting.program (closed_logs setting h)) ≡ races setting h
  run_races =
      alike_race (edges_of_logs setting.program (closed_logs setting h)) (edges_of_story setting.program (story setting h)) (record {
        processes = sym (length_mapped (filter_map sync_in) (closed_logs setting h).lists) ∙ ap length records ∙ length_mapped (filter_map sync_of) (story setting h).steps;
        count = count;
        accesses = access;
        before = λ a b x y. ap (λ r. is_edge_before setting.program r a b) records;
        cells = (let e = size in omega (arith, e));
        none = λ a c w le x. access a c w x ∙ beyond a.process a.edge c w (let e = size in omega (arith, e, le));
      })

pub of_runs : RunRacesAreOfLogs
of_runs setting h valid = (run_races setting h valid, cells_there setting h valid)
