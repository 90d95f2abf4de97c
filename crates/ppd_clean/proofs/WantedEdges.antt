-- The edges that are wanted, and the logs that are cut after them, by the order of a past's graph.
use Rattle.std.specs.List.{range_with_len}
use Rattle.law_clean.proofs.PastRaces.{both}
use Rattle.law_clean.proofs.PastWords as words
use Rattle.law_clean.proofs.PastWords.{cut_from}
use Rattle.law_clean.proofs.Ranges.{first_between}
use Rattle.law_clean.specs.Cuts.{cut, cut_logs}
use Rattle.law_clean.specs.Pasts.{any_raced, is_past}
use Rattle.law_clean.specs.Search as sought
use Rattle.ppd_ast.specs.declared.program.Program.{Program}
use Rattle.ppd_clean.proofs.Orders.{IsIn, any_first, before_same, ended, first_is, inside}
use Rattle.ppd_clean.proofs.Ranges.{fold_same}
use Rattle.ppd_clean.specs.ByOrder.{first_unclean, is_raced_to, is_wanted, last_before, own_last}
use Rattle.ppd_clean.specs.Firsts.{firsts_of}
use Rattle.ppd_clean_past.specs.ByOrder.{last_edge}
use Rattle.ppd_model.specs.declared.entry.Entry.{Entry}
use Rattle.ppd_model.specs.declared.entry.Logs.{Logs}
use Rattle.ppd_graph.specs.Graphs.{IsEdge, IsGraphOf}
use Rattle.ppd_graph.specs.declared.sync_graph.SyncGraph.{SyncGraph}
use Rattle.ppd_model.proofs.Changes.{some}
use Rattle.ppd_model.specs.HappenedBefore.{edge}
use Rattle.ppd_model.specs.RecordedSets.{record_in}
use Rattle.ppd_model.specs.declared.graph.EdgeId.{EdgeId}
use Rattle.ppd_model.specs.declared.graph.Race.{Race}
use Rattle.ppd_race.specs.Races.{edges_of_logs, races_among}
use Rattle.std.proofs.Common.{Bool, List, None, Option, Some, [], ap, ap₂, arith, if◌then◌else◌, inl, inr, length, ne_eqb, not, refl, suc, sym, true, zero, ℕ, ◌&&◌, ◌+◌, ◌-◌, ◌<◌, ◌∙◌, ◌∷◌, ◌≡◌, ◌≤◌}
use Rattle.std.proofs.lemmas.Bool.{and_from, le-leb, leb-true}
use Rattle.std.proofs.lemmas.Option.{none-some}
use Rattle.std.specs.Prelude.{find, nat_eq, nat_le, unwrap_or}

same_cuts : (f g : ℕ → Option ℕ) → ((q : ℕ) → f q ≡ g q) → (p : ℕ) (lists : List (List Entry)) → cut_from f p lists ≡ cut_from g p lists
same_cuts f g h p [] = refl
same_cuts f g h p (es ∷ lists) = ap₂ (λ o (rest : List (List Entry)). cut o es ∷ rest) (h p) (same_cuts f g h (p + 1) lists)

pub cuts_same : (f g : ℕ → Option ℕ) (logs : Logs) → ((q : ℕ) → f q ≡ g q) → cut_logs f logs ≡ cut_logs g logs
cuts_same f g logs h = ap (λ (lists : List (List Entry)). record { lists = lists }) (same_cuts f g h 0 logs.lists)

module _ (program : Program) (logs : Logs) (g : SyncGraph) (is : IsGraphOf program logs g) (races : List Race) (races_are : races ≡ races_among (edges_of_logs program logs)) where
  abbrev firsts : List EdgeId
  firsts = firsts_of races (length logs.lists)

  raced_to_is : (q i : ℕ) → is_raced_to (firsts_of races (length logs.lists)) (edge q i) ≡ words.is_raced_to program (record_in logs) races q i
  raced_to_is q i = any_first program logs g is races races_are (λ a. nat_eq a.process q && nat_le a.edge i) down
    where
      down : (a : EdgeId) (k : ℕ) → k ≤ a.edge → (nat_eq a.process q && nat_le a.edge i) ≡ true → (nat_eq a.process q && nat_le k i) ≡ true
      down a k le h =
          let b = both (nat_eq a.process q) (nat_le a.edge i) h in
          let under : a.edge ≤ i = leb-true a.edge i b.1 in
          and_from (nat_eq a.process q) (nat_le k i) b.0 (le-leb k i (omega (arith, le, under)))

  wanted_is : (p top q i : ℕ) → IsIn program logs g is (edge p top) → IsEdge g (edge q i)
      → is_wanted g (firsts_of races (length logs.lists)) (edge p top) (edge q i) ≡ sought.is_wanted program (record_in logs) races p top q i
  wanted_is p top q i x y = ap₂ (λ a b. a && not b) (before_same program logs g is (edge q i) (edge p top) y x) (raced_to_is q i)

  other_is : (p top q : ℕ) → IsIn program logs g is (edge p top)
      → last_before g (firsts_of races (length logs.lists)) (edge p top) q (last_edge logs q) ≡ words.other_last program (record_in logs) races p top q
  other_is p top q x =
      fold_same (λ i. is_wanted g firsts (edge p top) (edge q i)) (sought.is_wanted program (record_in logs) races p top q) None 0 (last_edge logs q)
      (λ i low high. wanted_is p top q i x (ended program logs g is q i (omega (arith, high))).0)

  own_is : (p : ℕ) (o : Option ℕ) → own_last (last_edge logs p) o ≡ sought.own_last program (record_in logs) races p o
  own_is p None = refl
  own_is p (Some zero) = refl
  own_is p (Some (suc i)) =
      let z : suc i - 1 ≡ i = omega arith in
      ap (λ b. if b then None else Some (suc i - 1)) (ne_eqb (suc i) 0 (λ e. (let n : suc i ≡ 0 = e in omega (arith, n)))) ∙ ap (λ k. Some k) z

  wanted_last : (p : ℕ) (o : Option ℕ) → ((u : ℕ) → o ≡ Some u → u ≤ last_edge logs p) → (q : ℕ)
      → (if nat_eq q p then own_last (last_edge logs p) o else last_before g (firsts_of races (length logs.lists)) (edge p (unwrap_or o (last_edge logs p))) q (last_edge logs q))
      ≡ sought.last_wanted program (record_in logs) races p o q
  wanted_last p o bound q =
      ap₂ (λ (x y : Option ℕ). if nat_eq q p then x else y) (own_is p o)
      (other_is p (unwrap_or o (last_edge logs p)) q (inside program logs g is p (unwrap_or o (last_edge logs p)) (top_is o bound)))
    where
      top_is : (o : Option ℕ) → ((u : ℕ) → o ≡ Some u → u ≤ last_edge logs p) → unwrap_or o (last_edge logs p) ≤ last_edge logs p
      top_is None b = omega arith
      top_is (Some u) b = b u refl

  -- the first edge whose past has a race is one of the process
  pub first_bound : (p from u : ℕ) → first_unclean g (firsts_of races (length logs.lists)) p from (last_edge logs p) ≡ Some u → u ≤ last_edge logs p
  first_bound p from u e =
      let t : ℕ → Bool = λ i. any_raced (is_past program (record_in logs) (edge p i)) races in
      let found : find t (range_with_len from (last_edge logs p + 1 - from)) ≡ Some u = sym (first_is program logs g is races races_are p from) ∙ e in
      elim (first_between t from (last_edge logs p)) [
        | inl none ↦ absurd (none-some u (sym none.0 ∙ found))
        | inr r ↦
            let same : r.0 ≡ u = some (sym r.1 ∙ found) in
            let f = r.2 in
            let lt : r.0 < last_edge logs p + 1 = f.to_is in
            omega (arith, lt, same)
      ]

  pub cut_is : (p : ℕ) (o : Option ℕ) → ((u : ℕ) → o ≡ Some u → u ≤ last_edge logs p)
      → cut_logs (λ q. if nat_eq q p then own_last (last_edge logs p) o else last_before g (firsts_of races (length logs.lists)) (edge p (unwrap_or o (last_edge logs p))) q (last_edge logs q)) logs
      ≡ cut_logs (sought.last_wanted program (record_in logs) races p o) logs
  cut_is p o bound = cuts_same _ (sought.last_wanted program (record_in logs) races p o) logs (wanted_last p o bound)
