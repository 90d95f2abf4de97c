-- The logs of a lawful recording name cells of its program alone.
use Rattle.ppd_ast.specs.Members.{has}
use Rattle.ppd_ast.specs.declared.program.Program.{Program}
use Rattle.ppd_codec.specs.Form.{Along}
use Rattle.ppd_codec.specs.Format.{an_entry, log}
use Rattle.ppd_codec.specs.Recordings.{IsLawfulBy, facts_of}
use Rattle.ppd_codec.specs.declared.recording.Header.{Header}
use Rattle.ppd_codec_fields.specs.Fields.{is_next}
use Rattle.ppd_model.specs.declared.entry.Entry.{Entry}
use Rattle.ppd_model.specs.declared.entry.Entry.TheVariants as entry
use Rattle.ppd_model.specs.declared.entry.Logs.{Logs}
use Rattle.ppd_graph.specs.Graphs.{sets_at}
use Rattle.ppd_graph.specs.LogRecord.{edge_sets, edge_sets_in, no_sets, sets_from}
use Rattle.ppd_graph.specs.declared.sets.EdgeSets.{EdgeSets}
use Rattle.ppd_race.specs.Races.{AreCellsThere, cells_by}
use Rattle.std.proofs.Common.{Bool, List, [], ap, arith, false, get_or, length, map, ne_eqb, refl, suc, true, zero, ℕ, ◌++◌, ◌+◌, ◌<◌, ◌∙◌, ◌∷◌, ◌≡◌, ◌≤◌}
use Rattle.std.proofs.lemmas.Bool.Decides.{nat_tests}
use Rattle.std.specs.List.{AllByRecursion}
use Rattle.std.specs.Prelude.{IfSome, None, Option, Some, ◌||◌}

record AreBelow (n : ℕ) (s : EdgeSets) : Type 0 where
  pub reads : AllByRecursion (λ c. c < n) s.reads
  pub writes : AllByRecursion (λ c. c < n) s.writes

next_below : (n low c : ℕ) → is_next n low c ≡ true → c < n
next_below n low c e = grind (arith, nat_tests)

along_below : (n low : ℕ) (cs : List ℕ) → Along (is_next n) (λ c. c + 1) low cs → AllByRecursion (λ c. c < n) cs
along_below n low [] h = tt
along_below n low (c ∷ cs) h = (next_below n low c h.0, along_below n (c + 1) cs h.1)

-- ---- the sets of entries

none_below : (n : ℕ) → AreBelow n no_sets
none_below n = record { reads = tt; writes = tt }

sets_below : (p : Program) (found : Option EdgeSets) (es : List Entry) → IfSome found (AreBelow (length p.starts)) → AllByRecursion (an_entry (facts_of p)).Lawful es → AllByRecursion (AreBelow (length p.starts)) (sets_from found es)
sets_below p None [] h l = (none_below (length p.starts), tt)
sets_below p (Some x) [] h l = (h, tt)
sets_below p found (entry.Sync k o n v r w ∷ es) h l =
    (record { reads = along_below (length p.starts) 0 r l.0.1.1.1.1.1.0.2; writes = along_below (length p.starts) 0 w l.0.1.1.1.1.1.1.2 }, sets_below p None es tt l.1)
sets_below p found (entry.Prelog b vs ∷ es) h l = sets_below p found es h l.1
sets_below p found (entry.Unit u vs ∷ es) h l = sets_below p found es h l.1
sets_below p found (entry.Postlog b vs ∷ es) h l = sets_below p found es h l.1
sets_below p None (entry.End s n r w ∷ es) h l =
    sets_below p (Some (edge_sets r w)) es (record { reads = along_below (length p.starts) 0 r l.0.1.1.1.0.2; writes = along_below (length p.starts) 0 w l.0.1.1.1.1.2 }) l.1
sets_below p (Some x) (entry.End s n r w ∷ es) h l = sets_below p (Some x) es h l.1

lists_below : (p : Program) (ls : List (List Entry)) → AllByRecursion (log (facts_of p)).Lawful ls → AllByRecursion (AllByRecursion (AreBelow (length p.starts))) (map (sets_from None) ls)
lists_below p [] l = tt
lists_below p (es ∷ ls) l = (sets_below p None es tt l.0.1, lists_below p ls l.1)

-- ---- the sets of an edge

got_of : {A : Type 0} (P : A → Type 0) (d : A) (xs : List A) (i : ℕ) → P d → AllByRecursion P xs → P (get_or xs i d)
got_of P d [] i h l = h
got_of P d (x ∷ xs) zero h l = l.0
got_of P d (x ∷ xs) (suc i) h l = got_of P d xs i h l.1

not_there : (n c : ℕ) (cs : List ℕ) → AllByRecursion (λ d. d < n) cs → n ≤ c → has cs c ≡ false
not_there n c [] h le = refl
not_there n c (d ∷ ds) h le =
    let less : d < n = h.0 in
    ap (λ b. b || has ds c) (ne_eqb d c (λ same. absurd (omega (arith, same, less, le)))) ∙ not_there n c ds h.1 le

by_kind : (n c : ℕ) (w : Bool) (s : EdgeSets) → AreBelow n s → n ≤ c → has (cells_by w s) c ≡ false
by_kind n c true s h le = not_there n c s.writes h.writes le
by_kind n c false s h le = not_there n c s.reads h.reads le

pub cells_there : (p : Program) (s : List ℕ) (h : Header) (l : Logs) → IsLawfulBy p s h l → AreCellsThere p l
cells_there p s h l lawful = λ a c w le there.
    let all = lists_below p l.lists lawful.fields.1.1 in
    let own = got_of (AllByRecursion (AreBelow (length p.starts))) [] (edge_sets_in l) a.process tt all in
    by_kind (length p.starts) c w (sets_at (edge_sets_in l) a) (got_of (AreBelow (length p.starts)) no_sets (get_or (edge_sets_in l) a.process []) a.edge (none_below (length p.starts)) own) le
