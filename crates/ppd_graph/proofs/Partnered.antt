-- The partners found among what is kept are those found in the record.
use Rattle.std.proofs.Common.{◌≡◌, ℕ, ◌+◌, List, [], ◌∷◌, ◌++◌, Option, Some, None, Bool, true, false, refl, ap, ap₂, sym, ◌∙◌, map, filter_map}
use Rattle.std.specs.Prelude.{is_some, nat_eq, ◌&&◌, ◌||◌, if◌then◌else◌}
use Rattle.std.specs.List.{cons_option}
use Rattle.ppd_ast.specs.declared.program.Program.{Program}
use Rattle.ppd_ast.specs.declared.status.SyncKind.{SyncKind}
use Rattle.ppd_ast.specs.Members.{has}
use Rattle.ppd_model.specs.declared.entry.Entry.{Entry}
use Rattle.ppd_model.specs.declared.entry.Entry.TheVariants as entry
use Rattle.ppd_model.specs.declared.entry.Logs.{Logs}
use Rattle.ppd_model.specs.Entries.{same_kind}
use Rattle.ppd_model.specs.declared.graph.NodeId.{NodeId}
use Rattle.std.specs.Option.{option_or as or_else}
use Rattle.ppd_model.specs.HappenedBefore.{node}
use Rattle.ppd_model.specs.Numbers.{sync}
use Rattle.ppd_model.specs.Synchronizations.{Sync}
use Rattle.ppd_graph.specs.declared.by_number.ByNumber.{ByNumber}
use Rattle.ppd_graph.specs.declared.greatest.Greatest.{Greatest}
use Rattle.ppd_graph.specs.declared.placed.Placed.{Placed}
use Rattle.ppd_graph.specs.ByNumber.{AllGreatest, KeepsAll, node_among, node_wanted, numbered_kept, partner_kept}
use Rattle.ppd_model.specs.RecordedSets.{record_in, sync_in}
use Rattle.ppd_graph.specs.Partners.{found, found_from, found_in_row, paired_by, pairs_of, partner_of, wanted}
use Rattle.ppd_graph.specs.Refusals.{Numbered, missing, missing_by, numbers_of, placed, placed_from, sync_placed}
use Rattle.ppd_graph.proofs.Vocabulary.{placed_lists, numbered_in}
use Rattle.ppd_model.specs.SameSyncs.{same_sync}

-- ---- where the first stands

first_or : (b : Bool) (x : Option NodeId) (r later : Option NodeId) (a : NodeId) → x ≡ or_else r later → (if b then Some a else x) ≡ or_else (if b then Some a else r) later
first_or true x r later a e = refl
first_or false x r later a e = e

among_row : (s : Sync) (p e i : ℕ) (xs : List Entry) (rest : List Placed) → node_among s (placed_from p e i xs ++ rest) ≡ or_else (found_in_row s p i (filter_map sync_in xs)) (node_among s rest)
among_row s p e i [] rest = refl
among_row s p e i (entry.Sync kind object number value reads writes ∷ xs) rest =
    first_or (same_sync (sync kind object number) s) (node_among s (placed_from p (e + 1) (i + 1) xs ++ rest)) (found_in_row s p (i + 1) (filter_map sync_in xs)) (node_among s rest) (node p i)
    (among_row s p (e + 1) (i + 1) xs rest)
among_row s p e i (entry.Prelog block values ∷ xs) rest = among_row s p (e + 1) i xs rest
among_row s p e i (entry.Unit unit values ∷ xs) rest = among_row s p (e + 1) i xs rest
among_row s p e i (entry.Postlog block values ∷ xs) rest = among_row s p (e + 1) i xs rest
among_row s p e i (entry.End status left reads writes ∷ xs) rest = among_row s p (e + 1) i xs rest

pub among_found : (s : Sync) (p : ℕ) (lists : List (List Entry)) → node_among s (placed_lists p lists) ≡ found_from s p (map (filter_map sync_in) lists)
among_found s p [] = refl
among_found s p (xs ∷ lists) = among_row s p 0 0 xs (placed_lists (p + 1) lists) ∙ ap (or_else (found_in_row s p 0 (filter_map sync_in xs))) (among_found s (p + 1) lists)

-- ---- partners

module _ (program : Program) (logs : Logs) (t : ByNumber) (kept : KeepsAll t (placed logs)) where
  wanted_same : (w : Option Sync) → node_wanted t w ≡ found (record_in logs) w
  wanted_same None = refl
  wanted_same (Some y) = kept y.kind y.object y.number ∙ among_found y 0 logs.lists

  partner_same : (s : Sync) → partner_kept program t s ≡ partner_of program (record_in logs) s
  partner_same s = ap (paired_by s.kind) (wanted_same (wanted program s))

  pub pairs_same : map (map (partner_kept program t)) (record_in logs) ≡ pairs_of program (record_in logs)
  pairs_same = ap (λ f. map (map f) (record_in logs)) (λ i s. partner_same s i)

-- ---- which numbers are there

there_same : (kind : SyncKind) (o n : ℕ) (xs : List Placed) → is_some (node_among (sync kind o n) xs) ≡ has (numbers_of kind o (map sync_placed xs)) n
there_same kind o n [] = refl
there_same kind o n (x ∷ xs) = by (same_kind x.kind kind && nat_eq x.object o) (nat_eq x.number n) refl (there_same kind o n xs)
  where
    by : (b c : Bool) → nat_eq x.number n ≡ c → is_some (node_among (sync kind o n) xs) ≡ has (numbers_of kind o (map sync_placed xs)) n
        → is_some (if b && c then Some x.node else node_among (sync kind o n) xs) ≡ has (cons_option (if b then Some x.number else None) (numbers_of kind o (map sync_placed xs))) n
    by true true e h = ap (λ d. d || has (numbers_of kind o (map sync_placed xs)) n) (sym e)
    by true false e h = h ∙ ap (λ d. d || has (numbers_of kind o (map sync_placed xs)) n) (sym e)
    by false c e h = h

module _ (program : Program) (t : ByNumber) (g : Greatest) (xs : List Placed) (kept : KeepsAll t xs) (greatest : AllGreatest xs g) where
  numbered_same : (kind : SyncKind) (o : ℕ) → numbered_kept t g kind o ≡ numbered_in (map sync_placed xs) kind o
  numbered_same kind o =
      let numbered : (ℕ → Bool) → ℕ → Numbered = λ f m. record { is_there = f; greatest = m } in
      ap₂ numbered (λ i n. (ap is_some (kept kind o n) ∙ there_same kind o n xs) i) (greatest kind o)

  pub missing_same : missing_by program (numbered_kept t g) ≡ missing program (map sync_placed xs)
  missing_same = ap (missing_by program) (λ i kind o. numbered_same kind o i)
