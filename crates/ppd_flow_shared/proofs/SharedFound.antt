-- Where a shared cell was written, by what the replays on the way answer.
use Rattle.ppd_flow_past.specs.PastSetting.{past_setting}
use Rattle.std.proofs.Common.{◌≡◌, ℕ, zero, suc, ◌+◌, ℤ, List, [], ◌∷◌, ◌++◌, Option, None, Result, Ok, Err, refl, ap, sym, ◌∙◌, subst, get_or, map}
use Rattle.std.proofs.lemmas.List.{append-nil}
use Rattle.ppd_model.specs.declared.entry.Entry.{Entry}
use Rattle.ppd_model.specs.declared.flow.Origin.{Origin}
use Rattle.ppd_model.specs.declared.flow.Origin.TheVariants as origin
use Rattle.ppd_model.specs.declared.graph.EdgeId.{EdgeId}
use Rattle.ppd_flow_tables.specs.FlowError.{FlowError}
use Rattle.ppd_flow_tables.specs.Past.{Past}
use Rattle.ppd_flow_tables.specs.ByReplays.{IsFoundBy, steps_to_replay}
use Rattle.ppd_flow_tables.specs.SeenBy.{failed_in, seen_by, seen_in}
use Rattle.ppd_flow_tables.proofs.Found.{err_any, found_err, found_given, found_then}
use Rattle.ppd_graph.specs.declared.walked.Walked.{Walked}
use Rattle.ppd_graph.specs.declared.walked.Walked.TheVariants.{Stopped, Passed, Found}
use Rattle.ppd_graph.specs.Ends.{end_interval, end_item}
use Rattle.ppd_graph.specs.Looked.{Looked, look_map, look_then, after_replay}
use Rattle.ppd_graph.specs.Seen.{Seen}
use Rattle.ppd_graph.specs.Shared.{Missing, in_process, of_process, own_or, seen_at, written_at, written_in}
use Rattle.ppd_graph.specs.Walk.{walk}
use Rattle.ppd_flow_shared.specs.declared.edge_end.EdgeEnd.{EdgeEnd}
use Rattle.ppd_flow_shared.specs.SharedCells.{IsAnswerTo, IsSought, IsWalked, answer_of, edge_end_of, edge_unless_found, seens_in}

-- ---- answers

abbrev end_or : EdgeEnd → Result EdgeEnd FlowError → EdgeEnd
end_or d (Ok u) = u
end_or d (Err e) = d

abbrev walked_or : Walked → Result Walked FlowError → Walked
walked_or d (Ok w) = w
walked_or d (Err e) = d

-- ---- processes

module _ (past : Past) where
  abbrev xs : List Seen
  xs = seens_in past

  abbrev seen : List Entry → Seen
  seen entries = seen_by (past_setting past) entries

  pub seen_there : (p : ℕ) → seen_at xs p ≡ seen_in past p
  seen_there p = by past.cut.now.lists p
    where
      by : (lists : List (List Entry)) (q : ℕ) → seen_at (map seen lists) q ≡ seen (get_or lists q [])
      by [] q = refl
      by (es ∷ lists) zero = refl
      by (es ∷ lists) (suc q) = by lists q

  -- ---- the end of an edge

  module _ (e : EdgeId) where
    abbrev entries : List Entry
    entries = get_or past.logs.now.lists e.process []

    abbrev k : ℕ
    k = end_interval entries e.edge

    -- ---- the last write in an edge

    module _ (c : ℕ) where
      abbrev Whole : Seen → ℕ → ℕ → Result (ℤ × Origin) FlowError → Type 0
      Whole y n q r =
          IsAnswerTo past
          (look_map (written_at past.logs.now c e)
          (in_process e.process (after_replay k (walk y c k (end_item entries y e.edge))))) n q r

      as_written : (n q : ℕ) (r : Result (ℤ × Origin) FlowError) → Whole (seen_in past e.process) n q r
          → IsAnswerTo past (written_in past.logs.now xs c e) n q r
      as_written n q r f = subst (λ y. Whole y n q r) (sym (seen_there e.process)) f

      abbrev x : Seen
      x = seen_in past e.process

      abbrev pub Before : ℕ → ℕ → ℕ → ℕ → Result (ℤ × Origin) FlowError → Type 0
      Before m j n q r =
          IsAnswerTo past (look_map (written_at past.logs.now c e) (in_process e.process (walk x c m j))) n q r

      -- the walk from where the edge ends, by its replay
      pub written_from_end : (end : EdgeEnd) (n o q : ℕ) (r : Result (ℤ × Origin) FlowError)
          → IsFoundBy past ((e.process, k) ∷ []) (Ok (edge_end_of past e)) n o (Ok end)
          → Before end.interval end.place o q r
          → IsAnswerTo past (written_in past.logs.now xs c e) n q r
      written_from_end end n o q r f g =
          let is : edge_end_of past e ≡ end = ap (end_or end) f.1 in
          let j = end_item entries x e.edge in
          as_written n q r
          (found_then past ((e.process, k) ∷ []) (of_process e.process (walk x c k j).replays) (Ok (edge_end_of past e))
          (answer_of (written_at past.logs.now c e (walk x c k j).found)) end n o q r f
          (subst (λ (u : EdgeEnd). Before u.interval u.place o q r) (sym is) g))

      -- or by its items, which are there
      pub written_from_items : (n o : ℕ) (r : Result (ℤ × Origin) FlowError) → failed_in past e.process k ≡ None
          → Before k (end_item entries x e.edge) n o r
          → IsAnswerTo past (written_in past.logs.now xs c e) n (o + steps_to_replay past e.process k) r
      written_from_items n o r fine g =
          let j = end_item entries x e.edge in
          as_written n (o + steps_to_replay past e.process k) r
          (found_given past e.process k (of_process e.process (walk x c k j).replays)
          (answer_of (written_at past.logs.now c e (walk x c k j).found)) n o r fine g)

  -- ---- a shared read

  module _ (p c i j : ℕ) (other : Looked (ℕ × ℕ) (Result Origin Missing)) where
    abbrev Read : Seen → ℕ → ℕ → Result Origin FlowError → Type 0
    Read y n q r =
        IsAnswerTo past (look_then (in_process p (walk y c i j)) (λ w. own_or p w other)) n q r

    at_there : (n q : ℕ) (r : Result Origin FlowError) → Read (seen_in past p) n q r → Read (seen_at xs p) n q r
    at_there n q r f = subst (λ y. Read y n q r) (sym (seen_there p)) f

    abbrev here : Looked ℕ Walked
    here = walk (seen_in past p) c i j

    -- after the walk, which found this
    after_walk : (w : Walked) (n q : ℕ) (r : Result Origin FlowError) → here.found ≡ w
        → IsFoundBy past (of_process p here.replays ++ (own_or p w other).replays) (answer_of
        (own_or p w other).found) n q r
        → Read (seen_at xs p) n q r
    after_walk w n q r is f =
        at_there n q r
        (subst (λ u. IsFoundBy past (of_process p here.replays ++ (own_or p u other).replays) (answer_of
        (own_or p u other).found) n q r) (sym is) f)

    pub read_failed : (n q : ℕ) (u : FlowError)
        → IsWalked past p c i j n q (Err u)
        → Read (seen_at xs p) n q (Err u)
    read_failed n q u f =
        at_there n q (Err u)
        (found_err past (of_process p here.replays) (own_or p here.found other).replays here.found (answer_of
        (own_or p here.found other).found) n q u f)

    pub read_own : (m t : ℕ) (v : ℤ) (n q : ℕ)
        → IsWalked past p c i j n q (Ok (Found m t v))
        → Read (seen_at xs p) n q (Ok (origin.Item p m t))
    read_own m t v n q f =
        let is : here.found ≡ Found m t v = ap (walked_or (Found m t v)) f.1 in
        let alone : of_process p here.replays ++ [] ≡ of_process p here.replays = append-nil (of_process p here.replays) in
        after_walk (Found m t v) n q (Ok (origin.Item p m t)) is
        (subst (λ ks. IsFoundBy past ks (Ok (origin.Item p m t)) n q (Ok (origin.Item p m t))) (sym alone)
        (f.0, refl, f.2))

    pub read_stopped : (n m q : ℕ) (r : Result Origin FlowError)
        → IsWalked past p c i j n m (Ok Stopped)
        → IsAnswerTo past other m q r → Read (seen_at xs p) n q r
    read_stopped n m q r f g =
        after_walk Stopped n q r (ap (walked_or Stopped) f.1)
        (found_then past (of_process p here.replays) other.replays (Ok here.found) (answer_of other.found) Stopped n m q r
        f g)

    pub read_passed : (n m q : ℕ) (r : Result Origin FlowError)
        → IsWalked past p c i j n m (Ok Passed)
        → IsAnswerTo past other m q r → Read (seen_at xs p) n q r
    read_passed n m q r f g =
        after_walk Passed n q r (ap (walked_or Passed) f.1)
        (found_then past (of_process p here.replays) other.replays (Ok here.found) (answer_of other.found) Passed n m q r
        f g)

-- ---- the edge before that of a place in which a cell was written

module _ (past : Past) (p c i j : ℕ) (best : Option EdgeId) where
  abbrev far : Looked ℕ Walked
  far = walk (seen_in past p) c i j

  abbrev Far : ℕ → ℕ → Result (Option EdgeId) FlowError → Type 0
  Far n m r =
      IsSought past (look_map (λ w. edge_unless_found w best) (in_process p (walk (seen_in past p) c i j))) n m r

  -- what the walk found leaves this edge
  pub far_found : (w : Walked) (o : Option EdgeId) (n m : ℕ) → IsWalked past p c i j n m (Ok w) → edge_unless_found w best ≡ o
      → Far n m (Ok o)
  far_found w o n m f e =
      let is : far.found ≡ w = ap (walked_or w) f.1 in
      (f.0, ap (λ (u : Walked). Ok (edge_unless_found u best)) is ∙ ap (λ (x : Option EdgeId). Ok x) e, f.2)

  pub far_failed : (n m : ℕ) (e : FlowError) → IsWalked past p c i j n m (Err e) → Far n m (Err e)
  far_failed n m e f =
      err_any past (of_process p far.replays) far.found (Ok (edge_unless_found far.found best)) n m e f
