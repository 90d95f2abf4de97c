-- The replays for a shared read, and for an edge whose origin's interval alone is replayed.
use Rattle.ppd_model.specs.Setting.{Setting}
use Rattle.std.proofs.Common.{◌≡◌, ℕ, ◌+◌, ◌≤◌, ℤ, Bool, true, false, List, [], ◌∷◌, Option, Some, None, Result, Ok, Err, refl, ap, ap₂, sym, ◌∙◌, subst, arith, eq-eqb, filter}
use Rattle.std.specs.Prelude.{nat_eq, slice_get, ◌&&◌, ◌||◌}
use Rattle.std.proofs.lemmas.List.Sums.{sum_by-cons}
use Rattle.ppd_ast.specs.Valid.{IsValid}
use Rattle.ppd_model.specs.declared.flow.FlowEdge.{FlowEdge}
use Rattle.ppd_model.specs.declared.flow.Origin.{Origin}
use Rattle.ppd_model.specs.declared.flow.Origin.TheVariants as origin
use Rattle.ppd_model.specs.declared.graph.EdgeId.{EdgeId}
use Rattle.ppd_model.specs.declared.trace.TracedEvent.{TracedEvent}
use Rattle.ppd_model.specs.FlowbackEdges.{edges, part_at}
use Rattle.ppd_model.specs.Intervals.{own, Split, splits}
use Rattle.ppd_model.specs.NearIntervals.{edge_of_event, is_near_origin, is_open_at, is_open_in, near_steps}
use Rattle.ppd_model.specs.Story.{story}
use Rattle.ppd_model.proofs.Changes.{some}
use Rattle.ppd_model.proofs.Tested.{In}
use Rattle.ppd_graph.specs.declared.walked.Walked.{Walked}
use Rattle.ppd_graph.specs.declared.walked.Walked.TheVariants.{Stopped, Passed, Found}
use Rattle.ppd_graph.specs.Looked.{Looked, look_map}
use Rattle.ppd_graph.specs.Seen.{Seen, seen_of}
use Rattle.ppd_graph.specs.Shared.{Missing, edge_of_place, greatest_before, is_before_in, of_process, origin_in, own_or, seen_at, shared_origin, writing, written_in, written_or_start}
use Rattle.ppd_graph.specs.Walk.{walk}
use Rattle.law_flow.specs.Edges.SharedEdges.{all_seen}
use Rattle.law_flow.specs.Edges.Within.{cost, steps_from}
use Rattle.law_flow.proofs.Edges.Near.Cheap.{walks_cheap}
use Rattle.law_flow.proofs.Edges.Sources.Members.{in_filter}
use Rattle.law_flow.proofs.Edges.StepEvents.Processes.{facts}
use Rattle.law_flow.proofs.Costs.Own.Lists.{distinct_one, in_one}
use Rattle.law_flow.proofs.Costs.Own.Near.{all_steps_of, both_steps, near_edge, near_little, no_steps_of}
use Rattle.law_flow.proofs.Costs.Walks.Counts.{greatest_in}
use Rattle.law_flow.proofs.Costs.Walks.Written.{IsNearWrite, near_write}
use Rattle.law_flow.proofs.Costs.Edges.Answers.{not_ok, ok_is}
use Rattle.law_flow.proofs.Costs.Words.{Words, words_of}

module _ (setting : Setting) (h : List ℕ) (v : IsValid setting.program) (p k j : ℕ) (x : Split)
    (there : slice_get (splits setting (story setting h)) p ≡ Some x) (es : List FlowEdge) (edges_are : edges setting (story setting h) p k j ≡ Some es) where
  abbrev words : Words
  words = words_of setting h p k j

  open words use {xs, logs, seens, N, steps}

  seen_is : seen_at (all_seen setting h) p ≡ seen_of x
  seen_is = (facts setting h v p x there).seen_is

  -- ---- an edge of a process, one interval of which is replayed: its origin's

  pub origin_little : (q m n : ℕ) (e : FlowEdge) → In e es → e.from ≡ origin.Item q m n → steps (of_process q (m ∷ [])) ≤ N
  origin_little q m n e g is = by (slice_get xs q) refl
    where
      by : (o : Option Split) → slice_get xs q ≡ o → steps (of_process q (m ∷ [])) ≤ N
      by None none = let z = no_steps_of xs q (m ∷ []) none in omega (arith, z)
      by (Some y) at = near_little setting h p k j x there es edges_are q y (m ∷ []) at (record {
        once = distinct_one m;
        close = λ z s i at'. near_edge setting h p k j x there es edges_are e g q y z s
            (ap (is_near_origin q y z s) is ∙ ap₂ (λ a b. a && (b || is_open_at y (part_at y m n) s)) (eq-eqb q q refl) (eq-eqb m z (sym (in_one z m i))));
      })

  -- ---- shared reads

  write_little : (c : ℕ) (a : EdgeId) (from : Origin) (e : FlowEdge) → In e es → e.from ≡ from → IsNearWrite setting h v c a from → steps (written_in logs seens c a).replays ≤ N
  write_little c a from e g is nw =
      subst (λ l. steps (of_process a.process l) ≤ N) nw.replays_are
      (near_little setting h p k j x there es edges_are a.process nw.split nw.replays nw.there (record {
        once = nw.once;
        close = λ z s i at'.
            let o = nw.opens z i in
            let same : o.span ≡ s = some (sym o.is_there ∙ at') in
            let open' : is_open_at nw.split (part_at nw.split nw.interval nw.item) s ≡ true =
            ap (λ q. is_open_at nw.split q s) nw.part ∙ ap (is_open_in nw.split (edge_of_event nw.split nw.event)) (sym same) ∙ o.is_open in
            near_edge setting h p k j x there es edges_are e g a.process nw.split z s
            (ap (is_near_origin a.process nw.split z s) (is ∙ nw.from_is)
            ∙ ap₂ (λ b d. b && (nat_eq nw.interval z || d)) (eq-eqb a.process a.process refl) open' ∙ or_true (nat_eq nw.interval z));
      }))
    where
      or_true : (b : Bool) → (true && (b || true)) ≡ true
      or_true true = refl
      or_true false = refl

  start_little : (c : ℕ) (from : Origin) (e : FlowEdge) → In e es → e.from ≡ from → (o : Option EdgeId) → ((a : EdgeId) → o ≡ Some a → In a (writing logs c))
      → origin_in (written_or_start setting.program logs seens c o).found ≡ Ok from → steps (written_or_start setting.program logs seens c o).replays ≤ N
  start_little c from e g is None writes q = omega arith
  start_little c from e g is (Some a) writes q = by (written_in logs seens c a).found refl
    where
      by : (t : Result (ℤ × Origin) Missing) → (written_in logs seens c a).found ≡ t → steps (written_in logs seens c a).replays ≤ N
      by (Ok u) z =
          let same : u.1 ≡ from = ok_is (sym (ap origin_in z) ∙ q) in
          write_little c a from e g is (subst (λ o. IsNearWrite setting h v c a o) same (near_write setting h v c a u.0 u.1 (writes a refl) z))
      by (Err m) z = absurd (not_ok (sym (ap origin_in z) ∙ q))

  module _ (n : ℕ) (ev : TracedEvent) (place : part_at x k j ≡ Some (own n)) (at_event : slice_get x.trace.events n ≡ Some ev) where
    own_walk : (c : ℕ) → steps (of_process p (walk (seen_at seens p) c k j).replays) ≤ N
    own_walk c =
        let le : cost x.spans (k ∷ (walk (seen_of x) c k j).replays) ≤ near_steps setting (story setting h) p k j = (walks_cheap setting h p k j n c x ev v there place at_event).1 in
        let sum : cost x.spans (k ∷ (walk (seen_of x) c k j).replays) ≡ steps_from 0 x.spans k + cost x.spans (walk (seen_of x) c k j).replays = sum_by-cons (steps_from 0 x.spans) k (walk (seen_of x) c k j).replays in
        let same : steps (of_process p (walk (seen_at seens p) c k j).replays) ≡ cost x.spans (walk (seen_of x) c k j).replays =
        ap (λ (s : Seen). steps (of_process p (walk s c k j).replays)) seen_is ∙ all_steps_of xs p x (walk (seen_of x) c k j).replays there in
        omega (arith, le, sum, same)

    pub shared_little : (c : ℕ) (from : Origin) (e : FlowEdge) → In e es → e.from ≡ from → (shared_origin setting.program logs seens p k j c).found ≡ Ok from → steps (shared_origin setting.program logs seens p k j c).replays ≤ N + N
    shared_little c from e g is found =
        let sum = both_steps xs (of_process p (walk (seen_at seens p) c k j).replays) (own_or p (walk (seen_at seens p) c k j).found far).replays in
        let a = own_walk c in
        let b = by (walk (seen_at seens p) c k j).found refl in
        omega (arith, sum, a, b)
      where
        big : Option EdgeId
        big = greatest_before setting.program logs (edge_of_place logs seens p k j) c

        far : Looked (ℕ × ℕ) (Result Origin Missing)
        far = look_map origin_in (written_or_start setting.program logs seens c big)

        member : (a : EdgeId) → big ≡ Some a → In a (writing logs c)
        member a e' = (in_filter (λ b. is_before_in setting.program logs b (edge_of_place logs seens p k j)) a (writing logs c)
            (greatest_in (is_before_in setting.program logs) a (filter (λ b. is_before_in setting.program logs b (edge_of_place logs seens p k j)) (writing logs c)) e')).0

        search : (u : Walked) → (walk (seen_at seens p) c k j).found ≡ u → (own_or p u far).found ≡ Ok from
        search u z = ap (λ (t : Walked). (own_or p t far).found) (sym z) ∙ found

        by : (u : Walked) → (walk (seen_at seens p) c k j).found ≡ u → steps (own_or p (walk (seen_at seens p) c k j).found far).replays ≤ N
        by (Found a b d) z = subst (λ (t : Walked). steps (own_or p t far).replays ≤ N) (sym z) (omega arith)
        by Stopped z = subst (λ (t : Walked). steps (own_or p t far).replays ≤ N) (sym z) (start_little c from e g is big member (search Stopped z))
        by Passed z = subst (λ (t : Walked). steps (own_or p t far).replays ≤ N) (sym z) (start_little c from e g is big member (search Passed z))
