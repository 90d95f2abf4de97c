-- The edges of an event: those of its reads, then that of its pair, then control.
use Rattle.std.proofs.Common.{◌≡◌, ℕ, List, [], ◌∷◌, ◌++◌, Option, Some, None, Result, Ok, Err, refl, ap, sym, ◌∙◌, subst}
use Rattle.std.specs.Prelude.{option_to_list, slice_get}
use Rattle.std.proofs.lemmas.List.{append_assoc}
use Rattle.ppd_sem.specs.declared.event.Access.{Access}
use Rattle.ppd_sem.specs.declared.event.Event.{Event}
use Rattle.ppd_model.specs.declared.flow.EdgeKind.TheVariants.{Control}
use Rattle.ppd_model.specs.declared.flow.FlowEdge.{FlowEdge}
use Rattle.ppd_model.specs.declared.flow.Origin.{Origin}
use Rattle.ppd_model.specs.FlowbackEdges.{bare_edge}
use Rattle.ppd_model.specs.declared.flow_error.FlowError.{FlowError}
use Rattle.ppd_flow_past.specs.declared.past.Past.{Past}
use Rattle.ppd_flow_past.specs.ByReplays.{IsFoundBy}
use Rattle.ppd_flow_past.proofs.Found.{err_any, found_err, found_then}
use Rattle.ppd_graph.specs.Control.{control_origin}
use Rattle.ppd_graph.specs.Found.{and_more, event_edges, last_edges, pair_edges, sync_edges}
use Rattle.ppd_graph.specs.Looked.{Looked}
use Rattle.ppd_graph.specs.Seen.{Seen}
use Rattle.ppd_graph.specs.Shared.{Missing, of_process, pair_origin, seen_at}
use Rattle.ppd_flow_shared.specs.SharedCells.{IsAnswerTo, IsSought, answer_of, seens_in}
use Rattle.ppd_flow_local.specs.declared.search.Place.{Place}
use Rattle.ppd_flow_local.specs.declared.search.Search.{Search}
use Rattle.ppd_flow_local.specs.Searches.{IsControlFound}
use Rattle.ppd_flow_local.proofs.Joined.{the_ok}
use Rattle.ppd_flow.specs.Answers.{pair_edge_at, reads_at}
use Rattle.ppd_flow.proofs.Answered.{found_is, not_found, so_found}
use Rattle.ppd_flow.proofs.Seens.{same_seen}

by_pair : (o : Option Origin) → pair_edges o ≡ option_to_list (slice_get (pair_edges o) 0)
by_pair None = refl
by_pair (Some from) = refl

module _ (s : Search) (place : Place) (e : Event) where
  abbrev past : Past
  past = s.past.now

  abbrev reads_here : Looked (ℕ × ℕ) (Result (List FlowEdge) Missing)
  reads_here = reads_at s place e.reads

  abbrev pair : Looked (ℕ × ℕ) (Option FlowEdge)
  pair = pair_edge_at s place e.number

  abbrev its_seen : Seen
  its_seen = seen_at (seens_in past) s.process

  abbrev control_list : List (ℕ × ℕ)
  control_list = of_process s.process (control_origin past.program.now past.plan.now its_seen s.process place.interval place.item e.stmt).replays

  abbrev control : Origin
  control = (control_origin past.program.now past.plan.now its_seen s.process place.interval place.item e.stmt).found

  abbrev syncs : List FlowEdge
  syncs = (sync_edges past.program.now past.logs.now (seens_in past) s.process place.interval place.item e.number).found

  abbrev more : Looked (ℕ × ℕ) (List FlowEdge)
  more = last_edges past.program.now past.plan.now past.logs.now (seens_in past) s.process place.interval place.item e

  abbrev IsEvent : (n o : ℕ) → Result (List FlowEdge) FlowError → Type 0
  IsEvent n o r =
      IsAnswerTo past (event_edges past.program.now past.plan.now past.logs.now (seens_in past) s.process place.interval place.item e) n o r

  pub read_here : (reads : List Access) (n m : ℕ) (r : Result (List FlowEdge) FlowError) → reads ≡ e.reads
      → IsAnswerTo past (reads_at s place reads) n m r → IsAnswerTo past (reads_at s place e.reads) n m r
  read_here reads n m r is f = subst (λ (z : List Access). IsAnswerTo past (reads_at s place z) n m r) is f

  control_here : (m o : ℕ) (r : Result Origin FlowError) → IsControlFound s place e.stmt m o r
      → IsFoundBy past control_list (Ok control) m o r
  control_here m o r f =
      subst (λ (x : Seen). IsFoundBy past (of_process s.process (control_origin past.program.now past.plan.now x s.process place.interval place.item e.stmt).replays)
      (Ok (control_origin past.program.now past.plan.now x s.process place.interval place.item e.stmt).found) m o r) (same_seen past s.process) f

  syncs_are : (number : Option ℕ) → (sync_edges past.program.now past.logs.now (seens_in past) s.process place.interval place.item number).found ≡ option_to_list (pair_edge_at s place number).found
  syncs_are None = refl
  syncs_are (Some number) = by_pair (pair_origin past.program.now past.logs.now (seens_in past) s.process place.interval place.item).found

  after_reads : (rs : List FlowEdge) (n m o : ℕ) (r : Result (List FlowEdge) FlowError) → IsAnswerTo past reads_here n m (Ok rs)
      → IsFoundBy past more.replays (Ok (rs ++ more.found)) m o r → IsEvent n o r
  after_reads rs n m o r f g =
      subst (λ (q : Result (List FlowEdge) Missing). IsFoundBy past (reads_here.replays ++ (and_more q more).replays) (answer_of (and_more q more).found) n o r) (sym (found_is reads_here.found rs f.1))
      (found_then past reads_here.replays more.replays (answer_of reads_here.found) (Ok (rs ++ more.found)) rs n m o r f g)

  pub reads_failed : (n m : ℕ) (x : FlowError) → IsAnswerTo past (reads_at s place e.reads) n m (Err x) → IsEvent n m (Err x)
  reads_failed n m x f =
      not_found past reads_here.replays (and_more reads_here.found more).replays [] reads_here.found (answer_of (and_more reads_here.found more).found) n m x
      (λ k is. (
        ap (λ (q : Result (List FlowEdge) Missing). (and_more q more).replays) is,
        ap (λ (q : Result (List FlowEdge) Missing). answer_of (and_more q more).found) is,
      )) f

  module _ (rs : List FlowEdge) (n m : ℕ) (reads : IsAnswerTo past (reads_at s place e.reads) n m (Ok rs)) where
    pub pair_failed : (k : ℕ) (x : FlowError) → IsSought past (pair_edge_at s place e.number) m k (Err x) → IsEvent n k (Err x)
    pair_failed k x f =
        after_reads rs n m k (Err x) reads (found_err past pair.replays control_list pair.found (Ok (rs ++ more.found)) m k x f)

    module _ (pe : Option FlowEdge) (k o : ℕ) (got : IsSought past (pair_edge_at s place e.number) m k (Ok pe)) where
      pub control_failed : (x : FlowError) → IsControlFound s place e.stmt k o (Err x) → IsEvent n o (Err x)
      control_failed x f =
          after_reads rs n m o (Err x) reads
          (found_then past pair.replays control_list (Ok pair.found) (Ok (rs ++ more.found)) pe m k o (Err x) got
          (err_any past control_list control (Ok (rs ++ more.found)) k o x (control_here k o (Err x) f)))

      pub event_found : (co : Origin) (now : List FlowEdge) → IsControlFound s place e.stmt k o (Ok co)
          → now ≡ (rs ++ option_to_list pe) ++ bare_edge Control co ∷ [] → IsEvent n o (Ok now)
      event_found co now f is =
          let c : IsFoundBy past control_list (Ok control) k o (Ok co) = control_here k o (Ok co) f in
          let pairs : pair.found ≡ pe = ap (λ (z : Result (Option FlowEdge) FlowError). the_ok pair.found z) got.1 in
          let controls : control ≡ co = ap (λ (z : Result Origin FlowError). the_ok control z) c.1 in
          let sync : syncs ≡ option_to_list pe = syncs_are e.number ∙ ap (λ (z : Option FlowEdge). option_to_list z) pairs in
          let all : rs ++ more.found ≡ now =
          ap (λ (z : List FlowEdge). rs ++ (z ++ bare_edge Control control ∷ [])) sync
          ∙ (ap (λ (z : Origin). rs ++ (option_to_list pe ++ bare_edge Control z ∷ [])) controls
          ∙ (sym (append_assoc rs (option_to_list pe) (bare_edge Control co ∷ [])) ∙ sym is)) in
          after_reads rs n m o (Ok now) reads
          (so_found past (pair.replays ++ control_list) (Ok control) (Ok (rs ++ more.found)) co now m o
          (found_then past pair.replays control_list (Ok pair.found) (Ok control) pe m k o (Ok co) got c)
          (ap (λ (z : List FlowEdge). answer_of (Ok z)) all))
