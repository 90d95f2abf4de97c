-- The walk from an event costs no more than all near intervals.
use Rattle.ppd_model.specs.Setting.{Setting}
use Rattle.std.proofs.Common.{◌≡◌, ℕ, Bool, true, false, List, ◌∷◌, Option, Some, None, refl, ap, sym, subst, ◌∙◌, arith, true≢false, inl, inr, eq-eqb}
use Rattle.std.specs.Prelude.{nat_eq, slice_get, ◌&&◌, ◌||◌, get_or, []}
use Rattle.std.specs.List.{list_any}
use Rattle.std.proofs.lemmas.Option.{none-some}
use Rattle.ppd_ast.specs.Valid.{IsValid}
use Rattle.ppd_ast.proofs.ValidLaws.{slice_get_below}
use Rattle.ppd_sem.specs.Blocks.{block_kind}
use Rattle.ppd_model.specs.declared.trace.TracedEvent.{TracedEvent}
use Rattle.ppd_model.specs.FlowbackEdges.{edges, part_at}
use Rattle.ppd_model.proofs.EdgeWords.{part_in}
use Rattle.ppd_model.specs.Intervals.{own, Span, Split, splits}
use Rattle.ppd_model.specs.Logs.{closed_log, log_of}
use Rattle.ppd_model.specs.NearIntervals.{edge_of_event, edges_or_none, is_in, is_inside, is_loop, is_near, is_near_origin, is_open_at, is_open_in, is_round, surroundings}
use Rattle.ppd_model.specs.Story.{steps_of, story, told}
use Rattle.ppd_model.proofs.Changes.{some}
use Rattle.ppd_model.proofs.Tested.{In}
use Rattle.ppd_graph.specs.Seen.{seen_of}
use Rattle.ppd_graph.specs.Walk.{walk}
use Rattle.law_flow.specs.Edges.Near.{WalksCostLittle}
use Rattle.law_flow.specs.Edges.Within.{AreDistinct, AllPass}
use Rattle.law_flow.proofs.Edges.LogPlaces.EdgeEnds.{place_of_event}
use Rattle.law_flow.proofs.Edges.Near.Distinct.{not_in_list, walk_distinct}
use Rattle.law_flow.proofs.Edges.Near.Nearby.{member_is, near_walk}
use Rattle.law_flow.proofs.Edges.Near.Tree.{HasTree, has_tree}
use Rattle.law_flow.proofs.Edges.Spans.Facts.{Logged}
use Rattle.law_flow.proofs.Edges.Sources.Members.{in_cases}
use Rattle.law_flow.proofs.Edges.StepEvents.Processes.{closed_told}
use Rattle.law_flow.proofs.Edges.Within.{replays_within}

pub or_left : (b c : Bool) → b ≡ true → (b || c) ≡ true
or_left b c e = ap (λ z. z || c) e

pub or_right : (b c : Bool) → c ≡ true → (b || c) ≡ true
or_right true c e = refl
or_right false c e = e

module _ (setting : Setting) (h : List ℕ) (v : IsValid setting.program) (p : ℕ) (x : Split) (there : slice_get (splits setting (story setting h)) p ≡ Some x) (k j n c : ℕ) (e : TracedEvent)
    (place : part_at x k j ≡ Some (own n)) (at : slice_get x.trace.events n ≡ Some e) where
  tree : HasTree x
  tree =
      let t = closed_told setting h v p x there in
      subst (λ y. HasTree y) t.0 (has_tree setting.program setting.plan (story setting h) p setting.budget (steps_of (get_or (told setting h).moments p [])))

  distinct : AreDistinct (k ∷ (walk (seen_of x) c k j).replays)
  distinct = by (slice_get x.spans k) refl place
    where
      by : (o : Option Span) → slice_get x.spans k ≡ o → part_in o j ≡ Some (own n) → AreDistinct (k ∷ (walk (seen_of x) c k j).replays)
      by None g f = absurd (none-some (own n) f)
      by (Some s) g f =
          let lt = slice_get_below x.trace.events n e at in
          let q = place_of_event x (closed_log (log_of setting p (get_or (told setting h).moments p []))) (closed_told setting h v p x there).2 k j n s g f lt in
          subst (λ z. AreDistinct (k ∷ (walk (seen_of x) c k z).replays)) q.4
          (walk_distinct x tree c (Logged (closed_log (log_of setting p (get_or (told setting h).moments p []))) x.trace.events) k q.0.first q.1 (own n ∷ q.2) n s g q.3 q.5 (omega (arith, lt)) q.0.stands)

  near_if : (m : ℕ) (i : Span) → (is_round setting.plan (surroundings x k) m i || is_open_at x (part_at x k j) i) ≡ true → is_near setting (story setting h) p k j p x m i ≡ true
  near_if m i f =
      or_left (nat_eq p p && (is_round setting.plan (surroundings x k) m i || is_open_at x (part_at x k j) i)) (list_any (λ d. is_near_origin p x m i d.from) (edges_or_none (edges setting (story setting h) p k j)))
      (ap (λ b. b && (is_round setting.plan (surroundings x k) m i || is_open_at x (part_at x k j) i)) (eq-eqb p p refl) ∙ f)

  near_round : (m : ℕ) (i : Span) → is_in m (surroundings x k) ≡ true → is_near setting (story setting h) p k j p x m i ≡ true
  near_round m i f =
      near_if m i (or_left (is_round setting.plan (surroundings x k) m i) (is_open_at x (part_at x k j) i)
      (or_left (is_in m (surroundings x k)) (is_loop (block_kind setting.plan i.block) && is_inside i.round (surroundings x k)) f))

  near_open : (m : ℕ) (i : Span) → is_open_in x (edge_of_event x n) i ≡ true → is_near setting (story setting h) p k j p x m i ≡ true
  near_open m i f =
      near_if m i (or_right (is_round setting.plan (surroundings x k) m i) (is_open_at x (part_at x k j) i) (ap (λ o. is_open_at x o i) place ∙ f))

  near_replayed : (m : ℕ) (i : Span) → slice_get x.spans m ≡ Some i → In m (k ∷ (walk (seen_of x) c k j).replays) → is_near setting (story setting h) p k j p x m i ≡ true
  near_replayed m i g q = elim (in_cases m k (walk (seen_of x) c k j).replays q) [
    | inl same ↦ near_round m i (or_left (nat_eq m k) (list_any (nat_eq m) _) (eq-eqb m k same))
    | inr r ↦ elim (near_walk setting h v p x there k j n c e place at m (member_is m (walk (seen_of x) c k j).replays r)) [
      | inl round ↦ near_round m i round
      | inr o ↦ near_open m i (subst (λ z. is_open_in x (edge_of_event x n) z ≡ true) (some (sym o.is_there ∙ g)) o.is_open)
    ]
  ]

  pub all_near : AllPass (is_near setting (story setting h) p k j p x) x.spans (k ∷ (walk (seen_of x) c k j).replays)
  all_near m i g far = not_in_list m (k ∷ (walk (seen_of x) c k j).replays) (λ q. true≢false (sym (near_replayed m i g q) ∙ far))

pub walks_cheap : WalksCostLittle
walks_cheap setting h p k j n c x e v there place at =
    let once : AreDistinct (k ∷ (walk (seen_of x) c k j).replays) = distinct setting h v p x there k j n c e place at in (
      once,
      replays_within (is_near setting (story setting h) p k j) (splits setting (story setting h)) p x (k ∷ (walk (seen_of x) c k j).replays) there once
          (all_near setting h v p x there k j n c e place at),
    )
