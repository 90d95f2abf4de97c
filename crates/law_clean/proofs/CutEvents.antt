-- The edges of an event of a clean past: the search by the whole logs, over what the processes have after beginnings of
-- the schedule, finds those that it finds over what they have at the end.
use Rattle.law_steps.specs.Policies.{setting_by}
use Rattle.ppd_model.specs.Setting.{setting_of}
use Rattle.std.proofs.Common.{◌≡◌, ℕ, true, zero, suc, ◌+◌, List, [], ◌∷◌, ◌++◌, length, Option, Some, None, Result, Ok, Err, refl, ap, ap₂, sym, subst, ◌∙◌, arith}
use Rattle.std.proofs.lemmas.Option.{none-some}
use Rattle.std.specs.Prelude.{is_some, slice_get, zip, get_or}
use Rattle.ppd_ast.specs.declared.plan.Plan.{Plan}
use Rattle.ppd_ast.specs.declared.plan.Policy.{Policy}
use Rattle.ppd_ast.specs.declared.program.Program.{Program}
use Rattle.ppd_ast.specs.Valid.{IsValid}
use Rattle.ppd_ast.proofs.ValidLaws.{slice_get_there}
use Rattle.ppd_blocks.specs.Blocks.{plan_of}
use Rattle.ppd_model.specs.declared.entry.Logs.{Logs}
use Rattle.ppd_sem.specs.declared.event.Access.{Access}
use Rattle.ppd_sem.specs.declared.event.Spot.{Spot}
use Rattle.ppd_sem.specs.declared.event.Spot.TheVariants.{Local, Shared}
use Rattle.ppd_model.specs.declared.flow.EdgeKind.TheVariants.{Control}
use Rattle.ppd_model.specs.declared.flow.FlowEdge.{FlowEdge}
use Rattle.ppd_model.specs.declared.flow.Item.TheVariants as item
use Rattle.ppd_model.specs.declared.trace.TracedEvent.{TracedEvent}
use Rattle.ppd_model.specs.Earlier.{AreEarlier, EachNamesEarlier}
use Rattle.ppd_model.specs.FlowbackEdges.{bare_edge}
use Rattle.ppd_model.specs.FullTrace.{Tag}
use Rattle.ppd_model.specs.HappenedBefore.{Before, EdgeBefore, edge, node}
use Rattle.ppd_model.specs.Intervals.{Split, splits}
use Rattle.ppd_model.specs.Logs.{closed_logs}
use Rattle.ppd_model.specs.Record.{sync_record}
use Rattle.ppd_model.specs.Schedule.{run}
use Rattle.ppd_model.specs.Story.{story, told}
use Rattle.ppd_model.specs.World.{World}
use Rattle.ppd_model.proofs.Earlier.{name_earlier}
use Rattle.ppd_graph.specs.Control.{control_origin}
use Rattle.ppd_graph.specs.Found.{and_more, before_others, edges_if, event_edges, found_edges, last_edges, pair_edges, read_edge, read_edges, read_if, sync_edges, with_edge}
use Rattle.ppd_graph.specs.Locals.{local_origin}
use Rattle.ppd_graph.specs.Looked.{Looked}
use Rattle.ppd_graph.specs.Own.{read_from}
use Rattle.ppd_graph.specs.Seen.{Seen, seen_of}
use Rattle.ppd_graph.specs.Shared.{Missing}
use Rattle.law_flow.specs.Edges.SharedEdges.{all_seen}
use Rattle.law_flow.proofs.Edges.StepEvents.Processes.{Facts, facts}
use Rattle.law_flow.proofs.Edges.StepEvents.Timeline.{did}
use Rattle.law_clean.proofs.CutShared.{HasEnded, HasPlace, IsBegun, here_in, pair_same, shared_same}
use Rattle.law_clean.proofs.OwnSame.{control_same, item_is, item_same, local_same}

-- as many writers as reads
same_many : (p k : ℕ) (as' : List Access) (ws : List Tag) → AreEarlier p k as' ws → length as' ≡ length ws
same_many p k [] [] h = refl
same_many p k [] (w ∷ ws) h = absurd h
same_many p k (a ∷ as') [] h = absurd h
same_many p k (a ∷ as') (w ∷ ws) h = ap (λ z. suc z) (same_many p k as' ws h.1)

each_at : (p k : ℕ) (es : List TracedEvent) (n : ℕ) (e : TracedEvent) → EachNamesEarlier p k es → slice_get es n ≡ Some e → length e.event.reads ≡ length e.writers
each_at p k [] n e h f = absurd (none-some e f)
each_at p k (y ∷ es) zero e h f =
    let same : y ≡ e = ap (λ (o : Option TracedEvent). elim o [ None ↦ y | Some z ↦ z ]) f in
    subst (λ (z : TracedEvent). length z.event.reads ≡ length z.writers) same (same_many p k y.event.reads y.writers h.0.writers)
each_at p k (y ∷ es) (suc n) e h f = each_at p (k + 1) es n e h.1 f

-- the same is found where the same is found of the parts
with_both : {q q' : Result FlowEdge Missing} (r r' : Looked (ℕ × ℕ) (Result (List FlowEdge) Missing)) → q ≡ q' → r.found ≡ r'.found
    → (before_others q r).found ≡ (before_others q' r').found
with_both {q = q} {q' = q'} r r' e f = ap (λ (z : Result FlowEdge Missing). (before_others z r).found) e ∙ by q'
  where
    by : (z : Result FlowEdge Missing) → (before_others z r).found ≡ (before_others z r').found
    by (Ok x) = ap (with_edge x) f
    by (Err m) = refl

more_both : {q q' : Result (List FlowEdge) Missing} (r r' : Looked (ℕ × ℕ) (List FlowEdge)) → q ≡ q' → r.found ≡ r'.found
    → (and_more q r).found ≡ (and_more q' r').found
more_both {q = q} {q' = q'} r r' e f = ap (λ (z : Result (List FlowEdge) Missing). (and_more z r).found) e ∙ by q'
  where
    by : (z : Result (List FlowEdge) Missing) → (and_more z r).found ≡ (and_more z r').found
    by (Ok es) = ap (λ fs. Ok (es ++ fs)) f
    by (Err m) = refl

module _ (program : Program) (policy : Policy) (budget : ℕ) (h : List ℕ) (w : World) (v : IsValid program)
    (r : run (setting_by program policy budget) h ≡ Some w) (xs : List Seen) (p k j : ℕ) (y : Split)
    (at : slice_get (splits (setting_by program policy budget) (story (setting_by program policy budget) h)) p ≡ Some y)
    (place : HasPlace program policy budget h w v r xs p k j)
    (keeps : (q i : ℕ) → EdgeBefore program (sync_record (setting_by program policy budget) h) (edge q i) (edge p (here_in program policy budget h w v r xs p k j y at place)) → HasEnded program policy budget h w v r xs q i)
    (keeps_ends : (e : TracedEvent) → slice_get place.begun.split.trace.events place.number ≡ Some e → is_some e.event.number ≡ true
    → (q i : ℕ) → Before program (sync_record (setting_by program policy budget) h) (node q i) (node p (here_in program policy budget h w v r xs p k j y at place)) → HasEnded program policy budget h w v r xs q i) where
  abbrev plan : Plan
  plan = plan_of program policy

  abbrev all : List Seen
  all = all_seen (setting_of program plan budget) h

  abbrev logs : Logs
  logs = closed_logs (setting_of program plan budget) h

  abbrev b : IsBegun program policy budget h w v r xs p
  b = place.begun

  fy : Facts (setting_of program plan budget) h v p y
  fy = facts (setting_of program plan budget) h v p y at

  at' : slice_get (splits (setting_of program plan budget) (story (setting_of program plan budget) (b.before ++ b.rest))) p ≡ Some y
  at' = subst (λ l. slice_get (splits (setting_of program plan budget) (story (setting_of program plan budget) l)) p ≡ Some y) b.schedule_is at

  -- one read of the event
  one_read : (e : TracedEvent) → slice_get b.split.trace.events place.number ≡ Some e → (i : ℕ) (a : Access) (t : Tag) → slice_get (zip e.event.reads e.writers) i ≡ Some (a, t) → (s : Spot) → a.spot ≡ s
      → (read_edge program plan logs xs p k j a s).found ≡ (read_edge program plan logs all p k j a s).found
  one_read e is i a t z (Local frame c) spot =
      ap (λ q. Ok (read_from a (local_origin program plan q p k j frame c).found)) b.seen_is
      ∙ ap (λ o. Ok (read_from a o)) (local_same program policy budget b.before b.rest p v b.split y b.there at' k j place.number place.placed e is i frame c a t z spot)
      ∙ sym (ap (λ q. Ok (read_from a (local_origin program plan q p k j frame c).found)) fy.seen_is)
  one_read e is i a t z (Shared c) spot = ap (read_if a) (shared_same program policy budget h w v r xs p k j y at place c keeps)

  all_reads : (e : TracedEvent) → slice_get b.split.trace.events place.number ≡ Some e → (as' : List Access) (ws : List Tag) → length as' ≡ length ws
      → ((i : ℕ) (a : Access) (t : Tag) → slice_get (zip as' ws) i ≡ Some (a, t) → (m : ℕ) × (slice_get (zip e.event.reads e.writers) m ≡ Some (a, t)))
      → (read_edges program plan logs xs p k j as').found ≡ (read_edges program plan logs all p k j as').found
  all_reads e is [] ws same among = refl
  all_reads e is (a ∷ as') [] same among = absurd (let z : suc (length as') ≡ 0 = same in omega (arith, z))
  all_reads e is (a ∷ as') (t ∷ ws) same among =
      let m = among 0 a t refl in
      with_both (read_edges program plan logs xs p k j as') (read_edges program plan logs all p k j as') (one_read e is m.0 a t m.1 a.spot refl)
      (all_reads e is as' ws (let z : suc (length as') ≡ suc (length ws) = same in omega (arith, z)) (λ i c u g. among (suc i) c u g))

  sync_same : (e : TracedEvent) → slice_get b.split.trace.events place.number ≡ Some e → (o : Option ℕ) → e.event.number ≡ o → (sync_edges program logs xs p k j o).found ≡ (sync_edges program logs all p k j o).found
  sync_same e is None number = refl
  sync_same e is (Some i) number = ap pair_edges (pair_same program policy budget h w v r xs p k j y at place (keeps_ends e is (ap is_some number)))

  event_same : (e : TracedEvent) → slice_get b.split.trace.events place.number ≡ Some e → (event_edges program plan logs xs p k j e.event).found ≡ (event_edges program plan logs all p k j e.event).found
  event_same e is =
      let fx : Facts (setting_of program plan budget) b.before v p b.split = facts (setting_of program plan budget) b.before v p b.split b.there in
      let many : length e.event.reads ≡ length e.writers =
      each_at p 0 b.split.trace.events place.number e (subst (EachNamesEarlier p 0) (sym fx.events_are) (name_earlier (setting_of program plan budget) (story (setting_of program plan budget) b.before) p (did (told (setting_of program plan budget) b.before) p))) is in
      more_both (last_edges program plan logs xs p k j e.event) (last_edges program plan logs all p k j e.event) (all_reads e is e.event.reads e.writers many (λ i a t g. (i, g)))
      (ap₂ (λ es o. es ++ bare_edge Control o ∷ []) (sync_same e is e.event.number refl)
      (ap (λ q. (control_origin program plan q p k j e.event.stmt).found) b.seen_is
      ∙ control_same program policy budget b.before b.rest p v b.split y b.there at' k j place.number place.placed e is
      ∙ sym (ap (λ q. (control_origin program plan q p k j e.event.stmt).found) fy.seen_is)))

  pub event_edges_same : (found_edges program plan logs xs p k j).found ≡ (found_edges program plan logs all p k j).found
  event_edges_same =
      let s = slice_get_there b.split.trace.events place.number place.within in
      let mine : slice_get (get_or (seen_of b.split).items k []) j ≡ Some (item.Own s.0.event) = item_is program policy budget b.before b.rest p v b.split y b.there at' k j place.number place.placed s.0 s.1 in
      let both : slice_get (get_or (seen_of b.split).items k []) j ≡ slice_get (get_or (seen_of y).items k []) j = item_same program policy budget b.before b.rest p v b.split y b.there at' k j place.number place.placed s.0 s.1 in
      ap (λ o. (edges_if program plan logs xs p k j o).found) (ap (λ (q : Seen). slice_get (get_or q.items k []) j) b.seen_is ∙ mine)
      ∙ ap (λ z. Some z) (event_same s.0 s.1)
      ∙ sym (ap (λ o. (edges_if program plan logs all p k j o).found) (ap (λ (q : Seen). slice_get (get_or q.items k []) j) fy.seen_is ∙ sym both ∙ mine))
