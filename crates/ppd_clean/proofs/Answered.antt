-- What is answered by a past's graph and the first edges in its races is what the definition finds.
use Rattle.law_clean.specs.Answers.{CleanOr, is_reached, no_item, unclean, unclean_or}
use Rattle.law_clean.specs.Cuts.{cut_logs}
use Rattle.law_clean.specs.Pasts.{first_raced}
use Rattle.law_clean.specs.Search as sought
use Rattle.ppd_clean.proofs.Orders.{first_is, leads_is}
use Rattle.ppd_clean.proofs.WantedEdges.{cut_is, first_bound}
use Rattle.ppd_clean.specs.Answers.{Diverges, Fails, FailsFrom, IsCleanBy, IsFound, IsOrdered, answer_at, answer_by, cut_of, item_at, reached_from, seens_of, unless_begun, with_edges}
use Rattle.ppd_clean.specs.ByOrder.{cut_for, edge_of_item, first_unclean, last_before, own_last}
use Rattle.ppd_clean.specs.Firsts.{firsts_of}
use Rattle.ppd_clean.specs.declared.clean.Clean.{Clean}
use Rattle.ppd_clean.specs.declared.clean_error.CleanError.{CleanError}
use Rattle.ppd_clean.specs.declared.clean_error.CleanError.TheVariants as error
use Rattle.ppd_clean_past.specs.ByOrder.{is_led_to, is_unclean_at, last_edge, leads_from_race}
use Rattle.ppd_clean_past.specs.declared.asked.Asked.{Asked}
use Rattle.ppd_model.specs.declared.entry.Logs.{Logs}
use Rattle.ppd_graph.specs.Ends.{first_edge, is_sync_item}
use Rattle.ppd_graph.specs.Found.{found_edges}
use Rattle.ppd_graph.specs.Seen.{Seen}
use Rattle.ppd_graph.specs.Shared.{Missing, seen_at}
use Rattle.ppd_flow_past.specs.Pasts.{IsPast}
use Rattle.ppd_flow_past.specs.PastSetting.{past_setting}
use Rattle.ppd_flow_past.specs.declared.past.Past.{Past}
use Rattle.ppd_model.specs.HappenedBefore.{edge}
use Rattle.ppd_model.specs.RecordedSets.{record_in}
use Rattle.ppd_model.specs.Synchronizations.{Sync}
use Rattle.ppd_model.specs.declared.flow.FlowEdge.{FlowEdge}
use Rattle.ppd_model.specs.declared.flow.Item.{Item}
use Rattle.ppd_model.specs.declared.flow.Item.TheVariants as item
use Rattle.ppd_model.specs.declared.graph.Race.{Race}
use Rattle.ppd_race.specs.Races.{edges_of_logs, races_among}
use Rattle.std.proofs.Common.{Err, List, None, Ok, Option, Result, Some, ap, ap₂, if◌then◌else◌, length, refl, subst, sym, ℕ, ◌&&◌, ◌||◌, ◌∙◌, ◌≡◌, ◌≤◌}
use Rattle.std.specs.Prelude.{[], get_or, nat_eq, nat_le, unwrap_or}

module _ (past : Past) (is : IsPast past) (races : List Race) (races_are : races ≡ races_among (edges_of_logs past.program.now past.logs.now))
    (ordered : IsOrdered past) (a : Asked) (firsts_are : a.firsts.now ≡ firsts_of races (length past.logs.now.lists)) where
  abbrev rec : List (List Sync)
  rec = record_in past.logs.now

  abbrev p : ℕ
  p = a.process

  abbrev last : ℕ
  last = last_edge past.logs.now a.process

  abbrev begins : ℕ
  begins = first_edge (get_or past.logs.now.lists a.process []) a.interval

  -- ---- an item

  module _ (z : Option ℕ) (xs : List Seen) where
    edge_is : (t : Item) → edge_of_item past a (seen_at xs a.process) t
        ≡ sought.edge_of_item (past_setting past) past.logs.now (record_in past.logs.now) races a.process a.interval a.item xs t
    edge_is (item.Own e) = refl
    edge_is (item.Nested m b values closed) = refl

    led_is : (t : Item) (i : ℕ) → is_led_to past a t (edge a.process i)
        ≡ (is_sync_item t && sought.leads_from_race past.program.now (record_in past.logs.now) races (edge a.process i))
    led_is t i =
        ap (λ fs. is_sync_item t && leads_from_race past.graph.now fs last (edge a.process i)) firsts_are
        ∙ ap (λ b. is_sync_item t && b) (leads_is past.program.now past.logs.now past.graph.now is.graph_is races races_are ordered a.process i)

    unclean_is : (w : Option ℕ) (t : Item) → is_unclean_at past a t (edge_of_item past a (seen_at xs a.process) t) w
        ≡ sought.is_unclean (past_setting past) past.logs.now (record_in past.logs.now) races a.process a.interval a.item xs w t
    unclean_is None t = refl
    unclean_is (Some u) t =
        ap (λ i. nat_le u i || is_led_to past a t (edge a.process i)) (edge_is t)
        ∙ ap (λ b. nat_le u (sought.edge_of_item (past_setting past) past.logs.now (record_in past.logs.now) races a.process a.interval a.item xs t) || b)
        (led_is t (sought.edge_of_item (past_setting past) past.logs.now (record_in past.logs.now) races a.process a.interval a.item xs t))

    none_is : (w : Option ℕ) → unclean_or a.process w no_item
        ≡ unclean_or a.process w no_item
    none_is None = refl
    none_is (Some u) = refl

    edges_are : (t : Item) (o : Option (Result (List FlowEdge) Missing)) → with_edges t o
        ≡ sought.with_edges (past_setting past) past.logs.now (record_in past.logs.now) races a.process a.interval a.item t o
    edges_are t None = refl
    edges_are t (Some (Ok es)) = refl
    edges_are t (Some (Err m)) = refl

    item_is : a.first ≡ z → (o : Option Item) → answer_at past a xs o
        ≡ sought.by_item (past_setting past) past.logs.now (record_in past.logs.now) races a.process a.interval a.item z xs o
    item_is e None = ap (reached_from past a) e
    item_is e (Some t) =
        ap₂ (λ b (x : CleanOr). if b then x else with_edges t (found_edges past.program.now past.plan.now past.logs.now xs a.process a.interval a.item).found)
        (ap (is_unclean_at past a t (edge_of_item past a (seen_at xs a.process) t)) e ∙ unclean_is z t) (ap (λ w. unclean_or a.process w no_item) e ∙ none_is z)
        ∙ ap (λ (x : CleanOr). if sought.is_unclean (past_setting past) past.logs.now (record_in past.logs.now) races a.process a.interval a.item xs z t
        then unclean_or a.process z no_item else x)
        (edges_are t (found_edges past.program.now past.plan.now past.logs.now xs a.process a.interval a.item).found)

  -- ---- the logs that are cut

  module _ (begun : ℕ) (begun_is : begun ≡ first_edge (get_or past.logs.now.lists a.process []) a.interval)
      (first_is_so : a.first ≡ first_unclean past.graph.now a.firsts.now a.process begun (last_edge past.logs.now a.process)) where
    by_firsts : a.first ≡ first_unclean past.graph.now (firsts_of races (length past.logs.now.lists)) a.process begun (last_edge past.logs.now a.process)
    by_firsts = first_is_so ∙ ap (λ fs. first_unclean past.graph.now fs a.process begun last) firsts_are

    raced_is : a.first ≡ first_raced past.program.now (record_in past.logs.now) races (get_or past.logs.now.lists a.process []) a.process a.interval
    raced_is =
        by_firsts ∙ ap (λ n. first_unclean past.graph.now (firsts_of races (length past.logs.now.lists)) a.process n last) begun_is
        ∙ first_is past.program.now past.logs.now past.graph.now is.graph_is races races_are a.process begins

    bound : (u : ℕ) → a.first ≡ Some u → u ≤ last_edge past.logs.now a.process
    bound u e = first_bound past.program.now past.logs.now past.graph.now is.graph_is races races_are a.process begun u (sym by_firsts ∙ e)

    cut_so : cut_for past a ≡ cut_logs (sought.last_wanted past.program.now (record_in past.logs.now) races a.process a.first) past.logs.now
    cut_so =
        ap (λ fs. cut_logs (λ q. if nat_eq q a.process then own_last last a.first else last_before past.graph.now fs (edge a.process (unwrap_or a.first last)) q (last_edge past.logs.now q)) past.logs.now) firsts_are
        ∙ cut_is past.program.now past.logs.now past.graph.now is.graph_is races races_are a.process a.first bound

    pub cut_for_is : cut_for past a ≡ cut_of past races a.process a.interval a.item
    cut_for_is = cut_so ∙ ap (λ o. cut_logs (sought.last_wanted past.program.now (record_in past.logs.now) races a.process o) past.logs.now) raced_is

    by_first_is : (z : Option ℕ) → a.first ≡ z → answer_by past a (cut_for past a)
        ≡ sought.by_first (past_setting past) past.logs.now (record_in past.logs.now) races a.process a.interval a.item z
    by_first_is z e =
        let cut : Logs = cut_logs (sought.last_wanted past.program.now (record_in past.logs.now) races a.process z) past.logs.now in
        ap (answer_by past a) (cut_so ∙ ap (λ o. cut_logs (sought.last_wanted past.program.now (record_in past.logs.now) races a.process o) past.logs.now) e)
        ∙ item_is z (seens_of past cut) e (item_at a (seens_of past cut))

    from_first_is : (z : Option ℕ) → a.first ≡ z → unless_begun begun a.process z (answer_by past a (cut_for past a))
        ≡ sought.from_first (past_setting past) past.logs.now (record_in past.logs.now) races a.process a.interval a.item z
    from_first_is None e = by_first_is None e
    from_first_is (Some u) e =
        ap₂ (λ n (x : CleanOr). if nat_le u n then unclean (edge a.process u) else x) begun_is (by_first_is (Some u) e)

    pub found_is : unless_begun begun a.process a.first (answer_by past a (cut_for past a))
        ≡ sought.clean_by (past_setting past) past.logs.now races a.process a.interval a.item
    found_is =
        ap (λ z. unless_begun begun a.process z (answer_by past a (cut_for past a))) raced_is
        ∙ from_first_is (first_raced past.program.now (record_in past.logs.now) races (get_or past.logs.now.lists a.process []) a.process a.interval) raced_is

    begun_so : is_reached begun a.first
        ≡ is_reached (first_edge (get_or past.logs.now.lists a.process []) a.interval) (first_raced past.program.now (record_in past.logs.now) races (get_or past.logs.now.lists a.process []) a.process a.interval)
    begun_so = ap₂ is_reached begun_is raced_is

    fails_so : (q n : ℕ) → FailsFrom begun past a q n → Diverges past races a.process a.interval a.item q n
    fails_so q n f = (sym begun_so ∙ f.0, subst (λ (cut : Logs). Fails past cut q n) cut_for_is f.1)

    pub answered_by : (r : Result Clean CleanError) → IsFound (FailsFrom begun past a) (unless_begun begun a.process a.first (answer_by past a (cut_for past a))) r
        → IsCleanBy past races a.process a.interval a.item r
    answered_by r h = by r (subst (λ (x : CleanOr). IsFound (FailsFrom begun past a) x r) found_is h)
      where
        by : (r : Result Clean CleanError)
            → IsFound (FailsFrom begun past a) (sought.clean_by (past_setting past) past.logs.now races a.process a.interval a.item) r → IsCleanBy past races a.process a.interval a.item r
        by (Ok c) f = f
        by (Err (error.Unclean x)) f = f
        by (Err error.NoEvent) f = f
        by (Err (error.Diverged q n)) f = fails_so q n f
        by (Err (error.Sets q n c)) f = f
        by (Err error.Memory) f = tt
