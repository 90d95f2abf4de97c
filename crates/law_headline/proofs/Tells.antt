-- The headline holds of each run, by what is known of it.
use Rattle.std.proofs.Common.{◌≡◌, ℕ, List, [], ap, sym, subst}
use Rattle.ppd_ast.specs.Valid.{IsValid}
use Rattle.ppd_check.specs.Read.{IsRead}
use Rattle.ppd_model.specs.Races.{races}
use Rattle.ppd_model.specs.Schedule.{IsWhole}
use Rattle.ppd_session.specs.Known.{Known, known_of_run, known_of_story}
use Rattle.law_headline.proofs.Below.{Below}
use Rattle.law_headline.specs.Answered.{AreEdgesOf, AreValuesOf, MissesNoEdge}
use Rattle.law_headline.specs.Headline.{Headline}
use Rattle.law_headline.specs.Runs.{AgreesWith, Run, setting_in}
use Rattle.law_headline.proofs.Edges.{edges_are, misses_none}
use Rattle.law_headline.proofs.Few.{replays_few}
use Rattle.law_headline.proofs.Listed.{races_listed}
use Rattle.law_headline.proofs.Replays.{by_replays}
use Rattle.law_headline.proofs.Values.{values_are}

module _ (laws : Below) (r : Run) (read : IsRead r.source r.program) (whole : IsWhole (setting_in r) r.schedule) where
  abbrev known : List ℕ → Known
  known h = known_of_run (setting_in r) h

  valid : IsValid r.program
  valid = laws.read_is_valid r.source r.program read

  -- where there is no race, one thing is known of all schedules that agree
  module _ (none : races (setting_in r) r.schedule ≡ []) (h : List ℕ) (agree : AgreesWith r h) where
    same : known h ≡ known r.schedule
    same = ap (known_of_story (setting_in r)) (sym (laws.agreeing_stories (setting_in r) r.schedule h agree none))

    free : races (setting_in r) h ≡ []
    free = laws.agreeing_races (setting_in r) r.schedule h agree none

    values : AreValuesOf r h (known r.schedule)
    values = subst (AreValuesOf r h) same (values_are r valid h free laws.follow laws.joined_events)

    edges : AreEdgesOf r h (known r.schedule)
    edges = subst (AreEdgesOf r h) same (edges_are laws.items_whole r valid h free)

    all : MissesNoEdge r h (known r.schedule)
    all = subst (MissesNoEdge r h) same (misses_none laws.items_whole r valid h free laws.follow laws.runs_answered)

  pub headline : Headline r (known_of_run (setting_in r) r.schedule)
  headline = record {
    every_accepted_program = read;
    every_interleaving = whole;
    race_report_lists_exactly = races_listed laws.tests_edges laws.accesses_there laws.objects_stay (setting_in r) r.schedule valid;
    every_value = values;
    every_flowback_edge = edges;
    by_re_executing_single_e_blocks = λ none. record {
      answers = by_replays laws.logs_tell r valid whole none;
      replays = replays_few laws.replays_give laws.edges_found laws.own_parts laws.edges_cost laws.lasts_found laws.lasts_cost r valid whole none;
    };
    no_requested_edge_is_missing = all;
  }
