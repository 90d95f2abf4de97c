use Rattle.ppd_check.proofs.AcceptedValid.{read_valid}
use Rattle.law_headline.proofs.Tells.{headline}
use Rattle.law_headline.proofs.laws.runs_have_the_headline.Goals as goal

pub returns : goal.returns
returns c = headline (record {
  read_is_valid = read_valid;
  follow = c.processes_follow_their_steps.ensures;
  tests_edges = c.happened_before_is_tested.ensures.on_edges;
  objects_stay = c.objects_stay.ensures;
  accesses_there = c.logs_record_runs.ensures.there;
  items_whole = c.items_are_whole.ensures;
  agreeing_stories = c.agreeing_schedules.ensures.stories;
  agreeing_races = c.agreeing_schedules.ensures.races;
  replays_give = c.replays_give_intervals.ensures;
  edges_found = c.edges_are_found.ensures;
  own_parts = c.all_own_parts_are_found.ensures;
  edges_cost = c.edges_cost_little.ensures;
  lasts_found = c.last_writes_are_found.ensures;
  lasts_cost = c.last_costs_little.ensures;
  joined_events = c.joined_are_events.ensures;
  logs_tell = c.logs_tell_runs.ensures;
  runs_answered = c.runs_are_answered.ensures;
})
