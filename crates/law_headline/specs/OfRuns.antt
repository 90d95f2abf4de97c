-- That the headline holds of each run, by what is known of it.
use Rattle.ppd_check.specs.Read.{IsRead}
use Rattle.ppd_model.specs.Schedule.{IsWhole}
use Rattle.ppd_session.specs.Known.{known_of_run}
use Rattle.law_headline.specs.Headline.{Headline}
use Rattle.law_headline.specs.Runs.{Run, setting_in}

abbrev pub RunsHaveTheHeadline : Type 0
RunsHaveTheHeadline =
    (r : Run) → IsRead r.source r.program → IsWhole (setting_in r) r.schedule
    → Headline r (known_of_run (setting_in r) r.schedule)
