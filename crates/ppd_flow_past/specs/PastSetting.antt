-- The setting of what is kept of a run.
use Rattle.ppd_flow_past.specs.declared.past.Past.{Past}
use Rattle.ppd_model.specs.Setting.{Setting, setting_of}

-- the program, the plan and the budget that a past keeps
abbrev pub past_setting : Past → Setting
past_setting past = setting_of past.program.now past.plan.now past.budget
