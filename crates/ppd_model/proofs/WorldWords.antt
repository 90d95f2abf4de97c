-- Words of the proofs for a world, its steps and what is told of them.
use Rattle.ppd_model.specs.Setting.{Setting}
use Rattle.std.specs.Option.{option_map_or}
use Rattle.std.specs.List.{range_with_len}
use Rattle.std.specs.Prelude.{◌+◌, [], ℕ, ℤ, List, Option, Bool, false, map, length, get_or, option_map, nat_lt, pos, count_by}
use Rattle.ppd_model.specs.World.{answer, change, effect, World, room_of}
use Rattle.ppd_ast.specs.declared.program.Program.{Program}
use Rattle.ppd_ast.specs.declared.plan.Plan.{Plan}
use Rattle.ppd_sem.specs.declared.proc.Need.{Need}
use Rattle.ppd_sem.specs.declared.proc.Need.TheVariants.{Stopped}
use Rattle.ppd_sem.specs.declared.proc.Proc.{Proc}
use Rattle.ppd_sem.specs.Process.{need_of, act, started}
use Rattle.ppd_model.specs.declared.state.Counts.{Counts}
use Rattle.ppd_model.specs.declared.state.Channel.{Channel}
use Rattle.ppd_model.specs.Story.{number_of, writer_of, values_of_unit, Moment, Telling}
use Rattle.ppd_sem.specs.Described.{is_event}
use Rattle.ppd_model.specs.declared.tracing.Taken.{Taken}

-- it was given more often than taken
abbrev pub can_take : Option Counts → Bool
can_take o = option_map_or (λ (x : Counts). nat_lt x.taken x.given) o false

-- there is room for one more
abbrev pub can_send : Option Channel → Bool
can_send o = option_map_or (λ (x : Channel). nat_lt (length x.sent) (room_of x.capacity x)) o false

-- fewer were completed than received
abbrev pub can_complete : Option Channel → Bool
can_complete o = option_map_or (λ (x : Channel). nat_lt x.completed x.received) o false

-- fewer were received than sent
abbrev pub can_receive : Option Channel → Bool
can_receive o = option_map_or (λ (x : Channel). nat_lt x.received (length x.sent)) o false

-- the need of a process that is there
abbrev pub need_at : Program → Plan → Option Proc → Need
need_at program plan o = option_map_or (need_of program plan) o Stopped

-- the value that is received next
abbrev pub next_value : Option Channel → ℤ
next_value o = option_map_or (λ (x : Channel). get_or x.sent x.received (pos 0)) o (pos 0)

-- process p, with this need, takes its step
abbrev pub step_by : Program → Plan → World → ℕ → Need → World
step_by program plan w p n =
    let after = effect w n in
    record after { procs = change (λ s. act program plan s (answer w n)) p w.procs }

-- the first n processes before their first steps
abbrev pub started_procs : Setting → ℕ → List Proc
started_procs setting n = map (λ p. started setting.program setting.plan p setting.budget) (range_with_len 0 n)

-- one more than the count of an object that is there
abbrev pub number_after : {A : Type 0} → (A → ℕ) → Option A → Option ℕ
number_after count x = option_map (λ y. count y + 1) x

-- a step of this need
abbrev pub taken_of : Telling → Need → Taken
taken_of t n = record { need = n; answer = answer t.world n; writer = writer_of t n; number = number_of t.world n }

-- the values of the unit that starts, if one does
abbrev pub values_at_start : Plan → List ℤ → Option ℕ → List ℤ
values_at_start plan shared o = option_map_or (values_of_unit plan shared) o []

-- how many events there are in these steps
abbrev pub count_events : List Moment → ℕ
count_events moments = count_by (λ m. is_event m.taken.need) moments
