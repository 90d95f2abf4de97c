-- Where each interval of a process begins, and what its log and its span then are.
use Rattle.law_steps.specs.Policies.{setting_by}
use Rattle.ppd_model.specs.Setting.{Setting}
use Rattle.std.specs.Prelude.{◌≡◌, ℕ, zero, suc, ◌+◌, ◌<◌, ⊤, length, List, [], ◌∷◌, map, get_or, slice_get, Option, Some, None, unwrap_or}
use Rattle.ppd_ast.specs.declared.plan.BlockKind.TheVariants as block
use Rattle.ppd_ast.specs.declared.plan.Plan.{Plan}
use Rattle.ppd_ast.specs.declared.plan.Policy.{Policy}
use Rattle.ppd_ast.specs.declared.plan.Start.TheVariants as start
use Rattle.ppd_ast.specs.declared.program.Program.{Program}
use Rattle.ppd_ast.specs.Valid.{IsValid}
use Rattle.law_steps.specs.Blocks.{plan_of}
use Rattle.ppd_model.specs.IntervalLogs.{IntervalLog, interval_log}
use Rattle.ppd_model.specs.Pieces.{Piece}
use Rattle.ppd_sem.specs.declared.proc.Proc.{Proc}
use Rattle.ppd_sem.specs.Process.{act, started}
use Rattle.ppd_sem.specs.Tables.{block_of, unit_of}
use Rattle.ppd_model.specs.Intervals.{Split, Span, items_of, splits}
use Rattle.ppd_model.specs.Logs.{closed_logs}
use Rattle.ppd_model.specs.Marks.{Mark, opened}
use Rattle.ppd_model.specs.Schedule.{IsWhole}
use Rattle.ppd_model.specs.Story.{Moment, story, told, unit_started, values_of_unit}
use Rattle.law_steps.specs.OpenBlocks.Stack.{block_frames}
use Rattle.law_steps.specs.Coming.Pieces.{Coming, before, coming, unit_pieces}

-- an interval begins: its block with the values of its prelog, the unit of its start, the process then, and the
-- steps to come
pub record Opening : Type 0 where
  pub mark : Mark
  pub units : List Piece
  pub proc : Proc
  pub rest : List Moment

abbrev pub opening_by : Option Mark → ℕ → List Piece → Proc → List Moment → (ℕ → Option Opening) → Option Opening
opening_by None n units after ms further = further n
opening_by (Some m) zero units after ms further = Some (record { mark = m; units = units; proc = after; rest = ms })
opening_by (Some m) (suc n) units after ms further = further n

-- opening n of a process in this state, by its steps to come
abbrev pub opening : Program → Plan → Proc → List Moment → ℕ → Option Opening
opening program plan s [] n = None
opening program plan s (m ∷ ms) n =
    opening_by (opened program plan s m.taken.need) n (unit_pieces (unit_started m.taken.need) m.unit_values)
    (act program plan s m.taken.answer) ms
    (opening program plan (act program plan s m.taken.answer) ms)

-- interval k of process p begins: the first with the process, each other by its opening
abbrev pub opening_of : Setting → ℕ → List Moment → ℕ → Option Opening
opening_of setting p moments zero =
    let body = setting.program.functions + p in
    let u = unit_of setting.plan (start.Entry body) in
    Some (record {
      mark = record { block = unwrap_or (block_of setting.plan (block.Process body)) 0; values = [] };
      units = unit_pieces (Some u) (values_of_unit setting.plan setting.program.starts u);
      proc = started setting.program setting.plan p setting.budget;
      rest = moments;
    })
opening_of setting p moments (suc k) =
    opening setting.program setting.plan (started setting.program setting.plan p setting.budget) moments k

-- what is to come in it
abbrev pub coming_in : Program → Plan → ℕ → Opening → Coming
coming_in program plan k o = before o.units [] 0 (coming program plan o.proc o.rest None (k + 1) 0)

-- the log has the opening's block and values, as depth how many of the frames are of functions that are blocks, and
-- the pieces to come
pub record IsLogOf (program : Program) (plan : Plan) (k : ℕ) (o : Opening) (l : IntervalLog) : Type 0 where
  pub block : l.block ≡ o.mark.block
  pub values : l.values ≡ o.mark.values
  pub depth : l.depth ≡ block_frames plan o.proc.frames
  pub pieces : map (λ q. q.1) l.pieces ≡ (coming_in program plan k o).pieces

-- the span has the opening's block, and the items and steps to come
pub record IsSpanOf (program : Program) (plan : Plan) (k : ℕ) (o : Opening) (x : Split) (i : Span) : Type 0 where
  pub block : i.block ≡ o.mark.block
  pub items : items_of x i ≡ (coming_in program plan k o).items
  pub steps : i.steps ≡ (coming_in program plan k o).steps

-- both are there just where the opening is
abbrev pub AreAlike : {A B : Type 0} → (A → B → Type 0) → Option A → Option B → Type 0
AreAlike R None None = ⊤
AreAlike R (Some a) (Some b) = R a b
AreAlike R a b = ⊥

-- interval k of process p begins in a schedule
abbrev pub opening_at : Setting → List ℕ → ℕ → ℕ → Option Opening
opening_at setting h p k =
    opening_of setting p (get_or (told setting h).moments p []) k

-- the logs: for a valid program and the plan of any policy, in a whole schedule the log of each interval is that of
-- its opening
abbrev pub LogsAreComing : Type 0
LogsAreComing =
    (program : Program) (policy : Policy) (budget : ℕ) (h : List ℕ) (p k : ℕ)
    → IsValid program → IsWhole (setting_by program policy budget) h
    → program.functions + p < length program.bodies
    → AreAlike (IsLogOf program (plan_of program policy) k) (opening_at (setting_by program policy budget) h p k)
    (interval_log (plan_of program policy)
    (get_or (closed_logs (setting_by program policy budget) h).lists p []) k)

-- the story: its intervals have the items and the steps
abbrev pub SpansAreComing : Type 0
SpansAreComing =
    (program : Program) (policy : Policy) (budget : ℕ) (h : List ℕ) (p k : ℕ) (x : Split)
    → IsValid program → IsWhole (setting_by program policy budget) h
    → slice_get (splits (setting_by program policy budget) (story (setting_by program policy budget) h)) p ≡ Some x
    → AreAlike (λ o i. IsSpanOf program (plan_of program policy) k o x i)
    (opening_at (setting_by program policy budget) h p k) (slice_get x.spans k)
