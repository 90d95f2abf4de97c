-- A step costs 1 and the values that it writes.
use Rattle.ppd_model.specs.Setting.{Setting}
use Rattle.ppd_ast.proofs.Vocabulary.{gives as gives_value, params_of_body}
use Rattle.ppd_ast.specs.Lookups.{body_of, kind_of}
use Rattle.ppd_ast.specs.Valid.{IsValid}
use Rattle.ppd_ast.specs.ValidPlan.{IsBlockOf, IsFunctionBlock, IsValidPlan}
use Rattle.ppd_ast.specs.declared.plan.Block.{Block}
use Rattle.ppd_ast.specs.declared.plan.BlockKind.{BlockKind}
use Rattle.ppd_ast.specs.declared.plan.BlockKind.TheVariants as block
use Rattle.ppd_ast.specs.declared.plan.Plan.{Plan}
use Rattle.ppd_ast.specs.declared.plan.Start.TheVariants as start
use Rattle.ppd_ast.specs.declared.plan.Unit.{Unit as UnitOf}
use Rattle.ppd_ast.specs.declared.program.Body.{Body}
use Rattle.ppd_ast.specs.declared.program.Program.{Program}
use Rattle.ppd_ast.specs.declared.status.Status.{Status}
use Rattle.ppd_model.specs.declared.entry.Entry.{Entry}
use Rattle.ppd_model.specs.declared.entry.Entry.TheVariants as entry
use Rattle.ppd_model.proofs.Changes.{change-at, change-else, some}
use Rattle.ppd_model.proofs.Homes.{AreHome, AskedOf, IsHome, act-home, head_of, started-home}
use Rattle.ppd_model.proofs.LogWords.{logs_from}
use Rattle.ppd_model.proofs.States.{logged, logs-change, one_state, states-begun, states-tell}
use Rattle.ppd_model.proofs.WorldWords.{need_at, values_at_start}
use Rattle.ppd_model.specs.Costs.{CostsWhatItWrites, HasSpentNothing, HasWholePrelogs, IsWholeBlock, LogsArePaid, StartsAreFree, StepsCostWhatTheyWrite, values_in}
use Rattle.ppd_model.specs.Laws.{logged_moment}
use Rattle.ppd_model.specs.Logs.{Logging, begun_log, block_entries, ends, entries_of, log_step, loggings, status_of, syncs, units}
use Rattle.ppd_model.specs.Marks.{Mark, closed, opened}
use Rattle.ppd_model.specs.Schedule.{started_world}
use Rattle.ppd_model.specs.States.{states_from}
use Rattle.ppd_model.specs.Story.{Moment, Taken, Telling, begun, moment_of, steps_of, tell, told, unit_started, values_of_unit}
use Rattle.ppd_model.specs.Synchronizations.{Sync, sync_of}
use Rattle.ppd_model.specs.World.{World, change, need, step}
use Rattle.ppd_sem.proofs.EventWords.{arguments_of_head, result_of_head}
use Rattle.ppd_sem.proofs.NeedWords.{act_at, need_by_entry, need_by_offer, need_by_status, need_of_running}
use Rattle.ppd_sem.proofs.Paid.{need-paid}
use Rattle.ppd_sem.proofs.Progress.{IsWithinBudget, SamePurse, act-stopped, act-within, asked_purse, need_at_status, need_at_todo}
use Rattle.ppd_sem.proofs.TableWords.{prelog_in}
use Rattle.ppd_sem.specs.Asked.{Asked}
use Rattle.ppd_sem.specs.Blocks.{postlog_cells, prelog_cells}
use Rattle.ppd_sem.specs.Deed.{Deed, back, branch, clear, finish, give, invoke, leave, pass, print, receive, send, set_local, set_shared, take, turn}
use Rattle.ppd_sem.specs.Passed.{arguments_at, arguments_by, result_at, result_by}
use Rattle.ppd_sem.specs.Process.{act, act_by_asked, act_by_need, charged, cost, entry_of, head_deed, need_of, need_of_asked, need_of_head, need_of_leaving, need_of_send, offer_of, top_frame, values_of}
use Rattle.ppd_sem.specs.Runs.{bodies_in}
use Rattle.ppd_sem.specs.Tables.{block_of, capacity_of, returned_length, same_block, unit_length, unit_of}
use Rattle.ppd_sem.specs.declared.asking.Pause.TheVariants.{Traps, Wants}
use Rattle.ppd_sem.specs.declared.proc.Answer.{Answer}
use Rattle.ppd_sem.specs.declared.proc.Frame.{Frame}
use Rattle.ppd_sem.specs.declared.proc.Need.{Need}
use Rattle.ppd_sem.specs.declared.proc.Need.TheVariants.{Back, Budget, Done, End, Enter, Invoke, Leave, Offer, P, Plain, Read, Recv, Send, Stopped, Trap, V, Write}
use Rattle.ppd_sem.specs.declared.proc.Proc.{Proc}
use Rattle.ppd_sem.specs.declared.proc.Todo.{Todo}
use Rattle.std.proofs.Common.{Bool, Err, List, None, Ok, Option, Some, [], ap, arith, false, get_or, if◌then◌else◌, inl, inr, length, map, pos, refl, subst, suc, sym, true, zero, ℕ, ℤ, ◌++◌, ◌+◌, ◌∙◌, ◌∷◌, ◌≡◌, ◌≢◌, ◌≤◌}
use Rattle.std.proofs.lemmas.Bool.{cases_eq}
use Rattle.std.proofs.lemmas.Bool.Decides.{nat_tests}
use Rattle.std.proofs.lemmas.List.{drop-append-le, length-append, length-map}
use Rattle.std.proofs.lemmas.List.Quantifiers.{position-Some}
use Rattle.std.proofs.lemmas.Option.{none-some, slice_get-get_or, slice_get-map}
use Rattle.std.specs.Option.{option_map_or}
use Rattle.std.specs.Prelude.{IsSomeAnd, drop, fold, is_some, option_map, option_to_list, slice_get, ⊤, ◌-◌, ◌⊎◌}

-- ---- the values in entries

-- the values of a prelog or postlog, if one is written
abbrev marked : Option Mark → ℕ
marked None = 0
marked (Some m) = length m.values

values_append : (xs ys : List Entry) → values_in (xs ++ ys) ≡ values_in xs + values_in ys
values_append [] ys = omega arith
values_append (x ∷ xs) ys = omega (arith, values_append xs ys)

five : (a b c d e : List Entry) → values_in (a ++ b ++ c ++ d ++ e) ≡ values_in a + (values_in b + (values_in c + (values_in d + values_in e)))
five a b c d e = omega (arith, values_append (a ++ b ++ c ++ d) e, values_append (a ++ b ++ c) d, values_append (a ++ b) c, values_append a b)

of_prelogs : (o : Option Mark) → values_in (block_entries entry.Prelog o) ≡ marked o
of_prelogs None = refl
of_prelogs (Some m) = omega arith

of_postlogs : (o : Option Mark) → values_in (block_entries entry.Postlog o) ≡ marked o
of_postlogs None = refl
of_postlogs (Some m) = omega arith

of_syncs : (l : Logging) (x : Taken) (o : Option Sync) → values_in (syncs l x o) ≡ 0
of_syncs l x None = refl
of_syncs l x (Some s) = refl

of_ends : (l : Logging) (o : Option Status) → values_in (ends l o) ≡ 0
of_ends l None = refl
of_ends l (Some s) = refl

of_units : (plan : Plan) (shared : List ℤ) (o : Option ℕ) → values_in (units o (values_at_start plan shared o)) ≡ length (values_at_start plan shared o)
of_units plan shared None = refl
of_units plan shared (Some u) = omega arith

-- the values that a step of this need writes: of the block that it enters, of the block that it leaves, and of the unit that it starts
of_entries : (program : Program) (plan : Plan) (shared : List ℤ) (l : Logging) (m : Moment) → m.unit_values ≡ values_at_start plan shared (unit_started m.taken.need)
    → values_in (entries_of program plan l m) ≡ marked (opened program plan l.proc m.taken.need) + (marked (closed program plan l.proc m.taken.need) + length (values_at_start plan shared (unit_started m.taken.need)))
of_entries program plan shared l m is =
    let n : Need = m.taken.need in
    let a : List Entry = block_entries entry.Prelog (opened program plan l.proc n) in
    let b : List Entry = syncs l m.taken (sync_of m.taken) in
    let c : List Entry = block_entries entry.Postlog (closed program plan l.proc n) in
    let d : List Entry = units (unit_started n) m.unit_values in
    let e : List Entry = ends l (status_of n) in
    let unit : values_in d ≡ length (values_at_start plan shared (unit_started n)) = ap (λ vs. values_in (units (unit_started n) vs)) is ∙ of_units plan shared (unit_started n) in
    let whole : values_in (entries_of program plan l m) ≡ values_in a + (values_in b + (values_in c + (values_in d + values_in e))) = five a b c d e in
    let first : values_in a ≡ marked (opened program plan l.proc n) = of_prelogs (opened program plan l.proc n) in
    let second : values_in b ≡ 0 = of_syncs l m.taken (sync_of m.taken) in
    let third : values_in c ≡ marked (closed program plan l.proc n) = of_postlogs (closed program plan l.proc n) in
    let last : values_in e ≡ 0 = of_ends l (status_of n) in
    omega arith

-- ---- blocks and units of a valid plan

no_block : Block
no_block = record { kind = block.Process 0; prelog = []; postlog = []; value = false }

same_function : (k : BlockKind) (f : ℕ) → same_block k (block.Function f) ≡ true → k ≡ block.Function f
same_function (block.Function a) f h = let e : a ≡ f = grind (arith, nat_tests) in ap (λ x. block.Function x) e
same_function (block.Process a) f h = absurd cc
same_function (block.Loop a) f h = absurd cc

-- the block of a function
record FunctionBlock (program : Program) (plan : Plan) (f b : ℕ) : Type 0 where
  found : Block
  is : slice_get plan.blocks b ≡ Some found
  valid : IsSomeAnd (slice_get program.bodies f) (λ x. IsFunctionBlock x found)
  whole : IsSomeAnd (slice_get program.bodies f) (λ x. length found.prelog ≡ x.params)

function_block : (program : Program) (plan : Plan) (f b : ℕ) → IsValidPlan program plan → HasWholePrelogs program plan → block_of plan (block.Function f) ≡ Some b → FunctionBlock program plan f b
function_block program plan f b v w e =
    let at = position-Some (λ x. same_block x.kind (block.Function f)) plan.blocks b no_block e in
    let x : Block = get_or plan.blocks b no_block in
    let kind : x.kind ≡ block.Function f = same_function x.kind f at.1 in
    record {
      found = x;
      is = slice_get-get_or plan.blocks b no_block at.0;
      valid = subst (λ k. IsBlockOf program k x) kind (v.blocks b no_block at.0);
      whole = subst (λ k. IsWholeBlock program x k) kind (w b no_block at.0);
    }

params_are : (o : Option Body) (x : Block) → IsSomeAnd o (λ b. length x.prelog ≡ b.params) → length x.prelog ≡ params_of_body o
params_are None x h = absurd h
params_are (Some b) x h = h

value_is : (o : Option Body) (x : Block) → IsSomeAnd o (λ b. IsFunctionBlock b x) → x.value ≡ gives_value o
value_is None x h = absurd h
value_is (Some b) x h = h.value

one_if : (b : Bool) (value : Option ℤ) → is_some value ≡ b → (if b then 1 else 0) ≡ length (option_to_list value)
one_if true None e = absurd cc
one_if true (Some v) e = refl
one_if false None e = refl
one_if false (Some v) e = absurd cc

prelog_of_call : (program : Program) (plan : Plan) (f b : ℕ) (values : List ℤ) → IsValidPlan program plan → HasWholePrelogs program plan → block_of plan (block.Function f) ≡ Some b
    → length values ≡ params_of_body (slice_get program.bodies f) → length (prelog_cells plan b) ≡ length values
prelog_of_call program plan f b values v w e count =
    let x : FunctionBlock program plan f b = function_block program plan f b v w e in
    ap (λ o. length (prelog_in o)) x.is ∙ params_are (slice_get program.bodies f) x.found x.whole ∙ sym count

postlog_of_return : (program : Program) (plan : Plan) (f b : ℕ) (value : Option ℤ) → IsValidPlan program plan → HasWholePrelogs program plan → block_of plan (block.Function f) ≡ Some b
    → is_some value ≡ gives_value (slice_get program.bodies f) → returned_length plan (Some b) ≡ length (option_to_list value)
postlog_of_return program plan f b value v w e gives =
    let x : FunctionBlock program plan f b = function_block program plan f b v w e in
    let is : x.found.value ≡ gives_value (slice_get program.bodies f) = value_is (slice_get program.bodies f) x.found x.valid in
    ap (λ o. option_map_or (λ (y : Block). if y.value then 1 else 0) o 0) x.is ∙ one_if x.found.value value (gives ∙ sym is)

-- ---- what is known of a need

-- a call passes as many values as its block's prelog lists, and a return as many as its block gives
abbrev Tells : Program → Plan → Proc → Need → Type 0
Tells program plan s (Invoke (Some b) u) = length (prelog_cells plan b) ≡ length (arguments_at program s)
Tells program plan s (Back (Some b) u) = returned_length plan (Some b) ≡ length (result_at program s)
Tells program plan s n = ⊤

head_home : (program : Program) (frames : List Frame) (t : Todo) (ts : List Todo) → AreHome program (bodies_in frames) (t ∷ ts) → body_of program t.stmt ≡ (top_frame frames).body
head_home program [] t ts h = absurd h
head_home program (f ∷ fs) t ts h = h.0

module _ (program : Program) (plan : Plan) (valid : IsValidPlan program plan) (whole : HasWholePrelogs program plan) (s : Proc) where
  told_call : (o : Option ℕ) (f u : ℕ) (values : List ℤ) → block_of plan (block.Function f) ≡ o → arguments_at program s ≡ values → length values ≡ params_of_body (slice_get program.bodies f) → Tells program plan s (Invoke o u)
  told_call None f u values e is count = tt
  told_call (Some b) f u values e is count = prelog_of_call program plan f b values valid whole e count ∙ sym (ap length is)

  told_back : (o : Option ℕ) (f : ℕ) (u : Option ℕ) (value : Option ℤ) → block_of plan (block.Function f) ≡ o → result_at program s ≡ option_to_list value → is_some value ≡ gives_value (slice_get program.bodies f) → Tells program plan s (Back o u)
  told_back None f u value e is gives = tt
  told_back (Some b) f u value e is gives = postlog_of_return program plan f b value valid whole e gives ∙ sym (ap length is)

  told_depth : (deep : Bool) (t : Need) (n : Need) → Tells program plan s t → Tells program plan s n → Tells program plan s (if deep then t else n)
  told_depth true t n h g = h
  told_depth false t n h g = g

  told_leaving : (t : ℕ) (o : Option ℕ) → Tells program plan s (need_of_leaving plan t o)
  told_leaving t None = tt
  told_leaving t (Some b) = tt

  told_send : (t n c : ℕ) (v : ℤ) → Tells program plan s (need_of_send plan t n c v)
  told_send t zero c v = tt
  told_send t (suc n) c v = tt

  told_asked : (t : Todo) (ts : List Todo) (asked : Asked Deed) → s.todo ≡ t ∷ ts → head_deed program t s ≡ asked → AskedOf program (top_frame s.frames).body (kind_of program t.stmt) asked → Tells program plan s (need_of_asked program plan t.stmt s asked)
  told_asked t ts (Err (Wants c)) is e h = tt
  told_asked t ts (Err (Traps x)) is e h = tt
  told_asked t ts (Ok (set_local c v, left)) is e h = tt
  told_asked t ts (Ok (set_shared c v, left)) is e h = tt
  told_asked t ts (Ok (clear base len, left)) is e h = tt
  told_asked t ts (Ok (branch stmts, left)) is e h = tt
  told_asked t ts (Ok (turn stmts, left)) is e h = tt
  told_asked t ts (Ok (leave, left)) is e h = told_leaving t.stmt _
  told_asked t ts (Ok (invoke f values into, left)) is e h =
      told_depth _ (Trap _) (Invoke (block_of plan (block.Function f)) (unit_of plan (start.Entry f))) tt
      (told_call (block_of plan (block.Function f)) f (unit_of plan (start.Entry f)) values refl
      (ap (λ todo. arguments_of_head program s (slice_get todo 0)) is ∙ ap (λ x. arguments_by x) e) h.1.1)
  told_asked t ts (Ok (back value, left)) is e h =
      told_back (block_of plan (block.Function (top_frame s.frames).body)) (top_frame s.frames).body _ value refl
      (ap (λ todo. option_to_list (result_of_head program s (slice_get todo 0))) is ∙ ap (λ x. option_to_list (result_by x)) e) h.1
  told_asked t ts (Ok (take x, left)) is e h = tt
  told_asked t ts (Ok (give x, left)) is e h = tt
  told_asked t ts (Ok (send x v, left)) is e h = told_send t.stmt (capacity_of program x) x v
  told_asked t ts (Ok (receive x into, left)) is e h = tt
  told_asked t ts (Ok (print v, left)) is e h = tt
  told_asked t ts (Ok (pass, left)) is e h = tt
  told_asked t ts (Ok (finish, left)) is e h = tt

  told_entry : (t : Todo) (ts : List Todo) (o : Option ℕ) → s.todo ≡ t ∷ ts → AskedOf program (top_frame s.frames).body (kind_of program t.stmt) (head_deed program t s) → Tells program plan s (need_by_entry program plan t.stmt s o (head_deed program t s))
  told_entry t ts None is h = told_asked t ts (head_deed program t s) is refl h
  told_entry t ts (Some b) is h = tt

  told_offer : (t : ℕ) (o : Option ℕ) (n : Need) → Tells program plan s n → Tells program plan s (need_by_offer plan t o n)
  told_offer t None n h = h
  told_offer t (Some c) n h = tt

  told_todo : (todo : List Todo) → s.todo ≡ todo → IsHome program s → IsValid program → Tells program plan s (need_of_running program plan todo s)
  told_todo [] is home v = tt
  told_todo (t ∷ ts) is home v =
      told_depth _ Budget (need_of_head program plan t s) tt (told_offer t.stmt (offer_of program t) _ (told_entry t ts (entry_of program plan t) is
      (subst (λ b. AskedOf program b (kind_of program t.stmt) (head_deed program t s)) (head_home program s.frames t ts (subst (λ l. AreHome program (bodies_in s.frames) l) is home)) (head_of program t s v))))

  told_status : (o : Option Status) → IsHome program s → IsValid program → Tells program plan s (need_by_status program plan o s)
  told_status (Some x) home v = tt
  told_status None home v = told_todo s.todo refl home v

  tells : IsHome program s → IsValid program → Tells program plan s (need_of program plan s)
  tells home v = told_status s.status home v

-- ---- the values that the cost counts

length_unit : (o : Option UnitOf) → option_map_or (λ (x : UnitOf). length x.cells) o 0 ≡ length (option_map_or (λ u. u.cells) o [])
length_unit None = refl
length_unit (Some x) = refl

module _ (program : Program) (plan : Plan) (shared : List ℤ) (s : Proc) where
  prelog_values : (b : ℕ) → length (prelog_cells plan b) ≡ length (map (λ c. get_or (top_frame s.frames).cells c (pos 0)) (prelog_cells plan b))
  prelog_values b = sym (length-map (prelog_cells plan b) (λ c. get_or (top_frame s.frames).cells c (pos 0)))

  postlog_values : (b : ℕ) → length (postlog_cells plan b) ≡ length (map (λ c. get_or (top_frame s.frames).cells c (pos 0)) (postlog_cells plan b))
  postlog_values b = sym (length-map (postlog_cells plan b) (λ c. get_or (top_frame s.frames).cells c (pos 0)))

  unit_values : (u : ℕ) → unit_length plan u ≡ length (values_of_unit plan shared u)
  unit_values u = length_unit (slice_get plan.units u) ∙ sym (length-map (option_map_or (λ u. u.cells) (slice_get plan.units u) []) (λ c. get_or shared c (pos 0)))

  -- the values of this need, as its entries have them
  abbrev written : Need → ℕ
  written n = marked (opened program plan s n) + (marked (closed program plan s n) + length (values_at_start plan shared (unit_started n)))

  counted : (n : Need) → Tells program plan s n → values_of plan n ≡ written n
  counted (Enter b u) h = omega (arith, prelog_values b, unit_values u)
  counted (Leave b u) h = omega (arith, postlog_values b, unit_values u)
  counted (Invoke None u) h = omega (arith, unit_values u)
  counted (Invoke (Some b) u) h =
      let passed : length (prelog_cells plan b) ≡ length (arguments_at program s) = h in
      omega (arith, unit_values u)
  counted (Back None None) h = refl
  counted (Back None (Some u)) h = omega (arith, unit_values u)
  counted (Back (Some b) None) h =
      let passed : returned_length plan (Some b) ≡ length (result_at program s) = h in
      omega arith
  counted (Back (Some b) (Some u)) h =
      let passed : returned_length plan (Some b) ≡ length (result_at program s) = h in
      omega (arith, unit_values u)
  counted (P x u) h = omega (arith, unit_values u)
  counted (V x u) h = omega (arith, unit_values u)
  counted (Send x v u) h = omega (arith, unit_values u)
  counted (Offer x v) h = refl
  counted (Done x u) h = omega (arith, unit_values u)
  counted (Recv x u) h = omega (arith, unit_values u)
  counted (End b) h = refl
  counted (Read c) h = refl
  counted (Write c v) h = refl
  counted Plain h = refl
  counted (Trap x) h = refl
  counted Budget h = refl
  counted Stopped h = refl

-- ---- what the step spends

-- a process that has taken one more step of this need
record Spends (plan : Plan) (n : Need) (s t : Proc) : Type 0 where
  spent : t.spent ≡ s.spent + cost plan n
  steps : t.steps ≡ s.steps + 1

-- a process whose purse is as before
record Keeps (s t : Proc) : Type 0 where
  spent : t.spent ≡ s.spent
  steps : t.steps ≡ s.steps

charged_spends : (plan : Plan) (n : Need) (s t : Proc) → SamePurse s t → Spends plan n s (charged plan n t)
charged_spends plan n s t same = record { spent = ap (λ x. x + cost plan n) same.spent; steps = ap (λ x. x + 1) same.steps }

spends_by : (program : Program) (plan : Plan) (a : Answer) (t : Todo) (ts : List Todo) (n : Need) (s : Proc) → n ≢ Stopped → n ≢ Budget → Spends plan n s (act_by_need program plan a t ts n s)
spends_by program plan a t ts (Enter b u) s r d = record { spent = refl; steps = refl }
spends_by program plan a t ts (Offer c v) s r d = record { spent = refl; steps = refl }
spends_by program plan a t ts (Done c u) s r d = record { spent = refl; steps = refl }
spends_by program plan a t ts (Trap x) s r d = record { spent = refl; steps = refl }
spends_by program plan a t ts Budget s r d = absurd (d refl)
spends_by program plan a t ts Stopped s r d = absurd (r refl)
spends_by program plan a t ts n s r d = charged_spends plan n s (act_by_asked program a t ts (head_deed program t s) s) (asked_purse program a t ts (head_deed program t s) s)

none_to_do : (program : Program) (plan : Plan) (s : Proc) (o : Option Status) → s.status ≡ o → s.todo ≡ [] → need_of program plan s ≡ Stopped
none_to_do program plan s None r e = need_at_todo program plan s [] r e
none_to_do program plan s (Some x) r e = need_at_status program plan s (Some x) r

spends_at : (program : Program) (plan : Plan) (a : Answer) (s : Proc) (ts : List Todo) → s.todo ≡ ts → need_of program plan s ≢ Stopped → need_of program plan s ≢ Budget → Spends plan (need_of program plan s) s (act_at program plan a ts s)
spends_at program plan a s [] e r d = absurd (r (none_to_do program plan s s.status refl e))
spends_at program plan a s (t ∷ ts) e r d = spends_by program plan a t ts (need_of program plan s) s r d

spends : (program : Program) (plan : Plan) (s : Proc) (a : Answer) → need_of program plan s ≢ Stopped → need_of program plan s ≢ Budget → Spends plan (need_of program plan s) s (act program plan s a)
spends program plan s a r d = spends_at program plan a s s.todo refl r d

keeps_at : (program : Program) (plan : Plan) (a : Answer) (s : Proc) (ts : List Todo) → need_of program plan s ≡ Budget → Keeps s (act_at program plan a ts s)
keeps_at program plan a s [] e = record { spent = refl; steps = refl }
keeps_at program plan a s (t ∷ ts) e = subst (λ n. Keeps s (act_by_need program plan a t ts n s)) (sym e) record { spent = refl; steps = refl }

keeps : (program : Program) (plan : Plan) (s : Proc) (a : Answer) → need_of program plan s ≡ Budget → Keeps s (act program plan s a)
keeps program plan s a e = keeps_at program plan a s s.todo e

-- ---- one step of a log

-- a process of this budget, whose statements to do are at home
record IsSound (program : Program) (budget : ℕ) (s : Proc) : Type 0 where
  home : IsHome program s
  limit : s.budget ≡ budget
  spent : s.spent ≤ s.budget

-- the moment of the next step
record IsNext (program : Program) (plan : Plan) (shared : List ℤ) (l : Logging) (m : Moment) : Type 0 where
  need : m.taken.need ≡ need_of program plan l.proc
  values : m.unit_values ≡ values_at_start plan shared (unit_started m.taken.need)

module _ (setting : Setting) (v : IsValid setting.program) (valid : IsValidPlan setting.program setting.plan) (whole : HasWholePrelogs setting.program setting.plan) where
  sound_act : (s : Proc) (a : Answer) → IsSound setting.program setting.budget s → IsSound setting.program setting.budget (act setting.program setting.plan s a)
  sound_act s a h =
      let within : IsWithinBudget s (act setting.program setting.plan s a) = act-within setting.program setting.plan s a h.spent in
      record { home = act-home setting.program setting.plan s a v h.home; limit = within.budget ∙ h.limit; spent = within.spent }

  -- the values that the entries have are those that the cost counts
  same_values : (shared : List ℤ) (l : Logging) (m : Moment) → IsHome setting.program l.proc → IsNext setting.program setting.plan shared l m → values_of setting.plan (need_of setting.program setting.plan l.proc) ≡ values_in (entries_of setting.program setting.plan l m)
  same_values shared l m home next =
      counted setting.program setting.plan shared l.proc (need_of setting.program setting.plan l.proc) (tells setting.program setting.plan valid whole l.proc home v)
      ∙ ap (λ n. written setting.program setting.plan shared l.proc n) (sym next.need) ∙ sym (of_entries setting.program setting.plan shared l m next.values)

  costs : (shared : List ℤ) (l : Logging) (m : Moment) → IsSound setting.program setting.budget l.proc → IsNext setting.program setting.plan shared l m → CostsWhatItWrites setting l m
  costs shared l m sound next =
      let values : values_of setting.plan (need_of setting.program setting.plan l.proc) ≡ values_in (entries_of setting.program setting.plan l m) = same_values shared l m sound.home next in
      let most : l.proc.budget ≡ setting.budget = sound.limit in
      record {
        paid = λ r d.
            let go : need_of setting.program setting.plan l.proc ≢ Stopped = λ e. r (next.need ∙ e) in
            let can : need_of setting.program setting.plan l.proc ≢ Budget = λ e. d (next.need ∙ e) in
            let by : Spends setting.plan (need_of setting.program setting.plan l.proc) l.proc (act setting.program setting.plan l.proc m.taken.answer) = spends setting.program setting.plan l.proc m.taken.answer go can in
            let spent : (act setting.program setting.plan l.proc m.taken.answer).spent ≡ l.proc.spent + cost setting.plan (need_of setting.program setting.plan l.proc) = by.spent in
            let within : l.proc.spent + cost setting.plan (need_of setting.program setting.plan l.proc) ≤ l.proc.budget = need-paid setting.program setting.plan l.proc (need_of setting.program setting.plan l.proc) refl go can in
            record { cost = omega arith; within = omega arith; counted = by.steps };
        free = λ e.
            let stop : need_of setting.program setting.plan l.proc ≡ Budget = sym next.need ∙ e in
            let same : Keeps l.proc (act setting.program setting.plan l.proc m.taken.answer) = keeps setting.program setting.plan l.proc m.taken.answer stop in
            record { cost = same.spent; values = sym values ∙ ap (λ n. values_of setting.plan n) stop; counted = same.steps };
      }

  -- ---- the logs of a schedule

  sound_fold : (l : Logging) (ms : List Moment) → IsSound setting.program setting.budget l.proc → IsSound setting.program setting.budget (fold (log_step setting.program setting.plan) l ms).proc
  sound_fold l [] h = h
  sound_fold l (m ∷ ms) h = sound_fold (log_step setting.program setting.plan l m) ms (sound_act l.proc m.taken.answer h)

  sound_begun : (p : ℕ) → IsSound setting.program setting.budget (begun_log setting p).proc
  sound_begun p = record { home = started-home setting.program setting.plan p setting.budget v; limit = refl; spent = omega arith }

  sound_logs : (p : ℕ) (moments : List (List Moment)) (i : ℕ) (l : Logging) → slice_get (logs_from setting p moments) i ≡ Some l → IsSound setting.program setting.budget l.proc
  sound_logs p [] i l e = absurd (none-some l e)
  sound_logs p (ms ∷ rest) zero l e = subst (λ (x : Logging). IsSound setting.program setting.budget x.proc) (some e) (sound_fold (begun_log setting p) ms (sound_begun p))
  sound_logs p (ms ∷ rest) (suc i) l e = sound_logs (p + 1) rest i l e

  -- what was spent so far, and that the entries written at the start are there
  record HasGrown (l : Logging) : Type 0 where
    spent : l.proc.spent ≡ l.proc.steps + values_in (drop 2 l.entries)
    begins : 2 ≤ length l.entries

  stops : (n : Need) → (n ≡ Stopped) ⊎ ((n ≡ Budget) ⊎ ((n ≢ Stopped) × (n ≢ Budget)))
  stops Stopped = inl refl
  stops Budget = inr (inl refl)
  stops _ = inr (inr (λ e. cc, λ e. cc))

  grown_step : (shared : List ℤ) (l : Logging) (m : Moment) → IsSound setting.program setting.budget l.proc → IsNext setting.program setting.plan shared l m → HasGrown l → HasGrown (log_step setting.program setting.plan l m)
  grown_step shared l m sound next h =
      let new : List Entry = entries_of setting.program setting.plan l m in
      let s : Proc = l.proc in
      let t : Proc = act setting.program setting.plan s m.taken.answer in
      let begins : 2 ≤ length l.entries = h.begins in
      let longer : length (l.entries ++ new) ≡ length l.entries + length new = length-append l.entries new in
      let dropped : values_in (drop 2 (l.entries ++ new)) ≡ values_in (drop 2 l.entries ++ new) = ap values_in (drop-append-le 2 l.entries new begins) in
      let values : values_in (drop 2 l.entries ++ new) ≡ values_in (drop 2 l.entries) + values_in new = values_append (drop 2 l.entries) new in
      let before : s.spent ≡ s.steps + values_in (drop 2 l.entries) = h.spent in
      let counts : values_of setting.plan (need_of setting.program setting.plan s) ≡ values_in new = same_values shared l m sound.home next in
      let spent : t.spent ≡ t.steps + values_in (drop 2 (l.entries ++ new)) =
      elim (stops (need_of setting.program setting.plan s)) [
        | inl e ↦
            let none : values_in new ≡ 0 = sym counts ∙ ap (λ n. values_of setting.plan n) e in
            let same : t.spent ≡ s.spent = ap (λ (x : Proc). x.spent) (act-stopped setting.program setting.plan s m.taken.answer e) in
            let steps : t.steps ≡ s.steps = ap (λ (x : Proc). x.steps) (act-stopped setting.program setting.plan s m.taken.answer e) in
            omega arith
        | inr (inl e) ↦
            let none : values_in new ≡ 0 = sym counts ∙ ap (λ n. values_of setting.plan n) e in
            let kept : Keeps s t = keeps setting.program setting.plan s m.taken.answer e in
            let same : t.spent ≡ s.spent = kept.spent in
            let steps : t.steps ≡ s.steps = kept.steps in
            omega arith
        | inr (inr d) ↦
            let by : Spends setting.plan (need_of setting.program setting.plan s) s t = spends setting.program setting.plan s m.taken.answer d.0 d.1 in
            let more : t.spent ≡ s.spent + cost setting.plan (need_of setting.program setting.plan s) = by.spent in
            let steps : t.steps ≡ s.steps + 1 = by.steps in
            omega arith
      ] in
      record { spent = spent; begins = omega arith }

at_need : (program : Program) (plan : Plan) (w : World) (ls : List Logging) (p : ℕ) (l : Logging) → map (λ l. l.proc) ls ≡ w.procs → slice_get ls p ≡ Some l → need program plan w p ≡ need_of program plan l.proc
at_need program plan w ls p l procs e =
    ap (λ o. need_at program plan o) (ap (λ ss. slice_get ss p) (sym procs) ∙ slice_get-map (λ (x : Logging). x.proc) ls p ∙ ap (λ o. option_map (λ (x : Logging). x.proc) o) e)

-- ---- the laws

pub steps_cost : StepsCostWhatTheyWrite
steps_cost setting h p l v valid whole e =
    let t : Telling = told setting h in
    let m : Moment = logged_moment setting.program setting.plan t.world p in
    let procs : map (λ l. l.proc) (loggings setting h) ≡ t.world.procs = (one_state setting h).logged ∙ sym (one_state setting h).worlds in
    let next : IsNext setting.program setting.plan (step setting.program setting.plan t.world p).shared l m = record { need = at_need setting.program setting.plan t.world (loggings setting h) p l procs e; values = refl } in
    costs setting v valid whole (step setting.program setting.plan t.world p).shared l m (sound_logs setting v valid whole 0 t.moments p l e) next

-- a log before the first step
begun_is : (setting : Setting) (p : ℕ) (procs : List Proc) (i : ℕ) (l : Logging) → slice_get (logs_from setting p (map (λ _. []) procs)) i ≡ Some l → (q : ℕ) × (begun_log setting q ≡ l)
begun_is setting p [] i l e = absurd (none-some l e)
begun_is setting p (s ∷ ss) zero l e = (p, some e)
begun_is setting p (s ∷ ss) (suc i) l e = begun_is setting (p + 1) ss i l e

pub starts_free : StartsAreFree
starts_free setting p l e =
    let is = begun_is setting 0 (started_world setting).procs p l e in
    subst (λ (x : Logging). HasSpentNothing x) is.1 record { spent = refl; steps = refl }

option_map_is : (f : Logging → Logging) (o : Option Logging) (l : Logging) → option_map f o ≡ Some l → (x : Logging) × (o ≡ Some x) × (f x ≡ l)
option_map_is f None l e = absurd (none-some l e)
option_map_is f (Some x) l e = (x, refl, some e)

module _ (setting : Setting) (v : IsValid setting.program) (valid : IsValidPlan setting.program setting.plan) (whole : HasWholePrelogs setting.program setting.plan) where
  -- what is told, where each process has spent what it did and wrote
  record IsPaidTelling (t : Telling) : Type 0 where
    procs : t.world.procs ≡ states_from setting 0 (map steps_of t.moments)
    grown : (p : ℕ) (l : Logging) → slice_get (logs_from setting 0 t.moments) p ≡ Some l → HasGrown setting v valid whole l

  own_grown : (t : Telling) (p : ℕ) (l : Logging) → IsPaidTelling t → slice_get (change (λ l. log_step setting.program setting.plan l (moment_of setting.program setting.plan t p)) p (logs_from setting 0 t.moments)) p ≡ Some l → HasGrown setting v valid whole l
  own_grown t p l h e =
      let m : Moment = moment_of setting.program setting.plan t p in
      let logs : List Logging = logs_from setting 0 t.moments in
      let at = option_map_is (λ l. log_step setting.program setting.plan l m) (slice_get logs p) l (sym (change-at (λ l. log_step setting.program setting.plan l m) p logs) ∙ e) in
      let procs : map (λ l. l.proc) logs ≡ t.world.procs = logged setting 0 t.moments ∙ sym h.procs in
      let next : IsNext setting.program setting.plan (step setting.program setting.plan t.world p).shared at.0 m = record { need = at_need setting.program setting.plan t.world logs p at.0 procs at.1; values = refl } in
      subst (λ (x : Logging). HasGrown setting v valid whole x) at.2
      (grown_step setting v valid whole (step setting.program setting.plan t.world p).shared at.0 m (sound_logs setting v valid whole 0 t.moments p at.0 at.1) next (h.grown p at.0 at.1))

  paid_tell : (t : Telling) (p : ℕ) → IsPaidTelling t → IsPaidTelling (tell setting.program setting.plan t p)
  paid_tell t p h = record {
    procs = states-tell setting t p h.procs;
    grown = λ q l e.
        let m : Moment = moment_of setting.program setting.plan t p in
        let logs : List Logging = logs_from setting 0 t.moments in
        let there : slice_get (change (λ l. log_step setting.program setting.plan l m) p logs) q ≡ Some l = ap (λ ls. slice_get ls q) (sym (logs-change setting m p 0 t.moments)) ∙ e in
        elim (cases_eq q p) [
          | inl is ↦ own_grown t p l h (subst (λ (i : ℕ). slice_get (change (λ l. log_step setting.program setting.plan l m) p logs) i ≡ Some l) is there)
          | inr d ↦ h.grown q l (sym (change-else (λ l. log_step setting.program setting.plan l m) p q logs d) ∙ there)
        ];
  }

  paid_fold : (t : Telling) (h : List ℕ) → IsPaidTelling t → IsPaidTelling (fold (tell setting.program setting.plan) t h)
  paid_fold t [] paid = paid
  paid_fold t (p ∷ h) paid = paid_fold (tell setting.program setting.plan t p) h (paid_tell t p paid)

  paid_begun : IsPaidTelling (begun (started_world setting))
  paid_begun = record {
    procs = sym (states-begun setting 0 (length setting.program.bodies - setting.program.functions));
    grown = λ p l e.
        let is = begun_is setting 0 (started_world setting).procs p l e in
        subst (λ (x : Logging). HasGrown setting v valid whole x) is.1 record { spent = refl; begins = omega arith };
  }

pub logs_paid : LogsArePaid
logs_paid setting h p l v valid whole e =
    record { spent = ((paid_fold setting v valid whole (begun (started_world setting)) h (paid_begun setting v valid whole)).grown p l e).spent }
