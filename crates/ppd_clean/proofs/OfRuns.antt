-- What is answered of what is kept of a whole run is what is to be answered of the run.
use Rattle.law_steps.specs.Policies.{setting_by}
use Rattle.ppd_model.specs.Setting.{Setting, setting_of}
use Rattle.law_clean.proofs.PastRaces.{both, grows_to, not_raced, race_of_edge}
use Rattle.law_clean.proofs.PastWords as words
use Rattle.law_clean.proofs.PastWords.{first_item}
use Rattle.law_clean.proofs.Places.{begun_left, left_all}
use Rattle.law_clean.proofs.Ranges.{NonePasses, first_between}
use Rattle.law_clean.proofs.Reached.{total_syncs}
use Rattle.law_clean.specs.Answers.{CleanOr, answer_of, by_part, is_reached, no_item, unclean_or, unwritten}
use Rattle.law_clean.specs.Cuts.{cut_logs}
use Rattle.law_clean.specs.Laws.{AnswersAreOfRuns}
use Rattle.law_clean.specs.Ordered.{IsUnracedIn}
use Rattle.law_clean.specs.Pasts.{any_raced, first_raced, is_clean, is_past, is_raced, is_same_edge, left_edge, lies}
use Rattle.law_clean.specs.Search as sought
use Rattle.law_flow.specs.Missing.{write_at}
use Rattle.law_logs.specs.Graph.Accepted.{LogsOfRunsAreOrdered}
use Rattle.ppd_ast.specs.Valid.{IsValid}
use Rattle.ppd_ast.specs.declared.plan.Plan.{Plan}
use Rattle.ppd_ast.specs.declared.plan.Policy.{Policy}
use Rattle.ppd_ast.specs.declared.program.Program.{Program}
use Rattle.ppd_blocks.specs.Blocks.{plan_of}
use Rattle.ppd_clean.proofs.NeverFails.{IsClear, cuts_never}
use Rattle.ppd_clean.specs.Answers.{IsAnswer, IsFound}
use Rattle.ppd_clean.specs.Runs.{CleansAreOfRuns}
use Rattle.ppd_clean.specs.declared.clean.Clean.{Clean}
use Rattle.ppd_clean.specs.declared.clean_error.CleanError.{CleanError}
use Rattle.ppd_clean.specs.declared.clean_error.CleanError.TheVariants as error
use Rattle.ppd_model.specs.declared.entry.Logs.{Logs}
use Rattle.ppd_graph.specs.Ends.{first_edge}
use Rattle.ppd_graph.specs.Shared.{Missing}
use Rattle.ppd_flow_past.specs.SeenBy.{failed_at}
use Rattle.ppd_model.proofs.Accesses.{record_at}
use Rattle.ppd_model.proofs.Changes.{some}
use Rattle.ppd_model.proofs.IntervalWords.{splits_from}
use Rattle.ppd_model.proofs.RecordedSyncs.{record_syncs}
use Rattle.ppd_model.proofs.Tested.{none_before_itself}
use Rattle.ppd_model.specs.FlowbackEdges.{edges}
use Rattle.ppd_model.specs.Forward.{edge_in}
use Rattle.ppd_model.specs.HappenedBefore.{Before, edge, is_edge_before}
use Rattle.ppd_model.specs.Intervals.{Part, Span, Split, item_of, splits}
use Rattle.ppd_model.specs.Logs.{closed_logs}
use Rattle.ppd_model.specs.Races.{races}
use Rattle.ppd_model.specs.Record.{sync_record}
use Rattle.ppd_model.specs.RecordedSets.{record_in}
use Rattle.ppd_model.specs.Schedule.{IsWhole}
use Rattle.ppd_model.specs.Story.{story}
use Rattle.ppd_model.specs.Synchronizations.{Sync, sync_of}
use Rattle.ppd_model.specs.declared.flow.FlowEdge.{FlowEdge}
use Rattle.ppd_model.specs.declared.flow.Item.{Item}
use Rattle.ppd_model.specs.declared.graph.NodeId.{NodeId}
use Rattle.ppd_model.specs.declared.graph.Race.{Race}
use Rattle.ppd_model.specs.declared.tracing.Story.{Story}
use Rattle.ppd_model.specs.declared.tracing.Taken.{Taken}
use Rattle.ppd_race.specs.Races.{RunRacesAreOfLogs, edges_of_logs, races_among}
use Rattle.std.proofs.Common.{Bool, Err, List, None, Ok, Option, Result, Some, [], ap, arith, eq-eqb, eqb-true, false, if◌then◌else◌, inl, inr, length, not, refl, subst, suc, sym, true, true≢false, zero, ℕ, ◌+◌, ◌<◌, ◌∙◌, ◌∷◌, ◌≡◌, ◌≤◌, ◌⊎◌}
use Rattle.std.proofs.lemmas.Bool.{and_from, cases_lt, false_from_ne_true, leb-false, or_left}
use Rattle.std.proofs.lemmas.Option.{none-some}
use Rattle.std.specs.List.{range_with_len}
use Rattle.std.specs.Option.{option_map_or}
use Rattle.std.specs.Prelude.{filter_map, find, fold, get_or, nat_eq, slice_get, unwrap_or, ⊤, ◌-◌}

-- ---- the last of a range

last_passes : (t : ℕ → Bool) (a n : ℕ) (found : Option ℕ) (i : ℕ) → fold (λ found i. if t i then Some i else found) found (range_with_len a n) ≡ Some i
    → (found ≡ Some i) ⊎ (t i ≡ true)
last_passes t a zero found i e = inl e
last_passes t a (suc n) found i e = elim (last_passes t (a + 1) n (if t a then Some a else found) i e) [
  | inr passes ↦ inr passes
  | inl here ↦ by (t a) refl here
]
  where
    by : (b : Bool) → t a ≡ b → (if b then Some a else found) ≡ Some i → (found ≡ Some i) ⊎ (t i ≡ true)
    by true is f = inr (subst (λ z. t z ≡ true) (some f) is)
    by false is f = inl f

process_there : (setting : Setting) (s : Story) (q : ℕ) (steps : List (List Taken)) (p : ℕ) (x : Split) → slice_get (splits_from setting s q steps) p ≡ Some x → p < length steps
process_there setting s q [] p x e = absurd (none-some x e)
process_there setting s q (t ∷ ts) zero x e = omega arith
process_there setting s q (t ∷ ts) (suc p) x e = let r = process_there setting s (q + 1) ts p x e in omega (arith, r)

unnot : (b : Bool) → not b ≡ true → b ≡ false
unnot true e = absurd (true≢false (sym e))
unnot false e = refl

-- ---- no write is missing

module _ (setting : Setting) (h : List ℕ) (p k j : ℕ) (m : Missing) where
  or_unwritten : (o : Option ℕ) → unclean_or p o no_item ≡ unwritten m → ⊥
  or_unwritten None e = cc e
  or_unwritten (Some u) e = cc e

  first_unwritten : (ts : List Item) (es : List FlowEdge) → first_item ts es ≡ unwritten m → ⊥
  first_unwritten [] es e = cc e
  first_unwritten (t ∷ ts) es e = cc e

  or_not_reached : (b : Bool) (o : Option ℕ) → (if b then unclean_or p o no_item else no_item) ≡ unwritten m → ⊥
  or_not_reached true o e = or_unwritten o e
  or_not_reached false o e = cc e

  abbrev first : Option ℕ
  first = first_raced setting.program (sync_record setting h) (races setting h) (get_or (closed_logs setting h).lists p []) p k

  part_unwritten : (x : Split) (o : Option Part) → by_part setting h p k j first x o ≡ unwritten m → ⊥
  part_unwritten x None e = or_not_reached (is_reached (left_edge (get_or (closed_logs setting h).lists p []) k) first) first e
  part_unwritten x (Some part) e = by (is_clean setting.program (story setting h) p (lies (get_or (closed_logs setting h).lists p []) x part)) e
    where
      by : (b : Bool) → (if b then first_item (item_of x part) (unwrap_or (edges setting (story setting h) p k j) []) else unclean_or p first no_item) ≡ unwritten m → ⊥
      by true f = first_unwritten (item_of x part) (unwrap_or (edges setting (story setting h) p k j) []) f
      by false f = or_unwritten first f

  abbrev by_spans : Split → Option Span → CleanOr
  by_spans x o = option_map_or (λ i. by_part setting h p k j first x (slice_get i.parts j)) o no_item

  span_unwritten : (x : Split) (o : Option Span) → by_spans x o ≡ unwritten m → ⊥
  span_unwritten x None e = cc e
  span_unwritten x (Some i) e = part_unwritten x (slice_get i.parts j) e

  split_unwritten : (o : Option Split) → option_map_or (λ x. by_spans x (slice_get x.spans k)) o no_item ≡ unwritten m → ⊥
  split_unwritten None e = cc e
  split_unwritten (Some x) e = span_unwritten x (slice_get x.spans k) e

  pub never_unwritten : answer_of setting h p k j ≡ unwritten m → ⊥
  never_unwritten e = split_unwritten (slice_get (splits setting (story setting h)) p) e

-- ---- no replay fails

module _ (program : Program) (policy : Policy) (budget : ℕ) (h : List ℕ) (p k j : ℕ) (v : IsValid program) (whole : IsWhole (setting_by program policy budget) h)
    (x : Split) (at : slice_get (splits (setting_by program policy budget) (story (setting_by program policy budget) h)) p ≡ Some x) where
  abbrev plan : Plan
  plan = plan_of program policy

  abbrev s : Story
  s = story (setting_of program plan budget) h

  abbrev Rec : List (List Sync)
  Rec = sync_record (setting_of program plan budget) h

  abbrev Rs : List Race
  Rs = races (setting_of program plan budget) h

  abbrev logs : Logs
  logs = closed_logs (setting_of program plan budget) h

  abbrev begun : ℕ
  begun = first_edge (get_or logs.lists p []) k

  abbrev far : ℕ
  far = length (get_or Rec p [])

  abbrev Has : ℕ → Bool
  Has i = any_raced (is_past program Rec (edge p i)) Rs

  there : p < length s.steps
  there = process_there (setting_of program plan budget) s 0 s.steps p x at

  far_is : length (get_or Rec p []) ≡ length (filter_map sync_of (get_or s.steps p []))
  far_is = ap length (record_at s.steps p)

  begun_le : begun ≤ far
  begun_le =
      let a = begun_left (get_or logs.lists p []) k in
      let b = left_all (get_or logs.lists p []) k in
      let c : _ ≡ edge_in (setting_of program plan budget) h p = total_syncs (setting_of program plan budget) h p x at in
      omega (arith, a, b, c)

  grown : (e i : ℕ) → e ≤ i → i ≤ far → Has e ≡ true → Has i ≡ true
  grown e i le up has = let f = far_is in grows_to program s p there e i le (omega (arith, up, f)) has

  -- below the first edge whose past has a race no past has one
  below_clear : (e top : ℕ) → begun < top → NonePasses Has begun top → e < top → Has e ≡ false
  below_clear e top lt none under = elim (cases_lt e begun) [
    | inr ge ↦ none e ge under
    | inl low ↦ false_from_ne_true (Has e) (λ has. true≢false (sym (grown e begun (omega (arith, low)) begun_le has) ∙ none begun (omega arith) lt))
  ]

  unraced : (e : ℕ) → Has e ≡ false → IsUnracedIn (setting_of program plan budget) h p e
  unraced e none = false_from_ne_true (is_raced Rs (edge p e)) (λ raced.
      true≢false (sym (race_of_edge (is_past program Rec (edge p e)) Rs (edge p e) raced
      (or_left (is_same_edge (edge p e) (edge p e)) (is_edge_before program Rec (edge p e) (edge p e)) (and_from (nat_eq p p) (nat_eq e e) (eq-eqb p p refl) (eq-eqb e e refl)))) ∙ none))

  abbrev Clear : ℕ → Option ℕ → Type 0
  Clear q None = ⊤
  Clear q (Some i) = (e : ℕ) → e ≤ i → e ≤ edge_in (setting_by program policy budget) h q → IsUnracedIn (setting_by program policy budget) h q e

  own_clear : (z : Option ℕ) → find Has (range_with_len begun (far + 1 - begun)) ≡ z → is_reached begun z ≡ false → Clear p (sought.own_last program Rec Rs p z)
  own_clear None e begins = λ i le up. unraced i (below_clear i (far + 1) (let b = begun_le in omega (arith, b)) none (omega (arith, le)))
    where
      none : NonePasses Has begun (far + 1)
      none = elim (first_between Has begun far) [
        | inl clear ↦ clear.1
        | inr found ↦ absurd (none-some found.0 (sym e ∙ found.1))
      ]
  own_clear (Some zero) e begins = tt
  own_clear (Some (suc u)) e begins = λ i le up. unraced i (below_clear i (suc u) (leb-false (suc u) begun begins) none (omega (arith, le)))
    where
      none : NonePasses Has begun (suc u)
      none = elim (first_between Has begun far) [
        | inl clear ↦ absurd (none-some (suc u) (sym clear.0 ∙ e))
        | inr found ↦ (let same : found.0 ≡ suc u = some (sym found.1 ∙ e) in subst (λ z. NonePasses Has begun z) same found.2.none)
      ]

  other_clear : (q top : ℕ) (o : Option ℕ) → words.other_last program Rec Rs p top q ≡ o → Clear q o
  other_clear q top None e = tt
  other_clear q top (Some i) e = λ n le up. not_raced program Rec Rs q i raced n le
    where
      wanted : sought.is_wanted program Rec Rs p top q i ≡ true
      wanted = elim (last_passes (sought.is_wanted program Rec Rs p top q) 0 (length (get_or Rec q [])) None i e) [
        | inl missing ↦ absurd (none-some i missing)
        | inr passes ↦ passes
      ]

      raced : words.is_raced_to program Rec Rs q i ≡ false
      raced = unnot (words.is_raced_to program Rec Rs q i) (both (is_edge_before program Rec (edge q i) (edge p top)) (not (words.is_raced_to program Rec Rs q i)) wanted).1

  last_clear : (q : ℕ) → is_reached begun (find Has (range_with_len begun (far + 1 - begun))) ≡ false
      → Clear q (sought.last_wanted program Rec Rs p (find Has (range_with_len begun (far + 1 - begun))) q)
  last_clear q begins = by (nat_eq q p) refl
    where
      by : (b : Bool) → nat_eq q p ≡ b → Clear q (if b then sought.own_last program Rec Rs p (find Has (range_with_len begun (far + 1 - begun))) else words.other_last program Rec Rs p (unwrap_or (find Has (range_with_len begun (far + 1 - begun))) far) q)
      by true is = subst (λ r. Clear r (sought.own_last program Rec Rs p (find Has (range_with_len begun (far + 1 - begun))))) (sym (eqb-true q p is)) (own_clear (find Has (range_with_len begun (far + 1 - begun))) refl begins)
      by false is = other_clear q (unwrap_or (find Has (range_with_len begun (far + 1 - begun))) far) (words.other_last program Rec Rs p (unwrap_or (find Has (range_with_len begun (far + 1 - begun))) far) q) refl

  as_clear : (q : ℕ) (y : Split) (at_q : slice_get (splits (setting_by program policy budget) (story (setting_by program policy budget) h)) q ≡ Some y)
      (o : Option ℕ) → Clear q o → IsClear program policy budget h v whole q y at_q o
  as_clear q y at_q None c = tt
  as_clear q y at_q (Some i) c = c

  abbrev Never : List (List Sync) → Type 0
  Never rec = (q n m : ℕ)
      → is_reached begun (first_raced program rec Rs (get_or logs.lists p []) p k) ≡ false
      → failed_at (setting_of program plan budget) (get_or (cut_logs (sought.last_wanted program rec Rs p (first_raced program rec Rs (get_or logs.lists p []) p k)) logs).lists q []) m ≡ Some n → ⊥

  by_record : Never Rec
  by_record q n m begins fails =
      let o : Option ℕ = first_raced program Rec Rs (get_or logs.lists p []) p k in
      let last : ℕ → Option ℕ = sought.last_wanted program Rec Rs p o in
      none-some n (sym (cuts_never program policy budget h v whole last (λ r y at_r. as_clear r y at_r (last r) (last_clear r begins)) q m) ∙ fails)

  pub never_fails : Never (record_in (closed_logs (setting_by program policy budget) h))
  never_fails = subst Never (sym (record_syncs (setting_of program plan budget) h).closed) by_record

-- ---- the answer

module _ (program : Program) (budget : ℕ) (h : List ℕ) (p k j : ℕ) where
  abbrev Cleaned : Plan → Logs → List Race → Result Clean CleanError → Type 0
  Cleaned plan logs rs result =
      IsFound (λ q n. (is_reached (first_edge (get_or logs.lists p []) k) (first_raced program (record_in logs) rs (get_or logs.lists p []) p k) ≡ false)
      × ((m : ℕ) × (failed_at (setting_of program plan budget) (get_or (cut_logs (sought.last_wanted program (record_in logs) rs p (first_raced program (record_in logs) rs (get_or logs.lists p []) p k)) logs).lists q []) m ≡ Some n)))
      (sought.clean_by (setting_of program plan budget) logs rs p k j) result

  module _ (answers : AnswersAreOfRuns) (policy : Policy) (v : IsValid program) (x : Split) (i : Span) (at_k : slice_get x.spans k ≡ Some i) where
    abbrev Gives : Result Clean CleanError → Plan → Type 0
    Gives result plan = IsWhole (setting_of program plan budget) h → slice_get (splits (setting_of program plan budget) (story (setting_of program plan budget) h)) p ≡ Some x
        → Cleaned plan (closed_logs (setting_of program plan budget) h) (races (setting_of program plan budget) h) result → IsAnswer (answer_of (setting_of program plan budget) h p k j) result

    at_plan : (result : Result Clean CleanError) → Gives result (plan_of program policy)
    at_plan (Ok c) whole at f = sym (answers program policy budget h p k j x i v whole at at_k) ∙ f
    at_plan (Err (error.Unclean e)) whole at f = sym (answers program policy budget h p k j x i v whole at at_k) ∙ f
    at_plan (Err error.NoEvent) whole at f = sym (answers program policy budget h p k j x i v whole at at_k) ∙ f
    at_plan (Err (error.Diverged q n)) whole at f = never_fails program policy budget h p k j v whole x at q n f.1.0 f.0 f.1.1
    at_plan (Err (error.Sets q n c)) whole at f =
        never_unwritten (setting_by program policy budget) h p k j (write_at q n c) (sym (answers program policy budget h p k j x i v whole at at_k) ∙ f)
    at_plan (Err error.Memory) whole at f = tt

    pub of_plan : (result : Result Clean CleanError) (plan : Plan) → plan ≡ plan_of program policy → Gives result plan
    of_plan result used is = subst (Gives result) (sym is) (at_plan result)

pub cleans_of_runs : AnswersAreOfRuns → RunRacesAreOfLogs → LogsOfRunsAreOrdered → CleansAreOfRuns
cleans_of_runs answers raced ordered past rs p k j result v races_are found policy h x i r at at_k =
    let program : Program = past.program.now in
    let plan : Plan = past.plan.now in
    let budget : ℕ = past.budget in
    let logs : Logs = closed_logs (setting_of program plan budget) h in
    let is_ordered = subst (λ (l : Logs). (a : NodeId) → Before program (record_in l) a a → ⊥) (sym r.logs_are) (none_before_itself program (record_in logs) (ordered (setting_of program plan budget) h r.whole.last r.whole.runs).acyclic) in
    let same : rs ≡ races (setting_of program plan budget) h = races_are ∙ ap (λ (l : Logs). races_among (edges_of_logs program l)) r.logs_are ∙ (raced (setting_of program plan budget) h v).0 in
    of_plan program budget h p k j answers policy v x i at_k result plan r.plan_is r.whole at
    (subst (λ (zs : List Race). Cleaned program budget h p k j plan logs zs result) same
    (subst (λ (l : Logs). Cleaned program budget h p k j plan l rs result) r.logs_are (found is_ordered)))
