-- Where the items of a run are told to come from is where its flowback edges come from.
use Rattle.ppd_model.specs.Setting.{Setting}
use Rattle.ppd_ast.specs.Valid.{IsValid}
use Rattle.ppd_model.specs.declared.flow_error.FlowError.TheVariants as flow_error
use Rattle.ppd_model.specs.declared.flow_error.FlowError.TheVariants.{NoEvent}
use Rattle.ppd_model.proofs.EdgeWords.{edges_if, edges_in, part_in}
use Rattle.ppd_model.specs.FlowbackEdges.{edges}
use Rattle.ppd_model.specs.Intervals.{Part, Span, Split, items_of, splits}
use Rattle.ppd_model.specs.Items.{ItemsAreWhole}
use Rattle.ppd_model.specs.Races.{edges_of_story, races_among}
use Rattle.ppd_model.specs.Story.{story}
use Rattle.ppd_model.specs.declared.flow.FlowEdge.{FlowEdge}
use Rattle.ppd_model.specs.declared.flow.Item.{Item}
use Rattle.ppd_model.specs.declared.graph.Race.{Race}
use Rattle.ppd_model.specs.declared.tracing.Story.{Story}
use Rattle.ppd_session.proofs.KnownWords.{flow_told, of_cells, of_intervals, of_span, of_split}
use Rattle.ppd_session.specs.Known.{Flow, Known, Told, known_of_run, of_processes, told_of_split, unless_raced}
use Rattle.ppd_session.specs.Texts.{no_event, races_refusal, told_at}
use Rattle.ppd_slice_search.proofs.Levels.{reach_as}
use Rattle.ppd_slice_search.specs.Laws.{ReachesAreSlices, SlicesAreOne}
use Rattle.ppd_slice_search.specs.OfRuns.{origins, reach}
use Rattle.ppd_slice_search.specs.Reach.{IsReach, at, item_of, places_of}
use Rattle.ppd_slice_search.specs.declared.reached.ItemAt.{ItemAt}
use Rattle.ppd_slice_search.specs.declared.reached.Reached.{Reached}
use Rattle.ppd_top.proofs.QueryWords.{origins_of, process_refusal}
use Rattle.ppd_top.specs.OfRuns.{IsOfRun, SlicesAreOfRuns}
use Rattle.ppd_top.specs.Queries.{IsSliceAnswer, IsSliceText, block_refusal, event_refusal, origins_told, reached_line}
use Rattle.ppd_top_requests.specs.Questions.{ItemAsked}
use Rattle.ppd_top_requests.specs.Questions.Query.{Slice}
use Rattle.ppd_top.specs.SlicesOfRuns.{SliceTextsAreOfRuns, lines_of_reach}
use Rattle.std.proofs.Common.{Bool, Err, List, None, Ok, Option, Some, [], ap, arith, false, get_or, length, map, refl, suc, sym, true, zero, ℕ, ◌+◌, ◌<◌, ◌∙◌, ◌∷◌, ◌≡◌, ◌≤◌}
use Rattle.std.proofs.lemmas.Bool.{ltb-false, ltb-true}
use Rattle.std.proofs.lemmas.List.{length-map}
use Rattle.std.proofs.lemmas.Option.{slice_get-map}
use Rattle.std.specs.List.{flat_map}
use Rattle.std.specs.Option.{option_or}
use Rattle.std.specs.Prelude.{codes, if◌then◌else◌, nat_lt, ok_or, option_map, slice_get, unwrap_or}
use Rattle.std.specs.Result.{result_unwrap_or}

-- ---- lists

no_place : {X : Type 0} (k : ℕ) → ◌≡◌ {A = Option X} (slice_get [] k) None
no_place zero = refl
no_place (suc k) = refl

past_end : {X : Type 0} (xs : List X) (j : ℕ) → length xs ≤ j → slice_get xs j ≡ None
past_end [] j le = no_place j
past_end (x ∷ xs) zero le = absurd (omega (arith, le))
past_end (x ∷ xs) (suc j) le = past_end xs j (omega (arith, le))

got : {X : Type 0} (xs : List X) (j : ℕ) → j < length xs → (x : X) × (slice_get xs j ≡ Some x)
got [] j lt = absurd (omega (arith, lt))
got (x ∷ xs) zero lt = (x, refl)
got (x ∷ xs) (suc j) lt = got xs j (omega (arith, lt))

none_or_some : {X : Type 0} {o : Option X} {x : X} → o ≡ None → o ≡ Some x → ⊥
none_or_some a b = cc (a, b)

-- ---- the table of edges

module _ (d : Flow) where
  cell_there : (f : ℕ → Flow) (c n j : ℕ) → j < n → get_or (of_cells f c n) j d ≡ f (c + j)
  cell_there f c zero j lt = absurd (omega (arith, lt))
  cell_there f c (suc n) zero lt = let z : c ≡ c + 0 = omega arith in ap f z
  cell_there f c (suc n) (suc j) lt =
      let z : c + 1 + j ≡ c + suc j = omega arith in cell_there f (c + 1) n j (omega (arith, lt)) ∙ ap f z

  row_there : (f : ℕ → ℕ → Flow) (m k j : ℕ) (ts : List Told) (items : List Item) → slice_get ts k ≡ Some (Ok items) → j < length items
      → get_or (get_or (of_intervals f m ts) k []) j d ≡ f (m + k) j
  row_there f m k j [] items e lt = absurd (none_or_some (no_place k) e)
  row_there f m zero j (t ∷ ts) items e lt =
      let z : m ≡ m + 0 = omega arith in
      let y : 0 + j ≡ j = omega arith in
      let is : t ≡ Ok items = cc in
      ap (λ (t : Told). get_or (of_cells (f m) 0 (length (result_unwrap_or t []))) j d) is ∙ (cell_there (f m) 0 (length items) j lt ∙ (ap (f m) y ∙ ap (λ i. f i j) z))
  row_there f m (suc k) j (t ∷ ts) items e lt =
      let z : m + 1 + k ≡ m + suc k = omega arith in row_there f (m + 1) k j ts items e lt ∙ ap (λ i. f i j) z

  table_there : (f : ℕ → ℕ → ℕ → Flow) (p q k j : ℕ) (rows : List (List Told)) (items : List Item) → slice_get (get_or rows q []) k ≡ Some (Ok items) → j < length items
      → get_or (get_or (get_or (of_processes f p rows) q []) k []) j d ≡ f (p + q) k j
  table_there f p q k j [] items e lt = absurd (none_or_some (no_place k) e)
  table_there f p zero k j (ts ∷ rows) items e lt =
      let z : p ≡ p + 0 = omega arith in
      let y : 0 + k ≡ k = omega arith in
      row_there (f p) 0 k j ts items e lt ∙ (ap (λ i. f p i j) y ∙ ap (λ i. f i k j) z)
  table_there f p (suc q) k j (ts ∷ rows) items e lt =
      let z : p + 1 + q ≡ p + suc q = omega arith in
      table_there f (p + 1) q k j rows items e lt ∙ ap (λ i. f i k j) z

-- ---- what is told of processes in their intervals

abbrev told_in_span : Split → Option Span → Option Told
told_in_span y None = None
told_in_span y (Some i) = Some (Ok (items_of y i))

abbrev told_in : Option Split → ℕ → Option Told
told_in None k = None
told_in (Some y) k = told_in_span y (slice_get y.spans k)

told_row : (ys : List Split) (q k : ℕ) → slice_get (get_or (map told_of_split ys) q []) k ≡ told_in (slice_get ys q) k
told_row [] q k = no_place k ∙ sym (ap (λ o. told_in o k) (no_place q))
told_row (y ∷ ys) zero k = slice_get-map (λ (i : Span). Ok (items_of y i)) y.spans k ∙ by (slice_get y.spans k)
  where
    by : (o : Option Span) → option_map (λ i. Ok (items_of y i)) o ≡ told_in_span y o
    by None = refl
    by (Some i) = refl
told_row (y ∷ ys) (suc q) k = told_row ys q k

-- as many intervals as spans
abbrev count_in : Option Split → ℕ
count_in None = 0
count_in (Some y) = length y.spans

count_row : (ys : List Split) (q : ℕ) → length (get_or (map of_split ys) q []) ≡ count_in (slice_get ys q)
count_row [] q = sym (ap count_in (no_place q))
count_row (y ∷ ys) zero = length-map y.spans of_span
count_row (y ∷ ys) (suc q) = count_row ys q

-- ---- a run

module _ (whole : ItemsAreWhole) (setting : Setting) (h : List ℕ) (v : IsValid setting.program) where
  abbrev told_story : Story
  told_story = story setting h

  abbrev xs : List Split
  xs = splits setting (story setting h)

  abbrev known : Known
  known = known_of_run setting h

  abbrev flows : ℕ → ℕ → ℕ → Flow
  flows = flow_told setting (story setting h)

  abbrev of_run : ItemAt → List ItemAt
  of_run = origins setting (story setting h)

  -- what is told where these are the races
  abbrev rows : List Race → List (List Told)
  rows rs = unless_raced rs (map told_of_split (splits setting (story setting h)))

  abbrev flow_in : List Race → ItemAt → Flow
  flow_in rs a = get_or (get_or (get_or (of_processes (flow_told setting (story setting h)) 0 (rows rs)) a.process []) a.interval []) a.item (Err flow_error.NoEvent)

  abbrev origins_in : List Race → ItemAt → List ItemAt
  origins_in rs a = origins_told (slice_get (get_or (rows rs) a.process []) a.interval) a.item (flow_in rs a)

  module _ (a : ItemAt) where
    abbrev told_here : Option Told
    told_here = slice_get (get_or (map told_of_split (splits setting (story setting h))) a.process []) a.interval

    -- nothing is told, and there are no edges
    nowhere : told_here ≡ None → edges setting (story setting h) a.process a.interval a.item ≡ None → origins_in [] a ≡ of_run a
    nowhere e f = ap (λ o. origins_told o a.item (flow_in [] a)) e ∙ sym (ap (λ (o : Option (List FlowEdge)). places_of (unwrap_or o [])) f)

    places_are : (o : Option (List FlowEdge)) → places_of (result_unwrap_or (ok_or o NoEvent) []) ≡ places_of (unwrap_or o [])
    places_are None = refl
    places_are (Some es) = refl

    in_span : (y : Split) → slice_get xs a.process ≡ Some y → (i : Span) → slice_get y.spans a.interval ≡ Some i → (b : Bool) → nat_lt a.item (length (items_of y i)) ≡ b → origins_in [] a ≡ of_run a
    in_span y e i f true g =
        let z : 0 + a.process ≡ a.process = omega arith in
        let is : told_here ≡ Some (Ok (items_of y i)) = told_row xs a.process a.interval ∙ (ap (λ o. told_in o a.interval) e ∙ ap (told_in_span y) f) in
        let flow : flow_in [] a ≡ flows a.process a.interval a.item =
        table_there (Err flow_error.NoEvent) flows 0 a.process a.interval a.item (map told_of_split xs) (items_of y i) is (ltb-true a.item (length (items_of y i)) g)
        ∙ ap (λ p. flows p a.interval a.item) z in
        ap (λ o. origins_told o a.item (flow_in [] a)) is
        ∙ (ap (λ b. if b then places_of (result_unwrap_or (flow_in [] a) []) else []) g
        ∙ (ap (λ found. places_of (result_unwrap_or found [])) flow ∙ places_are (edges setting (story setting h) a.process a.interval a.item)))
    in_span y e i f false g =
        let is : told_here ≡ Some (Ok (items_of y i)) = told_row xs a.process a.interval ∙ (ap (λ o. told_in o a.interval) e ∙ ap (told_in_span y) f) in
        let count : length (items_of y i) ≡ length i.parts = (whole setting h a.process y v e).whole a.interval i f in
        let over : length (items_of y i) ≤ a.item = ltb-false a.item (length (items_of y i)) g in
        let long : length i.parts ≤ a.item = omega (arith, over, count) in
        let gone : edges setting (story setting h) a.process a.interval a.item ≡ None =
        ap (λ o. edges_in setting.program setting.plan xs a.interval a.item o) e
        ∙ (ap (λ o. edges_if setting.program setting.plan xs y (part_in o a.item)) f ∙ ap (edges_if setting.program setting.plan xs y) (past_end i.parts a.item long)) in
        ap (λ o. origins_told o a.item (flow_in [] a)) is
        ∙ (ap (λ b. if b then places_of (result_unwrap_or (flow_in [] a) []) else []) g ∙ sym (ap (λ (o : Option (List FlowEdge)). places_of (unwrap_or o [])) gone))

    in_split : (y : Split) → slice_get xs a.process ≡ Some y → (o : Option Span) → slice_get y.spans a.interval ≡ o → origins_in [] a ≡ of_run a
    in_split y e (Some i) f = in_span y e i f (nat_lt a.item (length (items_of y i))) refl
    in_split y e None f =
        nowhere (told_row xs a.process a.interval ∙ (ap (λ o. told_in o a.interval) e ∙ ap (told_in_span y) f))
        (ap (λ o. edges_in setting.program setting.plan xs a.interval a.item o) e ∙ ap (λ o. edges_if setting.program setting.plan xs y (part_in o a.item)) f)

    origins_are : origins_in [] a ≡ of_run a
    origins_are = by (slice_get xs a.process) refl
      where
        by : (o : Option Split) → slice_get xs a.process ≡ o → origins_in [] a ≡ of_run a
        by (Some y) e = in_split y e (slice_get y.spans a.interval) refl
        by None e =
            nowhere (told_row xs a.process a.interval ∙ ap (λ o. told_in o a.interval) e)
            (ap (λ o. edges_in setting.program setting.plan xs a.interval a.item o) e)

  -- ---- an item that is told

  -- nothing is told where there is a race
  no_race : (rs : List Race) (q k : ℕ) (t : Told) → slice_get (get_or (rows rs) q []) k ≡ Some t → rs ≡ []
  no_race [] q k t e = refl
  no_race (r ∷ rs) q k t e = absurd (none_or_some (no_place k) e)

  record IsPlaced (q k j : ℕ) : Type 0 where
    split : Split
    span : Span
    part : Part
    split_is : slice_get xs q ≡ Some split
    span_is : slice_get split.spans k ≡ Some span
    part_is : slice_get span.parts j ≡ Some part

  placed : (q k j : ℕ) (items : List Item) → slice_get (get_or (map told_of_split xs) q []) k ≡ Some (Ok items) → j < length items → IsPlaced q k j
  placed q k j items e lt = by (slice_get xs q) refl (sym (told_row xs q k) ∙ e)
    where
      in_place : (y : Split) → slice_get xs q ≡ Some y → (i : Span) → slice_get y.spans k ≡ Some i → items_of y i ≡ items → IsPlaced q k j
      in_place y f i g is =
          let count : length (items_of y i) ≡ length i.parts = (whole setting h q y v f).whole k i g in
          let same : length (items_of y i) ≡ length items = ap length is in
          let there = got i.parts j (omega (arith, lt, count, same)) in
          record { split = y; span = i; part = there.0; split_is = f; span_is = g; part_is = there.1 }

      same_items : (as' bs : List Item) → ◌≡◌ {A = Option Told} (Some (Ok as')) (Some (Ok bs)) → as' ≡ bs
      same_items as' bs f = cc

      in_row : (y : Split) → slice_get xs q ≡ Some y → (o : Option Span) → slice_get y.spans k ≡ o → told_in_span y o ≡ Some (Ok items) → IsPlaced q k j
      in_row y f None g m = absurd (cc)
      in_row y f (Some i) g m = in_place y f i g (same_items (items_of y i) items m)

      by : (o : Option Split) → slice_get xs q ≡ o → told_in o k ≡ Some (Ok items) → IsPlaced q k j
      by None f m = absurd (cc)
      by (Some y) f m = in_row y f (slice_get y.spans k) refl m

  -- ---- what is asked, where nothing is refused

  there_in : (y : Split) (q k j : ℕ) → slice_get xs q ≡ Some y → (o : Option Span) → slice_get y.spans k ≡ o → k < length y.spans
      → event_refusal (told_in_span y o) j ≡ None → (items : List Item) × (told_in_span y o ≡ Some (Ok items)) × (j < length items)
  there_in y q k j e None f lt m = absurd (let there = got y.spans k lt in none_or_some f there.1)
  there_in y q k j e (Some i) f lt m = (items_of y i, refl, short (nat_lt j (length (items_of y i))) refl m)
    where
      short : (b : Bool) → nat_lt j (length (items_of y i)) ≡ b → (if b then None else Some no_event) ≡ None → j < length (items_of y i)
      short true g m = ltb-true j (length (items_of y i)) g
      short false g m = absurd (cc)

  within : (q k j : ℕ) → k < length (get_or (map of_split xs) q []) → event_refusal (slice_get (get_or (map told_of_split xs) q []) k) j ≡ None
      → (items : List Item) × (slice_get (get_or (map told_of_split xs) q []) k ≡ Some (Ok items)) × (j < length items)
  within q k j lt m = by (slice_get xs q) refl
    where
      by : (o : Option Split) → slice_get xs q ≡ o → (items : List Item) × (slice_get (get_or (map told_of_split xs) q []) k ≡ Some (Ok items)) × (j < length items)
      by None e = absurd (let none : length (get_or (map of_split xs) q []) ≡ 0 = count_row xs q ∙ ap count_in e in omega (arith, lt, none))
      by (Some y) e =
          let is : slice_get (get_or (map told_of_split xs) q []) k ≡ told_in_span y (slice_get y.spans k) = told_row xs q k ∙ ap (λ o. told_in o k) e in
          let count : length (get_or (map of_split xs) q []) ≡ length y.spans = count_row xs q ∙ ap count_in e in
          let there = there_in y q k j e (slice_get y.spans k) refl (omega (arith, lt, count)) (sym (ap (λ o. event_refusal o j) is) ∙ m) in
          (there.0, is ∙ there.1, there.2)

  -- by the refusals one after another
  asked_there : (rs : List Race) (q k j : ℕ)
      → option_or (races_refusal rs) (process_refusal (Some q) (λ p. block_refusal known p k (event_refusal (slice_get (get_or (rows rs) p []) k) j))) ≡ None
      → (items : List Item) × (slice_get (get_or (rows rs) q []) k ≡ Some (Ok items)) × (j < length items)
  asked_there (r ∷ rs) q k j m = absurd (cc)
  asked_there [] q k j m = by (nat_lt k (length (get_or known.intervals q []))) refl m
    where
      by : (b : Bool) → nat_lt k (length (get_or known.intervals q [])) ≡ b → (if b then event_refusal (slice_get (get_or (rows []) q []) k) j else Some (codes "? block\n")) ≡ None
          → (items : List Item) × (slice_get (get_or (rows []) q []) k ≡ Some (Ok items)) × (j < length items)
      by true e f = within q k j (ltb-true k (length (get_or known.intervals q [])) e) f
      by false e f = absurd (cc)

  answer_is : (a : ItemAsked) (schedule text : List ℕ) → IsSliceAnswer known a schedule text → IsOfRun setting h (Slice a) schedule text
  answer_is a schedule text (no_run, (q, named, t)) = λ m.
      let there : (items : List Item) × (told_at known q a.interval ≡ Some (Ok items)) × (a.item < length items) =
      asked_there (races_among (edges_of_story setting.program (story setting h))) q a.interval a.item
      (sym (ap (λ o. option_or (races_refusal known.races) (process_refusal o (λ p. block_refusal known p a.interval (event_refusal (told_at known p a.interval) a.item)))) named) ∙ m) in
      let free : races_among (edges_of_story setting.program (story setting h)) ≡ [] = no_race (races_among (edges_of_story setting.program (story setting h))) q a.interval (Ok there.0) there.1 in
      let of_edges : IsReach of_run (at q a.interval a.item) t.slice =
      reach_as (origins_of known) of_run (at q a.interval a.item) t.slice t.is_slice
      (λ r m. ap (λ rs. origins_in rs (item_of r)) free ∙ origins_are (item_of r)) in
      (q, named, (t.slice, of_edges, t.is))

  -- ---- the lines of the slice that is computed

  module _ (reaches : ReachesAreSlices) (one : SlicesAreOne) where
    text_is : (q k j : ℕ) (text : List ℕ) (items : List Item) → told_at known q k ≡ Some (Ok items) → j < length items → IsSliceText known q k j text → text ≡ lines_of_reach setting h q k j
    text_is q k j text items told lt t =
        let free : races_among (edges_of_story setting.program (story setting h)) ≡ [] = no_race (races_among (edges_of_story setting.program (story setting h))) q k (Ok items) told in
        let i : IsPlaced q k j = placed q k j items (sym (ap (λ rs. slice_get (get_or (rows rs) q []) k) free) ∙ told) lt in
        let run : IsReach of_run (at q k j) (reach setting (story setting h) q k j) =
        reaches setting (story setting h) q k j i.split i.span i.part i.split_is i.span_is i.part_is in
        let told : IsReach (origins_of known) (at q k j) (reach setting (story setting h) q k j) =
        reach_as of_run (origins_of known) (at q k j) (reach setting (story setting h) q k j) run
        (λ r m. sym (ap (λ rs. origins_in rs (item_of r)) free ∙ origins_are (item_of r))) in
        let same : t.slice ≡ reach setting (story setting h) q k j =
        one (origins_of known) (at q k j) t.slice (reach setting (story setting h) q k j) t.is_slice told in
        t.is ∙ ap (λ (ss : List Reached). flat_map (reached_line setting.program) ss) same

pub slice_texts_of_runs : ItemsAreWhole → ReachesAreSlices → SlicesAreOne → SliceTextsAreOfRuns
slice_texts_of_runs whole reaches one setting h q k j text v items told lt t =
    text_is whole setting h v reaches one q k j text items told lt t

pub slices_of_runs : ItemsAreWhole → SlicesAreOfRuns
slices_of_runs whole setting h a schedule text v t = answer_is whole setting h v a schedule text t
