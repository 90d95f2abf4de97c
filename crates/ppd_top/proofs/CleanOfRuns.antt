-- What is answered of an item of the recording of a run, with races or without, is that of the run.
use Rattle.law_steps.specs.Policies.{setting_by}
use Rattle.ppd_model.specs.Setting.{setting_of}
use Rattle.std.specs.Prelude.{codes, nat_lt, slice_get, if◌then◌else◌}
use Rattle.std.proofs.Common.{◌≡◌, ℕ, zero, suc, ◌<◌, Bool, true, false, List, [], ◌∷◌, Option, Some, None, Result, Err, length, map, get_or, refl, ap, sym, ◌∙◌, subst, arith}
use Rattle.std.proofs.lemmas.Bool.{lt-ltb, ltb-true}
use Rattle.std.proofs.lemmas.List.{length-map}
use Rattle.law_clean.specs.Answers.{answer_of}
use Rattle.law_clean.specs.Laws.{AnswersAreOfRuns as CleansAreOfRuns}
use Rattle.law_clean.specs.Search.{clean_by}
use Rattle.ppd_ast.specs.Valid.{IsValid}
use Rattle.ppd_ast.specs.declared.plan.Plan.{Plan}
use Rattle.ppd_ast.specs.declared.program.Program.{Program}
use Rattle.ppd_blocks.specs.Blocks.{plan_of}
use Rattle.ppd_clean.proofs.OfRuns.{of_plan}
use Rattle.ppd_clean.specs.Answers.{IsAnswer}
use Rattle.ppd_clean.specs.declared.clean.Clean.{Clean as GivenClean}
use Rattle.ppd_clean.specs.declared.clean_error.CleanError.{CleanError}
use Rattle.ppd_clean.specs.declared.clean_error.CleanError.TheVariants as clean_error
use Rattle.ppd_codec.specs.declared.recording.Header.{Header}
use Rattle.ppd_codec.specs.declared.recording.Recording.{Recording}
use Rattle.ppd_codec_runs.specs.Recordings.{known_of}
use Rattle.ppd_model.specs.declared.entry.Logs.{Logs}
use Rattle.ppd_model.specs.Intervals.{Span, Split, splits}
use Rattle.ppd_model.specs.Logs.{closed_logs}
use Rattle.ppd_model.specs.Races.{races}
use Rattle.ppd_model.specs.Schedule.{IsWhole}
use Rattle.ppd_model.specs.Story.{story}
use Rattle.ppd_model.specs.declared.graph.Race.{Race}
use Rattle.ppd_session.specs.Known.{Known, known_of_run}
use Rattle.ppd_session.specs.Questions.{process_named}
use Rattle.ppd_session.specs.declared.reply.SessionError.{SessionError}
use Rattle.ppd_session.specs.declared.reply.SessionError.TheVariants.{Diverged, Sets, Memory}
use Rattle.ppd_top.specs.OfRuns.{IsOfRun}
use Rattle.ppd_top.specs.Queries.{Gives, IsCleanFailure, block_refusal, clean_of, clean_text, refusal}
use Rattle.ppd_top_requests.specs.Questions.{ItemAsked}
use Rattle.ppd_top.specs.Queries.IsWritten.{refuses, answers}
use Rattle.ppd_top_requests.specs.Questions.Query.{Clean}
use Rattle.ppd_top.specs.Replies.{IsFoundClean}
use Rattle.ppd_top.proofs.CleanTold.{Found}
use Rattle.ppd_session.proofs.KnownWords.{of_split}
use Rattle.ppd_top.proofs.QueryWords.{process_refusal}

same_number : {p q : ℕ} → ◌≡◌ {A = Option ℕ} (Some p) (Some q) → p ≡ q
same_number e = cc

none_or_some : {X : Type 0} {o : Option X} {x : X} → o ≡ None → o ≡ Some x → ⊥
none_or_some a b = cc (a, b)

got : {X : Type 0} (xs : List X) (j : ℕ) → j < length xs → (x : X) × (slice_get xs j ≡ Some x)
got [] j lt = absurd (omega (arith, lt))
got (x ∷ xs) zero lt = (x, refl)
got (x ∷ xs) (suc j) lt = got xs j (omega (arith, lt))

within : {X : Type 0} (xs : List X) (j : ℕ) (x : X) → slice_get xs j ≡ Some x → j < length xs
within [] zero x e = absurd (cc)
within [] (suc j) x e = absurd (cc)
within (y ∷ xs) zero x e = omega arith
within (y ∷ xs) (suc j) x e = let le = within xs j x e in omega (arith, le)

-- an interval that is told is there, and the other way round
record IsThere (ys : List Split) (q k : ℕ) : Type 0 where
  split : Split
  span : Span
  split_is : slice_get ys q ≡ Some split
  span_is : slice_get split.spans k ≡ Some span

there : (ys : List Split) (q k : ℕ) → k < length (get_or (map of_split ys) q []) → IsThere ys q k
there [] zero k lt = absurd (omega (arith, lt))
there [] (suc q) k lt = absurd (omega (arith, lt))
there (y ∷ ys) zero k lt =
    let count : length (of_split y) ≡ length y.spans = length-map y.spans _ in
    let found = got y.spans k (omega (arith, lt, count)) in
    record { split = y; span = found.0; split_is = refl; span_is = found.1 }
there (y ∷ ys) (suc q) k lt =
    let t = there ys q k lt in record { split = t.split; span = t.span; split_is = t.split_is; span_is = t.span_is }

told : (ys : List Split) (q k : ℕ) (x : Split) (i : Span) → slice_get ys q ≡ Some x → slice_get x.spans k ≡ Some i → k < length (get_or (map of_split ys) q [])
told [] zero k x i e f = absurd (cc)
told [] (suc q) k x i e f = absurd (cc)
told (y ∷ ys) zero k x i e f =
    let is : y ≡ x = cc in
    let count : length (of_split y) ≡ length y.spans = length-map y.spans _ in
    let lt : k < length y.spans = within y.spans k i (ap (λ (z : Split). slice_get z.spans k) is ∙ f) in
    omega (arith, lt, count)
told (y ∷ ys) (suc q) k x i e f = told ys q k x i e f

module _ (r : Recording) (header : Header) (program : Program) (h : List ℕ)
    (three : (logs : Logs) → logs ≡ closed_logs (setting_by program header.policy header.budget) h → (r.program ≡ program) × (r.plan ≡ plan_of program header.policy) × (r.header ≡ header) × (r.logs ≡ logs))
    (known : known_of r ≡ known_of_run (setting_by program header.policy header.budget) h) (valid : IsValid program) (whole : IsWhole (setting_by program header.policy header.budget) h) (answers_are : CleansAreOfRuns) where
  plan : Plan
  plan = plan_of program header.policy

  abbrev logs : Logs
  logs = closed_logs (setting_by program header.policy header.budget) h

  parts : (r.program ≡ program) × (r.plan ≡ plan_of program header.policy) × (r.header ≡ header) × (r.logs ≡ closed_logs (setting_by program header.policy header.budget) h)
  parts = three (closed_logs (setting_by program header.policy header.budget) h) refl

  races_are : (known_of r).races ≡ races (setting_by program header.policy header.budget) h
  races_are = ap (λ (x : Known). x.races) known

  module _ (q k j : ℕ) where
    clean_is : clean_of r q k j ≡ clean_by (setting_by program header.policy header.budget) (closed_logs (setting_by program header.policy header.budget) h) (races (setting_by program header.policy header.budget) h) q k j
    clean_is =
        ap (λ (p : Program). clean_by (setting_of p r.plan r.header.budget) r.logs (known_of r).races q k j) parts.0
        ∙ (ap (λ (p : Plan). clean_by (setting_of program p r.header.budget) r.logs (known_of r).races q k j) parts.1
        ∙ (ap (λ (d : Header). clean_by (setting_of program (plan_of program header.policy) d.budget) r.logs (known_of r).races q k j) parts.2
        ∙ (ap (λ (l : Logs). clean_by (setting_by program header.policy header.budget) l (known_of r).races q k j) parts.3
        ∙ ap (λ (rs : List Race). clean_by (setting_by program header.policy header.budget) (closed_logs (setting_by program header.policy header.budget) h) rs q k j) races_are)))

    module _ (x : Split) (i : Span) (at : slice_get (splits (setting_by program header.policy header.budget) (story (setting_by program header.policy header.budget) h)) q ≡ Some x) (at_k : slice_get x.spans k ≡ Some i) where
      answer_is : clean_of r q k j ≡ answer_of (setting_by program header.policy header.budget) h q k j
      answer_is = clean_is ∙ answers_are program header.policy header.budget h q k j x i valid whole at at_k

      -- no replay fails
      answered : (res : Result GivenClean CleanError) → IsFoundClean r q k j res → IsAnswer (answer_of (setting_by program header.policy header.budget) h q k j) res
      answered res f =
          let a : Found (setting_of program r.plan r.header.budget) r.logs (known_of r).races q k j res = subst (λ (p : Program). Found (setting_of p r.plan r.header.budget) r.logs (known_of r).races q k j res) parts.0 f in
          let b : Found (setting_of program (plan_of program header.policy) r.header.budget) r.logs (known_of r).races q k j res = subst (λ (p : Plan). Found (setting_of program p r.header.budget) r.logs (known_of r).races q k j res) parts.1 a in
          let c : Found (setting_by program header.policy header.budget) r.logs (known_of r).races q k j res = subst (λ (d : Header). Found (setting_of program (plan_of program header.policy) d.budget) r.logs (known_of r).races q k j res) parts.2 b in
          let d : Found (setting_by program header.policy header.budget) (closed_logs (setting_by program header.policy header.budget) h) (known_of r).races q k j res = subst (λ (l : Logs). Found (setting_by program header.policy header.budget) l (known_of r).races q k j res) parts.3 c in
          let e : Found (setting_by program header.policy header.budget) (closed_logs (setting_by program header.policy header.budget) h) (races (setting_by program header.policy header.budget) h) q k j res = subst (λ (rs : List Race). Found (setting_by program header.policy header.budget) (closed_logs (setting_by program header.policy header.budget) h) rs q k j res) races_are d in
          of_plan program header.budget h q k j answers_are header.policy valid x i at_k res (plan_of program header.policy) refl whole at e

  module _ (a : ItemAsked) where
    abbrev refused : Option ℕ → Option (List ℕ)
    refused o = process_refusal o (λ p. block_refusal (known_of r) p a.interval None)

    by_block : (q : ℕ) (b : Bool) → nat_lt a.interval (length (get_or (known_of r).intervals q [])) ≡ b → block_refusal (known_of r) q a.interval None ≡ None → a.interval < length (get_or (known_of r).intervals q [])
    by_block q true e m = ltb-true a.interval (length (get_or (known_of r).intervals q [])) e
    by_block q false e m = absurd (none_or_some m (ap (λ (b : Bool). if b then None else Some (codes "? block\n")) e))

    -- the interval of an item that is not refused is there
    placed : (q : ℕ) → process_named r.program a.process ≡ Some q → refusal (known_of r) (Clean a) ≡ None → IsThere (splits (setting_by program header.policy header.budget) (story (setting_by program header.policy header.budget) h)) q a.interval
    placed q named m =
        let lt : a.interval < length (get_or (known_of r).intervals q []) = by_block q (nat_lt a.interval (length (get_or (known_of r).intervals q []))) refl (sym (ap refused named) ∙ m) in
        there (splits (setting_by program header.policy header.budget) (story (setting_by program header.policy header.budget) h)) q a.interval
        (subst (λ (x : Known). a.interval < length (get_or x.intervals q [])) known lt)

    pub never_fails : (error : SessionError) → refusal (known_of r) (Clean a) ≡ None → IsCleanFailure r a error → ⊥
    never_fails (Diverged failure) m (q, named, d) =
        let t = placed q named m in
        answered q a.interval a.item t.split t.span t.split_is t.span_is (Err (clean_error.Diverged failure.process failure.entry)) d
    never_fails (Sets failure) m (q, named, (c, e)) =
        let t = placed q named m in
        answered q a.interval a.item t.split t.span t.split_is t.span_is (Err (clean_error.Sets failure.process failure.entry c)) e
    never_fails Memory m f = f

    module _ (q : ℕ) (x : Split) (i : Span) (named : process_named program a.process ≡ Some q) (at : slice_get (splits (setting_by program header.policy header.budget) (story (setting_by program header.policy header.budget) h)) q ≡ Some x) (at_k : slice_get x.spans a.interval ≡ Some i) where
      named_here : process_named r.program a.process ≡ Some q
      named_here = ap (λ (p : Program). process_named p a.process) parts.0 ∙ named

      not_refused : refusal (known_of r) (Clean a) ≡ None
      not_refused =
          let lt : a.interval < length (get_or (known_of_run (setting_by program header.policy header.budget) h).intervals q []) = told (splits (setting_by program header.policy header.budget) (story (setting_by program header.policy header.budget) h)) q a.interval x i at at_k in
          let here : nat_lt a.interval (length (get_or (known_of r).intervals q [])) ≡ true = lt-ltb a.interval (length (get_or (known_of r).intervals q [])) (subst (λ (y : Known). a.interval < length (get_or y.intervals q [])) (sym known) lt) in
          ap refused named_here ∙ ap (λ (b : Bool). if b then None else Some (codes "? block\n")) here

      text_is : (schedule text : List ℕ) → Gives r (Clean a) schedule 0 text → clean_text program (plan_of program header.policy) a.item (answer_of (setting_by program header.policy header.budget) h q a.interval a.item) ≡ Some text
      text_is schedule text (refuses line said) = absurd (none_or_some not_refused said)
      text_is schedule text (answers s t none (no_run, (p, name, is))) =
          let same : p ≡ q = same_number (sym name ∙ named_here) in
          let here : clean_text r.program r.plan a.item (clean_of r q a.interval a.item) ≡ Some text = subst (λ (n : ℕ). clean_text r.program r.plan a.item (clean_of r n a.interval a.item) ≡ Some text) same is in
          ap (clean_text program (plan_of program header.policy) a.item) (sym (answer_is q a.interval a.item x i at at_k))
          ∙ (ap (λ (d : Plan). clean_text program d a.item (clean_of r q a.interval a.item)) (sym parts.1)
          ∙ (ap (λ (d : Program). clean_text d r.plan a.item (clean_of r q a.interval a.item)) (sym parts.0) ∙ here))

    pub clean_told : (schedule text : List ℕ) → Gives r (Clean a) schedule 0 text → IsOfRun (setting_by program header.policy header.budget) h (Clean a) schedule text
    clean_told schedule text g = λ q x i named at at_k. text_is q x i named at at_k schedule text g
