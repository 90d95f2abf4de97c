-- What is answered of an item of a recording with or without races.
use Rattle.ppd_model.specs.Setting.{Setting, setting_of}
use Rattle.law_clean.specs.Answers.{CleanOr, is_reached}
use Rattle.law_clean.specs.Cuts.{cut_logs}
use Rattle.law_clean.specs.Pasts.{first_raced}
use Rattle.law_clean.specs.Search.{clean_by, last_wanted}
use Rattle.ppd_ast.specs.declared.plan.Plan.{Plan}
use Rattle.ppd_ast.specs.declared.program.Program.{Program}
use Rattle.ppd_clean.specs.Answers.{IsCleanBy, IsFound, IsOrdered}
use Rattle.ppd_clean.specs.declared.clean.Clean.{Clean as GivenClean}
use Rattle.ppd_clean.specs.declared.clean_error.CleanError.{CleanError}
use Rattle.ppd_codec.specs.declared.recording.Recording.{Recording}
use Rattle.ppd_codec_runs.specs.Recordings.{known_of, recorded_setting}
use Rattle.ppd_model.specs.declared.entry.Logs.{Logs}
use Rattle.ppd_graph.specs.Ends.{first_edge}
use Rattle.ppd_flow_past.specs.SeenBy.{failed_at}
use Rattle.ppd_flow_past.specs.declared.past.Past.{Past}
use Rattle.ppd_graph.specs.Refusals.{AreOrdered}
use Rattle.ppd_model.proofs.Tested.{none_before_itself}
use Rattle.ppd_model.specs.HappenedBefore.{Before}
use Rattle.ppd_model.specs.RecordedSets.{record_in}
use Rattle.ppd_model.specs.declared.graph.Race.{Race}
use Rattle.ppd_race.specs.Races.{edges_of_logs, races_among}
use Rattle.ppd_session.specs.Known.{known_with}
use Rattle.ppd_session.specs.Questions.{process_named}
use Rattle.ppd_session.specs.Sessions.{known_by}
use Rattle.ppd_session.specs.Texts.{no_process}
use Rattle.ppd_session.specs.declared.reply.SessionError.{SessionError}
use Rattle.ppd_session.specs.declared.reply.SessionError.TheVariants.{Diverged, Memory, Sets}
use Rattle.ppd_top.proofs.QueryWords.{process_refusal}
use Rattle.ppd_top.specs.Queries.{Gives, block_refusal, clean_of, clean_text, refusal}
use Rattle.ppd_top_requests.specs.Questions.{ItemAsked}
use Rattle.ppd_top.specs.Queries.IsWritten.{answers, fails, refuses}
use Rattle.ppd_top_requests.specs.Questions.Query.{Clean}
use Rattle.ppd_top.specs.Replies.{IsCleanItem, IsError, IsFoundClean, IsTextReply}
use Rattle.std.proofs.Common.{Bool, Err, List, None, Ok, Result, Some, [], ap, length, refl, subst, sym, true, ℕ, ◌∙◌, ◌≡◌}
use Rattle.std.specs.Prelude.{IfErr, IfOk, Vec, codes, false, get_or, if◌then◌else◌, nat_lt}

-- ---- of a past with the parts of a recording

abbrev pub Fails : Setting → Logs → List Race → (q k j p n : ℕ) → Type 0
Fails setting logs races q k j p n =
    (is_reached (first_edge (get_or logs.lists q []) k) (first_raced setting.program (record_in logs) races (get_or logs.lists q []) q k) ≡ false)
    × ((m : ℕ) × (failed_at setting (get_or (cut_logs (last_wanted setting.program (record_in logs) races q (first_raced setting.program (record_in logs) races (get_or logs.lists q []) q k)) logs).lists p []) m ≡ Some n))

abbrev pub Found : Setting → Logs → List Race → (q k j : ℕ) → Result GivenClean CleanError → Type 0
Found setting logs races q k j res = IsFound (Fails setting logs races q k j) (clean_by setting logs races q k j) res

module _ (r : Recording) (past : Past) (program : past.program.now ≡ r.program) (plan : past.plan.now ≡ r.plan) (logs : past.logs.now ≡ r.logs) (budget : past.budget ≡ r.header.budget) where
  pub ordered : AreOrdered r.program r.logs → IsOrdered past
  ordered o a b =
      none_before_itself r.program (record_in r.logs) o.acyclic a (subst (λ (l : Logs). Before r.program (record_in l) a a) logs (subst (λ (p : Program). Before p (record_in past.logs.now) a a) program b))

  pub races_are : (races : List Race) → races ≡ (known_of r).races → races ≡ races_among (edges_of_logs past.program.now past.logs.now)
  races_are races e = e ∙ (ap (λ (p : Program). races_among (edges_of_logs p r.logs)) (sym program) ∙ ap (λ (l : Logs). races_among (edges_of_logs past.program.now l)) (sym logs))

  pub found_as : (races : List Race) → races ≡ (known_of r).races → (q k j : ℕ) (res : Result GivenClean CleanError) → IsCleanBy past races q k j res → IsFoundClean r q k j res
  found_as races e q k j res h =
      let a : Found (setting_of r.program past.plan.now past.budget) past.logs.now races q k j res = subst (λ (p : Program). Found (setting_of p past.plan.now past.budget) past.logs.now races q k j res) program h in
      let b : Found (setting_of r.program r.plan past.budget) past.logs.now races q k j res = subst (λ (p : Plan). Found (setting_of r.program p past.budget) past.logs.now races q k j res) plan a in
      let c : Found (recorded_setting r) past.logs.now races q k j res = subst (λ (n : ℕ). Found (setting_of r.program r.plan n) past.logs.now races q k j res) budget b in
      let d : Found (recorded_setting r) r.logs races q k j res = subst (λ (l : Logs). Found (recorded_setting r) l races q k j res) logs c in
      subst (λ (rs : List Race). Found (recorded_setting r) r.logs rs q k j res) e d

  -- the intervals of a process are the same
  pub there_as : (q n : ℕ) → nat_lt n (length (get_or (known_by past []).intervals q [])) ≡ nat_lt n (length (get_or (known_of r).intervals q []))
  there_as q n = ap (λ (l : Logs). nat_lt n (length (get_or (known_with (recorded_setting r) l []).intervals q []))) logs

-- ---- an interval that is there

module _ (r : Recording) (q k j : ℕ) where
  pub item_told : {A : Type 0} (x : CleanOr) (text : List ℕ) → clean_of r q k j ≡ x → clean_text r.program r.plan j x ≡ Some text → (res : Result (Vec ℕ A) SessionError) → IfOk res (λ t. t.items ≡ text) → IfErr res (λ e. e ≡ Memory) → IsCleanItem r q k j res
  item_told x text is told (Ok t) h m = ap (clean_text r.program r.plan j) is ∙ (told ∙ ap Some (sym h))
  item_told {A = A} x text is told (Err e) h m = by e m
    where
      by : (e : SessionError) → e ≡ Memory → IsCleanItem {A = A} r q k j (Err e)
      by e is = subst (λ (s : SessionError). IsCleanItem {A = A} r q k j (Err s)) (sym is) tt

-- ---- what is asked

module _ (r : Recording) (a : ItemAsked) where
  refused_text : {A : Type 0} (line : List ℕ) → refusal (known_of r) (Clean a) ≡ Some line → (res : Result (Vec ℕ A) SessionError) → IfOk res (λ t. t.items ≡ line) → IfErr res (λ e. e ≡ Memory) → IsTextReply r (Clean a) res
  refused_text line is (Ok t) h m = refuses t.items (is ∙ ap Some (sym h))
  refused_text line is (Err e) h m = subst (λ (s : SessionError). IsError (Gives r (Clean a)) r.program s) (sym m) tt

  pub no_process_told : {A : Type 0} → process_named r.program a.process ≡ None → (res : Result (Vec ℕ A) SessionError) → IfOk res (λ t. t.items ≡ no_process) → IfErr res (λ e. e ≡ Memory) → IsTextReply r (Clean a) res
  no_process_told none = refused_text no_process (ap (λ o. process_refusal o (λ q. block_refusal (known_of r) q a.interval None)) none)

  module _ (q : ℕ) (named : process_named r.program a.process ≡ Some q) where
    at_process : refusal (known_of r) (Clean a) ≡ block_refusal (known_of r) q a.interval None
    at_process = ap (λ o. process_refusal o (λ q. block_refusal (known_of r) q a.interval None)) named

    pub no_block_told : {A : Type 0} → nat_lt a.interval (length (get_or (known_of r).intervals q [])) ≡ false → (res : Result (Vec ℕ A) SessionError) → IfOk res (λ t. t.items ≡ codes "? block\n") → IfErr res (λ e. e ≡ Memory) → IsTextReply r (Clean a) res
    no_block_told gone = refused_text (codes "? block\n") (at_process ∙ ap (λ (b : Bool). if b then None else Some (codes "? block\n")) gone)

    pub item_reply : {A : Type 0} → nat_lt a.interval (length (get_or (known_of r).intervals q [])) ≡ true → (res : Result (Vec ℕ A) SessionError) → IsCleanItem r q a.interval a.item res → IsTextReply r (Clean a) res
    item_reply there (Ok t) h = answers [] t.items (at_process ∙ ap (λ (b : Bool). if b then None else Some (codes "? block\n")) there) (refl, (q, named, h))
    item_reply there (Err (Diverged failure)) h = fails (Diverged failure) (at_process ∙ ap (λ (b : Bool). if b then None else Some (codes "? block\n")) there) (q, named, h)
    item_reply there (Err (Sets failure)) h = fails (Sets failure) (at_process ∙ ap (λ (b : Bool). if b then None else Some (codes "? block\n")) there) (q, named, h)
    item_reply there (Err Memory) h = tt
