-- What an accepted recording determines of its answers.
use Rattle.law_clean.specs.Answers.{CleanOr, is_reached, no_item, unclean, unclean_or, unwritten}
use Rattle.law_clean.specs.Pasts.{left_edge}
use Rattle.law_clean.specs.Search.{by_first, by_item, from_first, with_edges}
use Rattle.law_flow.proofs.MissingWrites.{missing_writes_are_told}
use Rattle.law_flow.specs.Missing.{AreIndexed, IsMissingWrite, write_at}
use Rattle.ppd_codec.specs.declared.recording.Recording.{Recording}
use Rattle.ppd_codec_runs.specs.Recordings.{IsAccepted, known_of, recorded_setting}
use Rattle.ppd_model.specs.declared.entry.At.{At}
use Rattle.ppd_graph.specs.Ends.{first_edge}
use Rattle.ppd_graph.specs.Found.{edges_if, found_edges, item_edges}
use Rattle.ppd_graph.specs.Shared.{Missing, seen_at}
use Rattle.ppd_model.specs.HappenedBefore.{edge}
use Rattle.ppd_model.specs.RecordedSets.{record_in}
use Rattle.ppd_model.specs.declared.flow.FlowEdge.{FlowEdge}
use Rattle.ppd_model.specs.declared.flow.Item.{Item}
use Rattle.ppd_race.specs.Races.{edges_of_logs, races_among}
use Rattle.ppd_session.specs.declared.reply.SessionError.{SessionError}
use Rattle.ppd_session.specs.declared.reply.SessionError.TheVariants.{Diverged, Memory, Sets}
use Rattle.ppd_top.proofs.Firsts.{all_tell, first_told}
use Rattle.ppd_top.proofs.Missing.{failures_missing}
use Rattle.ppd_top.proofs.OfRuns.{no_races}
use Rattle.ppd_top.specs.Determined.{AnswersAreDetermined, FailedAreMissing, GivesBy, IsAnsweredBy, IsCleanBy, IsFailedBy, is_item_raced}
use Rattle.ppd_top.specs.Determined.IsCleanBy.{begins_raced, ends_before, has_edges, is_raced}
use Rattle.ppd_top.specs.Missing.{IsMissingFor}
use Rattle.ppd_session.specs.Known.{seens}
use Rattle.ppd_top.specs.Queries.{Gives, IsAnswer, IsFailure, clean_of, cut_of, first_raced_of, refusal}
use Rattle.ppd_top_requests.specs.Questions.{Query}
use Rattle.ppd_top.specs.Queries.IsWritten.{answers, fails, refuses}
use Rattle.ppd_top_requests.specs.Questions.Query.{Clean, Rerun, Slice, Whole}
use Rattle.std.proofs.Common.{Bool, Err, List, None, Ok, Option, Result, Some, ap, false, inl, inr, refl, subst, sym, true, ℕ, ◌∙◌, ◌≡◌}
use Rattle.std.specs.Prelude.{[], get_or, if◌then◌else◌, nat_le, slice_get}

module _ (r : Recording) (q k j : ℕ) where
  abbrev begun : ℕ
  begun = first_edge (get_or r.logs.lists q []) k

  abbrev item_told : Option Item
  item_told = slice_get (get_or (seen_at (seens (recorded_setting r) (cut_of r q k j)) q).items k []) j

  -- ---- what is found is determined but for the edges

  module _ (indexed : AreIndexed r.program r.plan r.logs) where
    abbrev found_of : Option Item → Option (Result (List FlowEdge) Missing)
    found_of o = (edges_if r.program r.plan r.logs (seens (recorded_setting r) (cut_of r q k j)) q k j o).found

    abbrev with_found : Item → Option (Result (List FlowEdge) Missing) → CleanOr
    with_found t o = with_edges (recorded_setting r) r.logs (record_in r.logs) (races_among (edges_of_logs r.program r.logs)) q k j t o

    module _ (late : is_reached begun (first_raced_of r q k) ≡ false) where
      some_edges : (t : Item) → item_told ≡ Some t → is_item_raced r q k j t ≡ false → (e : Result (List FlowEdge) Missing) → found_of (Some t) ≡ Some e → IsCleanBy r q k j (with_found t (Some e))
      some_edges t at whole (Ok es) f = has_edges late t at whole (inl (es, refl))
      some_edges t at whole (Err m) f = has_edges late t at whole (inr (m, refl, (missing_writes_are_told r.program r.plan r.logs (seens (recorded_setting r) (cut_of r q k j)) indexed).edges q k j m (ap found_of at ∙ f)))

      item_found : (o : Option Item) → item_told ≡ o
          → IsCleanBy r q k j (by_item (recorded_setting r) r.logs (record_in r.logs) (races_among (edges_of_logs r.program r.logs)) q k j (first_raced_of r q k) (seens (recorded_setting r) (cut_of r q k j)) o)
      item_found None at = ends_before late at refl
      item_found (Some t) at = by (is_item_raced r q k j t) refl
        where
          edges : is_item_raced r q k j t ≡ false → IsCleanBy r q k j (with_found t (found_edges r.program r.plan r.logs (seens (recorded_setting r) (cut_of r q k j)) q k j).found)
          edges whole = subst (λ o. IsCleanBy r q k j (with_found t (found_of o))) (sym at) (some_edges t at whole (item_edges r.program r.plan r.logs (seens (recorded_setting r) (cut_of r q k j)) q k j t).found refl)

          by : (b : Bool) → is_item_raced r q k j t ≡ b
              → IsCleanBy r q k j (if b then unclean_or q (first_raced_of r q k) no_item else with_found t (found_edges r.program r.plan r.logs (seens (recorded_setting r) (cut_of r q k j)) q k j).found)
          by true f = is_raced late t at f refl
          by false f = edges f

    abbrev from : Option ℕ → CleanOr
    from o = from_first (recorded_setting r) r.logs (record_in r.logs) (races_among (edges_of_logs r.program r.logs)) q k j o

    abbrev first : Option ℕ → CleanOr
    first o = by_first (recorded_setting r) r.logs (record_in r.logs) (races_among (edges_of_logs r.program r.logs)) q k j o

    replayed : (o : Option ℕ) → first_raced_of r q k ≡ o → is_reached begun (first_raced_of r q k) ≡ false → IsCleanBy r q k j (first o)
    replayed o e late = subst (λ z. IsCleanBy r q k j (first z)) e (item_found late item_told refl)

    determined : (o : Option ℕ) → first_raced_of r q k ≡ o → IsCleanBy r q k j (from o)
    determined None e = replayed None e (ap (is_reached begun) e)
    determined (Some u) e = by (nat_le u begun) refl
      where
        by : (b : Bool) → nat_le u begun ≡ b → IsCleanBy r q k j (if b then unclean (edge q u) else first (Some u))
        by true f = begins_raced (ap (is_reached begun) e ∙ f) (sym (ap (λ o. unclean_or q o no_item) e))
        by false f = replayed (Some u) e (ap (is_reached begun) e ∙ f)

    clean_is : IsCleanBy r q k j (clean_of r q k j)
    clean_is = determined (first_raced_of r q k) refl

  -- ---- a write that is missing

  module _ (m : Missing) where
    no_edge : (o : Option ℕ) → unwritten m ≡ unclean_or q o no_item → ⊥
    no_edge None e = cc e
    no_edge (Some u) e = cc e

    not_reached : (b : Bool) (o : Option ℕ) → unwritten m ≡ (if b then unclean_or q o no_item else no_item) → ⊥
    not_reached true o e = no_edge o e
    not_reached false o e = cc e

    missed : IsCleanBy r q k j (unwritten m) → IsMissingWrite r.logs (seens (recorded_setting r) (cut_of r q k j)) m
    missed (begins_raced late e) = absurd (no_edge (first_raced_of r q k) e)
    missed (ends_before late gone e) = absurd (not_reached (is_reached (left_edge (get_or r.logs.lists q []) k) (first_raced_of r q k)) (first_raced_of r q k) e)
    missed (is_raced late t at f e) = absurd (no_edge (first_raced_of r q k) e)
    missed (has_edges late t at f (inl h)) = absurd (cc h.1)
    missed (has_edges late t at f (inr h)) =
        let e : unwritten m ≡ unwritten h.0 = h.1 in
        let same : m ≡ h.0 = cc e in
        subst (IsMissingWrite r.logs (seens (recorded_setting r) (cut_of r q k j))) (sym same) h.2

-- ---- answers

module _ (bytes : List ℕ) (r : Recording) (accepted : IsAccepted bytes r) where
  told : (query : Query) (schedule text : List ℕ) → refusal (known_of r) query ≡ None → IsAnswer r query schedule text → IsAnsweredBy r (known_of r) query schedule text
  told (Slice a) schedule text none h = h
  told (Whole workers) schedule text none h = (h.0, all_tell r (races_among (edges_of_logs r.program r.logs)) (no_races (races_among (edges_of_logs r.program r.logs)) none) h.1)
  told Rerun schedule text none h = h
  told (Clean a) schedule text none h =
      let q = h.1.0 in (h.0, (q, h.1.1, (clean_of r q a.interval a.item, clean_is r q a.interval a.item accepted.indexed, h.1.2)))

  untold : (query : Query) (error : SessionError) → refusal (known_of r) query ≡ None → IsFailure r query error → IsFailedBy r (known_of r) query error
  untold (Slice a) error none f = f
  untold (Whole workers) (Diverged failure) none f = first_told r (races_among (edges_of_logs r.program r.logs)) (no_races (races_among (edges_of_logs r.program r.logs)) none) workers failure f
  untold (Whole workers) (Sets failure) none f = f
  untold (Whole workers) Memory none f = f
  untold Rerun error none f = f
  untold (Clean a) (Diverged failure) none f = f
  untold (Clean a) (Sets failure) none f = (
    f.0,
    f.1,
    (f.2.0, subst (IsCleanBy r f.0 a.interval a.item) f.2.1 (clean_is r f.0 a.interval a.item accepted.indexed)),
  )
  untold (Clean a) Memory none f = f

  gives : (query : Query) (schedule : List ℕ) (status : ℕ) (text : List ℕ) → Gives r query schedule status text → GivesBy r (known_of r) query schedule status text
  gives query schedule status text (refuses line said) = refuses line said
  gives query schedule status text (answers s t none is) = answers s t none (told query s t none is)
  gives query schedule status text (fails error none f) = fails error none (untold query error none f)

  missing : (query : Query) (at : At) → IsFailedBy r (known_of r) query (Sets at) → IsMissingFor r query at
  missing (Slice a) at f = failures_missing bytes r (Slice a) at accepted f
  missing (Whole workers) at f = f
  missing Rerun at f = f
  missing (Clean a) at f = (f.0, f.1, (f.2.0, missed r f.0 a.interval a.item (write_at at.process at.entry f.2.0) f.2.1))

pub answers_are_determined : AnswersAreDetermined
answers_are_determined bytes r query schedule status text accepted g = gives bytes r accepted query schedule status text g

pub failed_are_missing : FailedAreMissing
failed_are_missing bytes r query at accepted f = missing bytes r accepted query at f
