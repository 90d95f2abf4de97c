-- The whole trace of a recording, unless there are races.
use Rattle.std.specs.Option.{unwrap_or}
use Rattle.ppd_session.specs.Texts.{races_refusal}
use Rattle.std.specs.Prelude.{IfErr, IfOk, Vec, ◌==◌}
use Rattle.std.proofs.Common.{◌≡◌, ℕ, List, [], ◌∷◌, true, false, arith, Some, None, Result, Ok, Err, length, refl, ap, sym, ◌∙◌, subst}
use Rattle.std.proofs.lemmas.Bool.{eqb-true}
use Rattle.ppd_codec.specs.declared.recording.Recording.{Recording}
use Rattle.ppd_codec_runs.specs.Recordings.{known_of}
use Rattle.ppd_model.specs.declared.graph.Race.{Race}
use Rattle.ppd_session.specs.declared.reply.SessionError.{SessionError}
use Rattle.ppd_session.specs.declared.reply.SessionError.TheVariants.{Diverged, Sets, Memory}
use Rattle.ppd_top.specs.Queries.{Gives}
use Rattle.ppd_top.specs.Queries.IsWritten.{refuses, answers, fails}
use Rattle.ppd_top_requests.specs.Questions.Query.{Whole}
use Rattle.ppd_top.specs.Replies.{IsError, IsTextReply, IsWholeReply}
use Rattle.ppd_top.proofs.Replied.{races_refuse}

module _ (r : Recording) (workers : ℕ) (rs : List Race) (are : rs ≡ (known_of r).races) where
  not_raced : (length rs == 0) ≡ true → races_refusal (known_of r).races ≡ None
  not_raced none = ap races_refusal (sym are) ∙ by rs none
    where
      by : (xs : List Race) → (length xs == 0) ≡ true → races_refusal xs ≡ None
      by [] h = refl
      by (x ∷ xs) h = let zero : length (x ∷ xs) ≡ 0 = eqb-true (length (x ∷ xs)) 0 h in absurd (omega (arith, zero))

  pub whole_raced : {A : Type 0} → (length rs == 0) ≡ false → (res : Result (Vec ℕ A) SessionError) → IfOk res (λ t. t.items ≡ unwrap_or (races_refusal rs) []) → IfErr res (λ e. e ≡ Memory) → IsTextReply r (Whole workers) res
  whole_raced some (Ok text) h m =
      let line : races_refusal (known_of r).races ≡ Some text.items =
      ap races_refusal (sym are) ∙ (races_refuse rs some ∙ ap Some (sym h)) in
      refuses text.items line
  whole_raced some (Err e) h m = subst (λ (s : SessionError). IsError (Gives r (Whole workers)) r.program s) (sym m) tt

  pub whole_told : {A : Type 0} → (length rs == 0) ≡ true → (res : Result (Vec ℕ A) SessionError) → IsWholeReply r res → IsTextReply r (Whole workers) res
  whole_told none (Ok text) h = answers [] text.items (not_raced none) h
  whole_told none (Err (Diverged failure)) h = fails (Diverged failure) (not_raced none) h
  whole_told none (Err (Sets failure)) h = absurd h
  whole_told none (Err Memory) h = tt
