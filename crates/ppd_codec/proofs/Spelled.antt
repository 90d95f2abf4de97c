-- What lawful three need of their parts, and that what is written is their recording.
use Rattle.std.proofs.Common.{◌≡◌, ℕ, List, [], ◌++◌, ap, ◌∙◌, subst}
use Rattle.ppd_ast.specs.declared.program.Program.{Program}
use Rattle.ppd_check.specs.Read.{IsRead}
use Rattle.ppd_check.proofs.Excluded.{program_unique}
use Rattle.ppd_model.specs.declared.entry.Logs.{Logs}
use Rattle.ppd_codec.specs.declared.recording.Header.{Header}
use Rattle.ppd_codec.specs.Format.{front, logs as logs_form}
use Rattle.ppd_codec.specs.Recordings.{IsLawfulBy, IsRecordingOf, facts_of, front_of}

module _ (p : Program) (s : List ℕ) (h : Header) (ls : Logs) (l : IsLawfulBy p s h ls) where
  -- the program that was read is the one by which the three are lawful
  pub recorded : (q : Program) (v : ℕ) (none first all : List ℕ) → IsRead s q → v ≡ (facts_of q).version → none ≡ [] → first ≡ none ++ front.bytes (front_of v h s) → all ≡ first ++ (logs_form (facts_of q)).bytes ls.lists
      → IsRecordingOf s h ls all
  recorded q v none first all is same empty begins ends =
      let one : p ≡ q = program_unique s p q l.accepted is in
      record {
        program = q;
        lawful = subst (λ (z : Program). IsLawfulBy z s h ls) one l;
        spelling = ends ∙ ap (λ (bs : List ℕ). bs ++ (logs_form (facts_of q)).bytes ls.lists) (begins ∙ ap (λ (bs : List ℕ). bs ++ front.bytes (front_of v h s)) empty ∙ ap (λ (w : ℕ). front.bytes (front_of w h s)) same);
      }
