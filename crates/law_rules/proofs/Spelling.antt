-- The bytes of a recording, as its form gives them.
use Rattle.std.proofs.Common.{◌≡◌, ℕ, List, [], ◌∷◌, ◌++◌, length, refl, ap, ◌∙◌}
use Rattle.std.specs.Int.{to_be_bytes, w16, w32}
use Rattle.std.specs.List.{flat_map}
use Rattle.ppd_model.specs.declared.entry.Entry.{Entry}
use Rattle.ppd_model.specs.declared.entry.Entry.TheVariants.{Prelog, Unit, Sync, Postlog, End}
use Rattle.ppd_ast.specs.declared.program.Program.{Program}
use Rattle.ppd_codec.specs.Format.{an_entry, log}
use Rattle.ppd_codec.specs.Recordings.{facts_of}
use Rattle.law_rules.specs.Bytes.{RecordingsAreSpelledSo, entry_bytes, log_bytes}

same_each : {A : Type 0} (f g : A → List ℕ) → ((x : A) → f x ≡ g x) → (xs : List A) → flat_map f xs ≡ flat_map g xs
same_each f g same [] = refl
same_each f g same (x ∷ xs) = ap (λ b. b ++ flat_map f xs) (same x) ∙ ap (λ b. g x ++ b) (same_each f g same xs)

entry_is : (p : Program) (e : Entry) → (an_entry (facts_of p)).bytes e ≡ entry_bytes e
entry_is p (Prelog b vs) = refl
entry_is p (Unit u vs) = refl
entry_is p (Sync k o n v r w) = refl
entry_is p (Postlog b vs) = refl
entry_is p (End s n r w) = refl

log_is : (p : Program) (es : List Entry) → (log (facts_of p)).bytes es ≡ log_bytes es
log_is p es = ap (λ b. to_be_bytes w32 (length es) ++ b) (same_each (an_entry (facts_of p)).bytes entry_bytes (entry_is p) es)

pub spelled_so : RecordingsAreSpelledSo
spelled_so p s h logs =
    ap (λ b. 80 ∷ 80 ∷ 68 ∷ 82 ∷ (facts_of p).version ∷ to_be_bytes w32 h.budget ++ to_be_bytes w16 h.policy.leaf
    ++ to_be_bytes w16 h.policy.loops ++ to_be_bytes w32 (length s) ++ s ++ length logs.lists ∷ b)
    (same_each (log (facts_of p)).bytes log_bytes (log_is p) logs.lists)
