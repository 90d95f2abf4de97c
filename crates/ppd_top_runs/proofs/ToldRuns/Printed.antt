-- The prints and the processes, one more at a time.
use Rattle.ppd_ast.specs.Lookups.{body_numbered}
use Rattle.ppd_ast.specs.declared.program.Program.{Program}
use Rattle.ppd_model.specs.declared.closed.ProcEnd.{ProcEnd}
use Rattle.ppd_top_runs.proofs.RunWords.{end_texts}
use Rattle.ppd_top_runs.specs.Ends.{end_text, print_text}
use Rattle.std.proofs.Common.{List, [], ap, append-nil, append_assoc, arith, get_or, length, refl, sym, take, ℕ, ℤ, ◌++◌, ◌+◌, ◌<◌, ◌∙◌, ◌∷◌, ◌≡◌}
use Rattle.std.proofs.lemmas.List.{length-take-le, take_more}
use Rattle.std.specs.List.{flat_map}

prints-more : (name : List ℕ) (vs : List ℤ) (v : ℤ) → flat_map (print_text name) (vs ++ v ∷ []) ≡ flat_map (print_text name) vs ++ print_text name v
prints-more name [] v = append-nil (print_text name v)
prints-more name (w ∷ vs) v =
    ap (λ (t : List ℕ). print_text name w ++ t) (prints-more name vs v)
    ∙ sym (append_assoc (print_text name w) (flat_map (print_text name) vs) (print_text name v))

pub prints-taken : (name : List ℕ) (vs : List ℤ) (i : ℕ) (d : ℤ) → i < length vs → flat_map (print_text name) (take (i + 1) vs) ≡ flat_map (print_text name) (take i vs) ++ print_text name (get_or vs i d)
prints-taken name vs i d lt = ap (flat_map (print_text name)) (take_more vs i d lt) ∙ prints-more name (take i vs) (get_or vs i d)

pub appended : (old before now more text new : List ℕ) → now ≡ old ++ before → text ≡ before ++ more → new ≡ now ++ more → new ≡ old ++ text
appended old before now more text new a c b = b ∙ (ap (λ (w : List ℕ). w ++ more) a ∙ (append_assoc old before more ∙ ap (λ (w : List ℕ). old ++ w) (sym c)))

end_texts-more : (program : Program) (b : ℕ) (es : List ProcEnd) (e : ProcEnd) → end_texts program b (es ++ e ∷ []) ≡ end_texts program b es ++ end_text program (body_numbered program (b + length es)).name e
end_texts-more program b [] e = let z : b + 0 ≡ b = omega arith in rw z (append-nil (end_text program (body_numbered program b).name e))
end_texts-more program b (f ∷ es) e =
    let n : b + 1 + length es ≡ b + length (f ∷ es) = omega arith in
    ap (λ (w : List ℕ). end_text program (body_numbered program b).name f ++ w) (end_texts-more program (b + 1) es e ∙ ap (λ (k : ℕ). end_texts program (b + 1) es ++ end_text program (body_numbered program k).name e) n)
    ∙ sym (append_assoc (end_text program (body_numbered program b).name f) (end_texts program (b + 1) es) (end_text program (body_numbered program (b + length (f ∷ es))).name e))

-- one process more, as a loop over the processes takes it
pub end_texts-taken : (program : Program) (b : ℕ) (es : List ProcEnd) (i : ℕ) (e : ProcEnd) (name : List ℕ) → i < length es → e ≡ get_or es i e → name ≡ (body_numbered program (b + i)).name → end_texts program b (take (i + 1) es) ≡ end_texts program b (take i es) ++ end_text program name e
end_texts-taken program b es i e name lt at is =
    let there = sym is in
    let here = sym at in
    let front = length-take-le i es (omega arith) in
    ap (end_texts program b) (take_more es i e lt) ∙ (end_texts-more program b (take i es) (get_or es i e) ∙ rw (here, front, there) refl)
