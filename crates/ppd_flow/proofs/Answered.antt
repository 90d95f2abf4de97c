-- Answers that are made of those of one replay after another, where a write may be missing.
use Rattle.std.proofs.Common.{◌≡◌, ℕ, List, [], ◌++◌, Result, Ok, Err, refl, ap, sym, ◌∙◌, subst}
use Rattle.std.proofs.lemmas.List.{append-nil}
use Rattle.ppd_model.specs.declared.flow_error.FlowError.{FlowError}
use Rattle.ppd_model.specs.declared.flow_error.FlowError.TheVariants.{Diverged, NoEvent, Sets, Memory}
use Rattle.ppd_flow_past.specs.declared.past.Past.{Past}
use Rattle.ppd_flow_past.specs.ByReplays.{IsFoundBy}
use Rattle.ppd_flow_past.proofs.Found.{found_err}
use Rattle.ppd_graph.specs.Shared.{Missing}
use Rattle.ppd_flow_shared.specs.SharedCells.{answer_of}

abbrev ok_err : {A : Type 0} → FlowError → Result A FlowError
ok_err e = Err e

-- what is answered is what is found
pub found_is : {A : Type 0} (q : Result A Missing) (x : A) → answer_of q ≡ Ok x → q ≡ Ok x
found_is {A = A} (Ok y) x e = ap (λ (r : Result A FlowError). as_missing r) e
  where
    as_missing : Result A FlowError → Result A Missing
    as_missing (Ok z) = Ok z
    as_missing (Err f) = Ok y
found_is (Err m) x e = absurd (cc e)

module _ (past : Past) where
  -- it was not found, and where its write is missing no more is replayed
  pub not_found : {A B : Type 0} (ms ns : List (ℕ × ℕ)) (v : A) (q : Result A Missing) (b : Result B FlowError) (n m : ℕ) (e : FlowError)
      → ((k : Missing) → q ≡ Err k → (ns ≡ []) × (b ≡ Err (Sets k.process k.entry k.cell)))
      → IsFoundBy past ms (answer_of q) n m (Err e) → IsFoundBy past (ms ++ ns) b n m (Err e)
  not_found ms ns v (Ok x) b n m NoEvent h f = absurd (cc f.1)
  not_found ms ns v (Err k) b n m NoEvent h f = absurd (cc f.1)
  not_found ms ns v (Ok x) b n m (Sets p j c) h f = absurd (cc f.1)
  not_found {A = A} {B = B} ms ns v (Err k) b n m (Sets p j c) h f =
      subst (λ ks. IsFoundBy {A = B} past ks b n m (Err (Sets p j c))) (sym (ap (λ ks. ms ++ ks) (h k refl).0 ∙ append-nil ms)) (f.0, (h k refl).1 ∙ again (Sets k.process k.entry k.cell) (Sets p j c) f.1)
    where
      err_of : Result A FlowError → FlowError
      err_of (Ok z) = Memory
      err_of (Err z) = z

      again : (x y : FlowError) → ok_err {A = A} x ≡ ok_err {A = A} y → ok_err {A = B} x ≡ ok_err {A = B} y
      again x y e = ap (λ (z : FlowError). ok_err {A = B} z) (ap err_of e)
  not_found {A = A} ms ns v q b n m (Diverged p j) h f = found_err past ms ns v b n m (Diverged p j) f
  not_found ms ns v q b n m Memory h f = tt

  -- another answer where all was found
  pub so_found : {A B : Type 0} (ms : List (ℕ × ℕ)) (a : Result A FlowError) (b : Result B FlowError) (x : A) (y : B) (n m : ℕ)
      → IsFoundBy past ms a n m (Ok x) → b ≡ Ok y → IsFoundBy past ms b n m (Ok y)
  so_found ms a b x y n m f e = (f.0, e, f.2)
