-- What is left of a walk: whatever answers it answers the whole.
use Rattle.std.proofs.Common.{◌≡◌, ℕ, true, false, List, ◌++◌, Result, Ok, Err, refl, ap, sym, ◌∙◌, subst, true≢false}
use Rattle.std.proofs.lemmas.List.{append-nil, map-append}
use Rattle.ppd_flow_tables.specs.FlowError.{FlowError}
use Rattle.ppd_flow_tables.specs.Past.{Past}
use Rattle.ppd_flow_tables.specs.ByReplays.{IsFoundBy}
use Rattle.ppd_flow_tables.proofs.Found.{found_err, found_then}
use Rattle.ppd_graph.specs.declared.walked.Walked.{Walked}
use Rattle.ppd_graph.specs.declared.walked.Walked.TheVariants.{Stopped, Passed, Found}
use Rattle.ppd_graph.specs.Looked.{Looked}
use Rattle.ppd_graph.specs.Shared.{in_process, of_process}
use Rattle.ppd_graph.specs.Walk.{onward, or_rest}
use Rattle.ppd_flow_shared.specs.Items.{is_passed}
use Rattle.ppd_flow_shared.specs.SharedCells.{IsSought}

-- a walk from here on gives a walk from there on
abbrev pub Leads : Past → ℕ → Looked ℕ Walked → ℕ → Looked ℕ Walked → ℕ → Type 0
Leads past p whole n left m =
    (after : ℕ) (r : Result Walked FlowError) → IsSought past (in_process p left) m after r
    → IsSought past (in_process p whole) n after r

abbrev walked_or : Result Walked FlowError → Walked → Walked
walked_or (Ok w) v = w
walked_or (Err e) v = v

same_ok : (v w : Walked) (r : Result Walked FlowError) → r ≡ Ok v → r ≡ Ok w → v ≡ w
same_ok v w r a b = ap (λ q. walked_or q v) (sym a ∙ b)

passes : (w : Walked) → is_passed w ≡ true → w ≡ Passed
passes Passed e = refl
passes Stopped e = absurd (true≢false (sym e))
passes (Found k i v) e = absurd (true≢false (sym e))

module _ (past : Past) (p : ℕ) where
  of_both : (ts rs : List ℕ) → of_process p (ts ++ rs) ≡ of_process p ts ++ of_process p rs
  of_both ts rs = map-append (λ k. (p, k)) ts rs

  module _ (first rest : Looked ℕ Walked) (n m : ℕ) where
    -- what is answered where the first part comes to this
    abbrev After : Walked → ℕ → Result Walked FlowError → Type 0
    After w after r =
        IsFoundBy past (of_process p (first.replays ++ (or_rest w rest).replays)) (Ok (or_rest w rest).found) n after r

    -- the first part passed, and then the rest
    pub then_rest : IsSought past (in_process p first) n m (Ok Passed) → Leads past p (onward first rest) n rest m
    then_rest f after r g =
        let is : first.found ≡ Passed = same_ok first.found Passed (Ok first.found) refl f.1 in
        subst (λ u. After u after r) (sym is)
        (subst (λ ks. IsFoundBy past ks (Ok rest.found) n after r) (sym (of_both first.replays rest.replays))
        (found_then past (of_process p first.replays) (of_process p rest.replays) (Ok first.found) (Ok rest.found) Passed
        n m after r f g))

    -- the first part did not pass
    pub then_none : (u : Walked) → is_passed u ≡ false → IsSought past (in_process p first) n m (Ok u)
        → IsSought past (in_process p (onward first rest)) n m (Ok u)
    then_none u not f =
        subst (λ v. After v m (Ok u)) (sym is)
        (by u not (subst (λ v. IsFoundBy past (of_process p first.replays) (Ok v) n m (Ok u)) is f))
      where
        is : first.found ≡ u
        is = same_ok first.found u (Ok first.found) refl f.1

        by : (v : Walked) → is_passed v ≡ false → IsFoundBy past (of_process p first.replays) (Ok v) n m (Ok u)
            → After v m (Ok u)
        by Passed e g = absurd (true≢false e)
        by Stopped e g =
            subst (λ ks. IsFoundBy past (of_process p ks) (Ok Stopped) n m (Ok u)) (sym (append-nil first.replays)) g
        by (Found k i v) e g =
            subst (λ ks. IsFoundBy past (of_process p ks) (Ok (Found k i v)) n m (Ok u)) (sym (append-nil first.replays)) g

    -- a replay of the first part failed
    pub then_failed : (e : FlowError) → IsSought past (in_process p first) n m (Err e)
        → IsSought past (in_process p (onward first rest)) n m (Err e)
    then_failed e f =
        let more = or_rest first.found rest in
        subst (λ ks. IsFoundBy {A = Walked} past ks (Ok (onward first rest).found) n m (Err e))
        (sym (of_both first.replays more.replays))
        (found_err past (of_process p first.replays) (of_process p more.replays) first.found
        (Ok (onward first rest).found) n m e f)

    module _ (whole : Looked ℕ Walked) (before : ℕ) (leads : Leads past p whole before (onward first rest) n) where
      pub lead_failed : (e : FlowError) → IsSought past (in_process p first) n m (Err e)
          → IsSought past (in_process p whole) before m (Err e)
      lead_failed e f = leads m (Err e) (then_failed e f)

      pub lead_ended : (u : Walked) → is_passed u ≡ false → IsSought past (in_process p first) n m (Ok u)
          → IsSought past (in_process p whole) before m (Ok u)
      lead_ended u not f = leads m (Ok u) (then_none u not f)

      pub lead_on : (u : Walked) → is_passed u ≡ true → IsSought past (in_process p first) n m (Ok u)
          → Leads past p whole before rest m
      lead_on u yes' f after r g =
          leads after r (then_rest (subst (λ q. IsSought past (in_process p first) n m (Ok q)) (passes u yes') f) after r g)
