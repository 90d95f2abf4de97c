-- What is found by replays of a process, one after another.
use Rattle.std.proofs.Common.{◌≡◌, ℕ, List, [], ◌∷◌, ◌++◌, Result, Ok, Err, refl, ap, sym, ◌∙◌, subst}
use Rattle.std.proofs.lemmas.Result.{err_from_is_err_and}
use Rattle.std.specs.Result.{IsErrAnd, result_map_both}
use Rattle.std.specs.Prelude.{Option, Some, None, unwrap_or}
use Rattle.ppd_flow_tables.specs.FlowError.{FlowError}
use Rattle.ppd_flow_tables.specs.FlowError.TheVariants.{Diverged, NoEvent, Sets, Memory}
use Rattle.ppd_flow_tables.specs.ByReplays.{IsFoundBy}
use Rattle.ppd_flow_tables.proofs.Found.{found_err, found_none, found_then}
use Rattle.ppd_model.specs.declared.flow.Origin.{Origin}
use Rattle.std.specs.Option.{option_or}
use Rattle.ppd_graph.specs.Looked.{Looked, known, look_both, look_map, look_or, or_look, unless}
use Rattle.ppd_graph.specs.Shared.{of_process}
use Rattle.ppd_flow_local.specs.declared.search.Search.{Search}
use Rattle.ppd_flow_local.specs.Searches.{IsFound}

of_both : (p : ℕ) (ms ns : List ℕ) → of_process p (ms ++ ns) ≡ of_process p ms ++ of_process p ns
of_both p [] ns = refl
of_both p (m ∷ ms) ns = ap (λ xs. (p, m) ∷ xs) (of_both p ms ns)

abbrev pub the_ok : {A : Type 0} → A → Result A FlowError → A
the_ok x (Ok y) = y
the_ok x (Err e) = x

abbrev err_of : {A : Type 0} → FlowError → Result A FlowError
err_of e = Err e

abbrev ok_of : {A : Type 0} → A → Result A FlowError
ok_of x = Ok x

-- the second, which is looked for after the first
abbrev pub after_look : {A B : Type 0} → Looked ℕ A → Looked ℕ B → Looked ℕ B
after_look a b = look_both (λ x y. y) a b

module _ (s : Search) where
  -- what was given is what is to be found
  pub is_given : {A : Type 0} (a : Looked ℕ A) (y : A) (n m : ℕ) → IsFound s a n m (Ok y) → a.found ≡ y
  is_given {A = A} a y n m f = ap (the_ok {A = A} a.found) f.1

  -- nothing is replayed
  pub nothing : {A : Type 0} (x y : A) (n : ℕ) → x ≡ y → IsFound s (known x) n n (Ok y)
  nothing {A = A} x y n e = subst (λ (z : A). IsFound s (known x) n n (Ok z)) e (found_none s.past.now x n)

  -- another value that is found with it
  pub and_so : {A B : Type 0} (a : Looked ℕ A) (x : A) (y y' : B) (n m : ℕ) → IsFound s a n m (Ok x) → y ≡ y'
      → IsFound s (look_map (λ z. y) a) n m (Ok y')
  and_so {A = A} {B = B} a x y y' n m f e = (f.0, ap (λ (z : B). ok_of z) e, f.2)

  -- the first replays gave their answer, and then these gave theirs
  pub joined : {A B : Type 0} (a : Looked ℕ A) (b : Looked ℕ B) (x : A) (n m o : ℕ) (r : Result B FlowError)
      → IsFound s a n m (Ok x) → IsFound s b m o r → IsFound s (after_look a b) n o r
  joined {A = A} {B = B} a b x n m o r f g =
      subst (λ ks. IsFoundBy {A = B} s.past.now ks (Ok b.found) n o r) (sym (of_both s.process a.replays b.replays))
      (found_then s.past.now (of_process s.process a.replays) (of_process s.process b.replays) (Ok a.found) (Ok b.found) x
      n m o r f g)

  -- one failed, and the others were not begun
  pub failed : {A B : Type 0} (a : Looked ℕ A) (b : Looked ℕ B) (n m : ℕ) (e : FlowError)
      → IsFound s a n m (Err e) → IsFound s (after_look a b) n m (Err e)
  failed {A = A} {B = B} a b n m e f =
      subst (λ ks. IsFoundBy {A = B} s.past.now ks (Ok b.found) n m (Err e)) (sym (of_both s.process a.replays b.replays))
      (found_err s.past.now (of_process s.process a.replays) (of_process s.process b.replays) a.found (Ok b.found) n m e f)

  -- it failed
  pub failed_alone : {A B : Type 0} (a : Looked ℕ A) (y : B) (n m : ℕ) (e : FlowError) → IsFound s a n m (Err e)
      → IsFound s (look_map (λ z. y) a) n m (Err e)
  failed_alone a y n m NoEvent f = absurd (cc f.1)
  failed_alone a y n m (Sets p k c) f = absurd (cc f.1)
  failed_alone a y n m (Diverged p k) f = f
  failed_alone a y n m Memory f = tt

  -- want of memory is free
  pub no_memory : {A : Type 0} (a : Looked ℕ A) (n m : ℕ) (r : Result A FlowError) → IsErrAnd r (λ e. e ≡ Memory)
      → IsFound s a n m r
  no_memory {A = A} a n m r h =
      let e = err_from_is_err_and r h in
      subst (λ (z : Result A FlowError). IsFound s a n m z) (sym (e.1 ∙ ap (λ (x : FlowError). err_of x) e.2)) tt

  pub no_memory_with : {A B : Type 0} (a : Looked ℕ A) (x : A) (n m : ℕ) (r : Result B FlowError)
      → IsErrAnd r (λ e. e ≡ Memory) → IsFound s a n m (result_map_both (λ y. x) (λ e. e) r)
  no_memory_with {B = B} a x n m r h =
      let e = err_from_is_err_and r h in
      subst (λ (z : Result B FlowError). IsFound s a n m (result_map_both (λ y. x) (λ e. e) z)) (sym (e.1 ∙ ap (λ (y : FlowError). err_of y) e.2)) tt

  -- ---- an origin, or else what is found by further replays

  pub else_origin : (a : Looked ℕ (Option Origin)) (b : Looked ℕ Origin) (n m k : ℕ) (r : Result Origin FlowError)
      → IsFound s a n m (Ok None) → IsFound s b m k r → IsFound s (look_or a b) n k r
  else_origin a b n m k r f g =
      subst (λ z. IsFound s (record { found = unwrap_or z b.found; replays = a.replays ++ unless z b.replays }) n k r)
      (sym (is_given a None n m f)) (joined a b None n m k r f g)

  pub some_origin : (a : Looked ℕ (Option Origin)) (b : Looked ℕ Origin) (x : Origin) (n m : ℕ)
      → IsFound s a n m (Ok (Some x)) → IsFound s (look_or a b) n m (Ok x)
  some_origin a b x n m f =
      subst (λ z. IsFound s (record { found = unwrap_or z b.found; replays = a.replays ++ unless z b.replays }) n m (Ok x))
      (sym (is_given a (Some x) n m f)) (joined a (known x) (Some x) n m m (Ok x) f (nothing x x m refl))

  pub origin_failed : (a : Looked ℕ (Option Origin)) (b : Looked ℕ Origin) (n m : ℕ) (e : FlowError)
      → IsFound s a n m (Err e) → IsFound s (look_or a b) n m (Err e)
  origin_failed a b n m e f = failed a (record { found = unwrap_or a.found b.found; replays = unless a.found b.replays }) n m e f

  pub else_either : (a b : Looked ℕ (Option Origin)) (n m k : ℕ) (r : Result (Option Origin) FlowError)
      → IsFound s a n m (Ok None) → IsFound s b m k r → IsFound s (or_look a b) n k r
  else_either a b n m k r f g =
      subst (λ z. IsFound s (record { found = option_or z b.found; replays = a.replays ++ unless z b.replays }) n k r)
      (sym (is_given a None n m f)) (joined a b None n m k r f g)

  pub some_either : (a b : Looked ℕ (Option Origin)) (x : Origin) (n m : ℕ) → IsFound s a n m (Ok (Some x))
      → IsFound s (or_look a b) n m (Ok (Some x))
  some_either a b x n m f =
      subst (λ z. IsFound s (record { found = option_or z b.found; replays = a.replays ++ unless z b.replays }) n m (Ok (Some x)))
      (sym (is_given a (Some x) n m f)) (joined a (known (Some x)) (Some x) n m m (Ok (Some x)) f (nothing (Some x) (Some x) m refl))

  pub either_failed : (a b : Looked ℕ (Option Origin)) (n m : ℕ) (e : FlowError)
      → IsFound s a n m (Err e) → IsFound s (or_look a b) n m (Err e)
  either_failed a b n m e f = failed a (record { found = option_or a.found b.found; replays = unless a.found b.replays }) n m e f

  -- where the origin is known without replays
  pub known_else : (o : Option Origin) (b : Looked ℕ Origin) (n k : ℕ) (r : Result Origin FlowError) → None ≡ o
      → IsFound s b n k r → IsFound s (look_or (known o) b) n k r
  known_else o b n k r e f = subst (λ (z : Option Origin). IsFound s (look_or (known z) b) n k r) e f

  pub known_origin : (o : Option Origin) (b : Looked ℕ Origin) (x : Origin) (n : ℕ) → Some x ≡ o
      → IsFound s (look_or (known o) b) n n (Ok x)
  known_origin o b x n e =
      subst (λ (z : Option Origin). IsFound s (look_or (known z) b) n n (Ok x)) e (nothing x x n refl)
