-- The steps of one process in a schedule: when each of them is taken.
use Rattle.ppd_model.specs.Setting.{setting_of}
use Rattle.std.proofs.Common.{◌≡◌, ℕ, zero, suc, ◌+◌, ◌<◌, ◌≤◌, false, List, [], ◌∷◌, ◌++◌, None, refl, ap, ap₂, sym, subst, ◌∙◌, arith, length, length-append, map, get_or, inl, inr, ◌⊎◌}
use Rattle.std.specs.Prelude.{⊤, fold, slice_get}
use Rattle.std.proofs.lemmas.Bool.{cases_lt}
use Rattle.std.proofs.lemmas.List.{append-nil, append_assoc}
use Rattle.std.proofs.lemmas.List.Sums.{fold-append}
use Rattle.std.proofs.lemmas.Option.{none-some}
use Rattle.ppd_ast.specs.declared.plan.Plan.{Plan}
use Rattle.ppd_ast.specs.declared.program.Program.{Program}
use Rattle.ppd_sem.specs.declared.proc.Need.{Need}
use Rattle.ppd_sem.specs.declared.proc.Need.TheVariants as n
use Rattle.ppd_sem.specs.declared.proc.Proc.{Proc}
use Rattle.ppd_model.specs.declared.tracing.Taken.{Taken}
use Rattle.ppd_model.specs.Laws.{IsUnwritten, begins}
use Rattle.ppd_model.specs.Schedule.{started_world}
use Rattle.ppd_model.specs.SharedReads.{need_after}
use Rattle.ppd_model.specs.States.{states_from}
use Rattle.ppd_model.specs.Story.{Moment, Telling, moment_of, number_of, steps_of, story, tell, told}
use Rattle.ppd_model.specs.Synchronizations.{kind_of_sync}
use Rattle.ppd_model.specs.World.{change, need, writes_cell}
use Rattle.ppd_model.proofs.WorldWords.{need_at}
use Rattle.ppd_model.proofs.States.{states_told}
use Rattle.ppd_model.proofs.Stories.{steps_append}
use Rattle.law_flow.proofs.Edges.Spans.Steps.{IsNumbered, AreNumbered}

-- ---- lists

-- a list that is cut in two ways
pub cut_once : {A : Type 0} (front : List A) (x : A) (back more : List A) (rest : List A) → front ++ x ∷ back ≡ more ++ rest → length front < length more → (mid : List A) × (more ≡ front ++ x ∷ mid) × (back ≡ mid ++ rest)
cut_once [] x back [] rest e lt = absurd (omega (arith, lt))
cut_once [] x back (y ∷ more) rest e lt =
    let same : x ≡ y = ap (λ l. elim l [ [] ↦ x | z ∷ zs ↦ z ]) e in
    let tails : back ≡ more ++ rest = ap (λ l. elim l [ [] ↦ back | z ∷ zs ↦ zs ]) e in
    (more, ap (λ z. z ∷ more) (sym same), tails)
cut_once (z ∷ front) x back [] rest e lt = absurd (omega (arith, lt))
cut_once (z ∷ front) x back (y ∷ more) rest e lt =
    let same : z ≡ y = ap (λ l. elim l [ [] ↦ z | w ∷ ws ↦ w ]) e in
    let tails : front ++ x ∷ back ≡ more ++ rest = ap (λ l. elim l [ [] ↦ more ++ rest | w ∷ ws ↦ ws ]) e in
    let r = cut_once front x back more rest tails (omega (arith, lt)) in
    (r.0, ap₂ (λ a l. a ∷ l) (sym same) r.1, r.2)

map_found : {A B : Type 0} (f : List A → List B) → f [] ≡ [] → (xs : List (List A)) (p : ℕ) → get_or (map f xs) p [] ≡ f (get_or xs p [])
map_found f none [] p = sym none
map_found f none (x ∷ xs) zero = refl
map_found f none (x ∷ xs) (suc p) = map_found f none xs p

abbrev no_moments : List Moment
no_moments = []

nothing : (procs : List Proc) (q : ℕ) → get_or (map (λ _. no_moments) procs) q no_moments ≡ no_moments
nothing [] q = refl
nothing (s ∷ ss) zero = refl
nothing (s ∷ ss) (suc q) = nothing ss q

-- ---- one step

-- what process p did so far
abbrev pub did : Telling → ℕ → List Taken
did t p = steps_of (get_or t.moments p [])

changed_list : (m : Moment) (q p : ℕ) (ms : List (List Moment)) → (get_or (change (λ xs. xs ++ m ∷ []) q ms) p [] ≡ get_or ms p []) ⊎ ((q ≡ p) × (get_or (change (λ xs. xs ++ m ∷ []) q ms) p [] ≡ get_or ms p [] ++ m ∷ []))
changed_list m q p [] = inl refl
changed_list m zero zero (xs ∷ rest) = inr (refl, refl)
changed_list m zero (suc p) (xs ∷ rest) = inl refl
changed_list m (suc q) zero (xs ∷ rest) = inl refl
changed_list m (suc q) (suc p) (xs ∷ rest) = elim (changed_list m q p rest) [ inl e ↦ inl e | inr e ↦ inr (ap (λ k. suc k) e.0, e.1) ]

changed_own : (m : Moment) (p : ℕ) (ms : List (List Moment)) → p < length ms → get_or (change (λ xs. xs ++ m ∷ []) p ms) p [] ≡ get_or ms p [] ++ m ∷ []
changed_own m p [] lt = absurd (omega (arith, lt))
changed_own m zero (xs ∷ rest) lt = refl
changed_own m (suc p) (xs ∷ rest) lt = changed_own m p rest (omega (arith, lt))

-- lists of one length before two elements
same_front : (xs ys : List Taken) (a b : Taken) (as' bs : List Taken) → xs ++ a ∷ as' ≡ ys ++ b ∷ bs → length xs ≡ length ys → (xs ≡ ys) × (a ≡ b)
same_front [] [] a b as' bs f l = (refl, ap (λ z. elim z [ [] ↦ a | w ∷ ws ↦ w ]) f)
same_front [] (y ∷ ys) a b as' bs f l = absurd (omega (arith, l))
same_front (z ∷ xs) [] a b as' bs f l = absurd (omega (arith, l))
same_front (z ∷ xs) (y ∷ ys) a b as' bs f l =
    let heads : z ≡ y = ap (λ w. elim w [ [] ↦ z | v ∷ vs ↦ v ]) f in
    let r = same_front xs ys a b as' bs (ap (λ w. elim w [ [] ↦ ys ++ b ∷ bs | v ∷ vs ↦ vs ]) f) (omega (arith, l)) in
    (ap₂ (λ v vs. v ∷ vs) heads r.0, r.1)

module _ (program : Program) (plan : Plan) where
  -- the next step of process q
  abbrev pub next : Telling → ℕ → Taken
  next t q = (moment_of program plan t q).taken

  abbrev pub on : Telling → List ℕ → Telling
  on t g = fold (tell program plan) t g

  did_one : (t : Telling) (q p : ℕ) → (did (tell program plan t q) p ≡ did t p) ⊎ ((q ≡ p) × (did (tell program plan t q) p ≡ did t p ++ next t q ∷ []))
  did_one t q p = elim (changed_list (moment_of program plan t q) q p t.moments) [
    | inl e ↦ inl (ap steps_of e)
    | inr e ↦ inr (e.0, ap steps_of e.1 ∙ steps_append (get_or t.moments p []) (moment_of program plan t q ∷ []))
  ]

  -- no step of these writes the cell
  abbrev pub NoWrites : ℕ → List Taken → Type 0
  NoWrites c [] = ⊤
  NoWrites c (x ∷ xs) = (writes_cell c x.need ≡ false) × NoWrites c xs

  -- what a process did stays, and more comes behind it
  pub did_more : (c p : ℕ) (t : Telling) (g : List ℕ) → (more : List Taken) × (did (on t g) p ≡ did t p ++ more) × (IsUnwritten program plan c t g → NoWrites c more)
  did_more c p t [] = ([], sym (append-nil (did t p)), (λ u. tt))
  did_more c p t (q ∷ g) =
      let rest = did_more c p (tell program plan t q) g in
      elim (did_one t q p) [
        | inl e ↦ (rest.0, rest.1 ∙ ap (λ l. l ++ rest.0) e, (λ u. rest.2 u.1))
        | inr e ↦ (next t q ∷ rest.0, rest.1 ∙ ap (λ l. l ++ rest.0) e.1 ∙ append_assoc (did t p) (next t q ∷ []) rest.0, (λ u. (u.0, rest.2 u.1)))
      ]

  -- a step of a process is taken at some time
  pub record IsTakenAt (t : Telling) (g : List ℕ) (p : ℕ) (before : List Taken) (x : Taken) : Type 0 where
    pub sooner : List ℕ
    pub later : List ℕ
    pub schedule_is : g ≡ sooner ++ p ∷ later
    pub did_before : did (on t sooner) p ≡ before
    pub step_is : next (on t sooner) p ≡ x

  pub taken_at : (t : Telling) (g : List ℕ) (p : ℕ) (before : List Taken) (x : Taken) (after : List Taken) → did (on t g) p ≡ before ++ x ∷ after → length (did t p) ≤ length before → IsTakenAt t g p before x
  taken_at t [] p before x after e le =
      absurd (let z : length (did t p) ≡ length before + suc (length after) = ap length e ∙ length-append before (x ∷ after) in omega (arith, z, le))
  taken_at t (q ∷ g) p before x after e le = by (did_one t q p) (taken_at (tell program plan t q) g p before x after e)
    where
      later' : IsTakenAt (tell program plan t q) g p before x → IsTakenAt t (q ∷ g) p before x
      later' r = record { sooner = q ∷ r.sooner; later = r.later; schedule_is = ap (λ l. q ∷ l) r.schedule_is; did_before = r.did_before; step_is = r.step_is }

      by : (did (tell program plan t q) p ≡ did t p) ⊎ ((q ≡ p) × (did (tell program plan t q) p ≡ did t p ++ next t q ∷ [])) → (length (did (tell program plan t q) p) ≤ length before → IsTakenAt (tell program plan t q) g p before x) → IsTakenAt t (q ∷ g) p before x
      by (inl same) again = later' (again (subst (λ l. length l ≤ length before) (sym same) le))
      by (inr new) again = elim (cases_lt (length (did t p)) (length before)) [
        | inl more ↦ later' (again (let z : length (did (tell program plan t q) p) ≡ length (did t p) + 1 = ap length new.1 ∙ length-append (did t p) (next t q ∷ []) in omega (arith, z, more)))
        | inr here ↦
            let rest = did_more 0 p (tell program plan t q) g in
            let whole : before ++ x ∷ after ≡ did t p ++ (next t q ∷ rest.0) = sym e ∙ rest.1 ∙ ap (λ l. l ++ rest.0) new.1 ∙ append_assoc (did t p) (next t q ∷ []) rest.0 in
            let both = same_front before (did t p) x (next t q) after rest.0 whole (omega (arith, here, le)) in
            record { sooner = []; later = g; schedule_is = ap (λ z. z ∷ g) new.0; did_before = sym both.0; step_is = ap (λ z. next t z) (sym new.0) ∙ sym both.1 }
      ]

  -- ---- numbers

  plain_number : (t : Telling) (need' : Need) → kind_of_sync need' ≡ None → number_of t.world need' ≡ None
  plain_number t (n.P s u) e = absurd (none-some _ (sym e))
  plain_number t (n.V s u) e = absurd (none-some _ (sym e))
  plain_number t (n.Send c v u) e = absurd (none-some _ (sym e))
  plain_number t (n.Offer c v) e = absurd (none-some _ (sym e))
  plain_number t (n.Done c u) e = absurd (none-some _ (sym e))
  plain_number t (n.Recv c u) e = absurd (none-some _ (sym e))
  plain_number t need' e = refl

  numbered_one : (xs : List Taken) (x : Taken) → AreNumbered xs → IsNumbered x → AreNumbered (xs ++ x ∷ [])
  numbered_one [] x h w = (w, tt)
  numbered_one (y ∷ ys) x h w = (h.0, numbered_one ys x h.1 w)

  numbered_on : (p : ℕ) (t : Telling) (g : List ℕ) → AreNumbered (did t p) → AreNumbered (did (on t g) p)
  numbered_on p t [] h = h
  numbered_on p t (q ∷ g) h = numbered_on p (tell program plan t q) g (elim (did_one t q p) [
    | inl e ↦ subst AreNumbered (sym e) h
    | inr e ↦ subst AreNumbered (sym e.1) (numbered_one (did t p) (next t q) h (plain_number t (need program plan t.world q)))
  ])

  module _ (budget : ℕ) where
    pub own_is : (h : List ℕ) (p : ℕ) → get_or (story (setting_of program plan budget) h).steps p [] ≡ did (told (setting_of program plan budget) h) p
    own_is h p = map_found steps_of refl (told (setting_of program plan budget) h).moments p

    pub none_did : (p : ℕ) → did (begins (setting_of program plan budget)) p ≡ []
    none_did p = ap steps_of (nothing (started_world (setting_of program plan budget)).procs p)

    pub numbered_told : (h : List ℕ) (p : ℕ) → AreNumbered (did (told (setting_of program plan budget) h) p)
    numbered_told h p = numbered_on p (begins (setting_of program plan budget)) h (subst AreNumbered (sym (none_did p)) tt)

    -- a process that needs something takes its step
    same_count : (k : ℕ) (steps : List (List Taken)) → length (states_from (setting_of program plan budget) k steps) ≡ length steps
    same_count k [] = refl
    same_count k (xs ∷ rest) = ap (λ m. suc m) (same_count (k + 1) rest)

    length-steps : (ms : List (List Moment)) → length (map steps_of ms) ≡ length ms
    length-steps [] = refl
    length-steps (m ∷ ms) = ap (λ k. suc k) (length-steps ms)

    pub did_step : (g : List ℕ) (p : ℕ) → (need_after (setting_of program plan budget) g p ≡ n.Stopped → ⊥) → did (told (setting_of program plan budget) (g ++ p ∷ [])) p ≡ did (told (setting_of program plan budget) g) p ++ next (told (setting_of program plan budget) g) p ∷ []
    did_step g p goes =
        let t : Telling = told (setting_of program plan budget) g in
        let lt : p < length t.moments = (
        let a : p < length t.world.procs = in_range t.world.procs p goes in
        let b : length t.world.procs ≡ length t.moments = ap length (states_told (setting_of program plan budget) g) ∙ same_count 0 (map steps_of t.moments) ∙ length-steps t.moments in
        omega (arith, a, b)) in
        ap (λ (z : Telling). did z p) (fold-append (tell program plan) (begins (setting_of program plan budget)) g (p ∷ []))
        ∙ ap steps_of (changed_own (moment_of program plan t p) p t.moments lt) ∙ steps_append (get_or t.moments p []) (moment_of program plan t p ∷ [])
      where
        in_range : (procs : List Proc) (q : ℕ) → (need_at program plan (slice_get procs q) ≡ n.Stopped → ⊥) → q < length procs
        in_range [] q f = absurd (f refl)
        in_range (s ∷ ss) zero f = omega arith
        in_range (s ∷ ss) (suc q) f = let r : q < length ss = in_range ss q f in omega (arith, r)
