-- What holds in every whole schedule of two processes, by going all the ways that the world of two can go.
use Rattle.ppd_model.specs.Setting.{Setting, setting_of}
use Rattle.std.proofs.Common.{◌≡◌, ℕ, zero, suc, ◌-◌, Bool, true, false, List, [], ◌∷◌, ◌++◌, length, map, Option, Some, None, refl, ap, sym, subst, ◌∙◌, arith, inl, inr, ◌⊎◌}
use Rattle.std.specs.Prelude.{option_map, replicate, slice_get}
use Rattle.std.proofs.lemmas.Option.{none-some}
use Rattle.ppd_ast.specs.declared.plan.Plan.{Plan}
use Rattle.ppd_ast.specs.declared.program.Program.{Program}
use Rattle.ppd_sem.specs.declared.proc.Proc.{Proc}
use Rattle.ppd_sem.specs.Process.{act}
use Rattle.ppd_model.specs.declared.closed.ProcEnd.{ProcEnd}
use Rattle.ppd_model.specs.declared.graph.Race.{Race}
use Rattle.ppd_model.specs.Schedule.{IsOver, IsWhole, run_from, started_world}
use Rattle.ppd_model.specs.World.{World, answer, can, enabled, need, step}
use Rattle.ppd_model.proofs.WorldWords.{need_at}
use Rattle.ppd_model.specs.Races.{races}
use Rattle.ppd_model.specs.Logs.{close}
use Rattle.ppd_model.proofs.Bounded.{Goes, goes, started_count}
use Rattle.ppd_model.proofs.Changes.{length-change, some}

-- how the processes of a whole schedule end, and its races
abbrev pub outcome : Setting → List ℕ → List ProcEnd × List Race
outcome setting h = ((close setting h).ends, races setting h)

-- ---- the ways that a world goes

-- those of the first process and those of the second, where they can step, and else the end
abbrev pub ways_by : {A : Type 0} → Bool → Bool → List A → List A → List A → List A
ways_by true true first second here = first ++ second
ways_by true false first second here = first
ways_by false true first second here = second
ways_by false false first second here = here

-- the schedules that go on after h, from the world that it comes to, until neither of two processes
-- can step; None for one that is not over after n steps
abbrev pub ways : Program → Plan → ℕ → World → List ℕ → List (Option (List ℕ))
ways program plan zero w h = None ∷ []
ways program plan (suc n) w h =
    ways_by (enabled program plan w 0) (enabled program plan w 1)
    (ways program plan n (step program plan w 0) (h ++ 0 ∷ []))
    (ways program plan n (step program plan w 1) (h ++ 1 ∷ []))
    (Some h ∷ [])

-- ---- a schedule among them

-- the schedule is one of these, or one of them is not over
abbrev pub IsFound : List ℕ → List (Option (List ℕ)) → Type 0
IsFound h [] = ⊥
IsFound h (x ∷ xs) = ((x ≡ Some h) ⊎ (x ≡ None)) ⊎ IsFound h xs

found_left : (h : List ℕ) (xs ys : List (Option (List ℕ))) → IsFound h xs → IsFound h (xs ++ ys)
found_left h [] ys f = absurd f
found_left h (x ∷ xs) ys (inl e) = inl e
found_left h (x ∷ xs) ys (inr f) = inr (found_left h xs ys f)

found_right : (h : List ℕ) (xs ys : List (Option (List ℕ))) → IsFound h ys → IsFound h (xs ++ ys)
found_right h [] ys f = f
found_right h (x ∷ xs) ys f = inr (found_right h xs ys f)

found_first : (h : List ℕ) (b : Bool) (xs ys zs : List (Option (List ℕ))) → IsFound h xs → IsFound h (ways_by true b xs ys zs)
found_first h true xs ys zs f = found_left h xs ys f
found_first h false xs ys zs f = f

found_second : (h : List ℕ) (b : Bool) (xs ys zs : List (Option (List ℕ))) → IsFound h ys → IsFound h (ways_by b true xs ys zs)
found_second h true xs ys zs f = found_right h xs ys f
found_second h false xs ys zs f = f

append_one : (h h' : List ℕ) (p : ℕ) → (h ++ p ∷ []) ++ h' ≡ h ++ p ∷ h'
append_one [] h' p = refl
append_one (q ∷ h) h' p = ap (λ x. q ∷ x) (append_one h h' p)

append_none : (h : List ℕ) → h ≡ h ++ []
append_none [] = refl
append_none (q ∷ h) = ap (λ x. q ∷ x) (append_none h)

none_third : (program : Program) (plan : Plan) (w : World) (ss : List Proc) (p : ℕ) → length ss ≡ 2 → can w (need_at program plan (slice_get ss (suc (suc p)))) ≡ false
none_third program plan w [] p e = absurd (omega (arith, e))
none_third program plan w (s ∷ []) p e = absurd (omega (arith, e))
none_third program plan w (s ∷ t ∷ []) p e = refl
none_third program plan w (s ∷ t ∷ u ∷ ss) p e = absurd (omega (arith, e))

module _ (program : Program) (plan : Plan) where
  -- a schedule that comes to a world in which nobody can step is found
  found : (n : ℕ) (w last : World) (h h' : List ℕ) → length w.procs ≡ 2 → run_from program plan w h' ≡ Some last → IsOver program plan last → IsFound (h ++ h') (ways program plan n w h)
  found zero w last h h' two e over = inl (inr refl)
  found (suc n) w last h [] two e over =
      let is : w ≡ last = some e in
      let first : enabled program plan w 0 ≡ false = ap (λ (x : World). enabled program plan x 0) is ∙ over.nobody 0 in
      let second : enabled program plan w 1 ≡ false = ap (λ (x : World). enabled program plan x 1) is ∙ over.nobody 1 in
      let xs : List (Option (List ℕ)) = ways program plan n (step program plan w 0) (h ++ 0 ∷ []) in
      let ys : List (Option (List ℕ)) = ways program plan n (step program plan w 1) (h ++ 1 ∷ []) in
      let here : IsFound (h ++ []) (ways_by false false xs ys (Some h ∷ [])) = inl (inl (ap (λ x. Some x) (append_none h))) in
      subst (λ (b : Bool). IsFound (h ++ []) (ways_by b (enabled program plan w 1) xs ys (Some h ∷ []))) (sym first)
      (subst (λ (b : Bool). IsFound (h ++ []) (ways_by false b xs ys (Some h ∷ []))) (sym second) here)
  found (suc n) w last h (zero ∷ h') two e over =
      let g : Goes program plan w last 0 h' = goes program plan w last 0 h' e in
      let two' : length (step program plan w 0).procs ≡ 2 = length-change (λ s. act program plan s (answer w (need program plan w 0))) 0 w.procs ∙ two in
      let xs : List (Option (List ℕ)) = ways program plan n (step program plan w 0) (h ++ 0 ∷ []) in
      let ys : List (Option (List ℕ)) = ways program plan n (step program plan w 1) (h ++ 1 ∷ []) in
      let later : IsFound ((h ++ 0 ∷ []) ++ h') xs = found n (step program plan w 0) last (h ++ 0 ∷ []) h' two' g.rest over in
      let same : IsFound (h ++ 0 ∷ h') xs = subst (λ (x : List ℕ). IsFound x xs) (append_one h h' 0) later in
      subst (λ (b : Bool). IsFound (h ++ 0 ∷ h') (ways_by b (enabled program plan w 1) xs ys (Some h ∷ []))) (sym g.enables)
      (found_first (h ++ 0 ∷ h') (enabled program plan w 1) xs ys (Some h ∷ []) same)
  found (suc n) w last h (suc zero ∷ h') two e over =
      let g : Goes program plan w last 1 h' = goes program plan w last 1 h' e in
      let two' : length (step program plan w 1).procs ≡ 2 = length-change (λ s. act program plan s (answer w (need program plan w 1))) 1 w.procs ∙ two in
      let xs : List (Option (List ℕ)) = ways program plan n (step program plan w 0) (h ++ 0 ∷ []) in
      let ys : List (Option (List ℕ)) = ways program plan n (step program plan w 1) (h ++ 1 ∷ []) in
      let later : IsFound ((h ++ 1 ∷ []) ++ h') ys = found n (step program plan w 1) last (h ++ 1 ∷ []) h' two' g.rest over in
      let same : IsFound (h ++ 1 ∷ h') ys = subst (λ (x : List ℕ). IsFound x ys) (append_one h h' 1) later in
      subst (λ (b : Bool). IsFound (h ++ 1 ∷ h') (ways_by (enabled program plan w 0) b xs ys (Some h ∷ []))) (sym g.enables)
      (found_second (h ++ 1 ∷ h') (enabled program plan w 0) xs ys (Some h ∷ []) same)
  found (suc n) w last h (suc (suc p) ∷ h') two e over =
      let g : Goes program plan w last (suc (suc p)) h' = goes program plan w last (suc (suc p)) h' e in
      let never : enabled program plan w (suc (suc p)) ≡ false = none_third program plan w w.procs p two in
      absurd (cc (g.enables, never))

-- ---- what each of them has

abbrev list_head : {A : Type 0} → A → List A → A
list_head d [] = d
list_head d (x ∷ xs) = x

abbrev list_tail : {A : Type 0} → List A → List A
list_tail [] = []
list_tail (x ∷ xs) = xs

of_all : {B : Type 0} (f : List ℕ → B) (v : B) (h : List ℕ) (m : ℕ) (xs : List (Option (List ℕ))) → map (option_map f) xs ≡ replicate m (Some v) → IsFound h xs → f h ≡ v
of_all f v h m [] e is = absurd is
of_all f v h zero (x ∷ xs) e is = absurd (cc e)
of_all f v h (suc m) (x ∷ xs) e (inr is) = of_all f v h m xs (ap list_tail e) is
of_all f v h (suc m) (x ∷ xs) e (inl (inl is)) =
    let first : option_map f x ≡ Some v = ap (list_head None) e in
    some (sym (ap (λ y. option_map f y) is) ∙ first)
of_all f v h (suc m) (x ∷ xs) e (inl (inr is)) =
    let first : option_map f x ≡ Some v = ap (list_head None) e in
    absurd (none-some v (sym (ap (λ y. option_map f y) is) ∙ first))

-- where each way of two processes is over within n steps and has this value, every whole schedule has it
pub every_whole : {B : Type 0} (program : Program) (plan : Plan) (budget n m : ℕ) (f : List ℕ → B) (v : B) → length program.bodies - program.functions ≡ 2
    → map (option_map f) (ways program plan n (started_world (setting_of program plan budget)) []) ≡ replicate m (Some v) → (h : List ℕ) → IsWhole (setting_of program plan budget) h → f h ≡ v
every_whole program plan budget n m f v two all h whole =
    let count : length (started_world (setting_of program plan budget)).procs ≡ 2 = started_count (setting_of program plan budget) 0 (length program.bodies - program.functions) ∙ two in
    of_all f v h m (ways program plan n (started_world (setting_of program plan budget)) []) all
    (found program plan n (started_world (setting_of program plan budget)) whole.last [] h count whole.runs whole.over)
