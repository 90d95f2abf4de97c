-- How a process stands: it has ended, it waits to complete a send, or the cells of its unit are fresh.
use Rattle.ppd_model.specs.Setting.{Setting}
use Rattle.law_steps.proofs.InForce.Fresh.{AreFresh, begun_fresh, other_fresh, own_fresh, unit_fresh}
use Rattle.law_steps.proofs.OpenBlocks.Told.{own_more}
use Rattle.ppd_ast.specs.Lookups.{body_numbered}
use Rattle.ppd_ast.specs.declared.program.Program.{Program}
use Rattle.ppd_model.proofs.Changes.{change-at, change-else, some}
use Rattle.ppd_model.proofs.OfferMarks.{AreUnmarked, HasEnded, IsMarked, IsUnmarked, marked_step, offer_step, over_step, unmarked_step}
use Rattle.ppd_model.proofs.Stories.{told-append}
use Rattle.ppd_model.proofs.WorldWords.{need_at}
use Rattle.ppd_model.specs.Story.{Telling, moment_of, told}
use Rattle.ppd_model.specs.World.{answer, change, need}
use Rattle.ppd_sem.specs.Process.{act, need_of, started, todos}
use Rattle.ppd_sem.specs.declared.proc.Answer.{Answer}
use Rattle.ppd_sem.specs.declared.proc.Need.{Need}
use Rattle.ppd_sem.specs.declared.proc.Need.TheVariants.{Budget, Done, Read, Stopped}
use Rattle.ppd_sem.specs.declared.proc.Proc.{Proc}
use Rattle.std.proofs.Common.{List, None, Option, Some, [], ap, inl, inr, length, map, refl, subst, suc, sym, true≢false, zero, ℕ, ◌++◌, ◌+◌, ◌∙◌, ◌∷◌, ◌≡◌, ◌⊎◌}
use Rattle.std.proofs.lemmas.Bool.{cases_eq}
use Rattle.std.proofs.lemmas.Option.{none-some, slice_get_within}
use Rattle.std.specs.List.{range_with_len}
use Rattle.std.specs.Prelude.{get_or, option_map, slice_get, ◌-◌}

-- ---- marks

unmarked_todos : (ss : List ℕ) → AreUnmarked (todos ss)
unmarked_todos [] = tt
unmarked_todos (s ∷ ss) = (refl, unmarked_todos ss)

-- one state has no mark and one
not_both : (program : Program) (c stmt : ℕ) (s : Proc) → IsUnmarked s → IsMarked program c stmt s → ⊥
not_both program c stmt s u m = let both : AreUnmarked (m.head ∷ m.rest) = subst AreUnmarked m.todo_is u.unmarked in true≢false (sym m.marked ∙ both.0)

module _ (setting : Setting) where
  -- a process in this state after a schedule
  abbrev pub StandsAs : List ℕ → ℕ → Proc → Type 0
  StandsAs h p s = HasEnded s ⊎ ((IsUnmarked s × AreFresh setting h p) ⊎ ((c : ℕ) × (stmt : ℕ) × IsMarked setting.program c stmt s))

  -- the process, if it is there
  abbrev pub Stands : List ℕ → ℕ → Type 0
  Stands h p = (s : Proc) → slice_get (told setting h).world.procs p ≡ Some s → StandsAs h p s

  -- ---- the start

  begun_at : (ns : List ℕ) (p : ℕ) (s : Proc) → slice_get (map (λ p. started setting.program setting.plan p setting.budget) ns) p ≡ Some s → IsUnmarked s
  begun_at [] p s e = absurd (none-some s e)
  begun_at (n ∷ ns) zero s e = subst IsUnmarked (some e) (record { runs = refl; unmarked = unmarked_todos (body_numbered setting.program (setting.program.functions + n)).top })
  begun_at (n ∷ ns) (suc p) s e = begun_at ns p s e

  pub begun_stands : (p : ℕ) → Stands [] p
  begun_stands p s e = inr (inl (begun_at (range_with_len 0 (length setting.program.bodies - setting.program.functions)) p s e, begun_fresh setting p))

  -- ---- one step

  module _ (h : List ℕ) (r : ℕ) where
    abbrev now : Telling
    now = told setting h

    abbrev next : List ℕ
    next = h ++ r ∷ []

    -- the process itself steps
    own_next : (s : Proc) → slice_get now.world.procs r ≡ Some s → StandsAs h r s → StandsAs next r (act setting.program setting.plan s (answer now.world (need setting.program setting.plan now.world r)))
    own_next s is stands = elim stands [
      | inl over ↦ inl (over_step setting.program setting.plan a s over).1
      | inr rest ↦ elim rest [
        | inl goes ↦ by_unmarked goes.0 goes.1
        | inr marked ↦ elim (marked_step setting.program setting.plan a s marked.0 marked.1 marked.2) [
          | inl done ↦ inr (inl (done.2, unit_fresh setting h r more (Done marked.0 done.0) done.0 (needs ∙ done.1) refl refl))
          | inr stops ↦ inl stops.1
        ]
      ]
    ]
      where
        a : Answer
        a = answer now.world (need setting.program setting.plan now.world r)

        needs : need setting.program setting.plan now.world r ≡ need_of setting.program setting.plan s
        needs = ap (need_at setting.program setting.plan) is

        more : get_or (told setting next).moments r [] ≡ get_or now.moments r [] ++ moment_of setting.program setting.plan now r ∷ []
        more = own_more setting h r (slice_get_within now.world.procs r s is)

        by_unmarked : IsUnmarked s → AreFresh setting h r → StandsAs next r (act setting.program setting.plan s a)
        by_unmarked u f = elim (unmarked_step setting.program setting.plan a s u) [
          | inl over ↦ inl over
          | inr rest ↦ elim rest [
            | inl still ↦ inr (inl (
              still,
              own_fresh setting h r more (need setting.program setting.plan now.world r) refl
                  (λ c v e. (let o = offer_step setting.program setting.plan a s u c v (sym needs ∙ e) in not_both setting.program c o.stmt (act setting.program setting.plan s a) still o.marked)) f,
            ))
            | inr takes ↦ inr (inr (takes.0, takes.2.stmt, takes.2.marked))
          ]
        ]

    before_at : (s : Proc) (o : Option Proc) → option_map (λ x. act setting.program setting.plan x (answer now.world (need setting.program setting.plan now.world r))) o ≡ Some s
        → (x : Proc) × (o ≡ Some x) × (act setting.program setting.plan x (answer now.world (need setting.program setting.plan now.world r)) ≡ s)
    before_at s None e = absurd (none-some s e)
    before_at s (Some x) e = (x, refl, some e)

    procs_next : (told setting next).world.procs ≡ change (λ x. act setting.program setting.plan x (answer now.world (need setting.program setting.plan now.world r))) r now.world.procs
    procs_next = ap (λ (t : Telling). t.world.procs) (told-append setting h r)

    own_stands : Stands h r → Stands next r
    own_stands stands s is =
        let b = before_at s (slice_get now.world.procs r) (sym (change-at (λ x. act setting.program setting.plan x (answer now.world (need setting.program setting.plan now.world r))) r now.world.procs) ∙ ap (λ ss. slice_get ss r) (sym procs_next) ∙ is) in
        subst (StandsAs next r) b.2 (own_next b.0 b.1 (stands b.0 b.1))

    others_stand : (p : ℕ) → (r ≡ p → ⊥) → Stands h p → Stands next p
    others_stand p other stands s is =
        elim (stands s (sym (change-else (λ x. act setting.program setting.plan x (answer now.world (need setting.program setting.plan now.world r))) r p now.world.procs (λ e. other (sym e))) ∙ ap (λ ss. slice_get ss p) (sym procs_next) ∙ is)) [
          | inl over ↦ inl over
          | inr rest ↦ elim rest [
            | inl goes ↦ inr (inl (goes.0, other_fresh setting h r p other goes.1))
            | inr marked ↦ inr (inr marked)
          ]
        ]

    pub step_stands : (p : ℕ) → Stands h p → Stands next p
    step_stands p stands = elim (cases_eq r p) [
      | inl same ↦ let here : r ≡ p = same in subst (λ q. Stands h q → Stands next q) here own_stands stands
      | inr other ↦ others_stand p other stands
    ]

    -- ---- a process that reads

    -- the cells of its unit are fresh
    pub reads_fresh : (p c : ℕ) (s : Proc) → slice_get now.world.procs p ≡ Some s → need setting.program setting.plan now.world p ≡ Read c → StandsAs h p s → AreFresh setting h p
    reads_fresh p c s is reads stands = elim stands [
      | inl over ↦ absurd (no_read c (need_of setting.program setting.plan s) (inl (over_step setting.program setting.plan (answer now.world (need setting.program setting.plan now.world p)) s over).0) needs)
      | inr rest ↦ elim rest [
        | inl goes ↦ goes.1
        | inr marked ↦ absurd (elim (marked_step setting.program setting.plan (answer now.world (need setting.program setting.plan now.world p)) s marked.0 marked.1 marked.2) [
          | inl done ↦ no_read c (need_of setting.program setting.plan s) (inr (inl (marked.0, done.0, done.1))) needs
          | inr stops ↦ no_read c (need_of setting.program setting.plan s) (inr (inr stops.0)) needs
        ])
      ]
    ]
      where
        needs : need_of setting.program setting.plan s ≡ Read c
        needs = sym (ap (need_at setting.program setting.plan) is) ∙ reads

        no_read : (c : ℕ) (n : Need) → (n ≡ Stopped) ⊎ (((d : ℕ) × (u : ℕ) × (n ≡ Done d u)) ⊎ (n ≡ Budget)) → n ≡ Read c → ⊥
        no_read c n (inl e) f = let never : Stopped ≡ Read c = sym e ∙ f in cc
        no_read c n (inr (inl e)) f = let never : Done e.0 e.1 ≡ Read c = sym e.2 ∙ f in cc
        no_read c n (inr (inr e)) f = let never : Budget ≡ Read c = sym e ∙ f in cc
