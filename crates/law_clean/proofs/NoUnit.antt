-- After a synchronization that starts no unit, an offer, no unit comes next in a process's log.
use Rattle.std.proofs.Common.{◌≡◌, ℕ, ℤ, Bool, true, false, List, [], ◌∷◌, ◌++◌, Option, Some, None, refl, ap, sym, subst, ◌∙◌, inl, inr, true≢false}
use Rattle.std.proofs.lemmas.Option.{none-some}
use Rattle.std.specs.Prelude.{is_none, is_some, slice_get, if◌then◌else◌}
use Rattle.ppd_ast.specs.declared.plan.Plan.{Plan}
use Rattle.ppd_ast.specs.declared.plan.Start.TheVariants as start
use Rattle.ppd_ast.specs.declared.program.Program.{Program}
use Rattle.ppd_ast.specs.declared.status.Status.{Status}
use Rattle.ppd_ast.specs.declared.status.Status.TheVariants as status
use Rattle.ppd_model.specs.declared.entry.Entry.{Entry}
use Rattle.ppd_model.specs.declared.entry.Entry.TheVariants as entry
use Rattle.ppd_sem.specs.declared.proc.Need.{Need}
use Rattle.ppd_sem.specs.declared.proc.Need.TheVariants as need
use Rattle.ppd_sem.specs.declared.proc.Proc.{Proc}
use Rattle.ppd_sem.specs.declared.proc.Todo.{Todo}
use Rattle.ppd_sem.specs.Offers.{Completes}
use Rattle.ppd_sem.specs.Passed.{next_stmt_of}
use Rattle.ppd_sem.specs.Process.{act, need_of}
use Rattle.ppd_sem.proofs.NeedWords.{need_by_status, need_of_running}
use Rattle.ppd_sem.specs.Tables.{unit_of}
use Rattle.ppd_sem.proofs.Offering.{offers_completed}
use Rattle.ppd_model.specs.declared.state.Logging.{Logging}
use Rattle.ppd_model.specs.Logs.{entries_of, log_step}
use Rattle.ppd_model.specs.Story.{Moment, unit_started}
use Rattle.ppd_model.specs.Synchronizations.{kind_of_sync}
use Rattle.law_steps.proofs.Coming.Later.{closing}
use Rattle.law_steps.specs.OpenBlocks.Run.{IsNumbered, IsRun}
use Rattle.law_clean.specs.Cuts.{is_unit}
use Rattle.law_clean.proofs.CutIs.{tail}

-- a synchronization that starts no unit is an offer
offer_only : (n : Need) → is_some (kind_of_sync n) ≡ true → unit_started n ≡ None → (c : ℕ) × (v : ℤ) × (n ≡ need.Offer c v)
offer_only (need.P s u) f e = absurd (none-some u (sym e))
offer_only (need.V s u) f e = absurd (none-some u (sym e))
offer_only (need.Send c v u) f e = absurd (none-some u (sym e))
offer_only (need.Done c u) f e = absurd (none-some u (sym e))
offer_only (need.Recv c u) f e = absurd (none-some u (sym e))
offer_only (need.Offer c v) f e = (c, v, refl)
offer_only n f e = absurd (true≢false (sym f))

no_offer : {c : ℕ} {v : ℤ} → need.Stopped ≡ need.Offer c v → ⊥
no_offer e = true≢false (ap (λ (n : Need). elim n [ need.Stopped ↦ true | _ ↦ false ]) e)

module _ (program : Program) (plan : Plan) where
  closing_plain : (l : Logging) → is_unit (slice_get (closing l) 0) ≡ false
  closing_plain l = by (is_none l.proc.status)
    where
      by : (b : Bool) → is_unit (slice_get (if b then entry.End status.Blocked l.rest l.reads l.writes ∷ [] else []) 0) ≡ false
      by true = refl
      by false = refl

  -- a completion, or a stop for the budget, writes no unit first
  first_plain : (l : Logging) (m : Moment) (c u : ℕ) (rest : List Entry) → Completes c u m.taken.need → IsNumbered (is_some (kind_of_sync m.taken.need)) m.taken.number
      → is_unit (slice_get (entries_of program plan l m ++ rest) 0) ≡ false
  first_plain l m c u rest (inl done) numbered =
      let k : (n : ℕ) × (m.taken.number ≡ Some n) = subst (λ n. IsNumbered (is_some (kind_of_sync n)) m.taken.number) done numbered in
      ap (λ n. is_unit (slice_get (entries_of program plan l (record { taken = record { need = n; answer = m.taken.answer; writer = m.taken.writer; number = m.taken.number }; unit_values = m.unit_values }) ++ rest) 0)) done
      ∙ ap (λ o. is_unit (slice_get (entries_of program plan l (record { taken = record { need = need.Done c u; answer = m.taken.answer; writer = m.taken.writer; number = o }; unit_values = m.unit_values }) ++ rest) 0)) k.1
  first_plain l m c u rest (inr budget) numbered =
      ap (λ n. is_unit (slice_get (entries_of program plan l (record { taken = record { need = n; answer = m.taken.answer; writer = m.taken.writer; number = m.taken.number }; unit_values = m.unit_values }) ++ rest) 0)) budget

  -- m is the step of state s, and l the log after it
  pub no_unit : (s : Proc) (m : Moment) (l : Logging) (more : List Moment) → is_some (kind_of_sync m.taken.need) ≡ true → m.taken.need ≡ need_of program plan s → l.proc ≡ act program plan s m.taken.answer
      → IsRun program plan l.proc more → unit_started m.taken.need ≡ None → is_unit (slice_get (tail program plan l more) 0) ≡ false
  no_unit s m l [] sync is after run none = closing_plain l
  no_unit s m l (x ∷ xs) sync is after run none =
      let offer = offer_only m.taken.need sync none in
      by s.todo refl offer.0 offer.1 (sym is ∙ offer.2)
    where
      by : (todo : List Todo) → s.todo ≡ todo → (c : ℕ) (v : ℤ) → need_of program plan s ≡ need.Offer c v → is_unit (slice_get (entries_of program plan l x ++ tail program plan (log_step program plan l x) xs) 0) ≡ false
      by [] at c v offers = absurd (no_todo s.status offers)
        where
          no_todo : (o : Option Status) → need_by_status program plan o s ≡ need.Offer c v → ⊥
          no_todo None e = no_offer (sym (ap (λ ts. need_of_running program plan ts s) at) ∙ e)
          no_todo (Some z) e = no_offer e
      by (t ∷ ts) at c v offers =
          let done : Completes c (unit_of plan (start.After t.stmt)) (need_of program plan (act program plan s m.taken.answer)) =
          (offers_completed.completed program plan s m.taken.answer t.stmt c v (ap next_stmt_of at) offers).1 in
          first_plain l x c (unit_of plan (start.After t.stmt)) (tail program plan (log_step program plan l x) xs)
          (subst (Completes c (unit_of plan (start.After t.stmt))) (ap (need_of program plan) (sym after) ∙ sym run.0) done) run.2
