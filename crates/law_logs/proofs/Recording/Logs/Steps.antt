-- A log stays lawful by each step of its process.
use Rattle.ppd_model.specs.Setting.{setting_of}
use Rattle.ppd_codec.specs.Recordings.{facts_of}
use Rattle.std.proofs.Common.{◌≡◌, ◌≢◌, ℕ, zero, suc, ◌+◌, ◌*◌, ◌<◌, ◌≤◌, ◌^◌, ℤ, Bool, true, List, [], ◌∷◌, ◌++◌, Option, Some, None, refl, ap, sym, ◌∙◌, subst, length, arith, inl, inr, ◌⊎◌}
use Rattle.std.specs.Prelude.{nat_eq, slice_get}
use Rattle.std.specs.List.{list_any}
use Rattle.std.proofs.lemmas.Bool.Decides.{nat_tests}
use Rattle.std.proofs.lemmas.Option.{none-some}
use Rattle.ppd_ast.specs.Valid.{IsValid}
use Rattle.ppd_ast.specs.ValidPlan.{IsValidPlan}
use Rattle.ppd_ast.specs.declared.limits.TheConstants.{MOST_SHARED_CELLS, MOST_BUDGET}
use Rattle.ppd_ast.specs.declared.plan.Plan.{Plan}
use Rattle.ppd_ast.specs.declared.program.Chan.{Chan}
use Rattle.ppd_ast.specs.declared.program.Program.{Program}
use Rattle.ppd_ast.specs.declared.status.Status.{Status}
use Rattle.ppd_ast.specs.declared.status.Status.TheVariants as status
use Rattle.ppd_model.specs.declared.entry.Entry.{Entry}
use Rattle.ppd_sem.specs.declared.proc.Answer.{Answer}
use Rattle.ppd_sem.specs.declared.proc.Need.{Need}
use Rattle.ppd_sem.specs.declared.proc.Need.TheVariants as n
use Rattle.ppd_sem.specs.Laws.{NamesThere, OffersAreCompleted}
use Rattle.ppd_sem.specs.Offers.{Offers, OffersAtHead}
use Rattle.ppd_sem.specs.Process.{need_of, value_of}
use Rattle.ppd_sem.specs.Tables.{capacity_of}
use Rattle.ppd_sem.proofs.TableWords.{capacity_in}
use Rattle.ppd_sem.proofs.Needs.{needs-there}
use Rattle.ppd_sem.proofs.Offering.{offers_completed}
use Rattle.ppd_sem.proofs.Progress.{need_at_status}
use Rattle.ppd_model.specs.declared.state.Logging.{Logging}
use Rattle.ppd_model.specs.Costs.{CostsWhatItWrites, IsFree, IsPaid, values_in}
use Rattle.ppd_model.specs.Logs.{entries_of, log_step, rest_after, status_of, with_access}
use Rattle.ppd_model.specs.Story.{Moment}
use Rattle.ppd_model.proofs.Statuses.{status_after}
use Rattle.law_logs.specs.Recording.Values.{IsConstantOf64Bits}
use Rattle.law_logs.proofs.Recording.Logs.Entries.{AreRows, IsLawful, IsReady, moment, new_lawful, short}
use Rattle.law_logs.proofs.Recording.Fit.{All, Fit, SomeFits, all_append}
use Rattle.law_logs.proofs.Recording.Values.Kept.{LocalsFit, NeedFits, act_kept, need_fits}
use Rattle.law_logs.proofs.Recording.Logs.Numbers.{NeedNumbered, Small, calls, need_numbered}
use Rattle.law_logs.proofs.Recording.Logs.Rows.{row_with}
use Rattle.law_logs.proofs.Recording.Logs.Sizes.{ending, going, noted, sizes, sizes_append, stopping}
use Rattle.ppd_check.proofs.Limits.Signs.{or_true}

-- ---- channels of capacity 0

abbrev pub is_rendezvous : Chan → Bool
is_rendezvous c = nat_eq c.capacity 0

any_there : (chans : List Chan) (c : ℕ) → c < length chans → capacity_in (slice_get chans c) ≡ 0 → list_any is_rendezvous chans ≡ true
any_there [] c lt e = absurd (omega (arith, lt))
any_there (x ∷ xs) zero lt e = let f : nat_eq x.capacity 0 ≡ true = grind (arith, nat_tests) in rw (f) refl
any_there (x ∷ xs) (suc c) lt e = or_true (is_rendezvous x) (list_any is_rendezvous xs) (any_there xs c (omega (arith, lt)) e)

version_two : (p : Program) → list_any is_rendezvous p.chans ≡ true → nat_eq (facts_of p).version 2 ≡ true
version_two p e = rw (e) refl

budget_or : (need : Need) → (need ≡ n.Budget) ⊎ (need ≢ n.Budget)
budget_or n.Budget = inl refl
budget_or need = inr (λ e. cc)

rest_one : (r : ℕ) (es : List Entry) → rest_after r es ≤ r + 1
rest_one r [] = omega arith
rest_one r (e ∷ es) = omega arith

-- the bytes of the entries at a process's start, at most
abbrev pub START : ℕ
START = 8202

module _ (program : Program) (plan : Plan) (v : IsValid program) (w : IsValidPlan program plan) (table : All IsConstantOf64Bits program.exprs) (budget : ℕ) where
  abbrev Rows : Logging → Type 0
  Rows l = AreRows program plan v w table l

  abbrev pub Lawful : Entry → Type 0
  Lawful e = IsLawful program plan v w table e

  -- the bytes of a log, with those that its noted cells will take
  abbrev pub AreBytes : Logging → Type 0
  AreBytes l =
      ((l.proc.status ≡ None) × (sizes l.entries + noted l ≤ START + 26 * l.proc.spent))
      ⊎ ((how : Status) × (l.proc.status ≡ Some how) × (sizes l.entries ≤ START + 26 * l.proc.spent + 10))

  pub record IsFine (l : Logging) : Type 0 where
    pub locals : LocalsFit l.proc
    pub rows : AreRows program plan v w table l
    pub entries : All Lawful l.entries
    pub steps : l.proc.steps ≤ l.proc.spent
    pub spent : l.proc.spent ≤ budget
    pub rest : l.rest ≤ l.proc.steps
    pub bytes : AreBytes l
    pub offers : OffersAtHead program l.proc.todo
    pub done : (c u : ℕ) → need_of program plan l.proc ≡ n.Done c u → capacity_of program c ≡ 0

  rows_after : (need : Need) (l : Logging) → NamesThere program need → Rows l → Rows (with_access need l)
  rows_after (n.Read c) l there rows = (row_with (length program.starts) 0 c l.reads (omega arith) there rows.0, rows.1)
  rows_after (n.Write c x) l there rows = (rows.0, row_with (length program.starts) 0 c l.writes (omega arith) there rows.1)
  rows_after (n.P o u) l there rows = (tt, tt)
  rows_after (n.V o u) l there rows = (tt, tt)
  rows_after (n.Send c x u) l there rows = (tt, tt)
  rows_after (n.Offer c x) l there rows = (tt, tt)
  rows_after (n.Done c u) l there rows = (tt, tt)
  rows_after (n.Recv c u) l there rows = (tt, tt)
  rows_after need l there rows = rows

  -- what the world gives to the step
  pub record IsGiven (a : Answer) (number : Option ℕ) (vs : List ℤ) : Type 0 where
    pub value : Fit (value_of a)
    pub in_range : SomeFits (λ j. (1 ≤ j) × (j < 2 ^ 32)) number
    pub few : length vs ≤ MOST_SHARED_CELLS
    pub values : All Fit vs

  module _ (l : Logging) (need : Need) (a : Answer) (number : Option ℕ) (vs : List ℤ) (is : need ≡ need_of program plan l.proc) (goes : need ≢ n.Stopped) (given : IsGiven a number vs)
      (cost : CostsWhatItWrites (setting_of program plan budget) l (moment program plan v w table need a number vs)) (fine : IsFine l) (most : budget ≤ MOST_BUDGET) where
    abbrev m : Moment
    m = moment program plan v w table need a number vs

    abbrev after : Logging
    after = log_step program plan l m

    abbrev new : List Entry
    new = entries_of program plan l m

    runs : l.proc.status ≡ None
    runs = by l.proc.status refl
      where
        by : (o : Option Status) → l.proc.status ≡ o → l.proc.status ≡ None
        by None e = e
        by (Some x) e = absurd (goes (is ∙ need_at_status program plan l.proc (Some x) e))

    status_is : after.proc.status ≡ status_of need
    status_is = status_after program plan a l.proc runs ∙ ap status_of (sym is)

    there : NamesThere program need
    there = subst (NamesThere program) (sym is) (needs-there program plan l.proc v)

    two : (c u : ℕ) → need ≡ n.Done c u → nat_eq (facts_of program).version 2 ≡ true
    two c u e = version_two program (any_there program.chans c (subst (NamesThere program) e there) (fine.done c u (sym is ∙ e)))

    within : l.rest < 2 ^ 32
    within = omega (arith, fine.rest, fine.steps, fine.spent, most)

    ready : IsReady program plan v w table l need a number vs
    ready = record {
      locals = fine.locals;
      rows = fine.rows;
      rest = within;
      values = subst (NeedFits Small program plan table (calls program plan v w) (short program plan v w table)) (sym is) (need_fits Small program plan table (calls program plan v w) (short program plan v w table) l.proc fine.locals);
      given = given.value;
      numbers = subst (NeedNumbered program plan v w) (sym is) (need_numbered program plan v w l.proc);
      there = there;
      done = two;
      in_range = given.in_range;
      few_values = given.few;
      unit_values = given.values;
    }

    -- ---- what the step costs

    record IsCharged : Type 0 where
      steps : after.proc.steps ≤ after.proc.spent
      spent : after.proc.spent ≤ budget
      rest : after.rest ≤ after.proc.steps
      bytes : AreBytes after

    all_new : sizes (l.entries ++ new) ≡ sizes l.entries + sizes new
    all_new = sizes_append l.entries new

    before : sizes l.entries + noted l ≤ START + 26 * l.proc.spent
    before = elim fine.bytes [ inl b ↦ b.1 | inr b ↦ absurd (none-some b.0 (sym runs ∙ b.1)) ]

    charged : IsPaid (setting_of program plan budget) l m → need ≢ n.Budget → IsCharged
    charged p real =
        let cost' : after.proc.spent ≡ l.proc.spent + (1 + values_in new) = p.cost in
        let within' : l.proc.spent + (1 + values_in new) ≤ budget = p.within in
        let counted : after.proc.steps ≡ l.proc.steps + 1 = p.counted in
        let old : l.proc.steps ≤ l.proc.spent = fine.steps in
        let rest' : after.rest ≤ l.rest + 1 = rest_one l.rest new in
        record {
          steps = omega (arith, cost', counted, old);
          spent = omega (arith, cost', within');
          rest = omega (arith, counted, rest', fine.rest);
          bytes = by (status_of need) refl;
        }
      where
        by : (o : Option Status) → status_of need ≡ o → AreBytes after
        by None e =
            let cost' : after.proc.spent ≡ l.proc.spent + (1 + values_in new) = p.cost in
            let g : sizes new + noted (with_access need l) ≤ noted l + 26 * (1 + values_in new) = going program plan l a vs need number goes e in
            inl (status_is ∙ e, omega (arith, all_new, before, g, cost'))
        by (Some how) e =
            let cost' : after.proc.spent ≡ l.proc.spent + (1 + values_in new) = p.cost in
            let g : sizes new ≤ noted l + 26 * (1 + values_in new) = ending program plan l a vs need number how real e in
            inr (how, status_is ∙ e, omega (arith, all_new, before, g, cost'))

    freed : IsFree program plan l m → need ≡ n.Budget → IsCharged
    freed p stops =
        let cost' : after.proc.spent ≡ l.proc.spent = p.cost in
        let counted : after.proc.steps ≡ l.proc.steps = p.counted in
        let rest' : after.rest ≡ 0 = ap (λ x. rest_after l.rest (entries_of program plan l (moment program plan v w table x a number vs))) stops in
        let g : sizes new ≤ noted l + 10 =
        subst (λ x. sizes (entries_of program plan l (moment program plan v w table x a number vs)) ≤ noted l + 10) (sym stops) (stopping program plan l a vs number) in
        record {
          steps = omega (arith, cost', counted, fine.steps);
          spent = omega (arith, cost', fine.spent);
          rest = omega (arith, rest');
          bytes = inr (status.Budget, status_is ∙ ap status_of stops, omega (arith, all_new, before, g, cost'));
        }

    charges : IsCharged
    charges = elim (budget_or need) [ inl e ↦ freed (cost.free e) e | inr d ↦ charged (cost.paid goes d) d ]

    done_after : (c u : ℕ) → need_of program plan after.proc ≡ n.Done c u → capacity_of program c ≡ 0
    done_after c u e =
        let o : OffersAreCompleted = offers_completed in
        let offer : Offers c (need_of program plan l.proc) = (o.offered program plan l.proc a c u fine.offers e).1 in
        subst (NeedNumbered program plan v w) offer.1 (need_numbered program plan v w l.proc)

    pub fine_after : IsFine after
    fine_after =
        let o : OffersAreCompleted = offers_completed in
        let c : IsCharged = charges in
        record {
          locals = act_kept Small program plan table (calls program plan v w) (short program plan v w table) l.proc a given.value fine.locals;
          rows = rows_after need l there fine.rows;
          entries = all_append Lawful l.entries new fine.entries (new_lawful program plan v w table l need a number vs ready);
          steps = c.steps;
          spent = c.spent;
          rest = c.rest;
          bytes = c.bytes;
          offers = o.stays program plan l.proc a fine.offers;
          done = done_after;
        }
