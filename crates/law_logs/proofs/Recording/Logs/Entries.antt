-- The entries that a step writes are lawful.
use Rattle.law_logs.proofs.Recording.Fit.{All, Fit, SomeFits, all_append, all_more}
use Rattle.law_logs.proofs.Recording.Logs.Numbers.{NeedNumbered, Small, block_small, calls, loop_postlog, loop_prelog}
use Rattle.law_logs.proofs.Recording.Logs.Rows.{IsRow, row_lawful}
use Rattle.law_logs.proofs.Recording.Values.Kept.{LocalsFit, NeedFits, arguments_fit, cells_fit, result_fits}
use Rattle.law_logs.specs.Recording.Values.{IsConstantOf64Bits}
use Rattle.ppd_ast.specs.Valid.{IsValid}
use Rattle.ppd_ast.specs.ValidPlan.{IsValidPlan}
use Rattle.ppd_ast.specs.declared.limits.TheConstants.{MOST_SHARED_CELLS}
use Rattle.ppd_ast.specs.declared.plan.BlockKind.TheVariants as block
use Rattle.ppd_ast.specs.declared.plan.Plan.{Plan}
use Rattle.ppd_ast.specs.declared.program.Program.{Program}
use Rattle.ppd_ast.specs.declared.status.Status.{Status}
use Rattle.ppd_ast.specs.declared.status.Status.TheVariants as status
use Rattle.ppd_ast.specs.declared.status.SyncKind.{SyncKind}
use Rattle.ppd_ast.specs.declared.status.SyncKind.TheVariants as kind
use Rattle.ppd_ast.specs.declared.status.Trap.TheVariants as trap
use Rattle.ppd_codec.specs.Format.{an_entry, numbered as numbered_form}
use Rattle.ppd_codec.specs.Recordings.{facts_of}
use Rattle.ppd_codec_fields.specs.Fields.{fits_kind, kind_code, kinds, status_code, statuses}
use Rattle.ppd_model.specs.declared.entry.Entry.{Entry}
use Rattle.ppd_model.specs.declared.entry.Entry.TheVariants as entry
use Rattle.ppd_model.specs.Logs.{block_entries, ends, entries_of, passed_value, status_of, syncs, units}
use Rattle.ppd_model.specs.Marks.{Mark, closed, opened}
use Rattle.ppd_model.specs.Story.{Moment, unit_started}
use Rattle.ppd_model.specs.Synchronizations.{kind_of_sync, numbered, sync_of}
use Rattle.ppd_model.specs.declared.state.Logging.{Logging}
use Rattle.ppd_model.specs.declared.tracing.Taken.{Taken}
use Rattle.ppd_sem.proofs.Arithmetic.{true-fits}
use Rattle.ppd_sem.proofs.EventWords.{result_of_head}
use Rattle.ppd_sem.specs.Blocks.{postlog_cells, prelog_cells}
use Rattle.ppd_sem.specs.Laws.{NamesThere}
use Rattle.ppd_sem.specs.Process.{top_frame, value_of}
use Rattle.ppd_sem.specs.declared.proc.Answer.{Answer}
use Rattle.ppd_sem.specs.declared.proc.Need.{Need}
use Rattle.ppd_sem.specs.declared.proc.Need.TheVariants as n
use Rattle.ppd_sem.specs.declared.proc.Proc.{Proc}
use Rattle.std.proofs.Common.{Bool, FitsSigned, List, None, Option, Some, [], arith, false, if◌then◌else◌, length, map, refl, subst, sym, true, w64, ℕ, ℤ, ◌++◌, ◌<◌, ◌^◌, ◌∙◌, ◌∷◌, ◌≡◌, ◌≤◌}
use Rattle.std.proofs.lemmas.Bool.Decides.{nat_tests}
use Rattle.std.proofs.lemmas.List.{length-map}
use Rattle.std.specs.List.{find}
use Rattle.std.specs.Prelude.{get_or, nat_eq, nat_le, option_to_list, pos}

abbrev coded : {A : Type 0} → (A → ℕ) → List A → ℕ → Option A
coded code all n = find (λ x. nat_eq (code x) n) all

pub signed : (vs : List ℤ) → All Fit vs → All (FitsSigned w64) vs
signed vs h = all_more Fit (FitsSigned w64) vs true-fits h

numbered_lawful : (b : ℕ) (vs : List ℤ) → Small b → Small (length vs) → All Fit vs → numbered_form.Lawful (b, vs)
numbered_lawful b vs sb sl h = (sb, (sl, signed vs h))

kind_lawful : (version : ℕ) (k : SyncKind) → (k ≡ kind.Done → nat_eq version 2 ≡ true) → (kind_code k < 2 ^ 8) × (coded kind_code (kinds version) (kind_code k) ≡ Some k)
kind_lawful version k done = (small k, by (nat_eq version 2) refl)
  where
    small : (k : SyncKind) → kind_code k < 2 ^ 8
    small kind.P = omega arith
    small kind.V = omega arith
    small kind.Send = omega arith
    small kind.Recv = omega arith
    small kind.Done = omega arith

    of_two : (k : SyncKind) → coded kind_code (kind.P ∷ kind.V ∷ kind.Send ∷ kind.Recv ∷ kind.Done ∷ []) (kind_code k) ≡ Some k
    of_two kind.P = refl
    of_two kind.V = refl
    of_two kind.Send = refl
    of_two kind.Recv = refl
    of_two kind.Done = refl

    of_one : (k : SyncKind) → (k ≡ kind.Done → true ≡ false) → coded kind_code (kind.P ∷ kind.V ∷ kind.Send ∷ kind.Recv ∷ []) (kind_code k) ≡ Some k
    of_one kind.P never = refl
    of_one kind.V never = refl
    of_one kind.Send never = refl
    of_one kind.Recv never = refl
    of_one kind.Done never = let f : true ≡ false = never refl in cc

    by : (b : Bool) → nat_eq version 2 ≡ b → coded kind_code (if b then kind.P ∷ kind.V ∷ kind.Send ∷ kind.Recv ∷ kind.Done ∷ [] else kind.P ∷ kind.V ∷ kind.Send ∷ kind.Recv ∷ []) (kind_code k) ≡ Some k
    by true e = of_two k
    by false e = of_one k (λ is. sym (done is) ∙ e)

status_lawful : (s : Status) → (status_code s < 2 ^ 8) × (coded status_code statuses (status_code s) ≡ Some s)
status_lawful status.Ended = (omega arith, refl)
status_lawful (status.Trap trap.Overflow) = (omega arith, refl)
status_lawful (status.Trap trap.Zero) = (omega arith, refl)
status_lawful (status.Trap trap.Index) = (omega arith, refl)
status_lawful (status.Trap trap.Assert) = (omega arith, refl)
status_lawful (status.Trap trap.Depth) = (omega arith, refl)
status_lawful status.Budget = (omega arith, refl)
status_lawful status.Blocked = (omega arith, refl)

module _ (program : Program) (plan : Plan) (v : IsValid program) (w : IsValidPlan program plan) (table : All IsConstantOf64Bits program.exprs) where
  abbrev pub IsLawful : Entry → Type 0
  IsLawful e = (an_entry (facts_of program)).Lawful e

  few : length program.starts ≤ MOST_SHARED_CELLS
  few = v.limits.starts

  pub prelog_lawful : (b : ℕ) (vs : List ℤ) → Small b → Small (length vs) → All Fit vs → IsLawful (entry.Prelog b vs)
  prelog_lawful b vs sb sl h = ((omega arith, refl), numbered_lawful b vs sb sl h)

  pub unit_lawful : (u : ℕ) (vs : List ℤ) → Small u → Small (length vs) → All Fit vs → IsLawful (entry.Unit u vs)
  unit_lawful u vs sb sl h = ((omega arith, refl), numbered_lawful u vs sb sl h)

  postlog_lawful : (b : ℕ) (vs : List ℤ) → Small b → Small (length vs) → All Fit vs → IsLawful (entry.Postlog b vs)
  postlog_lawful b vs sb sl h = ((omega arith, refl), numbered_lawful b vs sb sl h)

  -- the cells that a log notes are rising shared cells
  abbrev pub AreRows : Logging → Type 0
  AreRows l = IsRow (length program.starts) 0 l.reads × IsRow (length program.starts) 0 l.writes

  sync_lawful : (k : SyncKind) (o j : ℕ) (x : ℤ) (l : Logging) → (k ≡ kind.Done → nat_eq (facts_of program).version 2 ≡ true) → o < 2 ^ 8 → 1 ≤ j → j < 2 ^ 32 → Fit x → fits_kind k x ≡ true → AreRows l
      → IsLawful (entry.Sync k o j x l.reads l.writes)
  sync_lawful k o j x l done object least most fit fits rows =
      let one : nat_le 1 j ≡ true = grind (arith, nat_tests) in (
        (omega arith, refl),
        (kind_lawful (facts_of program).version k done, (object, ((most, one), ((true-fits x fit, fits), (row_lawful (length program.starts) l.reads few rows.0, row_lawful (length program.starts) l.writes few rows.1))))),
      )

  pub end_lawful : (s : Status) (l : Logging) → l.rest < 2 ^ 32 → AreRows l → IsLawful (entry.End s l.rest l.reads l.writes)
  end_lawful s l rest rows = ((omega arith, refl), (status_lawful s, (rest, (row_lawful (length program.starts) l.reads few rows.0, row_lawful (length program.starts) l.writes few rows.1))))

  -- ---- blocks

  abbrev MarkFits : Mark → Type 0
  MarkFits m = Small m.block × Small (length m.values) × All Fit m.values

  prelogs_lawful : (o : Option Mark) → SomeFits MarkFits o → All IsLawful (block_entries entry.Prelog o)
  prelogs_lawful None h = tt
  prelogs_lawful (Some m) h = (prelog_lawful m.block m.values h.0 h.1 h.2, tt)

  postlogs_lawful : (o : Option Mark) → SomeFits MarkFits o → All IsLawful (block_entries entry.Postlog o)
  postlogs_lawful None h = tt
  postlogs_lawful (Some m) h = (postlog_lawful m.block m.values h.0 h.1 h.2, tt)

  many : (s : Proc) (cs : List ℕ) → length cs < 2 ^ 16 → Small (length (map (λ c. get_or (top_frame s.frames).cells c (pos 0)) cs))
  many s cs lt = subst (λ k. k < 2 ^ 16) (sym (length-map cs (λ c. get_or (top_frame s.frames).cells c (pos 0)))) lt

  pub short : Small 0
  short = omega arith

  opened_fits : (s : Proc) (need : Need) → LocalsFit s → NeedNumbered program plan v w need → SomeFits MarkFits (opened program plan s need)
  opened_fits s (n.Enter b u) h k =
      (block_small program plan v w (block.Loop k.0.0) b k.0.1, many s (prelog_cells plan b) (loop_prelog program plan v w k.0.0 b k.0.1), cells_fit Small program plan table (calls program plan v w) short s (prelog_cells plan b) h)
  opened_fits s (n.Invoke (Some b) u) h k = let a = arguments_fit Small program plan table (calls program plan v w) short s h in (k.0, a.1, a.0)
  opened_fits s (n.Invoke None u) h k = tt
  opened_fits s need h k = tt

  one_at_most : (o : Option ℤ) → Small (length (option_to_list o))
  one_at_most None = omega arith
  one_at_most (Some x) = omega arith

  closed_fits : (s : Proc) (need : Need) → LocalsFit s → NeedNumbered program plan v w need → SomeFits MarkFits (closed program plan s need)
  closed_fits s (n.Leave b u) h k =
      (block_small program plan v w (block.Loop k.0.0) b k.0.1, many s (postlog_cells plan b) (loop_postlog program plan v w k.0.0 b k.0.1), cells_fit Small program plan table (calls program plan v w) short s (postlog_cells plan b) h)
  closed_fits s (n.Back (Some b) u) h k = (k.0, one_at_most (result_of_head program s _), result_fits Small program plan table (calls program plan v w) short s h)
  closed_fits s (n.Back None u) h k = tt
  closed_fits s (n.End b) h k = (k, omega arith, tt)
  closed_fits s need h k = tt

  -- ---- units

  unit_fits : (need : Need) → NeedNumbered program plan v w need → SomeFits Small (unit_started need)
  unit_fits (n.Enter b u) k = k.1
  unit_fits (n.Leave b u) k = k.1
  unit_fits (n.Invoke b u) k = k.1
  unit_fits (n.Back b u) k = k.1
  unit_fits (n.P o u) k = k
  unit_fits (n.V o u) k = k
  unit_fits (n.Send c x u) k = k
  unit_fits (n.Done c u) k = k
  unit_fits (n.Recv c u) k = k
  unit_fits need k = tt

  units_lawful : (o : Option ℕ) (vs : List ℤ) → SomeFits Small o → length vs ≤ MOST_SHARED_CELLS → All Fit vs → All IsLawful (units o vs)
  units_lawful None vs h few' k = tt
  units_lawful (Some u) vs h few' k = (unit_lawful u vs h (omega (arith, few')) k, tt)

  -- ---- synchronizations

  sync_of_lawful : (l : Logging) (x : Taken) (k : SyncKind) (o : ℕ) (number : Option ℕ) → (k ≡ kind.Done → nat_eq (facts_of program).version 2 ≡ true) → o < 2 ^ 8
      → SomeFits (λ j. (1 ≤ j) × (j < 2 ^ 32)) number → Fit (passed_value x.need x.answer) → fits_kind k (passed_value x.need x.answer) ≡ true → AreRows l
      → All IsLawful (syncs l x (numbered (Some (k, o)) number))
  sync_of_lawful l x k o None done object number fit fits rows = tt
  sync_of_lawful l x k o (Some j) done object number fit fits rows = (sync_lawful k o j (passed_value x.need x.answer) l done object number.0 number.1 fit fits rows, tt)

  abbrev taken : Need → Answer → Option ℕ → Taken
  taken need a number = record { need = need; answer = a; writer = None; number = number }

  syncs_lawful : (l : Logging) (need : Need) (a : Answer) (number : Option ℕ) → NeedFits Small program plan table (calls program plan v w) short need → Fit (value_of a) → NamesThere program need
      → ((c u : ℕ) → need ≡ n.Done c u → nat_eq (facts_of program).version 2 ≡ true) → SomeFits (λ j. (1 ≤ j) × (j < 2 ^ 32)) number → AreRows l
      → All IsLawful (syncs l (record { need = need; answer = a; writer = None; number = number }) (numbered (kind_of_sync need) number))
  syncs_lawful l (n.P o u) a number fit af there done k rows = sync_of_lawful l (taken (n.P o u) a number) kind.P o number (λ e. absurd cc) (omega (arith, there, v.limits.sem_count)) k refl refl rows
  syncs_lawful l (n.V o u) a number fit af there done k rows = sync_of_lawful l (taken (n.V o u) a number) kind.V o number (λ e. absurd cc) (omega (arith, there, v.limits.sem_count)) k refl refl rows
  syncs_lawful l (n.Send c x u) a number fit af there done k rows = sync_of_lawful l (taken (n.Send c x u) a number) kind.Send c number (λ e. absurd cc) (omega (arith, there, v.limits.chan_count)) k fit refl rows
  syncs_lawful l (n.Offer c x) a number fit af there done k rows = sync_of_lawful l (taken (n.Offer c x) a number) kind.Send c number (λ e. absurd cc) (omega (arith, there, v.limits.chan_count)) k fit refl rows
  syncs_lawful l (n.Done c u) a number fit af there done k rows = sync_of_lawful l (taken (n.Done c u) a number) kind.Done c number (λ e. done c u refl) (omega (arith, there, v.limits.chan_count)) k refl refl rows
  syncs_lawful l (n.Recv c u) a number fit af there done k rows = sync_of_lawful l (taken (n.Recv c u) a number) kind.Recv c number (λ e. absurd cc) (omega (arith, there, v.limits.chan_count)) k af refl rows
  syncs_lawful l need a number fit af there done k rows = tt

  -- ---- one step

  ends_lawful : (l : Logging) (o : Option Status) → l.rest < 2 ^ 32 → AreRows l → All IsLawful (ends l o)
  ends_lawful l None rest rows = tt
  ends_lawful l (Some s) rest rows = (end_lawful s l rest rows, tt)

  -- what is known of a process before a step of this need, and of the step
  pub record IsReady (l : Logging) (need : Need) (a : Answer) (number : Option ℕ) (vs : List ℤ) : Type 0 where
    pub locals : LocalsFit l.proc
    pub rows : AreRows l
    pub rest : l.rest < 2 ^ 32
    pub values : NeedFits Small program plan table (calls program plan v w) short need
    pub given : Fit (value_of a)
    pub numbers : NeedNumbered program plan v w need
    pub there : NamesThere program need
    pub done : (c u : ℕ) → need ≡ n.Done c u → nat_eq (facts_of program).version 2 ≡ true
    pub in_range : SomeFits (λ j. (1 ≤ j) × (j < 2 ^ 32)) number
    pub few_values : length vs ≤ MOST_SHARED_CELLS
    pub unit_values : All Fit vs

  abbrev pub moment : Need → Answer → Option ℕ → List ℤ → Moment
  moment need a number vs = record { taken = record { need = need; answer = a; writer = None; number = number }; unit_values = vs }

  pub new_lawful : (l : Logging) (need : Need) (a : Answer) (number : Option ℕ) (vs : List ℤ) → IsReady l need a number vs → All IsLawful (entries_of program plan l (moment need a number vs))
  new_lawful l need a number vs r =
      let p : List Entry = block_entries entry.Prelog (opened program plan l.proc need) in
      let s : List Entry = syncs l (moment need a number vs).taken (sync_of (moment need a number vs).taken) in
      let q : List Entry = block_entries entry.Postlog (closed program plan l.proc need) in
      let u : List Entry = units (unit_started need) vs in
      let e : List Entry = ends l (status_of need) in
      all_append IsLawful (p ++ s ++ q ++ u) e
      (all_append IsLawful (p ++ s ++ q) u
      (all_append IsLawful (p ++ s) q
      (all_append IsLawful p s (prelogs_lawful (opened program plan l.proc need) (opened_fits l.proc need r.locals r.numbers)) (syncs_lawful l need a number r.values r.given r.there r.done r.in_range r.rows))
      (postlogs_lawful (closed program plan l.proc need) (closed_fits l.proc need r.locals r.numbers)))
      (units_lawful (unit_started need) vs (unit_fits need r.numbers) r.few_values r.unit_values))
      (ends_lawful l (status_of need) r.rest r.rows)
