-- The tests that an entry passes where it stands inside the blocks of a stack.
use Rattle.law_logs.proofs.Index.Standing.{Stands, depth_by, innermost_by, none_by}
use Rattle.law_steps.specs.OpenBlocks.Stack.{functions_in}
use Rattle.ppd_ast.specs.declared.plan.Plan.{Plan}
use Rattle.ppd_ast.specs.declared.status.Status.{Status}
use Rattle.ppd_ast.specs.declared.status.Status.TheVariants as status
use Rattle.ppd_ast.specs.declared.status.SyncKind.{SyncKind}
use Rattle.ppd_model.specs.Entries.{is_end}
use Rattle.ppd_model.specs.IntervalLogs.{Indexing, index_step}
use Rattle.ppd_model.specs.declared.entry.At.{At}
use Rattle.ppd_model.specs.declared.entry.Entry.{Entry}
use Rattle.ppd_model.specs.declared.entry.Entry.TheVariants as entry
use Rattle.ppd_index.proofs.Vocabulary.{innermost_of, is_same, kind_there}
use Rattle.ppd_index.specs.Refusals.{first_from, is_fitting, is_paired, may_begin, refusal, standing}
use Rattle.ppd_model.specs.declared.bad_log.BadLog.TheVariants.{Unpaired, WrongValues}
use Rattle.ppd_index.specs.declared.standing.Standing.{Standing}
use Rattle.std.proofs.Common.{List, None, Some, [], ap, false, if◌then◌else◌, refl, true, ℕ, ℤ, ◌∙◌, ◌∷◌, ◌≡◌}
use Rattle.std.specs.Option.{option_or}
use Rattle.std.specs.Prelude.{is_some, nat_eq, not, slice_get, ◌&&◌}

-- an end that stands inside an interval
abbrev pub IsInsideEnd : Status → Type 0
IsInsideEnd how =
    (plan : Plan) (body : ℕ) (s : Standing) (rest : ℕ) (reads writes : List ℕ) → is_some s.innermost ≡ true
    → is_paired plan body s (entry.End how rest reads writes) ≡ true

-- an interval of block b may begin inside another, where so many of functions run
abbrev pub MayBegin : Plan → ℕ → ℕ → Type 0
MayBegin plan deep b =
    (body : ℕ) (s : Standing) → is_some s.innermost ≡ true → s.functions ≡ deep
    → may_begin body s (kind_there (slice_get plan.blocks b)) ≡ true

module _ (plan : Plan) where
  -- ---- the tests

  module _ (body p : ℕ) where
    -- an entry is not refused there
    abbrev pub IsFit : Indexing → Entry → Type 0
    IsFit x e = refusal plan body p (standing plan x false) e ≡ None

    pub fits_by : (x : Indexing) (e : Entry) → is_paired plan body (standing plan x false) e ≡ true → is_fitting plan e ≡ true → IsFit x e
    fits_by x e paired fits =
        let here : At = record { process = p; entry = x.entry } in
        ap (λ b. if not b then Some (Unpaired here) else if not (is_fitting plan e) then Some (WrongValues here) else None) paired
        ∙ ap (λ b. if not b then Some (WrongValues here) else None) fits

  module _ (body p : ℕ) (x : Indexing) (b : ℕ) (bs : List ℕ) (s : Stands plan x (b ∷ bs)) where
    some_inside : is_some (innermost_of x.running x.intervals) ≡ true
    some_inside = ap is_some (innermost_by plan x.intervals x.running b bs s.are)

    pub fit_unit : (u : ℕ) (values : List ℤ) → is_fitting plan (entry.Unit u values) ≡ true → IsFit body p x (entry.Unit u values)
    fit_unit u values fits = fits_by body p x (entry.Unit u values) some_inside fits

    pub fit_sync : (k : SyncKind) (o n : ℕ) (v : ℤ) (reads writes : List ℕ) → IsFit body p x (entry.Sync k o n v reads writes)
    fit_sync k o n v reads writes = fits_by body p x (entry.Sync k o n v reads writes) some_inside refl

    pub fit_postlog : (values : List ℤ) → is_fitting plan (entry.Postlog b values) ≡ true → nat_eq b b ≡ true → IsFit body p x (entry.Postlog b values)
    fit_postlog values fits same =
        fits_by body p x (entry.Postlog b values) (ap (λ o. is_same b o) (innermost_by plan x.intervals x.running b bs s.are) ∙ same) fits

    pub fit_prelog : (c : ℕ) (values : List ℤ) → MayBegin plan (functions_in plan (b ∷ bs)) c → is_fitting plan (entry.Prelog c values) ≡ true → IsFit body p x (entry.Prelog c values)
    fit_prelog c values begins fits =
        fits_by body p x (entry.Prelog c values)
        (begins body (standing plan x false) some_inside (depth_by plan x.intervals x.running (b ∷ bs) s.are)) fits

    -- an end inside: the process was stopped, or waits
    pub fit_end : (how : Status) (rest : ℕ) (reads writes : List ℕ) → IsInsideEnd how → IsFit body p x (entry.End how rest reads writes)
    fit_end how rest reads writes inside =
        fits_by body p x (entry.End how rest reads writes) (inside plan body (standing plan x false) rest reads writes some_inside) refl

  -- an end outside all: the process ended
  pub fit_ended : (body p : ℕ) (x : Indexing) → Stands plan x [] → (rest : ℕ) (reads writes : List ℕ) → IsFit body p x (entry.End status.Ended rest reads writes)
  fit_ended body p x s rest reads writes =
      fits_by body p x (entry.End status.Ended rest reads writes)
      (ap (λ z. not z && not (is_some (innermost_of x.running x.intervals))) s.later
      ∙ ap (λ o. not (is_some o)) (none_by plan x.intervals x.running s.are)) refl

  -- ---- one entry after the other

  module _ (body p : ℕ) where
    -- these entries are not refused after those that gave this index
    abbrev pub Passes : Indexing → List Entry → Type 0
    Passes x es = first_from plan body p x false es ≡ None

    pub one_more : (x : Indexing) (e : Entry) (es : List Entry) → IsFit body p x e → is_end e ≡ false → Passes (index_step x e) es → Passes x (e ∷ es)
    one_more x e es fit goes rest =
        ap (λ f. option_or f (first_from plan body p (index_step x e) (is_end e) es)) fit
        ∙ ap (λ b. first_from plan body p (index_step x e) b es) goes ∙ rest

    pub last_one : (x : Indexing) (how : Status) (rest : ℕ) (reads writes : List ℕ) → IsFit body p x (entry.End how rest reads writes) → Passes x (entry.End how rest reads writes ∷ [])
    last_one x how rest reads writes fit =
        ap (λ f. option_or f (first_from plan body p (index_step x (entry.End how rest reads writes)) true [])) fit
