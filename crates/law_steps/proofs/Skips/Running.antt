-- The intervals of a process that run, each crossed since the step that began it, and those that have ended.
use Rattle.std.proofs.Common.{◌≡◌, ℕ, suc, ◌+◌, ◌<◌, List, [], ◌∷◌, length, Option, Some, None, refl, ap, sym, subst, ◌∙◌, arith, inl, inr}
use Rattle.std.specs.Prelude.{ℤ, option_map, slice_get}
use Rattle.std.proofs.lemmas.Bool.{cases_eq}
use Rattle.std.proofs.lemmas.Option.{none-some}
use Rattle.ppd_ast.specs.declared.plan.Plan.{Plan}
use Rattle.ppd_ast.specs.declared.plan.Policy.{Policy}
use Rattle.ppd_ast.specs.declared.program.Program.{Program}
use Rattle.ppd_ast.specs.Valid.{IsValid}
use Rattle.ppd_blocks.specs.Blocks.{plan_of}
use Rattle.ppd_sem.specs.declared.proc.Answer.{Answer}
use Rattle.ppd_sem.specs.declared.proc.Proc.{Proc}
use Rattle.ppd_sem.specs.Process.{act, need_of}
use Rattle.ppd_model.proofs.Changes.{change-at, change-else, some}
use Rattle.ppd_model.specs.Intervals.{Span}
use Rattle.ppd_model.specs.Marks.{Mark, opened, closed}
use Rattle.ppd_model.specs.World.{change}
use Rattle.law_steps.proofs.Vocabulary.Alone.{IsInside}
use Rattle.law_steps.proofs.Facts.State.{IsState}
use Rattle.law_steps.specs.OpenBlocks.Stack.{IsInOrder, stack}
use Rattle.law_steps.specs.Skips.{BeginsBlock, IsGonePast}
use Rattle.law_steps.proofs.Skips.Itself.{Beside, Inside, crossing}
use Rattle.law_steps.proofs.Skips.Seen.{Marks, begun, marks, seen}

module _ (program : Program) (policy : Policy) (v : IsValid program) (p : ℕ)
    (there : program.functions + p < length program.bodies)
    -- the state before each step, by its number
    (at : ℕ → Proc) where
  abbrev plan : Plan
  plan = plan_of program policy

  -- interval k runs since its block began, and so many more inside it
  pub record Runs (spans : List Span) (level k : ℕ) (s : Proc) : Type 0 where
    pub block : ℕ
    pub number : ℕ
    pub there_is : seen begun spans k ≡ Some (block, number)
    pub state : IsState program plan (at number)
    pub begins : BeginsBlock block (need_of program plan (at number))
    pub inside : Inside program policy v p there (at number) level s

  -- the intervals that run, with the innermost first; the outermost is the process's own
  abbrev pub AreRunning : List Span → ℕ → List ℕ → Proc → Type 0
  AreRunning spans level [] s = ⊥
  AreRunning spans level (k ∷ []) s = k ≡ 0
  AreRunning spans level (k ∷ l ∷ ks) s = Runs spans level k s × AreRunning spans (suc level) (l ∷ ks) s

  -- each but the process's own that has ended is gone past
  abbrev pub AreGonePast : List Span → Type 0
  AreGonePast spans =
      (k n : ℕ) (m : Marks) → seen marks spans (suc k) ≡ Some m → m.closed ≡ Some n
      → IsGonePast program plan m.block m.values (at m.opened) (at (n + 1))

  pub record IsLive (spans : List Span) (running : List ℕ) (s : Proc) : Type 0 where
    pub beside : Beside program policy v p there s s
    pub order : IsInOrder program plan p s
    pub count : length (stack program plan p s) ≡ length running
    pub runs : AreRunning spans 0 running s

  -- before step n
  pub record IsRight (n : ℕ) (spans : List Span) (running : List ℕ) (s : Proc) : Type 0 where
    pub here : s ≡ at n
    pub state : IsState program plan s
    pub past : AreGonePast spans
    pub live : s.status ≡ None → IsLive spans running s

  -- ---- those that run, after a step

  -- what is there is there still
  abbrev pub Stays : List Span → List Span → Type 0
  Stays xs ys = (k : ℕ) (x : ℕ × ℕ) → seen begun xs k ≡ Some x → seen begun ys k ≡ Some x

  module _ (xs ys : List Span) (stays : Stays xs ys) (s s' : Proc) where
    -- the step takes what is crossed from one level to another
    moved : (R : ℕ → ℕ → Type 0) → ((i j : ℕ) → R i j → R (suc i) (suc j))
        → ((i j : ℕ) (r : Proc) → R i j → Inside program policy v p there r i s → Inside program policy v p there r j s')
        → (i j : ℕ) (ks : List ℕ) → R i j → AreRunning xs i ks s → AreRunning ys j ks s'
    moved R next go i j [] q h = h
    moved R next go i j (k ∷ []) q h = h
    moved R next go i j (k ∷ l ∷ ks) q h = (
      record {
        block = h.0.block;
        number = h.0.number;
        there_is = stays k (h.0.block, h.0.number) h.0.there_is;
        state = h.0.state;
        begins = h.0.begins;
        inside = go i j (at h.0.number) q h.0.inside;
      },
      moved R next go (suc i) (suc j) (l ∷ ks) (next i j q) h.1,
    )

  module _ (xs ys : List Span) (stays : Stays xs ys) (s : Proc) (a : Answer) where
    pub run_on : IsInside program plan s (need_of program plan s) → (ks : List ℕ) → AreRunning xs 0 ks s
        → AreRunning ys 0 ks (act program plan s a)
    run_on within ks h =
        moved xs ys stays s (act program plan s a) (λ i j. i ≡ j) (λ i j e. ap suc e)
        (λ i j r e x. subst (λ l. Inside program policy v p there r l (act program plan s a)) e
        ((crossing program policy v p there).goes_on r s a i x within)) 0 0 ks refl h

    pub run_deeper : (m : Mark) → opened program plan s (need_of program plan s) ≡ Some m → (ks : List ℕ)
        → AreRunning xs 0 ks s → AreRunning ys 1 ks (act program plan s a)
    run_deeper m o ks h =
        moved xs ys stays s (act program plan s a) (λ i j. i + 1 ≡ j) (λ i j e. omega (arith, e))
        (λ i j r e x. subst (λ l. Inside program policy v p there r l (act program plan s a)) e
        ((crossing program policy v p there).opens r s a i m x o)) 0 1 ks refl h

    pub run_back : (m : Mark) → opened program plan s (need_of program plan s) ≡ None
        → closed program plan s (need_of program plan s) ≡ Some m → (ks : List ℕ) → AreRunning xs 1 ks s
        → AreRunning ys 0 ks (act program plan s a)
    run_back m o c ks h =
        moved xs ys stays s (act program plan s a) (λ i j. i ≡ suc j) (λ i j e. ap suc e)
        (λ i j r e x. (crossing program policy v p there).closes r s a j m
        (subst (λ l. Inside program policy v p there r l s) e x) o c) 1 0 ks refl h

  -- ---- those that have ended, after a step

  -- nothing is ended
  pub past_on : (xs ys : List Span) → ((k : ℕ) → seen marks ys k ≡ seen marks xs k) → AreGonePast xs
      → AreGonePast ys
  past_on xs ys same h k n m e c = h k n m (sym (same (suc k)) ∙ e) c

  -- the process's own is ended
  pub past_own : (f : Span → Span) (xs : List Span) → AreGonePast xs → AreGonePast (change f 0 xs)
  past_own f xs h k n m e c =
      h k n m (sym (ap (option_map marks) (change-else f 0 (suc k) xs (λ q. omega (arith, q)))) ∙ e) c

  -- an interval that ran is ended by step n, and is gone past
  pub past_more : (f : Span → Span) (values : List ℤ) (n : ℕ)
      → ((i : Span) → marks (f i) ≡ record (marks i) { closed = Some n; values = values })
      → (j b o : ℕ) (xs : List Span) → seen begun xs j ≡ Some (b, o)
      → IsGonePast program plan b values (at o) (at (n + 1)) → AreGonePast xs → AreGonePast (change f j xs)
  past_more f values n ends j b o xs there_is gone h k q m e c = elim (cases_eq (suc k) j) [
    | inl same ↦ by (slice_get xs j) refl same
    | inr other ↦ h k q m (sym (ap (option_map marks) (change-else f j (suc k) xs other)) ∙ e) c
  ]
    where
      by : (y : Option Span) → slice_get xs j ≡ y → suc k ≡ j
          → IsGonePast program plan m.block m.values (at m.opened) (at (q + 1))
      by None is same = absurd (none-some (b, o) (sym (ap (option_map begun) is) ∙ there_is))
      by (Some i) is same =
          let now : marks (f i) ≡ m =
          some (sym (ap (option_map marks) (change-at f j xs ∙ ap (option_map f) is))
          ∙ sym (ap (seen marks (change f j xs)) same) ∙ e) in
          let was : begun i ≡ (b, o) = some (sym (ap (option_map begun) is) ∙ there_is) in
          let m_is : record (marks i) { closed = Some n; values = values } ≡ m = sym (ends i) ∙ now in
          let step : n ≡ q = some (ap (λ (x : Marks). x.closed) m_is ∙ c) in
          subst (λ (x : Marks). IsGonePast program plan x.block x.values (at x.opened) (at (q + 1))) m_is
          (subst (λ z. IsGonePast program plan i.block values (at i.opened) (at (z + 1))) step
          (subst (λ (x : ℕ × ℕ). IsGonePast program plan x.0 values (at x.1) (at (n + 1))) (sym was) gone))
