-- What comes of asking, by its status, and of a run by its logs.
use Rattle.std.specs.Prelude.{Option, Some, None, ◌⊎◌, true, false, nat_le, nat_lt, if◌then◌else◌, ◌<◌, ◌≤◌}
use Rattle.std.proofs.Common.{◌≡◌, ℕ, ◌+◌, List, [], ◌∷◌, ◌++◌, length, Bool, arith, inl, inr, refl, subst, sym, ◌∙◌, ap}
use Rattle.std.proofs.lemmas.Bool.{lt-leb, le-ltb}
use Rattle.ppd_ast.specs.declared.limits.TheConstants.{MOST_INPUT_LINES, MOST_LINE_BYTES}
use Rattle.ppd_io.specs.Causes.{Rose}
use Rattle.ppd_io.specs.Content.{Appends, AppendsPart}
use Rattle.ppd_io.specs.Lines.{lines_of}
use Rattle.ppd_session.specs.Known.{Known}
use Rattle.ppd_session.specs.Questions.{is_quit}
use Rattle.ppd_session.specs.Sessions.{FlowError}
use Rattle.ppd_session.specs.Texts.{failure_of, text_of}
use Rattle.ppd_top_commands.specs.Output.{AppendsFront, AreCommands, IsBroken, IsReadNoFurther, Standing, Talks, answers, answers_from, before, output}
use Rattle.ppd_top_commands.specs.Output.Talks.{whole, unread, unwritten, unfinished}

-- ---- statuses of answers

-- done, a line too long, or too many lines
abbrev pub IsEnd : ℕ → Type 0
IsEnd status = (status ≡ 0) ⊎ ((status ≡ 7) ⊎ (status ≡ 8))

-- or a replay that failed
abbrev pub IsLast : ℕ → Type 0
IsLast status = IsEnd status ⊎ (status ≡ 6)

pub answers_end : (x : Known) (n : ℕ) (ls : List (List ℕ)) → IsLast (answers_from x n ls).status
answers_end x n [] = inl (inl refl)
answers_end x n (l ∷ ls) = by (nat_le MOST_INPUT_LINES n) (nat_lt MOST_LINE_BYTES (length l)) (is_quit l) (failure_of x l) refl refl refl refl (answers_end x (n + 1) ls)
  where
    by : (many long quits : Bool) (failure : Option FlowError) → nat_le MOST_INPUT_LINES n ≡ many → nat_lt MOST_LINE_BYTES (length l) ≡ long → is_quit l ≡ quits → failure_of x l ≡ failure
        → IsLast (answers_from x (n + 1) ls).status → IsLast (answers_from x n (l ∷ ls)).status
    by true long quits failure a b c d h = rw a (inl (inr (inr refl)))
    by false true quits failure a b c d h = rw (a, b) (inl (inr (inl refl)))
    by false false true None a b c d h = rw (a, b, c, d) (inl (inl refl))
    by false false false None a b c d h = rw (a, b, c, d) h
    by false false quits (Some at) a b c d h = rw (a, b, d) (inr refl)

-- where no replay fails, none is refused
pub answers_whole : (x : Known) → ((l : List ℕ) → failure_of x l ≡ None) → (n : ℕ) (ls : List (List ℕ)) → IsEnd (answers_from x n ls).status
answers_whole x none n [] = inl refl
answers_whole x none n (l ∷ ls) = by (nat_le MOST_INPUT_LINES n) (nat_lt MOST_LINE_BYTES (length l)) (is_quit l) refl refl refl (answers_whole x none (n + 1) ls)
  where
    whole : failure_of x l ≡ None
    whole = none l

    by : (many long quits : Bool) → nat_le MOST_INPUT_LINES n ≡ many → nat_lt MOST_LINE_BYTES (length l) ≡ long → is_quit l ≡ quits → IsEnd (answers_from x (n + 1) ls).status
        → IsEnd (answers_from x n (l ∷ ls)).status
    by true long quits a b c h = rw a (inr (inr refl))
    by false true quits a b c h = rw (a, b) (inr (inl refl))
    by false false true a b c h = rw (a, b, c, whole) (inl refl)
    by false false false a b c h = rw (a, b, c, whole) h

-- one line that is short enough ends well
pub one_fine : (x : Known) (n : ℕ) (l : List ℕ) → failure_of x l ≡ None → n < MOST_INPUT_LINES → length l ≤ MOST_LINE_BYTES → (answers_from x n (l ∷ [])).status ≡ 0
one_fine x n l told less few =
    let a : nat_le MOST_INPUT_LINES n ≡ false = lt-leb MOST_INPUT_LINES n less in
    let b : nat_lt MOST_LINE_BYTES (length l) ≡ false = le-ltb MOST_LINE_BYTES (length l) few in
    let by : (q : Bool) → (if q then output 0 (text_of x l) else before (text_of x l) (answers_from x (n + 1) [])).status ≡ 0 =
    λ q. elim q as (λ c. (if c then output 0 (text_of x l) else before (text_of x l) (answers_from x (n + 1) [])).status ≡ 0) [
      | true ↦ refl
      | false ↦ refl
    ] in
    rw (a, b, told) (by (is_quit l))

not_last : (status : ℕ) → IsLast status → (status ≡ 3) ⊎ ((status ≡ 4) ⊎ (status ≡ 5)) → ⊥
not_last status (inl (inl h)) (inl k) = omega arith
not_last status (inl (inl h)) (inr (inl k)) = omega arith
not_last status (inl (inl h)) (inr (inr k)) = omega arith
not_last status (inl (inr (inl h))) (inl k) = omega arith
not_last status (inl (inr (inl h))) (inr (inl k)) = omega arith
not_last status (inl (inr (inl h))) (inr (inr k)) = omega arith
not_last status (inl (inr (inr h))) (inl k) = omega arith
not_last status (inl (inr (inr h))) (inr (inl k)) = omega arith
not_last status (inl (inr (inr h))) (inr (inr k)) = omega arith
not_last status (inr h) (inl k) = omega arith
not_last status (inr h) (inr (inl k)) = omega arith
not_last status (inr h) (inr (inr k)) = omega arith

-- ---- what comes of asking, by its status

module _ (x : Known) (head : List ℕ) (a b : Standing) where
  pub record IsWhole (status : ℕ) : Type 0 where
    pub commands : List ℕ
    pub told : AreCommands a.left b.left commands
    pub unread : IsReadNoFurther x commands b.left b.last
    pub status_is : status ≡ (answers x commands).status
    pub written : Appends a.written b.written (head ++ (answers x commands).text)

  pub talks_whole : (status : ℕ) → Talks x head a b status → IsLast status → IsWhole status
  talks_whole status (whole commands told further written) e = record { commands = commands; told = told; unread = further; status_is = refl; written = written }
  talks_whole status (unread broken) e = absurd (not_last 3 e (inl refl))
  talks_whole status (unwritten commands told rose part) e = absurd (not_last 4 e (inr (inl refl)))
  talks_whole status (unfinished commands told part) e = absurd (not_last 5 e (inr (inr refl)))

  pub talks_broken : (status : ℕ) → Talks x head a b status → status ≡ 3 → IsBroken x head a b
  talks_broken status (whole commands told further written) e = absurd (not_last (answers x commands).status (answers_end x 0 (lines_of commands)) (inl e))
  talks_broken status (unread broken) e = broken
  talks_broken status (unwritten commands told rose part) e = absurd (omega arith)
  talks_broken status (unfinished commands told part) e = absurd (omega arith)

  pub record IsUnwritten : Type 0 where
    pub commands : List ℕ
    pub told : AreCommands a.left b.left commands
    pub rose : Rose a.writes b.writes
    pub written : AppendsPart a.written b.written (head ++ (answers x commands).text)

  pub talks_unwritten : (status : ℕ) → Talks x head a b status → status ≡ 4 → IsUnwritten
  talks_unwritten status (whole commands told further written) e = absurd (not_last (answers x commands).status (answers_end x 0 (lines_of commands)) (inr (inl e)))
  talks_unwritten status (unread broken) e = absurd (omega arith)
  talks_unwritten status (unwritten commands told rose part) e = record { commands = commands; told = told; rose = rose; written = part }
  talks_unwritten status (unfinished commands told part) e = absurd (omega arith)

  pub record IsCutOff : Type 0 where
    pub commands : List ℕ
    pub told : AreCommands a.left b.left commands
    pub written : AppendsFront a.written b.written (head ++ (answers x commands).text)

  pub talks_cut_off : (status : ℕ) → Talks x head a b status → status ≡ 5 → IsCutOff
  talks_cut_off status (whole commands told further written) e = absurd (not_last (answers x commands).status (answers_end x 0 (lines_of commands)) (inr (inr e)))
  talks_cut_off status (unread broken) e = absurd (omega arith)
  talks_cut_off status (unwritten commands told rose part) e = absurd (omega arith)
  talks_cut_off status (unfinished commands told part) e = record { commands = commands; told = told; written = part }

  -- the status is one of these
  abbrev pub IsAny : ℕ → Type 0
  IsAny status = IsLast status ⊎ ((status ≡ 3) ⊎ ((status ≡ 4) ⊎ (status ≡ 5)))

  pub talks_any : (status : ℕ) → Talks x head a b status → IsAny status
  talks_any status (whole commands told further written) = inl (answers_end x 0 (lines_of commands))
  talks_any status (unread broken) = inr (inl refl)
  talks_any status (unwritten commands told rose part) = inr (inr (inl refl))
  talks_any status (unfinished commands told part) = inr (inr (inr refl))

-- all bytes of a told input are the commands
pub same_commands : (old new : Option (List ℕ)) (commands rest given : List ℕ) → old ≡ Some commands → new ≡ Some rest → AreCommands old new given → given ≡ commands
same_commands None new commands rest given e f h = absurd (cc)
same_commands (Some xs) None commands rest given e f h = absurd (cc)
same_commands (Some xs) (Some ys) commands rest given e f h = let s : xs ≡ commands = cc in h ∙ s

-- the commands of a told input end with this status, where all was written
pub talks_end : (x : Known) (head : List ℕ) (a b : Standing) (status k : ℕ) (commands rest : List ℕ) → Talks x head a b status → status ≡ k → IsEnd k → a.left ≡ Some commands → b.left ≡ Some rest → (answers x commands).status ≡ k
talks_end x head a b status k commands rest t s e f g =
    let w = talks_whole x head a b status t (inl (subst IsEnd (sym s) e)) in
    ap (λ cs. (answers x cs).status) (sym (same_commands a.left b.left commands rest w.commands f g w.told)) ∙ (sym w.status_is ∙ s)

-- the commands of a told input that are fine end well, or a count rose
pub talks_fine : (x : Known) (head : List ℕ) (a b : Standing) (status : ℕ) (commands rest : List ℕ) → Talks x head a b status → a.left ≡ Some commands → b.left ≡ Some rest → (answers x commands).status ≡ 0
    → (Rose a.reads b.reads → ⊥) → (Rose a.writes b.writes → ⊥) → (status ≡ 0) ⊎ (status ≡ 5)
talks_fine x head a b status commands rest (whole given told further written) e f fine reads writes =
    let same : given ≡ commands = same_commands a.left b.left commands rest given e f told in
    inl (ap (λ cs. (answers x cs).status) same ∙ fine)
talks_fine x head a b status commands rest (unread broken) e f fine reads writes = absurd (reads broken.rose)
talks_fine x head a b status commands rest (unwritten given told rose part) e f fine reads writes = absurd (writes rose)
talks_fine x head a b status commands rest (unfinished given told part) e f fine reads writes = inr refl

-- where no replay fails, none is refused
pub talks_not_refused : (x : Known) → ((l : List ℕ) → failure_of x l ≡ None) → (head : List ℕ) (a b : Standing) (status : ℕ) → Talks x head a b status → status ≡ 6 → ⊥
talks_not_refused x none head a b status (whole commands told further written) e = by (answers_whole x none 0 (lines_of commands)) e
  where
    by : IsEnd (answers x commands).status → (answers x commands).status ≡ 6 → ⊥
    by (inl h) k = omega arith
    by (inr (inl h)) k = omega arith
    by (inr (inr h)) k = omega arith
talks_not_refused x none head a b status (unread broken) e = omega arith
talks_not_refused x none head a b status (unwritten commands told rose part) e = omega arith
talks_not_refused x none head a b status (unfinished commands told part) e = omega arith
