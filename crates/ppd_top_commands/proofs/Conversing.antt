-- From the lines that were read and answered to what comes of asking.
use Rattle.std.specs.List.{flat_map}
use Rattle.std.specs.Prelude.{◌⊎◌, None, Some, Option, option_map, IfSome, is_some, ◌||◌, true, false, Result, Ok, Err, nat_le, nat_lt, codes}
use Rattle.std.proofs.Common.{◌≡◌, ◌<◌, ◌≤◌, ◌+◌, ℕ, suc, List, [], ◌∷◌, ◌++◌, length, take, Bool, refl, ap, sym, subst, ◌∙◌, append_assoc, append-nil, length-append, arith, inl, inr}
use Rattle.std.proofs.lemmas.Bool.{le-leb, le-ltb, lt-leb, lt-ltb}
use Rattle.std.proofs.lemmas.List.{length_push, take-append-le}
use Rattle.ppd_ast.specs.declared.limits.TheConstants.{MOST_INPUT_LINES, MOST_LINE_BYTES}
use Rattle.ppd_io.specs.declared.bytes.TheConstants.{CHUNK_BYTES}
use Rattle.ppd_io.specs.Causes.{Rose}
use Rattle.ppd_io.specs.Content.{Appends, AppendsPart, Takes}
use Rattle.ppd_io.specs.declared.lines.LineError.{LineError}
use Rattle.ppd_io.specs.declared.lines.LineError.TheVariants.{Failed, LongLine}
use Rattle.ppd_io.specs.Lines.{GivesLine, IsAtNeed, Lined, lines_of}
use Rattle.ppd_io.proofs.Prefixes.{appends_nothing, appends_twice}
use Rattle.ppd_codec_runs.specs.Known.{Known}
use Rattle.ppd_codec_runs.specs.Questions.{is_quit}
use Rattle.ppd_codec_runs.specs.Sessions.{FlowError, IsWhy, error_of}
use Rattle.ppd_codec_runs.specs.Texts.{failure_of, refused_replay, text_of}
use Rattle.ppd_codec_runs.specs.SessionError.{SessionError}
use Rattle.ppd_codec_runs.specs.SessionError.TheVariants as session_error
use Rattle.ppd_top_commands.specs.Asking.{AreAnswered, Becomes, Goes, IsAsked, IsFailed, IsReadAtNeed, IsReadTo}
use Rattle.ppd_top_commands.specs.Asking.Becomes.{answered, quit, refused, unwritten as unwritten_line, unfinished as unfinished_line}
use Rattle.ppd_top_commands.specs.Output.{AreCommands, AppendsFront, IsReadNoFurther, Output, Standing, Talks, answers, answers_from, before, ended, output, through_quit, Finished, AreNotYetTaken}
use Rattle.ppd_top_commands.specs.Output.Talks.{whole, unread, unwritten, unfinished}
use Rattle.ppd_top_commands.proofs.Split.{Goes_on, Is_long, after_all, after_long, after_more, at_end, append_more, both_bytes, need_more, no_further, plain_more, read_more, taken_so_far}
use Rattle.ppd_model.proofs.Changes.{some}
use Rattle.ppd_model.proofs.Parents.{none_some}
use Rattle.ppd_top_commands.proofs.LineWords.{ArePlain}

pub texts_more : (x : Known) (ls : List (List ℕ)) (l : List ℕ) → flat_map (text_of x) (ls ++ l ∷ []) ≡ flat_map (text_of x) ls ++ text_of x l
texts_more x [] l = append-nil (text_of x l)
texts_more x (k ∷ ls) l = ap (λ w. text_of x k ++ w) (texts_more x ls l) ∙ sym (append_assoc (text_of x k) (flat_map (text_of x) ls) (text_of x l))

pub answered_more : (x : Known) (ls : List (List ℕ)) (l : List ℕ) → AreAnswered x ls → length l ≤ MOST_LINE_BYTES → is_quit l ≡ false → failure_of x l ≡ None → AreAnswered x (ls ++ l ∷ [])
answered_more x [] l h few goes none = (few, goes, none, tt)
answered_more x (k ∷ ls) l h few goes none = (h.0, h.1, h.2, answered_more x ls l h.3 few goes none)

-- ---- the answers, line by line

-- one line that is answered
one_answered : (x : Known) (n : ℕ) (l : List ℕ) (ls : List (List ℕ)) → n < MOST_INPUT_LINES → length l ≤ MOST_LINE_BYTES → is_quit l ≡ false → failure_of x l ≡ None → answers_from x n (l ∷ ls) ≡ before (text_of x l) (answers_from x (n + 1) ls)
one_answered x n l ls few short goes none =
    let a : nat_le MOST_INPUT_LINES n ≡ false = lt-leb MOST_INPUT_LINES n few in
    let b : nat_lt MOST_LINE_BYTES (length l) ≡ false = le-ltb MOST_LINE_BYTES (length l) short in
    rw (a, b, none, goes)

pub many_answered : (x : Known) (n : ℕ) (ls rest : List (List ℕ)) → n + length ls ≤ MOST_INPUT_LINES → AreAnswered x ls → answers_from x n (ls ++ rest) ≡ before (flat_map (text_of x) ls) (answers_from x (n + length ls) rest)
many_answered x n [] rest few h = ap (λ k. answers_from x k rest) (omega arith)
many_answered x n (l ∷ ls) rest few h =
    let here : n < MOST_INPUT_LINES = omega arith in
    let count : n + 1 + length ls ≡ n + length (l ∷ ls) = omega arith in
    let later = many_answered x (n + 1) ls rest (omega arith) h.3 in
    one_answered x n l (ls ++ rest) here h.0 h.1 h.2
    ∙ (ap (before (text_of x l)) (later ∙ ap (λ k. before (flat_map (text_of x) ls) (answers_from x k rest)) count)
    ∙ ap (output (answers_from x (n + length (l ∷ ls)) rest).status) (sym (append_assoc (text_of x l) (flat_map (text_of x) ls) (answers_from x (n + length (l ∷ ls)) rest).text)))

-- all answers, where the lines that were answered go on with these
pub all_answered : (x : Known) (a c : Option (List ℕ)) (ls rest : List (List ℕ)) (g : Goes_on a c ls rest) → length ls ≤ MOST_INPUT_LINES → AreAnswered x ls → answers x g.commands ≡ before (flat_map (text_of x) ls) (answers_from x (length ls) rest)
all_answered x a c ls rest g few h =
    let few' : 0 + length ls ≤ MOST_INPUT_LINES = omega arith in
    let zero : 0 + length ls ≡ length ls = omega arith in
    ap (answers_from x 0) g.lines ∙ (many_answered x 0 ls rest few' h ∙ ap (λ k. before (flat_map (text_of x) ls) (answers_from x k rest)) zero)

-- ---- what is written

front_of : (xs ys : List ℕ) → take (length xs) (xs ++ ys) ≡ xs
front_of [] ys = refl
front_of (x ∷ xs) ys = ap (λ w. x ∷ w) (front_of xs ys)

take_after : (xs ys : List ℕ) (k : ℕ) → take (length xs + k) (xs ++ ys) ≡ xs ++ take k ys
take_after [] ys k = ap (λ n. take n ys) (omega arith)
take_after (x ∷ xs) ys k =
    let n : length (x ∷ xs) + k ≡ suc (length xs + k) = omega arith in
    ap (λ m. take m (x ∷ (xs ++ ys))) n ∙ ap (λ w. x ∷ w) (take_after xs ys k)

-- a proper prefix of a text, after another text and before a third
pub part_after : (a b c : Option (List ℕ)) (first next last : List ℕ) → Appends a b first → AppendsPart b c next → AppendsPart a c (first ++ (next ++ last))
part_after a b c first next last h (k, lt, w) =
    let long : length first + k < length (first ++ (next ++ last)) = simp length-append (omega arith) in
    let fits : take k (next ++ last) ≡ take k next = take-append-le k next last (omega arith) in
    let e : take (length first + k) (first ++ (next ++ last)) ≡ first ++ take k next = take_after first (next ++ last) k ∙ ap (λ u. first ++ u) fits in
    (length first + k, long, subst (Appends a c) (sym e) (appends_twice a b c first (take k next) h w))

pub front_after : (a b : Option (List ℕ)) (first last : List ℕ) → Appends a b first → AppendsFront a b (first ++ last)
front_after a b first last h =
    let long : length first ≤ length (first ++ last) = simp length-append (omega arith) in
    (length first, long, subst (Appends a b) (sym (front_of first last)) h)

rose_before : (a b c : ℕ) → a ≤ b → Rose b c → Rose a c
rose_before a b c le r = omega arith

-- ---- how asking ends

-- the next answer, where one line more is there
next_text : (x : Known) (n : ℕ) (l : List ℕ) (rest : List (List ℕ)) → n < MOST_INPUT_LINES → length l ≤ MOST_LINE_BYTES → failure_of x l ≡ None → (last : List ℕ) × ((answers_from x n (l ∷ rest)).text ≡ text_of x l ++ last)
next_text x n l rest few short none =
    let a : nat_le MOST_INPUT_LINES n ≡ false = lt-leb MOST_INPUT_LINES n few in
    let b : nat_lt MOST_LINE_BYTES (length l) ≡ false = le-ltb MOST_LINE_BYTES (length l) short in
    elim (is_quit l) as (λ v. is_quit l ≡ v → (last : List ℕ) × ((answers_from x n (l ∷ rest)).text ≡ text_of x l ++ last)) [
      | true ↦ λ e. ([], rw (a, b, none, e) (sym (append-nil (text_of x l))))
      | false ↦ λ e. ((answers_from x (n + 1) rest).text, rw (a, b, none, e))
    ] refl

quit_text : (x : Known) (n : ℕ) (l : List ℕ) (rest : List (List ℕ)) → n < MOST_INPUT_LINES → length l ≤ MOST_LINE_BYTES → is_quit l ≡ true → failure_of x l ≡ None → answers_from x n (l ∷ rest) ≡ output 0 (text_of x l)
quit_text x n l rest few short e none =
    let a : nat_le MOST_INPUT_LINES n ≡ false = lt-leb MOST_INPUT_LINES n few in
    let b : nat_lt MOST_LINE_BYTES (length l) ≡ false = le-ltb MOST_LINE_BYTES (length l) short in
    rw (a, b, none, e)

-- a replay that fails
failed_text : (x : Known) (n : ℕ) (l : List ℕ) (rest : List (List ℕ)) (error : FlowError) → n < MOST_INPUT_LINES → length l ≤ MOST_LINE_BYTES → failure_of x l ≡ Some error → answers_from x n (l ∷ rest) ≡ output 6 (refused_replay x.program (error_of error))
failed_text x n l rest error few short e =
    let a : nat_le MOST_INPUT_LINES n ≡ false = lt-leb MOST_INPUT_LINES n few in
    let b : nat_lt MOST_LINE_BYTES (length l) ≡ false = le-ltb MOST_LINE_BYTES (length l) short in
    rw (a, b, e)

long_text : (x : Known) (n : ℕ) (l : List ℕ) (rest : List (List ℕ)) → n < MOST_INPUT_LINES → MOST_LINE_BYTES < length l → answers_from x n (l ∷ rest) ≡ output 7 (codes "long line\n")
long_text x n l rest few long =
    let a : nat_le MOST_INPUT_LINES n ≡ false = lt-leb MOST_INPUT_LINES n few in
    let b : nat_lt MOST_LINE_BYTES (length l) ≡ true = lt-ltb MOST_LINE_BYTES (length l) long in
    rw (a, b)

-- ---- how far was read

-- the lines through a `quit` behind lines that were answered
with_lines : List (List ℕ) → Option (List (List ℕ)) → Option (List (List ℕ))
with_lines [] o = o
with_lines (l ∷ ls) o = option_map (λ through. l ∷ through) (with_lines ls o)

with_none : (ls : List (List ℕ)) → with_lines ls None ≡ None
unfolding with_lines
with_none [] = refl
with_none (l ∷ ls) = ap (option_map (λ through. l ∷ through)) (with_none ls)

with_some : (ls rest : List (List ℕ)) → with_lines ls (Some rest) ≡ Some (ls ++ rest)
unfolding with_lines
with_some [] rest = refl
with_some (l ∷ ls) rest = ap (option_map (λ through. l ∷ through)) (with_some ls rest)

one_through : (x : Known) (n : ℕ) (l : List ℕ) (ls : List (List ℕ)) → n < MOST_INPUT_LINES → length l ≤ MOST_LINE_BYTES → is_quit l ≡ false → failure_of x l ≡ None → through_quit x n (l ∷ ls) ≡ option_map (λ through. l ∷ through) (through_quit x (n + 1) ls)
one_through x n l ls few short goes none =
    let a : nat_le MOST_INPUT_LINES n ≡ false = lt-leb MOST_INPUT_LINES n few in
    let b : nat_lt MOST_LINE_BYTES (length l) ≡ false = le-ltb MOST_LINE_BYTES (length l) short in
    rw (a, b, goes, none)

many_through : (x : Known) (n : ℕ) (ls rest : List (List ℕ)) → n + length ls ≤ MOST_INPUT_LINES → AreAnswered x ls → through_quit x n (ls ++ rest) ≡ with_lines ls (through_quit x (n + length ls) rest)
unfolding with_lines
many_through x n [] rest few h = ap (λ k. through_quit x k rest) (omega arith)
many_through x n (l ∷ ls) rest few h =
    let here : n < MOST_INPUT_LINES = omega arith in
    let count : n + 1 + length ls ≡ n + length (l ∷ ls) = omega arith in
    one_through x n l (ls ++ rest) here h.0 h.1 h.2
    ∙ ap (option_map (λ through. l ∷ through)) (many_through x (n + 1) ls rest (omega arith) h.3 ∙ ap (λ k. with_lines ls (through_quit x k rest)) count)

-- lines that were answered do not end the answers
none_ends : (x : Known) (ls : List (List ℕ)) → length ls ≤ MOST_INPUT_LINES → AreAnswered x ls → through_quit x 0 ls ≡ None
none_ends x ls few h =
    let few' : 0 + length ls ≤ MOST_INPUT_LINES = omega arith in
    ap (through_quit x 0) (sym (append-nil ls)) ∙ (many_through x 0 ls [] few' h ∙ with_none ls)

all_go_on : (x : Known) (ls : List (List ℕ)) → length ls ≤ MOST_INPUT_LINES → AreAnswered x ls → answers_from x 0 ls ≡ output 0 (flat_map (text_of x) ls)
all_go_on x ls few h =
    let few' : 0 + length ls ≤ MOST_INPUT_LINES = omega arith in
    ap (answers_from x 0) (sym (append-nil ls)) ∙ (many_answered x 0 ls [] few' h ∙ ap (output 0) (append-nil (flat_map (text_of x) ls)))

-- no `quit` ended the answers
not_quit : (x : Known) (a c : Option (List ℕ)) (ls rest : List (List ℕ)) (g : Goes_on a c ls rest) (n : ℕ) → length ls ≡ n → n ≤ MOST_INPUT_LINES → AreAnswered x ls → through_quit x n rest ≡ None → (last : Option (List ℕ)) → IsReadNoFurther x g.commands c last
not_quit x a c ls rest g n count few h none last =
    let few' : 0 + length ls ≤ MOST_INPUT_LINES = omega arith in
    let counted : 0 + length ls ≡ n = omega arith in
    let e : through_quit x 0 (lines_of g.commands) ≡ None =
    ap (through_quit x 0) g.lines ∙ (many_through x 0 ls rest few' h ∙ (ap (with_lines ls) (ap (λ k. through_quit x k rest) counted ∙ none) ∙ with_none ls)) in
    rw e tt

or_some : {A : Type 0} (b : Bool) (o : Option A) (v : A) → o ≡ Some v → (b || is_some o) ≡ true
or_some true o v e = refl
or_some false o v e = rw e refl

-- a `quit` did, or a replay that failed
was_quit : (x : Known) (a c : Option (List ℕ)) (ls rest : List (List ℕ)) (l : List ℕ) (g : Goes_on a c ls (l ∷ rest)) (n : ℕ) → length ls ≡ n → n < MOST_INPUT_LINES → length l ≤ MOST_LINE_BYTES → (is_quit l || is_some (failure_of x l)) ≡ true → AreAnswered x ls
    → (last : Option (List ℕ)) → IfSome c (λ left. (length g.commands < length (ended (ls ++ l ∷ [])) + CHUNK_BYTES + length left) × AreNotYetTaken g.commands (ls ++ l ∷ []) last) → IsReadNoFurther x g.commands c last
was_quit x a c ls rest l g n count few short quits h last few_bytes =
    let t : nat_le MOST_INPUT_LINES n ≡ false = lt-leb MOST_INPUT_LINES n few in
    let u : nat_lt MOST_LINE_BYTES (length l) ≡ false = le-ltb MOST_LINE_BYTES (length l) short in
    let here : through_quit x n (l ∷ rest) ≡ Some (l ∷ []) = rw (t, u, quits) in
    let few' : 0 + length ls ≤ MOST_INPUT_LINES = omega arith in
    let counted : 0 + length ls ≡ n = omega arith in
    let e : through_quit x 0 (lines_of g.commands) ≡ Some (ls ++ l ∷ []) =
    ap (through_quit x 0) g.lines ∙ (many_through x 0 ls (l ∷ rest) few' h ∙ (ap (with_lines ls) (ap (λ k. through_quit x k (l ∷ rest)) counted ∙ here) ∙ with_some ls (l ∷ []))) in
    rw e few_bytes

-- a call that read nothing leaves the source as it was
pub need_as : (S : Type 0) (left last : S → Option (List ℕ)) (old new : S) (held : List ℕ) → (new ≡ old) ⊎ IsAtNeed (left old) (last new) held → ((left new ≡ left old) × (last new ≡ last old)) ⊎ IsAtNeed (left old) (last new) held
need_as S left last old new held (inl same) = inl (ap left same, ap last same)
need_as S left last old new held (inr need) = inr need

module _ (x : Known) (n : ℕ) (a b c : Standing) where
  -- what is left to write is written, with its status
  pub finished : (was : Lined) (q : IsAsked x n was a b) (rest : List (List ℕ)) (g : Goes_on a.left c.left q.lines rest) (status : ℕ) (text : List ℕ) (result : ℕ)
      → IsReadNoFurther x g.commands c.left c.last → n ≤ MOST_INPUT_LINES → answers_from x n rest ≡ output status text → Finished b.written c.written b.writes c.writes result status text → Talks x [] a c result
  finished was q rest g status text result further few is f = by f all
    where
      count : answers_from x (length q.lines) rest ≡ output status text
      count = ap (λ k. answers_from x k rest) q.count ∙ is

      all : answers x g.commands ≡ output status (flat_map (text_of x) q.lines ++ text)
      all =
          let few' : length q.lines ≤ MOST_INPUT_LINES = omega (arith, q.count) in
          all_answered x a.left c.left q.lines rest g few' q.answered ∙ ap (before (flat_map (text_of x) q.lines)) count

      by : Finished b.written c.written b.writes c.writes result status text → answers x g.commands ≡ output status (flat_map (text_of x) q.lines ++ text) → Talks x [] a c result
      by (inl h) all =
          let t : Appends a.written c.written (answers x g.commands).text = subst (λ (o : Output). Appends a.written c.written o.text) (sym all) (appends_twice a.written b.written c.written (flat_map (text_of x) q.lines) text q.written h.1) in
          subst (Talks x [] a c) (ap (λ (o : Output). o.status) all ∙ sym h.0) (whole g.commands g.told further t)
      by (inr h) all =
          let part = part_after a.written b.written c.written (flat_map (text_of x) q.lines) text [] q.written h.2 in
          let e : flat_map (text_of x) q.lines ++ (text ++ []) ≡ flat_map (text_of x) q.lines ++ text = ap (λ w. flat_map (text_of x) q.lines ++ w) (append-nil text) in
          let t : AppendsPart a.written c.written (answers x g.commands).text = subst (λ (o : Output). AppendsPart a.written c.written o.text) (sym all) (subst (AppendsPart a.written c.written) e part) in
          subst (Talks x [] a c) (sym h.0) (unwritten g.commands g.told (rose_before a.writes b.writes c.writes q.writes h.1) t)

  -- what the reader answered, by whether it had met the end before
  pub record HasRead (was now : Lined) (result : Result Bool LineError) : Type 0 where
    pub given : was.ended ≡ false → GivesLine b.left c.left was.held now result
    pub over : was.ended ≡ true → (result ≡ Ok false) × (c.left ≡ b.left)
    pub few : length now.held < CHUNK_BYTES
    pub need : ((c.left ≡ b.left) × (c.last ≡ b.last)) ⊎ IsAtNeed b.left c.last was.held

  pub read_as : (was now : Lined) (r result : Result Bool LineError) → r ≡ result → (was.ended ≡ false → GivesLine b.left c.left was.held now r) → (was.ended ≡ true → (r ≡ Ok false) × (c.left ≡ b.left)) → length now.held < CHUNK_BYTES → ((c.left ≡ b.left) × (c.last ≡ b.last)) ⊎ IsAtNeed b.left c.last was.held → HasRead was now result
  read_as was now r result e given over few need = record {
    given = λ still. subst (GivesLine b.left c.left was.held now) e (given still);
    over = λ ended_now. let o = over ended_now in (sym e ∙ o.0, o.1);
    few = few;
    need = need;
  }

  -- a read failed
  pub ends_failed : (was now : Lined) → IsAsked x n was a b → HasRead was now (Err Failed) → n ≤ MOST_INPUT_LINES → Rose b.reads c.reads → c.written ≡ b.written → Talks x [] a c 3
  ends_failed was now q r few rose same = by was.ended refl
    where
      by : (e : Bool) → was.ended ≡ e → Talks x [] a c 3
      by true e = let o = (r.over e).0 in absurd (cc)
      by false e =
          let g = r.given e in
          unread (record {
            rose = rose_before a.reads b.reads c.reads q.reads rose;
            taken = ended q.lines ++ now.line;
            lines = q.lines;
            rest = now.line;
            takes = taken_so_far a.left b.left c.left q.lines was now e q.read g;
            is = refl;
            plain = q.plain;
            open_end = g.0;
            unended = none_ends x q.lines (omega (arith, q.count)) q.answered;
            answered = all_go_on x q.lines (omega (arith, q.count)) q.answered;
            written = subst (λ w. Appends a.written w (flat_map (text_of x) q.lines)) (sym same) q.written;
          })

  -- there was no line
  pub ends_none : (was now : Lined) → IsAsked x n was a b → HasRead was now (Ok false) → n ≤ MOST_INPUT_LINES → c.written ≡ b.written → Talks x [] a c 0
  ends_none was now q r few same = by was.ended refl
    where
      on : (e : Bool) → was.ended ≡ e → Goes_on a.left c.left q.lines []
      on true e = subst (λ w. Goes_on a.left w q.lines []) (sym (r.over e).1) (at_end a.left b.left q.lines was e q.plain q.read)
      on false e = after_all a.left b.left c.left q.lines was now e q.plain q.read (r.given e)

      by : (e : Bool) → was.ended ≡ e → Talks x [] a c 0
      by e is = finished was q [] (on e is) 0 [] 0 (not_quit x a.left c.left q.lines [] (on e is) n q.count few q.answered refl c.last) few refl (inl (refl, subst (λ w. Appends b.written w []) (sym same) (appends_nothing b.written)))

  -- the next line is too long, or is one too many
  pub long_there : (was now : Lined) (q : IsAsked x n was a b) → HasRead was now (Err LongLine) → Is_long a.left c.left q.lines
  long_there was now q r = by was.ended refl
    where
      by : (e : Bool) → was.ended ≡ e → Is_long a.left c.left q.lines
      by true e = let o = (r.over e).0 in absurd (cc)
      by false e = after_long a.left b.left c.left q.lines was now e q.plain q.read (r.given e)

  pub ends_long : (was now : Lined) (q : IsAsked x n was a b) (result : ℕ) → HasRead was now (Err LongLine) → n < MOST_INPUT_LINES → Finished b.written c.written b.writes c.writes result 7 (codes "long line\n") → Talks x [] a c result
  ends_long was now q result r few f =
      let l = long_there was now q r in
      let t : nat_le MOST_INPUT_LINES n ≡ false = lt-leb MOST_INPUT_LINES n few in
      let u : nat_lt MOST_LINE_BYTES (length l.first) ≡ true = lt-ltb MOST_LINE_BYTES (length l.first) l.long in
      let none : through_quit x n (l.first ∷ l.more) ≡ None = rw (t, u) in
      finished was q (l.first ∷ l.more) l.on 7 (codes "long line\n") result (not_quit x a.left c.left q.lines (l.first ∷ l.more) l.on n q.count (omega arith) q.answered none c.last) (omega arith) (long_text x n l.first l.more few l.long) f

  -- ---- one line more

  pub record HasLine (was now : Lined) (q : IsAsked x n was a b) : Type 0 where
    pub plain : ArePlain (q.lines ++ now.line ∷ [])
    pub short : length now.line ≤ MOST_LINE_BYTES
    pub read : IsReadTo a.left c.left now (q.lines ++ now.line ∷ [])
    pub need : IsReadAtNeed a.left c.left c.last now (q.lines ++ now.line ∷ [])
    pub rest : List (List ℕ)
    pub on : Goes_on a.left c.left q.lines (now.line ∷ rest)

  pub has_line : (was now : Lined) (q : IsAsked x n was a b) → HasRead was now (Ok true) → HasLine was now q
  has_line was now q r = by was.ended refl
    where
      by : (e : Bool) → was.ended ≡ e → HasLine was now q
      by true e = let o = (r.over e).0 in absurd (cc)
      by false e =
          let g = r.given e in
          let plain = plain_more q.lines now.line q.plain g.0 in
          let read = read_more a.left b.left c.left q.lines was now e q.plain q.read g in
          let m = after_more a.left c.left (q.lines ++ now.line ∷ []) now plain read in
          record {
            plain = plain;
            short = g.1;
            read = read;
            need = need_more a.left b.left c.left b.last c.last q.lines was now e q.read q.need g r.need;
            rest = m.0;
            on = record { commands = m.1.commands; told = m.1.told; lines = m.1.lines ∙ append_more q.lines now.line m.0 };
          }

  pub ends_many : (was now : Lined) (q : IsAsked x n was a b) (rest : List (List ℕ)) (l : List ℕ) (result : ℕ) → Goes_on a.left c.left q.lines (l ∷ rest) → n ≡ MOST_INPUT_LINES → Finished b.written c.written b.writes c.writes result 8 (codes "many lines\n") → Talks x [] a c result
  ends_many was now q rest l result on is f =
      let many : nat_le MOST_INPUT_LINES n ≡ true = le-leb MOST_INPUT_LINES n (omega arith) in
      let t : answers_from x n (l ∷ rest) ≡ output 8 (codes "many lines\n") = rw many in
      let none : through_quit x n (l ∷ rest) ≡ None = rw many in
      finished was q (l ∷ rest) on 8 (codes "many lines\n") result (not_quit x a.left c.left q.lines (l ∷ rest) on n q.count (omega arith) q.answered none c.last) (omega arith) t f

  -- what becomes of the line
  pub goes_on : (was now : Lined) (q : IsAsked x n was a b) (result : Option ℕ) → HasRead was now (Ok true) → n < MOST_INPUT_LINES → b.reads ≤ c.reads → b.writes ≤ c.writes → Becomes x now.line b.written c.written b.writes c.writes result → Goes x n now a c result
  goes_on was now q None r few reads writes (answered goes none w) =
      let h = has_line was now q r in
      record {
        lines = q.lines ++ now.line ∷ [];
        count = length_push q.lines now.line ∙ ap (λ k. k + 1) q.count;
        plain = h.plain;
        answered = answered_more x q.lines now.line q.answered h.short goes none;
        read = h.read;
        need = h.need;
        written = subst (Appends a.written c.written) (sym (texts_more x q.lines now.line)) (appends_twice a.written b.written c.written (flat_map (text_of x) q.lines) (text_of x now.line) q.written w);
        reads = omega (arith, q.reads);
        writes = omega (arith, q.writes);
      }
  goes_on was now q (Some _) r few reads writes (quit ends none w) =
      let h = has_line was now q r in
      let bytes = no_further a.left c.left (q.lines ++ now.line ∷ []) now h.on.commands h.on.told h.read r.few in
      let further = was_quit x a.left c.left q.lines h.rest now.line h.on n q.count few h.short (rw ends refl) q.answered c.last (both_bytes a.left c.left c.last q.lines now h.on.commands h.on.told h.need bytes) in
      finished was q (now.line ∷ h.rest) h.on 0 (text_of x now.line) 0 further (omega arith) (quit_text x n now.line h.rest few h.short ends none) (inl (refl, w))
  goes_on was now q (Some _) r few reads writes (refused error status failed f) =
      let h = has_line was now q r in
      let bytes = no_further a.left c.left (q.lines ++ now.line ∷ []) now h.on.commands h.on.told h.read r.few in
      let further = was_quit x a.left c.left q.lines h.rest now.line h.on n q.count few h.short (or_some (is_quit now.line) (failure_of x now.line) error failed) q.answered c.last (both_bytes a.left c.left c.last q.lines now h.on.commands h.on.told h.need bytes) in
      finished was q (now.line ∷ h.rest) h.on 6 (refused_replay x.program (error_of error)) status further (omega arith) (failed_text x n now.line h.rest error few h.short failed) f
  goes_on was now q (Some _) r few reads writes (unwritten_line none rose part) =
      let h = has_line was now q r in
      let t = next_text x n now.line h.rest few h.short none in
      let few' : length q.lines ≤ MOST_INPUT_LINES = omega (arith, q.count) in
      let all = all_answered x a.left c.left q.lines (now.line ∷ h.rest) h.on few' q.answered in
      let e : (answers x h.on.commands).text ≡ flat_map (text_of x) q.lines ++ (text_of x now.line ++ t.0) =
      ap (λ (o : Output). o.text) all ∙ ap (λ w. flat_map (text_of x) q.lines ++ w) (ap (λ k. (answers_from x k (now.line ∷ h.rest)).text) q.count ∙ t.1) in
      unwritten h.on.commands h.on.told (rose_before a.writes b.writes c.writes q.writes rose)
      (subst (AppendsPart a.written c.written) (sym e) (part_after a.written b.written c.written (flat_map (text_of x) q.lines) (text_of x now.line) t.0 q.written part))
  goes_on was now q (Some _) r few reads writes (unfinished_line same) =
      let h = has_line was now q r in
      let few' : length q.lines ≤ MOST_INPUT_LINES = omega (arith, q.count) in
      let all = all_answered x a.left c.left q.lines (now.line ∷ h.rest) h.on few' q.answered in
      let w : Appends a.written c.written (flat_map (text_of x) q.lines) = subst (λ v. Appends a.written v (flat_map (text_of x) q.lines)) (sym same) q.written in
      unfinished h.on.commands h.on.told (subst (λ (o : Output). AppendsFront a.written c.written o.text) (sym all) (front_after a.written c.written (flat_map (text_of x) q.lines) (answers_from x (length q.lines) (now.line ∷ h.rest)).text w))

-- before the first line
read_none : (o : Option (List ℕ)) → IsReadTo o o (record { line = []; held = []; ended = false }) []
read_none None = tt
read_none (Some xs) = refl

need_none : (o last : Option (List ℕ)) → IsReadAtNeed o o last (record { line = []; held = []; ended = false }) []
need_none None last = tt
need_none (Some xs) last = inl (refl, refl)

pub asked_none : (x : Known) (r : Lined) (a : Standing) → r ≡ record { line = []; held = []; ended = false } → IsAsked x 0 r a a
asked_none x r a new = record {
  lines = [];
  count = refl;
  plain = tt;
  answered = tt;
  read = subst (λ (s : Lined). IsReadTo a.left a.left s []) (sym new) (read_none a.left);
  need = subst (λ (s : Lined). IsReadAtNeed a.left a.left a.last s []) (sym new) (need_none a.left a.last);
  written = appends_nothing a.written;
  reads = omega arith;
  writes = omega arith;
}

-- what is mapped to something is something
mapped : {A B : Type 0} (f : A → B) (o : Option A) (v : B) → option_map f o ≡ Some v → (a : A) × (o ≡ Some a) × (f a ≡ v)
mapped f None v e = absurd (none_some e)
mapped f (Some a) v e = (a, refl, some e)

-- a line without an answer
pub failed_becomes : (x : Known) (line : List ℕ) (error : SessionError) (old new : Option (List ℕ)) (before now status : ℕ)
    → IsWhy (failure_of x line) error → IsFailed x.program error old new before now status
    → Becomes x line old new before now (Some status)
failed_becomes x line error old new before now status why (inl h) =
    subst (λ n. Becomes x line old new before now (Some n)) (sym h.0) (unfinished_line h.1)
failed_becomes x line (session_error.Diverged at) old new before now status why (inr f) =
    let m = mapped error_of (failure_of x line) (session_error.Diverged at) why in
    refused m.0 status m.1
    (subst (λ (e : SessionError). Finished old new before now status 6 (refused_replay x.program e)) (sym m.2) f.1)
failed_becomes x line (session_error.Sets at) old new before now status why (inr f) =
    let m = mapped error_of (failure_of x line) (session_error.Sets at) why in
    refused m.0 status m.1
    (subst (λ (e : SessionError). Finished old new before now status 6 (refused_replay x.program e)) (sym m.2) f.1)
failed_becomes x line session_error.Memory old new before now status why (inr f) = absurd (f.0 refl)

-- ---- behind a first text

-- the commands of an input that nothing was read from
pub unread_commands : (o : Option (List ℕ)) → (commands : List ℕ) × AreCommands o o commands
unread_commands None = ([], tt)
unread_commands (Some xs) = (xs, refl)

pub same_input : (old new : Option (List ℕ)) → new ≡ old → (commands : List ℕ) × AreCommands old new commands
same_input old new e = subst (λ o. (commands : List ℕ) × AreCommands old o commands) (sym e) (unread_commands old)

-- nothing was written yet
pub nothing_yet : (x : Known) (head : List ℕ) (a : Standing) → Talks x head a a 5
nothing_yet x head a =
    let c = unread_commands a.left in
    unfinished c.0 c.1 (0, omega arith, appends_nothing a.written)

-- the first text was cut off
pub head_cut : (x : Known) (head : List ℕ) (a b : Standing) → b.left ≡ a.left → Rose a.writes b.writes → AppendsPart a.written b.written head → Talks x head a b 4
head_cut x head a b same rose (k, lt, w) =
    let c = same_input a.left b.left same in
    let long : k < length (head ++ (answers x c.0).text) = simp length-append (omega arith) in
    let e : take k (head ++ (answers x c.0).text) ≡ take k head = take-append-le k head (answers x c.0).text (omega arith) in
    unwritten c.0 c.1 rose (k, long, subst (Appends a.written b.written) (sym e) w)

module _ (x : Known) (head : List ℕ) (a m c : Standing) (left : m.left ≡ a.left) (reads : a.reads ≤ m.reads) (writes : a.writes ≤ m.writes) (first : Appends a.written m.written head) where
  commands_as : (commands : List ℕ) → AreCommands m.left c.left commands → AreCommands a.left c.left commands
  commands_as commands told = subst (λ o. AreCommands o c.left commands) left told

  -- what comes of asking after the first text was written
  pub headed : (status : ℕ) → Talks x [] m c status → Talks x head a c status
  headed status (whole commands told further w) = whole commands (commands_as commands told) further (appends_twice a.written m.written c.written head (answers x commands).text first w)
  headed status (unread broken) = unread (record {
    rose = rose_before a.reads m.reads c.reads reads broken.rose;
    taken = broken.taken;
    lines = broken.lines;
    rest = broken.rest;
    takes = subst (λ o. Takes o c.left broken.taken) left broken.takes;
    is = broken.is;
    plain = broken.plain;
    open_end = broken.open_end;
    unended = broken.unended;
    answered = broken.answered;
    written = appends_twice a.written m.written c.written head (flat_map (text_of x) broken.lines) first broken.written;
  })
  headed status (unwritten commands told rose part) =
      let p = part_after a.written m.written c.written head (answers x commands).text [] first part in
      let e : head ++ ((answers x commands).text ++ []) ≡ head ++ (answers x commands).text = ap (λ w. head ++ w) (append-nil (answers x commands).text) in
      unwritten commands (commands_as commands told) (rose_before a.writes m.writes c.writes writes rose) (subst (AppendsPart a.written c.written) e p)
  headed status (unfinished commands told (k, le, w)) =
      let long : length head + k ≤ length (head ++ (answers x commands).text) = simp length-append (omega arith) in
      let t : Appends a.written c.written (take (length head + k) (head ++ (answers x commands).text)) =
      subst (Appends a.written c.written) (sym (take_after head (answers x commands).text k)) (appends_twice a.written m.written c.written head (take k (answers x commands).text) first w) in
      unfinished commands (commands_as commands told) (length head + k, long, t)
