-- Lines that were read, and the lines of all bytes.
use Rattle.std.specs.Prelude.{◌⊎◌, None, Some, Option, true, false, Ok, Err, IfSome, ◌==◌, if◌then◌else◌}
use Rattle.std.proofs.Common.{◌≡◌, ◌≢◌, ◌<◌, ◌≤◌, ◌+◌, ℕ, suc, List, [], ◌∷◌, ◌++◌, length, length-append, Bool, refl, ap, sym, subst, ◌∙◌, append_assoc, append-nil, arith, inl, inr}
use Rattle.ppd_ast.specs.declared.limits.TheConstants.{MOST_LINE_BYTES}
use Rattle.ppd_io.specs.declared.bytes.TheConstants.{CHUNK_BYTES}
use Rattle.ppd_io.specs.Content.{Takes}
use Rattle.ppd_io.specs.declared.lines.LineError.TheVariants.{Failed, LongLine}
use Rattle.ppd_io.specs.Lines.{EndsLine, GivesLine, IsAtNeed, Lined, lines_of}
use Rattle.std.specs.List.{onto_first}
use Rattle.std.specs.Str.Iter.{LacksByte}
use Rattle.ppd_io.proofs.Lining.{line_front, line_whole, plain_first, plain_rest, told, took_all}
use Rattle.ppd_top_commands.specs.Asking.{IsReadAtNeed, IsReadTo, IsSplit}
use Rattle.ppd_top_commands.specs.Output.{AreCommands, ended, AreNotYetTaken}
use Rattle.ppd_top_commands.proofs.LineWords.{ArePlain}

pub ended_more : (ls : List (List ℕ)) (l : List ℕ) → ended (ls ++ l ∷ []) ≡ ended ls ++ (l ++ 10 ∷ [])
ended_more [] l = append-nil (l ++ 10 ∷ [])
ended_more (k ∷ ls) l = ap (λ w. (k ++ 10 ∷ []) ++ w) (ended_more ls l) ∙ sym (append_assoc (k ++ 10 ∷ []) (ended ls) (l ++ 10 ∷ []))

pub plain_more : (ls : List (List ℕ)) (l : List ℕ) → ArePlain ls → LacksByte 10 l → ArePlain (ls ++ l ∷ [])
plain_more [] l h k = (k, tt)
plain_more (m ∷ ls) l h k = (h.0, plain_more ls l h.1 k)

-- the lines of bytes that begin with whole lines
pub lines_ended : (ls : List (List ℕ)) (rest : List ℕ) → ArePlain ls → lines_of (ended ls ++ rest) ≡ ls ++ lines_of rest
lines_ended [] rest h = refl
lines_ended (l ∷ ls) rest h =
    let e : ((l ++ 10 ∷ []) ++ ended ls) ++ rest ≡ l ++ 10 ∷ (ended ls ++ rest) =
    append_assoc (l ++ 10 ∷ []) (ended ls) rest ∙ append_assoc l (10 ∷ []) (ended ls ++ rest) in
    ap lines_of e ∙ (line_whole l (ended ls ++ rest) h.0 ∙ ap (λ w. l ∷ w) (lines_ended ls rest h.1))

pub append_more : (ls : List (List ℕ)) (l : List ℕ) (more : List (List ℕ)) → (ls ++ l ∷ []) ++ more ≡ ls ++ l ∷ more
append_more ls l more = append_assoc ls (l ∷ []) more

-- ---- one line more

split_line : (xs : List ℕ) (ls : List (List ℕ)) (before line rest : List ℕ) → xs ≡ ended ls ++ before → before ≡ line ++ 10 ∷ rest → xs ≡ ended (ls ++ line ∷ []) ++ rest
split_line xs ls before line rest a b =
    a ∙ (ap (λ w. ended ls ++ w) b ∙ sym (ap (λ w. w ++ rest) (ended_more ls line) ∙ (append_assoc (ended ls) (line ++ 10 ∷ []) rest ∙ ap (λ w. ended ls ++ w) (append_assoc line (10 ∷ []) rest))))

-- of what a call gave with a line, all bytes at hand before are the line and those at hand after
gave_line : (xs ys zs : List ℕ) (ls : List (List ℕ)) (was now : Lined) → was.ended ≡ false → ArePlain ls → LacksByte 10 now.line → length now.line ≤ MOST_LINE_BYTES → IsSplit was.ended xs ls (was.held ++ ys) → EndsLine (Some ys) (Some zs) was.held now → IsSplit now.ended xs (ls ++ now.line ∷ []) (now.held ++ zs)
gave_line xs ys zs ls was now still plain here few split (inl t) =
    let s : xs ≡ ended ls ++ (was.held ++ ys) = subst (λ b. IsSplit b xs ls (was.held ++ ys)) still split in
    let e : was.held ++ ys ≡ now.line ++ 10 ∷ (now.held ++ zs) = took_all ys zs was.held _ t.0 ∙ append_assoc now.line (10 ∷ now.held) zs in
    let r : xs ≡ ended (ls ++ now.line ∷ []) ++ (now.held ++ zs) = split_line xs ls (was.held ++ ys) now.line (now.held ++ zs) s e in
    subst (λ b. IsSplit b xs (ls ++ now.line ∷ []) (now.held ++ zs)) (sym t.1) r
gave_line xs ys zs ls was now still plain here few split (inr t) =
    let s : xs ≡ ended ls ++ (was.held ++ ys) = subst (λ b. IsSplit b xs ls (was.held ++ ys)) still split in
    let one : lines_of (was.held ++ ys) ≡ now.line ∷ lines_of (now.held ++ zs) = (told (Some ys) (Some zs) was.held now (Ok true) (here, few, inr t)).0 in
    let none : now.held ++ zs ≡ [] = ap (λ w. w ++ zs) t.2.held ∙ t.2.left in
    let all : lines_of xs ≡ ls ++ now.line ∷ [] = ap lines_of s ∙ (lines_ended ls (was.held ++ ys) plain ∙ ap (λ w. ls ++ w) (one ∙ ap (λ w. now.line ∷ lines_of w) none)) in
    subst (λ b. IsSplit b xs (ls ++ now.line ∷ []) (now.held ++ zs)) (sym t.2.ended) (all, none)

-- the reader has given one line more
pub read_more : (a b c : Option (List ℕ)) (ls : List (List ℕ)) (was now : Lined) → was.ended ≡ false → ArePlain ls → IsReadTo a b was ls → GivesLine b c was.held now (Ok true) → IsReadTo a c now (ls ++ now.line ∷ [])
read_more a b None ls was now still plain read g = tt
read_more a None (Some zs) ls was now still plain read (here, few, inl t) = absurd t.0.takes
read_more a None (Some zs) ls was now still plain read (here, few, inr t) = absurd t.0.takes
read_more None (Some ys) (Some zs) ls was now still plain read g = absurd read
read_more (Some xs) (Some ys) (Some zs) ls was now still plain read g = gave_line xs ys zs ls was now still plain g.0 g.1 read g.2

-- ---- all commands

-- the commands, and the lines that come after those that were read
pub record Goes_on (a c : Option (List ℕ)) (ls : List (List ℕ)) (rest : List (List ℕ)) : Type 0 where
  pub commands : List ℕ
  pub told : AreCommands a c commands
  pub lines : lines_of commands ≡ ls ++ rest

-- after one line more
pub after_more : (a c : Option (List ℕ)) (ls : List (List ℕ)) (now : Lined) → ArePlain ls → IsReadTo a c now ls → (rest : List (List ℕ)) × Goes_on a c ls rest
after_more a None ls now plain read = ([], record { commands = ended ls ++ []; told = tt; lines = lines_ended ls [] plain })
after_more None (Some zs) ls now plain read = absurd read
after_more (Some xs) (Some zs) ls now plain read = by now.ended read
  where
    by : (b : Bool) → IsSplit b xs ls (now.held ++ zs) → (rest : List (List ℕ)) × Goes_on (Some xs) (Some zs) ls rest
    by false s = (lines_of (now.held ++ zs), record { commands = xs; told = refl; lines = ap lines_of s ∙ lines_ended ls (now.held ++ zs) plain })
    by true s = ([], record { commands = xs; told = refl; lines = s.0 ∙ sym (append-nil ls) })

-- nothing more was there
pub after_all : (a b c : Option (List ℕ)) (ls : List (List ℕ)) (was now : Lined) → was.ended ≡ false → ArePlain ls → IsReadTo a b was ls → GivesLine b c was.held now (Ok false) → Goes_on a c ls []
after_all a b None ls was now still plain read g = record { commands = ended ls ++ []; told = tt; lines = lines_ended ls [] plain }
after_all a None (Some zs) ls was now still plain read g = absurd g.0.takes
after_all None (Some ys) (Some zs) ls was now still plain read g = absurd read
after_all (Some xs) (Some ys) (Some zs) ls was now still plain read g =
    let s : xs ≡ ended ls ++ (was.held ++ ys) = subst (λ b. IsSplit b xs ls (was.held ++ ys)) still read in
    let none : was.held ++ ys ≡ [] = took_all ys zs was.held [] g.0 ∙ g.2.left in
    record { commands = xs; told = refl; lines = ap lines_of s ∙ (lines_ended ls (was.held ++ ys) plain ∙ ap (λ w. ls ++ lines_of w) none) }

-- the end was met before
pub at_end : (a c : Option (List ℕ)) (ls : List (List ℕ)) (was : Lined) → was.ended ≡ true → ArePlain ls → IsReadTo a c was ls → Goes_on a c ls []
at_end a None ls was over plain read = record { commands = ended ls ++ []; told = tt; lines = lines_ended ls [] plain }
at_end None (Some zs) ls was over plain read = absurd read
at_end (Some xs) (Some zs) ls was over plain read =
    let s : (lines_of xs ≡ ls) × (was.held ++ zs ≡ []) = subst (λ b. IsSplit b xs ls (was.held ++ zs)) over read in
    record { commands = xs; told = refl; lines = s.0 ∙ sym (append-nil ls) }

-- a line that is too long
pub record Is_long (a c : Option (List ℕ)) (ls : List (List ℕ)) : Type 0 where
  pub first : List ℕ
  pub more : List (List ℕ)
  pub long : MOST_LINE_BYTES < length first
  pub on : Goes_on a c ls (first ∷ more)

not_empty : (line : List ℕ) → MOST_LINE_BYTES < length line → line ≢ []
not_empty line long e = let n = ap length e in absurd (omega arith)

pub after_long : (a b c : Option (List ℕ)) (ls : List (List ℕ)) (was now : Lined) → was.ended ≡ false → ArePlain ls → IsReadTo a b was ls → GivesLine b c was.held now (Err LongLine) → Is_long a c ls
after_long a b None ls was now still plain read g =
    let f = line_front now.line [] g.0 (not_empty now.line g.1) in
    record {
      first = f.0;
      more = f.1;
      long = omega (arith, f.3);
      on = record { commands = ended ls ++ (now.line ++ []); told = tt; lines = lines_ended ls (now.line ++ []) plain ∙ ap (λ w. ls ++ w) f.2 };
    }
after_long a None (Some zs) ls was now still plain read g = absurd g.2.takes
after_long None (Some ys) (Some zs) ls was now still plain read g = absurd read
after_long (Some xs) (Some ys) (Some zs) ls was now still plain read g =
    let s : xs ≡ ended ls ++ (was.held ++ ys) = subst (λ b. IsSplit b xs ls (was.held ++ ys)) still read in
    let f = line_front now.line (now.held ++ zs) g.0 (not_empty now.line g.1) in
    let e : was.held ++ ys ≡ now.line ++ (now.held ++ zs) = took_all ys zs was.held _ g.2 ∙ append_assoc now.line now.held zs in
    record {
      first = f.0;
      more = f.1;
      long = omega (arith, f.3);
      on = record { commands = xs; told = refl; lines = ap lines_of s ∙ (lines_ended ls (was.held ++ ys) plain ∙ ap (λ w. ls ++ w) (ap lines_of e ∙ f.2)) };
    }

-- a read failed: what was taken
pub taken_so_far : (a b c : Option (List ℕ)) (ls : List (List ℕ)) (was now : Lined) → was.ended ≡ false → IsReadTo a b was ls → GivesLine b c was.held now (Err Failed) → Takes a c (ended ls ++ now.line)
taken_so_far a b None ls was now still read g = tt
taken_so_far a None (Some zs) ls was now still read g = absurd g.2.takes
taken_so_far None (Some ys) (Some zs) ls was now still read g = absurd read
taken_so_far (Some xs) (Some ys) (Some zs) ls was now still read g =
    let s : xs ≡ ended ls ++ (was.held ++ ys) = subst (λ b. IsSplit b xs ls (was.held ++ ys)) still read in
    s ∙ (ap (λ w. ended ls ++ w) (took_all ys zs was.held now.line g.2) ∙ sym (append_assoc (ended ls) now.line zs))

-- ---- how far was read

first_line_ended : (b : ℕ) (ls : List (List ℕ)) (n : ℕ) → n ≤ length (ended ls) → n + 1 ≤ length (ended (onto_first b ls))
first_line_ended b [] n le = omega arith
first_line_ended b (l ∷ ls) n le = omega arith

-- each byte belongs to a line or is its newline
pub all_ended : (bs : List ℕ) → length bs ≤ length (ended (lines_of bs))
all_ended [] = omega arith
all_ended (b ∷ bs) =
    let h = all_ended bs in
    elim (b == 10) as (λ v. suc (length bs) ≤ length (ended (if v then [] ∷ lines_of bs else onto_first b (lines_of bs)))) [
      | true ↦ omega arith
      | false ↦ let f = first_line_ended b (lines_of bs) (length bs) h in omega arith
    ]

pub no_further : (a c : Option (List ℕ)) (lines : List (List ℕ)) (now : Lined) (commands : List ℕ) → AreCommands a c commands → IsReadTo a c now lines → length now.held < CHUNK_BYTES → IfSome c (λ rest. length commands < length (ended lines) + CHUNK_BYTES + length rest)
no_further a None lines now commands told read few = tt
no_further None (Some zs) lines now commands told read few = absurd read
no_further (Some xs) (Some zs) lines now commands told read few = by now.ended read
  where
    same : length commands ≡ length xs
    same = ap length told

    by : (b : Bool) → IsSplit b xs lines (now.held ++ zs) → length commands < length (ended lines) + CHUNK_BYTES + length zs
    by false s =
        let n : length xs ≡ length (ended lines) + (length now.held + length zs) = ap length s ∙ (length-append (ended lines) (now.held ++ zs) ∙ ap (λ k. length (ended lines) + k) (length-append now.held zs)) in
        omega (arith, same)
    by true s =
        let n : length xs ≤ length (ended lines) = subst (λ ls. length xs ≤ length (ended ls)) s.0 (all_ended xs) in
        omega (arith, same)

-- ---- when did the last read begin

-- bytes without a newline, before others, where a line stands
within_line : (before rest line tail : List ℕ) → LacksByte 10 before → before ++ rest ≡ line ++ 10 ∷ tail → length before ≤ length line
within_line [] rest line tail plain e = omega arith
within_line (b ∷ before) rest [] tail plain e =
    let first : b ≡ 10 = cc in
    absurd (plain_first b before plain first)
within_line (b ∷ before) rest (l ∷ line) tail plain e =
    let later : before ++ rest ≡ line ++ 10 ∷ tail = cc in
    let few = within_line before rest line tail (plain_rest b before plain) later in
    omega (arith, few)

-- or where the last line stands
within_end : (before rest line after : List ℕ) → after ≡ [] → before ++ rest ≡ line ++ after → length before ≤ length line
within_end before rest line after none e =
    let f : before ++ rest ≡ line = e ∙ (ap (λ w. line ++ w) none ∙ append-nil line) in
    let n : length before + length rest ≡ length line = sym (length-append before rest) ∙ ap length f in
    omega (arith, n)

line_length : (ls : List (List ℕ)) (l : List ℕ) → length (ended (ls ++ l ∷ [])) ≡ length (ended ls) + (length l + 1)
line_length ls l = ap length (ended_more ls l) ∙ (length-append (ended ls) (l ++ 10 ∷ []) ∙ ap (λ n. length (ended ls) + n) (length-append l (10 ∷ [])))

counted : (xs ys rest : List ℕ) (ls : List (List ℕ)) (held line all : List ℕ) → xs ≡ ended ls ++ (held ++ ys) → held ++ ys ≡ all ++ rest → length all ≤ length line → length xs < length (ended (ls ++ line ∷ [])) + length rest
counted xs ys rest ls held line all s e few =
    let n : length xs ≡ length (ended ls) + (length all + length rest) = ap length s ∙ (length-append (ended ls) (held ++ ys) ∙ ap (λ k. length (ended ls) + k) (ap length e ∙ length-append all rest)) in
    let m = line_length ls line in
    omega (arith, n, m, few)

-- a read began, and no more than the line was at hand
begun_within : (xs ys zs rest : List ℕ) (ls : List (List ℕ)) (was now : Lined) → IsAtNeed (Some ys) (Some rest) was.held → xs ≡ ended ls ++ (was.held ++ ys) → EndsLine (Some ys) (Some zs) was.held now → length xs < length (ended (ls ++ now.line ∷ [])) + length rest
begun_within xs ys zs rest ls was now need s (inl t) =
    let e : was.held ++ ys ≡ need.all ++ rest = took_all ys rest was.held need.all need.took in
    let g : was.held ++ ys ≡ now.line ++ 10 ∷ (now.held ++ zs) = took_all ys zs was.held _ t.0 ∙ append_assoc now.line (10 ∷ now.held) zs in
    counted xs ys rest ls was.held now.line need.all s e (within_line need.all rest now.line (now.held ++ zs) need.plain (sym e ∙ g))
begun_within xs ys zs rest ls was now need s (inr t) =
    let e : was.held ++ ys ≡ need.all ++ rest = took_all ys rest was.held need.all need.took in
    let g : was.held ++ ys ≡ now.line ++ zs = took_all ys zs was.held now.line t.0 in
    counted xs ys rest ls was.held now.line need.all s e (within_end need.all rest now.line zs t.2.left (sym e ∙ g))

no_bytes : (l : List ℕ) → length l ≡ 0 → l ≡ []
no_bytes [] e = refl
no_bytes (b ∷ l) e = absurd (omega (arith, e))

-- where nothing is held and nothing is read, no line comes
not_unread : (ys zs : List ℕ) (was now : Lined) → zs ≡ ys → was.held ≡ [] → EndsLine (Some ys) (Some zs) was.held now → ⊥
not_unread ys zs was now same empty (inl t) =
    let g : ys ≡ now.line ++ 10 ∷ (now.held ++ zs) = ap (λ w. w ++ ys) (sym empty) ∙ (took_all ys zs was.held _ t.0 ∙ append_assoc now.line (10 ∷ now.held) zs) in
    let n : length ys ≡ length now.line + suc (length now.held + length zs) = ap length g ∙ (length-append now.line (10 ∷ (now.held ++ zs)) ∙ ap (λ k. length now.line + suc k) (length-append now.held zs)) in
    let m : length zs ≡ length ys = ap length same in
    omega (arith, n, m)
not_unread ys zs was now same empty (inr t) =
    let g : ys ≡ now.line ++ zs = ap (λ w. w ++ ys) (sym empty) ∙ took_all ys zs was.held now.line t.0 in
    let n : length ys ≡ length now.line + length zs = ap length g ∙ length-append now.line zs in
    let m : length zs ≡ length ys = ap length same in
    let none : now.line ≡ [] = no_bytes now.line (omega (arith, n, m)) in
    t.1 none

one_line : (xs ys zs : List ℕ) (before last : Option (List ℕ)) (ls : List (List ℕ)) (was now : Lined) → xs ≡ ended ls ++ (was.held ++ ys) → ((ls ≡ []) × (was.held ≡ [])) ⊎ AreNotYetTaken xs ls before → EndsLine (Some ys) (Some zs) was.held now
    → ((Some zs ≡ Some ys) × (last ≡ before)) ⊎ IsAtNeed (Some ys) last was.held → AreNotYetTaken xs (ls ++ now.line ∷ []) last
one_line xs ys zs before None ls was now s need ends how = tt
one_line xs ys zs before (Some rest) ls was now s need ends (inr begun) = begun_within xs ys zs rest ls was now begun s ends
one_line xs ys zs before (Some rest) ls was now s (inl first) ends (inl same) =
    let told = same.0 in
    let e : zs ≡ ys = cc in
    absurd (not_unread ys zs was now e first.1 ends)
one_line xs ys zs before (Some rest) ls was now s (inr need) ends (inl same) =
    let k : length xs < length (ended ls) + length rest = subst (AreNotYetTaken xs ls) (sym same.1) need in
    let m = line_length ls now.line in
    omega (arith, k, m)

-- after one line more
pub need_more : (a b c before last : Option (List ℕ)) (ls : List (List ℕ)) (was now : Lined) → was.ended ≡ false → IsReadTo a b was ls → IsReadAtNeed a b before was ls → GivesLine b c was.held now (Ok true) → ((c ≡ b) × (last ≡ before)) ⊎ IsAtNeed b last was.held
    → IsReadAtNeed a c last now (ls ++ now.line ∷ [])
need_more None b c before last ls was now still read need g how = tt
need_more (Some xs) b None before last ls was now still read need g how = tt
need_more (Some xs) None (Some zs) before last ls was now still read need (here, few, inl t) how = absurd t.0.takes
need_more (Some xs) None (Some zs) before last ls was now still read need (here, few, inr t) how = absurd t.0.takes
need_more (Some xs) (Some ys) (Some zs) before last ls was now still read need g how =
    let s : xs ≡ ended ls ++ (was.held ++ ys) = subst (λ b. IsSplit b xs ls (was.held ++ ys)) still read in
    inr (one_line xs ys zs before last ls was now s need g.2 how)

never_empty : (ls : List (List ℕ)) (l : List ℕ) → ls ++ l ∷ [] ≡ [] → ⊥
never_empty [] l e = absurd (cc)
never_empty (k ∷ ls) l e = absurd (cc)

-- how far was read, and when the last read began
pub both_bytes : (a c last : Option (List ℕ)) (ls : List (List ℕ)) (now : Lined) (commands : List ℕ) → AreCommands a c commands → IsReadAtNeed a c last now (ls ++ now.line ∷ []) → IfSome c (λ rest. length commands < length (ended (ls ++ now.line ∷ [])) + CHUNK_BYTES + length rest)
    → IfSome c (λ rest. (length commands < length (ended (ls ++ now.line ∷ [])) + CHUNK_BYTES + length rest) × AreNotYetTaken commands (ls ++ now.line ∷ []) last)
both_bytes a None last ls now commands told need few = tt
both_bytes None (Some zs) last ls now commands told need few = absurd told
both_bytes (Some xs) (Some zs) last ls now commands told (inl none) few = absurd (never_empty ls now.line none.0)
both_bytes (Some xs) (Some zs) last ls now commands told (inr need) few = (few, subst (λ w. AreNotYetTaken w (ls ++ now.line ∷ []) last) (sym told) need)
