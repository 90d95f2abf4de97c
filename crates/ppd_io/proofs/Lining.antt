-- What is taken from a source in several reads, and how lines come out of bytes.
use Rattle.std.specs.Prelude.{◌⊎◌, None, Some, Option, Bool, true, false, if◌then◌else◌, ◌==◌, Result, Ok, Err, IfOk, IsErr, OnErr}
use Rattle.std.proofs.Common.{◌≡◌, ◌≢◌, ◌<◌, ◌≤◌, ℕ, zero, suc, List, [], ◌∷◌, ◌++◌, length, ap, sym, ◌∙◌, refl, append_assoc, append-nil, subst, arith, inl, inr, true≢false}
use Rattle.std.specs.List.{onto_first}
use Rattle.std.specs.Str.Iter.{LacksByte}
use Rattle.std.proofs.lemmas.Bool.{eqb-true, false_from_ne_true}
use Rattle.ppd_ast.specs.declared.limits.TheConstants.{MOST_LINE_BYTES}
use Rattle.ppd_io.specs.Content.{Takes}
use Rattle.ppd_io.specs.Lines.{IsAtNeed, Took, HasNewline, lines_of, Lined, EndsLine, GivesLine, TellsLine, IsLong}
use Rattle.ppd_io.specs.declared.lines.LineError.{LineError}
use Rattle.ppd_io.specs.declared.lines.LineError.TheVariants.{Failed, LongLine}

pub takes_twice : (a b c : Option (List ℕ)) (xs ys : List ℕ) → Takes a b xs → Takes b c ys → Takes a c (xs ++ ys)
takes_twice a b None xs ys h k = tt
takes_twice a None (Some zs) xs ys h k = absurd k
takes_twice None (Some us) (Some zs) xs ys h k = absurd h
takes_twice (Some vs) (Some us) (Some zs) xs ys h k = h ∙ (ap (λ w. xs ++ w) k ∙ sym (append_assoc xs ys zs))

-- what was taken at first, and what came for the bytes still held
pub took_twice : (a b c : Option (List ℕ)) (was line held more : List ℕ) → Took a b was (line ++ held) → Took b c held more → Took a c was (line ++ more)
took_twice a b c was line held more h k = record {
  read = h.read ++ k.read;
  takes = takes_twice a b c h.read k.read h.takes k.takes;
  whole = sym (append_assoc was h.read k.read) ∙ (ap (λ w. w ++ k.read) h.whole ∙ (append_assoc line held k.read ∙ ap (λ w. line ++ w) k.whole));
}

-- what was taken at first, and nothing came for the bytes still held
pub took_end : (a b c : Option (List ℕ)) (was line held : List ℕ) → Took a b was (line ++ held) → Took b c held [] → Took a c was line
took_end a b c was line held h k = rw (append-nil line) at (took_twice a b c was line held [] h k)

-- where nothing is read, nothing is taken
pub takes_none : (a : Option (List ℕ)) → Takes a a []
takes_none None = tt
takes_none (Some xs) = refl

pub took_none : (a b : Option (List ℕ)) (held all : List ℕ) → b ≡ a → held ≡ all → Took a b held all
took_none a b held all same e =
    record { read = []; takes = subst (λ (o : Option (List ℕ)). Takes a o []) (sym same) (takes_none a); whole = append-nil held ∙ e }

-- of an error nothing is said that holds of values
pub of_error : {T E : Type 0} (r : Result T E) (P : T → Type 0) → IsErr r → IfOk r P
of_error (Ok x) P h = absurd (true≢false (sym h))
of_error (Err e) P h = tt

pub on_error : {T E P : Type 0} (r : Result T E) → P → OnErr r P
on_error (Ok x) p = tt
on_error (Err e) p = p

-- one byte more
pub took_byte : (a b c : Option (List ℕ)) (was line held later : List ℕ) (byte : ℕ) → Took a b was (line ++ held) → Took b c held (byte ∷ later) → Took a c was ((line ++ byte ∷ []) ++ later)
took_byte a b c was line held later byte h k =
    let t = took_twice a b c was line held (byte ∷ later) h k in
    rw (append_assoc line (byte ∷ []) later) t

pub plain_rest : (b : ℕ) (line : List ℕ) → LacksByte 10 (b ∷ line) → LacksByte 10 line
plain_rest b line h k lt = h (suc k) (omega (arith, lt))

pub plain_first : (b : ℕ) (line : List ℕ) → LacksByte 10 (b ∷ line) → b ≢ 10
plain_first b line h = h 0 (omega arith)

pub plain_byte : (line : List ℕ) (byte : ℕ) → LacksByte 10 line → byte ≢ 10 → LacksByte 10 (line ++ byte ∷ [])
plain_byte [] byte h ne zero lt = ne
plain_byte [] byte h ne (suc k) lt = absurd (omega (arith, lt))
plain_byte (b ∷ line) byte h ne zero lt = plain_first b line h
plain_byte (b ∷ line) byte h ne (suc k) lt = plain_byte line byte (plain_rest b line h) ne k (omega (arith, lt))

pub holds_some : (bytes : List ℕ) → HasNewline bytes → bytes ≢ []
holds_some [] h e = h
holds_some (b ∷ bytes) h e = absurd (cc e)

-- a newline that is not the first byte is among those after it
pub later_newline : (bytes later : List ℕ) (byte : ℕ) → bytes ≡ byte ∷ later → byte ≢ 10 → HasNewline bytes → HasNewline later
later_newline bytes later byte e ne h = elim (subst (λ (bs : List ℕ). HasNewline bs) e h) [ inl first ↦ absurd (ne first) | inr among ↦ among ]

-- the next byte is a held one, and nothing is read; or nothing is held, and a read begins, with no newline so far
pub need_goes_on : (S : Type 0) (left last : S → Option (List ℕ)) (a b c : S) (was line held : List ℕ) → Took (left a) (left b) was (line ++ held) → LacksByte 10 line → (b ≡ a) ⊎ IsAtNeed (left a) (last b) was → (held ≡ [] → last c ≡ left b) → (held ≢ [] → c ≡ b) → (c ≡ a) ⊎ IsAtNeed (left a) (last c) was
need_goes_on S left last a b c was line [] took plain need begun quiet =
    let e : last c ≡ left b = begun refl in
    let t : Took (left a) (left b) was line = rw (append-nil line) at took in
    inr (record { all = line; took = subst (λ (o : Option (List ℕ)). Took (left a) o was line) (sym e) t; plain = plain })
need_goes_on S left last a b c was line (h ∷ held) took plain (inl same) begun quiet =
    let e : c ≡ b = quiet (λ n. absurd (cc)) in
    inl (e ∙ same)
need_goes_on S left last a b c was line (h ∷ held) took plain (inr need) begun quiet =
    let e : c ≡ b = quiet (λ n. absurd (cc)) in
    inr (subst (λ (s : S). IsAtNeed (left a) (last s) was) (sym e) need)

plain_is : (b : ℕ) → b ≢ 10 → (b == 10) ≡ false
plain_is b ne = false_from_ne_true (b == 10) (λ h. ne (eqb-true b 10 h))

-- a whole line, and those after it
pub line_whole : (line rest : List ℕ) → LacksByte 10 line → lines_of (line ++ 10 ∷ rest) ≡ line ∷ lines_of rest
line_whole [] rest h = refl
line_whole (b ∷ line) rest h =
    let e = line_whole line rest (plain_rest b line h) in
    rw (plain_is b (plain_first b line h), e)

-- the first line begins with the bytes that have no newline
pub line_front : (line rest : List ℕ) → LacksByte 10 line → line ≢ [] → (first : List ℕ) × (more : List (List ℕ)) × (lines_of (line ++ rest) ≡ first ∷ more) × (length line ≤ length first)
line_front [] rest h ne = absurd (ne refl)
line_front (b ∷ []) rest h ne =
    elim (lines_of rest) as (λ v. (first : List ℕ) × (more : List (List ℕ)) × ((if b == 10 then [] ∷ v else onto_first b v) ≡ first ∷ more) × (1 ≤ length first)) [
      | [] ↦ (b ∷ [], [], rw (plain_is b (plain_first b [] h)), omega arith)
      | l ∷ ls ↦ (b ∷ l, ls, rw (plain_is b (plain_first b [] h)), omega arith)
    ]
line_front (b ∷ c ∷ line) rest h ne =
    let i = line_front (c ∷ line) rest (plain_rest b (c ∷ line) h) (λ e. absurd (cc)) in
    let e : lines_of ((c ∷ line) ++ rest) ≡ i.0 ∷ i.1 = i.2 in
    let few : length (c ∷ line) ≤ length i.0 = i.3 in
    (b ∷ i.0, i.1, rw (plain_is b (plain_first b (c ∷ line) h), e), omega arith)

-- the last line
pub line_last : (line : List ℕ) → LacksByte 10 line → line ≢ [] → lines_of line ≡ line ∷ []
line_last [] h ne = absurd (ne refl)
line_last (b ∷ []) h ne = rw (plain_is b (plain_first b [] h))
line_last (b ∷ c ∷ line) h ne =
    let e = line_last (c ∷ line) (plain_rest b (c ∷ line) h) (λ e. absurd (cc)) in
    rw (plain_is b (plain_first b (c ∷ line) h), e)

-- all bytes at hand, before and after
pub took_all : (xs ys held all : List ℕ) → Took (Some xs) (Some ys) held all → held ++ xs ≡ all ++ ys
took_all xs ys held all t = ap (λ w. held ++ w) t.takes ∙ (sym (append_assoc held t.read ys) ∙ ap (λ w. w ++ ys) t.whole)

told_line : (xs ys held : List ℕ) (now : Lined) → LacksByte 10 now.line → EndsLine (Some xs) (Some ys) held now → lines_of (held ++ xs) ≡ now.line ∷ lines_of (now.held ++ ys)
told_line xs ys held now plain (inl t) =
    ap lines_of (took_all xs ys held _ t.0 ∙ append_assoc now.line (10 ∷ now.held) ys) ∙ line_whole now.line (now.held ++ ys) plain
told_line xs ys held now plain (inr t) =
    let e : held ++ xs ≡ now.line = took_all xs ys held _ t.0 ∙ (ap (λ w. now.line ++ w) t.2.left ∙ append-nil now.line) in
    let rest : now.held ++ ys ≡ [] = ap (λ w. w ++ ys) t.2.held ∙ t.2.left in
    ap lines_of e ∙ (line_last now.line plain t.1 ∙ ap (λ w. now.line ∷ lines_of w) (sym rest))

told_long : (xs ys held : List ℕ) (now : Lined) → LacksByte 10 now.line → MOST_LINE_BYTES < length now.line → Took (Some xs) (Some ys) held (now.line ++ now.held) → IsLong (lines_of (held ++ xs))
told_long xs ys held now plain long t =
    let f = line_front now.line (now.held ++ ys) plain (λ e. let n = ap length e in absurd (omega arith)) in
    let e : lines_of (held ++ xs) ≡ f.0 ∷ f.1 = ap lines_of (took_all xs ys held _ t ∙ append_assoc now.line now.held ys) ∙ f.2 in
    let l : MOST_LINE_BYTES < length f.0 = omega (arith, f.3) in
    rw e l

-- what a call gives, by the lines of all bytes at hand
pub told : (old new : Option (List ℕ)) (held : List ℕ) (now : Lined) (result : Result Bool LineError) → GivesLine old new held now result → TellsLine old new held now result
told None new held now result h = tt
told (Some xs) None held now result h = tt
told (Some xs) (Some ys) held now (Ok true) h = (told_line xs ys held now h.0 h.2, h.1)
told (Some xs) (Some ys) held now (Ok false) h = took_all xs ys held [] h.0 ∙ h.2.left
told (Some xs) (Some ys) held now (Err LongLine) h = told_long xs ys held now h.0 h.1 h.2
told (Some xs) (Some ys) held now (Err Failed) h = tt
