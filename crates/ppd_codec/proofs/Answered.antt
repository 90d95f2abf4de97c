-- What decoding answers, by the parts of reading.
use Rattle.std.specs.Prelude.{IsErrAnd, Some, None, nat_eq, if◌then◌else◌}
use Rattle.std.specs.Option.{option_map_or}
use Rattle.std.proofs.Common.{◌≡◌, ◌^◌, ◌≢◌, ℕ, suc, ◌<◌, ◌≤◌, List, [], ◌∷◌, length, get_or, Bool, true, false, cond, Result, Ok, Err, refl, ap, sym, ◌∙◌, subst, arith}
use Rattle.std.proofs.lemmas.Bool.Decides.{nat_tests}
use Rattle.std.proofs.lemmas.List.{append-nil}
use Rattle.ppd_ast.specs.declared.limits.TheConstants.{MOST_RECORDING_BYTES}
use Rattle.ppd_ast.specs.declared.program.Program.{Program}
use Rattle.ppd_check.specs.Read.{IsRead, IsRefused}
use Rattle.ppd_check.specs.declared.error.SourceError.{SourceError}
use Rattle.ppd_check.specs.declared.error.SourceError.TheVariants as source
use Rattle.ppd_model.specs.declared.entry.Entry.{Entry}
use Rattle.ppd_model.specs.declared.entry.Logs.{Logs}
use Rattle.ppd_codec.specs.declared.bad.BadBytes.{BadBytes}
use Rattle.ppd_codec.specs.declared.bad.BadBytes.TheVariants as bad
use Rattle.ppd_codec.specs.declared.bad.Field.TheVariants as F
use Rattle.ppd_codec.specs.declared.facts.Facts.{Facts}
use Rattle.ppd_codec.specs.declared.recording.Header.{Header}
use Rattle.ppd_codec.specs.declared.recording.Recording.{Recording}
use Rattle.ppd_blocks.specs.Blocks.{plan_of}
use Rattle.ppd_codec.specs.Answer.{IsDecodingOf}
use Rattle.ppd_codec.specs.Came.{Came}
use Rattle.ppd_codec.specs.Format.{Front, front, logs as logs_form, recording}
use Rattle.ppd_codec.specs.Reader.{Got, after, done, next}
use Rattle.ppd_codec.specs.Recordings.{AreLawful, ComesToSource, IsBad, IsDecoded, IsLawfulBy, IsMade, IsPastFront, facts_of, front_of, nothing_left, refusal, spelled}
use Rattle.ppd_codec.specs.Recordings.IsBad.{by_front, by_length, by_logs, by_source, by_version}
use Rattle.ppd_codec.proofs.Inverts.{AreBytes, Wrote, got, ok_is}
use Rattle.ppd_codec.proofs.Parts.{recording_holds}

pub are_bytes : (xs : List ℕ) → ((k : ℕ) → k < length xs → get_or xs k 0 < 2 ^ 8) → AreBytes xs
are_bytes [] h = tt
are_bytes (x ∷ xs) h = (h 0 (omega arith), are_bytes xs (λ k l. h (suc k) (omega arith)))

-- past a front whose version is the one of the source, the logs are read
pub whole_read : (f : Facts) (bytes : List ℕ) (h : Front) (now : ℕ) (rest : List ℕ) → front.read 0 bytes ≡ Ok (got h now rest) → nat_eq h.1.0 f.version ≡ true
    → (recording f).read 0 bytes ≡ after ((logs_form f).read now rest) (λ y. done {A = Front × List (List Entry)} (h, y))
whole_read f bytes h now rest came v =
    ap (λ (g : Result (Got Front) BadBytes). after (after g (λ x. option_map_or done (if nat_eq x.1.0 f.version then Some x else None) (λ now rest. Err (bad.Range 4 F.Version)))) (λ x. next (logs_form f).read (λ y. done {A = Front × List (List Entry)} (x, y)))) came
    ∙ ap (λ (t : Bool). after (option_map_or done (if t then Some h else None) (λ now rest. Err (bad.Range 4 F.Version)) now rest) (λ x. next (logs_form f).read (λ y. done {A = Front × List (List Entry)} (x, y)))) v

-- nothing is left over
left_none : {A : Type 0} (g : Result (Got A) BadBytes) (y : A) → nothing_left g ≡ Ok y → (now : ℕ) × (g ≡ Ok (got y now []))
left_none (Err e) y p = absurd (cc)
left_none {A} (Ok g) y p = let k = by g.rest refl (nat_eq (length g.rest) 0) refl p in (k.0, ap Ok k.1)
  where
    by : (rest : List ℕ) → g.rest ≡ rest → (t : Bool) → nat_eq (length rest) 0 ≡ t → cond t (Ok g.value) (Err (bad.Trailing g.at)) ≡ Ok y → (now : ℕ) × (g ≡ got y now [])
    by [] none true is e = let same : g.value ≡ y = cc in (g.at, ap (λ (z : A). got z g.at g.rest) same ∙ ap (λ (bs : List ℕ). got y g.at bs) none)
    by (c ∷ cs) none true is e = absurd (grind (arith, nat_tests))
    by rest none false is e = absurd (cc)

-- where a pair was read to the end of the bytes, nothing of its second part is refused
pub none_bad : {A B : Type 0} (h : A) (g : Result (Got B) BadBytes) (xy : A × B) (now : ℕ) (e : BadBytes) → after g (λ y. done {A = A × B} (h, y)) ≡ Ok (got xy now []) → nothing_left g ≡ Err e → ⊥
none_bad h (Err x) xy now e p n = cc
none_bad {A} {B} h (Ok g) xy now e p n =
    let same : got {A = A × B} (h, g.value) g.at g.rest ≡ got xy now [] = ok_is (after (Ok g) (λ y. done {A = A × B} (h, y))) (got (h, g.value) g.at g.rest) (got xy now []) refl p in
    let none : g.rest ≡ [] = ap (λ (z : Got (A × B)). z.rest) same in
    let fails = sym (ap (λ (bs : List ℕ). cond (nat_eq (length bs) 0) (Ok g.value) (Err (bad.Trailing g.at))) none) ∙ n in
    cc

-- ---- the answers

pub bad_long : (bytes : List ℕ) → MOST_RECORDING_BYTES < length bytes → IsBad bytes bad.TooLong
bad_long bytes h = by_length h

pub bad_front : (bytes : List ℕ) (e : BadBytes) → length bytes ≤ MOST_RECORDING_BYTES → front.read 0 bytes ≡ Err e → IsBad bytes e
bad_front bytes e h r = by_front e h r

-- the logs to the end of the bytes, which are read only past a version that is the one of the facts
abbrev logs_past_version : ℕ → Facts → ℕ → List ℕ → Result (List (List Entry)) BadBytes
logs_past_version v f now rest =
    if nat_eq v f.version then nothing_left ((logs_form f).read now rest) else Err (bad.Range 4 F.Version)

module _ (bytes : List ℕ) (h : Front) (now : ℕ) (rest : List ℕ) (short : length bytes ≤ MOST_RECORDING_BYTES) (came : Came front.read 0 bytes now rest h) where
  comes : ComesToSource bytes (got h now rest) h.1.1.1.1.1
  comes = record { short = short; reads = came; source_is = refl }

  pub past_front : IsPastFront bytes
  past_front = (got h now rest, h.1.1.1.1.1, comes)

  pub bad_source : (error : SourceError) → IsRefused h.1.1.1.1.1 error → refusal error ≢ bad.Memory → IsBad bytes (refusal error)
  bad_source (source.Lex x) is m = by_source (got h now rest) h.1.1.1.1.1 (source.Lex x) comes is (λ q. m (ap refusal q))
  bad_source (source.Syntax x) is m = by_source (got h now rest) h.1.1.1.1.1 (source.Syntax x) comes is (λ q. m (ap refusal q))
  bad_source (source.Check x) is m = by_source (got h now rest) h.1.1.1.1.1 (source.Check x) comes is (λ q. m (ap refusal q))
  bad_source source.Memory is m = absurd (m refl)

  pub bad_version : (p : Program) → IsRead h.1.1.1.1.1 p → nat_eq h.1.0 (facts_of p).version ≡ false → IsBad bytes (bad.Range 4 F.Version)
  bad_version p is v = by_version (got h now rest) h.1.1.1.1.1 p comes is v

  pub bad_logs : (p : Program) (e : BadBytes) → IsRead h.1.1.1.1.1 p → nat_eq h.1.0 (facts_of p).version ≡ true → nothing_left ((logs_form (facts_of p)).read now rest) ≡ Err e → IsBad bytes e
  bad_logs p e is v n = by_logs (got h now rest) h.1.1.1.1.1 p e comes is v n

  -- everything was read
  pub all_read : (p : Program) (lists : List (List Entry)) → AreBytes bytes → nat_eq h.1.0 (facts_of p).version ≡ true → nothing_left ((logs_form (facts_of p)).read now rest) ≡ Ok lists
      → (recording (facts_of p)).Lawful (h, lists) × (bytes ≡ (recording (facts_of p)).bytes (h, lists))
  all_read p lists b v n =
      let l = left_none ((logs_form (facts_of p)).read now rest) lists n in
      let all : (recording (facts_of p)).read 0 bytes ≡ Ok (got (h, lists) l.0 []) = whole_read (facts_of p) bytes h now rest came v ∙ ap (λ (g : Result (Got (List (List Entry))) BadBytes). after g (λ y. done {A = Front × List (List Entry)} (h, y))) l.1 in
      let one : Wrote (recording (facts_of p)).bytes (recording (facts_of p)).Lawful 0 bytes (h, lists) l.0 [] = (recording_holds (facts_of p)).back 0 bytes (h, lists) l.0 [] b all in
      (one.lawful, one.bytes_are ∙ append-nil ((recording (facts_of p)).bytes (h, lists)))

  pub bad_last : (p : Program) (e : BadBytes) → IsRead h.1.1.1.1.1 p → logs_past_version h.1.0 (facts_of p) now rest ≡ Err e → IsBad bytes e
  bad_last p e is n = by (nat_eq h.1.0 (facts_of p).version) refl n
    where
      by : (t : Bool) → nat_eq h.1.0 (facts_of p).version ≡ t → cond t (nothing_left ((logs_form (facts_of p)).read now rest)) (Err (bad.Range 4 F.Version)) ≡ Err e → IsBad bytes e
      by true v n = bad_logs p e is v n
      by false v n = subst (λ (x : BadBytes). IsBad bytes x) (cc) (bad_version p is v)

-- the version is compared with that of the facts which the code finds
pub same_version : (v : ℕ) (found facts : Facts) → found ≡ facts → v ≡ found.version → nat_eq v facts.version ≡ true
same_version v found facts is e = let same : v ≡ facts.version = e ∙ ap (λ (f : Facts). f.version) is in grind (arith, nat_tests)

pub other_version : (v : ℕ) (found facts : Facts) → found ≡ facts → v ≢ found.version → nat_eq v facts.version ≡ false
other_version v found facts is e = let other : v ≢ facts.version = subst (λ (f : Facts). v ≢ f.version) is e in grind (arith, nat_tests)

pub past_same : (v : ℕ) (found facts : Facts) (now : ℕ) (rest : List ℕ) (answer : Result (List (List Entry)) BadBytes) → found ≡ facts → v ≡ found.version → nothing_left ((logs_form found).read now rest) ≡ answer
    → (nat_eq v facts.version ≡ true) × (nothing_left ((logs_form facts).read now rest) ≡ answer) × (logs_past_version v facts now rest ≡ answer)
past_same v found facts now rest answer is e n =
    let one = same_version v found facts is e in
    let all : nothing_left ((logs_form facts).read now rest) ≡ answer = subst (λ (f : Facts). nothing_left ((logs_form f).read now rest) ≡ answer) is n in
    (one, all, ap (λ (t : Bool). cond t (nothing_left ((logs_form facts).read now rest)) (Err (bad.Range 4 F.Version))) one ∙ all)

pub past_other : (v : ℕ) (found facts : Facts) (now : ℕ) (rest : List ℕ) → found ≡ facts → v ≢ found.version → logs_past_version v facts now rest ≡ Err (bad.Range 4 F.Version)
past_other v found facts now rest is e =
    ap (λ (t : Bool). cond t (nothing_left ((logs_form facts).read now rest)) (Err (bad.Range 4 F.Version))) (other_version v found facts is e)

version_is : (v w : ℕ) → nat_eq v w ≡ true → v ≡ w
version_is v w e = grind (arith, nat_tests)

pub decoded : (bytes : List ℕ) (v : ℕ) (header : Header) (s : List ℕ) (now : ℕ) (rest : List ℕ) (p : Program) (logs : Logs) → length bytes ≤ MOST_RECORDING_BYTES → AreBytes bytes
    → Came front.read 0 bytes now rest (front_of v header s) → IsRead s p → nat_eq v (facts_of p).version ≡ true → nothing_left ((logs_form (facts_of p)).read now rest) ≡ Ok logs.lists
    → IsLawfulBy p s header logs × (bytes ≡ spelled p s header logs)
decoded bytes v header s now rest p logs short b came is one n =
    let k = all_read bytes (front_of v header s) now rest short came p logs.lists b one n in
    let same : v ≡ (facts_of p).version = version_is v (facts_of p).version one in
    let lawful = subst (λ (w : ℕ). (recording (facts_of p)).Lawful (front_of w header s, logs.lists)) same k.0 in
    let spelling : bytes ≡ spelled p s header logs = k.1 ∙ ap (λ (w : ℕ). (recording (facts_of p)).bytes (front_of w header s, logs.lists)) same in
    (record { accepted = is; fields = lawful; short = subst (λ (bs : List ℕ). length bs ≤ MOST_RECORDING_BYTES) spelling short }, spelling)

pub made_decoded : (bytes : List ℕ) (v : ℕ) (header : Header) (s : List ℕ) (now : ℕ) (rest : List ℕ) (p : Program) (lists : List (List Entry)) (r : Recording) → length bytes ≤ MOST_RECORDING_BYTES → AreBytes bytes
    → Came front.read 0 bytes now rest (front_of v header s) → IsRead s p → nat_eq v (facts_of p).version ≡ true → nothing_left ((logs_form (facts_of p)).read now rest) ≡ Ok lists → IsMade header s p lists r
    → IsDecoded bytes r
made_decoded bytes v header s now rest p lists r short b came is one n m =
    let logs : Logs = record { lists = lists } in
    let k = decoded bytes v header s now rest p logs short b came is one n in
    let same : logs ≡ r.logs = ap (λ (ls : List (List Entry)). record { lists = ls }) (sym m.logs) in
    let l1 : IsLawfulBy r.program s header logs = subst (λ (q : Program). IsLawfulBy q s header logs) (sym m.program) k.0 in
    let l2 : IsLawfulBy r.program r.source header logs = subst (λ (t : List ℕ). IsLawfulBy r.program t header logs) (sym m.source) l1 in
    let l3 : IsLawfulBy r.program r.source r.header logs = subst (λ (h : Header). IsLawfulBy r.program r.source h logs) (sym m.header) l2 in
    record {
      lawful = subst (λ (l : Logs). IsLawfulBy r.program r.source r.header l) same l3;
      spelling = k.1 ∙ ap (λ (q : Program). spelled q s header logs) (sym m.program) ∙ ap (λ (t : List ℕ). spelled r.program t header logs) (sym m.source)
          ∙ ap (λ (h : Header). spelled r.program r.source h logs) (sym m.header) ∙ ap (λ (l : Logs). spelled r.program r.source r.header l) same;
      plan = m.plan ∙ ap (λ (q : Program). plan_of q header.policy) (sym m.program) ∙ ap (λ (h : Header). plan_of r.program h.policy) (sym m.header);
    }

-- what was decoded can be encoded again
pub lawful_again : (bytes : List ℕ) (r : Recording) → IsDecoded bytes r → AreLawful r.source r.header r.logs
lawful_again bytes r d = (r.program, d.lawful)

-- ---- errors

pub is_refused : (bytes : List ℕ) (e : BadBytes) → (e ≢ bad.Memory → IsBad bytes e) → (e ≡ bad.Memory → IsPastFront bytes) → IsDecodingOf bytes (Err e)
is_refused bytes e is past = record { ok = tt; again = tt; valid = tt; plan = tt; err = is; early = past }

-- what a `?` hands on, where the error is the same
pub handed_on : (bytes : List ℕ) (r : Result Recording BadBytes) (e : BadBytes) → IsErrAnd r (λ y. y ≡ e) → IsDecodingOf bytes (Err e) → IsDecodingOf bytes r
handed_on bytes (Ok y) e h d = absurd h
handed_on bytes (Err y) e h d = subst (λ (x : BadBytes). IsDecodingOf bytes (Err x)) (sym h) d
