-- Each recording has one spelling, and each spelling is of one recording.
use Rattle.std.specs.Prelude.{nat_eq}
use Rattle.std.proofs.Common.{◌≡◌, ◌≢◌, ℕ, ◌+◌, List, [], length, true, Ok, refl, ap, sym, ◌∙◌, subst, arith, true≢false}
use Rattle.std.proofs.lemmas.List.{append-nil}
use Rattle.ppd_ast.specs.declared.program.Program.{Program}
use Rattle.ppd_check.specs.Read.{IsRead, IsRefused}
use Rattle.ppd_check.proofs.Excluded.{program_unique, read_or_refused}
use Rattle.ppd_model.specs.declared.entry.Entry.{Entry}
use Rattle.ppd_model.specs.declared.entry.Logs.{Logs}
use Rattle.ppd_codec.specs.declared.bad.BadBytes.{BadBytes}
use Rattle.ppd_codec.specs.declared.bad.BadBytes.TheVariants as bad
use Rattle.ppd_codec.specs.declared.recording.Header.{Header}
use Rattle.ppd_codec.specs.declared.recording.Recording.{Recording}
use Rattle.ppd_codec.specs.Form.{Form}
use Rattle.ppd_codec.specs.Format.{Front, front, logs, recording}
use Rattle.ppd_codec.specs.Laws.{NoRecordingIsBad, OneReading, OneSpelling}
use Rattle.ppd_codec.specs.Reader.{Got}
use Rattle.ppd_codec.specs.Recordings.{ComesToSource, IsBad, IsDecoded, IsRecordingOf, facts_of, front_of, spelled}
use Rattle.ppd_codec.specs.Recordings.IsBad.{by_front, by_length, by_logs, by_source, by_version}
use Rattle.ppd_codec.proofs.Inverts.{got, ok_is}
use Rattle.ppd_codec.proofs.Parts.{front_holds, recording_holds}
use Rattle.ppd_codec.proofs.Answered.{none_bad, whole_read}

-- the three as the fields of the form
abbrev fields_of : Program → List ℕ → Header → Logs → Front × List (List Entry)
fields_of p s h logs = (front_of (facts_of p).version h s, logs.lists)

pub one_spelling : OneSpelling
one_spelling s h l x y a b =
    a.spelling ∙ ap (λ (p : Program). spelled p s h l) (program_unique s a.program b.program a.lawful.accepted b.lawful.accepted) ∙ sym b.spelling

-- what stands before the logs, as it is read
front_in : (s : List ℕ) (h : Header) (l : Logs) (x : List ℕ) → (a : IsRecordingOf s h l x)
    → (rest : List ℕ) × (front.read 0 x ≡ Ok (got (front_of (facts_of a.program).version h s) (0 + length (front.bytes (front_of (facts_of a.program).version h s))) rest))
front_in s h l x a =
    let f : Front = front_of (facts_of a.program).version h s in
    let more : List ℕ = (recording (facts_of a.program)).bytes (fields_of a.program s h l) in
    (_, ap (λ (bs : List ℕ). front.read 0 bs) a.spelling ∙ front_holds.there f a.lawful.fields.0.0 0 _)

-- the whole, as it is read
whole_in : (s : List ℕ) (h : Header) (l : Logs) (x : List ℕ) → (a : IsRecordingOf s h l x)
    → (recording (facts_of a.program)).read 0 x ≡ Ok (got (fields_of a.program s h l) (0 + length ((recording (facts_of a.program)).bytes (fields_of a.program s h l))) [])
whole_in s h l x a =
    let f : Form (Front × List (List Entry)) = recording (facts_of a.program) in
    let fields = fields_of a.program s h l in
    ap (λ (bs : List ℕ). f.read 0 bs) (a.spelling ∙ sym (append-nil (f.bytes fields))) ∙ (recording_holds (facts_of a.program)).there fields a.lawful.fields 0 []

abbrev header_in : Front → Header
header_in f = record { policy = record { leaf = f.1.1.1.0; loops = f.1.1.1.1.0 }; budget = f.1.1.0 }

abbrev source_in : Front → List ℕ
source_in f = f.1.1.1.1.1

pub one_reading : OneReading
one_reading s t h k l m x a b =
    let r = front_in s h l x a in
    let q = front_in t k m x b in
    let fronts : front_of (facts_of a.program).version h s ≡ front_of (facts_of b.program).version k t =
    ap (λ (g : Got Front). g.value) (ok_is (front.read 0 x) _ _ r.1 q.1) in
    let sources : s ≡ t = ap source_in fronts in
    let headers : h ≡ k = ap header_in fronts in
    let programs : a.program ≡ b.program = program_unique t a.program b.program (subst (λ (z : List ℕ). IsRead z a.program) sources a.lawful.accepted) b.lawful.accepted in
    let one : (recording (facts_of b.program)).read 0 x ≡ Ok (got (fields_of a.program s h l) (0 + length ((recording (facts_of a.program)).bytes (fields_of a.program s h l))) []) =
    ap (λ (p : Program). (recording (facts_of p)).read 0 x) (sym programs) ∙ whole_in s h l x a in
    let fields : fields_of a.program s h l ≡ fields_of b.program t k m = ap (λ (g : Got (Front × List (List Entry))). g.value) (ok_is ((recording (facts_of b.program)).read 0 x) _ _ one (whole_in t k m x b)) in
    let lists : l.lists ≡ m.lists = ap (λ (p : Front × List (List Entry)). p.1) fields in
    (sources, headers, ap (λ (ls : List (List Entry)). record { lists = ls }) lists)

pub no_recording_is_bad : NoRecordingIsBad
no_recording_is_bad s h l x e a b = by e b
  where
    read_is : front.read 0 x ≡ Ok (got (front_of (facts_of a.program).version h s) (0 + length (front.bytes (front_of (facts_of a.program).version h s))) (front_in s h l x a).0)
    read_is = (front_in s h l x a).1

    source_is : (g : Got Front) (t : List ℕ) → ComesToSource x g t → t ≡ s
    source_is g t c = sym c.source_is ∙ ap (λ (z : Got Front). source_in z.value) (ok_is (front.read 0 x) _ _ c.reads read_is)

    program_is : (g : Got Front) (t : List ℕ) (p : Program) → ComesToSource x g t → IsRead t p → p ≡ a.program
    program_is g t p c is = program_unique s p a.program (subst (λ (z : List ℕ). IsRead z p) (source_is g t c) is) a.lawful.accepted

    version_is : (g : Got Front) (t : List ℕ) (p : Program) → ComesToSource x g t → IsRead t p → nat_eq g.value.1.0 (facts_of p).version ≡ true
    version_is g t p c is =
        ap (λ (z : Got Front). nat_eq z.value.1.0 (facts_of p).version) (ok_is (front.read 0 x) _ _ c.reads read_is)
        ∙ ap (λ (q : Program). nat_eq (facts_of a.program).version (facts_of q).version) (program_is g t p c is) ∙ a.lawful.fields.0.1

    by : (y : BadBytes) → IsBad x y → ⊥
    by _ (by_length lt) = let long : length x ≡ length (spelled a.program s h l) = ap length a.spelling in omega (arith, lt, long, a.lawful.short)
    by _ (by_front y le f) = let r = read_is in cc
    by _ (by_source g t y c is m) = m (read_or_refused s a.program y a.lawful.accepted (subst (λ (z : List ℕ). IsRefused z y) (source_is g t c) is))
    by _ (by_version g t p c is v) = true≢false (sym (version_is g t p c is) ∙ v)
    by _ (by_logs g t p y c is v n) =
        let whole : (recording (facts_of p)).read 0 x ≡ Ok _ = ap (λ (q : Program). (recording (facts_of q)).read 0 x) (program_is g t p c is) ∙ whole_in s h l x a in
        none_bad g.value ((logs (facts_of p)).read g.at g.rest) _ _ y (sym (whole_read (facts_of p) x g.value g.at g.rest c.reads v) ∙ whole) n

-- what is decoded of the recording of three are these three
pub same_three : (s : List ℕ) (h : Header) (l : Logs) (x : List ℕ) (r : Recording) → IsRecordingOf s h l x → IsDecoded x r → (s ≡ r.source) × (h ≡ r.header) × (l ≡ r.logs)
same_three s h l x r a d = one_reading s r.source h r.header l r.logs x a (record { program = r.program; lawful = d.lawful; spelling = d.spelling })

pub memory_alone : (e : BadBytes) → (e ≢ bad.Memory → ⊥) → e ≡ bad.Memory
memory_alone bad.Memory h = refl
memory_alone (bad.Magic n) h = absurd (h (λ q. cc))
memory_alone (bad.Version n) h = absurd (h (λ q. cc))
memory_alone (bad.Short n) h = absurd (h (λ q. cc))
memory_alone (bad.Range n f) h = absurd (h (λ q. cc))
memory_alone (bad.Trailing n) h = absurd (h (λ q. cc))
memory_alone (bad.Source e) h = absurd (h (λ q. cc))
memory_alone bad.TooLong h = absurd (h (λ q. cc))
