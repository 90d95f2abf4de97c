-- Bytes are the recording of one thing at most, and are not both accepted and refused.
use Rattle.ppd_model.proofs.Tested.{none_before_itself}
use Rattle.std.specs.Prelude.{Option, None}
use Rattle.std.proofs.Common.{◌≡◌, ◌≢◌, ℕ, List, refl, sym, subst, ◌∙◌, ap}
use Rattle.std.proofs.lemmas.Option.{none-some}
use Rattle.ppd_ast.specs.declared.plan.Plan.{Plan}
use Rattle.ppd_ast.specs.declared.program.Program.{Program}
use Rattle.ppd_blocks.specs.Blocks.{plan_of}
use Rattle.ppd_check.specs.Read.{IsRead}
use Rattle.ppd_check.proofs.Excluded.{program_unique}
use Rattle.ppd_codec.specs.Recordings.{IsBad, IsDecoded, IsRecordingOf}
use Rattle.ppd_codec.specs.declared.bad.BadBytes.{BadBytes}
use Rattle.ppd_codec.specs.declared.bad.BadBytes.TheVariants as bad
use Rattle.ppd_codec.specs.declared.recording.Header.{Header}
use Rattle.ppd_codec.specs.declared.recording.Recording.{Recording}
use Rattle.ppd_codec.proofs.Spelling.{no_recording_is_bad, same_three}
use Rattle.ppd_model.specs.declared.entry.Logs.{Logs}
use Rattle.ppd_model.specs.RecordedSets.{record_in}
use Rattle.ppd_graph.specs.Refusals.{AreOrdered, IsRefused as IsNoGraph}
use Rattle.ppd_model.specs.declared.bad_sync.BadSync.{BadSync}
use Rattle.ppd_model.specs.declared.bad_sync.BadSync.TheVariants as sync
use Rattle.ppd_index.specs.Refusals.{IsRefused as IsNoIndex, first_in_lists}
use Rattle.ppd_model.specs.declared.bad_log.BadLog.{BadLog}
use Rattle.ppd_model.specs.declared.bad_log.BadLog.TheVariants as log
use Rattle.ppd_codec_runs.specs.Laws.{RefusedOrAccepted}
use Rattle.ppd_codec_runs.specs.Recordings.{IsRefusedBy}
use Rattle.ppd_codec_runs.specs.Recordings.IsRefusedBy.{by_bytes, by_log, by_sync}
use Rattle.ppd_text_refusals.specs.Recordings.{refused_bytes, refused_log, refused_sync}
use Rattle.law_logs.proofs.Graph.Ordered.{way_before}

-- ---- of one recording

pub as_recording : (bytes : List ℕ) (r : Recording) → IsDecoded bytes r → IsRecordingOf r.source r.header r.logs bytes
as_recording bytes r d = record { program = r.program; lawful = d.lawful; spelling = d.spelling }

-- what is decoded of the recording of three has their program and plan
pub record IsOfThree (source : List ℕ) (header : Header) (program : Program) (logs : Logs) (r : Recording) : Type 0 where
  pub program_is : r.program ≡ program
  pub plan_is : r.plan ≡ plan_of program header.policy
  pub header_is : r.header ≡ header
  pub logs_are : r.logs ≡ logs

pub of_three : (source : List ℕ) (header : Header) (program : Program) (logs : Logs) (bytes : List ℕ) (r : Recording) → IsRead source program → IsRecordingOf source header logs bytes → IsDecoded bytes r → IsOfThree source header program logs r
of_three source header program logs bytes r read a d =
    let same = same_three source header logs bytes r a d in
    let one : r.program ≡ program = program_unique source r.program program (subst (λ s. IsRead s r.program) (sym same.0) d.lawful.accepted) read in
    record {
      program_is = one;
      plan_is = d.plan ∙ (ap (λ (p : Program). plan_of p r.header.policy) one ∙ ap (λ (h : Header). plan_of program h.policy) (sym same.1));
      header_is = sym same.1;
      logs_are = sym same.2;
    }

-- ---- what is accepted is not refused

pub indexed_not : (o : Option BadLog) (e : BadLog) → o ≡ None → e ≢ log.Memory → IsNoIndex o e → ⊥
indexed_not o (log.Unpaired at) none other r = none-some (log.Unpaired at) (sym none ∙ r)
indexed_not o (log.NoEnd at) none other r = none-some (log.NoEnd at) (sym none ∙ r)
indexed_not o (log.AfterEnd at) none other r = none-some (log.AfterEnd at) (sym none ∙ r)
indexed_not o (log.WrongValues at) none other r = none-some (log.WrongValues at) (sym none ∙ r)
indexed_not o log.Memory none other r = other refl

-- both are of one recording
index_as : (bytes : List ℕ) (r q : Recording) → IsDecoded bytes r → IsDecoded bytes q → first_in_lists r.program r.plan 0 r.logs.lists ≡ None → first_in_lists q.program q.plan 0 q.logs.lists ≡ None
index_as bytes r q d e none =
    let s : IsOfThree r.source r.header r.program r.logs q = of_three r.source r.header r.program r.logs bytes q d.lawful.accepted (as_recording bytes r d) e in
    let plans : q.plan ≡ r.plan = s.plan_is ∙ sym d.plan in
    ap (λ (p : Program). first_in_lists p q.plan 0 q.logs.lists) s.program_is
    ∙ (ap (λ (p : Plan). first_in_lists r.program p 0 q.logs.lists) plans
    ∙ (ap (λ (l : Logs). first_in_lists r.program r.plan 0 l.lists) s.logs_are ∙ none))

-- ---- logs that have a graph are not refused one

graphed_not : (program : Program) (of : Logs) → AreOrdered program of → (e : BadSync) → e ≢ sync.Memory → IsNoGraph program of e → ⊥
graphed_not program of o (sync.NoObject at) other r = none-some at (sym o.numbered.objects ∙ r)
graphed_not program of o (sync.NumberTwice at) other r = none-some at (sym o.numbered.once ∙ r.1)
graphed_not program of o (sync.NumberMissing kind object number) other r = none-some (kind, object, number) (sym o.numbered.complete ∙ r.2)
graphed_not program of o (sync.Cycle nodes) other r = none_before_itself program (record_in of) o.acyclic r.1.first (way_before program (record_in of) r.1.first r.1.rest r.1.first r.1.way)
graphed_not program of o sync.Memory other r = other refl

graph_as : (bytes : List ℕ) (r q : Recording) → IsDecoded bytes r → IsDecoded bytes q → AreOrdered r.program r.logs → AreOrdered q.program q.logs
graph_as bytes r q d e o =
    let s : IsOfThree r.source r.header r.program r.logs q = of_three r.source r.header r.program r.logs bytes q d.lawful.accepted (as_recording bytes r d) e in
    subst (λ (p : Program). AreOrdered p q.logs) (sym s.program_is) (subst (λ (l : Logs). AreOrdered r.program l) (sym s.logs_are) o)

pub refused_or_accepted : RefusedOrAccepted
refused_or_accepted bytes line r a (by_bytes e other bad) = no_recording_is_bad r.source r.header r.logs bytes e (as_recording bytes r a.decoded) bad
refused_or_accepted bytes line r a (by_log q d e other bad) = indexed_not (first_in_lists q.program q.plan 0 q.logs.lists) e (index_as bytes r q a.decoded d a.indexed) other bad
refused_or_accepted bytes line r a (by_sync q d none e other bad) = graphed_not q.program q.logs (graph_as bytes r q a.decoded d a.ordered) e other bad

-- ---- a refusal by its line

pub no_bytes : (bytes line : List ℕ) (e : BadBytes) → (e ≢ bad.Memory → IsBad bytes e) → e ≢ bad.Memory → line ≡ refused_bytes e → IsRefusedBy bytes line
no_bytes bytes line e why other is = subst (IsRefusedBy bytes) (sym is) (by_bytes e other (why other))

pub no_index : (bytes line : List ℕ) (r : Recording) (e : BadLog) → IsDecoded bytes r → IsNoIndex (first_in_lists r.program r.plan 0 r.logs.lists) e → e ≢ log.Memory → line ≡ refused_log r.program e → IsRefusedBy bytes line
no_index bytes line r e d why other is = subst (IsRefusedBy bytes) (sym is) (by_log r d e other why)

pub no_graph : (bytes line : List ℕ) (r : Recording) (e : BadSync) → IsDecoded bytes r → first_in_lists r.program r.plan 0 r.logs.lists ≡ None → IsNoGraph r.program r.logs e → e ≢ sync.Memory → line ≡ refused_sync r.program e → IsRefusedBy bytes line
no_graph bytes line r e d none why other is = subst (IsRefusedBy bytes) (sym is) (by_sync r d none e other why)
