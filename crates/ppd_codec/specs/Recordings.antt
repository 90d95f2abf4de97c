-- Recordings: which are lawful, their bytes, and what decoding answers.
use Rattle.std.specs.Prelude.{◌≡◌, ◌≢◌, ℕ, ◌-◌, ◌<◌, ◌≤◌, nat_eq, true, false, List, length, Result, Ok, Err, if◌then◌else◌}
use Rattle.std.specs.List.{list_any}
use Rattle.ppd_ast.specs.declared.program.Program.{Program}
use Rattle.ppd_blocks.specs.Blocks.{plan_of}
use Rattle.ppd_check.specs.Read.{IsRead, IsRefused}
use Rattle.ppd_check.specs.declared.error.SourceError.{SourceError}
use Rattle.ppd_check.specs.declared.error.SourceError.TheVariants as source
use Rattle.ppd_model.specs.declared.entry.Entry.{Entry}
use Rattle.ppd_model.specs.declared.entry.Logs.{Logs}
use Rattle.ppd_codec.specs.declared.bad.BadBytes.{BadBytes}
use Rattle.ppd_codec.specs.declared.bad.BadBytes.TheVariants as bad
use Rattle.ppd_codec.specs.declared.bad.Field.TheVariants as F
use Rattle.ppd_codec.specs.declared.facts.Facts.{Facts}
use Rattle.ppd_codec.specs.declared.recording.Header.{Header}
use Rattle.ppd_codec.specs.declared.recording.Recording.{Recording}
use Rattle.ppd_ast.specs.declared.limits.TheConstants.{MOST_RECORDING_BYTES}
use Rattle.ppd_codec.specs.Reader.{Got}
use Rattle.ppd_codec.specs.Format.{Front, front, logs, recording}

-- ---- what the form takes from the source's program

-- the version is 2 where a channel has capacity 0
abbrev pub facts_of : Program → Facts
facts_of p =
    record {
      version = if list_any (λ c. nat_eq c.capacity 0) p.chans then 2 else 1;
      processes = length p.bodies - p.functions;
      shared = length p.starts;
    }

-- ---- the three as the fields of the form

abbrev pub front_of : ℕ → Header → List ℕ → Front
front_of v h s = (tt, (v, (h.budget, (h.policy.leaf, (h.policy.loops, s)))))

-- the bytes, where the source has this program
abbrev pub spelled : Program → List ℕ → Header → Logs → List ℕ
spelled p s h logs = (recording (facts_of p)).bytes (front_of (facts_of p).version h s, logs.lists)

pub record IsLawfulBy (p : Program) (s : List ℕ) (h : Header) (logs : Logs) : Type 0 where
  -- the source is accepted
  pub accepted : IsRead s p
  -- each field is lawful, the version by the source and the count of processes too
  pub fields : (recording (facts_of p)).Lawful (front_of (facts_of p).version h s, logs.lists)
  pub short : length (spelled p s h logs) ≤ MOST_RECORDING_BYTES

-- these three have a recording
abbrev pub AreLawful : List ℕ → Header → Logs → Type 0
AreLawful s h logs = (p : Program) × IsLawfulBy p s h logs

-- the bytes are the recording of these three
pub record IsRecordingOf (s : List ℕ) (h : Header) (logs : Logs) (bytes : List ℕ) : Type 0 where
  pub program : Program
  pub lawful : IsLawfulBy program s h logs
  pub spelling : bytes ≡ spelled program s h logs

-- the bytes are the recording of what was decoded, with its program and the plan of its policy
pub record IsDecoded (bytes : List ℕ) (r : Recording) : Type 0 where
  pub lawful : IsLawfulBy r.program r.source r.header r.logs
  pub spelling : bytes ≡ spelled r.program r.source r.header r.logs
  pub plan : r.plan ≡ plan_of r.program r.header.policy

-- what was decoded is made of these parts
pub record IsMade (h : Header) (s : List ℕ) (p : Program) (lists : List (List Entry)) (r : Recording) : Type 0 where
  pub source : r.source ≡ s
  pub program : r.program ≡ p
  pub plan : r.plan ≡ plan_of p h.policy
  pub header : r.header ≡ h
  pub logs : r.logs.lists ≡ lists

-- ---- what decoding answers: each field in order, and the source right after its bytes

-- what a refused source is for its recording; want of memory is the outer one
abbrev pub refusal : SourceError → BadBytes
refusal source.Memory = bad.Memory
refusal e = bad.Source e

-- what is left over is an error
abbrev pub nothing_left : {A : Type 0} → Result (Got A) BadBytes → Result A BadBytes
nothing_left (Err e) = Err e
nothing_left (Ok g) = if nat_eq (length g.rest) 0 then Ok g.value else Err (bad.Trailing g.at)

-- reading comes to this source: nothing before it is refused, nor it itself
pub record ComesToSource (bytes : List ℕ) (got : Got Front) (s : List ℕ) : Type 0 where
  pub short : length bytes ≤ MOST_RECORDING_BYTES
  pub reads : front.read 0 bytes ≡ Ok got
  pub source_is : got.value.1.1.1.1.1 ≡ s

-- nothing up to the source's bytes is refused: neither the length of all nor a field of the front
abbrev pub IsPastFront : List ℕ → Type 0
IsPastFront bytes = (got : Got Front) × (s : List ℕ) × ComesToSource bytes got s

-- the first test that fails is this one
pub data IsBad (bytes : List ℕ) : BadBytes → Type 0 where
  -- they are too many
  by_length : MOST_RECORDING_BYTES < length bytes → IsBad bytes bad.TooLong
  -- a field of the front is none
  by_front : (e : BadBytes) → length bytes ≤ MOST_RECORDING_BYTES → front.read 0 bytes ≡ Err e → IsBad bytes e
  -- the source is refused
  by_source : (got : Got Front) (s : List ℕ) (e : SourceError) → ComesToSource bytes got s → IsRefused s e
      → e ≢ source.Memory → IsBad bytes (bad.Source e)
  -- the version is not the one that the source asks for
  by_version : (got : Got Front) (s : List ℕ) (p : Program) → ComesToSource bytes got s → IsRead s p
      → nat_eq got.value.1.0 (facts_of p).version ≡ false → IsBad bytes (bad.Range 4 F.Version)
  -- a field of the logs is none, or something is left over
  by_logs : (got : Got Front) (s : List ℕ) (p : Program) (e : BadBytes) → ComesToSource bytes got s → IsRead s p
      → nat_eq got.value.1.0 (facts_of p).version ≡ true
      → nothing_left ((logs (facts_of p)).read got.at got.rest) ≡ Err e → IsBad bytes e
