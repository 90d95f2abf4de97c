-- The bytes of a recording, field after field.
use Rattle.std.specs.Prelude.{◌≡◌, ℕ, ℤ, List, ◌∷◌, ◌++◌, length}
use Rattle.std.specs.Int.{cast_unsigned, to_be_bytes, w16, w32, w64}
use Rattle.std.specs.List.{flat_map}
use Rattle.ppd_ast.specs.declared.program.Program.{Program}
use Rattle.ppd_model.specs.declared.entry.Entry.{Entry}
use Rattle.ppd_model.specs.declared.entry.Entry.TheVariants.{Prelog, Unit, Sync, Postlog, End}
use Rattle.ppd_model.specs.declared.entry.Logs.{Logs}
use Rattle.ppd_codec.specs.declared.recording.Header.{Header}
use Rattle.ppd_codec.specs.Recordings.{spelled, facts_of}
use Rattle.ppd_codec_fields.specs.Fields.{kind_code, status_code}

-- how many there are, and each
abbrev pub listed : {A : Type 0} → (A → List ℕ) → List A → List ℕ
listed bytes xs = to_be_bytes w16 (length xs) ++ flat_map bytes xs

-- a value, in two's complement
abbrev pub value_bytes : ℤ → List ℕ
value_bytes v = to_be_bytes w64 (cast_unsigned w64 v)

abbrev pub values : List ℤ → List ℕ
values vs = listed value_bytes vs

abbrev pub cells : List ℕ → List ℕ
cells cs = listed (to_be_bytes w16) cs

-- an entry: 1 prelog, 2 unit, 3 synchronization, 4 postlog, 5 end
abbrev pub entry_bytes : Entry → List ℕ
entry_bytes (Prelog block vs) = 1 ∷ to_be_bytes w16 block ++ values vs
entry_bytes (Unit unit vs) = 2 ∷ to_be_bytes w16 unit ++ values vs
entry_bytes (Sync kind object number value reads writes) =
    3 ∷ kind_code kind ∷ object ∷ to_be_bytes w32 number ++ value_bytes value ++ cells reads ++ cells writes
entry_bytes (Postlog block vs) = 4 ∷ to_be_bytes w16 block ++ values vs
entry_bytes (End status rest reads writes) =
    5 ∷ status_code status ∷ to_be_bytes w32 rest ++ cells reads ++ cells writes

-- the log of a process
abbrev pub log_bytes : List Entry → List ℕ
log_bytes entries = to_be_bytes w32 (length entries) ++ flat_map entry_bytes entries

-- `PPDR`, the version, the options, the source, and the logs
abbrev pub recording_bytes : (version : ℕ) → Header → (source : List ℕ) → List (List Entry) → List ℕ
recording_bytes version h source lists =
    80 ∷ 80 ∷ 68 ∷ 82 ∷ version ∷ to_be_bytes w32 h.budget ++ to_be_bytes w16 h.policy.leaf
    ++ to_be_bytes w16 h.policy.loops ++ to_be_bytes w32 (length source) ++ source
    ++ length lists ∷ flat_map log_bytes lists

-- ---- the law

-- the form of a recording gives these bytes
abbrev pub RecordingsAreSpelledSo : Type 0
RecordingsAreSpelledSo = (program : Program) (source : List ℕ) (h : Header) (logs : Logs)
    → spelled program source h logs ≡ recording_bytes (facts_of program).version h source logs.lists
