-- The form of a recording: its fields in order, and what is lawful in each.
use Rattle.std.specs.Prelude.{ℕ, ◌+◌, nat_eq, nat_le, ℤ, List, [], ◌∷◌, ◌++◌, length, Option, Some, None, ⊤}
use Rattle.std.specs.Int.{is_in_range, w16, w32}
use Rattle.ppd_ast.specs.declared.limits.TheConstants.{MOST_BUDGET, MOST_POLICY, MOST_SOURCE_BYTES}
use Rattle.ppd_ast.specs.declared.status.Status.{Status}
use Rattle.ppd_ast.specs.declared.status.SyncKind.{SyncKind}
use Rattle.ppd_model.specs.declared.entry.Entry.{Entry}
use Rattle.ppd_model.specs.declared.entry.Entry.TheVariants as entry
use Rattle.ppd_codec.specs.declared.bad.BadBytes.{BadBytes}
use Rattle.ppd_codec.specs.declared.bad.BadBytes.TheVariants as bad
use Rattle.ppd_codec.specs.declared.bad.Field.{Field}
use Rattle.ppd_codec.specs.declared.bad.Field.TheVariants as F
use Rattle.ppd_codec.specs.declared.facts.Facts.{Facts}
use Rattle.ppd_codec_fields.specs.declared.tag.Tag.{Tag}
use Rattle.ppd_codec_fields.specs.declared.tag.Tag.TheVariants as T
use Rattle.ppd_codec.specs.Form.{Form, byte, listed, listed_along, named, one_of, pair, ranged, value, number}
use Rattle.ppd_codec.specs.Reader.{field, next}
use Rattle.ppd_codec_fields.specs.Fields.{fits_kind, is_next, kind_code, kinds, status_code, statuses, tag_code, tags}

abbrev pub out_of : Field → ℕ → BadBytes
out_of f at = bad.Range at f

-- ---- the header and the source

-- 50 50 44 52
abbrev pub magic : Form ⊤
magic = one_of bad.Magic (λ t. 0x5050_4452) (tt ∷ []) (number w32)

abbrev pub version : Form ℕ
version = ranged bad.Version (is_in_range 1 2) byte

abbrev pub budget : Form ℕ
budget = ranged (out_of F.Budget) (is_in_range 1 MOST_BUDGET) (number w32)

-- a number of the policy
abbrev pub policy_number : Field → Form ℕ
policy_number f = ranged (out_of f) (is_in_range 0 MOST_POLICY) (number w16)

abbrev pub source_length : Form ℕ
source_length = ranged (out_of F.Source) (is_in_range 0 MOST_SOURCE_BYTES) (number w32)

-- its length, and then its bytes
abbrev pub source : Form (List ℕ)
source = record {
  Lawful = λ bytes. source_length.Lawful (length bytes);
  bytes = λ bytes. source_length.bytes (length bytes) ++ bytes;
  read = next source_length.read (λ n. field n (λ bytes. bytes));
}

-- magic, version, budget, leaf, loops, source
abbrev pub Front : Type 0
Front = ⊤ × (ℕ × (ℕ × (ℕ × (ℕ × List ℕ))))

abbrev pub front : Form Front
front = pair magic (λ m. pair version (λ v. pair budget
    (λ b. pair (policy_number F.Leaf) (λ l. pair (policy_number F.Loops) (λ p. source)))))

-- ---- values and cells

abbrev pub values : Form (List ℤ)
values = listed (number w16) value

abbrev pub cell : ℕ → ℕ → Form ℕ
cell shared low = ranged (out_of F.Cells) (is_next shared low) (number w16)

-- rising
abbrev pub cells : ℕ → Form (List ℕ)
cells shared = listed_along (number w16) (out_of F.Cells) (is_next shared) (λ c. c + 1) 0 (number w16)

-- ---- entries

-- a block or a unit with its values
abbrev pub numbered : Form (ℕ × List ℤ)
numbered = pair (number w16) (λ b. values)

abbrev pub sync_kind : ℕ → Form SyncKind
sync_kind v = one_of (out_of F.Kind) kind_code (kinds v) byte

abbrev pub sync_number : Form ℕ
sync_number = ranged (out_of F.Number) (λ n. nat_le 1 n) (number w32)

abbrev pub sync_value : SyncKind → Form ℤ
sync_value k = ranged (out_of F.Value) (fits_kind k) value

abbrev pub end_status : Form Status
end_status = one_of (out_of F.Status) status_code statuses byte

abbrev pub tag : Form Tag
tag = one_of (out_of F.Tag) tag_code tags byte

abbrev pub tag_of : Entry → Tag
tag_of (entry.Prelog b vs) = T.Prelog
tag_of (entry.Unit u vs) = T.Unit
tag_of (entry.Sync k o n v r w) = T.Sync
tag_of (entry.Postlog b vs) = T.Postlog
tag_of (entry.End s n r w) = T.End

-- what stands in an entry of this tag: of a synchronization its kind, object, number, value, reads and writes,
-- of an end its status, rest, reads and writes, else a block or a unit and its values
abbrev pub Fields : Tag → Type 0
Fields T.Sync = SyncKind × (ℕ × (ℕ × (ℤ × (List ℕ × List ℕ))))
Fields T.End = Status × (ℕ × (List ℕ × List ℕ))
Fields t = ℕ × List ℤ

-- the same of an entry, where it has this tag
abbrev pub fields_of : (t : Tag) → Entry → Option (Fields t)
fields_of T.Prelog (entry.Prelog b vs) = Some (b, vs)
fields_of T.Unit (entry.Unit u vs) = Some (u, vs)
fields_of T.Sync (entry.Sync k o n v r w) = Some (k, (o, (n, (v, (r, w)))))
fields_of T.Postlog (entry.Postlog b vs) = Some (b, vs)
fields_of T.End (entry.End s n r w) = Some (s, (n, (r, w)))
fields_of t e = None

-- what comes after the tag
abbrev pub row : Facts → Tag → Form Entry
row f T.Prelog = named (λ (p : Fields T.Prelog). entry.Prelog p.0 p.1) (fields_of T.Prelog) numbered
row f T.Unit = named (λ (p : Fields T.Unit). entry.Unit p.0 p.1) (fields_of T.Unit) numbered
row f T.Sync =
    named (λ (p : Fields T.Sync). entry.Sync p.0 p.1.0 p.1.1.0 p.1.1.1.0 p.1.1.1.1.0 p.1.1.1.1.1) (fields_of T.Sync)
    (pair (sync_kind f.version) (λ k. pair byte (λ o. pair sync_number
    (λ n. pair (sync_value k) (λ v. pair (cells f.shared) (λ r. cells f.shared))))))
row f T.Postlog = named (λ (p : Fields T.Postlog). entry.Postlog p.0 p.1) (fields_of T.Postlog) numbered
row f T.End =
    named (λ (p : Fields T.End). entry.End p.0 p.1.0 p.1.1.0 p.1.1.1) (fields_of T.End)
    (pair end_status (λ s. pair (number w32) (λ n. pair (cells f.shared) (λ r. cells f.shared))))

-- a tag, and what it announces
abbrev pub an_entry : Facts → Form Entry
an_entry f = record {
  Lawful = λ e. tag.Lawful (tag_of e) × (row f (tag_of e)).Lawful e;
  bytes = λ e. tag.bytes (tag_of e) ++ (row f (tag_of e)).bytes e;
  read = next tag.read (λ t. (row f t).read);
}

-- ---- the logs, and the whole

abbrev pub log : Facts → Form (List Entry)
log f = listed (number w32) (an_entry f)

abbrev pub process_count : Facts → Form ℕ
process_count f = ranged (out_of F.Processes) (λ n. nat_eq n f.processes) byte

abbrev pub logs : Facts → Form (List (List Entry))
logs f = listed (process_count f) (log f)

-- a recording whose source has these facts; its version, at offset 4, is the one that the source asks for
abbrev pub recording : Facts → Form (Front × List (List Entry))
recording f = pair (ranged (λ at. bad.Range 4 F.Version) (λ h. nat_eq h.1.0 f.version) front) (λ h. logs f)
