-- The parts of a recording, both ways.
use Rattle.std.specs.Prelude.{◌+◌, List, length, get_or, FitsSigned}
use Rattle.std.specs.Int.{cast_signed, cast_unsigned, w16, w32, w64, to_be_bytes, from_be_bytes}
use Rattle.std.proofs.Common.{Fits, ◌≡◌, ℕ, ◌<◌, ◌^◌, ℤ, [], ◌∷◌, Some, refl, ap, sym, ◌∙◌}
use Rattle.std.proofs.lemmas.Nat.{be_bytes_8, from_be_bytes-to_be_bytes_8}
use Rattle.std.proofs.Math.Facts.{Fits-lt-pow, Fits-of_lt, Fits-of_z, of_z-to_z, sfits_to_z, to_z-of_z}
use Rattle.ppd_model.specs.declared.entry.Entry.{Entry}
use Rattle.ppd_model.specs.declared.entry.Entry.TheVariants as entry
use Rattle.ppd_codec.specs.declared.bad.Field.TheVariants as F
use Rattle.ppd_codec.specs.declared.bad.BadBytes.TheVariants as bad
use Rattle.ppd_codec.specs.declared.facts.Facts.{Facts}
use Rattle.ppd_codec_fields.specs.declared.tag.Tag.{Tag}
use Rattle.ppd_codec_fields.specs.declared.tag.Tag.TheVariants as T
use Rattle.ppd_codec.specs.Form.{byte, value, number}
use Rattle.ppd_codec.specs.Format.{Fields, an_entry, budget, cells, end_status, fields_of, front, log, logs, magic, numbered, out_of, policy_number, process_count, recording, row, source, source_length, sync_kind, sync_number, sync_value, tag, tag_of, values, version}
use Rattle.ppd_codec.specs.Reader.{field}
use Rattle.ppd_codec_fields.specs.Fields.{is_next, kind_code, kinds, status_code, statuses, tag_code, tags}
use Rattle.ppd_codec.proofs.Widths.{IsWidth, bound_8, byte_at, field_inverts, width_1, width_2, width_4}
use Rattle.ppd_codec.proofs.Built.{Holds, listed_along_holds, listed_holds, named_holds, one_of_holds, pair_holds, ranged_holds, raw_inverts, same_inverts}
use Rattle.ppd_codec.proofs.Inverts.{next_inverts}

-- ---- numbers

pub byte_holds : Holds byte
byte_holds = field_inverts 1 (λ bs. get_or bs 0 0) byte.bytes byte.Lawful width_1

pub number_2_holds : Holds (number w16)
number_2_holds = field_inverts 2 (from_be_bytes w16) (to_be_bytes w16) (number w16).Lawful width_2

pub number_4_holds : Holds (number w32)
number_4_holds = field_inverts 4 (from_be_bytes w32) (to_be_bytes w32) (number w32).Lawful width_4

small : {v : ℤ} → FitsSigned w64 v → cast_unsigned w64 v < 2 ^ 64
small f = Fits-lt-pow (Fits-of_z f)

fits : {n : ℕ} → n < 2 ^ 64 → Fits w64 n
fits h = Fits-of_lt h

abbrev value_of : List ℕ → ℤ
value_of bytes = cast_signed w64 (from_be_bytes w64 bytes)

width_8 : IsWidth 8 value_of value.bytes (FitsSigned w64)
width_8 = record {
  long = λ v. refl;
  there = λ v f. ap (cast_signed w64) (from_be_bytes-to_be_bytes_8 (cast_unsigned w64 v) (small f)) ∙ to_z-of_z f;
  lawful = λ bs l h. sfits_to_z (fits (bound_8 bs l h));
  back = λ bs l h. ap (to_be_bytes w64) (of_z-to_z (fits (bound_8 bs l h))) ∙ be_bytes_8 bs (from_be_bytes w64 bs) l (byte_at bs h) refl;
}

pub value_holds : Holds value
value_holds = field_inverts 8 value_of value.bytes (FitsSigned w64) width_8

-- ---- the front

magic_holds : Holds magic
magic_holds = one_of_holds bad.Magic (λ t. 0x5050_4452) (tt ∷ []) (number w32) number_4_holds

source_holds : Holds source
source_holds = same_inverts source.read _ source.bytes _ source.Lawful
    (next_inverts source_length.read (λ n. field n (λ bytes. bytes)) source_length.bytes (λ n bytes. bytes) source_length.Lawful (λ n bytes. length bytes ≡ n) length (ranged_holds _ _ (number w32) number_4_holds) raw_inverts (λ n bytes m. m))
    (λ bytes q. ((q, refl), refl))
    (λ bytes p. (p.0, refl))

pub front_holds : Holds front
front_holds =
    pair_holds magic _ magic_holds (λ m.
    pair_holds version _ (ranged_holds _ _ byte byte_holds) (λ v.
    pair_holds budget _ (ranged_holds _ _ (number w32) number_4_holds) (λ b.
    pair_holds (policy_number F.Leaf) _ (ranged_holds _ _ (number w16) number_2_holds) (λ l.
    pair_holds (policy_number F.Loops) _ (ranged_holds _ _ (number w16) number_2_holds) (λ p. source_holds)))))

-- ---- rows

values_hold : Holds values
values_hold = listed_holds (number w16) value number_2_holds value_holds

cells_hold : (shared : ℕ) → Holds (cells shared)
cells_hold shared = listed_along_holds (number w16) (out_of F.Cells) (is_next shared) (λ c. c + 1) 0 (number w16) number_2_holds number_2_holds

numbered_holds : Holds numbered
numbered_holds = pair_holds (number w16) (λ b. values) number_2_holds (λ b. values_hold)

tag_holds : Holds tag
tag_holds = one_of_holds (out_of F.Tag) tag_code tags byte byte_holds

-- an entry from which these fields come is made of them
prelog_back : (x : Fields T.Prelog) (y : Entry) → fields_of T.Prelog y ≡ Some x → entry.Prelog x.0 x.1 ≡ y
prelog_back x (entry.Prelog b vs) e = let same : (b, vs) ≡ x = cc in ap (λ (p : Fields T.Prelog). entry.Prelog p.0 p.1) (sym same)
prelog_back x (entry.Unit b vs) e = absurd (cc)
prelog_back x (entry.Sync k o n v r w) e = absurd (cc)
prelog_back x (entry.Postlog b vs) e = absurd (cc)
prelog_back x (entry.End s n r w) e = absurd (cc)

unit_back : (x : Fields T.Unit) (y : Entry) → fields_of T.Unit y ≡ Some x → entry.Unit x.0 x.1 ≡ y
unit_back x (entry.Prelog b vs) e = absurd (cc)
unit_back x (entry.Unit b vs) e = let same : (b, vs) ≡ x = cc in ap (λ (p : Fields T.Unit). entry.Unit p.0 p.1) (sym same)
unit_back x (entry.Sync k o n v r w) e = absurd (cc)
unit_back x (entry.Postlog b vs) e = absurd (cc)
unit_back x (entry.End s n r w) e = absurd (cc)

sync_back : (x : Fields T.Sync) (y : Entry) → fields_of T.Sync y ≡ Some x → entry.Sync x.0 x.1.0 x.1.1.0 x.1.1.1.0 x.1.1.1.1.0 x.1.1.1.1.1 ≡ y
sync_back x (entry.Prelog b vs) e = absurd (cc)
sync_back x (entry.Unit b vs) e = absurd (cc)
sync_back x (entry.Sync k o n v r w) e = let same : (k, (o, (n, (v, (r, w))))) ≡ x = cc in ap (λ (p : Fields T.Sync). entry.Sync p.0 p.1.0 p.1.1.0 p.1.1.1.0 p.1.1.1.1.0 p.1.1.1.1.1) (sym same)
sync_back x (entry.Postlog b vs) e = absurd (cc)
sync_back x (entry.End s n r w) e = absurd (cc)

postlog_back : (x : Fields T.Postlog) (y : Entry) → fields_of T.Postlog y ≡ Some x → entry.Postlog x.0 x.1 ≡ y
postlog_back x (entry.Prelog b vs) e = absurd (cc)
postlog_back x (entry.Unit b vs) e = absurd (cc)
postlog_back x (entry.Sync k o n v r w) e = absurd (cc)
postlog_back x (entry.Postlog b vs) e = let same : (b, vs) ≡ x = cc in ap (λ (p : Fields T.Postlog). entry.Postlog p.0 p.1) (sym same)
postlog_back x (entry.End s n r w) e = absurd (cc)

end_back : (x : Fields T.End) (y : Entry) → fields_of T.End y ≡ Some x → entry.End x.0 x.1.0 x.1.1.0 x.1.1.1 ≡ y
end_back x (entry.Prelog b vs) e = absurd (cc)
end_back x (entry.Unit b vs) e = absurd (cc)
end_back x (entry.Sync k o n v r w) e = absurd (cc)
end_back x (entry.Postlog b vs) e = absurd (cc)
end_back x (entry.End s n r w) e = let same : (s, (n, (r, w))) ≡ x = cc in ap (λ (p : Fields T.End). entry.End p.0 p.1.0 p.1.1.0 p.1.1.1) (sym same)

row_holds : (f : Facts) (t : Tag) → Holds (row f t)
row_holds f T.Prelog = named_holds _ (fields_of T.Prelog) numbered (λ x. refl) prelog_back numbered_holds
row_holds f T.Unit = named_holds _ (fields_of T.Unit) numbered (λ x. refl) unit_back numbered_holds
row_holds f T.Sync = named_holds _ (fields_of T.Sync) _ (λ x. refl) sync_back (
    pair_holds (sync_kind f.version) _ (one_of_holds (out_of F.Kind) kind_code (kinds f.version) byte byte_holds) (λ k.
    pair_holds byte _ byte_holds (λ o.
    pair_holds sync_number _ (ranged_holds _ _ (number w32) number_4_holds) (λ n.
    pair_holds (sync_value k) _ (ranged_holds _ _ value value_holds) (λ v.
    pair_holds (cells f.shared) _ (cells_hold f.shared) (λ r. cells_hold f.shared))))))
row_holds f T.Postlog = named_holds _ (fields_of T.Postlog) numbered (λ x. refl) postlog_back numbered_holds
row_holds f T.End = named_holds _ (fields_of T.End) _ (λ x. refl) end_back (
    pair_holds end_status _ (one_of_holds (out_of F.Status) status_code statuses byte byte_holds) (λ s.
    pair_holds (number w32) _ number_4_holds (λ n.
    pair_holds (cells f.shared) _ (cells_hold f.shared) (λ r. cells_hold f.shared))))

-- a row is lawful for the entries of its tag alone
row_tag : (f : Facts) (t : Tag) (y : Entry) → (row f t).Lawful y → tag_of y ≡ t
row_tag f T.Prelog (entry.Prelog b vs) l = refl
row_tag f T.Prelog (entry.Unit b vs) l = absurd l
row_tag f T.Prelog (entry.Sync k o n v r w) l = absurd l
row_tag f T.Prelog (entry.Postlog b vs) l = absurd l
row_tag f T.Prelog (entry.End s n r w) l = absurd l
row_tag f T.Unit (entry.Prelog b vs) l = absurd l
row_tag f T.Unit (entry.Unit b vs) l = refl
row_tag f T.Unit (entry.Sync k o n v r w) l = absurd l
row_tag f T.Unit (entry.Postlog b vs) l = absurd l
row_tag f T.Unit (entry.End s n r w) l = absurd l
row_tag f T.Sync (entry.Prelog b vs) l = absurd l
row_tag f T.Sync (entry.Unit b vs) l = absurd l
row_tag f T.Sync (entry.Sync k o n v r w) l = refl
row_tag f T.Sync (entry.Postlog b vs) l = absurd l
row_tag f T.Sync (entry.End s n r w) l = absurd l
row_tag f T.Postlog (entry.Prelog b vs) l = absurd l
row_tag f T.Postlog (entry.Unit b vs) l = absurd l
row_tag f T.Postlog (entry.Sync k o n v r w) l = absurd l
row_tag f T.Postlog (entry.Postlog b vs) l = refl
row_tag f T.Postlog (entry.End s n r w) l = absurd l
row_tag f T.End (entry.Prelog b vs) l = absurd l
row_tag f T.End (entry.Unit b vs) l = absurd l
row_tag f T.End (entry.Sync k o n v r w) l = absurd l
row_tag f T.End (entry.Postlog b vs) l = absurd l
row_tag f T.End (entry.End s n r w) l = refl

-- ---- entries, logs, the whole

entry_holds : (f : Facts) → Holds (an_entry f)
entry_holds f = next_inverts tag.read (λ t. (row f t).read) tag.bytes (λ t. (row f t).bytes) tag.Lawful (λ t. (row f t).Lawful) tag_of tag_holds (row_holds f) (row_tag f)

log_holds : (f : Facts) → Holds (log f)
log_holds f = listed_holds (number w32) (an_entry f) number_4_holds (entry_holds f)

logs_hold : (f : Facts) → Holds (logs f)
logs_hold f = listed_holds (process_count f) (log f) (ranged_holds _ _ byte byte_holds) (log_holds f)

pub recording_holds : (f : Facts) → Holds (recording f)
recording_holds f = pair_holds _ (λ h. logs f) (ranged_holds _ _ front front_holds) (λ h. logs_hold f)
