use Rattle.std.proofs.Common.{List, ℕ, sym, subst}
use Rattle.ppd_codec.specs.Recordings.{IsBad, IsDecoded}
use Rattle.ppd_codec.proofs.Spelling.{memory_alone, no_recording_is_bad, same_three}
use Rattle.ppd_codec.proofs.Mapped.{map_err, map_ok}
use Rattle.ppd_codec.proofs.laws.decode_encoded.Goals as goal

pub returns-clause-source : goal.returns-clause-source
returns-clause-source c =
    map_ok c.decode.result
    (λ r d. let x : IsDecoded c.in_ok-bytes.bytes r = subst (λ (bs : List ℕ). IsDecoded bs r) c.as_slice.ensures d in sym (same_three _ _ _ c.in_ok-bytes.bytes r c.in_ok-bytes.ensures.rec x).0)
    c.decode.ensures.ok

pub returns-clause-header : goal.returns-clause-header
returns-clause-header c =
    map_ok c.decode.result
    (λ r d. let x : IsDecoded c.in_ok-bytes.bytes r = subst (λ (bs : List ℕ). IsDecoded bs r) c.as_slice.ensures d in sym (same_three _ _ _ c.in_ok-bytes.bytes r c.in_ok-bytes.ensures.rec x).1)
    c.decode.ensures.ok

pub returns-clause-logs : goal.returns-clause-logs
returns-clause-logs c =
    map_ok c.decode.result
    (λ r d. let x : IsDecoded c.in_ok-bytes.bytes r = subst (λ (bs : List ℕ). IsDecoded bs r) c.as_slice.ensures d in sym (same_three _ _ _ c.in_ok-bytes.bytes r c.in_ok-bytes.ensures.rec x).2)
    c.decode.ensures.ok

pub returns-clause-err : goal.returns-clause-err
returns-clause-err c =
    map_err c.decode.result
    (λ e h. memory_alone e (λ m. no_recording_is_bad _ _ _ c.in_ok-bytes.bytes e c.in_ok-bytes.ensures.rec (subst (λ (bs : List ℕ). IsBad bs e) c.as_slice.ensures (h m))))
    c.decode.ensures.err
