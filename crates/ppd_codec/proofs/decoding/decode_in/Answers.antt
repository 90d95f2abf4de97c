use Rattle.std.proofs.lemmas.Grind.{common_steps, elements}
use Rattle.std.proofs.Common.{◌≢◌, ◌≤◌, length, arith, subst, sym, rules}
use Rattle.ppd_ast.specs.declared.limits.TheConstants.{MOST_RECORDING_BYTES}
use Rattle.ppd_ast.specs.Valid.{IsValid}
use Rattle.ppd_codec.specs.declared.bad.BadBytes.{BadBytes}
use Rattle.ppd_codec.specs.declared.bad.BadBytes.TheVariants as bad
use Rattle.ppd_codec.specs.declared.recording.Recording.{Recording}
use Rattle.ppd_codec.specs.Came.{Came}
use Rattle.ppd_codec.specs.Format.{front}
use Rattle.ppd_codec.specs.Recordings.{IsBad, IsDecoded, IsMade, front_of}
use Rattle.ppd_codec.proofs.Answered.{are_bytes, bad_front, bad_last, bad_long, bad_source, handed_on, is_refused, lawful_again, made_decoded, past_front}
use Rattle.ppd_codec.proofs.Coming.{from_start}
use Rattle.ppd_codec.proofs.Mapped.{map_err, map_ok}
use Rattle.ppd_codec.proofs.decoding.decode_in.Goals as goal

pub returns-then-bytes-gt-MOST_RECORDING_BYTES-clause-decoding : goal.returns-then-bytes-gt-MOST_RECORDING_BYTES-clause-decoding
returns-then-bytes-gt-MOST_RECORDING_BYTES-clause-decoding g c =
    is_refused c.args.bytes.now bad.TooLong (λ m. bad_long c.args.bytes.now (omega (arith, c.if-bytes-gt-MOST_RECORDING_BYTES.true))) (λ m. absurd (cc))

pub returns-in_err-front-clause-decoding : goal.returns-in_err-front-clause-decoding
returns-in_err-front-clause-decoding g c =
    let short : length c.args.bytes.now ≤ MOST_RECORDING_BYTES = omega (arith, c.if-bytes-gt-MOST_RECORDING_BYTES.false) in
    let e = c.in_err-front.field-0.0 in
    handed_on c.args.bytes.now c.from_residual.result e c.from_residual.ensures.1
    (is_refused c.args.bytes.now e (λ m. bad_front c.args.bytes.now e short (from_start front.read _ c.new-cursor.result.at c.new-cursor.result.rest.now c.args.bytes.now c.new-cursor.ensures.at c.new-cursor.ensures.rest (c.in_err-front.ensures.err m))) (λ m. absurd (c.in_err-front.ensures.early m)))

pub returns-in-Err-clause-decoding : goal.returns-in-Err-clause-decoding
returns-in-Err-clause-decoding g c =
    let short : length c.args.bytes.now ≤ MOST_RECORDING_BYTES = omega (arith, c.if-bytes-gt-MOST_RECORDING_BYTES.false) in
    let f = c.in_ok-front.front in
    let h = front_of f.version f.header f.source.now in
    let came : Came front.read 0 c.args.bytes.now c.front.new.self.at c.front.new.self.rest.now h = from_start front.read _ c.new-cursor.result.at c.new-cursor.result.rest.now c.args.bytes.now c.new-cursor.ensures.at c.new-cursor.ensures.rest c.in_ok-front.ensures.ok in
    is_refused c.args.bytes.now c.refusal.result
    (subst (λ (x : BadBytes). x ≢ bad.Memory → IsBad c.args.bytes.now x) (sym c.refusal.ensures)
    (bad_source c.args.bytes.now h c.front.new.self.at c.front.new.self.rest.now short came c.in-Err.error c.in-Err.ensures.refused))
    (λ m. past_front c.args.bytes.now h c.front.new.self.at c.front.new.self.rest.now short came)

pub returns-in-Err-last_of-clause-decoding : goal.returns-in-Err-last_of-clause-decoding
returns-in-Err-last_of-clause-decoding g c =
    let short : length c.args.bytes.now ≤ MOST_RECORDING_BYTES = omega (arith, c.if-bytes-gt-MOST_RECORDING_BYTES.false) in
    let f = c.in_ok-front.front in
    let h = front_of f.version f.header f.source.now in
    let came : Came front.read 0 c.args.bytes.now c.front.new.self.at c.front.new.self.rest.now h = from_start front.read _ c.new-cursor.result.at c.new-cursor.result.rest.now c.args.bytes.now c.new-cursor.ensures.at c.new-cursor.ensures.rest c.in_ok-front.ensures.ok in
    let e = c.in-Err-last_of.error in
    is_refused c.args.bytes.now e
    (λ m. bad_last c.args.bytes.now h c.front.new.self.at c.front.new.self.rest.now short came c.in-Ok.program e c.in-Ok.ensures.read (c.in-Err-last_of.ensures.err m))
    (λ m. past_front c.args.bytes.now h c.front.new.self.at c.front.new.self.rest.now short came)

pub returns-clause-decoding : goal.returns-clause-decoding
returns-clause-decoding g c =
    let short : length c.args.bytes.now ≤ MOST_RECORDING_BYTES = omega (arith, c.if-bytes-gt-MOST_RECORDING_BYTES.false) in
    let f = c.in_ok-front.front in
    let p = c.in-Ok.program in
    let b = are_bytes c.args.bytes.now (λ k l. first_of (omega (arith, c.type_inv.bytes k), search rules)) in
    let came : Came front.read 0 c.args.bytes.now c.front.new.self.at c.front.new.self.rest.now (front_of f.version f.header f.source.now) = from_start front.read _ c.new-cursor.result.at c.new-cursor.result.rest.now c.args.bytes.now c.new-cursor.ensures.at c.new-cursor.ensures.rest c.in_ok-front.ensures.ok in
    let last = c.in-Ok-last_of.ensures.ok in
    let decoded : (r : Recording) → IsMade f.header f.source.now p c.in-Ok-last_of.lists r → IsDecoded c.args.bytes.now r =
    λ r made. made_decoded c.args.bytes.now f.version f.header f.source.now c.front.new.self.at c.front.new.self.rest.now p c.in-Ok-last_of.lists r short b came c.in-Ok.ensures.read last.0 last.1 made in
    record {
      ok = map_ok c.made.result decoded c.made.ensures.ok;
      again = map_ok c.made.result (λ r made. lawful_again c.args.bytes.now r (decoded r made)) c.made.ensures.ok;
      valid = map_ok c.made.result (λ r made. subst IsValid (sym made.program) c.in-Ok.ensures.valid) c.made.ensures.ok;
      plan = c.made.ensures.valid;
      err = map_err c.made.result (λ e is m. absurd (m is)) c.made.ensures.err;
      early = map_err c.made.result (λ e _ m. past_front c.args.bytes.now (front_of f.version f.header f.source.now) c.front.new.self.at c.front.new.self.rest.now short came) c.made.ensures.err;
    }

pub branch-front-requires : goal.branch-front-requires
branch-front-requires g c = search rules depth 1 fits 30

pub drop-requires : goal.drop-requires
drop-requires g c = search rules depth 1 fits 30

pub front-requires : goal.front-requires
front-requires g c = search rules depth 1 fits 30

pub last_of-requires : goal.last_of-requires
last_of-requires g c = search rules depth 1 fits 30

pub made-requires : goal.made-requires
made-requires g c = grind (arith, elements) steps 250000

pub new-cursor-requires : goal.new-cursor-requires
new-cursor-requires g c = search rules depth 1 fits 30

pub refusal-requires : goal.refusal-requires
refusal-requires g c = search rules depth 1 fits 30

pub returns-clause-cost : goal.returns-clause-cost
returns-clause-cost g c = grind (arith, common_steps) steps 250000

pub returns-in-Err-clause-cost : goal.returns-in-Err-clause-cost
returns-in-Err-clause-cost g c = search rules depth 1 fits 30

pub returns-in-Err-last_of-clause-cost : goal.returns-in-Err-last_of-clause-cost
returns-in-Err-last_of-clause-cost g c = grind (arith, common_steps) steps 250000

pub returns-in_err-front-clause-cost : goal.returns-in_err-front-clause-cost
returns-in_err-front-clause-cost g c = search rules depth 1 fits 30

pub returns-then-bytes-gt-MOST_RECORDING_BYTES-clause-cost : goal.returns-then-bytes-gt-MOST_RECORDING_BYTES-clause-cost
returns-then-bytes-gt-MOST_RECORDING_BYTES-clause-cost g c = search rules depth 1 fits 30
