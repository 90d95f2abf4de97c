use Rattle.std.proofs.Common.{rules, arith, ◌≡◌, [], ◌∷◌, ◌++◌, ◌∙◌, ◌≤◌, ◌<◌, length}
use Rattle.ppd_ast.specs.declared.limits.TheConstants.{MOST_LINE_BYTES}
use Rattle.ppd_io.specs.Lines.{Took}
use Rattle.ppd_io.proofs.Lining.{holds_some, later_newline, need_goes_on, took_byte, took_end, took_twice, plain_byte}
use Rattle.ppd_io.proofs.lines.fill_line.Goals as goal

pub loop-bytes-preserved : goal.loop-bytes-preserved
loop-bytes-preserved g c =
    let pushed : c.push.new.self.items ≡ c.loop-bytes.line.items ++ c.in-Ok-Some.byte ∷ [] = search rules in
    let came : Took (g.I.Source.left c.loop-bytes.source) (g.I.Source.left c.next.new.source) c.loop-bytes.bytes (c.in-Ok-Some.byte ∷ c.next.new.self) = search rules in
    record {
      took = rw pushed (took_byte _ _ _ _ _ _ _ _ c.loop-bytes.invariant.took came);
      plain = rw pushed (plain_byte _ _ c.loop-bytes.invariant.plain c.in-Ok-Some.byte-test.1);
      later = omega (arith, c.next.ensures.cause.later);
      room = search rules;
      within = omega arith;
      few = c.next.ensures.few;
      quiet = λ h.
          let was = c.loop-bytes.invariant.quiet h in
          let now = c.next.ensures.quiet (holds_some c.loop-bytes.bytes was.1) in
          let first : c.loop-bytes.bytes ≡ c.in-Ok-Some.byte ∷ c.next.new.self = search rules in
          (now.0 ∙ was.0, later_newline _ _ _ first c.in-Ok-Some.byte-test.1 was.1);
      need = need_goes_on _ g.I.Source.left g.I.Source.before_last _ _ _ _ _ _ c.loop-bytes.invariant.took c.loop-bytes.invariant.plain c.loop-bytes.invariant.need c.next.ensures.last (λ some. let q = c.next.ensures.quiet some in q.0);
    }

pub returns-in-Err : goal.returns-in-Err
returns-in-Err g c =
    let short : length c.loop-bytes.line.items ≤ MOST_LINE_BYTES = omega (arith, c.loop-bytes.line.ok.0, c.len.ensures, c.loop-bytes-test.true) in
    record {
      filled = (c.loop-bytes.invariant.plain, short, took_end _ _ _ _ _ _ c.loop-bytes.invariant.took c.in-Err.ensures.err.0, c.in-Err.ensures.err.1);
      cause = λ e. omega (arith, c.in-Err.ensures.cause.failed, c.loop-bytes.invariant.later);
      later = omega (arith, c.next.ensures.cause.later, c.loop-bytes.invariant.later);
      quiet = λ h.
          let was = c.loop-bytes.invariant.quiet h in
          let now = c.next.ensures.quiet (holds_some c.loop-bytes.bytes was.1) in
          now.0 ∙ was.0;
      need = need_goes_on _ g.I.Source.left g.I.Source.before_last _ _ _ _ _ _ c.loop-bytes.invariant.took c.loop-bytes.invariant.plain c.loop-bytes.invariant.need c.next.ensures.last (λ some. let q = c.next.ensures.quiet some in q.0);
      room = c.loop-bytes.invariant.room;
      few = c.next.ensures.few;
    }

pub returns-in-Ok-None : goal.returns-in-Ok-None
returns-in-Ok-None g c =
    let short : length c.loop-bytes.line.items ≤ MOST_LINE_BYTES = omega (arith, c.loop-bytes.line.ok.0, c.len.ensures, c.loop-bytes-test.true) in
    let none = rw c.in-Ok-None.field-0-is at c.in-Ok-None.ensures.byte in
    record {
      filled = (c.loop-bytes.invariant.plain, short, took_end _ _ _ _ _ _ c.loop-bytes.invariant.took none.0, none.1, none.2);
      cause = search rules;
      later = omega (arith, c.next.ensures.cause.later, c.loop-bytes.invariant.later);
      quiet = λ h.
          let was = c.loop-bytes.invariant.quiet h in
          let now = c.next.ensures.quiet (holds_some c.loop-bytes.bytes was.1) in
          now.0 ∙ was.0;
      need = need_goes_on _ g.I.Source.left g.I.Source.before_last _ _ _ _ _ _ c.loop-bytes.invariant.took c.loop-bytes.invariant.plain c.loop-bytes.invariant.need c.next.ensures.last (λ some. let q = c.next.ensures.quiet some in q.0);
      room = c.loop-bytes.invariant.room;
      few = c.next.ensures.few;
    }

pub returns-in-Ok-Some-eq10 : goal.returns-in-Ok-Some-eq10
returns-in-Ok-Some-eq10 g c =
    let short : length c.loop-bytes.line.items ≤ MOST_LINE_BYTES = omega (arith, c.loop-bytes.line.ok.0, c.len.ensures, c.loop-bytes-test.true) in
    let came : Took (g.I.Source.left c.loop-bytes.source) (g.I.Source.left c.next.new.source) c.loop-bytes.bytes (10 ∷ c.next.new.self) = search rules in
    record {
      filled = (c.loop-bytes.invariant.plain, short, took_twice _ _ _ _ _ _ _ c.loop-bytes.invariant.took came);
      cause = search rules;
      later = omega (arith, c.next.ensures.cause.later, c.loop-bytes.invariant.later);
      quiet = λ h.
          let was = c.loop-bytes.invariant.quiet h in
          let now = c.next.ensures.quiet (holds_some c.loop-bytes.bytes was.1) in
          now.0 ∙ was.0;
      need = need_goes_on _ g.I.Source.left g.I.Source.before_last _ _ _ _ _ _ c.loop-bytes.invariant.took c.loop-bytes.invariant.plain c.loop-bytes.invariant.need c.next.ensures.last (λ some. let q = c.next.ensures.quiet some in q.0);
      room = c.loop-bytes.invariant.room;
      few = c.next.ensures.few;
    }

pub returns : goal.returns
returns g c =
    let long : MOST_LINE_BYTES < length c.loop-bytes.line.items = omega (arith, c.loop-bytes.line.ok.0, c.len.ensures, c.loop-bytes-test.false) in
    record {
      filled = (c.loop-bytes.invariant.plain, long, c.loop-bytes.invariant.took);
      cause = search rules;
      later = c.loop-bytes.invariant.later;
      quiet = λ h. let was = c.loop-bytes.invariant.quiet h in was.0;
      need = c.loop-bytes.invariant.need;
      room = c.loop-bytes.invariant.room;
      few = c.loop-bytes.invariant.few;
    }

pub is_err-requires : goal.is_err-requires
is_err-requires g c = search rules depth 1 fits 30

pub len-requires : goal.len-requires
len-requires g c = search rules depth 1 fits 30

pub loop-bytes-init : goal.loop-bytes-init
loop-bytes-init g c = search rules depth 1 fits 30

pub loop-bytes-smaller : goal.loop-bytes-smaller
loop-bytes-smaller g c = search rules depth 1 fits 30

pub next-requires : goal.next-requires
next-requires g c = search rules depth 1 fits 30

pub push-requires : goal.push-requires
push-requires g c = search rules depth 1 fits 30

pub unreachable-requires : goal.unreachable-requires
unreachable-requires g c = search rules depth 1 fits 30
