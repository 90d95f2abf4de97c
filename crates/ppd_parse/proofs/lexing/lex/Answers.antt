use Rattle.std.proofs.Common.{◌≡◌, ◌∙◌, refl, ap, sym, subst, ◌+◌, ◌++◌, List, arith, length}
use Rattle.ppd_parse.specs.declared.token.Token.{Token}
use Rattle.ppd_parse.specs.Formed.{AreFormed}
use Rattle.ppd_parse.specs.Tokens.{error_of, IsRefused, IsTokens, Lexes}
use Rattle.ppd_parse.proofs.Places.{place_next}
use Rattle.ppd_parse.proofs.Lexed.{gap_within, read_within, place_fits, place_column, gap_tokens, gap_faults, read_tokens, read_faults, fault_here, refused, ended, without_memory}
use Rattle.ppd_parse.proofs.FormedTokens.{formed}
use Rattle.ppd_parse.proofs.lexing.lex.Goals as goal

pub overflow_add-at : goal.overflow_add-at
overflow_add-at c =
    let w = gap_within c.args.bytes.now c.loop-at.at c.loop-at-test.true c.in-Gap.n (sym c.in-Gap.is ∙ c.in_ok-n.ensures) in omega (arith, w.1)

pub slice_bounds-after-end : goal.slice_bounds-after-end
slice_bounds-after-end c =
    let w = gap_within c.args.bytes.now c.loop-at.at c.loop-at-test.true c.in-Gap.n (sym c.in-Gap.is ∙ c.in_ok-n.ensures) in omega (arith, w.1)

pub after-place-requires-clause-sum : goal.after-place-requires-clause-sum
after-place-requires-clause-sum c =
    let w = gap_within c.args.bytes.now c.loop-at.at c.loop-at-test.true c.in-Gap.n (sym c.in-Gap.is ∙ c.in_ok-n.ensures) in place_fits c.args.bytes.now c.loop-at.at c.loop-at-test.true c.loop-at.place c.in-Gap.n c.loop-at.invariant.place w.1 c.if-bytes-gt-MOST_SOURCE_BYTES.false

pub after-place-requires-clause-column : goal.after-place-requires-clause-column
after-place-requires-clause-column c =
    place_column c.args.bytes.now c.loop-at.at c.loop-at-test.true c.loop-at.place c.loop-at.invariant.place

pub loop-at-smaller-in-Gap : goal.loop-at-smaller-in-Gap
loop-at-smaller-in-Gap c =
    let w = gap_within c.args.bytes.now c.loop-at.at c.loop-at-test.true c.in-Gap.n (sym c.in-Gap.is ∙ c.in_ok-n.ensures) in omega (arith, w.0, w.1)

pub loop-at-preserved-in-Gap : goal.loop-at-preserved-in-Gap
loop-at-preserved-in-Gap c =
    let bs = c.args.bytes.now in
    let i = c.loop-at.at in
    let n = c.in-Gap.n in
    let lt = c.loop-at-test.true in
    let inv = c.loop-at.invariant in
    let e = sym c.in-Gap.is ∙ c.in_ok-n.ensures in
    record {
      in_range = (gap_within bs i lt n e).1;
      place = place_next bs i n c.loop-at.place c.after-place.result inv.place c.after-place.ensures;
      tokens = gap_tokens bs i lt c.loop-at.tokens.items inv.tokens inv.faults n e;
      faults = gap_faults bs i lt c.loop-at.tokens.items inv.tokens inv.faults n e;
    }

pub overflow_add-at-in-Read : goal.overflow_add-at-in-Read
overflow_add-at-in-Read c =
    let w = read_within c.args.bytes.now c.loop-at.at c.loop-at-test.true c.in-Read.n c.in-Read.kind (sym c.in-Read.is ∙ c.in_ok-n.ensures) in omega (arith, w.1)

pub overflow_cast-at-in-Read : goal.overflow_cast-at-in-Read
overflow_cast-at-in-Read c =
    let w = read_within c.args.bytes.now c.loop-at.at c.loop-at-test.true c.in-Read.n c.in-Read.kind (sym c.in-Read.is ∙ c.in_ok-n.ensures) in omega (arith, w.1)

pub overflow_add-at-in-Read-2 : goal.overflow_add-at-in-Read-2
overflow_add-at-in-Read-2 c =
    let w = read_within c.args.bytes.now c.loop-at.at c.loop-at-test.true c.in-Read.n c.in-Read.kind (sym c.in-Read.is ∙ c.in_ok-n.ensures) in omega (arith, w.1)

pub slice_bounds-after-end-in-Read : goal.slice_bounds-after-end-in-Read
slice_bounds-after-end-in-Read c =
    let w = read_within c.args.bytes.now c.loop-at.at c.loop-at-test.true c.in-Read.n c.in-Read.kind (sym c.in-Read.is ∙ c.in_ok-n.ensures) in omega (arith, w.1)

pub after-place-requires-in-Read-clause-sum : goal.after-place-requires-in-Read-clause-sum
after-place-requires-in-Read-clause-sum c =
    let w = read_within c.args.bytes.now c.loop-at.at c.loop-at-test.true c.in-Read.n c.in-Read.kind (sym c.in-Read.is ∙ c.in_ok-n.ensures) in place_fits c.args.bytes.now c.loop-at.at c.loop-at-test.true c.loop-at.place c.in-Read.n c.loop-at.invariant.place w.1 c.if-bytes-gt-MOST_SOURCE_BYTES.false

pub after-place-requires-in-Read-clause-column : goal.after-place-requires-in-Read-clause-column
after-place-requires-in-Read-clause-column c =
    place_column c.args.bytes.now c.loop-at.at c.loop-at-test.true c.loop-at.place c.loop-at.invariant.place

pub loop-at-smaller : goal.loop-at-smaller
loop-at-smaller c =
    let w = read_within c.args.bytes.now c.loop-at.at c.loop-at-test.true c.in-Read.n c.in-Read.kind (sym c.in-Read.is ∙ c.in_ok-n.ensures) in omega (arith, w.0, w.1)

pub loop-at-preserved : goal.loop-at-preserved
loop-at-preserved c =
    let bs = c.args.bytes.now in
    let i = c.loop-at.at in
    let n = c.in-Read.n in
    let lt = c.loop-at-test.true in
    let inv = c.loop-at.invariant in
    let e = sym c.in-Read.is ∙ c.in_ok-n.ensures in
    record {
      in_range = (read_within bs i lt n c.in-Read.kind e).1;
      place = place_next bs i n c.loop-at.place c.after-place-in-Read.result inv.place c.after-place-in-Read.ensures;
      tokens = read_tokens bs i lt c.loop-at.tokens.items inv.tokens inv.faults n c.in-Read.kind e c.push.new.self.items _ c.in_ok-push-in-Read.ensures.items (ap (λ q. record { kind = c.in-Read.kind; from = i; to = i + n; place = q }) inv.place);
      faults = read_faults bs i lt c.loop-at.tokens.items inv.tokens inv.faults n c.in-Read.kind e;
    }

pub returns-in-Bad-clause-fault : goal.returns-in-Bad-clause-fault
returns-in-Bad-clause-fault c =
    let bs = c.args.bytes.now in
    let i = c.loop-at.at in
    let inv = c.loop-at.invariant in
    let f = c.in-Bad.fault in
    let h = fault_here bs i c.loop-at-test.true c.loop-at.tokens.items inv.tokens inv.faults f (sym c.in-Bad.is ∙ c.in_ok-n.ensures) in
    subst (IsRefused bs) (sym (c.error_at.ensures ∙ ap (error_of f) inv.place)) (refused bs i f c.if-bytes-gt-MOST_SOURCE_BYTES.false h)

pub returns-clause-tokens : goal.returns-clause-tokens
returns-clause-tokens c =
    let bs = c.args.bytes.now in
    let i = c.loop-at.at in
    let inv = c.loop-at.invariant in
    let last : i ≡ length bs = omega arith in
    ended bs i c.loop-at.tokens.items c.if-bytes-gt-MOST_SOURCE_BYTES.false inv.tokens last c.push-2.new.self.items c.loop-at.place c.in_ok-push.ensures.items inv.place

pub returns-clause-formed : goal.returns-clause-formed
returns-clause-formed c = formed c.args.bytes.now c.push-2.new.self.items (returns-clause-tokens c)

pub loop-at-init : goal.loop-at-init
loop-at-init c = record {
  in_range = omega arith;
  place = refl;
  tokens = λ rest h. subst (λ (ts : List Token). Lexes c.args.bytes.now 0 (ts ++ rest)) (sym c.new-tokens.ensures.items) h;
  faults = λ j f h. h;
}

pub returns-then-bytes-gt-MOST_SOURCE_BYTES : goal.returns-then-bytes-gt-MOST_SOURCE_BYTES
returns-then-bytes-gt-MOST_SOURCE_BYTES c = record { tokens = tt; formed = tt; fault = (c.if-bytes-gt-MOST_SOURCE_BYTES.true, refl); long = λ h. refl }

pub returns-in_err-n : goal.returns-in_err-n
returns-in_err-n c =
    let w = without_memory c.args.bytes.now (λ tokens. IsTokens c.args.bytes.now tokens.items) (λ tokens. AreFormed (length c.args.bytes.now) tokens.items) c.from_residual.result c.from_residual.ensures.0 c.from_residual.ensures.1 c.if-bytes-gt-MOST_SOURCE_BYTES.false in
    record { tokens = w.0; formed = w.1; fault = w.2; long = w.3 }

pub returns-in_err-push-in-Read : goal.returns-in_err-push-in-Read
returns-in_err-push-in-Read c =
    let w = without_memory c.args.bytes.now (λ tokens. IsTokens c.args.bytes.now tokens.items) (λ tokens. AreFormed (length c.args.bytes.now) tokens.items) c.from_residual-in_err-push-in-Read.result c.from_residual-in_err-push-in-Read.ensures.0 c.from_residual-in_err-push-in-Read.ensures.1 c.if-bytes-gt-MOST_SOURCE_BYTES.false in
    record { tokens = w.0; formed = w.1; fault = w.2; long = w.3 }

pub returns-in_err-push : goal.returns-in_err-push
returns-in_err-push c =
    let w = without_memory c.args.bytes.now (λ tokens. IsTokens c.args.bytes.now tokens.items) (λ tokens. AreFormed (length c.args.bytes.now) tokens.items) c.from_residual-in_err-push.result c.from_residual-in_err-push.ensures.0 c.from_residual-in_err-push.ensures.1 c.if-bytes-gt-MOST_SOURCE_BYTES.false in
    record { tokens = w.0; formed = w.1; fault = w.2; long = w.3 }

pub overflow_add-at-in-Gap : goal.overflow_add-at-in-Gap
overflow_add-at-in-Gap c =
    let w = gap_within c.args.bytes.now c.loop-at.at c.loop-at-test.true c.in-Gap.n (sym c.in-Gap.is ∙ c.in_ok-n.ensures) in omega (arith, w.1)

pub overflow_add-at-in-Read-3 : goal.overflow_add-at-in-Read-3
overflow_add-at-in-Read-3 c =
    let w = read_within c.args.bytes.now c.loop-at.at c.loop-at-test.true c.in-Read.n c.in-Read.kind (sym c.in-Read.is ∙ c.in_ok-n.ensures) in omega (arith, w.1)

pub returns-in-Bad-clause-tokens : goal.returns-in-Bad-clause-tokens
returns-in-Bad-clause-tokens c = tt

pub returns-in-Bad-clause-formed : goal.returns-in-Bad-clause-formed
returns-in-Bad-clause-formed c = tt

pub returns-in-Bad-clause-long : goal.returns-in-Bad-clause-long
returns-in-Bad-clause-long c = λ h. absurd (omega (arith, h, c.if-bytes-gt-MOST_SOURCE_BYTES.false))

pub returns-clause-fault : goal.returns-clause-fault
returns-clause-fault c = tt

pub returns-clause-long : goal.returns-clause-long
returns-clause-long c = λ h. absurd (omega (arith, h, c.if-bytes-gt-MOST_SOURCE_BYTES.false))
