use Rattle.std.proofs.Common.{◌≤◌, ◌^◌, arith, List, length, sym, subst}
use Rattle.ppd_parse.specs.declared.token.Token.{Token}
use Rattle.ppd_parse.proofs.Counted.{short_tokens}
use Rattle.ppd_check.proofs.parsed.read_tree.Goals as goal

pub parse-requires-clause-short : goal.parse-requires-clause-short
parse-requires-clause-short c =
    subst (λ (ts : List Token). length ts ≤ 2 ^ 30) (sym c.deref.ensures.value) (short_tokens c.args.bytes.now c.in_ok-tokens.tokens.items c.in_ok-tokens.ensures.tokens c.in_ok-tokens.ensures.formed)

pub returns-clause-few : goal.returns-clause-few
returns-clause-few c =
    let short : length c.deref.result.now ≤ 2 ^ 30 =
    subst (λ (ts : List Token). length ts ≤ 2 ^ 30) (sym c.deref.ensures.value) (short_tokens c.args.bytes.now c.in_ok-tokens.tokens.items c.in_ok-tokens.ensures.tokens c.in_ok-tokens.ensures.formed) in
    omega (arith, short, c.in_ok-tree.ensures.few)
