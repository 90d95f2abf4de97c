use Rattle.std.proofs.Common.{◌∙◌, ℕ, List, length, sym, ap, Some, None}
use Rattle.ppd_parse.specs.declared.token.TokenKind.TheVariants.{Name}
use Rattle.ppd_parse.specs.declared.scan.Piece.TheVariants.{Read}
use Rattle.ppd_parse.proofs.Fronts.{word_long, word_short}
use Rattle.ppd_parse.proofs.scan.read_word.Goals as goal

pub returns-then-text-gt-MOST_NAME_BYTES : goal.returns-then-text-gt-MOST_NAME_BYTES
returns-then-text-gt-MOST_NAME_BYTES c = word_long c.args.text.now c.if-text-gt-MOST_NAME_BYTES.true

pub returns-in-Some : goal.returns-in-Some
returns-in-Some c = word_short c.args.text.now (Some c.in-Some.kind) c.if-text-gt-MOST_NAME_BYTES.false (sym c.in-Some.is ∙ c.keyword.ensures)

pub returns-in_ok-from_slice-in-None : goal.returns-in_ok-from_slice-in-None
returns-in_ok-from_slice-in-None c =
    ap (λ (bs : List ℕ). Read (length c.args.text.now) (Name bs)) (c.from_vec-name.ensures ∙ c.in_ok-from_slice-in-None.ensures.items)
    ∙ word_short c.args.text.now None c.if-text-gt-MOST_NAME_BYTES.false (sym c.in-None.is ∙ c.keyword.ensures)
