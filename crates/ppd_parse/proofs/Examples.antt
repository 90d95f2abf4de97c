-- What stands at the front of some texts, and one source as a whole.
use Rattle.std.proofs.Common.{◌≡◌, ℕ, List, [], ◌∷◌, ◌++◌, pos, refl, replicate, lit<}
use Rattle.std.specs.Prelude.{codes}
use Rattle.ppd_parse.specs.declared.token.Kind.TheVariants as K
use Rattle.ppd_parse.specs.declared.token.TokenKind.TheVariants.{Name, Number, Word, Mark, End}
use Rattle.ppd_parse.specs.declared.scan.Fault.TheVariants.{BadByte, BadNumber, OpenComment, LongName}
use Rattle.ppd_parse.specs.declared.scan.Piece.TheVariants.{Gap, Read, Bad}
use Rattle.ppd_parse.specs.Front.{front}
use Rattle.ppd_parse.specs.Tokens.{Lexes, end, gap, token, Faults, here, after_gap, after_token}

plus_is : front (codes "+=1") ≡ Read 2 (Mark K.AddMark)
plus_is = refl

plus : front (codes "+ =") ≡ Read 1 (Mark K.PlusMark)
plus = refl

keyword : front (codes "recv(c)") ≡ Read 4 (Word K.RecvWord)
keyword = refl

name : front (codes "recvs = 1") ≡ Read 5 (Name (codes "recvs"))
name = refl

number : front (codes "120;") ≡ Read 3 (Number (pos 120))
number = refl

greatest : front (codes "9223372036854775807") ≡ Read 19 (Number (pos 9223372036854775807))
greatest = refl

too_great : front (codes "9223372036854775808") ≡ Bad BadNumber
too_great = refl

needless_zero : front (codes "01") ≡ Bad BadNumber
needless_zero = refl

word_after_number : front (codes "1x") ≡ Bad BadNumber
word_after_number = refl

lone_and : front (codes "& &") ≡ Bad BadByte
lone_and = refl

line : front (codes "// x" ++ 10 ∷ codes "y") ≡ Gap 4
line = refl

block : front (codes "/*/ * */ x") ≡ Gap 8
block = refl

open_block : front (codes "/*/") ≡ Bad OpenComment
open_block = refl

long_name : front (replicate 65 97) ≡ Bad LongName
long_name = refl

abbrev source : List ℕ
source = codes "ab" ++ 10 ∷ codes "-"

-- a name, the end of a line, a mark
tokens : Lexes source 0 (record { kind = Name (codes "ab"); from = 0; to = 2; place = record { line = 1; column = 1 } } ∷ record { kind = Mark K.MinusMark; from = 3; to = 4; place = record { line = 2; column = 1 } } ∷ record { kind = End; from = 4; to = 4; place = record { line = 2; column = 2 } } ∷ [])
tokens = token (lit< tt) refl (gap (lit< tt) refl (token (lit< tt) refl (end refl)))

-- a name before a fault
fault : Faults (codes "a $") 0 2 BadByte
fault = after_token (lit< tt) refl (after_gap (lit< tt) refl (here (lit< tt) refl))
