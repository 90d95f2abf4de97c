-- Words of the proofs: what stands at the front by the parts that were found, and the place after more bytes.
use Rattle.std.specs.Prelude.{ℕ, pos, List, [], ◌∷◌, Option, fold}
use Rattle.std.specs.Option.{option_map_or}
use Rattle.ppd_ast.specs.declared.program.Place.{Place}
use Rattle.ppd_parse.specs.declared.token.Kind.{Kind}
use Rattle.ppd_parse.specs.declared.token.TokenKind.{TokenKind}
use Rattle.ppd_parse.specs.declared.token.TokenKind.TheVariants.{Name, Number, Word, Mark}
use Rattle.ppd_parse.specs.declared.scan.Fault.TheVariants.{BadByte, BadNumber, OpenComment}
use Rattle.ppd_parse.specs.declared.scan.Piece.{Piece}
use Rattle.ppd_parse.specs.declared.scan.Piece.TheVariants.{Gap, Read, Bad}
use Rattle.ppd_parse.specs.Front.{looked_up, marks}
use Rattle.ppd_parse.specs.Tokens.{after_byte}

-- the keyword or the name that this text is
abbrev pub word_kind : Option Kind → List ℕ → TokenKind
word_kind o text = option_map_or Word o (Name text)

-- a number of n bytes
abbrev pub read_value : ℕ → Option ℕ → Piece
read_value n o = option_map_or (λ value. Read n (Number (pos value))) o (Bad BadNumber)

-- a comment up to its end
abbrev pub read_block : Option ℕ → Piece
read_block o = option_map_or Gap o (Bad OpenComment)

-- the mark of this one byte
abbrev pub read_single : Option Kind → Piece
read_single o = option_map_or (λ kind. Read 1 (Mark kind)) o (Bad BadByte)

-- the mark of two bytes, or else that of the first of them
abbrev pub read_pair : Option Kind → ℕ → Piece
read_pair o b = option_map_or (λ kind. Read 2 (Mark kind)) o (read_single (looked_up marks (b ∷ [])))

-- the place after bytes
abbrev pub after_bytes : Place → List ℕ → Place
after_bytes p bytes = fold after_byte p bytes
