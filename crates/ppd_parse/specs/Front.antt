-- What stands at the front of some bytes: a gap, a token or a fault.
use Rattle.std.specs.Prelude.{ℕ, pos, ◌+◌, ◌^◌, List, [], ◌∷◌, length, drop, Bool, not, ◌&&◌, ◌||◌, nat_eq, nat_lt, nat_le, if◌then◌else◌, Option, Some, None, take_while, codes}
use Rattle.std.specs.List.{list_all, prefix_len, starts_with}
use Rattle.std.specs.Option.{option_map_or}
use Rattle.std.specs.Str.{bytes_eq}
use Rattle.std.specs.Char.{is_ascii_digit}
use Rattle.ppd_ast.specs.declared.limits.TheConstants.{MOST_NAME_BYTES}
use Rattle.ppd_ast.specs.Digits.{value_from}
use Rattle.ppd_parse.specs.declared.token.Kind.{Kind}
use Rattle.ppd_parse.specs.declared.token.Kind.TheVariants as K
use Rattle.ppd_parse.specs.declared.token.TokenKind.{TokenKind}
use Rattle.ppd_parse.specs.declared.token.TokenKind.TheVariants.{Name, Number, Word, Mark}
use Rattle.ppd_parse.specs.declared.scan.Fault.TheVariants.{BadByte, BadNumber, OpenComment, LongName}
use Rattle.ppd_parse.specs.declared.scan.Piece.{Piece}
use Rattle.ppd_parse.specs.declared.scan.Piece.TheVariants.{Gap, Read, Bad}

abbrev pub is_space : ℕ → Bool
is_space b = (nat_le 9 b && nat_le b 13) || nat_eq b 32

-- a letter or _
abbrev pub is_letter : ℕ → Bool
is_letter b = (nat_le 65 b && nat_le b 90) || ((nat_le 97 b && nat_le b 122) || nat_eq b 95)

abbrev pub is_name_byte : ℕ → Bool
is_name_byte b = is_letter b || is_ascii_digit b

-- the keywords and the marks, each with its kind
abbrev pub keywords : List (List ℕ × Kind)
keywords =
    (codes "shared", K.SharedWord) ∷ (codes "int", K.IntWord) ∷ (codes "void", K.VoidWord) ∷ (codes "sem", K.SemWord)
    ∷ (codes "chan", K.ChanWord) ∷ (codes "process", K.ProcessWord) ∷ (codes "if", K.IfWord)
    ∷ (codes "else", K.ElseWord) ∷ (codes "while", K.WhileWord) ∷ (codes "for", K.ForWord)
    ∷ (codes "return", K.ReturnWord) ∷ (codes "P", K.TakeWord) ∷ (codes "V", K.GiveWord) ∷ (codes "send", K.SendWord)
    ∷ (codes "recv", K.RecvWord) ∷ (codes "print", K.PrintWord) ∷ (codes "assert", K.AssertWord) ∷ []

abbrev pub marks : List (List ℕ × Kind)
marks =
    (codes "||", K.OrMark) ∷ (codes "&&", K.AndMark) ∷ (codes "==", K.EqualMark) ∷ (codes "!=", K.UnequalMark)
    ∷ (codes "<=", K.AtMostMark) ∷ (codes ">=", K.AtLeastMark) ∷ (codes "<", K.LessMark) ∷ (codes ">", K.MoreMark)
    ∷ (codes "+", K.PlusMark) ∷ (codes "-", K.MinusMark) ∷ (codes "*", K.StarMark) ∷ (codes "/", K.SlashMark)
    ∷ (codes "%", K.PercentMark) ∷ (codes "!", K.NotMark) ∷ (codes "=", K.AssignMark) ∷ (codes "+=", K.AddMark)
    ∷ (codes "-=", K.SubtractMark) ∷ (codes "++", K.IncreaseMark) ∷ (codes "--", K.DecreaseMark)
    ∷ (codes "(", K.LeftParen) ∷ (codes ")", K.RightParen) ∷ (codes "{", K.LeftBrace) ∷ (codes "}", K.RightBrace)
    ∷ (codes "[", K.LeftBracket) ∷ (codes "]", K.RightBracket) ∷ (codes ";", K.Semicolon) ∷ (codes ",", K.Comma) ∷ []

-- what stands beside the first of the names that is this text
abbrev pub looked_up : {A : Type 0} → List (List ℕ × A) → List ℕ → Option A
looked_up [] text = None
looked_up (e ∷ es) text = if bytes_eq text e.0 then Some e.1 else looked_up es text

-- the number that digits write, where it is at most 9223372036854775807
abbrev pub value_of : List ℕ → Option ℕ
value_of text =
    if list_all is_ascii_digit text && nat_lt (value_from 0 text) (2 ^ 63) then Some (value_from 0 text) else None

-- the number that the text is, which has no needless 0
abbrev pub number_of : List ℕ → Option ℕ
number_of [] = None
number_of (b ∷ []) = value_of (b ∷ [])
number_of (b ∷ (c ∷ cs)) = if nat_eq b 48 then None else value_of (b ∷ (c ∷ cs))

-- how many bytes there are up to the first `*/` and with it, after n bytes
abbrev pub close_from : ℕ → List ℕ → Option ℕ
close_from n [] = None
close_from n (b ∷ bs) = if starts_with nat_eq (b ∷ bs) (codes "*/") then Some (n + 2) else close_from (n + 1) bs

-- letters, digits and _ that begin with no digit: a keyword or a name
abbrev pub read_word : List ℕ → Piece
read_word text =
    if nat_lt MOST_NAME_BYTES (length text) then Bad LongName
    else Read (length text) (option_map_or Word (looked_up keywords text) (Name text))

-- letters, digits and _ that begin with a digit
abbrev pub read_number : List ℕ → Piece
read_number text = option_map_or (λ value. Read (length text) (Number (pos value))) (number_of text) (Bad BadNumber)

-- the longest mark that begins with b: of two bytes, or else of b alone
abbrev pub read_mark : ℕ → List ℕ → Piece
read_mark b [] = option_map_or (λ kind. Read 1 (Mark kind)) (looked_up marks (b ∷ [])) (Bad BadByte)
read_mark b (c ∷ cs) =
    option_map_or (λ kind. Read 2 (Mark kind)) (looked_up marks (b ∷ c ∷ []))
    (option_map_or (λ kind. Read 1 (Mark kind)) (looked_up marks (b ∷ [])) (Bad BadByte))

-- What stands at the front; a comment from `/*` on ends at the first `*/`. No byte is no token.
abbrev pub front : List ℕ → Piece
front [] = Bad BadByte
front (b ∷ bs) =
    if is_space b then Gap 1
    else (if is_letter b then read_word (take_while is_name_byte (b ∷ bs))
    else (if is_ascii_digit b then read_number (take_while is_name_byte (b ∷ bs))
    else (if starts_with nat_eq (b ∷ bs) (codes "//") then Gap (prefix_len (λ c. not (nat_eq c 10)) (b ∷ bs))
    else (if starts_with nat_eq (b ∷ bs) (codes "/*")
    then option_map_or Gap (close_from 2 (drop 2 (b ∷ bs))) (Bad OpenComment)
    else read_mark b bs))))
