-- The first fault of a source: its stage, number, name and place.
use Rattle.std.specs.Prelude.{◌++◌, ℕ, List, [], codes}
use Rattle.ppd_parse.specs.declared.token.LexError.TheVariants as lex
use Rattle.ppd_parse.specs.declared.error.SyntaxError.TheVariants as syntax
use Rattle.ppd_check.specs.declared.error.CheckError.TheVariants as check
use Rattle.ppd_check.specs.declared.error.SourceError.{SourceError}
use Rattle.ppd_check.specs.declared.error.SourceError.TheVariants as source
use Rattle.ppd_text.specs.Texts.{place_text}

-- without the word and the number of a limit
abbrev pub stage_text : SourceError → List ℕ
stage_text (source.Lex (lex.BadByte p)) = codes "lex 1 BadByte " ++ place_text p
stage_text (source.Lex (lex.BadNumber p)) = codes "lex 2 BadNumber " ++ place_text p
stage_text (source.Lex (lex.OpenComment p)) = codes "lex 3 OpenComment " ++ place_text p
stage_text (source.Lex (lex.TooLong p)) = codes "lex 4 TooLong " ++ place_text p
stage_text (source.Lex (lex.LongName p)) = codes "lex 5 LongName " ++ place_text p
stage_text (source.Lex lex.Memory) = []
stage_text (source.Syntax (syntax.Unexpected p)) = codes "syntax 1 Unexpected " ++ place_text p
stage_text (source.Syntax (syntax.Deep p)) = codes "syntax 2 Deep " ++ place_text p
stage_text (source.Syntax (syntax.Wide p)) = codes "syntax 3 Wide " ++ place_text p
stage_text (source.Syntax syntax.Memory) = []
stage_text (source.Check (check.Twice p)) = codes "check 1 Twice " ++ place_text p
stage_text (source.Check (check.Unknown p)) = codes "check 2 Unknown " ++ place_text p
stage_text (source.Check (check.WrongKind p)) = codes "check 3 WrongKind " ++ place_text p
stage_text (source.Check (check.Arity p)) = codes "check 4 Arity " ++ place_text p
stage_text (source.Check (check.ReturnPlace p)) = codes "check 5 ReturnPlace " ++ place_text p
stage_text (source.Check (check.VoidValue p)) = codes "check 6 VoidValue " ++ place_text p
stage_text (source.Check (check.NoProcess p)) = codes "check 7 NoProcess " ++ place_text p
stage_text (source.Check (check.TooMany p l)) = codes "check 8 TooMany " ++ place_text p
stage_text (source.Check (check.BadSize p)) = codes "check 9 BadSize " ++ place_text p
stage_text (source.Check check.Memory) = []
stage_text source.Memory = []
