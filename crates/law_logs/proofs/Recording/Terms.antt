-- Terms whose constants have 64 bits.
use Rattle.std.specs.Prelude.{⊤}
use Rattle.ppd_ast.specs.Term as T
use Rattle.ppd_ast.specs.Term.{Term}
use Rattle.law_logs.proofs.Recording.Fit.{Fit}

abbrev pub TermFits : Term → Type 0
TermFits (T.const v) = Fit v
TermFits (T.local c) = ⊤
TermFits (T.local_at base n i) = TermFits i
TermFits (T.shared c) = ⊤
TermFits (T.shared_at base n i) = TermFits i
TermFits (T.neg a) = TermFits a
TermFits (T.not a) = TermFits a
TermFits (T.two op a b) = TermFits a × TermFits b
TermFits (T.and a b) = TermFits a × TermFits b
TermFits (T.or a b) = TermFits a × TermFits b
