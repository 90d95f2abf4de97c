-- The parts that stand for a symbol are those of its production.
use Rattle.std.proofs.Common.{◌≡◌, Bool, true, false, Some, cond, refl}
use Rattle.ppd_parse.specs.declared.token.Kind.{Kind}
use Rattle.ppd_parse.specs.declared.symbol.Symbol.{Symbol}
use Rattle.ppd_parse.specs.declared.symbol.Symbol.TheVariants as S
use Rattle.ppd_parse.specs.Grammar.{parts, is_operator, chain_end, chain_more}
use Rattle.ppd_parse.specs.Choice.{chosen, choose, expansion, parts_if}

pub expansion_chosen : (y : Symbol) (k : Kind) → expansion y k ≡ parts_if (choose y k)
expansion_chosen (S.Chain l) k = chain (is_operator l k)
  where
    chain : (b : Bool) → cond b (Some (parts (chain_more l))) (Some (parts (chain_end l))) ≡ parts_if (cond b (chosen (chain_more l)) (chosen (chain_end l)))
    chain true = refl
    chain false = refl
expansion_chosen _ k = refl
