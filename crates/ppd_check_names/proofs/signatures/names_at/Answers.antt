use Rattle.std.proofs.Common.{◌∙◌, sym, ap, ℕ, Bool, if◌then◌else◌}
use Rattle.ppd_parse.specs.declared.token.Kind.TheVariants as K
use Rattle.ppd_check_names.specs.Reading.{same_kind}
use Rattle.ppd_check_names.proofs.signatures.names_at.Goals as goal

abbrev counted : Bool → ℕ
counted b = if b then 1 else 0

pub returns-then-is_name : goal.returns-then-is_name
returns-then-is_name c = ap counted (sym c.if-is_name.true ∙ c.is_name.ensures ∙ ap (same_kind K.Name) c.kind_at.ensures)

pub returns-else-is_name : goal.returns-else-is_name
returns-else-is_name c = ap counted (sym c.if-is_name.false ∙ c.is_name.ensures ∙ ap (same_kind K.Name) c.kind_at.ensures)
