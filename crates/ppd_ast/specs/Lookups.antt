-- What a program has at a number, and what stands for it past the end of its tables.
use Rattle.std.specs.Prelude.{ℕ, false, [], slice_get, unwrap_or}
use Rattle.std.specs.Option.{option_map_or}
use Rattle.ppd_ast.specs.declared.program.Body.{Body}
use Rattle.ppd_ast.specs.declared.program.Kind.{Kind}
use Rattle.ppd_ast.specs.declared.program.Kind.TheVariants as kind
use Rattle.ppd_ast.specs.declared.program.Program.{Program}

-- the kind of statement s, and `End` past the last
abbrev pub kind_of : Program → ℕ → Kind
kind_of p s = option_map_or (λ x. x.kind) (slice_get p.stmts s) kind.End

-- the body of statement s, and 0 past the last
abbrev pub body_of : Program → ℕ → ℕ
body_of p s = option_map_or (λ x. x.body) (slice_get p.stmts s) 0

-- a body of nothing
abbrev pub no_body : Body
no_body = record {
  name = [];
  process = false;
  params = 0;
  value = false;
  cells = 0;
  locals = [];
  top = [];
  first = 0;
  end = 0;
}

-- body b, and a body of nothing past the last
abbrev pub body_numbered : Program → ℕ → Body
body_numbered p b = unwrap_or (slice_get p.bodies b) no_body
