-- What a statement is, in a word and the name of what it is about.
use Rattle.ppd_ast.specs.Lookups.{body_numbered}
use Rattle.ppd_ast.specs.declared.program.Kind.{Kind}
use Rattle.ppd_ast.specs.declared.program.Kind.TheVariants as K
use Rattle.ppd_ast.specs.declared.program.Program.{Program}
use Rattle.ppd_ast.specs.declared.status.SyncKind.TheVariants as sync
use Rattle.ppd_text.specs.Names.{object_text}
use Rattle.std.specs.Prelude.{List, codes, ℕ, ◌++◌}

-- the word for a statement of this kind, then the function, semaphore or channel
abbrev pub kind_text : Program → Kind → List ℕ
kind_text p (K.Set t e) = codes "set"
kind_text p (K.Zero base len) = codes "zero"
kind_text p (K.If e first second) = codes "test"
kind_text p (K.While e body) = codes "test"
kind_text p (K.Call f args into) = codes "call " ++ (body_numbered p f).name
kind_text p (K.Return v) = codes "return"
kind_text p (K.P s) = object_text p sync.P s
kind_text p (K.V s) = object_text p sync.V s
kind_text p (K.Send c e) = object_text p sync.Send c
kind_text p (K.Recv c into) = object_text p sync.Recv c
kind_text p (K.Print e) = codes "print"
kind_text p (K.Assert e) = codes "assert"
kind_text p K.End = codes "end"
