-- What stands in a row of statements that are named rightly, as one list of terms and one of statements.
use Rattle.std.proofs.Common.{ℕ, List, ◌++◌}
use Rattle.std.specs.List.{All}
use Rattle.std.proofs.lemmas.List.Elements.{All-nil, All-cons, All-append}
use Rattle.ppd_ast.specs.declared.program.Var.{Var}
use Rattle.ppd_ast.specs.declared.program.Program.{Program}
use Rattle.ppd_ast.specs.Cells.{NamesWhole, WritesWhole}
use Rattle.ppd_ast.specs.Valid.{HasObject, CallsRightly}
use Rattle.ppd_check_stmts.specs.Code.{Act, Code, done, act, choice, loop}
use Rattle.ppd_check_stmts.specs.Table.{act_terms, terms, kind}
use Rattle.ppd_check.proofs.Named.Rightly.{IsNamedRightly, AreNamedRightly}
use Rattle.ppd_check.proofs.Valid.Facts.{acts_in, CodeNames}

module _ (p : Program) (locals : List Var) where
  terms_whole : (c : Code) → AreNamedRightly p locals c → All (NamesWhole p.shared locals) (terms c)
  terms_whole done h = All-nil (NamesWhole p.shared locals)
  terms_whole (act q a c) h = All-append (NamesWhole p.shared locals) (act_terms a) (terms c) h.0.terms (terms_whole c h.1)
  terms_whole (choice q e x y c) h =
      All-cons (NamesWhole p.shared locals) e (terms x ++ (terms y ++ terms c)) h.0
      (All-append (NamesWhole p.shared locals) (terms x) (terms y ++ terms c) (terms_whole x h.1) (All-append (NamesWhole p.shared locals) (terms y) (terms c) (terms_whole y h.2) (terms_whole c h.3)))
  terms_whole (loop q e x c) h =
      All-cons (NamesWhole p.shared locals) e (terms x ++ terms c) h.0 (All-append (NamesWhole p.shared locals) (terms x) (terms c) (terms_whole x h.1) (terms_whole c h.2))

  each_act : (P : Act → Type 0) → ((a : Act) → IsNamedRightly p locals a → P a) → (c : Code) → AreNamedRightly p locals c → All P (acts_in c)
  each_act P f done h = All-nil P
  each_act P f (act q a c) h = All-cons P a (acts_in c) (f a h.0) (each_act P f c h.1)
  each_act P f (choice q e x y c) h =
      All-append P (acts_in x) (acts_in y ++ acts_in c) (each_act P f x h.1) (All-append P (acts_in y) (acts_in c) (each_act P f y h.2) (each_act P f c h.3))
  each_act P f (loop q e x c) h = All-append P (acts_in x) (acts_in c) (each_act P f x h.1) (each_act P f c h.2)

  pub code_names : (c : Code) → AreNamedRightly p locals c → CodeNames p locals c
  code_names c h = record {
    names = terms_whole c h;
    writes = each_act (λ a. (m : ℕ) → WritesWhole p.shared locals (kind m a)) (λ a r. r.writes) c h;
    objects = each_act (λ a. (m : ℕ) → HasObject p (kind m a)) (λ a r. r.object) c h;
    calls = each_act (λ a. (m : ℕ) → CallsRightly p (kind m a)) (λ a r. r.call) c h;
  }
