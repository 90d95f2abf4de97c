-- The words of proofs for how processes ended.
use Rattle.ppd_ast.specs.Lookups.{body_numbered}
use Rattle.ppd_ast.specs.declared.program.Program.{Program}
use Rattle.ppd_model.specs.declared.closed.ProcEnd.{ProcEnd}
use Rattle.ppd_top_runs.specs.Ends.{end_text}
use Rattle.std.specs.List.{enumerate_from, flat_map}
use Rattle.std.specs.Prelude.{List, ℕ}

-- the processes in order; the first one's body has number b
abbrev pub end_texts : Program → ℕ → List ProcEnd → List ℕ
end_texts program b ends =
    flat_map (λ (e : ℕ × ProcEnd). end_text program (body_numbered program e.0).name e.1) (enumerate_from b ends)
