-- Each number of a drill makes a source of the language.
use Rattle.std.specs.Prelude.{◌%◌}
use Rattle.std.proofs.Common.{◌<◌, ◌≤◌, ℕ, ◌+◌, List, [], ◌∷◌, refl, arith}
use Rattle.ppd_ast.specs.declared.limits.TheConstants.{MOST_DRILL}
use Rattle.ppd_ast.specs.declared.program.Program.{Program}
use Rattle.ppd_parse.specs.declared.token.Token.{Token}
use Rattle.ppd_parse.proofs.FormedTokens.{formed}
use Rattle.ppd_parse.specs.Limits.{IsTree, token_at}
use Rattle.ppd_check.specs.Read.{IsRead}
use Rattle.ppd_check.specs.Sources.{core_of}
use Rattle.ppd_check_names.specs.Reading as Reading
use Rattle.ppd_top_drill.specs.Drills.{pipeline, turns}
use Rattle.ppd_top_drill.specs.Drilled.{AreRead}
use Rattle.ppd_top_drill.proofs.Checked.{tree_of, no_fault}
use Rattle.ppd_top_drill.proofs.Limited.{within_limits}
use Rattle.ppd_top_drill.proofs.TokenLines.{pipeline_spelled}
use Rattle.ppd_top_drill.proofs.Pipelines.{items_of, source_of}
use Rattle.ppd_top_drill.proofs.Short.{pipeline_short}
use Rattle.ppd_top_drill.proofs.Spelled.{tokens_of_text}
use Rattle.ppd_top_drill.proofs.Trees.{derived_tree}
use Rattle.ppd_top_drill.proofs.Derivations.{kinds}

-- a pipeline of 2 to 7 channels has a program
pipeline_read : (n r : ℕ) → n ≤ MOST_DRILL → r < 6 → (p : Program) × IsRead (pipeline n (2 + r)) p
pipeline_read n r small lt =
    let m : ℕ = turns n in
    let k : ℕ = 2 + r in
    let lexed = tokens_of_text (pipeline n k) (kinds (items_of m n k)) (pipeline_short n k (omega (arith, small)) (omega (arith, lt))) (pipeline_spelled n k (omega (arith, small)) (omega arith) (omega (arith, lt))) in
    let ts : List Token = lexed.0 in
    let w : ℕ → Token = λ i. token_at ts i in
    let tree : IsTree ts (tree_of w m n k ∷ []) = derived_tree ts (source_of m n k) lexed.2 (within_limits w m n r lt) (formed (pipeline n k) ts lexed.1).ends in (
      core_of (Reading.source_of (tree_of w m n k)),
      record {
        tree = tree_of w m n k;
        parsed = record { tokens = ts; lexed = lexed.1; parsed = tree };
        accepted = no_fault w m n r lt;
        table = refl;
      },
    )

pub drills_read : AreRead
drills_read n small = pipeline_read n (n % 6) small (omega arith)
