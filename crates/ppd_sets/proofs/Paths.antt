-- Flow paths are chains of successors.
use Rattle.std.proofs.Common.{ℕ, List, [], ◌∷◌, ◌++◌, refl, sym, subst}
use Rattle.std.specs.Prelude.{IsTrue}
use Rattle.ppd_ast.specs.declared.program.Program.{Program}
use Rattle.ppd_ast.specs.Members.{has}
use Rattle.ppd_sets.specs.Reach.{Reached, start, next}
use Rattle.ppd_sets.specs.Flow.{next_of, flow_rows, IsPath, FlowsTo}
use Rattle.ppd_sets.specs.FlowLaws.{PathsAreChains}
use Rattle.ppd_sets.proofs.FlowRows.{rows_are}

along : (p : Program) (starts : List ℕ) (s : ℕ) (rest : List ℕ) (t : ℕ) → Reached (flow_rows p) starts s → IsPath p s rest t → Reached (flow_rows p) starts t
along p starts s [] t r e = subst (Reached (flow_rows p) starts) e r
along p starts s (u ∷ rest) t r path =
    along p starts u rest t (next r (subst (λ xs. IsTrue (has xs u)) (sym (rows_are p s)) path.0)) path.1

longer : (p : Program) (s : ℕ) (rest : List ℕ) (t u : ℕ) → IsPath p s rest t → IsTrue (has (next_of p t) u) → IsPath p s (rest ++ u ∷ []) u
longer p s [] t u e h = (subst (λ z. IsTrue (has (next_of p z) u)) (sym e) h, refl)
longer p s (v ∷ rest) t u path h = (path.0, longer p v rest t u path.1 h)

chain : (p : Program) (s t : ℕ) → Reached (flow_rows p) (next_of p s) t → FlowsTo p s t
chain p s t (start h) = record { second = t; rest = []; first_step = h; path = refl }
chain p s t (next {a = a} r h) =
    let before : FlowsTo p s a = chain p s a r in
    record {
      second = before.second;
      rest = before.rest ++ t ∷ [];
      first_step = before.first_step;
      path = longer p before.second before.rest a t before.path (subst (λ xs. IsTrue (has xs t)) (rows_are p a) h);
    }

pub paths_are_chains : PathsAreChains
paths_are_chains p s t = (
  (λ f. along p (next_of p s) f.second f.rest t (start f.first_step) f.path),
  (λ r. chain p s t r),
)
