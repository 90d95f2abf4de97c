-- What is seen of one process of a past among what is seen of all.
use Rattle.ppd_flow_past.specs.PastSetting.{past_setting}
use Rattle.std.proofs.Common.{◌≡◌, ℕ, zero, suc, List, [], ◌∷◌, refl, sym, get_or, map}
use Rattle.ppd_model.specs.declared.entry.Entry.{Entry}
use Rattle.ppd_graph.specs.Seen.{Seen}
use Rattle.ppd_graph.specs.Shared.{seen_at}
use Rattle.ppd_flow_past.specs.declared.past.Past.{Past}
use Rattle.ppd_flow_past.specs.SeenBy.{seen_by, seen_in}
use Rattle.ppd_flow_shared.specs.SharedCells.{seens_in}

at_process : (f : List Entry → Seen) (d : Seen) (lists : List (List Entry)) (p : ℕ) → f [] ≡ d → get_or (map f lists) p d ≡ f (get_or lists p [])
at_process f d [] p e = sym e
at_process f d (es ∷ lists) zero e = refl
at_process f d (es ∷ lists) (suc p) e = at_process f d lists p e

pub same_seen : (past : Past) (p : ℕ) → seen_in past p ≡ seen_at (seens_in past) p
same_seen past p =
    sym (at_process (λ entries. seen_by (past_setting past) entries) (record { items = []; blocks = []; rounds = [] }) past.cut.now.lists p refl)
