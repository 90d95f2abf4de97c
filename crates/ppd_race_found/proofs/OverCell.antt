-- What is found over a cell.
use Rattle.std.proofs.Common.{◌≡◌, ℕ, zero, suc, ◌+◌, ◌<◌, List, [], ◌∷◌, ◌++◌, Bool, true, false, refl, ap, sym, subst, ◌∙◌, arith, length, get_or, ◌||◌, eq-eqb}
use Rattle.std.specs.Prelude.{IsTrue, nat_eq}
use Rattle.ppd_ast.specs.Members.{has, AreBelow}
use Rattle.ppd_ast.specs.declared.limits.TheConstants.{MOST_SHARED_CELLS}
use Rattle.ppd_model.specs.declared.graph.Race.{Race}
use Rattle.ppd_model.specs.declared.graph.RaceKind.TheVariants.{ReadWrite, WriteRead, WriteWrite}
use Rattle.ppd_graph.specs.declared.sync_graph.SyncGraph.{SyncGraph}
use Rattle.ppd_race_found.specs.declared.busy.Accessor.{Accessor}
use Rattle.ppd_race_found.specs.declared.busy.Against.{Against}
use Rattle.ppd_race_found.specs.declared.busy.Busy.{Busy}
use Rattle.ppd_race_found.specs.declared.by_cell.ByCell.{ByCell}
use Rattle.ppd_race_found.specs.Lists.{GrowsBy}
use Rattle.ppd_race_found.specs.Search.{AreInOrder, CanSearch, IsElsewhere, IsRising, against, found_if, found_over}
use Rattle.ppd_race_found.proofs.Grown.{grown_as, grown_then}

one_kind : (g : SyncGraph) (w w' : Bool) (list list' : List Accessor) (x x' : Against) (old new : List (List Race)) (p : ℕ) → w ≡ w' → list ≡ list' → x ≡ x' → IsRising g → AreInOrder g p list' → IsElsewhere g p x'.edge
    → (IsRising g → (p : ℕ) → AreInOrder g p list → IsElsewhere g p x.edge → GrowsBy (found_if w g list x) old new) → GrowsBy (found_if w' g list' x') old new
one_kind g w w' list list' x x' old new p e e' e'' rising order elsewhere grows =
    grown_as (found_if w g list x) (found_if w' g list' x') old new
    (λ m. ap (λ k. found_if k g list x m) e ∙ ap (λ l. found_if w' g l x m) e' ∙ ap (λ y. found_if w' g list' y m) e'')
    (grows rising p (subst (AreInOrder g p) (sym e') order) (subst (λ (y : Against). IsElsewhere g p y.edge) (sym e'') elsewhere))

pub over_cell : (g : SyncGraph) (t : ByCell) (b : Busy) (c : ℕ) (reads writes : Bool) (readers writers : List Accessor) (x y z : Against) (old now next new : List (List Race))
    → c < MOST_SHARED_CELLS → reads ≡ has b.reads c → writes ≡ has b.writes c → readers ≡ get_or t.readers.items c [] → writers ≡ get_or t.writers.items c [] → x ≡ against b.edge c ReadWrite → y ≡ against b.edge c WriteRead → z ≡ against b.edge c WriteWrite
    → (IsRising g → (p : ℕ) → AreInOrder g p readers → IsElsewhere g p x.edge → GrowsBy (found_if writes g readers x) old now)
    → (IsRising g → (p : ℕ) → AreInOrder g p writers → IsElsewhere g p y.edge → GrowsBy (found_if reads g writers y) now next)
    → (IsRising g → (p : ℕ) → AreInOrder g p writers → IsElsewhere g p z.edge → GrowsBy (found_if writes g writers z) next new)
    → (p : ℕ) → CanSearch g p t → IsElsewhere g p b.edge → GrowsBy (found_over g t b c) old new
over_cell g t b c reads writes readers writers x y z old now next new lt r w rs ws ex ey ez first second third p can elsewhere =
    let one = one_kind g writes (has b.writes c) readers (get_or t.readers.items c []) x (against b.edge c ReadWrite) old now p w rs ex can.rising (can.readers c lt) elsewhere first in
    let two = one_kind g reads (has b.reads c) writers (get_or t.writers.items c []) y (against b.edge c WriteRead) now next p r ws ey can.rising (can.writers c lt) elsewhere second in
    let three = one_kind g writes (has b.writes c) writers (get_or t.writers.items c []) z (against b.edge c WriteWrite) next new p w ws ez can.rising (can.writers c lt) elsewhere third in
    grown_then (found_if (has b.writes c) g (get_or t.readers.items c []) (against b.edge c ReadWrite)) (λ m. found_if (has b.reads c) g (get_or t.writers.items c []) (against b.edge c WriteRead) m ++ found_if (has b.writes c) g (get_or t.writers.items c []) (against b.edge c WriteWrite) m) old now new one
    (grown_then (found_if (has b.reads c) g (get_or t.writers.items c []) (against b.edge c WriteRead)) (found_if (has b.writes c) g (get_or t.writers.items c []) (against b.edge c WriteWrite)) now next new two three)

-- ---- a cell of an edge

pub below_at : (m : ℕ) (xs seen : List ℕ) (i d : ℕ) → seen ≡ xs → AreBelow m xs → i < length seen → get_or seen i d < m
below_at m xs seen i d e below lt = below (get_or seen i d) (subst (λ ys. IsTrue (has ys (get_or seen i d))) e (has_at seen i d lt))
  where
    self : (x : ℕ) → nat_eq x x ≡ true
    self x = eq-eqb x x refl

    later : (b : Bool) (c : Bool) → IsTrue c → (b || c) ≡ true
    later true c h = refl
    later false c h = h

    has_at : (ys : List ℕ) (i d : ℕ) → i < length ys → IsTrue (has ys (get_or ys i d))
    has_at [] i d h = absurd (omega (arith, h))
    has_at (y ∷ ys) zero d h = ap (λ b. b || has ys y) (self y)
    has_at (y ∷ ys) (suc i) d h = later (nat_eq y (get_or ys i d)) (has ys (get_or ys i d)) (has_at ys i d (omega (arith, h)))
