-- The synchronizations of logs kept by kind, object and number.
use Rattle.std.specs.Prelude.{◌≡◌, ℕ, nat_eq, Bool, ◌&&◌, ◌||◌, List, [], ◌∷◌, map, get_or, Option, Some, None, is_some, ⊤, if◌then◌else◌, fold, max}
use Rattle.std.specs.HashMap.{HashMap, get}
use Rattle.ppd_ast.specs.declared.program.Program.{Program}
use Rattle.ppd_ast.specs.declared.status.SyncKind.{SyncKind}
use Rattle.ppd_ast.specs.declared.status.SyncKind.TheVariants.{P, V, Send, Recv, Done}
use Rattle.ppd_model.specs.declared.graph.NodeId.{NodeId}
use Rattle.ppd_model.specs.Numbers.{sync}
use Rattle.ppd_model.specs.Synchronizations.{Sync}
use Rattle.ppd_graph.specs.declared.by_number.ByNumber.{ByNumber}
use Rattle.ppd_graph.specs.declared.greatest.Greatest.{Greatest}
use Rattle.ppd_graph.specs.declared.paired.Paired.{Paired}
use Rattle.ppd_graph.specs.declared.placed.Placed.{Placed}
use Rattle.ppd_model.specs.declared.bad_sync.BadSync.{BadSync}
use Rattle.ppd_model.specs.declared.bad_sync.BadSync.TheVariants.{NumberTwice, Memory}
use Rattle.ppd_graph.specs.Partners.{paired_by, wanted}
use Rattle.ppd_graph.specs.Refusals.{Numbered, is_from_start, numbers_of, sync_placed, twice_after}
use Rattle.ppd_model.specs.SameSyncs.{same_sync}

module _ {S : Type 0} where
  -- what a map has for an object and a number
  abbrev pub found_in : HashMap (ℕ × ℕ) NodeId S → ℕ → ℕ → Option NodeId
  found_in nodes object number = get (λ x y. nat_eq x.0 y.0 && nat_eq x.1 y.1) nodes (object, number)

  -- with one more for an object and a number
  abbrev pub Puts : HashMap (ℕ × ℕ) NodeId S → HashMap (ℕ × ℕ) NodeId S → ℕ → ℕ → NodeId → Type 0
  Puts old new object number node =
      (o n : ℕ) → found_in new o n ≡ (if nat_eq object o && nat_eq number n then Some node else found_in old o n)

-- where the synchronization of this kind, object and number stands, if it is kept
abbrev pub node_kept : ByNumber → SyncKind → ℕ → ℕ → Option NodeId
node_kept t P o n = found_in t.takes o n
node_kept t V o n = found_in t.gives o n
node_kept t Send o n = found_in t.sends o n
node_kept t Recv o n = found_in t.receives o n
node_kept t Done o n = found_in t.completions o n

-- none is kept
abbrev pub KeepsNone : ByNumber → Type 0
KeepsNone t = (kind : SyncKind) (o n : ℕ) → node_kept t kind o n ≡ None

-- one more is kept
abbrev pub KeepsMore : ByNumber → ByNumber → Placed → Type 0
KeepsMore old new x =
    (kind : SyncKind) (o n : ℕ)
    → node_kept new kind o n
    ≡ (if same_sync (sync_placed x) (sync kind o n) then Some x.node else node_kept old kind o n)

-- where the first of these that is this synchronization stands
abbrev pub node_among : Sync → List Placed → Option NodeId
node_among s [] = None
node_among s (x ∷ xs) = if same_sync (sync_placed x) s then Some x.node else node_among s xs

-- these are kept
abbrev pub KeepsAll : ByNumber → List Placed → Type 0
KeepsAll t xs = (kind : SyncKind) (o n : ℕ) → node_kept t kind o n ≡ node_among (sync kind o n) xs

-- ---- a number twice

abbrev pub is_kept : ByNumber → Sync → Bool
is_kept t s = is_some (node_kept t s.kind s.object s.number)

-- the number of this one stood before, or is one from the start
abbrev pub is_twice : Program → ByNumber → Placed → Bool
is_twice program t x = is_kept t (sync_placed x) || is_from_start program (sync_placed x)

-- the first of these whose number stood before
abbrev pub IsTwice : Program → List Placed → BadSync → Type 0
IsTwice program xs (NumberTwice at) = twice_after program [] xs ≡ Some at
IsTwice program xs Memory = ⊤
IsTwice program xs e = ⊥

-- ---- the greatest numbers

-- the greatest number of each object of a kind
abbrev pub AreGreatest : SyncKind → List Placed → List ℕ → Type 0
AreGreatest kind xs numbers = (o : ℕ) → get_or numbers o 0 ≡ fold max 0 (numbers_of kind o (map sync_placed xs))

abbrev pub greatest_kept : Greatest → SyncKind → ℕ → ℕ
greatest_kept g P o = get_or g.takes o 0
greatest_kept g V o = get_or g.gives o 0
greatest_kept g Send o = get_or g.sends o 0
greatest_kept g Recv o = get_or g.receives o 0
greatest_kept g Done o = get_or g.completions o 0

abbrev pub AllGreatest : List Placed → Greatest → Type 0
AllGreatest xs g =
    (kind : SyncKind) (o : ℕ) → greatest_kept g kind o ≡ fold max 0 (numbers_of kind o (map sync_placed xs))

-- which numbers are kept, and the greatest
abbrev pub numbered_kept : ByNumber → Greatest → SyncKind → ℕ → Numbered
numbered_kept t g kind o = record { is_there = λ n. is_some (node_kept t kind o n); greatest = greatest_kept g kind o }

-- ---- partners

abbrev pub node_wanted : ByNumber → Option Sync → Option NodeId
node_wanted t None = None
node_wanted t (Some s) = node_kept t s.kind s.object s.number

abbrev pub partner_kept : Program → ByNumber → Sync → Paired
partner_kept program t s = paired_by s.kind (node_wanted t (wanted program s))
