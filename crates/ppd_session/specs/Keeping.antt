-- The blocks that a session keeps, and what becomes of them where blocks are asked for.
use Rattle.std.specs.Prelude.{◌≡◌, ◌⊎◌, ℕ, nat_eq, ◌&&◌, Bool, List, [], ◌∷◌, take, Option, Some, None, Ok}
use Rattle.std.specs.Map.{lookup}
use Rattle.lru.specs.LruCache.{promoted}
use Rattle.ppd_model.specs.declared.flow.Item.{Item}
use Rattle.ppd_session.specs.Known.{Known}
use Rattle.ppd_session.specs.Texts.{told_at}
use Rattle.ppd_session.specs.declared.place.Place.{Place}

-- the blocks that are kept with their items, the one that was asked for last in front, and how many there may be
pub record Keeping : Type 0 where
  pub blocks : List (Place × List Item)
  pub most : ℕ

-- none yet
abbrev pub none_kept : (most : ℕ) → Keeping
none_kept most = record { blocks = []; most = most }

abbrev pub is_place : Place → Place → Bool
is_place a b = nat_eq a.process b.process && nat_eq a.interval b.interval

-- the items of this block, if it is kept
abbrev pub kept_of : Keeping → Place → Option (List Item)
kept_of kept place = lookup (is_place place) kept.blocks

-- this block goes in front, if it is kept
abbrev pub in_front : Place → Keeping → Keeping
in_front place kept = record { blocks = promoted (is_place place) kept.blocks; most = kept.most }

-- one more block goes in front; where there are then too many, the last goes
abbrev pub with_block : Place → List Item → Keeping → Keeping
with_block place items kept = record { blocks = take kept.most ((place, items) ∷ kept.blocks); most = kept.most }

-- a block that was not kept now is, as it is told
pub record IsKeptNow (x : Known) (place : Place) (old new : Keeping) : Type 0 where
  pub items : List Item
  pub told : told_at x place.process place.interval ≡ Some (Ok items)
  pub unkept : kept_of old place ≡ None
  pub kept : new ≡ with_block place items old

-- a block was asked for, if there is one: if it was kept it is in front, and else it may be kept now
abbrev pub IsAsked : Known → Option Place → (old new : Keeping) → Type 0
IsAsked x None old new = new ≡ old
IsAsked x (Some place) old new = (new ≡ in_front place old) ⊎ IsKeptNow x place old new

-- these blocks were asked for, in order
abbrev pub AreAsked : Known → List (Option Place) → (old new : Keeping) → Type 0
AreAsked x [] old new = new ≡ old
AreAsked x (o ∷ os) old new = (now : Keeping) × IsAsked x o old now × AreAsked x os now new

-- some of them were, the first
abbrev pub AreAskedInPart : Known → List (Option Place) → (old new : Keeping) → Type 0
AreAskedInPart x os old new = (n : ℕ) × AreAsked x (take n os) old new
