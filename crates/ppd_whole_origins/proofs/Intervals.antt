-- The intervals of all processes, one process after the other.
use Rattle.ppd_flow_past.specs.PastSetting.{past_setting}
use Rattle.std.proofs.Common.{◌≡◌, ℕ, zero, suc, ◌+◌, ◌<◌, List, [], ◌∷◌, ◌++◌, length, map, drop, take, get_or, refl, ap, ap₂, sym, ◌∙◌, arith}
use Rattle.std.specs.List.{flat_map, range_with_len}
use Rattle.std.proofs.Math.ListN as math
use Rattle.std.proofs.lemmas.List.{drop_all, drop_more, length-map, map-append, take_more}
use Rattle.std.proofs.lemmas.List.FromFn.{fill_by_all}
use Rattle.std.proofs.lemmas.Simd.{map-map}
use Rattle.ppd_model.specs.declared.entry.Entry.{Entry}
use Rattle.ppd_model.specs.declared.entry.Logs.{Logs}
use Rattle.ppd_model.specs.declared.flow.Item.{Item}
use Rattle.ppd_flow_past.specs.declared.past.Past.{Past}
use Rattle.ppd_flow_past.specs.SeenBy.{items_in, seen_by, seen_in}
use Rattle.ppd_graph.specs.Seen.{Seen}
use Rattle.ppd_flow_shared.specs.SharedCells.{seens_in}
use Rattle.ppd_whole_origins.specs.Intervals.{all_intervals, intervals_from, intervals_of}

module _ (past : Past) (uncut : past.cut.now ≡ past.logs.now) where
  abbrev seen : List Entry → Seen
  seen entries = seen_by (past_setting past) entries

  pub seens_count : length (seens_in past) ≡ length past.logs.now.lists
  seens_count = length-map past.cut.now.lists seen ∙ ap (λ (l : Logs). length l.lists) uncut

  pub seens_drop : (p : ℕ) → p < length past.logs.now.lists → drop p (seens_in past) ≡ seen_in past p ∷ drop (p + 1) (seens_in past)
  seens_drop p lt =
      drop_more (seens_in past) p (seen []) (omega (arith, seens_count, lt))
      ∙ ap (λ (x : Seen). x ∷ drop (p + 1) (seens_in past)) (math.get_or-map seen past.cut.now.lists p [])

  pub seens_take : (p : ℕ) → p < length past.logs.now.lists → take (p + 1) (seens_in past) ≡ take p (seens_in past) ++ seen_in past p ∷ []
  seens_take p lt =
      take_more (seens_in past) p (seen []) (omega (arith, seens_count, lt))
      ∙ ap (λ (x : Seen). take p (seens_in past) ++ x ∷ []) (math.get_or-map seen past.cut.now.lists p [])

  pub intervals_drop : (p : ℕ) → p < length past.logs.now.lists
      → intervals_from p (drop p (seens_in past)) ≡ intervals_of p (seen_in past p) ++ intervals_from (p + 1) (drop (p + 1) (seens_in past))
  intervals_drop p lt = ap (λ (l : List Seen). intervals_from p l) (seens_drop p lt)

  abbrev at : ℕ × ℕ → List Item
  at m = items_in past m.0 m.1

  one_process : (p : ℕ) → map at (intervals_of p (seen_in past p)) ≡ (seen_in past p).items
  one_process p =
      map-map at (λ (k : ℕ). (p, k)) (range_with_len 0 (length (seen_in past p).items))
      ∙ sym (fill_by_all (λ (k : ℕ). get_or (seen_in past p).items k []) (seen_in past p).items (length (seen_in past p).items) [] refl (λ k lt. refl))

  items_from : (n p : ℕ) → p + n ≡ length past.logs.now.lists
      → map at (intervals_from p (drop p (seens_in past))) ≡ flat_map (λ (x : Seen). x.items) (drop p (seens_in past))
  items_from zero p e =
      let none : drop p (seens_in past) ≡ [] = drop_all p (seens_in past) (omega (arith, seens_count, e)) in
      ap (λ (l : List Seen). map at (intervals_from p l)) none ∙ sym (ap (λ (l : List Seen). flat_map (λ (x : Seen). x.items) l) none)
  items_from (suc n) p e =
      let lt : p < length past.logs.now.lists = omega (arith, e) in
      ap (λ (l : List (ℕ × ℕ)). map at l) (intervals_drop p lt)
      ∙ map-append at (intervals_of p (seen_in past p)) (intervals_from (p + 1) (drop (p + 1) (seens_in past)))
      ∙ ap₂ (λ (a b : List (List Item)). a ++ b) (one_process p) (items_from n (p + 1) (omega (arith, e)))
      ∙ sym (ap (λ (l : List Seen). flat_map (λ (x : Seen). x.items) l) (seens_drop p lt))

  pub items_of_all : map at (all_intervals past) ≡ flat_map (λ (x : Seen). x.items) (seens_in past)
  items_of_all = items_from (length past.logs.now.lists) 0 (omega arith)
