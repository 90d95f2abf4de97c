-- Whether an item is there, by the items of its interval.
use Rattle.std.proofs.Common.{◌≡◌, ℕ, Bool, List, [], ◌∷◌, Result, Ok, Err, length, ap, sym, ◌∙◌}
use Rattle.std.specs.Prelude.{nat_lt}
use Rattle.ppd_model.specs.declared.flow_error.FlowError.{FlowError}
use Rattle.ppd_model.specs.declared.flow_error.FlowError.TheVariants.{Diverged, NoEvent, Sets, Memory}
use Rattle.ppd_flow_past.specs.declared.past.Past.{Past}
use Rattle.ppd_flow_past.specs.ByReplays.{IsFoundBy}
use Rattle.ppd_flow_past.specs.SeenBy.{items_in}
use Rattle.ppd_model.specs.declared.flow.Item.{Item}
use Rattle.ppd_slice_search.specs.declared.reached.ItemAt.{ItemAt}

module _ (past : Past) (a : ItemAt) (n m : ℕ) where
  abbrev IsItems : Result (List Item) FlowError → Type 0
  IsItems res =
      IsFoundBy past ((a.process, a.interval) ∷ []) (Ok (items_in past a.process a.interval)) n m res

  abbrev IsTold : Result Bool FlowError → Type 0
  IsTold res =
      IsFoundBy past ((a.process, a.interval) ∷ []) (Ok (nat_lt a.item (length (items_in past a.process a.interval)))) n m res

  same_items : (x y : List Item) → ◌≡◌ {A = Result (List Item) FlowError} (Ok x) (Ok y) → x ≡ y
  same_items x y f = cc

  pub told : (items shown : List Item) → shown ≡ items → IsItems (Ok items) → IsTold (Ok (nat_lt a.item (length shown)))
  told items shown same f = (
    f.0,
    ap (λ (xs : List Item). Ok (nat_lt a.item (length xs))) (same_items _ _ f.1 ∙ sym same),
    f.2,
  )

  pub untold : (error : FlowError) → IsItems (Err error) → IsTold (Err error)
  untold (Diverged q j) f = f
  untold NoEvent f = absurd (cc f.1)
  untold (Sets q j c) f = absurd (cc f.1)
  untold Memory f = tt
