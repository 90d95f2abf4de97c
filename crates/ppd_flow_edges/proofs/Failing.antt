-- Where the items of an interval are not answered.
use Rattle.std.proofs.Common.{◌≡◌, ℕ, ◌≤◌, List, [], ◌∷◌, length, Result, Ok, Err, refl, ap, subst, sym}
use Rattle.ppd_model.specs.declared.flow.Item.{Item}
use Rattle.ppd_model.specs.declared.flow_error.FlowError.{FlowError}
use Rattle.ppd_model.specs.declared.flow_error.FlowError.TheVariants.{Diverged, NoEvent, Sets, Memory}
use Rattle.ppd_flow_past.specs.declared.past.Past.{Past}
use Rattle.ppd_flow_past.specs.SeenBy.{items_in}
use Rattle.ppd_flow_edges.specs.Asked.{AreItems, IsAsked}

abbrev items_or : List Item → Result (List Item) FlowError → List Item
items_or d (Ok ts) = ts
items_or d (Err e) = d

-- the replay failed
pub asked_failed : (past : Past) (p k j n m : ℕ) (e : FlowError) → AreItems past p k n m (Err e) → IsAsked past p k j n m (Err e)
asked_failed past p k j n m NoEvent f = absurd (cc f.1)
asked_failed past p k j n m (Diverged q x) f = f
asked_failed past p k j n m (Sets q x c) f = f
asked_failed past p k j n m Memory f = f

-- the item is none of these
pub asked_none : (past : Past) (p k j n m : ℕ) (items : List Item) → AreItems past p k n m (Ok items) → length items ≤ j → IsAsked past p k j n m (Err NoEvent)
asked_none past p k j n m items f h =
    let same : items_in past p k ≡ items = ap (λ (r : Result (List Item) FlowError). items_or (items_in past p k) r) f.1 in
    (subst (λ (ts : List Item). AreItems past p k n m (Ok ts)) (sym same) f, subst (λ (ts : List Item). length ts ≤ j) (sym same) h)
