use Rattle.std.proofs.Common.{◌+◌, [], ◌∷◌, ◌++◌, length, ap, sym, subst, ◌∙◌, ap₂}
use Rattle.std.specs.List.{zip}
use Rattle.std.specs.List.Sorted.{IsNonDecreasing}
use Rattle.std.proofs.lemmas.List.{length_push}
use Rattle.ppd_flow_local_tables.specs.Rows.{AllBefore}
use Rattle.ppd_flow_local_tables.proofs.RowLemmas.{pairs_push, rises_push}
use Rattle.ppd_flow_local_tables.proofs.row.Row.push.Goals as goal

pub invariant_of-self-in-Ok : goal.invariant_of-self-in-Ok
invariant_of-self-in-Ok g c =
    let ns = c.self.inside.items.items in
    let vs = c.self.inside.values.items in
    let before : AllBefore (c.args.item + 1) (zip ns vs) =
    subst (λ xs. AllBefore (c.args.item + 1) xs) (sym c.self.view_is) c.requires in (
      (ap length c.in-Ok.ensures.items
          ∙ (length_push ns c.args.item
          ∙ (ap (λ n. n + 1) c.self.invariant.0
          ∙ (sym (length_push vs c.args.value) ∙ sym (ap length c.in_ok-push.ensures.items))))),
      subst (λ l. IsNonDecreasing l) (sym c.in-Ok.ensures.items)
          (rises_push ns vs c.args.item c.self.invariant.0 c.self.invariant.1 before),
    )

pub returns-in-Ok : goal.returns-in-Ok
returns-in-Ok g c =
    let ns = c.self.inside.items.items in
    let vs = c.self.inside.values.items in
    ap₂ zip c.in-Ok.ensures.items c.in_ok-push.ensures.items
    ∙ (pairs_push ns vs c.args.item c.args.value c.self.invariant.0
    ∙ ap (λ xs. xs ++ (c.args.item, c.args.value) ∷ []) c.self.view_is)
