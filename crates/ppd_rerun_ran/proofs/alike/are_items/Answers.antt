use Rattle.std.proofs.Common.{◌∙◌, ◌<◌, ◌∷◌, [], List, length, refl, ap, sym, arith}
use Rattle.std.proofs.lemmas.Bool.{false≢true}
use Rattle.std.proofs.lemmas.List.{drop_all}
use Rattle.ppd_model.specs.declared.flow.Item.{Item}
use Rattle.ppd_rerun_ran.specs.Seeing.{seen}
use Rattle.ppd_rerun_ran.proofs.Items.{alike_at_start, alike_end, alike_next, first_part, not_alike, ones_count}
use Rattle.ppd_rerun_ran.proofs.alike.are_items.Goals as goal

pub returns-then-items-parts : goal.returns-then-items-parts
returns-then-items-parts c =
    (λ f. absurd (false≢true f), λ all. absurd (c.if-items-parts.true (ap (λ (xs : List Item). length xs) all ∙ ones_count (seen c.args.held.now) c.args.parts.now c.requires)))

pub returns-then-not-is_part : goal.returns-then-not-is_part
returns-then-not-is_part c =
    let lt : c.loop-index.index < length c.args.parts.now = omega arith in (
      λ f. absurd (false≢true f),
      λ all. absurd (not_alike (seen c.args.held.now) c.args.items.now c.args.parts.now c.loop-index.index c.index-items-index.result first_part
          c.loop-index-test.true lt
          (λ one. false≢true (sym c.if-not-is_part.true ∙ c.is_part.ensures.1 (one ∙ ap (λ (x : Item). x ∷ []) (sym c.index-items-index.is))))
          c.requires c.loop-index.invariant all),
    )

pub loop-index-init : goal.loop-index-init
loop-index-init c = alike_at_start (seen c.args.held.now) c.args.items.now c.args.parts.now

pub loop-index-preserved : goal.loop-index-preserved
loop-index-preserved c =
    let lt : c.loop-index.index < length c.args.parts.now = omega arith in
    alike_next (seen c.args.held.now) c.args.items.now c.args.parts.now c.loop-index.index c.index-items-index.result first_part c.loop-index-test.true lt
    (c.is_part.ensures.0 c.if-not-is_part.false ∙ ap (λ (x : Item). x ∷ []) c.index-items-index.is) c.loop-index.invariant

pub returns : goal.returns
returns c = (
  λ t. alike_end (seen c.args.held.now) c.args.items.now c.args.parts.now c.loop-index.index
      (drop_all c.loop-index.index c.args.items.now (omega arith)) (drop_all c.loop-index.index c.args.parts.now (omega arith)) c.loop-index.invariant,
  λ all. refl,
)
