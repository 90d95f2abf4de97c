-- Synchronizations that are one are equal.
use Rattle.std.proofs.Common.{◌≡◌, refl, ap, sym, ◌∙◌, eqb-true, eq-eqb, true≢false, nat_eq, ◌&&◌}
use Rattle.std.specs.Prelude.{IsTrue}
use Rattle.std.proofs.lemmas.Bool.{and_from, and_parts}
use Rattle.ppd_ast.specs.declared.status.SyncKind.{SyncKind}
use Rattle.ppd_ast.specs.declared.status.SyncKind.TheVariants.{P, V, Send, Recv, Done}
use Rattle.ppd_model.specs.Entries.{same_kind}
use Rattle.ppd_model.specs.Numbers.{sync}
use Rattle.ppd_model.specs.SameSyncs.{same_sync}
use Rattle.ppd_model.specs.Synchronizations.{Sync}

pub same_kind_is : (a b : SyncKind) → IsTrue (same_kind a b) → a ≡ b
same_kind_is P P h = refl
same_kind_is V V h = refl
same_kind_is Send Send h = refl
same_kind_is Recv Recv h = refl
same_kind_is Done Done h = refl
same_kind_is a b h = absurd (true≢false (sym h))

pub same_kind_self : (a : SyncKind) → IsTrue (same_kind a a)
same_kind_self P = refl
same_kind_self V = refl
same_kind_self Send = refl
same_kind_self Recv = refl
same_kind_self Done = refl

pub same_is : (a b : Sync) → IsTrue (same_sync a b) → a ≡ b
same_is a b h =
    let two = and_parts (same_kind a.kind b.kind && nat_eq a.object b.object) (nat_eq a.number b.number) h in
    let one = and_parts (same_kind a.kind b.kind) (nat_eq a.object b.object) two.0 in
    ap (λ k. sync k a.object a.number) (same_kind_is a.kind b.kind one.0) ∙ ap (λ o. sync b.kind o a.number) (eqb-true a.object b.object one.1) ∙ ap (sync b.kind b.object) (eqb-true a.number b.number two.1)

pub same_self : (a : Sync) → IsTrue (same_sync a a)
same_self a = and_from (same_kind a.kind a.kind && nat_eq a.object a.object) (nat_eq a.number a.number) (and_from (same_kind a.kind a.kind) (nat_eq a.object a.object) (same_kind_self a.kind) (eq-eqb a.object a.object refl)) (eq-eqb a.number a.number refl)
