-- Two process states that every part's test finds equal.
use Rattle.std.proofs.Common.{◌≡◌, refl, ap, sym, ◌∙◌, Bool, List, reverse, nat_eq, int_eq, ◌&&◌, rules}
use Rattle.std.specs.Prelude.{Option, Some, None}
use Rattle.std.specs.Bool.{Decides}
use Rattle.std.specs.Option.{option_eq}
use Rattle.std.specs.Cmp.Lexicographic.{pointwise}
use Rattle.std.proofs.lemmas.Bool.Decides.{Decides-and, Decides-like, Decides-eqb, Decides-int_eq}
use Rattle.std.proofs.lemmas.Slice.Eq.{slice_eq-Decides}
use Rattle.std.proofs.lemmas.List.{reverse-reverse}
use Rattle.ppd_sem.specs.declared.proc.Frame.{Frame}
use Rattle.ppd_sem.specs.declared.proc.Proc.{Proc}
use Rattle.ppd_sem.specs.Printed.{unprinted}

pub option_decides : {A : Type 0} {E : A → A → Bool} → ((a b : A) → Decides (E a b) (a ≡ b)) → (x y : Option A) → Decides (option_eq E x y) (x ≡ y)
option_decides d None None = search rules
option_decides d None (Some b) = search rules
option_decides d (Some a) None = search rules
option_decides d (Some a) (Some b) = Decides-like _ (λ p. ap Some p) (λ p. search rules) (d a b)

pub frames_decide : (a b : Frame) → Decides (nat_eq a.body b.body && (pointwise int_eq a.cells b.cells && option_eq nat_eq a.call b.call)) (a ≡ b)
frames_decide a b =
    Decides-like _ (λ p. search rules) (λ p. (ap (λ f. f.body) p, (ap (λ f. f.cells) p, ap (λ f. f.call) p)))
    (Decides-and _ _ (Decides-eqb a.body b.body)
    (Decides-and _ _ (slice_eq-Decides Decides-int_eq a.cells b.cells _ refl) (option_decides Decides-eqb a.call b.call)))

pub stacks_decide : {A : Type 0} {E : A → A → Bool} → ((a b : A) → Decides (E a b) (a ≡ b)) → (xs ys : List A) (r : Bool) → r ≡ pointwise E xs ys → Decides r (reverse xs ≡ reverse ys)
stacks_decide d xs ys r h =
    Decides-like r (λ p. ap reverse p) (λ p. sym (reverse-reverse xs) ∙ ap reverse p ∙ reverse-reverse ys) (slice_eq-Decides d xs ys r h)

-- the parts of two process states but their prints, test by test
pub processes_decide : (a b : Proc) (r s t v : Bool) → Decides r (a.frames ≡ b.frames) → Decides s (a.todo ≡ b.todo) → t ≡ pointwise int_eq a.answers b.answers → Decides v (a.status ≡ b.status) → Decides ((((((((r && s) && t) && nat_eq a.below b.below) && nat_eq a.budget b.budget) && nat_eq a.spent b.spent) && nat_eq a.steps b.steps) && v)) (unprinted a ≡ unprinted b)
processes_decide a b r s t v h i j l =
    Decides-like _ (λ p. search rules) (λ p. (((((((ap (λ x. x.frames) p, ap (λ x. x.todo) p), ap (λ x. x.answers) p), ap (λ x. x.below) p), ap (λ x. x.budget) p), ap (λ x. x.spent) p), ap (λ x. x.steps) p), ap (λ x. x.status) p))
    (Decides-and _ _ (Decides-and _ _ (Decides-and _ _ (Decides-and _ _ (Decides-and _ _ (Decides-and _ _ (Decides-and _ _ h i)
    (slice_eq-Decides Decides-int_eq a.answers b.answers t j)) (Decides-eqb a.below b.below)) (Decides-eqb a.budget b.budget))
    (Decides-eqb a.spent b.spent)) (Decides-eqb a.steps b.steps)) l)
