use Rattle.std.specs.List.{flat_map}
use Rattle.std.proofs.Common.{◌≡◌, ◌∙◌, ◌<◌, ◌+◌, ◌++◌, ◌∷◌, [], List, ℕ, ap, append-nil, append_assoc, arith, get_or, length, refl, rules, sym, take}
use Rattle.std.proofs.lemmas.Grind.{common_steps, flat_map-append}
use Rattle.std.proofs.lemmas.List.{take_more}
use Rattle.ppd_session.specs.Texts.{race_line}
use Rattle.ppd_session.proofs.races.put_lines.Goals as goal

one_more : {X : Type 0} (f : X → List ℕ) (xs : List X) (i : ℕ) (x d : X) (old now new : List ℕ) → i < length xs → x ≡ get_or xs i d
    → now ≡ old ++ flat_map f (take i xs) → new ≡ now ++ f x → new ≡ old ++ flat_map f (take (i + 1) xs)
one_more f xs i x d old now new lt is a b =
    let more : flat_map f (take (i + 1) xs) ≡ flat_map f (take i xs) ++ f x =
    ap (flat_map f) (take_more xs i d lt)
    ∙ (flat_map-append f (take i xs) (get_or xs i d ∷ [])
    ∙ ap (λ w. flat_map f (take i xs) ++ w) (append-nil (f (get_or xs i d)) ∙ ap f (sym is))) in
    b ∙ (ap (λ w. w ++ f x) a ∙ (append_assoc old (flat_map f (take i xs)) (f x) ∙ ap (λ w. old ++ w) (sym more)))

pub loop-race-preserved : goal.loop-race-preserved
loop-race-preserved c =
    one_more (race_line c.args.program.now) c.args.races.now c.loop-race.race-index _ _
    c.args.text.now.items c.loop-race.text.items c.put_race.new.text.items c.loop-race-test.true refl
    c.loop-race.invariant c.in_ok-put_race.ensures

pub branch-put_race-requires : goal.branch-put_race-requires
branch-put_race-requires c = search rules depth 1 fits 30

pub from_residual-requires : goal.from_residual-requires
from_residual-requires c = search rules depth 1 fits 30

pub loop-race-init : goal.loop-race-init
loop-race-init c = search rules depth 1 fits 30

pub loop-race-smaller : goal.loop-race-smaller
loop-race-smaller c = search rules depth 1 fits 30

pub put_race-requires : goal.put_race-requires
put_race-requires c = search rules depth 1 fits 30

pub returns : goal.returns
returns c = grind (arith, common_steps) steps 250000

pub returns-in_err-put_race : goal.returns-in_err-put_race
returns-in_err-put_race c = grind (arith, common_steps) steps 250000
