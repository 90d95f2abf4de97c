use Rattle.std.specs.Borrow.{Bor}
use Rattle.std.specs.Prelude.{filter}
use Rattle.std.proofs.Common.{◌≡◌, ◌∙◌, ◌<◌, ◌+◌, ◌++◌, ◌∷◌, [], List, ℕ, ap, arith, get_or, length, map, refl, rules, sym, take}
use Rattle.std.proofs.lemmas.Grind.{common_steps}
use Rattle.std.proofs.lemmas.List.{map-append, take_more}
use Rattle.std.proofs.lemmas.List.Elements.{filter-append}
use Rattle.ppd_session.specs.Questions.{is_word}
use Rattle.ppd_session.proofs.words.words_among.Goals as goal

-- what the parts refer to
abbrev shown : List (Bor (List ℕ)) → List (List ℕ)
shown xs = map (λ (w : Bor (List ℕ)). w.now) xs

one_more : (xs : List (Bor (List ℕ))) (i : ℕ) (x d : Bor (List ℕ)) (now new : List (List ℕ)) → i < length xs → x ≡ get_or xs i d
    → now ≡ filter is_word (shown (take i xs)) → new ≡ now ++ filter is_word (x.now ∷ []) → new ≡ filter is_word (shown (take (i + 1) xs))
one_more xs i x d now new lt is a b =
    let more : filter is_word (shown (take (i + 1) xs)) ≡ filter is_word (shown (take i xs)) ++ filter is_word (x.now ∷ []) =
    ap (λ ys. filter is_word (shown ys)) (take_more xs i d lt)
    ∙ (ap (λ ys. filter is_word ys) (map-append (λ (w : Bor (List ℕ)). w.now) (take i xs) (get_or xs i d ∷ []))
    ∙ (filter-append is_word (shown (take i xs)) (shown (get_or xs i d ∷ []))
    ∙ ap (λ (y : Bor (List ℕ)). filter is_word (shown (take i xs)) ++ filter is_word (y.now ∷ [])) (sym is))) in
    b ∙ (ap (λ w. w ++ filter is_word (x.now ∷ [])) a ∙ sym more)

pub loop-part-preserved : goal.loop-part-preserved
loop-part-preserved c =
    one_more c.args.parts.now c.loop-part.part-index _ _ (shown c.loop-part.words.items)
    (shown c.push_word.new.words.items) c.loop-part-test.true refl c.loop-part.invariant c.in_ok-push_word.ensures

pub branch-push_word-requires : goal.branch-push_word-requires
branch-push_word-requires c = search rules depth 1 fits 30

pub drop-words-requires : goal.drop-words-requires
drop-words-requires c = search rules depth 1 fits 30

pub from_residual-requires : goal.from_residual-requires
from_residual-requires c = search rules depth 1 fits 30

pub loop-part-init : goal.loop-part-init
loop-part-init c = search rules depth 1 fits 30

pub loop-part-smaller : goal.loop-part-smaller
loop-part-smaller c = search rules depth 1 fits 30

pub new-words-requires : goal.new-words-requires
new-words-requires c = search rules depth 1 fits 30

pub push_word-requires : goal.push_word-requires
push_word-requires c = search rules depth 1 fits 30

pub returns : goal.returns
returns c = grind (arith, common_steps) steps 250000

pub returns-in_err-push_word : goal.returns-in_err-push_word
returns-in_err-push_word c = grind (arith, common_steps) steps 250000
