use Rattle.std.specs.Borrow.{Bor}
use Rattle.std.proofs.Common.{◌≡◌, ◌∙◌, get_or, ◌≤◌, ◌<◌, ℕ, List, [], ◌∷◌, ap, length, map, arith, refl, rules}
use Rattle.ppd_ast.specs.declared.program.Program.{Program}
use Rattle.ppd_session.specs.Questions.{asked as asked_of}
use Rattle.ppd_session.specs.declared.question.Question.{Question}
use Rattle.ppd_session.specs.declared.question.Question.TheVariants as ask
use Rattle.ppd_session.proofs.question.asked.Goals as goal
use Rattle.std.proofs.lemmas.Grind.{common_steps}

too_many : (p : Program) (ws : List (Bor (List ℕ))) → 5 ≤ length ws → ask.Unknown ≡ asked_of p (map (λ (w : Bor (List ℕ)). w.now) ws)
too_many p [] h = absurd (omega (arith, h))
too_many p (a ∷ []) h = absurd (omega (arith, h))
too_many p (a ∷ b ∷ []) h = absurd (omega (arith, h))
too_many p (a ∷ b ∷ c ∷ []) h = absurd (omega (arith, h))
too_many p (a ∷ b ∷ c ∷ d ∷ []) h = absurd (omega (arith, h))
too_many p (a ∷ b ∷ c ∷ d ∷ e ∷ ws) h = refl

pub returns-in_default : goal.returns-in_default
returns-in_default c = too_many c.args.program.now c.args.words.now c.in_default.len_at_least

pub alone-requires : goal.alone-requires
alone-requires c = search rules depth 1 fits 30

pub returns-in-empty : goal.returns-in-empty
returns-in-empty c = grind (arith, common_steps) steps 250000

pub returns-in-len1 : goal.returns-in-len1
returns-in-len1 c = grind (arith, common_steps) steps 250000

pub with_one-requires : goal.with_one-requires
with_one-requires c = search rules depth 1 fits 30

pub with_three-requires : goal.with_three-requires
with_three-requires c = search rules depth 1 fits 30

pub with_two-requires : goal.with_two-requires
with_two-requires c = search rules depth 1 fits 30

of_2 : (x : Program) (ws : List (Bor (List ℕ))) (w a d e : Bor (List ℕ)) (z : Question) → 2 ≤ length ws → length ws < 3
    → w ≡ get_or ws 0 d → a ≡ get_or ws 1 e
    → z ≡ asked_of x (w.now ∷ a.now ∷ []) → z ≡ asked_of x (map (λ (w : Bor (List ℕ)). w.now) ws)
of_2 x [] w a d e z m n i j h = absurd (omega (arith, m))
of_2 x (p ∷ []) w a d e z m n i j h = absurd (omega (arith, m))
of_2 x (p ∷ q ∷ []) w a d e z m n i j h =
    h
    ∙ ap (λ (o : Bor (List ℕ)). asked_of x (o.now ∷ a.now ∷ [])) i
    ∙ ap (λ (o : Bor (List ℕ)). asked_of x (p.now ∷ o.now ∷ [])) j
of_2 x (p ∷ q ∷ y ∷ ws) w a d e z m n i j h = absurd (omega (arith, n))

pub returns-in-len2 : goal.returns-in-len2
returns-in-len2 c =
    of_2 c.args.program.now c.args.words.now _ _ _ _ c.with_one.result
    c.in-len2.len_at_least c.in-len2.len_below refl refl c.with_one.ensures

of_3 : (x : Program) (ws : List (Bor (List ℕ))) (w a b d e f : Bor (List ℕ)) (z : Question) → 3 ≤ length ws → length ws < 4
    → w ≡ get_or ws 0 d → a ≡ get_or ws 1 e → b ≡ get_or ws 2 f
    → z ≡ asked_of x (w.now ∷ a.now ∷ b.now ∷ []) → z ≡ asked_of x (map (λ (w : Bor (List ℕ)). w.now) ws)
of_3 x [] w a b d e f z m n i j k h = absurd (omega (arith, m))
of_3 x (p ∷ []) w a b d e f z m n i j k h = absurd (omega (arith, m))
of_3 x (p ∷ q ∷ []) w a b d e f z m n i j k h = absurd (omega (arith, m))
of_3 x (p ∷ q ∷ r ∷ []) w a b d e f z m n i j k h =
    h
    ∙ ap (λ (o : Bor (List ℕ)). asked_of x (o.now ∷ a.now ∷ b.now ∷ [])) i
    ∙ ap (λ (o : Bor (List ℕ)). asked_of x (p.now ∷ o.now ∷ b.now ∷ [])) j
    ∙ ap (λ (o : Bor (List ℕ)). asked_of x (p.now ∷ q.now ∷ o.now ∷ [])) k
of_3 x (p ∷ q ∷ r ∷ y ∷ ws) w a b d e f z m n i j k h = absurd (omega (arith, n))

pub returns-in-len3 : goal.returns-in-len3
returns-in-len3 c =
    of_3 c.args.program.now c.args.words.now _ _ _ _ _ _ c.with_two.result
    c.in-len3.len_at_least c.in-len3.len_below refl refl refl c.with_two.ensures

of_4 : (x : Program) (ws : List (Bor (List ℕ))) (w a b c d e f g : Bor (List ℕ)) (z : Question) → 4 ≤ length ws → length ws < 5
    → w ≡ get_or ws 0 d → a ≡ get_or ws 1 e → b ≡ get_or ws 2 f → c ≡ get_or ws 3 g
    → z ≡ asked_of x (w.now ∷ a.now ∷ b.now ∷ c.now ∷ []) → z ≡ asked_of x (map (λ (w : Bor (List ℕ)). w.now) ws)
of_4 x [] w a b c d e f g z m n i j k l h = absurd (omega (arith, m))
of_4 x (p ∷ []) w a b c d e f g z m n i j k l h = absurd (omega (arith, m))
of_4 x (p ∷ q ∷ []) w a b c d e f g z m n i j k l h = absurd (omega (arith, m))
of_4 x (p ∷ q ∷ r ∷ []) w a b c d e f g z m n i j k l h = absurd (omega (arith, m))
of_4 x (p ∷ q ∷ r ∷ s ∷ []) w a b c d e f g z m n i j k l h =
    h
    ∙ ap (λ (o : Bor (List ℕ)). asked_of x (o.now ∷ a.now ∷ b.now ∷ c.now ∷ [])) i
    ∙ ap (λ (o : Bor (List ℕ)). asked_of x (p.now ∷ o.now ∷ b.now ∷ c.now ∷ [])) j
    ∙ ap (λ (o : Bor (List ℕ)). asked_of x (p.now ∷ q.now ∷ o.now ∷ c.now ∷ [])) k
    ∙ ap (λ (o : Bor (List ℕ)). asked_of x (p.now ∷ q.now ∷ r.now ∷ o.now ∷ [])) l
of_4 x (p ∷ q ∷ r ∷ s ∷ y ∷ ws) w a b c d e f g z m n i j k l h = absurd (omega (arith, n))

pub returns-in-len4 : goal.returns-in-len4
returns-in-len4 c =
    of_4 c.args.program.now c.args.words.now _ _ _ _ _ _ _ _ c.with_three.result
    c.in-len4.len_at_least c.in-len4.len_below refl refl refl refl c.with_three.ensures
