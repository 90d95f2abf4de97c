use Rattle.std.proofs.Common.{◌≡◌, ◌+◌, List, [], ◌∷◌, ◌++◌, ap, sym, ◌∙◌, arith, flat_map, length}
use Rattle.std.proofs.lemmas.List.{append_assoc, append-nil, length_push}
use Rattle.ppd_race.proofs.search.joined.Goals as goal

one_more : {A : Type 0} (parts : List (List A)) (x : List A) → flat_map (λ part. part) parts ++ x ≡ flat_map (λ part. part) (parts ++ x ∷ [])
one_more [] x = sym (append-nil x)
one_more (part ∷ parts) x = append_assoc part (flat_map (λ p. p) parts) x ∙ ap (λ rest. part ++ rest) (one_more parts x)

added : {A : Type 0} (parts : List (List A)) (x taken before after : List A) → after ≡ before ++ taken → taken ≡ x → before ≡ flat_map (λ part. part) parts → after ≡ flat_map (λ part. part) (parts ++ x ∷ [])
added parts x taken before after is same all = is ∙ ap (λ xs. before ++ xs) same ∙ ap (λ xs. xs ++ x) all ∙ one_more parts x

pub loop-part-preserved : goal.loop-part-preserved
loop-part-preserved g c =
    let long = length_push c.loop-part.yielded c.in-Some.part in
    record {
      joined = added c.loop-part.yielded c.in-Some.part c.into_vec.result.items c.loop-part.races c.append.new.self c.in_ok-append.ensures.ok c.into_vec.ensures c.loop-part.invariant.joined;
      spent = omega (arith, long, c.tick.ensures, c.loop-part.invariant.spent);
    }
