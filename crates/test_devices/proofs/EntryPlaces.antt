-- Finding and putting entries, by the place where a name stands, and what each leaves.
use Rattle.std.specs.Prelude.{true, false, None, Some, if◌then◌else◌}
use Rattle.std.specs.Str.{bytes_eq}
use Rattle.std.proofs.Common.{◌≡◌, ◌≢◌, ℕ, suc, ◌+◌, ◌<◌, ◌≤◌, List, [], ◌∷◌, ◌++◌, length, drop, get_or, set, map, arith, refl, ap, sym, subst, ◌∙◌, add-one, drop-cons}
use Rattle.std.proofs.lemmas.List.{drop_all, get_or-map, length-map, map-append, map-set}
use Rattle.std.proofs.lemmas.Slice.Eq.{bytes_eq-Decides}
use Rattle.test_devices.specs.Entries.{find_entry, put_entry, place_of}

-- a walk over the entries, by what each one shows
module _ (X : Type 0) (f : X → List ℕ × List ℕ) (name : List ℕ) where
  pub place_found : (xs : List X) (i : ℕ) (e : X) → i < length xs → e ≡ get_or xs i e → bytes_eq (f e).0 name ≡ true → place_of (map f (drop i xs)) name ≡ 0
  place_found xs i e lt is t =
      let P : X → Type 0 = λ x. bytes_eq (f x).0 name ≡ true in
      let here : bytes_eq (f (get_or xs i e)).0 name ≡ true = subst P is t in
      rw (drop-cons xs i e lt, here)

  pub place_passes : (xs : List X) (i : ℕ) (e : X) → i < length xs → e ≡ get_or xs i e → bytes_eq (f e).0 name ≡ false → place_of (map f (drop i xs)) name ≡ place_of (map f (drop (i + 1) xs)) name + 1
  place_passes xs i e lt is t =
      let P : X → Type 0 = λ x. bytes_eq (f x).0 name ≡ false in
      let here : bytes_eq (f (get_or xs i e)).0 name ≡ false = subst P is t in
      rw (drop-cons xs i e lt, here, add-one i) (sym (add-one _))

  pub place_end : (xs : List X) (i : ℕ) → length xs ≤ i → place_of (map f (drop i xs)) name ≡ 0
  place_end xs i le = rw (drop_all i xs le)

pub find_at_place : (es : List (List ℕ × List ℕ)) (name : List ℕ) (d : List ℕ × List ℕ) → place_of es name < length es → find_entry es name ≡ Some (get_or es (place_of es name) d).1
find_at_place [] name d = λ lt. absurd (omega arith)
find_at_place (e ∷ es) name d =
    elim (bytes_eq e.0 name) as (λ v. (if v then 0 else suc (place_of es name)) < suc (length es) → (if v then Some e.1 else find_entry es name) ≡ Some (get_or (e ∷ es) (if v then 0 else suc (place_of es name)) d).1) [
      | true ↦ λ _. refl
      | false ↦ λ lt. find_at_place es name d (omega arith)
    ]

pub find_none : (es : List (List ℕ × List ℕ)) (name : List ℕ) → length es ≤ place_of es name → find_entry es name ≡ None
find_none [] name = λ le. refl
find_none (e ∷ es) name =
    elim (bytes_eq e.0 name) as (λ v. suc (length es) ≤ (if v then 0 else suc (place_of es name)) → (if v then Some e.1 else find_entry es name) ≡ None) [
      | true ↦ λ le. absurd (omega arith)
      | false ↦ λ le. find_none es name (omega arith)
    ]

pub put_at_place : (es : List (List ℕ × List ℕ)) (name bytes : List ℕ) (d : List ℕ × List ℕ) → place_of es name < length es → put_entry es name bytes ≡ set es (place_of es name) ((get_or es (place_of es name) d).0, bytes)
put_at_place [] name bytes d = λ lt. absurd (omega arith)
put_at_place (e ∷ es) name bytes d =
    elim (bytes_eq e.0 name) as (λ v. (if v then 0 else suc (place_of es name)) < suc (length es) → (if v then (e.0, bytes) ∷ es else e ∷ put_entry es name bytes) ≡ set (e ∷ es) (if v then 0 else suc (place_of es name)) ((get_or (e ∷ es) (if v then 0 else suc (place_of es name)) d).0, bytes)) [
      | true ↦ λ _. refl
      | false ↦ λ lt. ap (λ w. e ∷ w) (put_at_place es name bytes d (omega arith))
    ]

pub put_at_end : (es : List (List ℕ × List ℕ)) (name bytes : List ℕ) → length es ≤ place_of es name → put_entry es name bytes ≡ es ++ (name, bytes) ∷ []
put_at_end [] name bytes = λ le. refl
put_at_end (e ∷ es) name bytes =
    elim (bytes_eq e.0 name) as (λ v. suc (length es) ≤ (if v then 0 else suc (place_of es name)) → (if v then (e.0, bytes) ∷ es else e ∷ put_entry es name bytes) ≡ e ∷ es ++ (name, bytes) ∷ []) [
      | true ↦ λ le. absurd (omega arith)
      | false ↦ λ le. ap (λ w. e ∷ w) (put_at_end es name bytes (omega arith))
    ]

-- what was put is found
pub find-put_same : (es : List (List ℕ × List ℕ)) (name bytes : List ℕ) → find_entry (put_entry es name bytes) name ≡ Some bytes
find-put_same [] name bytes =
    let d = bytes_eq-Decides name name in
    let same : bytes_eq name name ≡ true = d.1 refl in
    rw same
find-put_same (e ∷ es) name bytes =
    elim (bytes_eq e.0 name) as (λ v. bytes_eq e.0 name ≡ v → find_entry (if v then (e.0, bytes) ∷ es else e ∷ put_entry es name bytes) name ≡ Some bytes) [
      | true ↦ λ h. rw h
      | false ↦ λ h. rw h (find-put_same es name bytes)
    ] refl

-- under any other name, what was there
pub find-put_other : (es : List (List ℕ × List ℕ)) (name bytes other : List ℕ) → other ≢ name → find_entry (put_entry es name bytes) other ≡ find_entry es other
find-put_other [] name bytes other ne =
    elim (bytes_eq name other) as (λ v. bytes_eq name other ≡ v → (if v then Some bytes else None) ≡ None) [
      | true ↦ λ h. let d = bytes_eq-Decides name other in absurd (ne (sym (d.0 h)))
      | false ↦ λ h. refl
    ] refl
find-put_other (e ∷ es) name bytes other ne =
    elim (bytes_eq e.0 name) as (λ v. bytes_eq e.0 name ≡ v → find_entry (if v then (e.0, bytes) ∷ es else e ∷ put_entry es name bytes) other ≡ (if bytes_eq e.0 other then Some e.1 else find_entry es other)) [
      | true ↦ λ h. elim (bytes_eq e.0 other) as (λ w. bytes_eq e.0 other ≡ w → (if w then Some bytes else find_entry es other) ≡ (if w then Some e.1 else find_entry es other)) [
        | true ↦ λ k. let a = bytes_eq-Decides e.0 name in let b = bytes_eq-Decides e.0 other in absurd (ne (sym (b.0 k) ∙ a.0 h))
        | false ↦ λ k. refl
      ] refl
      | false ↦ λ h. ap (λ r. if bytes_eq e.0 other then Some e.1 else r) (find-put_other es name bytes other ne)
    ] refl

-- the same of what the entries show: the list es is what the items xs show by f, and the name stands at i
module _ (X : Type 0) (f : X → List ℕ × List ℕ) (name : List ℕ) (xs : List X) (es : List (List ℕ × List ℕ)) (i : ℕ) where
  place_within : map f xs ≡ es → i ≡ place_of es name → i < length xs → place_of es name < length es
  place_within v p lt = omega (arith, ap length v, length-map xs f)

  shown_at_place : (e : X) → map f xs ≡ es → i ≡ place_of es name → i < length xs → e ≡ get_or xs i e → get_or es (place_of es name) (f e) ≡ f e
  shown_at_place e v p lt is = rw (← p, ← v) (get_or-map f xs i e (f e) lt ∙ ap f (sym is))

  pub find_shown : (e : X) → map f xs ≡ es → i ≡ place_of es name → i < length xs → e ≡ get_or xs i e → find_entry es name ≡ Some (f e).1
  find_shown e v p lt is =
      find_at_place es name (f e) (place_within v p lt) ∙ ap (λ x. Some x.1) (shown_at_place e v p lt is)

  pub find_missing : map f xs ≡ es → i ≡ place_of es name → length xs ≤ i → find_entry es name ≡ None
  find_missing v p le = find_none es name (omega (arith, ap length v, length-map xs f))

  pub put_shown : (e e' : X) (bytes : List ℕ) → map f xs ≡ es → i ≡ place_of es name → i < length xs → e ≡ get_or xs i e → f e' ≡ ((f e).0, bytes) → map f (set xs i e') ≡ put_entry es name bytes
  put_shown e e' bytes v p lt is new =
      let old = put_at_place es name bytes (f e) (place_within v p lt) in
      let here : f e' ≡ ((get_or es (place_of es name) (f e)).0, bytes) =
      new ∙ ap (λ x. (x.0, bytes)) (sym (shown_at_place e v p lt is)) in
      let moved : set (map f xs) i (f e') ≡ set es (place_of es name) ((get_or es (place_of es name) (f e)).0, bytes) = cc in
      map-set f xs i e' ∙ (moved ∙ sym old)

  pub put_new : (e' : X) (bytes : List ℕ) → map f xs ≡ es → i ≡ place_of es name → length xs ≤ i → f e' ≡ (name, bytes) → map f (xs ++ e' ∷ []) ≡ put_entry es name bytes
  put_new e' bytes v p le new =
      let old = put_at_end es name bytes (omega (arith, ap length v, length-map xs f)) in
      let moved : map f xs ++ f e' ∷ [] ≡ es ++ (name, bytes) ∷ [] = cc in
      map-append f xs (e' ∷ []) ∙ (moved ∙ sym old)
