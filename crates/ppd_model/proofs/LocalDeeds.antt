-- What each statement's writes do to the tags of the local cells.
use Rattle.std.proofs.Common.{◌≡◌, ℕ, zero, suc, ◌+◌, ◌-◌, ◌<◌, ◌≤◌, ℤ, pos, Bool, true, false, ◌&&◌, ◌||◌, List, [], ◌∷◌, ◌++◌, Option, Some, None, refl, ap, sym, subst, ◌∙◌, length, map, set, get_or, inl, inr, arith}
use Rattle.std.specs.Prelude.{drop, nat_eq, replicate, slice_get, slice_set, unwrap_or}
use Rattle.std.specs.List.{list_any, range_with_len}
use Rattle.std.proofs.lemmas.Bool.{both_ways, cases_Bool, cases_eq, cases_lt, eq-eqb, eqb-false, eqb-true, ne_eqb, or_cases, or_parts}
use Rattle.std.proofs.lemmas.List.{get_or-append_right, get_or-replicate, get_or-set_other, get_or-set_same, get_or_append_left, get_or_past, length-append, length-map, length-replicate, length-set}
use Rattle.std.proofs.lemmas.List.Folds.{list_any-append}
use Rattle.std.proofs.Math.Bool.{or-false}
use Rattle.ppd_ast.specs.declared.program.Body.{Body}
use Rattle.ppd_ast.specs.declared.program.Program.{Program}
use Rattle.ppd_ast.specs.Lookups.{kind_of, body_numbered, no_body}
use Rattle.ppd_sem.specs.declared.event.Access.{Access}
use Rattle.ppd_sem.specs.declared.proc.Frame.{Frame}
use Rattle.ppd_sem.specs.Process.{into_of, new_frame, receive_at, returned, on_top, top_frame, into_at, with_values}
use Rattle.ppd_sem.proofs.NeedWords.{cells_for}
use Rattle.ppd_sem.specs.Runs.{sizes}
use Rattle.ppd_sem.proofs.Kept.{length-clear}
use Rattle.ppd_model.specs.FullTrace.{Activation, Tag, all_tagged, called, tagged, tagged_into}
use Rattle.ppd_model.specs.LocalTags.{is_cell, is_into, locals}
use Rattle.ppd_model.proofs.FromEnd.{Outcome, hit, miss, past, popped, same, topped}
use Rattle.ppd_sem.specs.Reads.{local_accesses}
use Rattle.ppd_sem.proofs.Zeros.{zeros_accessed}

-- ---- tests

-- cell c of activation k is among the accesses
abbrev pub among : (frame n k c : ℕ) → List Access → Bool
among frame n k c xs = list_any (λ a. is_cell frame n k c a.spot) xs

shift : (k frame m : ℕ) → nat_eq (k + frame + 1) (suc m + frame) ≡ nat_eq k m
shift k frame m = elim (cases_eq k m) [
  | inl e ↦ eq-eqb (k + frame + 1) (suc m + frame) (omega arith) ∙ sym (eq-eqb k m e)
  | inr n ↦ ne_eqb (k + frame + 1) (suc m + frame) (λ e. n (omega arith)) ∙ sym (ne_eqb k m n)
]

shift_up : (k frame n : ℕ) → nat_eq (k + frame + 1) (n + (frame + 1)) ≡ nat_eq k n
shift_up k frame n = elim (cases_eq k n) [
  | inl e ↦ eq-eqb (k + frame + 1) (n + (frame + 1)) (omega arith) ∙ sym (eq-eqb k n e)
  | inr m ↦ ne_eqb (k + frame + 1) (n + (frame + 1)) (λ e. m (omega arith)) ∙ sym (ne_eqb k n m)
]

-- ---- shapes

pub lengths : (frames : List Frame) (acts : List Activation) → map length (locals acts) ≡ sizes frames → length acts ≡ length frames
lengths frames acts e =
    sym (length-map acts (λ x. x.tags)) ∙ sym (length-map (locals acts) length) ∙ ap length e ∙ length-map frames (λ f. length f.cells)

pub tail_is : {a b : ℕ} {xs ys : List ℕ} → a ∷ xs ≡ b ∷ ys → xs ≡ ys
tail_is e = cc

pub head_is : {a b : ℕ} {xs ys : List ℕ} → a ∷ xs ≡ b ∷ ys → a ≡ b
head_is e = cc

pub length_locals : (acts : List Activation) → length (locals acts) ≡ length acts
length_locals acts = length-map acts (λ x. x.tags)

with_heads : {a b : ℕ} {xs ys : List ℕ} → a ≡ b → xs ≡ ys → a ∷ xs ≡ b ∷ ys
with_heads e f = cc

-- ---- one cell of the top activation

-- the tags with a new one at cell d
sets_one : (a : List Tag) (d : ℕ) (me : Tag) (c : ℕ) → nat_eq d c ≡ true → c < length (set a d me) → get_or (set a d me) c None ≡ me
sets_one a d me c e lt =
    let is : d ≡ c = eqb-true d c e in
    ap (λ k. get_or (set a k me) c None) is ∙ get_or-set_same a c me None (subst (λ k. c < k) (length-set a d me) lt)

keeps_others : (a : List Tag) (d : ℕ) (me : Tag) (c : ℕ) → nat_eq d c ≡ false → get_or (set a d me) c None ≡ get_or a c None
keeps_others a d me c e = get_or-set_other a d c me None (λ is. eqb-false d c e (sym is))

pub nothing_there : (w : ℕ → ℕ → Bool) (me : Tag) → Outcome [] [] [] w me
nothing_there w me = same [] [] w me refl (λ k c lt. absurd (omega arith))

pub set_does : (frame : ℕ) (frames : List Frame) (acts : List Activation) (d : ℕ) (v : ℤ) (me : Tag) → map length (locals acts) ≡ sizes frames
    → Outcome (locals acts) (locals (tagged d me acts)) (sizes (on_top (λ cells. slice_set cells d v) frames)) (λ k c. among frame (length frames) k c (local_accesses frame d (v ∷ [])) || false) me
set_does frame [] [] d v me e = nothing_there _ me
set_does frame [] (a ∷ as') d v me e = absurd (cc)
set_does frame (f ∷ fs) [] d v me e = absurd (cc)
set_does frame (f ∷ fs) (a ∷ as') d v me e =
    let same_length : length (locals as') ≡ length fs = length_locals as' ∙ lengths fs as' (tail_is e) in
    topped (locals (a ∷ as')) (locals as') (set a.tags d me) _ _ me (λ c. nat_eq d c) (record {
      shape = with_heads (length-set a.tags d me ∙ head_is e ∙ sym (length-set f.cells d v)) (tail_is e);
      w_is = λ k c. or-false _ ∙ or-false _ ∙ ap (λ b. b && nat_eq d c) (shift k frame (length fs) ∙ ap (λ m. nat_eq k m) (sym same_length));
      under = λ k lt. miss [] a.tags (locals as') k (λ is. omega arith);
      longer = omega arith;
      sets = sets_one a.tags d me;
      keeps = λ c no. keeps_others a.tags d me c no ∙ ap (λ xs. get_or xs c None) (sym (hit [] a.tags (locals as') (length (locals as')) refl));
      same_size = λ lt. length-set a.tags d me ∙ ap length (sym (hit [] a.tags (locals as') (length (locals as')) refl));
    })

-- ---- an array of the top activation

abbrev within : ℕ → ℕ → ℕ → Bool
within base zero c = false
within base (suc n) c = within base n c || nat_eq (base + n) c

abbrev tags_cleared : ℕ → ℕ → Tag → List Tag → List Tag
tags_cleared base zero me a = a
tags_cleared base (suc n) me a = set (tags_cleared base n me a) (base + n) me

all_tagged_is : (base n : ℕ) (me : Tag) (a : Activation) (as' : List Activation) → all_tagged base n me (a ∷ as') ≡ record a { tags = tags_cleared base n me a.tags } ∷ as'
all_tagged_is base zero me a as' = refl
all_tagged_is base (suc n) me a as' = ap (λ xs. tagged (base + n) me xs) (all_tagged_is base n me a as')

all_tagged_none : (base n : ℕ) (me : Tag) → all_tagged base n me [] ≡ []
all_tagged_none base zero me = refl
all_tagged_none base (suc n) me = ap (λ xs. tagged (base + n) me xs) (all_tagged_none base n me)

length_cleared : (base n : ℕ) (me : Tag) (a : List Tag) → length (tags_cleared base n me a) ≡ length a
length_cleared base zero me a = refl
length_cleared base (suc n) me a = length-set (tags_cleared base n me a) (base + n) me ∙ length_cleared base n me a

and_or : (x y z : Bool) → ((x && y) || (x && z)) ≡ (x && (y || z))
and_or true y z = refl
and_or false y z = refl

and_false : (x : Bool) → false ≡ (x && false)
and_false true = refl
and_false false = refl

among_cleared : (frame m base n k c : ℕ) → among frame (suc m) k c (local_accesses frame base (replicate n (pos 0))) ≡ (nat_eq k m && within base n c)
among_cleared frame m base zero k c = and_false (nat_eq k m)
among_cleared frame m base (suc n) k c =
    ap (among frame (suc m) k c) (zeros_accessed frame base n)
    ∙ list_any-append (λ a. is_cell frame (suc m) k c a.spot) (local_accesses frame base (replicate n (pos 0))) (local_accesses frame (base + n) (pos 0 ∷ []))
    ∙ ap (λ b. b || among frame (suc m) k c (local_accesses frame (base + n) (pos 0 ∷ []))) (among_cleared frame m base n k c)
    ∙ ap (λ b. (nat_eq k m && within base n c) || b) (or-false _ ∙ ap (λ b. b && nat_eq (base + n) c) (shift k frame m))
    ∙ and_or (nat_eq k m) (within base n c) (nat_eq (base + n) c)

sets_all : (a : List Tag) (base n : ℕ) (me : Tag) (c : ℕ) → within base n c ≡ true → c < length a → get_or (tags_cleared base n me a) c None ≡ me
sets_all a base zero me c e lt = absurd (cc)
sets_all a base (suc n) me c e lt = elim (cases_Bool (nat_eq (base + n) c)) [
  | inl is ↦ sets_one (tags_cleared base n me a) (base + n) me c is
      (subst (λ k. c < k) (sym (length-set (tags_cleared base n me a) (base + n) me ∙ length_cleared base n me a)) lt)
  | inr other ↦ keeps_others (tags_cleared base n me a) (base + n) me c other
      ∙ elim (or_cases (within base n c) (nat_eq (base + n) c) e) [
        | inl before ↦ sets_all a base n me c before lt
        | inr is ↦ absurd (both_ways (nat_eq (base + n) c) other is)
      ]
]

keeps_rest : (a : List Tag) (base n : ℕ) (me : Tag) (c : ℕ) → within base n c ≡ false → get_or (tags_cleared base n me a) c None ≡ get_or a c None
keeps_rest a base zero me c e = refl
keeps_rest a base (suc n) me c e =
    let both : (within base n c ≡ false) × (nat_eq (base + n) c ≡ false) = or_parts (within base n c) (nat_eq (base + n) c) e in
    keeps_others (tags_cleared base n me a) (base + n) me c both.1 ∙ keeps_rest a base n me c both.0

cleared_top : (frame : ℕ) (f : Frame) (fs : List Frame) (a : Activation) (as' : List Activation) (base n : ℕ) (me : Tag) → map length (locals (a ∷ as')) ≡ sizes (f ∷ fs)
    → Outcome (locals (a ∷ as')) (tags_cleared base n me a.tags ∷ locals as') (sizes (on_top (with_values (range_with_len base n) (replicate n (pos 0))) (f ∷ fs))) (λ k c. among frame (length (f ∷ fs)) k c (local_accesses frame base (replicate n (pos 0))) || false) me
cleared_top frame f fs a as' base n me e =
    let same_length : length (locals as') ≡ length fs = length_locals as' ∙ lengths fs as' (tail_is e) in
    topped (locals (a ∷ as')) (locals as') (tags_cleared base n me a.tags) _ _ me (within base n) (record {
      shape = with_heads (length_cleared base n me a.tags ∙ head_is e ∙ sym (length-clear base n f.cells)) (tail_is e);
      w_is = λ k c. or-false _ ∙ among_cleared frame (length fs) base n k c ∙ ap (λ m. nat_eq k m && within base n c) (sym same_length);
      under = λ k lt. miss [] a.tags (locals as') k (λ is. omega arith);
      longer = omega arith;
      sets = λ c is lt. sets_all a.tags base n me c is (subst (λ k. c < k) (length_cleared base n me a.tags) lt);
      keeps = λ c no. keeps_rest a.tags base n me c no ∙ ap (λ xs. get_or xs c None) (sym (hit [] a.tags (locals as') (length (locals as')) refl));
      same_size = λ lt. length_cleared base n me a.tags ∙ ap length (sym (hit [] a.tags (locals as') (length (locals as')) refl));
    })

pub clear_does : (frame : ℕ) (frames : List Frame) (acts : List Activation) (base n : ℕ) (me : Tag) → map length (locals acts) ≡ sizes frames
    → Outcome (locals acts) (locals (all_tagged base n me acts)) (sizes (on_top (with_values (range_with_len base n) (replicate n (pos 0))) frames)) (λ k c. among frame (length frames) k c (local_accesses frame base (replicate n (pos 0))) || false) me
clear_does frame [] [] base n me e = subst (λ xs. Outcome [] (locals xs) [] (λ k c. among frame 0 k c (local_accesses frame base (replicate n (pos 0))) || false) me) (sym (all_tagged_none base n me)) (nothing_there _ me)
clear_does frame [] (a ∷ as') base n me e = absurd (cc)
clear_does frame (f ∷ fs) [] base n me e = absurd (cc)
clear_does frame (f ∷ fs) (a ∷ as') base n me e =
    subst (λ xs. Outcome (locals (a ∷ as')) (locals xs) (sizes (on_top (with_values (range_with_len base n) (replicate n (pos 0))) (f ∷ fs))) (λ k c. among frame (length (f ∷ fs)) k c (local_accesses frame base (replicate n (pos 0))) || false) me)
    (sym (all_tagged_is base n me a as')) (cleared_top frame f fs a as' base n me e)

-- ---- a call

abbrev pub no_tag : Tag
no_tag = None

-- c is among so many cells from i on
abbrev from_on : ℕ → List ℤ → ℕ → Bool
from_on i [] c = false
from_on i (v ∷ vs) c = nat_eq i c || from_on (i + 1) vs c

among_parameters : (frame n i : ℕ) (values : List ℤ) (k c : ℕ) → among frame n k c (local_accesses (frame + 1) i values) ≡ (nat_eq k n && from_on i values c)
among_parameters frame n i [] k c = and_false (nat_eq k n)
among_parameters frame n i (v ∷ vs) k c =
    ap (λ b. (b && nat_eq i c) || among frame n k c (local_accesses (frame + 1) (i + 1) vs)) (shift_up k frame n)
    ∙ ap (λ b. (nat_eq k n && nat_eq i c) || b) (among_parameters frame n (i + 1) vs k c)
    ∙ and_or (nat_eq k n) (nat_eq i c) (from_on (i + 1) vs c)

is_from_on : (i : ℕ) (vs : List ℤ) (c : ℕ) → from_on i vs c ≡ true → c < i + length vs
is_from_on i [] c e = absurd (cc)
is_from_on i (v ∷ vs) c e = elim (or_cases (nat_eq i c) (from_on (i + 1) vs c) e) [
  | inl is ↦ let same : i ≡ c = eqb-true i c is in omega arith
  | inr later ↦ let lt : c < i + 1 + length vs = is_from_on (i + 1) vs c later in omega arith
]

not_from_on : (i : ℕ) (vs : List ℤ) (c : ℕ) → i ≤ c → from_on i vs c ≡ false → i + length vs ≤ c
not_from_on i [] c le e = omega arith
not_from_on i (v ∷ vs) c le e =
    let both : (nat_eq i c ≡ false) × (from_on (i + 1) vs c ≡ false) = or_parts (nat_eq i c) (from_on (i + 1) vs c) e in
    let more : i + 1 ≤ c = elim (cases_eq i c) [ inl is ↦ absurd (eqb-false i c both.0 is) | inr other ↦ omega arith ] in
    let le2 : i + 1 + length vs ≤ c = not_from_on (i + 1) vs c more both.1 in
    omega arith

pub replicate_none : (n c : ℕ) → get_or (replicate n no_tag) c None ≡ None
replicate_none n c = elim (cases_lt c n) [
  | inl lt ↦ get_or-replicate n c None None lt
  | inr le ↦ get_or_past (replicate n None) c None (subst (λ k. k ≤ c) (sym (length-replicate n no_tag)) le)
]

length_called : (body : Option Body) (values : List ℤ) (me : Tag) → length (replicate (length values) me ++ replicate ((unwrap_or body no_body).cells - length values) None) ≡ length (cells_for body values)
length_called None values me =
    length-append (replicate (length values) me) (replicate (0 - length values) None)
    ∙ omega (arith, length-replicate (length values) me, length-replicate (0 - length values) no_tag)
length_called (Some b) values me =
    length-append (replicate (length values) me) (replicate (b.cells - length values) None)
    ∙ ap (λ k. k + length (replicate (b.cells - length values) no_tag)) (length-replicate (length values) me)
    ∙ ap (λ k. length values + k) (length-replicate (b.cells - length values) no_tag ∙ sym (length-replicate (b.cells - length values) (pos 0)))
    ∙ sym (length-append values (replicate (b.cells - length values) (pos 0)))

sets_parameters : (values : List ℤ) (rest : ℕ) (me : Tag) (c : ℕ) → from_on 0 values c ≡ true → get_or (replicate (length values) me ++ replicate rest None) c None ≡ me
sets_parameters values rest me c e =
    let lt : c < length values = let l : c < 0 + length values = is_from_on 0 values c e in omega arith in
    get_or_append_left (replicate (length values) me) (replicate rest None) None c (subst (λ k. c < k) (sym (length-replicate (length values) me)) lt)
    ∙ get_or-replicate (length values) c me None lt

others_none : (values : List ℤ) (rest : ℕ) (me : Tag) (c : ℕ) → from_on 0 values c ≡ false → get_or (replicate (length values) me ++ replicate rest None) c None ≡ None
others_none values rest me c e =
    let le : length values ≤ c = let l : 0 + length values ≤ c = not_from_on 0 values c (omega arith) e in omega arith in
    get_or-append_right (replicate (length values) me) (replicate rest None) (length values) c None (length-replicate (length values) me) le
    ∙ replicate_none rest (c - length values)

pub call_does : (program : Program) (frame : ℕ) (frames : List Frame) (acts : List Activation) (f : ℕ) (values : List ℤ) (call : Option ℕ) (me : Tag) → map length (locals acts) ≡ sizes frames
    → Outcome (locals acts) (locals (called program f (length values) me ∷ acts)) (sizes (new_frame program f values call ∷ frames)) (λ k c. among frame (length frames) k c (local_accesses (frame + 1) 0 values) || false) me
call_does program frame frames acts f values call me e =
    let same_length : length (locals acts) ≡ length frames = length_locals acts ∙ lengths frames acts e in
    let rest : ℕ = (body_numbered program f).cells - length values in
    topped (locals acts) (locals acts) (replicate (length values) me ++ replicate rest None) _ _ me (from_on 0 values) (record {
      shape = with_heads (length_called (slice_get program.bodies f) values me) e;
      w_is = λ k c. or-false _ ∙ among_parameters frame (length frames) 0 values k c ∙ ap (λ m. nat_eq k m && from_on 0 values c) (sym same_length);
      under = λ k lt. refl;
      longer = omega arith;
      sets = λ c is lt. sets_parameters values rest me c is;
      keeps = λ c no. others_none values rest me c no ∙ ap (λ xs. get_or xs c None) (sym (past [] (locals acts) (length (locals acts)) (omega arith)));
      same_size = λ lt. absurd (omega arith);
    })

-- ---- a return

shift_two : (k m : ℕ) → nat_eq (k + 2) (suc (suc m)) ≡ nat_eq k m
shift_two k m = elim (cases_eq k m) [
  | inl e ↦ eq-eqb (k + 2) (suc (suc m)) (omega arith) ∙ sym (eq-eqb k m e)
  | inr n ↦ ne_eqb (k + 2) (suc (suc m)) (λ e. n (omega arith)) ∙ sym (ne_eqb k m n)
]

and_no : (x : Bool) → (x && false) ≡ false
and_no x = sym (and_false x)

-- the frames below the one that returns, by its receiving local
back_into : (into : Option ℕ) (value : Option ℤ) (a : Activation) (fs : List Frame) (as' : List Activation) (me : Tag) → map length (locals as') ≡ sizes fs
    → Outcome (locals (a ∷ as')) (locals (tagged_into into value me as')) (sizes (receive_at into value fs)) (λ k c. nat_eq (k + 2) (suc (length fs)) && is_into into value c) me
back_into None value a fs as' me e = popped a.tags (locals as') (sizes fs) _ me e (λ k c lt. and_no _)
back_into (Some d) None a fs as' me e = popped a.tags (locals as') (sizes fs) _ me e (λ k c lt. and_no _)
back_into (Some d) (Some v) a [] [] me e = popped a.tags [] [] _ me refl (λ k c lt. absurd (omega arith))
back_into (Some d) (Some v) a [] (b ∷ bs) me e = absurd (cc)
back_into (Some d) (Some v) a (f ∷ fs) [] me e = absurd (cc)
back_into (Some d) (Some v) a (f ∷ fs) (b ∷ bs) me e =
    let same_length : length (locals bs) ≡ length fs = length_locals bs ∙ lengths fs bs (tail_is e) in
    topped (locals (a ∷ b ∷ bs)) (locals bs) (set b.tags d me) _ _ me (λ c. nat_eq d c) (record {
      shape = with_heads (length-set b.tags d me ∙ head_is e ∙ sym (length-set f.cells d v)) (tail_is e);
      w_is = λ k c. ap (λ t. t && nat_eq d c) (shift_two k (length fs) ∙ ap (λ m. nat_eq k m) (sym same_length));
      under = λ k lt. miss [] a.tags (locals (b ∷ bs)) k (λ is. omega arith) ∙ miss [] b.tags (locals bs) k (λ is. omega arith);
      longer = omega arith;
      sets = sets_one b.tags d me;
      keeps = λ c no. keeps_others b.tags d me c no
          ∙ ap (λ xs. get_or xs c None) (sym (miss [] a.tags (locals (b ∷ bs)) (length (locals bs)) (λ is. omega arith) ∙ hit [] b.tags (locals bs) (length (locals bs)) refl));
      same_size = λ lt. length-set b.tags d me
          ∙ ap length (sym (miss [] a.tags (locals (b ∷ bs)) (length (locals bs)) (λ is. omega arith) ∙ hit [] b.tags (locals bs) (length (locals bs)) refl));
    })

back_by : (program : Program) (call : Option ℕ) (value : Option ℤ) (a : Activation) (fs : List Frame) (as' : List Activation) (me : Tag) → map length (locals as') ≡ sizes fs
    → Outcome (locals (a ∷ as')) (locals (tagged_into (into_at program call) value me as')) (sizes (receive_at (into_at program call) value fs)) (λ k c. nat_eq (k + 2) (suc (length fs)) && is_into (into_at program call) value c) me
back_by program None value a fs as' me e = back_into None value a fs as' me e
back_by program (Some c) value a fs as' me e = back_into (into_of (kind_of program c)) value a fs as' me e

pub back_does : (program : Program) (frames : List Frame) (acts : List Activation) (value : Option ℤ) (me : Tag) → map length (locals acts) ≡ sizes frames
    → Outcome (locals acts) (locals (tagged_into (into_at program (top_frame frames).call) value me (drop 1 acts))) (sizes (returned program value frames))
    (λ k c. nat_eq (k + 2) (length frames) && is_into (into_at program (top_frame frames).call) value c) me
back_does program [] [] value me e = nothing_there _ me
back_does program [] (a ∷ as') value me e = absurd (cc)
back_does program (f ∷ fs) [] value me e = absurd (cc)
back_does program (f ∷ fs) (a ∷ as') value me e = back_by program f.call value a fs as' me (tail_is e)
