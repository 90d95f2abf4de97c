-- Steps of the loops that describe an event.
use Rattle.std.proofs.Common.{◌≡◌, ℕ, suc, ◌+◌, ◌-◌, ◌<◌, Bool, true, false, List, take, ◌∷◌, length, drop, reverse, get_or, refl, ap, sym, ◌∙◌, arith}
use Rattle.std.specs.Prelude.{◌||◌, cond, not, take_while}
use Rattle.std.specs.List.{list_any, prefix_len}
use Rattle.std.proofs.lemmas.List.{drop_more, get_or-reverse, length-reverse}
use Rattle.ppd_ast.specs.declared.program.Program.{Program}
use Rattle.ppd_ast.specs.Lookups.{kind_of}
use Rattle.ppd_sem.specs.declared.proc.Todo.{Todo}
use Rattle.ppd_sem.specs.Described.{ends_body, is_in_loop}
use Rattle.ppd_sem.proofs.EventWords.{top_todo}

-- ---- what is to do, from its top

drop_top : (items : List Todo) (i n : ℕ) (d : Todo) → n ≡ length items → i < n → drop i (reverse items) ≡ get_or items (n - 1 - i) d ∷ drop (i + 1) (reverse items)
drop_top items i n d e lt =
    let inside : i < length (reverse items) = omega (arith, length-reverse items) in
    let there : length items - 1 - i ≡ n - 1 - i = omega arith in
    let top : get_or (reverse items) i d ≡ get_or items (n - 1 - i) d = get_or-reverse items i d (omega arith) ∙ ap (λ k. get_or items k d) there in
    drop_more (reverse items) i d inside ∙ ap (λ x. x ∷ drop (i + 1) (reverse items)) top

pub ends_here : (program : Program) (t : Todo) (ts : List Todo) → ends_body (kind_of program t.stmt) ≡ true → is_in_loop program (t ∷ ts) ≡ false
ends_here program t ts e = rw e refl

cons_while : (f : Todo → Bool) (t : Todo) (ts : List Todo) → f t ≡ true → take_while f (t ∷ ts) ≡ t ∷ take_while f ts
cons_while f t ts e =
    let more : 1 + prefix_len f ts ≡ suc (prefix_len f ts) = omega arith in
    ap (λ b. take (cond b (1 + prefix_len f ts) 0) (t ∷ ts)) e ∙ ap (λ n. take n (t ∷ ts)) more

goes_on : (program : Program) (t : Todo) (ts : List Todo) → ends_body (kind_of program t.stmt) ≡ false → is_in_loop program (t ∷ ts) ≡ list_any (λ t. t.entered) (t ∷ top_todo program ts)
goes_on program t ts e =
    ap (list_any (λ t. t.entered)) (cons_while (λ t. not (ends_body (kind_of program t.stmt))) t ts (ap not e))

pub runs_here : (program : Program) (t : Todo) (ts : List Todo) → ends_body (kind_of program t.stmt) ≡ false → t.entered ≡ true → is_in_loop program (t ∷ ts) ≡ true
runs_here program t ts e g = goes_on program t ts e ∙ ap (λ b. b || list_any (λ t. t.entered) (top_todo program ts)) g

pub runs_below : (program : Program) (t : Todo) (ts : List Todo) → ends_body (kind_of program t.stmt) ≡ false → t.entered ≡ false → is_in_loop program (t ∷ ts) ≡ is_in_loop program ts
runs_below program t ts e g = goes_on program t ts e ∙ ap (λ b. b || list_any (λ t. t.entered) (top_todo program ts)) g

pub next_top : (program : Program) (items todo : List Todo) (i n : ℕ) (t : Todo) → reverse items ≡ todo → n ≡ length items → i < n → t ≡ get_or items (n - 1 - i) t → is_in_loop program (drop i todo) ≡ is_in_loop program (t ∷ drop (i + 1) todo)
next_top program items todo i n t v e lt is =
    ap (λ l. is_in_loop program (drop i l)) (sym v) ∙ ap (is_in_loop program) (drop_top items i n t e lt) ∙
    ap (λ x. is_in_loop program (x ∷ drop (i + 1) (reverse items))) (sym is) ∙ ap (λ l. is_in_loop program (t ∷ drop (i + 1) l)) v
