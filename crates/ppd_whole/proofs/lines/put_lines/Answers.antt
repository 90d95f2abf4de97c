use Rattle.std.proofs.lemmas.Grind.{common_steps}
use Rattle.std.proofs.Common.{◌≡◌, ℕ, suc, ◌+◌, ◌<◌, ◌≤◌, List, ◌∷◌, ◌++◌, add-one, ap, arith, append_assoc, drop, drop-cons, get_or, length, map, sym, ◌∙◌, rules}
use Rattle.std.specs.List.{sum_by}
use Rattle.std.proofs.lemmas.List.Sums.{sum_by-cons}
use Rattle.ppd_sem.specs.declared.event.Event.{Event}
use Rattle.ppd_flow_past.specs.declared.past.Past.{Past}
use Rattle.ppd_whole_link.specs.declared.linker.Linker.{Linker}
use Rattle.ppd_whole_link.specs.Linkers.{link}
use Rattle.ppd_whole.specs.Costs.{event_cost}
use Rattle.ppd_whole.specs.Told.{told_line, told_lines}
use Rattle.ppd_whole.proofs.lines.put_lines.Goals as goal

-- from number i on there is the item of number i, and those after it
rest_at : {A : Type 0} (xs : List A) (i : ℕ) (x : A) → i < length xs → x ≡ get_or xs i x → drop i xs ≡ x ∷ drop (i + 1) xs
rest_at xs i x h is = drop-cons xs i x h ∙ (ap (λ y. y ∷ drop (suc i) xs) (sym is) ∙ ap (λ n. x ∷ drop n xs) (sym (add-one i)))

module _ {A : Type 0} (f : A → Event) (past : Past) (es : List A) (n : ℕ) (e : A) (lt : n < length es) (is : e ≡ get_or es n e) where
  told_next : (p : ℕ) (x y : Linker) (t after whole : List ℕ) → y ≡ link past.program.now p x (f e) → after ≡ t ++ told_line past p x n (f e)
      → t ++ told_lines past p x n (map f (drop n es)) ≡ whole → after ++ told_lines past p y (n + 1) (map f (drop (n + 1) es)) ≡ whole
  told_next p x y t after whole linked told so =
      let line : List ℕ = told_line past p x n (f e) in
      ap (λ l. l ++ told_lines past p y (n + 1) (map f (drop (n + 1) es))) told
      ∙ append_assoc t line (told_lines past p y (n + 1) (map f (drop (n + 1) es)))
      ∙ ap (λ z. t ++ (line ++ told_lines past p z (n + 1) (map f (drop (n + 1) es)))) linked
      ∙ ap (λ l. t ++ told_lines past p x n (map f l)) (sym (rest_at es n e lt is)) ∙ so

  spent_next : (cost : Event → ℕ) (s after bound : ℕ) → after ≤ s + cost (f e) → s + sum_by cost (map f (drop n es)) ≤ bound
      → after + sum_by cost (map f (drop (n + 1) es)) ≤ bound
  spent_next cost s after bound spent so =
      let here = ap (λ l. sum_by cost (map f l)) (rest_at es n e lt is) in
      omega (arith, here, sum_by-cons cost (f e) (map f (drop (n + 1) es)), spent, so)

pub loop-n-preserved : goal.loop-n-preserved
loop-n-preserved g c =
    let past : Past = c.args.linked.now.past.now in
    let lt : c.loop-n.n < length c.args.events.now = omega (arith, c.loop-n-test.true) in
    record {
      text = told_next (λ e. e.now) past c.args.events.now c.loop-n.n c.index-events-n.result lt c.index-events-n.is c.args.process
          c.loop-n.linker c.add.new.self c.loop-n.text.items c.put_line.new.text.items _ c.in_ok-add.ensures c.in_ok-put_line.ensures.text
          c.loop-n.invariant.text;
      spent = spent_next (λ e. e.now) past c.args.events.now c.loop-n.n c.index-events-n.result lt c.index-events-n.is (event_cost past)
          c.loop-n.steps c.put_line.new.steps _ c.in_ok-put_line.ensures.cost c.loop-n.invariant.spent;
    }

pub add-requires : goal.add-requires
add-requires c = search rules depth 1 fits 30

pub allocator-alloc-requires : goal.allocator-alloc-requires
allocator-alloc-requires c = search rules depth 1 fits 30

pub loop-n-init : goal.loop-n-init
loop-n-init c = search rules depth 1 fits 30

pub loop-n-smaller : goal.loop-n-smaller
loop-n-smaller c = grind (arith, common_steps) steps 250000

pub put_line-requires : goal.put_line-requires
put_line-requires c = search rules depth 1 fits 30

pub returns : goal.returns
returns c = grind (arith, common_steps) steps 250000
