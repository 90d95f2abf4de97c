-- Functions and processes one after another, and one of them from its parts.
use Rattle.std.proofs.Common.{◌≡◌, refl, sym, ap, subst, ◌∙◌, ℕ, suc, ◌+◌, ◌<◌, ◌≤◌, arith, Bool, List, [], ◌∷◌, ◌++◌, map, take, length, get_or, None}
use Rattle.std.specs.List.{flat_map}
use Rattle.std.proofs.lemmas.List.{append_assoc, length-append, map-append, length-map, take_more, take_all}
use Rattle.std.proofs.lemmas.List.Concat.{flat_map-append, flat_map-cons}
use Rattle.ppd_ast.specs.declared.program.Body.{Body}
use Rattle.ppd_ast.specs.declared.program.Stmt.{Stmt}
use Rattle.ppd_parse.specs.declared.node.Node.{Node}
use Rattle.ppd_check_names.specs.declared.writer.Writer.{Writer}
use Rattle.ppd_check.specs.Bodies.{WroteHeads}
use Rattle.ppd_check_stmts.specs.Code.{Code, count}
use Rattle.ppd_check_names.specs.Faults.{first, first_of_both}
use Rattle.ppd_check_names.specs.Fitted.{fitted}
use Rattle.ppd_check_names.specs.Holding.{head_at, head_said, IsHeadAt}
use Rattle.ppd_check_names.specs.Names.{Scope}
use Rattle.ppd_check_names.specs.Nodes.{phrases_below}
use Rattle.ppd_check.specs.Sources.{head_code, head_faults, body, bodies, all_stmts}
use Rattle.ppd_check_names.specs.Globals.{Head}
use Rattle.ppd_check_stmts.specs.Table.{flats, weights, terms, stmts}
use Rattle.ppd_check_names.proofs.Found.First.{found_in_both}
use Rattle.ppd_check_stmts.proofs.Table.Joined.{flats_append, weights_append}
use Rattle.ppd_check_stmts.proofs.Table.Writing.{length_flats, length_stmts}

-- how many statements codes have
abbrev counts : List Code → ℕ
counts [] = 0
counts (c ∷ cs) = count c + counts cs

length_all : (b n m : ℕ) (cs : List Code) → length (all_stmts b n m cs) ≡ counts cs
length_all b n m [] = refl
length_all b n m (c ∷ cs) =
    length-append (stmts (fitted 16 b) None n m c) (all_stmts (b + 1) (n + count c) (m + weights (terms c)) cs)
    ∙ ap (λ k. k + length (all_stmts (b + 1) (n + count c) (m + weights (terms c)) cs)) (length_stmts (fitted 16 b) None n m c)
    ∙ ap (λ k. count c + k) (length_all (b + 1) (n + count c) (m + weights (terms c)) cs)

all_at : (b c n o m p : ℕ) (cs : List Code) → b ≡ c → n ≡ o → m ≡ p → all_stmts b n m cs ≡ all_stmts c o p cs
all_at b c n o m p cs e f g = ap (λ k. all_stmts k n m cs) e ∙ ap (λ k. all_stmts c k m cs) f ∙ ap (λ k. all_stmts c o k cs) g

all_append : (b n m : ℕ) (cs ds : List Code) → all_stmts b n m (cs ++ ds) ≡ all_stmts b n m cs ++ all_stmts (b + length cs) (n + counts cs) (m + weights (flat_map terms cs)) ds
all_append b n m [] ds = all_at b (b + 0) n (n + 0) m (m + 0) ds (omega arith) (omega arith) (omega arith)
all_append b n m (c ∷ cs) ds =
    let xs : List Stmt = stmts (fitted 16 b) None n m c in
    let ys : List Stmt = all_stmts (b + 1) (n + count c) (m + weights (terms c)) cs in
    let w : weights (flat_map terms (c ∷ cs)) ≡ weights (terms c) + weights (flat_map terms cs) = ap weights (flat_map-cons terms c cs) ∙ weights_append (terms c) (flat_map terms cs) in
    ap (λ l. xs ++ l)
    (all_append (b + 1) (n + count c) (m + weights (terms c)) cs ds
    ∙ ap (λ l. ys ++ l)
    (all_at (b + 1 + length cs) (b + suc (length cs)) (n + count c + counts cs) (n + (count c + counts cs)) (m + weights (terms c) + weights (flat_map terms cs)) (m + weights (flat_map terms (c ∷ cs))) ds
    (omega arith) (omega arith) (omega (arith, w))))
    ∙ sym (append_assoc xs ys (all_stmts (b + suc (length cs)) (n + (count c + counts cs)) (m + weights (flat_map terms (c ∷ cs))) ds))

pub length_bodies : (scope : Scope) (n : ℕ) (hs : List Head) → length (bodies scope n hs) ≡ length hs
length_bodies scope n [] = refl
length_bodies scope n (h ∷ hs) = ap suc (length_bodies scope (n + count (head_code scope h)) hs)

bodies_append : (scope : Scope) (n : ℕ) (hs gs : List Head) → bodies scope n (hs ++ gs) ≡ bodies scope n hs ++ bodies scope (n + counts (map (head_code scope) hs)) gs
bodies_append scope n [] gs = ap (λ k. bodies scope k gs) (omega arith)
bodies_append scope n (h ∷ hs) gs =
    let c : ℕ = count (head_code scope h) in
    ap (λ l. body scope n h ∷ l)
    (bodies_append scope (n + c) hs gs
    ∙ ap (λ k. bodies scope (n + c) hs ++ bodies scope k gs) (omega arith))

pub heads_join : (scope : Scope) (hs gs : List Head) (u v w : Writer) (ps bs cs : List Body) → WroteHeads scope hs u v ps bs → WroteHeads scope gs v w bs cs
    → WroteHeads scope (hs ++ gs) u w ps cs
heads_join scope hs gs u v w ps bs cs x y =
    let code : Head → Code = head_code scope in
    let c : List Code = map code hs in
    let d : List Code = map code gs in
    let m : ℕ = length u.exprs in
    let n : ℕ = length u.stmts in
    let long : length v.exprs ≡ m + weights (flat_map terms c) = ap length x.exprs ∙ length-append u.exprs (flats m (flat_map terms c)) ∙ ap (λ k. m + k) (length_flats m (flat_map terms c)) in
    let many : length v.stmts ≡ n + counts c = ap length x.stmts ∙ length-append u.stmts (all_stmts (length ps) n m c) ∙ ap (λ k. n + k) (length_all (length ps) n m c) in
    let more : length bs ≡ length ps + length hs = ap length x.bodies ∙ length-append ps (bodies scope n hs) ∙ ap (λ k. length ps + k) (length_bodies scope n hs) in
    record {
      exprs =
          y.exprs
          ∙ ap (λ l. l ++ flats (length v.exprs) (flat_map terms d)) x.exprs
          ∙ append_assoc u.exprs (flats m (flat_map terms c)) (flats (length v.exprs) (flat_map terms d))
          ∙ ap (λ k. u.exprs ++ (flats m (flat_map terms c) ++ flats k (flat_map terms d))) long
          ∙ ap (λ l. u.exprs ++ l) (sym (flats_append m (flat_map terms c) (flat_map terms d)))
          ∙ ap (λ ts. u.exprs ++ flats m ts) (sym (flat_map-append terms c d))
          ∙ ap (λ l. u.exprs ++ flats m (flat_map terms l)) (sym (map-append code hs gs));
      stmts =
          y.stmts
          ∙ ap (λ l. l ++ all_stmts (length bs) (length v.stmts) (length v.exprs) d) x.stmts
          ∙ append_assoc u.stmts (all_stmts (length ps) n m c) (all_stmts (length bs) (length v.stmts) (length v.exprs) d)
          ∙ ap (λ l. u.stmts ++ (all_stmts (length ps) n m c ++ l))
          (all_at (length bs) (length ps + length c) (length v.stmts) (n + counts c) (length v.exprs) (m + weights (flat_map terms c)) d
          (more ∙ ap (λ k. length ps + k) (sym (length-map hs code))) many long)
          ∙ ap (λ l. u.stmts ++ l) (sym (all_append (length ps) n m c d))
          ∙ ap (λ l. u.stmts ++ all_stmts (length ps) n m l) (sym (map-append code hs gs));
      bodies =
          y.bodies
          ∙ ap (λ l. l ++ bodies scope (length v.stmts) gs) x.bodies
          ∙ append_assoc ps (bodies scope n hs) (bodies scope (length v.stmts) gs)
          ∙ ap (λ k. ps ++ (bodies scope n hs ++ bodies scope k gs)) many
          ∙ ap (λ l. ps ++ l) (sym (bodies_append scope n hs gs));
      found =
          found_in_both u.found v.found w.found (flat_map (head_faults scope) hs) (flat_map (head_faults scope) gs) x.found y.found
          ∙ ap (λ l. first_of_both u.found (first l)) (sym (flat_map-append (head_faults scope) hs gs));
    }

-- one more of a list of nodes
pub heads_next : (scope : Scope) (ns : List Node) (process : Bool) (ids : List ℕ) (i d : ℕ) (u v w : Writer) (ps bs cs : List Body) → i < length ids → d ≡ get_or ids i d → IsHeadAt ns process d
    → WroteHeads scope (map (head_at ns) (take i ids)) u v ps bs → WroteHeads scope (head_said process (phrases_below ns d) ∷ []) v w bs cs
    → WroteHeads scope (map (head_at ns) (take (i + 1) ids)) u w ps cs
heads_next scope ns process ids i d u v w ps bs cs l is at x y =
    subst (λ hs. WroteHeads scope hs u w ps cs) joined
    (heads_join scope (map (head_at ns) (take i ids)) (head_said process (phrases_below ns d) ∷ []) u v w ps bs cs x y)
  where
    joined : map (head_at ns) (take i ids) ++ head_said process (phrases_below ns d) ∷ [] ≡ map (head_at ns) (take (i + 1) ids)
    joined =
        ap (λ h. map (head_at ns) (take i ids) ++ h ∷ []) (sym at.said)
        ∙ sym (map-append (head_at ns) (take i ids) (d ∷ []))
        ∙ ap (map (head_at ns)) (ap (λ k. take i ids ++ k ∷ []) is ∙ sym (take_more ids i d l))

pub heads_all : (scope : Scope) (ns : List Node) (ids : List ℕ) (k : ℕ) (u v : Writer) (ps bs : List Body) → length ids ≤ k
    → WroteHeads scope (map (head_at ns) (take k ids)) u v ps bs → WroteHeads scope (map (head_at ns) ids) u v ps bs
heads_all scope ns ids k u v ps bs h x = subst (λ l. WroteHeads scope (map (head_at ns) l) u v ps bs) (take_all k ids h) x
