-- How many bytes the entries of a step take: at most 26 for each unit that it costs.
use Rattle.std.specs.Int.{w16}
use Rattle.std.proofs.Common.{◌≡◌, ◌≢◌, ℕ, suc, ◌+◌, ◌*◌, ◌≤◌, ℤ, List, [], ◌∷◌, ◌++◌, Option, Some, None, refl, ap₂, ◌∙◌, length, arith, length-append}
use Rattle.std.specs.List.{flat_map}
use Rattle.ppd_ast.specs.declared.plan.Plan.{Plan}
use Rattle.ppd_ast.specs.declared.program.Program.{Program}
use Rattle.ppd_ast.specs.declared.status.Status.{Status}
use Rattle.ppd_model.specs.declared.entry.Entry.{Entry}
use Rattle.ppd_model.specs.declared.entry.Entry.TheVariants as entry
use Rattle.ppd_sem.specs.declared.proc.Answer.{Answer}
use Rattle.ppd_sem.specs.declared.proc.Need.{Need}
use Rattle.ppd_sem.specs.declared.proc.Need.TheVariants as n
use Rattle.ppd_model.specs.declared.state.Logging.{Logging}
use Rattle.ppd_model.specs.Costs.{values_in}
use Rattle.ppd_model.specs.Logs.{entries_of, status_of, with_access}
use Rattle.ppd_codec.specs.Format.{an_entry, cells, values}
use Rattle.ppd_codec.specs.Form.{value, number}
use Rattle.ppd_codec.specs.Recordings.{facts_of}
use Rattle.law_logs.proofs.Recording.Logs.Rows.{few_more}

-- ---- the bytes of an entry

abbrev pub size : Entry → ℕ
size (entry.Prelog b vs) = 5 + 8 * length vs
size (entry.Unit u vs) = 5 + 8 * length vs
size (entry.Sync k o j x r w) = 19 + 2 * (length r + length w)
size (entry.Postlog b vs) = 5 + 8 * length vs
size (entry.End s j r w) = 10 + 2 * (length r + length w)

abbrev pub sizes : List Entry → ℕ
sizes [] = 0
sizes (e ∷ es) = size e + sizes es

pub sizes_append : (xs ys : List Entry) → sizes (xs ++ ys) ≡ sizes xs + sizes ys
sizes_append [] ys = omega arith
sizes_append (x ∷ xs) ys = let r : sizes (xs ++ ys) ≡ sizes xs + sizes ys = sizes_append xs ys in omega (arith, r)

each_long : {A : Type 0} (f : A → List ℕ) (k : ℕ) (xs : List A) → ((x : A) → length (f x) ≡ k) → length (flat_map f xs) ≡ k * length xs
each_long f k [] h = omega arith
each_long f k (x ∷ xs) h =
    let all : length (f x ++ flat_map f xs) ≡ length (f x) + length (flat_map f xs) = length-append (f x) (flat_map f xs) in
    let here : length (f x) ≡ k = h x in
    let rest : length (flat_map f xs) ≡ k * length xs = each_long f k xs h in
    let more : k * suc (length xs) ≡ k + k * length xs = omega arith in
    omega (arith, all, here, rest, more)

values_size : (vs : List ℤ) → length (values.bytes vs) ≡ 2 + 8 * length vs
values_size vs =
    let c : length (values.bytes vs) ≡ suc (suc (length (flat_map value.bytes vs))) = refl in
    let r : length (flat_map value.bytes vs) ≡ 8 * length vs = each_long value.bytes 8 vs (λ v. refl) in
    omega (arith, c, r)

cells_size : (shared : ℕ) (cs : List ℕ) → length ((cells shared).bytes cs) ≡ 2 + 2 * length cs
cells_size shared cs =
    let c : length ((cells shared).bytes cs) ≡ suc (suc (length (flat_map (number w16).bytes cs))) = refl in
    let r : length (flat_map (number w16).bytes cs) ≡ 2 * length cs = each_long (number w16).bytes 2 cs (λ c. refl) in
    omega (arith, c, r)

both_cells : (shared : ℕ) (r w : List ℕ) → length ((cells shared).bytes r ++ (cells shared).bytes w) ≡ 4 + 2 * (length r + length w)
both_cells shared r w =
    let all : length ((cells shared).bytes r ++ (cells shared).bytes w) ≡ length ((cells shared).bytes r) + length ((cells shared).bytes w) = length-append ((cells shared).bytes r) ((cells shared).bytes w) in
    let a : length ((cells shared).bytes r) ≡ 2 + 2 * length r = cells_size shared r in
    let b : length ((cells shared).bytes w) ≡ 2 + 2 * length w = cells_size shared w in
    omega (arith, all, a, b)

pub entry_size : (p : Program) (e : Entry) → length ((an_entry (facts_of p)).bytes e) ≡ size e
entry_size p (entry.Prelog b vs) =
    let c : length ((an_entry (facts_of p)).bytes (entry.Prelog b vs)) ≡ suc (suc (suc (length (values.bytes vs)))) = refl in
    let r : length (values.bytes vs) ≡ 2 + 8 * length vs = values_size vs in
    omega (arith, c, r)
entry_size p (entry.Unit u vs) =
    let c : length ((an_entry (facts_of p)).bytes (entry.Unit u vs)) ≡ suc (suc (suc (length (values.bytes vs)))) = refl in
    let r : length (values.bytes vs) ≡ 2 + 8 * length vs = values_size vs in
    omega (arith, c, r)
entry_size p (entry.Postlog b vs) =
    let c : length ((an_entry (facts_of p)).bytes (entry.Postlog b vs)) ≡ suc (suc (suc (length (values.bytes vs)))) = refl in
    let r : length (values.bytes vs) ≡ 2 + 8 * length vs = values_size vs in
    omega (arith, c, r)
entry_size p (entry.Sync k o j x r w) =
    let both : List ℕ = (cells (length p.starts)).bytes r ++ (cells (length p.starts)).bytes w in
    let c : length ((an_entry (facts_of p)).bytes (entry.Sync k o j x r w)) ≡ suc (suc (suc (suc (suc (suc (suc (suc (suc (suc (suc (suc (suc (suc (suc (length both))))))))))))))) = refl in
    let d : length both ≡ 4 + 2 * (length r + length w) = both_cells (length p.starts) r w in
    omega (arith, c, d)
entry_size p (entry.End s j r w) =
    let both : List ℕ = (cells (length p.starts)).bytes r ++ (cells (length p.starts)).bytes w in
    let c : length ((an_entry (facts_of p)).bytes (entry.End s j r w)) ≡ suc (suc (suc (suc (suc (suc (length both)))))) = refl in
    let d : length both ≡ 4 + 2 * (length r + length w) = both_cells (length p.starts) r w in
    omega (arith, c, d)

pub entries_size : (p : Program) (es : List Entry) → length (flat_map (an_entry (facts_of p)).bytes es) ≡ sizes es
entries_size p [] = refl
entries_size p (e ∷ es) = length-append ((an_entry (facts_of p)).bytes e) (flat_map (an_entry (facts_of p)).bytes es) ∙ ap₂ (λ a b. a + b) (entry_size p e) (entries_size p es)

pub some_bytes : (es : List Entry) → length es ≤ sizes es
some_bytes [] = omega arith
some_bytes (entry.Prelog b vs ∷ es) = let r : length es ≤ sizes es = some_bytes es in omega (arith, r)
some_bytes (entry.Unit u vs ∷ es) = let r : length es ≤ sizes es = some_bytes es in omega (arith, r)
some_bytes (entry.Sync k o j x rs ws ∷ es) = let r : length es ≤ sizes es = some_bytes es in omega (arith, r)
some_bytes (entry.Postlog b vs ∷ es) = let r : length es ≤ sizes es = some_bytes es in omega (arith, r)
some_bytes (entry.End s j rs ws ∷ es) = let r : length es ≤ sizes es = some_bytes es in omega (arith, r)

-- ---- the bytes of a step

-- what the cells noted so far will take
abbrev pub noted : Logging → ℕ
noted l = 2 * (length l.reads + length l.writes)

module _ (program : Program) (plan : Plan) (l : Logging) (a : Answer) (vs : List ℤ) where
  abbrev pub new : Need → Option ℕ → List Entry
  new need number = entries_of program plan l (record { taken = record { need = need; answer = a; writer = None; number = number }; unit_values = vs })

  -- a step that goes on
  pub going : (need : Need) (number : Option ℕ) → need ≢ n.Stopped → status_of need ≡ None
      → sizes (new need number) + noted (with_access need l) ≤ noted l + 26 * (1 + values_in (new need number))
  going (n.Read c) number s e = let r : length _ ≤ length l.reads + 1 = few_more c l.reads in omega (arith, r)
  going (n.Write c x) number s e = let r : length _ ≤ length l.writes + 1 = few_more c l.writes in omega (arith, r)
  going n.Plain number s e = omega arith
  going (n.Enter b u) number s e = omega arith
  going (n.Leave b u) number s e = omega arith
  going (n.Invoke None u) number s e = omega arith
  going (n.Invoke (Some b) u) number s e = omega arith
  going (n.Back None None) number s e = omega arith
  going (n.Back None (Some u)) number s e = omega arith
  going (n.Back (Some b) None) number s e = omega arith
  going (n.Back (Some b) (Some u)) number s e = omega arith
  going (n.P o u) None s e = omega arith
  going (n.P o u) (Some j) s e = omega arith
  going (n.V o u) None s e = omega arith
  going (n.V o u) (Some j) s e = omega arith
  going (n.Send c x u) None s e = omega arith
  going (n.Send c x u) (Some j) s e = omega arith
  going (n.Offer c x) None s e = omega arith
  going (n.Offer c x) (Some j) s e = omega arith
  going (n.Done c u) None s e = omega arith
  going (n.Done c u) (Some j) s e = omega arith
  going (n.Recv c u) None s e = omega arith
  going (n.Recv c u) (Some j) s e = omega arith
  going (n.End b) number s e = cc
  going (n.Trap x) number s e = cc
  going n.Budget number s e = cc
  going n.Stopped number s e = absurd (s refl)

  -- a step that ends its process and is paid for
  pub ending : (need : Need) (number : Option ℕ) (how : Status) → need ≢ n.Budget → status_of need ≡ Some how
      → sizes (new need number) ≤ noted l + 26 * (1 + values_in (new need number))
  ending (n.End b) number how s e = omega arith
  ending (n.Trap x) number how s e = omega arith
  ending n.Budget number how s e = absurd (s refl)
  ending (n.Read c) number how s e = cc
  ending (n.Write c x) number how s e = cc
  ending n.Plain number how s e = cc
  ending (n.Enter b u) number how s e = cc
  ending (n.Leave b u) number how s e = cc
  ending (n.Invoke b u) number how s e = cc
  ending (n.Back b u) number how s e = cc
  ending (n.P o u) number how s e = cc
  ending (n.V o u) number how s e = cc
  ending (n.Send c x u) number how s e = cc
  ending (n.Offer c x) number how s e = cc
  ending (n.Done c u) number how s e = cc
  ending (n.Recv c u) number how s e = cc
  ending n.Stopped number how s e = cc

  -- the stop for the budget
  pub stopping : (number : Option ℕ) → sizes (new n.Budget number) ≤ noted l + 10
  stopping number = omega arith
