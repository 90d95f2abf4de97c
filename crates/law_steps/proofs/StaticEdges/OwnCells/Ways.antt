-- From the last write of a local cell a way along the flow graph is kept to the statement that comes next.
use Rattle.law_steps.proofs.StaticEdges.Vars.{HasVar, keeps, local_var, met}
use Rattle.law_steps.specs.Sound.{IsCellOfVariable}
use Rattle.ppd_ast.proofs.Members.{filter_has, flat_from, has_first, has_left}
use Rattle.ppd_ast.specs.Lookups.{body_numbered, body_of, kind_of}
use Rattle.ppd_ast.specs.Members.{has}
use Rattle.ppd_ast.specs.Valid.{IsValid}
use Rattle.ppd_ast.specs.declared.program.Kind.{Kind}
use Rattle.ppd_ast.specs.declared.program.Program.{Program}
use Rattle.ppd_ast.specs.declared.program.Var.{Var}
use Rattle.ppd_sets.specs.Flow.{next_of}
use Rattle.ppd_sets.specs.Reach.{Reached, next, start}
use Rattle.ppd_deps.proofs.Arriving.{IsOwn}
use Rattle.ppd_deps.proofs.Reaching.{kept_row_is}
use Rattle.ppd_deps.proofs.Vocabulary.{is_cell, passes}
use Rattle.ppd_deps.specs.Edges.{begins, ends_paths, kept_rows, scalar_written}
use Rattle.ppd_deps.specs.Named.{own_vars, places}
use Rattle.ppd_model.specs.FullTrace.{Tag}
use Rattle.ppd_model.specs.declared.trace.EventId.{EventId}
use Rattle.ppd_sets.specs.Named.{writes}
use Rattle.ppd_sets.specs.Used.{writes_at}
use Rattle.std.proofs.Common.{List, None, Option, Some, [], ap, false, get_or, length, refl, subst, sym, true, ℕ, ◌<◌, ◌∙◌, ◌∷◌, ◌≡◌}
use Rattle.std.proofs.lemmas.Bool.{and_from, cond-true, eq-eqb}
use Rattle.std.specs.List.{filter, flat_map}
use Rattle.std.specs.Prelude.{IsTrue, if◌then◌else◌, nat_eq, not, option_to_list, slice_get, ⊤, ◌&&◌}

-- the event, which is one of E at some statement of the program, wrote the cell c of body b, and what it wrote may come
-- to statement at
pub record HasWay (p : Program) (E : EventId → ℕ → Type 0) (b at c : ℕ) (id : EventId) : Type 0 where
  pub from : ℕ
  pub there : from < length p.stmts
  pub is_of : E id from
  pub var : ℕ
  pub in_var : IsCellOfVariable (body_numbered p b).locals var c
  pub comes : var < 65536 → Reached (kept_rows p b (slice_get (body_numbered p b).locals var)) (begins p b from var) at

abbrev pub IsCome : Program → (EventId → ℕ → Type 0) → (b at c : ℕ) → Tag → Type 0
IsCome p E b at c None = ⊤
IsCome p E b at c (Some id) = HasWay p E b at c id

-- so it is with each cell of a frame in which the process is at this statement, if it is at any
abbrev pub AreCome : Program → (EventId → ℕ → Type 0) → Option ℕ → List Tag → Type 0
AreCome p E None tags = ⊤
AreCome p E (Some at) tags = (c : ℕ) → IsCome p E (body_of p at) at c (get_or tags c None)

-- and with each frame
abbrev pub AllCome : Program → (EventId → ℕ → Type 0) → List (Option ℕ) → List (List Tag) → Type 0
AllCome p E os [] = ⊤
AllCome p E [] (tags ∷ rest) = ⊤
AllCome p E (o ∷ os) (tags ∷ rest) = AreCome p E o tags × AllCome p E os rest

-- ---- more events

module _ (p : Program) (E F : EventId → ℕ → Type 0) (more : (id : EventId) (s : ℕ) → E id s → F id s) where
  more_way : (b at c : ℕ) (tag : Tag) → IsCome p E b at c tag → IsCome p F b at c tag
  more_way b at c None h = tt
  more_way b at c (Some id) h = record { from = h.from; there = h.there; is_of = more id h.from h.is_of; var = h.var; in_var = h.in_var; comes = h.comes }

  more_come : (o : Option ℕ) (tags : List Tag) → AreCome p E o tags → AreCome p F o tags
  more_come None tags h = tt
  more_come (Some at) tags h = λ c. more_way (body_of p at) at c (get_or tags c None) (h c)

  pub more_all : (os : List (Option ℕ)) (tags : List (List Tag)) → AllCome p E os tags → AllCome p F os tags
  more_all os [] h = tt
  more_all [] (ts ∷ rest) h = tt
  more_all (o ∷ os) (ts ∷ rest) h = (more_come o ts h.0, more_all os rest h.1)

-- ---- one step along the flow graph

-- the tag of a cell after statement of this kind: none, the event of a write of it, or the one before where no scalar's
-- write of it ends the paths
pub data NewTag (k : Kind) (me : EventId) (c : ℕ) (old new : Tag) : Type 0 where
  none : new ≡ None → NewTag k me c old new
  mine : new ≡ Some me → IsTrue (has (writes false k) c) → NewTag k me c old new
  kept : new ≡ old → is_cell c (scalar_written k) ≡ false → NewTag k me c old new

module _ (p : Program) (E : EventId → ℕ → Type 0) (v : IsValid p) (at to : ℕ) (there : at < length p.stmts) (leads : IsTrue (has (next_of p at) to)) where
  -- the row of a variable whose paths the statement does not end
  in_row : (x : Var) (o : Option Var) → o ≡ Some x → ends_paths (Some x) (kind_of p at) ≡ false → IsTrue (has (get_or (kept_rows p (body_of p at) o) at []) to)
  in_row x o is no_end =
      let passes_on : (nat_eq (body_of p at) (body_of p at) && not (ends_paths o (kind_of p at))) ≡ true =
      and_from (nat_eq (body_of p at) (body_of p at)) (not (ends_paths o (kind_of p at))) (eq-eqb (body_of p at) (body_of p at) refl) (ap (λ y. not (ends_paths y (kind_of p at))) is ∙ ap not no_end) in
      let e : get_or (kept_rows p (body_of p at) o) at [] ≡ next_of p at = kept_row_is p (body_of p at) o at there ∙ cond-true (nat_eq (body_of p at) (body_of p at) && not (ends_paths o (kind_of p at))) (next_of p at) [] passes_on in
      subst (λ xs. IsTrue (has xs to)) (sym e) leads

  goes_on : (c : ℕ) (id : EventId) → is_cell c (scalar_written (kind_of p at)) ≡ false → HasWay p E (body_of p at) at c id → HasWay p E (body_of p at) to c id
  goes_on c id other h = record {
    from = h.from;
    there = h.there;
    is_of = h.is_of;
    var = h.var;
    in_var = h.in_var;
    comes = λ lt. next (h.comes lt) (in_row h.in_var.variable (slice_get (body_numbered p (body_of p at)).locals h.var) h.in_var.there (keeps h.in_var.variable c (kind_of p at) h.in_var.held other));
  }

  goes : (c : ℕ) (tag : Tag) → is_cell c (scalar_written (kind_of p at)) ≡ false → IsCome p E (body_of p at) at c tag → IsCome p E (body_of p at) to c tag
  goes c None other h = tt
  goes c (Some id) other h = goes_on c id other h

  -- ---- where a path begins

  begin_at : (s w : ℕ) → IsTrue (has (places p (body_of p at) s) at) → IsTrue (has (own_vars p (writes_at false p) at) w) → IsTrue (has (begins p (body_of p at) s w) to)
  begin_at s w place written =
      has_left (flat_map (next_of p) (filter (λ c. has (own_vars p (writes_at false p) c) w) (places p (body_of p at) s))) (if passes p (body_of p at) s w then option_to_list (slice_get (body_numbered p (body_of p at)).top 0) else []) to
      (flat_from (next_of p) (filter (λ c. has (own_vars p (writes_at false p) c) w) (places p (body_of p at) s)) at to
      (filter_has (λ c. has (own_vars p (writes_at false p) c) w) (places p (body_of p at) s) at place written) leads)

  -- the event of statement s writes the cell at this statement
  begins_way : (s c : ℕ) (me : EventId) → s < length p.stmts → E me s → IsTrue (has (places p (body_of p at) s) at) → IsTrue (has (writes_at false p at) c) → HasWay p E (body_of p at) to c me
  begins_way s c me below is place written =
      let x : HasVar (body_numbered p (body_of p at)).locals c = local_var p at c v written in
      record {
        from = s;
        there = below;
        is_of = is;
        var = x.var;
        in_var = x.in_var;
        comes = λ lt. start (begin_at s x.var place (met (body_numbered p (body_of p at)).locals (writes_at false p at) x.var c lt x.in_var written));
      }

  module _ (s : ℕ) (me : EventId) (below : s < length p.stmts) (is : E me s) (place : IsTrue (has (places p (body_of p at) s) at)) where
    new_way : (c : ℕ) (old new : Tag) → NewTag (kind_of p at) me c old new → IsCome p E (body_of p at) at c old → IsCome p E (body_of p at) to c new
    new_way c old new (none e) h = subst (λ t. IsCome p E (body_of p at) to c t) (sym e) tt
    new_way c old new (mine e written) h = subst (λ t. IsCome p E (body_of p at) to c t) (sym e) (begins_way s c me below is place written)
    new_way c old new (kept e other) h = subst (λ t. IsCome p E (body_of p at) to c t) (sym e) (goes c old other h)

    -- each cell of the frame
    pub step_way : (old new : List Tag) → body_of p to ≡ body_of p at → ((c : ℕ) → NewTag (kind_of p at) me c (get_or old c None) (get_or new c None)) → AreCome p E (Some at) old → AreCome p E (Some to) new
    step_way old new same tags h = λ c. subst (λ b. IsCome p E b to c (get_or new c None)) (sym same) (new_way c (get_or old c None) (get_or new c None) (tags c) (h c))

-- the places of a statement that writes at itself
pub own_place : (p : Program) (s : ℕ) → IsOwn p (kind_of p s) → IsTrue (has (places p (body_of p s) s) s)
own_place p s own =
    let e : places p (body_of p s) s ≡ s ∷ [] = own.places_are (body_of p s) s ∙ cond-true (nat_eq (body_of p s) (body_of p s)) (s ∷ []) [] (eq-eqb (body_of p s) (body_of p s) refl) in
    subst (λ xs. IsTrue (has xs s)) (sym e) (has_first s [])
