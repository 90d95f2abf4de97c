-- Where a process of a valid program is after a step, and what its frames' cells have then.
use Rattle.law_steps.proofs.StaticEdges.OwnCells.Does.{is_own}
use Rattle.law_steps.proofs.StaticEdges.OwnCells.Tagging.{copied, set_other, set_same, top_changed, uncopied}
use Rattle.law_steps.proofs.StaticEdges.OwnCells.Ways.{AllCome, AreCome, IsCome, NewTag, kept, mine, none, own_place, step_way}
use Rattle.law_steps.proofs.StaticEdges.Vars.{param_var}
use Rattle.ppd_ast.proofs.Members.{filter_has, has_first, has_right}
use Rattle.ppd_ast.proofs.ValidLaws.{slice_get_below, some_and, valid_stmt}
use Rattle.ppd_ast.proofs.Vocabulary.{gives as gives_value, kind_of_stmt}
use Rattle.ppd_ast.specs.Lookups.{body_numbered, body_of, kind_of}
use Rattle.ppd_ast.specs.Members.{has}
use Rattle.ppd_ast.specs.Valid.{CallsRightly, IsValid, IsValidKind}
use Rattle.ppd_ast.specs.declared.program.Body.{Body}
use Rattle.ppd_ast.specs.declared.program.Kind.{Kind}
use Rattle.ppd_ast.specs.declared.program.Kind.TheVariants as K
use Rattle.ppd_ast.specs.declared.program.Program.{Program}
use Rattle.ppd_ast.specs.declared.program.Stmt.{Stmt}
use Rattle.ppd_sets.specs.Flow.{follow, next_of, successors}
use Rattle.ppd_sets.specs.Reach.{start}
use Rattle.ppd_deps.proofs.Arriving.{IsOwn, own_by}
use Rattle.ppd_deps.proofs.Bodies.{stands_among}
use Rattle.ppd_deps.proofs.Vocabulary.{is_cell, passes}
use Rattle.ppd_deps.specs.Edges.{begins, scalar_written}
use Rattle.ppd_deps.specs.Named.{calls, own_vars, places, places_by}
use Rattle.ppd_model.proofs.Changes.{some}
use Rattle.ppd_model.proofs.Homes.{AreHome}
use Rattle.ppd_model.proofs.Parents.{none_some}
use Rattle.ppd_model.specs.FullTrace.{Tag}
use Rattle.ppd_model.specs.declared.trace.EventId.{EventId}
use Rattle.ppd_sem.specs.Passed.{next_stmt_of}
use Rattle.ppd_sem.specs.Runs.{returns}
use Rattle.ppd_sem.specs.declared.proc.Todo.{Todo}
use Rattle.ppd_sets.specs.Used.{callee, stmts_at, writes_at}
use Rattle.std.proofs.Common.{List, None, Option, Some, [], ap, false, get_or, inl, inr, length, refl, subst, sym, true, true≢false, ℕ, ℤ, ◌++◌, ◌<◌, ◌∙◌, ◌∷◌, ◌≡◌}
use Rattle.std.proofs.lemmas.Bool.{and_from, cases_eq, cases_lt, cond-true, lt-ltb, ne_eqb}
use Rattle.std.specs.List.{filter, flat_map}
use Rattle.std.specs.Prelude.{IsSome, IsTrue, if◌then◌else◌, is_some, nat_lt, option_to_list, replicate, slice_get, slice_set}

-- ---- bodies

-- the head is of the body of the top frame
pub head_body : (p : Program) (b : ℕ) (bs : List ℕ) (todo : List Todo) (h : ℕ) → AreHome p (b ∷ bs) todo → next_stmt_of todo ≡ Some h → body_of p h ≡ b
head_body p b bs [] h home e = absurd (none_some e)
head_body p b bs (t ∷ ts) h home e = ap (body_of p) (sym (some e)) ∙ home.0

-- where the frames are the same the next head is of the same body
pub same_body : (p : Program) (bs : List ℕ) (t : Todo) (ts todo : List Todo) (h : ℕ) → AreHome p bs (t ∷ ts) → AreHome p bs todo → next_stmt_of todo ≡ Some h → body_of p h ≡ body_of p t.stmt
same_body p [] t ts todo h before after e = absurd before
same_body p (b ∷ bs) t ts todo h before after e = head_body p b bs todo h after e ∙ sym (head_body p b bs (t ∷ ts) t.stmt before refl)

-- ---- kinds

pub own_of : (p : Program) (k : Kind) → is_own k ≡ true → IsOwn p k
own_of p k own =
    own_by p k (λ f args into e. absurd (true≢false (sym own ∙ ap is_own e))) (λ r e. absurd (true≢false (sym own ∙ ap is_own e)))

pub own_stays : (k : Kind) → is_own k ≡ true → returns k ≡ false
own_stays (K.Return e) own = absurd (true≢false (sym own))
own_stays k own = refl

-- a call is a statement that is there
pub call_there : (p : Program) (c f : ℕ) (args : List ℕ) (into : Option ℕ) → kind_of p c ≡ K.Call f args into → c < length p.stmts
call_there p c f args into is = by (slice_get p.stmts c) refl
  where
    by : (o : Option Stmt) → slice_get p.stmts c ≡ o → c < length p.stmts
    by None at = absurd (true≢false (ap is_own (sym (ap kind_of_stmt at) ∙ is)))
    by (Some x) at = slice_get_below p.stmts c x at

-- where what it receives is there, the function gives a value
pub call_gives : (p : Program) (c f : ℕ) (args : List ℕ) (into : Option ℕ) → IsValid p → kind_of p c ≡ K.Call f args into → IsSome into → gives_value (slice_get p.bodies f) ≡ true
call_gives p c f args into v is receives = by (slice_get p.stmts c) refl
  where
    by : (o : Option Stmt) → slice_get p.stmts c ≡ o → gives_value (slice_get p.bodies f) ≡ true
    by None at = absurd (true≢false (ap is_own (sym (ap kind_of_stmt at) ∙ is)))
    by (Some x) at =
        let kind : x.kind ≡ K.Call f args into = sym (ap kind_of_stmt at) ∙ is in
        let b = some_and (λ (b : Body). IsValidKind p b c x.kind) (slice_get p.bodies x.body) (valid_stmt p c x v at).kind in
        let rightly = subst (λ (k : Kind). CallsRightly p k) kind b.2.call in
        let g = some_and (λ (g : Body). (length args ≡ g.params) × (IsSome into → IsTrue g.value)) (slice_get p.bodies f) rightly.1 in
        ap gives_value g.1 ∙ g.2.1 receives

-- ---- the same frame

module _ (p : Program) (E : EventId → ℕ → Type 0) (v : IsValid p) (at : ℕ) (there : at < length p.stmts) (me : EventId) (is_me : E me at) (own : is_own (kind_of p at) ≡ true) where
  -- a statement that goes on to its successor
  pub same_frame : (f : List Tag → List Tag) (calls : List (Option ℕ)) (tags : List (List Tag)) (o : Option ℕ) → ((h : ℕ) → o ≡ Some h → IsTrue (has (next_of p at) h)) → ((h : ℕ) → o ≡ Some h → body_of p h ≡ body_of p at)
      → ((ts : List Tag) (c : ℕ) → NewTag (kind_of p at) me c (get_or ts c None) (get_or (f ts) c None)) → AllCome p E (Some at ∷ calls) tags → AllCome p E (o ∷ calls) (top_changed f tags)
  same_frame f calls [] o leads body new old = tt
  same_frame f calls (x ∷ xs) None leads body new old = (tt, old.1)
  same_frame f calls (x ∷ xs) (Some h) leads body new old =
      (step_way p E v at h there (leads h refl) at me there is_me (own_place p at (own_of p (kind_of p at) own)) x (f x) (body h refl) (new x) old.0, old.1)

  -- the same where no tag is changed
  pub same_tags : (calls : List (Option ℕ)) (tags : List (List Tag)) (o : Option ℕ) → ((h : ℕ) → o ≡ Some h → IsTrue (has (next_of p at) h)) → ((h : ℕ) → o ≡ Some h → body_of p h ≡ body_of p at)
      → scalar_written (kind_of p at) ≡ None → AllCome p E (Some at ∷ calls) tags → AllCome p E (o ∷ calls) tags
  same_tags calls [] o leads body unset old = tt
  same_tags calls (x ∷ xs) None leads body unset old = (tt, old.1)
  same_tags calls (x ∷ xs) (Some h) leads body unset old =
      (step_way p E v at h there (leads h refl) at me there is_me (own_place p at (own_of p (kind_of p at) own)) x x (body h refl) (λ c. kept refl (ap (is_cell c) unset)) old.0, old.1)

-- ---- a new frame

module _ (p : Program) (E : EventId → ℕ → Type 0) (v : IsValid p) (at : ℕ) (there : at < length p.stmts) (me : EventId) (is_me : E me at) (f : ℕ) (args : List ℕ) (into : Option ℕ) (is : kind_of p at ≡ K.Call f args into) where
  -- a parameter comes from the call to the function's first statement
  param_begins : (k h : ℕ) → k < (body_numbered p f).params → slice_get (body_numbered p f).top 0 ≡ Some h → IsTrue (has (begins p f at k) h)
  param_begins k h lt first =
      let called : IsTrue (calls p at f) = subst (λ (q : Kind). IsTrue (has (callee q) f)) (sym is) (has_first f []) in
      let passed : passes p f at k ≡ true = and_from (calls p at f) (nat_lt k (body_numbered p f).params) called (lt-ltb k (body_numbered p f).params lt) in
      let list : (if passes p f at k then option_to_list (slice_get (body_numbered p f).top 0) else []) ≡ h ∷ [] = cond-true (passes p f at k) (option_to_list (slice_get (body_numbered p f).top 0)) [] passed ∙ ap option_to_list first in
      has_right (flat_map (next_of p) (filter (λ c. has (own_vars p (writes_at false p) c) k) (places p f at))) (if passes p f at k then option_to_list (slice_get (body_numbered p f).top 0) else []) h
      (subst (λ xs. IsTrue (has xs h)) (sym list) (has_first h []))

  new_tags : (n k h c : ℕ) → n ≡ (body_numbered p f).params → slice_get (body_numbered p f).top 0 ≡ Some h → IsCome p E f h c (get_or (replicate n (Some me) ++ replicate k None) c None)
  new_tags n k h c count first = elim (cases_lt c n) [
    | inl lt ↦
        let param : c < (body_numbered p f).params = subst (λ m. c < m) count lt in
        subst (λ t. IsCome p E f h c t) (sym (copied n k c (Some me) lt))
        (record { from = at; there = there; is_of = is_me; var = c; in_var = param_var p f c v param; comes = λ l. start (param_begins c h param first) })
    | inr le ↦ subst (λ t. IsCome p E f h c t) (sym (uncopied n k c (Some me) le)) tt
  ]

  pub new_frame : (n k : ℕ) (o : Option ℕ) → n ≡ (body_numbered p f).params → ((h : ℕ) → o ≡ Some h → slice_get (body_numbered p f).top 0 ≡ Some h) → ((h : ℕ) → o ≡ Some h → body_of p h ≡ f)
      → AreCome p E o (replicate n (Some me) ++ replicate k None)
  new_frame n k None count first body = tt
  new_frame n k (Some h) count first body = λ c. subst (λ b. IsCome p E b h c (get_or (replicate n (Some me) ++ replicate k None) c None)) (sym (body h refl)) (new_tags n k h c count (first h refl))

-- ---- back to the frame below

-- the tags of the caller's cells, one of which may receive the value
abbrev pub into_tags : Option ℕ → Option ℤ → Tag → List Tag → List Tag
into_tags (Some c) (Some v) me ts = slice_set ts c me
into_tags into value me ts = ts

module _ (p : Program) (E : EventId → ℕ → Type 0) (v : IsValid p) (at : ℕ) (there : at < length p.stmts) (me : EventId) (is_me : E me at) (is_return : (e : Option ℕ) × (kind_of p at ≡ K.Return e)) where
  -- a return writes at the calls of its function
  return_place : (c : ℕ) (args : List ℕ) (into : Option ℕ) → kind_of p c ≡ K.Call (body_of p at) args into → IsTrue (has (places p (body_of p c) at) c)
  return_place c args into is =
      let called : IsTrue (calls p c (body_of p at)) = subst (λ (q : Kind). IsTrue (has (callee q) (body_of p at))) (sym is) (has_first (body_of p at) []) in
      let e : places p (body_of p c) at ≡ filter (λ d. calls p d (body_of p at)) (stmts_at p (body_of p c)) = ap (places_by p (body_of p c) at) is_return.1 in
      subst (λ xs. IsTrue (has xs c)) (sym e) (filter_has (λ d. calls p d (body_of p at)) (stmts_at p (body_of p c)) c (stands_among p c v (call_there p c (body_of p at) args into is)) called)

  -- the caller's cell that receives the value has the return's event, each other its tag
  into_new : (f : ℕ) (args : List ℕ) (into : Option ℕ) (value : Option ℤ) (ts : List Tag) → (IsSome into → is_some value ≡ true) → (d : ℕ) → NewTag (K.Call f args into) me d (get_or ts d None) (get_or (into_tags into value (Some me) ts) d None)
  into_new f args None value ts gives d = kept refl refl
  into_new f args (Some c) None ts gives d = absurd (true≢false (sym (gives refl)))
  into_new f args (Some c) (Some x) ts gives d = elim (cases_eq d c) [
    | inl same ↦ subst (λ i. NewTag (K.Call f args (Some c)) me i (get_or ts i None) (get_or (slice_set ts c (Some me)) i None)) (sym same) (elim (set_same ts c (Some me)) [
      | inl lost ↦ none lost
      | inr got ↦ mine got (has_first c [])
    ])
    | inr other ↦ kept (set_other ts c d (Some me) other) (ne_eqb c d (λ e. other (sym e)))
  ]

  -- where the process goes on behind the call
  pub behind_call : (c g : ℕ) (args : List ℕ) (into : Option ℕ) (value : Option ℤ) (o : Option ℕ) (ts : List Tag) → kind_of p c ≡ K.Call (body_of p at) args into → body_of p c ≡ g → is_some value ≡ gives_value (slice_get p.bodies (body_of p at))
      → o ≡ follow p c → ((h : ℕ) → o ≡ Some h → body_of p h ≡ g) → AreCome p E (Some c) ts → AreCome p E o (into_tags into value (Some me) ts)
  behind_call c g args into value None ts is of_body gives follows body old = tt
  behind_call c g args into value (Some h) ts is of_body gives follows body old =
      let next_is : next_of p c ≡ h ∷ [] = ap (λ (q : Kind). successors c q (follow p c)) is ∙ ap option_to_list (sym follows) in
      let leads : IsTrue (has (next_of p c) h) = subst (λ xs. IsTrue (has xs h)) (sym next_is) (has_first h []) in
      let needs : IsSome into → is_some value ≡ true = λ r. gives ∙ call_gives p c (body_of p at) args into v is r in
      step_way p E v c h (call_there p c (body_of p at) args into is) leads at me there is_me (return_place c args into is) ts (into_tags into value (Some me) ts) (body h refl ∙ sym of_body)
      (λ d. subst (λ (q : Kind). NewTag q me d (get_or ts d None) (get_or (into_tags into value (Some me) ts) d None)) (sym is) (into_new (body_of p at) args into value ts needs d)) old
