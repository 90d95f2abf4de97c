-- A search through the steps of a story, step by step, and maps that answer it.
use Rattle.std.proofs.Common.{◌≡◌, ℕ, zero, suc, ◌+◌, ◌<◌, Bool, true, false, cond, List, [], ◌∷◌, length, drop, get_or, Option, Some, None, refl, ap, sym, ◌∙◌, subst, arith}
use Rattle.std.specs.Prelude.{◌&&◌, is_some, nat_eq}
use Rattle.std.specs.HashMap.{HashMap, get}
use Rattle.std.proofs.lemmas.Bool.{false≢true}
use Rattle.std.proofs.lemmas.List.{drop_more}
use Rattle.ppd_ast.specs.declared.program.Program.{Program}
use Rattle.ppd_ast.specs.declared.status.SyncKind.{SyncKind}
use Rattle.ppd_ast.specs.declared.status.SyncKind.TheVariants.{P, V, Send, Recv, Done}
use Rattle.ppd_sem.specs.declared.proc.Need.{Need}
use Rattle.ppd_sem.specs.declared.proc.Need.TheVariants as need
use Rattle.ppd_sem.specs.Described.{is_event}
use Rattle.ppd_model.specs.declared.trace.EventId.{EventId}
use Rattle.ppd_model.specs.declared.tracing.Story.{Story}
use Rattle.ppd_model.specs.declared.tracing.Taken.{Taken}
use Rattle.std.specs.Option.{option_or}
use Rattle.ppd_model.specs.Numbers.{sync}
use Rattle.ppd_sem.specs.Tables.{capacity_of}
use Rattle.ppd_model.specs.Synchronizations.{Sync, is_number, kind_of_sync, leading_from, leading_in, leads_at, led_to, numbered, sync_of}
use Rattle.ppd_model.proofs.OrderWords.{event_or}
use Rattle.ppd_model.proofs.Lists.{get_or_any}
use Rattle.ppd_trace.specs.Leading.{HavePairs, KeepsFirst, found_in, is_target, looked_up, target, with_number}

abbrev pub event_id : ℕ → ℕ → EventId
event_id p n = record { process = p; number = n }

-- ---- nothing leads to what is no synchronization

pub unnumbered : (k : Option (SyncKind × ℕ)) → numbered k None ≡ None
unnumbered None = refl
unnumbered (Some k) = refl

pub leads_to_none : (program : Program) (a : Option Sync) → leads_at program a None ≡ false
leads_to_none program None = refl
leads_to_none program (Some a) = refl

-- a search among these steps finds nothing where nothing leads
nothing_in : (program : Program) (b : Option Sync) → ((a : Option Sync) → leads_at program a b ≡ false) → (n : ℕ) (xs : List Taken) → leading_in program b n xs ≡ None
nothing_in program b apart n [] = refl
nothing_in program b apart n (x ∷ xs) =
    let next : ℕ = cond (is_event x.need) (n + 1) n in
    ap (λ (c : Bool). cond c (Some n) (leading_in program b next xs)) (apart (sync_of x)) ∙ nothing_in program b apart next xs

nothing_from : (program : Program) (b : Option Sync) → ((a : Option Sync) → leads_at program a b ≡ false) → (p : ℕ) (lists : List (List Taken)) → leading_from program b p lists ≡ None
nothing_from program b apart p [] = refl
nothing_from program b apart p (steps ∷ rest) =
    ap (λ (o : Option ℕ). event_or p o (leading_from program b (p + 1) rest)) (nothing_in program b apart 0 steps) ∙ nothing_from program b apart (p + 1) rest

none_from : (program : Program) (p : ℕ) (lists : List (List Taken)) → leading_from program None p lists ≡ None
none_from program p lists = nothing_from program None (leads_to_none program) p lists

pub unpaired : (program : Program) (story : Story) (x : Taken) → x.number ≡ None → None ≡ leading_from program (sync_of x) 0 story.steps
unpaired program story x e =
    sym (ap (λ (k : Option ℕ). leading_from program (numbered (kind_of_sync x.need) k) 0 story.steps) e
    ∙ ap (λ (b : Option Sync). leading_from program b 0 story.steps) (unnumbered (kind_of_sync x.need)) ∙ none_from program 0 story.steps)

-- ---- one step of the search

module _ (program : Program) (b : Option Sync) where
  opened : (n i : ℕ) (xs : List Taken) (x : Taken) → i < length xs → x ≡ get_or xs i x
      → leading_in program b n (drop i xs) ≡ cond (leads_at program (sync_of x) b) (Some n) (leading_in program b (cond (is_event x.need) (n + 1) n) (drop (i + 1) xs))
  opened n i xs x lt is =
      ap (λ (l : List Taken). leading_in program b n l) (drop_more xs i x lt)
      ∙ ap (λ (y : Taken). cond (leads_at program (sync_of y) b) (Some n) (leading_in program b (cond (is_event y.need) (n + 1) n) (drop (i + 1) xs))) (sym is)

  from : (p : ℕ) (lists : List (List Taken)) (steps : List Taken) → p < length lists → steps ≡ get_or lists p steps
      → leading_from program b p (drop p lists) ≡ event_or p (leading_in program b 0 steps) (leading_from program b (p + 1) (drop (p + 1) lists))
  from p lists steps lt is =
      ap (λ (l : List (List Taken)). leading_from program b p l) (drop_more lists p steps lt)
      ∙ ap (λ (s : List Taken). event_or p (leading_in program b 0 s) (leading_from program b (p + 1) (drop (p + 1) lists))) (sym is)

-- ---- targets

and_false : (b : Bool) → b && false ≡ false
and_false true = refl
and_false false = refl

leads_target : (program : Program) (kind : SyncKind) (a : Option Sync) (o k : ℕ) → leads_at program a (Some (sync kind o k)) ≡ is_target (target program kind a) o k
leads_target program kind None o k = refl
leads_target program kind (Some a) o k = by_led (led_to (capacity_of program a.object) a.kind kind a.number)
  where
    by_led : (led : Option ℕ) → nat_eq a.object o && is_number led k ≡ is_target (with_number a.object led) o k
    by_led None = and_false (nat_eq a.object o)
    by_led (Some n) = refl

-- nothing leads to a `V`
no_given : (c n : ℕ) (kind : SyncKind) → led_to c kind V n ≡ None
no_given zero n P = refl
no_given zero n V = refl
no_given zero n Send = refl
no_given zero n Recv = refl
no_given zero n Done = refl
no_given (suc c) n P = refl
no_given (suc c) n V = refl
no_given (suc c) n Send = refl
no_given (suc c) n Recv = refl
no_given (suc c) n Done = refl

given_alone : (program : Program) (o k : ℕ) (a : Option Sync) → leads_at program a (Some (sync V o k)) ≡ false
given_alone program o k None = refl
given_alone program o k (Some a) =
    ap (λ (led : Option ℕ). nat_eq a.object o && is_number led k) (no_given (capacity_of program a.object) a.number a.kind) ∙ and_false (nat_eq a.object o)

-- ---- maps with the first events that lead to synchronizations

or_assoc : {A : Type 0} (x y z : Option A) → option_or (option_or x y) z ≡ option_or x (option_or y z)
or_assoc None y z = refl
or_assoc (Some v) y z = refl

pub or_none : {A : Type 0} (x : Option A) → option_or x None ≡ x
or_none None = refl
or_none (Some v) = refl

first_or : (b : Bool) (p n : ℕ) (o : Option ℕ) → option_or (cond b (Some (event_id p n)) None) (event_or p o None) ≡ event_or p (cond b (Some n) o) None
first_or true p n o = refl
first_or false p n o = refl

after_or : (p : ℕ) (o : Option ℕ) (rest : Option EventId) → option_or (event_or p o None) rest ≡ event_or p o rest
after_or p None rest = refl
after_or p (Some n) rest = refl

module _ {S : Type 0} (program : Program) (kind : SyncKind) where
  -- one step of a process
  pub kept_on : (old new : HashMap (ℕ × ℕ) EventId S) (p n m i : ℕ) (xs : List Taken) (d : Taken) (t : Option (ℕ × ℕ)) → i < length xs → t ≡ target program kind (sync_of (get_or xs i d))
      → m ≡ cond (is_event (get_or xs i d).need) (n + 1) n → KeepsFirst old new t (event_id p n) → (all : Option EventId) (o k : ℕ)
      → option_or (found_in old o k) (event_or p (leading_in program (Some (sync kind o k)) n (drop i xs)) None) ≡ all
      → option_or (found_in new o k) (event_or p (leading_in program (Some (sync kind o k)) m (drop (i + 1) xs)) None) ≡ all
  kept_on old new p n m i xs d t lt to next keeps all o k inv =
      let x : Taken = get_or xs i d in
      let is : x ≡ get_or xs i x = get_or_any xs i d x lt in
      let b : Option Sync = Some (sync kind o k) in
      let rest : Option ℕ = leading_in program b (cond (is_event x.need) (n + 1) n) (drop (i + 1) xs) in
      let same : is_target t o k ≡ leads_at program (sync_of x) b = ap (λ (u : Option (ℕ × ℕ)). is_target u o k) to ∙ sym (leads_target program kind (sync_of x) o k) in
      ap (λ (y : ℕ). option_or (found_in new o k) (event_or p (leading_in program b y (drop (i + 1) xs)) None)) next
      ∙ ap (λ (y : Option EventId). option_or y (event_or p rest None)) (keeps o k)
      ∙ or_assoc (found_in old o k) (cond (is_target t o k) (Some (event_id p n)) None) (event_or p rest None)
      ∙ ap (λ (y : Option EventId). option_or (found_in old o k) y) (first_or (is_target t o k) p n rest)
      ∙ ap (λ (c : Bool). option_or (found_in old o k) (event_or p (cond c (Some n) rest) None)) same
      ∙ ap (λ (y : Option ℕ). option_or (found_in old o k) (event_or p y None)) (sym (opened program b n i xs x lt is)) ∙ inv

  -- one process
  pub processes_on : (old new : HashMap (ℕ × ℕ) EventId S) (p : ℕ) (lists : List (List Taken)) (steps : List Taken) (o k : ℕ) (all : Option EventId) → p < length lists → steps ≡ get_or lists p steps
      → found_in new o k ≡ option_or (found_in old o k) (event_or p (leading_in program (Some (sync kind o k)) 0 steps) None)
      → option_or (found_in old o k) (leading_from program (Some (sync kind o k)) p (drop p lists)) ≡ all
      → option_or (found_in new o k) (leading_from program (Some (sync kind o k)) (p + 1) (drop (p + 1) lists)) ≡ all
  processes_on old new p lists steps o k all lt is keeps inv =
      let b : Option Sync = Some (sync kind o k) in
      let rest : Option EventId = leading_from program b (p + 1) (drop (p + 1) lists) in
      ap (λ (y : Option EventId). option_or y rest) keeps
      ∙ or_assoc (found_in old o k) (event_or p (leading_in program b 0 steps) None) rest
      ∙ ap (λ (y : Option EventId). option_or (found_in old o k) y) (after_or p (leading_in program b 0 steps) rest ∙ sym (from program b p lists steps lt is)) ∙ inv

-- ---- putting an event into a map

same_key : (a o b k : ℕ) → nat_eq a o && nat_eq b k ≡ true → (a ≡ o) × (b ≡ k)
same_key a o b k e = search (arith)

put_there : (b : Bool) (x : Option EventId) (e : EventId) → (b ≡ true → x ≡ None) → cond b (Some e) x ≡ option_or x (cond b (Some e) None)
put_there true x e h = sym (ap (λ (y : Option EventId). option_or y (Some e)) (h refl))
put_there false x e h = sym (or_none x)

none_there : (x : Option EventId) → is_some x ≡ false → x ≡ None
none_there None e = refl
none_there (Some v) e = absurd (false≢true (sym e))

module _ {S : Type 0} where
  pub keeps_new : (old new : HashMap (ℕ × ℕ) EventId S) (object number : ℕ) (e : EventId) → is_some (found_in old object number) ≡ false
      → ((q : ℕ × ℕ) → get (λ x y. nat_eq x.0 y.0 && nat_eq x.1 y.1) new q ≡ cond (nat_eq object q.0 && nat_eq number q.1) (Some e) (get (λ x y. nat_eq x.0 y.0 && nat_eq x.1 y.1) old q))
      → KeepsFirst old new (Some (object, number)) e
  keeps_new old new object number e missing put o k =
      put (o, k) ∙ put_there (nat_eq object o && nat_eq number k) (found_in old o k) e (λ same.
      let both = same_key object o number k same in
      ap (λ (q : ℕ). found_in old q k) (sym both.0) ∙ ap (λ (q : ℕ). found_in old object q) (sym both.1) ∙ none_there (found_in old object number) missing)

  pub keeps_put : (old new : HashMap (ℕ × ℕ) EventId S) (t : Option (ℕ × ℕ)) (object number : ℕ) (e : EventId) (r : Option EventId) (there : Bool) → t ≡ Some (object, number) → r ≡ found_in old object number
      → there ≡ is_some r → there ≡ false
      → ((q : ℕ × ℕ) → get (λ x y. nat_eq x.0 y.0 && nat_eq x.1 y.1) new q ≡ cond (nat_eq object q.0 && nat_eq number q.1) (Some e) (get (λ x y. nat_eq x.0 y.0 && nat_eq x.1 y.1) old q))
      → KeepsFirst old new t e
  keeps_put old new t object number e r there is found test missing put =
      subst (λ (u : Option (ℕ × ℕ)). KeepsFirst old new u e) (sym is)
      (keeps_new old new object number e (ap is_some (sym found) ∙ sym test ∙ missing) put)

  -- ---- looking a synchronization up

  by_need : (program : Program) (story : Story) (takes receives sends completes : HashMap (ℕ × ℕ) EventId S) → HavePairs program story takes receives sends completes → (n : Need) (k : ℕ)
      → looked_up takes receives sends completes n k ≡ leading_from program (numbered (kind_of_sync n) (Some k)) 0 story.steps
  by_need program story takes receives sends completes h (need.P s u) k = h.of_takes s k
  by_need program story takes receives sends completes h (need.Recv c u) k = h.of_receives c k
  by_need program story takes receives sends completes h (need.Send c v u) k = h.of_sends c k
  by_need program story takes receives sends completes h (need.Offer c v) k = h.of_sends c k
  by_need program story takes receives sends completes h (need.Done c u) k = h.of_completes c k
  by_need program story takes receives sends completes h (need.V s u) k = sym (nothing_from program (Some (sync V s k)) (given_alone program s k) 0 story.steps)
  by_need program story takes receives sends completes h n k = sym (none_from program 0 story.steps)

  pub paired_as : (program : Program) (story : Story) (takes receives sends completes : HashMap (ℕ × ℕ) EventId S) (x : Taken) (k : ℕ) (r : Option EventId) → HavePairs program story takes receives sends completes → x.number ≡ Some k
      → r ≡ looked_up takes receives sends completes x.need k → r ≡ leading_from program (sync_of x) 0 story.steps
  paired_as program story takes receives sends completes x k r h e found =
      found ∙ by_need program story takes receives sends completes h x.need k ∙ ap (λ (number : Option ℕ). leading_from program (numbered (kind_of_sync x.need) number) 0 story.steps) (sym e)
