-- What an event leaves of the tags of local cells and of the calls is what its statement's deed leaves.
use Rattle.std.proofs.Common.{◌≡◌, ℕ, zero, suc, ◌+◌, ℤ, pos, Bool, true, false, List, [], ◌∷◌, ◌++◌, Option, Some, None, Ok, Err, refl, ap, ap₂, sym, ◌∙◌, length, map, true≢false}
use Rattle.std.specs.Prelude.{⊤, drop, fold, slice_set, replicate}
use Rattle.std.proofs.lemmas.List.Sums.{fold-append}
use Rattle.std.specs.List.{range_with_len}
use Rattle.ppd_ast.specs.Term.{term}
use Rattle.ppd_ast.specs.declared.program.Expr.{Expr}
use Rattle.ppd_ast.specs.declared.program.Kind.{Kind}
use Rattle.ppd_ast.specs.declared.program.Kind.TheVariants as kind
use Rattle.ppd_ast.specs.declared.program.Program.{Program}
use Rattle.ppd_sem.specs.declared.event.Access.{Access}
use Rattle.ppd_sem.specs.declared.event.Event.{Event}
use Rattle.ppd_sem.specs.declared.proc.Answer.{Answer}
use Rattle.ppd_sem.specs.declared.proc.Frame.{Frame}
use Rattle.ppd_sem.specs.declared.proc.Proc.{Proc}
use Rattle.ppd_sem.specs.declared.proc.Todo.{Todo}
use Rattle.ppd_sem.specs.Ask.{ask}
use Rattle.ppd_sem.specs.Asked.{Asked, and_then, gives}
use Rattle.ppd_sem.specs.Deed.{Deed, set_local, set_shared, clear, branch, turn, leave, invoke, back, take, give, send, receive, print, pass, finish, ask_deed}
use Rattle.ppd_sem.specs.Described.{value_at, valued, writes_of_deed}
use Rattle.ppd_sem.proofs.EventWords.{value_if, writes_of_asked}
use Rattle.ppd_sem.specs.Process.{act_by_deed, new_frame, receive_at, returned, on_top, top_frame, into_at, with_values}
use Rattle.ppd_sem.proofs.OfKind.{IsDeedOf, OfAsked, asked_holds, backs, backs_value, clears, deed_of, finishes, goes_first, goes_round, goes_second, invokes, leaves, passes, prints, receives, releases, sends, sets, sets_element, shares, shares_element, takes}
use Rattle.ppd_model.specs.declared.tracing.Activation.{Activation}
use Rattle.ppd_model.specs.FullTrace.{Tag, all_tagged, called, tagged, tagged_by, tagged_into}
use Rattle.law_flow.specs.Following.{calls_by_kind, tag_write, tagged_by_kind, top_of}
use Rattle.ppd_sem.specs.Reads.{local_accesses}
use Rattle.ppd_sem.proofs.Zeros.{zeros_accessed}

-- the calls that began the frames
abbrev pub calls_of : List Frame → List (Option ℕ)
calls_of frames = map (λ f. f.call) frames

-- a statement of this kind begins or ends an activation
abbrev pub is_frame : Kind → Bool
is_frame (kind.Call f arguments into) = true
is_frame (kind.Return v) = true
is_frame k = false

-- ---- values

-- the value that is returned, if it is
abbrev pub HasValue : Option ℤ → Deed → Type 0
HasValue o (back v) = o ≡ v
HasValue o d = ⊤

-- no value is returned
abbrev pub IsNoReturn : Deed → Type 0
IsNoReturn (back v) = ⊥
IsNoReturn d = ⊤

pub no_return : (k : Kind) (d : Deed) → is_frame k ≡ false → IsDeedOf k d → IsNoReturn d
no_return k d f backs = absurd (true≢false f)
no_return k d f (backs_value v) = absurd (true≢false f)
no_return k d f is = tt

pub no_value : (o : Option ℤ) (d : Deed) → IsNoReturn d → HasValue o d
no_value o (back v) h = absurd h
no_value o d h = tt

called_no_value : (o : Option ℤ) (f : ℕ) (arguments : List ℕ) (into : Option ℕ) (d : Deed) → IsDeedOf (kind.Call f arguments into) d → HasValue o d
called_no_value o f arguments into d (invokes values n) = tt

module _ (es : List Expr) (cells answers : List ℤ) where
  abbrev Holds : (Deed → Type 0) → Kind → Type 0
  Holds D k = OfAsked D (ask_deed es k cells answers)

  returned_value : (r : Asked ℤ) → OfAsked (HasValue (value_if r)) (and_then r (λ v left. gives left (back (Some v))))
  returned_value (Ok q) = refl
  returned_value (Err x) = tt

  -- the event's value is that which is returned
  pub has_value : (k : Kind) → Holds (HasValue (value_at es cells answers (valued k))) k
  has_value (kind.Return None) = refl
  has_value (kind.Return (Some e)) = returned_value (ask (term es e) cells answers)
  has_value (kind.Call f arguments into) =
      asked_holds es cells answers (HasValue (value_at es cells answers (valued (kind.Call f arguments into)))) (kind.Call f arguments into) (λ d is. called_no_value _ f arguments into d is)
  has_value k = asked_holds es cells answers (HasValue (value_at es cells answers (valued k))) k (λ d is. no_value _ d (no_return k d refl is))

-- ---- tags

length_parameters : (frame c : ℕ) (vs : List ℤ) → length (local_accesses frame c vs) ≡ length vs
length_parameters frame c [] = refl
length_parameters frame c (v ∷ vs) = ap suc (length_parameters frame (c + 1) vs)

module _ (program : Program) (me : Tag) where
  abbrev tag_all : List Activation → List Access → List Activation
  tag_all xs ws = fold (tag_write me) xs ws

  cleared_tags : (frame base n : ℕ) (xs : List Activation) → all_tagged base n me xs ≡ tag_all xs (local_accesses frame base (replicate n (pos 0)))
  cleared_tags frame base zero xs = refl
  cleared_tags frame base (suc n) xs =
      ap (λ ys. tagged (base + n) me ys) (cleared_tags frame base n xs)
      ∙ sym (fold-append (tag_write me) xs (local_accesses frame base (replicate n (pos 0))) (local_accesses frame (base + n) (pos 0 ∷ [])))
      ∙ sym (ap (tag_all xs) (zeros_accessed frame base n))

  module _ (s : Proc) (frame : ℕ) (a : Answer) (left : List ℤ) (calls : List (Option ℕ)) (tops : top_of calls ≡ (top_frame s.frames).call) (e : Event) (xs : List Activation) where
    -- the deed's tags are those of the event's writes and value
    pub deed_tags : (k : Kind) (d : Deed) → IsDeedOf k d → e.writes ≡ writes_of_deed frame a d → HasValue e.value d → tagged_by program s me (Ok (d, left)) xs ≡ tagged_by_kind program calls me e k xs
    deed_tags k d (clears {base = base} {len = len}) w o = cleared_tags frame base len xs ∙ ap (tag_all xs) (sym w)
    deed_tags k d (invokes {f = f} values n) w o = ap (λ m. called program f m me ∷ xs) (sym (ap length w ∙ length_parameters (frame + 1) 0 values))
    deed_tags k d backs w o = ap₂ (λ c v. tagged_into (into_at program c) v me (drop 1 xs)) (sym tops) (sym o)
    deed_tags k d (backs_value v) w o = ap₂ (λ c v. tagged_into (into_at program c) v me (drop 1 xs)) (sym tops) (sym o)
    deed_tags k d is w o = ap (tag_all xs) (sym w)

  -- where no cell is written
  pub none_tagged : (calls : List (Option ℕ)) (e : Event) (xs : List Activation) (k : Kind) → is_frame k ≡ false → e.writes ≡ [] → tagged_by_kind program calls me e k xs ≡ xs
  none_tagged calls e xs (kind.Call f arguments into) f' w = absurd (true≢false f')
  none_tagged calls e xs (kind.Return v) f' w = absurd (true≢false f')
  none_tagged calls e xs k f' w = ap (tag_all xs) w

-- ---- calls

write_calls : (c : ℕ) (v : ℤ) (frames : List Frame) → calls_of (on_top (λ cells. slice_set cells c v) frames) ≡ calls_of frames
write_calls c v [] = refl
write_calls c v (f ∷ fs) = refl

clear_calls : (base n : ℕ) (frames : List Frame) → calls_of (on_top (with_values (range_with_len base n) (replicate n (pos 0))) frames) ≡ calls_of frames
clear_calls base n [] = refl
clear_calls base n (f ∷ fs) = refl

receive_calls : (into : Option ℕ) (v : Option ℤ) (frames : List Frame) → calls_of (receive_at into v frames) ≡ calls_of frames
receive_calls (Some c) (Some v) frames = write_calls c v frames
receive_calls None v frames = refl
receive_calls (Some c) None frames = refl

return_calls : (program : Program) (v : Option ℤ) (frames : List Frame) → calls_of (returned program v frames) ≡ drop 1 (calls_of frames)
return_calls program v [] = refl
return_calls program v (f ∷ fs) = by f.call
  where
    by : (o : Option ℕ) → calls_of (receive_at (into_at program o) v fs) ≡ calls_of fs
    by None = refl
    by (Some c) = receive_calls _ v fs

-- the deed's calls are those of the kind
pub deed_calls : (program : Program) (a : Answer) (t : Todo) (ts : List Todo) (s : Proc) (k : Kind) (d : Deed) → IsDeedOf k d
    → calls_of (act_by_deed program a t ts d s).frames ≡ calls_by_kind t.stmt k (calls_of s.frames)
deed_calls program a t ts s k d (sets {c = c} v) = write_calls c v s.frames
deed_calls program a t ts s k d (sets_element {c = c} v x y) = write_calls c v s.frames
deed_calls program a t ts s k d (clears {base = base} {len = len}) = clear_calls base len s.frames
deed_calls program a t ts s k d backs = return_calls program None s.frames
deed_calls program a t ts s k d (backs_value v) = return_calls program (Some v) s.frames
deed_calls program a t ts s k d (receives {into = into}) = write_calls into _ s.frames
deed_calls program a t ts s k d is = refl

pub none_called : (stmt : ℕ) (k : Kind) (calls : List (Option ℕ)) → is_frame k ≡ false → calls_by_kind stmt k calls ≡ calls
none_called stmt (kind.Call f arguments into) calls f' = absurd (true≢false f')
none_called stmt (kind.Return v) calls f' = absurd (true≢false f')
none_called stmt k calls f' = refl
