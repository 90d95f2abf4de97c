-- The calls that began the frames, after a step.
use Rattle.std.proofs.Common.{◌≡◌, ℕ, ℤ, List, [], ◌∷◌, true, Option, Some, None, refl}
use Rattle.std.specs.Prelude.{slice_set, replicate, pos}
use Rattle.std.specs.List.{range_with_len}
use Rattle.ppd_ast.specs.declared.program.Program.{Program}
use Rattle.ppd_ast.specs.Lookups.{kind_of}
use Rattle.ppd_sem.specs.declared.proc.Frame.{Frame}
use Rattle.ppd_sem.specs.Process.{into_of, receive_at, returned, on_top, top_frame, into_at, with_values}
use Rattle.law_steps.specs.Course.{calls_left, calls_of, top_call_of}

pub top_call_is : (frames : List Frame) → top_call_of (calls_of frames) ≡ (top_frame frames).call
top_call_is [] = refl
top_call_is (f ∷ fs) = refl

pub calls_write : (c : ℕ) (x : ℤ) (frames : List Frame) → calls_of (on_top (λ cells. slice_set cells c x) frames) ≡ calls_of frames
calls_write c x [] = refl
calls_write c x (f ∷ fs) = refl

pub calls_clear : (base len : ℕ) (frames : List Frame) → calls_of (on_top (with_values (range_with_len base len) (replicate len (pos 0))) frames) ≡ calls_of frames
calls_clear base len [] = refl
calls_clear base len (f ∷ fs) = refl

calls_receive : (into : Option ℕ) (value : Option ℤ) (frames : List Frame) → calls_of (receive_at into value frames) ≡ calls_of frames
calls_receive (Some c) (Some x) frames = calls_write c x frames
calls_receive (Some c) None frames = refl
calls_receive None value frames = refl

calls_returned_from : (p : Program) (call : Option ℕ) (value : Option ℤ) (frames : List Frame) → calls_of (receive_at (into_at p call) value frames) ≡ calls_of frames
calls_returned_from p None value frames = refl
calls_returned_from p (Some c) value frames = calls_receive (into_of (kind_of p c)) value frames

pub calls_returned : (p : Program) (value : Option ℤ) (frames : List Frame) → calls_of (returned p value frames) ≡ calls_left true (calls_of frames)
calls_returned p value [] = refl
calls_returned p value (f ∷ fs) = calls_returned_from p f.call value fs
