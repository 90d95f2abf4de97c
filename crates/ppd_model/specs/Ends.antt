-- How each process of a story ended.
use Rattle.ppd_model.specs.Setting.{Setting}
use Rattle.std.specs.Prelude.{◌≡◌, ℕ, ◌+◌, List, [], ◌∷◌, slice_get}
use Rattle.ppd_ast.specs.declared.program.Program.{Program}
use Rattle.ppd_sem.specs.declared.proc.Proc.{Proc}
use Rattle.ppd_model.specs.declared.closed.ProcEnd.{ProcEnd}
use Rattle.ppd_model.specs.Story.{Story, story}
use Rattle.ppd_model.specs.States.{states}
use Rattle.ppd_model.specs.Logs.{close, end_of}

-- how these processes ended; the first one's body has number b
abbrev pub ends_by : Program → ℕ → List Proc → List ProcEnd
ends_by program b [] = []
ends_by program b (s ∷ ss) = end_of (slice_get program.bodies b) s ∷ ends_by program (b + 1) ss

-- how the processes of a story ended
abbrev pub ends_of : Setting → Story → List ProcEnd
ends_of setting s = ends_by setting.program setting.program.functions (states setting s)

-- a closed run has the ends of its story
abbrev pub StoriesTellEnds : Type 0
StoriesTellEnds =
    (setting : Setting) (h : List ℕ)
    → (close setting h).ends ≡ ends_of setting (story setting h)
