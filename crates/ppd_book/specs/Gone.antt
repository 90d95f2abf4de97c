-- A view or a turn, whichever comes.
use Rattle.std.specs.Prelude.{◌≡◌, ◌≢◌, ◌⊎◌, ℕ, Some, None}
use Rattle.ppd_ast.specs.declared.program.Program.{Program}
use Rattle.ppd_sem.specs.declared.proc.Need.TheVariants.{Plain}
use Rattle.ppd_book.specs.declared.going.Going.{Going}
use Rattle.ppd_book.specs.declared.going.Going.TheVariants.{Viewed, Turned}
use Rattle.ppd_book.specs.Held.{Held}
use Rattle.ppd_book.specs.Turns.{CanGoOn, IsOfProcess, IsTurn}
use Rattle.ppd_book.specs.Views.{IsFresh, IsViewed, need_in}

-- a view of the worker's process, and nothing changed; or, exactly where there is none, a turn of the worker
abbrev pub HasGone : {J : Type 0} → Held → Held → ℕ → Going J → Type 0
HasGone old new worker (Viewed v) = IsViewed old worker (Some v) × (new ≡ old)
HasGone old new worker (Turned t) = IsViewed old worker None × IsTurn old new worker t

-- the worker's process needs nothing but itself; or it needs more, and some process can take a step
abbrev pub WantsToGo : Held → ℕ → Type 0
WantsToGo held worker =
    (need_in held worker ≡ Plain) ⊎ ((need_in held worker ≢ Plain) × CanGoOn held.world)

-- a fresh view of this worker, or a turn in which a process of the program was stepped
abbrev pub IsOfWorker : {J : Type 0} → Program → ℕ → Going J → Type 0
IsOfWorker program worker (Viewed v) = IsFresh worker v
IsOfWorker program worker (Turned t) = IsOfProcess program t
