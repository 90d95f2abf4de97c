-- What a text that is written leaves, and with which status that ends.
use Rattle.std.specs.Prelude.{◌≡◌, ◌⊎◌, ℕ, Bool, true, false, List, Option, Some, None}
use Rattle.ppd_io.specs.Causes.{Rose}
use Rattle.ppd_io.specs.Content.{Appends, AppendsPart}

-- what a text leaves: all of it with its status, or a proper prefix with status 4 and a rise of the count
abbrev pub Finished : Option (List ℕ) → Option (List ℕ) → ℕ → ℕ → ℕ → ℕ → List ℕ → Type 0
Finished old new before now result status text = ((result ≡ status) × Appends old new text)
    ⊎ ((result ≡ 4) × Rose before now × AppendsPart old new text)

-- what a reply leaves, which is the last or not: all of it, and then it ends with status 0 or goes on; or a proper
-- prefix with status 4 and a rise of the count
abbrev pub IsReplied : Option (List ℕ) → Option (List ℕ) → ℕ → ℕ → List ℕ → Bool → Option ℕ → Type 0
IsReplied old new before now text last None = (last ≡ false) × Appends old new text
IsReplied old new before now text last (Some status) = ((status ≡ 0) × (last ≡ true) × Appends old new text)
    ⊎ ((status ≡ 4) × Rose before now × AppendsPart old new text)
