-- What the steady source is to a caller, and what its calls do.
use Rattle.std.specs.Prelude.{ℕ, List, length, drop, min}

-- the bytes that are left to read, those that were left when the last read began (all, before any), and how many a call
-- gives at most
pub record Feed : Type 0 where
  pub left : List ℕ
  pub before : List ℕ
  pub chunk : ℕ

-- none of whose bytes was read
abbrev pub new_feed : List ℕ → ℕ → Feed
new_feed bytes chunk = record { left = bytes; before = bytes; chunk = chunk }

-- how many bytes a read into this much room takes
abbrev pub read_size : Feed → ℕ → ℕ
read_size f room = min (min room f.chunk) (length f.left)

abbrev pub after_read : Feed → ℕ → Feed
after_read f room = record { left = drop (read_size f room) f.left; before = f.left; chunk = f.chunk }

-- a read began, and gave nothing
abbrev pub after_vain_read : Feed → Feed
after_vain_read f = record { left = f.left; before = f.left; chunk = f.chunk }
