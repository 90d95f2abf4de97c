-- What the steady sink and the devices in memory are to a caller, and what their calls do.
use Rattle.std.specs.Prelude.{◌==◌, ◌&&◌, ◌||◌, ◌+◌, ◌-◌, ◌^◌, ℕ, Bool, false, true, not, is_none, nat_le, List, ◌++◌, length, take, min, Option, None, Some, if◌then◌else◌}
use Rattle.std.specs.List.{list_any}
use Rattle.ppd_io.specs.Feeds.{Feed, after_read, after_vain_read}
use Rattle.test_devices.specs.Entries.{find_entry, put_entry}

-- a count after one more, up to the end of its type
abbrev pub one_more : ℕ → ℕ
one_more n = min (n + 1) (2 ^ 64 - 1)

-- the numbers of the calls that fail, and the number of the next call
pub record Calls : Type 0 where
  pub fails : List ℕ
  pub next : ℕ

abbrev pub fails_next : Calls → Bool
fails_next c = list_any (λ n. n == c.next) c.fails

abbrev pub after_call : Calls → Calls
after_call c = record { fails = c.fails; next = one_more c.next }

-- a feed whose listed calls fail, with the count of failures
pub record FaultyFeed : Type 0 where
  pub feed : Feed
  pub calls : Calls
  pub faults : ℕ

abbrev pub after_faulty_read : FaultyFeed → ℕ → FaultyFeed
after_faulty_read s room =
    if fails_next s.calls
    then (record { feed = after_vain_read s.feed; calls = after_call s.calls; faults = one_more s.faults })
    else (record { feed = after_read s.feed room; calls = after_call s.calls; faults = s.faults })

-- the bytes that a steady sink keeps, how many it has room for, and whether all that was written is there
pub record Tank : Type 0 where
  pub kept : List ℕ
  pub room : ℕ
  pub told : Bool

abbrev pub told_bytes : Tank → Option (List ℕ)
told_bytes t = if t.told then Some t.kept else None

-- a piece that fits is kept; from the first that does not, none is
abbrev pub after_steady_write : Tank → List ℕ → Tank
after_steady_write t piece =
    if t.told && nat_le (length piece) (t.room - length t.kept)
    then (record { kept = t.kept ++ piece; room = t.room; told = true })
    else (record { kept = t.kept; room = t.room; told = false })

-- the bytes that a sink keeps, how many it has room for, its listed calls, and the count of failures
pub record FaultyTank : Type 0 where
  pub kept : List ℕ
  pub room : ℕ
  pub calls : Calls
  pub faults : ℕ

-- the call is listed, or there is no room for a piece that is not empty
abbrev pub fails_write : FaultyTank → List ℕ → Bool
fails_write t piece = fails_next t.calls || ((t.room - length t.kept == 0) && not (length piece == 0))

-- how many bytes of a piece a write takes
abbrev pub write_size : FaultyTank → List ℕ → ℕ
write_size t piece = min (length piece) (t.room - length t.kept)

abbrev pub after_faulty_write : FaultyTank → List ℕ → FaultyTank
after_faulty_write t piece =
    if fails_write t piece
    then (record { kept = t.kept; room = t.room; calls = after_call t.calls; faults = one_more t.faults })
    else (record {
      kept = t.kept ++ take (write_size t piece) piece;
      room = t.room;
      calls = after_call t.calls;
      faults = t.faults;
    })

-- the entries of a shelf, its listed calls, and the counts of failed loads and of failed stores
pub record FaultyShelf : Type 0 where
  pub entries : List (List ℕ × List ℕ)
  pub calls : Calls
  pub failed_loads : ℕ
  pub failed_stores : ℕ

-- the call is listed, or the name is missing
abbrev pub fails_load : FaultyShelf → List ℕ → Bool
fails_load s name = fails_next s.calls || is_none (find_entry s.entries name)

abbrev pub after_load : FaultyShelf → List ℕ → FaultyShelf
after_load s name =
    record {
      entries = s.entries;
      calls = after_call s.calls;
      failed_loads = if fails_load s name then one_more s.failed_loads else s.failed_loads;
      failed_stores = s.failed_stores;
    }

-- what a store leaves, where `kept` says whether the bytes were kept
abbrev pub after_store : FaultyShelf → Bool → List ℕ → List ℕ → FaultyShelf
after_store s kept name bytes =
    record {
      entries = if kept then put_entry s.entries name bytes else s.entries;
      calls = after_call s.calls;
      failed_loads = s.failed_loads;
      failed_stores = if fails_next s.calls then one_more s.failed_stores else s.failed_stores;
    }
