-- What `find` finds.
use Prim.Native.Nat.{ℕ, ◌+◌}
use mathlib.Core.List.{List}
use mathlib.Core.Path.{◌≡◌}
use lib.ListN.{length, drop}
use lib.Seq.{take-length}
use Rattle.byte_scan.specs.Bytes.{index_of, slice}

-- the line that `find` found
pub found : (bytes : List ℕ) (from end : ℕ) → end ≡ from + index_of 10 (slice from (length bytes) bytes) → end ≡ from + index_of 10 (drop from bytes)
unfolding slice
found bytes from end h = rw (take-length bytes) at h
