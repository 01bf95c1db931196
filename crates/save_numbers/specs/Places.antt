-- The line that starts at a place of a text: where it ends, and where the next one starts.
use Rattle.std.specs.Prelude.{ℕ, suc, ◌+◌, cond, List, ltb, drop}
use Rattle.byte_scan.specs.Bytes.{index_of}

-- the place of the first byte 10 from place `at` on; the end of the text where there is none
unfoldable pub line_end : List ℕ → ℕ → ℕ
line_end text at = at + index_of 10 (drop at text)

-- the place behind a line that ends at `end`, in a text of `len` bytes: behind its byte 10, where it has one
unfoldable pub next_line : ℕ → ℕ → ℕ
next_line end len = cond (ltb end len) (suc end) len
