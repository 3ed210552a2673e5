-- Numbers in the bytes of a frame.
use Rattle.std.specs.Prelude.{ℕ, ◌+◌, ◌*◌, List, slice_index}

-- the number of the four bytes from a place on, the highest first
abbrev pub big_endian : List ℕ → ℕ → ℕ
big_endian bytes at = slice_index bytes at * 16777216 + slice_index bytes (at + 1) * 65536 + slice_index bytes (at + 2) * 256 + slice_index bytes (at + 3)
