-- Zig-zag (the Rust crate's `zig_zag_encode` and `zig_zag_decode`): signed integers as unsigned
-- ones, so that small ones on either side of 0 stay small.
use Rattle.std.specs.Prelude.{ℕ, ◌+◌, ◌*◌, ◌/◌, ◌%◌, ◌==◌, if◌then◌else◌, ℤ, pos, negsuc}

-- 2n for n of 0 or more, and -2n - 1 for a negative n; `negsuc n` is -n - 1
abbrev pub zig_zag : ℤ → ℕ
zig_zag (pos n) = 2 * n
zig_zag (negsuc n) = 2 * n + 1

-- its inverse: an even number comes from its half, an odd one from a negative number
abbrev pub from_zig_zag : ℕ → ℤ
from_zig_zag m = if m % 2 == 0 then pos (m / 2) else negsuc (m / 2)
