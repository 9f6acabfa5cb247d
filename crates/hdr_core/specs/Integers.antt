-- Integers of 256 bits. (Our own: the Rust crate has floats.)
use Rattle.std.specs.Prelude.{ℕ, ◌+◌, ◌*◌, ◌^◌}
use Rattle.hdr_core.specs.declared.histogram.statistics.u256.U256.{U256}

abbrev pub number_of : U256 → ℕ
number_of n = n.high * 2 ^ 128 + n.low
