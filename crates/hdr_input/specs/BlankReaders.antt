-- Readers of tables whose columns have runs of blanks between them.
use Rattle.std.specs.Prelude.{ℕ, List, Option}
use Rattle.std.specs.Option.{option_map}
use Rattle.hdr_input.specs.Blanks.{passed_on}
use Rattle.hdr_input.specs.declared.blanks.BlankReader.{BlankReader}

-- what is still to be passed on, if the bytes that the reader has left are known
abbrev pub squeezed_bytes : {R : Type 0} → (R → Option (List ℕ)) → BlankReader R → Option (List ℕ)
squeezed_bytes remaining r = option_map (passed_on r.buffer) (remaining r.reader)
