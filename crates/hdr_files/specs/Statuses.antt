-- Exit statuses of errors.
use Rattle.std.specs.Prelude.{ℕ}
use Rattle.hdr_files.specs.declared.errors.StatError.{StatError}
use Rattle.hdr_files.specs.declared.errors.StatError.TheVariants.{Usage}

-- the status of an error: 2 of the usage, 1 of the input or the output
abbrev pub status_of : StatError → ℕ
status_of (Usage text) = 2
status_of e = 1
