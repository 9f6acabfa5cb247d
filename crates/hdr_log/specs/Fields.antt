-- Why a field is not decoded.
use Rattle.std.specs.Prelude.{◌≡◌, ℕ, List, None}
use Rattle.hdr_log.specs.Texts.{base64_bytes}
use Rattle.hdr_log.specs.declared.field.FieldError.{FieldError}
use Rattle.hdr_log.specs.declared.field.FieldError.TheVariants.{NotBase64, OutOfMemory}

abbrev pub IsFieldError : List ℕ → FieldError → Type 0
IsFieldError field NotBase64 = base64_bytes field ≡ None
IsFieldError field OutOfMemory = Unit {0}
