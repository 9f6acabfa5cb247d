-- Which errors of a conversion are those of the calls that it makes.
use Rattle.hdr_zlib.specs.declared.errors.InflateError.{InflateError}
use Rattle.hdr_zlib.specs.declared.errors.InflateError.TheVariants as inflate
use Rattle.hdr_convert.specs.declared.errors.ConvertError.{ConvertError}
use Rattle.hdr_convert.specs.declared.errors.ConvertError.TheVariants.{Inflate, OutOfMemory}

-- The error of a stream that is not decompressed.
abbrev pub of_inflate : InflateError → ConvertError
of_inflate inflate.OutOfMemory = OutOfMemory
of_inflate error = Inflate error
