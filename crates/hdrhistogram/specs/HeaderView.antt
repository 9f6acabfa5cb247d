-- A header of the code as its numbers alone.
use Rattle.hdrhistogram.specs.V2Read.{Header}
use Rattle.hdrhistogram.specs.declared.serialization.fields.Header as fields

abbrev pub header_of : fields.Header → Header
header_of h = record { payload_len = h.payload_len; sigfig = h.sigfig; low = h.low; high = h.high }
