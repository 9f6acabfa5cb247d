use Rattle.hdrhistogram.proofs.serialization.deserializer.Deserializer.decode_field_into.Goals as goal

pub returns-clause-read : goal.returns-clause-read
returns-clause-read g c = c.read_field-read.ensures
