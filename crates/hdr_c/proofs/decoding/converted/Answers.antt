use Rattle.std.proofs.Common.{inl, refl, subst, sym}
use Rattle.hdr_convert.specs.Converted.{IsReadable}
use Rattle.hdr_convert.specs.declared.errors.ConvertError.TheVariants as converting
use Rattle.hdr_c.proofs.Forms.{in_form}
use Rattle.hdr_c.proofs.decoding.converted.Goals as goal

pub returns-in_default : goal.returns-in_default
returns-in_default c = inl (converting.OutOfMemory, refl, λ _. refl)

pub returns-in-Ok-v2_bytes : goal.returns-in-Ok-v2_bytes
returns-in-Ok-v2_bytes c = in_form c.args.bytes.now _ _ _ _ c.in-Ok.ensures.items c.in-Ok-v2_bytes.ensures.v2_of c.deref.ensures.value c.decoded_v2.ensures

pub returns-in-Err : goal.returns-in-Err
returns-in-Err c = inl (
  c.in-Err.error,
  c.of_convert_error.ensures,
  λ readable. c.in-Err.ensures.readable (subst IsReadable (sym c.in-Ok.ensures.items) readable),
)
