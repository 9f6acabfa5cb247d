use Rattle.std.proofs.Common.{refl, ◌≡◌, ◌∙◌, sym, subst, List, ℕ, ap, take}
use Rattle.std.proofs.lemmas.Result.{err_from_is_err_and}
use Rattle.hdr_zlib.specs.Stream.{Inflates}
use Rattle.hdr_zlib.specs.declared.errors.InflateError.TheVariants.{OutOfMemory}
use Rattle.hdr_convert.proofs.bytes.decompressed.Goals as goal

pub returns-in_err-inflate-clause-complete : goal.returns-in_err-inflate-clause-complete
returns-in_err-inflate-clause-complete c = λ inside short (long, is).
    let same = ap (λ n. take n c.split_at.result.1.now) c.stream_len-len.ensures ∙ ap (take _) c.split_at.ensures.back in
    let h : c.in_err-inflate.field-0.0 ≡ OutOfMemory = c.in_err-inflate.ensures.complete inside short (subst (λ (s : List ℕ). Inflates s inside) (sym same) is) in
    let p = err_from_is_err_and c.from_residual.result c.from_residual.ensures.1 in
    rw (p.1, p.2, h) refl
