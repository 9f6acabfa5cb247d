use Rattle.std.proofs.Common.{◌+◌, drop, set, ap, refl, length-drop, arith}
use Rattle.std.proofs.lemmas.List.{length-set, get_or-drop}
use Rattle.hdr_model.specs.Unfinished.{Unfinished}
use Rattle.hdrhistogram.proofs.PayloadReadFilling.{two-put}
use Rattle.hdrhistogram.proofs.serialization.payload_decoder.put_pair.Goals as goal

pub returns-clause-put : goal.returns-clause-put
returns-clause-put g c = λ is.
    let t = c.args.bytes.now in
    let place = c.args.place in
    let old = c.args.builder.now.counts in
    let n = g.T.Counter.number c.in-Some.first in
    let m = g.T.Counter.number c.in-Some-two_byte_count.second in
    let set_is = c.set_pair.ensures.set is in
    let two = ap (λ (o : Unfinished). o.counts) set_is.1 in
    let size = length-set old place n in
    let third = get_or-drop 2 t 0 0 in
    let fourth = get_or-drop 2 t 1 0 in
    record {
      between = set old place n;
      first = two-put g.T.Counter.greatest place t old _ n (omega arith) c.in-Some.ensures.bytes.0 (omega (arith, c.type_inv.bytes 0)) c.in-Some.ensures.bytes.1 c.in-Some.ensures.bytes.2
          c.in-Some.ensures.count.2 c.in-Some.ensures.count.0 c.in-Some.ensures.count.1 (omega (arith, set_is.0)) c.set_pair.ensures.at_most refl;
      second = two-put g.T.Counter.greatest (place + 1) (drop 2 t) (set old place n) _ m (omega (arith, length-drop 2 t)) (omega (arith, third, c.in-Some-two_byte_count.ensures.bytes.0)) (omega (arith, third, c.type_inv.bytes 2))
          (omega (arith, fourth, c.in-Some-two_byte_count.ensures.bytes.1)) (omega (arith, third, c.in-Some-two_byte_count.ensures.bytes.2))
          (omega (arith, third, fourth, c.in-Some-two_byte_count.ensures.count.2)) c.in-Some-two_byte_count.ensures.count.0 c.in-Some-two_byte_count.ensures.count.1
          (omega (arith, size, set_is.0)) (omega (arith, size, c.set_pair.ensures.at_most)) two;
    }
