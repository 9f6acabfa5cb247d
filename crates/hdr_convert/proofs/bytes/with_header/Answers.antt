use Rattle.std.proofs.Common.{rules, arith, ◌≡◌, length, [], ◌++◌}
use Rattle.byteorder.specs.Endian.{big_bytes}
use Rattle.hdr_convert.proofs.Streams.{stream_after_header}
use Rattle.hdr_convert.proofs.bytes.with_header.Goals as goal

pub returns-clause-holds : goal.returns-clause-holds
returns-clause-holds c = λ v2 inflates.
    let len = c.in_ok-len.len in
    let stream = c.args.stream.now in
    let packed = c.extend_from_slice-3.new.self.items in
    let made : packed ≡ (([] ++ big_bytes 4 0x1c849314) ++ big_bytes 4 len) ++ stream = search rules in
    let same : len ≡ length stream = search rules in
    (search rules, stream_after_header stream packed v2 0x1c849314 len made same (omega arith) inflates)
