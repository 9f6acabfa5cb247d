use Rattle.std.proofs.Common.{◌+◌, ◌-◌, ◌≤◌, length, take, drop, arith}
use Rattle.std.proofs.lemmas.List.{length-take}
use Rattle.hdr_input.proofs.Joined.{put_behind}
use Rattle.hdr_input.proofs.pieces.read_behind.Goals as goal

pub returns-in-Ok-clause-bytes : goal.returns-in-Ok-clause-bytes
returns-in-Ok-clause-bytes g c =
    let view = c.deref_mut.result.now in
    let held = c.args.held in
    let count = c.in-Ok.count in
    let read = c.read.new.buf in
    let bound = c.in-Ok.ensures.bound in
    let within : held + count ≤ c.args.buffer.now.len = omega (arith, bound, length-take (length view - held) (drop held view), c.deref_mut.ensures.len, c.requires) in
    let some : count ≤ length read = omega (arith, bound, c.read.auto.buf) in
    (take count read, c.in-Ok.ensures.bytes.0, put_behind c.args.buffer.now.items view read _ _ c.args.buffer.now.len held count c.deref_mut.ensures.value c.deref_mut.ensures.len within some)
