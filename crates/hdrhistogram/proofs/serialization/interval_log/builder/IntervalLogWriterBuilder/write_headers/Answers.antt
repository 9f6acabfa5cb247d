use Rattle.std.proofs.Common.{◌≡◌, map, string_bytes, refl, ap}
use Rattle.std.specs.Option.{option_map}
use Rattle.std.specs.Duration.{as_nanos}
use Rattle.hdrhistogram.specs.LogStarts.{LogStart, IsStartText}
use Rattle.hdrhistogram.proofs.LogStartsTexts.{writes_as, start_written, plain_written}
use Rattle.hdrhistogram.proofs.serialization.interval_log.builder.IntervalLogWriterBuilder.write_headers.Goals as goal

pub returns-in-Ok-clause-leaves : goal.returns-in-Ok-clause-leaves
returns-in-Ok-clause-leaves g c =
    let v : LogStart = record { comments = map string_bytes c.self.inside.comments.items; start_time = option_map as_nanos c.self.inside.start_time; base_time = option_map as_nanos c.self.inside.base_time; divisor = c.self.inside.max_value_divisor } in
    writes_as (λ t. t ≡ c.deref-in-Ok.result.now) (IsStartText c.args.self.now) (λ _. ⊥) (g.W.Write.contents c.args.writer.now) (g.W.Write.contents c.write_text.new.writer) c.write_text.result
    (start_written v c.args.self.now (map string_bytes c.deref.result.now) c.in-Some.start_time c.in-Some-header_time.base_time c.self.inside.max_value_divisor
    c.new-text.result.items c.push_start.new.text.items c.deref-in-Ok.result.now c.self.view_is (ap (map string_bytes) c.deref.ensures.value)
    c.in-Some.ensures.value.0 c.in-Some-header_time.ensures.value.0 refl c.in-Some.ensures.value.1 c.in-Some-header_time.ensures.value.1 c.self.invariant.1
    c.new-text.ensures.items c.in-Ok.ensures.pushed c.deref-in-Ok.ensures.value)
    c.write_text.ensures.leaves

pub returns-in-Ok-clause-plain : goal.returns-in-Ok-clause-plain
returns-in-Ok-clause-plain g c e = plain_written c.args.self.now (g.W.Write.contents c.args.writer.now) (g.W.Write.contents c.write_text.new.writer) c.write_text.result (returns-in-Ok-clause-leaves g c) c.write_text.ensures.failed e
