use Rattle.std.proofs.Common.{◌≡◌, List, length, map, take}
use Rattle.hdr_base.specs.Classes.{HasScale}
use Rattle.hdr_verdict.specs.Samples.{Held, AreHeld, width_of}
use Rattle.hdr_verdict.specs.Decoders.{intervals_of}
use Rattle.hdr_verdict.proofs.decoder.Decoder.count.Given as goal

abbrev pub invariant-loop-index : goal.invariant-loop-index
invariant-loop-index l = record {
  intervals : intervals_of l.self ≡ intervals_of l.initial.self;
  many : length l.samples.items ≡ l.index;
  scale : HasScale l.width.low l.width.sigfig;
  counts : (all : List Held) → AreHeld (intervals_of l.initial.self) all
      → (l.samples.items ≡ map (λ (held : Held). length held.samples) (take l.index all)) × (l.width ≡ width_of (take l.index all));
}
