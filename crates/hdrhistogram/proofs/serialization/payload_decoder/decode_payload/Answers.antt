use Rattle.std.proofs.Common.{◌∙◌, Ok, ap, sym}
use Rattle.hdrhistogram.proofs.V2ReadRestated.{closed-counts, closed-contents, closed-fixed, closed-restated}
use Rattle.hdrhistogram.proofs.serialization.payload_decoder.decode_payload.Goals as goal

pub returns-clause-counts : goal.returns-clause-counts
returns-clause-counts g c =
    c.in_ok-decode_counts.ensures.counts ∙ ap Ok (sym (closed-counts c.into_histogram.result c.args.builder c.decode_counts.new.builder c.in_ok-decode_counts.ensures.rest c.into_histogram.ensures))

pub returns-clause-contents : goal.returns-clause-contents
returns-clause-contents g c = closed-contents c.into_histogram.result c.args.builder c.decode_counts.new.builder c.in_ok-decode_counts.ensures.rest c.into_histogram.ensures

pub returns-clause-fixed : goal.returns-clause-fixed
returns-clause-fixed g c = closed-fixed c.into_histogram.result c.args.builder c.decode_counts.new.builder c.in_ok-decode_counts.ensures.rest c.into_histogram.ensures c.requires.fixed

pub returns-clause-restated : goal.returns-clause-restated
returns-clause-restated g c = closed-restated c.into_histogram.result c.args.builder c.decode_counts.new.builder c.in_ok-decode_counts.ensures.rest c.into_histogram.ensures
